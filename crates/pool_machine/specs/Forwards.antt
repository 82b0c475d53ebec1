-- How often a slot was passed on.
use Rattle.std.specs.Prelude.{ℕ, suc, ◌&&◌, not, ◌==◌, List, ◌∷◌, Ok, Err, if◌then◌else◌}
use Rattle.region_cut.specs.declared.slot.Slot.{Slot}
use Rattle.pool_machine.specs.declared.request.Request.{Request}
use Rattle.pool_machine.specs.declared.request.Request.TheVariants.{Free, Take}
use Rattle.region_cut.specs.Slots.{same_slot}
use Rattle.pool_machine.specs.State.{State, InBatch, is_at, owner_of}
use Rattle.pool_machine.specs.Refusals.{slot_named}
use Rattle.pool_machine.specs.Steps.{Answer, front_of, after}

-- how often a slot was passed on, once one more request was answered: a free of the slot begins anew, and a take counts
-- that moves it from the batch into the taker's cache
abbrev pub counted : State → Request → Answer → Slot → ℕ → ℕ
counted st q (Err r) s c = c
counted st (Free a pair) (Ok r) s c = if same_slot (slot_named pair) s then 0 else c
counted st (Take b) (Ok r) s c = if is_at st (InBatch (front_of st b)) s && not (owner_of st s == b) then suc c else c
counted st q (Ok r) s c = c

-- how often a slot was passed on since it was last freed, read off requests and answers; `start` is the count from
-- before
abbrev pub forwards : State → List Request → List Answer → Slot → ℕ → ℕ
forwards st (q ∷ qs) (y ∷ ys) s start = forwards (after st q y) qs ys s (counted st q y s start)
forwards st _ _ s start = start
