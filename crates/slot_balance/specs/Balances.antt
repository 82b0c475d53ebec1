-- Nothing is lost at a desk, and nothing is there twice.
use Rattle.std.specs.Prelude.{◌≡◌, ℕ, ◌+◌, List}
use Rattle.region_cut.specs.declared.slot.Slot.{Slot}
use Rattle.slot_chain.specs.Buffer.{Buffer}
use Rattle.digit_route.specs.States.{BatchState}
use Rattle.pool_desk.specs.Desks.{DeskState}
use Rattle.slot_balance.specs.Weights.{weigh}
use Rattle.slot_balance.specs.Seats.{SeatState}
use Rattle.slot_balance.specs.Accounts.{of_buffer, of_batch, of_seats, held, owed}

-- However slots are weighed: what a desk has, what was sent from its seats and what it lent is all slots of the chunks
-- that it drew, what it took and what was freed to it.
abbrev pub Balances : DeskState → List SeatState → (taken : List BatchState) → (lent freed : List Buffer) → Type 0
Balances d seats taken lent freed = (h : Slot → ℕ)
    → held h d + of_seats h seats + weigh (of_buffer h) lent
    ≡ owed h d + weigh (of_batch h) taken + weigh (of_buffer h) freed
