-- Whether a desk is held, as each request for it asks first.
use Rattle.std.specs.Prelude.{ℕ, ◌≡◌, ◌<◌, ◌≤◌, ◌⊎◌, List, length, slice_index_or}
use Rattle.pool_desk.specs.Desks.{IdleState, DeskState}
use Rattle.pool_machine.specs.declared.refusal.Refusal.{Refusal}
use Rattle.pool_machine.specs.declared.refusal.Refusal.TheVariants.{NoDesk, Idle}
use Rattle.event_floor.specs.Desks.{AnyDeskState}
use Rattle.event_floor.specs.Desks.AnyDeskState.{Idle as IdleDesk, Held}
use Rattle.event_floor.specs.Floors.{no_desk}

-- the desk a is there, and a worker holds it
abbrev pub HoldsDesk : List AnyDeskState → ℕ → Type 0
HoldsDesk desks a = (a < length desks) × (d : DeskState) × (slice_index_or desks a no_desk ≡ Held d)

-- no desk has the number a, or the one that has it is idle; so a request for it is refused
abbrev pub LacksHeld : List AnyDeskState → ℕ → Refusal → Type 0
LacksHeld desks a refusal = ((length desks ≤ a) × (refusal ≡ NoDesk))
    ⊎ ((d : IdleState) × (a < length desks) × (slice_index_or desks a no_desk ≡ IdleDesk d) × (refusal ≡ Idle))
