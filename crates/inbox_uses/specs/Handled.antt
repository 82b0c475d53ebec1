-- What a desk does with its inbox.
use Rattle.std.specs.Prelude.{◌≡◌, ◌++◌, List, [], ◌∷◌}
use Rattle.digit_route.specs.States.{BatchState}
use Rattle.pool_desk.specs.Desks.{DeskState}
use Rattle.pool_desk.specs.Steps.{Handles}
use Rattle.batch_inbox.specs.declared.place.Place.{Place}

-- the place is the desk's
abbrev pub IsPlaceOf : DeskState → Place → Type 0
IsPlaceOf d place = place ≡ record { address = d.number; digits = d.digits }

-- one batch more was taken, and the desk handled its buffers
pub record TakesAndHandles (old : DeskState) (taken taken_now : List BatchState) (new : DeskState) : Type 0 where
  pub batch : BatchState
  pub took : taken_now ≡ taken ++ batch ∷ []
  pub handled : Handles old batch.items new
