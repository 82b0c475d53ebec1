-- Batches for whoever tries an inbox.
use Rattle.std.specs.Prelude.{◌≡◌, ℕ}
use Rattle.digit_route.specs.Digits.{Scheme}
use Rattle.digit_route.specs.States.{BatchState}
use Rattle.batch_inbox.specs.Views.{place_of}
use Rattle.batch_inbox.specs.declared.place.Place.{Place}

-- digits of 2 bits for numbers of 6
abbrev pub supplied_digits : Scheme
supplied_digits = record { width = 2; bits = 6 }

-- where a supply's batches go: to the desk 9
abbrev pub supplied_place : Place
supplied_place = record { address = 9; digits = supplied_digits }

-- this desk sends the batch there
abbrev pub IsSupplied : ℕ → BatchState → Type 0
IsSupplied sender b = (b.sender ≡ sender) × (place_of b ≡ supplied_place)
