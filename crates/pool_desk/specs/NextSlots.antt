-- What a cursor gives of its chunk.
use Rattle.std.specs.Prelude.{◌≡◌, ℕ, List, ◌∷◌, Result, MatchResult}
use Rattle.region_cut.specs.declared.part.Bump.{Bump}
use Rattle.region_cut.specs.Carved.{Carved, carved_of}
use Rattle.slot_chain.specs.Buffer.{Buffer}
use Rattle.pool_desk.specs.declared.error.DeskError.{DeskError}
use Rattle.pool_desk.specs.Homes.{GivesOne, IsRefused, unused_of}

-- b is the next slot of the cursor, whatever other chunks were drawn
abbrev pub GivesNext : (owner class : ℕ) → Bump → Buffer → Bump → Type 0
GivesNext owner class old b new = (drawn : List Carved)
    → GivesOne owner class (unused_of old) b (unused_of new) (carved_of old ∷ drawn) (carved_of new ∷ drawn)

-- the next slot of the cursor was given out; or none was, and the cursor is as before
abbrev pub GivesNextSlot : (owner class : ℕ) → Bump → Result Buffer DeskError → Bump → Type 0
GivesNextSlot owner class old r new = MatchResult r
    (λ b. GivesNext owner class old b new)
    (λ e. IsRefused class (unused_of old) e × (new ≡ old))
