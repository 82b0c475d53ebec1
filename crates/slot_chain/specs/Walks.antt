-- What a walk over a chain shows.
use Rattle.std.specs.Prelude.{◌≡◌, List, [], ◌∷◌, ◌++◌, Option, MatchOption}
use Rattle.slot_chain.specs.Buffer.{Buffer}
use Rattle.slot_chain.specs.declared.walk.Tag.{Tag}

-- with bs to be shown, a walk shows p, and bs' are left: the last of bs, or none where nothing is left
abbrev pub ShowsNext : List Buffer → Option Tag → List Buffer → Type 0
ShowsNext bs p bs' = MatchOption p ((bs ≡ []) × (bs' ≡ []))
    (λ tag. (b : Buffer) × (bs ≡ bs' ++ b ∷ []) × (b.slot ≡ tag.slot) × (b.class ≡ tag.class) × (b.owner ≡ tag.owner))
