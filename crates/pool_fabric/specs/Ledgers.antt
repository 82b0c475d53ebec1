-- The rule of a ledger: what was given is what was got, however it is weighed.
use Rattle.std.specs.Prelude.{◌≡◌, ℕ, ◌≤◌, List, []}
use mathlib.Core.Option.{some}
use lib.ListN.{get_elem?}
use Rattle.pool_fabric.specs.declared.ledger.Hand.{Hand}
use Rattle.pool_fabric.specs.declared.ledger.DrawnChunk.{DrawnChunk}
use Rattle.slot_balance.specs.Weights.{weigh}

abbrev pub hand : ℕ → List DrawnChunk → List DrawnChunk → Hand
hand parts gave got = record { parts = parts; gave = gave; got = got }

-- all parts of the right to know the whole
abbrev pub whole : ℕ
whole = 65536

abbrev pub parts_of : Hand → ℕ
parts_of v = v.parts

-- what a pass gave, and what it got, weighed
abbrev pub gave_of : (DrawnChunk → ℕ) → Hand → ℕ
gave_of g v = weigh g v.gave

abbrev pub got_of : (DrawnChunk → ℕ) → Hand → ℕ
got_of g v = weigh g v.got

-- a pass with no part has given and got nothing
abbrev pub IdleIsEmpty : List Hand → Type 0
IdleIsEmpty views = (page : ℕ) (v : Hand) → get_elem? views page ≡ some v → v.parts ≡ 0 → (v.gave ≡ []) × (v.got ≡ [])

-- what all passes gave is what all passes got; the queue that carries them stays empty
abbrev pub IsBalanced : List ℕ → List Hand → Type 0
IsBalanced items views =
    (weigh parts_of views ≡ whole)
    × ((g : DrawnChunk → ℕ) → weigh (gave_of g) views ≡ weigh (got_of g) views)
    × IdleIsEmpty views

-- what the pass with every part learns
abbrev pub IsTotal : Hand → List ℕ → Type 0
IsTotal v items = (g : DrawnChunk → ℕ) → weigh g v.gave ≡ weigh g v.got

-- what any pass learns: it has no more than every part
abbrev pub IsWithin : Hand → List ℕ → Type 0
IsWithin v items = v.parts ≤ whole
