-- What the holder of a token did, and the rule that all tokens of a ledger keep.
use Rattle.std.specs.Prelude.{◌≡◌, ℕ, ◌+◌, ◌≤◌, List, []}
use mathlib.Core.Option.{some}
use lib.ListN.{get_elem?}
use base.Stored.{Coded, coded×, coded_ℕ, coded_list, coded_via}
use Rattle.region_cut.specs.declared.slot.Slot.{Slot}
use Rattle.loan_ledger.specs.Weights.{weigh}

-- parts of the right to know the whole, the slots that were lent, those that were taken back, and those that the token
-- stands for: they were lent, and are out
pub record Account : Type 0 where
  pub parts : ℕ
  pub lent : List Slot
  pub freed : List Slot
  pub out : List Slot

abbrev pub account : ℕ → List Slot → List Slot → List Slot → Account
account parts lent freed out = record { parts = parts; lent = lent; freed = freed; out = out }

-- nothing was lent or taken back, and nothing is out
abbrev pub nothing : Account
nothing = account 0 [] [] []

-- all parts
abbrev pub whole : ℕ
whole = 65536

-- how an account is stored
abbrev pub slot_coded : Coded Slot
slot_coded = coded_via (coded× coded_ℕ coded_ℕ) (λ (s : Slot). (s.chunk, s.index)) (λ x y e i. record { chunk = (e i).0; index = (e i).1 })

abbrev pub account_coded : Coded Account
account_coded =
    coded_via (coded× coded_ℕ (coded× (coded_list slot_coded) (coded× (coded_list slot_coded) (coded_list slot_coded))))
    (λ (a : Account). (a.parts, (a.lent, (a.freed, a.out))))
    (λ x y e i. record { parts = (e i).0; lent = (e i).1.0; freed = (e i).1.1.0; out = (e i).1.1.1 })

abbrev pub parts_of : Account → ℕ
parts_of v = v.parts

abbrev pub lent_of : (Slot → ℕ) → Account → ℕ
lent_of h v = weigh h v.lent

-- what was taken back, and what is out
abbrev pub back_of : (Slot → ℕ) → Account → ℕ
back_of h v = weigh h v.freed + weigh h v.out

-- without a part nothing was lent or taken back
abbrev pub IsBacked : Account → Type 0
IsBacked v = v.parts ≡ 0 → (v.lent ≡ []) × (v.freed ≡ [])

-- However slots are weighed: what all tokens lent is what all took back, and what is out.
abbrev pub IsKept : List Account → Type 0
IsKept views =
    (weigh parts_of views ≡ whole)
    × ((h : Slot → ℕ) → weigh (lent_of h) views ≡ weigh (back_of h) views)
    × ((token : ℕ) (v : Account) → get_elem? views token ≡ some v → IsBacked v)

-- two tokens may go from v and w to v' and w'
pub record Trades (v w v' w' : Account) : Type 0 where
  pub parts : v'.parts + w'.parts ≡ v.parts + w.parts
  pub slots : (h : Slot → ℕ) → (lent_of h v' + lent_of h w') + (back_of h v + back_of h w)
      ≡ (lent_of h v + lent_of h w) + (back_of h v' + back_of h w')
  pub mine : IsBacked v'
  pub theirs : IsBacked w'

-- with every part: however slots are weighed, what was taken back weighs at most what was lent
abbrev pub Learns : Account → Type 0
Learns v = v.parts ≡ whole → (h : Slot → ℕ) → weigh h v.freed ≤ weigh h v.lent
