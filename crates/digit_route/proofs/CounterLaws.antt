-- The count of bytes beside a row.
use Rattle.std.proofs.Common.{◌≡◌, ℕ, ◌+◌, List, [], ◌∷◌, ◌++◌, IsPermutation, sym, ap, ◌∙◌, arith}
use Rattle.std.specs.Prelude.{Option, Some, None, MatchOption}
use Rattle.std.proofs.lemmas.List.Sums.{sum_by-append}
use Rattle.std.proofs.lemmas.List.Sorted.{sum_by-IsPermutation}
use Rattle.slot_chain.specs.Buffer.{Buffer}
use Rattle.slot_chain.specs.Counts.{capped, buffer_size, sizes}
use Rattle.digit_route.specs.Digits.{Scheme}
use Rattle.digit_route.specs.States.{BatchState}
use Rattle.digit_route.specs.Route.{GivesBucket}

-- buffers were added
pub counted_more : (old more new : List Buffer) (before size after : ℕ) → before ≡ capped (sizes old) → size ≡ capped (sizes more)
    → IsPermutation (old ++ more) new → after ≡ capped (before + size) → after ≡ capped (sizes new)
counted_more old more new before size after b s p a =
    let sum = sum_by-IsPermutation buffer_size (old ++ more) new p in
    let parts = sum_by-append buffer_size old more in
    omega arith

-- one buffer was added
pub counted_one : (old new : List Buffer) (b : Buffer) (before size after : ℕ) → before ≡ capped (sizes old) → size ≡ buffer_size b
    → IsPermutation (old ++ b ∷ []) new → after ≡ capped (before + size) → after ≡ capped (sizes new)
counted_one old new b before size after h s p a =
    let sum = sum_by-IsPermutation buffer_size (old ++ b ∷ []) new p in
    let parts = sum_by-append buffer_size old (b ∷ []) in
    omega arith

-- buffers were taken out: both parts together are counted
pub counted_parts : (old taken new : List Buffer) (before : ℕ) → before ≡ capped (sizes old) → IsPermutation old (taken ++ new)
    → before ≡ capped (sizes taken + sizes new)
counted_parts old taken new before h p =
    let sum = sum_by-IsPermutation buffer_size old (taken ++ new) p in
    let parts = sum_by-append buffer_size taken new in
    omega arith

-- buffers were taken out, and counted
pub counted_left : (old taken new : List Buffer) (before size : ℕ) → before ≡ capped (sizes old) → size ≡ capped (sizes taken)
    → IsPermutation old (taken ++ new) → (gone : ℕ) × (size ≡ capped gone) × (before ≡ capped (gone + sizes new))
counted_left old taken new before size h s p = (sizes taken, s, counted_parts old taken new before h p)

-- a batch was taken out, or there was none
pub counted_batch : (s : Scheme) (a : ℕ) (old new : List Buffer) (r : Option BatchState) (before size : ℕ) → before ≡ capped (sizes old)
    → MatchOption r (size ≡ 0) (λ b. size ≡ capped (sizes b.items)) → MatchOption r ((old ≡ []) × (new ≡ [])) (λ b. GivesBucket s a old b new)
    → (gone : ℕ) × (size ≡ capped gone) × (before ≡ capped (gone + sizes new))
counted_batch s a old new None before size h z none =
    let same : sizes old ≡ sizes new = ap sizes (none.0 ∙ sym none.1) in
    (0, omega arith, omega arith)
counted_batch s a old new (Some b) before size h z gives = counted_left old b.items new before size h z gives.taken.together
