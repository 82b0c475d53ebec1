-- What one worker more counted is added.
use Rattle.std.proofs.Common.{◌≡◌, ℕ, ◌+◌, List, [], ◌∷◌, ◌++◌, ap, ◌∙◌, arith}
use Rattle.std.specs.Prelude.{Option, sum_by}
use Rattle.std.proofs.lemmas.List.Sums.{sum_by_push}
use Rattle.slot_chain.specs.Counts.{capped}
use Rattle.pool_jobs.specs.declared.tally.WorkerCounts.{WorkerCounts}
use Rattle.pool_jobs.specs.declared.counting_heap.WorkerResult.{WorkerResult}
use Rattle.pool_jobs.specs.Counted.{counts_of, both, counted_by}

one_more : {T S J : Type 0} (count : WorkerCounts → ℕ) (outcomes : List (Option (WorkerResult T S J))) (o : Option (WorkerResult T S J))
    → capped (capped (sum_by (λ l. count (counts_of l)) outcomes) + count (counts_of o)) ≡ capped (sum_by (λ l. count (counts_of l)) (outcomes ++ o ∷ []))
one_more count outcomes o =
    let sum = sum_by_push (λ l. count (counts_of l)) outcomes o in
    omega arith

more : {T S J : Type 0} (outcomes : List (Option (WorkerResult T S J))) (o : Option (WorkerResult T S J)) → both (counted_by outcomes) (counts_of o) ≡ counted_by (outcomes ++ o ∷ [])
more outcomes o =
    let s = one_more (λ (c : WorkerCounts). c.starved) outcomes o in
    let d = one_more (λ (c : WorkerCounts). c.dropped) outcomes o in
    grind (arith, s, d)

pub counted_more : {T S J : Type 0} (mid after one : WorkerCounts) (outcomes : List (Option (WorkerResult T S J))) (o : Option (WorkerResult T S J))
    → mid ≡ counted_by outcomes → one ≡ counts_of o → after ≡ both mid one → after ≡ counted_by (outcomes ++ o ∷ [])
counted_more mid after one outcomes o known is sum = sum ∙ ap (λ (c : WorkerCounts). both c one) known ∙ ap (both (counted_by outcomes)) is ∙ more outcomes o
