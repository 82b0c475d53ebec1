use Rattle.std.proofs.Common.{◌≡◌, ◌∙◌, ap, inl}
use Rattle.std.proofs.lemmas.List.Sorted.{IsPermutation-sym}
use Rattle.digit_route.specs.States.{PostingState}
use Rattle.digit_route.proofs.PostingLaws.{nil_permutation}
use Rattle.digit_route.proofs.PostLaws.{Posted-start, Posted-more, Posted-end, Posted-back, Posted-few, Gives-fewer, Moved-end, Moved-back}
use Rattle.digit_route.proofs.cache.Cache.post_all.Goals as goal

pub loop-batch-init : goal.loop-batch-init
loop-batch-init g c = rw c.posting-posting.ensures (Posted-start _ _ _ _ _)

pub loop-batch-preserved : goal.loop-batch-preserved
loop-batch-preserved g c =
    let same = c.in-Some.ensures.same in
    Posted-more _ _ _ _ _ _ _ _ _ c.in-Some.batch c.loop-batch.invariant
    (ap (λ (p : PostingState). p.number) same) (ap (λ (p : PostingState). p.digits) same) (ap (λ (p : PostingState). p.limit) same)
    c.in-Some.ensures.value c.in-Some.ensures.counted c.in_default-give.ensures.ok

pub loop-batch-smaller : goal.loop-batch-smaller
loop-batch-smaller g c = Gives-fewer _ _ _ _ _ c.in-Some.ensures.value

pub returns-in-Err-clause-same : goal.returns-in-Err-clause-same
returns-in-Err-clause-same g c =
    let h = c.loop-batch.invariant in
    let same = c.in-Some.ensures.same in
    let number : c.next_batch.new.self.number ≡ c.args.self.number = ap (λ (p : PostingState). p.number) same ∙ h.number in
    let digits : c.next_batch.new.self.digits ≡ c.args.self.digits = ap (λ (p : PostingState). p.digits) same ∙ h.digits in
    let limit : c.next_batch.new.self.limit ≡ c.args.self.limit = ap (λ (p : PostingState). p.limit) same ∙ h.limited in
    rw (number, digits, limit) at c.put_back.ensures.same

pub returns-in-Err-clause-posts : goal.returns-in-Err-clause-posts
returns-in-Err-clause-posts g c =
    Posted-back _ _ _ _ _ _ _ c.loop-batch.posting c.next_batch.new.self c.in-Some.batch _ c.loop-batch.invariant c.in-Some.ensures.value
    c.in-Err.ensures.err.1 (rw c.in-Err.ensures.err.0 at c.put_back.ensures.items)

pub returns-in-Err-clause-moves : goal.returns-in-Err-clause-moves
returns-in-Err-clause-moves g c =
    let e = c.in-Some.ensures in
    λ fits. rw c.moves-moves.ensures
    (Moved-back _ _ _ _ _ _ c.loop-batch.posting c.next_batch.new.self c.in-Some.batch _ c.loop-batch.invariant
    (ap (λ (p : PostingState). p.number) e.same) (ap (λ (p : PostingState). p.digits) e.same) e.value e.here e.left e.counted
    (rw c.in-Err.ensures.err.0 at c.put_back.ensures.items) fits)

pub returns-in-Err-clause-few : goal.returns-in-Err-clause-few
returns-in-Err-clause-few g c =
    let known = c.number-known.ensures in
    rw c.moves-moves.ensures (Posted-few _ _ _ _ _ _ c.loop-batch.posting c.next_batch.new.self known.scheme known.in_range known.cached
    c.loop-batch.invariant c.in-Some.ensures.counted (rw c.moves-moves.ensures at c.moves-moves.type_inv))

pub returns-clause-same : goal.returns-clause-same
returns-clause-same g c =
    let h = c.loop-batch.invariant in
    let same = c.in_default.ensures.same in
    let number : c.next_batch.new.self.number ≡ c.args.self.number = ap (λ (p : PostingState). p.number) same ∙ h.number in
    let digits : c.next_batch.new.self.digits ≡ c.args.self.digits = ap (λ (p : PostingState). p.digits) same ∙ h.digits in
    let limit : c.next_batch.new.self.limit ≡ c.args.self.limit = ap (λ (p : PostingState). p.limit) same ∙ h.limited in
    rw (number, digits, limit) at c.end.ensures.same

pub returns-clause-posts : goal.returns-clause-posts
returns-clause-posts g c =
    let none = c.in_default.ensures.value in
    let left = rw (none.1, ← none.0) at c.end.ensures.items in
    Posted-end _ _ _ _ _ _ c.loop-batch.posting _ c.loop-batch.invariant left

pub returns-clause-stops : goal.returns-clause-stops
returns-clause-stops g c =
    inl (nil_permutation _ (IsPermutation-sym _ _ (rw c.in_default.ensures.value.1 at c.end.ensures.items)))

pub returns-clause-moves : goal.returns-clause-moves
returns-clause-moves g c =
    let e = c.in_default.ensures in
    let none = nil_permutation _ (IsPermutation-sym _ _ (rw e.value.1 at c.end.ensures.items)) in
    λ fits. rw c.moves-moves-2.ensures
    (Moved-end _ _ _ _ _ _ c.loop-batch.posting c.next_batch.new.self _ c.loop-batch.invariant
    (ap (λ (p : PostingState). p.number) e.same) (ap (λ (p : PostingState). p.digits) e.same) e.counted e.value.1 none fits)

pub returns-clause-few : goal.returns-clause-few
returns-clause-few g c =
    let known = c.number-known.ensures in
    rw c.moves-moves-2.ensures (Posted-few _ _ _ _ _ _ c.loop-batch.posting c.next_batch.new.self known.scheme known.in_range known.cached
    c.loop-batch.invariant c.in_default.ensures.counted (rw c.moves-moves-2.ensures at c.moves-moves-2.type_inv))
