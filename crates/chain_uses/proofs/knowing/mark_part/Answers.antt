use Rattle.std.proofs.Common.{◌≡◌, ℕ, ◌<◌, List, ◌++◌, ◌∙◌, length, slice_set, sym, ap, arith}
use Rattle.std.specs.Borrow.{MutBor}
use Rattle.std.proofs.lemmas.List.{set-append_left}
use Rattle.region_cut.specs.Classes.{size_of}
use Rattle.region_cut.specs.Fronts.{rest_of}
use Rattle.slot_chain.specs.Buffer.{Buffer}
use Rattle.cut_uses.proofs.Ends.{end_settled}
use Rattle.chain_uses.proofs.knowing.mark_part.Goals as goal

pub returns-clause-end : goal.returns-clause-end
returns-clause-end c =
    let x = c.args.byte in let given = c.in-Some.ensures in
    let chunk = c.into_front-chunk.ensures in let buf = c.into_front.ensures in
    let f : List ℕ = c.in-Some.piece.bytes.now in let t : List ℕ = c.next.new.self.front.rest.now in
    let size : length f ≡ 16 = given.size_is ∙ ap size_of c.bump-bump.ensures.class_is in
    let some : 0 < length f = omega (arith, size) in
    let filled = ap (λ (s : MutBor (List ℕ)). slice_set s.now 0 x) c.fill-buf.ensures.bytes in
    let marked = ap (λ z. z ++ rest_of c.into_front.result) buf.settled ∙ (buf.rest ∙ (ap (λ (b : Buffer). b.bytes.now) c.mark.ensures ∙ filled)) in
    end_settled _ _ _ _ _ _ c.settle.ensures.settled chunk.settled marked (c.settle.ensures.rest ∙ chunk.rest)
    ∙ (sym (set-append_left f t 0 x some) ∙ ap (λ z. slice_set z 0 x) (sym given.joined_now ∙ c.bump-bump.ensures.same_bytes))
