use Rattle.std.proofs.Common.{ℕ, List, ◌++◌, ◌∙◌, ap, sym, slice_set}
use Rattle.std.specs.Borrow.{MutBor}
use Rattle.region_cut.specs.Classes.{size_of}
use Rattle.region_cut.specs.Fronts.{rest_of}
use Rattle.cut_uses.proofs.Ends.{settled_two, write_second}
use Rattle.cut_uses.proofs.marks.mark_part.Goals as goal

pub returns-clause-end : goal.returns-clause-end
returns-clause-end c =
    let one = c.in-Some-next.ensures in let two = c.in-Some-next-2.ensures in
    let chunk = c.into_front-chunk.ensures in let first = c.into_front.ensures in let second = c.new-2.ensures in
    let class = c.bump-bump.ensures.class_is ∙ c.in-Some.ensures in
    let settled = settled_two _ _ _ _ _ _ _ c.settle.ensures.settled c.settle-2.ensures.settled chunk.settled first.settled second.settled in
    let rest = c.settle-2.ensures.rest ∙ c.settle.ensures.rest ∙ chunk.rest in
    let written = write_second _ _ _ _ _ c.args.x (sym c.bump-bump.ensures.same_bytes ∙ one.joined_now) two.joined_now (one.size_is ∙ ap size_of class) (two.size_is ∙ ap size_of (one.same_class ∙ class)) in
    let f = c.in-Some-next.first.bytes.now in let g = slice_set c.in-Some-next-2.second.bytes.now 0 c.args.x in
    let same = ap (λ (s : MutBor (List ℕ)). slice_set s.now 0 c.args.x) c.into_parts-bytes.ensures.slice in
    ap (λ z. z ++ rest_of c.settle-2.new.self) (settled ∙ ap (λ z. z ++ rest_of c.new-2.result) first.rest ∙ ap (λ z. f ++ z) (second.rest ∙ same)) ∙ ap (λ z. (f ++ g) ++ z) rest ∙ written
