use Rattle.std.proofs.Common.{◌<◌, ◌*◌, ◌∙◌, ◌++◌, length, take, drop, slice_set, ap, subst, arith, lit<}
use Rattle.std.specs.List.{flat_map}
use Rattle.std.proofs.lemmas.List.{length-map}
use Rattle.region_cut.specs.Limits.{chunk_size}
use Rattle.region_cut.specs.Cuts.{IsCut, names_in}
use Rattle.region_cut.specs.Fronts.{end_of, rest_of}
use Rattle.region_cut.specs.Parts.{name_of, bytes_of}
use Rattle.cut_uses.proofs.Ends.{end_settled, write_front, write_part, removed_first}
use Rattle.cut_uses.proofs.marks.marked.Goals as goal

pub returns-in-Ok-clause-end : goal.returns-in-Ok-clause-end
returns-in-Ok-clause-end c =
    let bytes = c.args.region.now in let x = c.args.x in let front = c.cut_with_front-parts.ensures in let parts = c.in-Ok.parts.items in
    let cut = subst (λ r. IsCut bytes r) c.in-Ok.is front.parts in
    let whole = c.parts_make_the_whole.ensures bytes parts cut.1 in
    let count = whole.0 in let long = c.requires in
    let some : 0 < length parts = omega (arith, count, long) in
    let first = removed_first parts c.remove-first.new.self.items c.remove-first.result some c.remove-first.ensures.value c.remove-first.ensures.items in
    let names = ap (λ r. length (names_in r)) c.in-Ok.is ∙ length-map parts name_of in
    let rest = c.settle_all.ensures.rest ∙ c.settle.ensures.rest ∙ front.tail ∙ ap (λ n. drop (chunk_size * n) bytes) names in
    let marked = c.settle.ensures.settled ∙ ap (λ z. z ++ end_of c.mark_part.result) front.settled ∙ c.mark_part.ensures.end in
    let settled = c.settle_all.ensures.settled ∙ ap (λ z. z ++ flat_map bytes_of c.remove-first.new.self.items) marked in
    write_part bytes parts c.remove-first.new.self.items c.remove-first.result _ _ _ 64 x (lit< tt) first whole.1 settled rest

pub returns-clause-end : goal.returns-clause-end
returns-clause-end c =
    let bytes = c.args.region.now in let x = c.args.x in let front = c.cut_with_front-parts.ensures in
    let names = ap (λ r. length (names_in r)) c.in_default.is in
    let tail = front.tail ∙ ap (λ n. drop (chunk_size * n) bytes) names in
    let marked =
    ap (λ z. z ++ rest_of c.new.result) c.new.ensures.settled
    ∙ c.new.ensures.rest ∙ ap (λ z. slice_set z 64 x) (c.take-whole.ensures.bytes ∙ ap (λ z. take chunk_size z) tail) in
    let rest = c.settle-2.ensures.rest ∙ c.take-whole.ensures.rest ∙ ap (λ z. drop chunk_size z) tail in
    end_settled _ _ _ _ _ _ c.settle-2.ensures.settled (c.take-whole.ensures.settled ∙ front.settled) marked rest ∙ write_front bytes 64 x (lit< tt) c.requires
