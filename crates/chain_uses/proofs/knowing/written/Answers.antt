use Rattle.std.proofs.Common.{◌++◌, ◌∙◌, slice_set, ap, lit<}
use Rattle.region_cut.specs.Fronts.{rest_of}
use Rattle.cut_uses.proofs.Ends.{end_settled, write_front}
use Rattle.chain_uses.proofs.knowing.written.Goals as goal

pub returns-clause-end : goal.returns-clause-end
returns-clause-end c =
    let x = c.args.byte in
    let marked =
    ap (λ z. z ++ rest_of c.new.result) c.new.ensures.settled
    ∙ c.new.ensures.rest ∙ ap (λ z. slice_set z 0 x) c.take-first.ensures.bytes in
    let rest = c.settle.ensures.rest ∙ c.take-first.ensures.rest in
    end_settled _ _ _ _ _ _ c.settle.ensures.settled (c.take-first.ensures.settled ∙ c.requires.settled) marked rest
    ∙ write_front (rest_of c.args.front) 0 x (lit< tt) c.requires.long
