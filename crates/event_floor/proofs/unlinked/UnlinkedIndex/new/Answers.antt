use Rattle.std.proofs.Common.{◌≡◌, ◌++◌, ◌∷◌, [], ◌∙◌, ℕ, List, ap, arith}
use Rattle.std.proofs.lemmas.List.{replicate_more}
use Rattle.event_floor.proofs.UnlinkedLaws.{none_counted, none_seen}
use Rattle.event_floor.proofs.unlinked.UnlinkedIndex.new.Goals as goal

pub loop-desk-init : goal.loop-desk-init
loop-desk-init c = c.in_ok-by_sender.ensures.items

pub loop-desk-preserved : goal.loop-desk-preserved
loop-desk-preserved c = c.push_reserved.ensures.items ∙ (ap (λ (z : List ℕ). z ++ 0 ∷ []) c.loop-desk.invariant ∙ replicate_more c.loop-desk._desk 0)

pub invariant_of-result : goal.invariant_of-result
invariant_of-result c = none_counted c.loop-desk._desk _ _ c.new.ensures.empty c.loop-desk.invariant

pub returns : goal.returns
returns c =
    let all : c.loop-desk._desk ≡ c.args.desks = omega (arith, c.loop-desk-test.false, c.loop-desk.auto._desk-end) in
    none_seen c.loop-desk._desk c.args.desks _ _ c.new.ensures.empty c.loop-desk.invariant all
