use Rattle.std.proofs.Common.{◌≡◌, ◌++◌, ◌∷◌, [], ◌∙◌, List, replicate, ap, arith}
use Rattle.std.proofs.lemmas.List.{replicate_more}
use Rattle.event_floor.specs.Inboxes.{QueuedState}
use Rattle.event_floor.proofs.IndexLaws.{index_new}
use Rattle.event_floor.proofs.inboxes.Inboxes.new.Goals as goal

pub loop-inbox-init : goal.loop-inbox-init
loop-inbox-init c = c.in_ok-inboxes.ensures.items

pub loop-inbox-preserved : goal.loop-inbox-preserved
loop-inbox-preserved c =
    c.push_reserved.ensures.items ∙ (ap (λ (z : List QueuedState). c.loop-inbox.inboxes.items ++ z ∷ []) c.new.ensures
    ∙ (ap (λ (z : List (List QueuedState)). z ++ [] ∷ []) c.loop-inbox.invariant ∙ replicate_more c.loop-inbox._inbox []))

pub invariant_of-result : goal.invariant_of-result
invariant_of-result c =
    let all : c.loop-inbox._inbox ≡ c.args.count = omega (arith, c.loop-inbox-test.false, c.loop-inbox.auto._inbox-end) in
    rw (c.in_ok-unlinked.ensures, c.loop-inbox.invariant, all) (index_new c.args.count)

pub returns : goal.returns
returns c =
    let all : c.loop-inbox._inbox ≡ c.args.count = omega (arith, c.loop-inbox-test.false, c.loop-inbox.auto._inbox-end) in
    c.loop-inbox.invariant ∙ ap (λ n. replicate {A = List QueuedState} n []) all
