use Rattle.std.proofs.Common.{◌≡◌, ◌*◌, ◌++◌, ◌∷◌, [], ◌∙◌, List, replicate, ap, sym, subst, arith}
use Rattle.std.proofs.lemmas.List.{replicate_more}
use Rattle.std.specs.Prelude.{Option, None}
use Rattle.slot_chain.specs.Buffer.{Buffer}
use Rattle.event_floor.specs.Lent.{AreInPlace}
use Rattle.event_floor.proofs.FloorLaws.{nothing_placed}
use Rattle.event_floor.proofs.lent.Lent.new.Goals as goal

pub loop-place-init : goal.loop-place-init
loop-place-init c = c.in_ok-places.ensures.items

pub loop-place-preserved : goal.loop-place-preserved
loop-place-preserved c = c.push_reserved.ensures.items ∙ (ap (λ (z : List (Option Buffer)). z ++ None ∷ []) c.loop-place.invariant ∙ replicate_more c.loop-place._place None)

pub invariant_of-result : goal.invariant_of-result
invariant_of-result c = subst (λ z. AreInPlace z) (sym c.loop-place.invariant) (nothing_placed c.loop-place._place)

pub returns : goal.returns
returns c =
    let all : c.loop-place._place ≡ 256 * c.args.chunks = omega (arith, c.loop-place-test.false, c.loop-place.auto._place-end) in
    c.loop-place.invariant ∙ ap (λ n. replicate {A = Option Buffer} n None) all
