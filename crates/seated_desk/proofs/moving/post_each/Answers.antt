use Rattle.std.proofs.Common.{◌≡◌, List, refl, sym, ap, ◌∙◌, subst, arith}
use Rattle.slot_chain.specs.Buffer.{Buffer}
use Rattle.digit_route.specs.Digits.{Scheme}
use Rattle.digit_route.specs.Route.{GivesBucket}
use Rattle.digit_route.specs.States.{RefusedState}
use Rattle.pool_desk.specs.Desks.{DeskState}
use Rattle.slot_balance.specs.Posts.{Posts}
use Rattle.slot_balance.proofs.Posting.{batch_smaller, posts_none, posts_more}
use Rattle.slot_balance.proofs.Seated.{posted_at, seats_of}
use Rattle.seated_desk.specs.Ways.{seats_at}
use Rattle.seated_desk.proofs.moving.post_each.Goals as goal

pub loop-batch-init : goal.loop-batch-init
loop-batch-init c =
    let d = c.args.desk.now in
    let ss = seats_at c.args.seats.now in
    record {
      same = refl;
      of = c.requires.of;
      posts = subst (λ (l : List Buffer). Posts d.digits d.number d.cached ss d.cached l ss) (sym c.requires.none) (posts_none d.digits d.number d.cached ss);
    }

pub post_or_keep-empty-requires-clause-seats : goal.post_or_keep-empty-requires-clause-seats
post_or_keep-empty-requires-clause-seats c =
    let i = c.loop-batch.invariant in
    let v = c.in-Some.ensures.value in
    seats_of _ _ _ _ _ _ (v.digits ∙ ap (λ (d : DeskState). d.digits) i.same) (v.sender ∙ ap (λ (d : DeskState). d.number) i.same) (posted_at _ _ _ _ _ _ _ _ c.requires.seats i.posts)

pub loop-batch-smaller : goal.loop-batch-smaller
loop-batch-smaller c =
    let v = c.in-Some.ensures.value in
    let some = v.routed.owned.2 in
    rw c.reuse.ensures (batch_smaller c.loop-batch.desk.cached c.in-Some.batch.items c.next_of.new.desk.cached v.taken.together (omega arith))

pub loop-batch-preserved : goal.loop-batch-preserved
loop-batch-preserved c =
    let i = c.loop-batch.invariant in
    let d = c.args.desk.now in
    let b = c.in-Some.batch in
    let old = c.loop-batch.desk in
    let new = c.next_of.new.desk in
    let e = c.post_or_keep-empty.ensures in
    let number : old.number ≡ d.number = ap (λ (d : DeskState). d.number) i.same in
    let digits : old.digits ≡ d.digits = ap (λ (d : DeskState). d.digits) i.same in
    let gives : GivesBucket d.digits d.number old.cached b new.cached =
    subst (λ (s : Scheme). GivesBucket s d.number old.cached b new.cached) digits
    (subst (λ a. GivesBucket old.digits a old.cached b new.cached) number c.in-Some.ensures.value) in
    rw c.reuse.ensures (record {
      same = c.in-Some.ensures.same ∙ ap (λ (d : DeskState). record d { cached = new.cached }) i.same;
      of = record {
        number = ap (λ (r : RefusedState). r.number) e.same ∙ i.of.number;
        digits = ap (λ (r : RefusedState). r.digits) e.same ∙ i.of.digits;
      };
      posts = posts_more d.digits d.number d.cached old.cached new.cached c.loop-batch.refused.items c.post_or_keep-empty.new.refused.items (seats_at c.args.seats.now) (seats_at c.loop-batch.seats)
          (seats_at c.post_or_keep-empty.new.seats) b i.posts gives e.goes;
    })
