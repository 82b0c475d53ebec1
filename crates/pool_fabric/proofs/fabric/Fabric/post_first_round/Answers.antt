use Rattle.std.proofs.Common.{◌≡◌, List, map, refl, sym, ap, ◌∙◌, arith, subst}
use Rattle.slot_chain.specs.Buffer.{Buffer}
use Rattle.digit_route.specs.Digits.{Scheme}
use Rattle.digit_route.specs.Route.{GivesBucket}
use Rattle.digit_route.specs.States.{RefusedState}
use Rattle.pool_desk.specs.Desks.{DeskState}
use Rattle.pool_fabric.specs.Seats.{seat_of}
use Rattle.slot_balance.specs.Posts.{Posts}
use Rattle.slot_balance.proofs.Posting.{posts_none, posts_more, batch_smaller}
use Rattle.pool_fabric.proofs.Seated.{seats_kept}
use Rattle.pool_fabric.proofs.fabric.Fabric.post_first_round.Goals as goal

pub loop-batch-init : goal.loop-batch-init
loop-batch-init g c =
    let as_seat = seat_of g.S.Sender.inbox g.S.Sender.number g.S.Sender.sent g.S.Sender.resting in
    let ss = map as_seat c.args.seats.now in
    let d = c.args.desk.now in
    let e = c.new-refused.ensures in
    record {
      same = refl;
      refused = λ i. record {
        number = (ap (λ (r : RefusedState). r.number) e ∙ c.number.ensures.value) i;
        digits = (ap (λ (r : RefusedState). r.digits) e ∙ c.digits.ensures) i;
        items = c.new-refused.result.items;
      };
      seats = c.requires.seats;
      posts = subst (λ (l : List Buffer). Posts d.digits d.number d.cached ss d.cached l ss) (sym (ap (λ (r : RefusedState). r.items) e)) (posts_none d.digits d.number d.cached ss);
    }

pub loop-batch-smaller : goal.loop-batch-smaller
loop-batch-smaller g c =
    let v = c.in-Some.ensures.value in
    let at = v.routed.owned in
    let l = at.2 in
    rw c.reuse.ensures (batch_smaller c.loop-batch.desk.cached c.in-Some.batch.items c.next_of_first_round.new.self.cached v.taken.together (omega arith))

pub loop-batch-preserved : goal.loop-batch-preserved
loop-batch-preserved g c =
    let i = c.loop-batch.invariant in
    let as_seat = seat_of g.S.Sender.inbox g.S.Sender.number g.S.Sender.sent g.S.Sender.resting in
    let b = c.in-Some.batch in
    let d = c.args.desk.now in
    let new = c.next_of_first_round.new.self in
    let goes = c.post_or_keep-empty.ensures.goes in
    let ss = map as_seat c.loop-batch.seats in
    let after = map as_seat c.post_or_keep-empty.new.seats in
    let x = c.loop-batch.refused.items in
    let y = c.post_or_keep-empty.new.refused.items in
    let number : c.loop-batch.desk.number ≡ d.number = ap (λ (d : DeskState). d.number) i.same in
    let digits : c.loop-batch.desk.digits ≡ d.digits = ap (λ (d : DeskState). d.digits) i.same in
    let gives : GivesBucket d.digits d.number c.loop-batch.desk.cached b new.cached =
    subst (λ (s : Scheme). GivesBucket s d.number c.loop-batch.desk.cached b new.cached) digits
    (subst (λ a. GivesBucket c.loop-batch.desk.digits a c.loop-batch.desk.cached b new.cached) number c.in-Some.ensures.value) in
    rw c.reuse.ensures (record {
      same = c.in-Some.ensures.same ∙ ap (λ (d : DeskState). record d { cached = new.cached }) i.same;
      refused = c.post_or_keep-empty.ensures.same ∙ ap (λ (r : RefusedState). record r { items = y }) i.refused;
      seats = seats_kept g.J.Naming.names d.number b ss after x y i.seats goes;
      posts = posts_more d.digits d.number d.cached c.loop-batch.desk.cached new.cached x y (map as_seat c.args.seats.now) ss after b i.posts gives goes;
    })
