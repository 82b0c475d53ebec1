use Rattle.std.proofs.Common.{◌≡◌, [], List, map, ap, sym, subst}
use Rattle.slot_chain.specs.Buffer.{Buffer}
use Rattle.digit_route.specs.States.{RefusedState}
use Rattle.pool_fabric.specs.Seats.{seat_of}
use Rattle.slot_balance.specs.Posts.{Posts}
use Rattle.slot_balance.proofs.Posting.{posts_none}
use Rattle.pool_fabric.proofs.fabric.Fabric.post_later_rounds.Goals as goal

pub returns-then-is_posted-clause-posts : goal.returns-then-is_posted-clause-posts
returns-then-is_posted-clause-posts g c =
    let d = c.args.desk.now in
    let ss = map (seat_of g.S.Sender.inbox g.S.Sender.number g.S.Sender.sent g.S.Sender.resting) c.args.seats.now in
    let none : d.cached ≡ [] = c.is_posted.ensures.0 c.if-is_posted.true in
    let aside = ap (λ (r : RefusedState). r.items) c.new.ensures in
    subst (λ (l : List Buffer). Posts d.digits d.number d.cached ss [] l ss) (sym aside)
    (subst (λ (l : List Buffer). Posts d.digits d.number l ss [] [] ss) (sym none) (posts_none d.digits d.number [] ss))

pub returns-then-is_posted-clause-same : goal.returns-then-is_posted-clause-same
returns-then-is_posted-clause-same g c = ap (λ (l : List Buffer). record c.args.desk.now { cached = l }) (c.is_posted.ensures.0 c.if-is_posted.true)
