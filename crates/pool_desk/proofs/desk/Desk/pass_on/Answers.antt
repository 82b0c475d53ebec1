use Rattle.std.proofs.Common.{rules, arith, ◌≡◌, ◌≢◌, ◌≤◌, ◌+◌, ap, ◌∙◌}
use Rattle.digit_route.specs.Digits.{count}
use Rattle.pool_desk.specs.Desks.{DeskState}
use Rattle.pool_desk.proofs.DeskLaws.{goes_on}
use Rattle.pool_desk.proofs.desk.Desk.pass_on.Goals as goal

pub overflow_add-forwards : goal.overflow_add-forwards
overflow_add-forwards c =
    let below = c.requires.passed.forwards in
    let within = c.shared_at_most_all.ensures c.args.self.now.digits c.args.buf.owner c.args.self.now.number in
    let digits : c.digits.result ≡ c.args.self.now.digits = c.digits.ensures ∙ ap (λ (d : DeskState). d.digits) c.self.view_is in
    let most : c.count-most.result ≡ count c.args.self.now.digits = c.count-most.ensures.value ∙ ap count digits in
    let high = c.count-most.ensures.high in
    let is = c.forwards-forwards.ensures in
    let small : c.forwards-forwards.result + 1 ≤ 16 = omega arith in
    search (rules, small)

pub returns : goal.returns
returns c =
    let other : c.args.buf.owner ≢ c.self.inside.cache.number = rw (← c.self.view_is) at c.requires.other in
    let put = rw (c.set_forwards.ensures, c.forwards-forwards.ensures) at c.put.ensures.items in
    rw (← c.self.view_is) (goes_on _ c.args.buf c.put.new.self other c.put.ensures.same put)
