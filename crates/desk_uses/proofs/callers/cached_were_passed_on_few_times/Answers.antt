use Rattle.std.proofs.Common.{◌<◌, arith}
use Rattle.std.proofs.lemmas.List.Elements.{All-weaker}
use Rattle.slot_chain.specs.Buffer.{Buffer}
use Rattle.digit_route.specs.Digits.{count}
use Rattle.digit_route.specs.Route.{IsCached}
use Rattle.desk_uses.proofs.callers.cached_were_passed_on_few_times.Goals as goal

pub returns-clause-few : goal.returns-clause-few
returns-clause-few c =
    let d = c.args.desk.now in
    let known = c.number.ensures in
    All-weaker (IsCached d.digits d.number) (λ (b : Buffer). b.forwards < count d.digits)
    (λ b h.
    let less = c.shared_by_others.ensures d.digits b.owner d.number known.scheme h.in_range known.in_range h.apart in
    let most = h.forwards in
    omega arith)
    d.cached known.cached
