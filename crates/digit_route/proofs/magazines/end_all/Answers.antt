use Rattle.std.proofs.Common.{sym, ap, ◌∙◌}
use Rattle.digit_route.proofs.MoveLaws.{all_ended, with_ended}
use Rattle.digit_route.proofs.magazines.end_all.Goals as goal

pub loop-magazine-preserved : goal.loop-magazine-preserved
loop-magazine-preserved c =
    let s = c.loop-magazine.endings in
    all_ended c.pop.new.self.items c.in-Some.magazine s c.end.new.endings c.end.ensures
    ∙ (ap (λ xss. with_ended xss s) (sym c.in-Some.ensures.items) ∙ c.loop-magazine.invariant)
