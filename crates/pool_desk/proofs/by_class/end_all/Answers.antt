use Rattle.std.proofs.Common.{sym, ap, ◌∙◌}
use Rattle.pool_desk.proofs.EndLaws.{homes_end, all_let_go}
use Rattle.pool_desk.proofs.by_class.end_all.Goals as goal

pub loop-home-preserved : goal.loop-home-preserved
loop-home-preserved c =
    let s = c.loop-home.endings in
    homes_end c.pop.new.self.items c.in-Some.home s c.end.new.endings c.end.ensures ∙ (ap (λ hs. all_let_go hs s) (sym c.in-Some.ensures.items) ∙ c.loop-home.invariant)
