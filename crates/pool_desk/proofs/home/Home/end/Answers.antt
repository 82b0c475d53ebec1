use Rattle.std.proofs.Common.{◌++◌, sym, ap, ◌∙◌}
use Rattle.pool_desk.specs.Homes.{HomeState, open_chunk}
use Rattle.pool_desk.proofs.EndLaws.{both_end, home_ends, let_go}
use Rattle.pool_desk.proofs.home.Home.end.Goals as goal

pub returns-in-Some : goal.returns-in-Some
returns-in-Some c =
    let h = c.self.inside in let old = c.args.endings.now in let t = c.keep.new.self in
    c.carve.ensures ∙ (ap (λ m. record t { chunks = open_chunk m ++ t.chunks }) (sym c.in-Some.is)
    ∙ (home_ends (h.whole ++ h.list) h.bump h.ties.all old c.end-2.new.endings t (both_end h.whole h.list old c.end.new.endings c.end-2.new.endings c.end.ensures c.end-2.ensures) c.keep.ensures ∙ ap (λ (x : HomeState). let_go x.slots x.drawn old) c.self.view_is))

pub returns-in_default : goal.returns-in_default
returns-in_default c =
    let h = c.self.inside in let old = c.args.endings.now in let t = c.keep.new.self in
    ap (λ m. record t { chunks = open_chunk m ++ t.chunks }) (sym c.in_default.is)
    ∙ (home_ends (h.whole ++ h.list) h.bump h.ties.all old c.end-2.new.endings t (both_end h.whole h.list old c.end.new.endings c.end-2.new.endings c.end.ensures c.end-2.ensures) c.keep.ensures ∙ ap (λ (x : HomeState). let_go x.slots x.drawn old) c.self.view_is)
