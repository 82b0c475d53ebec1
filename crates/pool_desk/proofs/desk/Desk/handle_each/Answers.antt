use Rattle.std.proofs.Common.{sym, ◌∙◌}
use Rattle.pool_desk.proofs.HandleLaws.{Adds-array, HandledOf-none, HandledOf-home, HandledOf-on}
use Rattle.pool_desk.proofs.desk.Desk.handle_each.Goals as goal

pub loop-buf-init : goal.loop-buf-init
loop-buf-init c = HandledOf-none _ _ c.requires

pub loop-buf-preserved-then-owns : goal.loop-buf-preserved-then-owns
loop-buf-preserved-then-owns c = HandledOf-home _ _ _ _ _ _ c.in-Some.buf _ c.loop-buf.invariant c.in-Some.ensures.items c.take_home.ensures

pub loop-buf-preserved : goal.loop-buf-preserved
loop-buf-preserved c = HandledOf-on _ _ _ _ _ _ c.in-Some.buf _ c.loop-buf.invariant c.in-Some.ensures.items c.pass_on.ensures

pub returns-clause-counts : goal.returns-clause-counts
returns-clause-counts c =
    (Adds-array _ _ _ _ _ c.args.counts c.plus.result c.loop-buf.invariant (sym c.loop-buf.array.ok.0 ∙ c.in_default.ensures.cases.0) (rw (c.len-all.ensures, c.args.array.ok.0) at c.plus.ensures.home) c.plus.ensures.on).1
