use Rattle.pool_desk.proofs.HandleLaws.{Handled-none, Handled-home, Handled-on}
use Rattle.std.proofs.Common.{arith}
use Rattle.pool_desk.proofs.desk.Desk.handle_chain.Goals as goal

pub loop-buf-init : goal.loop-buf-init
loop-buf-init c = Handled-none _ _ _ (omega arith) (omega arith) c.requires

pub loop-buf-preserved-then-owns : goal.loop-buf-preserved-then-owns
loop-buf-preserved-then-owns c =
    Handled-home _ _ _ _ _ _ _ _ _ _ c.loop-buf.invariant c.in-Some.ensures c.take_home.ensures c.plus-counts.ensures.home c.plus-counts.ensures.on

pub loop-buf-preserved : goal.loop-buf-preserved
loop-buf-preserved c =
    Handled-on _ _ _ _ _ _ _ _ _ _ c.loop-buf.invariant c.in-Some.ensures c.pass_on.ensures c.plus-counts-else-owns.ensures.home c.plus-counts-else-owns.ensures.on
