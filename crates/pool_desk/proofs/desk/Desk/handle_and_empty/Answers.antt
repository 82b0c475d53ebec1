use Rattle.std.proofs.Common.{arith}
use Rattle.pool_desk.proofs.HandleLaws.{Handled-none, Handled-more, Handled-all, CountsOf-added, IsPassed-routed, last_all_passed}
use Rattle.pool_desk.proofs.desk.Desk.handle_and_empty.Goals as goal

pub loop-portion-init : goal.loop-portion-init
loop-portion-init c =
    Handled-none _ _ _ (omega arith) (omega arith)
    (rw c.into_magazine-magazine.ensures.value (IsPassed-routed _ _ _ _ (rw (c.requires.address, c.requires.digits) at c.into_magazine-magazine.ensures.routed)))

pub handle_portion-counts-requires : goal.handle_portion-counts-requires
handle_portion-counts-requires c = last_all_passed _ _ _ _ _ _ _ _ c.loop-portion.invariant c.in-Some.ensures.1

pub loop-portion-preserved : goal.loop-portion-preserved
loop-portion-preserved c =
    let handled = c.handle_portion-counts.ensures in
    rw handled.magazine (Handled-more _ c.loop-portion.self _ _ c.pop_portion.new.self _ _ _ _ (rw c.in-Some.ensures.1 at c.loop-portion.invariant) handled.parts handled.counts)

pub returns-clause-parts : goal.returns-clause-parts
returns-clause-parts c =
    rw (← c.into_magazine-magazine.ensures.value) (Handled-all _ _ _ _ _ (rw c.in_default.ensures.0 at c.loop-portion.invariant)).0

pub returns-clause-counts : goal.returns-clause-counts
returns-clause-counts c =
    rw (← c.into_magazine-magazine.ensures.value) (CountsOf-added _ _ _ (Handled-all _ _ _ _ _ (rw c.in_default.ensures.0 at c.loop-portion.invariant)).1)
