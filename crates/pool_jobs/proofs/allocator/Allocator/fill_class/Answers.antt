use Rattle.std.proofs.Common.{◌<◌, inr, arith}
use Rattle.pool_jobs.proofs.Bursts.{class_some, into_after, into_then}
use Rattle.pool_jobs.proofs.allocator.Allocator.fill_class.Goals as goal

pub loop-lent-init : goal.loop-lent-init
loop-lent-init g c = into_after _ _ _ _ _ _ _ _ _ c.look.ensures c.lend_whole-lent.ensures

pub loop-lent-preserved : goal.loop-lent-preserved
loop-lent-preserved g c =
    let lt : c.loop-lent.lent < c.args.most = omega arith in
    into_then _ _ _ _ c.args.most _ _ _ _ _ _ c.loop-lent.lent 1 (omega (arith, lt)) c.loop-lent.invariant c.in-Ok.ensures

pub returns-in-Err : goal.returns-in-Err
returns-in-Err g c =
    let out = class_some _ _ _ c.args.class _ _ _ _ c.loop-lent.lent c.in-Err.error _ _ c.loop-lent.invariant c.in-Err.ensures in
    record { value = out.0; ends = inr (c.if-lent-eq0.false, out.1) }
