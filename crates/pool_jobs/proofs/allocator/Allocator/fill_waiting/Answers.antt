use Rattle.std.proofs.Common.{◌≢◌, inl, inr, refl, sym, ap, ◌∙◌, arith, true≢false}
use Rattle.pool_fabric.specs.Stations.{StationState}
use Rattle.pool_jobs.proofs.Bursts.{filled_some, filled_stop, into_none, into_then, into_waited, keeps_same}
use Rattle.pool_jobs.specs.declared.error.PoolError.TheVariants.{NoChunk, UsedUp}
use Rattle.pool_jobs.proofs.allocator.Allocator.fill_waiting.Goals as goal

pub loop-init : goal.loop-init
loop-init g c =
    let s = c.args.self.now in
    into_none g.J.Naming.names c.args.size c.args.count s c.args.parcel.now s
    (keeps_same g.J.Naming.names s s refl (ap (λ (x : StationState). x.desk.digits) (sym c.self.view_is) ∙ c.recall.ensures.digits))

pub loop-preserved-in-Ok : goal.loop-preserved-in-Ok
loop-preserved-in-Ok g c =
    let before = c.loop.invariant.most in
    let more = c.in-Ok.ensures.1.most in
    into_then _ _ _ _ c.args.count _ _ _ _ _ _ c.loop.lent c.in-Ok.more (omega (arith, before, more)) c.loop.invariant c.in-Ok.ensures.1

pub loop-preserved : goal.loop-preserved
loop-preserved g c = into_waited g.J.Naming.names c.args.size c.args.count c.args.self.now c.loop.self c.fill.new.self c.pause.new.self c.args.parcel.now c.loop.parcel c.fill.new.parcel c.loop.lent c.in-Err.error c.loop.invariant c.in-Err.ensures c.pause.ensures

pub returns-in-Ok-eq0 : goal.returns-in-Ok-eq0
returns-in-Ok-eq0 g c =
    let out = filled_stop g.J.Naming.names c.args.size c.args.count c.args.self.now c.loop.self c.args.parcel.now c.loop.parcel c.loop.lent c.in-Ok-eq0.field-0 c.fill.new.self c.fill.new.parcel c.in-Ok-eq0.field-0-test c.loop.invariant c.in-Ok-eq0.ensures in
    record { fills = out.0; waits = λ e. absurd (cc); slots = out.1 }

pub returns-then-not-wants_slots : goal.returns-then-not-wants_slots
returns-then-not-wants_slots g c =
    let goes = c.if-not-wants_slots.ensures.1 in
    let u : c.in-Err.error ≢ UsedUp = λ e. true≢false (sym (goes (inl e))) in
    let o : c.in-Err.error ≢ NoChunk = λ e. true≢false (sym (goes (inr (e, c.if-lent-eq0.false)))) in
    let out = filled_some g.J.Naming.names c.args.size c.args.count c.args.self.now c.loop.self c.args.parcel.now c.loop.parcel c.loop.lent c.in-Err.error c.fill.new.self c.fill.new.parcel c.if-lent-eq0.false u o c.loop.invariant c.in-Err.ensures in
    record { fills = out.0; waits = λ e. absurd (cc); slots = out.1 }
