use Rattle.std.proofs.Common.{◌≡◌, ℕ, [], sym, ap, subst, ◌∙◌}
use Rattle.slot_chain.specs.Parcels.{ParcelState}
use Rattle.pool_fabric.specs.Stations.{StationState}
use Rattle.pool_jobs.specs.Bursts.{Reserves}
use Rattle.pool_jobs.proofs.Bursts.{if_err, reserved_same, reserved_some}
use Rattle.pool_jobs.proofs.allocator.Allocator.reserve.Goals as goal

pub returns-then-size-largest_size-clause-some : goal.returns-then-size-largest_size-clause-some
returns-then-size-largest_size-clause-some g c =
    let digits = ap (λ (x : StationState). x.desk.digits) (sym c.self.view_is) ∙ c.recall.ensures.digits in
    (0, reserved_same g.J.Naming.names c.args.size c.args.self.now digits)

pub returns-in_default-clause-some : goal.returns-in_default-clause-some
returns-in_default-clause-some g c =
    let digits = ap (λ (x : StationState). x.desk.digits) (sym c.self.view_is) ∙ c.recall.ensures.digits in (
      0,
      subst (λ (s : StationState). Reserves g.J.Naming.names c.args.self.now c.args.size 0 s) (sym c.parcel.ensures.same)
          (reserved_same g.J.Naming.names c.args.size c.args.self.now digits),
    )

pub returns-in_err-lent-clause-some : goal.returns-in_err-lent-clause-some
returns-in_err-lent-clause-some g c =
    let none : c.in-Ok.parcel.items ≡ [] = ap (λ (z : ParcelState). z.items) c.in-Ok.ensures.value.0 in
    let some = reserved_some g.J.Naming.names c.args.size c.args.count c.parcel.new.self c.fill-lent.new.self c.in-Ok.parcel c.fill-lent.new.parcel c.fill-lent.result c.free_all.new.self none c.fill-lent.ensures c.free_all.ensures.desk c.free_all.ensures.lent c.free_all.ensures.freed in
    if_err c.from_residual.result _ (subst (λ (s : StationState). (k : ℕ) × Reserves g.J.Naming.names s c.args.size k c.free_all.new.self) c.parcel.ensures.same some)
