use Rattle.std.proofs.Common.{◌^◌, ◌<◌, sym, ap, ◌∙◌, subst}
use Rattle.pool_fabric.specs.Pages.{lent_on}
use Rattle.pool_fabric.proofs.Steps.{lends_keeps}
use Rattle.pool_fabric.proofs.held.HeldStation.alloc_class.Goals as goal

pub new-requires-clause-owner : goal.new-requires-clause-owner
new-requires-clause-owner g c =
    let allocs = rw (c.deref_mut-2.ensures.value, c.deref_mut.ensures.value) at c.in_ok-buf.ensures in
    subst (λ n. n < 2 ^ g.J.Naming.names.digits.bits) (sym allocs.0.owner_is) c.self.invariant.seated.in_range

pub invariant_of-self-2 : goal.invariant_of-self-2
invariant_of-self-2 g c = lends_keeps _ _ c.args.class c.in_ok-buf.buf _ _ _ c.self.invariant (rw (c.deref_mut-2.ensures.value, c.deref_mut.ensures.value) at c.in_ok-buf.ensures) (c.lend-receipt.ensures.page ∙ ap (lent_on c.self.inside.page) c.slot.ensures) c.and-self-inside.ensures
