use Rattle.std.proofs.Common.{◌<◌, ◌≡◌, ◌∙◌, length, arith, sym, subst, IsPermutation, ◌∷◌}
use Rattle.std.specs.Prelude.{Option, None, nat_eq}
use Rattle.std.specs.HashMap.{PutsEntry}
use Rattle.std.specs.Map.{lookup}
use Rattle.event_floor.specs.declared.unlinked.Unlinked.{Unlinked}
use Rattle.event_floor.specs.Unlinked.{UnlinkedState, unlinked_of}
use Rattle.event_floor.proofs.UnlinkedLaws.{sent_within, counted_read, added_counted}
use Rattle.event_floor.proofs.unlinked.UnlinkedIndex.add.Goals as goal

pub overflow_add-index_mut : goal.overflow_add-index_mut
overflow_add-index_mut c =
    let there : c.args.entry.sender < length c.self.inside.by_sender.items = subst (λ (z : UnlinkedState). c.args.entry.sender < z.desks) (sym c.self.view_is) c.requires.sender in
    let is = counted_read c.self.inside.by_sender.items c.self.inside.by_number.entries c.args.entry.sender c.index_mut.result.now c.self.invariant there c.index_mut.ensures.value in
    let few = sent_within c.args.entry.sender c.self.inside.by_number.entries in
    let len = c.len-count.ensures.len in
    let small = c.len-count.ensures.small in
    omega (arith, is, few, len, small)

pub invariant_of-self-2 : goal.invariant_of-self-2
invariant_of-self-2 c =
    let there : c.args.entry.sender < length c.self.inside.by_sender.items = subst (λ (z : UnlinkedState). c.args.entry.sender < z.desks) (sym c.self.view_is) c.requires.sender in
    let absent : lookup (nat_eq c.args.number) c.self.inside.by_number.entries ≡ None = subst (λ (z : UnlinkedState). unlinked_of z c.args.number ≡ None) (sym c.self.view_is) c.requires.absent in
    let puts : IsPermutation ((c.args.number, c.args.entry) ∷ c.self.inside.by_number.entries) c.insert.new.self.entries =
    subst (λ (z : Option Unlinked). PutsEntry nat_eq c.self.inside.by_number c.insert.new.self c.args.number c.args.entry z)
    (c.in_ok-insert.ensures.old ∙ absent) c.in_ok-insert.ensures.entries in
    added_counted _ c.self.inside.by_number.entries _ c.args.number c.args.entry _ c.self.invariant there c.index_mut.ensures.value puts
    c.in_ok-insert.ensures.unique c.in_ok-insert.ensures.updates.0
