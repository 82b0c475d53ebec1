use Rattle.std.proofs.Common.{◌≡◌, arith, sym}
use Rattle.std.specs.Prelude.{Some, nat_eq}
use Rattle.std.specs.Map.{lookup}
use Rattle.event_floor.proofs.UnlinkedLaws.{removed_counted, sent_some_of, sender_within, counted_read}
use Rattle.event_floor.proofs.unlinked.UnlinkedIndex.remove.Goals as goal

pub overflow_sub-index_mut : goal.overflow_sub-index_mut
overflow_sub-index_mut c =
    let found : lookup (nat_eq c.args.number) c.self.inside.by_number.entries ≡ Some c.in_ok-entry.entry = sym c.in_ok-entry.ensures.value in
    let there = sender_within _ _ c.args.number c.in_ok-entry.entry c.self.invariant found in
    let is = counted_read c.self.inside.by_sender.items c.self.inside.by_number.entries c.in_ok-entry.entry.sender c.index_mut.result.now c.self.invariant there c.index_mut.ensures.value in
    let some = sent_some_of c.args.number c.in_ok-entry.entry c.self.inside.by_number.entries found in
    omega (arith, is, some)

pub invariant_of-self-2 : goal.invariant_of-self-2
invariant_of-self-2 c =
    let found : lookup (nat_eq c.args.number) c.self.inside.by_number.entries ≡ Some c.in_ok-entry.entry = sym c.in_ok-entry.ensures.value in
    let there = sender_within _ _ c.args.number c.in_ok-entry.entry c.self.invariant found in
    removed_counted _ c.self.inside.by_number.entries _ c.args.number c.in_ok-entry.entry _ c.self.invariant there c.index_mut.ensures.value c.in_ok-entry.ensures.entries found
    c.in_ok-entry.ensures.unique c.in_ok-entry.ensures.updates.0
