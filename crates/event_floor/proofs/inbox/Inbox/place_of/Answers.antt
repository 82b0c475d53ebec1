use Rattle.std.proofs.Common.{rules, ltb, arith}
use Rattle.std.proofs.lemmas.Bool.{ltb-true, ltb-false}
use Rattle.std.proofs.lemmas.List.Sorted.{IsPartitionPoint-from_clause, IsPartitionedBy-ltb}
use Rattle.event_floor.specs.Inboxes.{QueuedState}
use Rattle.event_floor.proofs.RiseLaws.{rises_weakly}
use Rattle.event_floor.proofs.inbox.Inbox.place_of.Goals as goal

pub returns : goal.returns
returns c =
    let point = IsPartitionPoint-from_clause (λ (p : QueuedState). ltb p.batch.number c.args.number) c.self.inside.batches.items c.partition_point.result c.partition_point.ensures.partitioned
    (IsPartitionedBy-ltb (λ (p : QueuedState). p.batch.number) c.self.inside.batches.items c.args.number (rises_weakly c.self.inside.batches.items c.self.invariant)) (λ a r f' k. search rules) in
    rw (← c.self.view_is) (record {
      below = λ k d l. ltb-true _ _ (point.0 k d (omega arith) l);
      above = λ k d l m. ltb-false _ _ (point.1 k d l m);
      rising = c.self.invariant;
    })
