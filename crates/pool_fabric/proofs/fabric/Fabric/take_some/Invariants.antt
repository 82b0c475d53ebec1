use Rattle.std.proofs.Common.{◌≡◌, ◌<◌, length}
use Rattle.slot_balance.specs.Limits.{most_handled}
use Rattle.slot_balance.specs.Posts.{TakesSome, buffers_in}
use Rattle.pool_fabric.proofs.fabric.Fabric.take_some.Given as goal

abbrev pub invariant-loop-taken : goal.invariant-loop-taken
invariant-loop-taken g l =
    record {
      taken :
          TakesSome l.initial.desk (record { inbox = g.T.Receiver.inbox l.initial.seat; senders = g.T.Receiver.senders l.initial.seat; taken = g.T.Receiver.taken l.initial.seat })
          l.taken l.desk (record { inbox = g.T.Receiver.inbox l.seat; senders = g.T.Receiver.senders l.seat; taken = g.T.Receiver.taken l.seat });
      counted : l.handled ≡ length (buffers_in taken.batches);
      few : l.handled < most_handled;
      number : l.desk.number ≡ l.initial.desk.number;
      digits : l.desk.digits ≡ l.initial.desk.digits;
      inbox : g.T.Receiver.inbox l.seat ≡ g.T.Receiver.inbox l.initial.seat;
    }
