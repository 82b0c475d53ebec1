use Rattle.std.proofs.Common.{◌≡◌, ◌<◌, length}
use Rattle.slot_balance.specs.Limits.{most_handled}
use Rattle.slot_balance.specs.Posts.{TakesSome, buffers_in}
use Rattle.seated_desk.proofs.moving.take_some.Given as goal

abbrev pub invariant-loop-taken : goal.invariant-loop-taken
invariant-loop-taken l = record {
  taken : TakesSome l.initial.desk l.initial.seat l.taken l.desk l.seat;
  counted : l.handled ≡ length (buffers_in taken.batches);
  few : l.handled < most_handled;
  number : l.desk.number ≡ l.initial.desk.number;
  digits : l.desk.digits ≡ l.initial.desk.digits;
  inbox : l.seat.inbox ≡ l.initial.seat.inbox;
}
