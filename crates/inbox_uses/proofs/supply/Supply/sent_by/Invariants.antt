use Rattle.std.proofs.Common.{◌≡◌}
use Rattle.inbox_uses.proofs.supply.Supply.sent_by.Given as goal

abbrev pub invariant-loop : goal.invariant-loop
invariant-loop l = (l.desk.number ≡ l.initial.desk.number) × (l.desk.digits ≡ l.initial.desk.digits)
