use Rattle.std.proofs.Common.{rules, All}
use Rattle.std.proofs.lemmas.List.Elements.{All-push}
use Rattle.inbox_uses.specs.Supplied.{IsSupplied}
use Rattle.inbox_uses.proofs.supply.Supply.batches.Goals as goal

pub loop-number-preserved : goal.loop-number-preserved
loop-number-preserved c =
    let each : All (IsSupplied c.args.sender) c.push_reserved.new.self.items =
    rw (c.push_reserved.ensures.items) (All-push (IsSupplied c.args.sender) _ _ c.loop-number.invariant.each (search rules)) in
    record { desk = search rules; made = search rules; room = search rules; each = each }
