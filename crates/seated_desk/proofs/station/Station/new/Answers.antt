use Rattle.slot_balance.proofs.Balanced.{new_balances}
use Rattle.seated_desk.proofs.station.Station.new.Goals as goal

pub invariant_of-result-clause-balance : goal.invariant_of-result-clause-balance
invariant_of-result-clause-balance c =
    new_balances c.args.desk _ c.args.take.taken _ _ c.requires.new.0 c.requires.new.2 c.requires.new.1 c.requires.unused.1 c.requires.unused.0 c.new.ensures c.new-2.ensures
