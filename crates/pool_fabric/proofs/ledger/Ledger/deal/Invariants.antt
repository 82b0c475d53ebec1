use Rattle.pool_fabric.specs.Pages.{drawn_for}
use Rattle.pool_fabric.proofs.ledger.Ledger.deal.Given as goal

abbrev pub ghosts-dealt : goal.ghosts-dealt
ghosts-dealt a = record { drawn = drawn_for a.chunk a.class }
