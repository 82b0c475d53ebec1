use Rattle.std.proofs.Common.{ap, ◌∙◌}
use Rattle.pool_fabric.specs.Pages.{PageState}
use Rattle.pool_fabric.proofs.KeepsLedger.{learns}
use Rattle.pool_fabric.proofs.ledger.Ledger.close.Goals as goal

pub len_as-requires-clause-rule : goal.len_as-requires-clause-rule
len_as-requires-clause-rule g c = learns _ _ (ap (λ (p : PageState). p.parts) c.page.view_is ∙ c.requires.1)
