use Rattle.std.proofs.Common.{◌<◌, sym, ap, subst}
use Rattle.pool_fabric.specs.Pages.{PageState}
use Rattle.pool_fabric.proofs.KeepsLedger.{forks}
use Rattle.pool_fabric.proofs.ledger.Ledger.split.Goals as goal

pub another-requires-clause-rule : goal.another-requires-clause-rule
another-requires-clause-rule c = forks _ _ (subst (λ n. 1 < n) (sym (ap (λ (p : PageState). p.parts) c.page.view_is)) c.requires.1)
