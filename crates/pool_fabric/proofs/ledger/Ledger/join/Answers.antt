use Rattle.std.proofs.Common.{◌<◌, sym, ap, subst}
use Rattle.pool_fabric.specs.Pages.{PageState}
use Rattle.pool_fabric.proofs.KeepsLedger.{merges}
use Rattle.pool_fabric.proofs.ledger.Ledger.join.Goals as goal

pub absorb-requires-clause-rule : goal.absorb-requires-clause-rule
absorb-requires-clause-rule c = merges _ _ _ _ (subst (λ n. 0 < n) (sym (ap (λ (p : PageState). p.parts) c.page.view_is)) c.requires.chunks.2)
