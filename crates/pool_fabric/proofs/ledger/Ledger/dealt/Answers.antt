use Rattle.std.proofs.Common.{◌<◌, sym, ap, ◌∙◌, subst, arith}
use Rattle.pool_fabric.specs.declared.ledger.Hand.{Hand}
use Rattle.pool_fabric.specs.Pages.{PageState}
use Rattle.pool_fabric.proofs.KeepsLedger.{spares, merges, deals}
use Rattle.pool_fabric.proofs.ledger.Ledger.dealt.Goals as goal

pub another-spare-requires-clause-rule : goal.another-spare-requires-clause-rule
another-spare-requires-clause-rule g c = spares _ _ (subst (λ n. 0 < n) (sym (ap (λ (p : PageState). p.parts) c.book.view_is)) c.requires.book.2)

pub absorb-requires-clause-rule : goal.absorb-requires-clause-rule
absorb-requires-clause-rule g c = let h = c.another-spare.ensures.rule in merges _ _ _ _ (subst (λ (x : Hand). 0 < x.parts) (sym h.0) (subst (λ n. 0 < n) (sym (ap (λ (p : PageState). p.parts) c.book.view_is)) c.requires.book.2))

pub another-requires-clause-rule : goal.another-requires-clause-rule
another-requires-clause-rule g c =
    let all = ap (λ (x : Hand). x.parts) c.absorb.ensures.rule in
    let book = ap (λ (x : Hand). x.parts) c.another-spare.ensures.rule.0 in
    let mine = ap (λ x. x.me.view.client.parts) c.replace-mine.ensures.value in
    let one = ap (λ (p : PageState). p.parts) c.page.view_is ∙ c.requires.page.1 in
    let some_part = subst (λ n. 0 < n) (sym (ap (λ (p : PageState). p.parts) c.book.view_is)) c.requires.book.2 in
    deals _ g.K.Dealing.drawn _ (omega arith)
