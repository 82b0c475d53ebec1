use Rattle.std.proofs.Common.{◌+◌, length, sym, ap, ◌∙◌, subst}
use Rattle.slot_balance.specs.Weights.{weigh}
use Rattle.pool_fabric.specs.Pages.{PageState}
use Rattle.pool_fabric.specs.Accounts.{of_part, of_entry}
use Rattle.pool_fabric.specs.Stocks.{AreTold}
use Rattle.pool_fabric.specs.Whole.{IsEachDesk}
use Rattle.pool_fabric.specs.Gathered.{GatheredState}
use Rattle.pool_fabric.proofs.Gathers.{finishes, frees_no_more}
use Rattle.pool_fabric.proofs.Noted.{noted}
use Rattle.pool_fabric.proofs.gathered.Gathered.finish.Goals as goal

pub returns-clause-whole : goal.returns-clause-whole
returns-clause-whole g c =
    let parts = c.into_parts-parts.result.0.items in
    finishes _ _ c.close.new.page parts c.self.invariant
    (ap (λ (s : GatheredState). s.columns) c.self.view_is ∙ c.requires.columns.0) (ap (λ (s : GatheredState). length s.takes) c.self.view_is ∙ c.requires.columns.1)
    c.close.ensures.page c.close.ensures.all
    (λ w. ap (λ (s : GatheredState). weigh (of_entry w) s.page.gave + weigh (of_part w) parts) c.self.view_is
    ∙ ap (λ l. weigh (of_entry w) c.args.self.page.gave + weigh (of_part w) l) c.into_parts-parts.ensures.0
    ∙ c.requires.chunks w)

pub returns-clause-bounded : goal.returns-clause-bounded
returns-clause-bounded g c = frees_no_more c.self.inside.page c.close.new.page c.self.inside.lent c.self.inside.freed c.self.invariant.loans c.close.ensures.page c.close.ensures.bounded

pub returns-clause-desks : goal.returns-clause-desks
returns-clause-desks g c = subst (λ k. IsEachDesk k c.self.inside.desks.items) (ap (λ (s : GatheredState). length s.rows) c.self.view_is ∙ c.requires.columns.2) c.self.invariant.desks

pub returns-clause-drawn : goal.returns-clause-drawn
returns-clause-drawn g c =
    let page = c.close.ensures.page ∙ ap (λ (s : GatheredState). s.page) c.self.view_is in
    noted c.self.inside.desks.items c.close.new.page.gave c.close.new.page.got c.into_parts-parts.result.1
    (subst (λ (p : PageState). AreTold c.into_parts-parts.result.1 p.gave) (sym page) (subst (λ l. AreTold l c.args.self.page.gave) (sym c.into_parts-parts.ensures.1) c.requires.told))
    c.close.ensures.all
    (λ w. c.self.invariant.chunks w ∙ ap (λ (p : PageState). weigh w p.got) (sym c.close.ensures.page))
