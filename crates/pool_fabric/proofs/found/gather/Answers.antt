use Rattle.std.proofs.Common.{refl, sym, ap, ◌∙◌, arith, subst}
use Rattle.pool_fabric.specs.Pages.{PageState}
use Rattle.slot_balance.specs.Weights.{weigh}
use Rattle.pool_fabric.specs.Accounts.{of_entry}
use Rattle.pool_fabric.specs.Stocks.{AreTold}
use Rattle.pool_fabric.specs.Faults.{IsGatherFault}
use Rattle.pool_fabric.proofs.AllOf.{same_all}
use Rattle.pool_fabric.proofs.Losses.{at_most_once}
use Rattle.pool_fabric.proofs.Lacking.{lacks_of, passed_on}
use Rattle.slot_balance.proofs.Posting.{get_map, length-mapped}
use Rattle.pool_fabric.proofs.found.gather.Goals as goal

pub close_all-requires : goal.close_all-requires
close_all-requires g c =
    let e = c.in_ok-gathered.ensures in
    let boxes = c.args.fabric.boxes in
    let count = sym (length-mapped g.M.Mailbox.id c.args.fabric.inboxes.items) ∙ boxes.count in
    let len = c.len.ensures ∙ c.args.fabric.inboxes.ok.0 in
    λ k. (
      (refl, tt),
      (
        (e.columns.0 ∙ len, e.columns.1 ∙ len, e.columns.2 ∙ len ∙ count),
        (λ j i at. (boxes.each j (g.M.Mailbox.id i) (get_map g.M.Mailbox.id c.args.fabric.inboxes.items j i at)).0),
      ),
    )

pub finish-requires-clause-page : goal.finish-requires-clause-page
finish-requires-clause-page g c =
    (c.args.fabric.ledger_is, ap (λ (p : PageState). p.parts) c.in-Ok-close_all.ensures.ended.3 ∙ c.in_ok-gathered.ensures.page.0)

pub finish-requires-clause-chunks : goal.finish-requires-clause-chunks
finish-requires-clause-chunks g c w =
    let e = c.in_ok-gathered.ensures in
    let z = c.in-Ok-close_all.ensures.ended in
    let gave = ap (λ (p : PageState). weigh (of_entry w) p.gave) z.3 in
    let kept = ap (weigh (of_entry w)) e.page.1 in
    let all = c.stock.invariant.chunks w in
    omega arith

pub finish-requires-clause-told : goal.finish-requires-clause-told
finish-requires-clause-told g c =
    subst (λ l. AreTold c.stock.inside.stock.drawn l) (sym (ap (λ (p : PageState). p.gave) c.in-Ok-close_all.ensures.ended.3 ∙ c.in_ok-gathered.ensures.page.1)) c.stock.invariant.told

pub returns-in_err-gathered-clause-missing : goal.returns-in_err-gathered-clause-missing
returns-in_err-gathered-clause-missing g c =
    let count = sym (length-mapped g.M.Mailbox.id c.args.fabric.inboxes.items) ∙ c.args.fabric.boxes.count in
    passed_on (IsGatherFault g.J.Naming.names.count c.args.held.items) c.from_residual.result c.in_err-gathered.field-0.0 c.from_residual.ensures
    (lacks_of _ _ c.in-Ok.stations.items c.args.held.items c.in-Ok.ensures.held.0 _ (c.len.ensures ∙ c.args.fabric.inboxes.ok.0 ∙ count) c.in-Ok.ensures.held.1 (λ a l. (c.in-Ok.ensures.numbers a l).1) c.in_err-gathered.ensures.fault)

pub returns-clause-stations : goal.returns-clause-stations
returns-clause-stations g c =
    let h = c.in-Ok.ensures.held in
    let z = c.in-Ok-close_all.ensures.same in
    let f = c.finish.ensures.same in
    (h.0, same_all _ _ _ _ _ _ _ _ h.1 (sym (f.0 ∙ z.0)) (sym (f.1 ∙ z.1)) (sym (f.2 ∙ z.2)) c.in_ok-gathered.ensures.stations)

pub returns-clause-once : goal.returns-clause-once
returns-clause-once g c =
    let f = c.finish.result in
    at_most_once f.desks.items f.batches.items f.lent f.freed f.parts.items g.J.Naming.names.chunks f.drawn c.finish.ensures.whole c.finish.ensures.drawn c.finish.ensures.bounded c.stock.invariant.once
