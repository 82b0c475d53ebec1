use Rattle.std.proofs.Common.{[], ◌∷◌, ◌-◌, length, map, sym, ap, ◌∙◌, subst, arith, length-append}
use Rattle.pool_fabric.specs.Names.{box_at}
use Rattle.pool_fabric.specs.Pages.{PageState, new_page}
use Rattle.pool_fabric.specs.Gathered.{taking_of}
use Rattle.pool_fabric.specs.Opened.{AreColumns}
use Rattle.slot_balance.proofs.Posting.{length-mapped}
use Rattle.slot_balance.proofs.Rows.{map-snoc}
use Rattle.pool_fabric.proofs.Opens.{take_popped}
use Rattle.pool_fabric.proofs.shelving.shelved.Goals as goal

pub new_station-requires-clause-take : goal.new_station-requires-clause-take
new_station-requires-clause-take g c =
    let taking = taking_of g.T.Receiver.inbox g.T.Receiver.senders g.T.Receiver.taken in
    let rest = c.pop.new.self in
    let popped = ap (map taking) c.in-Some.ensures.items ∙ map-snoc taking rest.items c.in-Some.take in
    let t = take_popped g.J.Naming.names _ (map taking rest.items) (taking c.in-Some.take) c.loop-take.invariant.takes popped in
    let number = c.len-number.ensures ∙ rest.ok.0 in
    (t.1.0 ∙ ap (box_at g.J.Naming.names) (length-mapped taking rest.items ∙ sym number), t.1.1, t.1.2)

pub loop-take-preserved : goal.loop-take-preserved
loop-take-preserved g c =
    let i = c.loop-take.invariant in
    let taking = taking_of g.T.Receiver.inbox g.T.Receiver.senders g.T.Receiver.taken in
    let rest = c.pop.new.self in
    let popped = ap (map taking) c.in-Some.ensures.items ∙ map-snoc taking rest.items c.in-Some.take in
    let t = take_popped g.J.Naming.names _ (map taking rest.items) (taking c.in-Some.take) i.takes popped in
    let number = c.len-number.ensures ∙ rest.ok.0 in
    let left = c.split-page.ensures.left in
    let parts = ap (λ (p : PageState). p.parts) left in
    let put = ap length c.push.ensures in
    let put_one = length-append c.loop-take.shelf (c.in_ok-station.station ∷ []) in
    let takes = ap length c.in-Some.ensures.items in
    let takes_one = length-append rest.items (c.in-Some.take ∷ []) in
    let on_shelf = i.shelf in
    let all = i.parts in
    let few = c.requires.count.0 in
    record {
      takes = t.0;
      columns = subst (λ k. AreColumns g.J.Naming.names k c.in_ok-seats.field-0.columns.items) number c.in_ok-seats.ensures.columns.0;
      columns_count = c.in_ok-seats.ensures.columns.1 ∙ i.columns_count;
      shelf = omega arith;
      book = left ∙ ap (λ (p : PageState). record p { parts = c.loop-take.book.parts - 1 }) i.book ∙ ap (new_page c.args.ledger.now g.J.Naming.names.loans) (sym parts);
      parts = omega arith;
    }
