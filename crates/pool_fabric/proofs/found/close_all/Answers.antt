use Rattle.std.proofs.Common.{[], ◌∷◌, length, ap, ◌∙◌, arith, length-append}
use Rattle.std.specs.Prelude.{slice_get}
use Rattle.slot_balance.proofs.Rows.{get_front}
use Rattle.pool_fabric.proofs.found.close_all.Goals as goal

pub loop-inbox-preserved : goal.loop-inbox-preserved
loop-inbox-preserved g c =
    let i = c.loop-inbox.invariant in
    let e = c.in-Some.ensures.items in
    let z = c.in_ok-gathered.ensures in
    let l = ap length e in
    let m = length-append c.pop.new.self.items (c.in-Some.inbox ∷ []) in
    let a = z.columns in
    let b = z.takes in
    let p = i.columns in
    let q = i.takes in
    record {
      columns = omega arith;
      takes = omega arith;
      rows = z.rows ∙ i.rows;
      boxes = λ k x at. i.boxes k x (ap (λ s. slice_get s k) e ∙ get_front c.pop.new.self.items (c.in-Some.inbox ∷ []) k x at);
      page = z.page ∙ i.page;
      desks = z.desks ∙ i.desks;
      lent = z.lent ∙ i.lent;
      freed = z.freed ∙ i.freed;
    }
