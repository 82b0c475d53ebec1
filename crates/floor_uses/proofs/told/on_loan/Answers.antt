use Rattle.std.proofs.Common.{IsPermutation, sym, subst}
use Rattle.pool_machine.specs.State.{OnLoan, slots_at}
use Rattle.floor_uses.proofs.LentFloors.{if_ok, slots_told}
use Rattle.floor_uses.proofs.told.on_loan.Goals as goal

pub returns : goal.returns
returns c =
    let t = slots_told c.floors_list_slots.ensures c.args.floor.now c.chunk_count-chunks.ensures.shows in
    if_ok c.lent.result (λ slots e. (t.0, t.1, t.2, subst (λ xs. IsPermutation xs (slots_at t.0 OnLoan)) (sym e) t.3.lent)) c.lent.ensures
