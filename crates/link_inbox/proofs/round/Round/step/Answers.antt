use Rattle.std.proofs.Common.{◌≡◌, ℕ, ◌+◌, ◌-◌, ◌*◌, ◌/◌, ◌%◌, sym, ap, subst, ◌∙◌, arith}
use mathlib.Core.Option.{some}
use lib.ListN.{get_elem?}
use Rattle.std.specs.Prelude.{slice_index_or}
use Rattle.std.specs.Mem.Slots.{slots_items}
use Rattle.link_inbox.specs.Remains.{ahead, row}
use Rattle.link_inbox.proofs.Rounds.{reads, if_some}
use Rattle.link_inbox.proofs.round.Round.step.Goals as goal

pub returns-clause-first : goal.returns-clause-first
returns-clause-first c = let old = c.args.self.now in let k : ℕ = old.next in let t : ℕ = slice_index_or old.turns (k / 16) 0 in let took = c.take.ensures in let items = slots_items old.closed.slots in
    let found = c.into_batch-found.result in
    reads items t k found (subst (λ (z : ℕ). get_elem? items z ≡ some found) c.spot_of-at.ensures (took.value ∙ ap some (sym c.into_batch-found.ensures)))
    ∙ ap (λ l. ahead found (row l (k / 16 * 16 + 1) t (16 - (k + 1 - k / 16 * 16)))) (sym took.others.0)

pub returns-clause-owner : goal.returns-clause-owner
returns-clause-owner c = let old = c.args.self.now in let took = c.take.ensures in let k : ℕ = old.next in let t : ℕ = slice_index_or old.turns (k / 16) 0 in let at : ℕ = c.spot_of-at.result in
    let is : at ≡ k / 16 * 16 + 1 + (t + k % 16) % 16 = c.spot_of-at.ensures in let whose : (at - 1) / 16 ≡ k / 16 = omega arith in
    let found = c.into_batch-found.result in
    if_some (λ b. b.sender ≡ k / 16) found (λ b e. old.owned at b (took.value ∙ ap some (sym c.into_batch-found.ensures ∙ e)) ∙ whose)
