use Rattle.std.proofs.Common.{rules, ◌≡◌, ℕ, ◌+◌, ◌*◌, ◌<◌, ◌≤◌, true, false, get_or, sym, refl, ap, subst, ◌∙◌, arith}
use mathlib.Core.Logic.{dite}
use native.Mathlib.Decide.{ℕ_discrete}
use Rattle.std.specs.Mem.Slots.{slots_filled, slots_len}
use Rattle.link_inbox.proofs.Rounds.{reached}
use Rattle.link_inbox.proofs.round.Round.drop.Goals as goal

pub free-requires : goal.free-requires
free-requires c = λ k lt. let i = c.loop-at.invariant in let filled = slots_filled c.loop-at.closed.slots in let over = c.loop-at-test.false in let len = i.0 in
    dite (ℕ_discrete k 0) (λ e. subst (λ (z : ℕ). get_or filled z false ≡ false) (sym e) i.4)
    (λ ne. let r = reached c.args.self.turns c.args.self.senders k (omega arith) (omega arith) in subst (λ (z : ℕ). get_or filled z false ≡ false) r.2 (i.5 r.0 (let a = r.1 in omega arith)))
