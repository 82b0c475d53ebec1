use Rattle.std.proofs.Common.{rules, ◌≡◌, ℕ, ◌+◌, ◌*◌, ◌/◌, ◌<◌, ◌≤◌, ◌∷◌, sym, refl, ap, subst, ◌∙◌, arith}
use mathlib.Core.Logic.{dite}
use native.Mathlib.Decide.{ℕ_discrete}
use Rattle.link_inbox.specs.Remains.{ahead}
use Rattle.link_inbox.specs.Reading.{left_in}
use Rattle.link_inbox.proofs.round.Round.next.Goals as goal

pub returns-in-Some-clause-some : goal.returns-in-Some-clause-some
returns-in-Some-clause-some c = let i = c.loop-self.invariant in let n : ℕ = c.loop-self.self.next / 16 in let told = c.step.ensures in let lt = c.loop-self-test.true in let who : c.in-Some.batch.sender ≡ n = c.in-Some.ensures.owner in (
  omega arith,
  ap (λ (z : ℕ). left_in c.args.self.now z) who ∙ (sym (i.1 n) ∙ (told.first ∙ (ap (λ x. ahead x (left_in c.step.new.self n)) c.in-Some.is ∙ ap (λ (z : ℕ). c.in-Some.batch ∷ left_in c.step.new.self z) (sym who)))),
  (λ k ne. told.others k (λ e. ne (e ∙ sym who)) ∙ i.1 k),
)

pub loop-self-preserved : goal.loop-self-preserved
loop-self-preserved c = let i = c.loop-self.invariant in let n : ℕ = c.loop-self.self.next / 16 in let told = c.step.ensures in (
  told.moved.1 ∙ i.0,
  λ s. dite (ℕ_discrete s n)
      (λ e. ap (λ (z : ℕ). left_in c.step.new.self z) e ∙ (sym (ap (λ x. ahead x (left_in c.step.new.self n)) c.in-None.is) ∙ (sym told.first ∙ (ap (λ (z : ℕ). left_in c.loop-self.self z) (sym e) ∙ i.1 s))))
      (λ ne. told.others s ne ∙ i.1 s),
)
