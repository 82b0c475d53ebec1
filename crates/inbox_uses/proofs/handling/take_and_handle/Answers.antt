use Rattle.std.proofs.Common.{◌≡◌, ap, rules, subst}
use Rattle.digit_route.specs.Digits.{IsScheme}
use Rattle.pool_desk.specs.Desks.{DeskState}
use Rattle.inbox_uses.proofs.Handled.{handled, few}
use Rattle.inbox_uses.proofs.handling.take_and_handle.Goals as goal

pub returns-in_err-batch-clause-few : goal.returns-in_err-batch-clause-few
returns-in_err-batch-clause-few g c =
    few _ _ _ (subst IsScheme c.digits.ensures c.count-digits.ensures.scheme) c.number-number.ensures.in_range c.number-number.ensures.cached

pub returns-clause-cached : goal.returns-clause-cached
returns-clause-cached g c =
    handled _ _ _ _ c.requires.place c.in_ok-batch.ensures.batch.1 c.sender-sender.ensures.routed c.handle.ensures.parts c.number-number.ensures.cached

pub returns-clause-few : goal.returns-clause-few
returns-clause-few g c =
    let number = ap (λ (d : DeskState). d.number) c.handle.ensures.parts.same in
    let digits = ap (λ (d : DeskState). d.digits) c.handle.ensures.parts.same in
    few _ _ _ (rw digits (subst IsScheme c.digits.ensures c.count-digits.ensures.scheme)) (rw (digits, number) c.number-number.ensures.in_range) (returns-clause-cached g c)
