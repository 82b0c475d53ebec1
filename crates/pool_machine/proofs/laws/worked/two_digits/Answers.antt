use Rattle.digit_route.specs.Digits.{digit, count, common_up_to, common}
use Rattle.pool_machine.proofs.Checks.{gives, never}
use Rattle.std.proofs.Common.{refl}
use Rattle.pool_machine.proofs.laws.worked.two_digits.Goals as goal

pub returns-clause-answers : goal.returns-clause-answers
unfolding digit count common_up_to common
returns-clause-answers c = gives _ _ refl

pub returns-clause-never : goal.returns-clause-never
unfolding digit count common_up_to common
returns-clause-never c = never _ _ refl refl
