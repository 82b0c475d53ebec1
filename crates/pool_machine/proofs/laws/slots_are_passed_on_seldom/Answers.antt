use Rattle.std.proofs.Common.{◌<◌, subst}
use Rattle.digit_route.specs.Digits.{count}
use Rattle.pool_machine.specs.State.{opening}
use Rattle.pool_machine.specs.Forwards.{forwards}
use Rattle.pool_machine.proofs.Numbers.{run_numbers}
use Rattle.pool_machine.proofs.Orderly.{run_orderly}
use Rattle.pool_machine.proofs.laws.slots_are_passed_on_seldom.Goals as goal

pub returns : goal.returns
returns c desks chunks digits limit i l requests answers new g slot =
    subst (λ s. forwards (opening desks chunks digits limit) requests answers slot 0 < count s)
    (run_numbers requests answers (opening desks chunks digits limit) new g).digits
    ((run_orderly desks chunks digits limit i l requests answers new g).few slot)
