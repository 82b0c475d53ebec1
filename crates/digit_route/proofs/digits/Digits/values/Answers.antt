use Rattle.std.proofs.Common.{◌^◌, ◌≤◌, arith}
use Rattle.std.proofs.lemmas.Nat.{one_shl}
use Rattle.std.proofs.Math.Pow.{pow_mono}
use Rattle.digit_route.proofs.digits.Digits.values.Goals as goal

pub returns-clause-high : goal.returns-clause-high
returns-clause-high c =
    let narrow : 2 ^ c.self.inside.width ≤ 2 ^ 6 = pow_mono c.self.invariant.0.width_high in
    rw (one_shl c.self.inside.width 64 (omega (arith, c.self.invariant.0.width_high))) (omega (arith, narrow))
