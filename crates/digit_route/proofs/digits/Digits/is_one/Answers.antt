use Rattle.std.proofs.Common.{◌≡◌, ◌≤◌, arith}
use Rattle.std.proofs.lemmas.Bool.Decides.{nat_tests}
use Rattle.region_cut.specs.Classes.{bits_of}
use Rattle.digit_route.specs.Digits.{IsScheme}
use Rattle.digit_route.proofs.DigitLaws.{count-one, one-covers}
use Rattle.digit_route.proofs.digits.Digits.is_one.Goals as goal

pub returns : goal.returns
returns c =
    let scheme : IsScheme c.args.self = rw c.self.view_is at c.self.invariant.0 in (
      λ wide. let narrow : c.args.self.bits ≤ c.args.self.width = rw (← c.self.view_is) (grind (arith, nat_tests)) in count-one c.args.self scheme narrow,
      λ one. let narrow : bits_of c.self.inside.profile ≤ c.self.inside.width = rw (← c.self.view_is) at (one-covers c.args.self scheme one) in
          let bits : c.bits.result ≡ bits_of c.self.inside.profile = c.bits.ensures in grind (arith, nat_tests),
    )
