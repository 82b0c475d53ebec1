use Rattle.std.proofs.Common.{◌≡◌, ◌≤◌, sym, ap, subst, ◌∙◌}
use Rattle.region_cut.specs.Classes.{largest_of, IsLeastFor}
use Rattle.region_cut.proofs.ByStep.{least_of}
use Rattle.digit_route.specs.Digits.{Scheme}
use Rattle.digit_route.specs.Profiles.{profile_of, profile_of-bits_of}
use Rattle.digit_route.proofs.digits.Digits.class_for.Goals as goal

pub returns : goal.returns
returns c =
    let p = c.self.inside.profile in
    let same : profile_of c.args.self.bits ≡ p = ap (λ (s : Scheme). profile_of s.bits) (sym c.self.view_is) ∙ profile_of-bits_of p in
    let most : c.args.n ≤ largest_of p = rw c.self.invariant.2 at c.if-n-self.false in
    let is = least_of p c.args.n c.least_for.result most c.least_for.ensures.holds c.least_for.ensures.least in
    subst (λ q. IsLeastFor q c.args.n c.least_for.result) (sym same) is
