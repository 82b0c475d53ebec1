-- The table of slots, tried at each class.
use Rattle.std.proofs.Common.{◌≡◌, ℕ, ◌<◌, true, get_or, refl, arith}
use Rattle.std.specs.Prelude.{◌==◌}
use Rattle.std.proofs.lemmas.Bool.Decides.{nat_tests}
use Rattle.region_cut.specs.Classes.{slots_of}
use Rattle.region_cut.specs.declared.class.TheConstants.{SLOTS}
use Rattle.region_cut.proofs.ByStep.{tried}

pub slots_is : (k : ℕ) → k < 20 → get_or SLOTS k 0 ≡ slots_of k
slots_is k h = so (get_or SLOTS k 0) (slots_of k) (tried (λ j. get_or SLOTS j 0 == slots_of j) 20 refl k h)
  where
    so : (x y : ℕ) → (x == y) ≡ true → x ≡ y
    so x y told = grind (arith, nat_tests)
