-- The table of classes by steps of 16 bytes, tried at each step.
use Rattle.std.proofs.Common.{◌≡◌, ℕ, zero, suc, ◌+◌, ◌-◌, ◌*◌, ◌/◌, ◌<◌, ◌≤◌, Bool, true, false, ◌||◌, get_or, refl, ap, ◌∙◌, arith, inl, inr}
use Rattle.std.specs.Prelude.{nat_le, nat_lt, ◌==◌}
use Rattle.std.specs.List.{list_all, range_with_len}
use Rattle.std.proofs.lemmas.Bool.{true_from_ne_false, cases_lt}
use Rattle.std.proofs.lemmas.Bool.Decides.{nat_tests}
use Rattle.std.proofs.lemmas.List.Folds.{list_all_at}
use Rattle.std.proofs.lemmas.List.FromFn.{get_or-range_with_len, length-range_with_len}
use Rattle.region_cut.specs.Classes.{size_of, class_count, largest_of, IsLeastFor, NoClassFor}
use Rattle.region_cut.specs.declared.profile.Profile.{Profile}
use Rattle.region_cut.specs.declared.profile.Profile.TheVariants.{Pool, Pool2}
use Rattle.region_cut.specs.declared.class.TheConstants.{CLASS_BY_STEP}

-- a test that was tried at each number below n
pub tried : (p : ℕ → Bool) (n : ℕ) → list_all p (range_with_len 0 n) ≡ true → (i : ℕ) → i < n → p i ≡ true
tried p n all i below =
    let at : get_or (range_with_len 0 n) i 0 ≡ i = get_or-range_with_len 0 n i 0 below ∙ omega arith in
    true_from_ne_false (p i) (λ (no : p i ≡ false).
    let some : list_all p (range_with_len 0 n) ≡ false = list_all_at p (range_with_len 0 n) i 0 (omega (arith, length-range_with_len 0 n)) (ap p at ∙ no) in
    cc)

abbrev pub class_by : ℕ → ℕ
class_by i = get_or CLASS_BY_STEP i 0

pub by_below : (i : ℕ) → i < 65 → nat_lt (class_by i) 20 ≡ true
by_below i h = tried (λ j. nat_lt (class_by j) 20) 65 refl i h

pub by_holds : (i : ℕ) → i < 65 → nat_le (16 * i) (size_of (class_by i)) ≡ true
by_holds i h = tried (λ j. nat_le (16 * j) (size_of (class_by j))) 65 refl i h

pub by_least : (i : ℕ) → i < 65 → ((class_by i == 0) || nat_le (size_of (class_by i - 1)) (16 * (i - 1))) ≡ true
by_least i h = tried (λ j. (class_by j == 0) || nat_le (size_of (class_by j - 1)) (16 * (j - 1))) 65 refl i h

pub by_none : class_by 0 ≡ 0
by_none = refl

rises : (k : ℕ) → k < 19 → nat_le (size_of k) (size_of (k + 1)) ≡ true
rises k h = tried (λ j. nat_le (size_of j) (size_of (j + 1))) 19 refl k h

-- a greater class has no smaller size
pub sizes_rise : (a b : ℕ) → a ≤ b → b < 20 → size_of a ≤ size_of b
sizes_rise a zero h below = let e : a ≡ 0 = omega arith in rw e (omega arith)
sizes_rise a (suc b) h below =
    elim (cases_lt b a) as (λ _. size_of a ≤ size_of (suc b)) [
      | inl more ↦ let e : a ≡ suc b = omega arith in rw e (omega arith)
      | inr le ↦ risen (size_of a) (size_of b) (size_of (b + 1)) (size_of (suc b)) (sizes_rise a b le (omega arith)) (rises b (omega arith)) (ap (λ j. size_of j) (let e : b + 1 ≡ suc b = omega arith in e))
    ]
  where
    risen : (x y z w : ℕ) → x ≤ y → nat_le y z ≡ true → z ≡ w → x ≤ w
    risen x y z w le told same = let step : y ≤ z = grind (arith, nat_tests) in omega arith

pub class_below : (n : ℕ) → n ≤ 1024 → class_by ((n + 15) / 16) < 20
class_below n h = so (class_by ((n + 15) / 16)) (by_below ((n + 15) / 16) (omega arith))
  where
    so : (c : ℕ) → nat_lt c 20 ≡ true → c < 20
    so c told = grind (arith, nat_tests)

pub class_holds : (n : ℕ) → n ≤ 1024 → n ≤ size_of (class_by ((n + 15) / 16))
class_holds n h = so ((n + 15) / 16) (size_of (class_by ((n + 15) / 16))) (by_holds ((n + 15) / 16) (omega arith)) (omega arith)
  where
    so : (i z : ℕ) → nat_le (16 * i) z ≡ true → n ≤ 16 * i → n ≤ z
    so i z told le = let holds : 16 * i ≤ z = grind (arith, nat_tests) in omega arith

-- c is the first class, or the class before it is too small for n
not_below : (n i c k : ℕ) → ((c == 0) || nat_le (size_of (c - 1)) (16 * (i - 1))) ≡ true → 16 * (i - 1) < n → n ≤ size_of k → c < 20 → c ≤ k
not_below n i c k told step fits below =
    elim (cases_lt k c) as (λ _. c ≤ k) [
      | inl more ↦ absurd (so (size_of (c - 1)) (size_of k) told (sizes_rise k (c - 1) (omega arith) (omega arith)) (omega arith))
      | inr le ↦ le
    ]
  where
    so : (y z : ℕ) → ((c == 0) || nat_le y (16 * (i - 1))) ≡ true → size_of k ≤ y → 0 < c → ⊥
    so y z or rise some = let small : y ≤ 16 * (i - 1) = grind (arith, nat_tests) in omega arith

pub class_least : (n : ℕ) → n ≤ 1024 → (k : ℕ) → n ≤ size_of k → k < 20 → class_by ((n + 15) / 16) ≤ k
class_least zero h k fits below = omega arith
class_least (suc m) h k fits below =
    not_below (suc m) ((suc m + 15) / 16) (class_by ((suc m + 15) / 16)) k (by_least ((suc m + 15) / 16) (omega arith)) (omega arith) fits (class_below (suc m) h)

-- the least class of all is one of the profile, where the request is not above the profile's
pub least_of : (p : Profile) (n c : ℕ) → n ≤ largest_of p → n ≤ size_of c → ((k : ℕ) → n ≤ size_of k → k < class_count → c ≤ k) → IsLeastFor p n c
least_of Pool n c h holds least = record { is_used = let most : c ≤ 15 = least 15 h (omega arith) in omega arith; holds = holds; is_least = λ k fits below. least k fits (omega arith) }
least_of Pool2 n c h holds least = record { is_used = let most : c ≤ 19 = least 19 h (omega arith) in omega arith; holds = holds; is_least = λ k fits below. least k fits below }

pub none_for : (p : Profile) (n : ℕ) → largest_of p < n → NoClassFor p n
none_for Pool n h = λ k below. let rise : size_of k ≤ 512 = sizes_rise k 15 (omega arith) (omega arith) in omega arith
none_for Pool2 n h = λ k below. let rise : size_of k ≤ 1024 = sizes_rise k 19 (omega arith) (omega arith) in omega arith

-- the least class of a request
pub ruleset least_class = (class_below, class_holds, class_least)
