-- The least class.
use Rattle.std.proofs.Common.{true, false, ◌≡◌, ℕ, ◌<◌, ◌≤◌, nat_le, length, take, get_or-take, get_or, refl, sym, subst₂, subst, arith, inl, inr}
use Rattle.std.proofs.Common.{lt_of_lt_of_le}
use Rattle.std.proofs.lemmas.Bool.{leb-true, leb-false, cases_lt}
use Rattle.std.proofs.lemmas.List.Sums.{fails_before_first, passes_at_first}
use Rattle.region_cut.specs.declared.profile.Profile.{Profile}
use Rattle.region_cut.specs.declared.profile.Profile.TheVariants.{Pool, Pool2}
use Rattle.region_cut.specs.Classes.{class_sizes, size_of, classes_of, IsLeastFor, largest_of}
use Rattle.pool_machine.specs.State.{least_class}

-- the classes of a profile are the first ones
sizes_of : (p : Profile) (k : ℕ) → k < classes_of p → get_or (take (classes_of p) class_sizes) k 0 ≡ size_of k
sizes_of p k l = get_or-take (classes_of p) class_sizes k 0 l

sizes_long : (p : Profile) → length (take (classes_of p) class_sizes) ≡ classes_of p
sizes_long Pool = refl
sizes_long Pool2 = refl

pub first_is : (p : Profile) (n c : ℕ) → least_class p n ≡ c → c < classes_of p → IsLeastFor p n c
first_is p n c e l = record {
  is_used = l;
  holds = subst (λ k. n ≤ size_of k) e (leb-true n (size_of (least_class p n))
      (subst (λ z. nat_le n z ≡ true) (sizes_of p (least_class p n) (subst (λ k. k < classes_of p) (sym e) l))
      (passes_at_first (λ z. nat_le n z) (take (classes_of p) class_sizes) 0 (subst₂ (λ k m. k < m) (sym e) (sym (sizes_long p)) l))));
  is_least = λ d h m. (elim (cases_lt d c) as (λ _. c ≤ d) [
    | inr k ↦ k
    | inl k ↦ absurd (
        let f = leb-false n (size_of d) (subst (λ z. nat_le n z ≡ false) (sizes_of p d m)
        (fails_before_first (λ z. nat_le n z) (take (classes_of p) class_sizes) d 0 (subst (λ x. d < x) (sym e) k))) in
        omega arith)
  ]);
}

-- a number that the largest size holds has a class
some_class : (p : Profile) (n : ℕ) → n ≤ largest_of p → least_class p n < classes_of p
some_class Pool n l = elim (cases_lt (least_class Pool n) 16) as (λ _. least_class Pool n < 16) [
  | inl k ↦ k
  | inr k ↦ absurd (
      let f = leb-false n 512 (fails_before_first (λ z. nat_le n z) (take 16 class_sizes) 15 0 (lt_of_lt_of_le (le_lt_suc) k)) in
      omega arith)
]
  where
    le_lt_suc : 15 < 16
    le_lt_suc = omega arith
some_class Pool2 n l = elim (cases_lt (least_class Pool2 n) 20) as (λ _. least_class Pool2 n < 20) [
  | inl k ↦ k
  | inr k ↦ absurd (
      let f = leb-false n 1024 (fails_before_first (λ z. nat_le n z) (take 20 class_sizes) 19 0 (lt_of_lt_of_le (le_lt_suc) k)) in
      omega arith)
]
  where
    le_lt_suc : 19 < 20
    le_lt_suc = omega arith

pub least_class_least : (p : Profile) (n : ℕ) → n ≤ largest_of p → IsLeastFor p n (least_class p n)
least_class_least p n l = first_is p n (least_class p n) refl (some_class p n l)
