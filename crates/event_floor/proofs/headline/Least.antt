-- The least class of a request.
use Rattle.std.proofs.Common.{◌≡◌, ℕ, zero, suc, ◌<◌, ◌≤◌, true, nat_le, List, [], ◌∷◌, length, take, get_or, get_or-take, refl, sym, ap, ◌∙◌, subst, arith, inl, inr}
use Rattle.std.specs.List.{list_all}
use Rattle.std.proofs.lemmas.Bool.{leb-true, le-leb, true≢false, cases_lt, and_parts}
use Rattle.std.proofs.lemmas.List.Sums.{fails_before_first}
use Rattle.region_cut.specs.declared.profile.Profile.{Profile}
use Rattle.region_cut.specs.declared.profile.Profile.TheVariants.{Pool, Pool2}
use Rattle.region_cut.specs.Classes.{class_sizes, size_of, classes_of, largest_of, IsLeastFor}
use Rattle.pool_machine.specs.State.{least_class}
use Rattle.pool_machine.proofs.ClassLaws.{first_is}

sizes_at : (p : Profile) (k : ℕ) → k < classes_of p → get_or (take (classes_of p) class_sizes) k 0 ≡ size_of k
sizes_at p k l = get_or-take (classes_of p) class_sizes k 0 l

sizes_length : (p : Profile) → length (take (classes_of p) class_sizes) ≡ classes_of p
sizes_length Pool = refl
sizes_length Pool2 = refl

each_within : (m : ℕ) (xs : List ℕ) (k : ℕ) → list_all (λ z. nat_le z m) xs ≡ true → k < length xs → get_or xs k 0 ≤ m
each_within m [] k e l = absurd (omega arith)
each_within m (x ∷ xs) zero e l = leb-true x m (and_parts (nat_le x m) (list_all (λ z. nat_le z m) xs) e).0
each_within m (x ∷ xs) (suc k) e l = each_within m xs k (and_parts (nat_le x m) (list_all (λ z. nat_le z m) xs) e).1 (omega arith)

all_within : (p : Profile) → list_all (λ z. nat_le z (largest_of p)) (take (classes_of p) class_sizes) ≡ true
all_within Pool = refl
all_within Pool2 = refl

-- what a class of the profile holds, its largest one does
pub holds_within : (p : Profile) (n c : ℕ) → IsLeastFor p n c → n ≤ largest_of p
holds_within p n c h =
    let e = sizes_at p c h.is_used in
    let m = each_within (largest_of p) (take (classes_of p) class_sizes) c (all_within p) (subst (λ k. c < k) (sym (sizes_length p)) h.is_used) in
    let s = h.holds in
    omega (arith, e, m, s)

within : (p : Profile) (n c : ℕ) → IsLeastFor p n c → least_class p n < classes_of p
within p n c h = elim (cases_lt (least_class p n) (classes_of p)) as (λ _. least_class p n < classes_of p) [
  | inl l ↦ l
  | inr l ↦ absurd (
      let u = h.is_used in
      let f = fails_before_first (λ z. nat_le n z) (take (classes_of p) class_sizes) c 0 (omega (arith, l, u)) in
      true≢false (sym (le-leb n (size_of c) h.holds) ∙ (ap (nat_le n) (sym (sizes_at p c h.is_used)) ∙ f)))
]

pub least_is : (p : Profile) (n c : ℕ) → IsLeastFor p n c → least_class p n ≡ c
least_is p n c h =
    let l = within p n c h in
    let f = first_is p n (least_class p n) refl l in
    let a = h.is_least (least_class p n) f.holds l in
    let b = f.is_least c h.holds h.is_used in
    omega (arith, a, b)
