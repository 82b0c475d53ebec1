-- Sums of buffer sizes, and lists that are turned.
use Rattle.std.proofs.Common.{◌≡◌, ℕ, ◌+◌, ◌*◌, ◌<◌, ◌≤◌, true, false, List, [], ◌∷◌, ◌++◌, get_or, length, reverse, refl, arith, inl, inr}
use Rattle.std.specs.Prelude.{nat_le}
use Rattle.std.specs.List.{list_all}
use Rattle.std.proofs.lemmas.Bool.{true_from_ne_false, cases_lt}
use Rattle.std.proofs.lemmas.Bool.Decides.{nat_tests}
use Rattle.std.proofs.lemmas.List.{get_or_past}
use Rattle.std.proofs.lemmas.List.Folds.{list_all_at}
use Rattle.region_cut.specs.Classes.{class_sizes, size_of}
use Rattle.std.proofs.lemmas.List.{reverse-append, append_assoc}
use Rattle.std.proofs.lemmas.List.Sums.{sum_by_push, sum_by-le}
use Rattle.slot_chain.specs.Buffer.{Buffer}
use Rattle.slot_chain.specs.Counts.{sizes, buffer_size}

pub sizes_push : (bs : List Buffer) (b : Buffer) → sizes (bs ++ b ∷ []) ≡ sizes bs + buffer_size b
sizes_push bs b = sum_by_push buffer_size bs b

pub reverse_push : (bs : List Buffer) (b : Buffer) → reverse (bs ++ b ∷ []) ≡ b ∷ reverse bs
reverse_push bs b = reverse-append bs (b ∷ [])

pub append_push : (xs bs : List Buffer) (b : Buffer) → (xs ++ b ∷ []) ++ bs ≡ xs ++ b ∷ bs
append_push xs bs b = append_assoc xs (b ∷ []) bs

small : (k : ℕ) → k < 20 → nat_le (size_of k) 1024 ≡ true
small k h = true_from_ne_false (nat_le (size_of k) 1024) (λ (no : nat_le (size_of k) 1024 ≡ false).
    let all : list_all (λ n. nat_le n 1024) class_sizes ≡ true = refl in
    let some : list_all (λ n. nat_le n 1024) class_sizes ≡ false = list_all_at (λ n. nat_le n 1024) class_sizes k 0 h no in
    cc)

-- no class has larger buffers
pub size_most : (k : ℕ) → size_of k ≤ 1024
size_most k =
    elim (cases_lt k 20) [
      | inl within ↦ so (size_of k) (small k within)
      | inr past ↦ let e : size_of k ≡ 0 = get_or_past class_sizes k 0 past in omega arith
    ]
  where
    so : (n : ℕ) → nat_le n 1024 ≡ true → n ≤ 1024
    so n told = grind (arith, nat_tests)

pub sizes_most : (bs : List Buffer) → sizes bs ≤ length bs * 1024
sizes_most bs = sum_by-le buffer_size 1024 bs (λ k d l. size_most (get_or bs k d).class)
