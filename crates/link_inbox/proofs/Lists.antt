-- Lists read by `get_elem?`.
use Rattle.std.proofs.Common.{◌≡◌, ℕ, zero, suc, ◌+◌, ◌%◌, ◌<◌, ◌≤◌, ◌≢◌, ◌⊎◌, List, [], ◌∷◌, ◌++◌, map, length, take, drop, get_or, set, get_or-set_same, get_or-set_other, cond, Bool, true, false, eqb, eq-eqb, ne_eqb, sym, refl, ap, ◌∙◌, subst, inl, inr, ⊎_elim, arith}
use mathlib.Core.Option.{some, some-injective, some-ne-none}
use Rattle.std.specs.Prelude.{Option, Some, None, slice_get}
use lib.ListN.{get_elem?}
use Rattle.atomic_table.specs.Table.{rest}
use Rattle.link_inbox.specs.Rule.{Entry, sent_by, entry}

module _ {A : Type 0} where
  pub at_end : (l : List A) (a b : A) (i : ℕ) → get_elem? (l ++ a ∷ []) i ≡ some b → (get_elem? l i ≡ some b) ⊎ ((i ≡ length l) × (a ≡ b))
  at_end [] a b zero e = inr (refl, some-injective a b e)
  at_end [] a b (suc i) e = absurd (some-ne-none b (sym e))
  at_end (x ∷ xs) a b zero e = inl e
  at_end (x ∷ xs) a b (suc i) e = ⊎_elim (λ h. inl h) (λ h. let n : i ≡ length xs = h.0 in inr ((let g : suc i ≡ suc (length xs) = omega arith in g), h.1)) (at_end xs a b i e)

  pub at_bound : (l : List A) (i : ℕ) (a : A) → get_elem? l i ≡ some a → i < length l
  at_bound [] i a e = absurd (some-ne-none a (sym e))
  at_bound (x ∷ xs) zero a e = omega arith
  at_bound (x ∷ xs) (suc i) a e = let h : i < length xs = at_bound xs i a e in omega arith

  pub at_there : (l : List A) (i : ℕ) → i < length l → (a : A) × (get_elem? l i ≡ some a)
  at_there [] i h = absurd (omega arith)
  at_there (x ∷ xs) zero h = (x, refl)
  at_there (x ∷ xs) (suc i) h = at_there xs i (omega arith)

  pub at_or : (l : List A) (i : ℕ) (a d : A) → get_elem? l i ≡ some a → get_or l i d ≡ a
  at_or [] i a d e = absurd (some-ne-none a (sym e))
  at_or (x ∷ xs) zero a d e = some-injective x a e
  at_or (x ∷ xs) (suc i) a d e = at_or xs i a d e

  -- the two ways to say what holds of each element
  pub each_at : (P : ℕ → A → Type 0) (l : List A) → ((i : ℕ) (d : A) → i < length l → P i (get_or l i d)) → (i : ℕ) (a : A) → get_elem? l i ≡ some a → P i a
  each_at P l all i a h = subst (P i) (at_or l i a a h) (all i a (at_bound l i a h))

  pub each_of : (P : ℕ → A → Type 0) (l : List A) → ((i : ℕ) (a : A) → get_elem? l i ≡ some a → P i a) → (i : ℕ) (d : A) → i < length l → P i (get_or l i d)
  each_of P l all i d lt = let q = at_there l i lt in subst (P i) (sym (at_or l i q.0 d q.1)) (all i q.0 q.1)

  pub drop_past : (l : List A) (i : ℕ) → length l ≤ i → drop i l ≡ []
  drop_past [] zero le = refl
  drop_past [] (suc i) le = refl
  drop_past (x ∷ xs) zero le = absurd (omega arith)
  drop_past (x ∷ xs) (suc i) le = drop_past xs i (omega arith)

  pub take_more : (l : List A) (i : ℕ) (a : A) → get_elem? l i ≡ some a → take (suc i) l ≡ take i l ++ a ∷ []
  take_more [] i a e = absurd (some-ne-none a (sym e))
  take_more (x ∷ xs) zero a e = λ k. some-injective x a e k ∷ []
  take_more (x ∷ xs) (suc i) a e = λ k. x ∷ take_more xs i a e k

module _ {B : Type 0} where
  of_more : (s : ℕ) (e : Entry B) (xs ys : List B) (b : Bool) → cond b (e.item ∷ (xs ++ ys)) (xs ++ ys) ≡ cond b (e.item ∷ xs) xs ++ ys
  of_more s e xs ys true = refl
  of_more s e xs ys false = refl

  pub of_append : (s : ℕ) (l m : List (Entry B)) → sent_by s (l ++ m) ≡ sent_by s l ++ sent_by s m
  of_append s [] m = refl
  of_append s (e ∷ es) m = ap (λ (z : List B). cond (eqb e.by s) (e.item ∷ z) z) (of_append s es m) ∙ of_more s e (sent_by s es) (sent_by s m) (eqb e.by s)

  -- what one sender attached is one more for that sender
  pub of_mine : (s n : ℕ) (b : B) (l : List (Entry B)) → sent_by s (l ++ entry s n b ∷ []) ≡ sent_by s l ++ b ∷ []
  of_mine s n b l = of_append s l (entry s n b ∷ []) ∙ ap (λ (z : Bool). sent_by s l ++ cond z (b ∷ []) []) (eq-eqb s s refl)

  pub of_none : (s : ℕ) (l : List (Entry B)) → ((k : ℕ) (e : Entry B) → get_elem? l k ≡ some e → e.by ≢ s) → sent_by s l ≡ []
  of_none s [] none = refl
  of_none s (e ∷ es) none = ap (λ (z : Bool). cond z (e.item ∷ sent_by s es) (sent_by s es)) (ne_eqb e.by s (none 0 e refl)) ∙ of_none s es (λ k x h. none (suc k) x h)

  append_nil : (l : List B) → l ++ [] ≡ l
  append_nil [] = refl
  append_nil (x ∷ xs) = ap (λ (z : List B). x ∷ z) (append_nil xs)

  pub of_other : (s by n : ℕ) (b : B) (l : List (Entry B)) → by ≢ s → sent_by s (l ++ entry by n b ∷ []) ≡ sent_by s l
  of_other s by n b l other = of_append s l (entry by n b ∷ []) ∙ (ap (λ (z : Bool). sent_by s l ++ cond z (b ∷ []) []) (ne_eqb by s other) ∙ append_nil (sent_by s l))

pub rest_is : {S : Type 0} (l : List (ℕ × S)) (k : ℕ) (x : S) (cs : List (ℕ × S)) → l ≡ (k, x) ∷ cs → l ≡ (k, x) ∷ rest l
rest_is l k x cs e = e ∙ ap (λ z. (k, x) ∷ rest z) (sym e)

first_or : {S : Type 0} → S → List (ℕ × S) → S
first_or d [] = d
first_or d (x ∷ xs) = x.1

pub first_same : {S : Type 0} (l : List (ℕ × S)) (k n : ℕ) (x y : S) (cs ds : List (ℕ × S)) → l ≡ (k, x) ∷ cs → l ≡ (n, y) ∷ ds → x ≡ y
unfolding first_or
first_same l k n x y cs ds e f = ap (first_or x) (sym e ∙ f)

pub turn_more : (k t n : ℕ) → t ≡ k % 16 → n ≡ k + 1 → (t + 1) % 16 ≡ n % 16
turn_more k t n e f = let a : (k % 16 + 1) % 16 ≡ (k + 1) % 16 = omega arith in ap (λ (z : ℕ). (z + 1) % 16) e ∙ (a ∙ ap (λ (z : ℕ). z % 16) (sym f))

pub turns_more : {S : Type 0} (turn_of : S → ℕ) (turns : List ℕ) (n : ℕ) (x : S) (gone : List S) → n < length turns
    → ((i : ℕ) (y : S) → get_elem? gone i ≡ some y → get_or turns (n + 1 + i) 0 ≡ turn_of y) → (i : ℕ) (y : S) → get_elem? (x ∷ gone) i ≡ some y → get_or (set turns n (turn_of x)) (n + i) 0 ≡ turn_of y
turns_more turn_of turns n x gone low old zero y e = let z : n + 0 ≡ n = omega arith in ap (λ (k : ℕ). get_or (set turns n (turn_of x)) k 0) z ∙ (get_or-set_same turns n (turn_of x) 0 low ∙ ap turn_of (some-injective x y e))
turns_more turn_of turns n x gone low old (suc i) y e = let z : n + suc i ≡ n + 1 + i = omega arith in
    ap (λ (k : ℕ). get_or (set turns n (turn_of x)) k 0) z ∙ (get_or-set_other turns n (n + 1 + i) (turn_of x) 0 (λ q. omega arith) ∙ old i y e)

-- the two ways to read a list
module _ {A : Type 0} where
  value_or : A → Option A → A
  value_or d None = d
  value_or d (Some x) = x

  pub get_at : (l : List A) (k : ℕ) (a : A) → get_elem? l k ≡ some a → slice_get l k ≡ Some a
  get_at [] k a e = absurd (some-ne-none a (sym e))
  get_at (x ∷ xs) zero a e = ap Some (some-injective x a e)
  get_at (x ∷ xs) (suc k) a e = get_at xs k a e

  pub at_get : (l : List A) (k : ℕ) (a : A) → slice_get l k ≡ Some a → get_elem? l k ≡ some a
  unfolding value_or
  at_get [] k a e = absurd (cc)
  at_get (x ∷ xs) zero a e = ap some (ap (value_or a) e)
  at_get (x ∷ xs) (suc k) a e = at_get xs k a e
