-- A take, over the floor's lists.
use Rattle.std.proofs.Common.{◌≡◌, ℕ, ◌+◌, Bool, true, false, ◌&&◌, ◌==◌, cond, Option, Some, None, option_map, if◌then◌else◌, refl, sym, ap, ap₂, ◌∙◌, subst}
use Rattle.std.proofs.lemmas.Bool.{eqb-true, eq-eqb, true≢false}
use Rattle.region_cut.specs.declared.slot.Slot.{Slot}
use Rattle.pool_machine.specs.Slots.{one_if}
use Rattle.pool_machine.specs.State.{State, Place, AtHome, OnLoan, InCache, InBatch, owner_of, same_place}
use Rattle.pool_machine.specs.Steps.{after_take, front_of}
use Rattle.pool_machine.proofs.Located.{ListName, HomeOf, Loans, CacheOf, BatchOf, same_list, list_at, list_of, is_list}
use Rattle.pool_machine.proofs.Moves.{SomeMove, some_moved, same_list_eq}

-- the batch n is taken by desk b: its own slots go home, the others into its cache
pub record TakeMoves (before after : ListName → Slot → ℕ) (n b : ℕ) (own : Slot → Bool) : Type 0 where
  pub home : (s : Slot) → after (HomeOf b) s ≡ before (HomeOf b) s + cond (own s) (before (BatchOf n) s) 0
  pub cache : (s : Slot) → after (CacheOf b) s ≡ before (CacheOf b) s + cond (own s) 0 (before (BatchOf n) s)
  pub gone : (s : Slot) → after (BatchOf n) s ≡ 0
  pub stay : (k : ListName) (s : Slot) → same_list k (HomeOf b) ≡ false → same_list k (CacheOf b) ≡ false → same_list k (BatchOf n) ≡ false →
      after k s ≡ before k s

module _ (before after : ListName → Slot → ℕ) (n b : ℕ) (own : Slot → Bool) (name : Slot → Option ListName)
    (h : TakeMoves before after n b own) (shows : (k : ListName) (s : Slot) → before k s ≡ one_if (is_list k (name s))) where
  -- when its own slots are home, and the others still in the batch
  abbrev mid : ListName → Slot → ℕ
  mid k s = if same_list k (HomeOf b) then after (HomeOf b) s else (if same_list k (BatchOf n) then cond (own s) 0
      (before (BatchOf n) s) else before k s)

  abbrev middle_name : Slot → Option ListName
  middle_name s = if own s && is_list (BatchOf n) (name s) then Some (HomeOf b) else name s

  mid_home : (s : Slot) → mid (HomeOf b) s ≡ after (HomeOf b) s
  mid_home s = ap (λ (x : Bool). if x then after (HomeOf b) s else before (HomeOf b) s) (eq-eqb b b refl)

  mid_batch : (s : Slot) → mid (BatchOf n) s ≡ cond (own s) 0 (before (BatchOf n) s)
  mid_batch s = ap (λ (x : Bool). if x then cond (own s) 0 (before (BatchOf n) s) else before (BatchOf n) s) (eq-eqb n n refl)

  mid_other : (k : ListName) (s : Slot) → same_list k (HomeOf b) ≡ false → same_list k (BatchOf n) ≡ false → mid k s ≡ before k s
  mid_other k s e f = ap₂ (λ (x y : Bool). if x then after (HomeOf b) s else (if y then cond (own s) 0 (before (BatchOf n) s) else before k s)) e f

  first_move : SomeMove before mid (BatchOf n) (HomeOf b) own
  first_move = record {
    apart = refl;
    leave = mid_batch;
    arrive = λ s. mid_home s ∙ h.home s;
    stay = λ k s e f. mid_other k s f e;
  }

  first_named : (k : ListName) (s : Slot) → mid k s ≡ one_if (is_list k (middle_name s))
  first_named = some_moved before mid (BatchOf n) (HomeOf b) own name first_move shows middle_name (λ s. refl)

  second_move : SomeMove mid after (BatchOf n) (CacheOf b) (λ s. true)
  second_move = record {
    apart = refl;
    leave = h.gone;
    arrive = λ s. h.cache s ∙ ap (λ x. before (CacheOf b) s + x) (sym (mid_batch s));
    stay = λ k s e f. kept k s e f (same_list k (HomeOf b)) refl;
  }
    where
      kept : (k : ListName) (s : Slot) → same_list k (BatchOf n) ≡ false → same_list k (CacheOf b) ≡ false → (x : Bool) → same_list k (HomeOf b) ≡ x →
          after k s ≡ mid k s
      kept k s e f true q = subst (λ z. after z s ≡ mid z s) (sym (same_list_eq k (HomeOf b) q)) (sym (mid_home s))
      kept k s e f false q = h.stay k s q f e ∙ sym (mid_other k s q e)

  pub taken : (new : Slot → Option ListName) → ((s : Slot) → new s ≡ (if is_list (BatchOf n) (middle_name s) then Some (CacheOf b) else middle_name s)) →
      (k : ListName) (s : Slot) → after k s ≡ one_if (is_list k (new s))
  taken new e = some_moved mid after (BatchOf n) (CacheOf b) (λ s. true) middle_name second_move first_named new e

-- the names after a take
take_named : (st : State) (b : ℕ) (s : Slot) →
    list_of (after_take st b) s
    ≡ (if is_list (BatchOf (front_of st b)) (if (owner_of st s == b) && is_list (BatchOf (front_of st b)) (list_of st s) then Some
    (HomeOf b) else list_of st s)
    then Some (CacheOf b) else (if (owner_of st s == b) && is_list (BatchOf (front_of st b)) (list_of st s) then Some (HomeOf b) else list_of st s))
take_named st b s = go (st.place s) (owner_of st s == b) refl
  where
    batch : (m : ℕ) (x : Bool) → (front_of st b == m) ≡ x → (y : Bool) → (owner_of st s == b) ≡ y →
        Some (list_at (owner_of st s) (if x then (if y then AtHome else InCache b) else InBatch m))
        ≡ (if is_list (BatchOf (front_of st b)) (if y && x then Some (HomeOf b) else Some (BatchOf m)) then Some (CacheOf b) else
        (if y && x then Some (HomeOf b) else Some (BatchOf m)))
    batch m true e true q = ap (λ o. Some (HomeOf o)) (eqb-true (owner_of st s) b q)
    batch m true e false q = ap (λ (x : Bool). if x then Some (CacheOf b) else Some (BatchOf m)) (sym e)
    batch m false e true q = ap (λ (x : Bool). if x then Some (CacheOf b) else Some (BatchOf m)) (sym e)
    batch m false e false q = ap (λ (x : Bool). if x then Some (CacheOf b) else Some (BatchOf m)) (sym e)

    other : (o : Option ListName) → is_list (BatchOf (front_of st b)) o ≡ false → (y : Bool) →
        o ≡ (if is_list (BatchOf (front_of st b)) (if y && is_list (BatchOf (front_of st b)) o then Some (HomeOf b) else o) then Some
        (CacheOf b) else (if y && is_list (BatchOf (front_of st b)) o then Some (HomeOf b) else o))
    other o e y = go y (is_list (BatchOf (front_of st b)) o) e refl
      where
        go : (y x : Bool) → x ≡ false → is_list (BatchOf (front_of st b)) o ≡ x →
            o ≡ (if is_list (BatchOf (front_of st b)) (if y && x then Some (HomeOf b) else o) then Some (CacheOf b) else
            (if y && x then Some (HomeOf b) else o))
        go y true e q = absurd (true≢false e)
        go true false e q = ap (λ (x : Bool). if x then Some (CacheOf b) else o) (sym q)
        go false false e q = ap (λ (x : Bool). if x then Some (CacheOf b) else o) (sym q)

    go : (p : Option Place) (y : Bool) → (owner_of st s == b) ≡ y →
        option_map (list_at (owner_of st s)) (option_map (λ old. if same_place (InBatch (front_of st b)) p then
        (if y then AtHome else InCache b) else old) p)
        ≡ (if is_list (BatchOf (front_of st b)) (if y && is_list (BatchOf (front_of st b)) (option_map (list_at (owner_of st s)) p) then Some
        (HomeOf b) else option_map (list_at (owner_of st s)) p)
        then Some (CacheOf b) else (if y && is_list (BatchOf (front_of st b)) (option_map (list_at (owner_of st s)) p) then Some
        (HomeOf b) else option_map (list_at (owner_of st s)) p))
    go None y q = other None refl y
    go (Some AtHome) y q = other (Some (HomeOf (owner_of st s))) refl y
    go (Some OnLoan) y q = other (Some Loans) refl y
    go (Some (InCache d)) y q = other (Some (CacheOf d)) refl y
    go (Some (InBatch m)) y q = batch m (front_of st b == m) refl y q

pub taken_in_place : (st : State) (before after : ListName → Slot → ℕ) (b : ℕ) →
    ((k : ListName) (s : Slot) → before k s ≡ one_if (is_list k (list_of st s))) →
    TakeMoves before after (front_of st b) b (λ s. owner_of st s == b) →
    (k : ListName) (s : Slot) → after k s ≡ one_if (is_list k (list_of (after_take st b) s))
taken_in_place st before after b shows h =
    taken before after (front_of st b) b (λ s. owner_of st s == b) (list_of st) h shows (list_of (after_take st b)) (take_named st b)
