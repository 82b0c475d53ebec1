-- Slots, members and conditions.
use Rattle.std.proofs.Common.{◌≡◌, ℕ, Bool, true, false, ◌&&◌, ◌||◌, ◌==◌, cond, List, [], ◌∷◌, ◌++◌, map, filter, Option, Some, None, is_some, if◌then◌else◌, refl, sym, ap, ap₂, ◌∙◌, subst, ◌⊎◌, inl, inr, true≢false}
use Rattle.std.specs.Prelude.{⊤}
use Rattle.std.proofs.lemmas.Bool.{eqb-true, eq-eqb, and_parts, false≢true}
use Rattle.std.specs.List.{list_any}
use Rattle.region_cut.specs.declared.slot.Slot.{Slot}
use Rattle.pool_machine.specs.declared.refusal.Refusal.{Refusal}
use Rattle.region_cut.specs.Slots.{same_slot}
use Rattle.pool_machine.specs.State.{Waiting}
use Rattle.pool_machine.specs.Refusals.{first}
use Rattle.pool_machine.specs.Sound.{Member}
use Rattle.pool_machine.proofs.Words.{link_one, front_ready, front_number}

pub same_slot_eq : (s r : Slot) → same_slot s r ≡ true → s ≡ r
same_slot_eq s r e =
    let h = and_parts (s.chunk == r.chunk) (s.index == r.index) e in
    let p = eqb-true s.chunk r.chunk h.0 in
    let q = eqb-true s.index r.index h.1 in
    λ i. record { chunk = p i; index = q i }

pub same_slot_self : (s : Slot) → same_slot s s ≡ true
same_slot_self s = ap₂ ◌&&◌ (eq-eqb s.chunk s.chunk refl) (eq-eqb s.index s.index refl)

-- no condition of the list holds
pub none_holds : (b : Bool) (r : Refusal) (o : Option Refusal) → (if b then Some r else o) ≡ None → (b ≡ false) × (o ≡ None)
none_holds true r o e = absurd (true≢false (ap is_some e))
none_holds false r o e = (refl, e)

abbrev pub NoneHolds : List (Bool × Refusal) → Type 0
NoneHolds [] = ⊤
NoneHolds (c ∷ cs) = (c.0 ≡ false) × NoneHolds cs

pub none_hold : (cs : List (Bool × Refusal)) → first cs ≡ None → NoneHolds cs
none_hold [] e = tt
none_hold (c ∷ cs) e = let h = none_holds c.0 c.1 (first cs) e in (h.0, none_hold cs h.1)

pub Member-append_left : (w : Waiting) (xs ys : List Waiting) → Member w xs → Member w (xs ++ ys)
Member-append_left w (x ∷ xs) ys (inl e) = inl e
Member-append_left w (x ∷ xs) ys (inr m) = inr (Member-append_left w xs ys m)
Member-append_left w [] ys m = elim m [ ]

pub Member_last : (w : Waiting) (xs : List Waiting) → Member w (xs ++ w ∷ [])
Member_last w [] = inl refl
Member_last w (x ∷ xs) = inr (Member_last w xs)

pub Member-push_cases : (w v : Waiting) (xs : List Waiting) → Member w (xs ++ v ∷ []) → Member w xs ⊎ (w ≡ v)
Member-push_cases w v [] (inl e) = inr e
Member-push_cases w v [] (inr m) = elim m [ ]
Member-push_cases w v (x ∷ xs) (inl e) = inl (inl e)
Member-push_cases w v (x ∷ xs) (inr m) = elim (Member-push_cases w v xs m) as (λ _. Member w (x ∷ xs) ⊎ (w ≡ v)) [
  | inl k ↦ inl
      (inr k)
  | inr e ↦ inr e
]

pub Member-filter : (p : Waiting → Bool) (w : Waiting) (xs : List Waiting) → Member w xs → p w ≡ true → Member w (filter p xs)
Member-filter p w [] m e = elim m [ ]
Member-filter p w (x ∷ xs) (inl q) e = subst (λ b. Member w (cond b (x ∷ filter p xs) (filter p xs))) (sym (ap p (sym q) ∙ e)) (inl q)
Member-filter p w (x ∷ xs) (inr m) e = go (p x) (Member-filter p w xs m e)
  where
    go : (b : Bool) → Member w (filter p xs) → Member w (cond b (x ∷ filter p xs) (filter p xs))
    go true k = inr k
    go false k = k

pub filter_member : (p : Waiting → Bool) (w : Waiting) (xs : List Waiting) → Member w (filter p xs) → Member w xs × (p w ≡ true)
filter_member p w [] m = elim m [ ]
filter_member p w (x ∷ xs) m = go (p x) refl (filter_member p w xs) m
  where
    after_head : Member w xs × (p w ≡ true) → Member w (x ∷ xs) × (p w ≡ true)
    after_head h = (inr h.0, h.1)

    at_head : p x ≡ true → (Member w (filter p xs) → Member w xs × (p w ≡ true)) → (w ≡ x) ⊎ Member w (filter p xs) → Member w (x ∷ xs) × (p w ≡ true)
    at_head e f (inl q) = (inl q, ap p q ∙ e)
    at_head e f (inr k) = after_head (f k)

    go : (b : Bool) → p x ≡ b → (Member w (filter p xs) → Member w xs × (p w ≡ true)) → Member w (cond b (x ∷ filter p xs) (filter p xs)) →
        Member w (x ∷ xs) × (p w ≡ true)
    go true e f k = at_head e f k
    go false e f k = after_head (f k)

pub Member-map : (f : Waiting → Waiting) (w : Waiting) (xs : List Waiting) → Member w xs → Member (f w) (map f xs)
Member-map f w [] m = elim m [ ]
Member-map f w (x ∷ xs) (inl e) = inl (ap f e)
Member-map f w (x ∷ xs) (inr m) = inr (Member-map f w xs m)

pub map_member : (f : Waiting → Waiting) (w : Waiting) (xs : List Waiting) → Member w (map f xs) → (v : Waiting) × Member v xs × (w ≡ f v)
map_member f w [] m = elim m [ ]
map_member f w (x ∷ xs) (inl e) = (x, inl refl, e)
map_member f w (x ∷ xs) (inr m) = let h = map_member f w xs m in (h.0, inr h.1, h.2)

-- a front that may be taken
abbrev pub FrontOf : (Waiting → Bool) → List Waiting → List Waiting → Type 0
FrontOf p xs ys = (w : Waiting) × Member w xs × (p w ≡ true) × (w.number ≡ front_number ys) × (w.linked ≡ true)

pub front_is : (p : Waiting → Bool) (xs : List Waiting) → front_ready (filter p xs) ≡ true → FrontOf p xs (filter p xs)
front_is p [] e = absurd (false≢true e)
front_is p (x ∷ xs) e = go (p x) refl (front_is p xs) e
  where
    go : (b : Bool) → p x ≡ b → (front_ready (filter p xs) ≡ true → FrontOf p xs (filter p xs))
        → front_ready (cond b (x ∷ filter p xs) (filter p xs)) ≡ true → FrontOf p (x ∷ xs) (cond b (x ∷ filter p xs) (filter p xs))
    go true q f l = (x, inl refl, q, refl, l)
    go false q f l = let h = f l in (h.0, inr h.1, h.2, h.3, h.4)

pub link_keeps : (n : ℕ) (w : Waiting) → ((link_one n w).number ≡ w.number) × ((link_one n w).sender ≡ w.sender)
    × ((link_one n w).address ≡ w.address)
link_keeps n w = go (n == w.number)
  where
    go : (b : Bool) → ((if b then record w { linked = true } else w).number ≡ w.number)
        × ((if b then record w { linked = true } else w).sender ≡ w.sender) × ((if b then record w { linked = true } else w).address ≡ w.address)
    go true = (refl, refl, refl)
    go false = (refl, refl, refl)

-- one that passes
pub any_witness : {A : Type 0} (p : A → Bool) (xs : List A) → list_any p xs ≡ true → (x : A) × (p x ≡ true)
any_witness p [] e = absurd (false≢true e)
any_witness {A} p (x ∷ xs) e = go (p x) refl (any_witness p xs) e
  where
    go : (b : Bool) → p x ≡ b → (list_any p xs ≡ true → (y : A) × (p y ≡ true)) → (b || list_any p xs) ≡ true → (y : A) × (p y ≡ true)
    go true q f l = (x, q)
    go false q f l = f l
