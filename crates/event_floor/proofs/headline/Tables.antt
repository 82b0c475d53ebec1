-- The buffers of a table with empty places.
use Rattle.std.proofs.Common.{◌≡◌, ℕ, zero, suc, ◌+◌, ◌*◌, ◌<◌, Bool, true, false, ◌||◌, if◌then◌else◌, nat_lt, List, [], ◌∷◌, length, get_or, set, All, Option, Some, None, is_some, refl, sym, ap, ap₂, ◌∙◌, subst, arith, IsPermutation}
use Rattle.std.specs.Prelude.{IfSome, replicate}
use Rattle.std.specs.List.{list_any}
use Rattle.std.proofs.lemmas.Bool.{true≢false, ltb-true, lt-ltb}
use Rattle.std.proofs.lemmas.List.Sorted.{IsPermutation-refl, IsPermutation-trans, IsPermutation-cons, IsPermutation-middle}
use Rattle.region_cut.specs.declared.slot.Slot.{Slot}
use Rattle.slot_chain.specs.Buffer.{Buffer}
use Rattle.event_floor.specs.Lent.{buffers_lent, lent_at, index_of, AreInPlace}
use Rattle.region_cut.specs.Slots.{same_slot}
use Rattle.pool_machine.proofs.Basics.{same_slot_eq, same_slot_self}

none_some : {X : Type 0} (x : X) → None ≡ Some x → ⊥
none_some x e = true≢false (ap is_some (sym e))

-- a buffer came to an empty place
pub present_put : (places : List (Option Buffer)) (i : ℕ) (b : Buffer) → i < length places → get_or places i None ≡ None
    → IsPermutation (b ∷ buffers_lent places) (buffers_lent (set places i (Some b)))
present_put [] i b l e = absurd (omega arith)
present_put (None ∷ places) zero b l e = IsPermutation-refl _
present_put (Some c ∷ places) zero b l e = absurd (none_some c (sym e))
present_put (None ∷ places) (suc i) b l e = present_put places i b (omega arith) e
present_put (Some c ∷ places) (suc i) b l e =
    IsPermutation-trans _ _ _ (IsPermutation-middle (b ∷ []) c (buffers_lent places)) (IsPermutation-cons c _ _ (present_put places i b (omega arith) e))

-- a buffer left its place
pub present_gone : (places : List (Option Buffer)) (i : ℕ) (b : Buffer) → get_or places i None ≡ Some b
    → IsPermutation (b ∷ buffers_lent (set places i None)) (buffers_lent places)
present_gone [] zero b e = absurd (none_some b e)
present_gone [] (suc i) b e = absurd (none_some b e)
present_gone (None ∷ places) zero b e = absurd (none_some b e)
present_gone (Some c ∷ places) zero b e =
    let q : c ≡ b = cc in subst (λ z. IsPermutation (b ∷ buffers_lent places) (z ∷ buffers_lent places)) (sym q) (IsPermutation-refl _)
present_gone (None ∷ places) (suc i) b e = present_gone places i b e
present_gone (Some c ∷ places) (suc i) b e =
    IsPermutation-trans _ _ _ (IsPermutation-middle (b ∷ []) c (buffers_lent (set places i None))) (IsPermutation-cons c _ _ (present_gone places i b e))

-- what holds of no buffer that is there
pub none_present : (p : Buffer → Bool) (places : List (Option Buffer)) → ((i : ℕ) (b : Buffer) → get_or places i None ≡ Some b → p b ≡ false)
    → list_any p (buffers_lent places) ≡ false
none_present p [] h = refl
none_present p (None ∷ places) h = none_present p places (λ i b e. h (suc i) b e)
none_present p (Some c ∷ places) h = ap (λ x. x || list_any p (buffers_lent places)) (h 0 c refl) ∙ none_present p places (λ i b e. h (suc i) b e)

or_true : (b : Bool) → (b || true) ≡ true
or_true true = refl
or_true false = refl

pub some_present : (p : Buffer → Bool) (places : List (Option Buffer)) (i : ℕ) (b : Buffer) → get_or places i None ≡ Some b → p b ≡ true
    → list_any p (buffers_lent places) ≡ true
some_present p [] zero b e h = absurd (none_some b e)
some_present p [] (suc i) b e h = absurd (none_some b e)
some_present p (None ∷ places) zero b e h = absurd (none_some b e)
some_present p (Some c ∷ places) zero b e h = let q : c ≡ b = cc in ap (λ x. x || list_any p (buffers_lent places)) (ap p q ∙ h)
some_present p (None ∷ places) (suc i) b e h = some_present p places i b e h
some_present p (Some c ∷ places) (suc i) b e h = ap (λ x. p c || x) (some_present p places i b e h) ∙ or_true (p c)

-- a place of the table that has a buffer
pub lent_place : (lent : List (Option Buffer)) (chunk index : ℕ) (b : Buffer) → lent_at lent chunk index ≡ Some b
    → (index < 256) × (get_or lent (256 * chunk + index) None ≡ Some b)
lent_place lent chunk index b e = go (nat_lt index 256) refl e
  where
    go : (t : Bool) → nat_lt index 256 ≡ t → (if t then get_or lent (256 * chunk + index) None else None) ≡ Some b
        → (index < 256) × (get_or lent (256 * chunk + index) None ≡ Some b)
    go true q f = (ltb-true index 256 q, f)
    go false q f = absurd (none_some b f)

lent_none : (lent : List (Option Buffer)) (chunk index : ℕ) → lent_at lent chunk index ≡ None → index < 256 → get_or lent (256 * chunk + index) None ≡ None
lent_none lent chunk index e l = go (nat_lt index 256) (lt-ltb index 256 l) e
  where
    go : (t : Bool) → t ≡ true → (if t then get_or lent (256 * chunk + index) None else None) ≡ None → get_or lent (256 * chunk + index) None ≡ None
    go true q f = f
    go false q f = absurd (true≢false (sym q))

pub at_its_place : (lent : List (Option Buffer)) (i : ℕ) (b : Buffer) → AreInPlace lent → get_or lent i None ≡ Some b → (index_of b.slot ≡ i) × (b.slot.index < 256)
at_its_place lent i b h e = subst (λ z. IfSome z (λ (b : Buffer). (index_of b.slot ≡ i) × (b.slot.index < 256))) e (h i)

abbrev pub slot_of : ℕ → ℕ → Slot
slot_of chunk index = record { chunk = chunk; index = index }

-- a slot that isn't lent
pub none_lent : (lent : List (Option Buffer)) (chunk index : ℕ) → AreInPlace lent → lent_at lent chunk index ≡ None
    → list_any (λ (b : Buffer). same_slot (slot_of chunk index) b.slot) (buffers_lent lent) ≡ false
none_lent lent chunk index h e = none_present _ lent (λ i b f. go i b f (same_slot (slot_of chunk index) b.slot) refl)
  where
    go : (i : ℕ) (b : Buffer) → get_or lent i None ≡ Some b → (t : Bool) → same_slot (slot_of chunk index) b.slot ≡ t → t ≡ false
    go i b f false q = refl
    go i b f true q =
        let s : slot_of chunk index ≡ b.slot = same_slot_eq (slot_of chunk index) b.slot q in
        let p = at_its_place lent i b h f in
        let here : i ≡ 256 * chunk + index = sym p.0 ∙ ap index_of (sym s) in
        let low : index < 256 = subst (λ (z : Slot). z.index < 256) (sym s) p.1 in
        absurd (none_some b (sym (lent_none lent chunk index e low) ∙ (ap (λ n. get_or lent n None) (sym here) ∙ f)))

pub one_lent : (lent : List (Option Buffer)) (chunk index : ℕ) (b : Buffer) → lent_at lent chunk index ≡ Some b → b.slot ≡ slot_of chunk index
    → list_any (λ (b : Buffer). same_slot (slot_of chunk index) b.slot) (buffers_lent lent) ≡ true
one_lent lent chunk index b e s =
    some_present _ lent (256 * chunk + index) b (lent_place lent chunk index b e).1 (ap (same_slot (slot_of chunk index)) s ∙ same_slot_self (slot_of chunk index))

-- an empty table
pub present_replicate : (n : ℕ) → buffers_lent (replicate n None) ≡ []
present_replicate zero = refl
present_replicate (suc n) = present_replicate n

-- what holds of all buffers that are there
pub present_at : (P : Buffer → Type 0) (places : List (Option Buffer)) (i : ℕ) (b : Buffer) → All P (buffers_lent places) → get_or places i None ≡ Some b → P b
present_at P [] zero b h e = absurd (none_some b e)
present_at P [] (suc i) b h e = absurd (none_some b e)
present_at P (None ∷ places) zero b h e = absurd (none_some b e)
present_at P (None ∷ places) (suc i) b h e = present_at P places i b h e
present_at P (Some c ∷ places) zero b h e = let q : c ≡ b = cc in subst P q (h 0 c (omega arith))
present_at P (Some c ∷ places) (suc i) b h e = present_at P places i b (λ k d l. h (suc k) d (omega (arith, l))) e

-- two slots have one place
pub same_place : (s r : Slot) → index_of s ≡ index_of r → s.index < 256 → r.index < 256 → s ≡ r
same_place s r e l m =
    let k : s.chunk ≡ r.chunk = omega (arith, e, l, m) in
    let i : s.index ≡ r.index = omega (arith, e, k) in
    ap₂ (λ (c n : ℕ). slot_of c n) k i
