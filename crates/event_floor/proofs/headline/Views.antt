-- What the listing of a floor shows of its desks and inboxes.
use Rattle.std.proofs.Common.{◌≡◌, ◌≢◌, ℕ, ◌<◌, ◌≤◌, Bool, true, false, ◌==◌, nat_le, nat_lt, List, [], ◌∷◌, map, length, get_or, set, All, Option, Some, is_none, refl, sym, ap, ◌∙◌, arith}
use Rattle.std.specs.Prelude.{Any}
use Rattle.std.specs.List.{list_any}
use Rattle.std.proofs.lemmas.Bool.{leb-true, le-leb, ltb-true, true≢false}
use Rattle.std.proofs.lemmas.List.{length-map}
use Rattle.std.proofs.lemmas.List.Folds.{list_any_at, list_any_none}
use Rattle.pool_desk.specs.Homes.{AtHome, slot_at, class_at}
use Rattle.pool_desk.specs.Homes.AtHome.{Kept, Fresh}
use Rattle.pool_desk.specs.HomesState.{HasClass, LacksClass}
use Rattle.pool_desk.specs.Desks.{IdleState, DeskState}
use Rattle.event_floor.specs.Desks.{AnyDeskState}
use Rattle.event_floor.specs.Desks.AnyDeskState.{Idle as IdleDesk, Held as HeldDesk}
use Rattle.pool_machine.specs.declared.refusal.Refusal.{Refusal}
use Rattle.pool_machine.specs.declared.refusal.Refusal.TheVariants.{NoDesk, Idle}
use Rattle.event_floor.specs.Inboxes.{inbox_at}
use Rattle.event_floor.specs.Floors.{FloorState, desk_at, desk_count, no_desk, IsIdle, IsHeld, with_any_desk}
use Rattle.pool_machine.specs.Refusals.{first}
use Rattle.pool_machine.proofs.Located.{inbox_listing}
use Rattle.pool_machine.specs.Listing.{Entry, DeskListing, desk_listing}
use Rattle.event_floor.specs.headline.Listing.{entry_at, desk_of, batch_of, listing_of}
use Rattle.event_floor.proofs.headline.Lists.{get_or-map_default, set-map, any-map}

-- ---- tests

pub leb_past : (n m : ℕ) → m < n → nat_le n m ≡ false
leb_past n m l = go (nat_le n m) refl
  where
    go : (b : Bool) → nat_le n m ≡ b → b ≡ false
    go true e = absurd (let k = leb-true n m e in omega (arith, l, k))
    go false e = refl

pub ltb_past : (n m : ℕ) → m ≤ n → nat_lt n m ≡ false
ltb_past n m l = go (nat_lt n m) refl
  where
    go : (b : Bool) → nat_lt n m ≡ b → b ≡ false
    go true e = absurd (let k = ltb-true n m e in omega (arith, l, k))
    go false e = refl

pub any_of : {X : Type 0} (P : X → Type 0) (p : X → Bool) (xs : List X) → ((x : X) → P x → p x ≡ true) → Any P xs → list_any p xs ≡ true
any_of P p xs f h = list_any_at p xs h.0 h.1 h.2 (ap p h.3 ∙ f h.1 h.4)

pub none_of : {X : Type 0} (P : X → Type 0) (p : X → Bool) (xs : List X) → ((x : X) → P x → p x ≡ false) → All P xs → list_any p xs ≡ false
none_of P p xs f h = list_any_none p xs (λ k d l. f (get_or xs k d) (h k d l))

-- the first condition holds, and it doesn't
pub hits : (b : Bool) (r : Refusal) (cs : List (Bool × Refusal)) → b ≡ true → first ((b, r) ∷ cs) ≡ Some r
hits true r cs e = refl
hits false r cs e = absurd (true≢false (sym e))

pub passes : (b : Bool) (r : Refusal) (cs : List (Bool × Refusal)) → b ≡ false → first ((b, r) ∷ cs) ≡ first cs
passes false r cs e = refl
passes true r cs e = absurd (true≢false e)

-- ---- desks

pub desk_seen : (v : FloorState) (a : ℕ) → desk_listing (listing_of v) a ≡ desk_of (desk_at v a)
desk_seen v a = get_or-map_default desk_of v.desks a no_desk

pub desks_seen : (v : FloorState) → length (listing_of v).desks ≡ desk_count v
desks_seen v = length-map v.desks desk_of

pub held_seen : (v : FloorState) (a : ℕ) (d : DeskState) → IsHeld v a d → desk_listing (listing_of v) a ≡ desk_of (HeldDesk d)
held_seen v a d h = desk_seen v a ∙ ap desk_of h.1

pub idle_seen : (v : FloorState) (a : ℕ) (d : IdleState) → IsIdle v a d → desk_listing (listing_of v) a ≡ desk_of (IdleDesk d)
idle_seen v a d h = desk_seen v a ∙ ap desk_of h.1

-- there is no such desk, and there is one
pub no_desk_seen : (v : FloorState) (a : ℕ) → desk_count v ≤ a → nat_le (length (listing_of v).desks) a ≡ true
no_desk_seen v a l = ap (λ n. nat_le n a) (desks_seen v) ∙ le-leb (desk_count v) a l

pub is_desk_seen : (v : FloorState) (a : ℕ) → a < desk_count v → nat_le (length (listing_of v).desks) a ≡ false
is_desk_seen v a l = ap (λ n. nat_le n a) (desks_seen v) ∙ leb_past (desk_count v) a l

abbrev pub desk_first : FloorState → ℕ → List (Bool × Refusal) → Option Refusal
desk_first v a cs = first ((nat_le (length (listing_of v).desks) a, NoDesk) ∷ (is_none (desk_listing (listing_of v) a).worker, Idle) ∷ cs)

pub no_desk_first : (v : FloorState) (a : ℕ) (cs : List (Bool × Refusal)) → desk_count v ≤ a → desk_first v a cs ≡ Some NoDesk
no_desk_first v a cs l = hits (nat_le (length (listing_of v).desks) a) NoDesk ((is_none (desk_listing (listing_of v) a).worker, Idle) ∷ cs) (no_desk_seen v a l)

pub idle_first : (v : FloorState) (a : ℕ) (cs : List (Bool × Refusal)) (d : IdleState) → IsIdle v a d → desk_first v a cs ≡ Some Idle
idle_first v a cs d h =
    passes (nat_le (length (listing_of v).desks) a) NoDesk ((is_none (desk_listing (listing_of v) a).worker, Idle) ∷ cs) (is_desk_seen v a h.0)
    ∙ hits (is_none (desk_listing (listing_of v) a).worker) Idle cs (ap (λ (x : DeskListing). is_none x.worker) (idle_seen v a d h))

pub held_first : (v : FloorState) (a : ℕ) (cs : List (Bool × Refusal)) (d : DeskState) → IsHeld v a d → desk_first v a cs ≡ first cs
held_first v a cs d h =
    passes (nat_le (length (listing_of v).desks) a) NoDesk ((is_none (desk_listing (listing_of v) a).worker, Idle) ∷ cs) (is_desk_seen v a h.0)
    ∙ passes (is_none (desk_listing (listing_of v) a).worker) Idle cs (ap (λ (x : DeskListing). is_none x.worker) (held_seen v a d h))

-- another desk a
pub with_any_desk_seen : (v : FloorState) (a : ℕ) (s : AnyDeskState) → (listing_of (with_any_desk v a s)).desks ≡ set (listing_of v).desks a (desk_of s)
with_any_desk_seen v a s = set-map desk_of v.desks a s

-- ---- slots at home

pub class_seen : (n : ℕ) (s : AtHome) → (entry_at n s).class ≡ class_at s
class_seen n (Kept b) = refl
class_seen n (Fresh u) = refl

pub slot_seen : (n : ℕ) (s : AtHome) → (entry_at n s).slot ≡ slot_at s
slot_seen n (Kept b) = refl
slot_seen n (Fresh u) = refl

pub has_class_seen : (n c : ℕ) (home : List AtHome) → HasClass c home → list_any (λ (e : Entry). e.class == c) (map (entry_at n) home) ≡ true
has_class_seen n c home h =
    any-map (entry_at n) (λ (e : Entry). e.class == c) home
    ∙ any_of (λ (s : AtHome). class_at s ≡ c) (λ (s : AtHome). (entry_at n s).class == c) home (λ s e. eq_test (entry_at n s).class c (class_seen n s ∙ e)) h
  where
    eq_test : (m k : ℕ) → m ≡ k → (m == k) ≡ true
    eq_test m k e = grind (arith, e)

pub lacks_class_seen : (n c : ℕ) (home : List AtHome) → LacksClass c home → list_any (λ (e : Entry). e.class == c) (map (entry_at n) home) ≡ false
lacks_class_seen n c home h =
    any-map (entry_at n) (λ (e : Entry). e.class == c) home
    ∙ none_of (λ (s : AtHome). class_at s ≢ c) (λ (s : AtHome). (entry_at n s).class == c) home (λ s e. ne_test (entry_at n s).class c (λ f. e (sym (class_seen n s) ∙ f))) h
  where
    ne_test : (m k : ℕ) → m ≢ k → (m == k) ≡ false
    ne_test m k e = grind (arith, e)

-- ---- inboxes

pub inbox_seen : (v : FloorState) (b : ℕ) → inbox_listing (listing_of v) b ≡ map batch_of (inbox_at v.inboxes b)
inbox_seen v b = get_or-map_default (map batch_of) v.inboxes b []
