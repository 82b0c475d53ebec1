-- Why a floor refuses is why the machine does.
use Rattle.std.proofs.Common.{◌≡◌, ◌≢◌, ℕ, suc, ◌^◌, ◌<◌, ◌≤◌, Bool, true, false, not, ◌&&◌, ◌||◌, ◌==◌, nat_le, nat_lt, List, [], ◌∷◌, map, length, All, Some, None, is_none, is_some, refl, sym, ap, ◌∙◌, subst, arith, ◌⊎◌, inl, inr, true≢false}
use Rattle.std.specs.List.{list_any}
use Rattle.std.proofs.lemmas.Bool.{le-leb, lt-ltb, ltb-true, false≢true}
use Rattle.region_cut.specs.Classes.{classes_of, largest_of, IsLeastFor}
use Rattle.slot_chain.specs.Buffer.{Buffer}
use Rattle.digit_route.specs.Digits.{Scheme, common}
use Rattle.digit_route.specs.Profiles.{profile_of}
use Rattle.digit_route.specs.Route.{IsInBucket}
use Rattle.pool_desk.specs.Homes.{AtHome, class_at}
use Rattle.pool_desk.specs.Desks.{DeskState}
use Rattle.pool_desk.specs.HomesState.{HasClass, LacksClass}
use Rattle.pool_machine.specs.declared.request.Request.{Request}
use Rattle.pool_machine.specs.declared.request.Request.TheVariants.{Adopt, Retire, Claim, Alloc, Free, Send, Link, Take}
use Rattle.pool_machine.specs.declared.refusal.Refusal.{Refusal}
use Rattle.pool_machine.specs.declared.refusal.Refusal.TheVariants.{NoDesk, Idle, TooLarge, NeedChunk, NotNeeded, NoChunk, NotLent, NothingFor, NotAnOwner, ToSelf, NoBatch, Nothing, Unsettled, Held, NoMemory, BadClass, Spent}
use Rattle.event_floor.specs.Lent.{buffers_lent, lent_at, AreInPlace}
use Rattle.event_floor.specs.Inboxes.{QueuedState, inbox_at, IsUnlinked, IsUnlinkedOf, SomeQueued, NoneQueued, HasNoFront}
use Rattle.event_floor.specs.Floors.{FloorState, desk_count, last_number, IsHeld}
use Rattle.event_floor.specs.Steps.{Refuses, Routes, class_limit, size_limit}
use Rattle.pool_machine.specs.State.{Waiting, least_class}
use Rattle.region_cut.specs.Slots.{same_slot}
use Rattle.pool_machine.specs.Refusals.{first, slot_named}
use Rattle.pool_machine.proofs.Located.{inbox_listing}
use Rattle.pool_machine.specs.Listing.{Entry, DeskListing, desk_listing}
use Rattle.event_floor.specs.headline.Listing.{entry_of, batch_of, listing_of}
use Rattle.pool_machine.proofs.Refusals.{refusal_seen, goes_by, any_queued, any_of_row}
use Rattle.event_floor.proofs.headline.Least.{holds_within, least_is}
use Rattle.event_floor.proofs.headline.Lists.{any-map, All-not-from_Any}
use Rattle.event_floor.proofs.headline.Tables.{none_lent, one_lent}
use Rattle.event_floor.proofs.headline.Views.{leb_past, ltb_past, any_of, none_of, hits, passes, held_seen, idle_seen, no_desk_seen, is_desk_seen, no_desk_first, idle_first, held_first, has_class_seen, lacks_class_seen, inbox_seen}
use Rattle.pool_machine.proofs.Words.{as_waiting, is_unlinked, front_ready}

abbrev pub Says : FloorState → Request → Refusal → Type 0
Says v q r = refusal_seen (listing_of v) q ≡ Some r

-- ---- Adopt

pub adopt_refused : (v : FloorState) (a x : ℕ) (r : Refusal) → Refuses v (Adopt a x) r → Says v (Adopt a x) r
adopt_refused v a x NoDesk h = hits (nat_le (length (listing_of v).desks) a) NoDesk ((is_some (desk_listing (listing_of v) a).worker, Held) ∷ []) (no_desk_seen v a h)
adopt_refused v a x Held h =
    passes (nat_le (length (listing_of v).desks) a) NoDesk ((is_some (desk_listing (listing_of v) a).worker, Held) ∷ []) (is_desk_seen v a h.1.0)
    ∙ hits (is_some (desk_listing (listing_of v) a).worker) Held [] (ap (λ (d : DeskListing). is_some d.worker) (held_seen v a h.0 h.1))
adopt_refused v a x _ h = elim h [ ]

-- ---- batches

unlinked_seen : (n : ℕ) (p : QueuedState) → is_unlinked n (as_waiting (batch_of p)) ≡ ((n == p.batch.number) && not p.batch.linked)
unlinked_seen n p = refl

-- some batch passes, and none does
pub queued_some : (v : FloorState) (P : QueuedState → Type 0) (p : Waiting → Bool) → ((x : QueuedState) → P x → p (as_waiting (batch_of x)) ≡ true)
    → SomeQueued P v.inboxes → any_queued p (listing_of v).inboxes ≡ true
queued_some v P p f h =
    any_of_row (λ ws. list_any (λ w. p (as_waiting w)) ws) (listing_of v).inboxes h.0 refl
    (ap (λ ws. list_any (λ w. p (as_waiting w)) ws) (inbox_seen v h.0)
    ∙ (any-map batch_of (λ w. p (as_waiting w)) (inbox_at v.inboxes h.0) ∙ any_of P (λ x. p (as_waiting (batch_of x))) (inbox_at v.inboxes h.0) f h.2))

none_in_rows : (P : QueuedState → Type 0) (p : Waiting → Bool) (rows : List (List QueuedState)) → ((x : QueuedState) → P x → p (as_waiting (batch_of x)) ≡ false)
    → ((b : ℕ) → b < length rows → All P (inbox_at rows b)) → any_queued p (map (map batch_of) rows) ≡ false
none_in_rows P p [] f h = refl
none_in_rows P p (ps ∷ rows) f h =
    ap (λ b. b || any_queued p (map (map batch_of) rows))
    (any-map batch_of (λ w. p (as_waiting w)) ps ∙ none_of P (λ x. p (as_waiting (batch_of x))) ps f (h 0 (omega arith)))
    ∙ none_in_rows P p rows f (λ b l. h (suc b) (omega (arith, l)))

pub queued_none : (v : FloorState) (P : QueuedState → Type 0) (p : Waiting → Bool) → ((x : QueuedState) → (P x → ⊥) → p (as_waiting (batch_of x)) ≡ false)
    → NoneQueued P v.inboxes → any_queued p (listing_of v).inboxes ≡ false
queued_none v P p f h = none_in_rows (λ x. P x → ⊥) p v.inboxes f h

two_true : (x y : Bool) → x ≡ true → y ≡ false → (x && not y) ≡ true
two_true true false e f = refl
two_true true true e f = sym f
two_true false y e f = e

one_false : (x y : Bool) → ((x ≡ true) × (y ≡ false) → ⊥) → (x && not y) ≡ false
one_false false y f = refl
one_false true true f = refl
one_false true false f = absurd (f (refl, refl))

eqb_is : (m n : ℕ) → (m == n) ≡ true → m ≡ n
eqb_is m n e = grind (arith, e)

is_eqb : (m n : ℕ) → m ≡ n → (m == n) ≡ true
is_eqb m n e = grind (arith, e)

isnt_eqb : (m n : ℕ) → m ≢ n → (m == n) ≡ false
isnt_eqb m n e = grind (arith, e)

-- the batches of this sender that still have to be linked
abbrev pub is_unlinked_of : ℕ → Waiting → Bool
is_unlinked_of a w = (a == w.sender) && not w.linked

pub some_unlinked_of : (v : FloorState) (a : ℕ) → SomeQueued (IsUnlinkedOf a) v.inboxes → any_queued (is_unlinked_of a) (listing_of v).inboxes ≡ true
some_unlinked_of v a h = queued_some v (IsUnlinkedOf a) (is_unlinked_of a) (λ x p. two_true (a == x.batch.sender) x.batch.linked (is_eqb a x.batch.sender (sym p.0)) p.1) h

pub none_unlinked_of : (v : FloorState) (a : ℕ) → NoneQueued (IsUnlinkedOf a) v.inboxes → any_queued (is_unlinked_of a) (listing_of v).inboxes ≡ false
none_unlinked_of v a h = queued_none v (IsUnlinkedOf a) (is_unlinked_of a) (λ x f. one_false (a == x.batch.sender) x.batch.linked (λ p. f (sym (eqb_is a x.batch.sender p.0), p.1))) h

pub some_unlinked : (v : FloorState) (n : ℕ) → SomeQueued (IsUnlinked n) v.inboxes → any_queued (is_unlinked n) (listing_of v).inboxes ≡ true
some_unlinked v n h = queued_some v (IsUnlinked n) (is_unlinked n) (λ x p. two_true (n == x.batch.number) x.batch.linked (is_eqb n x.batch.number (sym p.0)) p.1) h

pub none_unlinked : (v : FloorState) (n : ℕ) → NoneQueued (IsUnlinked n) v.inboxes → any_queued (is_unlinked n) (listing_of v).inboxes ≡ false
none_unlinked v n h = queued_none v (IsUnlinked n) (is_unlinked n) (λ x f. one_false (n == x.batch.number) x.batch.linked (λ p. f (sym (eqb_is n x.batch.number p.0), p.1))) h

-- ---- Retire

some_cached : (bs : List Buffer) → bs ≢ [] → list_any (λ (e : Entry). true) (map entry_of bs) ≡ true
some_cached [] ne = absurd (ne refl)
some_cached (b ∷ bs) ne = refl

or_right : (x y : Bool) → y ≡ true → (x || y) ≡ true
or_right true y e = refl
or_right false y e = e

abbrev pub unsettled : FloorState → ℕ → Bool
unsettled v a = list_any (λ (e : Entry). true) (desk_listing (listing_of v) a).cache || any_queued (is_unlinked_of a) (listing_of v).inboxes

-- what stands against a retirement of a held desk
abbrev pub unsettled_rows : FloorState → ℕ → List (Bool × Refusal)
unsettled_rows v a = (list_any (λ (e : Entry). true) (desk_listing (listing_of v) a).cache, Unsettled)
    ∷ (any_queued (is_unlinked_of a) (listing_of v).inboxes, Unsettled) ∷ []

either_row : (x y : Bool) (r : Refusal) → (x || y) ≡ true → first ((x, r) ∷ (y, r) ∷ []) ≡ Some r
either_row true y r e = refl
either_row false true r e = refl
either_row false false r e = absurd (false≢true e)

pub neither_row : (x y : Bool) (r : Refusal) → (x || y) ≡ false → first ((x, r) ∷ (y, r) ∷ []) ≡ None
neither_row false false r e = refl
neither_row false true r e = absurd (true≢false e)
neither_row true y r e = absurd (true≢false e)

pub retire_refused : (v : FloorState) (a : ℕ) (r : Refusal) → Refuses v (Retire a) r → Says v (Retire a) r
retire_refused v a NoDesk h = no_desk_first v a (unsettled_rows v a) h
retire_refused v a Idle h = idle_first v a (unsettled_rows v a) h.0 h.1
retire_refused v a Unsettled h = held_first v a (unsettled_rows v a) h.0 h.1 ∙ either_row _ _ Unsettled (either h.2)
  where
    either : (h.0.cached ≢ []) ⊎ SomeQueued (IsUnlinkedOf a) v.inboxes → unsettled v a ≡ true
    either (inl ne) = ap (λ b. b || any_queued (is_unlinked_of a) (listing_of v).inboxes)
        (ap (λ (x : DeskListing). list_any (λ (e : Entry). true) x.cache) (held_seen v a h.0 h.1) ∙ some_cached h.0.cached ne)
    either (inr s) = or_right (list_any (λ (e : Entry). true) (desk_listing (listing_of v) a).cache) _ (some_unlinked_of v a s)
retire_refused v a _ h = elim h [ ]

-- ---- Claim

abbrev pub class_beyond : FloorState → ℕ → Bool
class_beyond v c = nat_le (classes_of (profile_of v.digits.bits)) c

abbrev pub home_has : FloorState → ℕ → ℕ → Bool
home_has v a c = list_any (λ (e : Entry). e.class == c) (desk_listing (listing_of v) a).home

abbrev pub all_drawn : FloorState → Bool
all_drawn v = nat_le v.chunks (length v.drawn)

abbrev claim_rest : FloorState → ℕ → ℕ → List (Bool × Refusal)
claim_rest v a c = (class_beyond v c, BadClass) ∷ (home_has v a c, NotNeeded) ∷ (all_drawn v, NoChunk) ∷ []

pub home_has_seen : (v : FloorState) (a c : ℕ) (d : DeskState) → IsHeld v a d → HasClass c d.home → home_has v a c ≡ true
home_has_seen v a c d l h = ap (λ (x : DeskListing). list_any (λ (e : Entry). e.class == c) x.home) (held_seen v a d l) ∙ has_class_seen d.number c d.home h

pub home_lacks_seen : (v : FloorState) (a c : ℕ) (d : DeskState) → IsHeld v a d → LacksClass c d.home → home_has v a c ≡ false
home_lacks_seen v a c d l h = ap (λ (x : DeskListing). list_any (λ (e : Entry). e.class == c) x.home) (held_seen v a d l) ∙ lacks_class_seen d.number c d.home h

pub all_drawn_seen : (v : FloorState) → length v.drawn ≡ v.chunks → all_drawn v ≡ true
all_drawn_seen v e = le-leb v.chunks (length v.drawn) (omega (arith, e))

pub some_undrawn_seen : (v : FloorState) → length v.drawn < v.chunks → all_drawn v ≡ false
some_undrawn_seen v l = leb_past v.chunks (length v.drawn) l

pub claim_refused : (v : FloorState) (a c : ℕ) (r : Refusal) → Refuses v (Claim a c) r → Says v (Claim a c) r
claim_refused v a c NoDesk h = no_desk_first v a (claim_rest v a c) h
claim_refused v a c Idle h = idle_first v a (claim_rest v a c) h.0 h.1
claim_refused v a c BadClass h =
    held_first v a (claim_rest v a c) h.0.0 h.0.1
    ∙ hits (class_beyond v c) BadClass ((home_has v a c, NotNeeded) ∷ (all_drawn v, NoChunk) ∷ []) (le-leb (class_limit v) c h.1)
claim_refused v a c NotNeeded h =
    held_first v a (claim_rest v a c) h.0 h.1
    ∙ (passes (class_beyond v c) BadClass ((home_has v a c, NotNeeded) ∷ (all_drawn v, NoChunk) ∷ []) (leb_past (class_limit v) c h.2)
    ∙ hits (home_has v a c) NotNeeded ((all_drawn v, NoChunk) ∷ []) (home_has_seen v a c h.0 h.1 h.3))
claim_refused v a c NoChunk h =
    held_first v a (claim_rest v a c) h.0 h.1
    ∙ (passes (class_beyond v c) BadClass ((home_has v a c, NotNeeded) ∷ (all_drawn v, NoChunk) ∷ []) (leb_past (class_limit v) c h.2)
    ∙ (passes (home_has v a c) NotNeeded ((all_drawn v, NoChunk) ∷ [])
    (home_lacks_seen v a c h.0 h.1 (All-not-from_Any (λ (s : AtHome). class_at s ≡ c) h.0.home h.3))
    ∙ hits (all_drawn v) NoChunk [] (all_drawn_seen v h.4)))
claim_refused v a c _ h = elim h [ ]

-- an accepted claim
pub claim_accepted : (v : FloorState) (a c : ℕ) (d : DeskState) → IsHeld v a d → c < class_limit v → LacksClass c d.home → length v.drawn < v.chunks
    → refusal_seen (listing_of v) (Claim a c) ≡ None
claim_accepted v a c d l few lacks left =
    held_first v a (claim_rest v a c) d l
    ∙ (passes (class_beyond v c) BadClass ((home_has v a c, NotNeeded) ∷ (all_drawn v, NoChunk) ∷ []) (leb_past (class_limit v) c few)
    ∙ (passes (home_has v a c) NotNeeded ((all_drawn v, NoChunk) ∷ []) (home_lacks_seen v a c d l lacks)
    ∙ passes (all_drawn v) NoChunk [] (some_undrawn_seen v left)))

-- ---- Alloc

abbrev pub size_beyond : FloorState → ℕ → Bool
size_beyond v n = nat_lt (largest_of (profile_of v.digits.bits)) n

abbrev pub home_wants : FloorState → ℕ → ℕ → Bool
home_wants v a n = not (home_has v a (least_class (profile_of v.digits.bits) n))

abbrev alloc_rest : FloorState → ℕ → ℕ → List (Bool × Refusal)
alloc_rest v a n = (size_beyond v n, TooLarge) ∷ (home_wants v a n, NeedChunk) ∷ []

-- an accepted allocation, and one that meets a want of memory
pub alloc_accepted : (v : FloorState) (a n c : ℕ) (d : DeskState) → d.digits ≡ v.digits → IsHeld v a d
    → IsLeastFor (profile_of d.digits.bits) n c → HasClass c d.home → refusal_seen (listing_of v) (Alloc a n) ≡ None
alloc_accepted v a n c d same l least has =
    let p = profile_of v.digits.bits in
    let q : IsLeastFor p n c = subst (λ (z : Scheme). IsLeastFor (profile_of z.bits) n c) same least in
    held_first v a (alloc_rest v a n) d l
    ∙ (passes (size_beyond v n) TooLarge ((home_wants v a n, NeedChunk) ∷ []) (ltb_past (largest_of p) n (holds_within p n c q))
    ∙ passes (home_wants v a n) NeedChunk [] (ap not (home_has_seen v a (least_class p n) d l (subst (λ k. HasClass k d.home) (sym (least_is p n c q)) has))))

pub alloc_refused : (v : FloorState) (a n : ℕ) (r : Refusal) → ((d : DeskState) → IsHeld v a d → d.digits ≡ v.digits) → Refuses v (Alloc a n) r
    → (Says v (Alloc a n) r) ⊎ ((refusal_seen (listing_of v) (Alloc a n) ≡ None) × (r ≡ NoMemory))
alloc_refused v a n NoDesk f h = inl (no_desk_first v a (alloc_rest v a n) h)
alloc_refused v a n Idle f h = inl (idle_first v a (alloc_rest v a n) h.0 h.1)
alloc_refused v a n TooLarge f h = inl (held_first v a (alloc_rest v a n) h.0.0 h.0.1 ∙ hits (size_beyond v n) TooLarge ((home_wants v a n, NeedChunk) ∷ []) (lt-ltb (size_limit v) n h.1))
alloc_refused v a n NeedChunk f h =
    let least : IsLeastFor (profile_of v.digits.bits) n h.1 = subst (λ (z : Scheme). IsLeastFor (profile_of z.bits) n h.1) (f h.0 h.2) h.3.0 in
    inl (held_first v a (alloc_rest v a n) h.0 h.2
    ∙ (passes (size_beyond v n) TooLarge ((home_wants v a n, NeedChunk) ∷ []) (ltb_past (largest_of (profile_of v.digits.bits)) n (holds_within (profile_of v.digits.bits) n h.1 least))
    ∙ hits (home_wants v a n) NeedChunk []
    (ap not (home_lacks_seen v a (least_class (profile_of v.digits.bits) n) h.0 h.2 (subst (λ k. LacksClass k h.0.home) (sym (least_is (profile_of v.digits.bits) n h.1 least)) h.3.1)))))
alloc_refused v a n NoMemory f h = inr (alloc_accepted v a n h.2.0 h.0 (f h.0 h.1) h.1 h.2.1 h.2.2, refl)
alloc_refused v a n _ f h = elim h [ ]

-- ---- Free

abbrev pub not_lent : FloorState → ℕ × ℕ → Bool
not_lent v pair = not (list_any (λ (e : Entry). same_slot (slot_named pair) e.slot) (listing_of v).lent)

pub free_refused : (v : FloorState) (a : ℕ) (pair : ℕ × ℕ) (r : Refusal) → AreInPlace v.lent → Refuses v (Free a pair) r → Says v (Free a pair) r
free_refused v a pair NoDesk f h = no_desk_first v a ((not_lent v pair, NotLent) ∷ []) h
free_refused v a pair Idle f h = idle_first v a ((not_lent v pair, NotLent) ∷ []) h.0 h.1
free_refused v a pair NotLent f h =
    held_first v a ((not_lent v pair, NotLent) ∷ []) h.0.0 h.0.1
    ∙ hits (not_lent v pair) NotLent []
    (ap not (any-map entry_of (λ (e : Entry). same_slot (slot_named pair) e.slot) (buffers_lent v.lent) ∙ none_lent v.lent pair.0 pair.1 f h.1))
free_refused v a pair _ f h = elim h [ ]

pub free_accepted : (v : FloorState) (a : ℕ) (pair : ℕ × ℕ) (d : DeskState) (b : Buffer) → IsHeld v a d → lent_at v.lent pair.0 pair.1 ≡ Some b
    → b.slot ≡ record { chunk = pair.0; index = pair.1 } → refusal_seen (listing_of v) (Free a pair) ≡ None
free_accepted v a pair d b l e s =
    held_first v a ((not_lent v pair, NotLent) ∷ []) d l
    ∙ passes (not_lent v pair) NotLent []
    (ap not (any-map entry_of (λ (e : Entry). same_slot (slot_named pair) e.slot) (buffers_lent v.lent) ∙ one_lent v.lent pair.0 pair.1 b e s))

-- ---- Send

abbrev pub none_goes : FloorState → ℕ → ℕ → Bool
none_goes v a t = not (list_any (λ (e : Entry). goes_by v.digits a t e.owner) (desk_listing (listing_of v) a).cache)

abbrev pub none_owned : FloorState → ℕ → ℕ → Bool
none_owned v a t = not (list_any (λ (e : Entry). goes_by v.digits a t e.owner && (e.owner == t)) (desk_listing (listing_of v) a).cache)

abbrev spent : FloorState → List (Bool × Refusal)
spent v = (nat_le (2 ^ 32) v.next, Spent) ∷ []

abbrev pub send_rest : FloorState → ℕ → ℕ → List (Bool × Refusal)
send_rest v a t = (a == t, ToSelf) ∷ (none_goes v a t, NothingFor) ∷ (none_owned v a t, NotAnOwner) ∷ spent v

abbrev send_desks : FloorState → ℕ → ℕ → Bool
send_desks v a t = nat_le (length (listing_of v).desks) a || nat_le (length (listing_of v).desks) t

or_left : (x y : Bool) → x ≡ true → (x || y) ≡ true
or_left x y e = ap (λ b. b || y) e

or_none : (x y : Bool) → x ≡ false → y ≡ false → (x || y) ≡ false
or_none x y e f = ap (λ b. b || y) e ∙ f

abbrev send_first : FloorState → ℕ → ℕ → List (Bool × Refusal)
send_first v a t = (is_none (desk_listing (listing_of v) a).worker, Idle) ∷ send_rest v a t

pub send_held : (v : FloorState) (a t : ℕ) (d : DeskState) → IsHeld v a d → t < desk_count v → refusal_seen (listing_of v) (Send a t) ≡ first (send_rest v a t)
send_held v a t d l m =
    passes (send_desks v a t) NoDesk (send_first v a t) (or_none _ _ (is_desk_seen v a l.0) (is_desk_seen v t m))
    ∙ passes (is_none (desk_listing (listing_of v) a).worker) Idle (send_rest v a t) (ap (λ (x : DeskListing). is_none x.worker) (held_seen v a d l))

cache_any : (v : FloorState) (a : ℕ) (d : DeskState) (p : Entry → Bool) → IsHeld v a d
    → list_any p (desk_listing (listing_of v) a).cache ≡ list_any (λ (b : Buffer). p (entry_of b)) d.cached
cache_any v a d p l = ap (λ (x : DeskListing). list_any p x.cache) (held_seen v a d l) ∙ any-map entry_of p d.cached

-- what belongs to the bucket goes, and nothing else
pub goes_seen : (s : Scheme) (a t : ℕ) (b : Buffer) → IsInBucket s a t b → goes_by s a t b.owner ≡ true
goes_seen s a t b h = lt-ltb (common s a t) (common s b.owner t) h

pub stays_seen : (s : Scheme) (a t : ℕ) (b : Buffer) → (IsInBucket s a t b → ⊥) → goes_by s a t b.owner ≡ false
stays_seen s a t b h = go (nat_lt (common s a t) (common s b.owner t)) refl
  where
    go : (x : Bool) → nat_lt (common s a t) (common s b.owner t) ≡ x → x ≡ false
    go true e = absurd (h (ltb-true (common s a t) (common s b.owner t) e))
    go false e = refl

and_true : (x y : Bool) → x ≡ true → y ≡ true → (x && y) ≡ true
and_true x y e f = ap (λ b. b && y) e ∙ f

and_false : (x y : Bool) → (x ≡ true → y ≡ false) → (x && y) ≡ false
and_false true y f = f refl
and_false false y f = refl

-- the desk has a batch for t
pub send_routes : (v : FloorState) (a t : ℕ) (d : DeskState) → Routes v a t d None → refusal_seen (listing_of v) (Send a t) ≡ first (spent v)
send_routes v a t d h =
    send_held v a t d h.0 h.1
    ∙ (passes (a == t) ToSelf ((none_goes v a t, NothingFor) ∷ (none_owned v a t, NotAnOwner) ∷ spent v) (isnt_eqb a t (λ e. h.2.0 (sym e)))
    ∙ (passes (none_goes v a t) NothingFor ((none_owned v a t, NotAnOwner) ∷ spent v)
    (ap not (cache_any v a d (λ (e : Entry). goes_by v.digits a t e.owner) h.0 ∙ any_of (λ (b : Buffer). IsInBucket v.digits a t b × (b.owner ≡ t)) (λ (b : Buffer). goes_by v.digits a t b.owner) d.cached (λ b p. goes_seen v.digits a t b p.0) h.2.1))
    ∙ passes (none_owned v a t) NotAnOwner (spent v)
    (ap not (cache_any v a d (λ (e : Entry). goes_by v.digits a t e.owner && (e.owner == t)) h.0 ∙ any_of (λ (b : Buffer). IsInBucket v.digits a t b × (b.owner ≡ t)) (λ (b : Buffer). goes_by v.digits a t b.owner && (b.owner == t)) d.cached (λ b p. and_true _ _ (goes_seen v.digits a t b p.0) (is_eqb b.owner t p.1)) h.2.1))))

pub send_accepted : (v : FloorState) (a t : ℕ) (d : DeskState) → Routes v a t d None → v.next ≤ last_number → refusal_seen (listing_of v) (Send a t) ≡ None
send_accepted v a t d h l = send_routes v a t d h ∙ passes (nat_le (2 ^ 32) v.next) Spent [] (leb_past (2 ^ 32) v.next (omega (arith, l)))

pub send_refused : (v : FloorState) (a t : ℕ) (r : Refusal) → Refuses v (Send a t) r
    → (Says v (Send a t) r) ⊎ ((refusal_seen (listing_of v) (Send a t) ≡ None) × (r ≡ NoMemory))
send_refused v a t NoDesk (inl h) = inl (hits (send_desks v a t) NoDesk (send_first v a t) (or_left _ _ (no_desk_seen v a h)))
send_refused v a t NoDesk (inr h) = inl (hits (send_desks v a t) NoDesk (send_first v a t) (or_right _ _ (no_desk_seen v t h)))
send_refused v a t Idle h = inl (
    passes (send_desks v a t) NoDesk (send_first v a t) (or_none _ _ (is_desk_seen v a h.0.1.0) (is_desk_seen v t h.1))
    ∙ hits (is_none (desk_listing (listing_of v) a).worker) Idle (send_rest v a t) (ap (λ (x : DeskListing). is_none x.worker) (idle_seen v a h.0.0 h.0.1)))
send_refused v a t ToSelf h = inl (
    send_held v a t h.0 h.1.0 h.1.1 ∙ hits (a == t) ToSelf ((none_goes v a t, NothingFor) ∷ (none_owned v a t, NotAnOwner) ∷ spent v) (is_eqb a t (sym h.1.2)))
send_refused v a t NothingFor h = inl (
    send_held v a t h.0 h.1.0 h.1.1
    ∙ (passes (a == t) ToSelf ((none_goes v a t, NothingFor) ∷ (none_owned v a t, NotAnOwner) ∷ spent v) (isnt_eqb a t (λ e. h.1.2.0 (sym e)))
    ∙ hits (none_goes v a t) NothingFor ((none_owned v a t, NotAnOwner) ∷ spent v)
    (ap not (cache_any v a h.0 (λ (e : Entry). goes_by v.digits a t e.owner) h.1.0 ∙ none_of (λ (b : Buffer). IsInBucket v.digits a t b → ⊥) (λ (b : Buffer). goes_by v.digits a t b.owner) h.0.cached (stays_seen v.digits a t) h.1.2.1))))
send_refused v a t NotAnOwner h = inl (
    send_held v a t h.0 h.1.0 h.1.1
    ∙ (passes (a == t) ToSelf ((none_goes v a t, NothingFor) ∷ (none_owned v a t, NotAnOwner) ∷ spent v) (isnt_eqb a t (λ e. h.1.2.0 (sym e)))
    ∙ (passes (none_goes v a t) NothingFor ((none_owned v a t, NotAnOwner) ∷ spent v)
    (ap not (cache_any v a h.0 (λ (e : Entry). goes_by v.digits a t e.owner) h.1.0 ∙ any_of (IsInBucket v.digits a t) (λ (b : Buffer). goes_by v.digits a t b.owner) h.0.cached (goes_seen v.digits a t) h.1.2.1))
    ∙ hits (none_owned v a t) NotAnOwner (spent v)
    (ap not (cache_any v a h.0 (λ (e : Entry). goes_by v.digits a t e.owner && (e.owner == t)) h.1.0
    ∙ none_of (λ (b : Buffer). IsInBucket v.digits a t b → b.owner ≢ t) (λ (b : Buffer). goes_by v.digits a t b.owner && (b.owner == t)) h.0.cached
    (λ b f. and_false _ _ (λ g. isnt_eqb b.owner t (f (ltb-true (common v.digits a t) (common v.digits b.owner t) g)))) h.1.2.2)))))
send_refused v a t Spent h = inl (send_routes v a t h.0.0 h.0.1 ∙ hits (nat_le (2 ^ 32) v.next) Spent [] (le-leb (2 ^ 32) v.next (let l = h.1 in omega (arith, l))))
send_refused v a t NoMemory h = inr (send_accepted v a t h.0.0 h.0.1 h.1, refl)
send_refused v a t _ h = elim h [ ]

-- ---- Link

pub link_refused : (v : FloorState) (n : ℕ) (r : Refusal) → Refuses v (Link n) r → Says v (Link n) r
link_refused v n NoBatch h = hits (not (any_queued (is_unlinked n) (listing_of v).inboxes)) NoBatch [] (ap not (none_unlinked v n h))
link_refused v n _ h = elim h [ ]

pub link_accepted : (v : FloorState) (n : ℕ) → SomeQueued (IsUnlinked n) v.inboxes → refusal_seen (listing_of v) (Link n) ≡ None
link_accepted v n h = passes (not (any_queued (is_unlinked n) (listing_of v).inboxes)) NoBatch [] (ap not (some_unlinked v n h))

-- ---- Take

abbrev pub no_front : FloorState → ℕ → Bool
no_front v b = not (front_ready (map as_waiting (inbox_listing (listing_of v) b)))

no_front_seen : (ps : List QueuedState) → HasNoFront ps → not (front_ready (map as_waiting (map batch_of ps))) ≡ true
no_front_seen [] h = refl
no_front_seen (p ∷ ps) h = ap not h

pub take_refused : (v : FloorState) (b : ℕ) (r : Refusal) → Refuses v (Take b) r → Says v (Take b) r
take_refused v b NoDesk h = no_desk_first v b ((no_front v b, Nothing) ∷ []) h
take_refused v b Idle h = idle_first v b ((no_front v b, Nothing) ∷ []) h.0 h.1
take_refused v b Nothing h =
    held_first v b ((no_front v b, Nothing) ∷ []) h.0.0 h.0.1
    ∙ hits (no_front v b) Nothing [] (ap (λ ws. not (front_ready (map as_waiting ws))) (inbox_seen v b) ∙ no_front_seen (inbox_at v.inboxes b) h.1)
take_refused v b _ h = elim h [ ]

pub take_accepted : (v : FloorState) (b : ℕ) (d : DeskState) (p : QueuedState) (rest : List QueuedState) → IsHeld v b d → inbox_at v.inboxes b ≡ p ∷ rest → p.batch.linked ≡ true
    → refusal_seen (listing_of v) (Take b) ≡ None
take_accepted v b d p rest l e t =
    held_first v b ((no_front v b, Nothing) ∷ []) d l
    ∙ passes (no_front v b) Nothing [] (ap (λ ws. not (front_ready (map as_waiting ws))) (inbox_seen v b ∙ ap (map batch_of) e) ∙ ap not t)
