-- What is kept of a floor stays kept.
use Rattle.std.proofs.Common.{◌≡◌, ◌≢◌, ℕ, zero, suc, ◌+◌, ◌*◌, ◌^◌, ◌<◌, ◌≤◌, List, [], ◌∷◌, ◌++◌, map, length, get_or, set, All, Option, Some, None, Ok, Err, refl, sym, ap, ◌∙◌, subst, ⊎_elim, arith}
use Rattle.std.specs.Prelude.{IfSome, replicate}
use Rattle.std.proofs.lemmas.List.{get_or-set_same, get_or-set_other, map-append, length-map, length_push}
use Rattle.std.proofs.lemmas.List.Elements.{All-nil, All-cons, All-tail}
use Rattle.std.proofs.lemmas.Bool.Decides.{eqb_tells}
use Rattle.region_cut.specs.declared.slot.Slot.{Slot}
use Rattle.slot_chain.specs.Buffer.{Buffer}
use Rattle.digit_route.specs.Digits.{Scheme, IsScheme}
use Rattle.pool_desk.specs.declared.freed.Freed.{Freed}
use Rattle.pool_machine.specs.declared.request.Request.{Request}
use Rattle.pool_machine.specs.declared.request.Request.TheVariants.{Adopt, Retire, Claim, Alloc, Free, Send, Link, Take}
use Rattle.pool_machine.specs.declared.reply.Reply.{Reply}
use Rattle.pool_machine.specs.declared.reply.Reply.TheVariants.{Done, Chunk, Slot as Lent, Home, Cached, Due, Batch, Counts}
use Rattle.event_floor.specs.Lent.{index_of, AreInPlace}
use Rattle.event_floor.specs.Desks.{new_desks}
use Rattle.region_cut.specs.Limits.{chunk_size}
use Rattle.region_cut.specs.Parts.{name_of, bytes_of}
use Rattle.region_cut.specs.declared.part.Part.{Part}
use Rattle.event_floor.specs.Floors.{FloorState, IsFloor, opening}
use Rattle.event_floor.specs.Steps.{Does, DrawsChunk, LendsSlot, TakesBack}
use Rattle.event_floor.specs.Steps.{Answers}
use Rattle.pool_machine.specs.Steps.{Answer}
use Rattle.pool_machine.specs.Listing.{empty_desk, Shown}
use Rattle.pool_machine.specs.State.{opening as machine_opening}
use Rattle.event_floor.specs.headline.Listing.{entry_of, desk_of, batch_of, listing_of}
use Rattle.event_floor.specs.headline.Whole.{IsWhole, IsStocked}
use Rattle.pool_machine.proofs.Parts.{opened}
use Rattle.pool_machine.proofs.Shown.{opening_shown}
use Rattle.event_floor.proofs.headline.Tables.{present_replicate}
use Rattle.event_floor.proofs.headline.Lends.{placed_slot, in_table}

-- ---- the table

put_in_place : (lent : List (Option Buffer)) (p : ℕ) (b : Buffer) → AreInPlace lent → p < length lent → index_of b.slot ≡ p → b.slot.index < 256 → AreInPlace (set lent p (Some b))
put_in_place lent p b h l e m i =
    ⊎_elim (λ (same : _ × (i ≡ p)). rw same.1 (rw (get_or-set_same lent p (Some b) None l) (e, m)))
    (λ (other : _ × (i ≢ p)). rw (get_or-set_other lent p i (Some b) None other.1) (h i)) (eqb_tells i p)

gone : (P : Buffer → Type 0) (xs : List (Option Buffer)) (p j : ℕ) → IfSome (get_or xs j None) P → IfSome (get_or (set xs p None) j None) P
gone P [] zero j k = k
gone P [] (suc p) j k = k
gone P (x ∷ xs) zero zero k = tt
gone P (x ∷ xs) zero (suc j) k = k
gone P (x ∷ xs) (suc p) zero k = k
gone P (x ∷ xs) (suc p) (suc j) k = gone P xs p j k

gone_in_place : (lent : List (Option Buffer)) (p : ℕ) → AreInPlace lent → AreInPlace (set lent p None)
gone_in_place lent p h i = gone (λ (b : Buffer). (index_of b.slot ≡ i) × (b.slot.index < 256)) lent p i (h i)

lent_stays : (v w : FloorState) → w.lent ≡ v.lent → AreInPlace v.lent → AreInPlace w.lent
lent_stays v w e h = subst AreInPlace (sym e) h

lends_in_place : (v w : FloorState) (a n : ℕ) (slot : Slot) → IsWhole v → LendsSlot v a n slot w → AreInPlace w.lent
lends_in_place v w a n slot f s =
    subst AreInPlace (sym (ap (λ (x : FloorState). x.lent) s.same))
    (put_in_place v.lent (index_of slot) s.buffer f.in_place (subst (λ z. index_of z < length v.lent) s.is_slot (in_table v w a n slot f s)) (ap index_of s.is_slot) (placed_slot v w a n slot f s).1)

takes_in_place : (v w : FloorState) (a k i : ℕ) (r : Freed) → IsWhole v → TakesBack v a k i r w → AreInPlace w.lent
takes_in_place v w a k i r f s = subst AreInPlace (sym (ap (λ (x : FloorState). x.lent) s.same)) (gone_in_place v.lent (index_of s.buffer.slot) f.in_place)

-- what each accepted request keeps
keeps : (v w : FloorState) (q : Request) (r : Reply) → IsWhole v → Does v q r w → AreInPlace w.lent × (w.chunks ≡ v.chunks) × (w.parts ≡ v.parts)
keeps v w (Adopt a x) Done f h = (lent_stays v w (ap (λ (x : FloorState). x.lent) h.2) f.in_place, ap (λ (x : FloorState). x.chunks) h.2, ap (λ (x : FloorState). x.parts) h.2)
keeps v w (Adopt a x) _ f h = elim h [ ]
keeps v w (Retire a) Done f h = (lent_stays v w (ap (λ (x : FloorState). x.lent) h.4) f.in_place, ap (λ (x : FloorState). x.chunks) h.4, ap (λ (x : FloorState). x.parts) h.4)
keeps v w (Retire a) _ f h = elim h [ ]
keeps v w (Claim a c) (Chunk k) f h = (lent_stays v w (ap (λ (x : FloorState). x.lent) h.same) f.in_place, ap (λ (x : FloorState). x.chunks) h.same, ap (λ (x : FloorState). x.parts) h.same)
keeps v w (Claim a c) _ f h = elim h [ ]
keeps v w (Alloc a n) (Lent slot) f h = (lends_in_place v w a n slot f h, ap (λ (x : FloorState). x.chunks) h.same, ap (λ (x : FloorState). x.parts) h.same)
keeps v w (Alloc a n) _ f h = elim h [ ]
keeps v w (Free a pair) Home f h = (takes_in_place v w a pair.0 pair.1 _ f h, ap (λ (x : FloorState). x.chunks) h.same, ap (λ (x : FloorState). x.parts) h.same)
keeps v w (Free a pair) Cached f h = (takes_in_place v w a pair.0 pair.1 _ f h, ap (λ (x : FloorState). x.chunks) h.same, ap (λ (x : FloorState). x.parts) h.same)
keeps v w (Free a pair) Due f h = (takes_in_place v w a pair.0 pair.1 _ f h, ap (λ (x : FloorState). x.chunks) h.same, ap (λ (x : FloorState). x.parts) h.same)
keeps v w (Free a pair) _ f h = elim h [ ]
keeps v w (Send a t) (Batch number count) f h = (lent_stays v w (ap (λ (x : FloorState). x.lent) h.same) f.in_place, ap (λ (x : FloorState). x.chunks) h.same, ap (λ (x : FloorState). x.parts) h.same)
keeps v w (Send a t) _ f h = elim h [ ]
keeps v w (Link n) Done f h = (lent_stays v w (ap (λ (x : FloorState). x.lent) h.same) f.in_place, ap (λ (x : FloorState). x.chunks) h.same, ap (λ (x : FloorState). x.parts) h.same)
keeps v w (Link n) _ f h = elim h [ ]
keeps v w (Take b) (Counts home on) f h = (lent_stays v w (ap (λ (x : FloorState). x.lent) h.same) f.in_place, ap (λ (x : FloorState). x.chunks) h.same, ap (λ (x : FloorState). x.parts) h.same)
keeps v w (Take b) _ f h = elim h [ ]

-- a part that is drawn leaves those that aren't
draws_stocked : (v w : FloorState) (a c k : ℕ) → IsStocked v → DrawsChunk v a c k w → IsStocked w
draws_stocked v w a c k f h =
    let all = subst (λ bs. All (λ (b : List ℕ). length b ≡ chunk_size) bs) h.first f.1 in
    let count : length v.undrawn ≡ suc (length w.undrawn) = ap length h.first in
    let all_of = f.0 in
    let parts : length w.parts ≡ length v.parts = ap (λ (x : FloorState). length x.parts) h.same in
    let drawn : length w.drawn ≡ length v.drawn + 1 = ap (λ (x : FloorState). length x.drawn) h.same ∙ length_push v.drawn _ in
    (omega (arith, all_of, count, parts, drawn), All-tail (λ (b : List ℕ). length b ≡ chunk_size) (bytes_of h.part) w.undrawn all)

does_stocked : (v w : FloorState) (q : Request) (r : Reply) → IsStocked v → Does v q r w → IsStocked w
does_stocked v w (Adopt a x) Done f h = subst IsStocked (sym h.2) f
does_stocked v w (Adopt a x) _ f h = elim h [ ]
does_stocked v w (Retire a) Done f h = subst IsStocked (sym h.4) f
does_stocked v w (Retire a) _ f h = elim h [ ]
does_stocked v w (Claim a c) (Chunk k) f h = draws_stocked v w a c k f h
does_stocked v w (Claim a c) _ f h = elim h [ ]
does_stocked v w (Alloc a n) (Lent slot) f h = subst IsStocked (sym h.same) f
does_stocked v w (Alloc a n) _ f h = elim h [ ]
does_stocked v w (Free a pair) Home f h = subst IsStocked (sym h.same) f
does_stocked v w (Free a pair) Cached f h = subst IsStocked (sym h.same) f
does_stocked v w (Free a pair) Due f h = subst IsStocked (sym h.same) f
does_stocked v w (Free a pair) _ f h = elim h [ ]
does_stocked v w (Send a t) (Batch number count) f h = subst IsStocked (sym h.same) f
does_stocked v w (Send a t) _ f h = elim h [ ]
does_stocked v w (Link n) Done f h = subst IsStocked (sym h.same) f
does_stocked v w (Link n) _ f h = elim h [ ]
does_stocked v w (Take b) (Counts home on) f h = subst IsStocked (sym h.same) f
does_stocked v w (Take b) _ f h = elim h [ ]

pub stays_whole : (v w : FloorState) (q : Request) (y : Answer) → IsWhole v → Answers v q y w
    → IsFloor w.digits w.limit w.chunks w.desks w.lent w.inboxes w.next → IsWhole w
stays_whole v w q (Ok r) f h g =
    let k = keeps v w q r f h in
    record { floor = g; in_place = k.0; few_chunks = subst (λ n. n ≤ 1024) (sym k.1) f.few_chunks; stocked = does_stocked v w q r f.stocked h }
stays_whole v w q (Err r) f h g = subst IsWhole (sym h.1) f

pub stays_over : (v w : FloorState) (q : Request) (y : Answer) → IsWhole v → Answers v q y w → w.parts ≡ v.parts
stays_over v w q (Ok r) f h = (keeps v w q r f h).2
stays_over v w q (Err r) f h = ap (λ (x : FloorState). x.parts) h.1

-- ---- a new floor

replicate_push : {X : Type 0} (n : ℕ) (x : X) → replicate n x ++ x ∷ [] ≡ replicate (suc n) x
replicate_push zero x = refl
replicate_push (suc n) x = ap (λ l. x ∷ l) (replicate_push n x)

idle_listed : (digits : Scheme) (limit n : ℕ) → map desk_of (new_desks digits limit n) ≡ replicate n empty_desk
unfolding new_desks
idle_listed digits limit zero = refl
idle_listed digits limit (suc n) =
    map-append desk_of (new_desks digits limit n) _ ∙ (ap (λ l. l ++ empty_desk ∷ []) (idle_listed digits limit n) ∙ replicate_push n empty_desk)

empty_listed : (n : ℕ) → map (map batch_of) (replicate n []) ≡ replicate n []
empty_listed zero = refl
empty_listed (suc n) = ap (λ l. [] ∷ l) (empty_listed n)

none_in_place : (n i : ℕ) → IfSome (get_or (replicate n (let o : Option Buffer = None in o)) i None) (λ (b : Buffer). (index_of b.slot ≡ i) × (b.slot.index < 256))
none_in_place n i = subst (λ o. IfSome o (λ (b : Buffer). (index_of b.slot ≡ i) × (b.slot.index < 256))) (sym (none_at n i)) tt
  where
    none_at : (n i : ℕ) → get_or (replicate n (let o : Option Buffer = None in o)) i None ≡ None
    none_at zero zero = refl
    none_at zero (suc i) = refl
    none_at (suc n) zero = refl
    none_at (suc n) (suc i) = none_at n i

opening_listed : (desks : ℕ) (parts : List Part) (digits : Scheme) (limit : ℕ) → listing_of (opening desks parts digits limit) ≡ opened desks (length parts) digits limit
opening_listed desks parts digits limit i = record {
  digits = digits;
  limit = limit;
  chunks = length parts;
  drawn = [];
  desks = idle_listed digits limit desks i;
  lent = map entry_of (present_replicate (256 * length parts) i);
  inboxes = empty_listed desks i;
  next = 1;
}

pub shows_opening : (desks : ℕ) (parts : List Part) (digits : Scheme) (limit : ℕ) → IsScheme digits → desks ≤ 2 ^ digits.bits
    → Shown (listing_of (opening desks parts digits limit)) (machine_opening desks (length parts) digits limit) (λ s. 0)
shows_opening desks parts digits limit i l =
    subst (λ z. Shown z (machine_opening desks (length parts) digits limit) (λ s. 0)) (sym (opening_listed desks parts digits limit)) (opening_shown desks (length parts) digits limit i l)

all_full : (ps : List Part) → All (λ (b : List ℕ). length b ≡ chunk_size) (map bytes_of ps)
all_full [] = All-nil (λ (b : List ℕ). length b ≡ chunk_size)
all_full (p ∷ ps) = All-cons (λ (b : List ℕ). length b ≡ chunk_size) (bytes_of p) (map bytes_of ps) p.is_whole (all_full ps)

pub opening_whole : (desks : ℕ) (parts : List Part) (digits : Scheme) (limit : ℕ) → length parts ≤ 1024
    → (let v = opening desks parts digits limit in IsFloor v.digits v.limit v.chunks v.desks v.lent v.inboxes v.next) → IsWhole (opening desks parts digits limit)
opening_whole desks parts digits limit few floor = record {
  floor = floor;
  in_place = λ i. none_in_place (256 * length parts) i;
  few_chunks = few;
  stocked = (let e : length (map name_of parts) ≡ length (map bytes_of parts) = length-map parts name_of ∙ sym (length-map parts bytes_of) in omega (arith, e), all_full parts);
}
