-- What the calls of a desk do to the slots that it has and to the chunks that it drew.
use Rattle.std.proofs.Common.{◌≡◌, ℕ, zero, suc, ◌+◌, List, ◌∷◌, ◌++◌, map, refl, sym, ap, arith, IsPermutation}
use Rattle.std.specs.Prelude.{◌==◌}
use Rattle.std.specs.Prelude.{Ok}
use Rattle.std.specs.Borrow.{GName}
use Rattle.region_cut.specs.declared.slot.Slot.{Slot}
use Rattle.region_cut.specs.declared.part.Part.{Part}
use Rattle.region_cut.specs.Carved.{Carved}
use Rattle.region_cut.specs.Classes.{slots_of}
use Rattle.slot_chain.specs.Buffer.{Buffer}
use Rattle.digit_route.specs.States.{BatchState}
use Rattle.digit_route.specs.Route.{GivesBucket}
use Rattle.pool_desk.specs.Homes as homes
use Rattle.pool_desk.specs.Homes.{AtHome, comes_home, slot_at, unused_from, Draws, GivesOne, Names}
use Rattle.pool_desk.specs.Homes.AtHome.{Kept, Fresh}
use Rattle.pool_desk.specs.Slots.{places}
use Rattle.pool_desk.specs.Desks.{DeskState}
use Rattle.slot_chain.specs.Parcels.{ParcelState}
use Rattle.pool_desk.specs.Steps.{Claims, AllocsClass, Frees, FreesAll, Handles, LendsWhole, Caches, CachesAll, freed, passed_on, own, others}
use Rattle.pool_desk.specs.declared.freed.Freed.{Freed}
use Rattle.pool_desk.specs.declared.freed.Freed.TheVariants.{Home, Cached, Due}
use Rattle.slot_balance.specs.Weights.{weigh}
use Rattle.slot_balance.specs.Accounts.{of_buffer, of_home, of_batch, of_chunk, held, owed}
use Rattle.slot_balance.proofs.Sums.{weigh-append, weigh-permutation, weigh-map, weigh-split}

weigh-unused : (h : Slot → ℕ) (chunk class : ℕ) (part : GName) (n i : ℕ) (bs : List ℕ) → weigh (of_home h) (unused_from chunk class part n i bs) ≡ weigh h (places chunk n i)
weigh-unused h chunk class part zero i bs = refl
weigh-unused h chunk class part (suc n) i bs = ap (λ k. h (record { chunk = chunk; index = i }) + k) (weigh-unused h chunk class part n (i + 1) _)

-- a chunk comes to those drawn
pub draws : (f : Carved → ℕ) (part : Part) (class n : ℕ) (old new : List Carved) → ((c : Carved) → c.chunk ≡ part.chunk → c.class ≡ class → f c ≡ n) → Draws part class old new → weigh f new ≡ n + weigh f old
draws f part class n old new is d =
    let p = weigh-permutation f (d.drawn ∷ old) new d.added in
    let q = is d.drawn d.uncut.chunk d.uncut.class_is in
    omega arith

pub claimed : (h : Slot → ℕ) (old : DeskState) (part : Part) (class : ℕ) (new : DeskState) → Claims old part class new → held h new + owed h old ≡ held h old + owed h new
claimed h old part class new c =
    let n = weigh h (places part.chunk (slots_of class) 0) in
    let u = weigh-unused h part.chunk class part.bytes.ghost_name (slots_of class) 0 part.bytes.now in
    let p = weigh-permutation (of_home h) _ new.home c.home in
    let q = weigh-append (of_home h) (unused_from part.chunk class part.bytes.ghost_name (slots_of class) 0 part.bytes.now) old.home in
    let s = ap (λ (d : DeskState). weigh (of_buffer h) d.cached) c.same in
    let d = draws (of_chunk h) part class n old.drawn new.drawn (λ x e k i. weigh h (places (e i) (slots_of (k i)) 0)) c.drawn in
    omega arith

given_slot : (h : Slot → ℕ) (a : AtHome) (b : Buffer) → homes.GivenAs a b → of_home h a ≡ h b.slot
given_slot h (Kept a) b e = ap (λ (x : Buffer). h x.slot) (sym e)
given_slot h (Fresh u) b e = ap h (sym e.0)

-- the drawn chunks are the same but for what is taken of one
pub given_drawn : (f : Carved → ℕ) (a : AtHome) (b : Buffer) (old new : List Carved) → ((c : Carved) (n : GName) (rest : List ℕ) → f (homes.taken_next c n rest) ≡ f c) → Names a b old new → weigh f new ≡ weigh f old
given_drawn f (Kept a) b old new is e = ap (weigh f) e
given_drawn f (Fresh u) b old new is t =
    let p = weigh-permutation f old (t.from ∷ t.others) t.before in
    let q = weigh-permutation f new (homes.taken_next t.from b.bytes.ghost_name t.rest ∷ t.others) t.after in
    let r = is t.from b.bytes.ghost_name t.rest in
    omega arith

pub gave : (h : Slot → ℕ) (old : DeskState) (class : ℕ) (b : Buffer) (new : DeskState) → AllocsClass old class (Ok b) new → held h old ≡ held h new + h b.slot
gave h old class b new a =
    let g = a.0 in
    let p = weigh-permutation (of_home h) old.home (g.from ∷ new.home) g.others in
    let e = given_slot h g.from b g.gives in
    let s = ap (λ (d : DeskState). weigh (of_buffer h) d.cached) a.1 in
    omega arith

pub gave_owed : (h : Slot → ℕ) (old : DeskState) (class : ℕ) (b : Buffer) (new : DeskState) → AllocsClass old class (Ok b) new → owed h new ≡ owed h old
gave_owed h old class b new a = given_drawn (of_chunk h) a.0.from b old.drawn new.drawn (λ c n rest. refl) a.0.names

-- buffers were given together
pub gave_whole : (h : Slot → ℕ) (old : DeskState) (class : ℕ) (bs : List Buffer) (new : DeskState) → LendsWhole old class bs new → held h old ≡ held h new + weigh (of_buffer h) bs
gave_whole h old class bs new a =
    let kept : List AtHome = map {A = Buffer} {B = AtHome} (λ b. Kept b) bs in
    let p = weigh-permutation (of_home h) old.home (kept ++ new.home) a.home in
    let q = weigh-append (of_home h) kept new.home in
    let m = weigh-map (of_home h) (λ (b : Buffer). Kept b) bs in
    let s = ap (λ (d : DeskState). weigh (of_buffer h) d.cached) a.same in
    omega arith

freed_to : (h : Slot → ℕ) (old : DeskState) (b : Buffer) (new : DeskState) → Caches old b new → held h new ≡ held h old + h b.slot
freed_to h old b new c =
    let p = weigh-permutation (of_buffer h) (freed b ∷ old.cached) new.cached c.2 in
    let s = ap (λ (d : DeskState). weigh (of_home h) d.home) c.1 in
    omega arith

pub got_back : (h : Slot → ℕ) (old : DeskState) (b : Buffer) (r : Freed) (new : DeskState) → Frees old b r new → held h new ≡ held h old + h b.slot
got_back h old b Home new c =
    let p = weigh-permutation (of_home h) (Kept (freed b) ∷ old.home) new.home c.2 in
    let s = ap (λ (d : DeskState). weigh (of_buffer h) d.cached) c.1 in
    omega arith
got_back h old b Cached new c = freed_to h old b new c.0
got_back h old b Due new c = freed_to h old b new c.0

pub got_back_drawn : (old : DeskState) (b : Buffer) (r : Freed) (new : DeskState) → Frees old b r new → (new.drawn ≡ old.drawn) × (new.number ≡ old.number) × (new.digits ≡ old.digits) × (new.limit ≡ old.limit)
got_back_drawn old b Home new c = (ap (λ (d : DeskState). d.drawn) c.1, ap (λ (d : DeskState). d.number) c.1, ap (λ (d : DeskState). d.digits) c.1, ap (λ (d : DeskState). d.limit) c.1)
got_back_drawn old b Cached new c = (ap (λ (d : DeskState). d.drawn) c.0.1, ap (λ (d : DeskState). d.number) c.0.1, ap (λ (d : DeskState). d.digits) c.0.1, ap (λ (d : DeskState). d.limit) c.0.1)
got_back_drawn old b Due new c = (ap (λ (d : DeskState). d.drawn) c.0.1, ap (λ (d : DeskState). d.number) c.0.1, ap (λ (d : DeskState). d.digits) c.0.1, ap (λ (d : DeskState). d.limit) c.0.1)

-- another's parcel is cached
cached_all : (h : Slot → ℕ) (old : DeskState) (p : ParcelState) (new : DeskState) → CachesAll old p new → held h new ≡ held h old + weigh (of_buffer h) p.items
cached_all h old p new c =
    let w = weigh-permutation (of_buffer h) (p.items ++ old.cached) new.cached c.2 in
    let q = weigh-append (of_buffer h) p.items old.cached in
    let s = ap (λ (d : DeskState). weigh (of_home h) d.home) c.1 in
    omega arith

pub got_all_back : (h : Slot → ℕ) (old : DeskState) (p : ParcelState) (r : Freed) (new : DeskState) → FreesAll old p r new → held h new ≡ held h old + weigh (of_buffer h) p.items
got_all_back h old p Home new c =
    let w = weigh-permutation (of_home h) (map comes_home p.items ++ old.home) new.home c.2 in
    let q = weigh-append (of_home h) (map comes_home p.items) old.home in
    let m = weigh-map (of_home h) comes_home p.items in
    let s = ap (λ (d : DeskState). weigh (of_buffer h) d.cached) c.1 in
    omega arith
got_all_back h old p Cached new c = cached_all h old p new c.0
got_all_back h old p Due new c = cached_all h old p new c.0

pub got_all_back_drawn : (old : DeskState) (p : ParcelState) (r : Freed) (new : DeskState) → FreesAll old p r new → (new.drawn ≡ old.drawn) × (new.number ≡ old.number) × (new.digits ≡ old.digits) × (new.limit ≡ old.limit)
got_all_back_drawn old p Home new c = (ap (λ (d : DeskState). d.drawn) c.1, ap (λ (d : DeskState). d.number) c.1, ap (λ (d : DeskState). d.digits) c.1, ap (λ (d : DeskState). d.limit) c.1)
got_all_back_drawn old p Cached new c = (ap (λ (d : DeskState). d.drawn) c.0.1, ap (λ (d : DeskState). d.number) c.0.1, ap (λ (d : DeskState). d.digits) c.0.1, ap (λ (d : DeskState). d.limit) c.0.1)
got_all_back_drawn old p Due new c = (ap (λ (d : DeskState). d.drawn) c.0.1, ap (λ (d : DeskState). d.number) c.0.1, ap (λ (d : DeskState). d.digits) c.0.1, ap (λ (d : DeskState). d.limit) c.0.1)

pub handled : (h : Slot → ℕ) (old : DeskState) (batch : List Buffer) (new : DeskState) → Handles old batch new → held h new ≡ held h old + weigh (of_buffer h) batch
handled h old batch new c =
    let p = weigh-permutation (of_home h) _ new.home c.home in
    let q = weigh-append (of_home h) (map comes_home (own old.number batch)) old.home in
    let r = weigh-map (of_home h) comes_home (own old.number batch) in
    let p' = weigh-permutation (of_buffer h) _ new.cached c.cached in
    let q' = weigh-append (of_buffer h) (map passed_on (others old.number batch)) old.cached in
    let r' = weigh-map (of_buffer h) passed_on (others old.number batch) in
    let s = weigh-split (of_buffer h) (λ (b : Buffer). b.owner == old.number) batch in
    omega arith

pub sent_off : (h : Slot → ℕ) (old new : DeskState) (b : BatchState) → new ≡ record old { cached = new.cached } → GivesBucket old.digits old.number old.cached b new.cached → held h old ≡ held h new + of_batch h b
sent_off h old new b same c =
    let p = weigh-permutation (of_buffer h) old.cached (b.items ++ new.cached) c.taken.together in
    let q = weigh-append (of_buffer h) b.items new.cached in
    let s = ap (λ (d : DeskState). weigh (of_home h) d.home) same in
    omega arith

pub put_back : (h : Slot → ℕ) (old new : DeskState) (items : List Buffer) → new ≡ record old { cached = new.cached } → IsPermutation (old.cached ++ items) new.cached → held h new ≡ held h old + weigh (of_buffer h) items
put_back h old new items same c =
    let p = weigh-permutation (of_buffer h) (old.cached ++ items) new.cached c in
    let q = weigh-append (of_buffer h) old.cached items in
    let s = ap (λ (d : DeskState). weigh (of_home h) d.home) same in
    omega arith
