-- What is known once homes and caches are let go.
use Rattle.std.proofs.Common.{◌≡◌, ℕ, zero, suc, ◌+◌, List, [], ◌∷◌, ◌++◌, refl, sym, ap, ◌∙◌, IsPermutation, map, drop, Option, Some, None, append_assoc, append-nil}
use Rattle.std.specs.List.{flat_map}
use Rattle.std.proofs.lemmas.List.{map-append}
use Rattle.std.proofs.lemmas.Grind.{flat_map-append}
use Rattle.std.proofs.lemmas.List.Sorted.{IsPermutation-refl}
use Rattle.std.specs.Borrow.{GName}
use Rattle.region_cut.specs.declared.part.Bump.{Bump}
use Rattle.region_cut.specs.Bumps.{left_of, part_of}
use Rattle.region_cut.specs.Carved.{Carved}
use Rattle.region_cut.specs.Classes.{size_of}
use Rattle.region_cut.specs.Endings.{Ended, EndingsState}
use Rattle.slot_chain.specs.Buffer.{Buffer, ended_of}
use Rattle.pool_desk.specs.Homes.{AtHome, HomeState, kept_in, open_chunk, unused, unused_from}
use Rattle.pool_desk.specs.Homes.AtHome.{Kept, Fresh}
use Rattle.pool_desk.specs.HomesState.{slots_of_home, drawn_at}

pub kept_append : (xs ys : List AtHome) → kept_in (xs ++ ys) ≡ kept_in xs ++ kept_in ys
kept_append [] ys = refl
kept_append (Kept b ∷ xs) ys = ap (λ zs. b ∷ zs) (kept_append xs ys)
kept_append (Fresh u ∷ xs) ys = kept_append xs ys

kept_buffers : (bs : List Buffer) (us : List AtHome) → kept_in (map {A = Buffer} {B = AtHome} (λ x. Kept x) bs ++ us) ≡ bs ++ kept_in us
kept_buffers [] us = refl
kept_buffers (b ∷ bs) us = ap (λ zs. b ∷ zs) (kept_buffers bs us)

kept_unused_from : (chunk class : ℕ) (part : GName) (n i : ℕ) (bs : List ℕ) → kept_in (unused_from chunk class part n i bs) ≡ []
kept_unused_from chunk class part zero i bs = refl
kept_unused_from chunk class part (suc n) i bs = kept_unused_from chunk class part n (i + 1) (drop (size_of class) bs)

kept_unused : (m : Option Bump) → kept_in (unused m) ≡ []
kept_unused None = refl
kept_unused (Some b) = kept_unused_from b.chunk b.class (part_of b) (left_of b) b.next b.front.rest.now

kept_slots : (bs : List Buffer) (m : Option Bump) → kept_in (map {A = Buffer} {B = AtHome} (λ x. Kept x) bs ++ unused m) ≡ bs
kept_slots bs m = kept_buffers bs (unused m) ∙ (ap (λ zs. bs ++ zs) (kept_unused m) ∙ append-nil bs)

-- what is known after slots at home and drawn chunks were let go
abbrev pub let_go : List AtHome → List Carved → EndingsState → EndingsState
let_go slots drawn s = record { known = map ended_of (kept_in slots) ++ s.known; chunks = drawn ++ s.chunks }

-- a home: its list, then what its ties know, then its cursor
pub home_ends : (bs : List Buffer) (m : Option Bump) (ties : List Carved) (old s t : EndingsState)
    → s ≡ record old { known = map ended_of bs ++ old.known } → t ≡ record s { chunks = ties ++ s.chunks }
    → record t { chunks = open_chunk m ++ t.chunks } ≡ let_go (map {A = Buffer} {B = AtHome} (λ x. Kept x) bs ++ unused m) (open_chunk m ++ ties) old
home_ends bs m ties old s t e f =
    ap (λ (z : EndingsState). record z { chunks = open_chunk m ++ z.chunks }) (f ∙ ap (λ (z : EndingsState). record z { chunks = ties ++ z.chunks }) e)
    ∙ (ap (λ zs. record { known = map ended_of zs ++ old.known; chunks = open_chunk m ++ (ties ++ old.chunks) }) (sym (kept_slots bs m))
    ∙ ap (λ cs. record { known = map ended_of (kept_in (map {A = Buffer} {B = AtHome} (λ x. Kept x) bs ++ unused m)) ++ old.known; chunks = cs }) (sym (append_assoc (open_chunk m) ties old.chunks)))

-- one list, and then another
pub both_end : (ws ls : List Buffer) (old s t : EndingsState) → s ≡ record old { known = map ended_of ls ++ old.known }
    → t ≡ record s { known = map ended_of ws ++ s.known } → t ≡ record old { known = map ended_of (ws ++ ls) ++ old.known }
both_end ws ls old s t e f =
    f ∙ (ap (λ (z : EndingsState). record z { known = map ended_of ws ++ z.known }) e
    ∙ ap (λ zs. record old { known = zs }) (sym (ap (λ zs. zs ++ old.known) (map-append ended_of ws ls) ∙ append_assoc (map ended_of ws) (map ended_of ls) old.known)))

abbrev pub all_let_go : List HomeState → EndingsState → EndingsState
all_let_go hs s = let_go (flat_map slots_of_home hs) (flat_map drawn_at hs) s

let_go_after : (xs ys : List AtHome) (cs ds : List Carved) (s : EndingsState) → let_go xs cs (let_go ys ds s) ≡ let_go (xs ++ ys) (cs ++ ds) s
let_go_after xs ys cs ds s =
    ap (λ zs. record { known = zs; chunks = cs ++ (ds ++ s.chunks) })
    (sym (append_assoc (map ended_of (kept_in xs)) (map ended_of (kept_in ys)) s.known)
    ∙ ap (λ zs. zs ++ s.known) (sym (ap (map ended_of) (kept_append xs ys) ∙ map-append ended_of (kept_in xs) (kept_in ys))))
    ∙ ap (λ ds. record { known = map ended_of (kept_in (xs ++ ys)) ++ s.known; chunks = ds }) (sym (append_assoc cs ds s.chunks))

-- the last home, and then those before it
pub homes_end : (hs : List HomeState) (h : HomeState) (s t : EndingsState) → t ≡ let_go h.slots h.drawn s → all_let_go hs t ≡ all_let_go (hs ++ h ∷ []) s
homes_end hs h s t e =
    ap (all_let_go hs) e ∙ (let_go_after (flat_map slots_of_home hs) h.slots (flat_map drawn_at hs) h.drawn s
    ∙ (ap (λ zs. let_go zs (flat_map drawn_at hs ++ h.drawn) s) (sym (flat_map-append slots_of_home hs (h ∷ []) ∙ ap (λ zs. flat_map slots_of_home hs ++ zs) (append-nil h.slots)))
    ∙ ap (λ cs. let_go (flat_map slots_of_home (hs ++ h ∷ [])) cs s) (sym (flat_map-append drawn_at hs (h ∷ []) ∙ ap (λ zs. flat_map drawn_at hs ++ zs) (append-nil h.drawn)))))

-- a cache, and then the homes
pub desk_ends : (kept cached : List Buffer) (old mid new : List Ended) → mid ≡ map ended_of cached ++ old → new ≡ map ended_of kept ++ mid
    → IsPermutation (map ended_of (kept ++ cached) ++ old) new
desk_ends kept cached old mid new p e =
    let all : map ended_of (kept ++ cached) ++ old ≡ new =
    ap (λ zs. zs ++ old) (map-append ended_of kept cached) ∙ (append_assoc (map ended_of kept) (map ended_of cached) old
    ∙ (ap (λ zs. map ended_of kept ++ zs) (sym p) ∙ sym e)) in
    rw all (IsPermutation-refl new)
