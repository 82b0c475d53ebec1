-- Chunks that are drawn.
use Rattle.std.proofs.Common.{◌≡◌, ℕ, zero, suc, ◌+◌, ◌<◌, List, [], ◌∷◌, ◌++◌, map, length, drop, Some, Ok, refl, sym, ap, ◌∙◌, subst, IsPermutation}
use Rattle.std.specs.Borrow.{GName}
use Rattle.std.specs.List.{range_with_len}
use Rattle.std.proofs.lemmas.List.{map-append}
use Rattle.std.proofs.lemmas.List.Sorted.{IsPermutation-map}
use Rattle.region_cut.specs.Classes.{slots_of, size_of}
use Rattle.pool_desk.specs.Homes.{unused_from}
use Rattle.pool_desk.specs.Desks.{DeskState}
use Rattle.event_floor.specs.Desks.AnyDeskState.{Held as HeldDesk}
use Rattle.pool_machine.specs.declared.request.Request.TheVariants.{Claim}
use Rattle.pool_machine.specs.declared.reply.Reply.TheVariants.{Chunk}
use Rattle.event_floor.specs.Floors.{FloorState}
use Rattle.event_floor.specs.Steps.{DrawsChunk}
use Rattle.pool_machine.specs.Listing.{DeskListing}
use Rattle.pool_machine.proofs.Located.{LocatedStep}
use Rattle.event_floor.specs.headline.Listing.{entry_of, entry_at, desk_of, listing_of}
use Rattle.event_floor.specs.headline.Whole.{IsWhole}
use Rattle.pool_machine.proofs.ClaimStep.{ClaimEdits, after_claim, chunk_buffer, chunk_buffers, claim_applies}
use Rattle.event_floor.proofs.headline.Views.{held_seen, with_any_desk_seen}
use Rattle.event_floor.proofs.headline.Refused.{claim_accepted}
use Rattle.event_floor.proofs.headline.Holders.{numbered_held}

-- the slots of a chunk that were never handed out
unused_seen : (a k c : ℕ) (g : GName) (n i : ℕ) (bs : List ℕ) → map (entry_at a) (unused_from k c g n i bs) ≡ map (chunk_buffer k a c) (range_with_len i n)
unused_seen a k c g zero i bs = refl
unused_seen a k c g (suc n) i bs = ap (λ l. chunk_buffer k a c i ∷ l) (unused_seen a k c g n (i + 1) (drop (size_of c) bs))

-- ---- Claim

pub claim_done : (v w : FloorState) (a c k : ℕ) → IsWhole v → DrawsChunk v a c k w → LocatedStep (listing_of v) (Claim a c) (Ok (Chunk k)) (listing_of w)
claim_done v w a c k f s =
    let l = listing_of v in
    let d = s.before in
    let d' = s.after in
    let new = desk_of (HeldDesk d') in
    let seen = held_seen v a d s.held in
    let number : d.number ≡ a = (numbered_held v a d f s.held).0 in
    let number' : d'.number ≡ a = ap (λ (x : DeskState). x.number) s.claims.same ∙ number in
    let left : length v.drawn < v.chunks = subst (λ n. n < v.chunks) s.is_next s.undrawn in
    let slots : IsPermutation (unused_from k c s.part.bytes.ghost_name (slots_of c) 0 s.part.bytes.now ++ d.home) d'.home =
    subst (λ n. IsPermutation (unused_from n c s.part.bytes.ghost_name (slots_of c) 0 s.part.bytes.now ++ d.home) d'.home) s.is_part s.claims.home in
    let home : IsPermutation (chunk_buffers k a c ++ map (entry_at a) d.home) (map (entry_at a) d'.home) =
    subst (λ xs. IsPermutation xs (map (entry_at a) d'.home))
    (map-append (entry_at a) (unused_from k c s.part.bytes.ghost_name (slots_of c) 0 s.part.bytes.now) d.home
    ∙ ap (λ xs. xs ++ map (entry_at a) d.home) (unused_seen a k c s.part.bytes.ghost_name (slots_of c) 0 s.part.bytes.now))
    (IsPermutation-map (entry_at a) _ _ slots) in
    let edits : ClaimEdits l a c k new = record {
      next = s.is_next;
      undrawn = left;
      home = subst (λ xs. IsPermutation (chunk_buffers k a c ++ xs) (map (entry_at d'.number) d'.home)) (ap (λ n. map (entry_at n) d.home) (sym number) ∙ ap (λ (z : DeskListing). z.home) (sym seen))
          (subst (λ n. IsPermutation (chunk_buffers k a c ++ map (entry_at a) d.home) (map (entry_at n) d'.home)) (sym number') home);
      worker = ap (λ (x : DeskState). Some x.worker) s.claims.same ∙ ap (λ (z : DeskListing). z.worker) (sym seen);
      cache = ap (λ (x : DeskState). map entry_of x.cached) s.claims.same ∙ ap (λ (z : DeskListing). z.cache) (sym seen);
    } in
    let shown : listing_of w ≡ after_claim l a c k new =
    ap listing_of s.same
    ∙ ap (λ xs. record l { desks = xs; drawn = v.drawn ++ record { owner = a; class = c } ∷ [] }) (with_any_desk_seen v a (HeldDesk d')) in
    subst (λ z. LocatedStep l (Claim a c) (Ok (Chunk k)) z) (sym shown)
    (claim_applies l a c k new (claim_accepted v a c d s.held s.is_class s.claims.needed left) edits)
