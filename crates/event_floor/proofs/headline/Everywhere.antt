-- What holds of each buffer of a floor, of each slot that was never handed out, and of each chunk that a desk drew.
use Rattle.std.proofs.Common.{◌≡◌, ℕ, zero, suc, ◌<◌, not, ◌==◌, List, [], ◌∷◌, ◌++◌, map, flat_map, length, get_or, set, All, Option, Some, None, sym, ap, subst, IsPermutation}
use Rattle.std.specs.Prelude.{IfSome}
use Rattle.std.proofs.lemmas.List.Elements.{All-nil, All-cons, All-head, All-tail, All-append, All-set}
use Rattle.std.proofs.lemmas.List.Sorted.{All-permutation, IsPermutation-sym}
use Rattle.region_cut.specs.declared.slot.Slot.{Slot}
use Rattle.region_cut.specs.Carved.{Carved}
use Rattle.region_cut.specs.Classes.{slots_of}
use Rattle.slot_chain.specs.Buffer.{Buffer}
use Rattle.slot_chain.specs.Filling.{emptied}
use Rattle.pool_desk.specs.Homes.{AtHome, Unused, Names, TakesNext, comes_home, taken_next, unused_from, kept_in}
use Rattle.pool_desk.specs.Homes.{GivenAs}
use Rattle.pool_desk.specs.Homes.AtHome.{Kept, Fresh}
use Rattle.pool_desk.specs.Desks.{IdleState, DeskState}
use Rattle.pool_desk.specs.Steps.{freed, passed_on, own, others, Caches, Frees}
use Rattle.pool_desk.specs.declared.freed.Freed.{Freed}
use Rattle.pool_desk.specs.declared.freed.Freed.TheVariants.{Home as FreedHome, Cached as FreedCached, Due as FreedDue}
use Rattle.event_floor.specs.Desks.AnyDeskState.{Idle, Held}
use Rattle.event_floor.specs.Lent.{index_of, buffers_lent}
use Rattle.event_floor.specs.Inboxes.{QueuedState, inbox_at, sent_as, as_linked, no_batch, buffers_in}
use Rattle.event_floor.specs.Desks.{AnyDeskState, adopted, retired, home_of, cached_of}
use Rattle.event_floor.specs.Floors.{FloorState, desk_count, desk_at, no_desk, with_any_desk, with_desk, IsIdle, IsHeld}
use Rattle.event_floor.specs.Steps.{DrawsChunk, LendsSlot, SendsBatch, LinksBatch, TakesFront, TakesBack}
use Rattle.event_floor.specs.headline.EndsKnown.{buffers_with, buffers_of}
use Rattle.event_floor.specs.headline.Names.{chunks_of}
use Rattle.event_floor.specs.headline.EndsKnown.{fresh_in, fresh_of}
use Rattle.event_floor.proofs.headline.ByPlace.{lent_each}
use Rattle.event_floor.proofs.headline.Found.{All-flat, All-parts, at_each_desk, kept_back}
use Rattle.event_floor.proofs.headline.Lists.{get_or_same, All-first, All-second}
use Rattle.event_floor.proofs.headline.Named.{each_desk, each_row, each_place, All-map-to, All-filtered}
use Rattle.event_floor.proofs.headline.Tables.{lent_place}

-- of a slot at home: what holds of buffers, or what holds of the others
abbrev pub IsHome : (Buffer → Type 0) → (Unused → Type 0) → AtHome → Type 0
IsHome K U (Kept b) = K b
IsHome K U (Fresh u) = U u

-- of a desk
pub record OfDesk (K : Buffer → Type 0) (U : Unused → Type 0) (R : Carved → Type 0) (s : AnyDeskState) : Type 0 where
  pub home : All (IsHome K U) (home_of s)
  pub cached : All K (cached_of s)
  pub chunks : All R (chunks_of s)

pub record Everywhere (K : Buffer → Type 0) (U : Unused → Type 0) (R : Carved → Type 0) (v : FloorState) : Type 0 where
  pub desks : (a : ℕ) → a < desk_count v → OfDesk K U R (desk_at v a)
  pub lent : (i : ℕ) → IfSome (get_or v.lent i None) K
  pub queued : (b : ℕ) → All (λ (p : QueuedState). All K p.buffers) (inbox_at v.inboxes b)

module _ (K : Buffer → Type 0) (U : Unused → Type 0) (R : Carved → Type 0) where
  -- ---- from all lists joined, and back

  home_from : (hs : List AtHome) → All K (kept_in hs) → All U (fresh_in hs) → All (IsHome K U) hs
  home_from [] k u = All-nil (IsHome K U)
  home_from (Kept b ∷ hs) k u = All-cons (IsHome K U) (Kept b) hs (All-head K b (kept_in hs) k) (home_from hs (All-tail K b (kept_in hs) k) u)
  home_from (Fresh x ∷ hs) k u = All-cons (IsHome K U) (Fresh x) hs (All-head U x (fresh_in hs) u) (home_from hs k (All-tail U x (fresh_in hs) u))

  fresh_back : (hs : List AtHome) → All (IsHome K U) hs → All U (fresh_in hs)
  fresh_back [] h = All-nil U
  fresh_back (Kept b ∷ hs) h = fresh_back hs (All-tail (IsHome K U) (Kept b) hs h)
  fresh_back (Fresh u ∷ hs) h = All-cons U u (fresh_in hs) (All-head (IsHome K U) (Fresh u) hs h) (fresh_back hs (All-tail (IsHome K U) (Fresh u) hs h))

  lent_from : (lent : List (Option Buffer)) → All K (buffers_lent lent) → (i : ℕ) → IfSome (get_or lent i None) K
  lent_from [] h i = tt
  lent_from (None ∷ lent) h zero = tt
  lent_from (None ∷ lent) h (suc i) = lent_from lent h i
  lent_from (Some b ∷ lent) h zero = All-head K b (buffers_lent lent) h
  lent_from (Some b ∷ lent) h (suc i) = lent_from lent (All-tail K b (buffers_lent lent) h) i

  row_from : (rows : List (List QueuedState)) → All K (flat_map buffers_in rows) → (b : ℕ) → All (λ (p : QueuedState). All K p.buffers) (inbox_at rows b)
  row_from [] h b = All-nil (λ (p : QueuedState). All K p.buffers)
  row_from (ps ∷ rows) h zero = All-parts K (λ (p : QueuedState). p.buffers) ps (All-first K (buffers_in ps) (flat_map buffers_in rows) h)
  row_from (ps ∷ rows) h (suc b) = row_from rows (All-second K (buffers_in ps) (flat_map buffers_in rows) h) b

  pub everywhere : (v : FloorState) → All K (buffers_of v) → All U (fresh_of v) → All R (flat_map chunks_of v.desks) → Everywhere K U R v
  everywhere v k u r =
      let desks = All-parts K buffers_with v.desks (All-first K (flat_map buffers_with v.desks) _ k) in
      let out = All-second K (flat_map buffers_with v.desks) (buffers_lent v.lent ++ flat_map buffers_in v.inboxes) k in
      let fresh = All-parts U (λ s. fresh_in (home_of s)) v.desks u in
      let chunks = All-parts R chunks_of v.desks r in
      record {
        desks = λ a l. record {
          home = home_from (home_of (desk_at v a)) (All-first K (kept_in (home_of (desk_at v a))) (cached_of (desk_at v a)) (desks a no_desk l)) (fresh a no_desk l);
          cached = All-second K (kept_in (home_of (desk_at v a))) (cached_of (desk_at v a)) (desks a no_desk l);
          chunks = chunks a no_desk l;
        };
        lent = lent_from v.lent (All-first K (buffers_lent v.lent) (flat_map buffers_in v.inboxes) out);
        queued = row_from v.inboxes (All-second K (buffers_lent v.lent) (flat_map buffers_in v.inboxes) out);
      }

  module _ (v : FloorState) (e : Everywhere K U R v) where
    pub buffers_everywhere : All K (buffers_of v)
    buffers_everywhere =
        All-append K (flat_map buffers_with v.desks) _
        (All-flat K buffers_with v.desks (at_each_desk (λ (s : AnyDeskState). All K (buffers_with s)) v
        (λ a l. All-append K (kept_in (home_of (desk_at v a))) _ (kept_back (IsHome K U) (home_of (desk_at v a)) (e.desks a l).home) (e.desks a l).cached)))
        (All-append K (buffers_lent v.lent) _ (lent_each K v.lent e.lent)
        (All-flat K buffers_in v.inboxes
        (λ k d l. subst (λ ps. All K (buffers_in ps)) (get_or_same v.inboxes k [] d l) (All-flat K (λ (p : QueuedState). p.buffers) (inbox_at v.inboxes k) (e.queued k)))))

    pub fresh_everywhere : All U (fresh_of v)
    fresh_everywhere = All-flat U (λ s. fresh_in (home_of s)) v.desks (at_each_desk (λ (s : AnyDeskState). All U (fresh_in (home_of s))) v (λ a l. fresh_back (home_of (desk_at v a)) (e.desks a l).home))

    pub chunks_everywhere : All R (flat_map chunks_of v.desks)
    chunks_everywhere = All-flat R chunks_of v.desks (at_each_desk (λ (s : AnyDeskState). All R (chunks_of s)) v (λ a l. (e.desks a l).chunks))

    -- ---- requests

    held_here : (a : ℕ) (d : DeskState) → IsHeld v a d → OfDesk K U R (Held d)
    held_here a d h = subst (OfDesk K U R) h.1 (e.desks a h.0)

    idle_here : (a : ℕ) (d : IdleState) → IsIdle v a d → OfDesk K U R (Idle d)
    idle_here a d h = subst (OfDesk K U R) h.1 (e.desks a h.0)

    -- the floor with another desk, another table and other inboxes
    changed : (a : ℕ) (s : AnyDeskState) (lent : List (Option Buffer)) (inboxes : List (List QueuedState)) → a < desk_count v → OfDesk K U R s
        → ((i : ℕ) → IfSome (get_or lent i None) K) → ((b : ℕ) → All (λ (p : QueuedState). All K p.buffers) (inbox_at inboxes b))
        → (w : FloorState) → w.desks ≡ set v.desks a s → w.lent ≡ lent → w.inboxes ≡ inboxes → Everywhere K U R w
    changed a s lent inboxes l here lends batches w d t i = record {
      desks = subst (λ (ds : List AnyDeskState). (b : ℕ) → b < length ds → OfDesk K U R (get_or ds b no_desk)) (sym d) (λ b m. each_desk (λ n x. OfDesk K U R x) v.desks a s l here e.desks b m);
      lent = subst (λ (ts : List (Option Buffer)). (i : ℕ) → IfSome (get_or ts i None) K) (sym t) lends;
      queued = subst (λ (is : List (List QueuedState)). (b : ℕ) → All (λ (p : QueuedState). All K p.buffers) (inbox_at is b)) (sym i) batches;
    }

    pub adopt_everywhere : (w : FloorState) (a x : ℕ) (d : IdleState) → IsIdle v a d → w ≡ with_desk v a (adopted x d) → Everywhere K U R w
    adopt_everywhere w a x d h same =
        let k = idle_here a d h in
        changed a (Held (adopted x d)) v.lent v.inboxes h.0 (record { home = k.home; cached = All-nil K; chunks = k.chunks }) e.lent e.queued w
        (ap (λ (f : FloorState). f.desks) same) (ap (λ (f : FloorState). f.lent) same) (ap (λ (f : FloorState). f.inboxes) same)

    pub retire_everywhere : (w : FloorState) (a : ℕ) (d : DeskState) → IsHeld v a d → w ≡ with_any_desk v a (Idle (retired d)) → Everywhere K U R w
    retire_everywhere w a d h same =
        let k = held_here a d h in
        changed a (Idle (retired d)) v.lent v.inboxes h.0 (record { home = k.home; cached = All-nil K; chunks = k.chunks }) e.lent e.queued w
        (ap (λ (f : FloorState). f.desks) same) (ap (λ (f : FloorState). f.lent) same) (ap (λ (f : FloorState). f.inboxes) same)

    pub link_everywhere : (w : FloorState) (number : ℕ) → LinksBatch v number w → Everywhere K U R w
    link_everywhere w number s = subst (Everywhere K U R) (sym s.same) (record {
      desks = e.desks;
      lent = e.lent;
      queued = each_row (All (λ (p : QueuedState). All K p.buffers)) v.inboxes s.inbox _
          (All-set (λ (p : QueuedState). All K p.buffers) (inbox_at v.inboxes s.inbox) s.place (as_linked (get_or (inbox_at v.inboxes s.inbox) s.place no_batch))
          (e.queued s.inbox s.place no_batch s.unlinked.1) (e.queued s.inbox)) e.queued;
    })

    pub send_everywhere : (w : FloorState) (a t number count : ℕ) → SendsBatch v a t number count w → Everywhere K U R w
    send_everywhere w a t number count s =
        let k = held_here a s.before s.routes.0 in
        let all = All-permutation K _ _ s.gives.taken.together k.cached in
        changed a (Held s.after) v.lent (set v.inboxes t (inbox_at v.inboxes t ++ sent_as number s.batch ∷ [])) s.routes.0.0
        (record {
          home = subst (λ hs. All (IsHome K U) hs) (sym (ap (λ (x : DeskState). x.home) s.same_desk)) k.home;
          cached = All-second K s.batch.items s.after.cached all;
          chunks = subst (λ cs. All R cs) (sym (ap (λ (x : DeskState). x.drawn) s.same_desk)) k.chunks;
        })
        e.lent
        (each_row (All (λ (p : QueuedState). All K p.buffers)) v.inboxes t _
        (All-append (λ (p : QueuedState). All K p.buffers) (inbox_at v.inboxes t) (sent_as number s.batch ∷ []) (e.queued t)
        (All-cons (λ (p : QueuedState). All K p.buffers) (sent_as number s.batch) [] (All-first K s.batch.items s.after.cached all) (All-nil _)))
        e.queued)
        w (ap (λ (f : FloorState). f.desks) s.same) (ap (λ (f : FloorState). f.lent) s.same) (ap (λ (f : FloorState). f.inboxes) s.same)

    module _ (changed_to : (b : Buffer) (n : ℕ) → K b → K (record b { forwards = n })) (as_emptied : (b : Buffer) → K b → K (emptied b)) where
      as_freed : (b : Buffer) → K b → K (freed b)
      as_freed b p = as_emptied (record b { forwards = 0 }) (changed_to b 0 p)

      freed_cache : (d d' : DeskState) (b : Buffer) → OfDesk K U R (Held d) → K b → Caches d b d' → OfDesk K U R (Held d')
      freed_cache d d' b k p f = record {
        home = subst (λ hs. All (IsHome K U) hs) (sym (ap (λ (x : DeskState). x.home) f.1)) k.home;
        cached = All-permutation K _ _ f.2 (All-cons K (freed b) d.cached (as_freed b p) k.cached);
        chunks = subst (λ cs. All R cs) (sym (ap (λ (x : DeskState). x.drawn) f.1)) k.chunks;
      }

      freed_desk : (d d' : DeskState) (b : Buffer) (r : Freed) → OfDesk K U R (Held d) → K b → Frees d b r d' → OfDesk K U R (Held d')
      freed_desk d d' b FreedHome k p f = record {
        home = All-permutation (IsHome K U) _ _ f.2 (All-cons (IsHome K U) (Kept (freed b)) d.home (as_freed b p) k.home);
        cached = subst (λ bs. All K bs) (sym (ap (λ (x : DeskState). x.cached) f.1)) k.cached;
        chunks = subst (λ cs. All R cs) (sym (ap (λ (x : DeskState). x.drawn) f.1)) k.chunks;
      }
      freed_desk d d' b FreedCached k p f = freed_cache d d' b k p f.0
      freed_desk d d' b FreedDue k p f = freed_cache d d' b k p f.0

      pub free_everywhere : (w : FloorState) (a chunk index : ℕ) (r : Freed) → TakesBack v a chunk index r w → Everywhere K U R w
      free_everywhere w a chunk index r s =
          let here = lent_place v.lent chunk index s.buffer s.was_lent in
          let p : K s.buffer = subst (λ (o : Option Buffer). IfSome o K) here.1 (e.lent _) in
          changed a (Held s.after) (set v.lent (index_of s.buffer.slot) None) v.inboxes s.held.0
          (freed_desk s.before s.after s.buffer r (held_here a s.before s.held) p s.frees)
          (each_place K v.lent (index_of s.buffer.slot) None tt e.lent) e.queued
          w (ap (λ (f : FloorState). f.desks) s.same) (ap (λ (f : FloorState). f.lent) s.same) (ap (λ (f : FloorState). f.inboxes) s.same)

      pub take_everywhere : (w : FloorState) (b home on : ℕ) → TakesFront v b home on w → Everywhere K U R w
      take_everywhere w b home on s =
          let k = held_here b s.before s.held in
          let row = subst (λ ps. All (λ (p : QueuedState). All K p.buffers) ps) s.is_front (e.queued b) in
          let all : All K s.front.buffers = All-head (λ (p : QueuedState). All K p.buffers) s.front s.rest row in
          let number = s.before.number in
          changed b (Held s.after) v.lent (set v.inboxes b s.rest) s.held.0
          (record {
            home = All-permutation (IsHome K U) _ _ s.handles.home
                (All-append (IsHome K U) (map comes_home (own number s.front.buffers)) s.before.home
                (All-map-to K (IsHome K U) comes_home (own number s.front.buffers) as_emptied (All-filtered K (λ (x : Buffer). x.owner == number) s.front.buffers all)) k.home);
            cached = All-permutation K _ _ s.handles.cached
                (All-append K (map passed_on (others number s.front.buffers)) s.before.cached
                (All-map-to K K passed_on (others number s.front.buffers) (λ b p. changed_to b _ p) (All-filtered K (λ (x : Buffer). not (x.owner == number)) s.front.buffers all)) k.cached);
            chunks = subst (λ cs. All R cs) (sym (ap (λ (x : DeskState). x.drawn) s.handles.same)) k.chunks;
          })
          e.lent
          (each_row (All (λ (p : QueuedState). All K p.buffers)) v.inboxes b s.rest (All-tail (λ (p : QueuedState). All K p.buffers) s.front s.rest row) e.queued)
          w (ap (λ (f : FloorState). f.desks) s.same) (ap (λ (f : FloorState). f.lent) s.same) (ap (λ (f : FloorState). f.inboxes) s.same)

    -- a chunk is drawn
    pub claim_everywhere : (w : FloorState) (a class k : ℕ) (s : DrawsChunk v a class k w)
        → All (IsHome K U) (unused_from s.part.chunk class s.part.bytes.ghost_name (slots_of class) 0 s.part.bytes.now) → R s.claims.drawn.drawn → Everywhere K U R w
    claim_everywhere w a class k s fresh chunk =
        let h = held_here a s.before s.held in
        changed a (Held s.after) v.lent v.inboxes s.held.0
        (record {
          home = All-permutation (IsHome K U) _ _ s.claims.home (All-append (IsHome K U) _ s.before.home fresh h.home);
          cached = subst (λ bs. All K bs) (sym (ap (λ (x : DeskState). x.cached) s.claims.same)) h.cached;
          chunks = All-permutation R _ _ s.claims.drawn.added (All-cons R s.claims.drawn.drawn s.before.drawn chunk h.chunks);
        })
        e.lent e.queued
        w (ap (λ (f : FloorState). f.desks) s.same) (ap (λ (f : FloorState). f.lent) s.same) (ap (λ (f : FloorState). f.inboxes) s.same)

    -- a slot is lent
    module _ (as_emptied : (b : Buffer) → K b → K (emptied b)) (give : (u : Unused) (b : Buffer) → GivenAs (Fresh u) b → U u → K b) (w : FloorState) (a n : ℕ) (slot : Slot) (s : LendsSlot v a n slot w)
        (next : (u : Unused) (t : TakesNext u s.buffer s.before.drawn s.after.drawn) → IsPermutation s.before.home (Fresh u ∷ s.after.home)
        → GivenAs (Fresh u) s.buffer → R t.from → R (taken_next t.from s.buffer.bytes.ghost_name t.rest)) where
      lent_to : K s.buffer → All (IsHome K U) s.after.home → All R s.after.drawn → Everywhere K U R w
      lent_to b home chunks =
          let h = held_here a s.before s.held in
          changed a (Held s.after) (set v.lent (index_of slot) (Some s.buffer)) v.inboxes s.held.0
          (record {
            home = home;
            cached = subst (λ bs. All K bs) (ap (λ (x : DeskState). x.cached) (sym s.allocs.2)) h.cached;
            chunks = chunks;
          })
          (each_place K v.lent (index_of slot) (Some s.buffer) b e.lent) e.queued
          w (ap (λ (f : FloorState). f.desks) s.same) (ap (λ (f : FloorState). f.lent) s.same) (ap (λ (f : FloorState). f.inboxes) s.same)

      lent_from_home : (x : AtHome) → GivenAs x s.buffer → Names x s.buffer s.before.drawn s.after.drawn → IsPermutation s.before.home (x ∷ s.after.home) → Everywhere K U R w
      lent_from_home (Kept c) g m p =
          let h = held_here a s.before s.held in
          let all = All-permutation (IsHome K U) _ _ p h.home in
          lent_to (subst K (sym g) (as_emptied c (All-head (IsHome K U) (Kept c) s.after.home all))) (All-tail (IsHome K U) (Kept c) s.after.home all) (subst (λ cs. All R cs) (sym m) h.chunks)
      lent_from_home (Fresh u) g m p =
          let h = held_here a s.before s.held in
          let all = All-permutation (IsHome K U) _ _ p h.home in
          let chunks = All-permutation R _ _ m.before h.chunks in
          lent_to (give u s.buffer g (All-head (IsHome K U) (Fresh u) s.after.home all)) (All-tail (IsHome K U) (Fresh u) s.after.home all)
          (All-permutation R _ _ (IsPermutation-sym _ _ m.after)
          (All-cons R _ m.others (next u m p g (All-head R m.from m.others chunks)) (All-tail R m.from m.others chunks)))

      pub alloc_everywhere : Everywhere K U R w
      alloc_everywhere = let g = s.allocs.1 in lent_from_home g.from g.gives g.names g.others
