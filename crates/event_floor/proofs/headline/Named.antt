-- Where no new name is taken, all buffers keep their names.
use Rattle.std.proofs.Common.{◌≡◌, ◌≢◌, ℕ, zero, suc, ◌+◌, ◌<◌, Bool, true, false, not, ◌==◌, cond, List, [], ◌∷◌, ◌++◌, map, filter, length, get_or, set, All, Option, Some, None, sym, ap, ◌∙◌, subst, ⊎_elim}
use Rattle.std.specs.Prelude.{IfSome, count_by}
use Rattle.std.specs.List.{slice_get}
use Rattle.std.proofs.lemmas.Bool.Decides.{eqb_tells}
use Rattle.std.proofs.lemmas.List.{get_or-set_same, get_or-set_other, length-set}
use Rattle.std.proofs.lemmas.List.Elements.{All-nil, All-cons, All-head, All-tail, All-append, All-set}
use Rattle.std.proofs.lemmas.List.Sorted.{All-permutation}
use Rattle.region_cut.specs.Carved.{Carved}
use Rattle.slot_chain.specs.Buffer.{Buffer}
use Rattle.slot_chain.specs.Filling.{emptied}
use Rattle.pool_desk.specs.Homes.{comes_home}
use Rattle.pool_desk.specs.Homes.AtHome.{Kept}
use Rattle.pool_desk.specs.Desks.{IdleState, DeskState}
use Rattle.pool_desk.specs.Steps.{freed, passed_on, own, others, Caches, Frees}
use Rattle.pool_desk.specs.declared.freed.Freed.{Freed}
use Rattle.pool_desk.specs.declared.freed.Freed.TheVariants.{Home as FreedHome, Cached as FreedCached, Due as FreedDue}
use Rattle.event_floor.specs.Desks.AnyDeskState.{Idle, Held}
use Rattle.event_floor.specs.Lent.{index_of}
use Rattle.event_floor.specs.Inboxes.{QueuedState, inbox_at, sent_as, as_linked, no_batch}
use Rattle.event_floor.specs.Desks.{AnyDeskState, adopted, retired}
use Rattle.event_floor.specs.Floors.{FloorState, desk_count, no_desk, with_any_desk, with_desk, IsIdle, IsHeld}
use Rattle.event_floor.specs.Steps.{SendsBatch, LinksBatch, TakesFront, TakesBack}
use Rattle.event_floor.specs.headline.Names.{HasName, IsNamedHome, IsNamedDesk}
use Rattle.event_floor.proofs.headline.ByPlace.{NamesByPlace}
use Rattle.event_floor.proofs.headline.Lists.{All-first, All-second}
use Rattle.event_floor.proofs.headline.Tables.{lent_place}

-- ---- lists

pub each_desk : (P : ℕ → AnyDeskState → Type 0) (desks : List AnyDeskState) (a : ℕ) (s : AnyDeskState) → a < length desks → P a s
    → ((b : ℕ) → b < length desks → P b (get_or desks b no_desk)) → (b : ℕ) → b < length (set desks a s) → P b (get_or (set desks a s) b no_desk)
each_desk P desks a s l p each b m =
    ⊎_elim (λ (same : _ × (b ≡ a)). rw same.1 (rw (get_or-set_same desks a s no_desk l) p))
    (λ (other : _ × (b ≢ a)). rw (get_or-set_other desks a b s no_desk other.1) (each b (rw (length-set desks a s) at m))) (eqb_tells b a)

pub each_row : {X : Type 0} (P : List X → Type 0) (rows : List (List X)) (b : ℕ) (xs : List X) → P xs → ((c : ℕ) → P (get_or rows c [])) → (c : ℕ) → P (get_or (set rows b xs) c [])
each_row P [] zero xs p each c = each c
each_row P [] (suc b) xs p each c = each c
each_row P (x ∷ rows) zero xs p each zero = p
each_row P (x ∷ rows) zero xs p each (suc c) = each (suc c)
each_row P (x ∷ rows) (suc b) xs p each zero = each zero
each_row P (x ∷ rows) (suc b) xs p each (suc c) = each_row P rows b xs p (λ d. each (suc d)) c

pub each_place : (P : Buffer → Type 0) (lent : List (Option Buffer)) (p : ℕ) (o : Option Buffer) → IfSome o P → ((i : ℕ) → IfSome (get_or lent i None) P) → (i : ℕ) → IfSome (get_or (set lent p o) i None) P
each_place P [] zero o h each i = each i
each_place P [] (suc p) o h each i = each i
each_place P (x ∷ lent) zero o h each zero = h
each_place P (x ∷ lent) zero o h each (suc i) = each (suc i)
each_place P (x ∷ lent) (suc p) o h each zero = each zero
each_place P (x ∷ lent) (suc p) o h each (suc i) = each_place P lent p o h (λ j. each (suc j)) i

pub All-map-to : {X Y : Type 0} (P : X → Type 0) (Q : Y → Type 0) (f : X → Y) (xs : List X) → ((x : X) → P x → Q (f x)) → All P xs → All Q (map f xs)
All-map-to P Q f [] g h = All-nil Q
All-map-to P Q f (x ∷ xs) g h = All-cons Q (f x) (map f xs) (g x (All-head P x xs h)) (All-map-to P Q f xs g (All-tail P x xs h))

pub All-filtered : {X : Type 0} (P : X → Type 0) (p : X → Bool) (xs : List X) → All P xs → All P (filter p xs)
All-filtered P p [] h = All-nil P
All-filtered P p (x ∷ xs) h = go (p x) (All-filtered P p xs (All-tail P x xs h))
  where
    go : (b : Bool) → All P (filter p xs) → All P (cond b (x ∷ filter p xs) (filter p xs))
    go true k = All-cons P x (filter p xs) (All-head P x xs h) k
    go false k = k

-- ---- names

pub freed_named : (names : List Carved) (b : Buffer) → HasName names b → HasName names (freed b)
freed_named names b h = record { chunk = h.chunk; is_chunk = h.is_chunk; class = h.class; name = h.name; size = h.size }

pub emptied_named : (names : List Carved) (b : Buffer) → HasName names b → HasName names (emptied b)
emptied_named names b h = record { chunk = h.chunk; is_chunk = h.is_chunk; class = h.class; name = h.name; size = h.size }

pub passed_named : (names : List Carved) (b : Buffer) → HasName names b → HasName names (passed_on b)
passed_named names b h = record { chunk = h.chunk; is_chunk = h.is_chunk; class = h.class; name = h.name; size = h.size }

module _ (names : List Carved) (v : FloorState) (n : NamesByPlace names v) where
  pub held_named : (a : ℕ) (d : DeskState) → IsHeld v a d → IsNamedDesk names v.drawn a (Held d)
  held_named a d h = subst (IsNamedDesk names v.drawn a) h.1 (n.desks a h.0)

  pub idle_named : (a : ℕ) (d : IdleState) → IsIdle v a d → IsNamedDesk names v.drawn a (Idle d)
  idle_named a d h = subst (IsNamedDesk names v.drawn a) h.1 (n.desks a h.0)

  -- the floor with another desk, another table and other inboxes
  pub changed_named : (a : ℕ) (s : AnyDeskState) (lent : List (Option Buffer)) (inboxes : List (List QueuedState)) (next : ℕ) → a < desk_count v → IsNamedDesk names v.drawn a s
      → ((i : ℕ) → IfSome (get_or lent i None) (HasName names)) → ((b : ℕ) → All (λ (p : QueuedState). All (HasName names) p.buffers) (inbox_at inboxes b))
      → NamesByPlace names (record v { desks = set v.desks a s; lent = lent; inboxes = inboxes; next = next })
  changed_named a s lent inboxes next l p lends batches = record {
    count = n.count;
    chunks = n.chunks;
    desks = λ b m. each_desk (IsNamedDesk names v.drawn) v.desks a s l p n.desks b m;
    lent = lends;
    queued = batches;
  }

  -- the desk with other slots at home and another cache
  pub desk_named : (a : ℕ) (d d' : DeskState) → IsNamedDesk names v.drawn a (Held d) → d'.drawn ≡ d.drawn → All (IsNamedHome names) d'.home → All (HasName names) d'.cached
      → IsNamedDesk names v.drawn a (Held d')
  desk_named a d d' h e home cached = record {
    home = home;
    cached = cached;
    same = subst (λ cs. All (λ (c : Carved). slice_get names c.chunk ≡ Some c) cs) (sym e) h.same;
    once = λ k. ap (count_by (λ (c : Carved). c.chunk == k)) e ∙ h.once k;
  }

  pub adopt_named : (w : FloorState) (a x : ℕ) (d : IdleState) → IsIdle v a d → w ≡ with_desk v a (adopted x d) → NamesByPlace names w
  adopt_named w a x d h e =
      let k = idle_named a d h in
      subst (NamesByPlace names) (sym e)
      (changed_named a (Held (adopted x d)) v.lent v.inboxes v.next h.0 (record { home = k.home; cached = All-nil (HasName names); same = k.same; once = k.once }) n.lent n.queued)

  pub retire_named : (w : FloorState) (a : ℕ) (d : DeskState) → IsHeld v a d → w ≡ with_any_desk v a (Idle (retired d)) → NamesByPlace names w
  retire_named w a d h e =
      let k = held_named a d h in
      subst (NamesByPlace names) (sym e)
      (changed_named a (Idle (retired d)) v.lent v.inboxes v.next h.0 (record { home = k.home; cached = All-nil (HasName names); same = k.same; once = k.once }) n.lent n.queued)

  freed_cache : (a : ℕ) (d d' : DeskState) (b : Buffer) → IsNamedDesk names v.drawn a (Held d) → HasName names b → Caches d b d' → IsNamedDesk names v.drawn a (Held d')
  freed_cache a d d' b k p f =
      desk_named a d d' k (ap (λ (x : DeskState). x.drawn) f.1)
      (subst (λ hs. All (IsNamedHome names) hs) (sym (ap (λ (x : DeskState). x.home) f.1)) k.home)
      (All-permutation (HasName names) _ _ f.2 (All-cons (HasName names) (freed b) d.cached (freed_named names b p) k.cached))

  freed_desk : (a : ℕ) (d d' : DeskState) (b : Buffer) (r : Freed) → IsNamedDesk names v.drawn a (Held d) → HasName names b → Frees d b r d' → IsNamedDesk names v.drawn a (Held d')
  freed_desk a d d' b FreedHome k p f =
      desk_named a d d' k (ap (λ (x : DeskState). x.drawn) f.1)
      (All-permutation (IsNamedHome names) _ _ f.2 (All-cons (IsNamedHome names) (Kept (freed b)) d.home (freed_named names b p) k.home))
      (subst (λ bs. All (HasName names) bs) (sym (ap (λ (x : DeskState). x.cached) f.1)) k.cached)
  freed_desk a d d' b FreedCached k p f = freed_cache a d d' b k p f.0
  freed_desk a d d' b FreedDue k p f = freed_cache a d d' b k p f.0

  pub free_named : (w : FloorState) (a chunk index : ℕ) (r : Freed) → TakesBack v a chunk index r w → NamesByPlace names w
  free_named w a chunk index r s =
      let here = lent_place v.lent chunk index s.buffer s.was_lent in
      let p : HasName names s.buffer = subst (λ (o : Option Buffer). IfSome o (HasName names)) here.1 (n.lent _) in
      subst (NamesByPlace names) (sym s.same)
      (changed_named a (Held s.after) (set v.lent (index_of s.buffer.slot) None) v.inboxes v.next s.held.0
      (freed_desk a s.before s.after s.buffer r (held_named a s.before s.held) p s.frees)
      (each_place (HasName names) v.lent (index_of s.buffer.slot) None tt n.lent) n.queued)

  pub send_named : (w : FloorState) (a t number count : ℕ) → SendsBatch v a t number count w → NamesByPlace names w
  send_named w a t number count s =
      let k = held_named a s.before s.routes.0 in
      let all = All-permutation (HasName names) _ _ s.gives.taken.together k.cached in
      subst (NamesByPlace names) (sym s.same)
      (changed_named a (Held s.after) v.lent (set v.inboxes t (inbox_at v.inboxes t ++ sent_as number s.batch ∷ [])) (v.next + 1) s.routes.0.0
      (desk_named a s.before s.after k (ap (λ (x : DeskState). x.drawn) s.same_desk)
      (subst (λ hs. All (IsNamedHome names) hs) (sym (ap (λ (x : DeskState). x.home) s.same_desk)) k.home)
      (All-second (HasName names) s.batch.items s.after.cached all))
      n.lent
      (each_row (All (λ (p : QueuedState). All (HasName names) p.buffers)) v.inboxes t _
      (All-append (λ (p : QueuedState). All (HasName names) p.buffers) (inbox_at v.inboxes t) (sent_as number s.batch ∷ []) (n.queued t)
      (All-cons (λ (p : QueuedState). All (HasName names) p.buffers) (sent_as number s.batch) [] (All-first (HasName names) s.batch.items s.after.cached all) (All-nil _)))
      n.queued))

  pub link_named : (w : FloorState) (number : ℕ) → LinksBatch v number w → NamesByPlace names w
  link_named w number s =
      subst (NamesByPlace names) (sym s.same) (record {
        count = n.count;
        chunks = n.chunks;
        desks = n.desks;
        lent = n.lent;
        queued = each_row (All (λ (p : QueuedState). All (HasName names) p.buffers)) v.inboxes s.inbox _
            (All-set (λ (p : QueuedState). All (HasName names) p.buffers) (inbox_at v.inboxes s.inbox) s.place (as_linked (get_or (inbox_at v.inboxes s.inbox) s.place no_batch))
            (n.queued s.inbox s.place no_batch s.unlinked.1) (n.queued s.inbox)) n.queued;
      })

  pub take_named : (w : FloorState) (b home on : ℕ) → TakesFront v b home on w → NamesByPlace names w
  take_named w b home on s =
      let k = held_named b s.before s.held in
      let row = subst (λ ps. All (λ (p : QueuedState). All (HasName names) p.buffers) ps) s.is_front (n.queued b) in
      let all : All (HasName names) s.front.buffers = All-head (λ (p : QueuedState). All (HasName names) p.buffers) s.front s.rest row in
      let number = s.before.number in
      subst (NamesByPlace names) (sym s.same)
      (changed_named b (Held s.after) v.lent (set v.inboxes b s.rest) v.next s.held.0
      (desk_named b s.before s.after k (ap (λ (x : DeskState). x.drawn) s.handles.same)
      (All-permutation (IsNamedHome names) _ _ s.handles.home
      (All-append (IsNamedHome names) (map comes_home (own number s.front.buffers)) s.before.home
      (All-map-to (HasName names) (IsNamedHome names) comes_home (own number s.front.buffers) (emptied_named names) (All-filtered (HasName names) (λ (x : Buffer). x.owner == number) s.front.buffers all)) k.home))
      (All-permutation (HasName names) _ _ s.handles.cached
      (All-append (HasName names) (map passed_on (others number s.front.buffers)) s.before.cached
      (All-map-to (HasName names) (HasName names) passed_on (others number s.front.buffers) (passed_named names) (All-filtered (HasName names) (λ (x : Buffer). not (x.owner == number)) s.front.buffers all)) k.cached)))
      n.lent
      (each_row (All (λ (p : QueuedState). All (HasName names) p.buffers)) v.inboxes b s.rest (All-tail (λ (p : QueuedState). All (HasName names) p.buffers) s.front s.rest row) n.queued))
