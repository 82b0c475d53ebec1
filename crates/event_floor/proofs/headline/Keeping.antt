-- Each answer of a floor keeps all names.
use Rattle.std.proofs.Common.{◌≡◌, ℕ, zero, suc, ◌*◌, ◌==◌, is_some, length, List, [], get_or, All, Option, Some, None, Ok, Err, refl, sym, ap, subst}
use Rattle.std.specs.Prelude.{IfSome, replicate, count_by}
use Rattle.std.proofs.lemmas.Bool.{true≢false}
use Rattle.std.specs.List.{slice_get}
use Rattle.std.proofs.lemmas.List.Elements.{All-nil, All-append, All-cons}
use Rattle.region_cut.specs.declared.part.Part.{Part}
use Rattle.region_cut.specs.Carved.{Carved}
use Rattle.slot_chain.specs.Buffer.{Buffer}
use Rattle.digit_route.specs.Digits.{Scheme}
use Rattle.pool_machine.specs.declared.request.Request.{Request}
use Rattle.pool_machine.specs.declared.request.Request.TheVariants.{Adopt, Retire, Claim, Alloc, Free, Send, Link, Take}
use Rattle.pool_machine.specs.declared.reply.Reply.{Reply}
use Rattle.pool_machine.specs.declared.reply.Reply.TheVariants.{Done, Chunk, Slot as Lent, Home, Cached, Due, Batch, Counts}
use Rattle.event_floor.specs.Inboxes.{QueuedState}
use Rattle.event_floor.specs.Desks.{AnyDeskState, new_desks, home_of, cached_of}
use Rattle.event_floor.specs.Floors.{FloorState, no_desk, opening}
use Rattle.event_floor.specs.Steps.{Does}
use Rattle.event_floor.specs.Steps.{Answers}
use Rattle.pool_machine.specs.Steps.{Answer}
use Rattle.event_floor.specs.headline.Headline.{Shows}
use Rattle.event_floor.specs.headline.Names.{HasName, IsNamedHome, IsNamedDesk, AreNames, IsNamed, chunks_of}
use Rattle.event_floor.proofs.headline.ByPlace.{NamesByPlace, by_place, by_list}
use Rattle.pool_machine.proofs.Shown.{located}
use Rattle.event_floor.specs.headline.Listing.{listing_of}
use Rattle.event_floor.proofs.headline.Named.{adopt_named, retire_named, free_named, send_named, link_named, take_named}
use Rattle.event_floor.proofs.headline.Taken.{claim_named}
use Rattle.event_floor.proofs.headline.Handed.{alloc_named}

does_named : (names : List Carved) (v w : FloorState) (q : Request) (r : Reply) → Shows v → NamesByPlace names v → Does v q r w → (new : List Carved) × NamesByPlace new w
unfolding Shows
does_named names v w (Adopt a x) Done s n h = (names, adopt_named names v n w a x h.0 h.1 h.2)
does_named names v w (Adopt a x) _ s n h = elim h [ ]
does_named names v w (Retire a) Done s n h = (names, retire_named names v n w a h.0 h.1 h.4)
does_named names v w (Retire a) _ s n h = elim h [ ]
does_named names v w (Claim a c) (Chunk k) s n h = (_, claim_named names v w a c k n h)
does_named names v w (Claim a c) _ s n h = elim h [ ]
does_named names v w (Alloc a m) (Lent slot) s n h = alloc_named names v w a m slot n h s.0 s.1 (located (listing_of v) s.0 s.1 s.2)
does_named names v w (Alloc a m) _ s n h = elim h [ ]
does_named names v w (Free a pair) Home s n h = (names, free_named names v n w a pair.0 pair.1 _ h)
does_named names v w (Free a pair) Cached s n h = (names, free_named names v n w a pair.0 pair.1 _ h)
does_named names v w (Free a pair) Due s n h = (names, free_named names v n w a pair.0 pair.1 _ h)
does_named names v w (Free a pair) _ s n h = elim h [ ]
does_named names v w (Send a t) (Batch number count) s n h = (names, send_named names v n w a t number count h)
does_named names v w (Send a t) _ s n h = elim h [ ]
does_named names v w (Link number) Done s n h = (names, link_named names v n w number h)
does_named names v w (Link number) _ s n h = elim h [ ]
does_named names v w (Take b) (Counts home on) s n h = (names, take_named names v n w b home on h)
does_named names v w (Take b) _ s n h = elim h [ ]

pub stays_named : (v w : FloorState) (q : Request) (y : Answer) → Shows v → IsNamed v → Answers v q y w → IsNamed w
unfolding IsNamed
stays_named v w q (Ok r) s n h = let new = does_named n.0 v w q r s (by_place n.0 v n.1) h in (new.0, by_list new.0 w new.1)
stays_named v w q (Err r) s n h = subst (λ (z : FloorState). (names : List Carved) × AreNames names z) (sym h.1) n

-- ---- a new floor

-- desks with nothing
abbrev pub IsBare : AnyDeskState → Type 0
IsBare s = (home_of s ≡ []) × (cached_of s ≡ []) × (chunks_of s ≡ [])

pub idle_bare : (digits : Scheme) (limit n : ℕ) → All IsBare (new_desks digits limit n)
unfolding new_desks
idle_bare digits limit zero = All-nil IsBare
idle_bare digits limit (suc n) = All-append IsBare (new_desks digits limit n) _ (idle_bare digits limit n) (All-cons IsBare _ [] (refl, refl, refl) (All-nil IsBare))

bare_named : (a : ℕ) (s : AnyDeskState) → IsBare s → IsNamedDesk [] [] a s
bare_named a s h = record {
  home = subst (λ xs. All (IsNamedHome []) xs) (sym h.0) (All-nil (IsNamedHome []));
  cached = subst (λ xs. All (HasName []) xs) (sym h.1) (All-nil (HasName []));
  same = subst (λ cs. All (λ (c : Carved). slice_get [] c.chunk ≡ Some c) cs) (sym h.2) (All-nil (λ (c : Carved). slice_get [] c.chunk ≡ Some c));
  once = λ k. ap (λ cs. count_by (λ (c : Carved). c.chunk == k) cs) h.2;
}

pub none_lent : (P : Buffer → Type 0) (n i : ℕ) → IfSome (get_or (replicate n (let o : Option Buffer = None in o)) i None) P
none_lent P zero zero = tt
none_lent P zero (suc i) = tt
none_lent P (suc n) zero = tt
none_lent P (suc n) (suc i) = none_lent P n i

pub none_queued : (P : QueuedState → Type 0) (n b : ℕ) → All P (get_or (replicate n (let ps : List QueuedState = [] in ps)) b [])
none_queued P zero zero = All-nil P
none_queued P zero (suc b) = All-nil P
none_queued P (suc n) zero = All-nil P
none_queued P (suc n) (suc b) = none_queued P n b

pub opening_named : (desks : ℕ) (parts : List Part) (digits : Scheme) (limit : ℕ) → IsNamed (opening desks parts digits limit)
unfolding IsNamed
opening_named desks parts digits limit = (
  [],
  by_list [] (opening desks parts digits limit) (record {
    count = refl;
    chunks = λ k c e. absurd (true≢false (sym (ap is_some e)));
    desks = λ a l. bare_named a (get_or (new_desks digits limit desks) a no_desk) (idle_bare digits limit desks a no_desk l);
    lent = λ i. none_lent (HasName []) (256 * length parts) i;
    queued = λ b. none_queued (λ (p : QueuedState). All (HasName []) p.buffers) desks b;
  }),
)
