-- One more batch is posted, or taken.
use Rattle.std.proofs.Common.{◌≡◌, ℕ, zero, suc, ◌+◌, ◌<◌, List, [], ◌∷◌, ◌++◌, length, map, refl, sym, ap, ◌∙◌, arith, subst, Some, length-append, append_assoc, IsPermutation, ⊎_elim, inl, inr}
use Rattle.std.specs.Prelude.{slice_get, slice_set, All, slice_index_or, take, drop}
use Rattle.std.proofs.lemmas.List.{append-nil}
use Rattle.std.proofs.lemmas.List.Elements.{All-append}
use Rattle.std.proofs.lemmas.List.Sorted.{IsPermutation-trans, IsPermutation-append_left, IsPermutation-append_right, IsPermutation-append_comm, IsPermutation-refl}
use Rattle.slot_chain.specs.Buffer.{Buffer}
use Rattle.digit_route.specs.Digits.{Scheme}
use Rattle.digit_route.specs.Posts.{GivesAll}
use Rattle.digit_route.specs.Route.{GivesBucket}
use Rattle.digit_route.specs.States.{BatchState}
use Rattle.digit_route.proofs.PostLaws.{Gives-before}
use Rattle.region_cut.specs.declared.slot.Slot.{Slot}
use Rattle.pool_desk.specs.Desks.{DeskState}
use Rattle.pool_desk.specs.declared.counts.Counts.{Counts}
use Rattle.pool_desk.specs.Steps.{CountsOf, Handles, others, own}
use Rattle.pool_desk.proofs.HandleLaws.{own_or_not}
use Rattle.slot_chain.specs.Counts.{capped}
use Rattle.batch_inbox.specs.States.{TakeState}
use Rattle.slot_balance.specs.Weights.{weigh}
use Rattle.slot_balance.specs.Seats.{SeatState}
use Rattle.slot_balance.specs.Accounts.{of_buffer, of_batch, of_seats, held}
use Rattle.slot_balance.specs.Limits.{most_handled}
use Rattle.slot_balance.specs.Posts.{before_last, buffers_in, sent_at, sent_all, Posts, SendsOrKeeps, HandlesAll, TakesSome}
use Rattle.slot_balance.proofs.Sums.{weigh-append, weigh-snoc, weigh-permutation}
use Rattle.slot_balance.proofs.DeskSums.{handled}

module _ {A B : Type 0} where
  -- an item of a list that is mapped
  pub get_map : (f : A → B) (xs : List A) (k : ℕ) (x : A) → slice_get xs k ≡ Some x → slice_get (map f xs) k ≡ Some (f x)
  get_map f [] k x e = absurd (cc)
  get_map f (y ∷ ys) zero x e = let same : y ≡ x = cc in ap (λ z. Some (f z)) same
  get_map f (y ∷ ys) (suc k) x e = get_map f ys k x e

  pub length-mapped : (f : A → B) (xs : List A) → length (map f xs) ≡ length xs
  length-mapped f [] = refl
  length-mapped f (x ∷ xs) = ap suc (length-mapped f xs)

-- the seat at k was changed, and what was sent from it is one batch more
pub map_sent : {S : Type 0} (f : S → SeatState) (xs : List S) (k : ℕ) (x y : S) (b : BatchState) → slice_get xs k ≡ Some x
    → f y ≡ record (f x) { sent = (f x).sent ++ b ∷ [] } → map f (slice_set xs k y) ≡ sent_at k b (map f xs)
map_sent f [] k x y b at e = absurd (cc)
map_sent f (z ∷ zs) zero x y b at e =
    let same : z ≡ x = cc in
    ap (λ (w : SeatState). w ∷ map f zs) (e ∙ ap (λ w. record (f w) { sent = (f w).sent ++ b ∷ [] }) (sym same))
map_sent f (z ∷ zs) (suc k) x y b at e = ap (λ (l : List SeatState). f z ∷ l) (map_sent f zs k x y b at e)

-- the seat at k was changed, and shows the same
pub map_kept : {S : Type 0} (f : S → SeatState) (xs : List S) (k : ℕ) (x y : S) → slice_get xs k ≡ Some x → f y ≡ f x → map f (slice_set xs k y) ≡ map f xs
map_kept f [] k x y at e = absurd (cc)
map_kept f (z ∷ zs) zero x y at e =
    let same : z ≡ x = cc in
    ap (λ (w : SeatState). w ∷ map f zs) (e ∙ ap f (sym same))
map_kept f (z ∷ zs) (suc k) x y at e = ap (λ (l : List SeatState). f z ∷ l) (map_kept f zs k x y at e)

pub length-sent_at : (k : ℕ) (b : BatchState) (ss : List SeatState) → length (sent_at k b ss) ≡ length ss
length-sent_at k b [] = refl
length-sent_at zero b (s ∷ ss) = refl
length-sent_at (suc k) b (s ∷ ss) = ap suc (length-sent_at k b ss)

pub length-sent_all : (ss : List SeatState) (bs : List BatchState) → length (sent_all ss bs) ≡ length ss
length-sent_all ss [] = refl
length-sent_all ss (b ∷ bs) = length-sent_all (sent_at b.address b ss) bs ∙ length-sent_at b.address b ss

-- the same from a list in another order
GivesAll-before : (s : Scheme) (a : ℕ) (older old : List Buffer) (bs : List BatchState) (new : List Buffer) → IsPermutation older old
    → GivesAll s a old bs new → GivesAll s a older bs new
GivesAll-before s a older old [] new p h = IsPermutation-trans _ _ _ p h
GivesAll-before s a older old (x ∷ bs) new p h = (h.0, Gives-before s a older old x h.0 p h.1, h.2)

-- more batches
GivesAll-then : (s : Scheme) (a : ℕ) (items : List Buffer) (bs cs : List BatchState) (mid new : List Buffer)
    → GivesAll s a items bs mid → GivesAll s a mid cs new → GivesAll s a items (bs ++ cs) new
GivesAll-then s a items [] cs mid new h g = GivesAll-before s a items mid cs new h g
GivesAll-then s a items (x ∷ bs) cs mid new h g = (h.0, h.1, GivesAll-then s a h.0 bs cs mid new h.2 g)

one_batch : (s : Scheme) (a : ℕ) (old : List Buffer) (b : BatchState) (new : List Buffer) → GivesBucket s a old b new → GivesAll s a old (b ∷ []) new
one_batch s a old b new g = (new, g, IsPermutation-refl new)

-- what is left may stand in another order
GivesAll-end : (s : Scheme) (a : ℕ) (items : List Buffer) (bs : List BatchState) (mid left : List Buffer)
    → GivesAll s a items bs mid → IsPermutation mid left → GivesAll s a items bs left
GivesAll-end s a items [] mid left h p = IsPermutation-trans _ _ _ h p
GivesAll-end s a items (x ∷ bs) mid left h p = (h.0, h.1, GivesAll-end s a h.0 bs mid left h.2 p)

buffers_in-append : (bs cs : List BatchState) → buffers_in (bs ++ cs) ≡ buffers_in bs ++ buffers_in cs
buffers_in-append [] cs = refl
buffers_in-append (b ∷ bs) cs = ap (λ l. b.items ++ l) (buffers_in-append bs cs) ∙ sym (append_assoc b.items (buffers_in bs) (buffers_in cs))

sent_all-append : (ss : List SeatState) (bs cs : List BatchState) → sent_all ss (bs ++ cs) ≡ sent_all (sent_all ss bs) cs
sent_all-append ss [] cs = refl
sent_all-append ss (b ∷ bs) cs = sent_all-append (sent_at b.address b ss) bs cs

-- two lists in two parts each
pair_up : {X : Type 0} (xs bs cs ds es fs : List X) → IsPermutation xs (cs ++ ds) → IsPermutation bs (es ++ fs)
    → IsPermutation (xs ++ bs) ((cs ++ es) ++ (ds ++ fs))
pair_up xs bs cs ds es fs p q =
    let first : IsPermutation (xs ++ bs) ((cs ++ ds) ++ bs) = IsPermutation-append_left bs _ _ p in
    let next : IsPermutation ((cs ++ ds) ++ bs) ((cs ++ ds) ++ (es ++ fs)) = IsPermutation-append_right (cs ++ ds) _ _ q in
    let swap : IsPermutation (ds ++ (es ++ fs)) (es ++ (ds ++ fs)) =
    rw (← append_assoc ds es fs, ← append_assoc es ds fs) (IsPermutation-append_left fs _ _ (IsPermutation-append_comm ds es)) in
    let turn : IsPermutation (cs ++ (ds ++ (es ++ fs))) (cs ++ (es ++ (ds ++ fs))) = IsPermutation-append_right cs _ _ swap in
    let all : IsPermutation ((cs ++ ds) ++ (es ++ fs)) ((cs ++ es) ++ (ds ++ fs)) = rw (append_assoc cs ds (es ++ fs), append_assoc cs es (ds ++ fs)) turn in
    IsPermutation-trans _ _ _ first (IsPermutation-trans _ _ _ next all)

-- nothing was posted yet
pub posts_none : (s : Scheme) (a : ℕ) (c : List Buffer) (ss : List SeatState) → Posts s a c ss c [] ss
posts_none s a c ss = record {
  given = [];
  posted = [];
  refused = [];
  whole = IsPermutation-refl c;
  parted = IsPermutation-refl [];
  aside_is = IsPermutation-refl [];
  addresses = λ k d l. absurd (omega arith);
  seats_are = refl;
}

-- what was posted first, and then
pub posts_then : (s : Scheme) (a : ℕ) (c l m x y : List Buffer) (ss ss' ss'' : List SeatState) → Posts s a c ss l x ss' → Posts s a l ss' m y ss''
    → Posts s a c ss m (x ++ y) ss''
posts_then s a c l m x y ss ss' ss'' p q = record {
  given = p.given ++ q.given;
  posted = p.posted ++ q.posted;
  refused = p.refused ++ q.refused;
  whole = GivesAll-then s a c p.given q.given l m p.whole q.whole;
  parted = pair_up p.given q.given p.posted p.refused q.posted q.refused p.parted q.parted;
  aside_is = rw (buffers_in-append p.refused q.refused)
      (IsPermutation-trans _ _ _ (IsPermutation-append_left (buffers_in q.refused) _ _ p.aside_is) (IsPermutation-append_right x _ _ q.aside_is));
  addresses =
      let n : length ss' ≡ length ss = ap length p.seats_are ∙ length-sent_all ss p.posted in
      All-append (λ (b : BatchState). b.address < length ss) p.posted q.posted p.addresses
      (subst (λ n. All (λ (b : BatchState). b.address < n) q.posted) n q.addresses);
  seats_are = q.seats_are ∙ ap (λ l. sent_all l q.posted) p.seats_are ∙ sym (sent_all-append ss p.posted q.posted);
}

one_address : (n : ℕ) (b : BatchState) → b.address < n → All (λ (x : BatchState). x.address < n) (b ∷ [])
one_address n b l zero d e = l
one_address n b l (suc k) d e = absurd (omega arith)

-- one batch, which was posted, or set aside
posts_one : (s : Scheme) (a : ℕ) (old new aside : List Buffer) (b : BatchState) (ss ss' : List SeatState) → GivesBucket s a old b new
    → SendsOrKeeps b ss [] ss' aside → Posts s a old ss new aside ss'
posts_one s a old new aside b ss ss' g h = ⊎_elim
    (λ (p : (b.address < length ss) × (ss' ≡ sent_at b.address b ss) × (aside ≡ [])). record {
      given = b ∷ [];
      posted = b ∷ [];
      refused = [];
      whole = one_batch s a old b new g;
      parted = IsPermutation-refl (b ∷ []);
      aside_is = rw p.2 (IsPermutation-refl []);
      addresses = one_address (length ss) b p.0;
      seats_are = p.1;
    })
    (λ (p : (ss' ≡ ss) × IsPermutation b.items aside). record {
      given = b ∷ [];
      posted = [];
      refused = b ∷ [];
      whole = one_batch s a old b new g;
      parted = IsPermutation-refl (b ∷ []);
      aside_is = rw (append-nil b.items) p.1;
      addresses = λ k d l. absurd (omega arith);
      seats_are = p.0;
    })
    h

-- what is left, and what is set aside, in another order
pub posts_end : (s : Scheme) (a : ℕ) (c l m x y : List Buffer) (ss ss' : List SeatState) → Posts s a c ss l x ss' → IsPermutation l m → IsPermutation x y
    → Posts s a c ss m y ss'
posts_end s a c l m x y ss ss' p e f = record {
  given = p.given;
  posted = p.posted;
  refused = p.refused;
  whole = GivesAll-end s a c p.given l m p.whole e;
  parted = p.parted;
  aside_is = IsPermutation-trans _ _ _ p.aside_is f;
  addresses = p.addresses;
  seats_are = p.seats_are;
}

-- one more batch
pub posts_more : (s : Scheme) (a : ℕ) (c l m x y : List Buffer) (ss ss' ss'' : List SeatState) (b : BatchState) → Posts s a c ss l x ss'
    → GivesBucket s a l b m → SendsOrKeeps b ss' x ss'' y → Posts s a c ss m y ss''
posts_more s a c l m x y ss ss' ss'' b p g h = ⊎_elim
    (λ (q : (b.address < length ss') × (ss'' ≡ sent_at b.address b ss') × (y ≡ x)).
    rw (q.2 ∙ sym (append-nil x)) (posts_then s a c l m x [] ss ss' ss'' p (posts_one s a l m [] b ss' ss'' g (inl (q.0, q.1, refl)))))
    (λ (q : (ss'' ≡ ss') × IsPermutation (x ++ b.items) y).
    posts_end s a c m m (x ++ b.items) y ss ss'' (posts_then s a c l m x b.items ss ss' ss'' p (posts_one s a l m b.items b ss' ss'' g (inr (q.0, IsPermutation-refl b.items))))
    (IsPermutation-refl m) q.1)
    h

weigh-sent_at : (h : Slot → ℕ) (k : ℕ) (b : BatchState) (ss : List SeatState) → k < length ss → of_seats h (sent_at k b ss) ≡ of_seats h ss + of_batch h b
weigh-sent_at h k b [] l = absurd (omega arith)
weigh-sent_at h zero b (s ∷ ss) l = let e = weigh-snoc (of_batch h) s.sent b in omega arith
weigh-sent_at h (suc k) b (s ∷ ss) l = let e = weigh-sent_at h k b ss (omega arith) in omega arith

weigh-sent_all : (h : Slot → ℕ) (ss : List SeatState) (bs : List BatchState) → All (λ (b : BatchState). b.address < length ss) bs
    → of_seats h (sent_all ss bs) ≡ of_seats h ss + weigh (of_buffer h) (buffers_in bs)
weigh-sent_all h ss [] a = omega arith
weigh-sent_all h ss (b ∷ bs) a =
    let n = length-sent_at b.address b ss in
    let i = weigh-sent_all h (sent_at b.address b ss) bs (λ k d l. subst (λ m. (slice_index_or bs k d).address < m) (sym n) (a (suc k) d (omega arith))) in
    let e = weigh-sent_at h b.address b ss (a 0 b (omega arith)) in
    let f = weigh-append (of_buffer h) b.items (buffers_in bs) in
    omega arith

weigh-buffers_in : (h : Slot → ℕ) (bs : List BatchState) → weigh (of_buffer h) (buffers_in bs) ≡ weigh (of_batch h) bs
weigh-buffers_in h [] = refl
weigh-buffers_in h (b ∷ bs) =
    let i = weigh-buffers_in h bs in
    let e = weigh-append (of_buffer h) b.items (buffers_in bs) in
    omega arith

weigh-given : (h : Slot → ℕ) (s : Scheme) (a : ℕ) (c : List Buffer) (bs : List BatchState) (l : List Buffer) → GivesAll s a c bs l
    → weigh (of_buffer h) c ≡ weigh (of_batch h) bs + weigh (of_buffer h) l
weigh-given h s a c [] l p = let e = weigh-permutation (of_buffer h) c l p in omega arith
weigh-given h s a c (b ∷ bs) l g =
    let i = weigh-given h s a g.0 bs l g.2 in
    let p = weigh-permutation (of_buffer h) c (b.items ++ g.0) g.1.taken.together in
    let e = weigh-append (of_buffer h) b.items g.0 in
    omega arith

-- what was cached is what is left and what is set aside, and what was posted
pub posted_sum : (h : Slot → ℕ) (s : Scheme) (a : ℕ) (c : List Buffer) (ss : List SeatState) (l x : List Buffer) (ss' : List SeatState) → Posts s a c ss l x ss'
    → weigh (of_buffer h) c + of_seats h ss ≡ weigh (of_buffer h) l + weigh (of_buffer h) x + of_seats h ss'
posted_sum h s a c ss l x ss' p =
    let given = weigh-given h s a c p.given l p.whole in
    let parted = weigh-permutation (of_batch h) p.given (p.posted ++ p.refused) p.parted in
    let parts = weigh-append (of_batch h) p.posted p.refused in
    let posted = weigh-buffers_in h p.posted in
    let refused = weigh-buffers_in h p.refused in
    let aside = weigh-permutation (of_buffer h) (buffers_in p.refused) x p.aside_is in
    let d = weigh-sent_all h ss p.posted p.addresses in
    let e = ap (of_seats h) p.seats_are in
    omega arith

-- one more batch is handled
pub handles_more : (old : DeskState) (bs : List BatchState) (mid : DeskState) (b : BatchState) (new : DeskState) → HandlesAll old bs mid → Handles mid b.items new → HandlesAll old (bs ++ b ∷ []) new
handles_more old [] mid b new same h = (new, subst (λ (d : DeskState). Handles d b.items new) same h, refl)
handles_more old (c ∷ cs) mid b new i h = (i.0, i.1, handles_more i.0 cs mid b new i.2 h)

-- all else of the desk stays
pub record Stays (old new : DeskState) : Type 0 where
  pub number : new.number ≡ old.number
  pub digits : new.digits ≡ old.digits
  pub limit : new.limit ≡ old.limit
  pub drawn : new.drawn ≡ old.drawn

pub handled_stays : (old : DeskState) (bs : List BatchState) (new : DeskState) → HandlesAll old bs new → Stays old new
handled_stays old [] new e = record { number = ap (λ (d : DeskState). d.number) e; digits = ap (λ (d : DeskState). d.digits) e; limit = ap (λ (d : DeskState). d.limit) e; drawn = ap (λ (d : DeskState). d.drawn) e }
handled_stays old (b ∷ bs) new (m, h, i) =
    let r = handled_stays m bs new i in
    record {
      number = r.number ∙ ap (λ (d : DeskState). d.number) h.same;
      digits = r.digits ∙ ap (λ (d : DeskState). d.digits) h.same;
      limit = r.limit ∙ ap (λ (d : DeskState). d.limit) h.same;
      drawn = r.drawn ∙ ap (λ (d : DeskState). d.drawn) h.same;
    }

pub handled_sum : (h : Slot → ℕ) (old : DeskState) (bs : List BatchState) (new : DeskState) → HandlesAll old bs new → held h new ≡ held h old + weigh (of_batch h) bs
handled_sum h old [] new e = let p = ap (held h) e in omega arith
handled_sum h old (b ∷ bs) new (m, one, i) =
    let r = handled_sum h m bs new i in
    let e = handled h old b.items m one in
    omega arith

-- nothing was taken yet
takes_none : (d : DeskState) (t : TakeState) → TakesSome d t 0 d t
takes_none d t = record { batches = []; count = refl; taken = ap (λ l. record t { taken = l }) (sym (append-nil t.taken)); handled = refl; bounded = omega arith }

before_last_of : (bs : List BatchState) (b : BatchState) → before_last (bs ++ b ∷ []) ≡ bs
before_last_of [] b = refl
before_last_of (c ∷ []) b = refl
before_last_of (c ∷ (d ∷ bs)) b = ap (λ l. c ∷ l) (before_last_of (d ∷ bs) b)

-- one more batch was taken
pub takes_more : (old mid new : DeskState) (t t' t'' : TakeState) (n : ℕ) (b : BatchState) (s : TakesSome old t n mid t')
    → (t''.inbox ≡ t'.inbox) × (t''.senders ≡ t'.senders) → t''.taken ≡ t'.taken ++ b ∷ [] → Handles mid b.items new → length (buffers_in s.batches) < most_handled
    → TakesSome old t (n + 1) new t''
takes_more old mid new t t' t'' n b s same more h few = record {
  batches = s.batches ++ b ∷ [];
  count = length-append s.batches (b ∷ []) ∙ ap (λ k. k + 1) s.count;
  taken =
      let l = more ∙ ap (λ (x : TakeState). x.taken ++ b ∷ []) s.taken ∙ append_assoc t.taken s.batches (b ∷ []) in
      (λ i. record {
        inbox = (same.0 ∙ ap (λ (x : TakeState). x.inbox) s.taken) i;
        senders = (same.1 ∙ ap (λ (x : TakeState). x.senders) s.taken) i;
        taken = l i;
      });
  handled = handles_more old s.batches mid b new s.handled h;
  bounded = subst (λ l. length (buffers_in l) < most_handled) (sym (before_last_of s.batches b)) few;
}

-- a batch more has its buffers more
buffers_more : (bs : List BatchState) (b : BatchState) → length (buffers_in (bs ++ b ∷ [])) ≡ length (buffers_in bs) + length b.items
buffers_more [] b = let e = ap (λ (l : List Buffer). length l) (append-nil b.items) in omega (arith, e)
buffers_more (c ∷ bs) b =
    let h = buffers_more bs b in
    let p = length-append c.items (buffers_in (bs ++ b ∷ [])) in
    let q = length-append c.items (buffers_in bs) in
    omega (arith, h, p, q)

-- a count that is below the bound is exact
exact : (x : ℕ) → capped x < most_handled → capped x ≡ x
exact x l = omega (arith, l)

-- the count of the buffers that were handled, with those of a batch more, where it is below the bound
counted_on : (a n r : ℕ) (c : Counts) (bs : List BatchState) (b : BatchState) → CountsOf a b.items c → n ≡ length (buffers_in bs)
    → r ≡ capped (n + capped (c.home + c.on)) → r < most_handled → r ≡ length (buffers_in (bs ++ b ∷ []))
counted_on a n r c bs b k e is few =
    let first : capped (n + capped (c.home + c.on)) ≡ n + capped (c.home + c.on) = exact _ (subst (λ (x : ℕ). x < most_handled) is few) in
    let second : capped (c.home + c.on) ≡ c.home + c.on = exact _ (omega (arith, first, is, few)) in
    let home : capped (length (own a b.items)) ≡ length (own a b.items) = exact _ (omega (arith, first, second, is, few, k.home)) in
    let on : capped (length (others a b.items)) ≡ length (others a b.items) = exact _ (omega (arith, first, second, is, few, k.on)) in
    omega (arith, is, first, second, home, on, k.home, k.on, e, own_or_not a b.items, buffers_more bs b)

pub counts_none : (d : DeskState) (t : TakeState) → (s : TakesSome d t 0 d t) × (0 ≡ length (buffers_in s.batches))
unfolding takes_none
counts_none d t = (takes_none d t, refl)

pub counts_more : (old mid new : DeskState) (t t' t'' : TakeState) (k n r : ℕ) (c : Counts) (b : BatchState) (s : TakesSome old t k mid t')
    → n ≡ length (buffers_in s.batches) → n < most_handled → (t''.inbox ≡ t'.inbox) × (t''.senders ≡ t'.senders) → t''.taken ≡ t'.taken ++ b ∷ []
    → Handles mid b.items new → CountsOf mid.number b.items c → r ≡ capped (n + capped (c.home + c.on)) → r < most_handled
    → (s' : TakesSome old t (k + 1) new t'') × (r ≡ length (buffers_in s'.batches))
unfolding takes_more
counts_more old mid new t t' t'' k n r c b s e few same more h counts is below =
    (takes_more old mid new t t' t'' k b s same more h (rw (← e) few), counted_on mid.number n r c s.batches b counts e is below)

-- a batch has a buffer
some_items : (h : Buffer → ℕ) → ((b : Buffer) → h b ≡ 1) → (xs : List Buffer) → 0 < length xs → 0 < weigh h xs
some_items h one [] l = absurd (omega arith)
some_items h one (x ∷ xs) l = let e = one x in omega arith

-- fewer buffers are left where a batch was taken out
pub batch_smaller : (old b new : List Buffer) → IsPermutation old (b ++ new) → 0 < length b → weigh (λ (x : Buffer). 1) new < weigh (λ (x : Buffer). 1) old
batch_smaller old b new p l =
    let one : Buffer → ℕ = λ (x : Buffer). 1 in
    let a = weigh-permutation one old (b ++ new) p in
    let q = weigh-append one b new in
    let s = some_items one (λ x. refl) b l in
    omega arith

-- a vector whose slice was written
pub written : {A : Type 0} (new items : List A) (n : ℕ) → length new ≡ length items → n ≡ length items → take n (new ++ drop (length new) items) ≡ new
written [] [] zero e m = refl
written [] [] (suc n) e m = refl
written [] (y ∷ ys) n e m = absurd (omega arith)
written (x ∷ xs) [] n e m = absurd (omega arith)
written (x ∷ xs) (y ∷ ys) zero e m = absurd (omega arith)
written (x ∷ xs) (y ∷ ys) (suc n) e m = ap (λ l. x ∷ l) (written xs ys n (omega arith) (omega arith))
