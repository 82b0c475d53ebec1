-- Buffers are lent into a parcel, some after others.
use Rattle.std.proofs.Common.{◌≡◌, ◌≢◌, ◌⊎◌, inl, inr, ⊎_elim, ℕ, ◌+◌, ◌-◌, ◌≤◌, ◌<◌, List, [], ◌∷◌, ◌++◌, length, map, take, refl, sym, ap, subst, ◌∙◌, arith, append-nil, append_assoc, All, Result, Ok, Err}
use Rattle.std.specs.Prelude.{MatchResult, IfErr, IfOk, replicate}
use Rattle.std.proofs.lemmas.Bool.{cases_lt}
use Rattle.std.proofs.lemmas.List.{length-append, length-map, map-append}
use Rattle.std.proofs.lemmas.List.Elements.{All-append, All-cons, All-head, All-nil, All-tail, All-weaker}
use Rattle.slot_chain.specs.Buffer.{Buffer}
use Rattle.slot_chain.specs.Filling.{data_of}
use Rattle.slot_chain.specs.Parcels.{ParcelState, Packs, unforwarded}
use Rattle.pool_desk.specs.Desks.{DeskState}
use Rattle.pool_desk.specs.Homes.{IsReady}
use Rattle.pool_fabric.specs.Calls.{LendsTogether}
use Rattle.pool_fabric.specs.Names.{Names}
use Rattle.pool_fabric.specs.Stations.{StationState}
use Rattle.pool_jobs.specs.Bursts.{Fills, LendsInto, Reserves, TakesNone, WantsNoSlot, packed}
use Rattle.pool_jobs.specs.Serving.{HasNoMore, HasOnlyUnused, IsClassFor, Keeps, SameDesk, Serves, ServesClass}
use Rattle.pool_jobs.specs.declared.error.PoolError.{PoolError}
use Rattle.pool_jobs.specs.declared.error.PoolError.TheVariants.{TooLarge, UsedUp, NoMemory, NoChunk}
use Rattle.pool_jobs.proofs.Looking.{Step}
use Rattle.pool_jobs.proofs.Waits.{keeps_since, serves_since}

-- none
pub into_none : (names : Names) (n count : ℕ) (old : StationState) (p : ParcelState) (new : StationState) → Keeps names old new → LendsInto names n count old p 0 new p
into_none names n count old p new k = record {
  buffers = [];
  lends = record {
    desk = k.desk;
    class = All-nil _;
    owner = All-nil _;
    empty = All-nil _;
    lent = k.lent ∙ sym (append-nil old.lent);
    freed = k.freed;
  };
  number = refl;
  most = omega arith;
  into = ap (λ bs. record p { items = bs }) (sym (append-nil p.items));
}

-- one
pub into_one : (names : Names) (n c : ℕ) (old : StationState) (p : ParcelState) (b : Buffer) (new : StationState) (p' : ParcelState)
    → IsClassFor names n c → ServesClass names old c (Ok b) new → Packs p b p' → LendsInto names n 1 old p 1 new p'
into_one names n c old p b new p' is s h = record {
  buffers = b ∷ [];
  lends = record {
    desk = s.1.desk;
    class = All-cons (λ (x : Buffer). IsClassFor names n x.class) b [] (rw s.0 is) (All-nil _);
    owner = All-cons (λ (x : Buffer). x.owner ≡ old.desk.number) b [] s.1.owner (All-nil _);
    empty = All-cons (λ (x : Buffer). x.filled ≡ 0) b [] s.1.empty (All-nil _);
    lent = s.1.lent;
    freed = s.1.freed;
  };
  number = refl;
  most = omega arith;
  into = h.2;
}

all_unforwarded : (owner class : ℕ) (bs : List Buffer) → All (IsReady owner class) bs → map unforwarded bs ≡ bs
all_unforwarded owner class [] h = refl
all_unforwarded owner class (b ∷ bs) h =
    let one : unforwarded b ≡ b = ap (λ n. record b { forwards = n }) (sym (All-head (IsReady owner class) b bs h).0.0.1) in
    let rest = all_unforwarded owner class bs (All-tail (IsReady owner class) b bs h) in
    rw (one, rest) refl

-- all that came home together in an array
pub into_whole : (names : Names) (n c count : ℕ) (old : StationState) (p : ParcelState) (new : StationState) (p' : ParcelState)
    → IsClassFor names n c → old.desk.digits ≡ names.digits → LendsTogether old c count p new p' → LendsInto names n count old p (length p'.items) new p'
into_whole names n c count old p new p' is digits h =
    let a = h.desk in let bs = p'.items in
    let owner : Buffer → Type 0 = λ b. b.owner ≡ old.desk.number in
    let class : Buffer → Type 0 = λ b. IsClassFor names n b.class in
    let empty : Buffer → Type 0 = λ b. b.filled ≡ 0 in
    record {
      buffers = bs;
      lends = record {
        desk = record { number = ap (λ (d : DeskState). d.number) a.same; digits = ap (λ (d : DeskState). d.digits) a.same ∙ digits };
        class = All-weaker (IsReady old.desk.number c) class (λ b r. subst (λ k. IsClassFor names n k) (sym r.0.1) is) bs a.each;
        owner = All-weaker (IsReady old.desk.number c) owner (λ b r. r.0.0.0) bs a.each;
        empty = All-weaker (IsReady old.desk.number c) empty (λ b r. r.1) bs a.each;
        lent = ap (λ (s : StationState). s.lent) h.same;
        freed = ap (λ (s : StationState). s.freed) h.same;
      };
      number = refl;
      most = h.parcel.most;
      into =
          h.parcel.same
          ∙ ap (λ l. record p { items = l }) (sym (ap (λ l. l ++ map unforwarded bs) h.parcel.none ∙ all_unforwarded old.desk.number c bs a.each));
    }

-- some, and then more
pub into_then : (names : Names) (n a c count : ℕ) (old mid new : StationState) (p q r : ParcelState) (k j : ℕ)
    → k + j ≤ count → LendsInto names n a old p k mid q → LendsInto names n c mid q j new r → LendsInto names n count old p (k + j) new r
into_then names n a c count old mid new p q r k j le h g =
    let l = h.lends in let m = g.lends in let xs = h.buffers in let ys = g.buffers in
    let owner : All (λ (x : Buffer). x.owner ≡ old.desk.number) ys = λ i d lt. m.owner i d lt ∙ l.desk.number in
    record {
      buffers = xs ++ ys;
      lends = record {
        desk = record { number = m.desk.number ∙ l.desk.number; digits = m.desk.digits };
        class = All-append (λ (x : Buffer). IsClassFor names n x.class) xs ys l.class m.class;
        owner = All-append (λ (x : Buffer). x.owner ≡ old.desk.number) xs ys l.owner owner;
        empty = All-append (λ (x : Buffer). x.filled ≡ 0) xs ys l.empty m.empty;
        lent = m.lent ∙ (ap (λ bs. bs ++ ys) l.lent ∙ append_assoc old.lent xs ys);
        freed = m.freed ∙ l.freed;
      };
      number = length-append xs ys ∙ (ap (λ z. z + length ys) h.number ∙ ap (λ z. k + z) g.number);
      most = le;
      into =
          g.into ∙ (ap (λ (z : ParcelState). packed z ys) h.into
          ∙ ap (λ bs. record p { items = bs }) (append_assoc p.items (map unforwarded xs) (map unforwarded ys) ∙ ap (λ bs. p.items ++ bs) (sym (map-append unforwarded xs ys))));
    }

-- nothing was lent after some were
pub into_kept : (names : Names) (n count : ℕ) (old mid new : StationState) (p q : ParcelState) (k : ℕ)
    → LendsInto names n count old p k mid q → Keeps names mid new → LendsInto names n count old p k new q
into_kept names n count old mid new p q k h s =
    let l = h.lends in
    record {
      buffers = h.buffers;
      lends = record {
        desk = record { number = s.desk.number ∙ l.desk.number; digits = s.desk.digits };
        class = l.class;
        owner = l.owner;
        empty = l.empty;
        lent = s.lent ∙ l.lent;
        freed = s.freed ∙ l.freed;
      };
      number = h.number;
      most = h.most;
      into = h.into;
    }

-- nothing was lent before
pub into_after : (names : Names) (n count : ℕ) (old mid new : StationState) (p q : ParcelState) (k : ℕ)
    → Keeps names old mid → LendsInto names n count mid p k new q → LendsInto names n count old p k new q
into_after names n count old mid new p q k s h =
    let l = h.lends in
    record {
      buffers = h.buffers;
      lends = record {
        desk = record { number = l.desk.number ∙ s.desk.number; digits = l.desk.digits };
        class = l.class;
        owner = λ i d lt. l.owner i d lt ∙ s.desk.number;
        empty = l.empty;
        lent = l.lent ∙ ap (λ bs. bs ++ h.buffers) s.lent;
        freed = l.freed ∙ s.freed;
      };
      number = h.number;
      most = h.most;
      into = h.into;
    }

no_length : (bs : List Buffer) → length bs ≡ 0 → bs ≡ []
no_length [] e = refl
no_length (b ∷ bs) e = absurd (omega (arith, e))

-- where none was lent, none was lent or freed since
pub into_since : (names : Names) (n count : ℕ) (old mid : StationState) (p q : ParcelState) (k : ℕ) → k ≡ 0
    → LendsInto names n count old p k mid q → Step old mid × (q ≡ p)
into_since names n count old mid p q k z h =
    let none : h.buffers ≡ [] = no_length h.buffers (h.number ∙ z) in (
      record {
        number = h.lends.desk.number;
        lent = h.lends.lent ∙ (ap (λ bs. old.lent ++ bs) none ∙ append-nil old.lent);
        freed = h.lends.freed;
      },
      h.into ∙ ap (λ bs. record p { items = bs }) (ap (λ bs. p.items ++ map unforwarded bs) none ∙ append-nil p.items),
    )

into_length : (names : Names) (n count : ℕ) (old mid : StationState) (p q : ParcelState) (k : ℕ) → LendsInto names n count old p k mid q
    → length q.items ≡ length p.items + k
into_length names n count old mid p q k h =
    ap (λ (z : ParcelState). length z.items) h.into
    ∙ (length-append p.items (map unforwarded h.buffers) ∙ ap (λ z. length p.items + z) (length-map h.buffers unforwarded ∙ h.number))

-- there is a place more
pub into_room : (names : Names) (n count : ℕ) (old mid : StationState) (p q : ParcelState) (k : ℕ) → LendsInto names n count old p k mid q
    → length p.items + count ≤ p.places → k < count → length q.items < q.places
into_room names n count old mid p q k h room lt =
    let len = length-append p.items (map unforwarded h.buffers) in
    let more = length-map h.buffers unforwarded in
    let number = h.number in
    rw h.into (omega (arith, len, more, number))

pub into_owner : (names : Names) (n count : ℕ) (old mid : StationState) (p q : ParcelState) (k : ℕ) → LendsInto names n count old p k mid q
    → p.owner ≡ old.desk.number → q.owner ≡ mid.desk.number
into_owner names n count old mid p q k h own =
    ap (λ (z : ParcelState). z.owner) h.into ∙ (own ∙ sym h.lends.desk.number)

-- a class that has no slot is that of a size
pub served_size : (names : Names) (n c : ℕ) (old : StationState) (e : PoolError) (new : StationState) → IsClassFor names n c
    → ServesClass names old c (Err e) new → Serves names old n (Err e) new
served_size names n c old TooLarge new is h = absurd h.0
served_size names n c old UsedUp new is h = ((c, is, h.0), h.1)
served_size names n c old NoMemory new is h = ((c, is, h.0), h.1)
served_size names n c old NoChunk new is h = ((c, is, h.0), h.1)

-- what is refused changes nothing of what was lent
pub served_keeps : (names : Names) (n : ℕ) (old : StationState) (e : PoolError) (new : StationState) → Serves names old n (Err e) new → Keeps names old new
served_keeps names n old TooLarge new h = h.1
served_keeps names n old UsedUp new h = h.1
served_keeps names n old NoMemory new h = h.1
served_keeps names n old NoChunk new h = h.1

pub keeps_same : (names : Names) (old new : StationState) → new ≡ old → old.desk.digits ≡ names.digits → Keeps names old new
keeps_same names old new e d =
    let same : Keeps names old old = record { desk = record { number = refl; digits = d }; lent = refl; freed = refl } in
    rw e same

-- a class that has no slot to lend has no more of them
served_out : (names : Names) (c : ℕ) (old : StationState) (e : PoolError) (new : StationState) → ServesClass names old c (Err e) new
    → HasNoMore c new × Keeps names old new
served_out names c old TooLarge new h = absurd h.0
served_out names c old UsedUp new h = (inl h.0.0, h.1)
served_out names c old NoMemory new h = (inr h.0, h.1)
served_out names c old NoChunk new h = (inl h.0.0, h.1)

class_since : (names : Names) (old mid : StationState) (c : ℕ) (e : PoolError) (new : StationState) → Step old mid
    → ServesClass names mid c (Err e) new → ServesClass names old c (Err e) new
class_since names old mid c e new s h = (h.0, keeps_since names old mid new s h.1)

-- none was lent, and then the class had none
pub class_none : (names : Names) (n count c : ℕ) (old mid : StationState) (p q : ParcelState) (k : ℕ) (e : PoolError) (new : StationState) (r : ParcelState)
    → k ≡ 0 → LendsInto names n count old p k mid q → ServesClass names mid c (Err e) new × (r ≡ q)
    → ServesClass names old c (Err e) new × (r ≡ p)
class_none names n count c old mid p q k e new r z h f =
    let s = into_since names n count old mid p q k z h in (class_since names old mid c e new s.0 f.0, f.1 ∙ s.1)

-- some were lent, and then the class had none
pub class_some : (names : Names) (n count c : ℕ) (old mid : StationState) (p q : ParcelState) (k : ℕ) (e : PoolError) (new : StationState) (r : ParcelState)
    → LendsInto names n count old p k mid q → ServesClass names mid c (Err e) new × (r ≡ q)
    → LendsInto names n count old p k new r × HasNoMore c new
class_some names n count c old mid p q k e new r h f =
    let out = served_out names c mid e new f.0 in (
      subst (λ (z : ParcelState). LendsInto names n count old p k new z) (sym f.1) (into_kept names n count old mid new p q k h out.1),
      out.0,
    )

-- as many came as the parcel takes
takes_no_more : (names : Names) (n most count : ℕ) (old : StationState) (p : ParcelState) (k : ℕ) (new : StationState) (p' : ParcelState)
    → LendsInto names n most old p k new p' → k ≡ most
    → (most < count → (p.owner ≢ old.desk.number) ⊎ (p.places ≤ length p.items + most))
    → TakesNone (count - k) old.desk.number p'
takes_no_more names n most count old p k new p' h e whole =
    ⊎_elim
    (λ (lt : most < count). ⊎_elim
    (λ (other : p.owner ≢ old.desk.number). inr (inl (λ same. other (sym (ap (λ (z : ParcelState). z.owner) h.into) ∙ same))))
    (λ (full : p.places ≤ length p.items + most). let len = into_length names n most old new p p' k h in let places = ap (λ (z : ParcelState). z.places) h.into in inr (inr (omega (arith, len, places, full, e))))
    (whole lt))
    (λ (all : count ≤ most). inl (omega (arith, all, e)))
    (cases_lt most count)

-- with room for fewer than were asked for
pub filled : (names : Names) (n c most count : ℕ) (old : StationState) (p : ParcelState) (r : Result ℕ PoolError) (new : StationState) (p' : ParcelState)
    → MatchResult r (λ k. LendsInto names n most old p k new p') (λ e. ServesClass names old c (Err e) new × (p' ≡ p))
    → IfOk r (λ k. (k ≡ most) ⊎ ((k ≢ 0) × HasNoMore c new)) → most ≤ count
    → (most < count → (p.owner ≢ old.desk.number) ⊎ (p.places ≤ length p.items + most)) → IsClassFor names n c
    → Fills names old n count p r new p'
filled names n c most count old p (Ok k) new p' h ends le whole is = (
  (c, is),
  record { buffers = h.buffers; lends = h.lends; number = h.number; most = (let m = h.most in omega (arith, m, le)); into = h.into },
  ⊎_elim (λ (e : k ≡ most). inl (takes_no_more names n most count old p k new p' h e whole))
      (λ (o : (k ≢ 0) × HasNoMore c new). inr (o.0, (c, is, o.1))) ends,
)
filled names n c most count old p (Err e) new p' h ends le whole is = (served_size names n c old e new is h.0, h.1)

-- of what was lent nothing is filled
new_filling : (b : Buffer) → b.filled ≡ 0 → data_of (unforwarded b) ≡ []
new_filling b e = ap (λ z. take z b.bytes.now) e

new_fillings : (bs : List Buffer) → All (λ (b : Buffer). b.filled ≡ 0) bs → map data_of (map unforwarded bs) ≡ replicate (length bs) []
new_fillings [] h = refl
new_fillings (b ∷ bs) h =
    let one = new_filling b (All-head (λ (x : Buffer). x.filled ≡ 0) b bs h) in
    let rest = new_fillings bs (All-tail (λ (x : Buffer). x.filled ≡ 0) b bs h) in
    rw (one, rest) refl

into_fillings : (names : Names) (n count : ℕ) (old new : StationState) (p p' : ParcelState) (k : ℕ) → LendsInto names n count old p k new p'
    → map data_of p'.items ≡ map data_of p.items ++ replicate k []
into_fillings names n count old new p p' k h =
    ap (λ (z : ParcelState). map data_of z.items) h.into
    ∙ (map-append data_of p.items (map unforwarded h.buffers)
    ∙ ap (λ l. map data_of p.items ++ l) (new_fillings h.buffers h.lends.empty ∙ ap (λ z. replicate z []) h.number))

pub filled_fillings : (names : Names) (n count : ℕ) (old : StationState) (p : ParcelState) (r : Result ℕ PoolError) (new : StationState) (p' : ParcelState)
    → Fills names old n count p r new p'
    → MatchResult r (λ k. map data_of p'.items ≡ map data_of p.items ++ replicate k []) (λ _. map data_of p'.items ≡ map data_of p.items)
filled_fillings names n count old p (Ok k) new p' h = into_fillings names n count old new p p' k h.1
filled_fillings names n count old p (Err e) new p' h = ap (λ (z : ParcelState). map data_of z.items) h.1

pub filled_most : (names : Names) (n count : ℕ) (old : StationState) (p : ParcelState) (r : Result ℕ PoolError) (new : StationState) (p' : ParcelState)
    → Fills names old n count p r new p' → IfOk r (λ k. k ≤ count)
filled_most names n count old p (Ok k) new p' h = h.1.most
filled_most names n count old p (Err e) new p' h = tt

pub filled_places : (names : Names) (n count : ℕ) (old : StationState) (p : ParcelState) (r : Result ℕ PoolError) (new : StationState) (p' : ParcelState)
    → Fills names old n count p r new p' → p'.places ≡ p.places
filled_places names n count old p (Ok k) new p' h = ap (λ (z : ParcelState). z.places) h.1.into
filled_places names n count old p (Err e) new p' h = ap (λ (z : ParcelState). z.places) h.1

-- the same of an allocator that was told of the call
pub filled_from : (names : Names) (n c most count : ℕ) (old mid : StationState) (p : ParcelState) (r : Result ℕ PoolError) (new : StationState) (p' : ParcelState)
    → mid ≡ old → MatchResult r (λ k. LendsInto names n most mid p k new p') (λ e. ServesClass names mid c (Err e) new × (p' ≡ p))
    → IfOk r (λ k. (k ≡ most) ⊎ ((k ≢ 0) × HasNoMore c new)) → most ≤ count
    → (most < count → (p.owner ≢ mid.desk.number) ⊎ (p.places ≤ length p.items + most)) → IsClassFor names n c
    → Fills names old n count p r new p'
filled_from names n c most count old mid p r new p' e h ends le whole is =
    subst (λ (z : StationState). Fills names z n count p r new p') e (filled names n c most count mid p r new p' h ends le whole is)

-- a parcel that takes nothing after some were lent takes no more than these
stops : (names : Names) (n count : ℕ) (old mid : StationState) (p q : ParcelState) (k : ℕ) (new : StationState) (r : ParcelState)
    → LendsInto names n count old p k mid q → Fills names mid n (count - k) q (Ok 0) new r → TakesNone (count - k) old.desk.number r
stops names n count old mid p q k new r h f =
    let whole : (count - k) - 0 ≡ count - k = omega arith in
    ⊎_elim
    (λ (t : TakesNone ((count - k) - 0) mid.desk.number r). subst (λ z. TakesNone z old.desk.number r) whole (subst (λ z. TakesNone ((count - k) - 0) z r) h.lends.desk.number t))
    (λ (o : (0 ≢ 0) × ((c : ℕ) × IsClassFor names n c × HasNoMore c new)). absurd (o.0 refl))
    f.2

-- some were lent, and then none, since the parcel takes no more
pub filled_stop : (names : Names) (n count : ℕ) (old mid : StationState) (p q : ParcelState) (k j : ℕ) (new : StationState) (r : ParcelState)
    → j ≡ 0 → LendsInto names n count old p k mid q → Fills names mid n (count - k) q (Ok j) new r
    → Fills names old n count p (Ok k) new r × WantsNoSlot names old n count k new r
filled_stop names n count old mid p q k j new r z h g =
    let f = subst (λ (x : ℕ). Fills names mid n (count - k) q (Ok x) new r) z g in
    let most = h.most in
    let all : k + 0 ≡ k = omega arith in
    let none = stops names n count old mid p q k new r h f in (
      (
        f.0,
        subst (λ z. LendsInto names n count old p z new r) all (into_then names n count (count - k) count old mid new p q r k 0 (omega (arith, most)) h f.1),
        inl none,
      ),
      inl none,
    )

-- none was lent, and then none for want of a slot or of memory
pub filled_err : (names : Names) (n count : ℕ) (old mid : StationState) (p q : ParcelState) (k : ℕ) (e : PoolError) (new : StationState) (r : ParcelState)
    → k ≡ 0 → LendsInto names n count old p k mid q → Fills names mid n (count - k) q (Err e) new r → Fills names old n count p (Err e) new r
filled_err names n count old mid p q k e new r z h f =
    let s = into_since names n count old mid p q k z h in (serves_since names old mid n (Err e) new s.0 f.0, f.1 ∙ s.1)

some_class : (names : Names) (n : ℕ) (bs : List Buffer) → (length bs ≡ 0 → ⊥) → All (λ (b : Buffer). IsClassFor names n b.class) bs → (c : ℕ) × IsClassFor names n c
some_class names n [] ne h = absurd (ne refl)
some_class names n (b ∷ bs) ne h = (b.class, All-head (λ (x : Buffer). IsClassFor names n x.class) b bs h)

-- some were lent, then none for want of a slot, and then the allocator waited
pub into_waited : (names : Names) (n count : ℕ) (old mid rest new : StationState) (p q r : ParcelState) (k : ℕ) (e : PoolError)
    → LendsInto names n count old p k mid q → Serves names mid n (Err e) rest × (r ≡ q) → Keeps names rest new
    → LendsInto names n count old p k new r
into_waited names n count old mid rest new p q r k e h f s =
    let kept = into_kept names n count old mid rest p q k h (served_keeps names n mid e rest f.0) in
    subst (λ (z : ParcelState). LendsInto names n count old p k new z) (sym f.1) (into_kept names n count old rest new p q k kept s)

-- where a class holds n bytes, a refusal is for want of its slots, or of memory for them
runs_out : (names : Names) (n c : ℕ) (old : StationState) (e : PoolError) (new : StationState) → IsClassFor names n c → Serves names old n (Err e) new
    → (d : ℕ) × IsClassFor names n d × HasNoMore d new
runs_out names n c old TooLarge new is h = let small = h.0 c is.is_used in let holds = is.holds in absurd (omega (arith, small, holds))
runs_out names n c old UsedUp new is h = (h.0.0, h.0.1, inl h.0.2.0)
runs_out names n c old NoMemory new is h = (h.0.0, h.0.1, inr h.0.2)
runs_out names n c old NoChunk new is h = (h.0.0, h.0.1, inl h.0.2.0)

lacks_memory : (names : Names) (n c : ℕ) (old : StationState) (e : PoolError) (new : StationState) → IsClassFor names n c → e ≢ UsedUp
    → e ≢ NoChunk → Serves names old n (Err e) new → (d : ℕ) × IsClassFor names n d × HasOnlyUnused d new
lacks_memory names n c old TooLarge new is u o h = let small = h.0 c is.is_used in let holds = is.holds in absurd (omega (arith, small, holds))
lacks_memory names n c old UsedUp new is u o h = absurd (u refl)
lacks_memory names n c old NoMemory new is u o h = h.0
lacks_memory names n c old NoChunk new is u o h = absurd (o refl)

-- some were lent, and then none for want of memory
pub filled_some : (names : Names) (n count : ℕ) (old mid : StationState) (p q : ParcelState) (k : ℕ) (e : PoolError) (new : StationState) (r : ParcelState)
    → (k ≡ 0 → ⊥) → e ≢ UsedUp → e ≢ NoChunk → LendsInto names n count old p k mid q → Fills names mid n (count - k) q (Err e) new r
    → Fills names old n count p (Ok k) new r × WantsNoSlot names old n count k new r
filled_some names n count old mid p q k e new r ne u o h f =
    let s = some_class names n h.buffers (λ z. ne (sym h.number ∙ z)) h.lends.class in (
      (
        s,
        subst (λ (z : ParcelState). LendsInto names n count old p k new z) (sym f.1) (into_kept names n count old mid new p q k h (served_keeps names n mid e new f.0)),
        inr (ne, runs_out names n s.0 mid e new s.1 f.0),
      ),
      inr (lacks_memory names n s.0 mid e new s.1 u o f.0),
    )

-- what was lent into an empty parcel came home with it
pub reserved : (names : Names) (n count : ℕ) (old mid : StationState) (p q : ParcelState) (k : ℕ) (new : StationState) → p.items ≡ []
    → LendsInto names n count old p k mid q → SameDesk names mid new → new.lent ≡ mid.lent → new.freed ≡ mid.freed ++ q.items
    → Reserves names old n k new
reserved names n count old mid p q k new none h desk lent freed = record {
  desk = record { number = desk.number ∙ h.lends.desk.number; digits = desk.digits };
  buffers = h.buffers;
  number = h.number;
  class = h.lends.class;
  lent = lent ∙ h.lends.lent;
  freed = freed ∙ (ap (λ bs. bs ++ q.items) h.lends.freed
      ∙ ap (λ bs. old.freed ++ bs) (ap (λ (z : ParcelState). z.items) h.into ∙ ap (λ bs. bs ++ map unforwarded h.buffers) none));
}

-- none was lent
pub reserved_none : (names : Names) (n : ℕ) (old mid : StationState) (p q : ParcelState) (new : StationState) → p.items ≡ [] → q ≡ p
    → Keeps names old mid → SameDesk names mid new → new.lent ≡ mid.lent → new.freed ≡ mid.freed ++ q.items → Reserves names old n 0 new
reserved_none names n old mid p q new none same keeps desk lent freed = record {
  desk = record { number = desk.number ∙ keeps.desk.number; digits = desk.digits };
  buffers = [];
  number = refl;
  class = All-nil _;
  lent = lent ∙ (keeps.lent ∙ sym (append-nil old.lent));
  freed = freed ∙ (ap (λ bs. bs ++ q.items) keeps.freed ∙ ap (λ bs. old.freed ++ bs) (ap (λ (z : ParcelState). z.items) same ∙ none));
}

-- what was lent came home, whether or not the parcel was filled
pub reserved_some : (names : Names) (n count : ℕ) (old mid : StationState) (p q : ParcelState) (r : Result ℕ PoolError) (new : StationState)
    → p.items ≡ [] → Fills names old n count p r mid q → SameDesk names mid new → new.lent ≡ mid.lent → new.freed ≡ mid.freed ++ q.items
    → (k : ℕ) × Reserves names old n k new
reserved_some names n count old mid p q (Ok k) new none h desk lent freed = (k, reserved names n count old mid p q k new none h.1 desk lent freed)
reserved_some names n count old mid p q (Err e) new none h desk lent freed =
    (0, reserved_none names n old mid p q new none h.1 (served_keeps names n old e mid h.0) desk lent freed)

-- nothing was asked for
pub reserved_same : (names : Names) (n : ℕ) (s : StationState) → s.desk.digits ≡ names.digits → Reserves names s n 0 s
reserved_same names n s d = record {
  desk = record { number = refl; digits = d };
  buffers = [];
  number = refl;
  class = All-nil _;
  lent = sym (append-nil s.lent);
  freed = sym (append-nil s.freed);
}

pub if_err : (r : Result (Unit {0}) PoolError) (P : Type 0) → P → IfErr r (λ _. P)
if_err (Ok a) P p = tt
if_err (Err e) P p = p
