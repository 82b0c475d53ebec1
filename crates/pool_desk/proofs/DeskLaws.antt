-- What freeing and passing on do to a desk.
use Rattle.std.proofs.Common.{◌≡◌, ◌≢◌, ℕ, ◌<◌, ◌≤◌, [], ◌∷◌, ◌++◌, sym, ap, ◌∙◌, arith, All, map, IsPermutation, Bool, true, false}
use Rattle.std.proofs.lemmas.List.Sorted.{IsPermutation-trans, IsPermutation-append_comm}
use Rattle.slot_chain.specs.Buffer.{Buffer}
use Rattle.slot_chain.specs.Counts.{sizes}
use Rattle.digit_route.specs.States.{CacheState}
use Rattle.pool_desk.specs.declared.freed.Freed.TheVariants.{Cached, Due}
use Rattle.pool_desk.specs.Desks.{DeskState}
use Rattle.pool_desk.specs.HomesState.{HomesState}
use Rattle.slot_chain.specs.Parcels.{ParcelState}
use Rattle.pool_desk.specs.Homes.{AtHome, IsReady}
use Rattle.pool_desk.specs.Homes.AtHome.{Kept}
use Rattle.pool_desk.specs.Spares.{IsFitting}
use Rattle.pool_desk.specs.Steps.{freed, passed_on, CachesAll, Frees, FreesAll, IsFilledUp, LendsWhole}
use Rattle.pool_desk.specs.Handling.{GoesOn}

-- the desk with another cache
abbrev pub with_cache : DeskState → CacheState → DeskState
with_cache d c = record { number = c.number; digits = c.digits; limit = c.limit; worker = d.worker; home = d.home; drawn = d.drawn; cached = c.items }

-- the desk of a cache and of homes
abbrev pub desk_of : CacheState → HomesState → ℕ → DeskState
desk_of c h worker = record {
  number = c.number;
  digits = c.digits;
  limit = c.limit;
  worker = worker;
  home = h.slots;
  drawn = h.drawn;
  cached = c.items;
}

-- the cache of a desk
abbrev pub cache_of : DeskState → CacheState
cache_of d = record { number = d.number; digits = d.digits; limit = d.limit; items = d.cached }

-- a buffer more is in the cache
put_same : (d : DeskState) (new : CacheState) → new ≡ record (cache_of d) { items = new.items } → with_cache d new ≡ record d { cached = new.items }
put_same d new same = ap (with_cache d) same

put_items : (d : DeskState) (b : Buffer) (new : CacheState) → IsPermutation (d.cached ++ b ∷ []) new.items → IsPermutation (b ∷ d.cached) new.items
put_items d b new p = IsPermutation-trans _ _ _ (IsPermutation-append_comm (b ∷ []) d.cached) p

le_of_not_lt : (a b : ℕ) → (a < b → ⊥) → b ≤ a
le_of_not_lt a b h = omega (arith, h)

pub frees_due : (d : DeskState) (b : Buffer) (new : CacheState) → b.owner ≢ d.number
    → new ≡ record (cache_of d) { items = new.items } → IsPermutation (d.cached ++ freed b ∷ []) new.items → new.limit < sizes new.items
    → Frees d b Due (with_cache d new)
frees_due d b new other same p more =
    let limit : new.limit ≡ d.limit = ap (λ (z : CacheState). z.limit) same in
    ((other, put_same d new same, put_items d (freed b) new p), rw (← limit) more)

pub frees_cached : (d : DeskState) (b : Buffer) (new : CacheState) → b.owner ≢ d.number
    → new ≡ record (cache_of d) { items = new.items } → IsPermutation (d.cached ++ freed b ∷ []) new.items → (new.limit < sizes new.items → ⊥)
    → Frees d b Cached (with_cache d new)
frees_cached d b new other same p less =
    let limit : new.limit ≡ d.limit = ap (λ (z : CacheState). z.limit) same in
    ((other, put_same d new same, put_items d (freed b) new p), rw (← limit) (le_of_not_lt new.limit _ less))

pub goes_on : (d : DeskState) (b : Buffer) (new : CacheState) → b.owner ≢ d.number
    → new ≡ record (cache_of d) { items = new.items } → IsPermutation (d.cached ++ passed_on b ∷ []) new.items → GoesOn d b (with_cache d new)
goes_on d b new other same p = record { other = other; same = put_same d new same; cached = put_items d (passed_on b) new p }

-- another's parcel
pub caches_all : (d : DeskState) (p : ParcelState) (new : CacheState) → p.owner ≢ d.number
    → new ≡ record (cache_of d) { items = new.items } → IsPermutation (d.cached ++ p.items) new.items → CachesAll d p (with_cache d new)
caches_all d p new other same moved =
    (other, put_same d new same, IsPermutation-trans _ _ _ (IsPermutation-append_comm p.items d.cached) moved)

pub frees_all_due : (d : DeskState) (p : ParcelState) (new : CacheState) → p.owner ≢ d.number
    → new ≡ record (cache_of d) { items = new.items } → IsPermutation (d.cached ++ p.items) new.items → new.limit < sizes new.items
    → FreesAll d p Due (with_cache d new)
frees_all_due d p new other same moved more =
    let limit : new.limit ≡ d.limit = ap (λ (z : CacheState). z.limit) same in
    (caches_all d p new other same moved, rw (← limit) more)

pub frees_all_cached : (d : DeskState) (p : ParcelState) (new : CacheState) → p.owner ≢ d.number
    → new ≡ record (cache_of d) { items = new.items } → IsPermutation (d.cached ++ p.items) new.items → (new.limit < sizes new.items → ⊥)
    → FreesAll d p Cached (with_cache d new)
frees_all_cached d p new other same moved less =
    let limit : new.limit ≡ d.limit = ap (λ (z : CacheState). z.limit) same in
    (caches_all d p new other same moved, rw (← limit) (le_of_not_lt new.limit _ less))

pub not_both : (b : Bool) → b ≡ true → b ≡ false → ⊥
not_both b p q = let e : true ≡ false = sym p ∙ q in cc

-- a parcel that came home is lent as it lies, in the place of an empty one
pub lent_whole : (c : CacheState) (h h' : HomesState) (worker most class : ℕ) (old w : ParcelState) (places : ℕ)
    → h' ≡ record h { slots = h'.slots } → IsFitting most places w → All (IsReady c.number class) w.items
    → IsPermutation h.slots (map {A = Buffer} {B = AtHome} (λ b. Kept b) w.items ++ h'.slots)
    → w.owner ≡ old.owner → places ≡ old.places → old.items ≡ []
    → LendsWhole (desk_of c h worker) class w.items (desk_of c h' worker) × IsFilledUp most old w
lent_whole c h h' worker most class old w places same fits each gone owner room none = (
  record { each = each; same = ap (λ (x : HomesState). desk_of c x worker) same; home = gone },
  record {
    none = none;
    some = fits.some;
    most = fits.most;
    same = ap (λ n. record w { owner = n }) owner ∙ ap (λ n. record old { places = n; items = w.items }) (fits.places_are ∙ room);
  },
)
