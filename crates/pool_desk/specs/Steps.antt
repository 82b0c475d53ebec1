-- What a desk's calls do to it.
use Rattle.std.specs.Prelude.{◌≡◌, ◌≢◌, ℕ, ◌+◌, ◌<◌, ◌≤◌, ◌==◌, not, List, [], ◌∷◌, ◌++◌, All, IsPermutation, filter, map}
use Rattle.std.specs.Prelude.{length, Result, Ok, Err}
use Rattle.region_cut.specs.declared.part.Part.{Part}
use Rattle.region_cut.specs.Classes.{slots_of, largest_of, IsLeastFor, NoClassFor}
use Rattle.slot_chain.specs.Buffer.{Buffer}
use Rattle.slot_chain.specs.Counts.{capped, sizes}
use Rattle.slot_chain.specs.Parcels.{ParcelState}
use Rattle.pool_desk.specs.declared.error.DeskError.{DeskError}
use Rattle.pool_desk.specs.declared.error.DeskError.TheVariants.{TooLarge, NeedChunk, NotNeeded, NoMemory}
use Rattle.pool_desk.specs.declared.freed.Freed.{Freed}
use Rattle.pool_desk.specs.declared.freed.Freed.TheVariants.{Home, Cached, Due}
use Rattle.pool_desk.specs.declared.counts.Counts.{Counts}
use Rattle.pool_desk.specs.Homes.{AtHome, class_at, comes_home, unused_from, Draws, GivesOne, IsReady, IsUnused}
use Rattle.pool_desk.specs.Homes.AtHome.{Kept}
use Rattle.pool_desk.specs.HomesState.{HasClass, LacksClass, IsWanting}
use Rattle.pool_desk.specs.Desks.{DeskState, profile_at}

-- no slot of the class was at home, and now each slot of the part's chunk is, over its bytes; the chunk comes to
-- those that were drawn
pub record Claims (old : DeskState) (part : Part) (class : ℕ) (new : DeskState) : Type 0 where
  pub needed : LacksClass class old.home
  pub same : new ≡ record old { home = new.home; drawn = new.drawn }
  pub home : IsPermutation
      (unused_from part.chunk class part.bytes.ghost_name (slots_of class) 0 part.bytes.now ++ old.home) new.home
  pub drawn : Draws part class old.drawn new.drawn

-- the only refusal of a claim, and when it comes
abbrev pub NotNeededFor : DeskState → ℕ → DeskError → Type 0
NotNeededFor old class e = (e ≡ NotNeeded) × HasClass class old.home

-- why no slot is given out for n bytes: only slots that were never handed out may meet a want of memory
abbrev pub AllocFault : DeskState → ℕ → DeskError → Type 0
AllocFault old n TooLarge = (largest_of (profile_at old) < n) × NoClassFor (profile_at old) n
AllocFault old n (NeedChunk c) = IsLeastFor (profile_at old) n c × LacksClass c old.home
AllocFault old n NoMemory =
    (c : ℕ) × IsLeastFor (profile_at old) n c × HasClass c old.home
    × All (λ (s : AtHome). class_at s ≡ c → IsUnused s) old.home
AllocFault old n e = ⊥

-- the buffer given out is that of a slot at home, of the least class that is large enough, and all else of the desk
-- stays
abbrev pub Allocs : DeskState → ℕ → Result Buffer DeskError → DeskState → Type 0
Allocs old n (Ok b) new =
    IsLeastFor (profile_at old) n b.class × GivesOne old.number b.class old.home b new.home old.drawn new.drawn
    × (new ≡ record old { home = new.home; drawn = new.drawn })
Allocs old n (Err e) new = AllocFault old n e × (new ≡ old)

-- a slot at home of the class c is given out, and all else of the desk stays; or none is, and the desk stays
abbrev pub AllocsClass : DeskState → ℕ → Result Buffer DeskError → DeskState → Type 0
AllocsClass old c (Ok b) new =
    GivesOne old.number c old.home b new.home old.drawn new.drawn
    × (new ≡ record old { home = new.home; drawn = new.drawn })
AllocsClass old c (Err e) new = IsWanting c old.home e × (new ≡ old)

-- These buffers of a class were at home, and are lent together, as n loans would lend them: nothing of them is filled.
pub record LendsWhole (old : DeskState) (class : ℕ) (bs : List Buffer) (new : DeskState) : Type 0 where
  pub each : All (IsReady old.number class) bs
  pub same : new ≡ record old { home = new.home }
  pub home : IsPermutation old.home (map {A = Buffer} {B = AtHome} (λ b. Kept b) bs ++ new.home)

-- a parcel that had no buffer has some, and no more than n
pub record IsFilledUp (n : ℕ) (old new : ParcelState) : Type 0 where
  pub none : old.items ≡ []
  pub some : new.items ≢ []
  pub most : length new.items ≤ n
  pub same : new ≡ record old { items = new.items }

-- the buffer as it is freed: its count of forwards is 0, nothing of it is filled, and all else is the same
abbrev pub freed : Buffer → Buffer
freed b = record b { forwards = 0; filled = 0 }

-- another's buffer goes into the cache
abbrev pub Caches : DeskState → Buffer → DeskState → Type 0
Caches old b new =
    (b.owner ≢ old.number) × (new ≡ record old { cached = new.cached })
    × IsPermutation (freed b ∷ old.cached) new.cached

-- an own buffer goes home, another into the cache, which is due exactly where its bytes are then more than the limit
abbrev pub Frees : DeskState → Buffer → Freed → DeskState → Type 0
Frees old b Home new =
    (b.owner ≡ old.number) × (new ≡ record old { home = new.home })
    × IsPermutation (Kept (freed b) ∷ old.home) new.home
Frees old b Cached new = Caches old b new × (sizes new.cached ≤ old.limit)
Frees old b Due new = Caches old b new × (old.limit < sizes new.cached)

-- another's parcel goes into the cache
abbrev pub CachesAll : DeskState → ParcelState → DeskState → Type 0
CachesAll old p new =
    (p.owner ≢ old.number) × (new ≡ record old { cached = new.cached })
    × IsPermutation (p.items ++ old.cached) new.cached

-- An own parcel's buffers go home, another's into the cache, which is due exactly where its bytes are then more than
-- the limit: as where each of them is freed, but that what is filled of another's is emptied where it comes home.
abbrev pub FreesAll : DeskState → ParcelState → Freed → DeskState → Type 0
FreesAll old p Home new =
    (p.owner ≡ old.number) × (new ≡ record old { home = new.home })
    × IsPermutation (map comes_home p.items ++ old.home) new.home
FreesAll old p Cached new = CachesAll old p new × (sizes new.cached ≤ old.limit)
FreesAll old p Due new = CachesAll old p new × (old.limit < sizes new.cached)

-- the buffer was passed on once more, and all else of it is the same
abbrev pub passed_on : Buffer → Buffer
passed_on b = record b { forwards = b.forwards + 1 }

-- a's own buffers of a batch, and the others
abbrev pub own : ℕ → List Buffer → List Buffer
own a bs = filter (λ (b : Buffer). b.owner == a) bs

abbrev pub others : ℕ → List Buffer → List Buffer
others a bs = filter (λ (b : Buffer). not (b.owner == a)) bs

-- own buffers of the batch go home, and the others into the cache with one more forward
pub record Handles (old : DeskState) (batch : List Buffer) (new : DeskState) : Type 0 where
  pub same : new ≡ record old { home = new.home; cached = new.cached }
  pub home : IsPermutation (map comes_home (own old.number batch) ++ old.home) new.home
  pub cached : IsPermutation (map passed_on (others old.number batch) ++ old.cached) new.cached

-- how many came home, and how many are passed on
pub record CountsOf (a : ℕ) (batch : List Buffer) (c : Counts) : Type 0 where
  pub home : c.home ≡ capped (length (own a batch))
  pub on : c.on ≡ capped (length (others a batch))
