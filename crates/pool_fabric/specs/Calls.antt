-- What the calls of a station do to it.
use Rattle.std.specs.Prelude.{◌≡◌, ℕ, Bool, [], ◌∷◌, ◌++◌, map, MatchBool, Result, Ok, Err}
use Rattle.slot_chain.specs.Buffer.{Buffer}
use Rattle.region_cut.specs.declared.part.Part.{Part}
use Rattle.slot_chain.specs.Parcels.{ParcelState}
use Rattle.slot_chain.specs.Slots.{slot_of}
use Rattle.pool_desk.specs.Steps.{Claims, Allocs, AllocsClass, Frees, FreesAll, IsFilledUp, LendsWhole}
use Rattle.pool_desk.specs.declared.error.DeskError.{DeskError}
use Rattle.pool_desk.specs.declared.freed.Freed.{Freed}
use Rattle.pool_fabric.specs.Pages.{drawn_for, lent_on, lent_all_on, freed_on}
use Rattle.pool_fabric.specs.Stations.{StationState}

-- the desk gives out a buffer, which is then lent; or it gives none, and all is as before
abbrev pub Lends : StationState → ℕ → Result Buffer DeskError → StationState → Type 0
Lends old size (Ok b) new =
    Allocs old.desk size (Ok b) new.desk
    × (new ≡ record old { desk = new.desk; page = lent_on old.page b.slot; lent = old.lent ++ b ∷ [] })
Lends old size (Err e) new = Allocs old.desk size (Err e) new.desk × (new ≡ old)

-- the same where its class is asked for
abbrev pub LendsClass : StationState → ℕ → Result Buffer DeskError → StationState → Type 0
LendsClass old c (Ok b) new =
    AllocsClass old.desk c (Ok b) new.desk
    × (new ≡ record old { desk = new.desk; page = lent_on old.page b.slot; lent = old.lent ++ b ∷ [] })
LendsClass old c (Err e) new = AllocsClass old.desk c (Err e) new.desk × (new ≡ old)

-- buffers of the class come into an empty parcel together, at most n, and each is then lent; or none comes, and all is
-- as before
pub record LendsTogether (old : StationState) (class n : ℕ) (p : ParcelState) (new : StationState) (p' : ParcelState) : Type 0 where
  pub desk : LendsWhole old.desk class p'.items new.desk
  pub parcel : IsFilledUp n p p'
  pub same : new ≡ record old { desk = new.desk; page = lent_all_on old.page (map slot_of p'.items); lent = old.lent ++ p'.items }

abbrev pub LendsParcel : StationState → (class n : ℕ) → ParcelState → Bool → StationState → ParcelState → Type 0
LendsParcel old class n p r new p' = MatchBool r (LendsTogether old class n p new p') ((new ≡ old) × (p' ≡ p))

-- the desk takes a buffer back
pub record TakesBack (old : StationState) (b : Buffer) (r : Freed) (new : StationState) : Type 0 where
  pub desk : Frees old.desk b r new.desk
  pub same : new ≡ record old { desk = new.desk; page = freed_on old.page (b.slot ∷ []); freed = old.freed ++ b ∷ [] }

-- the desk takes all buffers of a parcel back
pub record TakesAllBack (old : StationState) (p : ParcelState) (r : Freed) (new : StationState) : Type 0 where
  pub desk : FreesAll old.desk p r new.desk
  pub same : new ≡ record old { desk = new.desk; page = freed_on old.page (map slot_of p.items); freed = old.freed ++ p.items }

-- the desk claims a part for the class, which is written on its page
pub record ClaimsPart (old : StationState) (class : ℕ) (new : StationState) : Type 0 where
  pub part : Part
  pub desk : Claims old.desk part class new.desk
  pub same : new ≡ record old {
    desk = new.desk;
    page = record old.page { got = old.page.got ++ drawn_for part.chunk class ∷ [] };
  }
