-- The chunks of a desk through the calls that leave them.
use Rattle.std.proofs.Common.{◌≡◌, ℕ, Bool, true, false, List, Option, Result, Ok, Err, ap}
use Rattle.std.specs.Prelude.{MatchBool}
use Rattle.slot_chain.specs.Buffer.{Buffer}
use Rattle.slot_chain.specs.Parcels.{ParcelState}
use Rattle.pool_desk.specs.Desks.{DeskState}
use Rattle.pool_desk.specs.Steps.{AllocsClass, Frees, FreesAll, IsFilledUp, LendsWhole}
use Rattle.pool_desk.specs.declared.error.DeskError.{DeskError}
use Rattle.pool_desk.specs.declared.freed.Freed.{Freed}
use Rattle.pool_desk.specs.declared.freed.Freed.TheVariants.{Home, Cached, Due}
use Rattle.seated_desk.specs.Claims.{AreNoted}
use Rattle.seated_desk.proofs.Claimed.{noted_given, noted_same}

-- a buffer was freed
pub free_keeps : (old : DeskState) (b : Buffer) (r : Freed) (new : DeskState) → Frees old b r new → new.drawn ≡ old.drawn
free_keeps old b Home new f = ap (λ (d : DeskState). d.drawn) f.1
free_keeps old b Cached new f = ap (λ (d : DeskState). d.drawn) f.0.1
free_keeps old b Due new f = ap (λ (d : DeskState). d.drawn) f.0.1

-- a parcel was freed
pub free_all_keeps : (old : DeskState) (p : ParcelState) (r : Freed) (new : DeskState) → FreesAll old p r new → new.drawn ≡ old.drawn
free_all_keeps old p Home new f = ap (λ (d : DeskState). d.drawn) f.1
free_all_keeps old p Cached new f = ap (λ (d : DeskState). d.drawn) f.0.1
free_all_keeps old p Due new f = ap (λ (d : DeskState). d.drawn) f.0.1

-- an array of buffers was asked for
pub whole_keeps : (old : DeskState) (class most : ℕ) (p q : ParcelState) (r : Bool) (new : DeskState)
    → MatchBool r (LendsWhole old class q.items new × IsFilledUp most p q) ((new ≡ old) × (q ≡ p)) → new.drawn ≡ old.drawn
whole_keeps old class most p q true new f = ap (λ (d : DeskState). d.drawn) f.0.same
whole_keeps old class most p q false new f = ap (λ (d : DeskState). d.drawn) f.0

-- a slot was asked for
pub alloc_noted : (notes : List (Option ℕ)) (old : DeskState) (c : ℕ) (r : Result Buffer DeskError) (new : DeskState) → AllocsClass old c r new
    → AreNoted notes old.drawn → AreNoted notes new.drawn
alloc_noted notes old c (Ok b) new a n = noted_given notes a.0.from b old.drawn new.drawn a.0.names n
alloc_noted notes old c (Err e) new a n = noted_same notes old.drawn new.drawn (ap (λ (d : DeskState). d.drawn) a.1) n
