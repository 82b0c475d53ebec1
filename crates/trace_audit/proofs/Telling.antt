-- A floor's drawn chunks can be told, whether there is memory for the table or not.
use Rattle.std.proofs.Common.{◌≡◌, ℕ, zero, suc, ◌<◌, ◌≤◌, List, [], ◌∷◌, Option, Some, None, refl, map, take, arith}
use Rattle.std.proofs.lemmas.List.Sorted.{IsPermutation-refl}
use Rattle.region_cut.specs.Limits.{chunk_limit}
use Rattle.pool_machine.specs.declared.chunk.DrawnChunk.{DrawnChunk}
use Rattle.event_floor.specs.Chunks.{class_drawn}
use Rattle.event_floor.specs.Floors.{FloorState}
use Rattle.event_floor.specs.headline.ListsSlots.{slots_on}
use Rattle.slot_audit.specs.Audit.{class_noted}
use Rattle.slot_audit.specs.declared.fault.Fault.TheVariants.{NoMemory}
use Rattle.trace_audit.specs.FloorSlots.{IsFaultOn, TellsDrawn}

-- the classes of the first n chunks
abbrev told : ℕ → List DrawnChunk → List (Option ℕ)
told n ds = map (λ (d : DrawnChunk). Some d.class) (take n ds)

told_below : (n : ℕ) (ds : List DrawnChunk) (k : ℕ) → k < n → class_noted (told n ds) k ≡ class_drawn ds k
told_below zero ds k h = absurd (omega arith)
told_below (suc n) [] k h = refl
told_below (suc n) (d ∷ ds) zero h = refl
told_below (suc n) (d ∷ ds) (suc k) h = told_below n ds k (omega arith)

told_above : (n : ℕ) (ds : List DrawnChunk) (k : ℕ) → n ≤ k → class_noted (told n ds) k ≡ None
told_above zero ds k h = refl
told_above (suc n) [] k h = refl
told_above (suc n) (d ∷ ds) zero h = absurd (omega arith)
told_above (suc n) (d ∷ ds) (suc k) h = told_above n ds k (omega arith)

-- that memory was refused may be said of each floor
pub refused : (v : FloorState) → IsFaultOn v NoMemory
refused v =
    let tells : TellsDrawn v (told chunk_limit v.drawn) = record {
      classes = told_below chunk_limit v.drawn;
      no_more = told_above chunk_limit v.drawn;
    } in
    (told chunk_limit v.drawn, slots_on v, tells, IsPermutation-refl (slots_on v), tt)
