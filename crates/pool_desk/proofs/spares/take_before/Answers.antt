use Rattle.std.proofs.Common.{◌≡◌, ℕ, ◌<◌, [], suc, List, All, take, drop, length, ap, ◌∙◌, Vec}
use Rattle.std.specs.List.{remove}
use Rattle.std.proofs.lemmas.List.Elements.{All-append, All-take, All-drop}
use Rattle.std.proofs.lemmas.Option.{get_or_from_slice_get, slice_get_within}
use Rattle.std.specs.declared.alloc.Global.{Global}
use Rattle.slot_chain.specs.Buffer.{Buffer}
use Rattle.pool_desk.specs.Spares.{AreEmptied, RoomAt}
use Rattle.pool_desk.proofs.spares.take_before.Goals as goal

All-remove : {X : Type 0} (P : X → Type 0) (xs : List X) (k : ℕ) → All P xs → All P (remove xs k)
All-remove P xs k h = All-append P (take k xs) (drop (suc k) xs) (All-take P k xs h) (All-drop P (suc k) xs h)

pub returns-clause-emptied : goal.returns-clause-emptied
returns-clause-emptied c =
    let emptied : AreEmptied c.args.arrays.now.items = c.requires in
    rw c.remove.ensures.items (All-remove (λ (a : Vec Buffer Global). a.items ≡ []) c.args.arrays.now.items c.in_ok-at.at emptied)

pub returns-clause-array : goal.returns-clause-array
returns-clause-array c =
    let k = c.in_ok-at.at in
    let items = c.args.arrays.now.items in
    let emptied : AreEmptied items = c.requires in
    let found : RoomAt c.args.places k items = rw c.as_slice.ensures.value at c.in_ok-at.ensures in
    let within : k < length items = slice_get_within items k found.array found.there in
    let value : c.remove.result ≡ found.array = c.remove.ensures.value ∙ get_or_from_slice_get items k found.array c.remove.result found.there in (
      ap (λ (a : Vec Buffer Global). a.items) c.remove.ensures.value ∙ emptied k c.remove.result within,
      rw value found.room,
    )
