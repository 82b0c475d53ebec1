-- Stacks: what is linked, then what an array names.
use Rattle.std.proofs.Common.{◌≡◌, List, [], ◌∷◌, ◌++◌, map, sym, subst, append_assoc, IsPermutation}
use Rattle.std.proofs.lemmas.List.Sorted.{IsPermutation-append_comm, IsPermutation-append_right, IsPermutation-map, IsPermutation-trans}
use Rattle.std.specs.Prelude.{OnOk, Result, Ok, Err}
use Rattle.region_cut.specs.declared.slot.Slot.{Slot}
use Rattle.slot_chain.specs.Buffer.{Buffer}
use Rattle.slot_chain.specs.Slots.{AddsSlots, slot_of}
use Rattle.slot_chain.specs.declared.error.NoMemory.{NoMemory}
use Rattle.slot_chain.proofs.Tops.{front_is_none}

-- one more is linked
pub linked_more : (ls ns : List Buffer) (b : Buffer) → IsPermutation ((ls ++ ns) ++ b ∷ []) ((ls ++ b ∷ []) ++ ns)
linked_more ls ns b =
    subst (λ l. IsPermutation l ((ls ++ b ∷ []) ++ ns)) (sym (append_assoc ls ns (b ∷ [])))
    (subst (λ l. IsPermutation (ls ++ (ns ++ b ∷ [])) l) (sym (append_assoc ls (b ∷ []) ns))
    (IsPermutation-append_right ls _ _ (IsPermutation-append_comm ns (b ∷ []))))

behind_is_none : (ls ns : List Buffer) → ls ≡ [] → ls ++ ns ≡ [] → ns ≡ []
behind_is_none ls ns l e = rw l at e

-- nothing is there where nothing stands in either place
pub both_are_none : (ls ns : List Buffer) → ls ++ ns ≡ [] → (ls ≡ []) × (ns ≡ [])
both_are_none ls ns e = let l = front_is_none ls ns e in (l, behind_is_none ls ns l e)

-- a walk shows them in another order
walked : (ws ls ns : List Buffer) → IsPermutation (ws ++ (ls ++ ns)) ((ws ++ ns) ++ ls)
walked ws ls ns =
    subst (λ l. IsPermutation (ws ++ (ls ++ ns)) l) (sym (append_assoc ws ns ls))
    (IsPermutation-append_right ws (ls ++ ns) (ns ++ ls) (IsPermutation-append_comm ls ns))

-- the slots of a walk are those of the stack, and of what stands beside it
pub listed : (ws ls ns walk : List Buffer) (result : Result (Unit {0}) NoMemory) (old new : List Slot) → walk ≡ (ws ++ ns) ++ ls
    → OnOk result (AddsSlots (map slot_of walk) old new) → OnOk result (AddsSlots (map slot_of (ws ++ (ls ++ ns))) old new)
listed ws ls ns walk (Err e) old new is h = h
listed ws ls ns walk (Ok t) old new is h = record {
  added = h.added;
  appended = h.appended;
  each = IsPermutation-trans _ _ _ (IsPermutation-map slot_of _ _ (subst (λ l. IsPermutation (ws ++ (ls ++ ns)) l) (sym is) (walked ws ls ns))) h.each;
}
