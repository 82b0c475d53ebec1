-- A burst gets one buffer more, or many at once.
use Rattle.std.proofs.Common.{◌≤◌, ℕ, zero, suc, ◌+◌, [], ◌∷◌, ◌++◌, length, refl, sym, ap, ◌∙◌, subst, append_assoc, append-nil, length-append, arith}
use Rattle.std.specs.Prelude.{All}
use Rattle.std.proofs.lemmas.List.Elements.{All-append, All-nil, All-weaker}
use Rattle.region_cut.specs.Classes.{size_of}
use Rattle.slot_chain.specs.Buffer.{Buffer}
use Rattle.slot_chain.specs.Parcels.{ParcelState, Packs, unforwarded}
use Rattle.pool_desk.specs.Homes.{IsReady}
use Rattle.pool_desk.specs.Steps.{IsFilledUp}
use Rattle.seated_desk.specs.Bursts.{Adds}

one : {X : Type 0} (P : X → Type 0) (x : X) → P x → All P (x ∷ [])
one P x p zero d low = p
one P x p (suc k) d low = absurd (omega arith)

pub adds_none : (size : ℕ) (p : ParcelState) → Adds size 0 p p
adds_none size p = record { added = []; appended = sym (append-nil p.items); count = refl; sizes = All-nil (λ (b : Buffer). size ≤ size_of b.class) }

pub adds_one : (size n : ℕ) (old now new : ParcelState) (b : Buffer) → Adds size n old now → Packs now b new → size ≤ size_of b.class → Adds size (n + 1) old new
adds_one size n old now new b a packed fits = record {
  added = a.added ++ unforwarded b ∷ [];
  appended = ap (λ (q : ParcelState). q.items) packed.2 ∙ ap (λ l. l ++ unforwarded b ∷ []) a.appended ∙ append_assoc old.items a.added (unforwarded b ∷ []);
  count = length-append a.added (unforwarded b ∷ []) ∙ ap (λ m. m + 1) a.count;
  sizes = All-append (λ (c : Buffer). size ≤ size_of c.class) a.added (unforwarded b ∷ []) a.sizes (one (λ (c : Buffer). size ≤ size_of c.class) (unforwarded b) fits);
}

-- buffers of one class came together into an empty parcel
pub adds_whole : (size owner class most : ℕ) (old new : ParcelState) → size ≤ size_of class → All (IsReady owner class) new.items → IsFilledUp most old new
    → Adds size (length new.items) old new
adds_whole size owner class most old new fits each filled = record {
  added = new.items;
  appended = sym (ap (λ l. l ++ new.items) filled.none);
  count = refl;
  sizes = All-weaker (IsReady owner class) (λ (b : Buffer). size ≤ size_of b.class) (λ b r. subst (λ c. size ≤ size_of c) (sym r.0.1) fits) new.items each;
}
