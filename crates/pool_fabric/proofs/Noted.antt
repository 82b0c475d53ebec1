-- What is told as drawn is what the desks drew.
use Rattle.std.proofs.Common.{◌≡◌, ℕ, zero, suc, ◌+◌, ◌<◌, ◌≤◌, List, [], ◌∷◌, refl, sym, ap, ◌∙◌, arith, Some, cond, eq-eqb, ⊎_elim, ◌≢◌}
use Rattle.std.proofs.Math.Dec.{eqb}
use Rattle.std.proofs.lemmas.Bool.Decides.{eqb_tells}
use Rattle.std.specs.Prelude.{Option, true, false, slice_get, ◌==◌}
use Rattle.pool_desk.specs.Desks.{DeskState}
use Rattle.slot_audit.specs.Audit.{class_noted}
use Rattle.pool_fabric.specs.declared.ledger.DrawnChunk.{DrawnChunk}
use Rattle.slot_balance.specs.Weights.{weigh}
use Rattle.pool_fabric.specs.Pages.{drawn_for}
use Rattle.pool_fabric.specs.Accounts.{of_drawn, drew}
use Rattle.pool_fabric.specs.Stocks.{AreTold}
use Rattle.pool_fabric.specs.Whole.{AreNoted}

-- what is there weighs no more than all
weigh_at : {A : Type 0} (f : A → ℕ) (xs : List A) (k : ℕ) (x : A) → slice_get xs k ≡ Some x → f x ≤ weigh f xs
weigh_at f [] k x e = absurd (cc)
weigh_at f (z ∷ zs) zero x e = let same : z ≡ x = cc in let h = ap f same in omega arith
weigh_at f (z ∷ zs) (suc k) x e = let i = weigh_at f zs k x e in omega arith

-- what is in front, or one behind it
front_or : {A : Type 0} (f : A → ℕ) (n : ℕ) (z : A) (zs : List A) → f z ≡ n → 0 < f z + weigh f zs
    → (0 < weigh f zs → (k : ℕ) × (x : A) × (slice_get zs k ≡ Some x) × (0 < f x)) → (k : ℕ) × (x : A) × (slice_get (z ∷ zs) k ≡ Some x) × (0 < f x)
front_or f zero z zs e l more = let r = more (omega arith) in (suc r.0, r.1, r.2, r.3)
front_or f (suc n) z zs e l more = (0, z, refl, omega arith)

-- where all weighs something, one does
some_weighs : {A : Type 0} (f : A → ℕ) (xs : List A) → 0 < weigh f xs → (k : ℕ) × (x : A) × (slice_get xs k ≡ Some x) × (0 < f x)
some_weighs f [] l = absurd (omega arith)
some_weighs f (z ∷ zs) l = front_or f (f z) z zs refl l (some_weighs f zs)

-- one chunk of one class counts, and nothing else
counts : ℕ → ℕ → DrawnChunk → ℕ
counts chunk class d = cond (d.chunk == chunk) (cond (d.class == class) 1 0) 0

counts_one : (d : DrawnChunk) (chunk class : ℕ) → d.chunk ≡ chunk → d.class ≡ class → counts chunk class d ≡ 1
unfolding counts
counts_one d chunk class e f = (λ i. cond (eq-eqb d.chunk chunk e i) (cond (eq-eqb d.class class f i) 1 0) 0)

counts_only : (d : DrawnChunk) (chunk class : ℕ) → 0 < counts chunk class d → (d.chunk ≡ chunk) × (d.class ≡ class)
unfolding counts
counts_only d chunk class l =
    ⊎_elim
    (λ (h : (eqb d.chunk chunk ≡ true) × (d.chunk ≡ chunk)).
    ⊎_elim
    (λ (k : (eqb d.class class ≡ true) × (d.class ≡ class)). (h.1, k.1))
    (λ (k : (eqb d.class class ≡ false) × (d.class ≢ class)). let z : counts chunk class d ≡ 0 = (λ i. cond (h.0 i) (cond (k.0 i) 1 0) 0) in absurd (omega arith))
    (eqb_tells d.class class))
    (λ (h : (eqb d.chunk chunk ≡ false) × (d.chunk ≢ chunk)). let z : counts chunk class d ≡ 0 = (λ i. cond (h.0 i) (cond (d.class == class) 1 0) 0) in absurd (omega arith))
    (eqb_tells d.chunk chunk)

-- the stock tells what it gave, which is what was got and so what the desks drew
pub noted : (desks : List DeskState) (gave got : List DrawnChunk) (drawn : List (Option ℕ))
    → AreTold drawn gave → ((g : DrawnChunk → ℕ) → weigh g gave ≡ weigh g got) → ((g : DrawnChunk → ℕ) → weigh (drew g) desks ≡ weigh g got) → AreNoted desks drawn
noted desks gave got drawn t same drew_all = record {
  only = λ chunk class at.
      let here = t.given chunk class at in
      let a = weigh_at (counts chunk class) gave here.0 (drawn_for chunk class) here.1 in
      let b = counts_one (drawn_for chunk class) chunk class refl refl in
      let c = same (counts chunk class) in
      let d = drew_all (counts chunk class) in
      let desk = some_weighs (drew (counts chunk class)) desks (omega arith) in
      let part = some_weighs (of_drawn (counts chunk class)) desk.1.drawn desk.3 in
      let is = counts_only (drawn_for part.1.chunk part.1.class) chunk class part.3 in
      record { number = desk.0; desk = desk.1; is_one = desk.2; place = part.0; part = part.1; drawn = part.2; chunk_is = is.0; class_is = is.1 };
  all = λ chunk class d.
      let a = weigh_at (drew (counts chunk class)) desks d.number d.desk d.is_one in
      let b = weigh_at (of_drawn (counts chunk class)) d.desk.drawn d.place d.part d.drawn in
      let c = counts_one (drawn_for d.part.chunk d.part.class) chunk class d.chunk_is d.class_is in
      let e = same (counts chunk class) in
      let f = drew_all (counts chunk class) in
      let one = some_weighs (counts chunk class) gave (omega arith) in
      let is = counts_only one.1 chunk class one.3 in
      ap (class_noted drawn) (sym is.0) ∙ t.told one.0 one.1 one.2 ∙ ap Some is.1;
}
