-- The stock, from the cut of a region to the parts that it gives.
use Rattle.std.proofs.Common.{◌≡◌, ◌≢◌, ℕ, zero, suc, ◌+◌, ◌-◌, ◌<◌, List, [], ◌∷◌, ◌++◌, length, map, reverse, refl, sym, ap, ◌∙◌, arith, Some, ⊎_elim}
use Rattle.std.proofs.Math.Dec.{eqb}
use Rattle.std.proofs.lemmas.Bool.Decides.{eqb_tells}
use Rattle.std.specs.Prelude.{true, false, slice_get, None}
use Rattle.std.proofs.lemmas.List.{get_or-reverse, length-reverse}
use Rattle.std.proofs.lemmas.Option.{get_or_from_slice_get, slice_get_within, slice_get_read}
use Rattle.region_cut.specs.declared.part.Part.{Part}
use Rattle.region_cut.specs.Parts.{AreNumbered, number_of, numbers_from}
use Rattle.slot_audit.specs.Audit.{class_noted}
use Rattle.pool_fabric.specs.declared.ledger.DrawnChunk.{DrawnChunk}
use Rattle.pool_fabric.specs.Pages.{drawn_for}
use Rattle.pool_fabric.specs.Stocks.{StockState, IsRising, AreChunks, AreApart, AreUndrawn, AreTold, IsFull, GivesPart}
use Rattle.slot_balance.proofs.Rows.{get_front, get_seam, each_more}

numbered_at : (ps : List Part) (k n i : ℕ) (p : Part) → map number_of ps ≡ numbers_from k n → slice_get ps i ≡ Some p → (p.chunk ≡ k + i) × (i < n)
numbered_at [] k n i p e f = absurd (cc)
numbered_at (q ∷ ps) k zero i p e f = absurd (cc)
numbered_at (q ∷ ps) k (suc n) zero p e f = let same : q ≡ p = cc in let here : number_of q ≡ k = cc in (ap number_of (sym same) ∙ here ∙ omega arith, omega arith)
numbered_at (q ∷ ps) k (suc n) (suc i) p e f =
    let r = numbered_at ps (k + 1) n i p (cc) f in (let a = r.0 in omega arith, let b = r.1 in omega arith)

-- the parts of a cut
pub rises : (ps : List Part) → AreNumbered ps → IsRising ps
rises ps h = record { each = λ i j p q a b l. let x = (numbered_at ps 0 h.0 i p h.2 a).0 in let y = (numbered_at ps 0 h.0 j q h.2 b).0 in omega arith }

pub are_chunks : (ps : List Part) → AreNumbered ps → AreChunks ps
are_chunks ps h = record { each = λ i p a. let r = numbered_at ps 0 h.0 i p h.2 a in let x = r.0 in let y = r.1 in let z = h.1 in omega arith }

from_back : (ps : List Part) (i : ℕ) (p : Part) → slice_get (reverse ps) i ≡ Some p → (i < length ps) × (slice_get ps (length ps - 1 - i) ≡ Some p)
from_back ps i p e =
    let within = slice_get_within (reverse ps) i p e in
    let len = length-reverse ps in
    let below : i < length ps = omega arith in
    (below, slice_get_read ps (length ps) (length ps - 1 - i) p refl (omega arith) (sym (get_or_from_slice_get (reverse ps) i p p e) ∙ get_or-reverse ps i p below))

-- a stock of the parts of a cut
pub is_full : (ps : List Part) (s : StockState) → AreNumbered ps → s.left ≡ reverse ps → ((k : ℕ) → class_noted s.drawn k ≡ None) → IsFull s
is_full ps s h left none = record {
  none = none;
  apart = record {
    each = λ i j p q a b e.
        let x = from_back ps i p (ap (λ l. slice_get l i) (sym left) ∙ a) in
        let y = from_back ps j q (ap (λ l. slice_get l j) (sym left) ∙ b) in
        let m = (numbered_at ps 0 h.0 (length ps - 1 - i) p h.2 x.1).0 in
        let n = (numbered_at ps 0 h.0 (length ps - 1 - j) q h.2 y.1).0 in
        let below = x.0 in
        let below' = y.0 in
        omega arith;
  };
}

-- of a full stock nothing is told, and nothing was given
pub full_told : (s : StockState) (gave : List DrawnChunk) → IsFull s → gave ≡ [] → AreTold s.drawn gave
full_told s gave f e = record {
  given = λ chunk class at. let none = f.none chunk in absurd (cc);
  told = λ k d at. let none = ap (λ l. slice_get l k) (sym e) ∙ at in absurd (cc);
}

pub full_undrawn : (s : StockState) → IsFull s → AreUndrawn s.drawn s.left
full_undrawn s f = record { each = λ k p at. f.none p.chunk }

-- a part is given
module _ (old : StockState) (class : ℕ) (p : Part) (new : StockState) (g : GivesPart old class p new) (apart : AreApart old.left) (undrawn : AreUndrawn old.drawn old.left) where
  up : (k : ℕ) (q : Part) → slice_get new.left k ≡ Some q → slice_get old.left k ≡ Some q
  up k q at = ap (λ l. slice_get l k) g.left ∙ get_front new.left (p ∷ []) k q at

  here : slice_get old.left (length new.left) ≡ Some p
  here = ap (λ l. slice_get l (length new.left)) g.left ∙ get_seam new.left p []

  none : class_noted old.drawn p.chunk ≡ None
  none = undrawn.each (length new.left) p here

  pub gives_apart : AreApart new.left
  gives_apart = record { each = λ i j q r a b e. apart.each i j q r (up i q a) (up j r b) e }

  pub gives_undrawn : AreUndrawn new.drawn new.left
  gives_undrawn = record {
    each = λ k q at.
        let other : q.chunk ≢ p.chunk = λ e. let place = apart.each k (length new.left) q p (up k q at) here e in let within = slice_get_within new.left k q at in absurd (omega arith) in
        g.noted.others q.chunk other ∙ undrawn.each k q (up k q at);
  }

  pub gives_told : (gave : List DrawnChunk) → AreTold old.drawn gave → AreTold new.drawn (gave ++ drawn_for p.chunk class ∷ [])
  gives_told gave t = record {
    given = λ chunk c at.
        ⊎_elim
        (λ (h : (eqb chunk p.chunk ≡ true) × (chunk ≡ p.chunk)).
        let both = sym at ∙ ap (class_noted new.drawn) h.1 ∙ g.noted.noted in
        let same : c ≡ class = cc in
        (length gave, get_seam gave (drawn_for p.chunk class) [] ∙ (λ i. Some (drawn_for (sym h.1 i) (sym same i)))))
        (λ (h : (eqb chunk p.chunk ≡ false) × (chunk ≢ p.chunk)).
        let before = t.given chunk c (sym (g.noted.others chunk h.1) ∙ at) in
        (before.0, get_front gave (drawn_for p.chunk class ∷ []) before.0 (drawn_for chunk c) before.1))
        (eqb_tells chunk p.chunk);
    told = each_more (λ k (d : DrawnChunk). class_noted new.drawn d.chunk ≡ Some d.class) gave (drawn_for p.chunk class)
        (λ k d at.
        let before = t.told k d at in
        let other : d.chunk ≢ p.chunk = λ e. let clash = sym before ∙ ap (class_noted old.drawn) e ∙ none in absurd (cc) in
        g.noted.others d.chunk other ∙ before)
        g.noted.noted;
  }
