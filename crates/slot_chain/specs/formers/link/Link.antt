-- `Link` as a type that may hold the type that holds it.
use Rattle.std.proofs.Common.{◌≡◌, ◌⊎◌, inl, inr, refl, Option, Some, None}
use mathlib.Core.Former.{Former, this, const, pair, or, via}
use base.Stored.{gnil}
use denote.RattleType.{RattleType}
use denote.Memory.{part_of}
use denote.RawPtr.{Ptr, null_ptr}
use denote.HoleLaws.{Alike}
use denote.HolePlaces.{Recodes, one_value}
use denote.Param.Weighed.{Weighed, w_const, w_pair, w_or}
use Rattle.slot_chain.specs.declared.link.Link.{Link}
use Rattle.slot_chain.specs.contracts.link.Link as C

abbrev cases : {X : Type 0} → Option X → Unit {0} ⊎ X
cases = elim [ None ↦ inl tt | Some x ↦ inr x ]

abbrev joined : {X : Type 0} → Unit {0} ⊎ X → Option X
joined = elim [ inl u ↦ None | inr x ↦ Some x ]

abbrev link : {X : Type 0} → Ptr → Option X → Link X
link p o = record { at = p; value = o }

abbrev pub the_former : Former {0} → Former {0}
the_former g = via (pair (const Ptr) (or (const (Unit {0})) g)) (λ X. Link (g.Of X)) (λ X d. (d.at, cases d.value))
    (λ X v. link v.0 (joined v.1))
    (λ X d i. link d.at (elim d.value as (λ o. joined (cases o) ≡ o) [ None ↦ refl | Some x ↦ refl ] i))
    (λ X v i. (v.0, elim v.1 as (λ c. cases (joined c) ≡ c) [ inl u ↦ refl | inr x ↦ refl ] i))

abbrev pub the_weighed : {g : Former {0}} → Weighed g → Weighed (the_former g)
the_weighed w =
    let v = w_pair (w_const Ptr) (w_or (w_const (Unit {0})) w) in
    record { weight = λ X μ d. v.weight X μ (d.at, cases d.value); puts = λ X μ d. v.puts X μ (d.at, cases d.value) }

pub the_empty : Link ⊥
the_empty = link null_ptr None

module _ (R S : RattleType) (h : R.Denot → S.Denot) where
  abbrev mapped : Link R.Denot → Link S.Denot
  mapped = (the_former this).map R.Denot S.Denot h

  -- what it owns and lends is what its value owns and lends
  same : Alike R S h → (p : Ptr) (o : Option R.Denot) → let d : Link R.Denot = link p o in
      ((C.the_row S).own_val (mapped d) ≡ (C.the_row R).own_val d)
      × ((C.the_row S).shr_at (mapped d) ≡ (C.the_row R).shr_at d)
  unfolding part_of
  same a p None = (refl, refl)
  same a p (Some x) = (
    λ i. (C.the_row (one_value R (a.mir_same i) (a.own_same x i) (a.shr_same x i) gnil)).own_val (link p (Some tt)),
    λ i. (C.the_row (one_value R (a.mir_same i) (a.own_same x i) (a.shr_same x i) gnil)).shr_at (link p (Some tt)),
  )

  pub the_places : Alike R S h → Alike (C.the_row R) (C.the_row S) mapped
  the_places a =
      record { mir_same = refl; own_same = λ d. (same a d.at d.value).0; shr_same = λ d. (same a d.at d.value).1 }

  pub the_codes_placed : Recodes R S h → Recodes (C.the_row R) (C.the_row S) mapped
  the_codes_placed e d =
      elim d.value as (λ o. (C.the_row S).coded.code (mapped (link d.at o)) ≡ (C.the_row R).coded.code (link d.at o)) [
        | None ↦ refl
        | Some x ↦ λ i.
            (C.the_row (one_value R R.mir (R.own_val x) (R.shr_at x) (e x i))).coded.code (link d.at (Some tt))
      ]
