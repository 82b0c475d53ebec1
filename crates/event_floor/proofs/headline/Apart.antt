-- A slot at home is there once, and with no other desk.
use Rattle.std.proofs.Common.{◌≡◌, ◌≢◌, ℕ, ◌+◌, ◌<◌, Bool, true, false, cond, List, [], ◌∷◌, map, All, Option, Some, None, refl, sym, ap, ap₂, ◌∙◌, subst, arith, IsPermutation}
use Rattle.std.proofs.lemmas.Bool.{true≢false}
use Rattle.std.proofs.lemmas.List.{get_or-map, length-map}
use Rattle.std.proofs.lemmas.List.Sorted.{IsPermutation-map, sum_by-IsPermutation}
use Rattle.region_cut.specs.declared.slot.Slot.{Slot}
use Rattle.pool_desk.specs.Homes.{AtHome, slot_at}
use Rattle.pool_desk.specs.Desks.{DeskState}
use Rattle.event_floor.specs.Desks.AnyDeskState.{Idle, Held}
use Rattle.event_floor.specs.Desks.{AnyDeskState, home_of}
use Rattle.event_floor.specs.Floors.{FloorState, desk_at, IsHeld}
use Rattle.region_cut.specs.Slots.{same_slot, times}
use Rattle.pool_machine.specs.Slots.{one_if}
use Rattle.pool_machine.specs.State.{State}
use Rattle.pool_machine.specs.Listing.{DeskListing, slots_seen}
use Rattle.pool_machine.proofs.Located.{ListName, HomeOf, Loans, CacheOf, BatchOf, list_of, is_list, Located}
use Rattle.event_floor.specs.headline.Listing.{entry_at, desk_of, listing_of}
use Rattle.pool_machine.proofs.Basics.{same_slot_self}
use Rattle.pool_machine.proofs.Enumerate.{count_cons}
use Rattle.event_floor.proofs.headline.Taken.{count_zero, other_eqb, eqb_is}
use Rattle.event_floor.proofs.headline.Views.{desk_seen, slot_seen}

entry_slots : (n : ℕ) (home : List AtHome) → slots_seen (map (entry_at n) home) ≡ map slot_at home
entry_slots n [] = refl
entry_slots n (x ∷ home) = ap₂ ◌∷◌ (slot_seen n x) (entry_slots n home)

pub home_slots : (s : AnyDeskState) → slots_seen (desk_of s).home ≡ map slot_at (home_of s)
home_slots (Idle d) = entry_slots d.number d.home
home_slots (Held d) = entry_slots d.number d.home

-- a slot that is counted no time is none of these
none_there : (r : Slot) (home : List AtHome) → times r (map slot_at home) ≡ 0 → All (λ x. slot_at x ≢ r) home
none_there r home e = λ k d l q.
    let z = count_zero (same_slot r) (map slot_at home) e k r (subst (λ m. k < m) (sym (length-map home slot_at)) l) in
    true≢false (sym (ap (same_slot r) (get_or-map slot_at home k d r l ∙ q) ∙ same_slot_self r) ∙ z)

-- a list that names the slot is the only one
other_list : (a c : ℕ) (o : Option ListName) → is_list (HomeOf a) o ≡ true → c ≢ a → is_list (HomeOf c) o ≡ false
other_list a c None e ne = refl
other_list a c (Some (HomeOf b)) e ne = other_eqb c b (λ q. ne (q ∙ sym (eqb_is a b e)))
other_list a c (Some Loans) e ne = refl
other_list a c (Some (CacheOf b)) e ne = refl
other_list a c (Some (BatchOf m)) e ne = refl

pub more_than_none : (m : ℕ) (x : Bool) → 1 + m ≡ one_if x → (m ≡ 0) × (x ≡ true)
more_than_none m true e = (omega (arith, e), refl)
more_than_none m false e = absurd (omega (arith, e))

module _ (v : FloorState) (st : State) (count : Slot → ℕ) (h : Located (listing_of v) st count) where
  desk_times : (c : ℕ) (r : Slot) → times r (map slot_at (home_of (desk_at v c))) ≡ one_if (is_list (HomeOf c) (list_of st r))
  desk_times c r =
      ap (times r) (sym (home_slots (desk_at v c))) ∙ (ap (λ (x : DeskListing). times r (slots_seen x.home)) (sym (desk_seen v c)) ∙ h.in_place (HomeOf c) r)

  module _ (a : ℕ) (d : DeskState) (x : AtHome) (rest : List AtHome) (l : IsHeld v a d) (p : IsPermutation d.home (x ∷ rest)) where
    found : 1 + times (slot_at x) (map slot_at rest) ≡ one_if (is_list (HomeOf a) (list_of st (slot_at x)))
    found =
        let r = slot_at x in
        ap (λ (b : Bool). cond b 1 0 + times r (map slot_at rest)) (sym (same_slot_self r))
        ∙ (sym (count_cons (same_slot r) r (map slot_at rest))
        ∙ (sum_by-IsPermutation (λ z. cond (same_slot r z) 1 0) (map slot_at d.home) (map slot_at (x ∷ rest)) (IsPermutation-map slot_at d.home (x ∷ rest) p)
        ∙ (ap (λ s. times r (map slot_at (home_of s))) (sym l.1) ∙ desk_times a r)))

    pub rest_apart : All (λ y. slot_at y ≢ slot_at x) rest
    rest_apart = none_there (slot_at x) rest (more_than_none _ _ found).0

    pub others_apart : (c : ℕ) → c ≢ a → All (λ y. slot_at y ≢ slot_at x) (home_of (desk_at v c))
    others_apart c ne =
        none_there (slot_at x) (home_of (desk_at v c)) (desk_times c (slot_at x) ∙ ap one_if (other_list a c (list_of st (slot_at x)) (more_than_none _ _ found).1 ne))
