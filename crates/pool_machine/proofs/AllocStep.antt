-- An allocation, over the floor's lists.
use Rattle.std.proofs.Common.{◌≡◌, ℕ, ◌<◌, Bool, true, false, ◌&&◌, ◌==◌, List, ◌∷◌, length, All, Some, None, Ok, IsPermutation, refl, sym, ap, ap₂, ◌∙◌, subst, length-set}
use Rattle.std.proofs.lemmas.Bool.{eqb-true, eqb-false, eq-eqb, ne_eqb, true≢false, leb-false}
use Rattle.std.proofs.lemmas.List.Elements.{All-head, All-tail, All-cons}
use Rattle.std.proofs.lemmas.List.Sorted.{All-permutation, IsPermutation-sym}
use Rattle.region_cut.specs.declared.slot.Slot.{Slot}
use Rattle.pool_machine.specs.declared.request.Request.TheVariants.{Alloc}
use Rattle.pool_machine.specs.declared.reply.Reply.TheVariants.{Slot as Lent}
use Rattle.pool_machine.specs.State.{profile_at, least_class, State, OnLoan, class_of, home_with}
use Rattle.pool_machine.proofs.Words.{with_moved}
use Rattle.pool_machine.specs.Listing.{slots_seen, Listing, DeskListing, Entry, desk_listing, Labelled, Counted}
use Rattle.pool_machine.proofs.Located.{ListName, HomeOf, Loans, CacheOf, BatchOf, same_list, list_of, is_list, slots_in, Located, LocatedStep}
use Rattle.digit_route.specs.Digits.{Scheme}
use Rattle.digit_route.specs.Profiles.{profile_of}
use Rattle.pool_machine.proofs.Basics.{none_holds}
use Rattle.pool_machine.proofs.Moves.{same_list_self}
use Rattle.pool_machine.proofs.InPlace.{moved_in_place}
use Rattle.pool_machine.proofs.FloorSteps.{with_desk, desk_here, desk_other, desk_keeps}
use Rattle.pool_machine.proofs.FreeStep.{after_edits, slots_permuted}
use Rattle.pool_machine.proofs.Keeps.{alloc_step}
use Rattle.pool_machine.proofs.PartBy.{home_with_is}
use Rattle.pool_machine.proofs.Places.{home_place}
use Rattle.pool_machine.proofs.Refusals.{refusal_seen, refusal_agrees}

-- what an allocation does to the floor's lists: the buffer leaves the home of desk a and is lent
pub record AllocEdits (v : Listing) (a n : ℕ) (e : Entry) (lent : List Entry) (d : DeskListing) : Type 0 where
  pub leaves : IsPermutation (e ∷ d.home) (desk_listing v a).home
  pub class : e.class ≡ least_class (profile_of v.digits.bits) n
  pub worker : d.worker ≡ (desk_listing v a).worker
  pub cache : d.cache ≡ (desk_listing v a).cache
  pub arrives : IsPermutation (e ∷ v.lent) lent

module _ (v : Listing) (st : State) (count : Slot → ℕ) (a n : ℕ) (e : Entry) (lent : List Entry) (d : DeskListing)
    (h : Located v st count) (l : a < length v.desks) (f : AllocEdits v a n e lent d) where
  there : list_of st e.slot ≡ Some (HomeOf a)
  there = All-head (λ (x : Entry). list_of st x.slot ≡ Some (HomeOf a)) e d.home
      (All-permutation (λ (x : Entry). list_of st x.slot ≡ Some (HomeOf a)) (desk_listing v a).home (e ∷ d.home)
      (IsPermutation-sym (e ∷ d.home) (desk_listing v a).home f.leaves) (home_place v st count h a))

  labels : All (Labelled st) (e ∷ d.home)
  labels = All-permutation (Labelled st) (desk_listing v a).home (e ∷ d.home) (IsPermutation-sym (e ∷ d.home) (desk_listing v a).home f.leaves)
      (h.homes a)

  pub alloc_home : home_with st a (least_class (profile_at st) n) e.slot ≡ true
  alloc_home = home_with_is st a (least_class (profile_at st) n) e.slot
      ∙ ap₂ ◌&&◌ (ap (is_list (HomeOf a)) there ∙ same_list_self (HomeOf a))
      (eq-eqb (class_of st e.slot) (least_class (profile_at st) n) (sym (All-head (Labelled st) e d.home labels).1
      ∙ (f.class ∙ ap (λ (s : Scheme). least_class (profile_of s.bits) n) h.frame.digits)))

  homes_at : (b : ℕ) (y : Bool) → (a == b) ≡ y → All (Labelled st) (desk_listing (with_desk v a d) b).home
  homes_at b true q = subst (λ m. All (Labelled st) (desk_listing (with_desk v a d) m).home) (eqb-true a b q)
      (subst (λ (x : DeskListing). All (Labelled st) x.home) (sym (desk_here v a d l)) (All-tail (Labelled st) e d.home labels))
  homes_at b false q = subst (λ (x : DeskListing). All (Labelled st) x.home) (sym (desk_other v a b d q)) (h.homes b)

  others : (k : ListName) → same_list k (HomeOf a) ≡ false → same_list k Loans ≡ false → slots_in (after_edits v a lent d) k ≡ slots_in v k
  others (HomeOf b) x y = ap (λ (p : DeskListing). slots_seen p.home) (desk_other v a b d (ne_eqb a b (λ q. eqb-false b a x (sym q))))
  others Loans x y = absurd (true≢false y)
  others (CacheOf b) x y = ap slots_seen (desk_keeps (λ p. p.cache) v a d l f.cache b)
  others (BatchOf m) x y = refl

  pub alloc_shown : Located (after_edits v a lent d) (with_moved e.slot OnLoan st) count
  alloc_shown = record {
    sound = alloc_step st count a (least_class (profile_at st) n) e.slot h.sound alloc_home;
    frame = record {
      digits = h.frame.digits;
      limit = h.frame.limit;
      next = h.frame.next;
      desks = length-set v.desks a d ∙ h.frame.desks;
      inbox_count = h.frame.inbox_count;
      chunks = h.frame.chunks;
      drawn = h.frame.drawn;
      holder = λ b. desk_keeps (λ p. p.worker) v a d l f.worker b ∙ h.frame.holder b;
      inboxes = h.frame.inboxes;
    };
    in_place = moved_in_place st (slots_in v) (slots_in (after_edits v a lent d)) e.slot OnLoan (HomeOf a) h.in_place there refl
        (subst (λ (p : DeskListing). IsPermutation (e.slot ∷ slots_seen p.home) (slots_seen (desk_listing v a).home)) (sym (desk_here v a d l))
        (slots_permuted (e ∷ d.home) (desk_listing v a).home f.leaves))
        (slots_permuted (e ∷ v.lent) lent f.arrives) others;
    homes = λ b. homes_at b (a == b) refl;
    lent = All-permutation (Labelled st) (e ∷ v.lent) lent f.arrives (All-cons (Labelled st) e v.lent
        (All-head (Labelled st) e d.home labels) h.lent);
    cached = λ b. subst (λ xs. All (Counted st count) xs) (sym (desk_keeps (λ p. p.cache) v a d l f.cache b)) (h.cached b);
    queued = h.queued;
  }

-- an accepted allocation
pub alloc_applies : (v : Listing) (a n : ℕ) (e : Entry) (lent : List Entry) (d : DeskListing) → refusal_seen v (Alloc a n) ≡ None →
    AllocEdits v a n e lent d →
    LocatedStep v (Alloc a n) (Ok (Lent e.slot)) (after_edits v a lent d)
alloc_applies v a n e lent d z f st count h =
    let l = leb-false (length v.desks) a (none_holds _ _ _ z).0 in (
      with_moved e.slot OnLoan st,
      ((refusal_agrees v st count h (Alloc a n) ∙ z, alloc_home v st count a n e lent d h l f), refl),
      alloc_shown v st count a n e lent d h l f,
    )
