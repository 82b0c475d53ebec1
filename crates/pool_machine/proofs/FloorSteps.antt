-- Steps of a floor, over its lists.
use Rattle.std.proofs.Common.{◌≡◌, ℕ, ◌<◌, Bool, true, false, ◌==◌, length, set, All, Option, if◌then◌else◌, refl, sym, ap, ◌∙◌, subst, get_or-set_same, get_or-set_other, length-set}
use Rattle.std.proofs.lemmas.Bool.{eqb-true, eqb-false}
use Rattle.region_cut.specs.declared.slot.Slot.{Slot}
use Rattle.region_cut.specs.Slots.{times}
use Rattle.pool_machine.specs.State.{State}
use Rattle.pool_machine.specs.Steps.{with_holder}
use Rattle.pool_machine.specs.Listing.{slots_seen, Listing, DeskListing, desk_listing, empty_desk, Labelled, Counted}
use Rattle.pool_machine.proofs.Located.{ListName, HomeOf, Loans, CacheOf, BatchOf, slots_in, Located}
use Rattle.pool_machine.proofs.Keeps.{holder_sound}

abbrev pub with_desk : Listing → ℕ → DeskListing → Listing
with_desk v a d = record v { desks = set v.desks a d }

pub desk_here : (v : Listing) (a : ℕ) (d : DeskListing) → a < length v.desks → desk_listing (with_desk v a d) a ≡ d
desk_here v a d l = get_or-set_same v.desks a d empty_desk l

pub desk_other : (v : Listing) (a b : ℕ) (d : DeskListing) → (a == b) ≡ false → desk_listing (with_desk v a d) b ≡ desk_listing v b
desk_other v a b d e = get_or-set_other v.desks a b d empty_desk (λ q. eqb-false a b e (sym q))

-- what a change of one desk keeps there stays at each desk
pub desk_keeps : {A : Type 0} (f : DeskListing → A) (v : Listing) (a : ℕ) (d : DeskListing) → a < length v.desks → f d ≡ f (desk_listing v a) →
    (b : ℕ) → f (desk_listing (with_desk v a d) b) ≡ f (desk_listing v b)
desk_keeps {A} f v a d l e b = go (a == b) refl
  where
    go : (x : Bool) → (a == b) ≡ x → f (desk_listing (with_desk v a d) b) ≡ f (desk_listing v b)
    go true q = subst (λ n. f (desk_listing (with_desk v a d) n) ≡ f (desk_listing v n)) (eqb-true a b q) (ap f (desk_here v a d l) ∙ e)
    go false q = ap f (desk_other v a b d q)

-- a desk is held by another worker, or by none
pub holder_shown : (v : Listing) (st : State) (count : Slot → ℕ) (a : ℕ) (x : Option ℕ) (d : DeskListing) → Located v st count → a < length v.desks →
    d.worker ≡ x → d.home ≡ (desk_listing v a).home → d.cache ≡ (desk_listing v a).cache → Located (with_desk v a d) (with_holder a x st) count
holder_shown v st count a x d h l w e f = record {
  sound = holder_sound st count a x h.sound;
  frame = record {
    digits = h.frame.digits;
    limit = h.frame.limit;
    next = h.frame.next;
    desks = length-set v.desks a d ∙ h.frame.desks;
    inbox_count = h.frame.inbox_count;
    chunks = h.frame.chunks;
    drawn = h.frame.drawn;
    holder = λ b. holder_at b (a == b) refl;
    inboxes = h.frame.inboxes;
  };
  in_place = λ k s. ap (times s) (lists_at k) ∙ h.in_place k s;
  homes = λ b. subst (λ xs. All (Labelled st) xs) (sym (desk_keeps (λ p. p.home) v a d l e b)) (h.homes b);
  lent = h.lent;
  cached = λ b. subst (λ xs. All (Counted st count) xs) (sym (desk_keeps (λ p. p.cache) v a d l f b)) (h.cached b);
  queued = h.queued;
}
  where
    holder_at : (b : ℕ) (y : Bool) → (a == b) ≡ y → (desk_listing (with_desk v a d) b).worker ≡ (if a == b then x else st.holder b)
    holder_at b true q =
        subst (λ n. (desk_listing (with_desk v a d) n).worker ≡ x) (eqb-true a b q) (ap (λ p. p.worker) (desk_here v a d l) ∙ w)
        ∙ ap (λ y. if y then x else st.holder b) (sym q)
    holder_at b false q = ap (λ p. p.worker) (desk_other v a b d q) ∙ (h.frame.holder b ∙ ap (λ y. if y then x else st.holder b) (sym q))

    lists_at : (k : ListName) → slots_in (with_desk v a d) k ≡ slots_in v k
    lists_at (HomeOf b) = ap slots_seen (desk_keeps (λ p. p.home) v a d l e b)
    lists_at Loans = refl
    lists_at (CacheOf b) = ap slots_seen (desk_keeps (λ p. p.cache) v a d l f b)
    lists_at (BatchOf n) = refl
