-- Where the machine has the buffers of the floor's lists.
use Rattle.std.proofs.Common.{◌≡◌, ℕ, true, List, get_or, All, Option, Some, None, is_some, option_map, refl, ap, lt_of_lt_of_le, le_trans}
use Rattle.region_cut.specs.declared.slot.Slot.{Slot}
use Rattle.pool_machine.specs.State.{State, Place, owner_of}
use Rattle.pool_machine.specs.Listing.{Listing, Entry, BatchListing, desk_listing}
use Rattle.pool_machine.proofs.Located.{inbox_listing, ListName, HomeOf, Loans, CacheOf, BatchOf, list_at, list_of, Located}
use Rattle.pool_machine.proofs.FreeStep.{named_there, seen_counts, batch_counts, inbox_counts}

module _ (v : Listing) (st : State) (count : Slot → ℕ) (h : Located v st count) where
  pub home_place : (b : ℕ) → All (λ (e : Entry). list_of st e.slot ≡ Some (HomeOf b)) (desk_listing v b).home
  home_place b = λ k d l. named_there v st count h (HomeOf b) (get_or (desk_listing v b).home k d).slot (seen_counts (desk_listing v b).home k d l)

  pub lent_place : All (λ (e : Entry). list_of st e.slot ≡ Some Loans) v.lent
  lent_place = λ k d l. named_there v st count h Loans (get_or v.lent k d).slot (seen_counts v.lent k d l)

  pub cache_place : (b : ℕ) → All (λ (e : Entry). list_of st e.slot ≡ Some (CacheOf b)) (desk_listing v b).cache
  cache_place b = λ k d l. named_there v st count h (CacheOf b) (get_or (desk_listing v b).cache k d).slot
      (seen_counts (desk_listing v b).cache k d l)

  pub queued_place : (b : ℕ) → All (λ (w : BatchListing). All (λ (e : Entry). list_of st e.slot ≡ Some (BatchOf w.batch.number)) w.buffers)
      (inbox_listing v b)
  queued_place b = λ j d l k c m.
      let w = get_or (inbox_listing v b) j d in
      let f = get_or w.buffers k c in
      named_there v st count h (BatchOf w.batch.number) f.slot
      (lt_of_lt_of_le (seen_counts w.buffers k c m) (le_trans (batch_counts f.slot w.batch.number (inbox_listing v b) j d l refl)
      (inbox_counts f.slot w.batch.number v.inboxes b)))

-- two facts of each element
pub All-both : {A : Type 0} (P Q R : A → Type 0) (xs : List A) → ((x : A) → P x → Q x → R x) → All P xs → All Q xs → All R xs
All-both P Q R xs f p q = λ k d l. f (get_or xs k d) (p k d l) (q k d l)

pub placed_named : (st : State) (s : Slot) (l : ListName) → list_of st s ≡ Some l → is_some (st.place s) ≡ true
placed_named st s l e = go (st.place s) e
  where
    go : (p : Option Place) → option_map (list_at (owner_of st s)) p ≡ Some l → is_some p ≡ true
    go None q = ap is_some q
    go (Some x) q = refl
