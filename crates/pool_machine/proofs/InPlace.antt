-- The floor's lists after a request, and the numbers that replies tell of them.
use Rattle.std.proofs.Common.{◌≡◌, ℕ, Bool, true, false, ◌&&◌, ◌==◌, nat_lt, List, ◌∷◌, filter, sum_by, Option, Some, None, is_some, option_map, if◌then◌else◌, IsPermutation, refl, sym, ap, ◌∙◌}
use Rattle.std.proofs.lemmas.Bool.{false≢true}
use Rattle.std.proofs.lemmas.List.Sorted.{sum_by-IsPermutation}
use Rattle.region_cut.specs.declared.slot.Slot.{Slot}
use Rattle.region_cut.specs.Slots.{same_slot, times}
use Rattle.pool_machine.specs.Slots.{one_if}
use Rattle.pool_machine.specs.State.{State, Place, AtHome, OnLoan, InCache, InBatch, owner_of, slots, cached_bytes, same_place, is_at, class_of}
use Rattle.pool_machine.specs.Steps.{after_send}
use Rattle.pool_machine.specs.Sound.{Sound}
use Rattle.pool_machine.proofs.Located.{ListName, HomeOf, Loans, CacheOf, BatchOf, same_list, list_at, list_of, is_list}
use Rattle.pool_machine.proofs.Basics.{same_slot_eq}
use Rattle.pool_machine.proofs.Moves.{same_list_self, SomeMove, some_moved, one_moves}
use Rattle.pool_machine.proofs.Listed.{listed}
use Rattle.region_cut.specs.Classes.{size_of}
use Rattle.pool_machine.proofs.Words.{near, with_moved}

-- the lists are in place at this state
abbrev pub PlacedAs : (ListName → List Slot) → State → Type 0
PlacedAs lists st = (l : ListName) (s : Slot) → times s (lists l) ≡ one_if (is_list l (list_of st s))

-- ---- one slot moves

move_named : (st : State) (r : Slot) (q : Place) (l : ListName) → list_of st r ≡ Some l → (s : Slot) →
    list_of (with_moved r q st) s ≡ (if same_slot r s && is_list l (list_of st s) then Some (list_at (owner_of st r) q) else list_of st s)
move_named st r q l e s = go (same_slot r s) refl
  where
    some_named : (o : ℕ) (p : Option Place) → option_map (list_at o) p ≡ Some l →
        option_map (list_at o) (option_map (λ (old : Place). q) p) ≡ Some (list_at o q)
    some_named o None h = absurd (false≢true (ap is_some h))
    some_named o (Some p) h = refl

    same : (o : ℕ) (p : Option Place) → option_map (list_at o) (option_map (λ (old : Place). old) p) ≡ option_map (list_at o) p
    same o None = refl
    same o (Some p) = refl

    go : (b : Bool) → same_slot r s ≡ b →
        option_map (list_at (owner_of st s)) (option_map (λ old. if b then q else old) (st.place s))
        ≡ (if b && is_list l (list_of st s) then Some (list_at (owner_of st r) q) else list_of st s)
    go true g =
        let z = same_slot_eq r s g in
        let k : list_of st s ≡ Some l = ap (list_of st) (sym z) ∙ e in
        some_named (owner_of st s) (st.place s) k
        ∙ (ap (λ y. Some (list_at (owner_of st y) q)) (sym z)
        ∙ ap (λ (b : Bool). if b then Some (list_at (owner_of st r) q) else list_of st s) (sym (ap (is_list l) k ∙ same_list_self l)))
    go false g = same (owner_of st s) (st.place s)

-- an allocation or a free: one slot goes from its list to another
pub moved_in_place : (st : State) (before after : ListName → List Slot) (r : Slot) (q : Place) (l : ListName) →
    PlacedAs before st → list_of st r ≡ Some l → same_list l (list_at (owner_of st r) q) ≡ false →
    IsPermutation (r ∷ after l) (before l) → IsPermutation (r ∷ before (list_at (owner_of st r) q)) (after (list_at (owner_of st r) q)) →
    ((k : ListName) → same_list k l ≡ false → same_list k (list_at (owner_of st r) q) ≡ false → after k ≡ before k) →
    PlacedAs after (with_moved r q st)
moved_in_place st before after r q l h there apart out into rest =
    some_moved (λ k s. times s (before k)) (λ k s. times s (after k)) l (list_at (owner_of st r) q) (same_slot r) (list_of st)
    (one_moves before after l (list_at (owner_of st r) q) r (list_of st) h there apart out into rest) h
    (list_of (with_moved r q st)) (move_named st r q l there)

-- ---- a bucket is sent

send_named : (st : State) (a t : ℕ) (s : Slot) →
    list_of (after_send st a t) s
    ≡ (if nat_lt (near st a t) (near st (owner_of st s) t) && is_list (CacheOf a) (list_of st s) then Some (BatchOf st.next) else list_of st s)
send_named st a t s = go (owner_of st s) (st.place s) (nat_lt (near st a t) (near st (owner_of st s) t))
  where
    cached : (o d : ℕ) (x b : Bool) →
        option_map (list_at o) (Some (if x && b then InBatch st.next else InCache d)) ≡ (if b && x then Some (BatchOf st.next) else Some (CacheOf d))
    cached o d true true = refl
    cached o d true false = refl
    cached o d false true = refl
    cached o d false false = refl

    no : (b : Bool) (o : Option ListName) → o ≡ (if b && false then Some (BatchOf st.next) else o)
    no true o = refl
    no false o = refl

    go : (o : ℕ) (p : Option Place) (b : Bool) →
        option_map (list_at o) (option_map (λ old. if same_place (InCache a) p && b then InBatch st.next else old) p)
        ≡ (if b && is_list (CacheOf a) (option_map (list_at o) p) then Some (BatchOf st.next) else option_map (list_at o) p)
    go o None b = no b None
    go o (Some AtHome) b = no b (Some (HomeOf o))
    go o (Some OnLoan) b = no b (Some Loans)
    go o (Some (InCache d)) b = cached o d (a == d) b
    go o (Some (InBatch n)) b = no b (Some (BatchOf n))

-- a send: what goes from the cache is the new batch
pub sent_in_place : (st : State) (before after : ListName → List Slot) (a t : ℕ) →
    PlacedAs before st →
    SomeMove (λ k s. times s (before k)) (λ k s. times s (after k)) (CacheOf a) (BatchOf st.next)
    (λ s. nat_lt (near st a t) (near st (owner_of st s) t)) →
    PlacedAs after (after_send st a t)
sent_in_place st before after a t h m =
    some_moved (λ k s. times s (before k)) (λ k s. times s (after k)) (CacheOf a) (BatchOf st.next)
    (λ s. nat_lt (near st a t) (near st (owner_of st s) t)) (list_of st)
    m h (list_of (after_send st a t)) (send_named st a t)

-- ---- what replies tell of the lists

pub in_cache_is : (a o : ℕ) (p : Option Place) → is_list (CacheOf a) (option_map (list_at o) p) ≡ same_place (InCache a) p
in_cache_is a o None = refl
in_cache_is a o (Some AtHome) = refl
in_cache_is a o (Some OnLoan) = refl
in_cache_is a o (Some (InCache d)) = refl
in_cache_is a o (Some (InBatch n)) = refl

cached_some : (a : ℕ) (p : Option Place) → same_place (InCache a) p ≡ true → is_some p ≡ true
cached_some a None e = e
cached_some a (Some p) e = refl

pub cache_listed : (st : State) (c : Slot → ℕ) (lists : ListName → List Slot) (a : ℕ) → Sound st c → PlacedAs lists st →
    IsPermutation (lists (CacheOf a)) (filter (is_at st (InCache a)) (slots st))
cache_listed st c lists a h p = listed st c (is_at st (InCache a)) (lists (CacheOf a)) h
    (λ s e. sym (h.placed s) ∙ cached_some a (st.place s) e)
    (λ s. p (CacheOf a) s ∙ ap one_if (in_cache_is a (owner_of st s) (st.place s)))

-- the bytes in a cache are the sum over the cache's list
pub bytes_listed : (st : State) (c : Slot → ℕ) (lists : ListName → List Slot) (a : ℕ) → Sound st c → PlacedAs lists st →
    cached_bytes st a ≡ sum_by ((λ s. size_of (class_of st s))) (lists (CacheOf a))
bytes_listed st c lists a h p = sum_by-IsPermutation ((λ s. size_of (class_of st s))) (lists (CacheOf a)) (filter (is_at st (InCache a)) (slots st))
    (cache_listed st c lists a h p)
