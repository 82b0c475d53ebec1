-- A floor with another desk, another table, or another inbox, is a floor.
use Rattle.std.proofs.Common.{◌≡◌, ◌≢◌, ℕ, zero, suc, ◌+◌, ◌*◌, ◌^◌, ◌<◌, ◌≤◌, Bool, List, [], ◌∷◌, ◌++◌, length, get_or, set, refl, sym, ◌∙◌, subst, add-one, arith, All, ⊎_elim, eqb, true, false}
use Rattle.std.specs.Prelude.{Option, Some, None, IfSome, replicate, if◌then◌else◌, nat_lt}
use Rattle.std.proofs.lemmas.Bool.Decides.{eqb_tells}
use Rattle.std.proofs.lemmas.List.{get_or-set_same, get_or-set_other, length-set, length-append, length-replicate, get_or_append_left, get_or_read, get_or-replicate}
use Rattle.std.proofs.lemmas.List.Elements.{All-nil}
use Rattle.std.proofs.Math.Seq.{get_or-append_seam}
use Rattle.region_cut.specs.declared.profile.Profile.{Profile}
use Rattle.region_cut.specs.declared.profile.Profile.TheVariants.{Pool, Pool2}
use Rattle.region_cut.specs.Classes.{bits_of, class_count, classes_of}
use Rattle.slot_chain.specs.Buffer.{Buffer}
use Rattle.digit_route.specs.Digits.{Scheme}
use Rattle.digit_route.specs.Profiles.{profile_of}
use Rattle.pool_desk.specs.Desks.{DeskState}
use Rattle.event_floor.specs.Desks.AnyDeskState.{Idle, Held}
use Rattle.event_floor.specs.Desks.{AnyDeskState, new_desk, new_desks, HasPlace}
use Rattle.event_floor.specs.Lent.{AreInPlace, lent_at, index_of}
use Rattle.event_floor.specs.Inboxes.{QueuedState, inbox_at}
use Rattle.event_floor.specs.Floors.{AreOwned, FitsFloor, IsDeskOf, IsQueuedAt, IsFloorOf, IsFloor, no_desk, last_number}

-- one of a list is another, and each other one stays
each_set : {X : Type 0} (P : ℕ → X → Type 0) (xs : List X) (n a : ℕ) (x d : X) → length xs ≡ n → a < n → P a x
    → ((b : ℕ) → b < n → P b (get_or xs b d)) → (b : ℕ) → b < n → P b (get_or (set xs a x) b d)
each_set P xs n a x d count l p each b m =
    ⊎_elim (λ (same : _ × (b ≡ a)). rw same.1 (rw (get_or-set_same xs a x d (omega (arith, l, count))) p))
    (λ (other : _ × (b ≢ a)). rw (get_or-set_other xs a b x d other.1) (each b m)) (eqb_tells b a)

-- where the number of desks is that of a list of them
pub floor_settled : {n : ℕ} {digits : Scheme} {limit chunks : ℕ} {desks : List AnyDeskState} {lent : List (Option Buffer)} {inboxes : List (List QueuedState)} {next : ℕ}
    → IsFloorOf n digits limit chunks desks lent inboxes next → IsFloor digits limit chunks desks lent inboxes next
floor_settled {n} {digits} {limit} {chunks} {desks} {lent} {inboxes} {next} f = subst (λ m. IsFloorOf m digits limit chunks desks lent inboxes next) (sym f.count) f

pub floor_desk : {n : ℕ} {digits : Scheme} {limit chunks : ℕ} {desks : List AnyDeskState} {lent : List (Option Buffer)} {inboxes : List (List QueuedState)} {next : ℕ} (a : ℕ) (s : AnyDeskState)
    → IsFloorOf n digits limit chunks desks lent inboxes next → a < n → IsDeskOf digits limit n chunks a s
    → IsFloorOf n digits limit chunks (set desks a s) lent inboxes next
floor_desk {n} {digits} {limit} {chunks} {desks} {lent} {inboxes} {next} a s f l h = record {
  count = length-set desks a s ∙ f.count;
  few = f.few;
  fewer = f.fewer;
  table = f.table;
  owned = f.owned;
  each_desk = each_set (λ b z. IsDeskOf digits limit n chunks b z) desks n a s no_desk f.count l h f.each_desk;
  inbox_count = f.inbox_count;
  queued = f.queued;
  next_low = f.next_low;
  next_high = f.next_high;
}

pub floor_lent : {n : ℕ} {digits : Scheme} {limit chunks : ℕ} {desks : List AnyDeskState} {lent : List (Option Buffer)} {inboxes : List (List QueuedState)} {next : ℕ} (lent' : List (Option Buffer))
    → IsFloorOf n digits limit chunks desks lent inboxes next → length lent' ≡ length lent → AreOwned n lent'
    → IsFloorOf n digits limit chunks desks lent' inboxes next
floor_lent lent' f e own = record {
  count = f.count;
  few = f.few;
  fewer = f.fewer;
  table = e ∙ f.table;
  owned = own;
  each_desk = f.each_desk;
  inbox_count = f.inbox_count;
  queued = f.queued;
  next_low = f.next_low;
  next_high = f.next_high;
}

pub floor_inbox : {n : ℕ} {digits : Scheme} {limit chunks : ℕ} {desks : List AnyDeskState} {lent : List (Option Buffer)} {inboxes : List (List QueuedState)} {next : ℕ} (b : ℕ) (ps : List QueuedState)
    → IsFloorOf n digits limit chunks desks lent inboxes next → b < n → All (IsQueuedAt digits n chunks next b) ps
    → IsFloorOf n digits limit chunks desks lent (set inboxes b ps) next
floor_inbox {n} {digits} {limit} {chunks} {desks} {lent} {inboxes} {next} b ps f l h = record {
  count = f.count;
  few = f.few;
  fewer = f.fewer;
  table = f.table;
  owned = f.owned;
  each_desk = f.each_desk;
  inbox_count = length-set inboxes b ps ∙ f.inbox_count;
  queued = each_set (λ b z. All (IsQueuedAt digits n chunks next b) z) inboxes n b ps [] f.inbox_count l h f.queued;
  next_low = f.next_low;
  next_high = f.next_high;
}

later : {digits : Scheme} {n chunks next b : ℕ} (p : QueuedState) → IsQueuedAt digits n chunks next b p → IsQueuedAt digits n chunks (next + 1) b p
later p h = record {
  numbered = (let l = h.numbered in omega (arith, l));
  address = h.address;
  sender = h.sender;
  digits_are = h.digits_are;
  known = h.known;
}

-- one more number was given
pub floor_next : {n : ℕ} {digits : Scheme} {limit chunks : ℕ} {desks : List AnyDeskState} {lent : List (Option Buffer)} {inboxes : List (List QueuedState)} {next : ℕ}
    → IsFloorOf n digits limit chunks desks lent inboxes next → next ≤ last_number
    → IsFloorOf n digits limit chunks desks lent inboxes (next + 1)
floor_next {n} {digits} {limit} {chunks} {desks} {lent} {inboxes} {next} f l = record {
  count = f.count;
  few = f.few;
  fewer = f.fewer;
  table = f.table;
  owned = f.owned;
  each_desk = f.each_desk;
  inbox_count = f.inbox_count;
  queued = λ b m k d i. later (get_or (inbox_at inboxes b) k d) (f.queued b m k d i);
  next_low = (let e = f.next_low in omega (arith, e));
  next_high = omega (arith, l);
}

-- the owners of the lent buffers, where one place of the table has another content
pub owned_set : (n place : ℕ) (lent : List (Option Buffer)) (o : Option Buffer) → AreOwned n lent → place < length lent
    → IfSome o (λ (b : Buffer). b.owner < n) → AreOwned n (set lent place o)
owned_set n place lent o own l here i =
    ⊎_elim (λ (same : _ × (i ≡ place)). rw same.1 (rw (get_or-set_same lent place o None l) here))
    (λ (other : _ × (i ≢ place)). rw (get_or-set_other lent place i o None other.1) (own i)) (eqb_tells i place)

none_at : (P : Buffer → Type 0) (count i : ℕ) → IfSome (get_or (replicate count None) i None) P
none_at P zero i = tt
none_at P (suc count) zero = tt
none_at P (suc count) (suc i) = none_at P count i

nothing_owned : (n count : ℕ) → AreOwned n (replicate count None)
nothing_owned n count i = none_at (λ (b : Buffer). b.owner < n) count i

pub nothing_placed : (count : ℕ) → AreInPlace (replicate count None)
nothing_placed count i = none_at (λ (b : Buffer). (index_of b.slot ≡ i) × (b.slot.index < 256)) count i

owner_of : (n : ℕ) (test : Bool) (o : Option Buffer) (b : Buffer) → IfSome o (λ (b : Buffer). b.owner < n) → (if test then o else None) ≡ Some b → b.owner < n
owner_of n true o b own is = subst (λ (z : Option Buffer). IfSome z (λ (b : Buffer). b.owner < n)) is own
owner_of n false o b own is = absurd (cc)

-- a lent buffer goes home to a desk
pub lent_owned : (n chunk index : ℕ) (lent : List (Option Buffer)) (b : Buffer) → AreOwned n lent → lent_at lent chunk index ≡ Some b → b.owner < n
lent_owned n chunk index lent b own is = owner_of n (nat_lt index 256) (get_or lent (256 * chunk + index) None) b (own (256 * chunk + index)) is

-- the place of a slot is in the table
pub place_within : (chunks chunk index n : ℕ) → chunk < chunks → index < 256 → n ≡ 256 * chunks → 256 * chunk + index < n
place_within chunks chunk index n l m e = omega (arith, l, m, e)

-- and the other way
pub chunk_within : (chunks chunk index n : ℕ) → 256 * chunk + index < n → n ≡ 256 * chunks → chunk < chunks
chunk_within chunks chunk index n l e = omega (arith, l, e)

-- what is known of a desk that was read
pub desk_read : (desks : List AnyDeskState) (a : ℕ) (x s : AnyDeskState) → a < length desks → x ≡ get_or desks a x → x ≡ s → get_or desks a no_desk ≡ s
desk_read desks a x s l read is = sym (get_or_read desks a x l read no_desk) ∙ is

pub desk_of_floor : {n : ℕ} {digits : Scheme} {limit chunks : ℕ} {desks : List AnyDeskState} {lent : List (Option Buffer)} {inboxes : List (List QueuedState)} {next : ℕ} (a : ℕ) (x : AnyDeskState)
    → IsFloorOf n digits limit chunks desks lent inboxes next → a < n → x ≡ get_or desks a x → IsDeskOf digits limit n chunks a x
desk_of_floor {n} {digits} {limit} {chunks} {desks} a x f l read =
    subst (λ z. IsDeskOf digits limit n chunks a z) (sym (get_or_read desks a x (let e = f.count in omega (arith, l, e)) read no_desk)) (f.each_desk a l)

pub held_desk_of : {n : ℕ} {digits : Scheme} {limit chunks : ℕ} {desks : List AnyDeskState} {lent : List (Option Buffer)} {inboxes : List (List QueuedState)} {next : ℕ} (a : ℕ) (d : DeskState)
    → IsFloorOf n digits limit chunks desks lent inboxes next → a < n → get_or desks a no_desk ≡ Held d → IsDeskOf digits limit n chunks a (Held d)
held_desk_of {n} {digits} {limit} {chunks} a d f l is = subst (λ z. IsDeskOf digits limit n chunks a z) is (f.each_desk a l)

-- the same of an inbox
pub inbox_read : (inboxes : List (List QueuedState)) (b : ℕ) (x : List QueuedState) → b < length inboxes → x ≡ get_or inboxes b x → inbox_at inboxes b ≡ x
inbox_read inboxes b x l read = sym (get_or_read inboxes b x l read [])

-- no profile has more than 20 classes, nor numbers of more than 12 bits
few_classes_of : (p : Profile) (class : ℕ) → class < classes_of p → class < class_count
few_classes_of Pool class l = omega (arith, l)
few_classes_of Pool2 class l = omega (arith, l)

pub few_classes : (digits : Scheme) (class : ℕ) → class < classes_of (profile_of digits.bits) → class < class_count
few_classes digits class l = few_classes_of (profile_of digits.bits) class l

few_numbers_of : (p : Profile) (n : ℕ) → n ≤ 2 ^ bits_of p → n ≤ 4096
few_numbers_of Pool n l = omega (arith, l)
few_numbers_of Pool2 n l = omega (arith, l)

pub few_numbers : (p : Profile) (bits n : ℕ) → bits_of p ≡ bits → n ≤ 2 ^ bits → n ≤ 4096
few_numbers p bits n e l = few_numbers_of p n (subst (λ z. n ≤ 2 ^ z) (sym e) l)

-- a new floor
pub new_desks_length : (digits : Scheme) (limit n : ℕ) → length (new_desks digits limit n) ≡ n
unfolding new_desks
new_desks_length digits limit zero = refl
new_desks_length digits limit (suc n) = let h = new_desks_length digits limit n in length-append (new_desks digits limit n) _ ∙ omega (arith, h)

pub idle_desks_more : (digits : Scheme) (limit n : ℕ) → new_desks digits limit n ++ Idle (new_desk digits limit n) ∷ [] ≡ new_desks digits limit (n + 1)
unfolding new_desks
idle_desks_more digits limit n = rw add-one refl

idle_desks_at : (digits : Scheme) (limit n a : ℕ) → a < n → get_or (new_desks digits limit n) a no_desk ≡ Idle (new_desk digits limit a)
unfolding new_desks
idle_desks_at digits limit zero a l = absurd (omega (arith, l))
idle_desks_at digits limit (suc n) a l =
    ⊎_elim (λ (same : (eqb a n ≡ true) × (a ≡ n)).
    rw same.1 (subst (λ z. get_or (new_desks digits limit n ++ Idle (new_desk digits limit n) ∷ []) z no_desk ≡ Idle (new_desk digits limit n)) (new_desks_length digits limit n) (get_or-append_seam (new_desks digits limit n) _ [] no_desk)))
    (λ (other : (eqb a n ≡ false) × (a ≢ n)). let ne = other.1 in
    get_or_append_left (new_desks digits limit n) _ no_desk a (rw (new_desks_length digits limit n) (omega (arith, l, ne))) ∙ idle_desks_at digits limit n a (omega (arith, l, ne))) (eqb_tells a n)

new_keeps : (digits : Scheme) (limit n chunks a : ℕ) → IsDeskOf digits limit n chunks a (Idle (new_desk digits limit a))
new_keeps digits limit n chunks a = record { numbered = (refl, refl, refl); placed = All-nil (HasPlace chunks); known = All-nil (FitsFloor n chunks) }

pub opening_is_floor : (digits : Scheme) (limit chunks n : ℕ) → n ≤ 2 ^ digits.bits → n ≤ 4096
    → IsFloorOf n digits limit chunks (new_desks digits limit n) (replicate (256 * chunks) None) (replicate n []) 1
opening_is_floor digits limit chunks n few fewer = record {
  count = new_desks_length digits limit n;
  few = few;
  fewer = fewer;
  table = length-replicate (256 * chunks) None;
  owned = nothing_owned n (256 * chunks);
  each_desk = λ a l. rw (idle_desks_at digits limit n a l) (new_keeps digits limit n chunks a);
  inbox_count = length-replicate {A = List QueuedState} n [];
  queued = λ b l. rw (get_or-replicate {A = List QueuedState} n b [] [] l) (All-nil (IsQueuedAt digits n chunks 1 b));
  next_low = omega arith;
  next_high = omega arith;
}
