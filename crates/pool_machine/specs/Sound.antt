-- What holds in every state that a run reaches, where each slot was passed on `count` times.
use Rattle.std.specs.Prelude.{◌≡◌, ◌≢◌, ⊤, ◌^◌, ℕ, ◌<◌, ◌≤◌, List, [], ◌∷◌, Option, Some, None, is_some, ◌⊎◌, All}
use Rattle.region_cut.specs.declared.slot.Slot.{Slot}
use Rattle.digit_route.specs.Digits.{IsScheme, common}
use Rattle.pool_machine.specs.declared.chunk.DrawnChunk.{DrawnChunk}
use Rattle.pool_machine.specs.State.{Place, InCache, InBatch, Waiting, State, owner_of, is_slot, digits_of}

-- the batch brings a slot of this owner, passed on so often, nearer to the owner
abbrev pub GoesNearer : State → ℕ → ℕ → Waiting → Type 0
GoesNearer st owner count w = (count ≤ common st.digits owner w.sender)
    × (common st.digits owner w.sender < common st.digits owner w.address)

-- The batch is well routed: it goes to another desk than its sender, which owns a slot of it, and brings each of its
-- slots nearer.
pub record IsRouted (st : State) (count : Slot → ℕ) (w : Waiting) : Type 0 where
  pub apart : w.sender ≢ w.address
  pub owned : (s : Slot) × (st.place s ≡ Some (InBatch w.number)) × (owner_of st s ≡ w.address)
  pub nearer : (s : Slot) → st.place s ≡ Some (InBatch w.number) → GoesNearer st (owner_of st s) (count s) w

-- What a user of the pool wants of a state: each slot of a drawn chunk has a place, and no other slot has one; each
-- waiting batch is well routed; and each slot was passed on fewer times than a number has digits.
pub record IsOrderly (st : State) (count : Slot → ℕ) : Type 0 where
  pub placed : (s : Slot) → is_some (st.place s) ≡ is_slot st s
  pub routed : All (IsRouted st count) st.waiting
  pub few : (s : Slot) → count s < digits_of st

-- ---- the same with what else each step keeps

-- the batch is one of these
abbrev pub Member : Waiting → List Waiting → Type 0
Member w [] = ⊥
Member w (v ∷ vs) = (w ≡ v) ⊎ Member w vs

-- a slot with this owner, passed on so often, may be in the cache, or in the batch
abbrev pub FitsIn : State → ℕ → ℕ → Place → Type 0
FitsIn st owner count (InCache a) = (a < st.desks) × (owner ≢ a) × (count ≤ common st.digits owner a)
FitsIn st owner count (InBatch n) =
    (n < st.next) × ((w : Waiting) × Member w st.waiting × (w.number ≡ n))
    × ((w : Waiting) → Member w st.waiting → w.number ≡ n → GoesNearer st owner count w)
FitsIn st owner count _ = ⊤

-- it may be at this place
abbrev pub Fits : State → ℕ → ℕ → Option Place → Type 0
Fits st owner count None = ⊤
Fits st owner count (Some p) = (owner < st.desks) × FitsIn st owner count p

-- the batch was numbered before, its address is another desk than its sender, and owns a slot of it
pub record FitsWaiting (st : State) (w : Waiting) : Type 0 where
  pub numbered : w.number < st.next
  pub a_desk : w.address < st.desks
  pub leaves : w.sender ≢ w.address
  pub reaches : (s : Slot) × (st.place s ≡ Some (InBatch w.number)) × (owner_of st s ≡ w.address)

-- the numbers rise along the list
abbrev pub Rising : List Waiting → Type 0
Rising [] = ⊤
Rising (w ∷ ws) = ((v : Waiting) → Member v ws → w.number < v.number) × Rising ws

-- What each step keeps. A user of the pool needs no more of it than that it is orderly, as `laws::sound_states` says.
pub record Sound (st : State) (count : Slot → ℕ) : Type 0 where
  pub desks_fit : st.desks ≤ 2 ^ st.digits.bits
  pub digits_fit : IsScheme st.digits
  pub chunks_fit : (k : ℕ) (d : DrawnChunk) → st.drawn k ≡ Some d → (k < st.chunks) × (d.owner < st.desks)
  pub placed : (s : Slot) → is_some (st.place s) ≡ is_slot st s
  pub fits : (s : Slot) → Fits st (owner_of st s) (count s) (st.place s)
  pub waits : (w : Waiting) → Member w st.waiting → FitsWaiting st w
  pub rising : Rising st.waiting
  pub few : (s : Slot) → count s < digits_of st
