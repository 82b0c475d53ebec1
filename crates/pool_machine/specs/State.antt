-- The state of the machine: a pool as it is seen from outside, whatever lists and tables keep it.
use Rattle.std.specs.Prelude.{ℕ, Bool, true, false, ◌&&◌, ◌==◌, nat_lt, nat_le, List, [], map, filter, flat_map, sum_by}
use Rattle.std.specs.Prelude.{take, Option, Some, None}
use Rattle.std.specs.List.{list_any, range_with_len, position_or_len}
use Rattle.std.specs.Option.{option_map_or}
use Rattle.region_cut.specs.declared.profile.Profile.{Profile}
use Rattle.region_cut.specs.declared.slot.Slot.{Slot}
use Rattle.region_cut.specs.Classes.{class_sizes, size_of, slots_of, classes_of}
use Rattle.digit_route.specs.Digits.{Scheme, count, common}
use Rattle.digit_route.specs.Profiles.{profile_of}
use Rattle.pool_machine.specs.declared.chunk.DrawnChunk.{DrawnChunk}
use Rattle.pool_machine.specs.Slots.{is_drawn_slot}

-- where a slot is: at home with its owner, lent out, in a desk's cache, or in a batch
pub data Place : Type 0 where
  AtHome : Place
  OnLoan : Place
  InCache : (desk : ℕ) → Place
  InBatch : (number : ℕ) → Place

-- a batch that waits in the inbox of its address
pub record Waiting : Type 0 where
  pub number : ℕ
  pub sender : ℕ
  pub address : ℕ
  pub linked : Bool

-- a pool between two requests
pub record State : Type 0 where
  -- how many desks and chunks there are
  pub desks : ℕ
  pub chunks : ℕ
  -- how the numbers of desks are read
  pub digits : Scheme
  -- the bytes above which a cache is due
  pub limit : ℕ
  -- each chunk's owner and class, where it is drawn
  pub drawn : ℕ → Option DrawnChunk
  -- each desk's worker, where it is held
  pub holder : ℕ → Option ℕ
  -- each slot's place, where its chunk is drawn
  pub place : Slot → Option Place
  -- the number of the next batch
  pub next : ℕ
  -- the batches not yet taken, in order of number
  pub waiting : List Waiting

-- how every pool begins: nothing is drawn, every desk is idle, there is no batch
abbrev pub opening : (desks chunks : ℕ) → Scheme → (limit : ℕ) → State
opening desks chunks digits limit = record {
  desks = desks;
  chunks = chunks;
  digits = digits;
  limit = limit;
  drawn = λ k. None;
  holder = λ a. None;
  place = λ s. None;
  next = 1;
  waiting = [];
}

-- ---- classes

-- the classes that it uses follow from how many bits the number of a desk has
abbrev pub profile_at : State → Profile
profile_at st = profile_of st.digits.bits

-- the least class of the profile that holds n bytes; the number of its classes where none does
abbrev pub least_class : Profile → ℕ → ℕ
least_class p n = position_or_len (λ size. nat_le n size) (take (classes_of p) class_sizes)

-- ---- slots

-- the owner and the class of a slot are those of its chunk, 0 where that isn't drawn
abbrev pub owner_of : State → Slot → ℕ
owner_of st s = option_map_or (λ (d : DrawnChunk). d.owner) (st.drawn s.chunk) 0

abbrev pub class_of : State → Slot → ℕ
class_of st s = option_map_or (λ (d : DrawnChunk). d.class) (st.drawn s.chunk) 0

-- the slot is one of a drawn chunk
abbrev pub is_slot : State → Slot → Bool
is_slot st s = is_drawn_slot st.drawn s

-- the slots of a chunk, none where it isn't drawn
abbrev pub slots_of_chunk : ℕ → Option DrawnChunk → List Slot
slots_of_chunk k None = []
slots_of_chunk k (Some d) = map (λ i. record { chunk = k; index = i }) (range_with_len 0 (slots_of d.class))

-- the slots of all drawn chunks
abbrev pub slots : State → List Slot
slots st = flat_map (λ k. slots_of_chunk k (st.drawn k)) (range_with_len 0 st.chunks)

-- ---- places

-- the place is there, and is this one
abbrev pub same_place : Place → Option Place → Bool
same_place AtHome (Some AtHome) = true
same_place OnLoan (Some OnLoan) = true
same_place (InCache a) (Some (InCache b)) = a == b
same_place (InBatch n) (Some (InBatch m)) = n == m
same_place p _ = false

-- the slot is at this place
abbrev pub is_at : State → Place → Slot → Bool
is_at st p s = same_place p (st.place s)

-- the slots that are there
abbrev pub slots_at : State → Place → List Slot
slots_at st p = filter (is_at st p) (slots st)

-- the slot is at home with this desk, in this class
abbrev pub home_with : State → ℕ → ℕ → Slot → Bool
home_with st a c s = is_at st AtHome s && ((owner_of st s == a) && (class_of st s == c))

-- some slot is
abbrev pub has_home : State → ℕ → ℕ → Bool
has_home st a c = list_any (home_with st a c) (slots st)

-- ---- caches, buckets and batches

-- how many digits a number has
abbrev pub digits_of : State → ℕ
digits_of st = count st.digits

-- the slot is in the cache of a, and its owner shares more digits with t than a does
abbrev pub in_bucket : State → ℕ → ℕ → Slot → Bool
in_bucket st a t s = is_at st (InCache a) s && nat_lt (common st.digits a t) (common st.digits (owner_of st s) t)

-- the slots that a sends to t
abbrev pub bucket : State → ℕ → ℕ → List Slot
bucket st a t = filter (in_bucket st a t) (slots st)

-- the bytes in the cache of a: each slot has the size of its class
abbrev pub cached_bytes : State → ℕ → ℕ
cached_bytes st a = sum_by (λ s. size_of (class_of st s)) (slots_at st (InCache a))

-- the batches that wait for desk b, the front first
abbrev pub inbox : State → ℕ → List Waiting
inbox st b = filter (λ w. b == w.address) st.waiting
