-- One buffer of a batch after the other is handled.
use Rattle.std.specs.Prelude.{◌≡◌, ◌≢◌, ℕ, ◌+◌, ◌^◌, ◌<◌, List, ◌∷◌, length, IsPermutation}
use Rattle.slot_chain.specs.Buffer.{Buffer}
use Rattle.slot_chain.specs.Counts.{capped}
use Rattle.pool_desk.specs.declared.counts.Counts.{Counts}
use Rattle.digit_route.specs.Digits.{Scheme, common}
use Rattle.pool_desk.specs.Homes.{comes_home}
use Rattle.pool_desk.specs.Desks.{DeskState}
use Rattle.pool_desk.specs.Steps.{own, others, passed_on}

-- a buffer of a batch to a may go into a's cache, with one more forward
pub record IsPassed (s : Scheme) (a : ℕ) (b : Buffer) : Type 0 where
  pub in_range : b.owner < 2 ^ s.bits
  pub forwards : b.forwards < common s b.owner a

-- how many of the buffers are a's own, and how many are not, come to those that were counted before
pub record Adds (a : ℕ) (bs : List Buffer) (old new : Counts) : Type 0 where
  pub home : new.home ≡ capped (old.home + length (own a bs))
  pub on : new.on ≡ capped (old.on + length (others a bs))

-- an own buffer goes home, and nothing of it is filled there
pub record GoesHome (old : DeskState) (b : Buffer) (new : DeskState) : Type 0 where
  pub own : b.owner ≡ old.number
  pub same : new ≡ record old { home = new.home }
  pub home : IsPermutation (comes_home b ∷ old.home) new.home

-- another goes into the cache, with one more forward
pub record GoesOn (old : DeskState) (b : Buffer) (new : DeskState) : Type 0 where
  pub other : b.owner ≢ old.number
  pub same : new ≡ record old { cached = new.cached }
  pub cached : IsPermutation (passed_on b ∷ old.cached) new.cached
