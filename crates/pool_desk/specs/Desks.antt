-- What a contract sees of a desk.
use Rattle.std.specs.Prelude.{ℕ, List}
use Rattle.region_cut.specs.Carved.{Carved}
use Rattle.region_cut.specs.declared.profile.Profile.{Profile}
use Rattle.slot_chain.specs.Buffer.{Buffer}
use Rattle.digit_route.specs.Digits.{Scheme}
use Rattle.digit_route.specs.Profiles.{profile_of}
use Rattle.digit_route.specs.States.{PostingState}
use Rattle.pool_desk.specs.Homes.{AtHome}

-- a desk that a worker holds: its slots at home, the chunks that it ever claimed, and the others' buffers in its
-- cache, each in any order
pub record DeskState : Type 0 where
  pub number : ℕ
  pub digits : Scheme
  pub limit : ℕ
  pub worker : ℕ
  pub home : List AtHome
  pub drawn : List Carved
  pub cached : List Buffer

-- a desk that no worker holds: nothing is in its cache
pub record IdleState : Type 0 where
  pub number : ℕ
  pub digits : Scheme
  pub limit : ℕ
  pub home : List AtHome
  pub drawn : List Carved

-- a desk whose cache is being posted
pub record DeskPostingState : Type 0 where
  pub worker : ℕ
  pub home : List AtHome
  pub drawn : List Carved
  pub posting : PostingState

-- which classes the desk uses
abbrev pub profile_at : DeskState → Profile
profile_at d = profile_of d.digits.bits
