-- Which states a pool can come to.
use Rattle.std.specs.Prelude.{◌≡◌, ◌≤◌, ◌^◌, ℕ, List}
use Rattle.region_cut.specs.declared.slot.Slot.{Slot}
use Rattle.digit_route.specs.Digits.{IsScheme}
use Rattle.pool_machine.specs.declared.request.Request.{Request}
use Rattle.pool_machine.specs.State.{State, opening}
use Rattle.pool_machine.specs.Steps.{Answer, Run}
use Rattle.pool_machine.specs.Forwards.{forwards}

-- A run of a new pool leads to this state, and each slot was passed on so often since it was last freed. There are at
-- most as many desks as numbers.
pub record IsReached (st : State) (count : Slot → ℕ) : Type 0 where
  pub digits : IsScheme st.digits
  pub desks : st.desks ≤ 2 ^ st.digits.bits
  pub requests : List Request
  pub answers : List Answer
  pub run : Run (opening st.desks st.chunks st.digits st.limit) requests answers st
  pub counts : (s : Slot) → count s ≡ forwards (opening st.desks st.chunks st.digits st.limit) requests answers s 0
