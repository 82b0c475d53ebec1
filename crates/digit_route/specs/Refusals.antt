-- The numbers of this crate's refusals.
use Rattle.std.specs.Prelude.{ℕ}
use Rattle.digit_route.specs.declared.error.RouteError.{RouteError}
use Rattle.digit_route.specs.declared.error.RouteError.TheVariants.{ToSelf, NothingFor, NotAnOwner}

-- a refusal is told by this number
abbrev pub refusal_number : RouteError → ℕ
refusal_number ToSelf = 1
refusal_number NothingFor = 2
refusal_number NotAnOwner = 3
