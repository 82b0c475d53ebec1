-- What was read and belongs to no line so far.
use Rattle.std.specs.Prelude.{ℕ, List}

pub record HeldBytes : Type 0 where
  pub items : List ℕ
