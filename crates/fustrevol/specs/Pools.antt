-- What a contract sees of a pool before it runs.
use Rattle.std.specs.Prelude.{ℕ, min, max, List, Option}
use Rattle.digit_route.specs.Digits.{Scheme}
use Rattle.fustrevol.specs.declared.pool.InboxKind.{InboxKind}

-- the numbers of its chunks, and what was set: the limit of each cache in bytes, how numbers of allocators are read, and
-- the queue of each inbox
pub record PoolState : Type 0 where
  pub chunks : List ℕ
  pub limit : Option ℕ
  pub digits : Option Scheme
  pub inbox : InboxKind

-- how many allocators there are for so many tasks: one for each, at least one and at most 64
abbrev pub desks_for : ℕ → ℕ
desks_for tasks = min (max tasks 1) 64
