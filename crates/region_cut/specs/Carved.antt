-- Chunks whose slots were given out one by one.
use Rattle.std.specs.Prelude.{ℕ, List, [], ◌∷◌}
use Rattle.std.specs.Borrow.{Fml, GName}
use base.Fml.{ftrue, fsep}
use Rattle.region_cut.specs.Joins.{ends_as}
use Rattle.region_cut.specs.Bumps.{part_of, pieces_of}
use Rattle.region_cut.specs.declared.part.Bump.{Bump}

-- a chunk that was drawn for a class: the name of its part, those of the slots that were given, in order, and the
-- bytes that are left behind them
pub record Carved : Type 0 where
  pub chunk : ℕ
  pub class : ℕ
  pub whole : GName
  pub taken : List GName
  pub rest : List ℕ

-- the chunk of a cursor
abbrev pub carved_of : Bump → Carved
carved_of b =
    record { chunk = b.chunk; class = b.class; whole = part_of b; taken = pieces_of b; rest = b.front.rest.now }

-- Each part ends as what the slots taken of it end as, in order, and then what is left of it.
unfoldable pub all_joined : List Carved → Fml
all_joined [] = ftrue
all_joined (c ∷ cs) = fsep (ends_as c.whole c.taken c.rest) (all_joined cs)
