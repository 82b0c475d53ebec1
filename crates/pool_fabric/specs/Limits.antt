-- Limits of what desks share.
use Rattle.std.specs.Prelude.{ℕ}

-- how many stations a shelf holds at most
abbrev pub shelf_room : ℕ
shelf_room = 64
