-- How much is taken at a time.
use Rattle.std.specs.Prelude.{ℕ}

-- the most batches that a worker takes at a time
abbrev pub most_taken : ℕ
most_taken = 64

-- once it has handled so many buffers, it takes no further batch
abbrev pub most_handled : ℕ
most_handled = 1024
