-- The limits of a trace.
use Rattle.std.specs.Prelude.{ℕ}

-- the most bytes of a line, before its line feed
abbrev pub line_limit : ℕ
line_limit = 64

-- the bytes that tell a line that is too long
abbrev pub held_limit : ℕ
held_limit = 65

-- the most request lines: with its header a trace has at most 1,000,000 lines
abbrev pub request_limit : ℕ
request_limit = 999999
