-- The limits of caches and of digits.
use Rattle.std.specs.Prelude.{ℕ}

-- the greatest limit of a cache: a mebibyte
abbrev pub largest_limit : ℕ
largest_limit = 1048576

-- the most bits of a digit
abbrev pub width_limit : ℕ
width_limit = 6
