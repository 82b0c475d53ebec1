-- The lines that the subcommand `classes` prints.
use Rattle.std.specs.Prelude.{ℕ, ◌%◌, zero, suc, List, [], ◌∷◌, ◌++◌, decimal}
use Rattle.region_cut.specs.Classes.{size_of, slots_of}
use Rattle.region_cut.specs.Limits.{chunk_size}

-- number, size, slots of a chunk and bytes left over; 32 is a space, 10 the line feed
abbrev pub class_line : ℕ → List ℕ
class_line k = decimal k ++ 32 ∷ (decimal (size_of k) ++ 32 ∷ (decimal (slots_of k)
    ++ 32 ∷ (decimal (chunk_size % size_of k) ++ 10 ∷ [])))

-- the lines of the first n classes
abbrev pub class_lines : ℕ → List ℕ
class_lines zero = []
class_lines (suc n) = class_lines n ++ class_line n
