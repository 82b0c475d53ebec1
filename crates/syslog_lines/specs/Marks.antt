-- The bytes of a mark.
use Rattle.std.specs.Prelude.{ℕ, Bool, List, [], ◌∷◌, ◌++◌, if◌then◌else◌}
use Rattle.std.specs.Int.{to_le_bytes, w64}
use Rattle.syslog_lines.specs.declared.mark.Mark as declared_mark

-- the line and the piece, each in eight bytes with the least first, and whether it is the last piece
abbrev pub bytes_of : declared_mark.Mark → List ℕ
bytes_of m = to_le_bytes w64 m.line ++ to_le_bytes w64 m.piece ++ (if m.is_last then 1 else 0) ∷ []
