-- The first piece of a line, at the front of some bytes.
use Rattle.std.specs.Prelude.{◌≡◌, ◌≢◌, ℕ, ◌+◌, ◌≤◌, ◌<◌, List, length, take, slice_index, All, Bool, true, false, if◌then◌else◌}
use Rattle.syslog_lines.specs.declared.piece.Ending.{Ending}
use Rattle.syslog_lines.specs.declared.piece.Ending.TheVariants.{LineFeed, NextPiece, Nothing}
use Rattle.syslog_lines.specs.declared.piece.Piece as declared_piece

-- no byte is a line feed
abbrev pub HasNoLineFeed : List ℕ → Type 0
HasNoLineFeed bytes = All (λ b. b ≢ 10) bytes

-- what stands behind the first `len` bytes: a line feed; another byte, where the piece is at most three bytes shorter
-- than it may be; or nothing
abbrev pub IsFollowedBy : Ending → List ℕ → ℕ → ℕ → Type 0
IsFollowedBy LineFeed bytes most len = (len < length bytes) × (slice_index bytes len ≡ 10)
IsFollowedBy NextPiece bytes most len = (len < length bytes) × (most ≤ len + 3)
IsFollowedBy Nothing bytes most len = length bytes ≡ len

abbrev pub is_line_feed : Ending → Bool
is_line_feed LineFeed = true
is_line_feed _ = false

-- how many bytes a piece takes up, with its line feed
abbrev pub taken_of : declared_piece.Piece → ℕ
taken_of p = if is_line_feed p.ending then p.len + 1 else p.len

-- the first piece of these bytes, of at most so many
pub record IsFirstPiece (bytes : List ℕ) (most : ℕ) (p : declared_piece.Piece) : Type 0 where
  pub short : p.len ≤ most
  pub one_line : HasNoLineFeed (take p.len bytes)
  pub ending : IsFollowedBy p.ending bytes most p.len

-- no piece is there as a whole: there is no line feed, there are not too many bytes for one piece, and more may come
pub record IsNoPiece (bytes : List ℕ) (most : ℕ) : Type 0 where
  pub short : length bytes ≤ most
  pub one_line : HasNoLineFeed bytes
