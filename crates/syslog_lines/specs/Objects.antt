-- The JSON object of a piece.
use Rattle.std.specs.Prelude.{◌≡◌, ◌↔◌, ℕ, ◌+◌, ◌/◌, ◌==◌, ◌&&◌, Bool, List, [], ◌++◌, Option, Some, None, codes, decimal, min, if◌then◌else◌, IsUtf8}
use Rattle.std.specs.Borrow.{Bor}
use Rattle.syslog_lines.specs.Heads.{IsHeadOf}
use Rattle.syslog_lines.specs.Priorities.{facility_of, keyword_of, severity_of}
use Rattle.syslog_lines.specs.Texts.{text_of}
use Rattle.syslog_lines.specs.declared.escape.Coding.{Coding}
use Rattle.syslog_lines.specs.declared.escape.Coding.TheVariants.{Text, Escaped}
use Rattle.syslog_lines.specs.declared.head.Head as declared_head
use Rattle.syslog_lines.specs.declared.mark.Mark as declared_mark
use Rattle.syslog_lines.specs.declared.priority.Priority as declared_priority

-- a member with a text, where there is one; `ahead` has its comma, its name and the quote before its text
abbrev pub member_of : List ℕ → Coding → Option (Bor (List ℕ)) → List ℕ
member_of ahead c None = []
member_of ahead c (Some t) = ahead ++ text_of c t.now ++ codes "\""

abbrev pub last_of : Bool → List ℕ
last_of b = if b then codes ",\"last\":true" else codes ",\"last\":false"

-- the line's number, and where the line is in pieces, the piece's, which counts from 1
abbrev pub place_of : declared_mark.Mark → List ℕ
place_of m = codes "{\"line\":" ++ decimal m.line
    ++ (if m.piece == 0 && m.is_last then []
    else codes ",\"piece\":" ++ decimal (min (m.piece + 1) 18446744073709551615) ++ last_of m.is_last)

abbrev pub escaped_of : Coding → List ℕ
escaped_of Text = []
escaped_of Escaped = codes ",\"escaped\":true"

-- a member with a keyword, which needs no escape
abbrev pub keyword_member : List ℕ → List ℕ → List ℕ
keyword_member ahead word = ahead ++ word ++ codes "\""

abbrev pub known_of : ℕ → List ℕ
known_of n = codes ",\"priority\":" ++ decimal n
    ++ keyword_member (codes ",\"facility\":\"") (facility_of (n / 8))
    ++ keyword_member (codes ",\"severity\":\"") (severity_of n)

abbrev pub priority_of : Option declared_priority.Priority → List ℕ
priority_of None = []
priority_of (Some p) = known_of p.0

-- the texts of a head, in this order
abbrev pub members_of : Coding → declared_head.Head → List ℕ
members_of c h = member_of (codes ",\"time\":\"") c h.time
    ++ member_of (codes ",\"host\":\"") c h.host
    ++ member_of (codes ",\"app\":\"") c h.app
    ++ member_of (codes ",\"procid\":\"") c h.procid
    ++ member_of (codes ",\"msgid\":\"") c h.msgid
    ++ member_of (codes ",\"data\":\"") c h.«data»
    ++ member_of (codes ",\"message\":\"") c (Some h.message)

-- the object of a piece, and a line feed
abbrev pub object_of : declared_mark.Mark → Coding → declared_head.Head → List ℕ
object_of m c h = place_of m ++ escaped_of c ++ priority_of h.priority ++ members_of c h ++ codes "}\n"

-- the text is the object of this piece with some head of it
pub record IsObjectOf (m : declared_mark.Mark) (piece text : List ℕ) : Type 0 where
  pub coding : Coding
  pub head : declared_head.Head
  pub is_text : (coding ≡ Text) ↔ IsUtf8 piece
  pub parts : IsHeadOf piece head
  pub is : text ≡ object_of m coding head
