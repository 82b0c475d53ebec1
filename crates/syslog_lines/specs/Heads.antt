-- The parts of a line.
use Rattle.std.specs.Prelude.{◌≡◌, ℕ, List, take, drop, IfSome}
use Rattle.syslog_lines.specs.declared.head.Head as declared_head

-- the part is all of the line from some byte on
pub record IsEnd (line part : List ℕ) : Type 0 where
  pub at : ℕ
  pub is : part ≡ drop at line

-- the part is some bytes of the line that stand together
pub record IsPart (line part : List ℕ) : Type 0 where
  pub at : ℕ
  pub len : ℕ
  pub is : part ≡ take len (drop at line)

-- each text is a part of the line, and the message is all of it from some byte on
pub record IsHeadOf (line : List ℕ) (h : declared_head.Head) : Type 0 where
  pub time : IfSome h.time (λ t. IsPart line t.now)
  pub host : IfSome h.host (λ t. IsPart line t.now)
  pub app : IfSome h.app (λ t. IsPart line t.now)
  pub procid : IfSome h.procid (λ t. IsPart line t.now)
  pub msgid : IfSome h.msgid (λ t. IsPart line t.now)
  pub structured : IfSome h.data (λ t. IsPart line t.now)
  pub message : IsEnd line h.message.now
