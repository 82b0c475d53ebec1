-- The limits of an inbox.
use Rattle.std.specs.Prelude.{ℕ}

-- the most senders of an inbox
abbrev pub sender_limit : ℕ
sender_limit = 64
