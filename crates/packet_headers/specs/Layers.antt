-- Where headers stand in a layer, and what lies behind them.
use Rattle.std.specs.Prelude.{ℕ, ◌≡◌, ◌+◌, ◌*◌, ◌<◌, ◌≤◌, List, length, take, drop, slice_index, Result, Err}
use Rattle.packet_headers.specs.declared.layer.Layer.{Layer}
use Rattle.packet_headers.specs.declared.layer.Fault.{Fault}
use Rattle.packet_headers.specs.declared.layer.Fault.TheVariants.{Cut, Short}

-- a number of 16 bits in network order
abbrev pub word_at : List ℕ → ℕ → ℕ
word_at bytes at = 256 * slice_index bytes at + slice_index bytes (at + 1)

-- what lies behind the first count bytes of the layer, which were captured
pub record IsBehind (count : ℕ) (layer rest : Layer) : Type 0 where
  pub captured : count ≤ length layer.bytes.now
  pub bytes : rest.bytes.now ≡ drop count layer.bytes.now
  pub size : count + rest.size ≡ layer.size

-- the first size bytes of the layer
pub record IsFront (size : ℕ) (layer front : Layer) : Type 0 where
  pub bytes : front.bytes.now ≡ take size layer.bytes.now
  pub whole : front.size ≡ size

-- why the first count bytes of the layer can't be read: the packet has them, or it doesn't
abbrev pub IsUnread : ℕ → Layer → Fault → Type 0
IsUnread count layer Cut = (length layer.bytes.now < count) × (count ≤ layer.size)
IsUnread count layer Short = layer.size < count
IsUnread count layer _ = ⊥

-- a header that is said to be cut is one of a layer that wasn't captured whole
abbrev pub IsCutIfSaid : Layer → Result Unit Fault → Type 0
IsCutIfSaid layer result = result ≡ Err Cut → length layer.bytes.now < layer.size
