-- What headers say, by the places of their fields, and why they can't be read.
use Rattle.std.specs.Prelude.{ℕ, ◌≡◌, ◌≢◌, ◌+◌, ◌*◌, ◌/◌, ◌%◌, ◌<◌, ◌≤◌, ◌⊎◌, Bool, true, List, [], ◌∷◌, length, take, drop, slice_index, Option, Some, None, IsTrue, ◌↔◌}
use Rattle.std.specs.Net.Addr.{ipv4_octets, ipv6_segments}
use Rattle.packet_headers.specs.Layers.{IsBehind, IsUnread, word_at}
use Rattle.packet_headers.specs.declared.layer.Layer.{Layer}
use Rattle.packet_headers.specs.declared.layer.Fault.{Fault}
use Rattle.packet_headers.specs.declared.layer.Fault.TheVariants.{Version, HeaderLength, Length}
use Rattle.packet_headers.specs.declared.arp.Arp.{Arp}
use Rattle.packet_headers.specs.declared.ipv4.Ipv4.{Ipv4}
use Rattle.packet_headers.specs.declared.ipv6.Ipv6.{Ipv6}
use Rattle.packet_headers.specs.declared.ipv6.Extension.{Extension}
use Rattle.packet_headers.specs.declared.ipv6.ExtensionKind.{ExtensionKind}
use Rattle.packet_headers.specs.declared.ipv6.ExtensionKind.TheVariants.{Fragment, Authentication, Other}
use Rattle.packet_headers.specs.declared.ipv6.Place.{Place}
use Rattle.packet_headers.specs.declared.flow.Ports.{Ports}

-- four bytes
abbrev pub octets_at : List ℕ → ℕ → List ℕ
octets_at bytes at = slice_index bytes at ∷ slice_index bytes (at + 1) ∷ slice_index bytes (at + 2)
    ∷ slice_index bytes (at + 3) ∷ []

-- eight numbers of 16 bits
abbrev pub segments_at : List ℕ → ℕ → List ℕ
segments_at bytes at = word_at bytes at ∷ word_at bytes (at + 2) ∷ word_at bytes (at + 4) ∷ word_at bytes (at + 6)
    ∷ word_at bytes (at + 8) ∷ word_at bytes (at + 10) ∷ word_at bytes (at + 12) ∷ word_at bytes (at + 14) ∷ []

-- what lies between the header and the size that the header gives for all
pub record IsBetween (header size : ℕ) (layer payload : Layer) : Type 0 where
  pub captured : header ≤ length layer.bytes.now
  pub fits : size ≤ layer.size
  pub bytes : payload.bytes.now ≡ drop header (take size layer.bytes.now)
  pub rest : header + payload.size ≡ size

-- RFC 826
abbrev pub arp_size : List ℕ → ℕ
arp_size bytes = 8 + 2 * slice_index bytes 4 + 2 * slice_index bytes 5

pub record IsArp (layer : Layer) (h : Arp) : Type 0 where
  pub captured : arp_size layer.bytes.now ≤ length layer.bytes.now
  pub hardware : h.hardware ≡ word_at layer.bytes.now 0
  pub protocol : h.protocol ≡ word_at layer.bytes.now 2
  pub operation : h.operation ≡ word_at layer.bytes.now 6

abbrev pub IsArpFault : Layer → Fault → Type 0
IsArpFault layer fault = IsUnread 8 layer fault ⊎ IsUnread (arp_size layer.bytes.now) layer fault

-- RFC 791: the header's length in units of four bytes
abbrev pub ipv4_header : List ℕ → ℕ
ipv4_header bytes = 4 * (slice_index bytes 0 % 16)

-- the length of all; 0 stands for all that there is
abbrev pub IsIpv4Size : Layer → ℕ → Type 0
IsIpv4Size layer size = ((word_at layer.bytes.now 2 ≡ 0) × (size ≡ layer.size))
    ⊎ ((word_at layer.bytes.now 2 ≢ 0) × (size ≡ word_at layer.bytes.now 2))

pub record IsIpv4 (layer : Layer) (h : Ipv4) : Type 0 where
  pub version : slice_index layer.bytes.now 0 / 16 ≡ 4
  pub header : 20 ≤ ipv4_header layer.bytes.now
  pub protocol : h.protocol ≡ slice_index layer.bytes.now 9
  pub source : ipv4_octets h.source ≡ octets_at layer.bytes.now 12
  pub destination : ipv4_octets h.destination ≡ octets_at layer.bytes.now 16
  pub offset : h.offset ≡ word_at layer.bytes.now 6 % 8192
  pub has_more : IsTrue h.has_more ↔ (word_at layer.bytes.now 6 / 8192 % 2 ≡ 1)
  pub payload : (size : ℕ) × IsIpv4Size layer size × IsBetween (ipv4_header layer.bytes.now) size layer h.payload

abbrev pub IsIpv4Fault : Layer → Fault → Type 0
IsIpv4Fault layer Version = slice_index layer.bytes.now 0 / 16 ≢ 4
IsIpv4Fault layer HeaderLength = ipv4_header layer.bytes.now < 20
IsIpv4Fault layer Length = (size : ℕ) × IsIpv4Size layer size
    × ((size < ipv4_header layer.bytes.now) ⊎ (layer.size < size))
IsIpv4Fault layer fault = IsUnread 20 layer fault ⊎ IsUnread (ipv4_header layer.bytes.now) layer fault

-- RFC 8200: the length is that of what lies behind the header
pub record IsIpv6 (layer : Layer) (h : Ipv6) : Type 0 where
  pub version : slice_index layer.bytes.now 0 / 16 ≡ 6
  pub next : h.next ≡ slice_index layer.bytes.now 6
  pub source : ipv6_segments h.source ≡ segments_at layer.bytes.now 8
  pub destination : ipv6_segments h.destination ≡ segments_at layer.bytes.now 24
  pub payload : IsBetween 40 (40 + word_at layer.bytes.now 4) layer h.payload

abbrev pub IsIpv6Fault : Layer → Fault → Type 0
IsIpv6Fault layer Version = slice_index layer.bytes.now 0 / 16 ≢ 6
IsIpv6Fault layer Length = layer.size < 40 + word_at layer.bytes.now 4
IsIpv6Fault layer fault = IsUnread 40 layer fault

-- a fragment's has eight bytes; authentication counts units of four bytes (RFC 4302), the others units of eight
abbrev pub extension_size : ExtensionKind → ℕ → ℕ
extension_size Fragment count = 8
extension_size Authentication count = 4 * (count + 2)
extension_size Other count = 8 * (count + 1)

-- a fragment's place stands in 13 bits, and in the last bit whether more follow
abbrev pub IsPlace : ExtensionKind → ℕ → Option Place → Type 0
IsPlace Fragment word None = ⊥
IsPlace Fragment word (Some p) = (p.offset ≡ word / 8) × (IsTrue p.has_more ↔ (word % 2 ≡ 1))
IsPlace Authentication word place = place ≡ None
IsPlace Other word place = place ≡ None

pub record IsExtension (kind : ExtensionKind) (layer : Layer) (h : Extension) : Type 0 where
  pub next : h.next ≡ slice_index layer.bytes.now 0
  pub place : IsPlace kind (word_at layer.bytes.now 2) h.place
  pub payload : IsBehind (extension_size kind (slice_index layer.bytes.now 1)) layer h.payload

abbrev pub IsExtensionFault : ExtensionKind → Layer → Fault → Type 0
IsExtensionFault kind layer fault = IsUnread 8 layer fault
    ⊎ IsUnread (extension_size kind (slice_index layer.bytes.now 1)) layer fault

-- TCP and UDP begin with two ports
pub record ArePorts (layer : Layer) (p : Ports) : Type 0 where
  pub source : p.source ≡ word_at layer.bytes.now 0
  pub destination : p.destination ≡ word_at layer.bytes.now 2

-- RFC 9293: the header's length in units of four bytes
abbrev pub tcp_header : List ℕ → ℕ
tcp_header bytes = 4 * (slice_index bytes 12 / 16)

abbrev pub IsTcpFault : Layer → Fault → Type 0
IsTcpFault layer HeaderLength = tcp_header layer.bytes.now < 20
IsTcpFault layer fault = IsUnread 20 layer fault ⊎ IsUnread (tcp_header layer.bytes.now) layer fault

abbrev pub IsUdpFault : Layer → Bool → Fault → Type 0
IsUdpFault layer is_whole Length = (word_at layer.bytes.now 4 < 8)
    ⊎ ((is_whole ≡ true) × (layer.size < word_at layer.bytes.now 4))
IsUdpFault layer is_whole fault = IsUnread 8 layer fault
