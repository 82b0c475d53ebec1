-- What a capture file says: its header, and the header of each packet (draft-ietf-opsawg-pcap).
use Rattle.std.specs.Prelude.{ℕ, ◌≡◌, ◌≢◌, ◌+◌, ◌*◌, ◌%◌, ◌<◌, ◌≤◌, List, slice_index}
use Rattle.packet_headers.specs.declared.pcap.ByteOrder.{ByteOrder}
use Rattle.packet_headers.specs.declared.pcap.ByteOrder.TheVariants.{Big, Little}
use Rattle.packet_headers.specs.declared.pcap.Precision.{Precision}
use Rattle.packet_headers.specs.declared.pcap.Precision.TheVariants.{Microseconds, Nanoseconds}
use Rattle.packet_headers.specs.declared.pcap.FileHeader.{FileHeader}
use Rattle.packet_headers.specs.declared.pcap.FileError.{FileError}
use Rattle.packet_headers.specs.declared.pcap.FileError.TheVariants.{Magic, NextGeneration, Version}
use Rattle.packet_headers.specs.declared.pcap.RecordHeader.{RecordHeader}
use Rattle.packet_headers.specs.declared.pcap.RecordError.{RecordError}
use Rattle.packet_headers.specs.declared.pcap.RecordError.TheVariants.{TooLong, MoreThanAll}

-- a number of 16 bits
abbrev pub short_at : ByteOrder → List ℕ → ℕ → ℕ
short_at Big bytes at = 256 * slice_index bytes at + slice_index bytes (at + 1)
short_at Little bytes at = 256 * slice_index bytes (at + 1) + slice_index bytes at

-- a number of 32 bits
abbrev pub long_at : ByteOrder → List ℕ → ℕ → ℕ
long_at Big bytes at = 16777216 * slice_index bytes at + 65536 * slice_index bytes (at + 1)
    + 256 * slice_index bytes (at + 2) + slice_index bytes (at + 3)
long_at Little bytes at = 16777216 * slice_index bytes (at + 3) + 65536 * slice_index bytes (at + 2)
    + 256 * slice_index bytes (at + 1) + slice_index bytes at

-- the file's first number, in its own order
abbrev pub magic_of : Precision → ℕ
magic_of Microseconds = 0xa1b2c3d4
magic_of Nanoseconds = 0xa1b23c4d

abbrev pub IsNoMagic : ℕ → Type 0
IsNoMagic number = (p : Precision) → number ≢ magic_of p

-- no order makes a capture file of it
abbrev pub HasNoMagic : List ℕ → Type 0
HasNoMagic bytes = (order : ByteOrder) → IsNoMagic (long_at order bytes 0)

-- what the header of a file says
pub record IsFileHeader (bytes : List ℕ) (h : FileHeader) : Type 0 where
  pub magic : long_at h.order bytes 0 ≡ magic_of h.precision
  pub version : short_at h.order bytes 4 ≡ 2
  pub snap_length : h.snap_length ≡ long_at h.order bytes 16
  pub link : h.link ≡ long_at h.order bytes 20 % 65536

-- why it is none
abbrev pub IsFileError : List ℕ → FileError → Type 0
IsFileError bytes Version = (order : ByteOrder) × (p : Precision)
    × (long_at order bytes 0 ≡ magic_of p) × (short_at order bytes 4 ≢ 2)
IsFileError bytes Magic = HasNoMagic bytes
IsFileError bytes NextGeneration = HasNoMagic bytes

-- what the header of a packet says
pub record IsRecordHeader (order : ByteOrder) (bytes : List ℕ) (h : RecordHeader) : Type 0 where
  pub seconds : h.seconds ≡ long_at order bytes 0
  pub fraction : h.fraction ≡ long_at order bytes 4
  pub captured : h.captured ≡ long_at order bytes 8
  pub size : h.size ≡ long_at order bytes 12
  pub possible : h.captured ≤ h.size
  pub few : h.captured ≤ 262144

-- why there is none
abbrev pub IsRecordError : ByteOrder → List ℕ → RecordError → Type 0
IsRecordError order bytes (TooLong captured) = (captured ≡ long_at order bytes 8) × (262144 < captured)
IsRecordError order bytes (MoreThanAll captured size) =
    (captured ≡ long_at order bytes 8) × (size ≡ long_at order bytes 12) × (size < captured)
