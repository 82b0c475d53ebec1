-- What a lease owns.
use Rattle.std.specs.Prelude.{ℕ, List, [], ◌∷◌}
use Rattle.std.specs.Borrow.{MutBor}
use base.Fml.{Lft, Fml}
use mir.Syntax.{named, w64}
use mir.Val.{Val, vint, vstruct, vnil, vcons}
use denote.RawPtr.{Ptr, ptr_val}
use denote.Builtin.{u8}
use denote.Sharing.{beside, said, within}
use denote.Slice.{MutSlice, elements_shared, mut_slice_at}

-- the machine's word for a slice of n bytes at p
abbrev pub slice_word : Ptr → ℕ → Val
slice_word p n = vstruct (vcons (ptr_val p) (vcons (vint w64 n) vnil))

-- a `&mut` to a slice of bytes, as it is owned where this place and this count stand for it
abbrev pub lease_owns : Lft → Ptr → ℕ → MutBor (List ℕ) → Fml
lease_owns κ p n x = (MutSlice (named 0) κ u8).own_val x (slice_word p n ∷ [])

-- what a `&` to it holds: that these words stand for the slice, and its bytes, for the time of both
abbrev pub lease_lent : Lft → Ptr → ℕ → MutBor (List ℕ) → Lft → Fml
lease_lent κ p n x =
    beside (said (mut_slice_at u8 x (slice_word p n ∷ [])))
    (within κ (elements_shared u8 x.now x.ref_ptr.0 x.ref_ptr.1))
