-- The ranges of two slots share no byte.
use Rattle.std.proofs.Common.{◌≡◌, ◌≢◌, ℕ, suc, ◌+◌, ◌*◌, ◌/◌, ◌<◌, ◌≤◌, sym, subst, inl, inr, arith}
use Rattle.std.proofs.Math.Nat.{div-mul-le_self, mul-le-mul_right}
use Rattle.std.proofs.lemmas.Bool.{cases_order}
use Rattle.region_cut.specs.Limits.{chunk_size}
use Rattle.region_cut.specs.declared.slot.Slot.{Slot}
use Rattle.region_cut.specs.Classes.{size_of, slots_of}
use Rattle.region_cut.specs.Laws.{SlotsShareNoByte}
use Rattle.region_cut.specs.Ranges.{Covers}

fits : (i c : ℕ) → i < slots_of c → i * size_of c + size_of c ≤ chunk_size
fits i c below =
    let more : suc i * size_of c ≤ chunk_size / size_of c * size_of c = mul-le-mul_right (size_of c) below in
    let within_chunk : chunk_size / size_of c * size_of c ≤ chunk_size = div-mul-le_self chunk_size (size_of c) in
    omega (arith, more, within_chunk)

apart : (k l p q y b : ℕ) → k < l → p + y ≤ chunk_size → b < chunk_size * k + p + y → chunk_size * l + q ≤ b → ⊥
apart k l p q y b = λ before inside low high. omega arith

before : (k i j y b : ℕ) → i < j → b < chunk_size * k + i * y + y → chunk_size * k + j * y ≤ b → ⊥
before k i j y b = λ below low high. let more : suc i * y ≤ j * y = mul-le-mul_right y below in omega (arith, more)

beside : (k i j y b : ℕ) → i ≢ j → chunk_size * k + i * y ≤ b → b < chunk_size * k + i * y + y → chunk_size * k + j * y ≤ b → b < chunk_size * k + j * y + y → ⊥
beside k i j y b other from to from' to' = elim (cases_order i j) [
  | inl same ↦ other same
  | inr way ↦ elim way [ inl less ↦ before k i j y b less to from' | inr more ↦ before k j i y b more to' from ]
]

same_slot : (s t : Slot) → s.chunk ≡ t.chunk → s.index ≡ t.index → s ≡ t
same_slot s t p q = λ j. record { chunk = p j; index = q j }

pub share_none : SlotsShareNoByte
share_none s t c d other same_class s_in t_in byte in_s in_t = elim (cases_order s.chunk t.chunk) [
  | inl one ↦
      (let P : ℕ → Type 0 = λ e. Covers t e byte in
      let in_t' : Covers t c byte = subst P (sym (same_class one)) in_t in
      let Q : ℕ → Type 0 = λ k. (chunk_size * k + t.index * size_of c ≤ byte) × (byte < chunk_size * k + t.index * size_of c + size_of c) in
      let here : Q s.chunk = subst Q (sym one) in_t' in
      beside s.chunk s.index t.index (size_of c) byte (λ i. other (same_slot s t one i)) in_s.0 in_s.1 here.0 here.1)
  | inr way ↦ elim way [
    | inl less ↦ apart s.chunk t.chunk (s.index * size_of c) (t.index * size_of d) (size_of c) byte less (fits s.index c s_in) in_s.1 in_t.0
    | inr more ↦ apart t.chunk s.chunk (t.index * size_of d) (s.index * size_of c) (size_of d) byte more (fits t.index d t_in) in_t.1 in_s.0
  ]
]
