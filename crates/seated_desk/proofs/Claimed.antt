-- The notes of a desk's chunks through its calls, and those of all stations together.
use Rattle.std.proofs.Common.{◌≡◌, ◌≢◌, ◌<◌, ◌+◌, ◌==◌, ◌&&◌, ℕ, Bool, true, false, zero, suc, cond, List, [], ◌∷◌, ◌++◌, Option, Some, None, length, get_or, map, take, refl, sym, ap, ap₂, ◌∙◌, subst, append_assoc, append-nil, arith, eq-eqb, ne_eqb}
use Rattle.std.specs.List.{sum_by}
use Rattle.std.proofs.lemmas.List.Sorted.{sum_by_pushed, sum_by_popped}
use Rattle.std.proofs.lemmas.List.Sums.{sum_by-append}
use mathlib.Core.Logic.{dite}
use native.Mathlib.Decide.{ℕ_discrete, dec_lt}
use Rattle.region_cut.specs.Carved.{Carved}
use Rattle.region_cut.specs.declared.part.Part.{Part}
use Rattle.slot_chain.specs.Buffer.{Buffer}
use Rattle.slot_audit.specs.Audit.{class_noted}
use Rattle.chunk_stock.specs.Notes.{AddsNotes, NotesAt, NotesNone}
use Rattle.pool_desk.specs.Homes.{AtHome, Draws, Names, taken_next}
use Rattle.pool_desk.specs.Homes.AtHome.{Kept, Fresh}
use Rattle.seated_desk.specs.Claims.{AreNoted, IsClaimed, is_claim}
use Rattle.seated_desk.specs.Settled.{AreSettled, claimed, desk_of}
use Rattle.seated_desk.specs.declared.station.Station.{Station}

none_some : {o : Option ℕ} {n : ℕ} → o ≡ None → o ≡ Some n → ⊥
none_some {o} {n} p q = let e : Some n ≡ None = sym q ∙ p in cc

-- the same claims, in any form in which each chunk and class is claimed as often
as_often : (notes : List (Option ℕ)) (old new : List Carved) → ((chunk class : ℕ) → sum_by (λ c. cond (is_claim chunk class c) 1 0) new ≡ sum_by (λ c. cond (is_claim chunk class c) 1 0) old)
    → AreNoted notes old → AreNoted notes new
as_often notes old new same n = (
  λ chunk class at. subst (λ k. 0 < k) (sym (same chunk class)) (n.0 chunk class at),
  λ chunk class h. n.1 chunk class (subst (λ k. 0 < k) (same chunk class) h),
)

-- the claims stay
pub noted_same : (notes : List (Option ℕ)) (old new : List Carved) → new ≡ old → AreNoted notes old → AreNoted notes new
noted_same notes old new e n = subst (λ cs. AreNoted notes cs) (sym e) n

-- the notes stay
pub notes_same : (old new : List (Option ℕ)) (claims : List Carved) → new ≡ old → AreNoted old claims → AreNoted new claims
notes_same old new claims e n = subst (λ ns. AreNoted ns claims) (sym e) n

-- a slot was given out
pub noted_given : (notes : List (Option ℕ)) (from : AtHome) (b : Buffer) (old new : List Carved) → Names from b old new → AreNoted notes old → AreNoted notes new
noted_given notes (Kept a) b old new e n = noted_same notes old new e n
noted_given notes (Fresh u) b old new t n = as_often notes old new (λ chunk class.
    let f : Carved → ℕ = λ c. cond (is_claim chunk class c) 1 0 in
    sym (sum_by_popped f (taken_next t.from b.bytes.ghost_name t.rest) new t.others t.after) ∙ sum_by_popped f t.from old t.others t.before) n

-- nothing was claimed, and nothing is noted
pub noted_none : (notes : List (Option ℕ)) (claims : List Carved) → NotesNone notes → claims ≡ [] → AreNoted notes claims
noted_none notes claims none e = subst (λ cs. AreNoted notes cs) (sym e) (
  λ chunk class at. absurd (none_some (none chunk) at),
  λ chunk class h. absurd (omega arith),
)

-- a claim of the chunk for the class weighs 1, and of another chunk nothing
abbrev weight : ℕ → ℕ → Carved → ℕ
weight chunk class c = cond (is_claim chunk class c) 1 0

weighs : (c : Carved) (chunk class : ℕ) → c.chunk ≡ chunk → c.class ≡ class → weight chunk class c ≡ 1
weighs c chunk class p q =
    let b : is_claim chunk class c ≡ true = ap₂ (λ x y. x && y) (eq-eqb c.chunk chunk p) (eq-eqb c.class class q) in
    ap (λ (x : Bool). let n : ℕ = cond x 1 0 in n) b

weighs_not : (c : Carved) (chunk class : ℕ) → c.chunk ≢ chunk → weight chunk class c ≡ 0
weighs_not c chunk class p =
    let b : is_claim chunk class c ≡ false = ap (λ x. x && (c.class == class)) (ne_eqb c.chunk chunk p) in
    ap (λ (x : Bool). let n : ℕ = cond x 1 0 in n) b

-- a chunk was drawn, claimed and noted
pub noted_drawn : (notes notes' : List (Option ℕ)) (old new : List Carved) (part : Part) (class : ℕ) → Draws part class old new → NotesAt part.chunk class notes notes'
    → AreNoted notes old → AreNoted notes' new
noted_drawn notes notes' old new part class d noted n =
    let more = λ (chunk cl : ℕ). sum_by_pushed (λ c. cond (is_claim chunk cl c) 1 0) d.drawn old new d.added in (
      λ chunk cl at.
          let m = more chunk cl in
          dite (ℕ_discrete chunk part.chunk)
          (λ e.
          let s : Some cl ≡ Some class = sym at ∙ ap (class_noted notes') e ∙ noted.noted in
          let c : cl ≡ class = cc in
          let w = weighs d.drawn chunk cl (d.uncut.chunk ∙ sym e) (d.uncut.class_is ∙ sym c) in
          omega arith)
          (λ ne. let old_claim = n.0 chunk cl (sym (noted.others chunk ne) ∙ at) in omega arith),
      λ chunk cl h.
          let m = more chunk cl in
          dite (ℕ_discrete chunk part.chunk)
          (λ e none. none_some none (ap (class_noted notes') e ∙ noted.noted))
          (λ ne none.
          let w = weighs_not d.drawn chunk cl (λ e. ne (sym e ∙ d.uncut.chunk)) in
          n.1 chunk cl (let goal : 0 < sum_by (λ c. cond (is_claim chunk cl c) 1 0) old = omega arith in goal) (sym (noted.others chunk ne) ∙ none)),
    )

-- the notes of one more station were added
only_of : (own old new : List (Option ℕ)) (xs ys : List Carved) → AreNoted old xs → AreNoted own ys → AddsNotes own old new
    → (chunk cl : ℕ) → class_noted new chunk ≡ Some cl → (o : Option ℕ) → class_noted own chunk ≡ o → IsClaimed (xs ++ ys) chunk cl
only_of own old new xs ys a b adds chunk cl at None e =
    let s = sum_by-append (λ c. cond (is_claim chunk cl c) 1 0) xs ys in
    let h = a.0 chunk cl (sym (adds.others chunk e) ∙ at) in omega arith
only_of own old new xs ys a b adds chunk cl at (Some m) e =
    let s = sum_by-append (λ c. cond (is_claim chunk cl c) 1 0) xs ys in
    let q : Some m ≡ Some cl = sym (adds.noted chunk m e) ∙ at in
    let h = b.0 chunk cl (e ∙ q) in omega arith

all_of : (own old new : List (Option ℕ)) (xs ys : List Carved) → AreNoted old xs → AreNoted own ys → AddsNotes own old new
    → (chunk cl : ℕ) → IsClaimed (xs ++ ys) chunk cl → class_noted new chunk ≡ None → (o : Option ℕ) → class_noted own chunk ≡ o → ⊥
all_of own old new xs ys a b adds chunk cl h none (Some m) e = none_some none (adds.noted chunk m e)
all_of own old new xs ys a b adds chunk cl h none None e =
    let s = sum_by-append (λ c. cond (is_claim chunk cl c) 1 0) xs ys in
    dite (dec_lt 0 (sum_by (λ c. cond (is_claim chunk cl c) 1 0) ys))
    (λ here. b.1 chunk cl here e)
    (λ not_here. a.1 chunk cl (let goal : 0 < sum_by (λ c. cond (is_claim chunk cl c) 1 0) xs = omega arith in goal) (sym (adds.others chunk e) ∙ none))

joined : (own old new : List (Option ℕ)) (xs ys : List Carved) → AreNoted old xs → AreNoted own ys → AddsNotes own old new → AreNoted new (xs ++ ys)
joined own old new xs ys a b adds = (
  λ chunk cl at. only_of own old new xs ys a b adds chunk cl at (class_noted own chunk) refl,
  λ chunk cl h none. all_of own old new xs ys a b adds chunk cl h none (class_noted own chunk) refl,
)

claimed-next : (xs : List Station) (k : ℕ) (x : Station) → k < length xs → x ≡ get_or xs k x → claimed (take (suc k) xs) ≡ claimed (take k xs) ++ x.desk.drawn
claimed-next [] k x l e = absurd (omega arith)
claimed-next (y ∷ ys) zero x l e = ap (λ (z : Station). z.desk.drawn ++ []) (sym e) ∙ append-nil x.desk.drawn
claimed-next (y ∷ ys) (suc k) x l e = ap (λ r. y.desk.drawn ++ r) (claimed-next ys k x (omega arith) e) ∙ sym (append_assoc y.desk.drawn (claimed (take k ys)) x.desk.drawn)

-- one more station's chunks were noted
pub notes_next : (xs : List Station) (k : ℕ) (x : Station) (old new : List (Option ℕ)) → k < length xs → x ≡ get_or xs k x
    → AreNoted old (claimed (take k xs)) → AddsNotes x.drawer.drawn old new → AreNoted x.drawer.drawn x.desk.drawn → AreNoted new (claimed (take (k + 1) xs))
notes_next xs k x old new l e a adds own =
    subst (λ (cs : List Carved). AreNoted new cs) (sym (ap (λ n. claimed (take n xs)) (let same : k + 1 ≡ suc k = omega arith in same) ∙ claimed-next xs k x l e))
    (joined x.drawer.drawn old new (claimed (take k xs)) x.desk.drawn a own adds)

-- stations that were settled have the same chunks
abbrev claims : List (ℕ × List Carved × List Buffer × List Buffer) → List Carved
claims [] = []
claims (d ∷ ds) = d.1 ++ claims ds

claims_are : (xs : List Station) → claims (map desk_of xs) ≡ claimed xs
claims_are [] = refl
claims_are (x ∷ xs) = ap (λ r. x.desk.drawn ++ r) (claims_are xs)

pub settled_claims : (old new : List Station) → AreSettled old new → claimed new ≡ claimed old
settled_claims old new e = sym (claims_are new) ∙ ap claims e ∙ claims_are old
