-- The closing lines.
use Rattle.std.proofs.Common.{refl, ◌≡◌, ℕ, suc, ◌+◌, ◌<◌, ◌≤◌, List, [], ◌∷◌, ◌++◌, length, take, drop, get_or, Option, Bool, Result, Ok, Err, sym, ◌∙◌, ap, subst, arith, append_assoc, append-nil, add-one, length-take-le, take_all}
use Rattle.std.proofs.Math.Seq.{split_at, take-suc}
use Rattle.std.specs.Prelude.{sum_by}
use Rattle.std.specs.List.{range_with_len}
use Rattle.std.proofs.lemmas.List.{length-map}
use Rattle.std.proofs.lemmas.List.Sums.{sum_by-append}
use Rattle.std.proofs.lemmas.List.FromFn.{length-range_with_len, get_or-map-range_with_len}
use Rattle.slot_chain.specs.Counts.{capped}
use Rattle.event_floor.specs.Floors.{FloorState, desk_count}
use Rattle.std.specs.Io.KnownBytes.{Appends}
use Rattle.std.proofs.KnownBytes.{Appends-trans}
use Rattle.trace_audit.specs.FloorCounts.{Tally, counts_at, desk_lines, end_line, plus, tally_lines, told}
use Rattle.trace_audit.specs.Steps.{tail_text}
use Rattle.trace_audit.specs.Report.{bad_line, desk_line, total}
use Rattle.trace_audit.specs.Wire.{Begins, Writes}
use Rattle.trace_audit.specs.declared.replaying.ending.End.{End}
use Rattle.trace_audit.specs.declared.replaying.ending.End.TheVariants.{BadLine}
use Rattle.trace_audit.specs.declared.report.closing.DeskCounts.{DeskCounts}

desk_lines-append : (a : ℕ) (xs ys : List DeskCounts) → desk_lines a (xs ++ ys) ≡ desk_lines a xs ++ desk_lines (a + length xs) ys
desk_lines-append a [] ys = let e : a ≡ a + 0 = omega arith in ap (λ n. desk_lines n ys) e
desk_lines-append a (x ∷ xs) ys =
    let e : suc a + length xs ≡ a + suc (length xs) = omega arith in
    ap (λ l. desk_line a x ++ l) (desk_lines-append (suc a) xs ys ∙ ap (λ n. desk_lines (suc a) xs ++ desk_lines n ys) e)
    ∙ sym (append_assoc (desk_line a x) (desk_lines (suc a) xs) (desk_lines (a + suc (length xs)) ys))

lines_at : (xs : List DeskCounts) (i : ℕ) (y : DeskCounts) (ys : List DeskCounts) → i < length xs → desk_lines 0 (take i xs ++ y ∷ ys) ≡ desk_lines 0 (take i xs) ++ (desk_line i y ++ desk_lines (suc i) ys)
lines_at xs i y ys low = desk_lines-append 0 (take i xs) (y ∷ ys) ∙ ap (λ n. desk_lines 0 (take i xs) ++ desk_lines n (y ∷ ys)) (let e : 0 + length (take i xs) ≡ i = omega (arith, length-take-le i xs (omega arith)) in e)

-- the lines so far, and one desk more
lines_more : (xs : List DeskCounts) (i : ℕ) (d : DeskCounts) → i < length xs → desk_lines 0 (take (i + 1) xs) ≡ desk_lines 0 (take i xs) ++ desk_line i (get_or xs i d)
lines_more xs i d low =
    ap (λ n. desk_lines 0 (take n xs)) (add-one i) ∙ ap (desk_lines 0) (take-suc xs i d low) ∙ lines_at xs i (get_or xs i d) [] low
    ∙ ap (λ l. desk_lines 0 (take i xs) ++ l) (append-nil (desk_line i (get_or xs i d)))

-- the writer gave up within the line of desk i
pub close_cut : (old mid new : Option (List ℕ)) (t : Tally) (xs : List DeskCounts) (i : ℕ) (d : DeskCounts) (text : List ℕ) → xs ≡ t.desks → i < length xs → text ≡ desk_line i (get_or xs i d)
    → Appends old mid (desk_lines 0 (take i xs)) → Begins mid new text → Begins old new (tally_lines t)
close_cut old mid new t xs i d text same low is before (front, back, cut, wrote) =
    let behind : List ℕ = desk_lines (suc i) (drop (suc i) xs) ++ end_line t in
    let lines : tally_lines t ≡ (desk_lines 0 (take i xs) ++ front) ++ (back ++ behind) =
    ap (λ l. desk_lines 0 l ++ end_line t) (sym same ∙ split_at xs i d low)
    ∙ ap (λ l. l ++ end_line t) (lines_at xs i (get_or xs i d) (drop (suc i) xs) low)
    ∙ ap (λ l. (desk_lines 0 (take i xs) ++ (l ++ desk_lines (suc i) (drop (suc i) xs))) ++ end_line t) (sym is ∙ cut) ∙ simp append_assoc in
    (desk_lines 0 (take i xs) ++ front, back ++ behind, lines, Appends-trans old mid new (desk_lines 0 (take i xs)) front before wrote)

-- what stands before was written, and then all of the text, or a beginning of it
pub writes_behind : {E : Type 0} → (old mid new : Option (List ℕ)) (failed : Bool) (x y : List ℕ) (r : Result (Unit {0}) E) → Appends old mid x → Writes mid new failed y r → Writes old new failed (x ++ y) r
writes_behind old mid new failed x y (Ok u) h p = (Appends-trans old mid new x y h p.0, p.1)
writes_behind old mid new failed x y (Err e) h ((front, back, cut, wrote), up) =
    ((x ++ front, back, ap (λ w. x ++ w) cut ∙ sym (append_assoc x front back), Appends-trans old mid new x front h wrote), up)

-- what stands first was not all written
pub begins_longer : (old new : Option (List ℕ)) (x y : List ℕ) → Begins old new x → Begins old new (x ++ y)
begins_longer old new x y (front, back, cut, h) = (front, back ++ y, ap (λ w. w ++ y) cut ∙ append_assoc front back y, h)

-- the line of a bad line was written, and what stands behind it or a beginning
pub bad_closed : {E : Type 0} → (old mid new : Option (List ℕ)) (failed : Bool) (t : Tally) (end : End) (n : ℕ) (text : List ℕ) (r : Result (Unit {0}) E) → end ≡ BadLine n → text ≡ bad_line n
    → Appends old mid text → Writes mid new failed (tally_lines t) r → Writes old new failed (tail_text t end) r
bad_closed old mid new failed t end n text r e is h p = rw e (writes_behind old mid new failed (bad_line n) (tally_lines t) r (subst (λ (w : List ℕ). Appends old mid w) is h) p)

pub bad_broken : (old new : Option (List ℕ)) (t : Tally) (end : End) (n : ℕ) (text : List ℕ) → end ≡ BadLine n → text ≡ bad_line n → Begins old new text → Begins old new (tail_text t end)
bad_broken old new t end n text e is h = rw e (begins_longer old new (bad_line n) (tally_lines t) (subst (λ (w : List ℕ). Begins old new w) is h))

-- the last line was written, or a beginning of it
pub closed : {E : Type 0} → (old mid new : Option (List ℕ)) (failed : Bool) (t : Tally) (xs : List DeskCounts) (i : ℕ) (text : List ℕ) (r : Result (Unit {0}) E) → xs ≡ t.desks → length xs ≤ i → text ≡ end_line t
    → Appends old mid (desk_lines 0 (take i xs)) → Writes mid new failed text r → Writes old new failed (tally_lines t) r
closed old mid new failed t xs i text r same all is before after =
    let whole : take i xs ≡ t.desks = take_all i xs all ∙ same in
    writes_behind old mid new failed (desk_lines 0 t.desks) (end_line t) r
    (subst (λ (l : List DeskCounts). Appends old mid (desk_lines 0 l)) whole before) (subst (λ (w : List ℕ). Writes mid new failed w r) is after)

-- the line of desk i was written
pub close_more : (old mid new : Option (List ℕ)) (xs : List DeskCounts) (i : ℕ) (d : DeskCounts) (text : List ℕ) → i < length xs → text ≡ desk_line i (get_or xs i d)
    → Appends old mid (desk_lines 0 (take i xs)) → Appends mid new text → Appends old new (desk_lines 0 (take (i + 1) xs))
close_more old mid new xs i d text low is before after =
    subst (λ (w : List ℕ). Appends old new w) (ap (λ w. desk_lines 0 (take i xs) ++ w) is ∙ sym (lines_more xs i d low)) (Appends-trans old mid new (desk_lines 0 (take i xs)) text before after)

-- what is told of the desks

nothing : DeskCounts
nothing = record { home = 0; cached = 0; queued = 0 }

pub length-told : (v : FloorState) → length (told v).desks ≡ desk_count v
length-told v = length-map (range_with_len 0 (desk_count v)) (counts_at v) ∙ length-range_with_len 0 (desk_count v)

told_at : (v : FloorState) (i : ℕ) (d : DeskCounts) → i < desk_count v → get_or (told v).desks i d ≡ counts_at v i
told_at v i d low = get_or-map-range_with_len (counts_at v) 0 (desk_count v) i i d low (omega arith)

-- the line of a desk, from its counts
told_line : (v : FloorState) (i : ℕ) (c : DeskCounts) (text : List ℕ) → i < desk_count v → c ≡ counts_at v i → text ≡ desk_line i c → text ≡ desk_line i (get_or (told v).desks i nothing)
told_line v i c text low is line = line ∙ ap (desk_line i) (is ∙ sym (told_at v i nothing low))

pub told_cut : (old mid new : Option (List ℕ)) (v : FloorState) (i n : ℕ) (c : DeskCounts) (text : List ℕ) → n ≡ desk_count v → i < n → c ≡ counts_at v i → text ≡ desk_line i c
    → Appends old mid (desk_lines 0 (take i (told v).desks)) → Begins mid new text → Begins old new (tally_lines (told v))
told_cut old mid new v i n c text count low is line before after =
    close_cut old mid new (told v) (told v).desks i nothing text refl (omega (arith, length-told v)) (told_line v i c text (omega arith) is line) before after

pub told_more : (old mid new : Option (List ℕ)) (v : FloorState) (i n : ℕ) (c : DeskCounts) (text : List ℕ) → n ≡ desk_count v → i < n → c ≡ counts_at v i → text ≡ desk_line i c
    → Appends old mid (desk_lines 0 (take i (told v).desks)) → Appends mid new text → Appends old new (desk_lines 0 (take (i + 1) (told v).desks))
told_more old mid new v i n c text count low is line before after =
    close_more old mid new (told v).desks i nothing text (omega (arith, length-told v)) (told_line v i c text (omega arith) is line) before after

pub told_closed : {E : Type 0} → (old mid new : Option (List ℕ)) (failed : Bool) (v : FloorState) (i n : ℕ) (text : List ℕ) (r : Result (Unit {0}) E) → n ≡ desk_count v → n ≤ i → text ≡ end_line (told v)
    → Appends old mid (desk_lines 0 (take i (told v).desks)) → Writes mid new failed text r → Writes old new failed (tally_lines (told v)) r
told_closed old mid new failed v i n text r count all line before after =
    closed old mid new failed (told v) (told v).desks i text r refl (omega (arith, length-told v)) line before after

-- the sums

capped_more : (a b : ℕ) → capped (capped a + b) ≡ capped (a + b)
capped_more a b = grind arith

sum_by_push : (f : DeskCounts → ℕ) (xs : List DeskCounts) (x : DeskCounts) → sum_by f (xs ++ x ∷ []) ≡ sum_by f xs + f x
sum_by_push f xs x = let e : sum_by f (x ∷ []) ≡ f x = omega arith in sum_by-append f xs (x ∷ []) ∙ ap (λ n. sum_by f xs + n) e

sum_more : (f : DeskCounts → ℕ) (xs : List DeskCounts) (i : ℕ) (d : DeskCounts) → i < length xs → capped (capped (sum_by f (take i xs)) + f (get_or xs i d)) ≡ capped (sum_by f (take (i + 1) xs))
sum_more f xs i d low = capped_more (sum_by f (take i xs)) (f (get_or xs i d)) ∙ ap capped (sym (ap (λ n. sum_by f (take n xs)) (add-one i) ∙ ap (sum_by f) (take-suc xs i d low) ∙ sum_by_push f (take i xs) (get_or xs i d)))

total_more : (xs : List DeskCounts) (i : ℕ) (d : DeskCounts) → i < length xs → plus (total (take i xs)) (get_or xs i d) ≡ total (take (i + 1) xs)
total_more xs i d low = λ z. record {
  home = sum_more (λ c. c.home) xs i d low z;
  cached = sum_more (λ c. c.cached) xs i d low z;
  queued = sum_more (λ c. c.queued) xs i d low z;
}

pub told_total : (v : FloorState) (i n : ℕ) (sum c : DeskCounts) → n ≡ desk_count v → i < n → sum ≡ total (take i (told v).desks) → c ≡ counts_at v i → plus sum c ≡ total (take (i + 1) (told v).desks)
told_total v i n sum c count low so_far is =
    rw (so_far, is ∙ sym (told_at v i nothing (omega arith))) (total_more (told v).desks i nothing (omega (arith, length-told v)))

pub told_all : (v : FloorState) (i n : ℕ) (sum : DeskCounts) → n ≡ desk_count v → n ≤ i → sum ≡ total (take i (told v).desks) → sum ≡ total (told v).desks
told_all v i n sum count all so_far = so_far ∙ ap total (take_all i (told v).desks (omega (arith, length-told v)))
