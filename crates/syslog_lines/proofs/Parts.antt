-- Parts of parts of a line.
use Rattle.std.proofs.Common.{◌≡◌, ℕ, ◌+◌, List, ◌∷◌, take, drop, refl, ap, sym, ◌∙◌, rules, ◌++◌, length, codes, decimal, Option, Some, None, IfSome, Bor}
use Rattle.std.proofs.Math.Seq.{drop-append_seam}
use Rattle.std.specs.List.{IsSplitAt}
use Rattle.std.proofs.lemmas.List.{drop-drop}
use Rattle.syslog_lines.specs.Heads.{IsEnd, IsPart}
use Rattle.syslog_lines.specs.Priorities.{BeginsWith}

pub end_whole : (xs : List ℕ) → IsEnd xs xs
end_whole xs = record { at = 0; is = refl }

pub end_drop : (xs ys : List ℕ) (n : ℕ) → ys ≡ drop n xs → IsEnd xs ys
end_drop xs ys n h = record { at = n; is = h }

pub end_end : (xs ys zs : List ℕ) → IsEnd xs ys → IsEnd ys zs → IsEnd xs zs
end_end xs ys zs p q = record { at = p.at + q.at; is = q.is ∙ (ap (drop q.at) p.is ∙ drop-drop q.at p.at xs) }

pub part_take : (xs ys : List ℕ) (n : ℕ) → ys ≡ take n xs → IsPart xs ys
part_take xs ys n h = record { at = 0; len = n; is = h }

pub part_end : (xs ys zs : List ℕ) → IsEnd xs ys → IsPart ys zs → IsPart xs zs
part_end xs ys zs p q = record { at = p.at + q.at; len = q.len; is = q.is ∙ ap (take q.len) (ap (drop q.at) p.is ∙ drop-drop q.at p.at xs) }

pub end_first : (xs ys : List ℕ) (x : ℕ) → xs ≡ x ∷ ys → IsEnd xs ys
end_first xs ys x h = record { at = 1; is = sym (ap (drop 1) h) }

-- what is a part of the line's end is a part of the line
pub parts_end : (xs ys : List ℕ) (o : Option (Bor (List ℕ))) → IsEnd xs ys → IfSome o (λ t. IsPart ys t.now) → IfSome o (λ t. IsPart xs t.now)
parts_end xs ys None p q = tt
parts_end xs ys (Some t) p q = part_end xs ys t.now p q

end_append : (xs front ys : List ℕ) → xs ≡ front ++ ys → IsEnd xs ys
end_append xs front ys h = record { at = length front; is = sym (ap (drop (length front)) h ∙ drop-append_seam front ys) }

-- what stands behind a byte that stands behind some bytes
pub end_behind : (xs front behind ys : List ℕ) (n x : ℕ) → IsSplitAt xs n front behind → behind ≡ x ∷ ys → IsEnd xs ys
end_behind xs front behind ys n x split h = end_end xs behind ys (end_drop xs behind n (search (rules, split))) (end_first behind ys x h)

pub part_split : (xs front behind : List ℕ) (n : ℕ) → IsSplitAt xs n front behind → IsPart xs front
part_split xs front behind n split = part_take xs front n (search (rules, split))

-- what stands behind a priority
pub end_priority : (xs ys : List ℕ) (n : ℕ) → BeginsWith xs n ys → IsEnd xs ys
end_priority xs ys n h = end_append xs (codes "<" ++ decimal n ++ codes ">") ys h

pub ruleset parts = (end_whole, end_drop, end_end, end_first, part_take, part_end, parts_end)
