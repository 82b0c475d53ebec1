-- What is known of a slice stays.
use Rattle.std.proofs.Common.{◌≡◌, ℕ, ◌+◌, ◌<◌, [], ◌++◌, length, map, get_or, sym, ap, ◌∙◌, subst, arith}
use Rattle.std.proofs.lemmas.List.{length-map, length-append, get_or-map, get_or-append-add}
use Rattle.region_cut.specs.Endings.{Ended, name_at, end_in}
use Rattle.region_cut.specs.Laws.{KnownEndsStay}

pub ends_stay : KnownEndsStay
ends_stay new old one all x known =
    let k : ℕ = known.0 in
    let d : Ended = record { name = x; bytes = [] } in
    let long : length (map name_at old) ≡ length old = length-map old name_at in
    let low : k < length old = subst (λ (n : ℕ). k < n) long known.1 in
    let e : Ended = get_or old k d in
    let named : e.name ≡ x = sym (get_or-map name_at old k d x low) ∙ known.2 in
    let sum : length (new ++ old) ≡ length new + length old = length-append new old in
    let there : length new + k < length (new ++ old) = omega (arith, low, sum) in
    let at : get_or (new ++ old) (length new + k) d ≡ e = get_or-append-add new old k d in
    let later : end_in (new ++ old) e.name ≡ e.bytes = subst (λ (f : Ended). end_in (new ++ old) f.name ≡ f.bytes) at (all (length new + k) d there) in
    let before : end_in old e.name ≡ e.bytes = one k d low in
    let wide : length (map name_at (new ++ old)) ≡ length (new ++ old) = length-map (new ++ old) name_at in (
      (length new + k, subst (λ (n : ℕ). length new + k < n) (sym wide) there, get_or-map name_at (new ++ old) (length new + k) d x there ∙ (ap name_at at ∙ named)),
      ap (end_in (new ++ old)) (sym named) ∙ (later ∙ (sym before ∙ ap (end_in old) named)),
    )
