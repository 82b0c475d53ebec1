use Rattle.std.proofs.Common.{◌≡◌, List, ◌++◌, map, flat_map, length, All, sym, ap, ◌∙◌, subst}
use Rattle.std.specs.Borrow.{GName}
use Rattle.std.proofs.lemmas.List.{append-nil}
use Rattle.region_cut.specs.Limits.{chunk_size}
use Rattle.region_cut.specs.Endings.{Ended, EndingsState, IsKnown, Agrees, end_in}
use Rattle.region_cut.specs.Laws.{StandsAt}
use Rattle.region_cut.specs.Parts.{name_of, bytes_of}
use Rattle.event_floor.specs.Chunks.{ended_part}
use Rattle.floor_uses.proofs.Whole.{parts_known, parts_whole, parts_stand}
use Rattle.floor_uses.proofs.ending.parts_live.Goals as goal

pub returns-in-Ok-clause-known : goal.returns-in-Ok-clause-known
returns-in-Ok-clause-known c =
    let same = c.run.ensures.parts ∙ c.in-Ok.ensures.parts in
    subst (All (IsKnown c.end.result.known)) same c.end.ensures.known.parts

pub returns-in-Ok-clause-whole : goal.returns-in-Ok-clause-whole
returns-in-Ok-clause-whole c =
    let same = c.run.ensures.parts ∙ c.in-Ok.ensures.parts in
    subst (All (λ x. length (end_in c.end.result.known x) ≡ chunk_size)) same c.end.ensures.known.whole

pub returns-in-Ok-clause-bytes : goal.returns-in-Ok-clause-bytes
returns-in-Ok-clause-bytes c tail =
    let same = c.run.ensures.parts ∙ c.in-Ok.ensures.parts in
    let region = flat_map bytes_of c.args.parts.items ++ tail in
    subst (λ (xs : List GName). StandsAt (flat_map (end_in c.end.result.known) xs) 0 region) same
    (c.end.ensures.bytes region (c.run.ensures.bytes.region region (c.in-Ok.ensures.bytes tail)))

pub returns-clause-known : goal.returns-clause-known
returns-clause-known c =
    let ps = c.args.parts.items in
    let is : c.end_parts.new.endings.known ≡ map ended_part ps =
    ap (λ (s : EndingsState). s.known) c.end_parts.ensures ∙ (ap (λ (s : EndingsState). map ended_part c.in-Err.parts.items ++ s.known) c.new-endings.ensures
    ∙ (append-nil (map ended_part c.in-Err.parts.items) ∙ ap (λ v. map ended_part v.items) c.in-Err.ensures.back)) in
    subst (λ (es : List Ended). All (IsKnown es) (map name_of ps)) (sym is) (parts_known ps)

pub returns-clause-whole : goal.returns-clause-whole
returns-clause-whole c =
    let ps = c.args.parts.items in
    let is : c.end_parts.new.endings.known ≡ map ended_part ps =
    ap (λ (s : EndingsState). s.known) c.end_parts.ensures ∙ (ap (λ (s : EndingsState). map ended_part c.in-Err.parts.items ++ s.known) c.new-endings.ensures
    ∙ (append-nil (map ended_part c.in-Err.parts.items) ∙ ap (λ v. map ended_part v.items) c.in-Err.ensures.back)) in
    subst (λ (es : List Ended). All (λ x. length (end_in es x) ≡ chunk_size) (map name_of ps)) (sym is) (parts_whole ps (subst Agrees is c.agree.ensures))

pub returns-clause-bytes : goal.returns-clause-bytes
returns-clause-bytes c tail =
    let ps = c.args.parts.items in
    let is : c.end_parts.new.endings.known ≡ map ended_part ps =
    ap (λ (s : EndingsState). s.known) c.end_parts.ensures ∙ (ap (λ (s : EndingsState). map ended_part c.in-Err.parts.items ++ s.known) c.new-endings.ensures
    ∙ (append-nil (map ended_part c.in-Err.parts.items) ∙ ap (λ v. map ended_part v.items) c.in-Err.ensures.back)) in
    subst (λ (es : List Ended). StandsAt (flat_map (end_in es) (map name_of ps)) 0 (flat_map bytes_of ps ++ tail)) (sym is)
    (parts_stand ps tail (subst Agrees is c.agree.ensures))
