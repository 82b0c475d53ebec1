use Rattle.std.proofs.Common.{◌≡◌, List, ◌∷◌, ◌++◌, ◌*◌, All, flat_map, map, drop, length, sym, ap, ◌∙◌, subst}
use Rattle.std.specs.Borrow.{GName}
use Rattle.region_cut.specs.Limits.{chunk_size}
use Rattle.region_cut.specs.Cuts.{names_in, IsCut}
use Rattle.region_cut.specs.Endings.{Ended, EndingsState, IsKnown, end_in}
use Rattle.region_cut.specs.Fronts.{lent_of, rest_of}
use Rattle.region_cut.specs.Laws.{StandsAt}
use Rattle.region_cut.specs.Parts.{name_of, bytes_of}
use Rattle.floor_uses.proofs.Whole.{whole_ends, here}
use Rattle.floor_uses.proofs.ending.lives.Goals as goal

pub close-requires-2-clause-known : goal.close-requires-2-clause-known
close-requires-2-clause-known c =
    let cut = c.cut_with_front-parts in
    let lent : lent_of cut.result.1 ≡ map name_of c.in-Ok.parts.items = cut.ensures.lent ∙ ap names_in c.in-Ok.is in
    subst (All (IsKnown c.parts_live-answers.result.1.known)) (sym lent) c.parts_live-answers.ensures.known

pub returns : goal.returns
returns c =
    let cut = c.cut_with_front-parts in
    let parts = c.in-Ok.parts.items in
    let region = c.args.region.now in
    let names = map name_of parts in
    let known = c.parts_live-answers.result.1.known in
    let lent : lent_of cut.result.1 ≡ names = cut.ensures.lent ∙ ap names_in c.in-Ok.is in
    let rest : rest_of cut.result.1 ≡ drop (chunk_size * length names) region =
    cut.ensures.tail ∙ ap (λ (ns : List GName). drop (chunk_size * length ns) region) (ap names_in c.in-Ok.is) in
    let whole : flat_map bytes_of parts ++ drop (chunk_size * length parts) region ≡ region = (c.parts_make_the_whole.ensures region parts (subst (IsCut region) c.in-Ok.is cut.ensures.parts).1).1 in
    let stands : StandsAt (flat_map (end_in known) names) 0 region =
    subst (λ r. StandsAt (flat_map (end_in known) names) 0 r) whole (c.parts_live-answers.ensures.bytes (drop (chunk_size * length parts) region)) in
    let last = whole_ends cut.result.1 known names region c.args.region.ghost_name lent cut.ensures.whole rest c.parts_live-answers.ensures.whole stands in
    here c.close-2.new.self.known known (record { name = c.args.region.ghost_name; bytes = region })
    (ap (λ (s : EndingsState). s.known) c.close-2.ensures ∙ ap (λ (e : Ended). e ∷ known) last)
