use Rattle.std.proofs.Common.{[], ◌∷◌, List, sym, ap, ◌∙◌, subst}
use Rattle.std.specs.List.{All}
use Rattle.std.proofs.lemmas.List.Elements.{All-cons, All-nil}
use Rattle.region_cut.specs.Carved.{Carved}
use Rattle.region_cut.specs.Endings.{EndingsState, HasKnownSlots, IsKnown}
use Rattle.region_cut.proofs.endings.Endings.close.Goals as goal

pub resolve-requires : goal.resolve-requires
resolve-requires c =
    let known = c.self.inside.known.all in let t = c.args.front.tie in
    let one : Carved = record { chunk = 0; class = 0; whole = t.whole; taken = t.taken; rest = c.args.front.rest.now } in
    let lent = subst (λ (s : EndingsState). All (IsKnown s.known) t.taken) (sym c.self.view_is) c.requires.known in
    subst (λ (cs : List Carved). All (HasKnownSlots known) cs) (sym (c.gather.ensures ∙ ap (λ cs. one ∷ cs) c.new-ties.ensures))
    (All-cons (HasKnownSlots known) one [] lent (All-nil (HasKnownSlots known)))
