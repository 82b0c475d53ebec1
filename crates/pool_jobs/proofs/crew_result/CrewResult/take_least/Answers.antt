use Rattle.std.proofs.Common.{sym, subst, ◌<◌, ◌∷◌, length, List, IsPermutation}
use Rattle.std.proofs.lemmas.List.{get_or_read}
use Rattle.std.proofs.lemmas.List.Sorted.{IsPermutation-swap_remove}
use Rattle.pool_fabric.specs.Stations.{StationState}
use Rattle.pool_jobs.specs.Counted.{IsLeastAt}
use Rattle.pool_jobs.proofs.crew_result.CrewResult.take_least.Goals as goal

pub returns-clause-held : goal.returns-clause-held
returns-clause-held g c =
    let items = c.args.self.now.held.items in
    let at = c.place_of_least-at.result in
    let s = c.swap_remove.result in
    let within : at < length items = subst (λ (l : List StationState). at < length l) c.as_slice.ensures.value c.place_of_least-at.ensures.within in
    subst (λ (l : List StationState). IsPermutation items (s ∷ l)) (sym c.swap_remove.ensures.items) (IsPermutation-swap_remove items at s within c.swap_remove.ensures.value)

pub returns-clause-least : goal.returns-clause-least
returns-clause-least g c = λ k d l.
    let items = c.args.self.now.held.items in
    let at = c.place_of_least-at.result in
    let is = c.as_slice.ensures.value in
    let within : at < length items = subst (λ (l : List StationState). at < length l) is c.place_of_least-at.ensures.within in
    let least : IsLeastAt items at = subst (λ (l : List StationState). IsLeastAt l at) is c.place_of_least-at.ensures.least in
    rw (get_or_read items at c.swap_remove.result within c.swap_remove.ensures.value d) (least k d l)
