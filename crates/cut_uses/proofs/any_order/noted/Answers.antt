use Rattle.std.proofs.Common.{ℕ, List, [], ◌∷◌, ◌++◌, take, drop, slice_set, sym, ap, ◌∙◌, subst}
use Rattle.std.specs.Borrow.{GName}
use Rattle.std.specs.List.{All}
use Rattle.region_cut.specs.Endings.{Ended, EndingsState, IsKnown, Agrees, ended_front}
use Rattle.cut_uses.proofs.Two.{two_closed, both_known, whole_end, here}
use Rattle.cut_uses.proofs.any_order.noted.Goals as goal

pub close-requires-3-clause-known : goal.close-requires-3-clause-known
close-requires-3-clause-known c =
    let xs = c.args.region.now in let x = c.args.x in
    let γ = c.take-first.result.ghost_name in let δ = c.take-second.result.ghost_name in
    let b = take 4 xs in let d = slice_set (take 4 (drop 4 xs)) 0 x in
    let K = c.close-2.new.self.known in
    let known = λ (s : EndingsState). s.known in
    let left = c.take-first.ensures.rest ∙ ap (λ (z : List ℕ). drop 4 z) c.new-front.ensures.rest in
    let front = c.new-2.ensures.rest ∙ (c.take-first.ensures.bytes ∙ ap (λ (z : List ℕ). take 4 z) c.new-front.ensures.rest) in
    let back = c.new.ensures.rest ∙ ap (λ (z : List ℕ). slice_set z 0 x) (c.take-second.ensures.bytes ∙ ap (λ (z : List ℕ). take 4 z) left) in
    let is = two_closed c.new-endings.result.known c.close.new.self.known K c.new-2.result c.new.result γ δ b d (ap known c.new-endings.ensures) (ap known c.close.ensures) (ap known c.close-2.ensures)
    c.new-2.ensures.lent c.new-2.ensures.whole front c.new.ensures.lent c.new.ensures.whole back in
    let lent = c.take-second.ensures.lent ∙ ap (λ (z : List GName). z ++ δ ∷ []) (c.take-first.ensures.lent ∙ ap (λ (z : List GName). z ++ γ ∷ []) c.new-front.ensures.lent) in
    subst (λ (ns : List GName). All (IsKnown K) ns) (sym lent) (subst (λ (z : List Ended). All (IsKnown z) (γ ∷ δ ∷ [])) (sym is) (both_known γ b δ d))

pub returns : goal.returns
returns c =
    let xs = c.args.region.now in let x = c.args.x in
    let γ = c.take-first.result.ghost_name in let δ = c.take-second.result.ghost_name in
    let b = take 4 xs in let d = slice_set (take 4 (drop 4 xs)) 0 x in
    let K = c.close-2.new.self.known in
    let known = λ (s : EndingsState). s.known in
    let left = c.take-first.ensures.rest ∙ ap (λ (z : List ℕ). drop 4 z) c.new-front.ensures.rest in
    let front = c.new-2.ensures.rest ∙ (c.take-first.ensures.bytes ∙ ap (λ (z : List ℕ). take 4 z) c.new-front.ensures.rest) in
    let back = c.new.ensures.rest ∙ ap (λ (z : List ℕ). slice_set z 0 x) (c.take-second.ensures.bytes ∙ ap (λ (z : List ℕ). take 4 z) left) in
    let is = two_closed c.new-endings.result.known c.close.new.self.known K c.new-2.result c.new.result γ δ b d (ap known c.new-endings.ensures) (ap known c.close.ensures) (ap known c.close-2.ensures)
    c.new-2.ensures.lent c.new-2.ensures.whole front c.new.ensures.lent c.new.ensures.whole back in
    let lent = c.take-second.ensures.lent ∙ ap (λ (z : List GName). z ++ δ ∷ []) (c.take-first.ensures.lent ∙ ap (λ (z : List GName). z ++ γ ∷ []) c.new-front.ensures.lent) in
    let ρ = c.args.region.ghost_name in let f = c.take-second.new.self in
    let whole = c.take-second.ensures.whole ∙ (c.take-first.ensures.whole ∙ c.new-front.ensures.whole) in
    let rest = c.take-second.ensures.rest ∙ ap (λ (z : List ℕ). drop 4 z) left in
    let one = subst Agrees is c.agree.ensures in
    let last = ap (λ (z : List Ended). ended_front z f) is ∙ whole_end γ δ ρ xs x f c.requires one lent whole rest in
    here c.close-3.new.self.known K (record { name = ρ; bytes = slice_set xs 4 x }) (ap known c.close-3.ensures ∙ ap (λ (e : Ended). e ∷ K) last)
