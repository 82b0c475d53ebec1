use Rattle.std.proofs.Common.{◌≡◌, [], ap, sym, ◌∙◌, subst}
use Rattle.pool_desk.specs.Desks.{DeskState, IdleState}
use Rattle.desk_uses.specs.Used.{IsUsed}
use Rattle.desk_uses.proofs.LifeLaws.{none_used, used_once}
use Rattle.desk_uses.proofs.living.used.Goals as goal

pub returns-in_default-alloc-clause-used : goal.returns-in_default-alloc-clause-used
returns-in_default-alloc-clause-used c =
    let home : c.adopt-desk.result.home ≡ [] = ap (λ (d : DeskState). d.home) c.adopt-desk.ensures ∙ ap (λ (d : IdleState). d.home) c.new-2.ensures in
    let drawn : c.adopt-desk.result.drawn ≡ [] = ap (λ (d : DeskState). d.drawn) c.adopt-desk.ensures ∙ ap (λ (d : IdleState). d.drawn) c.new-2.ensures in
    subst (λ (d : DeskState). IsUsed _ c.args.byte c.args.part d) (sym c.in_default-alloc.ensures.1)
    (none_used c.args.byte c.args.part c.adopt-desk.result c.claim.new.self home drawn c.in-Ok.ensures)

pub returns-clause-used : goal.returns-clause-used
returns-clause-used c =
    let home : c.adopt-desk.result.home ≡ [] = ap (λ (d : DeskState). d.home) c.adopt-desk.ensures ∙ ap (λ (d : IdleState). d.home) c.new-2.ensures in
    let drawn : c.adopt-desk.result.drawn ≡ [] = ap (λ (d : DeskState). d.drawn) c.adopt-desk.ensures ∙ ap (λ (d : IdleState). d.drawn) c.new-2.ensures in
    used_once c.args.byte c.args.part c.adopt-desk.result c.claim.new.self home drawn c.in-Ok.ensures
    c.alloc.new.self c.free.new.self c.in-Ok-alloc.buf c.fill.new.buf c.free.result c.in-Ok-alloc.ensures c.fill.ensures.size c.fill.ensures.filled c.free.ensures
