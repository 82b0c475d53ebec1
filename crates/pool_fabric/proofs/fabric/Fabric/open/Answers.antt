use Rattle.std.proofs.Common.{sym, ap, ◌∙◌, arith}
use Rattle.pool_fabric.specs.Names.{Names}
use Rattle.slot_balance.specs.Weights.{weigh}
use Rattle.pool_fabric.specs.Losses.{is_number}
use Rattle.pool_fabric.proofs.Losses.{apart_once}
use Rattle.pool_fabric.proofs.NewBoxes.{named_chunks}
use Rattle.pool_fabric.proofs.fabric.Fabric.open.Goals as goal

pub new-requires-2-clause-chunks : goal.new-requires-2-clause-chunks
new-requires-2-clause-chunks g c =
    λ h. named_chunks h c.opening.inside.stock.left ∙ ap (λ (n : Names). weigh h n.chunks) (c.opening.view_is ∙ sym c.requires)

pub new-requires-2-clause-once : goal.new-requires-2-clause-once
new-requires-2-clause-once g c k =
    let left = c.opening.inside.stock.left in
    let e = named_chunks (is_number k) left ∙ ap (λ (n : Names). weigh (is_number k) n.chunks) (c.opening.view_is ∙ sym c.requires) in
    let a = apart_once k left c.opening.invariant.full.apart in
    omega arith
