use Rattle.std.proofs.Common.{sym, ap, ◌∙◌}
use Rattle.std.specs.Prelude.{slice_get}
use Rattle.pool_fabric.proofs.Lacking.{taken_out}
use Rattle.pool_fabric.proofs.found.out_of.Goals as goal

pub returns : goal.returns
returns g c =
    taken_out _ _ c.in_ok-at.at c.args.number c.in_ok-at.ensures.0 c.swap_remove.result
    (ap (λ l. slice_get l c.in_ok-at.at) (sym c.as_slice.ensures.value) ∙ c.in_ok-at.ensures.1) c.in_ok-at.ensures.2 c.swap_remove.ensures.value c.swap_remove.ensures.items
