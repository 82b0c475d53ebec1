use Rattle.std.proofs.Common.{refl, ◌∙◌, arith}
use Rattle.seated_desk.proofs.Accounting.{audited, put_front}
use Rattle.seated_desk.proofs.pool.Pool.close.Goals as goal

pub returns-in-Ok : goal.returns-in-Ok
returns-in-Ok c = (
  λ _. let o = c.args.self.now.shelf.ok in (
    audited c.args.self.now.shelf.items c.as_mut_slice.result.now c.settle.new.shelf c.as_slice.result.now c.in-Ok.ensures.0 c.as_mut_slice.ensures.value c.settle.ensures
        (c.as_slice.ensures.value ∙ put_front c.args.self.now.shelf.len c.as_mut_slice.result.now c.settle.new.shelf c.args.self.now.shelf.items c.as_mut_slice.ensures.value c.settle.ensures (omega arith)) c.in-Ok.ensures.1 c.in-Ok.ensures.2,
    refl,
    c.new.ensures.items,
  ),
  λ low. absurd (omega arith),
)
