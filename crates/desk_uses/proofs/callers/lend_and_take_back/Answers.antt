use Rattle.std.proofs.Common.{◌≡◌, ap, sym, ◌∙◌}
use Rattle.pool_desk.specs.Desks.{DeskState}
use Rattle.desk_uses.proofs.Homes.{as_many, comes_home}
use Rattle.desk_uses.proofs.callers.lend_and_take_back.Goals as goal

pub returns-clause-home : goal.returns-clause-home
returns-clause-home c =
    let given = c.in_ok-buf.ensures in
    let number : c.alloc.new.self.number ≡ c.args.desk.now.number = ap (λ (d : DeskState). d.number) given.2 in
    as_many _ _ _ _ _ given.1.others (comes_home c.alloc.new.self c.in_ok-buf.buf _ _ (given.1.owner_is ∙ sym number) c.free.ensures)
