use Rattle.std.proofs.Common.{◌≡◌, ℕ, ap, sym, ◌∙◌}
use Rattle.std.specs.Prelude.{replicate}
use Rattle.region_cut.specs.Classes.{size_of}
use Rattle.slot_chain.specs.Buffer.{Buffer}
use Rattle.pool_desk.specs.Desks.{DeskState}
use Rattle.pool_desk.specs.Homes.AtHome.{Kept}
use Rattle.desk_uses.specs.Filled.{IsFilled}
use Rattle.desk_uses.proofs.Homes.{came_back, comes_home}
use Rattle.desk_uses.proofs.callers.written.Goals as goal

pub returns : goal.returns
returns c =
    let given = c.in_ok-buf.ensures in
    let number : c.alloc.new.self.number ≡ c.args.desk.now.number = ap (λ (d : DeskState). d.number) given.2 in
    let owner : c.fill.new.buf.owner ≡ c.alloc.new.self.number = ap (λ (b : Buffer). b.owner) c.fill.ensures.filled ∙ given.1.owner_is ∙ sym number in
    let filled : IsFilled c.args.byte (Kept c.fill.new.buf) =
    ap (λ (b : Buffer). b.bytes.now) c.fill.ensures.filled ∙ ap (λ (k : ℕ). replicate (size_of k) c.args.byte) (sym (ap (λ (b : Buffer). b.class) c.fill.ensures.filled)) in
    came_back (IsFilled c.args.byte) _ _ _ filled (comes_home c.alloc.new.self c.fill.new.buf _ _ owner c.free.ensures)
