use Rattle.std.proofs.Common.{◌≡◌, All, ap, sym, ◌∙◌}
use Rattle.slot_chain.specs.Buffer.{Buffer}
use Rattle.pool_desk.specs.Desks.{DeskState}
use Rattle.pool_desk.proofs.HandleLaws.{Adds-own, Handles-all_own}
use Rattle.pool_desk.proofs.HomeLaws.{packed_own}
use Rattle.pool_desk.proofs.desk.Desk.handle_parcel.Goals as goal

pub returns-then-owner-number-clause-parts : goal.returns-then-owner-number-clause-parts
returns-then-owner-number-clause-parts c =
    let mine : c.args.parcel.owner ≡ c.args.self.now.number =
    sym c.owner.ensures.value ∙ (c.if-owner-number.true ∙ (c.number.ensures.value ∙ ap (λ (d : DeskState). d.number) c.self.view_is)) in
    let own : All (λ (b : Buffer). b.owner ≡ c.args.self.now.number) c.args.parcel.items = rw mine at (packed_own _ c.args.parcel.items c.owner.ensures.packed) in
    Handles-all_own c.args.self.now c.keep_parcel.new.self c.args.parcel.items own c.keep_parcel.ensures.same c.keep_parcel.ensures.home

pub returns-then-owner-number-clause-counts : goal.returns-then-owner-number-clause-counts
returns-then-owner-number-clause-counts c =
    let mine : c.args.parcel.owner ≡ c.args.self.now.number =
    sym c.owner.ensures.value ∙ (c.if-owner-number.true ∙ (c.number.ensures.value ∙ ap (λ (d : DeskState). d.number) c.self.view_is)) in
    let own : All (λ (b : Buffer). b.owner ≡ c.args.self.now.number) c.args.parcel.items = rw mine at (packed_own _ c.args.parcel.items c.owner.ensures.packed) in
    Adds-own _ c.args.parcel.items c.args.counts c.plus.result own (rw c.len-all.ensures at c.plus.ensures.home) c.plus.ensures.on
