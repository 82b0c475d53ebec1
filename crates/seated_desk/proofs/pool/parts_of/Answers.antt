use Rattle.std.proofs.Common.{length, sym, ap, ◌∙◌, arith}
use Rattle.std.proofs.lemmas.List.{length-map}
use Rattle.region_cut.specs.Parts.{number_of}
use Rattle.seated_desk.proofs.Numbers.{numbered_at, length-numbers}
use Rattle.seated_desk.proofs.pool.parts_of.Goals as goal

pub returns-in-Ok : goal.returns-in-Ok
returns-in-Ok c =
    let p = c.in-Ok.ensures.parts in (
      λ k q at. numbered_at c.in-Ok.parts.items 0 _ k q p.1.numbers at,
      let n = sym (length-map c.in-Ok.parts.items number_of) ∙ ap length p.1.numbers ∙ length-numbers 0 _ in omega arith,
    )
