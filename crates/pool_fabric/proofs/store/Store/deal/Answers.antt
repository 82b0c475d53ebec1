use Rattle.std.proofs.Common.{◌+◌, ◌<◌, List, [], ◌∷◌, ◌++◌, ap, ◌∙◌, arith, subst, sym}
use Rattle.pool_fabric.specs.declared.ledger.DrawnChunk.{DrawnChunk}
use Rattle.pool_fabric.specs.Pages.{PageState, drawn_for}
use Rattle.pool_fabric.specs.Stocks.{AreTold}
use Rattle.pool_fabric.proofs.Stocked.{gives_apart, gives_undrawn, gives_told}
use Rattle.slot_balance.specs.Weights.{weigh}
use Rattle.pool_fabric.specs.Accounts.{of_part, of_entry}
use Rattle.slot_balance.proofs.Sums.{weigh-snoc}
use Rattle.pool_fabric.proofs.store.Store.deal.Goals as goal

pub invariant_of-self-2 : goal.invariant_of-self-2
invariant_of-self-2 g c =
    let i = c.self.invariant in
    let book = c.deal.ensures.book in
    let given = c.in_ok-part.ensures in
    let part = c.in_ok-part.part in
    record {
      key = ap (λ (p : PageState). p.key) book ∙ i.key;
      loans = ap (λ (p : PageState). p.loans) book ∙ i.loans;
      none_got = ap (λ (p : PageState). p.got) book ∙ i.none_got;
      none_lent = (ap (λ (p : PageState). p.lent) book ∙ i.none_lent.0, ap (λ (p : PageState). p.freed) book ∙ i.none_lent.1);
      parts = ap (λ (p : PageState). p.parts + g.J.Naming.names.count) book ∙ i.parts;
      some_part = subst (λ n. 0 < n) (sym (ap (λ (p : PageState). p.parts) book)) i.some_part;
      chunks = λ w.
          let p = i.chunks w in
          let a = ap (λ (x : PageState). weigh (of_entry w) x.gave) book in
          let b = weigh-snoc (of_entry w) c.self.inside.book.gave (drawn_for c.chunk.result c.args.class) in
          let number = ap w c.chunk.ensures in
          let d = ap (weigh (of_part w)) given.left in
          let e = weigh-snoc (of_part w) c.get.new.self.left part in
          omega arith;
      told =
          let told = gives_told _ c.args.class part c.get.new.self given i.apart i.undrawn c.self.inside.book.gave i.told in
          subst (λ (l : List DrawnChunk). AreTold c.get.new.self.drawn l) (sym (ap (λ (x : PageState). x.gave) book ∙ (λ j. c.self.inside.book.gave ++ drawn_for (c.chunk.ensures j) c.args.class ∷ []))) told;
      undrawn = gives_undrawn _ c.args.class part c.get.new.self given i.apart i.undrawn;
      once = i.once;
      apart = gives_apart _ c.args.class part c.get.new.self given i.apart i.undrawn;
    }
