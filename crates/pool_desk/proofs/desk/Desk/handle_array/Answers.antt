use Rattle.std.proofs.Common.{◌≡◌, All}
use Rattle.slot_chain.specs.Buffer.{Buffer}
use Rattle.pool_desk.proofs.HandleLaws.{Adds-own, Handles-all_own, passed_own}
use Rattle.pool_desk.proofs.desk.Desk.handle_array.Goals as goal

pub keep_each-emptied-requires : goal.keep_each-emptied-requires
keep_each-emptied-requires c =
    let t = c.takes_own_alone.ensures in
    passed_own _ _ _ (t.alone c.if-not-takes_own_alone.false) t.scheme t.in_range c.shared_at_most_all.ensures c.shared_by_equals.ensures c.requires

pub returns-clause-parts : goal.returns-clause-parts
returns-clause-parts c =
    let t = c.takes_own_alone.ensures in
    let own : All (λ (b : Buffer). b.owner ≡ c.args.self.now.number) c.args.array.items =
    passed_own _ _ _ (t.alone c.if-not-takes_own_alone.false) t.scheme t.in_range c.shared_at_most_all.ensures c.shared_by_equals.ensures c.requires in
    Handles-all_own c.args.self.now c.keep_each-emptied.new.self c.args.array.items own c.keep_each-emptied.ensures.same c.keep_each-emptied.ensures.home

pub returns-clause-counts : goal.returns-clause-counts
returns-clause-counts c =
    let t = c.takes_own_alone.ensures in
    let own : All (λ (b : Buffer). b.owner ≡ c.args.self.now.number) c.args.array.items =
    passed_own _ _ _ (t.alone c.if-not-takes_own_alone.false) t.scheme t.in_range c.shared_at_most_all.ensures c.shared_by_equals.ensures c.requires in
    Adds-own _ c.args.array.items c.args.counts c.plus.result own (rw (c.len-all.ensures, c.args.array.ok.0) at c.plus.ensures.home) c.plus.ensures.on
