use Rattle.std.proofs.Common.{sym}
use Rattle.pool_desk.proofs.HomeLaws.{gives_fresh}
use Rattle.pool_desk.proofs.home.make.Goals as goal

pub returns-clause-value : goal.returns-clause-value
returns-clause-value c = λ drawn.
    gives_fresh c.args.owner c.args.class c.fill.result c.args.bump.now c.next.new.self c.in-Some.piece drawn c.in-Some.ensures (sym c.requires.class)
    c.fill.ensures.owner c.fill.ensures.class c.fill.ensures.slot c.fill.ensures.forwards c.fill.ensures.filled c.fill.ensures.bytes

pub fill-requires-clause-size : goal.fill-requires-clause-size
fill-requires-clause-size c = rw (sym c.requires.class) at c.in-Some.ensures.size_is

pub fill-requires-clause-owner : goal.fill-requires-clause-owner
fill-requires-clause-owner c = c.requires.owner

pub returns-clause-class : goal.returns-clause-class
returns-clause-class c = c.in-Some.ensures.same_class
