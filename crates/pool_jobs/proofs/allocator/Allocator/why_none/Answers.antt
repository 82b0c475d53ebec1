use Rattle.pool_desk.specs.HomesState.{HasChunk, LacksChunk, LacksClass}
use Rattle.pool_desk.proofs.DeskLaws.{not_both}
use Rattle.pool_jobs.proofs.Refusals.{lacking, no_memory}
use Rattle.pool_jobs.proofs.allocator.Allocator.why_none.Goals as goal

pub returns-then-has_home : goal.returns-then-has_home
returns-then-has_home g c =
    rw c.self.view_is at (no_memory c.args.class c.self.inside.station (rw (← c.self.view_is) at c.requires) (c.has_home.ensures.0 c.if-has_home.true))

pub returns-then-has_drawn : goal.returns-then-has_drawn
returns-then-has_drawn g c =
    let lacks : LacksClass c.args.class c.self.inside.station.desk.home
    = lacking c.args.class c.self.inside.station (rw (← c.self.view_is) at c.requires) (λ h. not_both c.has_home.result (c.has_home.ensures.1 h) c.if-has_home.false) in
    let chunk : HasChunk c.args.class c.self.inside.station.desk.drawn = rw c.if-has_drawn.true at c.has_drawn.ensures in
    rw (← c.self.view_is) (lacks, chunk)

pub returns-else-has_drawn : goal.returns-else-has_drawn
returns-else-has_drawn g c =
    let lacks : LacksClass c.args.class c.self.inside.station.desk.home
    = lacking c.args.class c.self.inside.station (rw (← c.self.view_is) at c.requires) (λ h. not_both c.has_home.result (c.has_home.ensures.1 h) c.if-has_home.false) in
    let none : LacksChunk c.args.class c.self.inside.station.desk.drawn = rw c.if-has_drawn.false at c.has_drawn.ensures in
    rw (← c.self.view_is) (lacks, none)
