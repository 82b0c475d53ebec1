use Rattle.std.proofs.Common.{refl}
use Rattle.pool_jobs.proofs.Bursts.{into_none, into_whole, keeps_same}
use Rattle.pool_jobs.proofs.allocator.Allocator.lend_whole.Goals as goal

pub returns-then-most-eq0 : goal.returns-then-most-eq0
returns-then-most-eq0 g c = into_none _ _ _ _ _ _ (keeps_same _ _ _ refl c.requires.digits)

pub returns-then-not-lend_whole : goal.returns-then-not-lend_whole
returns-then-not-lend_whole g c =
    let back = c.if-not-lend_whole.ensures in
    rw (← c.self.view_is, back.1) (into_none _ _ _ _ _ _ (keeps_same _ _ _ back.0 (rw (← c.self.view_is) at c.requires.digits)))

pub returns : goal.returns
returns g c =
    let lent = c.if-not-lend_whole.ensures in
    rw (← c.self.view_is, c.len.ensures) (into_whole _ _ c.args.class _ _ _ _ _ c.requires.class (rw (← c.self.view_is) at c.requires.digits) lent)
