use Rattle.std.proofs.Common.{length}
use Rattle.digit_route.proofs.Loops.{Posted}
use Rattle.digit_route.proofs.cache.Cache.post_all.Given as goal

abbrev pub invariant-loop-batch : goal.invariant-loop-batch
invariant-loop-batch g l =
    Posted l.fn.self.digits l.fn.self.number l.fn.self.limit l.fn.self.items (g.S.BatchSink.given l.initial.sink) (g.S.BatchSink.given l.sink) l.posting

abbrev pub decreases-loop-batch : goal.decreases-loop-batch
decreases-loop-batch g l = length l.posting.items
