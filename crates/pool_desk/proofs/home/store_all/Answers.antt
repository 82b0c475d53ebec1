use Rattle.std.proofs.lemmas.List.Sorted.{IsPermutation-append_left, IsPermutation-trans}
use Rattle.pool_desk.proofs.HomeLaws.{moved_last}
use Rattle.pool_desk.proofs.home.store_all.Goals as goal

pub loop-buf-preserved : goal.loop-buf-preserved
loop-buf-preserved c =
    IsPermutation-trans _ _ _ (moved_last _ c.loop-buf.list c.pop.new.self.items c.in-Some.buf (rw c.in-Some.ensures.items at c.loop-buf.invariant))
    (IsPermutation-append_left c.pop.new.self.items _ _ c.store.ensures)
