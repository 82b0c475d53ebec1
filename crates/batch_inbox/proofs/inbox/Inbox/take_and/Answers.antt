use Rattle.std.proofs.Common.{refl}
use Rattle.batch_inbox.proofs.inbox.Inbox.take_and.Goals as goal

pub pop-requires : goal.pop-requires
pop-requires g c κs = rw c.is_empty.ensures.same ((refl, tt), (c.requires.seat, c.requires.lesson))
