-- What a desk's answers are called on the floor.
use Rattle.digit_route.specs.declared.error.RouteError.{RouteError}
use Rattle.digit_route.specs.declared.error.RouteError.TheVariants.{ToSelf as RouteToSelf}
use Rattle.digit_route.specs.declared.error.RouteError.TheVariants.{NothingFor as RouteNothingFor}
use Rattle.digit_route.specs.declared.error.RouteError.TheVariants.{NotAnOwner as RouteNotAnOwner}
use Rattle.pool_desk.specs.declared.error.DeskError.{DeskError}
use Rattle.pool_desk.specs.declared.error.DeskError.TheVariants.{TooLarge as DeskTooLarge, NeedChunk as DeskNeedChunk}
use Rattle.pool_desk.specs.declared.error.DeskError.TheVariants.{NotNeeded as DeskNotNeeded, Unsettled as DeskUnsettled}
use Rattle.pool_desk.specs.declared.error.DeskError.TheVariants.{NoMemory as DeskNoMemory}
use Rattle.pool_desk.specs.declared.freed.Freed.{Freed}
use Rattle.pool_desk.specs.declared.freed.Freed.TheVariants.{Home as FreedHome, Cached as FreedCached, Due as FreedDue}
use Rattle.pool_machine.specs.declared.reply.Reply.{Reply}
use Rattle.pool_machine.specs.declared.reply.Reply.TheVariants.{Home, Cached, Due}
use Rattle.pool_machine.specs.declared.refusal.Refusal.{Refusal}
use Rattle.pool_machine.specs.declared.refusal.Refusal.TheVariants.{TooLarge, NeedChunk, NotNeeded, Unsettled, NoMemory}
use Rattle.pool_machine.specs.declared.refusal.Refusal.TheVariants.{ToSelf, NothingFor, NotAnOwner}

abbrev pub reply_of : Freed → Reply
reply_of FreedHome = Home
reply_of FreedCached = Cached
reply_of FreedDue = Due

abbrev pub refusal_of : DeskError → Refusal
refusal_of DeskTooLarge = TooLarge
refusal_of (DeskNeedChunk class) = NeedChunk
refusal_of DeskNotNeeded = NotNeeded
refusal_of DeskUnsettled = Unsettled
refusal_of DeskNoMemory = NoMemory

abbrev pub route_refusal : RouteError → Refusal
route_refusal RouteToSelf = ToSelf
route_refusal RouteNothingFor = NothingFor
route_refusal RouteNotAnOwner = NotAnOwner
