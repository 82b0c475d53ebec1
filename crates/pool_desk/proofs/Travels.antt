-- Desks cross threads, each part by the lemmas of what it holds.
use denote.Ref.{NamedLft}
use denote.Param.Send.{IsSend, sendable}
use Rattle.std.proofs.Crossing.{crosses}
use Rattle.digit_route.proofs.Travels.{parcels_send, buf_send, chain_send, cache_send}
use Rattle.pool_desk.specs.contracts.desk.Desk as Desk
use Rattle.pool_desk.specs.contracts.home.Home as Home
use Rattle.pool_desk.specs.contracts.homes.Homes as Homes
use Rattle.pool_desk.specs.contracts.spares.Spares as Spares
use Rattle.slot_chain.proofs.Travels.{late_array_send}
use Rattle.slot_chain.specs.contracts.stack.Stack as Stack
use Rattle.region_cut.proofs.part.Bump.TheSendSync.{the_send as bump_send}
use Rattle.region_cut.proofs.endings.ties.Ties.TheSendSync.{the_send as ties_send}

pub stack_send : (a : NamedLft) → IsSend (Stack.the_row a)
stack_send a = search (sendable, crosses, chain_send, buf_send, late_array_send) depth 40 fits 6000

pub home_send : (a : NamedLft) → IsSend (Home.the_row a)
home_send a = search (sendable, crosses, parcels_send, stack_send, bump_send, ties_send) depth 40 fits 6000

pub homes_send : (a : NamedLft) → IsSend (Homes.the_row a)
homes_send a = search (sendable, crosses, home_send) depth 40 fits 6000

pub spares_send : (a : NamedLft) → IsSend (Spares.the_row a)
spares_send a = search (sendable, crosses, buf_send) depth 40 fits 6000

pub desk_send : (a : NamedLft) → IsSend (Desk.the_row a)
desk_send a = search (sendable, crosses, cache_send, homes_send, spares_send) depth 40 fits 6000
