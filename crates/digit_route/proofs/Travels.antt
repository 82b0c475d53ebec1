-- Which types of this crate, and of lists of buffers, cross threads, each by the lemmas of what it holds.
use denote.Ref.{NamedLft}
use denote.Param.Send.{IsSend, sendable}
use Rattle.std.proofs.Crossing.{crosses}
use Rattle.slot_chain.proofs.below.Below.TheLaws.TheKnot.{send-Below, send-Node}
use Rattle.slot_chain.proofs.lease.Lease.TheSendSync.{the_send as lease_send}
use Rattle.slot_chain.proofs.link.Link.TheSendSync.{the_send as link_send}
use Rattle.slot_chain.specs.contracts.chain.Chain as Chain
use Rattle.slot_chain.specs.contracts.empty.EmptyMagazine as EmptyMagazine
use Rattle.slot_chain.specs.contracts.magazine.Magazine as Magazine
use Rattle.slot_chain.specs.contracts.buf.Buf as Buf
use Rattle.slot_chain.specs.contracts.parcel.BufParcel as BufParcel
use Rattle.slot_chain.specs.contracts.parcels.Parcels as Parcels
use Rattle.digit_route.specs.contracts.batch.Batch as Batch
use Rattle.digit_route.specs.contracts.cache.Cache as Cache

pub chain_send : (a : NamedLft) → IsSend (Chain.the_row a)
chain_send a = search (sendable, crosses, send-Node, send-Below, link_send, lease_send) depth 40 fits 6000

pub buf_send : (a : NamedLft) → IsSend (Buf.the_row a)
buf_send a = search (sendable, crosses, send-Node, send-Below, link_send, lease_send) depth 40 fits 6000

pub parcel_send : (a : NamedLft) → IsSend (BufParcel.the_row a)
parcel_send a = search (sendable, crosses, buf_send) depth 40 fits 6000

pub parcels_send : (a : NamedLft) → IsSend (Parcels.the_row a)
parcels_send a = search (sendable, crosses, parcel_send) depth 40 fits 6000

pub magazine_send : (a : NamedLft) → IsSend (Magazine.the_row a)
magazine_send a = search (sendable, crosses, chain_send, parcels_send, buf_send) depth 40 fits 6000

pub empty_send : (a : NamedLft) → IsSend (EmptyMagazine.the_row a)
empty_send a = search (sendable, crosses, parcels_send, buf_send) depth 40 fits 6000

pub batch_send : (a : NamedLft) → IsSend (Batch.the_row a)
batch_send a = search (sendable, crosses, magazine_send) depth 40 fits 6000

pub cache_send : (a : NamedLft) → IsSend (Cache.the_row a)
cache_send a = search (sendable, crosses, magazine_send) depth 40 fits 6000
