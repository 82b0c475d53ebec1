-- The list of a chain's buffers.
use Rattle.std.specs.Prelude.{◌≡◌, ◌≢◌, List, [], ◌∷◌, ◌++◌, Option, Some, None}
use denote.RawPtr.{Ptr, null_ptr, block_ptr}
use Rattle.slot_chain.specs.declared.link.Link.{Link}
use Rattle.slot_chain.specs.declared.node.Node.{Node}
use Rattle.slot_chain.specs.Buffer.{Buffer, IsBuffer}

-- the buffer of a node
abbrev pub buffer_of : Node → Buffer
buffer_of n = record {
  slot = n.slot;
  class = n.class;
  owner = n.owner;
  forwards = n.forwards;
  filled = n.filled;
  bytes = n.lease.bytes;
}

-- the buffers of a chain, which are none where it was moved out
abbrev pub held : Option (List Buffer) → List Buffer
held None = []
held (Some bs) = bs

-- the node of a buffer that is in no chain: nothing is below it
abbrev pub IsAlone : Node → Type 0
IsAlone n = IsBuffer (buffer_of n) × (held n.below ≡ [])

-- the node of a buffer on top of a chain: what is below it was not moved out
abbrev pub IsListed : Node → Type 0
IsListed n = IsBuffer (buffer_of n) × (n.below ≢ None)

-- those below a node, and its own
abbrev pub buffers_from : Node → List Buffer
buffers_from n = held n.below ++ buffer_of n ∷ []

abbrev pub buffers_at : Option Node → List Buffer
buffers_at None = []
buffers_at (Some n) = buffers_from n

abbrev pub buffers_of : Link Node → List Buffer
buffers_of l = buffers_at l.value

abbrev pub node_is_listed : Option Node → Type 0
node_is_listed None = Unit {0}
node_is_listed (Some n) = IsListed n

abbrev pub top_is_listed : Link Node → Type 0
top_is_listed l = node_is_listed l.value

-- the top of a chain: null where the chain is empty
abbrev pub is_list : Link Node → Type 0
is_list l = ((l.value ≡ None) → (l.at ≡ null_ptr)) × top_is_listed l

-- the chain of a top, which was moved out where neither a box nor null is left
abbrev pub below_at : Option Node → Ptr → Option (List Buffer)
below_at None null_ptr = Some []
below_at None (block_ptr _ _) = None
below_at (Some n) _ = Some (buffers_from n)

abbrev pub below_of : Link Node → Option (List Buffer)
below_of l = below_at l.value l.at
