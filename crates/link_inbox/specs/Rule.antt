-- The rule of an inbox, between any two steps.
-- Word 0 is the back, and word n + 1 the next word of the node n. The slot n has the batch of the node n.
use Rattle.std.specs.Prelude.{◌≡◌, ◌≢◌, ℕ, suc, ◌+◌, ◌*◌, ◌%◌, ◌<◌, ◌≤◌, ◌⊎◌, ◌==◌, cond, Option, Some, None}
use Rattle.std.specs.Prelude.{List, [], ◌∷◌, map, length, take, slice_index_or}
use mathlib.Core.Option.{some}
use lib.ListN.{get_elem?}
use Rattle.atomic_table.specs.Table.{State}
use Rattle.batch_inbox.specs.declared.place.Place.{Place}
use Rattle.link_inbox.specs.declared.rule.View.{View}
use Rattle.link_inbox.specs.declared.rule.Role.{Role}
use Rattle.link_inbox.specs.declared.rule.Role.TheVariants.{Idle, Prepared, Attached, Ready, Lifted, Spent}

-- the next word of a free node
abbrev pub free_mark : ℕ
free_mark = 18446744073709551615

-- the node in which the sender s lays its batch number k: the node 0 is the opening front, and then come 16 of each
abbrev pub node_for : ℕ → ℕ → ℕ
node_for s k = s * 16 + 1 + k % 16

-- what was attached: by which sender, in which node, and the batch
pub record Entry (B : Type 0) : Type 0 where
  pub by : ℕ
  pub node : ℕ
  pub item : B

module _ {B : Type 0} where
  abbrev pub entry : ℕ → ℕ → B → Entry B
  entry s n b = record { by = s; node = n; item = b }

  abbrev pub node_of : Entry B → ℕ
  node_of e = e.node

  abbrev pub item_of : Entry B → B
  item_of e = e.item

  -- the batches of the sender s, in order
  abbrev pub sent_by : ℕ → List (Entry B) → List B
  sent_by s [] = []
  sent_by s (e ∷ es) = cond (e.by == s) (e.item ∷ sent_by s es) (sent_by s es)

  -- the node n stands at the place i: the opening front at 0, and then each node in the order of the exchanges
  abbrev pub Stands : List (Entry B) → ℕ → ℕ → Type 0
  Stands log i n = get_elem? (0 ∷ map node_of log) i ≡ some n

-- where a node is: free, in the hand of the seat j, in the queue at the place i, or left behind by the receiver
pub data Phase : Type 0 where
  free : Phase
  held : ℕ → Phase
  at : ℕ → Phase
  left : Phase

-- the words, what lies in the slots, and what each seat knows
abbrev pub TableState : Type 0 → Type 0
TableState B = State (Option B) (View B)

abbrev pub next_word : List ℕ → ℕ → ℕ
next_word words n = slice_index_or words (n + 1) 0

module _ {B : Type 0} where
  -- some seat has attached n behind m, and not linked it
  abbrev pub Half : List (View B) → ℕ → ℕ → Type 0
  Half views m n =
      (j : ℕ) × (v : View B)
      × (get_elem? views j ≡ some v) × (v.role ≡ Attached) × (v.before ≡ m) × (v.node ≡ n)

  -- the seat j has the node n in hand
  abbrev pub Holds : List (View B) → ℕ → ℕ → Type 0
  Holds views j n = (v : View B) × (get_elem? views j ≡ some v) × (v.role ≡ Prepared) × (v.node ≡ n)

  module _ (s : TableState B) (log : List (Entry B)) (gone : ℕ) (seat : ℕ → ℕ) (reader n : ℕ) where
    -- a node of the queue: its slot has its batch, and its next word names the node after it, which is 0 while that
    -- one is half-linked, or there is none
    pub record AtPlace (i : ℕ) : Type 0 where
      pub there : gone ≤ i
      pub stands : Stands log i n
      pub holds : (k : ℕ) (e : Entry B) → i ≡ suc k → gone ≤ k → get_elem? log k ≡ some e
          → get_elem? s.homes n ≡ some (some (Some e.item))
      pub links : (e : Entry B) → get_elem? log i ≡ some e
          → (next_word s.words n ≡ e.node)
          ⊎ ((next_word s.words n ≡ 0) × (Half s.views n e.node ⊎ (seat e.by ≡ reader)))
      pub ends : length log ≤ i → next_word s.words n ≡ 0

    abbrev pub InPhase : Phase → Type 0
    InPhase free = (next_word s.words n ≡ free_mark) × (get_elem? s.homes n ≡ some (some None))
    InPhase (held j) = (next_word s.words n ≡ 0) × Holds s.views j n
    InPhase (at i) = AtPlace i
    InPhase left = (next_word s.words n ≢ free_mark) × (get_elem? s.homes n ≡ some (some None))

  module _ (s : TableState B) (log : List (Entry B)) (gone made : ℕ) (phase : ℕ → Phase) (seat : ℕ → ℕ) (reader : ℕ)
      (key : Place) (j : ℕ) (v : View B) where
    -- a sender knows what it attached
    pub record Sends : Type 0 where
      pub seated : seat v.sender ≡ j
      pub known : v.sender < made
      pub sent : v.list ≡ sent_by v.sender log

    -- the receiver knows what was taken, how many senders there are, and of those whose seats it took in what they
    -- attached
    pub record Gets : Type 0 where
      pub reads : reader ≡ j
      pub makes : v.made ≡ made
      pub front : Stands log gone v.node
      pub taken : v.list ≡ map item_of (take gone log)
      pub tag : v.place ≡ key
      pub gathered : (k : ℕ) (l : List B) → get_elem? v.known k ≡ some l
          → (l ≡ sent_by (v.sender + k) log) × (seat (v.sender + k) ≡ reader) × (v.sender + k < made)

    -- a sender whose batch is half-linked knows behind which node it stands, and no other writes that one's next word
    pub record HasAttached : Type 0 where
      pub place : ℕ
      pub last : Entry B
      pub there : gone ≤ place
      pub behind : Stands log place v.before
      pub logged : get_elem? log place ≡ some last
      pub node_is : last.node ≡ v.node
      pub by_is : last.by ≡ v.sender
      pub unlinked : next_word s.words v.before ≡ 0

    abbrev pub Knows : Role → Type 0
    Knows Idle = Sends
    Knows Prepared =
        Sends × (phase v.node ≡ held j) × (v.node < length s.homes)
        × (v.node ≡ node_for v.sender (length v.list))
    Knows Attached = Sends × HasAttached
    Knows Ready = Gets × (get_elem? s.homes v.node ≡ some (some None))
    Knows Lifted = Gets × (phase v.before ≡ left) × (v.before < length s.homes) × (v.before ≢ v.node)
    Knows Spent = Unit {0}

  module _ (fits : Place → ℕ → B → Type 0) (key : Place) (s : TableState B) where
    -- There is a list of all that was attached, in the order of the exchanges, of which the first `gone` were taken.
    -- Each node has one phase and each sender one seat.
    pub record IsInOrder : Type 0 where
      pub log : List (Entry B)
      pub gone : ℕ
      pub made : ℕ
      pub phase : ℕ → Phase
      pub seat : ℕ → ℕ
      pub reader : ℕ
      pub wide : length s.words ≡ length s.homes + 1
      pub roomy : length s.homes < free_mark
      pub behind : gone ≤ length log
      pub back : Stands log (length log) (slice_index_or s.words 0 0)
      pub entries : (k : ℕ) (e : Entry B) → get_elem? log k ≡ some e
          → (e.node ≡ node_for e.by (length (sent_by e.by (take k log)))) × (e.by < made) × fits key e.by e.item
      pub places : (i n : ℕ) → gone ≤ i → Stands log i n → (phase n ≡ at i) × (n < length s.homes)
      pub nodes : (n : ℕ) → n < length s.homes → InPhase s log gone seat reader n (phase n)
      pub seats : (j : ℕ) (v : View B) → get_elem? s.views j ≡ some v
          → Knows s log gone made phase seat reader key j v v.role
