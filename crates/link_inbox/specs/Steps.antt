-- What each step tells the seat that makes it.
use Rattle.std.specs.Prelude.{◌≡◌, ◌≢◌, ℕ, suc, ◌+◌, ◌<◌, List, [], ◌∷◌, ◌++◌, Option, Some, None}
use Rattle.atomic_table.specs.Table.{Me, Step, rest}
use Rattle.batch_inbox.specs.Views.{nowhere}
use Rattle.batch_inbox.specs.declared.place.Place.{Place}
use Rattle.link_inbox.specs.declared.rule.View.{View}
use Rattle.link_inbox.specs.declared.rule.Role.{Role}
use Rattle.link_inbox.specs.declared.rule.Role.TheVariants.{Idle, Prepared, Attached, Ready, Lifted, Spent}

-- what a seat knows, and the slots that it has in hand
abbrev pub SeatState : Type 0 → Type 0
SeatState B = Me (Option B) (View B)

module _ {B : Type 0} where
  abbrev pub view : Role → Place → ℕ → ℕ → ℕ → ℕ → List B → List (List B) → View B
  view r a s m n p l k =
      record { role = r; place = a; sender = s; made = m; node = n; before = p; list = l; known = k }

  abbrev pub prepared : View B → ℕ → View B
  prepared v n = view Prepared v.place v.sender v.made n 0 v.list v.known

  abbrev pub attached : View B → ℕ → B → View B
  attached v p b = view Attached v.place v.sender v.made v.node p (v.list ++ b ∷ []) v.known

  abbrev pub idle : View B → View B
  idle v = view Idle v.place v.sender v.made 0 0 v.list v.known

  abbrev pub lifted : View B → ℕ → B → View B
  lifted v n b = view Lifted v.place v.sender v.made n v.node (v.list ++ b ∷ []) v.known

  abbrev pub rested : View B → View B
  rested v = view Ready v.place v.sender v.made v.node 0 v.list v.known

  -- the receiver has made one more sender, and the new seat is that sender's
  abbrev pub maker : View B → View B
  maker v = view v.role v.place v.sender (suc v.made) v.node v.before v.list v.known

  abbrev pub newcomer : View B → View B
  newcomer v = view Idle v.place v.made 0 0 0 [] []

  -- the receiver knows what the sender has attached in all, and that the sender attaches no more
  abbrev pub gathered : View B → View B → View B
  gathered v w = view v.role v.place w.sender v.made v.node v.before v.list (w.list ∷ v.known)

  abbrev pub spent : View B
  spent = view Spent nowhere 0 0 0 0 [] []

  -- the receiver's at first, at the opening front
  abbrev pub opener : Place → View B
  opener a = view Ready a 0 0 0 0 [] []

  -- the word of the node n was `free`, and the seat has the node; or nothing changed
  abbrev pub prepares : Step (Option B) → SeatState B → ℕ → SeatState B → Type 0
  prepares st m r m' =
      (r ≡ st.first → (n : ℕ) → st.word ≡ n + 1 → (m'.0 ≡ prepared m.0 n) × (m'.1 ≡ (n, None) ∷ m.1))
      × (r ≢ st.first → (m'.0 ≡ m.0) × (m'.1 ≡ m.1))

  -- the seat's node, with its batch, stands behind the node r
  abbrev pub attaches : Step (Option B) → SeatState B → ℕ → SeatState B → Type 0
  attaches st m r m' =
      (r < st.slots) × ((b : B) → m.1 ≡ (m.0.node, Some b) ∷ rest m.1 → m'.0 ≡ attached m.0 r b) × (m'.1 ≡ rest m.1)

  abbrev pub links : SeatState B → SeatState B → Type 0
  links m m' = (m'.0 ≡ idle m.0) × (m'.1 ≡ m.1)

  -- the front's next word names no node, and nothing changed; or the node that it names is the front now
  abbrev pub takes_next : (Place → ℕ → B → Type 0) → Step (Option B) → SeatState B → ℕ → SeatState B → Type 0
  takes_next fits st m r m' =
      (r ≡ 0 → (m'.0 ≡ m.0) × (m'.1 ≡ m.1))
      × (r ≢ 0 → (r < st.slots)
      × ((b : B) × (by : ℕ) × (m'.0 ≡ lifted m.0 r b) × (m'.1 ≡ (r, Some b) ∷ m.1) × fits m.0.place by b))

  -- the node that was left behind is free
  abbrev pub frees : SeatState B → SeatState B → Type 0
  frees m m' = (m'.0 ≡ rested m.0) × (m'.1 ≡ rest m.1)
