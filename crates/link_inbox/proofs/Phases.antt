-- What stays of a node's phase and of a seat's knowledge.
use Rattle.std.proofs.Common.{◌≡◌, ℕ, suc, ◌+◌, ◌<◌, ◌≤◌, ◌≢◌, ◌⊎◌, List, ◌∷◌, map, length, get_or, set, sym, refl, ap, ◌∙◌, subst, inl, inr, ⊎_elim, arith}
use mathlib.Core.Path.{Path as Eq}
use mathlib.Core.Logic.{dite}
use mathlib.Core.Option.{some, some-injective}
use native.Mathlib.Decide.{ℕ_discrete, dec_le}
use lib.ListN.{get_elem?}
use Rattle.std.specs.Prelude.{Option, Some, None}
use Rattle.atomic_table.specs.Table.{State}
use Rattle.atomic_table.proofs.Lists.{at_map, set_else}
use Rattle.batch_inbox.specs.declared.place.Place.{Place}
use Rattle.link_inbox.specs.declared.rule.View.{View}
use Rattle.link_inbox.specs.declared.rule.Role.{Role}
use Rattle.link_inbox.specs.declared.rule.Role.TheVariants.{Idle, Prepared, Attached, Ready, Lifted, Spent}
use Rattle.link_inbox.specs.Rule.{free_mark, Entry, node_of, Stands, Phase, free, held, at, left, TableState, next_word, Half, Holds, AtPlace, InPhase, Sends, Gets, HasAttached, Knows, IsInOrder}
use Rattle.link_inbox.proofs.Lists.{at_bound, at_there}

abbrev pick : {P : Type 0} → Dec P → Phase → Phase → Phase
pick (yes _) a b = a
pick (no _) a b = b

pub put : (ℕ → Phase) → ℕ → Phase → ℕ → Phase
put f n x m = pick (ℕ_discrete m n) x (f m)

-- what holds of the new phase at n, and of each other one, holds after
pub at_put : (f : ℕ → Phase) (n : ℕ) (x : Phase) (F : ℕ → Phase → Type 0) (m : ℕ) → F n x → (m ≢ n → F m (f m)) → F m (put f n x m)
unfolding put
at_put f n x F m here other = go (ℕ_discrete m n)
  where
    go : (d : Dec (m ≡ n)) → F m (pick d x (f m))
    go (yes e) = subst (λ (k : ℕ). F k x) (sym e) here
    go (no ne) = other ne

pub put_here : (f : ℕ → Phase) (n : ℕ) (x : Phase) → Eq Phase (put f n x n) x
put_here f n x = at_put f n x (λ q y. q ≡ n → Eq Phase y x) n (λ _. refl) (λ ne. absurd (ne refl)) refl

pub put_else : (f : ℕ → Phase) (n : ℕ) (x : Phase) (m : ℕ) → m ≢ n → Eq Phase (put f n x m) (f m)
put_else f n x m ne = at_put f n x (λ q y. q ≢ n → Eq Phase y (f q)) m (λ h. absurd (h refl)) (λ _ _. refl) ne

pub place_of : Phase → ℕ
place_of free = 0
place_of (held j) = 0
place_of (at i) = i
place_of left = 0

pub apart : (f : ℕ → Phase) (m n : ℕ) (x y : Phase) → Eq Phase (f m) x → Eq Phase (f n) y → (Eq Phase x y → Unit {0} → ⊥) → m ≢ n
apart f m n x y a b ne e = ne (sym a ∙ ap f e ∙ b) tt

module _ {B : Type 0} where
  pub stays : (s s' : TableState B) (log : List (Entry B)) (gone : ℕ) (seat : ℕ → ℕ) (reader n : ℕ) → next_word s'.words n ≡ next_word s.words n → get_elem? s'.homes n ≡ get_elem? s.homes n
      → ((m : ℕ) → Half s.views n m → Half s'.views n m) → ((j : ℕ) → Holds s.views j n → Holds s'.views j n) → (ph : Phase) → InPhase s log gone seat reader n ph → InPhase s' log gone seat reader n ph
  stays s s' log gone seat reader n word home half hold free k = (word ∙ k.0, home ∙ k.1)
  stays s s' log gone seat reader n word home half hold (held j) k = (word ∙ k.0, hold j k.1)
  stays s s' log gone seat reader n word home half hold (at i) k = record {
    there = k.there;
    stands = k.stands;
    holds = λ q e is le lies. home ∙ k.holds q e is le lies;
    links = λ e lies. ⊎_elim (λ h. inl (word ∙ h)) (λ h. inr (word ∙ h.0, ⊎_elim (λ x. inl (half e.node x)) (λ x. inr x) h.1)) (k.links e lies);
    ends = λ le. word ∙ k.ends le;
  }
  stays s s' log gone seat reader n word home half hold left k = ((λ e. k.0 (sym word ∙ e)), home ∙ k.1)

  -- a seat that does not have the node in hand
  pub holds_stay : (views : List (View B)) (id : ℕ) (v w : View B) (m : ℕ) → get_elem? views id ≡ some v → ((v.role ≡ Prepared) × (v.node ≡ m) → ⊥) → (j : ℕ) → Holds views j m → Holds (set views id w) j m
  holds_stay views id v w m is none j h = let u : View B = h.0 in let other : j ≢ id = λ e. let same : u ≡ v = some-injective u v (sym h.1 ∙ ap (get_elem? views) e ∙ is) in none (ap (λ (z : View B). z.role) (sym same) ∙ h.2, ap (λ (z : View B). z.node) (sym same) ∙ h.3) in
      (u, set_else views id j w other ∙ h.1, h.2, h.3)

  -- a seat that has attached nothing is no reason for a missing link
  pub half_stays : (views : List (View B)) (id : ℕ) (v w : View B) (m : ℕ) → get_elem? views id ≡ some v → ((v.role ≡ Attached) × (v.before ≡ m) → ⊥) → (n : ℕ) → Half views m n → Half (set views id w) m n
  half_stays views id v w m is none n h = let u : View B = h.1 in let other : h.0 ≢ id = λ e. let same : u ≡ v = some-injective u v (sym h.2 ∙ ap (get_elem? views) e ∙ is) in none (ap (λ (z : View B). z.role) (sym same) ∙ h.3, ap (λ (z : View B). z.before) (sym same) ∙ h.4) in
      (h.0, u, set_else views id h.0 w other ∙ h.2, h.3, h.4, h.5)

  module _ (fits : Place → ℕ → B → Type 0) (key : Place) (s : TableState B) (r : IsInOrder fits key s) where
    pub one_place : (i k n : ℕ) → r.gone ≤ i → r.gone ≤ k → Stands r.log i n → Stands r.log k n → i ≡ k
    one_place i k n a b x y = let p : at i ≡ at k = sym (r.places i n a x).0 ∙ (r.places k n b y).0 in cc

    pub one_node : (i m n : ℕ) → Stands r.log i m → Stands r.log i n → m ≡ n
    one_node i m n x y = some-injective m n (sym x ∙ y)

    pub follows : (i : ℕ) (e : Entry B) → get_elem? r.log i ≡ some e → Stands r.log (suc i) e.node
    follows i e lies = at_map node_of r.log i e lies

    pub near : (i : ℕ) (e : Entry B) → r.gone ≤ i → get_elem? r.log i ≡ some e → e.node < length s.homes
    near i e le lies = (r.places (suc i) e.node (omega arith) (follows i e lies)).1

    at_free : (i n : ℕ) → AtPlace s r.log r.gone r.seat r.reader n i → next_word s.words n ≢ free_mark
    at_free i n k e = dite (dec_le (length r.log) i)
        (λ (le : length r.log ≤ i). let z = k.ends le in let y : ℕ = next_word s.words n in let a : y ≡ 0 = z in let b : y ≡ 18446744073709551615 = e in omega arith)
        (λ (lt : ¬ (length r.log ≤ i)). let q = at_there r.log i (omega arith) in let y : ℕ = next_word s.words n in let b : y ≡ 18446744073709551615 = e in
        ⊎_elim (λ h. let a : y ≡ q.0.node = h in let c : q.0.node < length s.homes = near i q.0 k.there q.1 in let d : length s.homes < 18446744073709551615 = r.roomy in omega arith)
        (λ h. let a : y ≡ 0 = h.0 in omega arith) (k.links q.0 q.1))

    pub is_free : (n : ℕ) → next_word s.words n ≡ free_mark → (ph : Phase) → InPhase s r.log r.gone r.seat r.reader n ph → (Eq Phase ph free) × InPhase s r.log r.gone r.seat r.reader n free
    is_free n e free k = (refl, k)
    is_free n e (held j) k = let y : ℕ = next_word s.words n in let a : y ≡ 0 = k.0 in let b : y ≡ 18446744073709551615 = e in absurd (omega arith)
    is_free n e (at i) k = absurd (at_free i n k e)
    is_free n e left k = absurd (k.0 e)

  -- what another seat knows stays where each part of it does
  module _ (s s' : TableState B) (log log' : List (Entry B)) (gone gone' made made' : ℕ) (phase phase' : ℕ → Phase) (seat seat' : ℕ → ℕ) (reader reader' : ℕ) (key : Place) (j : ℕ) (v : View B) where
    pub knows_on : length s'.homes ≡ length s.homes
        → (Sends s log gone made phase seat reader key j v → Sends s' log' gone' made' phase' seat' reader' key j v)
        → (Gets s log gone made phase seat reader key j v → Gets s' log' gone' made' phase' seat' reader' key j v)
        → (Eq Phase (phase v.node) (held j) → Eq Phase (phase' v.node) (held j))
        → (Sends s log gone made phase seat reader key j v → HasAttached s log gone made phase seat reader key j v → HasAttached s' log' gone' made' phase' seat' reader' key j v)
        → (Gets s log gone made phase seat reader key j v → get_elem? s.homes v.node ≡ some (some None) → get_elem? s'.homes v.node ≡ some (some None))
        → (Gets s log gone made phase seat reader key j v → Eq Phase (phase v.before) left → Eq Phase (phase' v.before) left)
        → (ro : Role) → Knows s log gone made phase seat reader key j v ro → Knows s' log' gone' made' phase' seat' reader' key j v ro
    knows_on wide a b c d e f Idle k = a k
    knows_on wide a b c d e f Prepared k = (a k.0, c k.1, subst (λ (z : ℕ). v.node < z) (sym wide) k.2, k.3)
    knows_on wide a b c d e f Attached k = (a k.0, d k.0 k.1)
    knows_on wide a b c d e f Ready k = (b k.0, e k.0 k.1)
    knows_on wide a b c d e f Lifted k = (b k.0, f k.0 k.1, subst (λ (z : ℕ). v.before < z) (sym wide) k.2, k.3)
    knows_on wide a b c d e f Spent k = tt
