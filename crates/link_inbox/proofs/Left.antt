-- What is left in the slots once all senders were taken in.
use Rattle.std.proofs.Common.{◌≡◌, ℕ, zero, suc, ◌+◌, ◌-◌, ◌*◌, ◌/◌, ◌%◌, ◌<◌, ◌≤◌, ◌≢◌, ◌⊎◌, eqb, eq-eqb, ne_eqb, cond, Bool, List, [], ◌∷◌, ◌++◌, map, length, take, drop, get_or, sym, refl, ap, ◌∙◌, subst, inl, inr, ⊎_elim, arith, length-append, le_refl}
use mathlib.Core.Path.{Path as Eq}
use mathlib.Core.Logic.{dite}
use mathlib.Core.Option.{none, some, some-injective, some-ne-none}
use mathlib.Core.Option as maybe
use native.Mathlib.Decide.{ℕ_discrete, dec_le}
use lib.ListN.{get_elem?}
use Rattle.std.proofs.lemmas.List.{take-append-drop}
use Rattle.std.proofs.Math.Seq.{drop-append_seam, take-length}
use Rattle.std.specs.Prelude.{Option, Some, None}
use Rattle.atomic_table.specs.Table.{Final, Seen}
use Rattle.atomic_table.proofs.Lists.{drop_at}
use Rattle.batch_inbox.specs.declared.place.Place.{Place}
use Rattle.link_inbox.specs.declared.rule.View.{View}
use Rattle.link_inbox.specs.declared.rule.Role.{Role}
use Rattle.link_inbox.specs.declared.rule.Role.TheVariants.{Idle, Prepared, Attached, Ready, Lifted, Spent}
use Rattle.link_inbox.specs.Rule.{free_mark, node_for, Entry, sent_by, item_of, Stands, Phase, free, held, at, left, TableState, next_word, Half, Holds, AtPlace, InPhase, Sends, Gets, HasAttached, Knows, IsInOrder}
use Rattle.std.specs.List.{filter}
use Rattle.link_inbox.specs.Remains.{ahead, row}
use Rattle.link_inbox.proofs.Lists.{at_end, at_bound, at_there, at_or, drop_past, of_append, of_none}
use Rattle.link_inbox.proofs.Phases.{one_place, one_node, follows}
use Rattle.link_inbox.proofs.Prepare.{knows}
use Rattle.link_inbox.proofs.Attach.{stands_bound}

module _ {B : Type 0} where
  count : ℕ → List (Entry B) → ℕ
  count s l = length (sent_by s l)

  grows : (s : ℕ) (e : Entry B) (b : Bool) (l : List B) → length l ≤ length (cond b (e.item ∷ l) l)
  grows s e Bool.true l = omega arith
  grows s e Bool.false l = omega arith

  same_step : (e : Entry B) (b : Bool) (k l : List B) → length k ≤ length l → length (cond b (e.item ∷ k) k) ≤ length (cond b (e.item ∷ l) l)
  same_step e Bool.true k l le = omega arith
  same_step e Bool.false k l le = le

  -- the count of a sender's batches grows along the log
  rises : (s a b : ℕ) (l : List (Entry B)) → a ≤ b → length (sent_by s (take a l)) ≤ length (sent_by s (take b l))
  rises s zero b l le = omega arith
  rises s (suc a) zero l le = absurd (omega arith)
  rises s (suc a) (suc b) [] le = omega arith
  rises s (suc a) (suc b) (e ∷ es) le = same_step e (eqb e.by s) (sent_by s (take a es)) (sent_by s (take b es)) (rises s a b es (omega arith))

  rises_all : (s a : ℕ) (l : List (Entry B)) → length (sent_by s (take a l)) ≤ length (sent_by s l)
  rises_all s zero l = omega arith
  rises_all s (suc a) [] = omega arith
  rises_all s (suc a) (e ∷ es) = same_step e (eqb e.by s) (sent_by s (take a es)) (sent_by s es) (rises_all s a es)

  one_step : (s i : ℕ) (l : List (Entry B)) (e : Entry B) → get_elem? l i ≡ some e → e.by ≡ s → length (sent_by s (take (suc i) l)) ≡ length (sent_by s (take i l)) + 1
  one_step s i [] e h by = absurd (some-ne-none e (sym h))
  one_step s zero (x ∷ xs) e h by = let y : x.by ≡ s = ap (λ (z : Entry B). z.by) (some-injective x e h) ∙ by in ap (λ (b : Bool). length (cond b (x.item ∷ []) [])) (eq-eqb x.by s y)
  one_step s (suc i) (x ∷ xs) e h by = let y = one_step s i xs e h by in both (eqb x.by s) (sent_by s (take (suc i) xs)) (sent_by s (take i xs)) y
    where
      both : (b : Bool) (k l : List B) → length k ≡ length l + 1 → length (cond b (x.item ∷ k) k) ≡ length (cond b (x.item ∷ l) l) + 1
      both Bool.true k l e = omega arith
      both Bool.false k l e = e

  abbrev Found : ℕ → List (Entry B) → ℕ → Type 0
  Found s l q = (i : ℕ) × (e : Entry B) × (get_elem? l i ≡ some e) × (e.by ≡ s) × (length (sent_by s (take i l)) ≡ q) × (get_elem? (sent_by s l) q ≡ some e.item)

  -- the batch number q of a sender is in the log
  finds : (s : ℕ) (l : List (Entry B)) (q : ℕ) → q < length (sent_by s l) → Found s l q
  finds s [] q lt = absurd (omega arith)
  finds s (x ∷ xs) q lt = dite (ℕ_discrete x.by s) (λ e. here (λ k lt'. finds s xs k lt') q e (subst (λ (b : Bool). q < length (cond b (x.item ∷ sent_by s xs) (sent_by s xs))) (eq-eqb x.by s e) lt))
      (λ ne. let b = ne_eqb x.by s ne in let f = finds s xs q (subst (λ (b : Bool). q < length (cond b (x.item ∷ sent_by s xs) (sent_by s xs))) b lt) in
      (suc f.0, f.1, f.2, f.3, ap (λ (b : Bool). length (cond b (x.item ∷ sent_by s (take f.0 xs)) (sent_by s (take f.0 xs)))) b ∙ f.4, ap (λ (b : Bool). get_elem? (cond b (x.item ∷ sent_by s xs) (sent_by s xs)) q) b ∙ f.5))
    where
      here : ((k : ℕ) → k < length (sent_by s xs) → Found s xs k) → (q : ℕ) → x.by ≡ s → q < length (x.item ∷ sent_by s xs) → Found s (x ∷ xs) q
      here more zero e lt = (0, x, refl, e, refl, ap (λ (b : Bool). get_elem? (cond b (x.item ∷ sent_by s xs) (sent_by s xs)) 0) (eq-eqb x.by s e))
      here more (suc q) e lt = let b = eq-eqb x.by s e in let f = more q (omega arith) in
          (suc f.0, f.1, f.2, f.3, ap (λ (b : Bool). length (cond b (x.item ∷ sent_by s (take f.0 xs)) (sent_by s (take f.0 xs)))) b ∙ ap suc f.4, ap (λ (b : Bool). get_elem? (cond b (x.item ∷ sent_by s xs) (sent_by s xs)) (suc q)) b ∙ f.5)

  -- the same batch by its place in the log
  numbers : (s : ℕ) (l : List (Entry B)) (i : ℕ) (e : Entry B) → get_elem? l i ≡ some e → e.by ≡ s → length (sent_by s (take i l)) < length (sent_by s l)
  numbers s l i e h by = let a = one_step s i l e h by in let b = rises_all s (suc i) l in omega arith

  after : (s : ℕ) (log : List (Entry B)) (gone : ℕ) → sent_by s log ≡ sent_by s (take gone log) ++ drop (length (sent_by s (take gone log))) (sent_by s log)
  after s log gone = let x = sent_by s (take gone log) in let y = sent_by s (drop gone log) in
      let e : sent_by s log ≡ x ++ y = ap (sent_by s) (sym (take-append-drop gone log)) ∙ of_append s (take gone log) (drop gone log) in
      e ∙ ap (λ (z : List B). x ++ z) (sym (ap (drop (length x)) e ∙ drop-append_seam x y))

module _ {B : Type 0} (fits : Place → ℕ → B → Type 0) (key : Place) (s : TableState B) (r : IsInOrder fits key s) (id : ℕ) (v : View B) (is : get_elem? s.views id ≡ some v) (role : v.role ≡ Ready) (all : v.sender ≡ 0) (known : length v.known ≡ v.made) where
  g : Gets s r.log r.gone r.made r.phase r.seat r.reader key id v
  g = (knows fits key s r id v is Ready role).0

  -- every sender was taken in
  inside : (k : ℕ) → k < r.made → r.seat k ≡ r.reader
  inside k lt = let m = g.makes in let q = at_there v.known k (let a : length v.known ≡ v.made = known in omega arith) in let z : v.sender + k ≡ k = omega arith in subst (λ (y : ℕ). r.seat y ≡ r.reader) z (g.gathered k q.0 q.1).1

  -- so no seat has a node in hand
  no_hand : (j n : ℕ) → Holds s.views j n → ⊥
  no_hand j n h = let k = (knows fits key s r j h.0 h.1 Prepared h.2).0 in let z : j ≡ id = sym k.seated ∙ (inside h.0.sender k.known ∙ g.reads) in
      let same : Eq (View B) h.0 v = some-injective h.0 v (sym h.1 ∙ ap (get_elem? s.views) z ∙ is) in let f : Eq Role Prepared Ready = sym h.2 ∙ ap (λ (y : View B). y.role) same ∙ role in cc

  abbrev Queued : ℕ → Type 0
  Queued n = (k : ℕ) × (e : Entry B) × (r.gone ≤ k) × (get_elem? r.log k ≡ some e) × (e.node ≡ n) × (get_elem? s.homes n ≡ some (some (Some e.item)))

  -- a slot is empty, or its node is in the queue, and then the slot has its batch
  lies : (n : ℕ) → n < length s.homes → (get_elem? s.homes n ≡ some (some None)) ⊎ Queued n
  lies n lt = go (r.phase n) (r.nodes n lt)
    where
      place : (i : ℕ) → AtPlace s r.log r.gone r.seat r.reader n i → (get_elem? s.homes n ≡ some (some None)) ⊎ Queued n
      place zero k = let z : zero ≡ r.gone = (let le = k.there in omega arith) in inl (ap (get_elem? s.homes) (one_node fits key s r zero n v.node k.stands (subst (λ (y : ℕ). Stands r.log y v.node) (sym z) g.front)) ∙ (knows fits key s r id v is Ready role).1)
      place (suc i) k = dite (dec_le r.gone i)
          (λ le. let q = at_there r.log i (let b = stands_bound r.log (suc i) n k.stands in omega arith) in inr (i, q.0, le, q.1, one_node fits key s r (suc i) q.0.node n (follows fits key s r i q.0 q.1) k.stands, k.holds i q.0 refl le q.1))
          (λ nle. let z : suc i ≡ r.gone = (let le = k.there in omega arith) in inl (ap (get_elem? s.homes) (one_node fits key s r (suc i) n v.node k.stands (subst (λ (y : ℕ). Stands r.log y v.node) (sym z) g.front)) ∙ (knows fits key s r id v is Ready role).1))

      go : (ph : Phase) → InPhase s r.log r.gone r.seat r.reader n ph → (get_elem? s.homes n ≡ some (some None)) ⊎ Queued n
      go free k = inl k.1
      go (held j) k = absurd (no_hand j n k.1)
      go (at i) k = place i k
      go left k = inl k.1

  -- a batch in a slot is of the sender whose node it is
  pub owners : (n : ℕ) (b : B) → n < length s.homes → get_elem? s.homes n ≡ some (some (Some b)) → fits key ((n - 1) / 16) b
  owners n b lt is' = ⊎_elim (λ e. let f : Eq (Option B) None (Some b) = some-injective None (Some b) (some-injective (some None) (some (Some b)) (sym e ∙ is')) in absurd (cc))
      (λ q. let e : Entry B = q.1 in let c : ℕ = length (sent_by e.by (take q.0 r.log)) in let node : e.node ≡ e.by * 16 + 1 + c % 16 = (r.entries q.0 e q.3).0 in let at' : e.node ≡ n = q.4 in
      let by' : e.by ≡ (n - 1) / 16 = omega arith in
      let f : Eq (Option B) (Some e.item) (Some b) = some-injective (Some e.item) (Some b) (some-injective (some (Some e.item)) (some (Some b)) (sym q.5 ∙ is')) in let g' : Eq B e.item b = cc in
      subst (λ (z : ℕ × B). fits key z.0 z.1) (λ k. (by' k, g' k)) (r.entries q.0 e q.3).2) (lies n lt)

  module _ (slots : List (Option B)) (same : (k : ℕ) (y : Option B) → get_elem? s.homes k ≡ some (some y) → get_elem? slots k ≡ some y) (by : ℕ) (low : by < r.made) (room : by * 16 + 17 ≤ length s.homes) where
    L : List B
    L = sent_by by r.log

    abbrev G : ℕ
    G = length (sent_by by (take r.gone r.log))

    -- the batch number q, where it was not taken, lies in its node
    full : (q : ℕ) → G ≤ q → q < length (sent_by by r.log) → (b : B) × (get_elem? (sent_by by r.log) q ≡ some b) × (get_elem? slots (node_for by q) ≡ some (Some b))
        × ((i : ℕ) × (r.gone ≤ i) × Stands r.log (suc i) (node_for by q) × (length (sent_by by (take i r.log)) ≡ q))
    full q le lt = let f = finds by r.log q lt in let i : ℕ = f.0 in let e : Entry B = f.1 in
        let late : r.gone ≤ i = dite (dec_le r.gone i) (λ y. y) (λ n. let a = rises by (suc i) r.gone r.log (omega arith) in let b = one_step by i r.log e f.2 f.3 in let c = f.4 in absurd (omega arith)) in
        let there = follows fits key s r i e f.2 in
        let node : e.node ≡ node_for by q = (r.entries i e f.2).0 ∙ ap (λ (z : ℕ). node_for z (length (sent_by z (take i r.log)))) f.3 ∙ ap (node_for by) f.4 in
        let p = r.places (suc i) e.node (omega arith) there in
        let k = subst (InPhase s r.log r.gone r.seat r.reader e.node) p.0 (r.nodes e.node p.1) in
        (e.item, f.5, subst (λ (z : ℕ). get_elem? slots z ≡ some (Some e.item)) node (same e.node (Some e.item) (k.holds i e refl late f.2)), (i, late, subst (Stands r.log (suc i)) node there, f.4))

    -- a sender has at most 16 batches in the queue
    few : length (sent_by by r.log) ≤ G + 16
    few = dite (dec_le (length (sent_by by r.log)) (G + 16)) (λ y. y) (λ n.
        let x = full G (le_refl G) (omega arith) in let y = full (G + 16) (omega arith) (omega arith) in
        let z : node_for by G ≡ node_for by (G + 16) = omega arith in
        let i = one_place fits key s r (suc x.3.0) (suc y.3.0) (node_for by (G + 16)) (let a = x.3.1 in omega arith) (let a = y.3.1 in omega arith) (subst (Stands r.log (suc x.3.0)) z x.3.2) y.3.2 in
        let j : x.3.0 ≡ y.3.0 = omega arith in let a : G ≡ G + 16 = sym x.3.3 ∙ ap (λ (k : ℕ). length (sent_by by (take k r.log))) j ∙ y.3.3 in absurd (omega arith))

    spot : ℕ → ℕ
    spot c = by * 16 + 1 + (length (sent_by by r.log) % 16 + (15 - c)) % 16

    -- what the slot holds where the batch was not taken
    hit : (c : ℕ) → G + suc c ≤ length (sent_by by r.log) → (b : B) × (get_elem? (sent_by by r.log) (length (sent_by by r.log) - suc c) ≡ some b) × (get_elem? slots (spot c) ≡ some (Some b))
    unfolding spot
    hit c le = let K : ℕ = length (sent_by by r.log) in let few' : K ≤ G + 16 = few in let f = full (K - suc c) (omega arith) (omega arith) in
        let z : node_for by (K - suc c) ≡ by * 16 + 1 + (K % 16 + (15 - c)) % 16 = omega arith in
        (f.0, f.1, subst (λ (n : ℕ). get_elem? slots n ≡ some (Some f.0)) z f.2)

    miss : (c : ℕ) → length (sent_by by r.log) ≤ G + c → c ≤ 15 → get_elem? slots (spot c) ≡ some None
    unfolding spot
    miss c le low' = let K : ℕ = length (sent_by by r.log) in let n : ℕ = by * 16 + 1 + (K % 16 + (15 - c)) % 16 in let few' : K ≤ G + 16 = few in
        ⊎_elim (λ e. same n None e)
        (λ q. let e : Entry B = q.1 in let c' : ℕ = length (sent_by e.by (take q.0 r.log)) in let node : e.node ≡ e.by * 16 + 1 + c' % 16 = (r.entries q.0 e q.3).0 in let at' : e.node ≡ n = q.4 in
        let by' : e.by ≡ by = omega arith in
        let q' : ℕ = length (sent_by by (take q.0 r.log)) in let is' : c' ≡ q' = ap (λ (z : ℕ). length (sent_by z (take q.0 r.log))) by' in
        let a : G ≤ q' = rises by r.gone q.0 r.log q.2 in let b : q' < K = numbers by r.log q.0 e q.3 by' in absurd (omega arith))
        (lies n (omega arith))

    rows_in : (c : ℕ) → G + c ≤ length (sent_by by r.log) → row slots (by * 16 + 1) (length (sent_by by r.log) % 16) c ≡ drop (length (sent_by by r.log) - c) (sent_by by r.log)
    unfolding spot
    rows_in zero le = sym (drop_past (sent_by by r.log) (length (sent_by by r.log) - 0) (omega arith))
    rows_in (suc c) le = let K : ℕ = length (sent_by by r.log) in let h = hit c le in let more = rows_in c (omega arith) in let z : suc (K - suc c) ≡ K - c = omega arith in
        ap (λ (x : Option B). ahead x (row slots (by * 16 + 1) (K % 16) c)) (at_or slots (spot c) (Some h.0) None h.2)
        ∙ (ap (λ (l : List B). h.0 ∷ l) (more ∙ ap (λ (i : ℕ). drop i (sent_by by r.log)) (sym z)) ∙ sym (drop_at (sent_by by r.log) (K - suc c) h.0 h.1))

    rows_out : (c : ℕ) → length (sent_by by r.log) ≤ G + c → c ≤ 16 → row slots (by * 16 + 1) (length (sent_by by r.log) % 16) c ≡ drop G (sent_by by r.log)
    unfolding spot
    rows_out zero le top = sym (drop_past (sent_by by r.log) G (omega arith))
    rows_out (suc c) le top = let K : ℕ = length (sent_by by r.log) in dite (dec_le K (G + c))
        (λ y. ap (λ (x : Option B). ahead x (row slots (by * 16 + 1) (K % 16) c)) (at_or slots (spot c) None None (miss c y (omega arith))) ∙ rows_out c y (omega arith))
        (λ n. let z : K - suc c ≡ G = omega arith in rows_in (suc c) (omega arith) ∙ ap (λ (i : ℕ). drop i (sent_by by r.log)) z)

    -- what the sender attached is what was taken of it, and then what the slots have
    pub remains : sent_by by r.log ≡ sent_by by (take r.gone r.log) ++ row slots (by * 16 + 1) (length (sent_by by r.log) % 16) 16
    remains = after by r.log r.gone ∙ ap (λ (z : List B). sent_by by (take r.gone r.log) ++ z) (sym (rows_out 16 few (omega arith)))

module _ {B : Type 0} (fits : Place → ℕ → B → Type 0) (key : Place) (sender : B → ℕ) (told : (s : ℕ) (b : B) → fits key s b → sender b ≡ s) where
  pub at_take : {A : Type 0} (l : List A) (n k : ℕ) (a : A) → get_elem? (take n l) k ≡ some a → get_elem? l k ≡ some a
  at_take l zero k a e = absurd (some-ne-none a (sym e))
  at_take [] (suc n) k a e = absurd (some-ne-none a (sym e))
  at_take (x ∷ xs) (suc n) zero a e = e
  at_take (x ∷ xs) (suc n) (suc k) a e = at_take xs n k a e

  pub from_of : (s : ℕ) (l : List (Entry B)) → ((k : ℕ) (e : Entry B) → get_elem? l k ≡ some e → sender e.item ≡ e.by) → filter (λ (x : B). eqb (sender x) s) (map item_of l) ≡ sent_by s l
  from_of s [] each = refl
  from_of s (e ∷ es) each = ap (λ (z : List B). cond (eqb (sender e.item) s) (e.item ∷ z) z) (from_of s es (λ k x h. each (suc k) x h)) ∙ ap (λ (n : ℕ). cond (eqb n s) (e.item ∷ sent_by s es) (sent_by s es)) (each 0 e refl)

  -- what each sender attached is what was taken of it, and then what the slots still have
  pub closes : (id : ℕ) (v : View B) (ws : List ℕ) (slots : List (Option B)) → v.role ≡ Ready → v.sender ≡ 0 → length v.known ≡ v.made → Final (Seen (IsInOrder fits key) id v) ws slots
      → (s : ℕ) (l : List B) → get_elem? v.known s ≡ some l → s * 16 + 17 ≤ length slots → l ≡ filter (λ (x : B). eqb (sender x) s) v.list ++ row slots (s * 16 + 1) (length l % 16) 16
  closes id v ws slots role first known (st, seen, words, long, same) s l is room =
      let r = seen.0 in let at = seen.1 in let g = (knows fits key st r id v at Ready role).0 in let m : v.made ≡ r.made = g.makes in let n : length v.known ≡ v.made = known in
      let low : s < length v.known = at_bound v.known s l is in let z : v.sender + s ≡ s = omega arith in
      let all : l ≡ sent_by s r.log = (g.gathered s l is).0 ∙ ap (λ (y : ℕ). sent_by y r.log) z in
      let main = remains fits key st r id v at role first known slots same s (omega arith) (omega arith) in
      let taken : filter (λ (x : B). eqb (sender x) s) v.list ≡ sent_by s (take r.gone r.log) = ap (filter (λ (x : B). eqb (sender x) s)) g.taken ∙ from_of s (take r.gone r.log) (λ k e h. told e.by e.item (r.entries k e (at_take r.log r.gone k e h)).2) in
      all ∙ (main ∙ (ap (λ (y : List B). y ++ row slots (s * 16 + 1) (length (sent_by s r.log) % 16) 16) (sym taken) ∙ ap (λ (y : List B). filter (λ (x : B). eqb (sender x) s) v.list ++ row slots (s * 16 + 1) (length y % 16) 16) (sym all)))

  -- what lies in a slot at the end is of the sender whose slot it is
  pub owned : (id : ℕ) (v : View B) (ws : List ℕ) (slots : List (Option B)) → v.role ≡ Ready → v.sender ≡ 0 → length v.known ≡ v.made → Final (Seen (IsInOrder fits key) id v) ws slots
      → (n : ℕ) (b : B) → get_elem? slots n ≡ some (Some b) → sender b ≡ (n - 1) / 16
  owned id v ws slots role first known (st, seen, words, long, same) n b is = let r = seen.0 in let at = seen.1 in let bound : n < length slots = at_bound slots n (Some b) is in let low : n < length st.homes = omega arith in
      told ((n - 1) / 16) b (⊎_elim
      (λ e. let f : Eq (Option B) None (Some b) = some-injective None (Some b) (sym (same n None e) ∙ is) in absurd (cc))
      (λ q. let f : Eq (Option B) (Some q.1.item) (Some b) = some-injective (Some q.1.item) (Some b) (sym (same n (Some q.1.item) q.5) ∙ is) in let g' : Eq B q.1.item b = cc in
      subst (fits key ((n - 1) / 16)) g' (owners fits key st r id v at role first known n q.1.item low q.5))
      (lies fits key st r id v at role first known n low))

  -- nothing was taken of one that is no sender
  pub closes_only : (id : ℕ) (v : View B) (ws : List ℕ) (slots : List (Option B)) → v.role ≡ Ready → Final (Seen (IsInOrder fits key) id v) ws slots
      → (s : ℕ) → v.made ≤ s → filter (λ (x : B). eqb (sender x) s) v.list ≡ []
  closes_only id v ws slots role (st, seen, words, long, same) s le =
      let r = seen.0 in let g = (knows fits key st r id v seen.1 Ready role).0 in let m : v.made ≡ r.made = g.makes in
      ap (filter (λ (x : B). eqb (sender x) s)) g.taken
      ∙ from_of s (take r.gone r.log) (λ k e h. told e.by e.item (r.entries k e (at_take r.log r.gone k e h)).2)
      ∙ of_none s (take r.gone r.log) (λ k e h. let lt : e.by < r.made = (r.entries k e (at_take r.log r.gone k e h)).1 in λ q. omega arith)
