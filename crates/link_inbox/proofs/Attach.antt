-- The exchange of the back word keeps the rule.
use Rattle.std.proofs.Common.{◌≡◌, ℕ, suc, ◌+◌, ◌<◌, ◌≤◌, ◌≢◌, ◌⊎◌, eqb, List, [], ◌∷◌, ◌++◌, map, length, take, get_or, set, sym, refl, ap, ◌∙◌, subst, inl, inr, ⊎_elim, arith, length-set, length-append, get_or-set_other, get_or-set_same, le_refl}
use mathlib.Core.Path.{Path as Eq}
use mathlib.Core.List.{map-append}
use mathlib.Core.Option.{none, some, some-injective}
use lib.ListN.{get_elem?}
use Rattle.std.proofs.lemmas.List.{take-append-le}
use Rattle.std.proofs.Math.Seq.{take-append_seam}
use Rattle.std.specs.Prelude.{Option, Some, None}
use Rattle.atomic_table.specs.Table.{State, Me, keeps, takes, gives, step, stepped, rest, carried_after, homes_after, Allows}
use Rattle.atomic_table.proofs.Lists.{at_set, at_map, at_longer, at_last, set_here, set_else}
use Rattle.batch_inbox.specs.declared.place.Place.{Place}
use Rattle.link_inbox.specs.declared.rule.View.{View}
use Rattle.link_inbox.specs.declared.rule.Role.{Role}
use Rattle.link_inbox.specs.declared.rule.Role.TheVariants.{Idle, Prepared, Attached, Ready, Lifted, Spent}
use Rattle.link_inbox.specs.Rule.{free_mark, Entry, entry, sent_by, node_of, item_of, Stands, Phase, free, held, at, left, TableState, next_word, Half, Holds, AtPlace, node_for, InPhase, Sends, Gets, HasAttached, Knows, IsInOrder}
use Rattle.link_inbox.specs.Steps.{SeatState, attached, attaches}
use Rattle.link_inbox.proofs.Lists.{at_end, at_bound, at_there, of_mine, of_other}
use Rattle.link_inbox.proofs.Phases.{put, at_put, put_here, put_else, knows_on, half_stays, holds_stay, one_place, one_node, follows, near}
use Rattle.link_inbox.proofs.Prepare.{knows}

module _ {B : Type 0} where
  path_more : (log : List (Entry B)) (e : Entry B) → (0 ∷ map node_of log) ++ (e.node ∷ []) ≡ 0 ∷ map node_of (log ++ e ∷ [])
  path_more log e = ap (λ (z : List ℕ). 0 ∷ z) (sym (map-append node_of log (e ∷ [])))

  pub stands_longer : (log : List (Entry B)) (e : Entry B) (i n : ℕ) → Stands log i n → Stands (log ++ e ∷ []) i n
  stands_longer log e i n h = subst (λ (z : List ℕ). get_elem? z i ≡ some n) (path_more log e) (at_longer (0 ∷ map node_of log) (e.node ∷ []) i n h)

  pub stands_last : (log : List (Entry B)) (e : Entry B) → Stands (log ++ e ∷ []) (suc (length log)) e.node
  stands_last log e = at_map node_of (log ++ e ∷ []) (length log) e (at_last log e (length log) refl)

  length_path : (log : List (Entry B)) → length (0 ∷ map node_of log) ≡ suc (length log)
  length_path log = ap suc (lib.ListN.length-map log node_of)

  pub stands_end : (log : List (Entry B)) (e : Entry B) (i n : ℕ) → Stands (log ++ e ∷ []) i n → (Stands log i n) ⊎ ((i ≡ suc (length log)) × (e.node ≡ n))
  stands_end log e i n h = ⊎_elim (λ x. inl x) (λ x. inr (x.0 ∙ length_path log, x.1))
      (at_end (0 ∷ map node_of log) e.node n i (subst (λ (z : List ℕ). get_elem? z i ≡ some n) (sym (path_more log e)) h))

  pub stands_bound : (log : List (Entry B)) (i n : ℕ) → Stands log i n → i ≤ length log
  stands_bound log i n h = let a = at_bound (0 ∷ map node_of log) i n h in let b : length (0 ∷ map node_of log) ≡ suc (length log) = length_path log in omega arith

module _ {B : Type 0} (fits : Place → ℕ → B → Type 0) (key : Place) (s : TableState B) (r : IsInOrder fits key s) (id : ℕ) (v : View B) (is : get_elem? s.views id ≡ some v) where
  moved : (b : B) (m : ℕ) → Eq Role v.role Prepared → v.node < length s.homes → m ≢ v.node → (ph : Phase) → InPhase s r.log r.gone r.seat r.reader m ph
      → InPhase record { words = set s.words 0 v.node; homes = set s.homes v.node (some (Some b)); views = set s.views id (attached v (get_or s.words 0 0) b) } (r.log ++ entry v.sender v.node b ∷ []) r.gone r.seat r.reader m ph
  moved b m role inside ne free k = (get_or-set_other s.words 0 (m + 1) v.node 0 (λ q. omega arith) ∙ k.0, set_else s.homes v.node m (some (Some b)) ne ∙ k.1)
  moved b m role inside ne (held j) k = (get_or-set_other s.words 0 (m + 1) v.node 0 (λ q. omega arith) ∙ k.0, holds_stay s.views id v (attached v (get_or s.words 0 0) b) m is (λ h. ne (sym h.1)) j k.1)
  moved b m role inside ne left k = ((λ e. k.0 (sym (get_or-set_other s.words 0 (m + 1) v.node 0 (λ q. omega arith)) ∙ e)), set_else s.homes v.node m (some (Some b)) ne ∙ k.1)
  moved b m role inside ne (at i) k =
      let L : ℕ = length r.log in let p : ℕ = get_or s.words 0 0 in let e : Entry B = entry v.sender v.node b in let log' = r.log ++ e ∷ [] in let w : View B = attached v p b in
      let more : length log' ≡ L + 1 = length-append r.log (e ∷ []) in
      let word : next_word (set s.words 0 v.node) m ≡ next_word s.words m = get_or-set_other s.words 0 (m + 1) v.node 0 (λ q. omega arith) in
      let top : i ≤ L = stands_bound r.log i m k.stands in
      record {
        there = k.there;
        stands = stands_longer r.log e i m k.stands;
        holds = λ q x is' gl h. set_else s.homes v.node m (some (Some b)) ne ∙ k.holds q x is' gl (⊎_elim (λ y. y) (λ y. let z : q ≡ L = y.0 in absurd (omega arith)) (at_end r.log e x q h));
        links = λ x h. ⊎_elim
            (λ y. ⊎_elim (λ z. inl (word ∙ z)) (λ z. inr (word ∙ z.0, ⊎_elim (λ z'. inl (half_stays s.views id v w m is (λ h'. let f : Eq Role Attached Prepared = sym h'.0 ∙ role in cc) x.node z')) (λ z'. inr z') z.1)) (k.links x y))
            (λ (y : (i ≡ L) × Eq (Entry B) e x). let at_p : p ≡ m = one_node fits key s r L p m r.back (subst (λ (z : ℕ). Stands r.log z m) y.0 k.stands) in
            let le : L ≤ i = (let z : i ≡ L = y.0 in omega arith) in
            inr (word ∙ k.ends le, inl (id, w, set_here s.views id w (at_bound s.views id v is), refl, at_p, ap (λ (u : Entry B). u.node) y.1)))
            (at_end r.log e x i h);
        ends = λ le. absurd (omega arith);
      }

  pub attached_path : (b : B) → v.role ≡ Prepared → fits key v.sender b
      → (get_or s.words 0 0 < length s.homes) × IsInOrder fits key record { words = set s.words 0 v.node; homes = set s.homes v.node (some (Some b)); views = set s.views id (attached v (get_or s.words 0 0) b) }
  attached_path b role fit =
      let node : ℕ = v.node in let L : ℕ = length r.log in let p : ℕ = get_or s.words 0 0 in
      let n : ℕ = length s.homes in let lw : ℕ = length s.words in let wide : lw ≡ n + 1 = r.wide in
      let mine = knows fits key s r id v is Prepared role in let kept : Eq Phase (r.phase node) (held id) = mine.1 in let inside : node < n = mine.2 in
      let e : Entry B = entry v.sender node b in let log' = r.log ++ e ∷ [] in
      let more : length log' ≡ L + 1 = length-append r.log (e ∷ []) in
      let w : View B = attached v p b in
      let words' : List ℕ = set s.words 0 node in let homes' = set s.homes node (some (Some b)) in let views' = set s.views id w in
      let s' : TableState B = record { words = words'; homes = homes'; views = views' } in
      let phase' : ℕ → Phase = put r.phase node (at (suc L)) in
      let same : length homes' ≡ n = length-set s.homes node (some (Some b)) in
      let unlike : (m : ℕ) (ph : Phase) → Eq Phase (r.phase m) ph → (Eq Phase ph (held id) → ⊥) → m ≢ node = λ m ph h ne q. ne (sym h ∙ ap r.phase q ∙ kept) in
      let word : (m : ℕ) → next_word words' m ≡ next_word s.words m = λ m. get_or-set_other s.words 0 (m + 1) node 0 (λ q. omega arith) in
      let empty : next_word s.words node ≡ 0 = (subst (InPhase s r.log r.gone r.seat r.reader node) kept (r.nodes node inside)).0 in
      let calm : (m k : ℕ) → Half s.views m k → Half views' m k = λ m. half_stays s.views id v w m is (λ h. let f : Eq Role Attached Prepared = sym h.0 ∙ role in cc) in
      let le : r.gone ≤ L = r.behind in
      let last = r.places L p le r.back in
      let lastly = subst (InPhase s r.log r.gone r.seat r.reader p) last.0 (r.nodes p last.1) in
      let half : Half views' p node = (id, w, set_here s.views id w (at_bound s.views id v is), refl, refl, refl) in
      let logged : (k : ℕ) (x : Entry B) → k < L → get_elem? log' k ≡ some x → get_elem? r.log k ≡ some x = λ k x lt h. ⊎_elim (λ y. y) (λ y. let z : k ≡ L = y.0 in absurd (omega arith)) (at_end r.log e x k h) in (
        last.1,
        record {
          log = log';
          gone = r.gone;
          made = r.made;
          phase = phase';
          seat = r.seat;
          reader = r.reader;
          wide = length-set s.words 0 node ∙ wide ∙ ap (λ (z : ℕ). z + 1) (sym same);
          roomy = subst (λ (z : ℕ). z < free_mark) (sym same) r.roomy;
          behind = omega arith;
          back = subst (λ (z : ℕ × ℕ). Stands log' z.0 z.1) (λ i. ((let g : suc L ≡ length log' = omega arith in g) i, sym (get_or-set_same s.words 0 node 0 (omega arith)) i)) (stands_last r.log e);
          entries = λ k x h. ⊎_elim
              (λ y. let q = r.entries k x y in let lt : k < L = at_bound r.log k x y in (q.0 ∙ ap (λ (z : List (Entry B)). node_for x.by (length (sent_by x.by z))) (sym (take-append-le k r.log (e ∷ []) (omega arith))), q.1, q.2))
              (λ (y : (k ≡ L) × Eq (Entry B) e x). subst (λ (z : Entry B). (z.node ≡ node_for z.by (length (sent_by z.by (take k log')))) × (z.by < r.made) × fits key z.by z.item) y.1
              (mine.3 ∙ ap (λ (z : List B). node_for v.sender (length z)) mine.0.sent ∙ ap (λ (z : List (Entry B)). node_for v.sender (length (sent_by v.sender z))) (sym (ap (λ (i : ℕ). take i log') y.0 ∙ take-append_seam r.log (e ∷ []))), mine.0.known, fit))
              (at_end r.log e x k h);
          places = λ i m gl st. ⊎_elim
              (λ x. let q = r.places i m gl x in (put_else r.phase node (at (suc L)) m (unlike m (at i) q.0 (λ z. cc)) ∙ q.0, subst (λ (z : ℕ). m < z) (sym same) q.1))
              (λ (x : (i ≡ suc L) × (node ≡ m)). subst (λ (z : ℕ × ℕ). (Eq Phase (phase' z.1) (at z.0)) × (z.1 < length homes')) (λ i'. (sym x.0 i', x.1 i')) (put_here r.phase node (at (suc L)), subst (λ (z : ℕ). node < z) (sym same) inside))
              (stands_end r.log e i m st);
          nodes = λ m lt. at_put r.phase node (at (suc L)) (InPhase s' log' r.gone r.seat r.reader) m
              record {
                there = omega arith;
                stands = stands_last r.log e;
                holds = λ k x q gl h. let z : k ≡ L = omega arith in let y : Eq (Entry B) e x = some-injective e x (sym (at_last r.log e L refl) ∙ ap (get_elem? log') (sym z) ∙ h) in
                    set_here s.homes node (some (Some b)) inside ∙ ap (λ (u : Entry B). some (some (Some u.item))) y;
                links = λ x h. let z = at_bound log' (suc L) x h in absurd (omega arith);
                ends = λ _. word node ∙ empty;
              }
              (λ ne. moved b m role inside ne (r.phase m) (r.nodes m (subst (λ (z : ℕ). m < z) same lt)));
          seats = λ j u h. ⊎_elim
              (λ (x : (j ≡ id) × Eq (View B) w u). subst (λ (z : ℕ × View B). Knows s' log' r.gone r.made phase' r.seat r.reader key z.0 z.1 z.1.role) (λ i. (sym x.0 i, x.1 i))
              ((let k = mine.0 in (
                record { seated = k.seated; known = k.known; sent = ap (λ (l : List B). l ++ b ∷ []) k.sent ∙ sym (of_mine v.sender node b r.log) },
                record { place = L; last = e; there = le; behind = stands_longer r.log e L p r.back; logged = at_last r.log e L refl; node_is = refl; by_is = refl; unlinked = word p ∙ lastly.ends (le_refl L) },
              ))))
              (λ (x : (j ≢ id) × (get_elem? s.views j ≡ some u)). let k = r.seats j u x.1 in
              (knows_on s s' r.log log' r.gone r.gone r.made r.made r.phase phase' r.seat r.seat r.reader r.reader key j u same
              (λ a. record { seated = a.seated; known = a.known; sent = a.sent ∙ sym (of_other u.sender v.sender node b r.log (λ q. x.0 (sym a.seated ∙ ap r.seat (sym q) ∙ mine.0.seated))) })
              (λ a. record {
                reads = a.reads;
                tag = a.tag;
                makes = a.makes;
                front = stands_longer r.log e r.gone u.node a.front;
                taken = a.taken ∙ ap (map item_of) (sym (take-append-le r.gone r.log (e ∷ []) le));
                gathered = λ q l z. let y = a.gathered q l z in (y.0 ∙ sym (of_other (u.sender + q) v.sender node b r.log (λ c. x.0 (sym a.reads ∙ sym y.1 ∙ ap r.seat (sym c) ∙ mine.0.seated))), y.1, y.2);
              })
              (λ q. put_else r.phase node (at (suc L)) u.node (unlike u.node (held j) q (λ z. let f : held j ≡ held id = z in let g : j ≡ id = cc in x.0 g)) ∙ q)
              (λ _ a. record {
                place = a.place;
                last = a.last;
                there = a.there;
                behind = stands_longer r.log e a.place u.before a.behind;
                logged = at_longer r.log (e ∷ []) a.place a.last a.logged;
                node_is = a.node_is;
                by_is = a.by_is;
                unlinked = word u.before ∙ a.unlinked;
              })
              (λ a q. set_else s.homes node u.node (some (Some b)) (unlike u.node (at r.gone) (r.places r.gone u.node (le_refl r.gone) a.front).0 (λ z. cc)) ∙ q)
              (λ _ q. put_else r.phase node (at (suc L)) u.before (unlike u.before left q (λ z'. cc)) ∙ q) u.role k))
              (at_set s.views id j w u h);
        },
      )

module _ {B : Type 0} (fits : Place → ℕ → B → Type 0) (key : Place) where
  abbrev pub head_of : List (ℕ × Option B) → Option B
  head_of [] = None
  head_of (x ∷ xs) = x.1

  abbrev item_in : B → Option B → B
  item_in d None = d
  item_in d (Some b) = b

  pub attaches_ok : (n id : ℕ) (me : SeatState B) (b : B) (cs : List (ℕ × Option B)) → me.0.role ≡ Prepared → me.1 ≡ (me.0.node, Some b) ∷ cs → fits key me.0.sender b
      → Allows (IsInOrder fits key) n id me 0 (λ _. me.0.node) (attaches (step n 0 me.0.node 0 none) me)
  attaches_ok n id me b cs role has fit s r wide is _ = let p : ℕ = get_or s.words 0 0 in let done = attached_path fits key s r id me.0 is b role fit in (
    attached me.0 p b,
    gives,
    tt,
    subst (λ (c : List (ℕ × Option B)). IsInOrder fits key record { words = set s.words 0 me.0.node; homes = homes_after s.homes c gives; views = set s.views id (attached me.0 p b) }) (sym has) done.1,
    (
      subst (λ (z : ℕ). p < z) wide done.0,
      (λ c e. ap (attached me.0 p) (ap (λ (l : List (ℕ × Option B)). item_in b (head_of l)) (sym has ∙ e))),
      refl,
    ),
  )
