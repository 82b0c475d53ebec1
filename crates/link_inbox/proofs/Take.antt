-- The load of the front's next word, and the store that frees the node left behind, keep the rule.
use Rattle.std.proofs.Common.{◌≡◌, ℕ, suc, ◌+◌, ◌<◌, ◌≤◌, ◌≢◌, ◌⊎◌, List, [], ◌∷◌, ◌++◌, map, length, take, get_or, set, sym, refl, ap, ◌∙◌, subst, inl, inr, ⊎_elim, arith, length-set, get_or-set_other, get_or-set_same, le_refl}
use mathlib.Core.Path.{Path as Eq}
use mathlib.Core.List.{map-append}
use mathlib.Core.Logic.{dite}
use mathlib.Core.Option.{none, some, some-injective}
use native.Mathlib.Decide.{ℕ_discrete, dec_le}
use lib.ListN.{get_elem?}
use lib.Seq.{set-get_or}
use Rattle.std.specs.Prelude.{Option, Some, None}
use Rattle.atomic_table.specs.Table.{State, Me, keeps, takes, gives, step, rest, homes_after, Allows}
use Rattle.atomic_table.proofs.Lists.{at_set, at_map, set_here, set_else}
use Rattle.batch_inbox.specs.declared.place.Place.{Place}
use Rattle.link_inbox.specs.declared.rule.View.{View}
use Rattle.link_inbox.specs.declared.rule.Role.{Role}
use Rattle.link_inbox.specs.declared.rule.Role.TheVariants.{Idle, Prepared, Attached, Ready, Lifted, Spent}
use Rattle.link_inbox.specs.Rule.{free_mark, Entry, item_of, Stands, Phase, free, held, at, left, TableState, next_word, Half, Holds, AtPlace, InPhase, Sends, Gets, HasAttached, Knows, IsInOrder}
use Rattle.link_inbox.specs.Steps.{SeatState, lifted, rested, takes_next, frees}
use Rattle.link_inbox.proofs.Lists.{at_bound, at_there, take_more}
use Rattle.link_inbox.proofs.Phases.{put, at_put, put_here, put_else, knows_on, stays, half_stays, holds_stay, one_place, one_node, follows, near}
use Rattle.link_inbox.proofs.Prepare.{knows, still}

module _ {B : Type 0} (fits : Place → ℕ → B → Type 0) (key : Place) (s : TableState B) (r : IsInOrder fits key s) (id : ℕ) (v : View B) (is : get_elem? s.views id ≡ some v) where
  -- where the front's next word names a node, that is the next of the queue
  front_entry : v.role ≡ Ready → next_word s.words v.node ≢ 0 → (e : Entry B) × (get_elem? r.log r.gone ≡ some e) × (next_word s.words v.node ≡ e.node)
  front_entry role some_node =
      let g = (knows fits key s r id v is Ready role).0 in let here = r.places r.gone v.node (le_refl r.gone) g.front in
      let k = subst (InPhase s r.log r.gone r.seat r.reader v.node) here.0 (r.nodes v.node here.1) in
      dite (dec_le (length r.log) r.gone) (λ (le : length r.log ≤ r.gone). absurd (some_node (k.ends le)))
      (λ (lt : ¬ (length r.log ≤ r.gone)). let q = at_there r.log r.gone (omega arith) in (q.0, q.1, ⊎_elim (λ y. y) (λ y. absurd (some_node y.0)) (k.links q.0 q.1)))

  moved : (k y : ℕ) (b : B) → k ≢ v.node → next_word (set s.words (v.node + 1) (next_word s.words v.node)) k ≡ next_word s.words k
      → ((x : ℕ) → Half s.views k x → Half (set s.views id (lifted v y b)) k x) → ((j : ℕ) → Holds s.views j k → Holds (set s.views id (lifted v y b)) j k) → (ph : Phase) → (k ≡ y → Eq Phase ph (at (suc r.gone))) → Stands r.log r.gone v.node → InPhase s r.log r.gone r.seat r.reader k ph
      → InPhase record { words = set s.words (v.node + 1) (next_word s.words v.node); homes = set s.homes y none; views = set s.views id (lifted v y b) } r.log (suc r.gone) r.seat r.reader k ph
  moved k y b ne word calm hold free apart on h = (word ∙ h.0, set_else s.homes y k none (λ q. let z = apart q in cc) ∙ h.1)
  moved k y b ne word calm hold (held j) apart on h = (word ∙ h.0, hold j h.1)
  moved k y b ne word calm hold left apart on h = ((λ q. h.0 (sym word ∙ q)), set_else s.homes y k none (λ q. let z = apart q in cc) ∙ h.1)
  moved k y b ne word calm hold (at i) apart on h = let far : i ≢ r.gone = λ q. ne (one_node fits key s r r.gone k v.node (subst (λ (z : ℕ). Stands r.log z k) q h.stands) on) in let le : r.gone ≤ i = h.there in record {
    there = omega arith;
    stands = h.stands;
    holds = λ q x is' gl lies. set_else s.homes y k none (λ e. let z = apart e in let z' : i ≡ suc r.gone = cc in omega arith) ∙ h.holds q x is' (omega arith) lies;
    links = λ x lies. ⊎_elim (λ z. inl (word ∙ z)) (λ z. inr (word ∙ z.0, ⊎_elim (λ z'. inl (calm x.node z')) (λ z'. inr z') z.1)) (h.links x lies);
    ends = λ gl. word ∙ h.ends gl;
  }

  pub taken_path : v.role ≡ Ready → next_word s.words v.node ≢ 0
      → (e : Entry B) × (next_word s.words v.node < length s.homes) × (get_elem? s.homes (next_word s.words v.node) ≡ some (some (Some e.item))) × fits key e.by e.item
      × IsInOrder fits key record { words = set s.words (v.node + 1) (next_word s.words v.node); homes = set s.homes (next_word s.words v.node) none; views = set s.views id (lifted v (next_word s.words v.node) e.item) }
  taken_path role some_node =
      let n : ℕ = length s.homes in let m : ℕ = v.node in let y : ℕ = next_word s.words m in let f = front_entry role some_node in let e : Entry B = f.0 in
      let mine = knows fits key s r id v is Ready role in let g = mine.0 in
      let here = r.places r.gone m (le_refl r.gone) g.front in
      let on : Stands r.log (suc r.gone) y = subst (Stands r.log (suc r.gone)) (sym f.2) (follows fits key s r r.gone e f.1) in
      let there = r.places (suc r.gone) y (omega arith) on in let inside : y < n = there.1 in
      let full = subst (InPhase s r.log r.gone r.seat r.reader y) there.0 (r.nodes y inside) in
      let holds = full.holds r.gone e refl (le_refl r.gone) f.1 in
      let w : View B = lifted v y e.item in let words' : List ℕ = set s.words (m + 1) y in let homes' = set s.homes y none in let views' = set s.views id w in
      let s' : TableState B = record { words = words'; homes = homes'; views = views' } in
      let kept : Eq (List ℕ) words' s.words = set-get_or s.words (m + 1) 0 in
      let word : (k : ℕ) → next_word words' k ≡ next_word s.words k = λ k. ap (λ (z : List ℕ). next_word z k) kept in
      let same : length homes' ≡ n = length-set s.homes y none in
      let phase' : ℕ → Phase = put r.phase m left in
      let unlike : (k : ℕ) (ph : Phase) → Eq Phase (r.phase k) ph → (Eq Phase ph (at r.gone) → ⊥) → k ≢ m = λ k ph h ne q. ne (sym h ∙ ap r.phase q ∙ here.0) in
      let calm : (k x : ℕ) → Half s.views k x → Half views' k x = λ k. half_stays s.views id v w k is (λ h. let q : Eq Role Attached Ready = sym h.0 ∙ role in cc) in
      let hold : (k j : ℕ) → Holds s.views j k → Holds views' j k = λ k. holds_stay s.views id v w k is (λ h. let q : Eq Role Prepared Ready = sym h.0 ∙ role in cc) in
      let far : m ≢ y = λ q. let z : at r.gone ≡ at (suc r.gone) = sym here.0 ∙ ap r.phase q ∙ there.0 in let z' : r.gone ≡ suc r.gone = cc in omega arith in (
        e,
        inside,
        holds,
        (r.entries r.gone e f.1).2,
        record {
          log = r.log;
          gone = suc r.gone;
          made = r.made;
          phase = phase';
          seat = r.seat;
          reader = r.reader;
          wide = length-set s.words (m + 1) y ∙ r.wide ∙ ap (λ (z : ℕ). z + 1) (sym same);
          roomy = subst (λ (z : ℕ). z < free_mark) (sym same) r.roomy;
          behind = let b = at_bound r.log r.gone e f.1 in omega arith;
          back = subst (λ (z : List ℕ). Stands r.log (length r.log) (get_or z 0 0)) (sym kept) r.back;
          entries = r.entries;
          places = λ i k le st. let q = r.places i k (omega arith) st in (put_else r.phase m left k (unlike k (at i) q.0 (λ z. let z' : i ≡ r.gone = cc in omega arith)) ∙ q.0, subst (λ (z : ℕ). k < z) (sym same) q.1);
          nodes = λ k lt. at_put r.phase m left (InPhase s' r.log (suc r.gone) r.seat r.reader) k
              ((λ q. let a : y ≡ 18446744073709551615 = sym (word m) ∙ q in let b : n < 18446744073709551615 = r.roomy in omega arith), set_else s.homes y m none far ∙ mine.1)
              (λ ne. moved k y e.item ne (word k) (calm k) (hold k) (r.phase k) (λ q. ap r.phase q ∙ there.0) g.front (r.nodes k (subst (λ (z : ℕ). k < z) same lt)));
          seats = λ j u q. ⊎_elim
              (λ (x : (j ≡ id) × Eq (View B) w u). subst (λ (z : ℕ × View B). Knows s' r.log (suc r.gone) r.made phase' r.seat r.reader key z.0 z.1 z.1.role) (λ i. (sym x.0 i, x.1 i))
              ((
                record { reads = g.reads; tag = g.tag; makes = g.makes; front = on; taken = ap (λ (l : List B). l ++ e.item ∷ []) g.taken ∙ (sym (map-append item_of (take r.gone r.log) (e ∷ [])) ∙ ap (map item_of) (sym (take_more r.log r.gone e f.1))); gathered = g.gathered },
                put_here r.phase m left,
                subst (λ (z : ℕ). m < z) (sym same) here.1,
                far,
              )))
              (λ (x : (j ≢ id) × (get_elem? s.views j ≡ some u)). let k = r.seats j u x.1 in let alone : r.reader ≡ j → ⊥ = λ z. x.0 (sym z ∙ g.reads) in
              (knows_on s s' r.log r.log r.gone (suc r.gone) r.made r.made r.phase phase' r.seat r.seat r.reader r.reader key j u same
              (λ a. record { seated = a.seated; known = a.known; sent = a.sent })
              (λ a. absurd (alone a.reads))
              (λ h. put_else r.phase m left u.node (unlike u.node (held j) h (λ z. cc)) ∙ h)
              (λ _ a. record {
                place = a.place;
                last = a.last;
                there = (let ne : a.place ≢ r.gone = λ z. some_node (ap (next_word s.words) (one_node fits key s r r.gone m u.before g.front (subst (λ (i : ℕ). Stands r.log i u.before) z a.behind)) ∙ a.unlinked) in let ge : r.gone ≤ a.place = a.there in omega arith);
                behind = a.behind;
                logged = a.logged;
                node_is = a.node_is;
                by_is = a.by_is;
                unlinked = word u.before ∙ a.unlinked;
              })
              (λ a _. absurd (alone a.reads))
              (λ a _. absurd (alone a.reads)) u.role k))
              (at_set s.views id j w u q);
        },
      )

  -- the node left behind becomes free, and the front's slot comes home
  pub rested_path : v.role ≡ Lifted → IsInOrder fits key record { words = set s.words (v.before + 1) free_mark; homes = set s.homes v.node (some None); views = set s.views id (rested v) }
  rested_path role =
      let n : ℕ = length s.homes in let lw : ℕ = length s.words in let wide : lw ≡ n + 1 = r.wide in let m : ℕ = v.before in let y : ℕ = v.node in
      let mine = knows fits key s r id v is Lifted role in let g = mine.0 in
      let here = r.places r.gone y (le_refl r.gone) g.front in
      let w : View B = rested v in let words' : List ℕ = set s.words (m + 1) free_mark in let homes' = set s.homes y (some None) in let views' = set s.views id w in
      let s' : TableState B = record { words = words'; homes = homes'; views = views' } in
      let same : length homes' ≡ n = length-set s.homes y (some None) in
      let phase' : ℕ → Phase = put r.phase m free in
      let unlike : (k : ℕ) (ph : Phase) → Eq Phase (r.phase k) ph → (Eq Phase ph left → ⊥) → k ≢ m = λ k ph h ne q. ne (sym h ∙ ap r.phase q ∙ mine.1) in
      let word : (k : ℕ) → k ≢ m → next_word words' k ≡ next_word s.words k = λ k ne. get_or-set_other s.words (m + 1) (k + 1) free_mark 0 (λ e. ne (omega arith)) in
      let calm : (k x : ℕ) → Half s.views k x → Half views' k x = λ k. half_stays s.views id v w k is (λ h. let q : Eq Role Attached Lifted = sym h.0 ∙ role in cc) in
      let hold : (k j : ℕ) → Holds s.views j k → Holds views' j k = λ k. holds_stay s.views id v w k is (λ h. let q : Eq Role Prepared Lifted = sym h.0 ∙ role in cc) in
      let behind = subst (InPhase s r.log r.gone r.seat r.reader m) mine.1 (r.nodes m mine.2) in
      record {
        log = r.log;
        gone = r.gone;
        made = r.made;
        phase = phase';
        seat = r.seat;
        reader = r.reader;
        wide = length-set s.words (m + 1) free_mark ∙ wide ∙ ap (λ (z : ℕ). z + 1) (sym same);
        roomy = subst (λ (z : ℕ). z < free_mark) (sym same) r.roomy;
        behind = r.behind;
        back = subst (Stands r.log (length r.log)) (sym (get_or-set_other s.words (m + 1) 0 free_mark 0 (λ e. omega arith))) r.back;
        entries = r.entries;
        places = λ i k le st. let q = r.places i k le st in (put_else r.phase m free k (unlike k (at i) q.0 (λ z. cc)) ∙ q.0, subst (λ (z : ℕ). k < z) (sym same) q.1);
        nodes = λ k lt. at_put r.phase m free (InPhase s' r.log r.gone r.seat r.reader) k
            (get_or-set_same s.words (m + 1) free_mark 0 (let b : m < n = mine.2 in omega arith), set_else s.homes y m (some None) mine.3 ∙ behind.1)
            (λ ne. freed k (word k ne) (calm k) (hold k) (r.phase k) (λ q. ap r.phase q ∙ here.0) (r.nodes k (subst (λ (z : ℕ). k < z) same lt)));
        seats = λ j u q. ⊎_elim
            (λ (x : (j ≡ id) × Eq (View B) w u). subst (λ (z : ℕ × View B). Knows s' r.log r.gone r.made phase' r.seat r.reader key z.0 z.1 z.1.role) (λ i. (sym x.0 i, x.1 i))
            ((record { reads = g.reads; tag = g.tag; makes = g.makes; front = g.front; taken = g.taken; gathered = g.gathered }, set_here s.homes y (some None) here.1)))
            (λ (x : (j ≢ id) × (get_elem? s.views j ≡ some u)). let k = r.seats j u x.1 in let alone : r.reader ≡ j → ⊥ = λ z. x.0 (sym z ∙ g.reads) in
            (knows_on s s' r.log r.log r.gone r.gone r.made r.made r.phase phase' r.seat r.seat r.reader r.reader key j u same
            (λ a. record { seated = a.seated; known = a.known; sent = a.sent })
            (λ a. absurd (alone a.reads))
            (λ h. put_else r.phase m free u.node (unlike u.node (held j) h (λ z. cc)) ∙ h)
            (λ _ a. record {
              place = a.place;
              last = a.last;
              there = a.there;
              behind = a.behind;
              logged = a.logged;
              node_is = a.node_is;
              by_is = a.by_is;
              unlinked = word u.before (unlike u.before (at a.place) (r.places a.place u.before a.there a.behind).0 (λ z. cc)) ∙ a.unlinked;
            })
            (λ a _. absurd (alone a.reads))
            (λ a _. absurd (alone a.reads)) u.role k))
            (at_set s.views id j w u q);
      }
    where
      freed : (k : ℕ) → next_word (set s.words (v.before + 1) free_mark) k ≡ next_word s.words k → ((x : ℕ) → Half s.views k x → Half (set s.views id (rested v)) k x) → ((j : ℕ) → Holds s.views j k → Holds (set s.views id (rested v)) j k)
          → (ph : Phase) → (k ≡ v.node → Eq Phase ph (at r.gone)) → InPhase s r.log r.gone r.seat r.reader k ph
          → InPhase record { words = set s.words (v.before + 1) free_mark; homes = set s.homes v.node (some None); views = set s.views id (rested v) } r.log r.gone r.seat r.reader k ph
      freed k word calm hold free apart h = (word ∙ h.0, set_else s.homes v.node k (some None) (λ q. let z = apart q in cc) ∙ h.1)
      freed k word calm hold (held j) apart h = (word ∙ h.0, hold j h.1)
      freed k word calm hold left apart h = ((λ q. h.0 (sym word ∙ q)), set_else s.homes v.node k (some None) (λ q. let z = apart q in cc) ∙ h.1)
      freed k word calm hold (at i) apart h = record {
        there = h.there;
        stands = h.stands;
        holds = λ q x is' gl lies. set_else s.homes v.node k (some None) (λ e. let z = apart e in let z' : i ≡ r.gone = cc in omega arith) ∙ h.holds q x is' gl lies;
        links = λ x lies. ⊎_elim (λ z. inl (word ∙ z)) (λ z. inr (word ∙ z.0, ⊎_elim (λ z'. inl (calm x.node z')) (λ z'. inr z') z.1)) (h.links x lies);
        ends = λ gl. word ∙ h.ends gl;
      }

module _ {B : Type 0} (fits : Place → ℕ → B → Type 0) (key : Place) where
  pub takes_ok : (n id : ℕ) (me : SeatState B) → me.0.role ≡ Ready → Allows (IsInOrder fits key) n id me (me.0.node + 1) (λ y. y) (takes_next fits (step n (me.0.node + 1) 0 0 none) me)
  takes_ok n id me role s r wide is _ = let y : ℕ = get_or s.words (me.0.node + 1) 0 in dite (ℕ_discrete y 0)
      (λ e. (me.0, keeps, tt, still fits key s r (me.0.node + 1) id me is, ((λ _. (refl, refl)), λ ne. absurd (ne e))))
      (λ ne. let t = taken_path fits key s r id me.0 is role ne in let tag = (knows fits key s r id me.0 is Ready role).0.tag in
      (lifted me.0 y t.0.item, takes y (Some t.0.item), t.2, t.4, ((λ e. absurd (ne e)), λ _. (subst (λ (z : ℕ). y < z) wide t.1, (t.0.item, t.0.by, refl, refl, subst (λ (z : Place). fits z t.0.by t.0.item) (sym tag) t.3)))))

  pub frees_ok : (n id : ℕ) (me : SeatState B) (cs : List (ℕ × Option B)) → me.0.role ≡ Lifted → me.1 ≡ (me.0.node, None) ∷ cs → Allows (IsInOrder fits key) n id me (me.0.before + 1) (λ _. free_mark) (λ _ m. frees me m)
  frees_ok n id me cs role has s r wide is _ = (
    rested me.0,
    gives,
    tt,
    subst (λ (c : List (ℕ × Option B)). IsInOrder fits key record { words = set s.words (me.0.before + 1) free_mark; homes = homes_after s.homes c gives; views = set s.views id (rested me.0) }) (sym has)
        (rested_path fits key s r id me.0 is role),
    (refl, refl),
  )
