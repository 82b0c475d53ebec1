-- How the inbox starts, and how seats come and are taken in.
use Rattle.std.proofs.Common.{◌≡◌, ℕ, zero, suc, ◌+◌, ◌<◌, ◌≤◌, ◌≢◌, ◌⊎◌, eqb, eq-eqb, ne_eqb, cond, Bool, List, [], ◌∷◌, ◌++◌, map, length, get_or, set, replicate, sym, refl, ap, ◌∙◌, subst, inl, inr, ⊎_elim, arith, length-set, le_refl}
use mathlib.Core.Path.{Path as Eq}
use mathlib.Core.Logic.{dite}
use mathlib.Core.Option.{none, some, some-injective, some-ne-none}
use mathlib.Core.Option as maybe
use native.Mathlib.Decide.{ℕ_discrete}
use lib.ListN.{get_elem?, length-map, length-replicate}
use Rattle.std.specs.Prelude.{Option, Some, None}
use Rattle.atomic_table.specs.Table.{State, Splits, Joins, opening}
use Rattle.atomic_table.proofs.Lists.{at_set, at_longer, at_last, set_here, set_else}
use Rattle.batch_inbox.specs.declared.place.Place.{Place}
use Rattle.link_inbox.specs.declared.rule.View.{View}
use Rattle.link_inbox.specs.declared.rule.Role.{Role}
use Rattle.link_inbox.specs.declared.rule.Role.TheVariants.{Idle, Prepared, Attached, Ready, Lifted, Spent}
use Rattle.link_inbox.specs.Rule.{free_mark, Entry, sent_by, Stands, Phase, free, held, at, left, TableState, next_word, Half, Holds, AtPlace, InPhase, Sends, Gets, HasAttached, Knows, IsInOrder}
use Rattle.link_inbox.specs.States.{is_sender}
use Rattle.link_inbox.specs.Steps.{view, maker, newcomer, gathered, spent}
use Rattle.link_inbox.proofs.Lists.{at_end, at_bound, at_there, of_none}
use Rattle.link_inbox.proofs.Phases.{knows_on, half_stays, holds_stay, one_place, one_node, put, at_put, put_here, put_else}
use Rattle.link_inbox.proofs.Prepare.{knows}

-- the function that gives x at n
pub turned : (ℕ → ℕ) → ℕ → ℕ → ℕ → ℕ
turned f n x m = cond (eqb m n) x (f m)

pub turned_here : (f : ℕ → ℕ) (n x m : ℕ) → m ≡ n → turned f n x m ≡ x
unfolding turned
turned_here f n x m e = ap (λ (b : Bool). cond b x (f m)) (eq-eqb m n e)

pub turned_else : (f : ℕ → ℕ) (n x m : ℕ) → m ≢ n → turned f n x m ≡ f m
unfolding turned
turned_else f n x m ne = ap (λ (b : Bool). cond b x (f m)) (ne_eqb m n ne)

module _ {B : Type 0} where
  -- a node's phase while only views and seats change
  pub reviews : (s s' : TableState B) (log : List (Entry B)) (gone : ℕ) (seat seat' : ℕ → ℕ) (reader n : ℕ) → s'.words ≡ s.words → s'.homes ≡ s.homes
      → ((e : Entry B) (k : ℕ) → gone ≤ k → Stands log k n → get_elem? log k ≡ some e → Half s.views n e.node ⊎ (seat e.by ≡ reader) → Half s'.views n e.node ⊎ (seat' e.by ≡ reader))
      → ((j : ℕ) → Holds s.views j n → Holds s'.views j n) → (ph : Phase) → InPhase s log gone seat reader n ph → InPhase s' log gone seat' reader n ph
  reviews s s' log gone seat seat' reader n words homes half hold free k = (ap (λ (z : List ℕ). next_word z n) words ∙ k.0, ap (λ (z : List (maybe.Option (Option B))). get_elem? z n) homes ∙ k.1)
  reviews s s' log gone seat seat' reader n words homes half hold (held j) k = (ap (λ (z : List ℕ). next_word z n) words ∙ k.0, hold j k.1)
  reviews s s' log gone seat seat' reader n words homes half hold (at i) k = let word = ap (λ (z : List ℕ). next_word z n) words in record {
    there = k.there;
    stands = k.stands;
    holds = λ q e is le lies. ap (λ (z : List (maybe.Option (Option B))). get_elem? z n) homes ∙ k.holds q e is le lies;
    links = λ e lies. ⊎_elim (λ h. inl (word ∙ h)) (λ h. inr (word ∙ h.0, half e i k.there k.stands lies h.1)) (k.links e lies);
    ends = λ le. word ∙ k.ends le;
  }
  reviews s s' log gone seat seat' reader n words homes half hold left k = ((λ e. k.0 (sym (ap (λ (z : List ℕ). next_word z n) words) ∙ e)), ap (λ (z : List (maybe.Option (Option B))). get_elem? z n) homes ∙ k.1)

module _ {B : Type 0} (fits : Place → ℕ → B → Type 0) (key : Place) where
  pub splits_ok : (id : ℕ) (v : View B) → v.role ≡ Ready → Splits (IsInOrder fits key) id v (maker v) (newcomer v)
  splits_ok id v role s r is =
      let mine = knows fits key s r id v is Ready role in let g = mine.0 in
      let S : ℕ = length s.views in let made : ℕ = r.made in
      let vs = set s.views id (maker v) in let views' = vs ++ newcomer v ∷ [] in
      let long : length vs ≡ S = length-set s.views id (maker v) in
      let low : id < S = at_bound s.views id v is in
      let seat' : ℕ → ℕ = turned r.seat made S in
      let s' : TableState B = record { words = s.words; homes = s.homes; views = views' } in
      let half : (m k : ℕ) → Half s.views m k → Half views' m k = λ m k h. let x = half_stays s.views id v (maker v) m is (λ h. let f : Eq Role Attached Ready = sym h.0 ∙ role in cc) k h in (x.0, x.1, at_longer vs (newcomer v ∷ []) x.0 x.1 x.2, x.3, x.4, x.5) in
      let hold : (m j : ℕ) → Holds s.views j m → Holds views' j m = λ m j h. let x = holds_stay s.views id v (maker v) m is (λ h. let f : Eq Role Prepared Ready = sym h.0 ∙ role in cc) j h in (x.0, at_longer vs (newcomer v ∷ []) j x.0 x.1, x.2, x.3) in
      let old : (k : ℕ) → k < made → seat' k ≡ r.seat k = λ k lt. turned_else r.seat made S k (λ e. omega arith) in
      let sure : v.made ≡ made = g.makes in
      record {
        log = r.log;
        gone = r.gone;
        made = suc made;
        phase = r.phase;
        seat = seat';
        reader = r.reader;
        wide = r.wide;
        roomy = r.roomy;
        behind = r.behind;
        back = r.back;
        entries = λ k e h. let q = r.entries k e h in (q.0, (let lt : e.by < made = q.1 in omega arith), q.2);
        places = r.places;
        nodes = λ n lt. reviews s s' r.log r.gone r.seat seat' r.reader n refl refl
            (λ e k _ _ lies h. ⊎_elim (λ x. inl (half n e.node x)) (λ x. inr (old e.by (r.entries k e lies).1 ∙ x)) h) (hold n) (r.phase n) (r.nodes n lt);
        seats = λ j u h. ⊎_elim
            (λ x. ⊎_elim
            (λ (y : (j ≡ id) × Eq (View B) (maker v) u). subst (λ (z : ℕ × View B). Knows s' r.log r.gone (suc made) r.phase seat' r.reader key z.0 z.1 z.1.role) (λ i. (sym y.0 i, y.1 i))
            (subst (Knows s' r.log r.gone (suc made) r.phase seat' r.reader key id (maker v)) (sym role)
            (record { reads = g.reads; tag = g.tag; makes = ap suc sure; front = g.front; taken = g.taken; gathered = λ k l z. let q = g.gathered k l z in (q.0, old (v.sender + k) q.2 ∙ q.1, (let lt : v.sender + k < made = q.2 in omega arith)) }, mine.1)))
            (λ (y : (j ≢ id) × (get_elem? s.views j ≡ some u)). let k = r.seats j u y.1 in
            (knows_on s s' r.log r.log r.gone r.gone made (suc made) r.phase r.phase r.seat seat' r.reader r.reader key j u refl
            (λ a. record { seated = old u.sender a.known ∙ a.seated; known = (let lt : u.sender < made = a.known in omega arith); sent = a.sent })
            (λ a. absurd (y.0 (sym a.reads ∙ g.reads)))
            (λ q. q)
            (λ _ a. record { place = a.place; last = a.last; there = a.there; behind = a.behind; logged = a.logged; node_is = a.node_is; by_is = a.by_is; unlinked = a.unlinked })
            (λ _ q. q) (λ _ q. q) u.role k))
            (at_set s.views id j (maker v) u x))
            (λ (x : (j ≡ length vs) × Eq (View B) (newcomer v) u). subst (λ (z : ℕ × View B). Knows s' r.log r.gone (suc made) r.phase seat' r.reader key z.0 z.1 z.1.role) (λ i. (sym (x.0 ∙ long) i, x.1 i))
            (record { seated = turned_here r.seat made S v.made sure; known = omega arith; sent = sym (of_none made r.log (λ k e z q. let lt : e.by < made = (r.entries k e z).1 in omega arith)) ∙ ap (λ (z : ℕ). sent_by z r.log) (sym sure) }))
            (at_end vs (newcomer v) u j h);
      }

  sends_of : (s : TableState B) (r : IsInOrder fits key s) (j : ℕ) (w : View B) → (w.role ≡ Idle) ⊎ (w.role ≡ Attached) → get_elem? s.views j ≡ some w → Sends s r.log r.gone r.made r.phase r.seat r.reader key j w
  sends_of s r j w role is = ⊎_elim (λ e. knows fits key s r j w is Idle e) (λ e. (knows fits key s r j w is Attached e).0) role

  pub joins_ok : (id : ℕ) (v : View B) (other : ℕ) (w : View B) → v.role ≡ Ready → (w.role ≡ Idle) ⊎ (w.role ≡ Attached) → (v.known ≡ []) ⊎ (w.sender + 1 ≡ v.sender)
      → Joins (IsInOrder fits key) id v other w (gathered v w) spent
  joins_ok id v other w role roles fit s r is ne at' =
      let vs = set s.views id (gathered v w) in let views' = set vs other spent in
      let at : get_elem? s.views other ≡ some w = sym (set_else s.views id other (gathered v w) ne) ∙ at' in
      let mine = knows fits key s r id v is Ready role in let g = mine.0 in let theirs = sends_of s r other w roles at in
      let seat' : ℕ → ℕ = turned r.seat w.sender r.reader in
      let s' : TableState B = record { words = s.words; homes = s.homes; views = views' } in
      let long : length vs ≡ length s.views = length-set s.views id (gathered v w) in
      let kept : (k : ℕ) → r.seat k ≡ r.reader → seat' k ≡ r.reader = λ k e. dite (ℕ_discrete k w.sender) (λ q. turned_here r.seat w.sender r.reader k q) (λ q. turned_else r.seat w.sender r.reader k q ∙ e) in
      let away : (j : ℕ) (u : View B) → j ≢ id → j ≢ other → get_elem? s.views j ≡ some u → get_elem? views' j ≡ some u = λ j u a b e. set_else vs other j spent b ∙ (set_else s.views id j (gathered v w) a ∙ e) in
      let hold : (m j : ℕ) → Holds s.views j m → Holds views' j m = λ m j h. (
        h.0,
        away j h.0
            (λ e. let same : Eq (View B) h.0 v = some-injective h.0 v (sym h.1 ∙ ap (get_elem? s.views) e ∙ is) in let f : Eq Role Prepared Ready = sym h.2 ∙ ap (λ (z : View B). z.role) same ∙ role in cc)
            (λ e. let same : Eq (View B) h.0 w = some-injective h.0 w (sym h.1 ∙ ap (get_elem? s.views) e ∙ at) in let p : Eq Role Prepared w.role = sym h.2 ∙ ap (λ (z : View B). z.role) same in
            ⊎_elim (λ q. let f : Eq Role Prepared Idle = p ∙ q in cc) (λ q. let f : Eq Role Prepared Attached = p ∙ q in cc) roles) h.1,
        h.2,
        h.3,
      ) in
      let half : (n : ℕ) (e : Entry B) (k : ℕ) → r.gone ≤ k → Stands r.log k n → get_elem? r.log k ≡ some e → Half s.views n e.node → Half views' n e.node ⊎ (seat' e.by ≡ r.reader) = λ n e k le st lies h.
      dite (ℕ_discrete h.0 other)
      (λ q. let same : Eq (View B) h.1 w = some-injective h.1 w (sym h.2 ∙ ap (get_elem? s.views) q ∙ at) in
      let a = (knows fits key s r other w at Attached (ap (λ (z : View B). z.role) (sym same) ∙ h.3)).1 in
      let on : Stands r.log a.place n = subst (Stands r.log a.place) (ap (λ (z : View B). z.before) (sym same) ∙ h.4) a.behind in
      let k' : a.place ≡ k = one_place fits key s r a.place k n a.there le on st in
      let e' : Eq (Entry B) a.last e = some-injective a.last e (sym a.logged ∙ ap (get_elem? r.log) k' ∙ lies) in
      inr (turned_here r.seat w.sender r.reader e.by (ap (λ (z : Entry B). z.by) (sym e') ∙ a.by_is)))
      (λ q. inl (h.0, h.1, away h.0 h.1 (λ q'. let same : Eq (View B) h.1 v = some-injective h.1 v (sym h.2 ∙ ap (get_elem? s.views) q' ∙ is) in let f : Eq Role Attached Ready = sym h.3 ∙ ap (λ (z : View B). z.role) same ∙ role in cc) q h.2, h.3, h.4, h.5)) in
      let low : w.sender < r.made = theirs.known in
      record {
        log = r.log;
        gone = r.gone;
        made = r.made;
        phase = r.phase;
        seat = seat';
        reader = r.reader;
        wide = r.wide;
        roomy = r.roomy;
        behind = r.behind;
        back = r.back;
        entries = r.entries;
        places = r.places;
        nodes = λ n lt. reviews s s' r.log r.gone r.seat seat' r.reader n refl refl
            (λ e k le st lies h. ⊎_elim (λ x. half n e k le st lies x) (λ x. inr (kept e.by x)) h) (hold n) (r.phase n) (r.nodes n lt);
        seats = λ j u h. ⊎_elim
            (λ (x : (j ≡ other) × Eq (View B) spent u). subst (λ (z : ℕ × View B). Knows s' r.log r.gone r.made r.phase seat' r.reader key z.0 z.1 z.1.role) (λ i. (sym x.0 i, x.1 i)) tt)
            (λ (x : (j ≢ other) × (get_elem? vs j ≡ some u)). ⊎_elim
            (λ (y : (j ≡ id) × Eq (View B) (gathered v w) u). subst (λ (z : ℕ × View B). Knows s' r.log r.gone r.made r.phase seat' r.reader key z.0 z.1 z.1.role) (λ i. (sym y.0 i, y.1 i))
            (subst (Knows s' r.log r.gone r.made r.phase seat' r.reader key id (gathered v w)) (sym role)
            (record { reads = g.reads; tag = g.tag; makes = g.makes; front = g.front; taken = g.taken; gathered = more seat' theirs.sent low kept g.gathered (turned_here r.seat w.sender r.reader w.sender refl) }, mine.1)))
            (λ (y : (j ≢ id) × (get_elem? s.views j ≡ some u)). let k = r.seats j u y.1 in
            (knows_on s s' r.log r.log r.gone r.gone r.made r.made r.phase r.phase r.seat seat' r.reader r.reader key j u refl
            (λ a. record { seated = turned_else r.seat w.sender r.reader u.sender (λ q. x.0 (sym a.seated ∙ ap r.seat q ∙ theirs.seated)) ∙ a.seated; known = a.known; sent = a.sent })
            (λ a. absurd (y.0 (sym a.reads ∙ g.reads)))
            (λ q. q)
            (λ _ a. record { place = a.place; last = a.last; there = a.there; behind = a.behind; logged = a.logged; node_is = a.node_is; by_is = a.by_is; unlinked = a.unlinked })
            (λ _ q. q) (λ _ q. q) u.role k))
            (at_set s.views id j (gathered v w) u x.1))
            (at_set vs other j spent u h);
      }
    where
      more : (seat' : ℕ → ℕ) → w.list ≡ sent_by w.sender r.log → w.sender < r.made → ((k : ℕ) → r.seat k ≡ r.reader → seat' k ≡ r.reader)
          → ((k : ℕ) (l : List B) → get_elem? v.known k ≡ some l → (l ≡ sent_by (v.sender + k) r.log) × (r.seat (v.sender + k) ≡ r.reader) × (v.sender + k < r.made)) → seat' w.sender ≡ r.reader
          → (k : ℕ) (l : List B) → get_elem? (w.list ∷ v.known) k ≡ some l → (l ≡ sent_by (w.sender + k) r.log) × (seat' (w.sender + k) ≡ r.reader) × (w.sender + k < r.made)
      more seat' sent low kept old here zero l h = let z : w.sender ≡ w.sender + 0 = omega arith in (sym (some-injective w.list l h) ∙ sent ∙ ap (λ (y : ℕ). sent_by y r.log) z, ap seat' (sym z) ∙ here, subst (λ (y : ℕ). y < r.made) z low)
      more seat' sent low kept old here (suc k) l h = ⊎_elim
          (λ none'. absurd (some-ne-none l (sym h ∙ ap (λ (y : List (List B)). get_elem? y k) none')))
          (λ q. let o = old k l h in let z : v.sender + k ≡ w.sender + suc k = omega arith in (o.0 ∙ ap (λ (y : ℕ). sent_by y r.log) z, ap seat' (sym z) ∙ kept (v.sender + k) o.1, subst (λ (y : ℕ). y < r.made) z o.2)) fit

  blank : (n i : ℕ) → i < n → get_elem? (map some (replicate {A = Option B} n None)) i ≡ some (some None)
  blank zero i near = absurd (omega arith)
  blank (suc n) zero near = refl
  blank (suc n) (suc i) near = blank n i (omega arith)

  -- the opening front alone
  pub starts : (ws : List ℕ) (n : ℕ) → length ws ≡ n + 1 → 0 < n → n < free_mark → get_or ws 0 0 ≡ 0 → get_or ws 1 0 ≡ 0 → ((i : ℕ) → 0 < i → i < n → get_or ws (i + 1) 0 ≡ free_mark)
      → IsInOrder fits key (opening ws (replicate n None) (view Ready key 0 0 0 0 [] []))
  starts ws n wide pos room e₀ e₁ marks = let xs : List (Option B) = replicate n None in let m : ℕ = length (map some xs) in let is : m ≡ n = length-map xs some ∙ length-replicate n None in
      let s : TableState B = opening ws xs (view Ready key 0 0 0 0 [] []) in
      let front : (i k : ℕ) → Stands {B = B} [] i k → (i ≡ 0) × (k ≡ 0) = λ i k h. let b = at_bound (0 ∷ []) i k h in let z : i ≡ 0 = omega arith in (z, sym (some-injective 0 k (ap (get_elem? (0 ∷ [])) (sym z) ∙ h))) in
      record {
        log = [];
        gone = 0;
        made = 0;
        phase = put (λ _. free) 0 (at 0);
        seat = λ _. 0;
        reader = 0;
        wide = wide ∙ ap (λ (z : ℕ). z + 1) (sym is);
        roomy = subst (λ (z : ℕ). z < free_mark) (sym is) room;
        behind = omega arith;
        back = ap some (sym e₀);
        entries = λ k e h. absurd (some-ne-none e (sym h));
        places = λ i k _ h. let f = front i k h in (ap (put (λ _. free) 0 (at 0)) f.1 ∙ (put_here (λ _. free) 0 (at 0) ∙ ap at (sym f.0)), (let g : k ≡ 0 = f.1 in omega arith));
        nodes = λ k lt. at_put (λ _. free) 0 (at 0) (λ k'. λ ph. k' < m → InPhase s [] 0 (λ _. 0) 0 k' ph) k
            (λ _. record { there = omega arith; stands = refl; holds = λ q e _ _ h. absurd (some-ne-none e (sym h)); links = λ e h. absurd (some-ne-none e (sym h)); ends = λ _. e₁ })
            (λ ne lt'. (marks k (omega arith) (omega arith), blank n k (omega arith))) lt;
        seats = λ j u h. let b = at_bound (view Ready key 0 0 0 0 [] [] ∷ []) j u h in let z : j ≡ 0 = omega arith in
            let same : Eq (View B) (view Ready key 0 0 0 0 [] []) u = some-injective _ u (ap (get_elem? (view Ready key 0 0 0 0 [] [] ∷ [])) (sym z) ∙ h) in
            subst (λ (z : ℕ × View B). Knows s [] 0 0 (put (λ _. free) 0 (at 0)) (λ _. 0) 0 key z.0 z.1 z.1.role) (λ i. (sym z i, same i))
            (record { reads = refl; tag = refl; makes = refl; front = refl; taken = refl; gathered = λ k l q. absurd (some-ne-none l (sym q)) }, blank n 0 pos);
      }

pub poses : (ro : Role) → is_sender ro ≡ Bool.true → (ro ≡ Idle) ⊎ (ro ≡ Attached)
poses Idle e = inl refl
poses Prepared e = absurd (cc)
poses Attached e = inr refl
poses Ready e = absurd (cc)
poses Lifted e = absurd (cc)
poses Spent e = absurd (cc)
