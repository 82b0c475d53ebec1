-- The steps of a sender keep the rule.
use Rattle.std.proofs.Common.{◌≡◌, ℕ, suc, ◌+◌, ◌<◌, ◌≤◌, ◌≢◌, ◌⊎◌, eqb, List, [], ◌∷◌, ◌++◌, map, length, get_or, set, sym, refl, ap, ◌∙◌, subst, inl, inr, ⊎_elim, arith, length-set, length-append, get_or-set_other, get_or-set_same, le_refl}
use mathlib.Core.Path.{Path as Eq}
use mathlib.Core.Logic.{dite}
use mathlib.Core.Option.{none, some, some-injective}
use native.Mathlib.Decide.{ℕ_discrete}
use lib.ListN.{get_elem?}
use lib.Seq.{set-get_or}
use prog.Atomic.{either}
use Rattle.std.specs.Prelude.{Option, Some, None}
use Rattle.atomic_table.specs.Table.{State, Me, Act, keeps, takes, gives, step, stepped, rest, carried_after, Valid, Allows}
use Rattle.atomic_table.proofs.Lists.{at_set, at_map, at_longer, at_last, set_again, set_here, set_else, exchanged}
use Rattle.batch_inbox.specs.declared.place.Place.{Place}
use Rattle.link_inbox.specs.declared.rule.View.{View}
use Rattle.link_inbox.specs.declared.rule.Role.{Role}
use Rattle.link_inbox.specs.declared.rule.Role.TheVariants.{Idle, Prepared, Attached, Ready, Lifted, Spent}
use Rattle.link_inbox.specs.Rule.{free_mark, Entry, entry, sent_by, node_of, item_of, Stands, Phase, free, held, at, left, TableState, next_word, Half, Holds, AtPlace, node_for, InPhase, Sends, Gets, HasAttached, Knows, IsInOrder}
use Rattle.link_inbox.specs.Steps.{SeatState, prepared, attached, idle, prepares, attaches, links}
use Rattle.link_inbox.proofs.Lists.{at_end, at_bound, at_there, of_mine, of_other}
use Rattle.link_inbox.proofs.Phases.{put, at_put, put_here, put_else, knows_on, stays, half_stays, holds_stay, one_place, one_node, follows, near, is_free}

module _ {B : Type 0} (fits : Place → ℕ → B → Type 0) (key : Place) where
  abbrev pub Goes : TableState B → ℕ → ℕ → SeatState B → (SeatState B → Type 0) → ℕ → Type 0
  Goes s i id me told new = (w : View B) × (a : Act (Option B)) × Valid s.homes me.1 a × IsInOrder fits key (stepped s i new id me.1 w a) × told (w, carried_after me.1 a)

  -- a step that changes nothing
  pub still : (s : TableState B) (r : IsInOrder fits key s) (i id : ℕ) (me : SeatState B) → get_elem? s.views id ≡ some me.0 → IsInOrder fits key (stepped s i (get_or s.words i 0) id me.1 me.0 keeps)
  still s r i id me is = subst (λ (z : List ℕ × List (View B)). IsInOrder fits key record { words = z.0; homes = s.homes; views = z.1 }) (λ k. (sym (set-get_or s.words i 0) k, sym (set_again s.views id me.0 is) k)) r

  module _ (s : TableState B) (r : IsInOrder fits key s) (id : ℕ) (v : View B) (is : get_elem? s.views id ≡ some v) where
    pub knows : (ro : Role) → v.role ≡ ro → Knows s r.log r.gone r.made r.phase r.seat r.reader key id v ro
    knows ro e = subst (Knows s r.log r.gone r.made r.phase r.seat r.reader key id v) e (r.seats id v is)

    -- the seat takes a free node
    pub prepared_path : (node : ℕ) → v.role ≡ Idle → node ≡ node_for v.sender (length v.list) → node < length s.homes → next_word s.words node ≡ free_mark
        → (get_elem? s.homes node ≡ some (some None)) × IsInOrder fits key record { words = set s.words (node + 1) 0; homes = set s.homes node none; views = set s.views id (prepared v node) }
    prepared_path node role pos inside mark =
        let n : ℕ = length s.homes in let lw : ℕ = length s.words in let wide : lw ≡ n + 1 = r.wide in
        let fr = is_free fits key s r node mark (r.phase node) (r.nodes node inside) in let w : View B = prepared v node in
        let words' : List ℕ = set s.words (node + 1) 0 in let homes' = set s.homes node none in let views' = set s.views id w in
        let s' : TableState B = record { words = words'; homes = homes'; views = views' } in
        let phase' : ℕ → Phase = put r.phase node (held id) in
        let same : length homes' ≡ n = length-set s.homes node none in
        let unlike : (m : ℕ) (ph : Phase) → Eq Phase (r.phase m) ph → (Eq Phase ph free → ⊥) → m ≢ node = λ m ph h ne e. ne (sym h ∙ ap r.phase e ∙ fr.0) in
        let word : (m : ℕ) → m ≢ node → next_word words' m ≡ next_word s.words m = λ m ne. get_or-set_other s.words (node + 1) (m + 1) 0 0 (λ e. ne (omega arith)) in
        let calm : (m k : ℕ) → Half s.views m k → Half views' m k = λ m. half_stays s.views id v w m is (λ h. let f : Eq Role Attached Idle = sym h.0 ∙ role in cc) in
        let hold : (m j : ℕ) → Holds s.views j m → Holds views' j m = λ m. holds_stay s.views id v w m is (λ h. let f : Eq Role Prepared Idle = sym h.0 ∙ role in cc) in
        let low : id < length s.views = at_bound s.views id v is in (
          fr.1.1,
          record {
            log = r.log;
            gone = r.gone;
            made = r.made;
            phase = phase';
            seat = r.seat;
            reader = r.reader;
            wide = length-set s.words (node + 1) 0 ∙ wide ∙ ap (λ (z : ℕ). z + 1) (sym same);
            roomy = subst (λ (z : ℕ). z < free_mark) (sym same) r.roomy;
            behind = r.behind;
            back = subst (Stands r.log (length r.log)) (sym (get_or-set_other s.words (node + 1) 0 0 0 (λ e. omega arith))) r.back;
            entries = r.entries;
            places = λ i m le st. let p = r.places i m le st in (put_else r.phase node (held id) m (unlike m (at i) p.0 (λ e. cc)) ∙ p.0, subst (λ (z : ℕ). m < z) (sym same) p.1);
            nodes = λ m lt. at_put r.phase node (held id) (InPhase s' r.log r.gone r.seat r.reader) m (get_or-set_same s.words (node + 1) 0 0 (omega arith), (w, set_here s.views id w low, refl, refl))
                (λ ne. stays s s' r.log r.gone r.seat r.reader m (word m ne) (set_else s.homes node m none ne) (calm m) (hold m) (r.phase m) (r.nodes m (subst (λ (z : ℕ). m < z) same lt)));
            seats = λ j u e. ⊎_elim
                (λ (x : (j ≡ id) × Eq (View B) w u). subst (λ (z : ℕ × View B). Knows s' r.log r.gone r.made phase' r.seat r.reader key z.0 z.1 z.1.role) (λ i. (sym x.0 i, x.1 i))
                ((let k = knows Idle role in (record { seated = k.seated; known = k.known; sent = k.sent }, put_here r.phase node (held id), subst (λ (z : ℕ). node < z) (sym same) inside, pos))))
                (λ (x : (j ≢ id) × (get_elem? s.views j ≡ some u)). let k = r.seats j u x.1 in
                (knows_on s s' r.log r.log r.gone r.gone r.made r.made r.phase phase' r.seat r.seat r.reader r.reader key j u same (λ a. record { seated = a.seated; known = a.known; sent = a.sent })
                (λ a. record { reads = a.reads; tag = a.tag; makes = a.makes; front = a.front; taken = a.taken; gathered = a.gathered })
                (λ h. put_else r.phase node (held id) u.node (unlike u.node (held j) h (λ q. cc)) ∙ h)
                (λ _ a. record {
                  place = a.place;
                  last = a.last;
                  there = a.there;
                  behind = a.behind;
                  logged = a.logged;
                  node_is = a.node_is;
                  by_is = a.by_is;
                  unlinked = word u.before (unlike u.before (at a.place) (r.places a.place u.before a.there a.behind).0 (λ q. cc)) ∙ a.unlinked;
                })
                (λ a h. set_else s.homes node u.node none (unlike u.node (at r.gone) (r.places r.gone u.node (le_refl r.gone) a.front).0 (λ q. cc)) ∙ h)
                (λ _ p. put_else r.phase node (held id) u.before (unlike u.before left p (λ q. cc)) ∙ p) u.role k))
                (at_set s.views id j w u e);
          },
        )

  pub prepares_ok : (n id node : ℕ) (me : SeatState B) → me.0.role ≡ Idle → node ≡ node_for me.0.sender (length me.0.list) → node < n
      → Allows (IsInOrder fits key) n id me (node + 1) (λ y. either (eqb y free_mark) 0 y) (prepares (step n (node + 1) free_mark 0 none) me)
  prepares_ok n id node me role pos inside s r wide is _ = let y : ℕ = get_or s.words (node + 1) 0 in let told = prepares (step n (node + 1) free_mark 0 none) me y in
      exchanged y free_mark 0 (Goes s (node + 1) id me told)
      (λ hit. let h : length s.homes ≡ n = wide in let p = prepared_path s r id me.0 is node role pos (omega arith) hit in
      (prepared me.0 node, takes node None, p.0, p.1, ((λ _ k e. let same : node ≡ k = omega arith in (ap (prepared me.0) same, ap (λ (z : ℕ). (z, None) ∷ me.1) same)), λ miss. absurd (miss hit))))
      (λ miss. (me.0, keeps, tt, still s r (node + 1) id me is, ((λ hit. absurd (miss hit)), λ _. (refl, refl))))
