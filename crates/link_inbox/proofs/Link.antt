-- The store of the link keeps the rule.
use Rattle.std.proofs.Common.{◌≡◌, ℕ, suc, ◌+◌, ◌<◌, ◌≤◌, ◌≢◌, ◌⊎◌, List, length, get_or, set, sym, refl, ap, ◌∙◌, subst, inl, inr, ⊎_elim, arith, length-set, get_or-set_other, get_or-set_same, le_refl}
use mathlib.Core.Path.{Path as Eq}
use mathlib.Core.Logic.{dite}
use mathlib.Core.Option.{none, some, some-injective}
use native.Mathlib.Decide.{ℕ_discrete}
use lib.ListN.{get_elem?}
use Rattle.std.specs.Prelude.{Option, Some, None}
use Rattle.atomic_table.specs.Table.{State, Me, keeps, step, Allows}
use Rattle.atomic_table.proofs.Lists.{at_set, at_map, set_else}
use Rattle.batch_inbox.specs.declared.place.Place.{Place}
use Rattle.link_inbox.specs.declared.rule.View.{View}
use Rattle.link_inbox.specs.declared.rule.Role.{Role}
use Rattle.link_inbox.specs.declared.rule.Role.TheVariants.{Idle, Prepared, Attached, Ready, Lifted, Spent}
use Rattle.link_inbox.specs.Rule.{free_mark, Entry, Stands, Phase, free, held, at, left, TableState, next_word, Half, Holds, AtPlace, InPhase, Sends, Gets, HasAttached, Knows, IsInOrder}
use Rattle.link_inbox.specs.Steps.{SeatState, idle, links}
use Rattle.link_inbox.proofs.Lists.{at_bound}
use Rattle.link_inbox.proofs.Phases.{knows_on, stays, half_stays, holds_stay, one_place, one_node, follows, near}
use Rattle.link_inbox.proofs.Prepare.{knows}

module _ {B : Type 0} (fits : Place → ℕ → B → Type 0) (key : Place) (s : TableState B) (r : IsInOrder fits key s) (id : ℕ) (v : View B) (is : get_elem? s.views id ≡ some v) where
  pub linked_path : v.role ≡ Attached → IsInOrder fits key record { words = set s.words (v.before + 1) v.node; homes = s.homes; views = set s.views id (idle v) }
  linked_path role =
      let n : ℕ = length s.homes in let lw : ℕ = length s.words in let wide : lw ≡ n + 1 = r.wide in
      let mine = knows fits key s r id v is Attached role in let h = mine.1 in let m : ℕ = v.before in
      let w : View B = idle v in let words' : List ℕ = set s.words (m + 1) v.node in let views' = set s.views id w in
      let s' : TableState B = record { words = words'; homes = s.homes; views = views' } in
      let here = r.places h.place m h.there h.behind in let inside : m < n = here.1 in
      let old = subst (InPhase s r.log r.gone r.seat r.reader m) here.0 (r.nodes m inside) in
      let word : (k : ℕ) → k ≢ m → next_word words' k ≡ next_word s.words k = λ k ne. get_or-set_other s.words (m + 1) (k + 1) v.node 0 (λ e. ne (omega arith)) in
      let now : next_word words' m ≡ v.node = get_or-set_same s.words (m + 1) v.node 0 (omega arith) in
      record {
        log = r.log;
        gone = r.gone;
        made = r.made;
        phase = r.phase;
        seat = r.seat;
        reader = r.reader;
        wide = length-set s.words (m + 1) v.node ∙ wide;
        roomy = r.roomy;
        behind = r.behind;
        back = subst (Stands r.log (length r.log)) (sym (get_or-set_other s.words (m + 1) 0 v.node 0 (λ e. omega arith))) r.back;
        entries = r.entries;
        places = r.places;
        nodes = λ k lt. dite (ℕ_discrete k m)
            (λ e. subst (λ (z : ℕ). InPhase s' r.log r.gone r.seat r.reader z (r.phase z)) (sym e) (subst (InPhase s' r.log r.gone r.seat r.reader m) (sym here.0) record {
              there = old.there;
              stands = old.stands;
              holds = old.holds;
              links = λ x lies. inl (now ∙ sym h.node_is ∙ ap (λ (z : Entry B). z.node) (some-injective h.last x (sym h.logged ∙ lies)));
              ends = λ le. let b = at_bound r.log h.place h.last h.logged in absurd (omega arith);
            }))
            (λ ne. stays s s' r.log r.gone r.seat r.reader k (word k ne) refl (half_stays s.views id v w k is (λ x. ne (sym x.1))) (holds_stay s.views id v w k is (λ x. let f : Eq Role Prepared Attached = sym x.0 ∙ role in cc)) (r.phase k) (r.nodes k lt));
        seats = λ j u e. ⊎_elim
            (λ (x : (j ≡ id) × Eq (View B) w u). subst (λ (z : ℕ × View B). Knows s' r.log r.gone r.made r.phase r.seat r.reader key z.0 z.1 z.1.role) (λ i. (sym x.0 i, x.1 i))
            (record { seated = mine.0.seated; known = mine.0.known; sent = mine.0.sent }))
            (λ (x : (j ≢ id) × (get_elem? s.views j ≡ some u)). let k = r.seats j u x.1 in
            (knows_on s s' r.log r.log r.gone r.gone r.made r.made r.phase r.phase r.seat r.seat r.reader r.reader key j u refl
            (λ a. record { seated = a.seated; known = a.known; sent = a.sent })
            (λ a. record { reads = a.reads; tag = a.tag; makes = a.makes; front = a.front; taken = a.taken; gathered = a.gathered })
            (λ q. q)
            (λ b a. record {
              place = a.place;
              last = a.last;
              there = a.there;
              behind = a.behind;
              logged = a.logged;
              node_is = a.node_is;
              by_is = a.by_is;
              unlinked = word u.before (λ q. let z : a.place ≡ h.place = one_place fits key s r a.place h.place m a.there h.there (subst (Stands r.log a.place) q a.behind) h.behind in
                  let same : Eq (Entry B) a.last h.last = some-injective a.last h.last (sym a.logged ∙ ap (get_elem? r.log) z ∙ h.logged) in
                  x.0 (sym b.seated ∙ ap r.seat (sym a.by_is ∙ ap (λ (y : Entry B). y.by) same ∙ h.by_is) ∙ mine.0.seated)) ∙ a.unlinked;
            })
            (λ _ q. q)
            (λ _ q. q) u.role k))
            (at_set s.views id j w u e);
      }

module _ {B : Type 0} (fits : Place → ℕ → B → Type 0) (key : Place) where
  pub links_ok : (n id : ℕ) (me : SeatState B) → me.0.role ≡ Attached → Allows (IsInOrder fits key) n id me (me.0.before + 1) (λ _. me.0.node) (λ _ m. links me m)
  links_ok n id me role s r wide is _ = (idle me.0, keeps, tt, linked_path fits key s r id me.0 is role, (refl, refl))
