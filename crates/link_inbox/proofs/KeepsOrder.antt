-- The rule in the words of the queue.
use Rattle.std.proofs.Common.{◌≡◌, ℕ, zero, suc, ◌+◌, ◌<◌, ◌≤◌, ◌≢◌, ◌⊎◌, Bool, true, false, List, [], ◌∷◌, ◌++◌, map, length, take, drop, get_or, sym, refl, ap, ◌∙◌, subst, inl, inr, ⊎_elim, arith, le_refl}
use mathlib.Core.Path.{Path as Eq}
use mathlib.Core.Logic.{dite}
use mathlib.Core.Option.{some, some-injective, some-ne-none}
use native.Mathlib.Decide.{dec_le}
use lib.ListN.{get_elem?}
use Rattle.std.specs.Prelude.{Option, Some, None}
use Rattle.std.proofs.lemmas.List.{take-append-drop}
use Rattle.atomic_table.proofs.Lists.{drop_at}
use Rattle.digit_route.specs.States.{BatchState}
use Rattle.batch_inbox.specs.Views.{batches_of}
use Rattle.batch_inbox.specs.declared.place.Place.{Place}
use Rattle.link_inbox.specs.declared.rule.View.{View}
use Rattle.link_inbox.specs.declared.rule.Role.{Role}
use Rattle.link_inbox.specs.declared.rule.Role.TheVariants.{Idle, Prepared, Attached, Ready, Lifted, Spent}
use Rattle.link_inbox.specs.Rule.{free_mark, Entry, item_of, sent_by, Stands, Phase, free, held, at, left, TableState, next_word, Half, AtPlace, InPhase, Sends, Gets, Knows, IsInOrder}
use Rattle.link_inbox.specs.States.{IsFor}
use Rattle.link_inbox.specs.Order.{sends, takes, Sees, Leads, QueueIs, AllOut, OrderKept, KeepsOrder}
use Rattle.link_inbox.proofs.Lists.{at_bound, at_there, drop_past, of_append}
use Rattle.link_inbox.proofs.Phases.{one_node, follows, is_free}
use Rattle.link_inbox.proofs.Left.{at_take, from_of}

not_both : (ro : Role) → sends ro ≡ true → takes ro ≡ true → ⊥
not_both Idle s t = absurd (cc)
not_both Prepared s t = absurd (cc)
not_both Attached s t = absurd (cc)
not_both Ready s t = absurd (cc)
not_both Lifted s t = absurd (cc)
not_both Spent s t = absurd (cc)

at_drop : {A : Type 0} (l : List A) (n k : ℕ) (a : A) → get_elem? (drop n l) k ≡ some a → get_elem? l (n + k) ≡ some a
at_drop l zero k a e = let z : k ≡ 0 + k = omega arith in ap (get_elem? l) (sym z) ∙ e
at_drop [] (suc n) k a e = absurd (some-ne-none a (sym e))
at_drop (x ∷ xs) (suc n) k a e = let z : suc (n + k) ≡ suc n + k = omega arith in ap (get_elem? (x ∷ xs)) (sym z) ∙ at_drop xs n k a e

module _ (place : Place) (s : TableState BatchState) (r : IsInOrder IsFor place s) where
  as_sender : (j : ℕ) (v : View BatchState) (ro : Role) → sends ro ≡ true → Knows s r.log r.gone r.made r.phase r.seat r.reader place j v ro → Sends s r.log r.gone r.made r.phase r.seat r.reader place j v
  as_sender j v Idle is k = k
  as_sender j v Prepared is k = k.0
  as_sender j v Attached is k = k.0
  as_sender j v Ready is k = absurd (cc)
  as_sender j v Lifted is k = absurd (cc)
  as_sender j v Spent is k = absurd (cc)

  as_receiver : (j : ℕ) (v : View BatchState) (ro : Role) → takes ro ≡ true → Knows s r.log r.gone r.made r.phase r.seat r.reader place j v ro → Gets s r.log r.gone r.made r.phase r.seat r.reader place j v
  as_receiver j v Idle is k = absurd (cc)
  as_receiver j v Prepared is k = absurd (cc)
  as_receiver j v Attached is k = absurd (cc)
  as_receiver j v Ready is k = k.0
  as_receiver j v Lifted is k = k.0
  as_receiver j v Spent is k = absurd (cc)

  sender_at : (j : ℕ) (v : View BatchState) → Sees s j v → sends v.role ≡ true → Sends s r.log r.gone r.made r.phase r.seat r.reader place j v
  sender_at j v h is = as_sender j v v.role is (r.seats j v h)

  receiver_at : (j : ℕ) (v : View BatchState) → Sees s j v → takes v.role ≡ true → Gets s r.log r.gone r.made r.phase r.seat r.reader place j v
  receiver_at j v h is = as_receiver j v v.role is (r.seats j v h)

  module _ (a : ℕ) (u : View BatchState) (is : Sees s a u) (role : takes u.role ≡ true) (out : AllOut s u) where
    g : Gets s r.log r.gone r.made r.phase r.seat r.reader place a u
    g = receiver_at a u is role

    -- no sender's seat is the receiver's
    apart : (k : ℕ) (e : Entry BatchState) → get_elem? r.log k ≡ some e → r.seat e.by ≢ r.reader
    apart k e h same =
        let low : e.by < r.made = (r.entries k e h).1 in let all : u.made ≡ r.made = g.makes in let o = out e.by (omega arith) in
        let seated : r.seat o.1.sender ≡ o.0 = (sender_at o.0 o.1 o.2 o.3).seated in
        let z : o.0 ≡ a = sym seated ∙ (ap r.seat o.4 ∙ (same ∙ g.reads)) in
        let one : Eq (View BatchState) o.1 u = some-injective o.1 u (sym o.2 ∙ (ap (get_elem? s.views) z ∙ is)) in
        not_both u.role (ap (λ (v : View BatchState). sends v.role) (sym one) ∙ o.3) role

    empty : (x : Entry BatchState) (xs : List (Entry BatchState)) → x ∷ xs ≡ [] → ⊥
    empty x xs e = cc

    leads_from : (rest : List (Entry BatchState)) (i m : ℕ) → drop i r.log ≡ rest → r.gone ≤ i → i ≤ length r.log → Stands r.log i m → Leads s.words s.views m rest (get_or s.words 0 0)
    leads_from [] i m e le top st =
        let z : i ≡ length r.log = dite (dec_le (length r.log) i) (λ y. (let w : i ≡ length r.log = omega arith in w)) (λ n. let q = at_there r.log i (omega arith) in absurd (empty q.0 (drop (suc i) r.log) (sym (drop_at r.log i q.0 q.1) ∙ e))) in
        one_node IsFor place s r i m (get_or s.words 0 0) st (subst (λ (k : ℕ). Stands r.log k (get_or s.words 0 0)) (sym z) r.back)
    leads_from (e ∷ es) i m d le top st =
        let lt : i < length r.log = dite (dec_le (length r.log) i) (λ y. absurd (empty e es (sym d ∙ drop_past r.log i y))) (λ n. (let w : i < length r.log = omega arith in w)) in
        let q = at_there r.log i lt in let f : q.0 ∷ drop (suc i) r.log ≡ e ∷ es = sym (drop_at r.log i q.0 q.1) ∙ d in let head : Eq (Entry BatchState) q.0 e = cc in let tail : drop (suc i) r.log ≡ es = cc in
        let lies : get_elem? r.log i ≡ some e = q.1 ∙ ap some head in
        let p = r.places i m le st in let k = subst (InPhase s r.log r.gone r.seat r.reader m) p.0 (r.nodes m p.1) in
        (⊎_elim (λ x. inl x) (λ x. inr (x.0, ⊎_elim (λ h. h) (λ h. absurd (apart i e lies h)) x.1)) (k.links e lies), leads_from es (suc i) e.node tail (omega arith) (omega arith) (follows IsFor place s r i e lies))

    abbrev waiting : List (Entry BatchState)
    waiting = drop r.gone r.log

    lies_at : (k : ℕ) (e : Entry BatchState) → get_elem? waiting k ≡ some e → (get_elem? s.homes e.node ≡ some (some (Some e.item))) × IsFor u.place e.by e.item
    lies_at k e h =
        let i : ℕ = r.gone + k in let there = at_drop r.log r.gone k e h in let p = r.places (suc i) e.node (omega arith) (follows IsFor place s r i e there) in
        let n = subst (InPhase s r.log r.gone r.seat r.reader e.node) p.0 (r.nodes e.node p.1) in
        (n.holds i e refl (omega arith) there, subst (λ (z : Place). IsFor z e.by e.item) (sym g.tag) (r.entries i e there).2)

    told : (t : ℕ) (b : BatchState) → IsFor place t b → b.sender ≡ t
    told t b h = h.0

    in_order : (j : ℕ) (v : View BatchState) → Sees s j v → sends v.role ≡ true → v.list ≡ batches_of v.sender u.list ++ batches_of v.sender (map item_of waiting)
    in_order j v h sender =
        let by : ℕ = v.sender in let k = sender_at j v h sender in
        let old : batches_of by u.list ≡ sent_by by (take r.gone r.log) = ap (batches_of by) g.taken ∙ from_of IsFor place (λ (b : BatchState). b.sender) told by (take r.gone r.log) (λ q e x. (r.entries q e (at_take IsFor place (λ (b : BatchState). b.sender) told r.log r.gone q e x)).2.0) in
        let new : batches_of by (map item_of waiting) ≡ sent_by by waiting = from_of IsFor place (λ (b : BatchState). b.sender) told by waiting (λ q e x. (r.entries (r.gone + q) e (at_drop r.log r.gone q e x)).2.0) in
        k.sent ∙ (ap (sent_by by) (sym (take-append-drop r.gone r.log)) ∙ (of_append by (take r.gone r.log) waiting ∙ (λ i. sym old i ++ sym new i)))

  pub order_kept : OrderKept s
  order_kept = record {
    one_receiver = λ a b u v hu hv tu tv. sym (receiver_at a u hu tu).reads ∙ (receiver_at b v hv tv).reads;
    one_seat = λ a b u v hu hv su sv same. sym (sender_at a u hu su).seated ∙ (ap r.seat same ∙ (sender_at b v hv sv).seated);
    queued = λ a u h role out. record {
      queue = drop r.gone r.log;
      reached = leads_from a u h role out (drop r.gone r.log) r.gone u.node refl (le_refl r.gone) r.behind (receiver_at a u h role).front;
      laid = lies_at a u h role out;
      sent = in_order a u h role out;
    };
    free = λ n lt mark. (is_free IsFor place s r n mark (r.phase n) (r.nodes n lt)).1.1;
  }
