use Rattle.std.proofs.Common.{rules, ◌≡◌, ◌+◌, ◌*◌, ◌%◌, ◌<◌, ◌≤◌, ◌++◌, [], ◌∷◌, ℕ, List, length, map, sym, refl, ap, subst, ◌∙◌, inl, inr, ⊎_elim, arith, length-append, length-set}
use Rattle.std.specs.Prelude.{slice_index_or, slice_set}
use lib.ListN.{get_elem?}
use mathlib.Core.Option.{some}
use Rattle.std.proofs.lemmas.List.{append_assoc, nil_from_length}
use Rattle.atomic_table.proofs.Lists.{at_longer, at_last}
use Rattle.digit_route.specs.States.{BatchState}
use Rattle.link_inbox.specs.States.{SendState, IsFor}
use Rattle.link_inbox.proofs.Comings.{joins_ok, poses}
use Rattle.link_inbox.proofs.Lists.{turns_more, get_at, at_get}
use Rattle.link_inbox.proofs.Seating.{same_inbox}
use Rattle.link_inbox.proofs.drain.gathered.Goals as goal

number : (all items gone new : List SendState) (x : SendState) → all ≡ items ++ gone → items ≡ new ++ x ∷ [] → get_elem? all (length new) ≡ some x
number all items gone new x e f = ap (λ (z : List SendState). get_elem? z (length new)) (e ∙ ap (λ (z : List SendState). z ++ gone) f) ∙ at_longer (new ++ x ∷ []) gone (length new) x (at_last new x (length new) refl)

bound : (all items gone new : List SendState) (x : SendState) → all ≡ items ++ gone → items ≡ new ++ x ∷ [] → length new < length all
bound all items gone new x e f = let a : length all ≡ length items + length gone = ap length e ∙ length-append items gone in let b : length items ≡ length new + 1 = ap length f ∙ length-append new (x ∷ []) in omega arith

pub bounds-turns-sender : goal.bounds-turns-sender
bounds-turns-sender c =
    let i = c.loop-seat.invariant in let f = c.in-Some.ensures.items in let n : ℕ = length c.pop.new.self.items in
    let mine = c.requires.seats.0 n c.in-Some.seat (get_at c.args.seats.items n c.in-Some.seat (number _ _ _ _ _ i.5.1 f)) in
    let is : c.seat.inside.sender ≡ n = ap (λ (s : SendState). s.sender) c.seat.view_is ∙ mine.1 in let b : n < length c.args.seats.items = bound _ _ _ _ _ i.5.1 f in let top = c.requires.seats.1 in
    let g : c.seat.inside.sender < 64 = omega arith in g

pub join_seat-requires : goal.join_seat-requires
join_seat-requires c =
    let i = c.loop-seat.invariant in let f = c.in-Some.ensures.items in let new = c.pop.new.self.items in let n : ℕ = length new in
    let mine = c.requires.seats.0 n c.in-Some.seat (get_at c.args.seats.items n c.in-Some.seat (number _ _ _ _ _ i.5.1 f)) in
    let v = c.loop-seat.token.me.0 in let inner = c.seat.inside in let w = inner.token.me.0 in
    let long : length c.loop-seat.seats.items ≡ n + 1 = ap length f ∙ length-append new (c.in-Some.seat ∷ []) in
    let who : w.sender ≡ n = c.seat.invariant.numbered ∙ (ap (λ (s : SendState). s.sender) c.seat.view_is ∙ mine.1) in (
      i.0 ∙ c.requires.token.0,
      (same_inbox inner.token.table_id c.args.words.now.table_id w.place c.args.words.now.key (ap (λ (s : SendState). s.inbox) c.seat.view_is ∙ mine.0)).0,
      c.seat.invariant.empty,
      c.requires.token.4,
      joins_ok IsFor c.args.words.now.key _ v _ w i.1 (poses w.role c.seat.invariant.role)
          (⊎_elim (λ (e : i.5.0 ≡ []). inl (i.5.2 ∙ ap (map (λ (s : SendState). s.sent)) e)) (λ (e : v.sender ≡ length c.loop-seat.seats.items). inr (let g : w.sender + 1 ≡ v.sender = omega arith in g)) i.5.3),
    )

pub loop-seat-preserved : goal.loop-seat-preserved
loop-seat-preserved c =
    let i = c.loop-seat.invariant in let f = c.in-Some.ensures.items in let new = c.pop.new.self.items in let n : ℕ = length new in let x : SendState = c.in-Some.seat in
    let mine = c.requires.seats.0 n x (get_at c.args.seats.items n c.in-Some.seat (number _ _ _ _ _ i.5.1 f)) in let b : n < length c.args.seats.items = bound _ _ _ _ _ i.5.1 f in let top = c.requires.seats.1 in
    let inner = c.seat.inside in let joined = c.join_seat.ensures in let me = ap (λ m. m.0) joined.2 in let turns : List ℕ = c.loop-seat.turns in let long : length turns ≡ 64 = i.6 in
    let more : length c.loop-seat.seats.items ≡ n + 1 = ap length f ∙ length-append new (x ∷ []) in
    let seen : inner.token.me.0.list ≡ x.sent = ap (λ (s : SendState). s.sent) c.seat.view_is in
    let at : inner.sender ≡ n = ap (λ (s : SendState). s.sender) c.seat.view_is ∙ mine.1 in
    let turn : inner.turn ≡ length x.sent % 16 = c.seat.invariant.turned ∙ ap (λ (l : List BatchState). length l % 16) seen in (
      joined.0 ∙ i.0,
      ap (λ u. u.role) me ∙ i.1,
      ap (λ m. m.1) joined.2 ∙ i.2,
      ap (λ u. u.list) me ∙ i.3,
      ap (λ u. u.made) me ∙ i.4,
      (
        x ∷ i.5.0,
        i.5.1 ∙ (ap (λ (z : List SendState). z ++ i.5.0) f ∙ append_assoc new (x ∷ []) i.5.0),
        ap (λ u. u.known) me ∙ (ap (λ (z : List BatchState). z ∷ c.loop-seat.token.me.0.known) seen ∙ ap (λ l. x.sent ∷ l) i.5.2),
        inr (ap (λ u. u.sender) me ∙ (c.seat.invariant.numbered ∙ at)),
        (λ k seat h. ap (λ (z : ℕ × ℕ). slice_index_or (slice_set turns z.0 z.1) (n + k) 0) (λ j. (at j, turn j))
            ∙ turns_more (λ (s : SendState). length s.sent % 16) turns n x i.5.0 (omega arith) (λ q y e. ap (λ (z : ℕ). slice_index_or turns (z + q) 0) (sym more) ∙ i.5.4 q y e) k seat h),
      ),
      length-set turns inner.sender inner.turn ∙ long,
    )

pub returns-clause-turns : goal.returns-clause-turns
returns-clause-turns c k s is =
    let i = c.loop-seat.invariant in let empty : c.loop-seat.seats.items ≡ [] = nil_from_length _ (sym c.loop-seat.seats.ok.0 ∙ c.in_default.ensures.cases.0) in
    let gone = i.5.1 ∙ ap (λ (l : List SendState). l ++ i.5.0) empty in
    let z : k ≡ 0 + k = omega arith in ap (λ (n : ℕ). slice_index_or c.loop-seat.turns n 0) z ∙ ap (λ (l : List SendState). slice_index_or c.loop-seat.turns (length l + k) 0) (sym empty) ∙ i.5.4 k s (ap (λ (l : List SendState). get_elem? l k) (sym gone) ∙ at_get c.args.seats.items k s is)
