use Rattle.std.proofs.Common.{◌≡◌, [], ◌++◌, List, length, map, ap, sym, ◌∙◌, subst, IsPermutation}
use Rattle.std.proofs.lemmas.List.{nil_from_length}
use Rattle.std.proofs.lemmas.Bool.{false≢true}
use Rattle.std.proofs.lemmas.List.Sorted.{IsPermutation-refl, IsPermutation-trans, IsPermutation-append_left, length_permutation}
use Rattle.slot_chain.specs.Buffer.{Buffer}
use Rattle.digit_route.specs.Digits.{Scheme}
use Rattle.pool_desk.specs.Desks.{DeskState}
use Rattle.pool_fabric.specs.Seats.{SeatState, seat_of}
use Rattle.slot_balance.specs.Posts.{Posts}
use Rattle.slot_balance.proofs.Posting.{posts_end, posts_then}
use Rattle.pool_fabric.proofs.fabric.Fabric.post_in_place.Goals.{then-is_empty, else-is_empty}
use Rattle.pool_fabric.proofs.fabric.Fabric.post_in_place.Goals as goal

-- the first round and the later ones, and then what was refused in each goes back
in_all : (d e : DeskState) (l x y u v : List Buffer) (ss ss' ss'' : List SeatState) → e.number ≡ d.number → e.digits ≡ d.digits
    → Posts d.digits d.number d.cached ss e.cached x ss' → Posts e.digits e.number e.cached ss' [] y ss''
    → l ≡ [] → IsPermutation (l ++ x) u → IsPermutation (u ++ y) v
    → Posts d.digits d.number d.cached ss [] v ss''
in_all d e l x y u v ss ss' ss'' number digits first later none back again =
    let same : Posts d.digits d.number e.cached ss' [] y ss'' =
    subst (λ (s : Scheme). Posts s d.number e.cached ss' [] y ss'') digits (subst (λ n. Posts e.digits n e.cached ss' [] y ss'') number later) in
    let both = posts_then d.digits d.number d.cached e.cached [] x y ss ss' ss'' first same in
    let x_back : IsPermutation x u = subst (λ k. IsPermutation (k ++ x) u) none back in
    posts_end d.digits d.number d.cached [] [] (x ++ y) v ss ss'' both (IsPermutation-refl [])
    (IsPermutation-trans _ _ _ (IsPermutation-append_left y x u x_back) again)

pub returns-clause-posts : goal.returns-clause-posts
returns-clause-posts g c =
    let as_seat = seat_of g.S.Sender.inbox g.S.Sender.number g.S.Sender.sent g.S.Sender.resting in
    let f = c.post_first_round-first in
    let l = c.post_later_rounds-later in
    in_all c.args.desk.now f.new.desk l.new.desk.cached f.result.items l.result.items c.take_back.new.self.cached c.take_back-2.new.self.cached
    (map as_seat c.args.seats.now) (map as_seat f.new.seats) (map as_seat l.new.seats)
    (ap (λ (d : DeskState). d.number) f.ensures.same) (ap (λ (d : DeskState). d.digits) f.ensures.same) f.ensures.posts l.ensures.posts
    (ap (λ (d : DeskState). d.cached) l.ensures.same) c.take_back.ensures.items c.take_back-2.ensures.items

nothing : (u x v y l : List Buffer) → l ≡ [] → x ≡ [] → y ≡ [] → IsPermutation (l ++ x) u → IsPermutation (u ++ y) v → v ≡ []
nothing u x v y l a b d p q =
    let e : l ++ x ≡ [] = ap (λ k. k ++ x) a ∙ b in
    let f : u ≡ [] = nil_from_length u (length_permutation (l ++ x) u p ∙ ap length e) in
    let h : u ++ y ≡ [] = ap (λ k. k ++ y) f ∙ d in
    nil_from_length v (length_permutation (u ++ y) v q ∙ ap length h)

pub returns-clause-all : goal.returns-clause-all
returns-clause-all g c = λ t. elim c.if-is_empty.branch [
  | then-is_empty w ↦
      nothing c.take_back.new.self.cached c.post_first_round-first.result.items c.take_back-2.new.self.cached c.post_later_rounds-later.result.items
      c.post_later_rounds-later.new.desk.cached (ap (λ (d : DeskState). d.cached) c.post_later_rounds-later.ensures.same) (c.is_empty.ensures.0 w.if-is_empty.true)
      (w.is_empty-all.ensures.0 (sym w.all-is ∙ t)) c.take_back.ensures.items c.take_back-2.ensures.items
  | else-is_empty w ↦ absurd (false≢true (sym (w.all-is ∙ w.if-is_empty.false) ∙ t))
]
