use Rattle.std.proofs.Common.{◌≡◌, ◌+◌, ◌*◌, ℕ, List, length, get_or, set, replicate, ap, ◌∙◌, arith, length-set, get_or-set_same, get_or-set_other}
use Rattle.std.proofs.lemmas.List.{get_or-replicate}
use lib.ListN.{length-replicate}
use Rattle.link_inbox.specs.Rule.{free_mark}
use Rattle.link_inbox.specs.States.{IsFor}
use Rattle.link_inbox.proofs.Comings.{starts}
use Rattle.link_inbox.proofs.opening.opened.Goals as goal

pub new-requires : goal.new-requires
new-requires c =
    let n : ℕ = c.args.senders * 16 + 1 in let l : List ℕ = c.in_ok-words.words.items in let ws : List ℕ = c.as_slice.result.now in let req = c.requires in
    let is : l ≡ replicate (n + 1) free_mark = c.in_ok-words.ensures.items_if_clones_equal (λ y e. e) in
    let long : length l ≡ n + 1 = ap length is ∙ length-replicate (n + 1) free_mark in
    let made : ws ≡ set (set l 0 0) 1 0 = c.as_slice.ensures.value in
    let first : length (set l 0 0) ≡ n + 1 = length-set l 0 0 ∙ long in
    rw c.in_ok-vacant_loads.ensures (starts IsFor c.args.place.now ws n (ap length made ∙ (length-set (set l 0 0) 1 0 ∙ first)) (omega arith) (omega arith)
    (ap (λ (z : List ℕ). get_or z 0 0) made ∙ (get_or-set_other (set l 0 0) 1 0 0 0 (λ e. omega arith) ∙ get_or-set_same l 0 0 0 (omega arith)))
    (ap (λ (z : List ℕ). get_or z 1 0) made ∙ get_or-set_same (set l 0 0) 1 0 0 (omega arith))
    (λ i pos lt. ap (λ (z : List ℕ). get_or z (i + 1) 0) made ∙ (get_or-set_other (set l 0 0) 1 (i + 1) 0 0 (λ e. omega arith) ∙ (get_or-set_other l 0 (i + 1) 0 0 (λ e. omega arith)
    ∙ (ap (λ (z : List ℕ). get_or z (i + 1) 0) is ∙ get_or-replicate (n + 1) (i + 1) free_mark 0 (omega arith))))))
