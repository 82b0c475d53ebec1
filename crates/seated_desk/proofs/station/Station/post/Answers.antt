use Rattle.std.proofs.Common.{◌≡◌, ℕ, List, [], ◌++◌, length, take, drop, refl, sym, ap, ◌∙◌, subst, IsPermutation}
use Rattle.std.proofs.lemmas.List.Sorted.{IsPermutation-refl}
use Rattle.slot_chain.specs.Buffer.{Buffer}
use Rattle.link_inbox.specs.States.{SendState}
use Rattle.pool_desk.specs.Desks.{DeskState}
use Rattle.slot_balance.specs.Posts.{Posts}
use Rattle.slot_balance.proofs.Balanced.{posts_back_balances}
use Rattle.slot_balance.proofs.Posting.{posts_end, written}
use Rattle.seated_desk.specs.Ways.{seats_at}
use Rattle.seated_desk.proofs.Seated.{seated_posted, seated_same}
use Rattle.seated_desk.proofs.Claimed.{noted_same}
use Rattle.seated_desk.proofs.station.Station.post.Goals as goal

-- a post from the seats as a slice, once they are written back
post_back : (d : DeskState) (x : List Buffer) (items slice new : List SendState) (n : ℕ) → slice ≡ items → length new ≡ length slice → n ≡ length items
    → Posts d.digits d.number d.cached (seats_at slice) [] x (seats_at new) → Posts d.digits d.number d.cached (seats_at items) [] x (seats_at (take n (new ++ drop (length new) items)))
post_back d x items slice new n same long len posts =
    subst (λ l. Posts d.digits d.number d.cached (seats_at items) [] x (seats_at l)) (sym (written new items n (long ∙ ap length same) len))
    (subst (λ l. Posts d.digits d.number d.cached (seats_at l) [] x (seats_at new)) same posts)

-- what was refused is cached again, and nothing else
cached_again : (mid d : DeskState) (x : List Buffer) → mid.cached ≡ [] → IsPermutation (mid.cached ++ x) d.cached → IsPermutation x d.cached
cached_again mid d x none p = subst (λ l. IsPermutation (l ++ x) d.cached) none p

pub invariant_of-self-clause-noted : goal.invariant_of-self-clause-noted
invariant_of-self-clause-noted c =
    noted_same _ _ _ (ap (λ (d : DeskState). d.drawn) c.take_back.ensures.same ∙ ap (λ (d : DeskState). d.drawn) c.post_each-posted.ensures.same) c.args.self.now.noted

pub invariant_of-self-clause-balance : goal.invariant_of-self-clause-balance
invariant_of-self-clause-balance c =
    let s = c.args.self.now in
    let e = c.post_each-posted.ensures in
    let d = c.take_back.new.self in
    posts_back_balances s.desk _ s.take.taken s.lent s.freed [] _ d _ s.balance (c.take_back.ensures.same ∙ ap (λ (x : DeskState). record x { cached = d.cached }) e.same)
    (post_back s.desk _ s.seats.items _ _ s.seats.len c.as_mut_slice-seats.ensures.value c.post_each-posted.auto.seats s.seats.ok.0 e.posts)
    (cached_again c.post_each-posted.new.desk d _ (ap (λ (x : DeskState). x.cached) e.same) c.take_back.ensures.items)

pub invariant_of-self-clause-seated : goal.invariant_of-self-clause-seated
invariant_of-self-clause-seated c =
    let s = c.args.self.now in
    let e = c.post_each-posted.ensures in
    let same = c.take_back.ensures.same ∙ ap (λ (x : DeskState). record x { cached = c.take_back.new.self.cached }) e.same in
    seated_same _ _ _ _ _ _ _ _ (ap (λ (x : DeskState). x.digits) same) (ap (λ (x : DeskState). x.number) same) refl
    (seated_posted _ _ _ _ _ _ _ _ _ s.seated (post_back s.desk _ s.seats.items _ _ s.seats.len c.as_mut_slice-seats.ensures.value c.post_each-posted.auto.seats s.seats.ok.0 e.posts))

pub returns-clause-posts : goal.returns-clause-posts
returns-clause-posts c =
    let s = c.args.self.now in
    let e = c.post_each-posted.ensures in
    posts_end _ _ _ [] [] _ _ _ _ (post_back s.desk _ s.seats.items _ _ s.seats.len c.as_mut_slice-seats.ensures.value c.post_each-posted.auto.seats s.seats.ok.0 e.posts) (IsPermutation-refl [])
    (cached_again c.post_each-posted.new.desk c.take_back.new.self _ (ap (λ (x : DeskState). x.cached) e.same) c.take_back.ensures.items)
