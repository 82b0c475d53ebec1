use Rattle.std.proofs.Common.{◌≡◌, List, [], ◌++◌, length, map, sym, ap, ◌∙◌, arith}
use Rattle.std.proofs.lemmas.List.{append-nil, nil_from_length}
use Rattle.batch_inbox.specs.declared.rule.View.{View}
use Rattle.batch_inbox.specs.Views.{taker, poster}
use Rattle.batch_inbox.specs.States.{InboxId, SendState, TakeState}
use Rattle.batch_inbox.proofs.KeepsRule.{absorbs, learns}
use Rattle.batch_inbox.proofs.Drained.{sent_by, taker_is, length-map, turn, drained, drained_only}
use Rattle.batch_inbox.proofs.Keys.{same_web, same_heap}
use Rattle.batch_inbox.proofs.inbox.Inbox.drain.Goals as goal

pub absorb-requires-clause-queue : goal.absorb-requires-clause-queue
absorb-requires-clause-queue g c =
    let i = c.loop-seat.invariant in
    let t = turn c.args.seats.items c.loop-seat.yielded c.next.new.self.rest.items c.in-Some.seat (ap (λ l. c.loop-seat.yielded ++ l) (sym c.in-Some.ensures.steps.0) ∙ i.4) in
    let here = (c.requires.seats.0 (length c.loop-seat.yielded) c.in-Some.seat t.1).0 in
    let web = same_web c.seat-in-loop-seat.inside.pass.web c.self.inside.queue.web
    (ap (λ (s : SendState). s.inbox.key) c.seat-in-loop-seat.view_is ∙ ap (λ (m : InboxId). m.key) here ∙ sym (ap (λ (m : InboxId). m.key) c.self.view_is)) in
    (i.2, ((web, same_heap _ _), c.seat-in-loop-seat.invariant.0, c.seat-in-loop-seat.invariant.1))

pub absorb-requires-clause-rule : goal.absorb-requires-clause-rule
absorb-requires-clause-rule g c =
    let v = c.loop-seat.pass.me.view.client in
    let u = c.seat-in-loop-seat.inside.pass.me.view.client in
    let i = c.loop-seat.invariant in
    let is' = c.seat-in-loop-seat.invariant.2 in
    let numbered : u.sender ≡ c.seat-in-loop-seat.inside.sender = ap (λ (x : View). x.sender) is' in
    let seated : u.sender ≡ c.in-Some.seat.sender = numbered ∙ ap (λ (s : SendState). s.sender) c.seat-in-loop-seat.view_is in
    let t = turn c.args.seats.items c.loop-seat.yielded c.next.new.self.rest.items c.in-Some.seat (ap (λ l. c.loop-seat.yielded ++ l) (sym c.in-Some.ensures.steps.0) ∙ i.4) in
    let known : length v.known ≡ length c.loop-seat.yielded = ap (λ (x : View). length x.known) i.3 ∙ length-map sent_by c.loop-seat.yielded in
    let made : v.made ≡ length c.args.seats.items = ap (λ (x : View). x.made) i.3 ∙ ap (λ (x : TakeState). x.senders) c.seat.view_is ∙ sym c.requires.seats.1 in
    absorbs _ _ _ _ (taker_is _ _ _ _ _ i.3) (is' ∙ ap (λ k. poster u.place k u.sent) (sym numbered))
    (seated ∙ (c.requires.seats.0 (length c.loop-seat.yielded) c.in-Some.seat t.1).1 ∙ sym known)
    (let less = t.0 in omega arith)

-- the receiver has taken in all seats
all_known : (seats done rest : List SendState) (v : View) → v.known ≡ map sent_by done → done ++ rest ≡ seats → rest ≡ [] → v.known ≡ map sent_by seats
all_known seats done rest v known joined none = known ∙ ap (map sent_by) (sym (append-nil done) ∙ ap (λ l. done ++ l) (sym none) ∙ joined)

pub len_as-requires-clause-rule : goal.len_as-requires-clause-rule
len_as-requires-clause-rule g c =
    let v = c.loop-seat.pass.me.view.client in
    let i = c.loop-seat.invariant in
    let known = all_known c.args.seats.items c.loop-seat.yielded c.loop-seat.seat-iterator.rest.items v (ap (λ (x : View). x.known) i.3) i.4 (nil_from_length _ (sym c.loop-seat.seat-iterator.rest.ok.0 ∙ c.in-None.ensures.steps.0)) in
    let made : v.made ≡ length c.args.seats.items = ap (λ (x : View). x.made) i.3 ∙ ap (λ (x : TakeState). x.senders) c.seat.view_is ∙ sym c.requires.seats.1 in
    let number : v.made ≡ length v.known = made ∙ sym (ap length known ∙ length-map sent_by c.args.seats.items) in
    learns _ _ (taker_is _ _ _ _ _ i.3 ∙ ap (λ n. taker v.place n v.taken v.known) number)

pub returns-clause-all : goal.returns-clause-all
returns-clause-all g c =
    let v = c.loop-seat.pass.me.view.client in
    let i = c.loop-seat.invariant in
    let known = all_known c.args.seats.items c.loop-seat.yielded c.loop-seat.seat-iterator.rest.items v (ap (λ (x : View). x.known) i.3) i.4 (nil_from_length _ (sym c.loop-seat.seat-iterator.rest.ok.0 ∙ c.in-None.ensures.steps.0)) in
    drained c.args.seats.items c.args.seat.taken c.len_as.result v c.len_as.new.pass.me.view.client c.len_as.ensures.queue.2 known
    (ap (λ (x : View). x.taken) i.3 ∙ ap (λ (x : TakeState). x.taken) c.seat.view_is) c.len_as.ensures.rule

pub returns-clause-only : goal.returns-clause-only
returns-clause-only g c =
    let v = c.loop-seat.pass.me.view.client in
    let i = c.loop-seat.invariant in
    let known = all_known c.args.seats.items c.loop-seat.yielded c.loop-seat.seat-iterator.rest.items v (ap (λ (x : View). x.known) i.3) i.4 (nil_from_length _ (sym c.loop-seat.seat-iterator.rest.ok.0 ∙ c.in-None.ensures.steps.0)) in
    drained_only c.args.seats.items c.args.seat.taken c.len_as.result v c.len_as.new.pass.me.view.client c.len_as.ensures.queue.2 known
    (ap (λ (x : View). x.taken) i.3 ∙ ap (λ (x : TakeState). x.taken) c.seat.view_is) c.len_as.ensures.rule
