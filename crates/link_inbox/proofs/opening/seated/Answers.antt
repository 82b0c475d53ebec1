use Rattle.std.proofs.Common.{rules, ◌≡◌, ℕ, ◌+◌, ◌*◌, ◌<◌, ◌≤◌, [], ◌∷◌, length, length-append, sym, refl, ap, subst, ◌∙◌, arith}
use Rattle.link_inbox.specs.States.{IsFor}
use Rattle.link_inbox.proofs.Comings.{splits_ok}
use Rattle.link_inbox.proofs.opening.seated.Goals as goal

pub split_seat-seat-requires : goal.split_seat-seat-requires
split_seat-seat-requires c =
    let i = c.loop-sender.invariant in
    (i.0 ∙ c.requires.0, c.requires.3, splits_ok IsFor c.args.words.now.key _ c.loop-sender.token.me.0 (ap (λ m. m.0.role) i.1))
