use Rattle.std.proofs.Common.{refl, ap, ◌∙◌}
use Rattle.crossbeam_utils.specs.Padded.{padded_value}
use Rattle.pool_fabric.specs.Pages.{PageState}
use Rattle.pool_fabric.specs.Seats.{seat_of}
use Rattle.slot_balance.proofs.Posting.{length-mapped}
use Rattle.pool_fabric.proofs.Opens.{fresh_keeps}
use Rattle.pool_fabric.proofs.station.Station.new.Goals as goal

pub invariant_of-result : goal.invariant_of-result
invariant_of-result g c =
    let as_seat = seat_of g.S.Sender.inbox g.S.Sender.number g.S.Sender.sent g.S.Sender.resting in
    let is = ap padded_value c.in_ok-desk.ensures.ok ∙ c.new.ensures ∙ c.adopt.ensures in
    rw is (
      refl,
      fresh_keeps _ _
          (record {
            home = c.requires.desk.0;
            cached = refl;
            drawn = c.requires.desk.1;
            taken = c.requires.take.2;
            seats = c.requires.seats.2;
            got = ap (λ (p : PageState). p.got) c.requires.page;
            page_lent = ap (λ (p : PageState). p.lent) c.requires.page;
            page_freed = ap (λ (p : PageState). p.freed) c.requires.page;
            lent = c.new-3.ensures;
            freed = c.new-4.ensures;
          })
          (record {
            in_range = c.requires.number;
            digits = c.requires.profile.0;
            limit = c.requires.profile.1;
            take = c.requires.take.0;
            senders = c.requires.take.1;
            seats = c.requires.seats.0;
            number = length-mapped as_seat c.args.seats.items ∙ c.requires.seats.1;
            page = ap (λ (p : PageState). p.key) c.requires.page;
            loans = ap (λ (p : PageState). p.loans) c.requires.page;
            part = ap (λ (p : PageState). p.parts) c.requires.page;
            none_given = ap (λ (p : PageState). p.gave) c.requires.page;
          }),
    )
