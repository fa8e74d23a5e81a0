use Rattle.std.proofs.Common.{map, ap, ◌∙◌}
use Rattle.wbt_fraction.specs.Several.{Seats, left_of, right_of, total_left, total_right}
use Rattle.wbt_fraction.proofs.Parting.{parts}
use Rattle.wbt_fraction.proofs.shares.Shares.split.Goals as goal

pub returns-in-Ok-clause-parted : goal.returns-in-Ok-clause-parted
returns-in-Ok-clause-parted c =
    let at = c.seat.view_is in
    let ok = c.in-Ok.ensures.ok in
    let old = c.split-totals.ensures.old in
    let new = c.split-totals.ensures.new in
    let left : Seats = record { domains = c.split.new.seat; totals = c.split-totals.new.seat } in
    let right : Seats = record { domains = c.in-Ok.domains; totals = c.split-totals.result } in
    parts c.args.self.now c.args.seat.now left right c.requires.seat c.requires.room.0 c.requires.room.1
    (λ i. record {
      domains = (ok.2 ∙ ap (λ (s : Seats). map left_of s.domains) at) i;
      totals = record {
        table = (old.0 ∙ ap (λ (s : Seats). (total_left s.totals).table) at) i;
        notes = (old.1 ∙ ap (λ (s : Seats). (total_left s.totals).notes) at) i;
        trail = (old.4 ∙ ap (λ (s : Seats). (total_left s.totals).trail) at) i;
        stakes = (old.2 ∙ ap (λ (s : Seats). (total_left s.totals).stakes) at) i;
        rooms = (old.3 ∙ ap (λ (s : Seats). (total_left s.totals).rooms) at) i;
      };
    })
    (λ i. record {
      domains = (ok.3 ∙ ap (λ (s : Seats). map right_of s.domains) at) i;
      totals = record {
        table = (new.0 ∙ ap (λ (s : Seats). (total_right s.totals).table) at) i;
        notes = new.1 i;
        trail = (new.4 ∙ ap (λ (s : Seats). (total_right s.totals).trail) at) i;
        stakes = new.2 i;
        rooms = (new.3 ∙ ap (λ (s : Seats). (total_right s.totals).rooms) at) i;
      };
    })
