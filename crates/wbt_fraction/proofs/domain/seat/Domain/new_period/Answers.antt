use Rattle.std.proofs.Common.{◌≡◌, ◌≢◌, ℕ, ◌∷◌, [], Bool, false, Result, MatchResult, sym, ap, ◌∙◌, subst}
use Rattle.wbt_fraction.specs.declared.domain.note.Note.TheVariants.{Found, Period}
use Rattle.wbt_fraction.specs.declared.domain.words.Again.{Again}
use Rattle.wbt_fraction.specs.Steps.{with_trail}
use Rattle.wbt_fraction.specs.Seat.{Seated, Begins, Lost}
use Rattle.wbt_fraction.proofs.Answering.{one_made, two_made, begun_made, lost_made, seat_of, looks_are}
use Rattle.wbt_fraction.proofs.domain.seat.Domain.new_period.Goals.{then-second-first, else-second-first}
use Rattle.wbt_fraction.proofs.domain.seat.Domain.new_period.Goals as goal

pub returns-after-second-first-clause-told : goal.returns-after-second-first-clause-told
returns-after-second-first-clause-told c =
    let k : ℕ = c.args.k in
    let first : ℕ = c.load_domain-first.result in
    let second : ℕ = c.begin-second.result in
    let old = c.seat.inside.place in
    let mid = c.load_domain-first.new.place in
    let new = c.begin-second.new.place in
    let same = c.begin-second.ensures.same ∙ ap (with_trail new.me.0.trail) c.load_domain-first.ensures.same in
    let table = c.begin-second.ensures.seat.0 ∙ c.load_domain-first.ensures.seat.0 in
    let one = c.load_domain-first.ensures.made in
    let two = c.begin-second.ensures.made in
    subst (λ (s : Seated). MatchResult c.if-second-first.result (λ begun. Begins k begun s (seat_of new.table_id new.me)) (λ again. Lost k again s (seat_of new.table_id new.me))) c.seat.view_is
    (elim c.if-second-first.branch [
      | then-second-first w ↦
          let hit : second ≡ first = w.if-second-first.true in
          subst (λ (r : Result Bool Again). MatchResult r (λ begun. Begins k begun (seat_of old.table_id old.me) (seat_of new.table_id new.me)) (λ again. Lost k again (seat_of old.table_id old.me) (seat_of new.table_id new.me)))
          (sym w.result-is)
          (record {
            first = first;
            told = (
              c.in-Some.ensures.begins,
              looks_are (Period first k ∷ Found 0 first ∷ []) old.table_id new.table_id old.me new.me table
                  (two_made (Found 0 first) (Period first k) old.me.0.trail mid.me.0.trail new.me.0.trail one
                  (begun_made second first c.in-Some.new k mid.me.0.trail new.me.0.trail two hit c.in-Some.ensures.some.2)) same c.begin-second.ensures.complete,
            );
            newest = c.load_domain-first.ensures.newest;
          })
      | else-second-first w ↦
          let miss : second ≢ first = w.if-second-first.false in
          subst (λ (r : Result Bool Again). MatchResult r (λ begun. Begins k begun (seat_of old.table_id old.me) (seat_of new.table_id new.me)) (λ again. Lost k again (seat_of old.table_id old.me) (seat_of new.table_id new.me)))
          (sym w.result-is) (
            c.in-Some.ensures.begins,
            (λ e. miss (sym e)),
            looks_are (Found 0 second ∷ Found 0 first ∷ []) old.table_id new.table_id old.me new.me table
                (two_made (Found 0 first) (Found 0 second) old.me.0.trail mid.me.0.trail new.me.0.trail one
                (lost_made second first c.in-Some.new k mid.me.0.trail new.me.0.trail two miss)) same c.begin-second.ensures.complete,
          )
    ])

pub returns-in-None-clause-told : goal.returns-in-None-clause-told
returns-in-None-clause-told c =
    let k : ℕ = c.args.k in
    let first : ℕ = c.load_domain-first.result in
    let old = c.seat.inside.place in
    let new = c.load_domain-first.new.place in
    subst (λ (s : Seated). Begins k false s (seat_of new.table_id new.me)) c.seat.view_is
    (record {
      first = first;
      told = (
        c.in-None.ensures.none,
        looks_are (Found 0 first ∷ []) old.table_id new.table_id old.me new.me c.load_domain-first.ensures.seat.0
            (one_made (Found 0 first) old.me.0.trail new.me.0.trail c.load_domain-first.ensures.made) c.load_domain-first.ensures.same c.load_domain-first.ensures.complete,
      );
      newest = c.load_domain-first.ensures.newest;
    })
