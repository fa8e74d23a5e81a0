use Rattle.std.proofs.Common.{◌≡◌, List, [], sym, ap, ◌∙◌, subst, ℕ, min, replicate, refl, Some}
use Rattle.atomic_table.specs.Table.{opening}
use Rattle.wbt_table.proofs.Common.{no_record, Kept, Sat, first_view, IsKept, States, with_grants, setting}
use Rattle.wbt_grant.specs.State.{opening as start}
use Rattle.wbt_table.specs.declared.layout.Layout.{Layout}
use Rattle.wbt_table.proofs.Living.{opened}
use Rattle.wbt_table.proofs.First.{first_kept, shown_first}
use Rattle.wbt_table.proofs.seat.Throttle.make.Goals as goal

pub of_words-requires : goal.of_words-requires
of_words-requires c = let key : Layout = c.args.layout in
    subst (λ (ws : List ℕ). Kept key (opening ws [] (first_view key))) (sym (c.as_slice.ensures.value ∙ c.in_ok-words.ensures)) (opened key c.requires.layout)

pub invariant_of-result-3 : goal.invariant_of-result-3
invariant_of-result-3 c = let key : Layout = c.args.layout in
    let me = c.in_ok-table.ensures.4 in
    let kept = c.in_ok-kept.ensures in
    subst (λ (z : Sat × States × List ℕ). IsKept z.0 z.1 z.2 c.in_ok-kept.kept.held (Some 0)) (λ i. (sym me i, sym kept.cpus i, sym kept.lefts i))
    (first_kept key (min 32 key.cap) c.in_ok-kept.kept.held refl kept.long kept.first kept.sequences c.requires.layout.firsts_lawful)

pub returns-clause-seat : goal.returns-clause-seat
returns-clause-seat c = let key : Layout = c.args.layout in
    let t = c.in_ok-table.ensures in
    let me = t.4 in
    let cpus = c.in_ok-kept.ensures.cpus in
    let layout : c.in_ok-table.place.me.0.layout ≡ key = ap (λ (m : Sat). m.0.layout) me in (
      record { table = t.2; layout = layout },
      record {
        cpus = (λ i. with_grants (cpus i) (me i).0.cpus) ∙ shown_first key.cpus ∙ ap (λ (k : Layout). replicate k.cpus (Some no_record)) (sym layout);
        timer = ap (λ (m : Sat). m.0.timer) me ∙ ap (λ (k : Layout). Some (start (setting k)).timer) (sym layout);
        logs = ap (λ (m : Sat). m.0.logs) me ∙ ap (λ (k : Layout). replicate k.cpus (Some [])) (sym layout);
        timer_log = ap (λ (m : Sat). m.0.timer_log) me;
      },
    )
