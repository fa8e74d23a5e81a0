use Rattle.std.proofs.Common.{refl, ◌∙◌}
use Rattle.wbt_grant.specs.Kinds.{peak}
use Rattle.wbt_kit.specs.declared.kit.Seats.{Seats}
use Rattle.wbt_kit.proofs.Common.{timer_after, setting}
use Rattle.wbt_timer.proofs.Stepping.{last_put, may_put, put_kept, put_on, put_stopped}
use Rattle.wbt_timer.proofs.Asking.{asked_beside, asked_more, asked_put}
use Rattle.wbt_timer.proofs.Made.{put_steps, sealed_on, steps_one}
use Rattle.wbt_timer.proofs.limits.publish.Goals as goal

pub publish-requires-clause-may : goal.publish-requires-clause-may
publish-requires-clause-may g c =
    let d = c.args.domain in
    let l = c.args.limits in
    let r = c.requires.timer.0 in
    let first = c.raise_peak.ensures in
    let next = timer_after (peak d l.hard) first.0 r in
    (next, first.1.timer r c.requires.timer.1, may_put d l next r.raised c.requires.lawful refl)

pub returns-clause-published : goal.returns-clause-published
returns-clause-published g c =
    let d = c.args.domain in
    let l = c.args.limits in
    let set' = setting c.args.kit.now.throttle.layout in
    let said = g.G.Gate.said c.args.gate.now c.args.kit.now.throttle.layout.cpus in
    let put = c.publish.result in
    let one = c.raise_peak.ensures in
    let two = c.publish.ensures in
    let s1 = c.raise_peak.new.seat in
    let s2 = c.publish.new.seat in
    let kept = put_kept set' d l said s1 s2 put two in
    record {
      kept = record { table = kept.0 ∙ one.1.table; layout = kept.1 ∙ one.1.layout; cpus = kept.2 ∙ one.1.cpus; logs = kept.3 ∙ one.1.logs; share = refl; est = refl; queue = refl };
      became = λ r has.
          let next = timer_after (peak d l.hard) one.0 r in
          let to = put_on set' d l said s1 s2 put two next (one.1.timer r has) in
          record { held = to.0; has = to.1; readings_are = to.2.readings; published_are = to.2.published; raised_are = to.2.raised };
      last = λ r has. last_put set' d l said s1 s2 put two (timer_after (peak d l.hard) one.0 r) (one.1.timer r has);
    }

pub returns-clause-stopped : goal.returns-clause-stopped
returns-clause-stopped g c is =
    let d = c.args.domain in
    let l = c.args.limits in
    let set' = setting c.args.kit.now.throttle.layout in
    let said = g.G.Gate.said c.args.gate.now c.args.kit.now.throttle.layout.cpus in
    let one = c.raise_peak.ensures in
    let r = c.requires.timer.0 in
    let to = put_on set' d l said c.raise_peak.new.seat c.publish.new.seat c.publish.result c.publish.ensures (timer_after (peak d l.hard) one.0 r) (one.1.timer r c.requires.timer.1) in
    (to.0, to.1, put_stopped set' d l said c.raise_peak.new.seat c.publish.new.seat c.publish.result is c.publish.ensures to.0 to.1)

pub returns-clause-asked : goal.returns-clause-asked
returns-clause-asked g c =
    let d = c.args.domain in
    let l = c.args.limits in
    let kit = c.args.kit.now in
    let said = g.G.Gate.said c.args.gate.now kit.throttle.layout.cpus in
    let old = c.args.seats.now in
    let mid : Seats = record old { cpu = c.raise_peak.new.seat } in
    let new : Seats = record old { cpu = c.publish.new.seat } in
    let one = c.raise_peak.ensures in
    asked_more kit said old mid new (asked_beside kit said (peak d l.hard) one.0 old mid (λ is. absurd (let e = is in cc)) one.1)
    (asked_put kit said d l c.publish.result mid new c.publish.ensures)

pub returns-clause-steps : goal.returns-clause-steps
returns-clause-steps g c sealed =
    let d = c.args.domain in
    let l = c.args.limits in
    let set' = setting c.args.kit.now.throttle.layout in
    let said = g.G.Gate.said c.args.gate.now c.args.kit.now.throttle.layout.cpus in
    let old = c.args.seats.now in
    let mid : Seats = record old { cpu = c.raise_peak.new.seat } in
    let new : Seats = record old { cpu = c.publish.new.seat } in
    let one = c.raise_peak.ensures in
    put_steps set' d l said old mid new c.publish.result (steps_one set' (peak d l.hard) one.0 old mid one.1) (sealed_on (peak d l.hard) one.0 set' old mid (λ r. refl) one.1 sealed) c.publish.ensures
