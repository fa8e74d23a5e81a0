use Rattle.std.proofs.Common.{◌≡◌, ◌≢◌, ℕ, suc, ◌%◌, ◌≤◌, Bool, true, false, List, [], ◌∷◌, Some, sym, refl, ap, ◌∙◌, subst, arith, true≢false}
use Rattle.std.proofs.lemmas.Bool.Decides.{nat_tests}
use Rattle.wbt_table.proofs.Common.{Limits, put, put_same, TimerRecord, unseal, timer_after, Setting, stage_of, is_sealed, version_of, sequence_of, Made, setting, Shape, Seated, as_timer, at_once}
use Rattle.wbt_grant.specs.declared.record.Stage.TheVariants.{Unsealed}
use Rattle.wbt_grant.proofs.Sequences.{stage_here, sealed_at, sequence_unsealed}
use Rattle.wbt_table.specs.declared.answer.Put.{Put}
use Rattle.wbt_table.specs.declared.answer.Put.TheVariants as put
use Rattle.wbt_table.specs.declared.layout.Layout.{Layout}
use Rattle.wbt_table.specs.Seat.{Times}
use Rattle.wbt_table.specs.Calls.{Puts, IsWholePut, IsCutPut, after_unseal, after_thresh, after_both, unsealing_step}
use Rattle.wbt_table.proofs.Loading.{times_none, times_then}
use Rattle.wbt_table.proofs.Seating.{some_is}
use Rattle.wbt_table.proofs.Triples.{sequence_known, sequence_read, odd_is_unsealed}
use Rattle.wbt_table.proofs.seat.Throttle.publish.Goals as goal

cut_after : (d : ℕ) (triple : Limits) (k : ℕ) (made : List Made) → IsCutPut d triple false made → IsCutPut d triple true (unsealing_step d k ∷ made)
cut_after d triple k made (at_once e) = after_unseal k refl (ap (λ (l : List Made). unsealing_step d k ∷ l) e)
cut_after d triple k made (after_unseal j t e) = absurd (true≢false (sym t))
cut_after d triple k made (after_thresh n t e) = after_both k n refl (ap (λ (l : List Made). unsealing_step d k ∷ l) e)
cut_after d triple k made (after_both j n t e) = absurd (true≢false (sym t))

-- an unseal, and then the rest
unsealed_then : (set' : Setting) (d k : ℕ) (triple : Limits) (said : ℕ → Bool → Type 0) (answer : Put) (old mid new : Seated) (r : TimerRecord) → old.timer ≡ Some r
    → is_sealed (stage_of d r.drafts) ≡ true → Times set' (unseal d) k old mid → ((q : TimerRecord) → old.timer ≡ Some q → said q.steps true)
    → answer ≢ put.Last → Puts set' d triple said answer mid new → Puts set' d triple said answer old new
unsealed_then set' d k triple said put.Done old mid new r is sealed times asked ne puts = (
  unsealing_step d k ∷ puts.0,
  times_then set' said (unseal d) k puts.0 old mid new times asked puts.1,
  (λ q at. subst (λ (b : Bool). IsWholePut d triple b (unsealing_step d k ∷ puts.0)) (sym (ap (λ (x : TimerRecord). is_sealed (stage_of d x.drafts)) (sym (some_is r q (sym is ∙ at))) ∙ sealed))
      (let w = subst (λ (b : Bool). IsWholePut d triple b puts.0) (ap is_sealed (stage_here d Unsealed r.drafts)) (puts.2 (timer_after (unseal d) k r) (times.timer r is)) in
      (k, w.0, w.1, ap (λ (l : List Made). unsealing_step d k ∷ l) w.2))),
)
unsealed_then set' d k triple said put.Stopped old mid new r is sealed times asked ne puts = (
  unsealing_step d k ∷ puts.0,
  times_then set' said (unseal d) k puts.0 old mid new times asked puts.1,
  (λ q at. subst (λ (b : Bool). IsCutPut d triple b (unsealing_step d k ∷ puts.0)) (sym (ap (λ (x : TimerRecord). is_sealed (stage_of d x.drafts)) (sym (some_is r q (sym is ∙ at))) ∙ sealed))
      (cut_after d triple k puts.0 (subst (λ (b : Bool). IsCutPut d triple b puts.0) (ap is_sealed (stage_here d Unsealed r.drafts)) (puts.2 (timer_after (unseal d) k r) (times.timer r is))))),
  puts.3,
)
unsealed_then set' d k triple said put.Last old mid new r is sealed times asked ne puts = absurd (ne refl)

pub steps-requires : goal.steps-requires
steps-requires g c = let h = c.requires.may in let d : ℕ = c.args.domain in let said = g.G.Gate.said c.args.gate.now c.args.self.now.layout.cpus in
    let set' : Setting = setting c.args.self.now.layout in
    let cpus : c.self.inside.words.layout.cpus ≡ c.args.self.now.layout.cpus = ap (λ (t : Shape). t.layout.cpus) c.self.view_is in
    let here : c.self.inside.words.layout.cpus ≡ c.args.seat.now.layout.cpus = cpus ∙ ap (λ (k : Layout). k.cpus) (sym c.requires.seat.layout) in
    let known = sequence_known c.args.self.now.layout c.seat.invariant c.seat.view_is c.requires.seat.layout h.0 h.1 in
    let read : c.index-sequence.result.now ≡ sequence_of h.0 d = sequence_read c.args.self.now.layout c.seat.inside.held.sequences.items d c.index-sequence.result.now h.0 known.0 known.1 c.requires.there c.index-sequence.ensures in
    record { held = as_timer h.0 here h.1 }

pub returns-then-not-may_step : goal.returns-then-not-may_step
returns-then-not-may_step g c = let h = c.requires.may in let d : ℕ = c.args.domain in let said = g.G.Gate.said c.args.gate.now c.args.self.now.layout.cpus in
    let set' : Setting = setting c.args.self.now.layout in
    let cpus : c.self.inside.words.layout.cpus ≡ c.args.self.now.layout.cpus = ap (λ (t : Shape). t.layout.cpus) c.self.view_is in
    let here : c.self.inside.words.layout.cpus ≡ c.args.seat.now.layout.cpus = cpus ∙ ap (λ (k : Layout). k.cpus) (sym c.requires.seat.layout) in
    let known = sequence_known c.args.self.now.layout c.seat.invariant c.seat.view_is c.requires.seat.layout h.0 h.1 in
    let read : c.index-sequence.result.now ≡ sequence_of h.0 d = sequence_read c.args.self.now.layout c.seat.inside.held.sequences.items d c.index-sequence.result.now h.0 known.0 known.1 c.requires.there c.index-sequence.ensures in (
      [],
      times_none set' said c.args.seat.now,
      (λ r is. at_once refl),
      (λ r is. subst (λ (z : ℕ × ℕ × Bool). g.G.Gate.said c.args.gate.now z.0 z.1 z.2) (λ i. (cpus i, c.steps.ensures.timer r here is i, c.if-not-may_step.true i)) c.may_step.ensures),
    )

pub put_unsealed-requires-2-clause-may : goal.put_unsealed-requires-2-clause-may
put_unsealed-requires-2-clause-may g c = let h = c.requires.may in let d : ℕ = c.args.domain in let said = g.G.Gate.said c.args.gate.now c.args.self.now.layout.cpus in
    let set' : Setting = setting c.args.self.now.layout in
    let cpus : c.self.inside.words.layout.cpus ≡ c.args.self.now.layout.cpus = ap (λ (t : Shape). t.layout.cpus) c.self.view_is in
    let here : c.self.inside.words.layout.cpus ≡ c.args.seat.now.layout.cpus = cpus ∙ ap (λ (k : Layout). k.cpus) (sym c.requires.seat.layout) in
    let known = sequence_known c.args.self.now.layout c.seat.invariant c.seat.view_is c.requires.seat.layout h.0 h.1 in
    let read : c.index-sequence.result.now ≡ sequence_of h.0 d = sequence_read c.args.self.now.layout c.seat.inside.held.sequences.items d c.index-sequence.result.now h.0 known.0 known.1 c.requires.there c.index-sequence.ensures in
    let s1 = c.unseal.new.seat in
    let n : ℕ = c.unseal.ensures.0 in
    let times = c.unseal.ensures.1 in
    let r1 : TimerRecord = timer_after (unseal d) n h.0 in
    let below = c.if-sequence-ge-LAST_SEQUENCE.false in
    let even : is_sealed (stage_of d h.0.drafts) ≡ true = sealed_at (stage_of d h.0.drafts) (version_of d h.0.published) (let odd = c.if-sequence-eq1.false in grind (arith, nat_tests)) in
    let next : sequence_of r1 d ≡ suc (sequence_of h.0 d) = ap (λ (f : ℕ → ℕ). f d) (sequence_unsealed (λ e. c.args.limits) h.0 d even) ∙ put_same (sequence_of h.0) d (suc (sequence_of h.0 d)) in
    (r1, times.timer h.0 h.1, record { lawful = h.2.lawful; raised_before = h.2.raised_before }, ap is_sealed (stage_here d Unsealed h.0.drafts), grind (arith, nat_tests))

pub returns : goal.returns
returns g c = let h = c.requires.may in let d : ℕ = c.args.domain in let said = g.G.Gate.said c.args.gate.now c.args.self.now.layout.cpus in
    let set' : Setting = setting c.args.self.now.layout in
    let cpus : c.self.inside.words.layout.cpus ≡ c.args.self.now.layout.cpus = ap (λ (t : Shape). t.layout.cpus) c.self.view_is in
    let here : c.self.inside.words.layout.cpus ≡ c.args.seat.now.layout.cpus = cpus ∙ ap (λ (k : Layout). k.cpus) (sym c.requires.seat.layout) in
    let known = sequence_known c.args.self.now.layout c.seat.invariant c.seat.view_is c.requires.seat.layout h.0 h.1 in
    let read : c.index-sequence.result.now ≡ sequence_of h.0 d = sequence_read c.args.self.now.layout c.seat.inside.held.sequences.items d c.index-sequence.result.now h.0 known.0 known.1 c.requires.there c.index-sequence.ensures in
    let s1 = c.unseal.new.seat in
    let n : ℕ = c.unseal.ensures.0 in
    let times = c.unseal.ensures.1 in
    let r1 : TimerRecord = timer_after (unseal d) n h.0 in
    let even : is_sealed (stage_of d h.0.drafts) ≡ true = sealed_at (stage_of d h.0.drafts) (version_of d h.0.published) (let odd = c.if-sequence-eq1.false in grind (arith, nat_tests)) in
    unsealed_then set' d n c.args.limits said c.put_unsealed-2.result c.args.seat.now s1 c.put_unsealed-2.new.seat h.0 h.1 even times
    (λ r is. subst (λ (z : ℕ × ℕ × Bool). g.G.Gate.said c.args.gate.now z.0 z.1 z.2) (λ i. (cpus i, c.steps.ensures.timer r here is i, c.if-not-may_step.false i)) c.may_step.ensures)
    c.put_unsealed-2.ensures.never_last c.put_unsealed-2.ensures.puts
