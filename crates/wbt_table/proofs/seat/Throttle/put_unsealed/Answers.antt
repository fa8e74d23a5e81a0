use Rattle.std.proofs.Common.{◌≡◌, ℕ, ◌≤◌, Bool, true, false, List, [], ◌∷◌, Some, sym, refl, ap, ◌∙◌, subst, arith}
use Rattle.wbt_grant.specs.declared.record.Stage.TheVariants.{Drafted}
use Rattle.wbt_table.proofs.Common.{TimerRecord, thresh, publish, timer_after, Setting, stage_of, is_sealed, sequence_of, setting, Shape, as_timer, Made}
use Rattle.wbt_grant.proofs.Sequences.{stage_here, sequence_drafted}
use Rattle.wbt_table.specs.declared.layout.Layout.{Layout}
use Rattle.wbt_table.specs.Calls.{IsWholePut, drafting_step, sealing_step, after_thresh}
use Rattle.wbt_table.proofs.Loading.{times_none, times_then}
use Rattle.wbt_table.proofs.Seating.{some_is}
use Rattle.wbt_table.proofs.seat.Throttle.put_unsealed.Goals as goal

pub steps-requires : goal.steps-requires
steps-requires g c = let h = c.requires.may in let d : ℕ = c.args.domain in let said = g.G.Gate.said c.args.gate.now c.args.self.now.layout.cpus in
    let set' : Setting = setting c.args.self.now.layout in
    let cpus : c.self.inside.words.layout.cpus ≡ c.args.self.now.layout.cpus = ap (λ (t : Shape). t.layout.cpus) c.self.view_is in
    let here : c.self.inside.words.layout.cpus ≡ c.args.seat.now.layout.cpus = cpus ∙ ap (λ (k : Layout). k.cpus) (sym c.requires.seat.layout) in
    record { held = as_timer h.0 here h.1 }

pub steps-requires-2 : goal.steps-requires-2
steps-requires-2 g c = let h = c.requires.may in let d : ℕ = c.args.domain in let said = g.G.Gate.said c.args.gate.now c.args.self.now.layout.cpus in
    let set' : Setting = setting c.args.self.now.layout in
    let cpus : c.self.inside.words.layout.cpus ≡ c.args.self.now.layout.cpus = ap (λ (t : Shape). t.layout.cpus) c.self.view_is in
    let here : c.self.inside.words.layout.cpus ≡ c.args.seat.now.layout.cpus = cpus ∙ ap (λ (k : Layout). k.cpus) (sym c.requires.seat.layout) in
    let times = c.draft.ensures.1 in
    record { held = as_timer (timer_after (thresh d c.args.limits) c.draft.ensures.0 h.0) (here ∙ ap (λ (k : Layout). k.cpus) (sym times.layout)) (times.timer h.0 h.1) }

pub returns-then-not-may_step-2-clause-puts : goal.returns-then-not-may_step-2-clause-puts
returns-then-not-may_step-2-clause-puts g c = let h = c.requires.may in let d : ℕ = c.args.domain in let said = g.G.Gate.said c.args.gate.now c.args.self.now.layout.cpus in
    let set' : Setting = setting c.args.self.now.layout in
    let cpus : c.self.inside.words.layout.cpus ≡ c.args.self.now.layout.cpus = ap (λ (t : Shape). t.layout.cpus) c.self.view_is in
    let here : c.self.inside.words.layout.cpus ≡ c.args.seat.now.layout.cpus = cpus ∙ ap (λ (k : Layout). k.cpus) (sym c.requires.seat.layout) in
    let s1 = c.draft.new.seat in
    let n : ℕ = c.draft.ensures.0 in
    let times = c.draft.ensures.1 in
    let r1 : TimerRecord = timer_after (thresh d c.args.limits) n h.0 in
    let is1 = times.timer h.0 h.1 in
    let there : c.self.inside.words.layout.cpus ≡ s1.layout.cpus = here ∙ ap (λ (k : Layout). k.cpus) (sym times.layout) in
    let asked = λ (r : TimerRecord) (is : c.args.seat.now.timer ≡ Some r). subst (λ (z : ℕ × ℕ × Bool). g.G.Gate.said c.args.gate.now z.0 z.1 z.2)
    (λ i. (cpus i, c.steps.ensures.timer r here is i, c.if-not-may_step.false i)) c.may_step.ensures in
    let sealed = λ (r : TimerRecord) (is : c.args.seat.now.timer ≡ Some r). ap (λ (x : TimerRecord). is_sealed (stage_of d x.drafts)) (sym (some_is h.0 r (sym h.1 ∙ is))) ∙ h.3 in (
      drafting_step d c.args.limits n ∷ [],
      times_then set' said (thresh d c.args.limits) n [] c.args.seat.now s1 s1 times asked (times_none set' said s1),
      (λ r is. after_thresh n (sealed r is) refl),
      (λ r is. subst (λ (z : ℕ × ℕ × Bool). g.G.Gate.said c.args.gate.now z.0 z.1 z.2)
          (λ i. (cpus i, c.steps-2.ensures.timer r there is i, c.if-not-may_step-2.true i)) c.may_step-2.ensures),
    )

pub seal-requires-clause-may : goal.seal-requires-clause-may
seal-requires-clause-may g c = let h = c.requires.may in let d : ℕ = c.args.domain in let said = g.G.Gate.said c.args.gate.now c.args.self.now.layout.cpus in
    let set' : Setting = setting c.args.self.now.layout in
    let cpus : c.self.inside.words.layout.cpus ≡ c.args.self.now.layout.cpus = ap (λ (t : Shape). t.layout.cpus) c.self.view_is in
    let here : c.self.inside.words.layout.cpus ≡ c.args.seat.now.layout.cpus = cpus ∙ ap (λ (k : Layout). k.cpus) (sym c.requires.seat.layout) in
    let times = c.draft.ensures.1 in
    (timer_after (thresh d c.args.limits) c.draft.ensures.0 h.0, times.timer h.0 h.1, record { in_hand = stage_here d (Drafted c.args.limits) h.0.drafts })

pub seal-requires-clause-room : goal.seal-requires-clause-room
seal-requires-clause-room g c r is = let h = c.requires.may in let d : ℕ = c.args.domain in let said = g.G.Gate.said c.args.gate.now c.args.self.now.layout.cpus in
    let set' : Setting = setting c.args.self.now.layout in
    let cpus : c.self.inside.words.layout.cpus ≡ c.args.self.now.layout.cpus = ap (λ (t : Shape). t.layout.cpus) c.self.view_is in
    let here : c.self.inside.words.layout.cpus ≡ c.args.seat.now.layout.cpus = cpus ∙ ap (λ (k : Layout). k.cpus) (sym c.requires.seat.layout) in
    let times = c.draft.ensures.1 in
    let r1 : TimerRecord = timer_after (thresh d c.args.limits) c.draft.ensures.0 h.0 in
    let same : r1 ≡ r = some_is r1 r (sym (times.timer h.0 h.1) ∙ is) in
    let before : sequence_of r1 d ≡ sequence_of h.0 d = ap (λ (f : ℕ → ℕ). f d) (sequence_drafted (λ e. c.args.limits) h.0 d c.args.limits h.3) in
    let now : sequence_of r d ≡ sequence_of h.0 d = ap (λ (x : TimerRecord). sequence_of x d) (sym same) ∙ before in
    omega (arith, now, h.4)

pub returns-clause-puts : goal.returns-clause-puts
returns-clause-puts g c = let h = c.requires.may in let d : ℕ = c.args.domain in let said = g.G.Gate.said c.args.gate.now c.args.self.now.layout.cpus in
    let set' : Setting = setting c.args.self.now.layout in
    let cpus : c.self.inside.words.layout.cpus ≡ c.args.self.now.layout.cpus = ap (λ (t : Shape). t.layout.cpus) c.self.view_is in
    let here : c.self.inside.words.layout.cpus ≡ c.args.seat.now.layout.cpus = cpus ∙ ap (λ (k : Layout). k.cpus) (sym c.requires.seat.layout) in
    let s1 = c.draft.new.seat in
    let n : ℕ = c.draft.ensures.0 in
    let times = c.draft.ensures.1 in
    let r1 : TimerRecord = timer_after (thresh d c.args.limits) n h.0 in
    let is1 = times.timer h.0 h.1 in
    let there : c.self.inside.words.layout.cpus ≡ s1.layout.cpus = here ∙ ap (λ (k : Layout). k.cpus) (sym times.layout) in
    let asked = λ (r : TimerRecord) (is : c.args.seat.now.timer ≡ Some r). subst (λ (z : ℕ × ℕ × Bool). g.G.Gate.said c.args.gate.now z.0 z.1 z.2)
    (λ i. (cpus i, c.steps.ensures.timer r here is i, c.if-not-may_step.false i)) c.may_step.ensures in
    let sealed = λ (r : TimerRecord) (is : c.args.seat.now.timer ≡ Some r). ap (λ (x : TimerRecord). is_sealed (stage_of d x.drafts)) (sym (some_is h.0 r (sym h.1 ∙ is))) ∙ h.3 in
    let s2 = c.seal.new.seat in
    let m : ℕ = c.seal.ensures.0 in
    let asked2 = λ (r : TimerRecord) (is : s1.timer ≡ Some r). subst (λ (z : ℕ × ℕ × Bool). g.G.Gate.said c.args.gate.now z.0 z.1 z.2)
    (λ i. (cpus i, c.steps-2.ensures.timer r there is i, c.if-not-may_step-2.false i)) c.may_step-2.ensures in
    let made : List Made = drafting_step d c.args.limits n ∷ sealing_step d c.args.limits m ∷ [] in (
      made,
      times_then set' said (thresh d c.args.limits) n (sealing_step d c.args.limits m ∷ []) c.args.seat.now s1 s2 times asked
          (times_then set' said (publish d c.args.limits) m [] s1 s2 s2 c.seal.ensures.1 asked2 (times_none set' said s2)),
      (λ r is. subst (λ (b : Bool). IsWholePut d c.args.limits b made) (sym (sealed r is)) (n, m, refl)),
    )
