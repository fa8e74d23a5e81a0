use Rattle.std.proofs.Common.{◌≡◌, ℕ, ◌/◌, ◌%◌, ◌<◌, ◌≤◌, true, false, Some, [], ◌∷◌, All, eqb, sym, refl, ap, ◌∙◌, subst, eqb-true}
use Rattle.std.proofs.lemmas.Bool.{and_parts}
use Rattle.wbt_table.proofs.Common.{IsLawful, sequence_in, CpuRecord, Words, cpu_for, record_after, Setting, triple_of, setting, Has, MakesAll, at_once, is_whole_load, triple_in, first, middle, limits, found_of, held_of, IsKept, triple_number, domains, Shape, States, IsSeat, seated, put_state, stepped, with_grants}
use Rattle.wbt_grant.specs.declared.record.Finding.TheVariants.{Sequence}
use Rattle.wbt_grant.specs.Record.{beside}
use Rattle.wbt_grant.proofs.Sequences.{found_here}
use Rattle.wbt_table.specs.declared.layout.Layout.{Layout}
use Rattle.wbt_table.specs.declared.answer.Triple.{Triple}
use Rattle.wbt_table.specs.Calls.{whole_load, after_first, after_middle}
use Rattle.wbt_table.proofs.Turning.{one_record}
use Rattle.wbt_grant.specs.Kinds.{IsLoader, has_sequence, has_both}
use Rattle.wbt_table.specs.declared.state.CpuState.{CpuState}
use Rattle.wbt_table.proofs.Lists.{set_set}
use Rattle.wbt_table.proofs.Calling.{state_here}
use Rattle.wbt_table.proofs.QuietLoads.{first_quiet, middle_quiet, limits_quiet}
use Rattle.wbt_table.proofs.Triples.{sequences_turned}
use Rattle.wbt_table.proofs.Loading.{makes_none, makes_then, stood, kept_once, cpu_there, ready_there, asked_there, held_there, seat_then, makes_there, kept_then, goes_on, whole_there, triples_then, kept_again, made_all}
use Rattle.wbt_table.proofs.seat.Throttle.load_for.Goals as goal

-- what a record has found after the first two steps
found_two : (set' : Setting) (c d n m : ℕ) (r : CpuRecord)
    → found_of d (record_after set' (middle c d) m (record_after set' (first c d) n r)).loading ≡ Words n m
found_two set' c d n m r = found_here d (beside m (found_of d (record_after set' (first c d) n r).loading)) (record_after set' (first c d) n r).loading
    ∙ ap (beside m) (found_here d (Sequence n) r.loading)

pub state_of-requires : goal.state_of-requires
state_of-requires g c = let s = c.seat.inside in let h = c.requires.held in
    state_here c.args.self.now.layout s.place.table_id s.place.me s.cpus.items s.lefts.items s.timer c.args.seat.now c.seat.view_is c.requires.seat.layout c.seat.invariant.seat c.args.cpu h.0 h.1

pub returns-then-not-may_step : goal.returns-then-not-may_step
returns-then-not-may_step g c = let s = c.seat.inside in let h = c.requires.held in let key : Layout = c.args.self.now.layout in let said = g.G.Gate.said c.args.gate.now c.args.cpu in
    let q0 = stood key s.place.table_id s.place.me s.cpus.items s.lefts.items s.held s.timer c.args.seat.now c.seat.view_is c.requires.seat.layout c.seat.invariant c.args.cpu h.0 h.1 c.state_of.result.now c.state_of.ensures in (
      [],
      at_once refl,
      (
        h.0,
        h.1,
        asked_there key s.place.table_id s.place.me s.cpus.items s.lefts.items s.held s.timer c.args.cpu h.0 c.state_of.result.now q0 said c.may_step.result false
            c.if-not-may_step.true c.may_step.ensures h.0 q0.has,
      ),
      makes_none (setting key) c.args.cpu said c.args.seat.now,
    )

pub first-first-requires-clause-ready : goal.first-first-requires-clause-ready
first-first-requires-clause-ready g c = let s = c.seat.inside in let h = c.requires.held in let cpu : ℕ = c.args.cpu in let d : ℕ = c.args.domain in let t = s.place.table_id in
    let key : Layout = c.self.inside.words.layout in let set' : Setting = setting key in let said = g.G.Gate.said c.args.gate.now cpu in
    let same : key ≡ c.args.self.now.layout = ap (λ (z : Shape). z.layout) c.self.view_is in
    let s0 : CpuState = c.state_of.result.now in let me0 = s.place.me in let l0 : States = s.cpus.items in
    let q0 = stood key t me0 l0 s.lefts.items s.held s.timer c.args.seat.now c.seat.view_is (c.requires.seat.layout ∙ sym same) c.seat.invariant cpu h.0 h.1 s0 c.state_of.ensures in
    let r0 : CpuRecord = h.0 in
    ready_there key t me0 l0 s.lefts.items s.held s.timer cpu r0 s0 q0 (first cpu d) refl (record { cpu_is = cpu_there key t me0 l0 s.lefts.items s.held s.timer cpu r0 s0 q0 })

pub middle-thresh-requires-clause-ready : goal.middle-thresh-requires-clause-ready
middle-thresh-requires-clause-ready g c = let s = c.seat.inside in let h = c.requires.held in let cpu : ℕ = c.args.cpu in let d : ℕ = c.args.domain in let t = s.place.table_id in
    let key : Layout = c.self.inside.words.layout in let set' : Setting = setting key in let said = g.G.Gate.said c.args.gate.now cpu in
    let same : key ≡ c.args.self.now.layout = ap (λ (z : Shape). z.layout) c.self.view_is in
    let s0 : CpuState = c.state_of.result.now in let me0 = s.place.me in let l0 : States = s.cpus.items in
    let q0 = stood key t me0 l0 s.lefts.items s.held s.timer c.args.seat.now c.seat.view_is (c.requires.seat.layout ∙ sym same) c.seat.invariant cpu h.0 h.1 s0 c.state_of.ensures in
    let r0 : CpuRecord = h.0 in
    let n1 : ℕ = c.first-first.result in let me1 = c.first-first.new.place.me in let s1 : CpuState = c.step.new.self in let l1 : States = put_state cpu s1 l0 in
    let e1 : s1 ≡ stepped s0 = c.step.ensures in let r1 : CpuRecord = record_after set' (first cpu d) n1 r0 in
    let seat1 = seat_then key t me0 l0 s.lefts.items s.held s.timer cpu r0 s0 q0 me1 (first cpu d) n1 s1 refl c.first-first.ensures.turned e1 (first_quiet set' d n1) in
    let m1 = makes_there key t me0 l0 s.lefts.items s.held s.timer cpu r0 s0 q0 me1 (first cpu d) n1 s1 refl c.first-first.ensures.turned e1 (first_quiet set' d n1) in
    let q1 = goes_on key t me0 l0 s.lefts.items s.held s.timer cpu r0 s0 q0 me1 (first cpu d) n1 s1 refl c.first-first.ensures.turned e1 (first_quiet set' d n1)
    (kept_then key t me0 l0 s.lefts.items s.held s.timer cpu r0 s0 q0 me1 (first cpu d) n1 s1 refl c.first-first.ensures.turned e1 (first_quiet set' d n1) (λ x. refl)) in
    ready_there key t me1 l1 s.lefts.items s.held s.timer cpu r1 s1 q1 (middle cpu d) refl
    (record { cpu_is = cpu_there key t me0 l0 s.lefts.items s.held s.timer cpu r0 s0 q0; first_found = ap has_sequence (found_here d (Sequence n1) r0.loading) })

pub limits-second-requires-clause-ready : goal.limits-second-requires-clause-ready
limits-second-requires-clause-ready g c = let s = c.seat.inside in let h = c.requires.held in let cpu : ℕ = c.args.cpu in let d : ℕ = c.args.domain in let t = s.place.table_id in
    let key : Layout = c.self.inside.words.layout in let set' : Setting = setting key in let said = g.G.Gate.said c.args.gate.now cpu in
    let same : key ≡ c.args.self.now.layout = ap (λ (z : Shape). z.layout) c.self.view_is in
    let s0 : CpuState = c.state_of.result.now in let me0 = s.place.me in let l0 : States = s.cpus.items in
    let q0 = stood key t me0 l0 s.lefts.items s.held s.timer c.args.seat.now c.seat.view_is (c.requires.seat.layout ∙ sym same) c.seat.invariant cpu h.0 h.1 s0 c.state_of.ensures in
    let r0 : CpuRecord = h.0 in
    let n1 : ℕ = c.first-first.result in let me1 = c.first-first.new.place.me in let s1 : CpuState = c.step.new.self in let l1 : States = put_state cpu s1 l0 in
    let e1 : s1 ≡ stepped s0 = c.step.ensures in let r1 : CpuRecord = record_after set' (first cpu d) n1 r0 in
    let seat1 = seat_then key t me0 l0 s.lefts.items s.held s.timer cpu r0 s0 q0 me1 (first cpu d) n1 s1 refl c.first-first.ensures.turned e1 (first_quiet set' d n1) in
    let m1 = makes_there key t me0 l0 s.lefts.items s.held s.timer cpu r0 s0 q0 me1 (first cpu d) n1 s1 refl c.first-first.ensures.turned e1 (first_quiet set' d n1) in
    let q1 = goes_on key t me0 l0 s.lefts.items s.held s.timer cpu r0 s0 q0 me1 (first cpu d) n1 s1 refl c.first-first.ensures.turned e1 (first_quiet set' d n1)
    (kept_then key t me0 l0 s.lefts.items s.held s.timer cpu r0 s0 q0 me1 (first cpu d) n1 s1 refl c.first-first.ensures.turned e1 (first_quiet set' d n1) (λ x. refl)) in
    let n2 : ℕ = c.middle-thresh.result in let me2 = c.middle-thresh.new.place.me in let s2 : CpuState = c.step-2.new.self in let l2 : States = put_state cpu s2 l1 in
    let e2 : s2 ≡ stepped s1 = c.step-2.ensures in let r2 : CpuRecord = record_after set' (middle cpu d) n2 r1 in
    let seat2 = seat_then key t me1 l1 s.lefts.items s.held s.timer cpu r1 s1 q1 me2 (middle cpu d) n2 s2 refl c.middle-thresh.ensures.turned e2 (middle_quiet set' d n2) in
    let m2 = makes_there key t me1 l1 s.lefts.items s.held s.timer cpu r1 s1 q1 me2 (middle cpu d) n2 s2 refl c.middle-thresh.ensures.turned e2 (middle_quiet set' d n2) in
    let q2 = goes_on key t me1 l1 s.lefts.items s.held s.timer cpu r1 s1 q1 me2 (middle cpu d) n2 s2 refl c.middle-thresh.ensures.turned e2 (middle_quiet set' d n2)
    (kept_then key t me1 l1 s.lefts.items s.held s.timer cpu r1 s1 q1 me2 (middle cpu d) n2 s2 refl c.middle-thresh.ensures.turned e2 (middle_quiet set' d n2) (λ x. refl)) in
    let is : cpu ≡ cpu_for set' c.args.who = c.requires.its ∙ ap (λ (k : Layout). cpu_for (setting k) c.args.who) (sym same) in
    let found : found_of d r2.loading ≡ Words n1 n2 = found_two set' cpu d n1 n2 r0 in
    ready_there key t me2 l2 s.lefts.items s.held s.timer cpu r2 s2 q2 (limits c.args.who d) is
    (record { loader = subst (λ (z : Layout). IsLoader (setting z) c.args.who) (sym same) c.requires.known; both_found = ap has_both found })

pub invariant_of-seat : goal.invariant_of-seat
invariant_of-seat g c = let s = c.seat.inside in let h = c.requires.held in let cpu : ℕ = c.args.cpu in let d : ℕ = c.args.domain in let t = s.place.table_id in
    let key : Layout = c.self.inside.words.layout in let set' : Setting = setting key in let said = g.G.Gate.said c.args.gate.now cpu in
    let same : key ≡ c.args.self.now.layout = ap (λ (z : Shape). z.layout) c.self.view_is in
    let s0 : CpuState = c.state_of.result.now in let me0 = s.place.me in let l0 : States = s.cpus.items in
    let q0 = stood key t me0 l0 s.lefts.items s.held s.timer c.args.seat.now c.seat.view_is (c.requires.seat.layout ∙ sym same) c.seat.invariant cpu h.0 h.1 s0 c.state_of.ensures in
    let r0 : CpuRecord = h.0 in
    let n1 : ℕ = c.first-first.result in let me1 = c.first-first.new.place.me in let s1 : CpuState = c.step.new.self in let l1 : States = put_state cpu s1 l0 in
    let e1 : s1 ≡ stepped s0 = c.step.ensures in let r1 : CpuRecord = record_after set' (first cpu d) n1 r0 in
    let seat1 = seat_then key t me0 l0 s.lefts.items s.held s.timer cpu r0 s0 q0 me1 (first cpu d) n1 s1 refl c.first-first.ensures.turned e1 (first_quiet set' d n1) in
    let m1 = makes_there key t me0 l0 s.lefts.items s.held s.timer cpu r0 s0 q0 me1 (first cpu d) n1 s1 refl c.first-first.ensures.turned e1 (first_quiet set' d n1) in
    let q1 = goes_on key t me0 l0 s.lefts.items s.held s.timer cpu r0 s0 q0 me1 (first cpu d) n1 s1 refl c.first-first.ensures.turned e1 (first_quiet set' d n1)
    (kept_then key t me0 l0 s.lefts.items s.held s.timer cpu r0 s0 q0 me1 (first cpu d) n1 s1 refl c.first-first.ensures.turned e1 (first_quiet set' d n1) (λ x. refl)) in
    let puts : c.keep_steps.new.cpus.items ≡ l1 = c.keep_steps.ensures s0 c.state_of.ensures ∙ ap (λ (z : CpuState). put_state cpu z l0) (kept_once s0 (stepped s0) s1 e1 refl) in
    subst (λ (z : States). IsKept me1 z s.lefts.items s.held s.timer) (sym puts) q1.kept

pub invariant_of-seat-then-not-may_step-3 : goal.invariant_of-seat-then-not-may_step-3
invariant_of-seat-then-not-may_step-3 g c = let s = c.seat.inside in let h = c.requires.held in let cpu : ℕ = c.args.cpu in let d : ℕ = c.args.domain in let t = s.place.table_id in
    let key : Layout = c.self.inside.words.layout in let set' : Setting = setting key in let said = g.G.Gate.said c.args.gate.now cpu in
    let same : key ≡ c.args.self.now.layout = ap (λ (z : Shape). z.layout) c.self.view_is in
    let s0 : CpuState = c.state_of.result.now in let me0 = s.place.me in let l0 : States = s.cpus.items in
    let q0 = stood key t me0 l0 s.lefts.items s.held s.timer c.args.seat.now c.seat.view_is (c.requires.seat.layout ∙ sym same) c.seat.invariant cpu h.0 h.1 s0 c.state_of.ensures in
    let r0 : CpuRecord = h.0 in
    let n1 : ℕ = c.first-first.result in let me1 = c.first-first.new.place.me in let s1 : CpuState = c.step.new.self in let l1 : States = put_state cpu s1 l0 in
    let e1 : s1 ≡ stepped s0 = c.step.ensures in let r1 : CpuRecord = record_after set' (first cpu d) n1 r0 in
    let seat1 = seat_then key t me0 l0 s.lefts.items s.held s.timer cpu r0 s0 q0 me1 (first cpu d) n1 s1 refl c.first-first.ensures.turned e1 (first_quiet set' d n1) in
    let m1 = makes_there key t me0 l0 s.lefts.items s.held s.timer cpu r0 s0 q0 me1 (first cpu d) n1 s1 refl c.first-first.ensures.turned e1 (first_quiet set' d n1) in
    let q1 = goes_on key t me0 l0 s.lefts.items s.held s.timer cpu r0 s0 q0 me1 (first cpu d) n1 s1 refl c.first-first.ensures.turned e1 (first_quiet set' d n1)
    (kept_then key t me0 l0 s.lefts.items s.held s.timer cpu r0 s0 q0 me1 (first cpu d) n1 s1 refl c.first-first.ensures.turned e1 (first_quiet set' d n1) (λ x. refl)) in
    let n2 : ℕ = c.middle-thresh.result in let me2 = c.middle-thresh.new.place.me in let s2 : CpuState = c.step-2.new.self in let l2 : States = put_state cpu s2 l1 in
    let e2 : s2 ≡ stepped s1 = c.step-2.ensures in let r2 : CpuRecord = record_after set' (middle cpu d) n2 r1 in
    let seat2 = seat_then key t me1 l1 s.lefts.items s.held s.timer cpu r1 s1 q1 me2 (middle cpu d) n2 s2 refl c.middle-thresh.ensures.turned e2 (middle_quiet set' d n2) in
    let m2 = makes_there key t me1 l1 s.lefts.items s.held s.timer cpu r1 s1 q1 me2 (middle cpu d) n2 s2 refl c.middle-thresh.ensures.turned e2 (middle_quiet set' d n2) in
    let q2 = goes_on key t me1 l1 s.lefts.items s.held s.timer cpu r1 s1 q1 me2 (middle cpu d) n2 s2 refl c.middle-thresh.ensures.turned e2 (middle_quiet set' d n2)
    (kept_then key t me1 l1 s.lefts.items s.held s.timer cpu r1 s1 q1 me2 (middle cpu d) n2 s2 refl c.middle-thresh.ensures.turned e2 (middle_quiet set' d n2) (λ x. refl)) in
    let puts : c.keep_steps-then-not-may_step-3.new.cpus.items ≡ l2 = c.keep_steps-then-not-may_step-3.ensures s0 c.state_of.ensures ∙ ap (λ (z : CpuState). put_state cpu z l0) (kept_once s0 (stepped (stepped s0)) s2 (e2 ∙ ap stepped e1) refl) ∙ sym (set_set l0 cpu (Some s1) (Some s2)) in
    subst (λ (z : States). IsKept me2 z s.lefts.items s.held s.timer) (sym puts) q2.kept

pub returns-then-not-may_step-2 : goal.returns-then-not-may_step-2
returns-then-not-may_step-2 g c = let s = c.seat.inside in let h = c.requires.held in let cpu : ℕ = c.args.cpu in let d : ℕ = c.args.domain in let t = s.place.table_id in
    let key : Layout = c.self.inside.words.layout in let set' : Setting = setting key in let said = g.G.Gate.said c.args.gate.now cpu in
    let same : key ≡ c.args.self.now.layout = ap (λ (z : Shape). z.layout) c.self.view_is in
    let s0 : CpuState = c.state_of.result.now in let me0 = s.place.me in let l0 : States = s.cpus.items in
    let q0 = stood key t me0 l0 s.lefts.items s.held s.timer c.args.seat.now c.seat.view_is (c.requires.seat.layout ∙ sym same) c.seat.invariant cpu h.0 h.1 s0 c.state_of.ensures in
    let r0 : CpuRecord = h.0 in
    let n1 : ℕ = c.first-first.result in let me1 = c.first-first.new.place.me in let s1 : CpuState = c.step.new.self in let l1 : States = put_state cpu s1 l0 in
    let e1 : s1 ≡ stepped s0 = c.step.ensures in let r1 : CpuRecord = record_after set' (first cpu d) n1 r0 in
    let seat1 = seat_then key t me0 l0 s.lefts.items s.held s.timer cpu r0 s0 q0 me1 (first cpu d) n1 s1 refl c.first-first.ensures.turned e1 (first_quiet set' d n1) in
    let m1 = makes_there key t me0 l0 s.lefts.items s.held s.timer cpu r0 s0 q0 me1 (first cpu d) n1 s1 refl c.first-first.ensures.turned e1 (first_quiet set' d n1) in
    let q1 = goes_on key t me0 l0 s.lefts.items s.held s.timer cpu r0 s0 q0 me1 (first cpu d) n1 s1 refl c.first-first.ensures.turned e1 (first_quiet set' d n1)
    (kept_then key t me0 l0 s.lefts.items s.held s.timer cpu r0 s0 q0 me1 (first cpu d) n1 s1 refl c.first-first.ensures.turned e1 (first_quiet set' d n1) (λ x. refl)) in
    let puts : c.keep_steps.new.cpus.items ≡ l1 = c.keep_steps.ensures s0 c.state_of.ensures ∙ ap (λ (z : CpuState). put_state cpu z l0) (kept_once s0 (stepped s0) s1 e1 refl) in (
      (record { step = first cpu d; found = n1 } ∷ []),
      after_first n1 refl,
      (
        r1,
        subst (λ (z : States). Has (with_grants z me1.0.cpus) cpu r1) (sym puts) q1.has,
        asked_there key t me1 l1 s.lefts.items s.held s.timer cpu r1 s1 q1 said c.may_step-2.result false c.if-not-may_step-2.true c.may_step-2.ensures r1 q1.has,
      ),
      (made_all key c.args.self.now.layout t c.first-first.new.place.table_id me0 me1 l0 l1 c.keep_steps.new.cpus.items c.args.seat.now cpu said (record { step = first cpu d; found = n1 } ∷ []) same c.seat.view_is c.first-first.ensures.seat.0 puts
          (makes_then set' cpu said (first cpu d) n1 ([]) (seated t me0 l0) (seated t me1 l1) (seated t me1 l1) refl m1
          (asked_there key t me0 l0 s.lefts.items s.held s.timer cpu r0 s0 q0 said c.may_step.result true c.if-not-may_step.false c.may_step.ensures)
          (makes_none set' cpu said (seated t me1 l1)))),
    )

pub returns-then-not-may_step-3 : goal.returns-then-not-may_step-3
returns-then-not-may_step-3 g c = let s = c.seat.inside in let h = c.requires.held in let cpu : ℕ = c.args.cpu in let d : ℕ = c.args.domain in let t = s.place.table_id in
    let key : Layout = c.self.inside.words.layout in let set' : Setting = setting key in let said = g.G.Gate.said c.args.gate.now cpu in
    let same : key ≡ c.args.self.now.layout = ap (λ (z : Shape). z.layout) c.self.view_is in
    let s0 : CpuState = c.state_of.result.now in let me0 = s.place.me in let l0 : States = s.cpus.items in
    let q0 = stood key t me0 l0 s.lefts.items s.held s.timer c.args.seat.now c.seat.view_is (c.requires.seat.layout ∙ sym same) c.seat.invariant cpu h.0 h.1 s0 c.state_of.ensures in
    let r0 : CpuRecord = h.0 in
    let n1 : ℕ = c.first-first.result in let me1 = c.first-first.new.place.me in let s1 : CpuState = c.step.new.self in let l1 : States = put_state cpu s1 l0 in
    let e1 : s1 ≡ stepped s0 = c.step.ensures in let r1 : CpuRecord = record_after set' (first cpu d) n1 r0 in
    let seat1 = seat_then key t me0 l0 s.lefts.items s.held s.timer cpu r0 s0 q0 me1 (first cpu d) n1 s1 refl c.first-first.ensures.turned e1 (first_quiet set' d n1) in
    let m1 = makes_there key t me0 l0 s.lefts.items s.held s.timer cpu r0 s0 q0 me1 (first cpu d) n1 s1 refl c.first-first.ensures.turned e1 (first_quiet set' d n1) in
    let q1 = goes_on key t me0 l0 s.lefts.items s.held s.timer cpu r0 s0 q0 me1 (first cpu d) n1 s1 refl c.first-first.ensures.turned e1 (first_quiet set' d n1)
    (kept_then key t me0 l0 s.lefts.items s.held s.timer cpu r0 s0 q0 me1 (first cpu d) n1 s1 refl c.first-first.ensures.turned e1 (first_quiet set' d n1) (λ x. refl)) in
    let n2 : ℕ = c.middle-thresh.result in let me2 = c.middle-thresh.new.place.me in let s2 : CpuState = c.step-2.new.self in let l2 : States = put_state cpu s2 l1 in
    let e2 : s2 ≡ stepped s1 = c.step-2.ensures in let r2 : CpuRecord = record_after set' (middle cpu d) n2 r1 in
    let seat2 = seat_then key t me1 l1 s.lefts.items s.held s.timer cpu r1 s1 q1 me2 (middle cpu d) n2 s2 refl c.middle-thresh.ensures.turned e2 (middle_quiet set' d n2) in
    let m2 = makes_there key t me1 l1 s.lefts.items s.held s.timer cpu r1 s1 q1 me2 (middle cpu d) n2 s2 refl c.middle-thresh.ensures.turned e2 (middle_quiet set' d n2) in
    let q2 = goes_on key t me1 l1 s.lefts.items s.held s.timer cpu r1 s1 q1 me2 (middle cpu d) n2 s2 refl c.middle-thresh.ensures.turned e2 (middle_quiet set' d n2)
    (kept_then key t me1 l1 s.lefts.items s.held s.timer cpu r1 s1 q1 me2 (middle cpu d) n2 s2 refl c.middle-thresh.ensures.turned e2 (middle_quiet set' d n2) (λ x. refl)) in
    let puts : c.keep_steps-then-not-may_step-3.new.cpus.items ≡ l2 = c.keep_steps-then-not-may_step-3.ensures s0 c.state_of.ensures ∙ ap (λ (z : CpuState). put_state cpu z l0) (kept_once s0 (stepped (stepped s0)) s2 (e2 ∙ ap stepped e1) refl) ∙ sym (set_set l0 cpu (Some s1) (Some s2)) in (
      (record { step = first cpu d; found = n1 } ∷ record { step = middle cpu d; found = n2 } ∷ []),
      after_middle n1 n2 refl,
      (
        r2,
        subst (λ (z : States). Has (with_grants z me2.0.cpus) cpu r2) (sym puts) q2.has,
        asked_there key t me2 l2 s.lefts.items s.held s.timer cpu r2 s2 q2 said c.may_step-3.result false c.if-not-may_step-3.true c.may_step-3.ensures r2 q2.has,
      ),
      (made_all key c.args.self.now.layout t c.middle-thresh.new.place.table_id me0 me2 l0 l2 c.keep_steps-then-not-may_step-3.new.cpus.items c.args.seat.now cpu said (record { step = first cpu d; found = n1 } ∷ record { step = middle cpu d; found = n2 } ∷ []) same c.seat.view_is (c.middle-thresh.ensures.seat.0 ∙ c.first-first.ensures.seat.0) puts
          (makes_then set' cpu said (first cpu d) n1 (record { step = middle cpu d; found = n2 } ∷ []) (seated t me0 l0) (seated t me1 l1) (seated t me2 l2) refl m1
          (asked_there key t me0 l0 s.lefts.items s.held s.timer cpu r0 s0 q0 said c.may_step.result true c.if-not-may_step.false c.may_step.ensures)
          (makes_then set' cpu said (middle cpu d) n2 ([]) (seated t me1 l1) (seated t me2 l2) (seated t me2 l2) refl m2
          (asked_there key t me1 l1 s.lefts.items s.held s.timer cpu r1 s1 q1 said c.may_step-2.result true c.if-not-may_step-2.false c.may_step-2.ensures)
          (makes_none set' cpu said (seated t me2 l2))))),
    )

pub invariant_of-seat-then-is_whole : goal.invariant_of-seat-then-is_whole
invariant_of-seat-then-is_whole g c = let s = c.seat.inside in let h = c.requires.held in let cpu : ℕ = c.args.cpu in let d : ℕ = c.args.domain in let t = s.place.table_id in
    let key : Layout = c.self.inside.words.layout in let set' : Setting = setting key in let said = g.G.Gate.said c.args.gate.now cpu in
    let same : key ≡ c.args.self.now.layout = ap (λ (z : Shape). z.layout) c.self.view_is in
    let s0 : CpuState = c.state_of.result.now in let me0 = s.place.me in let l0 : States = s.cpus.items in
    let q0 = stood key t me0 l0 s.lefts.items s.held s.timer c.args.seat.now c.seat.view_is (c.requires.seat.layout ∙ sym same) c.seat.invariant cpu h.0 h.1 s0 c.state_of.ensures in
    let r0 : CpuRecord = h.0 in
    let n1 : ℕ = c.first-first.result in let me1 = c.first-first.new.place.me in let s1 : CpuState = c.step.new.self in let l1 : States = put_state cpu s1 l0 in
    let e1 : s1 ≡ stepped s0 = c.step.ensures in let r1 : CpuRecord = record_after set' (first cpu d) n1 r0 in
    let seat1 = seat_then key t me0 l0 s.lefts.items s.held s.timer cpu r0 s0 q0 me1 (first cpu d) n1 s1 refl c.first-first.ensures.turned e1 (first_quiet set' d n1) in
    let m1 = makes_there key t me0 l0 s.lefts.items s.held s.timer cpu r0 s0 q0 me1 (first cpu d) n1 s1 refl c.first-first.ensures.turned e1 (first_quiet set' d n1) in
    let q1 = goes_on key t me0 l0 s.lefts.items s.held s.timer cpu r0 s0 q0 me1 (first cpu d) n1 s1 refl c.first-first.ensures.turned e1 (first_quiet set' d n1)
    (kept_then key t me0 l0 s.lefts.items s.held s.timer cpu r0 s0 q0 me1 (first cpu d) n1 s1 refl c.first-first.ensures.turned e1 (first_quiet set' d n1) (λ x. refl)) in
    let n2 : ℕ = c.middle-thresh.result in let me2 = c.middle-thresh.new.place.me in let s2 : CpuState = c.step-2.new.self in let l2 : States = put_state cpu s2 l1 in
    let e2 : s2 ≡ stepped s1 = c.step-2.ensures in let r2 : CpuRecord = record_after set' (middle cpu d) n2 r1 in
    let seat2 = seat_then key t me1 l1 s.lefts.items s.held s.timer cpu r1 s1 q1 me2 (middle cpu d) n2 s2 refl c.middle-thresh.ensures.turned e2 (middle_quiet set' d n2) in
    let m2 = makes_there key t me1 l1 s.lefts.items s.held s.timer cpu r1 s1 q1 me2 (middle cpu d) n2 s2 refl c.middle-thresh.ensures.turned e2 (middle_quiet set' d n2) in
    let q2 = goes_on key t me1 l1 s.lefts.items s.held s.timer cpu r1 s1 q1 me2 (middle cpu d) n2 s2 refl c.middle-thresh.ensures.turned e2 (middle_quiet set' d n2)
    (kept_then key t me1 l1 s.lefts.items s.held s.timer cpu r1 s1 q1 me2 (middle cpu d) n2 s2 refl c.middle-thresh.ensures.turned e2 (middle_quiet set' d n2) (λ x. refl)) in
    let is : cpu ≡ cpu_for set' c.args.who = c.requires.its ∙ ap (λ (k : Layout). cpu_for (setting k) c.args.who) (sym same) in
    let found : found_of d r2.loading ≡ Words n1 n2 = found_two set' cpu d n1 n2 r0 in
    let n3 : ℕ = c.limits-second.result in let me3 = c.limits-second.new.place.me in let s3 : CpuState = c.step-3.new.self in let l3 : States = put_state cpu s3 l2 in
    let e3 : s3 ≡ stepped s2 = c.step-3.ensures in let r3 : CpuRecord = record_after set' (limits c.args.who d) n3 r2 in
    let seat3 = seat_then key t me2 l2 s.lefts.items s.held s.timer cpu r2 s2 q2 me3 (limits c.args.who d) n3 s3 is c.limits-second.ensures.turned e3 (limits_quiet set' c.args.who d n3) in
    let m3 = makes_there key t me2 l2 s.lefts.items s.held s.timer cpu r2 s2 q2 me3 (limits c.args.who d) n3 s3 is c.limits-second.ensures.turned e3 (limits_quiet set' c.args.who d n3) in
    let puts : c.keep_steps-2.new.cpus.items ≡ l3 = c.keep_steps-2.ensures s0 c.state_of.ensures ∙ ap (λ (z : CpuState). put_state cpu z l0) (kept_once s0 (stepped (stepped (stepped s0))) s3 (e3 ∙ ap stepped (e2 ∙ ap stepped e1)) refl) ∙ sym (set_set l1 cpu (Some s2) (Some s3) ∙ set_set l0 cpu (Some s1) (Some s3)) in
    let whole : is_whole_load n1 n3 ≡ true = sym c.is_whole.ensures ∙ c.if-is_whole.true in
    let there = subst (λ (z : Layout). d < domains z) (sym same) c.requires.there in
    let index : c.held_at-at.result ≡ triple_number key cpu d = c.held_at-at.ensures.value ∙ ap (λ (z : Layout). triple_number z cpu d) (sym same) in
    let triple : ◌≡◌ {A = Triple} (record { version = c.sequence_of.result / 2; limits = c.join_limits.result }) (triple_in n3 n2)
    = (λ i. record { version = c.sequence_of.ensures.value i / 2; limits = c.join_limits.ensures.value i }) in
    record {
      seat = subst (λ (z : States). IsSeat me3 z s.lefts.items s.timer) (sym puts) seat3;
      triples = triples_then key t me2 l2 s.lefts.items s.held s.timer cpu r2 s2 q2 me3 c.args.who d n1 n3 n2 is c.limits-second.ensures.turned found whole there
          c.held_at-at.result index (record { version = c.sequence_of.result / 2; limits = c.join_limits.result }) triple;
      sequences = sequences_turned key (limits c.args.who d) s.held.sequences.items c.limits-second.ensures.turned q2.kept.sequences;
    }

pub invariant_of-seat-2 : goal.invariant_of-seat-2
invariant_of-seat-2 g c = let s = c.seat.inside in let h = c.requires.held in let cpu : ℕ = c.args.cpu in let d : ℕ = c.args.domain in let t = s.place.table_id in
    let key : Layout = c.self.inside.words.layout in let set' : Setting = setting key in let said = g.G.Gate.said c.args.gate.now cpu in
    let same : key ≡ c.args.self.now.layout = ap (λ (z : Shape). z.layout) c.self.view_is in
    let s0 : CpuState = c.state_of.result.now in let me0 = s.place.me in let l0 : States = s.cpus.items in
    let q0 = stood key t me0 l0 s.lefts.items s.held s.timer c.args.seat.now c.seat.view_is (c.requires.seat.layout ∙ sym same) c.seat.invariant cpu h.0 h.1 s0 c.state_of.ensures in
    let r0 : CpuRecord = h.0 in
    let n1 : ℕ = c.first-first.result in let me1 = c.first-first.new.place.me in let s1 : CpuState = c.step.new.self in let l1 : States = put_state cpu s1 l0 in
    let e1 : s1 ≡ stepped s0 = c.step.ensures in let r1 : CpuRecord = record_after set' (first cpu d) n1 r0 in
    let seat1 = seat_then key t me0 l0 s.lefts.items s.held s.timer cpu r0 s0 q0 me1 (first cpu d) n1 s1 refl c.first-first.ensures.turned e1 (first_quiet set' d n1) in
    let m1 = makes_there key t me0 l0 s.lefts.items s.held s.timer cpu r0 s0 q0 me1 (first cpu d) n1 s1 refl c.first-first.ensures.turned e1 (first_quiet set' d n1) in
    let q1 = goes_on key t me0 l0 s.lefts.items s.held s.timer cpu r0 s0 q0 me1 (first cpu d) n1 s1 refl c.first-first.ensures.turned e1 (first_quiet set' d n1)
    (kept_then key t me0 l0 s.lefts.items s.held s.timer cpu r0 s0 q0 me1 (first cpu d) n1 s1 refl c.first-first.ensures.turned e1 (first_quiet set' d n1) (λ x. refl)) in
    let n2 : ℕ = c.middle-thresh.result in let me2 = c.middle-thresh.new.place.me in let s2 : CpuState = c.step-2.new.self in let l2 : States = put_state cpu s2 l1 in
    let e2 : s2 ≡ stepped s1 = c.step-2.ensures in let r2 : CpuRecord = record_after set' (middle cpu d) n2 r1 in
    let seat2 = seat_then key t me1 l1 s.lefts.items s.held s.timer cpu r1 s1 q1 me2 (middle cpu d) n2 s2 refl c.middle-thresh.ensures.turned e2 (middle_quiet set' d n2) in
    let m2 = makes_there key t me1 l1 s.lefts.items s.held s.timer cpu r1 s1 q1 me2 (middle cpu d) n2 s2 refl c.middle-thresh.ensures.turned e2 (middle_quiet set' d n2) in
    let q2 = goes_on key t me1 l1 s.lefts.items s.held s.timer cpu r1 s1 q1 me2 (middle cpu d) n2 s2 refl c.middle-thresh.ensures.turned e2 (middle_quiet set' d n2)
    (kept_then key t me1 l1 s.lefts.items s.held s.timer cpu r1 s1 q1 me2 (middle cpu d) n2 s2 refl c.middle-thresh.ensures.turned e2 (middle_quiet set' d n2) (λ x. refl)) in
    let is : cpu ≡ cpu_for set' c.args.who = c.requires.its ∙ ap (λ (k : Layout). cpu_for (setting k) c.args.who) (sym same) in
    let found : found_of d r2.loading ≡ Words n1 n2 = found_two set' cpu d n1 n2 r0 in
    let n3 : ℕ = c.limits-second.result in let me3 = c.limits-second.new.place.me in let s3 : CpuState = c.step-3.new.self in let l3 : States = put_state cpu s3 l2 in
    let e3 : s3 ≡ stepped s2 = c.step-3.ensures in let r3 : CpuRecord = record_after set' (limits c.args.who d) n3 r2 in
    let seat3 = seat_then key t me2 l2 s.lefts.items s.held s.timer cpu r2 s2 q2 me3 (limits c.args.who d) n3 s3 is c.limits-second.ensures.turned e3 (limits_quiet set' c.args.who d n3) in
    let m3 = makes_there key t me2 l2 s.lefts.items s.held s.timer cpu r2 s2 q2 me3 (limits c.args.who d) n3 s3 is c.limits-second.ensures.turned e3 (limits_quiet set' c.args.who d n3) in
    let puts : c.keep_steps-2.new.cpus.items ≡ l3 = c.keep_steps-2.ensures s0 c.state_of.ensures ∙ ap (λ (z : CpuState). put_state cpu z l0) (kept_once s0 (stepped (stepped (stepped s0))) s3 (e3 ∙ ap stepped (e2 ∙ ap stepped e1)) refl) ∙ sym (set_set l1 cpu (Some s2) (Some s3) ∙ set_set l0 cpu (Some s1) (Some s3)) in
    let whole : is_whole_load n1 n3 ≡ false = sym c.is_whole.ensures ∙ c.if-is_whole.false in
    subst (λ (z : States). IsKept me3 z s.lefts.items s.held s.timer) (sym puts)
    (kept_again key t me2 l2 s.lefts.items s.held s.timer cpu r2 s2 q2 me3 c.args.who d n1 n3 n2 is c.limits-second.ensures.turned found whole l3 seat3)

pub returns-then-is_whole : goal.returns-then-is_whole
returns-then-is_whole g c = let s = c.seat.inside in let h = c.requires.held in let cpu : ℕ = c.args.cpu in let d : ℕ = c.args.domain in let t = s.place.table_id in
    let key : Layout = c.self.inside.words.layout in let set' : Setting = setting key in let said = g.G.Gate.said c.args.gate.now cpu in
    let same : key ≡ c.args.self.now.layout = ap (λ (z : Shape). z.layout) c.self.view_is in
    let s0 : CpuState = c.state_of.result.now in let me0 = s.place.me in let l0 : States = s.cpus.items in
    let q0 = stood key t me0 l0 s.lefts.items s.held s.timer c.args.seat.now c.seat.view_is (c.requires.seat.layout ∙ sym same) c.seat.invariant cpu h.0 h.1 s0 c.state_of.ensures in
    let r0 : CpuRecord = h.0 in
    let n1 : ℕ = c.first-first.result in let me1 = c.first-first.new.place.me in let s1 : CpuState = c.step.new.self in let l1 : States = put_state cpu s1 l0 in
    let e1 : s1 ≡ stepped s0 = c.step.ensures in let r1 : CpuRecord = record_after set' (first cpu d) n1 r0 in
    let seat1 = seat_then key t me0 l0 s.lefts.items s.held s.timer cpu r0 s0 q0 me1 (first cpu d) n1 s1 refl c.first-first.ensures.turned e1 (first_quiet set' d n1) in
    let m1 = makes_there key t me0 l0 s.lefts.items s.held s.timer cpu r0 s0 q0 me1 (first cpu d) n1 s1 refl c.first-first.ensures.turned e1 (first_quiet set' d n1) in
    let q1 = goes_on key t me0 l0 s.lefts.items s.held s.timer cpu r0 s0 q0 me1 (first cpu d) n1 s1 refl c.first-first.ensures.turned e1 (first_quiet set' d n1)
    (kept_then key t me0 l0 s.lefts.items s.held s.timer cpu r0 s0 q0 me1 (first cpu d) n1 s1 refl c.first-first.ensures.turned e1 (first_quiet set' d n1) (λ x. refl)) in
    let n2 : ℕ = c.middle-thresh.result in let me2 = c.middle-thresh.new.place.me in let s2 : CpuState = c.step-2.new.self in let l2 : States = put_state cpu s2 l1 in
    let e2 : s2 ≡ stepped s1 = c.step-2.ensures in let r2 : CpuRecord = record_after set' (middle cpu d) n2 r1 in
    let seat2 = seat_then key t me1 l1 s.lefts.items s.held s.timer cpu r1 s1 q1 me2 (middle cpu d) n2 s2 refl c.middle-thresh.ensures.turned e2 (middle_quiet set' d n2) in
    let m2 = makes_there key t me1 l1 s.lefts.items s.held s.timer cpu r1 s1 q1 me2 (middle cpu d) n2 s2 refl c.middle-thresh.ensures.turned e2 (middle_quiet set' d n2) in
    let q2 = goes_on key t me1 l1 s.lefts.items s.held s.timer cpu r1 s1 q1 me2 (middle cpu d) n2 s2 refl c.middle-thresh.ensures.turned e2 (middle_quiet set' d n2)
    (kept_then key t me1 l1 s.lefts.items s.held s.timer cpu r1 s1 q1 me2 (middle cpu d) n2 s2 refl c.middle-thresh.ensures.turned e2 (middle_quiet set' d n2) (λ x. refl)) in
    let is : cpu ≡ cpu_for set' c.args.who = c.requires.its ∙ ap (λ (k : Layout). cpu_for (setting k) c.args.who) (sym same) in
    let found : found_of d r2.loading ≡ Words n1 n2 = found_two set' cpu d n1 n2 r0 in
    let n3 : ℕ = c.limits-second.result in let me3 = c.limits-second.new.place.me in let s3 : CpuState = c.step-3.new.self in let l3 : States = put_state cpu s3 l2 in
    let e3 : s3 ≡ stepped s2 = c.step-3.ensures in let r3 : CpuRecord = record_after set' (limits c.args.who d) n3 r2 in
    let seat3 = seat_then key t me2 l2 s.lefts.items s.held s.timer cpu r2 s2 q2 me3 (limits c.args.who d) n3 s3 is c.limits-second.ensures.turned e3 (limits_quiet set' c.args.who d n3) in
    let m3 = makes_there key t me2 l2 s.lefts.items s.held s.timer cpu r2 s2 q2 me3 (limits c.args.who d) n3 s3 is c.limits-second.ensures.turned e3 (limits_quiet set' c.args.who d n3) in
    let puts : c.keep_steps-2.new.cpus.items ≡ l3 = c.keep_steps-2.ensures s0 c.state_of.ensures ∙ ap (λ (z : CpuState). put_state cpu z l0) (kept_once s0 (stepped (stepped (stepped s0))) s3 (e3 ∙ ap stepped (e2 ∙ ap stepped e1)) refl) ∙ sym (set_set l1 cpu (Some s2) (Some s3) ∙ set_set l0 cpu (Some s1) (Some s3)) in
    let whole : is_whole_load n1 n3 ≡ true = sym c.is_whole.ensures ∙ c.if-is_whole.true in
    let triple : ◌≡◌ {A = Triple} (record { version = c.sequence_of.result / 2; limits = c.join_limits.result }) (triple_in n3 n2)
    = (λ i. record { version = c.sequence_of.ensures.value i / 2; limits = c.join_limits.ensures.value i }) in
    let equal : n1 ≡ n3 = eqb-true n1 n3 (and_parts (eqb n1 n3) (eqb (sequence_in n3 % 2) 0) whole).0 in
    let w = whole_there key t me2 l2 s.lefts.items s.held s.timer cpu r2 s2 q2 me3 c.args.who d n1 n3 n2 is c.limits-second.ensures.turned found whole in (
      n3,
      n2,
      ap (λ (x : ℕ). is_whole_load x n3) (sym equal) ∙ whole,
      triple,
      subst IsLawful (sym c.join_limits.ensures.value) w.0,
      (λ r has. subst (λ (z : ℕ × CpuRecord). All (λ x. x.domain ≡ d → x.version ≤ z.0 / 2) z.1.triples)
          (λ i. (sym c.sequence_of.ensures.value i, one_record c.args.seat.now.cpus cpu h.0 r h.1 has i)) w.1),
      subst (λ (x : ℕ). MakesAll (setting c.args.self.now.layout) cpu said (whole_load c.args.who cpu d x n2 n3) c.args.seat.now (seated c.limits-second.new.place.table_id me3 c.keep_steps-2.new.cpus.items)) equal
          (made_all key c.args.self.now.layout t c.limits-second.new.place.table_id me0 me3 l0 l3 c.keep_steps-2.new.cpus.items c.args.seat.now cpu said (record { step = first cpu d; found = n1 } ∷ record { step = middle cpu d; found = n2 } ∷ record { step = limits c.args.who d; found = n3 } ∷ []) same c.seat.view_is (c.limits-second.ensures.seat.0 ∙ c.middle-thresh.ensures.seat.0 ∙ c.first-first.ensures.seat.0) puts
          (makes_then set' cpu said (first cpu d) n1 (record { step = middle cpu d; found = n2 } ∷ record { step = limits c.args.who d; found = n3 } ∷ []) (seated t me0 l0) (seated t me1 l1) (seated t me3 l3) refl m1
          (asked_there key t me0 l0 s.lefts.items s.held s.timer cpu r0 s0 q0 said c.may_step.result true c.if-not-may_step.false c.may_step.ensures)
          (makes_then set' cpu said (middle cpu d) n2 (record { step = limits c.args.who d; found = n3 } ∷ []) (seated t me1 l1) (seated t me2 l2) (seated t me3 l3) refl m2
          (asked_there key t me1 l1 s.lefts.items s.held s.timer cpu r1 s1 q1 said c.may_step-2.result true c.if-not-may_step-2.false c.may_step-2.ensures)
          (makes_then set' cpu said (limits c.args.who d) n3 ([]) (seated t me2 l2) (seated t me3 l3) (seated t me3 l3) (sym is) m3
          (asked_there key t me2 l2 s.lefts.items s.held s.timer cpu r2 s2 q2 said c.may_step-3.result true c.if-not-may_step-3.false c.may_step-3.ensures)
          (makes_none set' cpu said (seated t me3 l3)))))),
    )

pub returns : goal.returns
returns g c = let s = c.seat.inside in let h = c.requires.held in let cpu : ℕ = c.args.cpu in let d : ℕ = c.args.domain in let t = s.place.table_id in
    let key : Layout = c.self.inside.words.layout in let set' : Setting = setting key in let said = g.G.Gate.said c.args.gate.now cpu in
    let same : key ≡ c.args.self.now.layout = ap (λ (z : Shape). z.layout) c.self.view_is in
    let s0 : CpuState = c.state_of.result.now in let me0 = s.place.me in let l0 : States = s.cpus.items in
    let q0 = stood key t me0 l0 s.lefts.items s.held s.timer c.args.seat.now c.seat.view_is (c.requires.seat.layout ∙ sym same) c.seat.invariant cpu h.0 h.1 s0 c.state_of.ensures in
    let r0 : CpuRecord = h.0 in
    let n1 : ℕ = c.first-first.result in let me1 = c.first-first.new.place.me in let s1 : CpuState = c.step.new.self in let l1 : States = put_state cpu s1 l0 in
    let e1 : s1 ≡ stepped s0 = c.step.ensures in let r1 : CpuRecord = record_after set' (first cpu d) n1 r0 in
    let seat1 = seat_then key t me0 l0 s.lefts.items s.held s.timer cpu r0 s0 q0 me1 (first cpu d) n1 s1 refl c.first-first.ensures.turned e1 (first_quiet set' d n1) in
    let m1 = makes_there key t me0 l0 s.lefts.items s.held s.timer cpu r0 s0 q0 me1 (first cpu d) n1 s1 refl c.first-first.ensures.turned e1 (first_quiet set' d n1) in
    let q1 = goes_on key t me0 l0 s.lefts.items s.held s.timer cpu r0 s0 q0 me1 (first cpu d) n1 s1 refl c.first-first.ensures.turned e1 (first_quiet set' d n1)
    (kept_then key t me0 l0 s.lefts.items s.held s.timer cpu r0 s0 q0 me1 (first cpu d) n1 s1 refl c.first-first.ensures.turned e1 (first_quiet set' d n1) (λ x. refl)) in
    let n2 : ℕ = c.middle-thresh.result in let me2 = c.middle-thresh.new.place.me in let s2 : CpuState = c.step-2.new.self in let l2 : States = put_state cpu s2 l1 in
    let e2 : s2 ≡ stepped s1 = c.step-2.ensures in let r2 : CpuRecord = record_after set' (middle cpu d) n2 r1 in
    let seat2 = seat_then key t me1 l1 s.lefts.items s.held s.timer cpu r1 s1 q1 me2 (middle cpu d) n2 s2 refl c.middle-thresh.ensures.turned e2 (middle_quiet set' d n2) in
    let m2 = makes_there key t me1 l1 s.lefts.items s.held s.timer cpu r1 s1 q1 me2 (middle cpu d) n2 s2 refl c.middle-thresh.ensures.turned e2 (middle_quiet set' d n2) in
    let q2 = goes_on key t me1 l1 s.lefts.items s.held s.timer cpu r1 s1 q1 me2 (middle cpu d) n2 s2 refl c.middle-thresh.ensures.turned e2 (middle_quiet set' d n2)
    (kept_then key t me1 l1 s.lefts.items s.held s.timer cpu r1 s1 q1 me2 (middle cpu d) n2 s2 refl c.middle-thresh.ensures.turned e2 (middle_quiet set' d n2) (λ x. refl)) in
    let is : cpu ≡ cpu_for set' c.args.who = c.requires.its ∙ ap (λ (k : Layout). cpu_for (setting k) c.args.who) (sym same) in
    let found : found_of d r2.loading ≡ Words n1 n2 = found_two set' cpu d n1 n2 r0 in
    let n3 : ℕ = c.limits-second.result in let me3 = c.limits-second.new.place.me in let s3 : CpuState = c.step-3.new.self in let l3 : States = put_state cpu s3 l2 in
    let e3 : s3 ≡ stepped s2 = c.step-3.ensures in let r3 : CpuRecord = record_after set' (limits c.args.who d) n3 r2 in
    let seat3 = seat_then key t me2 l2 s.lefts.items s.held s.timer cpu r2 s2 q2 me3 (limits c.args.who d) n3 s3 is c.limits-second.ensures.turned e3 (limits_quiet set' c.args.who d n3) in
    let m3 = makes_there key t me2 l2 s.lefts.items s.held s.timer cpu r2 s2 q2 me3 (limits c.args.who d) n3 s3 is c.limits-second.ensures.turned e3 (limits_quiet set' c.args.who d n3) in
    let puts : c.keep_steps-2.new.cpus.items ≡ l3 = c.keep_steps-2.ensures s0 c.state_of.ensures ∙ ap (λ (z : CpuState). put_state cpu z l0) (kept_once s0 (stepped (stepped (stepped s0))) s3 (e3 ∙ ap stepped (e2 ∙ ap stepped e1)) refl) ∙ sym (set_set l1 cpu (Some s2) (Some s3) ∙ set_set l0 cpu (Some s1) (Some s3)) in
    let whole : is_whole_load n1 n3 ≡ false = sym c.is_whole.ensures ∙ c.if-is_whole.false in
    let there = subst (λ (z : Layout). d < domains z) (sym same) c.requires.there in
    let index : c.held_at-at.result ≡ triple_number key cpu d = c.held_at-at.ensures.value ∙ ap (λ (z : Layout). triple_number z cpu d) (sym same) in
    let q3 = goes_on key t me2 l2 s.lefts.items s.held s.timer cpu r2 s2 q2 me3 (limits c.args.who d) n3 s3 is c.limits-second.ensures.turned e3 (limits_quiet set' c.args.who d n3)
    (kept_again key t me2 l2 s.lefts.items s.held s.timer cpu r2 s2 q2 me3 c.args.who d n1 n3 n2 is c.limits-second.ensures.turned found whole l3 seat3) in
    let held = held_there key t me3 l3 s.lefts.items s.held s.timer cpu r3 s3 q3 d c.held_at-at.result there index c.index.result.now c.index.ensures in (
      n2,
      whole,
      (
        r3,
        subst (λ (z : States). Has (with_grants z me3.0.cpus) cpu r3) (sym puts) q3.has,
        subst (λ (z : Layout). c.index.result.now ≡ triple_of (held_of (setting z) d r3.triples)) same held.0,
      ),
      held.1,
      (made_all key c.args.self.now.layout t c.limits-second.new.place.table_id me0 me3 l0 l3 c.keep_steps-2.new.cpus.items c.args.seat.now cpu said (record { step = first cpu d; found = n1 } ∷ record { step = middle cpu d; found = n2 } ∷ record { step = limits c.args.who d; found = n3 } ∷ []) same c.seat.view_is (c.limits-second.ensures.seat.0 ∙ c.middle-thresh.ensures.seat.0 ∙ c.first-first.ensures.seat.0) puts
          (makes_then set' cpu said (first cpu d) n1 (record { step = middle cpu d; found = n2 } ∷ record { step = limits c.args.who d; found = n3 } ∷ []) (seated t me0 l0) (seated t me1 l1) (seated t me3 l3) refl m1
          (asked_there key t me0 l0 s.lefts.items s.held s.timer cpu r0 s0 q0 said c.may_step.result true c.if-not-may_step.false c.may_step.ensures)
          (makes_then set' cpu said (middle cpu d) n2 (record { step = limits c.args.who d; found = n3 } ∷ []) (seated t me1 l1) (seated t me2 l2) (seated t me3 l3) refl m2
          (asked_there key t me1 l1 s.lefts.items s.held s.timer cpu r1 s1 q1 said c.may_step-2.result true c.if-not-may_step-2.false c.may_step-2.ensures)
          (makes_then set' cpu said (limits c.args.who d) n3 ([]) (seated t me2 l2) (seated t me3 l3) (seated t me3 l3) (sym is) m3
          (asked_there key t me2 l2 s.lefts.items s.held s.timer cpu r2 s2 q2 said c.may_step-3.result true c.if-not-may_step-3.false c.may_step-3.ensures)
          (makes_none set' cpu said (seated t me3 l3)))))),
    )
