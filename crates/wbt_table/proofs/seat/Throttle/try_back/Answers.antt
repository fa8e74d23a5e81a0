use Rattle.std.proofs.Common.{◌≡◌, ℕ, ◌<◌, Bool, true, List, [], ◌∷◌, sym, refl, ap, ◌∙◌, subst}
use Rattle.wbt_table.proofs.Common.{times_in, bits_at, CpuRecord, Setting, look, back, record_after, setting, MakesAll, at_once}
use Rattle.wbt_table.specs.Calls.{back_steps, after_look}
use Rattle.wbt_table.proofs.Turning.{one_record}
use Rattle.wbt_table.proofs.Seating.{has_changed}
use Rattle.wbt_table.proofs.Keeping.{look_same}
use Rattle.wbt_table.proofs.Paying.{answered_at}
use Rattle.wbt_table.proofs.Unheld.{look_holds}
use Rattle.wbt_table.proofs.Loading.{makes_none, makes_then}
use Rattle.wbt_table.proofs.seat.Throttle.try_back.Goals as goal

pub returns-then-not-may_step : goal.returns-then-not-may_step
returns-then-not-may_step g c = let s = c.state.ensures in (
  [],
  at_once refl,
  (s.0, s.1, subst (λ (z : ℕ × Bool). g.G.Gate.said c.args.gate.now c.args.cpu z.0 z.1) (λ i. (s.2.0 i, c.if-not-may_step.true i)) c.may_step.ensures),
  makes_none (setting c.args.self.now.layout) c.args.cpu (g.G.Gate.said c.args.gate.now c.args.cpu) c.args.seat.now,
)

pub state-requires-2 : goal.state-requires-2
state-requires-2 g c = let h = c.requires.may in let f : CpuRecord → CpuRecord = record_after (setting c.args.self.now.layout) (look c.args.cpu c.args.page) c.look-found.result in
    record { held = (f h.0, has_changed c.args.cpu f c.args.seat.now c.look-found.new.seat h.0 c.look-found.ensures.makes.changes h.1) }

pub returns-then-not-may_step-2 : goal.returns-then-not-may_step-2
returns-then-not-may_step-2 g c = let s = c.state-2.ensures in let said = g.G.Gate.said c.args.gate.now c.args.cpu in let h = c.requires.may in
    let set' : Setting = setting c.args.self.now.layout in let s1 = c.look-found.new.seat in (
      record { step = look c.args.cpu c.args.page; found = c.look-found.result } ∷ [],
      after_look c.look-found.result (c.look-found.ensures.under h.0 h.1 h.2.holds_it) refl,
      (s.0, s.1, subst (λ (z : ℕ × Bool). g.G.Gate.said c.args.gate.now c.args.cpu z.0 z.1) (λ i. (s.2.0 i, c.if-not-may_step-2.true i)) c.may_step-2.ensures),
      makes_then set' c.args.cpu said (look c.args.cpu c.args.page) c.look-found.result [] c.args.seat.now s1 s1 refl c.look-found.ensures.makes
          (answered_at said c.args.seat.now.cpus c.args.cpu c.state.result.now.steps c.may_step.result true c.state.ensures.0 c.state.ensures.1 c.state.ensures.2.0
          c.if-not-may_step.false c.may_step.ensures)
          (makes_none set' c.args.cpu said s1),
    )

pub put_back-second-requires-clause-may : goal.put_back-second-requires-clause-may
put_back-second-requires-clause-may g c = let h = c.requires.may in let steps = c.requires.has_a_step in
    let set' : Setting = setting c.args.self.now.layout in
    let f : CpuRecord → CpuRecord = record_after set' (look c.args.cpu c.args.page) c.look-found.result in
    let same = look_same set' c.args.page c.look-found.result h.0 in (
      f h.0,
      has_changed c.args.cpu f c.args.seat.now c.look-found.new.seat h.0 c.look-found.ensures.makes.changes h.1,
      record {
        can = record {
          page_is = h.2.page_is;
          holds_it = subst (λ (l : List ℕ). 0 < times_in c.args.page l) (sym (look_holds set' c.args.page (bits_at c.look-found.result c.args.page) h.0)) h.2.holds_it;
          owes_none = same.debts ∙ h.2.owes_none;
        };
        looked = (refl, refl);
        found_is = refl;
        step_left = subst (λ (n : ℕ). n < set'.page_steps)
            (ap (λ (r : CpuRecord). r.page_steps) (one_record c.args.seat.now.cpus c.args.cpu steps.0 h.0 steps.1 h.1) ∙ sym same.page_steps) steps.2;
      },
    )

pub returns-then-second-found : goal.returns-then-second-found
returns-then-second-found g c = let h = c.requires.may in let said = g.G.Gate.said c.args.gate.now c.args.cpu in let set' : Setting = setting c.args.self.now.layout in
    let s1 = c.look-found.new.seat in let s2 = c.put_back-second.new.seat in
    let n : ℕ = c.look-found.result in let m : ℕ = c.put_back-second.result in
    let all = makes_then set' c.args.cpu said (look c.args.cpu c.args.page) n (record { step = back c.args.cpu c.args.page; found = m } ∷ [])
    c.args.seat.now s1 s2 refl c.look-found.ensures.makes
    (answered_at said c.args.seat.now.cpus c.args.cpu c.state.result.now.steps c.may_step.result true c.state.ensures.0 c.state.ensures.1 c.state.ensures.2.0
    c.if-not-may_step.false c.may_step.ensures)
    (makes_then set' c.args.cpu said (back c.args.cpu c.args.page) m [] s1 s2 s2 refl c.put_back-second.ensures
    (answered_at said s1.cpus c.args.cpu c.state-2.result.now.steps c.may_step-2.result true c.state-2.ensures.0 c.state-2.ensures.1 c.state-2.ensures.2.0
    c.if-not-may_step-2.false c.may_step-2.ensures)
    (makes_none set' c.args.cpu said s2)) in
    let under : (bits_at n c.args.page).writeback ≡ true = c.look-found.ensures.under h.0 h.1 h.2.holds_it in
    ((λ e. c.if-second-found.true (sym e)), under, all)

pub returns-then-is_dirty_at : goal.returns-then-is_dirty_at
returns-then-is_dirty_at g c = let h = c.requires.may in let said = g.G.Gate.said c.args.gate.now c.args.cpu in let set' : Setting = setting c.args.self.now.layout in
    let s1 = c.look-found.new.seat in let s2 = c.put_back-second.new.seat in
    let n : ℕ = c.look-found.result in let m : ℕ = c.put_back-second.result in
    let all = makes_then set' c.args.cpu said (look c.args.cpu c.args.page) n (record { step = back c.args.cpu c.args.page; found = m } ∷ [])
    c.args.seat.now s1 s2 refl c.look-found.ensures.makes
    (answered_at said c.args.seat.now.cpus c.args.cpu c.state.result.now.steps c.may_step.result true c.state.ensures.0 c.state.ensures.1 c.state.ensures.2.0
    c.if-not-may_step.false c.may_step.ensures)
    (makes_then set' c.args.cpu said (back c.args.cpu c.args.page) m [] s1 s2 s2 refl c.put_back-second.ensures
    (answered_at said s1.cpus c.args.cpu c.state-2.result.now.steps c.may_step-2.result true c.state-2.ensures.0 c.state-2.ensures.1 c.state-2.ensures.2.0
    c.if-not-may_step-2.false c.may_step-2.ensures)
    (makes_none set' c.args.cpu said s2)) in
    let under : (bits_at n c.args.page).writeback ≡ true = c.look-found.ensures.under h.0 h.1 h.2.holds_it in (
      n,
      sym c.is_dirty_at.ensures.in_book ∙ c.if-is_dirty_at.true,
      under,
      subst (λ (k : ℕ). MakesAll set' c.args.cpu said (back_steps c.args.cpu c.args.page n k) c.args.seat.now s2) c.if-second-found.false all,
    )

pub returns : goal.returns
returns g c = let h = c.requires.may in let said = g.G.Gate.said c.args.gate.now c.args.cpu in let set' : Setting = setting c.args.self.now.layout in
    let s1 = c.look-found.new.seat in let s2 = c.put_back-second.new.seat in
    let n : ℕ = c.look-found.result in let m : ℕ = c.put_back-second.result in
    let all = makes_then set' c.args.cpu said (look c.args.cpu c.args.page) n (record { step = back c.args.cpu c.args.page; found = m } ∷ [])
    c.args.seat.now s1 s2 refl c.look-found.ensures.makes
    (answered_at said c.args.seat.now.cpus c.args.cpu c.state.result.now.steps c.may_step.result true c.state.ensures.0 c.state.ensures.1 c.state.ensures.2.0
    c.if-not-may_step.false c.may_step.ensures)
    (makes_then set' c.args.cpu said (back c.args.cpu c.args.page) m [] s1 s2 s2 refl c.put_back-second.ensures
    (answered_at said s1.cpus c.args.cpu c.state-2.result.now.steps c.may_step-2.result true c.state-2.ensures.0 c.state-2.ensures.1 c.state-2.ensures.2.0
    c.if-not-may_step-2.false c.may_step-2.ensures)
    (makes_none set' c.args.cpu said s2)) in
    let under : (bits_at n c.args.page).writeback ≡ true = c.look-found.ensures.under h.0 h.1 h.2.holds_it in (
      n,
      sym c.is_dirty_at.ensures.in_book ∙ c.if-is_dirty_at.false,
      under,
      subst (λ (k : ℕ). MakesAll set' c.args.cpu said (back_steps c.args.cpu c.args.page n k) c.args.seat.now s2) c.if-second-found.false all,
    )
