-- The clock moves to a moment that was ahead, which leaves one moment less. Where no moment is ahead, no flusher waits for one.
use Rattle.std.proofs.Common.{◌≡◌, ◌⊎◌, inl, inr, ℕ, zero, suc, ◌+◌, ◌*◌, ◌<◌, ◌≤◌, min, Bool, true, false, cond, ltb, List, [], ◌∷◌, length, get_or, Option, Some, None, ⊎_elim, refl, sym, ◌∙◌, ap, arith}
use Rattle.std.specs.List.{sum_by}
use Rattle.std.proofs.lemmas.Bool.{cases_lt}
use Rattle.std.proofs.lemmas.Bool.Decides.{nat_tests}
use Rattle.std.proofs.lemmas.List.Sums.{sum_by-cons}
use Rattle.wbt_replay_order.proofs.Common.{State, no_flusher, is_drained, Flusher, ReplayPhase, ReplayTask, sooner, task_sooner, phase_sooner, tasks_sooner, flushers_sooner, next_moment, at_moment, wait, pause_cost, task_cost, phase_cost, flusher_cost, timer_cost, parts_cost}
use Rattle.wbt_replay_moves.specs.declared.state.ReplayPhase.TheVariants as phase
use Rattle.wbt_replay_ends.proofs.Ends.Cores.{round_cost}
use Rattle.wbt_replay_ends.proofs.Ends.Sums.{sum_falls}

-- ---- one moment

some_same : (n m : ℕ) → Some n ≡ Some m → n ≡ m
some_same n m is = cc is

sooner_case : (now : ℕ) (found : Option ℕ) (until m : ℕ) → sooner now found until ≡ Some m → (found ≡ Some m) ⊎ ((now < m) × (until ≡ m))
sooner_case now None until m is = by_test (ltb now until) refl is
  where
    by_test : (b : Bool) → ltb now until ≡ b → cond b (Some until) None ≡ Some m → (None ≡ Some m) ⊎ ((now < m) × (until ≡ m))
    by_test true less is =
        let same : until ≡ m = some_same until m is in
        let there : now < until = grind (arith, nat_tests) in
        inr (omega (arith, there, same), same)
    by_test false past is = absurd (cc is)
sooner_case now (Some moment) until m is = by_test (ltb now until) refl is
  where
    by_test : (b : Bool) → ltb now until ≡ b → cond b (Some (min until moment)) (Some moment) ≡ Some m → (Some moment ≡ Some m) ⊎ ((now < m) × (until ≡ m))
    by_test true less is =
        let same : min until moment ≡ m = some_same (min until moment) m is in
        let there : now < until = grind (arith, nat_tests) in
        ⊎_elim (λ before. inr (omega (arith, there, same, before), omega (arith, same, before)))
        (λ behind. inl (ap (λ n. Some n) (let this : moment ≡ m = omega (arith, same, behind) in this))) (cases_lt until moment)
    by_test false past is = inl is

abbrev pub IsNone : (found : Option ℕ) → Type 0
IsNone found = found ≡ None

sooner_none : (now : ℕ) (found : Option ℕ) (until : ℕ) → sooner now found until ≡ None → IsNone found × (ltb now until ≡ false)
sooner_none now None until is = by_test (ltb now until) refl is
  where
    by_test : (b : Bool) → ltb now until ≡ b → IsNone (cond b (Some until) None) → IsNone None × (ltb now until ≡ false)
    by_test true less is = absurd (cc is)
    by_test false past is = (refl, past)
sooner_none now (Some moment) until is = by_test (ltb now until) is
  where
    by_test : (b : Bool) → IsNone (cond b (Some (min until moment)) (Some moment)) → IsNone (Some moment) × (ltb now until ≡ false)
    by_test true is = absurd (cc is)
    by_test false is = absurd (cc is)

module _ (now m : ℕ) where
  wait_falls : now ≤ m → (until : ℕ) → wait m until ≤ wait now until
  wait_falls later until = by_tests (ltb m until) (ltb now until) refl refl
    where
      by_tests : (a b : Bool) → ltb m until ≡ a → ltb now until ≡ b → cond a 1 0 ≤ cond b 1 0
      by_tests true true x y = omega arith
      by_tests true false x y = absurd (let one : m < until = grind (arith, nat_tests) in let other : until ≤ now = grind (arith, nat_tests) in omega (arith, one, other, later))
      by_tests false b x y = omega arith

  wait_ends : (until : ℕ) → now < m → until ≡ m → wait m until + 1 ≤ wait now until
  wait_ends until less same =
      let over : ltb m until ≡ false = grind (arith, nat_tests) in
      let ahead : ltb now until ≡ true = grind (arith, nat_tests) in
      let after = ap {A = Bool} {B = ℕ} (λ b. cond b 1 0) over in
      let before = ap {A = Bool} {B = ℕ} (λ b. cond b 1 0) ahead in
      omega (arith, after, before)

  -- ---- tasks

  task_falls : now ≤ m → (t : ReplayTask) → task_cost m t ≤ task_cost now t
  task_falls later t = by_end t.ended
    where
      by_end : (b : Bool) → 4 * length t.works + pause_cost t + cond b 0 (8 + wait m t.rest) ≤ 4 * length t.works + pause_cost t + cond b 0 (8 + wait now t.rest)
      by_end true = omega arith
      by_end false = let w = wait_falls later t.rest in omega (arith, w)

  task_case : (found : Option ℕ) (t : ReplayTask) → task_sooner now found t ≡ Some m → (found ≡ Some m) ⊎ ((now < m) × (task_cost m t + 1 ≤ task_cost now t))
  task_case found t is = by_end t.ended is
    where
      by_end : (b : Bool) → cond b found (sooner now found t.rest) ≡ Some m
          → (found ≡ Some m) ⊎ ((now < m) × (4 * length t.works + pause_cost t + cond b 0 (8 + wait m t.rest) + 1 ≤ 4 * length t.works + pause_cost t + cond b 0 (8 + wait now t.rest)))
      by_end true is = inl is
      by_end false is = ⊎_elim (λ e. inl e) (λ h. inr (h.0, (let w = wait_ends t.rest h.0 h.1 in omega (arith, w)))) (sooner_case now found t.rest m is)

  tasks_case : (ts : List ReplayTask) (found : Option ℕ) → tasks_sooner now found ts ≡ Some m
      → (found ≡ Some m) ⊎ ((now < m) × (sum_by (task_cost m) ts + 1 ≤ sum_by (task_cost now) ts))
  unfolding tasks_sooner
  tasks_case [] found is = inl is
  tasks_case (t ∷ ts) found is =
      let new = sum_by-cons (task_cost m) t ts in
      let old = sum_by-cons (task_cost now) t ts in
      ⊎_elim
      (λ here. ⊎_elim (λ e. inl e)
      (λ h. inr (h.0, (let rest = sum_falls (task_cost now) (task_cost m) (task_falls (omega (arith, h.0))) ts in omega (arith, new, old, rest, h.1))))
      (task_case found t here))
      (λ h. inr (h.0, (let first = task_falls (omega (arith, h.0)) t in omega (arith, new, old, first, h.1))))
      (tasks_case ts (task_sooner now found t) is)

  -- ---- flushers

  phase_falls : now ≤ m → (p : ReplayPhase) → phase_cost m p ≤ phase_cost now p
  phase_falls later (phase.Idle until kept) = let w = wait_falls later until in omega (arith, w)
  phase_falls later (phase.Taken n) = omega arith
  phase_falls later (phase.Scanning scan) = omega arith
  phase_falls later (phase.Flying n pages until) = let w = wait_falls later until in omega (arith, w)
  phase_falls later phase.Finished = omega arith

  phase_case : (found : Option ℕ) (p : ReplayPhase) → phase_sooner now found p ≡ Some m → (found ≡ Some m) ⊎ ((now < m) × (phase_cost m p + 1 ≤ phase_cost now p))
  phase_case found (phase.Idle until kept) is = ⊎_elim (λ e. inl e) (λ h. inr (h.0, (let w = wait_ends until h.0 h.1 in omega (arith, w)))) (sooner_case now found until m is)
  phase_case found (phase.Taken n) is = inl is
  phase_case found (phase.Scanning scan) is = inl is
  phase_case found (phase.Flying n pages until) is = ⊎_elim (λ e. inl e) (λ h. inr (h.0, (let w = wait_ends until h.0 h.1 in omega (arith, w)))) (sooner_case now found until m is)
  phase_case found phase.Finished is = inl is

  flushers_case : (fs : List Flusher) (found : Option ℕ) → flushers_sooner now found fs ≡ Some m
      → (found ≡ Some m) ⊎ ((now < m) × (sum_by (flusher_cost m) fs + 1 ≤ sum_by (flusher_cost now) fs))
  unfolding flushers_sooner
  flushers_case [] found is = inl is
  flushers_case (f ∷ fs) found is =
      let new = sum_by-cons (flusher_cost m) f fs in
      let old = sum_by-cons (flusher_cost now) f fs in
      ⊎_elim
      (λ here. ⊎_elim (λ e. inl e)
      (λ h. inr (h.0, (let rest = sum_falls (flusher_cost now) (flusher_cost m) (λ g. phase_falls (omega (arith, h.0)) g.phase) fs in omega (arith, new, old, rest, h.1))))
      (phase_case found f.phase here))
      (λ h. inr (h.0, (let first = phase_falls (omega (arith, h.0)) f.phase in omega (arith, new, old, first, h.1))))
      (flushers_case fs (phase_sooner now found f.phase) is)

-- ---- the clock

-- no cost rises with the moment
pub later_falls : (s : State) (m : ℕ) → s.now ≤ m → sum_by (task_cost m) s.tasks + sum_by (flusher_cost m) s.flushers + timer_cost m s.timer ≤ parts_cost s + timer_cost s.now s.timer
later_falls s m later =
    let tasks = sum_falls (task_cost s.now) (task_cost m) (task_falls s.now m later) s.tasks in
    let flushers = sum_falls (flusher_cost s.now) (flusher_cost m) (λ f. phase_falls s.now m later f.phase) s.flushers in
    let timer = wait_falls s.now m later s.timer.next in
    omega (arith, tasks, flushers, timer)

pub clock_falls : (s : State) (m : ℕ) → next_moment s ≡ Some m → round_cost (at_moment (Some m) s) + 1 ≤ round_cost s
clock_falls s m is = by_drain (is_drained s) is
  where
    by_parts : flushers_sooner s.now (tasks_sooner s.now None s.tasks) s.flushers ≡ Some m → round_cost (at_moment (Some m) s) + 1 ≤ round_cost s
    by_parts is = ⊎_elim
        (λ here. ⊎_elim (λ e. absurd (cc e))
        (λ h.
        let later : s.now ≤ m = omega (arith, h.0) in
        let flushers = sum_falls (flusher_cost s.now) (flusher_cost m) (λ f. phase_falls s.now m later f.phase) s.flushers in
        let timer = wait_falls s.now m later s.timer.next in
        omega (arith, h.1, flushers, timer))
        (tasks_case s.now m s.tasks None here))
        (λ h.
        let later : s.now ≤ m = omega (arith, h.0) in
        let tasks = sum_falls (task_cost s.now) (task_cost m) (task_falls s.now m later) s.tasks in
        let timer = wait_falls s.now m later s.timer.next in
        omega (arith, h.1, tasks, timer))
        (flushers_case s.now m s.flushers (tasks_sooner s.now None s.tasks) is)

    by_drain : (b : Bool) → cond b (flushers_sooner s.now (tasks_sooner s.now None s.tasks) s.flushers)
        (sooner s.now (flushers_sooner s.now (tasks_sooner s.now None s.tasks) s.flushers) s.timer.next) ≡ Some m → round_cost (at_moment (Some m) s) + 1 ≤ round_cost s
    by_drain true is = by_parts is
    by_drain false is = ⊎_elim by_parts
        (λ h.
        let later : s.now ≤ m = omega (arith, h.0) in
        let tasks = sum_falls (task_cost s.now) (task_cost m) (task_falls s.now m later) s.tasks in
        let flushers = sum_falls (flusher_cost s.now) (flusher_cost m) (λ f. phase_falls s.now m later f.phase) s.flushers in
        let timer = wait_ends s.now m s.timer.next h.0 h.1 in
        omega (arith, tasks, flushers, timer))
        (sooner_case s.now (flushers_sooner s.now (tasks_sooner s.now None s.tasks) s.flushers) s.timer.next m is)

-- ---- no moment is ahead

-- The phase waits for no moment.
abbrev pub WaitsNot : (now : ℕ) (p : ReplayPhase) → Type 0
WaitsNot now (phase.Idle until kept) = ltb now until ≡ false
WaitsNot now (phase.Taken n) = Unit {0}
WaitsNot now (phase.Scanning scan) = Unit {0}
WaitsNot now (phase.Flying n pages until) = ltb now until ≡ false
WaitsNot now phase.Finished = Unit {0}

phase_none : (now : ℕ) (found : Option ℕ) (p : ReplayPhase) → phase_sooner now found p ≡ None → (found ≡ None) × WaitsNot now p
phase_none now found (phase.Idle until kept) is = sooner_none now found until is
phase_none now found (phase.Taken n) is = (is, tt)
phase_none now found (phase.Scanning scan) is = (is, tt)
phase_none now found (phase.Flying n pages until) is = sooner_none now found until is
phase_none now found phase.Finished is = (is, tt)

flushers_none : (now : ℕ) (fs : List Flusher) (found : Option ℕ) → flushers_sooner now found fs ≡ None
    → (found ≡ None) × ((k : ℕ) → WaitsNot now (get_or fs k no_flusher).phase)
unfolding flushers_sooner
flushers_none now [] found is = (is, λ k. tt)
flushers_none now (f ∷ fs) found is =
    let rest = flushers_none now fs (phase_sooner now found f.phase) is in
    let first = phase_none now found f.phase rest.0 in
    (first.0, λ k. by_place k first.1 rest.1)
  where
    by_place : (k : ℕ) → WaitsNot now f.phase → ((j : ℕ) → WaitsNot now (get_or fs j no_flusher).phase) → WaitsNot now (get_or (f ∷ fs) k no_flusher).phase
    by_place zero here more = here
    by_place (suc k) here more = more k

-- While tasks run the timer's moment has come, and no flusher waits.
pub clock_none : (s : State) → next_moment s ≡ None → (is_drained s ≡ false → ltb s.now s.timer.next ≡ false) × ((k : ℕ) → WaitsNot s.now (get_or s.flushers k no_flusher).phase)
clock_none s is = by_drain (is_drained s) refl is
  where
    by_drain : (b : Bool) → is_drained s ≡ b → cond b (flushers_sooner s.now (tasks_sooner s.now None s.tasks) s.flushers)
        (sooner s.now (flushers_sooner s.now (tasks_sooner s.now None s.tasks) s.flushers) s.timer.next) ≡ None
        → (is_drained s ≡ false → ltb s.now s.timer.next ≡ false) × ((k : ℕ) → WaitsNot s.now (get_or s.flushers k no_flusher).phase)
    by_drain true drained is = ((λ other. absurd (cc (sym drained ∙ other))), (flushers_none s.now s.flushers (tasks_sooner s.now None s.tasks) is).1)
    by_drain false other is =
        let last = sooner_none s.now (flushers_sooner s.now (tasks_sooner s.now None s.tasks) s.flushers) s.timer.next is in
        ((λ running. last.1), (flushers_none s.now s.flushers (tasks_sooner s.now None s.tasks) last.0).1)
