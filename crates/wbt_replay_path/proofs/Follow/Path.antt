-- One list of steps and grants serves the whole run: its prefixes lead to the run's states.
use Rattle.std.proofs.Common.{◌≡◌, ℕ, zero, suc, ◌+◌, ◌-◌, ◌<◌, ◌≤◌, true, false, List, [], ◌∷◌, ◌++◌, length, take, All, Option, Some, None, length-append, refl, sym, ◌∙◌, ap, subst, arith, ⊎_elim}
use Rattle.std.proofs.lemmas.Bool.{cases_lt, cases_Bool}
use Rattle.std.proofs.lemmas.Bool.Decides.{nat_tests}
use Rattle.std.proofs.lemmas.List.{take-append-le, take_all, append_assoc, append-nil}
use Rattle.wbt_replay_order.proofs.Common.{Trace, Count, Fold, Reading, Setting, IsSetting, grant, AreAllowed, Rule, always_holds, greatest_reading, StepEntry, State, cpu_of, task_of, Cpu, ReplayTurn, Todo, is_strict, group_of, entries_of, is_decide, readings_told, AreAmong, FoldsBehind, KeepsLoads, IsFollowed, setting_of, writer_at, opening, advance, is_ended, state_at, part_used, IsTaskOn, Suits, AreLoads, turn_readings, Follows, Moves, silently, by, grants, Ranges, IsTurnOf}
use Rattle.std.specs.List.{list_any}
use Rattle.wbt_counter.specs.Through.{fits}
use Rattle.wbt_grant.specs.State as throttle
use Rattle.wbt_grant.specs.State.{writer_in as record_of}
use Rattle.wbt_grant.specs.Kinds.{Step, after, run}
use Rattle.wbt_strict.specs.Rule.{IsStrict, AreStrict}
use Rattle.wbt_replay_moves.specs.declared.todo.Silent.TheVariants as silent
use Rattle.wbt_replay_moves.specs.declared.todo.Todo.TheVariants as todo
use Rattle.wbt_replay_order.specs.Claims.Path.{tells, turn_loads, IsChecked, Shows, IsPath}
use Rattle.wbt_replay_order.specs.Kept.Following.{is_grant, HasSmallReading, Leads}
use Rattle.wbt_replay_order.proofs.Frames.Others.{some_item}
use Rattle.wbt_replay_path.proofs.Follow.Owned.{own_is, count_is}
use Rattle.wbt_replay_order.proofs.Growth.Runs.{run_none, run_last, run_stays}

-- ---- lists of steps with more at the end

run_append : (setting : Setting) (steps more : List Step) (t : throttle.State) → run setting (steps ++ more) t ≡ run setting more (run setting steps t)
run_append setting [] more t = refl
run_append setting (x ∷ steps) more t = run_append setting steps more (after setting x t)

allowed_append : (setting : Setting) (steps more : List Step) (t : throttle.State) → AreAllowed setting steps t → AreAllowed setting more (run setting steps t)
    → AreAllowed setting (steps ++ more) t
allowed_append setting [] more t all here = here
allowed_append setting (x ∷ steps) more t all here = (all.0, allowed_append setting steps more (after setting x t) all.1 here)

told_append : (setting : Setting) (steps more : List Step) (t : throttle.State)
    → tells setting (steps ++ more) t ≡ tells setting steps t ++ tells setting more (run setting steps t)
told_append setting [] more t = refl
told_append setting (x ∷ steps) more t =
    ap (λ (l : List StepEntry). entries_of setting x t ++ l) (told_append setting steps more (after setting x t))
    ∙ sym (append_assoc (entries_of setting x t) (tells setting steps (after setting x t)) (tells setting more (run setting steps (after setting x t))))

-- ---- what is claimed of a state that follows

-- before its decision a check has loaded all
abbrev last_items : List Todo
last_items = todo.Silent silent.Decide ∷ todo.Silent silent.End ∷ []

last_loads : (context group : ℕ) (turn : ReplayTurn) (older : List Reading) → turn_readings context group turn last_items older ≡ turn_loads context group turn ++ older
last_loads context zero turn older = refl
last_loads context (suc cgroup) turn older = refl

strict_append : (setting : Setting) (k most : ℕ) (steps more : List Step) (t : throttle.State) → AreStrict setting k most steps t
    → AreStrict setting k most more (run setting steps t) → AreStrict setting k most (steps ++ more) t
strict_append setting k most [] more t all here = here
strict_append setting k most (x ∷ steps) more t all here = (all.0, strict_append setting k most steps more (after setting x t) all.1 here)

-- a step that is no grant
plain_is_strict : (setting : Setting) (k most : ℕ) (step : Step) (t : throttle.State) → is_grant step ≡ false → IsStrict setting k most step t
plain_is_strict setting k most (grant w pages) t plain = absurd (cc plain)
plain_is_strict setting k most other t plain = tt

-- a reading that is small enough for less is so for more
fits_more : (less more : ℕ) (reading : Option ℕ) → less ≤ more → fits less reading ≡ true → fits more reading ≡ true
fits_more less more None small here = here
fits_more less more (Some n) small here = grind (arith, nat_tests)

-- These grants are of small readings, in contexts of strict devices, for any part that is at least what the CPUs' checks use.
abbrev pub GrantsSmall : (trace : Trace) (setting : Setting) (cpus : List Cpu) (steps : List Step) (t : throttle.State) → Type 0
GrantsSmall trace setting cpus steps t = (k part : ℕ) → is_strict trace k ≡ true → part_used trace k cpus ≤ part
    → AreStrict setting k (greatest_reading part setting.cpus) steps t

module _ (trace : Trace) (setting : Setting) (suits : Suits trace setting) (is : IsSetting setting) where
  granted_small : (cpus : List Cpu) (w pages : ℕ) (t : throttle.State) → HasSmallReading trace setting cpus w t → GrantsSmall trace setting cpus (grant w pages ∷ []) t
  granted_small cpus w pages t small k part strict used = (
    λ its.
        let reading : Option ℕ = (throttle.writer_at setting t.cpu w).context_reading in
        let here : fits (greatest_reading (part_used trace k cpus) setting.cpus) reading ≡ true =
        subst (λ (n : ℕ). fits (greatest_reading (part_used trace n cpus) setting.cpus) reading ≡ true) its (small (ap (is_strict trace) its ∙ strict)) in
        fits_more (greatest_reading (part_used trace k cpus) setting.cpus) (greatest_reading part setting.cpus) reading (omega (arith, used)) here,
    tt,
  )

  -- these steps lead to the state, by grants of small readings besides
  leads_on : (s s2 : State) (steps : List Step) → Leads trace setting s steps → Moves trace setting s.steps s2 (run setting steps (throttle.opening setting))
      → (more : List Step) × Leads trace setting s2 (steps ++ more) × GrantsSmall trace setting s2.cpus more (run setting steps (throttle.opening setting))
  leads_on s s2 steps h (silently same follows) = (
    [],
    subst (Leads trace setting s2) (sym (append-nil steps)) (record { allowed = h.allowed; told = h.told ∙ sym same; follows = follows }),
    λ k part strict used. tt,
  )
  leads_on s s2 steps h (by step plain allowed more follows) =
      let start : throttle.State = throttle.opening setting in
      let here : throttle.State = run setting steps start in (
        step ∷ [],
        record {
          allowed = allowed_append setting steps (step ∷ []) start h.allowed (allowed, tt);
          told = told_append setting steps (step ∷ []) start
              ∙ (ap (λ (l : List StepEntry). l ++ (entries_of setting step here ++ [])) h.told
              ∙ (ap (λ (l : List StepEntry). s.steps ++ l) (append-nil (entries_of setting step here)) ∙ sym more));
          follows = subst (Follows trace setting s2) (sym (run_append setting steps (step ∷ []) start)) follows;
        },
        λ k part strict used. (plain_is_strict setting k (greatest_reading part setting.cpus) step here plain, tt),
      )
  leads_on s s2 steps h (grants w pages allowed same small follows) =
      let start : throttle.State = throttle.opening setting in
      let here : throttle.State = run setting steps start in
      let step : Step = grant w pages in (
        step ∷ [],
        record {
          allowed = allowed_append setting steps (step ∷ []) start h.allowed (allowed, tt);
          told = told_append setting steps (step ∷ []) start ∙ (append-nil (tells setting steps start) ∙ (h.told ∙ sym same));
          follows = subst (Follows trace setting s2) (sym (run_append setting steps (step ∷ []) start)) follows;
        },
        granted_small s2.cpus w pages here small,
      )

  module _ (s : State) (t : throttle.State) (ranges : Ranges trace setting s) (h : Follows trace setting s t) where
    checked_here : (i w : ℕ) → i < trace.cpus → IsChecked trace s i w → setting.seat w ≡ i
    checked_here i w less c =
        let on : IsTurnOf trace i (cpu_of i s).turn.whose = ranges.turn_is i less (some_item (cpu_of i s).todo c.decides) in
        let its : IsTaskOn trace i (writer_at trace w).task = subst (IsTurnOf trace i) c.task on in
        suits.seat w ∙ its.cpu_is

module _ (trace : Trace) (suits : Suits trace (setting_of trace)) (is : IsSetting (setting_of trace)) where
  pub shown : (s : State) (t : throttle.State) → Ranges trace (setting_of trace) s → Follows trace (setting_of trace) s t → Shows trace s t
  shown s t ranges h = record {
    book = h.book;
    marks = h.marks;
    versions = λ x. h.versions x ∙ ap (λ (q : Count). q.version) (sym (count_is x s));
    values = λ x. h.values x ∙ ap (λ (q : Count). q.value) (sym (count_is x s));
    own = λ i x less. (h.cpu i less).own_is x ∙ sym (own_is x (cpu_of i s));
    events = λ i less. (h.cpu i less).events;
    folds = λ i less. (h.cpu i less).folds;
    founds = λ i less. (h.cpu i less).founds;
    readings = λ i less. (h.cpu i less).readings;
    triples = λ i less. (h.cpu i less).triples;
    behind = λ i task rest less turn next.
        let k : ℕ = (task_of task s).context in
        let q = (h.cpu i less).check task turn (ap (list_any is_decide) next) in
        let over : rest ≡ todo.Silent silent.End ∷ [] = subst (AreLoads k (group_of trace k)) next q.loads in
        let items : (cpu_of i s).todo ≡ last_items = next ∙ ap (λ (l : List Todo). todo.Silent silent.Decide ∷ l) over in
        subst (λ (l : List Fold). All (FoldsBehind l) (turn_loads k (group_of trace k) (cpu_of i s).turn)) (h.cpu i less).folds
        (subst (λ (l : List Reading). All (FoldsBehind (t.cpu i).folds) l) (last_loads k (group_of trace k) (cpu_of i s).turn [] ∙ append-nil (turn_loads k (group_of trace k) (cpu_of i s).turn))
        (subst (λ (l : List Todo). All (FoldsBehind (t.cpu i).folds) (turn_readings k (group_of trace k) (cpu_of i s).turn l [])) items q.behind));
    loaded = λ i task rest less turn next.
        let k : ℕ = (task_of task s).context in
        let q = (h.cpu i less).check task turn (ap (list_any is_decide) next) in
        let over : rest ≡ todo.Silent silent.End ∷ [] = subst (AreLoads k (group_of trace k)) next q.loads in
        let items : (cpu_of i s).todo ≡ last_items = next ∙ ap (λ (l : List Todo). todo.Silent silent.Decide ∷ l) over in
        let older : List Reading = readings_told [] (cpu_of i s).checks in
        subst (λ (l : List Reading). AreAmong l (t.cpu i).readings) (last_loads k (group_of trace k) (cpu_of i s).turn older)
        (subst (λ (l : List Todo). AreAmong (turn_readings k (group_of trace k) (cpu_of i s).turn l older) (t.cpu i).readings) items q.readings);
    published = h.published;
    sequences = λ d less. ap (λ q. q.1) (h.peak d less);
    peak = λ d less. ap (λ q. q.0) (h.peak d less);
    lines = h.lines;
    left = λ w less free. (h.cpu ((setting_of trace).seat w) (omega (arith, is.seats w less, suits.cpus))).left w less refl free;
    kept = λ i w less known c.
        let check = (h.cpu i less).check (writer_at trace w).task c.task c.decides in
        let seat : (setting_of trace).seat w ≡ i = checked_here trace (setting_of trace) suits is s t ranges h i w less c in
        subst (λ (n : ℕ). KeepsLoads (cpu_of i s).turn (cpu_of i s).todo (group_of trace (writer_at trace w).context) (record_of (setting_of trace) w (t.cpu n).writers)) (sym seat)
        (subst (λ (k : ℕ). KeepsLoads (cpu_of i s).turn (cpu_of i s).todo (group_of trace k) (record_of (setting_of trace) w (t.cpu i).writers)) c.context
        (check.keeps w known refl (sym c.context)));
  }

  -- An invariant of the run that gives the ranges, and by which each move follows.
  module _ (Q : State → Type 0) (ranges : (s : State) → Q s → Ranges trace (setting_of trace) s) (first : Q (opening trace))
      (keeps : (s : State) → is_ended s ≡ false → Q s → Q (advance trace s))
      (advances : (s : State) (t : throttle.State) → Q s → Rule (setting_of trace) t → Follows trace (setting_of trace) s t
      → Moves trace (setting_of trace) s.steps (advance trace s) t)
      (start : Follows trace (setting_of trace) (opening trace) (throttle.opening (setting_of trace))) where
    -- after so many moves one list leads to this state, and each earlier one has a prefix of it
    record Through (n : ℕ) : Type 0 where
      steps : List Step
      kept : Q (state_at trace n)
      small : (k part : ℕ) → is_strict trace k ≡ true → ((m : ℕ) → m ≤ n → part_used trace k (state_at trace m).cpus ≤ part)
          → AreStrict (setting_of trace) k (greatest_reading part (setting_of trace).cpus) steps (throttle.opening (setting_of trace))
      here : Leads trace (setting_of trace) (state_at trace n) steps
      before : (m : ℕ) → m ≤ n → (k : ℕ) × (k ≤ length steps) × Leads trace (setting_of trace) (state_at trace m) (take k steps)

    grown : (n : ℕ) (s2 : State) → state_at trace (suc n) ≡ s2 → (h : Through n) → Q s2 → (more : List Step) → Leads trace (setting_of trace) s2 (h.steps ++ more)
        → GrantsSmall trace (setting_of trace) s2.cpus more (run (setting_of trace) h.steps (throttle.opening (setting_of trace))) → Through (suc n)
    grown n s2 same h kept more here small = record {
      steps = h.steps ++ more;
      kept = subst Q (sym same) kept;
      small = λ k part strict all.
          strict_append (setting_of trace) k (greatest_reading part (setting_of trace).cpus) h.steps more (throttle.opening (setting_of trace))
          (h.small k part strict (λ m inside. all m (omega (arith, inside))))
          (small k part strict (subst (λ (s : State). part_used trace k s.cpus ≤ part) same (all (suc n) (omega arith))));
      here = now;
      before = λ m inside. ⊎_elim
          (λ earlier.
          let old = h.before m (omega (arith, earlier)) in (
            old.0,
            omega (arith, old.1, length-append h.steps more),
            subst (Leads trace (setting_of trace) (state_at trace m)) (sym (take-append-le old.0 h.steps more old.1)) old.2,
          ))
          (λ last.
          let m_is : m ≡ suc n = omega (arith, inside, last) in (
            length (h.steps ++ more),
            omega arith,
            subst (λ (k : ℕ). Leads trace (setting_of trace) (state_at trace k) (take (length (h.steps ++ more)) (h.steps ++ more))) (sym m_is)
                (subst (Leads trace (setting_of trace) (state_at trace (suc n))) (sym (take_all (length (h.steps ++ more)) (h.steps ++ more) (omega arith))) now),
          ))
          (cases_lt m (suc n));
    }
      where
        now : Leads trace (setting_of trace) (state_at trace (suc n)) (h.steps ++ more)
        now = subst (λ (s : State). Leads trace (setting_of trace) s (h.steps ++ more)) (sym same) here

    no_steps : (opening trace).steps ≡ []
    unfolding opening
    no_steps = refl

    first_leads : Leads trace (setting_of trace) (state_at trace 0) []
    first_leads = subst (λ (s : State). Leads trace (setting_of trace) s []) (sym (run_none trace 0 (opening trace) refl))
        (record { allowed = tt; told = sym no_steps; follows = start })

    through : (n : ℕ) → Through n
    through zero = record {
      steps = [];
      kept = subst Q (sym (run_none trace 0 (opening trace) refl)) first;
      small = λ k part strict all. tt;
      here = first_leads;
      before = λ m inside.
          let m_is : m ≡ 0 = omega (arith, inside) in
          (0, omega arith, subst (λ (k : ℕ). Leads trace (setting_of trace) (state_at trace k) []) (sym m_is) first_leads);
    }
    through (suc n) = let h = through n in ⊎_elim
        (λ over. grown n (state_at trace n) (run_stays trace n (suc n) (opening trace) (omega arith) over) h h.kept []
        (subst (Leads trace (setting_of trace) (state_at trace n)) (sym (append-nil h.steps)) h.here) (λ k part strict used. tt))
        (λ going.
        let rule : Rule (setting_of trace) (run (setting_of trace) h.steps (throttle.opening (setting_of trace))) = (always_holds (setting_of trace) h.steps is h.here.allowed).rule in
        let more = leads_on trace (setting_of trace) suits is (state_at trace n) (advance trace (state_at trace n)) h.steps h.here (advances (state_at trace n) _ h.kept rule h.here.follows) in
        grown n (advance trace (state_at trace n)) (run_last trace n (suc n) (opening trace) (omega arith) going) h (keeps (state_at trace n) going h.kept) more.0 more.1 more.2)
        (cases_Bool (is_ended (state_at trace n)))

    path_of : (s : State) (steps : List Step) → Q s → Leads trace (setting_of trace) s steps → IsPath trace s steps
    path_of s steps kept h = record { allowed = h.allowed; told = h.told; shows = shown s _ (ranges s kept) h.follows }

    -- The run is followed, where it has ended after so many moves.
    module _ (last : ℕ) (over : is_ended (state_at trace last) ≡ true) where
      stays_over : (j n : ℕ) → n ≡ j + last → state_at trace n ≡ state_at trace last
      stays_over zero n sum = let same : n ≡ last = omega (arith, sum) in ap (state_at trace) same
      stays_over (suc j) n sum =
          let behind = stays_over j (j + last) refl in
          run_stays trace (j + last) n (opening trace) (omega (arith, sum)) (ap is_ended behind ∙ over) ∙ behind

      pub followed_until : IsFollowed trace
      followed_until =
          let all = through last in
          record {
            steps = all.steps;
            strict = λ k part strict used.
                subst (λ (n : ℕ). AreStrict (setting_of trace) k (greatest_reading part n) all.steps (throttle.opening (setting_of trace))) suits.cpus
                (all.small k part strict (λ m inside. used m));
            made = λ m. ⊎_elim
                (λ early. let h = all.before m (omega (arith, early)) in (h.0, path_of (state_at trace m) (take h.0 all.steps) (through m).kept h.2))
                (λ late.
                let same : state_at trace m ≡ state_at trace last = stays_over (m - last) m (omega (arith, late)) in (
                  length all.steps,
                  subst (λ (l : List Step). IsPath trace (state_at trace m) l) (sym (take_all (length all.steps) all.steps (omega arith)))
                      (subst (λ (s : State). IsPath trace s all.steps) (sym same) (path_of (state_at trace last) all.steps all.kept all.here)),
                ))
                (cases_lt m last);
          }
