-- Each part of a state that is the cut of another one: its steps, its CPUs and its timer; and the state, which is made of them.
use Rattle.std.proofs.Common.{◌≡◌, ℕ, ◌≤◌, List, [], ◌∷◌, ◌++◌, length, get_or, set, refl, sym, ◌∙◌, ap, ap₂, subst}
use Rattle.std.proofs.lemmas.List.{drop-append-le, length-drop}
use Rattle.wbt_replay_order.proofs.Common.{CheckEntry, Entry, EstEntry, StepEntry, TimerEntry, logged, checked, estimated, State, no_cpu, cpu_of, Cpu, Timer}
use Rattle.wbt_journal.specs.declared.entry.Entry.TheVariants as entry
use Rattle.wbt_replay_moves.specs.Definition.Timer.{timer_logged}
use Rattle.wbt_replay_cut.specs.Cut.{Told, cut_steps, renamed, cut_cpu, cut_cpus, cut_timer, cut, CpuIsWithin, IsWithin}
use Rattle.wbt_replay_cut.proofs.Lists.{longer, steps_grow, entries_grow, cut_at, cut_set, each_set}

-- ---- what is a cut of what

pub record CutSteps (told : Told) (xs ys : List StepEntry) : Type 0 where
  pub same : ys ≡ cut_steps told xs
  pub within : told.steps ≤ length xs

pub record CutCpu (told : Told) (i : ℕ) (c d : Cpu) : Type 0 where
  pub same : d ≡ cut_cpu told i c
  pub within : CpuIsWithin told i c

pub record CutCpus (told : Told) (cs ds : List Cpu) : Type 0 where
  pub same : ds ≡ cut_cpus told cs
  pub within : (i : ℕ) → CpuIsWithin told i (get_or cs i no_cpu)

pub record CutTimer (told : Told) (t r : Timer) : Type 0 where
  pub same : r ≡ cut_timer told t
  pub within : told.timer ≤ length t.entries

pub record IsCut (told : Told) (s u : State) : Type 0 where
  pub same : u ≡ cut told s
  pub within : IsWithin told s

-- what a function makes of a CPU's cut is the cut of what it makes of the CPU
abbrev pub KeepsCpu : (told : Told) (i : ℕ) (f : Cpu → Cpu) → Type 0
KeepsCpu told i f = (c : Cpu) → CpuIsWithin told i c → CutCpu told i (f c) (f (cut_cpu told i c))

-- and of a state's
abbrev pub Keeps : (told : Told) (f : State → State) → Type 0
Keeps told f = (s : State) → IsWithin told s → IsCut told (f s) (f (cut told s))

module _ (told : Told) where
  -- ---- a step, an entry of the timer

  pub pushed : {xs ys : List StepEntry} (x y : StepEntry) → y ≡ x → CutSteps told xs ys → CutSteps told (xs ++ x ∷ []) (ys ++ y ∷ [])
  pushed {xs} x y is h = record {
    same = ap₂ (λ (zs : List StepEntry) (z : StepEntry). zs ++ z ∷ []) h.same is ∙ steps_grow told xs x h.within;
    within = longer told.steps xs x h.within;
  }

  pub timer_grows : (e : TimerEntry) (t : Timer) → told.timer ≤ length t.entries → CutTimer told (timer_logged e t) (timer_logged e (cut_timer told t))
  timer_grows e t within = record {
    same = ap (λ (es : List TimerEntry). record t { entries = es }) (sym (drop-append-le told.timer t.entries (e ∷ []) within));
    within = longer told.timer t.entries e within;
  }

  -- ---- a CPU

  -- an entry that names neither a check nor an estimate
  pub logs : (i : ℕ) (e : Entry) → e ≡ renamed (told.checks i) (told.estimates i) e → KeepsCpu told i (logged e)
  logs i e is c within = record {
    same = ap (λ (es : List Entry). record (cut_cpu told i c) { entries = es })
        (ap (λ (f : Entry). (cut_cpu told i c).entries ++ f ∷ []) is
        ∙ entries_grow (told.entries i) (told.checks i) (told.estimates i) c.entries e within.entries);
    within = record { entries = longer (told.entries i) c.entries e within.entries; checks = within.checks; estimates = within.estimates };
  }

  pub checks : (i : ℕ) (check : CheckEntry) → KeepsCpu told i (checked check)
  checks i check c within = record {
    same =
        let e : Entry = entry.Check (length c.checks) in
        let entries = ap (λ (n : ℕ). (cut_cpu told i c).entries ++ entry.Check n ∷ []) (length-drop (told.checks i) c.checks)
        ∙ entries_grow (told.entries i) (told.checks i) (told.estimates i) c.entries e within.entries in
        let made = sym (drop-append-le (told.checks i) c.checks (check ∷ []) within.checks) in
        λ t. record (cut_cpu told i c) { entries = entries t; checks = made t };
    within = record {
      entries = longer (told.entries i) c.entries (entry.Check (length c.checks)) within.entries;
      checks = longer (told.checks i) c.checks check within.checks;
      estimates = within.estimates;
    };
  }

  pub publishes : (i : ℕ) (est : EstEntry) → KeepsCpu told i (estimated est)
  publishes i est c within = record {
    same =
        let e : Entry = entry.Est (length c.estimates) in
        let entries = ap (λ (n : ℕ). (cut_cpu told i c).entries ++ entry.Est n ∷ []) (length-drop (told.estimates i) c.estimates)
        ∙ entries_grow (told.entries i) (told.checks i) (told.estimates i) c.entries e within.entries in
        let made = sym (drop-append-le (told.estimates i) c.estimates (est ∷ []) within.estimates) in
        λ t. record (cut_cpu told i c) { entries = entries t; estimates = made t };
    within = record {
      entries = longer (told.entries i) c.entries (entry.Est (length c.estimates)) within.entries;
      checks = within.checks;
      estimates = longer (told.estimates i) c.estimates est within.estimates;
    };
  }

  -- none of its lists changes
  pub still : (i : ℕ) (c : Cpu) → CpuIsWithin told i c → CutCpu told i c (cut_cpu told i c)
  still i c within = record { same = refl; within = within }

  -- a CPU of a list becomes what such a function makes of it
  pub becomes : {cs ds : List Cpu} (i : ℕ) (f : Cpu → Cpu) → KeepsCpu told i f → CutCpus told cs ds
      → CutCpus told (set cs i (f (get_or cs i no_cpu))) (set ds i (f (get_or ds i no_cpu)))
  becomes {cs} {ds} i f keeps h =
      let c = get_or cs i no_cpu in
      let here = keeps c (h.within i) in
      record {
        same = ap (λ (es : List Cpu). set es i (f (get_or es i no_cpu))) h.same
            ∙ (ap (λ (d : Cpu). set (cut_cpus told cs) i (f d)) (cut_at told cs i)
            ∙ (ap (set (cut_cpus told cs) i) here.same ∙ cut_set told cs i (f c)));
        within = each_set (CpuIsWithin told) cs i (f c) h.within here.within;
      }

  -- ---- a state

  pub made : {s u : State} → CutSteps told s.steps u.steps → CutCpus told s.cpus u.cpus → CutTimer told s.timer u.timer
      → u ≡ record (cut told s) { steps = u.steps; cpus = u.cpus; timer = u.timer } → IsCut told s u
  made {s} {u} steps cpus timer others = record {
    same = others ∙ (λ t. record (cut told s) { steps = steps.same t; cpus = cpus.same t; timer = timer.same t });
    within = record { steps = steps.within; cpus = cpus.within; timer = timer.within };
  }

  -- a state, and its cut
  pub whole : (s : State) → IsWithin told s → IsCut told s (cut told s)
  whole s w = record { same = refl; within = w }

  -- what a function that keeps cuts makes of a state and its cut
  pub onto : (f : State → State) {s u : State} → Keeps told f → IsCut told s u → IsCut told (f s) (f u)
  onto f {s} {u} keeps h = record { same = ap f h.same ∙ (keeps s h.within).same; within = (keeps s h.within).within }

  -- what holds of a CPU's cut holds of the CPU in the cut state
  pub at : (s : State) (i : ℕ) (P : Cpu → Type 0) → P (cut_cpu told i (cpu_of i s)) → P (cpu_of i (cut told s))
  at s i P h = subst P (sym (cut_at told s.cpus i)) h

-- ---- the parts of a state, and of its cut

module _ (told : Told) (s : State) (w : IsWithin told s) where
  pub steps_of : CutSteps told s.steps (cut told s).steps
  steps_of = record { same = refl; within = w.steps }

  pub cpus_of : CutCpus told s.cpus (cut told s).cpus
  cpus_of = record { same = refl; within = w.cpus }

  pub timer_of : CutTimer told s.timer (cut told s).timer
  timer_of = record { same = refl; within = w.timer }
