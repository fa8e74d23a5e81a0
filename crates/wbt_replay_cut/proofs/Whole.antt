-- What is cut, and what stands.
use Rattle.std.proofs.Common.{◌≡◌, ℕ, ◌-◌, ◌≤◌, List, [], ◌∷◌, ◌++◌, map, length, get_or, drop, replicate, refl, sym, ◌∙◌, ap, ap₂, append-nil, get_or-drop, arith}
use Rattle.std.proofs.lemmas.List.{length-replicate, drop_all, drop_at}
use Rattle.wbt_replay_order.proofs.Common.{StepEntry, State, no_step, cpu_of, Cpu, forgotten}
use Rattle.wbt_replay_cut.specs.Cut.{Told, of_others, all_of, renamed, cut_cpu, cut_cpus, cut, IsWithin}
use Rattle.wbt_replay_moves.specs.Definition.Forget.{bare}
use Rattle.wbt_replay_cut.specs.Laws.{ForgottenIsCut, CpuStands, OthersStand}
use Rattle.wbt_replay_cut.proofs.Lists.{steps_stay, cut_at, cpus_stay}

-- ---- all is cut

nothing_left : {A : Type 0} (xs : List A) → drop (length xs) xs ≡ []
nothing_left xs = drop_all (length xs) xs (omega arith)

bare_cpu : (told : Told) (i : ℕ) (c : Cpu) → told.entries i ≡ length c.entries → told.checks i ≡ length c.checks
    → told.estimates i ≡ length c.estimates → cut_cpu told i c ≡ bare c
bare_cpu told i c entries checks estimates =
    let no_entries = ap (λ (n : ℕ). drop n c.entries) entries ∙ nothing_left c.entries in
    let no_checks = ap (λ (n : ℕ). drop n c.checks) checks ∙ nothing_left c.checks in
    let no_estimates = ap (λ (n : ℕ). drop n c.estimates) estimates ∙ nothing_left c.estimates in
    λ t. record c { entries = map (renamed (told.checks i) (told.estimates i)) (no_entries t); checks = no_checks t; estimates = no_estimates t }

bare_cpus : (s : State) (cs : List Cpu) → map bare cs ≡ cut_cpus (all_of (record s { cpus = cs })) cs
bare_cpus s [] = refl
bare_cpus s (c ∷ cs) =
    ap₂ (λ (d : Cpu) (ds : List Cpu). d ∷ ds) (sym (bare_cpu (all_of (record s { cpus = c ∷ cs })) 0 c refl refl refl)) (bare_cpus s cs)

no_steps : (xs : List StepEntry) → replicate (length xs) no_step ++ drop (length xs) xs ≡ replicate (length xs) no_step
no_steps xs = ap (λ (ys : List StepEntry). replicate (length xs) no_step ++ ys) (nothing_left xs) ∙ append-nil (replicate (length xs) no_step)

all_cut : (s : State) → forgotten s ≡ cut (all_of s) s
all_cut s =
    let steps = sym (no_steps s.steps) in
    let timer = sym (nothing_left s.timer.entries) in
    λ t. record s { steps = steps t; cpus = bare_cpus s s.cpus t; timer = record s.timer { entries = timer t } }

-- what was cut before is forgotten too
bare_before : (told : Told) (cs : List Cpu) → map bare (cut_cpus told cs) ≡ map bare cs
bare_before told [] = refl
bare_before told (c ∷ cs) = ap (λ (ds : List Cpu). bare c ∷ ds) (bare_before (of_others told) cs)

cut_before : (told : Told) (s : State) → IsWithin told s → forgotten (cut told s) ≡ forgotten s
cut_before told s w = λ t. record s {
  steps = replicate (steps_stay told s.steps w.steps t) no_step;
  cpus = bare_before told s.cpus t;
  timer = record s.timer { entries = [] };
}

pub forgotten_is_cut : ForgottenIsCut
forgotten_is_cut = λ s. record {
  first = all_cut s;
  again = λ told w. cut_before told s w ∙ all_cut s;
  within = record {
    steps = omega arith;
    cpus = λ i. record { entries = omega arith; checks = omega arith; estimates = omega arith };
    timer = omega arith;
  };
}

-- ---- what stands

named : {A : Type 0} (n place : ℕ) (xs ys : List A) (none : A) → ys ≡ drop n xs → n ≤ place → get_or ys (place - n) none ≡ get_or xs place none
named n place xs ys none is le =
    ap (λ (zs : List _). get_or zs (place - n) none) is
    ∙ (get_or-drop n xs (place - n) none ∙ ap (λ (k : ℕ). get_or xs k none) (omega (arith, le)))

cpu_stands : (told : Told) (s : State) (i : ℕ) → CpuStands told s i
cpu_stands told s i =
    let is = cut_at told s.cpus i in
    let old = cpu_of i s in
    record {
      others = ap (λ (c : Cpu). record c { entries = old.entries; checks = old.checks; estimates = old.estimates }) is;
      entries = ap (λ (c : Cpu). c.entries) is;
      checks = ap (λ (c : Cpu). c.checks) is;
      estimates = ap (λ (c : Cpu). c.estimates) is;
      check_named = λ place none le. named (told.checks i) place old.checks (cpu_of i (cut told s)).checks none (ap (λ (c : Cpu). c.checks) is) le;
      estimate_named = λ place none le.
          named (told.estimates i) place old.estimates (cpu_of i (cut told s)).estimates none (ap (λ (c : Cpu). c.estimates) is) le;
    }

pub others_stand : OthersStand
others_stand = λ told s w. record {
  others = refl;
  many_steps = steps_stay told s.steps w.steps;
  steps = drop_at (replicate told.steps no_step) (drop told.steps s.steps) told.steps (length-replicate told.steps no_step);
  many_cpus = cpus_stay told s.cpus;
  cpus = cpu_stands told s;
  timer_others = refl;
  timer = refl;
}
