-- Lists that are cut, and CPUs by their numbers in such a list.
use Rattle.std.proofs.Common.{◌≡◌, ℕ, zero, suc, ◌≤◌, List, [], ◌∷◌, ◌++◌, map, length, get_or, drop, set, replicate, refl, sym, ◌∙◌, ap, append_assoc, length-append, length-drop, arith}
use Rattle.std.proofs.lemmas.List.{length-replicate, drop_all, drop-append-le, length_push, map_push}
use Rattle.wbt_replay_order.proofs.Common.{Entry, StepEntry, no_cpu, no_step, Cpu}
use Rattle.wbt_replay_cut.specs.Cut.{Told, of_others, cut_steps, renamed, cut_cpu, cut_cpus}

-- ---- a list that grows

pub longer : {A : Type 0} (n : ℕ) (xs : List A) (x : A) → n ≤ length xs → n ≤ length (xs ++ x ∷ [])
longer n xs x within = omega (arith, length_push xs x, within)

pub steps_grow : (told : Told) (xs : List StepEntry) (x : StepEntry) → told.steps ≤ length xs
    → cut_steps told xs ++ x ∷ [] ≡ cut_steps told (xs ++ x ∷ [])
steps_grow told xs x within =
    append_assoc (replicate told.steps no_step) (drop told.steps xs) (x ∷ [])
    ∙ ap (λ (ys : List StepEntry). replicate told.steps no_step ++ ys) (sym (drop-append-le told.steps xs (x ∷ []) within))

pub entries_grow : (n checks estimates : ℕ) (xs : List Entry) (e : Entry) → n ≤ length xs
    → map (renamed checks estimates) (drop n xs) ++ renamed checks estimates e ∷ [] ≡ map (renamed checks estimates) (drop n (xs ++ e ∷ []))
entries_grow n checks estimates xs e within =
    sym (map_push (renamed checks estimates) (drop n xs) e) ∙ ap (map (renamed checks estimates)) (sym (drop-append-le n xs (e ∷ []) within))

-- as many steps are counted
pub steps_stay : (told : Told) (xs : List StepEntry) → told.steps ≤ length xs → length (cut_steps told xs) ≡ length xs
steps_stay told xs within = omega (
  arith,
  length-append (replicate told.steps no_step) (drop told.steps xs),
  length-replicate told.steps no_step,
  length-drop told.steps xs,
  within,
)

-- ---- CPUs

-- there is nothing to cut of a CPU that isn't there
nothing_cut : (told : Told) (i : ℕ) → cut_cpu told i no_cpu ≡ no_cpu
nothing_cut told i =
    let entries = drop_all (told.entries i) no_cpu.entries (omega arith) in
    let checks = drop_all (told.checks i) no_cpu.checks (omega arith) in
    let estimates = drop_all (told.estimates i) no_cpu.estimates (omega arith) in
    λ t. record no_cpu { entries = map (renamed (told.checks i) (told.estimates i)) (entries t); checks = checks t; estimates = estimates t }

pub cut_at : (told : Told) (cs : List Cpu) (i : ℕ) → get_or (cut_cpus told cs) i no_cpu ≡ cut_cpu told i (get_or cs i no_cpu)
cut_at told [] i = sym (nothing_cut told i)
cut_at told (c ∷ cs) zero = refl
cut_at told (c ∷ cs) (suc i) = cut_at (of_others told) cs i

pub cut_set : (told : Told) (cs : List Cpu) (i : ℕ) (c : Cpu) → set (cut_cpus told cs) i (cut_cpu told i c) ≡ cut_cpus told (set cs i c)
cut_set told [] i c = refl
cut_set told (d ∷ cs) zero c = refl
cut_set told (d ∷ cs) (suc i) c = ap (λ (ds : List Cpu). cut_cpu told 0 d ∷ ds) (cut_set (of_others told) cs i c)

pub cpus_stay : (told : Told) (cs : List Cpu) → length (cut_cpus told cs) ≡ length cs
cpus_stay told [] = refl
cpus_stay told (c ∷ cs) = ap suc (cpus_stay (of_others told) cs)

-- what holds of each CPU and of the one that is set holds of each after
pub each_set : (P : ℕ → Cpu → Type 0) (cs : List Cpu) (i : ℕ) (c : Cpu) → ((j : ℕ) → P j (get_or cs j no_cpu)) → P i c
    → (j : ℕ) → P j (get_or (set cs i c) j no_cpu)
each_set P [] i c each here j = each j
each_set P (d ∷ cs) zero c each here zero = here
each_set P (d ∷ cs) zero c each here (suc j) = each (suc j)
each_set P (d ∷ cs) (suc i) c each here zero = each zero
each_set P (d ∷ cs) (suc i) c each here (suc j) = each_set (λ k. P (suc k)) cs i c (λ k. each (suc k)) here j
