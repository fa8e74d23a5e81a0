-- How many flushers are at work, where one of them changes.
use Rattle.std.proofs.Common.{◌≡◌, ◌≢◌, ℕ, ◌+◌, ◌<◌, Bool, true, false, cond, not, eqb, List, [], ◌∷◌, length, get_or, All, refl, sym, ◌∙◌, ap, subst, arith, ne_eqb, eq-eqb}
use Rattle.std.proofs.Math.ListN.{set}
use Rattle.std.specs.List.{sum_by, count_by}
use Rattle.std.proofs.lemmas.List.{get_or-set_same, get_or-set_other}
use mathlib.Core.Logic.{dite}
use native.Mathlib.Decide.{ℕ_discrete}
use Rattle.wbt_replay_order.proofs.Common.{Trace, no_cpu, no_flusher, flusher_cpu, Cpu, Flusher, ReplayJob, first_cpu, is_finished, Facts, IsFlusherOn, IsJobOn, AreCpus, is_at_work, working_on}
use Rattle.wbt_replay_moves.specs.declared.state.ReplayJob.TheVariants as job
use Rattle.wbt_replay_order.specs.Kept.Facts.{is_job_of}
use Rattle.wbt_replay_order.proofs.Lists.Numbered.{one_if, all_rest, count_cons, sum_but}

abbrev pub works : Flusher → Bool
works f = not (is_finished f.phase)

-- so many jobs, where the flusher has some of them
some_of : (b : Bool) (n : ℕ) → ℕ
some_of b n = cond b n 0

module _ (f : ℕ) (x : Flusher) (fs : List Flusher) (there : f < length fs) where
  -- a job of another flusher
  job_other : (g : ℕ) → g ≢ f → is_at_work (set fs f x) (job.Flusher g) ≡ is_at_work fs (job.Flusher g)
  job_other g n = ap works (get_or-set_other fs f g x no_flusher n)

  job_same : is_at_work (set fs f x) (job.Flusher f) ≡ works x
  job_same = ap works (get_or-set_same fs f x no_flusher there)

  one_job : (j : ReplayJob) → one_if (is_at_work (set fs f x) j) + cond (works (get_or fs f no_flusher)) (one_if (is_job_of f j)) 0
      ≡ one_if (is_at_work fs j) + cond (works x) (one_if (is_job_of f j)) 0
  one_job job.Writer = by_flags (works (get_or fs f no_flusher)) (works x)
    where
      by_flags : (a b : Bool) → 0 + cond a (one_if false) 0 ≡ 0 + cond b (one_if false) 0
      by_flags true true = refl
      by_flags true false = refl
      by_flags false true = refl
      by_flags false false = refl
  one_job (job.Flusher g) = dite (ℕ_discrete g f) same other
    where
      whole : (a b : Bool) → one_if a + cond b 1 0 ≡ one_if b + cond a 1 0
      whole true true = refl
      whole true false = refl
      whole false true = refl
      whole false false = refl

      none : (n : ℕ) (a b : Bool) → n + cond a 0 0 ≡ n + cond b 0 0
      none n true true = refl
      none n true false = refl
      none n false true = refl
      none n false false = refl

      same : g ≡ f → one_if (is_at_work (set fs f x) (job.Flusher g)) + cond (works (get_or fs f no_flusher)) (one_if (eqb g f)) 0
          ≡ one_if (is_at_work fs (job.Flusher g)) + cond (works x) (one_if (eqb g f)) 0
      same e = subst (λ (h : ℕ). one_if (is_at_work (set fs f x) (job.Flusher h)) + cond (works (get_or fs f no_flusher)) (one_if (eqb h f)) 0
          ≡ one_if (is_at_work fs (job.Flusher h)) + cond (works x) (one_if (eqb h f)) 0) (sym e)
          (subst (λ (b : Bool). one_if (is_at_work (set fs f x) (job.Flusher f)) + cond (works (get_or fs f no_flusher)) (one_if b) 0 ≡ one_if (is_at_work fs (job.Flusher f)) + cond (works x) (one_if b) 0)
          (sym (eq-eqb f f refl))
          (subst (λ (b : Bool). one_if b + cond (works (get_or fs f no_flusher)) 1 0 ≡ one_if (works (get_or fs f no_flusher)) + cond (works x) 1 0) (sym job_same)
          (whole (works x) (works (get_or fs f no_flusher)))))

      other : g ≢ f → one_if (is_at_work (set fs f x) (job.Flusher g)) + cond (works (get_or fs f no_flusher)) (one_if (eqb g f)) 0
          ≡ one_if (is_at_work fs (job.Flusher g)) + cond (works x) (one_if (eqb g f)) 0
      other n = subst (λ (b : Bool). one_if (is_at_work (set fs f x) (job.Flusher g)) + cond (works (get_or fs f no_flusher)) (one_if b) 0 ≡ one_if (is_at_work fs (job.Flusher g)) + cond (works x) (one_if b) 0)
          (sym (ne_eqb g f n))
          (subst (λ (b : Bool). one_if b + cond (works (get_or fs f no_flusher)) 0 0 ≡ one_if (is_at_work fs (job.Flusher g)) + cond (works x) 0 0) (sym (job_other g n))
          (none (one_if (is_at_work fs (job.Flusher g))) (works (get_or fs f no_flusher)) (works x)))

  add_up : (a b : Bool) (n m here there' rest rest' : ℕ) → here + cond a n 0 ≡ there' + cond b n 0 → rest + cond a m 0 ≡ rest' + cond b m 0
      → (here + rest) + cond a (n + m) 0 ≡ (there' + rest') + cond b (n + m) 0
  add_up true true n m here there' rest rest' p q = omega (arith, p, q)
  add_up true false n m here there' rest rest' p q = omega (arith, p, q)
  add_up false true n m here there' rest rest' p q = omega (arith, p, q)
  add_up false false n m here there' rest rest' p q = omega (arith, p, q)

  jobs_count : (js : List ReplayJob) → count_by (is_at_work (set fs f x)) js + cond (works (get_or fs f no_flusher)) (count_by (is_job_of f) js) 0
      ≡ count_by (is_at_work fs) js + cond (works x) (count_by (is_job_of f) js) 0
  jobs_count [] = by_flags (works (get_or fs f no_flusher)) (works x)
    where
      by_flags : (a b : Bool) → 0 + cond a 0 0 ≡ 0 + cond b 0 0
      by_flags true true = refl
      by_flags true false = refl
      by_flags false true = refl
      by_flags false false = refl
  jobs_count (j ∷ js) =
      let rest = jobs_count js in
      let a = works (get_or fs f no_flusher) in
      let b = works x in
      let sum = add_up a b (one_if (is_job_of f j)) (count_by (is_job_of f) js) (one_if (is_at_work (set fs f x) j)) (one_if (is_at_work fs j))
      (count_by (is_at_work (set fs f x)) js) (count_by (is_at_work fs) js) (one_job j) rest in
      subst (λ (n : ℕ). n + cond a (count_by (is_job_of f) (j ∷ js)) 0 ≡ count_by (is_at_work fs) (j ∷ js) + cond b (count_by (is_job_of f) (j ∷ js)) 0)
      (sym (count_cons (is_at_work (set fs f x)) j js))
      (subst (λ (n : ℕ). (one_if (is_at_work (set fs f x) j) + count_by (is_at_work (set fs f x)) js) + cond a (count_by (is_job_of f) (j ∷ js)) 0 ≡ n + cond b (count_by (is_job_of f) (j ∷ js)) 0)
      (sym (count_cons (is_at_work fs) j js))
      (subst (λ (n : ℕ). (one_if (is_at_work (set fs f x) j) + count_by (is_at_work (set fs f x)) js) + cond a n 0 ≡ (one_if (is_at_work fs j) + count_by (is_at_work fs) js) + cond b n 0)
      (sym (count_cons (is_job_of f) j js)) sum))

  -- Another CPU has no such job.
  jobs_same : (trace : Trace) (i j : ℕ) → flusher_cpu trace f ≡ i → j ≢ i → (js : List ReplayJob) → All (IsJobOn trace j) js → count_by (is_at_work (set fs f x)) js ≡ count_by (is_at_work fs) js
  jobs_same trace i j on n [] all = refl
  jobs_same trace i j on n (job.Writer ∷ js) all =
      let rest = jobs_same trace i j on n js (all_rest (IsJobOn trace j) (job.Writer ∷ js) job.Writer js refl all).1 in
      omega (arith, rest, count_cons (is_at_work (set fs f x)) job.Writer js, count_cons (is_at_work fs) job.Writer js)
  jobs_same trace i j on n (job.Flusher g ∷ js) all =
      let parts = all_rest (IsJobOn trace j) (job.Flusher g ∷ js) (job.Flusher g) js refl all in
      let rest = jobs_same trace i j on n js parts.1 in
      let here : is_at_work (set fs f x) (job.Flusher g) ≡ is_at_work fs (job.Flusher g) = job_other g (λ e. n (sym parts.0.cpu_is ∙ (ap (flusher_cpu trace) e ∙ on))) in
      let same : one_if (is_at_work (set fs f x) (job.Flusher g)) ≡ one_if (is_at_work fs (job.Flusher g)) = ap one_if here in
      omega (arith, rest, same, count_cons (is_at_work (set fs f x)) (job.Flusher g) js, count_cons (is_at_work fs) (job.Flusher g) js)

pub working_set : (trace : Trace) (facts : Facts trace) (steps now i f : ℕ) (x : Flusher) (fs : List Flusher) (cs : List Cpu) → f < length fs → IsFlusherOn trace i f → i < trace.cpus
    → AreCpus trace steps now cs → (get_or cs i no_cpu).stopped ≡ false
    → sum_by (working_on (set fs f x)) cs + one_if (works (get_or fs f no_flusher)) ≡ sum_by (working_on fs) cs + one_if (works x)
working_set trace facts steps now i f x fs cs there on less cpus live =
    let at : i < length cs = omega (arith, cpus.many, less) in
    let apart = sum_but (working_on (set fs f x)) (working_on fs) cs i no_cpu at others in
    let here = own in
    omega (arith, apart, here)
  where
    others : (j : ℕ) → j ≢ i → j < length cs → working_on (set fs f x) (get_or cs j no_cpu) ≡ working_on fs (get_or cs j no_cpu)
    others j n l =
        let is = (cpus.each j (omega (arith, l, cpus.many))).jobs in
        let all : All (IsJobOn trace j) (get_or cs j no_cpu).jobs = subst (All (IsJobOn trace j)) (sym is) (facts.jobs j) in
        ap (λ (n : ℕ). cond (get_or cs j no_cpu).stopped 0 n) (jobs_same f x fs there trace i j on.cpu_is n (get_or cs j no_cpu).jobs all)

    whole : (a b : Bool) (n m : ℕ) → n + cond a 1 0 ≡ m + cond b 1 0 → n + one_if a ≡ m + one_if b
    whole a b n m p = p

    own : working_on (set fs f x) (get_or cs i no_cpu) + one_if (works (get_or fs f no_flusher)) ≡ working_on fs (get_or cs i no_cpu) + one_if (works x)
    own =
        let c : Cpu = get_or cs i no_cpu in
        let is = (cpus.each i less).jobs in
        let once : count_by (is_job_of f) c.jobs ≡ 1 = ap (count_by (is_job_of f)) is ∙ (ap (λ (k : ℕ). count_by (is_job_of f) (first_cpu trace k).jobs) (sym on.cpu_is) ∙ facts.job_once f on.there) in
        let counts = jobs_count f x fs there c.jobs in
        subst (λ (b : Bool). cond b 0 (count_by (is_at_work (set fs f x)) c.jobs) + one_if (works (get_or fs f no_flusher)) ≡ cond b 0 (count_by (is_at_work fs) c.jobs) + one_if (works x)) (sym live)
        (subst (λ (n : ℕ). count_by (is_at_work (set fs f x)) c.jobs + cond (works (get_or fs f no_flusher)) n 0 ≡ count_by (is_at_work fs) c.jobs + cond (works x) n 0) once counts)
