-- The jobs of the CPUs.
use Rattle.std.proofs.Common.{◌≡◌, ℕ, zero, suc, ◌+◌, ◌<◌, ◌≤◌, Bool, true, false, cond, eqb, List, [], ◌∷◌, ◌++◌, length, get_or, All, refl, sym, ◌∙◌, ap, subst, arith, eq-eqb, eqb-true, length-append, count_by, ne_eqb, ⊎_elim}
use Rattle.std.proofs.lemmas.Bool.{cases_lt}
use Rattle.std.proofs.lemmas.List.{get_or_append_left, get_or_past, get_or_push}
use Rattle.std.proofs.lemmas.List.Sums.{sum_by_push}
use Rattle.std.proofs.lemmas.List.Elements.{All-nil, All-cons, All-get_or}
use Rattle.wbt_replay_order.proofs.Common.{FlusherLine, Trace, tasks_from, IsJobOn, IsFlusherOn, flusher_cpu, ReplayJob}
use Rattle.wbt_replay_order.specs.Definition.Opening.{flushers_from, jobs_with}
use Rattle.wbt_replay_order.specs.Kept.Facts.{is_job_of}
use Rattle.wbt_replay_moves.specs.declared.state.ReplayJob.TheVariants as job
use Rattle.wbt_replay_order.proofs.Facts.Lists.{all_push, either, one_when, none_when}

abbrev pub no_line : FlusherLine
no_line = record { device = 0; cpu = 0 }

-- ---- each is one of the CPU's

flushers_are_jobs : (trace : Trace) (cpu number : ℕ) (fs : List FlusherLine) (known : List ReplayJob)
    → ((k : ℕ) → k < length fs → (get_or fs k no_line).cpu ≡ cpu → IsFlusherOn trace cpu (number + k))
    → All (IsJobOn trace cpu) known → All (IsJobOn trace cpu) (flushers_from cpu number fs known)
flushers_are_jobs trace cpu number [] known on all = all
flushers_are_jobs trace cpu number (f ∷ fs) known on all =
    flushers_are_jobs trace cpu (number + 1) fs (cond (eqb f.cpu cpu) (known ++ job.Flusher number ∷ []) known)
    (λ k less is. subst (IsFlusherOn trace cpu) (let e : number + suc k ≡ (number + 1) + k = omega arith in e) (on (suc k) (omega arith) is))
    (either (All (IsJobOn trace cpu)) (eqb f.cpu cpu) (known ++ job.Flusher number ∷ []) known
    (λ is.
    let here = subst (IsFlusherOn trace cpu) (let e : number + 0 ≡ number = omega arith in e) (on 0 (omega arith) (eqb-true f.cpu cpu is)) in
    all_push (IsJobOn trace cpu) known (job.Flusher number) all here)
    (λ other. all))

one_of : (trace : Trace) (cpu k : ℕ) → k < length trace.flushers → (get_or trace.flushers k no_line).cpu ≡ cpu → IsFlusherOn trace cpu (0 + k)
one_of trace cpu k less is = record { there = omega arith; cpu_is = ap (flusher_cpu trace) (let e : 0 + k ≡ k = omega arith in e) ∙ is }

pub jobs_are_jobs : (trace : Trace) (cpu : ℕ) (tasks : List ℕ) → tasks ≡ tasks_from cpu 0 trace.tasks [] → All (IsJobOn trace cpu) (jobs_with trace cpu tasks)
jobs_are_jobs trace cpu [] is = flushers_are_jobs trace cpu 0 trace.flushers [] (one_of trace cpu) (All-nil (IsJobOn trace cpu))
jobs_are_jobs trace cpu (t ∷ ts) is =
    let some : 1 ≤ length (tasks_from cpu 0 trace.tasks []) = omega (arith, ap (λ (l : List ℕ). length l) is) in
    flushers_are_jobs trace cpu 0 trace.flushers (job.Writer ∷ []) (one_of trace cpu) (All-cons (IsJobOn trace cpu) job.Writer [] some (All-nil (IsJobOn trace cpu)))

-- ---- there are few

few_flushers_from : (cpu number : ℕ) (fs : List FlusherLine) (known : List ReplayJob) → length (flushers_from cpu number fs known) ≤ length known + length fs
few_flushers_from cpu number [] known = omega arith
few_flushers_from cpu number (f ∷ fs) known =
    let rest = few_flushers_from cpu (number + 1) fs (cond (eqb f.cpu cpu) (known ++ job.Flusher number ∷ []) known) in
    omega (arith, rest, by_cpu (eqb f.cpu cpu))
  where
    by_cpu : (b : Bool) → length (cond b (known ++ job.Flusher number ∷ []) known) ≤ length known + 1
    by_cpu true = omega (arith, length-append known (job.Flusher number ∷ []))
    by_cpu false = omega arith

pub few_jobs_with : (trace : Trace) (cpu : ℕ) (tasks : List ℕ) → length (jobs_with trace cpu tasks) ≤ 1 + length trace.flushers
few_jobs_with trace cpu [] = omega (arith, few_flushers_from cpu 0 trace.flushers [])
few_jobs_with trace cpu (t ∷ ts) = omega (arith, few_flushers_from cpu 0 trace.flushers (job.Writer ∷ []))

-- ---- each flusher has its place, and the writer side

pub record HasJob (j : ReplayJob) (jobs : List ReplayJob) : Type 0 where
  pub place : ℕ
  pub less : place < length jobs
  pub is : get_or jobs place job.Writer ≡ j

stays_push : (j other : ReplayJob) (jobs : List ReplayJob) → HasJob j jobs → HasJob j (jobs ++ other ∷ [])
stays_push j other jobs h = record {
  place = h.place;
  less = omega (arith, h.less, length-append jobs (other ∷ []));
  is = get_or_append_left jobs (other ∷ []) job.Writer h.place h.less ∙ h.is;
}

has_last : (j : ReplayJob) (jobs : List ReplayJob) → HasJob j (jobs ++ j ∷ [])
has_last j jobs = record {
  place = length jobs;
  less = omega (arith, length-append jobs (j ∷ []));
  is = get_or_push jobs j job.Writer (length jobs) refl;
}

stays_from : (j : ReplayJob) (cpu number : ℕ) (fs : List FlusherLine) (known : List ReplayJob) → HasJob j known → HasJob j (flushers_from cpu number fs known)
stays_from j cpu number [] known h = h
stays_from j cpu number (f ∷ fs) known h =
    stays_from j cpu (number + 1) fs (cond (eqb f.cpu cpu) (known ++ job.Flusher number ∷ []) known)
    (either (HasJob j) (eqb f.cpu cpu) (known ++ job.Flusher number ∷ []) known (λ is. stays_push j (job.Flusher number) known h) (λ other. h))

has_flusher_from : (cpu number : ℕ) (fs : List FlusherLine) (known : List ReplayJob) (k : ℕ) → k < length fs → (get_or fs k no_line).cpu ≡ cpu
    → HasJob (job.Flusher (number + k)) (flushers_from cpu number fs known)
has_flusher_from cpu number [] known k less is = absurd (omega arith)
has_flusher_from cpu number (f ∷ fs) known zero less is =
    let here : HasJob (job.Flusher number) (cond (eqb f.cpu cpu) (known ++ job.Flusher number ∷ []) known) =
    subst (λ b. HasJob (job.Flusher number) (cond b (known ++ job.Flusher number ∷ []) known)) (sym (eq-eqb f.cpu cpu is)) (has_last (job.Flusher number) known) in
    subst (λ (n : ℕ). HasJob (job.Flusher n) (flushers_from cpu number (f ∷ fs) known)) (let e : number ≡ number + 0 = omega arith in e)
    (stays_from (job.Flusher number) cpu (number + 1) fs (cond (eqb f.cpu cpu) (known ++ job.Flusher number ∷ []) known) here)
has_flusher_from cpu number (f ∷ fs) known (suc k) less is =
    subst (λ (n : ℕ). HasJob (job.Flusher n) (flushers_from cpu number (f ∷ fs) known)) (let e : (number + 1) + k ≡ number + suc k = omega arith in e)
    (has_flusher_from cpu (number + 1) fs (cond (eqb f.cpu cpu) (known ++ job.Flusher number ∷ []) known) k (omega arith) is)

pub has_flusher_job : (trace : Trace) (tasks : List ℕ) (f : ℕ) → f < length trace.flushers → HasJob (job.Flusher f) (jobs_with trace (flusher_cpu trace f) tasks)
has_flusher_job trace [] f less =
    subst (λ (n : ℕ). HasJob (job.Flusher n) (jobs_with trace (flusher_cpu trace f) [])) (let e : 0 + f ≡ f = omega arith in e)
    (has_flusher_from (flusher_cpu trace f) 0 trace.flushers [] f less refl)
has_flusher_job trace (t ∷ ts) f less =
    subst (λ (n : ℕ). HasJob (job.Flusher n) (jobs_with trace (flusher_cpu trace f) (t ∷ ts))) (let e : 0 + f ≡ f = omega arith in e)
    (has_flusher_from (flusher_cpu trace f) 0 trace.flushers (job.Writer ∷ []) f less refl)

pub has_writer_job : (trace : Trace) (cpu : ℕ) (tasks : List ℕ) → 1 ≤ length tasks → HasJob job.Writer (jobs_with trace cpu tasks)
has_writer_job trace cpu [] some = absurd (omega arith)
has_writer_job trace cpu (t ∷ ts) some =
    stays_from job.Writer cpu 0 trace.flushers (job.Writer ∷ []) (record { place = 0; less = omega arith; is = refl })

-- ---- each flusher is one job

count_push : (p : ReplayJob → Bool) (known : List ReplayJob) (j : ReplayJob) → count_by p (known ++ j ∷ []) ≡ count_by p known + cond (p j) 1 0
count_push p known j = sum_by_push (λ x. cond (p x) 1 0) known j

none_later : (f cpu number : ℕ) (fs : List FlusherLine) (known : List ReplayJob) → f < number → count_by (is_job_of f) (flushers_from cpu number fs known) ≡ count_by (is_job_of f) known
none_later f cpu number [] known before = refl
none_later f cpu number (line ∷ fs) known before =
    omega (arith, none_later f cpu (number + 1) fs (cond (eqb line.cpu cpu) (known ++ job.Flusher number ∷ []) known) (omega (arith, before)), by_cpu (eqb line.cpu cpu))
  where
    by_cpu : (b : Bool) → count_by (is_job_of f) (cond b (known ++ job.Flusher number ∷ []) known) ≡ count_by (is_job_of f) known
    by_cpu true = omega (arith, count_push (is_job_of f) known (job.Flusher number), none_when (eqb number f) (ne_eqb number f (λ e. omega (arith, e, before))))
    by_cpu false = refl

one_of_these : (f cpu number : ℕ) (fs : List FlusherLine) (known : List ReplayJob) (k : ℕ) → k < length fs → f ≡ number + k → (get_or fs k no_line).cpu ≡ cpu
    → count_by (is_job_of f) (flushers_from cpu number fs known) ≡ count_by (is_job_of f) known + 1
one_of_these f cpu number [] known k less is on = absurd (omega (arith, less))
one_of_these f cpu number (line ∷ fs) known zero less is on =
    omega (
      arith,
      none_later f cpu (number + 1) fs (cond (eqb line.cpu cpu) (known ++ job.Flusher number ∷ []) known) (omega (arith, is)),
      ap (λ (b : Bool). count_by (is_job_of f) (cond b (known ++ job.Flusher number ∷ []) known)) (eq-eqb line.cpu cpu on),
      count_push (is_job_of f) known (job.Flusher number),
      one_when (eqb number f) (eq-eqb number f (let e : number ≡ f = omega (arith, is) in e)),
    )
one_of_these f cpu number (line ∷ fs) known (suc k) less is on =
    omega (arith, one_of_these f cpu (number + 1) fs (cond (eqb line.cpu cpu) (known ++ job.Flusher number ∷ []) known) k (omega (arith, less)) (omega (arith, is)) on, by_cpu (eqb line.cpu cpu))
  where
    by_cpu : (b : Bool) → count_by (is_job_of f) (cond b (known ++ job.Flusher number ∷ []) known) ≡ count_by (is_job_of f) known
    by_cpu true = omega (arith, count_push (is_job_of f) known (job.Flusher number), none_when (eqb number f) (ne_eqb number f (λ e. omega (arith, e, is))))
    by_cpu false = refl

pub one_job : (trace : Trace) (tasks : List ℕ) (f : ℕ) → f < length trace.flushers → count_by (is_job_of f) (jobs_with trace (flusher_cpu trace f) tasks) ≡ 1
one_job trace [] f less = omega (arith, one_of_these f (flusher_cpu trace f) 0 trace.flushers [] f less (omega arith) refl)
one_job trace (t ∷ ts) f less = omega (arith, one_of_these f (flusher_cpu trace f) 0 trace.flushers (job.Writer ∷ []) f less (omega arith) refl)

-- a job of a CPU that is a flusher's is of one on the CPU
pub flusher_on : (trace : Trace) (cpu f n : ℕ) (jobs : List ReplayJob) → All (IsJobOn trace cpu) jobs → get_or jobs n job.Writer ≡ job.Flusher f → IsFlusherOn trace cpu f
flusher_on trace cpu f n jobs all is = ⊎_elim
    (λ less. subst (IsJobOn trace cpu) is (All-get_or (IsJobOn trace cpu) jobs n job.Writer less all))
    (λ past. let other : job.Writer ≡ job.Flusher f = sym (get_or_past jobs n job.Writer past) ∙ is in absurd (cc other))
    (cases_lt n (length jobs))
