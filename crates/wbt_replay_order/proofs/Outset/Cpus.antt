-- How many flushers the CPUs have at the opening, and that each is one job of its CPU.
use Rattle.std.proofs.Common.{◌≡◌, ℕ, suc, ◌+◌, ◌<◌, Bool, true, false, cond, eqb, List, [], ◌∷◌, ◌++◌, length, get_or, count_by, refl, ◌∙◌, ap, arith}
use Rattle.std.proofs.lemmas.List.Sums.{sum_by_push}
use Rattle.wbt_replay_order.proofs.Common.{FlusherLine, Trace, total, total_nothing, ReplayJob}
use Rattle.wbt_counter.proofs.Sums.{total_sum}
use Rattle.wbt_replay_moves.specs.declared.state.ReplayJob.TheVariants as job
use Rattle.wbt_replay_order.specs.Definition.Opening.{flushers_from, jobs_with}
use Rattle.wbt_replay_order.proofs.Facts.Jobs.{no_line}
use Rattle.wbt_replay_order.proofs.Facts.Lists.{one_when, none_when}
use Rattle.wbt_replay_order.proofs.Outset.Numbered.{one_part}

count_push : (p : ReplayJob → Bool) (known : List ReplayJob) (j : ReplayJob) → count_by p (known ++ j ∷ []) ≡ count_by p known + cond (p j) 1 0
count_push p known j = sum_by_push (λ x. cond (p x) 1 0) known j

-- ---- all flushers, where a test holds of each

-- how many lines are of the CPU
abbrev pub lines_on : (cpu : ℕ) (fs : List FlusherLine) → ℕ
lines_on cpu [] = 0
lines_on cpu (f ∷ fs) = cond (eqb f.cpu cpu) 1 0 + lines_on cpu fs

counted_from : (p : ReplayJob → Bool) (cpu number : ℕ) (fs : List FlusherLine) (known : List ReplayJob)
    → ((k : ℕ) → k < length fs → p (job.Flusher (number + k)) ≡ true)
    → count_by p (flushers_from cpu number fs known) ≡ count_by p known + lines_on cpu fs
counted_from p cpu number [] known holds = omega arith
counted_from p cpu number (f ∷ fs) known holds =
    let rest = counted_from p cpu (number + 1) fs (cond (eqb f.cpu cpu) (known ++ job.Flusher number ∷ []) known)
    (λ k less. ap (λ (n : ℕ). p (job.Flusher n)) (let e : (number + 1) + k ≡ number + suc k = omega arith in e) ∙ holds (suc k) (omega (arith, less))) in
    omega (arith, rest, by_cpu (eqb f.cpu cpu))
  where
    this : p (job.Flusher number) ≡ true
    this = ap (λ (n : ℕ). p (job.Flusher n)) (let e : number ≡ number + 0 = omega arith in e) ∙ holds 0 (omega arith)

    by_cpu : (b : Bool) → count_by p (cond b (known ++ job.Flusher number ∷ []) known) ≡ count_by p known + cond b 1 0
    by_cpu true = omega (arith, count_push p known (job.Flusher number), one_when (p (job.Flusher number)) this)
    by_cpu false = omega arith

pub counted_with : (p : ReplayJob → Bool) (trace : Trace) (cpu : ℕ) (tasks : List ℕ) → p job.Writer ≡ false
    → ((k : ℕ) → k < length trace.flushers → p (job.Flusher k) ≡ true) → count_by p (jobs_with trace cpu tasks) ≡ lines_on cpu trace.flushers
counted_with p trace cpu [] writer holds =
    omega (arith, counted_from p cpu 0 trace.flushers [] (λ k less. ap (λ (n : ℕ). p (job.Flusher n)) (let e : 0 + k ≡ k = omega arith in e) ∙ holds k less))
counted_with p trace cpu (t ∷ ts) writer holds =
    omega (
      arith,
      counted_from p cpu 0 trace.flushers (job.Writer ∷ []) (λ k less. ap (λ (n : ℕ). p (job.Flusher n)) (let e : 0 + k ≡ k = omega arith in e) ∙ holds k less),
      none_when (p job.Writer) writer,
    )

-- the lines of all CPUs
pub all_lines : (n : ℕ) (fs : List FlusherLine) → ((k : ℕ) → k < length fs → (get_or fs k no_line).cpu < n) → total n (λ i. lines_on i fs) ≡ length fs
all_lines n [] within = total_nothing n (λ i. 0) (λ i. refl)
all_lines n (f ∷ fs) within =
    let both = total_sum n (λ i. cond (eqb f.cpu i) 1 0) (λ i. lines_on i fs) in
    let this = one_part n f.cpu 1 (within 0 (omega arith)) in
    omega (arith, both, this, all_lines n fs (λ k less. within (suc k) (omega (arith, less))))
