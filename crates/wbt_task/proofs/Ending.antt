-- What becomes of the pages of a task that ends.
use Rattle.std.proofs.Common.{◌≡◌, ◌≢◌, ℕ, List, [], ◌∷◌, All, refl, ap, arith}
use Rattle.std.proofs.lemmas.List.Elements.{All-head, All-tail}
use Rattle.std.proofs.lemmas.List.Sums.{sum_by-cons}
use Rattle.wbt_task.specs.declared.history.Event.TheVariants.{Ended}
use Rattle.wbt_task.specs.declared.history.Writer.{Writer}
use Rattle.wbt_task.specs.Allowance.{ended}
use Rattle.wbt_task.specs.Counts.{AreApart, dirtied_by, dirtied_by_all}
use Rattle.wbt_task.specs.History.{Cpu, cpu_after, cpu_step, writer_of}
use Rattle.wbt_task.specs.Laws.{EndedTaskLeaks, EndedWritersLeak}
use Rattle.wbt_task.proofs.Keeping.{others_stay}

-- the end of a writer leaves what others count
others_count : (ratelimit_pages cap : ℕ) (cpu : Cpu) (writer : ℕ) (others : List ℕ) → All (λ other. other ≢ writer) others
    → dirtied_by_all (cpu_step ratelimit_pages cap cpu (Ended writer)) others ≡ dirtied_by_all cpu others
others_count ratelimit_pages cap cpu writer [] apart = refl
others_count ratelimit_pages cap cpu writer (other ∷ others) apart =
    let after : Cpu = cpu_step ratelimit_pages cap cpu (Ended writer) in
    let stays = others_stay ratelimit_pages cap cpu (Ended writer) other (All-head (λ o. o ≢ writer) other others apart) in
    let one : (writer_of after other).task.nr_dirtied ≡ (writer_of cpu other).task.nr_dirtied = ap (λ (w : Writer). w.task.nr_dirtied) stays in
    let rest = others_count ratelimit_pages cap cpu writer others (All-tail (λ o. o ≢ writer) other others apart) in
    omega (
      arith,
      one,
      rest,
      sum_by-cons (λ w. (writer_of after w).task.nr_dirtied) other others,
      sum_by-cons (λ w. (writer_of cpu w).task.nr_dirtied) other others,
    )

pub ended_task_leaks : EndedTaskLeaks
unfolding cpu_after cpu_step ended AreApart
ended_task_leaks ratelimit_pages cap cpu [] apart = (omega arith, refl)
ended_task_leaks ratelimit_pages cap cpu (writer ∷ writers) apart =
    let rest = ended_task_leaks ratelimit_pages cap (cpu_step ratelimit_pages cap cpu (Ended writer)) writers apart.1 in
    let others = others_count ratelimit_pages cap cpu writer writers apart.0 in
    (omega (arith, rest.0, others, sum_by-cons (λ w. (writer_of cpu w).task.nr_dirtied) writer writers), rest.1)

pub ended_writers_leak : EndedWritersLeak
unfolding ended
ended_writers_leak local [] = (omega arith, refl)
ended_writers_leak local (writer ∷ writers) =
    let rest = ended_writers_leak (ended local writer.task) writers in
    (omega (arith, rest.0, sum_by-cons dirtied_by writer writers), rest.1)
