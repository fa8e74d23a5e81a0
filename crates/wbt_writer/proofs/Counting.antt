-- What single events make of a CPU's counts, and the numbers of a task's writers.
use Rattle.std.proofs.Common.{◌≡◌, ◌≢◌, ℕ, ◌+◌, ◌^◌, ◌<◌, ◌≤◌, inl, inr, false, ◌&&◌, eqb, List, [], ◌∷◌, length, map, drop, get_or, All, refl, sym, ap, ◌∙◌, subst, arith, eq-eqb, ne_eqb}
use Rattle.std.proofs.lemmas.Bool.{cond-true, cond-false, cases_eq}
use Rattle.std.proofs.lemmas.List.{drop_more, drop_all}
use Rattle.wbt_writer.proofs.Common.{numbers_from, number_from, AllHavePagesLeft, counted, Cpu, cpu_after, cpu_step, new_writer, writer_of, Ended, Writer, same_writers, others_stay, first, OnlyEnds}
use Rattle.wbt_task.specs.Allowance.{ended}
use Rattle.std.proofs.lemmas.List.Elements.{All-cons, All-nil}
use Rattle.wbt_task.specs.Counts.{LeavesPages, Settles, is_write}
use Rattle.wbt_task.specs.History.{Along, HasRoom, IsOfWriter}
use Rattle.wbt_task.specs.declared.allowance.Due.TheVariants as due
use Rattle.wbt_task.specs.declared.history.Event.{Event}
use Rattle.wbt_task.proofs.Keeping.{event_keeps, new_is}
use Rattle.wbt_task.proofs.Leaving.{pages_are_left, room_is_kept}
use Rattle.wbt_trace.specs.declared.writers.Writer.{Writer as Name}
use Rattle.wbt_writer.specs.Counted.{ends_from}

-- ---- one event

pub one_room : (ratelimit_pages cap : ℕ) (cpu : Cpu) (event : Event) → HasRoom cpu event → Along HasRoom ratelimit_pages cap cpu (event ∷ [])
unfolding Along
one_room ratelimit_pages cap cpu event room = (room, tt)

pub one_event : (ratelimit_pages cap : ℕ) (cpu : Cpu) (event : Event) → cpu_after ratelimit_pages cap cpu (event ∷ []) ≡ cpu_step ratelimit_pages cap cpu event
unfolding cpu_after
one_event ratelimit_pages cap cpu event = refl

one_there : (n : ℕ) (event : Event) → IsOfWriter n event → All (IsOfWriter n) (event ∷ [])
one_there n event there = All-cons (IsOfWriter n) event [] there (All-nil (IsOfWriter n))

one_settles : (ratelimit_pages cap : ℕ) (cpu : Cpu) (event : Event) → Settles cpu event → Along Settles ratelimit_pages cap cpu (event ∷ [])
unfolding Along
one_settles ratelimit_pages cap cpu event settles = (settles, tt)

one_leaves : (ratelimit_pages cap : ℕ) (cpu : Cpu) (event : Event) → LeavesPages cap cpu event → Along (LeavesPages cap) ratelimit_pages cap cpu (event ∷ [])
unfolding Along
one_leaves ratelimit_pages cap cpu event leaves = (leaves, tt)

has_first : (ratelimit_pages cap : ℕ) (cpu : Cpu) (event : Event) → Along HasRoom ratelimit_pages cap cpu (event ∷ []) → HasRoom cpu event
unfolding Along
has_first ratelimit_pages cap cpu event along = along.0

-- where few pages are counted there is room
pub room_of : (ratelimit_pages cap : ℕ) (cpu : Cpu) (event : Event) → IsOfWriter (length cpu.writers) event → Settles cpu event → counted cpu ≤ 2 ^ 46 → cpu.local.since_check ≤ 2 ^ 46
    → HasRoom cpu event
room_of ratelimit_pages cap cpu event there settles pages since = has_first ratelimit_pages cap cpu event
    (room_is_kept ratelimit_pages cap cpu (event ∷ []) (one_there (length cpu.writers) event there) (one_settles ratelimit_pages cap cpu event settles) (omega arith) (omega arith))

pub left_after : (ratelimit_pages cap : ℕ) (cpu : Cpu) (event : Event) → 1 ≤ cap → LeavesPages cap cpu event → AllHavePagesLeft cap cpu
    → AllHavePagesLeft cap (cpu_step ratelimit_pages cap cpu event)
left_after ratelimit_pages cap cpu event some leaves has = subst (AllHavePagesLeft cap) (one_event ratelimit_pages cap cpu event)
    (pages_are_left ratelimit_pages cap cpu (event ∷ []) some (one_leaves ratelimit_pages cap cpu event leaves) has)

-- ---- ends

pub ends_none : (cpu : Cpu) → OnlyEnds cpu cpu
ends_none cpu = record { long = refl; counted_same = refl; since = refl; quiet = λ n quiet. quiet; allowances = λ n less small. small }

pub ends_more : (old mid new : Cpu) → OnlyEnds old mid → OnlyEnds mid new → OnlyEnds old new
ends_more old mid new p q = record {
  long = q.long ∙ p.long;
  counted_same = q.counted_same ∙ p.counted_same;
  since = q.since ∙ p.since;
  quiet = λ n quiet. q.quiet n (p.quiet n quiet);
  allowances = λ n less small. q.allowances n (subst (λ k. n < k) (sym p.long) less) (p.allowances n less small);
}

since_ended : (ratelimit_pages cap : ℕ) (cpu : Cpu) (n : ℕ) → (cpu_step ratelimit_pages cap cpu (Ended n)).local.since_check ≡ cpu.local.since_check
unfolding cpu_step ended
since_ended ratelimit_pages cap cpu n = refl

new_quiet : (cap : ℕ) → ((new_writer cap).due ≡ due.No) × ((new_writer cap).task.nr_dirtied_pause ≤ 2 ^ 47)
unfolding new_writer first
new_quiet cap = (refl, omega arith)

counted_ended : (ratelimit_pages cap : ℕ) (cpu : Cpu) (n : ℕ) → n < length cpu.writers → counted (cpu_step ratelimit_pages cap cpu (Ended n)) ≡ counted cpu
unfolding is_write
counted_ended ratelimit_pages cap cpu n there = let kept = event_keeps ratelimit_pages cap cpu (Ended n) there tt in omega (arith, kept)

pub ends_one : (ratelimit_pages cap : ℕ) (cpu : Cpu) (n : ℕ) → n < length cpu.writers → OnlyEnds cpu (cpu_step ratelimit_pages cap cpu (Ended n))
ends_one ratelimit_pages cap cpu n there = record {
  long = same_writers ratelimit_pages cap cpu (Ended n);
  counted_same = counted_ended ratelimit_pages cap cpu n there;
  since = since_ended ratelimit_pages cap cpu n;
  quiet = λ m quiet. by_writer (λ (w : Writer). w.due ≡ due.No) m (new_quiet cap).0 quiet;
  allowances = λ m less small. by_writer (λ (w : Writer). w.task.nr_dirtied_pause ≤ 2 ^ 47) m (new_quiet cap).1 small;
}
  where
    by_writer : (P : Writer → Type 0) (m : ℕ) → P (new_writer cap) → P (writer_of cpu m) → P (writer_of (cpu_step ratelimit_pages cap cpu (Ended n)) m)
    by_writer P m new before = elim (cases_eq m n) [
      | inl same ↦ subst (λ k. P (writer_of (cpu_step ratelimit_pages cap cpu (Ended n)) k)) (sym same) (subst P (sym (new_is ratelimit_pages cap cpu n there)) new)
      | inr differs ↦ subst P (sym (others_stay ratelimit_pages cap cpu (Ended n) m differs)) before
    ]

-- ---- the numbers of a task's writers, from one on

after_one : (ratelimit_pages cap : ℕ) (cpu : Cpu) (event : Event) (more : List Event) → cpu_after ratelimit_pages cap cpu (event ∷ more) ≡ cpu_after ratelimit_pages cap (cpu_step ratelimit_pages cap cpu event) more
unfolding cpu_after
after_one ratelimit_pages cap cpu event more = refl

pub after_none : (ratelimit_pages cap : ℕ) (cpu : Cpu) → cpu_after ratelimit_pages cap cpu [] ≡ cpu
unfolding cpu_after
after_none ratelimit_pages cap cpu = refl

pub its_number : (ratelimit_pages cap task i : ℕ) (cpu : Cpu) (names : List Name) (d : Name) → i < length names → (get_or names i d).task ≡ task
    → cpu_after ratelimit_pages cap cpu (ends_from task i names) ≡ cpu_after ratelimit_pages cap (cpu_step ratelimit_pages cap cpu (Ended i)) (ends_from task (i + 1) names)
its_number ratelimit_pages cap task i cpu names d less own =
    ap (λ (ns : List Name). cpu_after ratelimit_pages cap cpu (map Ended (numbers_from task i ns))) (drop_more names i d less)
    ∙ ap (λ (ns : List ℕ). cpu_after ratelimit_pages cap cpu (map Ended ns)) (cond-true (eqb (get_or names i d).task task) _ _ (eq-eqb _ task own))
    ∙ after_one ratelimit_pages cap cpu (Ended i) (ends_from task (i + 1) names)

pub not_its : (ratelimit_pages cap task i : ℕ) (cpu : Cpu) (names : List Name) (d : Name) → i < length names → (get_or names i d).task ≢ task
    → cpu_after ratelimit_pages cap cpu (ends_from task i names) ≡ cpu_after ratelimit_pages cap cpu (ends_from task (i + 1) names)
not_its ratelimit_pages cap task i cpu names d less other =
    ap (λ (ns : List Name). cpu_after ratelimit_pages cap cpu (map Ended (numbers_from task i ns))) (drop_more names i d less)
    ∙ ap (λ (ns : List ℕ). cpu_after ratelimit_pages cap cpu (map Ended ns)) (cond-false (eqb (get_or names i d).task task) _ _ (ne_eqb _ task other))

pub no_more : (ratelimit_pages cap task i : ℕ) (cpu : Cpu) (names : List Name) → length names ≤ i → cpu_after ratelimit_pages cap cpu (ends_from task i names) ≡ cpu
no_more ratelimit_pages cap task i cpu names past =
    ap (λ (ns : List Name). cpu_after ratelimit_pages cap cpu (map Ended (numbers_from task i ns))) (drop_all i names past) ∙ after_none ratelimit_pages cap cpu

-- ---- the number of a task's writer of a context

pub number_here : (task context i : ℕ) (names : List Name) (d : Name) → i < length names → (get_or names i d).task ≡ task → (get_or names i d).context ≡ context
    → number_from task context i (drop i names) ≡ i
number_here task context i names d less task_is context_is = ap (number_from task context i) (drop_more names i d less)
    ∙ cond-true (eqb (get_or names i d).task task && eqb (get_or names i d).context context) i _
    (ap (λ b. b && eqb (get_or names i d).context context) (eq-eqb _ task task_is) ∙ eq-eqb _ context context_is)

pub number_on : (task context i : ℕ) (names : List Name) (d : Name) → i < length names → (eqb (get_or names i d).task task && eqb (get_or names i d).context context) ≡ false
    → number_from task context i (drop i names) ≡ number_from task context (i + 1) (drop (i + 1) names)
number_on task context i names d less other = ap (number_from task context i) (drop_more names i d less)
    ∙ cond-false (eqb (get_or names i d).task task && eqb (get_or names i d).context context) i _ other

pub number_past : (task context i : ℕ) (names : List Name) → length names ≤ i → number_from task context i (drop i names) ≡ i
number_past task context i names past = ap (number_from task context i) (drop_all i names past)
