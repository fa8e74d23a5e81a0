-- The points that each CPU's part shows by itself: flights, writes, and that no flusher has failed.
use Rattle.std.proofs.Common.{◌≡◌, ℕ, zero, suc, ◌+◌, ◌<◌, Bool, true, false, ◌&&◌, ◌||◌, nat_le, cond, eqb, eqb-true, ltb, List, [], ◌∷◌, ◌++◌, length, map, flat_map, get_or, count_by, Option, Some, None, IfSome, refl, sym, ◌∙◌, ap, subst, arith, ⊎_elim, append_assoc, eq-eqb, true≢false, length-append}
use Rattle.std.specs.List.{slice_get}
use Rattle.std.proofs.lemmas.Bool.{cases_lt, cond-true, cond-false, lt-ltb, le-ltb}
use Rattle.std.proofs.lemmas.List.{length-map}
use Rattle.std.proofs.lemmas.List.Sums.{sum_by-cons}
use Rattle.wbt_replay_order.proofs.Common.{FlusherLine, TaskLine, Trace, Each, Flight, effect, of_part, ToldFlusher, new_flusher, MayMove, is_own_flusher, tells, OfPart, EachPart, FlushersAreInTurn, WritesAreInOrder, cpu_of_task, pages_of_task, is_on, is_own_task, Told, one_checked, one_estimated, told_entry, told, Along, CheckEntry, Entry, EstEntry, parts_back, IsOwn, each_weaker, joined, told_is, each_cpu, each_joined, flusher_cpu, State, cpu_of, task_of, Cpu, CompletesAll, written_in, part_of, last_state, ending_of, journal_of, task_cpu, IsFlusherOn, IsTaskOn}
use Rattle.wbt_journal.specs.Effects.{Write}
use Rattle.wbt_journal.specs.Flights.{flusher_of, first_flushers, Flies, flushers_after}
use Rattle.wbt_journal.specs.Lawful.{EndingIsRight}
use Rattle.wbt_journal.specs.Leaves.{is_failure, is_fault, is_fault_of, some_failed, a_flusher_failed, writes_of, WroteAll, EndsBy}
use Rattle.wbt_journal.specs.Pages.{PagesAreNext, writes_after, NamesPage, NamesPages, Writes}
use Rattle.wbt_journal.specs.Told.{wrote}
use Rattle.wbt_journal.specs.declared.entry.Entry.TheVariants as entry
use Rattle.wbt_journal.specs.declared.journal.Ending.{Ending}
use Rattle.wbt_journal.specs.declared.journal.Ending.TheVariants as ending
use Rattle.wbt_run_laws.specs.Owns.{IsOwnCheck, IsOwnFlight}
use Rattle.wbt_run_laws.specs.Phases.{flusher_after, FliesInTurn}
use Rattle.wbt_run_laws.proofs.Effects.{if_weaker}
use Rattle.wbt_run_laws.proofs.Flying.{all_fly}
use Rattle.wbt_run_laws.proofs.Parts.{part_at_most}
use Rattle.wbt_rules.specs.declared.moments.TheConstants.{MOST_FAULTS}
use Rattle.wbt_replay_points.proofs.Claims.Sums.{part_at}
use Rattle.wbt_replay_points.proofs.Lawful.Logs.{IsTold, own_flusher}
use Rattle.wbt_replay_points.proofs.Lawful.Logged.{HasLogs}
use Rattle.wbt_replay_points.proofs.Lawful.Same.{told_of}
use Rattle.wbt_replay_order.proofs.Written.Same.{told_by, to_write}

-- ---- who is whose

pub flusher_on : (trace : Trace) (cpu f : ℕ) → is_own_flusher trace cpu f ≡ true → IsFlusherOn trace cpu f
flusher_on trace cpu f own = ⊎_elim
    (λ less. record {
      there = less;
      cpu_is = eqb-true (flusher_cpu trace f) cpu (sym (ap (is_on cpu) (cond-true (ltb f (length trace.flushers)) (Some (flusher_cpu trace f)) None (lt-ltb f (length trace.flushers) less))) ∙ own);
    })
    (λ past. absurd (true≢false (sym own ∙ ap (is_on cpu) (cond-false (ltb f (length trace.flushers)) (Some (flusher_cpu trace f)) None (le-ltb f (length trace.flushers) past)))))
    (cases_lt f (length trace.flushers))

task_on_line : (cpu task : ℕ) (lines : List TaskLine) → is_on cpu (cpu_of_task (slice_get lines task)) ≡ true → (task < length lines) × ((get_or lines task (record { cpu = 0; pace = None })).cpu ≡ cpu)
task_on_line cpu task [] own = absurd (true≢false (sym own))
task_on_line cpu zero (line ∷ lines) own = (omega arith, eqb-true line.cpu cpu own)
task_on_line cpu (suc task) (line ∷ lines) own = let rest = task_on_line cpu task lines own in (omega (arith, rest.0), rest.1)

pub task_on : (trace : Trace) (cpu task : ℕ) → is_own_task trace cpu task ≡ true → IsTaskOn trace cpu task
task_on trace cpu task own = let its = task_on_line cpu task trace.tasks own in record { there = its.0; cpu_is = its.1 }

-- ---- flights

-- the walk of a flusher of another CPU sees none of the part's entries
strangers : (trace : Trace) (cpu f : ℕ) (p : ToldFlusher) (part : List Told) → (IsFlusherOn trace cpu f → ⊥) → Each (IsOwn trace cpu) part → Along (FliesInTurn f) (flusher_after f) p part
strangers trace cpu f p [] other own = tt
strangers trace cpu f p (e ∷ part) other own = (
  if_weaker (IsOwnFlight trace cpu) (λ (flight : Flight). flight.flusher ≡ f → MayMove flight.move p.phase)
      (λ flight its same. absurd (other (flusher_on trace cpu f (subst (λ (n : ℕ). is_own_flusher trace cpu n ≡ true) same its.own)))) (effect e).flight own.0.flight,
  strangers trace cpu f (flusher_after f p e) part other own.1,
)

is_new : (lines : List FlusherLine) (f : ℕ) → f < length lines → flusher_of (first_flushers lines) f ≡ new_flusher
is_new [] f less = absurd (omega (arith, less))
is_new (line ∷ lines) zero less = refl
is_new (line ∷ lines) (suc f) less = is_new lines f (omega (arith, less))

pub owns : (trace : Trace) (cpu : ℕ) (part : List Told) → Each (IsTold trace cpu) part → Each (IsOwn trace cpu) part
owns trace cpu part each = each_weaker (IsTold trace cpu) (IsOwn trace cpu) (λ e is. is.0) part each

on_or_not : (trace : Trace) (cpu f : ℕ) (b : Bool) → is_own_flusher trace cpu f ≡ b → (p : ToldFlusher) (part : List Told) → Each (IsOwn trace cpu) part
    → (IsFlusherOn trace cpu f → Along (FliesInTurn f) (flusher_after f) p part) → Along (FliesInTurn f) (flusher_after f) p part
on_or_not trace cpu f true is p part own on = on (flusher_on trace cpu f is)
on_or_not trace cpu f false is p part own on = strangers trace cpu f p part (λ its. true≢false (sym (own_flusher trace cpu f its) ∙ is)) own

module _ (trace : Trace) (logs : HasLogs trace (last_state trace)) (seats : length (last_state trace).cpus ≡ trace.cpus) where
  abbrev s : State
  s = last_state trace

  abbrev parts : List (List Told)
  parts = map told (map part_of s.cpus)

  many : length parts ≡ length s.cpus
  many = length-map (map part_of s.cpus) told ∙ length-map s.cpus part_of

  -- what holds of what each CPU tells holds of each part
  pub each_told : (P : ℕ → List Told → Type 0) → ((c : ℕ) → c < length s.cpus → P c (told_of (cpu_of c s))) → EachPart P 0 parts
  each_told P each =
      each_cpu P parts (λ c less.
      let low : c < length s.cpus = omega (arith, less, many) in
      subst (P c) (sym (part_at s.cpus c low)) (each c low))

  flies : (c : ℕ) → OfPart (Flies trace) (flushers_after trace) (first_flushers trace.flushers) c (told_of (cpu_of c s))
  flies c =
      let part : List Told = told_of (cpu_of c s) in
      let own = owns trace c part (logs.own c) in
      all_fly trace c (first_flushers trace.flushers) part own
      (λ f. on_or_not trace c f (is_own_flusher trace c f) refl (flusher_of (first_flushers trace.flushers) f) part own
      (λ on. subst (λ (p : ToldFlusher). Along (FliesInTurn f) (flusher_after f) p part) (sym (is_new trace.flushers f on.there)) (logs.flown c f on).allowed))

  pub flushers_in_turn : FlushersAreInTurn trace (journal_of trace)
  unfolding journal_of
  flushers_in_turn =
      parts_back (Flies trace) (flushers_after trace) (first_flushers trace.flushers) (λ seen cpu. refl) (λ seen cpu. tt) (first_flushers trace.flushers) 0 parts
      (each_told (OfPart (Flies trace) (flushers_after trace) (first_flushers trace.flushers)) (λ c low. flies c))

-- ---- writes

-- the pages that entries tell as written by a task
abbrev pub pages_told : (task : ℕ) (e : Told) → List ℕ
pages_told task e = of_part [] (λ (write : Write). cond (eqb write.task task) (write.page ∷ []) []) (effect e).write

-- by its entries and by what they tell
pub told_pages : (task : ℕ) (checks : List CheckEntry) (ests : List EstEntry) (entries : List Entry) → flat_map (pages_told task) (flat_map (told_entry checks ests) entries) ≡ flat_map (written_in task) entries
told_pages task checks ests [] = refl
told_pages task checks ests (entry.Check place ∷ entries) = by_check (slice_get checks place) (told_pages task checks ests entries)
  where
    by_check : (which : Option CheckEntry) → flat_map (pages_told task) (flat_map (told_entry checks ests) entries) ≡ flat_map (written_in task) entries
        → flat_map (pages_told task) (one_checked which ++ flat_map (told_entry checks ests) entries) ≡ flat_map (written_in task) entries
    by_check None rest = rest
    by_check (Some check) rest = rest
told_pages task checks ests (entry.Est place ∷ entries) = by_est (slice_get ests place) (told_pages task checks ests entries)
  where
    by_est : (which : Option EstEntry) → flat_map (pages_told task) (flat_map (told_entry checks ests) entries) ≡ flat_map (written_in task) entries
        → flat_map (pages_told task) (one_estimated which ++ flat_map (told_entry checks ests) entries) ≡ flat_map (written_in task) entries
    by_est None rest = rest
    by_est (Some est) rest = rest
told_pages task checks ests (entry.Write by page fresh ∷ entries) = ap (λ (l : List ℕ). cond (eqb by task) (page ∷ []) [] ++ l) (told_pages task checks ests entries)
told_pages task checks ests (entry.Folded fold ∷ entries) = told_pages task checks ests entries
told_pages task checks ests (entry.Claimed flusher page ∷ entries) = told_pages task checks ests entries
told_pages task checks ests (entry.Batch flusher pages now until ∷ entries) = told_pages task checks ests entries
told_pages task checks ests (entry.Done flusher page ∷ entries) = told_pages task checks ests entries
told_pages task checks ests (entry.Share domain context n ∷ entries) = told_pages task checks ests entries
told_pages task checks ests (entry.Fault flusher pages ∷ entries) = told_pages task checks ests entries
told_pages task checks ests (entry.Back flusher page absorbed ∷ entries) = told_pages task checks ests entries
told_pages task checks ests (entry.Noticed flusher inode since ∷ entries) = told_pages task checks ests entries
told_pages task checks ests (entry.Aged flusher inode due now ∷ entries) = told_pages task checks ests entries
told_pages task checks ests (entry.Taken flusher inode ∷ entries) = told_pages task checks ests entries

slice_at : (xs : List ℕ) (x : ℕ) (ys : List ℕ) (n : ℕ) → n ≡ length xs → slice_get (xs ++ x ∷ ys) n ≡ Some x
slice_at [] x ys zero is = refl
slice_at [] x ys (suc n) is = absurd (omega (arith, is))
slice_at (y ∷ xs) x ys zero is = absurd (omega (arith, is))
slice_at (y ∷ xs) x ys (suc n) is = slice_at xs x ys n (omega (arith, is))

-- an entry that is no write names what is there
names_others : (trace : Trace) (cpu : ℕ) (tasks : List ℕ) (e : Told) → (effect e).write ≡ None → IsOwn trace cpu e → NamesPages trace tasks cpu (effect e)
names_others trace cpu tasks e none own = record {
  write = subst (λ (o : Option Write). IfSome o (λ (write : Write). Writes trace tasks cpu write.task write.page)) (sym none) tt;
  check = if_weaker (IsOwnCheck trace cpu) (λ (check : CheckEntry). is_own_task trace cpu check.task ≡ true) (λ check is. is.own) (effect e).check own.check;
  flight = if_weaker (IsOwnFlight trace cpu) (λ (flight : Flight). NamesPage trace flight.move) (λ flight is. is.page) (effect e).flight own.flight;
}

module _ (trace : Trace) (cpu : ℕ) where
  -- these tasks wrote, each as many pages as were told, and what is told then and what is left are the rest of its pages
  pub record AreNext (tasks : List ℕ) (before : ℕ → List ℕ) (part : List Told) (left : ℕ → List ℕ) : Type 0 where
    pub count : (t : ℕ) → count_by (λ (by : ℕ). eqb by t) tasks ≡ length (before t)
    pub all : (t : ℕ) → IsTaskOn trace cpu t → before t ++ flat_map (pages_told t) part ++ left t ≡ pages_of_task trace t

  write_next : (tasks : List ℕ) (before left : ℕ → List ℕ) (task page : ℕ) (fresh : Bool) (part : List Told) → IsOwn trace cpu (wrote task page fresh) → AreNext tasks before (wrote task page fresh ∷ part) left
      → NamesPages trace tasks cpu (effect (wrote task page fresh))
  write_next tasks before left task page fresh part own h =
      let mine : cond (eqb task task) (page ∷ []) [] ≡ page ∷ [] = cond-true (eqb task task) (page ∷ []) [] (eq-eqb task task refl) in
      let more : List ℕ = flat_map (pages_told task) part ++ left task in
      let all : before task ++ page ∷ more ≡ pages_of_task trace task =
      ap (λ (l : List ℕ). before task ++ l) (ap (λ (l : List ℕ). l ++ more) (sym mine) ∙ sym (append_assoc (cond (eqb task task) (page ∷ []) []) (flat_map (pages_told task) part) (left task)))
      ∙ sym (append_assoc (before task) (cond (eqb task task) (page ∷ []) [] ++ flat_map (pages_told task) part) (left task))
      ∙ h.all task (task_on trace cpu task own.write) in
      record {
        write = record {
          own = own.write;
          next = ap (λ (l : List ℕ). slice_get l (count_by (λ (by : ℕ). eqb by task) tasks)) (sym all) ∙ slice_at (before task) page more (count_by (λ (by : ℕ). eqb by task) tasks) (h.count task);
        };
        check = tt;
        flight = tt;
      }

  next_after : (tasks : List ℕ) (before left : ℕ → List ℕ) (task page : ℕ) (fresh : Bool) (part : List Told) → AreNext tasks before (wrote task page fresh ∷ part) left
      → AreNext (task ∷ tasks) (λ t. before t ++ cond (eqb task t) (page ∷ []) []) part left
  next_after tasks before left task page fresh part h = record {
    count = λ t.
        let one : length (cond (eqb task t) (page ∷ []) []) ≡ cond (eqb task t) 1 0 = by_test (eqb task t) in
        omega (arith, one, h.count t, length-append (before t) (cond (eqb task t) (page ∷ []) []), sum_by-cons (λ (by : ℕ). cond (eqb by t) 1 0) task tasks);
    all = λ t on.
        ap (λ (l : List ℕ). l ++ left t) (append_assoc (before t) (cond (eqb task t) (page ∷ []) []) (flat_map (pages_told t) part)) ∙ h.all t on;
  }
    where
      by_test : (b : Bool) → length (cond b (page ∷ []) []) ≡ cond b 1 0
      by_test true = refl
      by_test false = refl

  pub writes_walk : (tasks : List ℕ) (before left : ℕ → List ℕ) (part : List Told) → Each (IsOwn trace cpu) part → AreNext tasks before part left
      → Along (PagesAreNext trace) writes_after tasks (map (tells cpu) part)
  writes_walk tasks before left [] own h = tt
  writes_walk tasks before left (wrote task page fresh ∷ part) own h = (
    write_next tasks before left task page fresh part own.0 h,
    writes_walk (task ∷ tasks) (λ t. before t ++ cond (eqb task t) (page ∷ []) []) left part own.1 (next_after tasks before left task page fresh part h),
  )
  writes_walk tasks before left (other ∷ part) own h = (names_others trace cpu tasks other refl own.0, writes_walk tasks before left part own.1 (record { count = h.count; all = h.all }))

module _ (trace : Trace) (logs : HasLogs trace (last_state trace)) (seats : length (last_state trace).cpus ≡ trace.cpus)
    (there : (task : ℕ) → task < length trace.tasks → told_by task (cpu_of (task_cpu trace task) (last_state trace)) ++ to_write (task_of task (last_state trace)) ≡ pages_of_task trace task) where
  abbrev s2 : State
  s2 = last_state trace

  writes : (c : ℕ) → OfPart (PagesAreNext trace) writes_after [] c (told_of (cpu_of c s2))
  writes c =
      let cpu : Cpu = cpu_of c s2 in
      let part : List Told = told_of cpu in
      writes_walk trace c [] (λ t. []) (λ t. to_write (task_of t s2)) part (owns trace c part (logs.own c))
      (record {
        count = λ t. refl;
        all = λ t on.
            ap (λ (l : List ℕ). l ++ to_write (task_of t s2)) (told_pages t cpu.checks cpu.estimates cpu.entries)
            ∙ subst (λ (n : ℕ). told_by t (cpu_of n s2) ++ to_write (task_of t s2) ≡ pages_of_task trace t) on.cpu_is (there t on.there);
      })

  pub writes_in_order : WritesAreInOrder trace (journal_of trace)
  unfolding journal_of
  writes_in_order =
      parts_back (PagesAreNext trace) writes_after [] (λ seen cpu. refl) (λ seen cpu. tt) [] 0 (parts trace logs seats)
      (each_told trace logs seats (OfPart (PagesAreNext trace) writes_after []) (λ c low. writes c))

  -- ---- the ending

  -- no flusher has a fault where there is none
  none_of : (f : ℕ) (which : Option Flight) → of_part false (λ (flight : Flight). is_failure flight.move) which ≡ false
      → of_part false (λ (flight : Flight). is_failure flight.move && eqb flight.flusher f) which ≡ false
  none_of f None none = refl
  none_of f (Some flight) none = ap (λ (b : Bool). b && eqb flight.flusher f) none

  none_in : (f : ℕ) (es : List Told) → Each (λ (e : Told). is_fault e ≡ false) es → count_by (is_fault_of f) es ≡ 0
  none_in f [] each = refl
  none_in f (e ∷ es) each =
      let first = ap {B = ℕ} (λ (b : Bool). cond b 1 0) (none_of f (effect e).flight each.0) in
      let rest = none_in f es each.1 in
      omega (arith, first, rest, sum_by-cons (λ (x : Told). cond (is_fault_of f x) 1 0) e es)

  none_failed : (es : List Told) → Each (λ (e : Told). is_fault e ≡ false) es → (n : ℕ) → some_failed es n ≡ false
  none_failed es each zero = refl
  none_failed es each (suc n) = ap (λ (faults : ℕ). nat_le MOST_FAULTS faults || some_failed es n) (none_in n es each) ∙ none_failed es each n

  no_faults : a_flusher_failed trace (joined (parts trace logs seats)) ≡ false
  no_faults =
      none_failed (joined (parts trace logs seats))
      (each_joined (λ (e : Told). is_fault e ≡ false) (parts trace logs seats) (λ c less.
      let low : c < length s2.cpus = omega (arith, less, many trace logs seats) in
      subst (Each (λ (e : Told). is_fault e ≡ false)) (sym (part_at s2.cpus c low))
      (each_weaker (IsTold trace c) (λ (e : Told). is_fault e ≡ false) (λ e is. is.1.0) (told_of (cpu_of c s2)) (logs.own c)))) (length trace.flushers)

  -- as many writes as pages told
  counts_pages : (task : ℕ) (es : List Told) → count_by (writes_of task) es ≡ length (flat_map (pages_told task) es)
  counts_pages task [] = refl
  counts_pages task (e ∷ es) =
      let rest = counts_pages task es in
      let first = one_write (effect e).write in
      omega (arith, rest, first, sum_by-cons (λ (x : Told). cond (writes_of task x) 1 0) e es, length-append (pages_told task e) (flat_map (pages_told task) es))
    where
      one_write : (which : Option Write) → cond (of_part false (λ (write : Write). eqb write.task task) which) 1 0 ≡ length (of_part [] (λ (write : Write). cond (eqb write.task task) (write.page ∷ []) []) which)
      one_write None = refl
      one_write (Some write) = by_test (eqb write.task task)
        where
          by_test : (b : Bool) → cond b 1 0 ≡ length (cond b (write.page ∷ []) [])
          by_test true = refl
          by_test false = refl

  wrote_all_from : (task_cpus : (t : ℕ) → t < length trace.tasks → task_cpu trace t < trace.cpus)
      → ((task : ℕ) → task < length trace.tasks → told_by task (cpu_of (task_cpu trace task) s2) ≡ pages_of_task trace task)
      → (task : ℕ) (lines : List TaskLine) → task + length lines ≡ length trace.tasks → WroteAll trace (joined (parts trace logs seats)) task lines
  wrote_all_from task_cpus has_wrote task [] sum = tt
  wrote_all_from task_cpus has_wrote task (line ∷ lines) sum =
      let less : task < length trace.tasks = omega (arith, sum) in
      let c : ℕ = task_cpu trace task in
      let low : c < length s2.cpus = omega (arith, task_cpus task less, seats) in
      let cpu : Cpu = cpu_of c s2 in
      let its = part_at_most (λ (e : Told). cond (writes_of task e) 1 0) (parts trace logs seats) c (omega (arith, low, many trace logs seats)) in
      let part_is : count_by (writes_of task) (get_or (parts trace logs seats) c []) ≡ count_by (writes_of task) (told_of cpu) = ap (count_by (writes_of task)) (part_at s2.cpus c low) in
      let pages = counts_pages task (told_of cpu) in
      let all : length (flat_map (pages_told task) (told_of cpu)) ≡ length (pages_of_task trace task) =
      ap (λ (l : List ℕ). length l) (told_pages task cpu.checks cpu.estimates cpu.entries ∙ has_wrote task less) in
      (omega (arith, its, part_is, pages, all), wrote_all_from task_cpus has_wrote (task + 1) lines (omega (arith, sum)))

  pub ending_right : (task_cpus : (t : ℕ) → t < length trace.tasks → task_cpu trace t < trace.cpus) → CompletesAll trace → ((journal_of trace).ending ≡ ending.Spent → ⊥) → EndingIsRight trace (journal_of trace)
  unfolding journal_of
  ending_right task_cpus complete unspent =
      subst (λ (es : List Told). EndsBy trace (parts trace logs seats) es (journal_of trace).left (ending_of s2)) (sym (told_is (map part_of s2.cpus)))
      (by_ending (ending_of s2) refl)
    where
      by_ending : (end : Ending) → ending_of s2 ≡ end → EndsBy trace (parts trace logs seats) (joined (parts trace logs seats)) (journal_of trace).left end
      by_ending ending.Done is = let all = complete is in (no_faults, wrote_all_from task_cpus all.written 0 trace.tasks (omega arith), all.left)
      by_ending ending.Halted is = no_faults
      by_ending ending.Spent is = absurd (unspent is)
      by_ending ending.Faulted is = absurd (never is)
        where
          never : ending_of s2 ≡ ending.Faulted → ⊥
          never e = by_spent s2.spent e
            where
              by_spent : (b : Bool) → cond b ending.Spent (cond (ltb 0 s2.stopped) ending.Halted ending.Done) ≡ ending.Faulted → ⊥
              by_spent true e2 = cc e2
              by_spent false e2 = by_stopped (ltb 0 s2.stopped) e2
                where
                  by_stopped : (b : Bool) → cond b ending.Halted ending.Done ≡ ending.Faulted → ⊥
                  by_stopped true e3 = cc e3
                  by_stopped false e3 = cc e3
