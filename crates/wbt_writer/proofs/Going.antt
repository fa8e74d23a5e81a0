-- A task's turn, by what it was.
use Rattle.std.proofs.Common.{◌≡◌, ℕ, ◌+◌, ◌<◌, ◌≤◌, ◌⊎◌, inl, inr, Bool, true, false, List, [], ◌∷◌, length, map, refl, sym, ap, ◌∙◌, subst, arith, nat_lt, true≢false}
use Rattle.std.proofs.lemmas.Bool.{cases_eq, cases_Bool, ltb-true, ltb-false}
use Rattle.std.proofs.lemmas.List.{append-nil, length-map}
use Rattle.std.proofs.lemmas.Option.{slice_get_within}
use Rattle.wbt_journal.specs.Checks.{MayEnd}
use Rattle.wbt_writer.proofs.Common.{reads_of, Each, Side, end_task, task_of, Told, wrote, CpuJournal, setting, writer_of, Writer, Trace, Kit, Seats, Stepped, Halted, Spent, IsStopped, IsHeld, limits_of, SideWalked, Wrote, writer_at, first_page, Turned, Checks, AreTasksOf, KeepsFixed, OthersStay, cpu_of, side_of, state_of, task_at, written_of, AreOver, IsOver, own_of, AreAt, HaveLefts, HaveRead, IsGoing, OwesNothing, Sight, record_in, sight, Did, Does, IsCheck, CutOff}
use Rattle.wbt_kit.proofs.Common.{HasNoPageSteps}
use Rattle.wbt_run_laws.specs.Shown.{none_shown}
use Rattle.wbt_journal.specs.Side.{ends}
use Rattle.wbt_run_laws.proofs.Growing.{by_nothing}
use Rattle.wbt_run_laws.proofs.Logging.{logged_nothing}
use Rattle.wbt_writer.specs.Answers.{AreHeld, Goes, WorkMayGoOn}
use Rattle.wbt_writer.specs.Checks.{LoadsAlone}
use Rattle.wbt_writer.specs.Counted.{IsJob, RestsFor}
use Rattle.wbt_writer.proofs.Over.{end_over, no_due_of, own_over}
use Rattle.wbt_writer.proofs.Standing.{at_tasks}
use Rattle.wbt_writer.specs.Took.{checks, rests, writes_already, writes_fresh}
use Rattle.wbt_writer.specs.Writes.{Written, WrittenFresh}
use Rattle.wbt_writer.specs.declared.task.TaskPlace.{TaskPlace}
use Rattle.wbt_writer.specs.declared.tasks.TaskJob.TheVariants as job
use Rattle.wbt_writer.specs.declared.tasks.Tasks.{Tasks}
use Rattle.wbt_writer.specs.declared.work.WriterWork.{WriterWork}
use Rattle.wbt_writer.proofs.Acting.{IsQuietEvent, does_act}
use Rattle.wbt_writer.proofs.Alone.{wrote_nothing}
use Rattle.wbt_writer.proofs.Holding.{none_to_hold}
use Rattle.wbt_writer.proofs.Lefts.{end_ends, end_keeps, has_ended_is}
use Rattle.wbt_writer.proofs.Marking.{keeps_puts}
use Rattle.wbt_writer.proofs.Writing.{does_none}

abbrev pub with_tasks : (work : WriterWork) (tasks : Tasks) → WriterWork
with_tasks work tasks = record { tasks = tasks; fractions = work.fractions; waiting = work.waiting }

-- the task's turn has begun
abbrev pub begun : (task : ℕ) (tasks : Tasks) → Tasks
begun task tasks = record tasks { next = task + 1 }

below : (a b : ℕ) → (a < b) ⊎ (b ≤ a)
below a b = elim (cases_Bool (nat_lt a b)) [ inl less ↦ inl (ltb-true a b less) | inr not ↦ inr (ltb-false a b not) ]

-- fractions that are kept were read still
pub still_read : (trace : Trace) (opened cpu : ℕ) (told : List ℕ) (added : List Told) (old new : Sight) → Did trace opened cpu told added old new → HaveRead trace old.work old.seats → HaveRead trace new.work new.seats
still_read trace opened cpu told added old new did have = (did.turn (λ flusher. none_shown)).shares.kept have

module _ (told : ℕ → Type 0) (said : ℕ → ℕ → Bool → Type 0) (trace : Trace) (kit : Kit) (cpu task now : ℕ) (work : WriterWork) (seats : Seats) (log : CpuJournal) (mid : Tasks) (only : mid ≡ record work.tasks { next = task + 1 })
    (goes : Goes told work.tasks now task) where
  abbrev opened : ℕ
  opened = kit.published.moment

  abbrev old : Sight
  old = sight work seats log

  abbrev beginning : Sight
  beginning = sight (with_tasks work (begun task work.tasks)) seats log

  did_begun : (moments : List ℕ) (added : List Told) (new : Sight) → Did trace opened cpu moments added beginning new → Did trace opened cpu moments added old new
  did_begun moments added new d = record { logged = d.logged; turn = d.turn; moments = d.moments; keeps = d.keeps }

  check_begun : (added : List Told) (new : Sight) → IsCheck trace kit cpu task added beginning new → IsCheck trace kit cpu task added old new
  check_begun added new c = record {
    check = c.check;
    added_is = c.added_is;
    its_task = c.its_task;
    its_context = c.its_context;
    due = c.due;
    readings = c.readings;
    triples = c.triples;
    holds = c.holds;
    fractions = c.fractions;
    estimate = c.estimate;
    named = c.named;
    estimated = c.estimated;
    decision = c.decision;
    rests = c.rests;
  }

  -- ---- a check

  -- what it told is held
  check_held : (added : List Told) (new : Sight) → IsCheck trace kit cpu task added beginning new → AreHeld kit cpu added new.seats
  check_held added new c = subst (λ (l : List Told). AreHeld kit cpu l new.seats) (sym c.added_is)
      (subst (Each (IsHeld (setting kit.throttle.layout).firsts (record_in cpu new.seats).triples)) (sym (append-nil (map limits_of (reads_of c.check)))) c.holds)

  pub turned_by_check : (new : Sight) → Checks told trace kit cpu task (sight (with_tasks work mid) seats log) new → Turned told said trace cpu kit Stepped (sight work seats log) new
  turned_by_check new by =
      let c : Checks told trace kit cpu task beginning new = subst (λ (s : Tasks). Checks told trace kit cpu task (sight (with_tasks work s) seats log) new) only by in
      record {
        moments = c.now ∷ [];
        were_told = (c.was_told, tt);
        added = c.added;
        did = did_begun (c.now ∷ []) c.added new c.did;
        holds = check_held c.added new c.is_check;
        answers = (now, task, goes, checks (check_begun c.added new c.is_check));
      }

  pub goes_on_by_check : (new : Sight) → Checks told trace kit cpu task (sight (with_tasks work mid) seats log) new → HaveRead trace work seats → WorkMayGoOn Stepped trace cpu kit new.work seats new.seats
  goes_on_by_check new by have =
      let c : Checks told trace kit cpu task beginning new = subst (λ (s : Tasks). Checks told trace kit cpu task (sight (with_tasks work s) seats log) new) only by in
      (c.owes_nothing, c.lefts, still_read trace opened cpu (c.now ∷ []) c.added old new (did_begun (c.now ∷ []) c.added new c.did) have, c.owes_no_more)

  pub halted_by_check : (new : Sight) → LoadsAlone trace kit cpu (sight (with_tasks work mid) seats log) new → IsStopped cpu said new.seats → Turned told said trace cpu kit Halted (sight work seats log) new
  halted_by_check new by stopped =
      let c : LoadsAlone trace kit cpu beginning new = subst (λ (s : Tasks). LoadsAlone trace kit cpu (sight (with_tasks work s) seats log) new) only by in
      record {
        moments = [];
        were_told = tt;
        added = [];
        did = did_begun [] [] new (c.does []);
        holds = tt;
        answers = (now, task, goes, stopped);
      }

  -- ---- a write

  pub turned_by_already : (inode page : ℕ) (new : Sight) → IsJob trace mid task (job.Write inode page) → Written trace kit cpu (wrote task (first_page trace inode + page) false ∷ []) (sight (with_tasks work mid) seats log) new
      → Turned told said trace cpu kit Stepped (sight work seats log) new
  turned_by_already inode page new its by =
      let added : List Told = wrote task (first_page trace inode + page) false ∷ [] in
      let c : Written trace kit cpu added beginning new = subst (λ (s : Tasks). Written trace kit cpu added (sight (with_tasks work s) seats log) new) only by in
      record {
        moments = [];
        were_told = tt;
        added = added;
        did = did_begun [] added new (c.does []);
        holds = none_to_hold kit cpu added new.seats (c.does []).moments;
        answers = (now, task, goes, writes_already (record { inode = inode; page = page; its_job = subst (λ (s : Tasks). IsJob trace s task (job.Write inode page)) only its; added_is = refl }));
      }

  pub goes_on_by_write : (added : List Told) (new : Sight) → Written trace kit cpu added (sight (with_tasks work mid) seats log) new → HaveRead trace work seats → WorkMayGoOn Stepped trace cpu kit new.work seats new.seats
  goes_on_by_write added new by have =
      let c : Written trace kit cpu added beginning new = subst (λ (s : Tasks). Written trace kit cpu added (sight (with_tasks work s) seats log) new) only by in
      (c.owes_nothing, c.lefts, still_read trace opened cpu [] added old new (did_begun [] added new (c.does [])) have, c.owes_no_more)

  pub turned_by_fresh : (inode page : ℕ) (new : Sight) → IsJob trace mid task (job.Write inode page) → WrittenFresh trace kit cpu task inode page (sight (with_tasks work mid) seats log) new
      → Turned told said trace cpu kit Stepped (sight work seats log) new
  turned_by_fresh inode page new its by =
      let c : WrittenFresh trace kit cpu task inode page beginning new = subst (λ (s : Tasks). WrittenFresh trace kit cpu task inode page (sight (with_tasks work s) seats log) new) only by in
      record {
        moments = [];
        were_told = tt;
        added = wrote task (first_page trace inode + page) true ∷ c.folds;
        did = did_begun [] (wrote task (first_page trace inode + page) true ∷ c.folds) new (c.written.does []);
        holds = none_to_hold kit cpu (wrote task (first_page trace inode + page) true ∷ c.folds) new.seats (c.written.does []).moments;
        answers = (
          now,
          task,
          goes,
          writes_fresh (record {
            inode = inode;
            page = page;
            its_job = subst (λ (s : Tasks). IsJob trace s task (job.Write inode page)) only its;
            folds = c.folds;
            added_is = refl;
            each_fold = c.each_fold;
            before_mark = c.before_mark;
            marks = c.marks;
          }),
        );
      }

  pub halted_by_write : (new : Sight) → CutOff trace cpu kit.published.moment said (sight (with_tasks work mid) seats log) new → Turned told said trace cpu kit Halted (sight work seats log) new
  halted_by_write new by =
      let c : CutOff trace cpu opened said beginning new = subst (λ (s : Tasks). CutOff trace cpu opened said (sight (with_tasks work s) seats log) new) only by in
      record {
        moments = [];
        were_told = tt;
        added = c.added;
        did = did_begun [] c.added new (c.does []);
        holds = none_to_hold kit cpu c.added new.seats (c.does []).moments;
        answers = (now, task, goes, c.stopped);
      }

  pub spent_by_write : (new : Sight) → new ≡ sight (with_tasks work mid) seats log → HasNoPageSteps (setting kit.throttle.layout) cpu seats.cpu → Turned told said trace cpu kit Spent (sight work seats log) new
  spent_by_write new same none =
      let is : new ≡ beginning = same ∙ ap (λ (s : Tasks). sight (with_tasks work s) seats log) only in
      record {
        moments = [];
        were_told = tt;
        added = [];
        did = subst (λ (s : Sight). Did trace opened cpu [] [] old s) (sym is) (did_begun [] [] beginning (does_none trace opened cpu (with_tasks work (begun task work.tasks)) seats log []));
        holds = tt;
        answers = (
          now,
          task,
          goes,
          none,
          (record { cpu = ap (λ (s : Sight). s.seats.cpu) is; share = ap (λ (s : Sight). s.seats.share) is; est = ap (λ (s : Sight). s.seats.est) is; log = ap (λ (s : Sight). s.log) is }),
          ap (λ (s : Sight). s.work.tasks) is,
        );
      }

  -- ---- a rest

  module _ (ticks : ℕ) (going : IsGoing trace work.tasks task) (long : length work.tasks.tasks.items ≡ length trace.tasks) (its : RestsFor trace mid task ticks) (is : Tasks)
      (rest_is : (task_at is task).rest ≡ now + ticks)
      (goes_on : (task_at is task).at < length trace.actions → side_of is ≡ side_of mid)
      (its_end : length trace.actions ≤ (task_at is task).at → side_of is ≡ end_task trace kit.published.moment task (side_of mid))
      (may_end : length trace.actions ≤ (task_at is task).at → MayEnd trace (side_of mid) task)
      (written : (task_at is task).written ≡ (task_at mid task).written) (others : OthersStay task mid is) where
    side_mid : side_of mid ≡ side_of work.tasks
    side_mid = ap side_of only

    side_ends : length trace.actions ≤ (task_at is task).at → side_of is ≡ end_task trace opened task (side_of work.tasks)
    side_ends past = its_end past ∙ ap (λ (s : Side). end_task trace opened task s) side_mid

    abbrev new : Sight
    new = sight (with_tasks work is) seats log

    written_at : (n : ℕ) → written_of is n ≡ written_of work.tasks n
    written_at n = elim (cases_eq n task) [
      | inl same ↦ subst (λ (k : ℕ). written_of is k ≡ written_of work.tasks k) (sym same) (written ∙ ap (λ (s : Tasks). written_of s task) only)
      | inr other ↦ ap (λ (x : TaskPlace). x.written) (others n other) ∙ ap (λ (s : Tasks). written_of s n) only
    ]

    wrote_none : Wrote trace cpu (written_of work.tasks) [] (written_of is)
    wrote_none = subst (λ (w : ℕ → ℕ). Wrote trace cpu (written_of work.tasks) [] w) (λ i n. sym (written_at n) i) (wrote_nothing trace cpu (written_of work.tasks))

    act_of : (side : SideWalked trace opened cpu (side_of work.tasks) [] (side_of is)) → Each IsQuietEvent side.events → Does trace opened cpu [] old new
    act_of side quiet = does_act trace opened cpu [] old new (record {
      quiet = tt;
      logged = logged_nothing log;
      grew = by_nothing (record_in cpu seats);
      side = side;
      events_quiet = quiet;
      wrote = wrote_none;
      own = tt;
      share = refl;
      est = refl;
      fractions = refl;
      keeps = keeps_puts cpu work work seats seats (record { tasks = refl; fractions = refl; cpu = refl; share = refl; est = refl; queues = λ device. refl });
    })

    did_rest : Does trace opened cpu [] old new
    did_rest = elim (below (task_at is task).at (length trace.actions)) [
      | inl less ↦ act_of (record { events = []; are = refl; walked = record { allowed = tt; reached = sym (goes_on less ∙ side_mid) } }) tt
      | inr past ↦ act_of (record {
        events = ends task ∷ [];
        are = refl;
        walked = record {
          allowed = (subst (λ (s : Side). MayEnd trace s task) side_mid (may_end past), tt);
          reached = sym (side_ends past);
        };
      }) ((λ trace opened known s. tt), tt)
    ]

    task_there : task < length (side_of work.tasks).tasks
    task_there = let same = length-map work.tasks.tasks.items state_of in let low = going.there in omega arith

    stays : (n : ℕ) → (task_at is (writer_at trace n).task).ended ≡ false → writer_of (cpu_of is) n ≡ writer_of (cpu_of work.tasks) n
    stays n ended = elim (below (task_at is task).at (length trace.actions)) [
      | inl less ↦ ap (λ (s : Side). writer_of s.cpu n) (goes_on less ∙ side_mid)
      | inr past ↦ ap (λ (s : Side). writer_of s.cpu n) (side_ends past) ∙ end_keeps trace opened task n (side_of work.tasks)
          (λ e. true≢false (sym (end_ends trace opened task (side_of work.tasks) task_there) ∙ ap (λ (s : Side). (task_of s task).has_ended) (sym (side_ends past)) ∙ has_ended_is is task
          ∙ subst (λ (k : ℕ). (task_at is k).ended ≡ false) e ended))
    ]

    was_going : (n : ℕ) → (task_at is n).ended ≡ false → (task_at work.tasks n).ended ≡ false
    was_going n ended = elim (cases_eq n task) [
      | inl same ↦ subst (λ (k : ℕ). (task_at work.tasks k).ended ≡ false) (sym same) going.going
      | inr other ↦ ap (λ (s : Tasks). (task_at s n).ended) (sym only) ∙ ap (λ (x : TaskPlace). x.ended) (sym (others n other)) ∙ ended
    ]

    lefts : HaveLefts trace cpu kit work.tasks seats → HaveLefts trace cpu kit is seats
    lefts had = record {
      each = λ n low seat ended quiet.
          had.each n low seat (was_going (writer_at trace n).task ended) (ap (λ (x : Writer). x.due) (sym (stays n ended)) ∙ quiet) ∙ ap (λ (x : Writer). x.left) (sym (stays n ended));
    }

    pub turned_by_rest : Turned told said trace cpu kit Stepped (sight work seats log) (sight (with_tasks work is) seats log)
    turned_by_rest = record {
      moments = [];
      were_told = tt;
      added = [];
      did = did_rest [];
      holds = tt;
      answers = (
        now,
        task,
        goes,
        rests (record {
          ticks = ticks;
          its_job = subst (λ (s : Tasks). RestsFor trace s task ticks) only its;
          none_told = refl;
          cpu = refl;
          share = refl;
          est = refl;
          rests = rest_is;
        }),
      );
    }

    pub goes_on_by_rest : OwesNothing cpu seats → HaveLefts trace cpu kit work.tasks seats → HaveRead trace work seats → WorkMayGoOn Stepped trace cpu kit (with_tasks work is) seats seats
    goes_on_by_rest none had have = (none, lefts had, still_read trace opened cpu [] [] old new (did_rest []) have, λ i owes. owes)

    -- ---- it stays at the kit

    own_is : (task_at is task).own ≡ (task_at mid task).own → (n : ℕ) → (task_at is n).own ≡ (task_at mid n).own
    own_is own n = elim (cases_eq n task) [
      | inl same ↦ subst (λ (k : ℕ). (task_at is k).own ≡ (task_at mid k).own) (sym same) own
      | inr other ↦ ap (λ (x : TaskPlace). x.own) (others n other)
    ]

    rest_over : (task_at is task).own ≡ (task_at mid task).own → AreOver trace work.tasks → AreOver trace is
    rest_over own over = own_over trace (own_of work.tasks) (own_of is) (side_of is) (λ n. own_is own n ∙ ap (λ (s : Tasks). (task_at s n).own) only) (elim (below (task_at is task).at (length trace.actions)) [
      | inl less ↦ subst (IsOver trace (own_of work.tasks)) (sym (goes_on less ∙ side_mid)) over
      | inr past ↦
          let may : MayEnd trace (side_of work.tasks) task = subst (λ (s : Side). MayEnd trace s task) side_mid (may_end past) in
          subst (IsOver trace (own_of work.tasks)) (sym (side_ends past))
          (end_over trace (own_of work.tasks) opened task (side_of work.tasks) task_there may.wrote_all (no_due_of trace (side_of work.tasks) task may.quiet) over)
    ])

    at_begun : AreAt trace cpu kit work seats → AreTasksOf trace mid → AreAt trace cpu kit (with_tasks work mid) seats
    at_begun at tasks = record {
      is_work = record {
        lawful = at.is_work.lawful;
        tasks = tasks;
        next = (let a = ap (λ (s : Tasks). s.next) only in let b = ap (λ (s : Tasks). length s.tasks.items) only in let low = going.there in omega arith);
        fractions = at.is_work.fractions;
        proper = at.is_work.proper;
        waiting = at.is_work.waiting;
        over = subst (AreOver trace) (sym only) at.is_work.over;
      };
      suits = at.suits;
      its = record { ratelimit = ap (λ (s : Tasks). s.ratelimit_pages) only ∙ at.its.ratelimit; own = λ n low. ap (λ (s : Tasks). (task_at s n).own) only ∙ at.its.own n low };
      fits = at.fits;
    }

    pub at_rested : AreAt trace cpu kit work seats → AreTasksOf trace mid → (task_at is task).own ≡ (task_at mid task).own → AreTasksOf trace is → KeepsFixed mid is → AreAt trace cpu kit (with_tasks work is) seats
    at_rested at before own tasks fixed =
        at_tasks trace cpu kit (with_tasks work mid) (with_tasks work is) seats seats (at_begun at before) tasks fixed (λ n low. own_is own n) (rest_over own at.is_work.over) refl refl at.fits

  -- ---- a rest before the task's next page

  module _ (ticks : ℕ) (going : IsGoing trace work.tasks task) (long : length work.tasks.tasks.items ≡ length trace.tasks) (its : IsJob trace mid task (job.Pause ticks)) (is : Tasks)
      (side : side_of is ≡ side_of mid) (own : task_at is task ≡ record (task_at mid task) { since = 0; rest = now + ticks }) (others : OthersStay task mid is) where
    not_past : length trace.actions ≤ (task_at is task).at → ⊥
    not_past past =
        let less = slice_get_within trace.actions (task_at mid task).at _ its.1.1.3 in
        let same = ap (λ (x : TaskPlace). x.at) own in omega arith

    pub turned_by_pause : Turned told said trace cpu kit Stepped (sight work seats log) (sight (with_tasks work is) seats log)
    turned_by_pause = turned_by_rest ticks going long (inr its) is (ap (λ (x : TaskPlace). x.rest) own) (λ less. side) (λ past. absurd (not_past past)) (λ past. absurd (not_past past))
        (ap (λ (x : TaskPlace). x.written) own) others

    pub goes_on_by_pause : OwesNothing cpu seats → HaveLefts trace cpu kit work.tasks seats → HaveRead trace work seats → WorkMayGoOn Stepped trace cpu kit (with_tasks work is) seats seats
    goes_on_by_pause = goes_on_by_rest ticks going long (inr its) is (ap (λ (x : TaskPlace). x.rest) own) (λ less. side) (λ past. absurd (not_past past)) (λ past. absurd (not_past past))
        (ap (λ (x : TaskPlace). x.written) own) others

    pub at_paused : AreAt trace cpu kit work seats → AreTasksOf trace mid → AreTasksOf trace is → KeepsFixed mid is → AreAt trace cpu kit (with_tasks work is) seats
    at_paused at before = at_rested ticks going long (inr its) is (ap (λ (x : TaskPlace). x.rest) own) (λ less. side) (λ past. absurd (not_past past)) (λ past. absurd (not_past past))
        (ap (λ (x : TaskPlace). x.written) own) others at before (ap (λ (x : TaskPlace). x.own) own)
