-- A whole check: its loads, its reads, its entry, and what its writer and its task get.
use Rattle.std.proofs.Common.{◌≡◌, ◌≢◌, ℕ, ◌<◌, ◌≤◌, inl, inr, true, false, List, [], ◌∷◌, flat_map, length, get_or, set, Option, Some, None, refl, sym, ap, ◌∙◌, subst, arith}
use Rattle.std.specs.Prelude.{Contains}
use Rattle.std.proofs.lemmas.Bool.{cases_eq, cond-true}
use Rattle.std.proofs.lemmas.List.{get_or-set_same, get_or-set_other, length-map, length-set}
use Rattle.wbt_writer.proofs.Common.{MOST_PAGE_STEPS, times_in, Estimate, Setting, writer_in, CpuRecord, WriterRecord, note_of, IsInRange, tells, context_domain, ratelimit_pages, contexts, Side, all_writers, item, settle, task_of, is_own_task, checked, CheckEntry, CpuJournal, Decision, Kind, known_of, DomainLine, is_strict, setting, Seated, Cpu, cpu_step, new_writer, writer_of, Checked, Writer, Trace, IsOwn, Grew, WereHeld, limits_in, Kit, Seats, Wait, record_of, EstimatesGrew, Notes, SharesGrew, SideWalked, Wrote, writer_at, Gives, given_by, reads_for, Checks, OthersStay, cpu_of, is_due_at, rest_after, side_of, task_at, written_of, no_name, state_of, AreAt, HaveLefts, HaveRead, IsGoing, OwesNothing, Sight, fractions_of, notes_of, record_in, sight, Did, Keeps, HasLines, LinesRead, fractions_after, Gets, LoadedAll, loads_in, triples_in, IsCheck, apart_more}
use Rattle.wbt_kit.proofs.Common.{fits_length, domains, first_estimates, Layout}
use Rattle.wbt_fraction.specs.Several as fraction
use Rattle.wbt_fraction.specs.Seat.{Seated as ShareSeat}
use Rattle.wbt_run_laws.specs.Noted.{DecidesByRead}
use Rattle.wbt_journal.specs.Checks.{asked_by}
use Rattle.wbt_journal.specs.Side.{check_by as check_side}
use Rattle.wbt_pause.specs.declared.reads.Task.{Task as Numbers}
use Rattle.wbt_published.specs.Passes as est
use Rattle.wbt_run_steps.specs.Records.{firsts_of}
use Rattle.wbt_queue.specs.Passes as queue
use Rattle.wbt_strict.specs.Decision.{decision_for}
use Rattle.wbt_task.specs.History.{checked_writer, due_again}
use Rattle.wbt_task.specs.declared.allowance.Due.TheVariants as due
use Rattle.wbt_run_laws.specs.Log.{with_check}
use Rattle.wbt_run_laws.specs.Notes.{AreKept}
use Rattle.wbt_run_laws.proofs.Entering.{others_write_none}
use Rattle.wbt_run_laws.proofs.Lists.{here}
use Rattle.wbt_run_laws.proofs.Logging.{logged_check}
use Rattle.wbt_run_steps.specs.Reads.{ReadsEstimate}
use Rattle.wbt_writer.specs.Asked.{check_by}
use Rattle.wbt_writer.specs.Did.{OwesNoMore}
use Rattle.wbt_writer.specs.Lines.{ReadsGroup}
use Rattle.wbt_writer.specs.declared.lines.Lines.{Lines}
use Rattle.wbt_writer.specs.declared.loads.Loads.{Loads}
use Rattle.wbt_writer.specs.declared.task.TaskPlace.{TaskPlace}
use Rattle.wbt_writer.specs.declared.tasks.Tasks.{Tasks}
use Rattle.wbt_writer.specs.declared.work.Fractions.{Fractions}
use Rattle.wbt_writer.specs.declared.work.WriterWork.{WriterWork}
use Rattle.wbt_writer.proofs.Acting.{notes_with}
use Rattle.wbt_writer.proofs.Changing.{apart_same}
use Rattle.wbt_writer.proofs.Facts.{context_there, group_line_is, inside, is_own, may_check, number_is, own_check, domain_below}
use Rattle.wbt_writer.proofs.Judging.{Left, check_estimates, check_grew, check_held, check_holds, check_readings, check_triples, given_leaves, given_others, given_own, has_note}
use Rattle.wbt_writer.proofs.Lefts.{has_ended_is, settle_keeps}
use Rattle.wbt_writer.proofs.Sharing.{IsGroupLine, check_shares, kept_then}

-- what a check makes of its writer, and of others
step_own : (rl cap : ℕ) (cpu : Cpu) (w : ℕ) (decision : Decision) → w < length cpu.writers → writer_of (cpu_step rl cap cpu (Checked w decision)) w ≡ checked_writer decision
unfolding cpu_step
step_own rl cap cpu w decision there = get_or-set_same cpu.writers w (checked_writer decision) (new_writer 0) there

pub step_others : (rl cap : ℕ) (cpu : Cpu) (w n : ℕ) (decision : Decision) → n ≢ w → writer_of (cpu_step rl cap cpu (Checked w decision)) n ≡ writer_of cpu n
unfolding cpu_step
step_others rl cap cpu w n decision other = get_or-set_other cpu.writers w n (checked_writer decision) (new_writer 0) other

not_waiting : (kind : Kind) → due_again kind ≡ due.No → kind ≢ Wait
not_waiting kind quiet is = no_check (sym (ap due_again is) ∙ quiet)
  where
    no_check : due.Check ≡ due.No → ⊥
    no_check e = cc

-- what the tasks made of it
pub record TasksChecked (trace : Trace) (opened task now : ℕ) (decision : Decision) (old new : Tasks) : Type 0 where
  pub side : side_of new ≡ settle trace opened task (check_side trace opened task (task_at old task).context decision (side_of old))
  pub own : task_at new task ≡ record (task_at old task) { rest = rest_after decision now (task_at old task); ended = (task_at new task).ended }
  pub others : OthersStay task old new

module _ (trace : Trace) (kit : Kit) (cpu task now : ℕ) (was is : WriterWork) (s0 s1 s2 s3 : Seats) (log : CpuJournal) (loads : Loads) (lines : Lines) (estimate : Estimate) where
  abbrev set' : Setting
  set' = setting kit.throttle.layout

  abbrev opened : ℕ
  opened = kit.published.moment

  abbrev t : TaskPlace
  t = task_at was.tasks task

  abbrev numbers : Numbers
  numbers = (writer_of (cpu_of was.tasks) t.writer).task

  abbrev check : CheckEntry
  check = check_by trace task t.context now loads lines estimate numbers

  abbrev old : Sight
  old = sight was s0 log

  abbrev new : Sight
  new = sight is s3 (with_check check log)

  module _ (at : AreAt trace cpu kit was s0) (going : IsGoing trace was.tasks task) (due_now : is_due_at (cpu_of was.tasks) (task_at was.tasks task).writer ≡ true) (have : HaveRead trace was s0)
      (loaded : LoadedAll (setting kit.throttle.layout) cpu (task_at was.tasks task).writer (task_at was.tasks task).context (context_domain trace (task_at was.tasks task).context) loads s0 s1)
      (has : HasLines loads lines) (read : LinesRead (task_at was.tasks task).context lines (fractions_of (task_at was.tasks task).context was) s1.share s2.share)
      (estimated : ReadsEstimate kit.published.firsts (task_at was.tasks task).context estimate s1.est s2.est) (same_cpu : s2.cpu ≡ s1.cpu) (same_queue : s2.queue ≡ s1.queue)
      (gives : Gives cpu (task_at was.tasks task).writer check.decision s2 s3)
      (fractions : is.fractions.items ≡ set was.fractions.items (task_at was.tasks task).context (fractions_after lines (fractions_of (task_at was.tasks task).context was)))
      (tasks : TasksChecked trace kit.published.moment task now check.decision was.tasks is.tasks) (ranged : IsInRange check estimate numbers) where
    -- ---- the record

    becomes : record_in cpu s3 ≡ given_by check.decision.kind t.writer check.decision.left (record_in cpu s1)
    becomes = gives.becomes ∙ ap (λ (s : Seated). given_by check.decision.kind t.writer check.decision.left (record_of cpu s.cpus)) same_cpu

    left : Left (record_in cpu s1) (record_in cpu s3)
    left = subst (λ (r : CpuRecord). Left (record_in cpu s1) r) (sym becomes) (given_leaves check.decision.kind t.writer check.decision.left (record_in cpu s1))

    gets : Gets set' (loads_in t.context loads) (triples_in loads) (record_in cpu s0) (record_in cpu s1)
    gets = loaded.loaded.gets

    keeps : Keeps cpu s0 s3
    keeps = record {
      apart = apart_more cpu s0.cpu s1.cpu s3.cpu loaded.loaded.on.apart (apart_more cpu s1.cpu s2.cpu s3.cpu (apart_same cpu s1.cpu s2.cpu same_cpu) gives.on.apart);
      held = left.held ∙ gets.held;
      rescans = λ page owes. subst (λ (l : List ℕ). 1 ≤ times_in page l) (left.rescans ∙ gets.rescans) owes;
      stakes = λ d. ap (λ (s : fraction.Seats). fraction.stakes_in d s.domains) gives.on.share ∙ stakes_two d ∙ stakes_one d ∙ ap (λ (s : fraction.Seats). fraction.stakes_in d s.domains) loaded.loaded.on.share;
      rooms = λ d. ap (λ (s : fraction.Seats). fraction.room_in d s.domains) gives.on.share ∙ rooms_two d ∙ rooms_one d ∙ ap (λ (s : fraction.Seats). fraction.room_in d s.domains) loaded.loaded.on.share;
      totals = ap (λ (s : fraction.Seats). s.totals) gives.on.share ∙ totals_two ∙ read.global.totals ∙ ap (λ (s : fraction.Seats). s.totals) loaded.loaded.on.share;
      queues = λ d. ap (λ (s : queue.Seats). (queue.known_of d s).stakes) (gives.on.queue ∙ same_queue ∙ loaded.loaded.on.queue);
      few = λ low. subst (λ (n : ℕ). n ≤ MOST_PAGE_STEPS) (sym (left.page_steps ∙ gets.gathered.page_steps)) low;
    }
      where
        stakes_one : (d : ℕ) → fraction.stakes_in d read.between.domains ≡ fraction.stakes_in d s1.share.domains
        stakes_one d = read.global.stakes d

        rooms_one : (d : ℕ) → fraction.room_in d read.between.domains ≡ fraction.room_in d s1.share.domains
        rooms_one d = read.global.rooms d

        two : (line : Option DomainLine) → ReadsGroup t.context line (fractions_of t.context was).group read.between s2.share
            → ((d : ℕ) → fraction.stakes_in d s2.share.domains ≡ fraction.stakes_in d read.between.domains) × ((d : ℕ) → fraction.room_in d s2.share.domains ≡ fraction.room_in d read.between.domains) × (s2.share.totals ≡ read.between.totals)
        two None same = (λ d. ap (λ (s : fraction.Seats). fraction.stakes_in d s.domains) same, λ d. ap (λ (s : fraction.Seats). fraction.room_in d s.domains) same, ap (λ (s : fraction.Seats). s.totals) same)
        two (Some line) more = (more.stakes, more.rooms, more.totals)

        stakes_two : (d : ℕ) → fraction.stakes_in d s2.share.domains ≡ fraction.stakes_in d read.between.domains
        stakes_two = (two lines.cgroup read.group).0

        rooms_two : (d : ℕ) → fraction.room_in d s2.share.domains ≡ fraction.room_in d read.between.domains
        rooms_two = (two lines.cgroup read.group).1

        totals_two : s2.share.totals ≡ read.between.totals
        totals_two = (two lines.cgroup read.group).2

    -- ---- the side

    has_line : IsGroupLine (context_domain trace t.context) lines.cgroup
    has_line = group_line_is (context_domain trace t.context) loads.group lines.cgroup loaded.group_is has.group

    side_walked : SideWalked trace opened cpu (side_of was.tasks) (checked check ∷ []) (side_of is.tasks)
    side_walked = record {
      events = item (tells cpu (checked check)) ∷ [];
      are = refl;
      walked = record {
        allowed = (record { write = tt; check = λ own. may_check trace cpu kit was s0 at task going due_now check refl refl has.domain has_line }, tt);
        reached = cond-true (is_own_task trace cpu task) (settle trace opened task (check_side trace opened task t.context check.decision (side_of was.tasks))) (side_of was.tasks) (is_own trace cpu kit was s0 at task going due_now) ∙ sym tasks.side;
      };
    }

    wrote_at : (n : ℕ) → written_of is.tasks n ≡ written_of was.tasks n
    wrote_at n = elim (cases_eq n task) [
      | inl same ↦ subst (λ (k : ℕ). written_of is.tasks k ≡ written_of was.tasks k) (sym same) (ap (λ (x : TaskPlace). x.written) tasks.own)
      | inr other ↦ ap (λ (x : TaskPlace). x.written) (tasks.others n other)
    ]

    own_told : IsOwn trace cpu (checked check)
    own_told = record {
      write = tt;
      fold = tt;
      check = own_check trace cpu kit was s0 at task going due_now check refl refl has.domain has_line;
      flight = tt;
      share = tt;
      estimate = tt;
      wait = tt;
    }

    wrote_none : Wrote trace cpu (written_of was.tasks) (checked check ∷ []) (written_of is.tasks)
    wrote_none = subst (λ (w : ℕ → ℕ). Wrote trace cpu (written_of was.tasks) (checked check ∷ []) w) (λ i n. sym (wrote_at n) i) (others_write_none trace cpu (checked check) (written_of was.tasks) refl own_told)

    -- ---- notes

    domains_long : length s1.share.domains ≡ domains trace
    domains_long = ap (λ (s : fraction.Seats). length s.domains) loaded.loaded.on.share ∙ fits_length kit.shares.domains s0.share.domains at.fits.seats_are.share.0 ∙ at.suits.shared_domains

    between_long : length read.between.domains ≡ domains trace
    between_long = ap (λ (l : List ShareSeat). length l) read.global.domains_are ∙ length-set s1.share.domains 0 read.global.mid ∙ domains_long

    there : t.context < contexts trace
    there = context_there trace cpu kit was s0 at task going due_now

    kept_there : t.context < length was.fractions.items
    kept_there = let long = at.is_work.fractions in let low = there in omega arith

    group_low : context_domain trace t.context < length read.between.domains
    group_low = let low = domain_below trace at.is_work.lawful t.context there in let long = between_long in omega arith

    some_domain : 0 < length s1.share.domains
    some_domain = let long = domains_long in omega arith

    have_one : AreKept (notes_with trace was.fractions.items s1.share s1.est)
    have_one = subst (λ (z : fraction.Seats × est.Seats). AreKept (notes_with trace was.fractions.items z.0 z.1)) (λ i. (sym loaded.loaded.on.share i, sym loaded.loaded.on.est i)) have

    shares_two : SharesGrew cpu (checked check ∷ []) (notes_with trace was.fractions.items s1.share s1.est) (notes_with trace (set was.fractions.items t.context (fractions_after lines (fractions_of t.context was))) s2.share s2.est)
    shares_two = check_shares trace t.context lines was.fractions.items s1.est s2.est s1.share read.between s2.share kept_there some_domain has.domain has_line group_low read.global read.group have_one cpu check refl refl refl

    kept_two : AreKept (notes_with trace (set was.fractions.items t.context (fractions_after lines (fractions_of t.context was))) s2.share s2.est)
    kept_two = kept_then trace t.context lines was.fractions.items s1.est s2.est s1.share read.between s2.share kept_there some_domain has.domain has_line group_low read.global read.group have_one

    notes_old : notes_with trace was.fractions.items s1.share s1.est ≡ notes_of trace old
    notes_old = ap (λ (z : fraction.Seats × est.Seats). notes_with trace was.fractions.items z.0 z.1) (λ i. (loaded.loaded.on.share i, loaded.loaded.on.est i))

    notes_new : notes_with trace (set was.fractions.items t.context (fractions_after lines (fractions_of t.context was))) s2.share s2.est ≡ notes_of trace new
    notes_new = ap (λ (z : List Fractions × fraction.Seats × est.Seats). notes_with trace z.0 z.1 z.2) (λ i. (sym fractions i, sym gives.on.share i, sym gives.on.est i))

    shares_grew : SharesGrew cpu (checked check ∷ []) (notes_of trace old) (notes_of trace new)
    shares_grew = subst (λ (z : Notes × Notes). SharesGrew cpu (checked check ∷ []) z.0 z.1) (λ i. (notes_old i, notes_new i)) shares_two

    pub have_read : HaveRead trace is s3
    have_read = subst (λ (n : Notes). AreKept n) notes_new kept_two

    estimate_there : t.context < length s1.est.known
    estimate_there =
        let same = ap (λ (p : est.Seats). length p.known) loaded.loaded.on.est in
        let each = at.fits.seats_are.each_context in
        let published = at.suits.published in
        let low = there in omega arith

    -- the kit's first estimates are those of the trace
    estimated_first : ReadsEstimate (first_estimates trace opened) t.context estimate s1.est s2.est
    estimated_first = subst (λ (firsts : List Estimate). ReadsEstimate firsts t.context estimate s1.est s2.est) at.suits.firsts estimated

    estimates_two : EstimatesGrew (first_estimates trace opened) cpu (checked check ∷ []) (notes_with trace was.fractions.items s1.share s1.est) (notes_with trace (set was.fractions.items t.context (fractions_after lines (fractions_of t.context was))) s2.share s2.est)
    estimates_two = check_estimates (first_estimates trace opened) t.context estimate s1.est s2.est estimated_first estimate_there cpu check
        (notes_with trace was.fractions.items s1.share s1.est) (notes_with trace (set was.fractions.items t.context (fractions_after lines (fractions_of t.context was))) s2.share s2.est)
        refl refl (λ k. refl) (λ k. refl) refl refl

    estimates_grew : EstimatesGrew (first_estimates trace opened) cpu (checked check ∷ []) (notes_of trace old) (notes_of trace new)
    estimates_grew = subst (λ (z : Notes × Notes). EstimatesGrew (first_estimates trace opened) cpu (checked check ∷ []) z.0 z.1) (λ i. (notes_old i, notes_new i)) estimates_two

    -- ---- the decision

    asked_is : check.decision ≡ asked_by trace (side_of was.tasks) check estimate
    asked_is = ap (λ (n : ℕ). decision_for (is_strict trace t.context) (reads_for trace t.context lines loads.count) estimate (writer_of (cpu_of was.tasks) n).task now) (sym (number_is trace cpu kit was s0 at task going due_now))

    decides : DecidesByRead trace opened (known_of t.context s3.est) (side_of was.tasks) check
    decides = record {
      estimate = estimate;
      named = refl;
      was_read = subst (λ (p : est.Seats). Contains (known_of t.context p).reads (note_of estimate)) (sym gives.on.est) (has_note (first_estimates trace opened) t.context estimate s1.est s2.est estimated_first estimate_there);
      first = estimated_first.first;
      in_range = subst (λ (n : ℕ). IsInRange check estimate (writer_of (cpu_of was.tasks) n).task) (sym (number_is trace cpu kit was s0 at task going due_now)) ranged;
      decision = asked_is;
    }

    -- ---- all of it

    grew : Grew (checked check ∷ []) (record_in cpu s0) (record_in cpu s3)
    grew = check_grew loads lines check has loaded.global refl refl refl set' (record_in cpu s0) (record_in cpu s1) (record_in cpu s3) gets left

    -- the kit's first limits are those of its seats
    held : WereHeld (firsts_of s0) (flat_map limits_in (checked check ∷ [])) (record_in cpu s0).triples (record_in cpu s3).triples
    held = subst (λ (l : Layout). WereHeld (setting l).firsts (flat_map limits_in (checked check ∷ [])) (record_in cpu s0).triples (record_in cpu s3).triples) (sym at.fits.seats_are.cpu.layout)
        (check_held loads lines check has loaded.global refl refl refl set' (record_in cpu s0) (record_in cpu s1) (record_in cpu s3) gets left)

    pub did : Did trace opened cpu (now ∷ []) (checked check ∷ []) old new
    unfolding side_walked
    did = record {
      logged = logged_check check log;
      turn = λ flushers. record {
        turn = record {
          grew = grew;
          held = held;
          firsts_stay = ap (λ (l : Layout). (setting l).firsts) keeps.apart.layout;
          side = side_walked;
          wrote = wrote_none;
          own = (own_told, tt);
          of_writers = (record { no_flight = refl; no_share = refl; no_estimate = refl; no_wait = refl }, tt);
          flushers_stay = λ flusher. refl;
        };
        shares = shares_grew;
        estimates = estimates_grew;
        decided = (decides, tt);
      };
      moments = (here now [], tt);
      keeps = keeps;
    }

    pub is_check : IsCheck trace kit cpu task (checked check ∷ []) old new
    is_check = record {
      check = check;
      added_is = refl;
      its_task = refl;
      its_context = refl;
      due = due_now;
      readings = check_readings loads lines check has loaded.global refl refl refl set' (record_in cpu s0) (record_in cpu s1) (record_in cpu s3) gets left;
      triples = check_triples loads lines check has loaded.global refl refl refl set' (record_in cpu s0) (record_in cpu s1) (record_in cpu s3) gets left;
      holds = check_holds loads lines check has loaded.global refl refl refl set' (record_in cpu s0) (record_in cpu s1) (record_in cpu s3) gets left loaded.holds;
      fractions = subst (λ (z : fraction.Seats × fraction.Seats). LinesRead t.context lines (fractions_of t.context was) z.0 z.1) (λ i. (loaded.loaded.on.share i, sym gives.on.share i)) read;
      estimate = estimate;
      named = refl;
      estimated = subst (λ (z : est.Seats × est.Seats). ReadsEstimate kit.published.firsts t.context estimate z.0 z.1) (λ i. (loaded.loaded.on.est i, sym gives.on.est i)) estimated;
      decision = asked_is;
      rests = ap (λ (x : TaskPlace). x.rest) tasks.own;
    }

    pub owes : OwesNothing cpu s0 → OwesNothing cpu s3
    owes none = left.debts ∙ gets.debts ∙ none

    pub owes_no_more : OwesNoMore cpu s0 s3
    owes_no_more inode some = subst (λ (l : List ℕ). 1 ≤ times_in inode l) (left.marks ∙ gets.marks) some

    -- ---- pages left

    abbrev stepped : Side
    stepped = check_side trace opened task t.context check.decision (side_of was.tasks)

    task_there : task < length stepped.tasks
    task_there = let long = length-map was.tasks.tasks.items state_of in let all = at.is_work.tasks.counted.tasks in let low = going.there in omega arith

    by_number : stepped.cpu ≡ cpu_step (ratelimit_pages trace opened) trace.cap (cpu_of was.tasks) (Checked t.writer check.decision)
    by_number = ap (λ (n : ℕ). cpu_step (ratelimit_pages trace opened) trace.cap (cpu_of was.tasks) (Checked n check.decision)) (number_is trace cpu kit was s0 at task going due_now)

    module _ (n : ℕ) (ended : (task_at is.tasks (writer_at trace n).task).ended ≡ false) where
      goes_on : (get_or (all_writers trace) n no_name).task ≡ task → (task_of (settle trace opened task stepped) task).has_ended ≡ false
      goes_on e = ap (λ (x : Side). (task_of x task).has_ended) (sym tasks.side) ∙ has_ended_is is.tasks task ∙ subst (λ (k : ℕ). (task_at is.tasks k).ended ≡ false) e ended

      stays : writer_of (cpu_of is.tasks) n ≡ writer_of stepped.cpu n
      stays = ap (λ (x : Side). writer_of x.cpu n) tasks.side ∙ settle_keeps trace opened task n stepped task_there goes_on

      went : (task_at was.tasks (writer_at trace n).task).ended ≡ false
      went = elim (cases_eq (writer_at trace n).task task) [
        | inl same ↦ subst (λ (k : ℕ). (task_at was.tasks k).ended ≡ false) (sym same) going.going
        | inr other ↦ ap (λ (x : TaskPlace). x.ended) (sym (tasks.others (writer_at trace n).task other)) ∙ ended
      ]

      -- the checked writer
      own_is : n ≡ t.writer → writer_of (cpu_of is.tasks) n ≡ checked_writer check.decision
      own_is same = stays ∙ ap (λ (c : Cpu). writer_of c n) by_number
          ∙ ap (writer_of (cpu_step (ratelimit_pages trace opened) trace.cap (cpu_of was.tasks) (Checked t.writer check.decision))) same
          ∙ step_own (ratelimit_pages trace opened) trace.cap (cpu_of was.tasks) t.writer check.decision (inside trace cpu kit was s0 at task going due_now)

      own_left : n ≡ t.writer → (writer_of (cpu_of is.tasks) n).due ≡ due.No → (writer_in set' n (record_in cpu s3).writers).left ≡ (writer_of (cpu_of is.tasks) n).left
      own_left same quiet =
          let goes : check.decision.kind ≢ Wait = not_waiting check.decision.kind (ap (λ (x : Writer). x.due) (sym (own_is same)) ∙ quiet) in
          ap (λ (k : ℕ). (writer_in set' k (record_in cpu s3).writers).left) same
          ∙ ap (λ (r : CpuRecord). (writer_in set' t.writer r.writers).left) becomes
          ∙ given_own set' check.decision.kind t.writer check.decision.left (record_in cpu s1) goes ∙ ap (λ (x : Writer). x.left) (sym (own_is same))

      -- another writer
      other_is : n ≢ t.writer → writer_of (cpu_of is.tasks) n ≡ writer_of (cpu_of was.tasks) n
      other_is other = stays ∙ ap (λ (c : Cpu). writer_of c n) by_number ∙ step_others (ratelimit_pages trace opened) trace.cap (cpu_of was.tasks) t.writer n check.decision other

      other_left : HaveLefts trace cpu kit was.tasks s0 → n < length (all_writers trace) → set'.seat n ≡ cpu → n ≢ t.writer → (writer_of (cpu_of is.tasks) n).due ≡ due.No
          → (writer_in set' n (record_in cpu s3).writers).left ≡ (writer_of (cpu_of is.tasks) n).left
      other_left had low seat other quiet =
          ap (λ (r : CpuRecord). (writer_in set' n r.writers).left) becomes
          ∙ ap (λ (x : WriterRecord). x.left) (given_others set' check.decision.kind t.writer check.decision.left (record_in cpu s1) n other)
          ∙ gets.lefts n ∙ had.each n low seat went (ap (λ (x : Writer). x.due) (sym (other_is other)) ∙ quiet) ∙ ap (λ (x : Writer). x.left) (sym (other_is other))

    pub lefts : HaveLefts trace cpu kit was.tasks s0 → HaveLefts trace cpu kit is.tasks s3
    lefts had = record {
      each = λ n low seat ended quiet. elim (cases_eq n t.writer) [
        | inl same ↦ own_left n ended same quiet
        | inr other ↦ other_left n ended had low seat other quiet
      ];
    }

    pub checks : (told : ℕ → Type 0) → told now → OwesNothing cpu s0 → HaveLefts trace cpu kit was.tasks s0 → Checks told trace kit cpu task old new
    checks told was_told none had = record {
      now = now;
      was_told = was_told;
      added = checked check ∷ [];
      did = did;
      is_check = is_check;
      owes_nothing = owes none;
      lefts = lefts had;
      owes_no_more = owes_no_more;
    }
