-- A run whose workers have worked is one of which the laws of turns speak, and so its journal is lawful.
use Rattle.std.proofs.Common.{◌≡◌, ℕ, zero, suc, ◌+◌, ◌<◌, ◌≤◌, Bool, true, false, List, [], ◌∷◌, ◌++◌, length, get_or, refl, sym, ap, ◌∙◌, subst, arith}
use Rattle.wbt_book.specs.Book.{Bits, Book, page_word}
use Rattle.wbt_run_worker.proofs.Common.{absorbs, all_times, completes, dirties, times, one_if, total_same, deeds_of, CpuRecord, Trace, setting, Layout, Each, Told, NamesInOrder, CpuJournal, Ending, TimerEntry, AreSeatsOf, IsKitOf, known_of, Kit, Seats, NotedSince, first_shown, empty_log, first_notes, noted, owner_of, kit_is_opened}
use Rattle.wbt_kit.proofs.Common.{pages, Left, first_limits}
use Rattle.wbt_book.specs.Ledger.{PageLedger}
use Rattle.wbt_trace.specs.Lawful.{IsLawful as IsLawfulTrace}
use Rattle.wbt_table.specs.Census.{Closes, Counted}
use Rattle.wbt_journal.specs.Told.{told}
use Rattle.wbt_journal.specs.declared.journal.Ending.TheVariants as ending
use Rattle.wbt_run_laws.specs.Closed.{Closed, OpensWith, opening_lines}
use Rattle.wbt_run_laws.specs.Throttle.{IsThrottleOf, left_from, with_left}
use Rattle.wbt_run_laws.specs.Worked.{EndedBy, Run, Worked, part_at}
use Rattle.wbt_run_laws.proofs.Lawfully.{is_lawful}
use Rattle.wbt_run_laws.proofs.Ledger.{dirtied_were_completed, found_were_dirtied}
use Rattle.wbt_run_laws.proofs.Owning.{none_waits_when_done}
use Rattle.wbt_run_seats.specs.Left.{book_of}
use Rattle.wbt_run_seats.specs.Opened.{IsOpened}
use Rattle.wbt_run_seats.proofs.Firsts.{timer_opens}
use Rattle.wbt_run_seats.proofs.Lefts.{closes_run}
use Rattle.wbt_run_seats.proofs.Telling.{gathered_tell}
use Rattle.wbt_timer.specs.Side.{ticked}
use Rattle.wbt_run_drain.specs.Laws.{WorkDirtiedCompleted, WorkFoundDirtied, WorkIsLawful, WorkNoneWaits, journal_of}
use Rattle.wbt_run_drain.specs.Whole.{AreCleaned, EndingHasCause, HaveWorked, log_at}

-- ---- what is left where each page was cleaned

no_bit : (b : Bool) → one_if b ≡ 0 → b ≡ false
no_bit false is = refl
no_bit true is = absurd (omega arith)

no_word : (bits : Bits) → bits.dirty ≡ false → bits.writeback ≡ false → page_word bits ≡ 0
no_word bits dirty writeback = cc

-- a page of which each dirtying was completed or absorbed has no bit
clean_page : (cpus p : ℕ) (bits : Bits) (held : ℕ → CpuRecord) → PageLedger cpus p bits (λ i. deeds_of (held i))
    → all_times cpus (dirties p) (λ i. deeds_of (held i)) ≤ all_times cpus (completes p) (λ i. deeds_of (held i)) + all_times cpus (absorbs p) (λ i. deeds_of (held i))
    → page_word bits ≡ 0
clean_page cpus p bits held even cleaned =
    let a = even.dirtyings in let b = even.claimings in
    no_word bits (no_bit bits.dirty (omega arith)) (no_bit bits.writeback (omega arith))

times_same : (cpus : ℕ) (p : ℕ) (is : _) (held other : ℕ → CpuRecord) → ((i : ℕ) → i < cpus → held i ≡ other i)
    → all_times cpus is (λ i. deeds_of (held i)) ≡ all_times cpus is (λ i. deeds_of (other i))
times_same cpus p is held other same =
    total_same cpus (λ i. times is (deeds_of (held i)).events) (λ i. times is (deeds_of (other i)).events) (λ i less. ap (λ (r : CpuRecord). times is (deeds_of r).events) (same i less))

none_left : (book : Book) (page count : ℕ) → ((p : ℕ) → page ≤ p → p < page + count → page_word (book p) ≡ 0) → left_from book page count ≡ []
none_left book page zero clean = refl
none_left book page (suc count) clean =
    ap (λ (w : ℕ). with_left page w (left_from book (suc page) count)) (clean page (omega arith) (omega arith))
    ∙ none_left book (suc page) count (λ p low high. clean p (omega arith) (omega arith))

-- ---- logs and parts

names_each : (logs : List CpuJournal) → ((i : ℕ) (d : CpuJournal) → i < length logs → NamesInOrder (get_or logs i d)) → Each NamesInOrder logs
names_each [] each = tt
names_each (log ∷ logs) each = (each 0 log (omega arith), names_each logs (λ i d less. each (suc i) d (omega arith)))

same_there : {A : Type 0} (xs : List A) (i : ℕ) (d e : A) → i < length xs → get_or xs i d ≡ get_or xs i e
same_there [] i d e less = absurd (omega arith)
same_there (x ∷ xs) zero d e less = refl
same_there (x ∷ xs) (suc i) d e less = same_there xs i d e (omega arith)

part_is : (logs : List CpuJournal) (timer : List TimerEntry) (left : List Left) (ended : Ending) (cpu : ℕ) → part_at (journal_of logs timer left ended) cpu ≡ told (log_at logs cpu)
part_is [] timer left ended cpu = refl
part_is (log ∷ logs) timer left ended zero = refl
part_is (log ∷ logs) timer left ended (suc cpu) = part_is logs timer left ended cpu

-- ---- the whole

module _ (trace : Trace) (opened : ℕ) (kit : Kit) (seats : Seats) (census : Counted) (logs : List CpuJournal) (timer : List TimerEntry) (left : List Left) (ended : Ending)
    (lawful : IsLawfulTrace trace) (of : IsKitOf trace opened kit) (at : AreSeatsOf kit seats) (work : HaveWorked trace opened kit logs timer ended seats)
    (closes : Closes seats.cpu census) (is : left ≡ left_from (book_of census) 0 (pages trace)) where
  layout : kit.throttle.layout ≡ seats.cpu.layout
  layout = sym at.cpu.layout

  opens : IsOpened trace opened kit
  opens = kit_is_opened trace opened kit lawful of

  throttle : IsThrottleOf trace (setting seats.cpu.layout)
  throttle = subst (λ (l : Layout). IsThrottleOf trace (setting l)) layout opens.throttle

  closed : Closed trace (setting seats.cpu.layout) closes.state (λ cpu. (work.last cpu).held) work.ticks.held left
  closed = closes_run trace seats census (λ cpu. (work.last cpu).held) work.ticks.held left closes throttle work.cpus.held work.timer_is.held is

  cleaned : AreCleaned trace work.last → left ≡ []
  cleaned clean = closed.left_is ∙ none_left closes.state.book 0 (pages trace) (λ p low high.
      clean_page trace.cpus p (closes.state.book p) closes.state.cpu
      (subst (λ (n : ℕ). PageLedger n p (closes.state.book p) (λ i. deeds_of (closes.state.cpu i))) throttle.cpus (closed.holds.ledger_even p))
      (let a = times_same trace.cpus p (dirties p) closes.state.cpu (λ i. (work.last i).held) closed.cpus_are in
      let b = times_same trace.cpus p (completes p) closes.state.cpu (λ i. (work.last i).held) closed.cpus_are in
      let c = times_same trace.cpus p (absorbs p) closes.state.cpu (λ i. (work.last i).held) closed.cpus_are in
      let d = clean p (omega arith) in omega arith))

  ended_by : (e : Ending) → EndingHasCause trace work.last e → EndedBy trace work.last left e
  ended_by ending.Done so = (so.0, so.1, so.2, cleaned so.3)
  ended_by ending.Halted so = so
  ended_by ending.Spent so = so
  ended_by ending.Faulted so = so

  abbrev run : Run
  run = record {
    set = setting seats.cpu.layout;
    closed = closes.state;
    opened = opened;
    last = work.last;
    first_notes = λ cpu. first_notes (work.first cpu);
    notes = work.notes;
    ticked = work.timer_is.ticks;
    timer_stops = work.timer_is.stops;
    timer_first = ticked work.timer_is.first work.timer_is.side work.timer_is.left.share;
    timer_last = work.ticks;
    all_shares = λ domain. noted seats.share domain;
    publisher = owner_of kit;
    all_known = λ context. known_of context seats.est;
  }

  worked : Worked trace (journal_of logs timer left ended) run
  worked =
      let tells = gathered_tell trace kit work.notes work.first work.ticks.shares seats opens.contexts_are opens.owners work.cpus.firsts work.together.gathered work.together.complete work.together.known in
      record {
        lawful = lawful;
        throttle = throttle;
        parts = work.cpus.many;
        names = names_each logs (λ i d less. names_at i d less);
        timer_is = work.timer_is.logged ∙ ap (λ (l : List TimerEntry). l ++ work.timer_is.ticks) lines;
        since = λ cpu less. subst (λ (es : List Told). NotedSince trace opened cpu es (first_shown trace (setting seats.cpu.layout).firsts) (work.last cpu) (first_notes (work.first cpu)) (work.notes cpu))
            (sym (part_is logs timer left ended cpu))
            (subst (λ (l : Layout). NotedSince trace opened cpu (told (log_at logs cpu)) (first_shown trace (setting l).firsts) (work.last cpu) (first_notes (work.first cpu)) (work.notes cpu))
            ((work.cpus.firsts cpu less).layout ∙ layout) (work.cpus.each cpu less).since);
        timer_since = work.timer_is.since;
        opens = subst (λ (l : Layout). OpensWith trace opened (setting l).firsts) layout opens.opens;
        timer_opens = timer_opens trace opened kit work.timer_is.left work.timer_is.side work.timer_is.first run lawful of work.timer_is.is_left work.timer_is.first_held work.timer_is.is_first
            refl (ap setting (sym layout)) refl;
        noted_nothing = λ cpu less. (work.cpus.firsts cpu less).nothing;
        closed = closed;
        shares_tell = tells.0;
        passes_tell = tells.1;
        ended = ended_by ended work.ends;
        none_due = work.none_due;
      }
    where
      names_at : (i : ℕ) (d : CpuJournal) → i < length logs → NamesInOrder (get_or logs i d)
      names_at i d less = subst NamesInOrder (same_there logs i empty_log d less) (work.cpus.each i (omega (arith, less, work.cpus.many))).names

      lines : opening_lines trace opened (first_limits trace opened) ≡ opening_lines trace opened (setting seats.cpu.layout).firsts
      lines = opens.lines ∙ ap (λ (l : Layout). opening_lines trace opened (setting l).firsts) layout

pub work_is_lawful : WorkIsLawful
work_is_lawful trace opened kit seats census logs timer left ended lawful of at work closes is =
    is_lawful trace (journal_of logs timer left ended) (run trace opened kit seats census logs timer left ended lawful of at work closes is)
    (worked trace opened kit seats census logs timer left ended lawful of at work closes is)

pub work_found_dirtied : WorkFoundDirtied
work_found_dirtied trace opened kit seats census logs timer left ended lawful of at work closes is =
    found_were_dirtied trace (journal_of logs timer left ended) (run trace opened kit seats census logs timer left ended lawful of at work closes is)
    (worked trace opened kit seats census logs timer left ended lawful of at work closes is)

pub work_dirtied_completed : WorkDirtiedCompleted
work_dirtied_completed trace opened kit seats census logs timer left ended lawful of at work closes is =
    dirtied_were_completed trace (journal_of logs timer left ended) (run trace opened kit seats census logs timer left ended lawful of at work closes is)
    (worked trace opened kit seats census logs timer left ended lawful of at work closes is)

pub work_none_waits : WorkNoneWaits
work_none_waits trace opened kit seats census logs timer left ended lawful of at work closes is =
    none_waits_when_done trace (journal_of logs timer left ended) (run trace opened kit seats census logs timer left ended lawful of at work closes is)
    (worked trace opened kit seats census logs timer left ended lawful of at work closes is)
