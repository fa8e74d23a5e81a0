-- The workers' seats together again: where all sides stand, and what is known of the notes.
use Rattle.std.proofs.Common.{◌≡◌, ⊎_elim, ℕ, zero, suc, ◌+◌, ◌<◌, ◌≤◌, Bool, true, List, [], ◌∷◌, length, map, get_or, Option, Some, None, refl, sym, ap, ◌∙◌, subst, arith}
use lib.ListN.{get_elem?}
use Rattle.std.specs.List.{sum_by}
use Rattle.std.specs.Option.{IfSome}
use Rattle.std.proofs.lemmas.Bool.{cases_lt}
use Rattle.std.proofs.lemmas.List.Sums.{sum_by-cons}
use Rattle.wbt_run_worker.proofs.Common.{total, CpuRecord, TimerRecord, Each, contexts, domains, CpuJournal, AreFirst, AreSeatsOf, HasCpu, HasTimer, IsKitOf, known_of, HoldsAll, setting, Has, HasLog, Seated, Logged, Layout, IsLawful, Trace, AreGathered, first_notes, owner_of, AreBacked, kit_is_opened, handed, Kit, Seats, AnyOf, Seen, Team, both_told, owed_in, owed_totals, flusher_at, team_of, written_by, IsTold, AreWordsBy, firsts_of, record_of, record_is, kinds_in, SeatsStay, NotedSince, Notes, Shown, first_shown, empty_log}
use Rattle.wbt_kit.proofs.Common.{stakes_in, opening, Known, joined_seat, Logs}
use Rattle.wbt_run_seats.specs.Gathered.{AreGatheredIn, AreNotesOf, HasOneStake, no_notes}
use Rattle.wbt_run_seats.specs.Opened.{IsOpened}
use Rattle.wbt_run_seats.specs.Parts.{HasNoLog, HoldsOnly, IsLeft}
use Rattle.wbt_run_seats.specs.Together.{AreTogether, HoldsAllOf, InOrder}
use Rattle.wbt_run_seats.proofs.Firsts.{left_is_first}
use Rattle.wbt_run_seats.proofs.Gathering.{first_is_gathered, more_are_gathered}
use Rattle.wbt_run_seats.proofs.Logs.{HasLogs, IsOwnLog, all_logs, first_log, log_at as own_log_at, log_held, logs_taken, timer_log_stays}
use Rattle.wbt_run_seats.proofs.Records.{records_come_together}
use Rattle.wbt_run_seats.proofs.Rooming.{taken_are_backed, together_are_backed}
use Rattle.wbt_run_seats.proofs.Staking.{HasOneOfEach, all_notes_come_together, all_stakes_come_together}
use Rattle.wbt_fraction.specs.Several.{Seats as ShareSeats}
use Rattle.wbt_journal.specs.Told.{told as told_by}
use Rattle.wbt_published.specs.Passes.{Seats as EstPass}
use Rattle.wbt_run_worker.specs.declared.side.End.{End}
use Rattle.wbt_run_worker.specs.declared.side.CpuSide.{CpuSide}
use Rattle.wbt_run_worker.specs.declared.side.Post.{Post}
use Rattle.wbt_run_worker.specs.declared.side.Stand.TheVariants.{Open}
use Rattle.wbt_run_worker.specs.declared.worker.Worker.{Worker}
use Rattle.wbt_queue.specs.Passes as queue
use Rattle.wbt_run_steps.specs.Queues.{HasAllStakes}
use Rattle.wbt_table.specs.Layout.{domains as limits_of}
use Rattle.wbt_run_drain.specs.Whole.{CpuWorked, CpusWorked, log_at}
use Rattle.wbt_writer.specs.Desk.{shown_of, sight}
use Rattle.wbt_run_drain.specs.Standing.{AreQueued, AreStanding, HasFlusher, HaveTold, SideStands, TellTurns}
use Rattle.wbt_run_drain.specs.Words.{IsTurnOrLook, TellsTurns}
use Rattle.wbt_run_drain.specs.Teams.{handed_over, logs_of, shown_at, shown_there, teams_of, worker_there, written_by_all}
use Rattle.wbt_run_beside.specs.Beside.{AllHaveWorked, HasWorked, team_in}
use Rattle.wbt_run_together.specs.Gather.{seats_of, sides_of}
use Rattle.wbt_run_first.specs.Lent.{AreFirstWorkers, IsFirstWorker}
use Rattle.wbt_run_first.specs.Seated.{MakeAll}
use Rattle.wbt_run_first.proofs.Lists.{each_made, made_at, made_long, made_sum}
use Rattle.wbt_run_together.proofs.Served.{any_at, not_yet_done, serves_first, still_serves}
use Rattle.wbt_run_together.proofs.Stood.{HasOf, side_stands, still_open}
use Rattle.wbt_run_together.proofs.Worked as worked
use Rattle.wbt_run_together.proofs.Worked.{first_log_of, worker_by}

-- ---- lists

-- a number past all contexts has what is known at the opening
known_past : (context : ℕ) (pass : EstPass) → length pass.known ≤ context → known_of context pass ≡ opening
known_past context pass past = past_all pass.known context past
  where
    past_all : (known : List Known) (context : ℕ) → length known ≤ context → get_or known context opening ≡ opening
    past_all [] context past = refl
    past_all (k ∷ known) zero past = absurd (omega arith)
    past_all (k ∷ known) (suc context) past = past_all known context (omega arith)

told_both : (a b : Option ℕ) (x y : ℕ) → IfSome a (λ n. n ≡ x) → IfSome b (λ n. n ≡ y) → IfSome (both_told a b) (λ n. n ≡ x + y)
told_both None b x y one two = tt
told_both (Some m) None x y one two = tt
told_both (Some m) (Some n) x y one two = omega arith

backed_as : (domains contexts : ℕ) (owed owed_totals owed' owed_totals' : ℕ → ℕ) (seats : Seats) → ((domain : ℕ) → owed' domain ≡ owed domain)
    → ((context : ℕ) → owed_totals' context ≡ owed_totals context) → AreBacked domains contexts owed owed_totals seats → AreBacked domains contexts owed' owed_totals' seats
backed_as domains contexts owed owed_totals owed' owed_totals' seats same same_totals backed = record {
  counted = backed.counted;
  rooms = λ domain low. let is = same domain in let here = backed.rooms domain low in omega arith;
  totals = λ context low. let is = same_totals context in let here = backed.totals context low in omega arith;
}

module _ {D : Type 0} where
  in_order : (cpu : ℕ) (workers : List (Worker D)) (d : Worker D) → ((n : ℕ) → n < length workers → HoldsOnly (cpu + n) (get_or workers n d).seats) → InOrder cpu (seats_of workers)
  in_order cpu [] d each = tt
  in_order cpu (w ∷ workers) d each =
      let here : cpu + 0 ≡ cpu = omega arith in (
        subst (λ (c : ℕ). HoldsOnly c w.seats) here (each 0 (omega arith)),
        in_order (suc cpu) workers d (λ n less.
            let next : cpu + suc n ≡ suc cpu + n = omega arith in
            subst (λ (c : ℕ). HoldsOnly c (get_or workers n d).seats) next (each (suc n) (omega arith))),
      )

  all_disks : (written : D → Option ℕ) (faults : D → ℕ) (workers : List (Worker D)) (d : Worker D)
      → ((n : ℕ) → n < length workers
      → IfSome (written_by (team_in written faults (get_or workers n d)).posts) (λ count. count ≡ sum_by handed (told_by (get_or workers n d).side.log)))
      → IfSome (written_by_all (teams_of written faults (sides_of workers))) (λ total. total ≡ handed_over (logs_of (sides_of workers)))
  all_disks written faults [] d each = refl
  all_disks written faults (w ∷ workers) d each =
      let rest = all_disks written faults workers d (λ n less. each (suc n) (omega arith)) in
      let mine = sum_by handed (told_by w.side.log) in
      let sum : handed_over (logs_of (sides_of (w ∷ workers))) ≡ mine + handed_over (logs_of (sides_of workers)) =
      sum_by-cons (λ (log : CpuJournal). sum_by handed (told_by log)) w.side.log (logs_of (sides_of workers)) in
      subst (λ (n : ℕ). IfSome (written_by_all (teams_of written faults (sides_of (w ∷ workers)))) (λ total. total ≡ n)) (sym sum)
      (told_both (written_by (team_in written faults w).posts) (written_by_all (teams_of written faults (sides_of workers))) mine (handed_over (logs_of (sides_of workers)))
      (each 0 (omega arith)) rest)

-- ---- the timer's seats with the records and the notes of the CPUs

pub record AreTaken (kit : Kit) (timer cpus new : Seats) : Type 0 where
  pub seats_are : AreSeatsOf kit new
  pub records : new.cpu ≡ joined_seat timer.cpu cpus.cpu
  pub came : (c : ℕ) (r : CpuRecord) → HasCpu c r cpus → HasCpu c r new
  pub stayed : cpus.cpu.timer ≡ None → new.cpu.timer ≡ timer.cpu.timer
  pub share : new.share ≡ cpus.share
  pub est : new.est ≡ cpus.est
  pub queue : new.queue ≡ record timer.queue { known = queue.all_joined timer.queue.known cpus.queue.known }

module _ {D : Type 0} (told : ℕ → Type 0) (said : ℕ → ℕ → Bool → Type 0) (written : D → Option ℕ) (faults : D → ℕ) (trace : Trace) (now : ℕ) (kit : Kit)
    (lawful : IsLawful trace) (is : IsKitOf trace now kit) (first left : Seats) (first_at : AreSeatsOf kit first) (are : AreFirst kit first)
    (left_is : IsLeft kit trace.cpus first left) (old : List (Worker D)) (firsts : AreFirstWorkers written faults trace now kit first old)
    (one : Worker D) (more : List (Worker D)) (worked_all : AllHaveWorked told said written faults kit old (one ∷ more)) (many : length (one ∷ more) ≡ length old)
    (mid after all : Seats) (came : AreTogether kit one.seats (seats_of more) mid) (stay : SeatsStay left after) (after_at : AreSeatsOf kit after)
    (timer : (r : TimerRecord) × HasTimer r after) (taken : AreTaken kit after mid all) where
  opened : IsOpened trace now kit
  opened = kit_is_opened trace now kit lawful is

  abbrev done : List (Worker D)
  done = one ∷ more

  abbrev its : (cpu : ℕ) → Worker D
  its cpu = get_or done cpu one

  abbrev before : (cpu : ℕ) → Worker D
  before cpu = get_or old cpu one

  all_cpus : 1 + length more ≡ trace.cpus
  all_cpus = let a = many in let b = firsts.many in omega arith

  is_first : (cpu : ℕ) → cpu < trace.cpus → IsFirstWorker written faults trace now kit first cpu (before cpu)
  is_first cpu less = firsts.each cpu one less

  has_worked : (cpu : ℕ) → cpu < trace.cpus → HasWorked told said written faults kit (before cpu) (its cpu)
  has_worked cpu less = worked_all cpu one (omega (arith, firsts.many))

  at_kit : (cpu : ℕ) → cpu < trace.cpus → AreSeatsOf kit (its cpu).seats
  at_kit cpu less = (worked.goes told said written faults trace now kit first cpu (before cpu) (its cpu) (is_first cpu less) (has_worked cpu less)).stands.fits.seats_are

  holds : (cpu : ℕ) → cpu < trace.cpus → HoldsOnly cpu (its cpu).seats
  holds cpu less = worked.holds_only told said written faults trace now kit first cpu (before cpu) (its cpu) (is_first cpu less) (has_worked cpu less)

  -- ---- records

  from_one : (n : ℕ) → 1 + n ≡ suc n
  from_one n = omega arith

  others_hold : (n : ℕ) → n < length more → HoldsOnly (1 + n) (get_or more n one).seats
  others_hold n less = subst (λ (c : ℕ). HoldsOnly c (get_or more n one).seats) (sym (from_one n)) (holds (suc n) (omega (arith, all_cpus)))

  others_at : (part : Seats) (n : ℕ) → n < length (seats_of more) → AreSeatsOf kit (get_or (seats_of more) n part)
  others_at part n less =
      let low : n < length more = omega (arith, made_long (λ (w : Worker D). w.seats) more) in
      subst (AreSeatsOf kit) (sym (made_at (λ (w : Worker D). w.seats) more n part one low)) (at_kit (suc n) (omega (arith, all_cpus)))

  first_less : 0 < trace.cpus
  first_less = omega (arith, all_cpus)

  order : InOrder 1 (seats_of more)
  order = in_order 1 more one others_hold

  none_yet : (c : ℕ) (r : CpuRecord) → HasCpu c r one.seats → c < 1
  none_yet c r has = let zero_is = (holds 0 first_less).alone c r has in omega arith

  records : HoldsAllOf 1 one.seats (seats_of more) mid
  records = records_come_together kit 1 one.seats mid (seats_of more) came order none_yet others_at (at_kit 0 first_less)

  in_mid : (cpu : ℕ) (r : CpuRecord) → cpu < trace.cpus → HasCpu cpu r (its cpu).seats → HasCpu cpu r mid
  in_mid zero r less has = records.stayed 0 r has
  in_mid (suc n) r less has =
      let low : n < length more = omega (arith, all_cpus) in
      let there : n < length (seats_of more) = omega (arith, made_long (λ (w : Worker D). w.seats) more) in
      let part = (get_or more n one).seats in
      subst (λ (c : ℕ). HasCpu c r mid) (from_one n)
      (records.came n part r there
      (subst (λ (s : Seats). HasCpu (1 + n) r s) (sym (made_at (λ (w : Worker D). w.seats) more n part one low))
      (subst (λ (c : ℕ). HasCpu c r part) (sym (from_one n)) has)))

  in_all : (cpu : ℕ) (r : CpuRecord) → cpu < trace.cpus → HasCpu cpu r (its cpu).seats → HasCpu cpu r all
  in_all cpu r less has = taken.came cpu r (in_mid cpu r less has)

  same_record : (cpu : ℕ) → cpu < trace.cpus → record_of cpu all.cpu.cpus ≡ record_of cpu (its cpu).seats.cpu.cpus
  same_record cpu less =
      let held = (holds cpu less).held in
      record_is all.cpu.cpus cpu held.0 (in_all cpu held.0 less held.1) ∙ sym (record_is (its cpu).seats.cpu.cpus cpu held.0 held.1)

  mid_timer : mid.cpu.timer ≡ None
  mid_timer = records.timer ∙ (holds 0 first_less).no_timer

  pub timer_there : all.cpu.timer ≡ after.cpu.timer
  timer_there = taken.stayed mid_timer

  all_held : HoldsAll all.cpu
  all_held = record {
    cpus = λ cpu low.
        let less : cpu < trace.cpus = omega (arith, low, ap (λ (l : Layout). l.cpus) taken.seats_are.cpu.layout, opened.cpus) in
        let held = (holds cpu less).held in (held.0, in_all cpu held.0 less held.1);
    timer = (timer.0, timer_there ∙ timer.1);
  }

  -- ---- notes

  abbrev notes : (cpu : ℕ) → Notes
  notes cpu = (worker_by written faults trace cpu (its cpu)).notes

  notes_are : (cpu : ℕ) → cpu < trace.cpus → AreNotesOf trace (owner_of kit) cpu (notes cpu) (its cpu).seats
  notes_are cpu less = worked.notes_are told said written faults trace now kit first cpu (before cpu) (its cpu) (is_first cpu less) (has_worked cpu less) opened.contexts_are

  others_noted : (n : ℕ) (part : Seats) → n < length (seats_of more) → AreNotesOf trace (owner_of kit) (1 + n) (notes (1 + n)) (get_or (seats_of more) n part)
  others_noted n part less =
      let low : n < length more = omega (arith, made_long (λ (w : Worker D). w.seats) more) in
      subst (AreNotesOf trace (owner_of kit) (1 + n) (notes (1 + n))) (sym (made_at (λ (w : Worker D). w.seats) more n part one low))
      (subst (λ (c : ℕ). AreNotesOf trace (owner_of kit) c (notes c) (get_or more n one).seats) (sym (from_one n)) (notes_are (suc n) (omega (arith, all_cpus))))

  gathered_mid : AreGathered trace (1 + length (seats_of more)) (owner_of kit) notes no_notes mid
  gathered_mid = more_are_gathered trace kit 1 (owner_of kit) notes no_notes one.seats mid (seats_of more) opened.contexts_are
      (first_is_gathered trace (owner_of kit) notes one.seats (notes_are 0 first_less)) came others_noted

  gathered : AreGathered trace trace.cpus (owner_of kit) notes no_notes all
  gathered =
      let cpus : 1 + length (seats_of more) ≡ trace.cpus = omega (arith, all_cpus, made_long (λ (w : Worker D). w.seats) more) in
      subst (λ (n : ℕ). AreGathered trace n (owner_of kit) notes no_notes all) cpus
      (subst (λ (s : ShareSeats). AreGatheredIn trace (1 + length (seats_of more)) (owner_of kit) notes no_notes s all.est) (sym taken.share)
      (subst (λ (e : EstPass). AreGatheredIn trace (1 + length (seats_of more)) (owner_of kit) notes no_notes mid.share e) (sym taken.est) gathered_mid))

  rights : (cpu context : ℕ) → cpu < trace.cpus → (known_of context (its cpu).seats.est).publishes ≡ true → (known_of context all.est).publishes ≡ true
  rights cpu context less publishes = ⊎_elim
      (λ low. (gathered.passes.published context low (opened.owners context low)).0)
      (λ high.
      let own_past = known_past context (its cpu).seats.est (omega (arith, high, (at_kit cpu less).each_context, opened.contexts_are)) in
      let all_past = known_past context all.est (omega (arith, high, taken.seats_are.each_context, opened.contexts_are)) in
      ap (λ (k : Known). k.publishes) (all_past ∙ sym own_past) ∙ publishes)
      (cases_lt context (contexts trace))

  has_of : (cpu : ℕ) → cpu < trace.cpus → HasOf cpu (its cpu).seats all
  has_of cpu less = record { came = λ r has. in_all cpu r less has; same = same_record cpu less; rights = λ context publishes. rights cpu context less publishes }

  -- ---- what was told

  abbrev side_of : (cpu : ℕ) → CpuSide D
  side_of cpu = (its cpu).side

  abbrev first_seats : (cpu : ℕ) → Seats
  first_seats cpu = (before cpu).seats

  abbrev lasts : (cpu : ℕ) → Shown
  lasts cpu = shown_at trace cpu (team_in written faults (its cpu)) all

  log_is : (cpu : ℕ) → cpu < trace.cpus → log_at (logs_of (sides_of done)) cpu ≡ (its cpu).side.log
  log_is cpu less =
      let low : cpu < length done = omega (arith, all_cpus) in
      let here : cpu < length (sides_of done) = omega (arith, low, made_long (λ (w : Worker D). w.side) done) in
      made_at (λ (s : CpuSide D). s.log) (sides_of done) cpu empty_log one.side here
      ∙ ap (λ (s : CpuSide D). s.log) (made_at (λ (w : Worker D). w.side) done cpu one.side one low)

  shown_same : (cpu : ℕ) → cpu < trace.cpus → (worker_there trace (worker_by written faults trace cpu (its cpu))).shown ≡ lasts cpu
  shown_same cpu less =
      let team = team_in written faults (its cpu) in
      let at_one : (its cpu).seats.cpu.layout ≡ all.cpu.layout = (at_kit cpu less).cpu.layout ∙ sym taken.seats_are.cpu.layout in
      λ i. shown_there trace (record (shown_of cpu (flusher_at team.posts) (sight team.desk.work (its cpu).seats team.log)) {
        held = sym (same_record cpu less) i;
        firsts = (setting (at_one i)).firsts;
      })

  cpu_worked : (cpu : ℕ) → cpu < trace.cpus → CpuWorked trace kit.published.moment cpu (first_seats cpu) (log_at (logs_of (sides_of done)) cpu) (lasts cpu) (notes cpu)
  cpu_worked cpu less =
      let whole = worked.whole told said written faults trace now kit first cpu (before cpu) (its cpu) (is_first cpu less) (has_worked cpu less) in
      subst (λ (log : CpuJournal). CpuWorked trace kit.published.moment cpu (first_seats cpu) log (lasts cpu) (notes cpu)) (sym (log_is cpu less))
      (record {
        names = whole.names;
        since = subst (λ (s : Shown). NotedSince trace kit.published.moment cpu (told_by (its cpu).side.log) (first_shown trace (firsts_of (first_seats cpu))) s (first_notes (first_seats cpu)) (notes cpu))
            (shown_same cpu less) whole.since;
      })

  last_held : (cpu : ℕ) → cpu < trace.cpus → HasCpu cpu (lasts cpu).held all
  last_held cpu less =
      let held = (holds cpu less).held in
      let there = in_all cpu held.0 less held.1 in
      subst (λ (r : CpuRecord). HasCpu cpu r all) (sym (record_is all.cpu.cpus cpu held.0 there)) there

  cpus_worked : CpusWorked trace kit.published.moment kit (logs_of (sides_of done)) first_seats lasts notes all
  cpus_worked = record {
    many = made_long (λ (s : CpuSide D). s.log) (sides_of done) ∙ made_long (λ (w : Worker D). w.side) done ∙ many ∙ firsts.many;
    each = cpu_worked;
    firsts = λ cpu less. (is_first cpu less).first_part;
    held = last_held;
  }

  team_is : (cpu : ℕ) (other : Team) → cpu < trace.cpus → get_or (teams_of written faults (sides_of done)) cpu other ≡ team_in written faults (its cpu)
  team_is cpu other less =
      let low : cpu < length done = omega (arith, all_cpus) in
      let here : cpu < length (sides_of done) = omega (arith, low, made_long (λ (w : Worker D). w.side) done) in
      made_at (λ (s : CpuSide D). team_of written faults s) (sides_of done) cpu other one.side here
      ∙ ap (λ (s : CpuSide D). team_of written faults s) (made_at (λ (w : Worker D). w.side) done cpu one.side one low)

  have_told : HaveTold trace kit (teams_of written faults (sides_of done)) (logs_of (sides_of done)) all
  have_told = record {
    first = first_seats;
    last = lasts;
    notes = notes;
    shows = λ cpu other less. ap (λ (team : Team). shown_at trace cpu team all) (sym (team_is cpu other less));
    together = record { cpus = cpus_worked; gathered = gathered };
  }

  -- ---- where they stand

  stands_at : (cpu : ℕ) → cpu < trace.cpus → SideStands said written faults trace cpu kit (its cpu).side all
  stands_at cpu less =
      let goes = worked.goes told said written faults trace now kit first cpu (before cpu) (its cpu) (is_first cpu less) (has_worked cpu less) in
      let ends = worked.ends told said written faults trace now kit first cpu (before cpu) (its cpu) (is_first cpu less) (has_worked cpu less) in
      let opens = still_open (before cpu).side.posts.items (its cpu).side.posts.items (is_first cpu less).is_first.opens (has_worked cpu less).stands in
      side_stands said written faults trace cpu kit (its cpu).seats all (has_of cpu less) (its cpu).side (team_in written faults (before cpu)) opens goes.stands ends
      (worked.tells told said written faults trace now kit first cpu (before cpu) (its cpu) (is_first cpu less) (has_worked cpu less))

  side_stands_at : (cpu : ℕ) (other : CpuSide D) → cpu < trace.cpus → SideStands said written faults trace cpu kit (get_or (sides_of done) cpu other) all
  side_stands_at cpu other less =
      let low : cpu < length done = omega (arith, all_cpus) in
      subst (λ (s : CpuSide D). SideStands said written faults trace cpu kit s all) (sym (made_at (λ (w : Worker D). w.side) done cpu other one low)) (stands_at cpu less)

  -- ---- rooms

  abbrev posts_at : (n : ℕ) → Team
  posts_at n = team_in written faults (get_or more n one)

  backed_at : (cpu : ℕ) → cpu < trace.cpus
      → AreBacked (domains trace) (contexts trace) (owed_in (team_in written faults (its cpu)).posts) (owed_totals (team_in written faults (its cpu)).posts) (its cpu).seats
  backed_at cpu less = (worked.goes told said written faults trace now kit first cpu (before cpu) (its cpu) (is_first cpu less) (has_worked cpu less)).stands.backed

  others_backed : (n : ℕ) (part : Seats) → n < length (seats_of more)
      → AreBacked (domains trace) (contexts trace) (owed_in (posts_at n).posts) (owed_totals (posts_at n).posts) (get_or (seats_of more) n part)
  others_backed n part less =
      let low : n < length more = omega (arith, made_long (λ (w : Worker D). w.seats) more) in
      subst (AreBacked (domains trace) (contexts trace) (owed_in (posts_at n).posts) (owed_totals (posts_at n).posts))
      (sym (made_at (λ (w : Worker D). w.seats) more n part one low)) (backed_at (suc n) (omega (arith, all_cpus)))

  -- what is owed to each, of the first worker and of the others
  abbrev owed_together : (owed : Team → ℕ) → ℕ
  owed_together owed = owed (team_in written faults one) + total (length (seats_of more)) (λ n. owed (posts_at n))

  owed_is : (owed : Team → ℕ) → sum_by owed (teams_of written faults (sides_of done)) ≡ owed_together owed
  owed_is owed =
      let rest = made_sum (λ (w : Worker D). team_in written faults w) owed more one in
      let same : teams_of written faults (sides_of more) ≡ map (λ (w : Worker D). team_in written faults w) more = made_twice more in
      let long = made_long (λ (w : Worker D). w.seats) more in
      let sum = sum_by-cons owed (team_in written faults one) (teams_of written faults (sides_of more)) in
      sum ∙ ap (λ (teams : List Team). owed (team_in written faults one) + sum_by owed teams) same
      ∙ ap (λ (n : ℕ). owed (team_in written faults one) + n) (sym rest)
      ∙ ap (λ (n : ℕ). owed (team_in written faults one) + total n (λ n. owed (posts_at n))) (sym long)
    where
      made_twice : (workers : List (Worker D)) → teams_of written faults (sides_of workers) ≡ map (λ (w : Worker D). team_in written faults w) workers
      made_twice [] = refl
      made_twice (w ∷ workers) = ap (λ (teams : List Team). team_in written faults w ∷ teams) (made_twice workers)

  no_cpu_after : (c : ℕ) (r : CpuRecord) → HasCpu c r after → ⊥
  no_cpu_after c r has = (left_is_first trace now kit first left lawful is are left_is).no_cpu c r (subst (λ (cpus : List (Option CpuRecord)). Has cpus c r) stay.cpus has)

  backed : AreBacked (domains trace) (contexts trace) (λ domain. sum_by (λ (team : Team). owed_in team.posts domain) (teams_of written faults (sides_of done)))
      (λ context. sum_by (λ (team : Team). owed_totals team.posts context) (teams_of written faults (sides_of done))) all
  backed =
      let owed = λ (domain : ℕ). owed_together (λ (team : Team). owed_in team.posts domain) in
      let owed_total = λ (context : ℕ). owed_together (λ (team : Team). owed_totals team.posts context) in
      backed_as (domains trace) (contexts trace) owed owed_total
      (λ domain. sum_by (λ (team : Team). owed_in team.posts domain) (teams_of written faults (sides_of done)))
      (λ context. sum_by (λ (team : Team). owed_totals team.posts context) (teams_of written faults (sides_of done))) all
      (λ domain. owed_is (λ (team : Team). owed_in team.posts domain)) (λ context. owed_is (λ (team : Team). owed_totals team.posts context))
      (taken_are_backed kit (domains trace) (contexts trace) owed owed_total after mid all after_at came.seats_are no_cpu_after
      (together_are_backed kit (domains trace) (contexts trace) 1 (λ n. owed_in (posts_at n).posts) (λ n. owed_totals (posts_at n).posts)
      (owed_in (team_in written faults one).posts) (owed_totals (team_in written faults one).posts) one.seats mid (seats_of more) came (at_kit 0 first_less)
      (λ n part less. others_at part n less) order none_yet (backed_at 0 first_less) others_backed)
      taken.records taken.share)

  -- ---- all

  moments : Each (λ (side : CpuSide D). Each (IsTold told) (told_by side.log)) (sides_of done)
  moments = each_made (λ (w : Worker D). w.side) (λ (side : CpuSide D). Each (IsTold told) (told_by side.log)) done one
      (λ n less.
      let low : n < trace.cpus = omega (arith, less, all_cpus) in
      worked.moments told said written faults trace now kit first n (before n) (its n) (is_first n low) (has_worked n low))

  disks : IfSome (written_by_all (teams_of written faults (sides_of done))) (λ total. total ≡ handed_over (logs_of (sides_of done)))
  disks = all_disks written faults done one
      (λ n less.
      let low : n < trace.cpus = omega (arith, less, all_cpus) in
      worked.disks told said written faults trace now kit first n (before n) (its n) (is_first n low) (has_worked n low))

  -- ---- queues

  few : 1 + length (seats_of more) ≤ 64
  few = omega (arith, all_cpus, lawful.within.cpus, made_long (λ (w : Worker D). w.seats) more)

  others_of_each : (n : ℕ) (part : Seats) → n < length (seats_of more) → HasOneOfEach kit (get_or (seats_of more) n part)
  others_of_each n part less =
      let low : n < length more = omega (arith, made_long (λ (w : Worker D). w.seats) more) in
      let cpu : suc n < trace.cpus = omega (arith, all_cpus) in
      subst (HasOneOfEach kit) (sym (made_at (λ (w : Worker D). w.seats) more n part one low))
      (worked.one_of_each told said written faults trace now kit first (suc n) (before (suc n)) (its (suc n)) (is_first (suc n) cpu) (has_worked (suc n) cpu) are (omega (arith, lawful.within.cpus)))

  all_staked : HasAllStakes kit.queues all.queue
  all_staked =
      let cpus : trace.cpus ≡ 1 + length (seats_of more) = omega (arith, all_cpus, made_long (λ (w : Worker D). w.seats) more) in
      all_stakes_come_together kit first left one.seats mid (seats_of more) after.queue all.queue are few (subst (λ (n : ℕ). IsLeft kit n first left) cpus left_is)
      (λ device. ap (λ (s : queue.Seats). (queue.known_of device s).stakes) stay.queue) after_at.each_device
      (worked.one_of_each told said written faults trace now kit first 0 (before 0) (its 0) (is_first 0 first_less) (has_worked 0 first_less) are (omega arith)) others_of_each came taken.queue

  flushers : (device : ℕ) → device < length trace.devices → HasFlusher device (teams_of written faults (sides_of done))
  flushers device low =
      let s = serves_first trace lawful device low in
      let Its = λ (p : Seen). p.plan.device ≡ device in
      let Has = λ (team : Team). AnyOf Its team.posts in
      let goes = worked.goes told said written faults trace now kit first s.cpu (before s.cpu) (its s.cpu) (is_first s.cpu s.there) (has_worked s.cpu s.there) in
      let had = s.serves (team_in written faults (before s.cpu)).posts (is_first s.cpu s.there).is_first.team.posts in
      let has = still_serves device (team_in written faults (before s.cpu)).posts (team_in written faults (its s.cpu)).posts goes.went.still had in
      let here : s.cpu < length (teams_of written faults (sides_of done)) =
      omega (arith, s.there, all_cpus, made_long (λ (side : CpuSide D). team_of written faults side) (sides_of done), made_long (λ (w : Worker D). w.side) done) in
      any_at Has (teams_of written faults (sides_of done)) s.cpu (team_in written faults one) here (subst Has (sym (team_is s.cpu (team_in written faults one) s.there)) has)

  all_open : Each (λ (side : CpuSide D). Each (λ (post : Post D). post.stand ≡ Open) side.posts.items) (sides_of done)
  all_open = each_made (λ (w : Worker D). w.side) (λ (side : CpuSide D). Each (λ (post : Post D). post.stand ≡ Open) side.posts.items) done one
      (λ n less.
      let low : n < trace.cpus = omega (arith, less, all_cpus) in
      still_open (before n).side.posts.items (its n).side.posts.items (is_first n low).is_first.opens (has_worked n low).stands)

  queued : AreQueued written faults trace kit (sides_of done) all
  queued = record {
    stakes = all_staked;
    many = opened.devices_are;
    flushers = flushers;
    emptied = λ device low all_done. absurd (not_yet_done written faults device (sides_of done) all_open all_done (flushers device low));
  }

  -- ---- logs

  abbrev cpus : ℕ
  cpus = first.cpu.layout.cpus

  cpus_same : cpus ≡ trace.cpus
  cpus_same = ap (λ (l : Layout). l.cpus) first_at.cpu.layout ∙ opened.cpus

  abbrev log_of : (cpu : ℕ) → List Logged
  log_of cpu = own_log_at (its cpu).seats.cpu.logs cpu

  tells_at : (cpu : ℕ) → cpu < trace.cpus → TellsTurns (limits_of kit.throttle.layout) cpu (its cpu).side.end (its cpu).seats
  tells_at cpu less = worked.tells_turns told said written faults trace now kit first cpu (before cpu) (its cpu) (is_first cpu less) (has_worked cpu less) are
      (subst (λ (n : ℕ). cpu < n) (sym cpus_same) less)

  its_log : (cpu : ℕ) → cpu < trace.cpus → HasLog (its cpu).seats.cpu.logs cpu (log_of cpu)
  its_log cpu less = let tells = tells_at cpu less in
      subst (λ (log : List Logged). HasLog (its cpu).seats.cpu.logs cpu log) (sym (log_held (its cpu).seats.cpu.logs cpu tells.0 tells.1)) tells.1

  own_log : (cpu : ℕ) → cpu < trace.cpus → IsOwnLog log_of cpus cpu (its cpu).seats.cpu
  own_log cpu less = worked.own_log told said written faults trace now kit first cpu (before cpu) (its cpu) (is_first cpu less) (has_worked cpu less) are
      (subst (λ (n : ℕ). cpu < n) (sym cpus_same) less) log_of (its_log cpu less)

  others_log : (n : ℕ) (part : Seats) → n < length (seats_of more) → IsOwnLog log_of cpus (1 + n) (get_or (seats_of more) n part).cpu
  others_log n part less =
      let low : n < length more = omega (arith, made_long (λ (w : Worker D). w.seats) more) in
      subst (λ (s : Seats). IsOwnLog log_of cpus (1 + n) s.cpu) (sym (made_at (λ (w : Worker D). w.seats) more n part one low))
      (subst (λ (c : ℕ). IsOwnLog log_of cpus c (get_or more n one).seats.cpu) (sym (from_one n)) (own_log (suc n) (omega (arith, all_cpus))))

  many_cpus : 1 + length (seats_of more) ≡ cpus
  many_cpus = omega (arith, all_cpus, cpus_same, made_long (λ (w : Worker D). w.seats) more)

  logs_mid : HasLogs log_of cpus cpus mid.cpu
  logs_mid = subst (λ (n : ℕ). HasLogs log_of cpus n mid.cpu) many_cpus
      (subst (λ (s : Seated). HasLogs log_of cpus (1 + length (seats_of more)) s) (sym came.cpu)
      (all_logs log_of cpus (seats_of more) 1 one.seats.cpu (omega (arith, many_cpus)) (first_log log_of cpus one.seats.cpu (own_log 0 first_less)) others_log))

  none_left : (c : ℕ) → c < cpus → HasNoLog c after.cpu.logs
  none_left c less = ap (λ (logs : Logs). get_elem? logs c) stay.logs ∙ left_is.logs_gone c [] (subst (λ (n : ℕ). c < n) cpus_same less) (first_log_of first.cpu are.cpu c less)

  logs_all : (cpu : ℕ) → cpu < trace.cpus → HasLog all.cpu.logs cpu (log_of cpu)
  logs_all cpu less = subst (λ (s : Seated). HasLog s.logs cpu (log_of cpu)) (sym taken.records)
      (logs_taken log_of cpus after.cpu mid.cpu none_left logs_mid cpu (subst (λ (n : ℕ). cpu < n) (sym cpus_same) less))

  pub timer_log_there : all.cpu.timer_log ≡ after.cpu.timer_log
  timer_log_there = ap (λ (s : Seated). s.timer_log) taken.records ∙ timer_log_stays log_of cpus after.cpu mid.cpu logs_mid

  turns : TellTurns kit trace.cpus (sides_of done) all
  turns cpu other less =
      let tells = tells_at cpu less in
      let end_is : (its cpu).side.end ≡ (get_or (sides_of done) cpu other).end =
      ap (λ (s : CpuSide D). s.end) (sym (made_at (λ (w : Worker D). w.side) done cpu other one (omega (arith, less, all_cpus)))) in
      subst (λ (e : End). TellsTurns (limits_of kit.throttle.layout) cpu e all) end_is (
        log_of cpu,
        logs_all cpu less,
        subst (λ (log : List Logged). AreWordsBy (IsTurnOrLook (limits_of kit.throttle.layout) cpu) (its cpu).side.end (kinds_in log)) (sym (log_held (its cpu).seats.cpu.logs cpu tells.0 tells.1)) tells.2,
      )

  pub all_standing : AreStanding told said written faults trace kit (sides_of done) all
  all_standing = record {
    many = made_long (λ (w : Worker D). w.side) done ∙ many ∙ firsts.many;
    seats_are = taken.seats_are;
    all_held = all_held;
    told_all = have_told;
    each = side_stands_at;
    backed = backed;
    moments = moments;
    disks = disks;
    queued = queued;
    turns = turns;
  }

  one_each : (n : ℕ) (part : Seats) → n < length (seats_of more) → HasOneStake kit (get_or (seats_of more) n part)
  one_each n part less =
      let low : n < length more = omega (arith, made_long (λ (w : Worker D). w.seats) more) in
      let cpu : suc n < trace.cpus = omega (arith, all_cpus) in
      subst (HasOneStake kit) (sym (made_at (λ (w : Worker D). w.seats) more n part one low))
      (worked.one_stake told said written faults trace now kit first (suc n) (before (suc n)) (its (suc n)) (is_first (suc n) cpu) (has_worked (suc n) cpu))

  pub makes_all : MakeAll kit after.share all.share
  makes_all later joined kept both its_seat domain low =
      let cpus : trace.cpus ≡ 1 + length (seats_of more) = omega (arith, all_cpus, made_long (λ (w : Worker D). w.seats) more) in
      all_notes_come_together kit first left one.seats mid (seats_of more) after.share later joined first_at are
      (subst (λ (n : ℕ). IsLeft kit n first left) cpus left_is) stay.stakes
      (worked.one_stake told said written faults trace now kit first 0 (before 0) (its 0) (is_first 0 first_less) (has_worked 0 first_less)) one_each came
      (λ d. kept d ∙ ap (λ (s : ShareSeats). stakes_in d s.domains) taken.share) both its_seat domain low
