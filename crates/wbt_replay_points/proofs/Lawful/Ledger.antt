-- Each page was claimed and completed as often as it was dirtied, but for what is left; and the pages that are left are there.
use Rattle.std.proofs.Common.{◌≡◌, ℕ, zero, suc, ◌+◌, ◌<◌, ◌≤◌, Bool, true, false, cond, eqb, List, [], ◌∷◌, length, map, flat_map, get_or, Option, Some, None, sum_by, count_by, refl, sym, ◌∙◌, ap, subst, arith}
use Rattle.std.proofs.lemmas.List.{length-map}
use Rattle.std.proofs.lemmas.List.Sums.{sum_by-cons, sum_by-append}
use Rattle.wbt_replay_order.proofs.Common.{IsLawful, Trace, one_if, total_same, Book, page_word, dirties, times, all_times, Event, Dirty, Claim, Complete, has_page, Each, event_of, of_part, LedgerIsEven, LeftPagesAreThere, pages, page_context, Told, told, Left, event_in, onto, eqb_turned, joined, told_is, State, cpu_of, Cpu, deeds_told, AreCleaned, TellsLeft, events_told, NeverFails, inode_with, most_moves, part_of, last_state, left_from, journal_of, Sound}
use Rattle.wbt_book.specs.Ledger.{claims, completes, redirties, absorbs}
use Rattle.wbt_book.specs.declared.event.Event.TheVariants.{Redirty, Absorb}
use Rattle.wbt_journal.specs.Effects.{listed}
use Rattle.wbt_journal.specs.Leaves as leaves
use Rattle.wbt_journal.specs.Leaves.{IsEven, is_page}
use Rattle.wbt_run_laws.proofs.Parts.{records_sum}
use Rattle.wbt_replay_points.proofs.Claims.Found.{told_events}
use Rattle.wbt_replay_points.proofs.Claims.Sums.{part_at}
use Rattle.wbt_replay_points.proofs.Claims.Unfailing.{none_given_back}
use Rattle.wbt_replay_order.proofs.Facts.Inodes.{no_inode}
use Rattle.wbt_replay_order.proofs.Facts.Lists.{either}
use Rattle.wbt_replay_points.proofs.Lawful.Told.{context_is}

-- ---- entries by what one of their events does

abbrev one_for : (is : Event → Bool) (event : Event) → ℕ
one_for is event = cond (is event) 1 0

times_is : (is : Event → Bool) (events : List Event) → times is events ≡ sum_by (one_for is) events
times_is is [] = refl
times_is is (event ∷ older) = let rest = times_is is older in let counted = sum_by-cons (one_for is) event older in omega (arith, rest, counted)

one_same : (a b : Bool) → a ≡ b → one_if a ≡ 0 + one_if b
one_same a b is = let same = ap one_if is in omega (arith, same)

-- a test of the journal's that says what one of the book's does
of_event : (is test : Event → Bool) → ((event : Event) → test event ≡ is event) → (part : Option Event) → cond (of_part false test part) 1 0 ≡ sum_by (one_for is) (listed part)
of_event is test same None = refl
of_event is test same (Some event) = one_same (test event) (is event) (same event)

entries_are : (is test : Event → Bool) → ((event : Event) → test event ≡ is event) → (es : List Told)
    → count_by (λ (e : Told). of_part false test (event_of e)) es ≡ sum_by (one_for is) (flat_map event_in es)
entries_are is test same [] = refl
entries_are is test same (e ∷ es) =
    let rest = entries_are is test same es in
    let first = of_event is test same (event_of e) in
    let counted = sum_by-cons (λ (x : Told). cond (of_part false test (event_of x)) 1 0) e es in
    let both = sum_by-append (one_for is) (event_in e) (flat_map event_in es) in omega (arith, rest, first, counted, both)

same_dirtying : (page : ℕ) (event : Event) → leaves.is_dirtying page event ≡ dirties page event
same_dirtying page (Dirty of) = eqb_turned of page
same_dirtying page (Claim of) = refl
same_dirtying page (Complete of) = refl
same_dirtying page (Redirty of) = refl
same_dirtying page (Absorb of) = refl

same_claim : (page : ℕ) (event : Event) → leaves.is_claim page event ≡ claims page event
same_claim page (Dirty of) = refl
same_claim page (Claim of) = eqb_turned of page
same_claim page (Complete of) = refl
same_claim page (Redirty of) = refl
same_claim page (Absorb of) = refl

same_completing : (page : ℕ) (event : Event) → leaves.is_completing page event ≡ completes page event
same_completing page (Dirty of) = refl
same_completing page (Claim of) = refl
same_completing page (Complete of) = eqb_turned of page
same_completing page (Redirty of) = refl
same_completing page (Absorb of) = refl

same_redirtying : (page : ℕ) (event : Event) → leaves.is_redirtying page event ≡ redirties page event
same_redirtying page (Dirty of) = refl
same_redirtying page (Claim of) = refl
same_redirtying page (Complete of) = refl
same_redirtying page (Redirty of) = eqb_turned of page
same_redirtying page (Absorb of) = refl

same_absorbing : (page : ℕ) (event : Event) → leaves.is_absorbing page event ≡ absorbs page event
same_absorbing page (Dirty of) = refl
same_absorbing page (Claim of) = refl
same_absorbing page (Complete of) = refl
same_absorbing page (Redirty of) = refl
same_absorbing page (Absorb of) = eqb_turned of page

-- ---- the journal

module _ (trace : Trace) (seats : length (last_state trace).cpus ≡ trace.cpus) where
  abbrev s : State
  s = last_state trace

  abbrev parts : List (List Told)
  parts = map told (map part_of s.cpus)

  many : length parts ≡ trace.cpus
  many = length-map (map part_of s.cpus) told ∙ length-map s.cpus part_of ∙ seats

  events_are : (c : ℕ) → c < trace.cpus → events_told [] (cpu_of c s).entries ≡ onto event_in (get_or parts c []) []
  events_are c less =
      let cpu : Cpu = cpu_of c s in
      told_events cpu.checks cpu.estimates [] cpu.entries ∙ ap (λ (l : List Told). onto event_in l []) (sym (part_at s.cpus c (omega (arith, less, seats))))

  -- all parts tell an event as often as the CPUs' entries do
  told_times : (is test : Event → Bool) → ((event : Event) → test event ≡ is event)
      → count_by (λ (e : Told). of_part false test (event_of e)) (joined parts) ≡ all_times trace.cpus is (deeds_told s)
  told_times is test same =
      entries_are is test same (joined parts)
      ∙ records_sum event_in (one_for is) trace.cpus parts (λ c. events_told [] (cpu_of c s).entries) many events_are
      ∙ total_same trace.cpus (λ c. sum_by (one_for is) (events_told [] (cpu_of c s).entries)) (λ c. times is (events_told [] (cpu_of c s).entries))
      (λ c less. sym (times_is is (events_told [] (cpu_of c s).entries)))

  pub ledger_even : AreCleaned trace → NeverFails trace → TellsLeft trace → LedgerIsEven trace (journal_of trace)
  unfolding journal_of
  ledger_even cleaned never left page less =
      let at = told_is (map part_of s.cpus) in
      let clean = cleaned most_moves page in
      let made = told_times (dirties page) (leaves.is_dirtying page) (same_dirtying page) in
      let taken = told_times (claims page) (leaves.is_claim page) (same_claim page) in
      let given = told_times (completes page) (leaves.is_completing page) (same_completing page) in
      let none_redirtied = none_given_back (redirties page) (λ q. refl) (λ q. refl) (λ q. refl) trace never most_moves in
      let none_absorbed = none_given_back (absorbs page) (λ q. refl) (λ q. refl) (λ q. refl) trace never most_moves in
      let again = told_times (redirties page) (leaves.is_redirtying page) (same_redirtying page) in
      let absorbed = told_times (absorbs page) (leaves.is_absorbing page) (same_absorbing page) in
      let dirty = left.dirty page less in
      let writeback = left.writeback page less in
      subst (λ (es : List Told). IsEven es (left_from s.pages 0 s.book) page) (sym at)
      (record {
        claimed_all = omega (arith, clean.dirtyings, made, again, none_redirtied, taken, dirty);
        released_all = omega (arith, clean.claimings, taken, given, again, none_redirtied, absorbed, none_absorbed, writeback);
      })

-- ---- the pages that are left

each_left : (P : Left → Type 0) (book : Book) (n p : ℕ) → ((q word : ℕ) → p ≤ q → q < p + n → P (record { page = q; word = word })) → Each P (left_from n p book)
each_left P book zero p all = tt
each_left P book (suc n) p all =
    let rest = each_left P book n (p + 1) (λ q v low high. all q v (omega (arith, low)) (omega (arith, high))) in
    either (Each P) (eqb (page_word (book p)) 0) _ _ (λ none. rest) (λ some. (all p (page_word (book p)) (omega arith) (omega arith), rest))

module _ (trace : Trace) (lawful : IsLawful trace) where
  -- the context of a page that there is
  pub page_context_is : (page : ℕ) → page < pages trace → page_context trace page ≡ Some (get_or trace.inodes (inode_with trace page) no_inode).context
  page_context_is page less = context_is 0 0 page trace.inodes lawful.within.inodes.firsts (omega arith) (omega (arith, less)) (inode_with trace page) (omega arith)

  pub left_there : Sound trace (last_state trace) → LeftPagesAreThere trace (journal_of trace)
  unfolding journal_of
  left_there sound =
      each_left (λ (left : Left). is_page trace left ≡ true) (last_state trace).book (last_state trace).pages 0
      (λ q word low high. ap has_page (page_context_is q (omega (arith, high, sound.holds.pages))))
