-- What the journal of a run names is there: pages that are left, checks and estimates, homes and steps.
use Rattle.std.proofs.Common.{◌≡◌, ℕ, zero, suc, ◌+◌, ◌<◌, ◌≤◌, false, eqb, List, [], ◌∷◌, length, map, get_or, refl, sym, subst, arith, None}
use Rattle.std.proofs.lemmas.Bool.Decides.{nat_tests}
use Rattle.std.proofs.lemmas.List.{length-map, length_push}
use Rattle.wbt_replay_order.proofs.Common.{Book, page_word, Each, domains, Trace, State, no_cpu, Cpu, IsAtHome, IsWhole, opening, first_cpu, first_cpus, advance, is_ended, base_of, bases_of, left_from, part_of, last_state, state_at, most_moves, journal_of, Facts, PartNamesInOrder, Naming, Sound}
use Rattle.wbt_book.proofs.Ledgers.{at_most_one}
use Rattle.wbt_journal.specs.Leaves.{LeftFrom}
use Rattle.wbt_journal.specs.Told.{NamesInOrder}
use Rattle.wbt_trace.specs.declared.trace.Context.{Context}
use Rattle.wbt_replay_order.proofs.Facts.Lists.{either}
use Rattle.wbt_replay_ends.proofs.Ends.Opening.{each_push}
use Rattle.wbt_replay_order.proofs.Growth.Runs.{run_along}
use Rattle.wbt_replay_ends.proofs.Names.Moves.{advance_logs}

-- ---- pages

pub left_in_order : (pages page least : ℕ) (book : Book) → least ≤ page → LeftFrom least (left_from pages page book)
left_in_order zero page least book from = tt
left_in_order (suc pages) page least book from =
    either (LeftFrom least) (eqb (page_word (book page)) 0) _ _
    (λ none. left_in_order pages (page + 1) least book (omega (arith, from)))
    (λ some.
    let word : 1 ≤ page_word (book page) = grind (arith, nat_tests, some) in
    (from, word, omega (arith, at_most_one (book page).dirty, at_most_one (book page).writeback), left_in_order pages (page + 1) (page + 1) book (omega arith)))

-- ---- parts

parts_in_order : (cpus : List Cpu) → ((i : ℕ) → PartNamesInOrder (get_or cpus i no_cpu)) → Each NamesInOrder (map part_of cpus)
parts_in_order [] all = tt
parts_in_order (c ∷ cpus) all = (all 0, parts_in_order cpus (λ i. all (suc i)))

-- ---- homes

bases_long : (trace : Trace) (n : ℕ) → length (bases_of trace n) ≡ n
bases_long trace zero = refl
bases_long trace (suc n) = let rest = bases_long trace n in let long = length_push (bases_of trace n) (base_of trace n) in omega (arith, rest, long)

each_home : (bound : ℕ) (contexts : List Context) → ((k : ℕ) → k < length contexts → (get_or contexts k (record { device = 0; domain = 0; expire = None; estimate = None })).domain < bound)
    → Each (λ home. home < bound) (map (λ c. c.domain) contexts)
each_home bound [] all = tt
each_home bound (c ∷ contexts) all = (all 0 (omega arith), each_home bound contexts (λ k less. all (suc k) (omega (arith, less))))

-- ---- the opening

first_named : (trace : Trace) (n i : ℕ) → PartNamesInOrder (get_or (first_cpus trace n) i no_cpu)
first_named trace zero i = (refl, refl)
first_named trace (suc n) i = each_push PartNamesInOrder (first_cpus trace n) (first_cpu trace n) no_cpu (first_named trace n) (refl, refl) (refl, refl) i

pub opening_named : (trace : Trace) → Naming trace (opening trace)
unfolding opening
opening_named trace = record { named = first_named trace trace.cpus; steps = tt }

-- ---- the journal

module _ (trace : Trace) (facts : Facts trace) (Q : State → Type 0) (sound : (s : State) → Q s → Sound trace s) (first : Q (opening trace))
    (on : (s : State) → is_ended s ≡ false → Q s → Q (advance trace s)) where
  abbrev Both : (s : State) → Type 0
  Both s = Q s × Naming trace s

  -- What is named is there at each moment.
  pub naming_at : (moves : ℕ) → Naming trace (state_at trace moves)
  naming_at moves =
      (run_along Both trace (λ s going h. (on s going h.0, advance_logs trace facts s (sound s h.0) h.1)) moves (opening trace) (first, opening_named trace)).1

  pub whole : IsWhole (journal_of trace)
  unfolding journal_of
  whole =
      let h = naming_at most_moves in
      let bases : length (bases_of trace (domains trace)) ≡ domains trace = bases_long trace (domains trace) in
      let homes = length-map trace.contexts (λ (c : Context). c.domain) in
      record {
        left = left_in_order (last_state trace).pages 0 0 (last_state trace).book (omega arith);
        named = parts_in_order (last_state trace).cpus h.named;
        homes = subst (λ (n : ℕ). Each (λ home. home < n) (map (λ (c : Context). c.domain) trace.contexts)) (sym bases)
            (each_home (domains trace) trace.contexts (λ k less. omega (arith, facts.context_group k less)));
        steps = subst (λ (n : ℕ). Each (IsAtHome n (length (bases_of trace (domains trace)))) (last_state trace).steps) (sym homes)
            (subst (λ (n : ℕ). Each (IsAtHome (length trace.contexts) n) (last_state trace).steps) (sym bases) h.steps);
      }
