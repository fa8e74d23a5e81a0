-- What the journal of a run names is there.
use Rattle.std.proofs.Common.{◌≡◌, ℕ, zero, suc, ◌+◌, ◌<◌, ◌≤◌, ◌⊎◌, inl, inr, ◌&&◌, eqb, pos, List, [], ◌∷◌, ◌++◌, length, map, get_or, take, All, refl, sym, ◌∙◌, subst, arith, ⊎_elim, None}
use Rattle.std.proofs.lemmas.Bool.{cases_Bool}
use Rattle.std.proofs.lemmas.Bool.Decides.{nat_tests}
use Rattle.std.proofs.lemmas.List.{length-map}
use Rattle.std.proofs.lemmas.List.Elements.{All-head}
use Rattle.wbt_trace.specs.declared.trace.Context.{Context}
use Rattle.wbt_replay_order.proofs.Common.{Trace, Book, page_word, grant, page_now, last_found, AreAllowed, Setting, IsSetting, Each, domains, StepEntry, State, TimerTodo, entries_of, IsFollowed, setting_of, IsAtHome, IsWhole, opening, advance, is_ended, bases_of, most_moves, state_at, last_state, left_from, journal_of, Facts, Sound, TimerItemFits}
use Rattle.wbt_book.proofs.Ledgers.{at_most_one}
use Rattle.wbt_grant.specs.Kinds.{Step, add, fold, clear, count, dirty, look, claim, complete, back, peak, unseal, thresh, publish, first, middle, limits, mark, unmark, after, Allowed}
use Rattle.wbt_grant.specs.State as throttle
use Rattle.wbt_journal.specs.Leaves.{LeftFrom}
use Rattle.wbt_replay_moves.specs.declared.todo.TimerStep.TheVariants as timer_step
use Rattle.wbt_replay_moves.specs.declared.todo.TimerTodo.TheVariants as timer_todo
use Rattle.wbt_replay_order.specs.Claims.Path.{tells}
use Rattle.wbt_replay_order.proofs.Facts.Lists.{either}
use Rattle.wbt_replay_points.proofs.Claims.Counted.{many_bases}
use Rattle.wbt_replay_order.proofs.Growth.Growing.{RaisesNext, Grew}
use Rattle.wbt_replay_order.proofs.Growth.Grown.{advance_grows, no_steps}
use Rattle.wbt_replay_points.proofs.Claims.Fresh.{may_decide}
use Rattle.wbt_replay_points.proofs.Claims.Named.{named_at, parts_named}
use Rattle.wbt_replay_order.proofs.Growth.Runs.{run_last, run_stays}

-- ---- pages

left_in_order : (pages page least : ℕ) (book : Book) → least ≤ page → LeftFrom least (left_from pages page book)
left_in_order zero page least book from = tt
left_in_order (suc pages) page least book from =
    either (LeftFrom least) (eqb (page_word (book page)) 0) _ _
    (λ none. left_in_order pages (page + 1) least book (omega (arith, from)))
    (λ some.
    let word : 1 ≤ page_word (book page) = grind (arith, nat_tests, some) in
    (from, word, omega (arith, at_most_one (book page).dirty, at_most_one (book page).writeback), left_in_order pages (page + 1) (page + 1) book (omega arith)))

-- ---- homes

all_based : (most : ℕ) (contexts : List Context) → ((k : ℕ) → k < length contexts → (get_or contexts k (record { device = 0; domain = 0; expire = None; estimate = None })).domain ≤ most)
    → Each (λ home. home < suc most) (map (λ c. c.domain) contexts)
all_based most [] all = tt
all_based most (c ∷ contexts) all = (omega (arith, all 0 (omega arith)), all_based most contexts (λ k less. all (suc k) (omega (arith, less))))

-- ---- steps

each_append : {A : Type 0} (P : A → Type 0) (xs ys : List A) → Each P xs → Each P ys → Each P (xs ++ ys)
each_append P [] ys h k = k
each_append P (x ∷ xs) ys h k = (h.0, each_append P xs ys h.1 k)

each_both : {A : Type 0} (P Q : A → Type 0) (xs : List A) → Each P xs → Each Q xs → Each (λ x. P x × Q x) xs
each_both P Q [] h k = tt
each_both P Q (x ∷ xs) h k = ((h.0, k.0), each_both P Q xs h.1 k.1)

-- it changes the count of a context that is there, or none
abbrev Counts : (contexts : ℕ) (e : StepEntry) → Type 0
Counts contexts e = (e.change ≡ pos 0) ⊎ (e.context < contexts)

module _ (set : Setting) (ok : IsSetting set) where
  counts_of : (step : Step) (t : throttle.State) → Allowed set step t → Each (Counts set.contexts) (entries_of set step t)
  counts_of (add i x) t may = (inl refl, tt)
  counts_of (fold i x) t may = (inl refl, tt)
  counts_of (clear i x) t may = (inl refl, tt)
  counts_of (count who x) t may = (inl refl, tt)
  counts_of (dirty w p) t may =
      (either (Counts set.contexts) (t.book p).dirty _ _ (λ known. inl refl) (λ fresh. inr (ok.homes p may.page_is)), tt)
  counts_of (look i p) t may = (inl refl, tt)
  counts_of (claim i p) t may = (inl refl, tt)
  counts_of (complete i p) t may = (inr (ok.homes p may.page_is), tt)
  counts_of (back i p) t may =
      (either (Counts set.contexts) (eqb (page_now set p t) (last_found (t.cpu i).last) && (t.book p).dirty) _ _ (λ absorbed. inr (ok.homes p may.page_is)) (λ other. inl refl), tt)
  counts_of (peak d hard) t may = (inl refl, tt)
  counts_of (unseal d) t may = (inl refl, tt)
  counts_of (thresh d triple) t may = (inl refl, tt)
  counts_of (publish d triple) t may = (inl refl, tt)
  counts_of (first i d) t may = (inl refl, tt)
  counts_of (middle i d) t may = (inl refl, tt)
  counts_of (limits who d) t may = (inl refl, tt)
  counts_of (mark i n) t may = (inl refl, tt)
  counts_of (unmark i n) t may = (inl refl, tt)
  counts_of (grant w pages) t may = tt

  all_count : (steps : List Step) (t : throttle.State) → AreAllowed set steps t → Each (Counts set.contexts) (tells set steps t)
  all_count [] t allowed = tt
  all_count (step ∷ steps) t allowed =
      each_append (Counts set.contexts) (entries_of set step t) (tells set steps (after set step t)) (counts_of step t allowed.0) (all_count steps (after set step t) allowed.1)

contexts_are : (trace : Trace) → (setting_of trace).contexts ≡ length trace.contexts
unfolding setting_of
contexts_are trace = refl

-- the domain of the peak that the timer raises next is there
raises_there : (trace : Trace) (d : ℕ) (todos : List TimerTodo) → All (TimerItemFits trace) todos → RaisesNext d todos → d < domains trace
raises_there trace d [] all raises = absurd raises
raises_there trace d (timer_todo.Step (timer_step.Peak of) ∷ more) all raises =
    subst (λ (n : ℕ). n < domains trace) raises (All-head (TimerItemFits trace) (timer_todo.Step (timer_step.Peak of)) more all)
raises_there trace d (timer_todo.Step (timer_step.Count of) ∷ more) all raises = absurd raises
raises_there trace d (timer_todo.Step (timer_step.Unseal of) ∷ more) all raises = absurd raises
raises_there trace d (timer_todo.Step (timer_step.Thresh of) ∷ more) all raises = absurd raises
raises_there trace d (timer_todo.Step (timer_step.Publish of) ∷ more) all raises = absurd raises
raises_there trace d (timer_todo.Silent item ∷ more) all raises = absurd raises

-- it names a domain that is there
abbrev Names : (trace : Trace) (e : StepEntry) → Type 0
Names trace e = e.domain < domains trace

based_more : (trace : Trace) (actor : ℕ) (before now : List StepEntry) (todos : List TimerTodo) → All (TimerItemFits trace) todos → Grew actor before now todos
    → Each (Names trace) before → Each (Names trace) now
based_more trace actor before now todos all more h = ⊎_elim
    (λ same. subst (Each (Names trace)) (sym same) h)
    (λ one.
    let there : one.entry.domain < domains trace = ⊎_elim (λ global. omega (arith, global)) (raises_there trace one.entry.domain todos all) one.domain in
    subst (Each (Names trace)) (sym one.is) (each_append (Names trace) before (one.entry ∷ []) h (there, tt)))
    more

module _ (trace : Trace) (sound : (moves : ℕ) → Sound trace (state_at trace moves)) where
  all_based_at : (moves : ℕ) → Each (Names trace) (state_at trace moves).steps
  all_based_at zero = subst (Each (Names trace)) (sym (no_steps trace)) tt
  all_based_at (suc m) = ⊎_elim
      (λ over. subst (λ (s : State). Each (Names trace) s.steps) (sym (run_stays trace m (suc m) (opening trace) (omega arith) over)) (all_based_at m))
      (λ going.
      let more = advance_grows trace (state_at trace m) in
      subst (λ (s : State). Each (Names trace) s.steps) (sym (run_last trace m (suc m) (opening trace) (omega arith) going))
      (based_more trace more.0 (state_at trace m).steps (advance trace (state_at trace m)).steps (state_at trace m).timer.todo (sound m).holds.timer.todo
      more.1 (all_based_at m)))
      (cases_Bool (is_ended (state_at trace m)))

  pub whole : Facts trace → IsSetting (setting_of trace) → IsFollowed trace → IsWhole (journal_of trace)
  unfolding journal_of
  whole facts ok followed =
      let made = followed.made most_moves in
      let steps : List StepEntry = (last_state trace).steps in
      let count = subst (Each (Counts (setting_of trace).contexts)) made.1.told
      (all_count (setting_of trace) ok (take made.0 followed.steps) (throttle.opening (setting_of trace)) made.1.allowed) in
      let homes : (setting_of trace).contexts ≡ length (map (λ c. c.domain) trace.contexts) = contexts_are trace ∙ sym (length-map trace.contexts (λ c. c.domain)) in
      record {
        left = left_in_order (last_state trace).pages 0 0 (last_state trace).book (omega arith);
        named = parts_named (last_state trace).cpus (named_at trace (may_decide trace ok followed sound) most_moves);
        homes = subst (λ (n : ℕ). Each (λ home. home < n) (map (λ c. c.domain) trace.contexts)) (sym (many_bases trace (domains trace)))
            (all_based (length trace.cgroups) trace.contexts facts.context_group);
        steps =
            subst (λ (n : ℕ). Each (IsAtHome n (length (bases_of trace (domains trace)))) steps) homes
            (subst (λ (n : ℕ). Each (IsAtHome (setting_of trace).contexts n) steps) (sym (many_bases trace (domains trace)))
            (each_both (Counts (setting_of trace).contexts) (Names trace) steps count (all_based_at most_moves)));
      }
