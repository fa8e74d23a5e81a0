-- Most changes leave the book alone, and of each flusher but the turn's its phase, and put down no claim.
use Rattle.std.proofs.Common.{◌≡◌, ◌≢◌, ℕ, zero, suc, ◌==◌, Bool, true, false, cond, ℤ, pos, ◌+ℤ◌, unsigned_abs, List, [], ◌∷◌, ◌++◌, length, map, set, get_or, refl, sym, ◌∙◌, ap, subst, arith, ⊎_elim}
use Rattle.std.proofs.lemmas.Bool.{cases_lt}
use Rattle.std.proofs.lemmas.Int.{ints}
use Rattle.std.proofs.lemmas.List.{get_or-set_same, get_or-set_other, set_past}
use mathlib.Core.Logic.{dite}
use native.Mathlib.Decide.{ℕ_discrete}
use Rattle.wbt_replay_order.proofs.Common.{Counter, Context, Trace, batch_of, is_in, change_in, StepEntry, flusher_device, do_next, own_of, with_own, log_at, waits, with_pairs, State, no_cpu, no_flusher, cpu_of, flusher_of, waiting_of, with_waiting, with_queue, in_phase, Cpu, Flusher, Whose, Todo, cpu_after, apply, apply_all, Change, CpuChange, FlusherChange}
use Rattle.wbt_counter.specs.declared.counter.Counter.TheVariants.{Domain}
use Rattle.wbt_journal.specs.declared.entry.Entry.TheVariants as entry
use Rattle.wbt_replay_moves.specs.declared.state.ReplayPhase.TheVariants as phase
use Rattle.wbt_replay_moves.specs.declared.state.Whose.TheVariants as whose
use Rattle.wbt_replay_moves.specs.declared.todo.Step.TheVariants as step
use Rattle.wbt_replay_moves.specs.declared.todo.Todo.TheVariants as todo
use Rattle.wbt_replay_order.proofs.Facts.Lists.{either}
use Rattle.wbt_replay_changes.specs.Apply.{flusher_after}
use Rattle.wbt_replay_changes.specs.Change as change
use Rattle.wbt_replay_changes.specs.Change.Cpu as cpu_change
use Rattle.wbt_replay_changes.specs.Change.Flusher as flusher_change
use Rattle.wbt_forecast_rows.specs.Counts.{homes_of, count_after}

-- ---- items that claim nothing

abbrev pub is_claim : (t : Todo) → Bool
is_claim (todo.Step (step.Claim word)) = true
is_claim (todo.Step item) = false
is_claim (todo.Silent item) = false

-- none of the items is a claim
abbrev pub NoClaims : (todos : List Todo) → Type 0
NoClaims [] = Unit {0}
NoClaims (t ∷ more) = (is_claim t ≡ false) × NoClaims more

pub none_more : (xs ys : List Todo) → NoClaims xs → NoClaims ys → NoClaims (xs ++ ys)
none_more [] ys one two = two
none_more (x ∷ xs) ys one two = (one.0, none_more xs ys one.1 two)

-- ---- counts of steps

pub count_more : (homes : List ℕ) (domain : ℕ) (count : ℤ) (xs ys : List StepEntry)
    → count_after homes domain count (xs ++ ys) ≡ count_after homes domain (count_after homes domain count xs) ys
count_more homes domain count [] ys = refl
count_more homes domain count (x ∷ xs) ys = count_more homes domain (count +ℤ change_in homes domain x) xs ys

no_change : (b : Bool) (z : ℤ) → z +ℤ cond b (pos 0) (pos 0) ≡ z
no_change true z = omega (arith, ints)
no_change false z = omega (arith, ints)

-- a step that changes no count
pub plain_count : (homes : List ℕ) (domain : ℕ) (xs : List StepEntry) (e : StepEntry) → e.change ≡ pos 0
    → count_after homes domain (pos 0) (xs ++ e ∷ []) ≡ count_after homes domain (pos 0) xs
plain_count homes domain xs e none =
    let before = count_after homes domain (pos 0) xs in
    count_more homes domain (pos 0) xs (e ∷ [])
    ∙ (ap (λ (z : ℤ). before +ℤ cond (is_in homes e.context domain) z (pos 0)) none ∙ no_change (is_in homes e.context domain) before)

-- ---- what a change leaves

-- the pages that a flusher has claimed
abbrev pub batch_in : (f : Flusher) → List ℕ
batch_in f = f.batch

-- The book, the batches and the counts are the same.
pub record Still (trace : Trace) (s u : State) : Type 0 where
  pub book : u.book ≡ s.book
  pub batches : map batch_in u.flushers ≡ map batch_in s.flushers
  pub counts : (d : ℕ) → count_after (homes_of trace) d (pos 0) u.steps ≡ count_after (homes_of trace) d (pos 0) s.steps

-- All other CPUs are the same, and the phases of all flushers but that of the turn.
pub record Frames (i : ℕ) (w : Whose) (s u : State) : Type 0 where
  pub cpus : (j : ℕ) → j ≢ i → cpu_of j u ≡ cpu_of j s
  pub phases : (g : ℕ) → w ≢ whose.Flusher g → (flusher_of g u).phase ≡ (flusher_of g s).phase

-- and the CPU itself gets no claim to do
pub record Quietly (trace : Trace) (i : ℕ) (w : Whose) (s u : State) : Type 0 where
  pub still : Still trace s u
  pub frames : Frames i w s u
  pub own : NoClaims (cpu_of i s).todo → NoClaims (cpu_of i u).todo

pub still_on : (trace : Trace) (s u v : State) → Still trace s u → Still trace u v → Still trace s v
still_on trace s u v one two = record {
  book = two.book ∙ one.book;
  batches = two.batches ∙ one.batches;
  counts = λ d. two.counts d ∙ one.counts d;
}

pub frames_on : (i : ℕ) (w : Whose) (s u v : State) → Frames i w s u → Frames i w u v → Frames i w s v
frames_on i w s u v one two = record {
  cpus = λ j other. two.cpus j other ∙ one.cpus j other;
  phases = λ g other. two.phases g other ∙ one.phases g other;
}

module _ (trace : Trace) (i : ℕ) (w : Whose) where
  pub quiet_on : (s u v : State) → Quietly trace i w s u → Quietly trace i w u v → Quietly trace i w s v
  quiet_on s u v one two = record {
    still = still_on trace s u v one.still two.still;
    frames = frames_on i w s u v one.frames two.frames;
    own = λ none. two.own (one.own none);
  }

  -- nothing of this is another
  pub quiet_same : (s u : State) → u.book ≡ s.book → u.flushers ≡ s.flushers → u.steps ≡ s.steps → u.cpus ≡ s.cpus → Quietly trace i w s u
  quiet_same s u book flushers steps cpus = record {
    still = record {
      book = book;
      batches = ap (map batch_in) flushers;
      counts = λ d. ap (count_after (homes_of trace) d (pos 0)) steps;
    };
    frames = record {
      cpus = λ j other. ap (λ (cs : List Cpu). get_or cs j no_cpu) cpus;
      phases = λ g other. ap (λ (fs : List Flusher). (get_or fs g no_flusher).phase) flushers;
    };
    own = λ none. subst (λ (cs : List Cpu). NoClaims (get_or cs i no_cpu).todo) (sym cpus) none;
  }

  -- a step more, which changes no count
  pub quiet_step : (s u : State) (e : StepEntry) → u.book ≡ s.book → u.flushers ≡ s.flushers → u.steps ≡ s.steps ++ e ∷ [] → e.change ≡ pos 0
      → u.cpus ≡ s.cpus → Quietly trace i w s u
  quiet_step s u e book flushers steps none cpus = record {
    still = record {
      book = book;
      batches = ap (map batch_in) flushers;
      counts = λ d. ap (count_after (homes_of trace) d (pos 0)) steps ∙ plain_count (homes_of trace) d s.steps e none;
    };
    frames = record {
      cpus = λ j other. ap (λ (cs : List Cpu). get_or cs j no_cpu) cpus;
      phases = λ g other. ap (λ (fs : List Flusher). (get_or fs g no_flusher).phase) flushers;
    };
    own = λ none. subst (λ (cs : List Cpu). NoClaims (get_or cs i no_cpu).todo) (sym cpus) none;
  }

  -- ---- the CPU is another

  pub frames_cpu : (s u : State) (c : Cpu) → u.flushers ≡ s.flushers → u.cpus ≡ set s.cpus i c → Frames i w s u
  frames_cpu s u c flushers cpus = record {
    cpus = λ j other. ap (λ (cs : List Cpu). get_or cs j no_cpu) cpus ∙ get_or-set_other s.cpus i j c no_cpu other;
    phases = λ g other. ap (λ (fs : List Flusher). (get_or fs g no_flusher).phase) flushers;
  }

  own_cpu : (cs : List Cpu) (c : Cpu) → (NoClaims (get_or cs i no_cpu).todo → NoClaims c.todo) → NoClaims (get_or cs i no_cpu).todo
      → NoClaims (get_or (set cs i c) i no_cpu).todo
  own_cpu cs c keeps none = ⊎_elim
      (λ less. subst (λ (x : Cpu). NoClaims x.todo) (sym (get_or-set_same cs i c no_cpu less)) (keeps none))
      (λ past. subst (λ (l : List Cpu). NoClaims (get_or l i no_cpu).todo) (sym (set_past cs i c past)) none)
      (cases_lt i (length cs))

  pub quiet_cpu : (s u : State) (c : Cpu) → u.book ≡ s.book → u.flushers ≡ s.flushers → u.steps ≡ s.steps → u.cpus ≡ set s.cpus i c
      → (NoClaims (cpu_of i s).todo → NoClaims c.todo) → Quietly trace i w s u
  quiet_cpu s u c book flushers steps cpus keeps = record {
    still = record {
      book = book;
      batches = ap (map batch_in) flushers;
      counts = λ d. ap (count_after (homes_of trace) d (pos 0)) steps;
    };
    frames = frames_cpu s u c flushers cpus;
    own = λ none. subst (λ (cs : List Cpu). NoClaims (get_or cs i no_cpu).todo) (sym cpus) (own_cpu s.cpus c keeps none);
  }

  -- ---- the turn's flusher is another

  batches_set : (fs : List Flusher) (g : ℕ) (f : Flusher) → f.batch ≡ (get_or fs g no_flusher).batch → map batch_in (set fs g f) ≡ map batch_in fs
  batches_set [] g f same = refl
  batches_set (x ∷ fs) zero f same = ap (λ (b : List ℕ). b ∷ map batch_in fs) same
  batches_set (x ∷ fs) (suc g) f same = ap (λ (bs : List (List ℕ)). x.batch ∷ bs) (batches_set fs g f same)

  phases_set : (fs : List Flusher) (g : ℕ) (f : Flusher) → w ≡ whose.Flusher g → (h : ℕ) → w ≢ whose.Flusher h
      → (get_or (set fs g f) h no_flusher).phase ≡ (get_or fs h no_flusher).phase
  phases_set fs g f turn h other = dite (ℕ_discrete h g)
      (λ here. absurd (other (turn ∙ ap (λ (n : ℕ). whose.Flusher n) (sym here))))
      (λ apart. ap (λ (x : Flusher). x.phase) (get_or-set_other fs g h f no_flusher apart))

  pub frames_flusher : (s u : State) (g : ℕ) (f : Flusher) → w ≡ whose.Flusher g → u.flushers ≡ set s.flushers g f → u.cpus ≡ s.cpus → Frames i w s u
  frames_flusher s u g f turn flushers cpus = record {
    cpus = λ j other. ap (λ (cs : List Cpu). get_or cs j no_cpu) cpus;
    phases = λ h other. ap (λ (fs : List Flusher). (get_or fs h no_flusher).phase) flushers ∙ phases_set s.flushers g f turn h other;
  }

  pub quiet_flusher : (s u : State) (g : ℕ) (f : Flusher) → w ≡ whose.Flusher g → u.book ≡ s.book → u.flushers ≡ set s.flushers g f
      → f.batch ≡ (flusher_of g s).batch → u.steps ≡ s.steps → u.cpus ≡ s.cpus → Quietly trace i w s u
  quiet_flusher s u g f turn book flushers same steps cpus = record {
    still = record {
      book = book;
      batches = ap (map batch_in) flushers ∙ batches_set s.flushers g f same;
      counts = λ d. ap (count_after (homes_of trace) d (pos 0)) steps;
    };
    frames = frames_flusher s u g f turn flushers cpus;
    own = λ none. subst (λ (cs : List Cpu). NoClaims (get_or cs i no_cpu).todo) (sym cpus) none;
  }

-- ---- plain changes

-- the items that the CPU gets to do claim nothing
abbrev pub PlainItems : (one : CpuChange) → Type 0
PlainItems (cpu_change.planned items) = NoClaims items
PlainItems (cpu_change.appended items) = NoClaims items
PlainItems other = Unit {0}

-- The change is of the CPU, or of the turn's flusher, and neither dirties, claims nor completes a page.
abbrev pub Plain : (i : ℕ) (w : Whose) (one : Change) → Type 0
Plain i w (change.stepped who kind) = Unit {0}
Plain i w (change.of_cpu cpu one) = (cpu ≡ i) × PlainItems one
Plain i w (change.of_task task one) = Unit {0}
Plain i w (change.of_flusher flusher one) = w ≡ whose.Flusher flusher
Plain i w (change.of_timer one) = Unit {0}
Plain i w (change.rewrote cpu task page works) = cpu ≡ i
Plain i w (change.dirtied cpu task inode page works) = ⊥
Plain i w (change.marked inode) = Unit {0}
Plain i w (change.checked cpu check) = cpu ≡ i
Plain i w (change.ended cpu task) = cpu ≡ i
Plain i w (change.folded cpu x) = cpu ≡ i
Plain i w (change.estimated cpu context estimate) = cpu ≡ i
Plain i w (change.took flusher inode left) = w ≡ whose.Flusher flusher
Plain i w (change.took_due cpu flusher now pair left) = (cpu ≡ i) × (w ≡ whose.Flusher flusher)
Plain i w (change.took_first cpu flusher pair left) = (cpu ≡ i) × (w ≡ whose.Flusher flusher)
Plain i w (change.noticed cpu flusher inode since left) = (cpu ≡ i) × (w ≡ whose.Flusher flusher)
Plain i w (change.dropped flusher left) = Unit {0}
Plain i w (change.finished flusher) = w ≡ whose.Flusher flusher
Plain i w (change.unmarked flusher scan) = w ≡ whose.Flusher flusher
Plain i w (change.claimed cpu flusher scan) = ⊥
Plain i w (change.flew cpu flusher inode pages until) = (cpu ≡ i) × (w ≡ whose.Flusher flusher)
Plain i w (change.completed cpu flusher context page left) = ⊥
Plain i w (change.landed flusher context pages) = w ≡ whose.Flusher flusher
Plain i w (change.shared cpu domain context pages) = cpu ≡ i
Plain i w (change.raised domain hard) = Unit {0}
Plain i w (change.unsealed domain) = Unit {0}
Plain i w (change.published domain) = Unit {0}
Plain i w (change.renewed domain periods events) = Unit {0}

-- and each change of a list
abbrev pub ArePlain : (i : ℕ) (w : Whose) (changes : List Change) → Type 0
ArePlain i w [] = Unit {0}
ArePlain i w (first ∷ more) = Plain i w first × ArePlain i w more

pub plain_more : (i : ℕ) (w : Whose) (xs ys : List Change) → ArePlain i w xs → ArePlain i w ys → ArePlain i w (xs ++ ys)
plain_more i w [] ys one two = two
plain_more i w (x ∷ xs) ys one two = (one.0, plain_more i w xs ys one.1 two)

own_todo : (x : Counter) (n : ℤ) (c : Cpu) → (with_own x n c).todo ≡ c.todo
own_todo (Domain d) n c = refl
own_todo (Context k) n c = refl

module _ (trace : Trace) (w : Whose) (s : State) where
  todo_after : (i : ℕ) (one : CpuChange) → PlainItems one → NoClaims (cpu_of i s).todo → NoClaims (cpu_after trace one s (cpu_of i s)).todo
  todo_after i (cpu_change.began v) plain none = none
  todo_after i (cpu_change.planned items) plain none = none_more items (cpu_of i s).todo plain none
  todo_after i (cpu_change.appended items) plain none = none_more (cpu_of i s).todo items none plain
  todo_after i (cpu_change.added x n) plain none =
      let sum : ℤ = own_of x (cpu_of i s) +ℤ n in
      let d : Cpu = with_own x sum (cpu_of i s) in
      let stays : NoClaims d.todo = subst NoClaims (sym (own_todo x sum (cpu_of i s))) none in
      either (λ (c : Cpu). NoClaims c.todo) (unsigned_abs sum == batch_of trace x) (do_next (todo.Step (step.Fold x) ∷ todo.Step (step.Clear x) ∷ []) d) d
      (λ full. (refl, (refl, stays))) (λ more. stays)
  todo_after i (cpu_change.cleared x) plain none = subst NoClaims (sym (own_todo x (pos 0) (cpu_of i s))) none
  todo_after i (cpu_change.found domain) plain none = none
  todo_after i (cpu_change.held domain) plain none = none
  todo_after i (cpu_change.read x) plain none = none
  todo_after i (cpu_change.weighed over) plain none = none

  batch_after : (g : ℕ) (one : FlusherChange) → (flusher_after trace g one s (flusher_of g s)).batch ≡ (flusher_of g s).batch
  batch_after g (flusher_change.idled until kept) = refl
  batch_after g (flusher_change.passed scan again) = refl
  batch_after g (flusher_change.placed scan) = refl
  batch_after g (flusher_change.limited hard) = refl
  batch_after g (flusher_change.told now) = refl

  here : (i cpu : ℕ) (u : State) → cpu ≡ i → Quietly trace cpu w s u → Quietly trace i w s u
  here i cpu u is h = subst (λ (n : ℕ). Quietly trace n w s u) is h

  -- the CPU tells something
  tells : (i cpu : ℕ) (u : State) (c : Cpu) → cpu ≡ i → u.book ≡ s.book → u.flushers ≡ s.flushers → u.steps ≡ s.steps → u.cpus ≡ set s.cpus cpu c
      → c.todo ≡ (cpu_of cpu s).todo → Quietly trace i w s u
  tells i cpu u c is book flushers steps cpus same =
      here i cpu u is (quiet_cpu trace cpu w s u c book flushers steps cpus (λ none. subst NoClaims (sym same) none))

  -- the flusher is another, and the CPU tells something
  both : (i cpu g : ℕ) (mid u : State) (f : Flusher) (c : Cpu) → cpu ≡ i → w ≡ whose.Flusher g
      → mid.book ≡ s.book → mid.flushers ≡ set s.flushers g f → f.batch ≡ (flusher_of g s).batch → mid.steps ≡ s.steps → mid.cpus ≡ s.cpus
      → u.book ≡ mid.book → u.flushers ≡ mid.flushers → u.steps ≡ mid.steps → u.cpus ≡ set mid.cpus cpu c → c.todo ≡ (cpu_of cpu mid).todo
      → Quietly trace i w s u
  both i cpu g mid u f c is turn book flushers batch steps cpus book2 flushers2 steps2 cpus2 same =
      quiet_on trace i w s mid u (quiet_flusher trace i w s mid g f turn book flushers batch steps cpus)
      (here_of mid u (quiet_cpu trace cpu w mid u c book2 flushers2 steps2 cpus2 (λ none. subst NoClaims (sym same) none)))
    where
      here_of : (a b : State) → Quietly trace cpu w a b → Quietly trace i w a b
      here_of a b h = subst (λ (n : ℕ). Quietly trace n w a b) is h

  plain_keeps : (i : ℕ) (one : Change) → Plain i w one → Quietly trace i w s (apply trace one s)
  plain_keeps i (change.stepped who kind) plain = quiet_step trace i w s _ _ refl refl refl refl refl
  plain_keeps i (change.of_cpu cpu one) plain =
      here i cpu _ plain.0 (quiet_cpu trace cpu w s _ (cpu_after trace one s (cpu_of cpu s)) refl refl refl refl (todo_after cpu one plain.1))
  plain_keeps i (change.of_task task one) plain = quiet_same trace i w s _ refl refl refl refl
  plain_keeps i (change.of_flusher g one) plain =
      quiet_flusher trace i w s _ g (flusher_after trace g one s (flusher_of g s)) plain refl refl (batch_after g one) refl refl
  plain_keeps i (change.of_timer one) plain = quiet_same trace i w s _ refl refl refl refl
  plain_keeps i (change.rewrote cpu task page works) plain = tells i cpu _ _ plain refl refl refl refl refl
  plain_keeps i (change.dirtied cpu task inode page works) plain = absurd plain
  plain_keeps i (change.marked inode) plain = quiet_same trace i w s _ refl refl refl refl
  plain_keeps i (change.checked cpu check) plain = tells i cpu _ _ plain refl refl refl refl refl
  plain_keeps i (change.ended cpu task) plain = tells i cpu _ _ plain refl refl refl refl refl
  plain_keeps i (change.folded cpu (Domain d)) plain = tells i cpu _ _ plain refl refl refl refl refl
  plain_keeps i (change.folded cpu (Context k)) plain = tells i cpu _ _ plain refl refl refl refl refl
  plain_keeps i (change.estimated cpu context estimate) plain = tells i cpu _ _ plain refl refl refl refl refl
  plain_keeps i (change.took g inode left) plain = quiet_flusher trace i w s _ g _ plain refl refl refl refl refl
  plain_keeps i (change.took_due cpu g now pair left) plain =
      let a = with_pairs g left s in
      let b = log_at cpu (entry.Aged g pair.inode pair.due now) a in
      quiet_on trace i w s b _ (both i cpu g a b _ _ plain.0 plain.1 refl refl refl refl refl refl refl refl refl refl)
      (quiet_flusher trace i w b _ g _ plain.1 refl refl refl refl refl)
  plain_keeps i (change.took_first cpu g pair left) plain =
      let a = with_pairs g left s in
      let b = log_at cpu (entry.Taken g pair.inode) a in
      quiet_on trace i w s b _ (both i cpu g a b _ _ plain.0 plain.1 refl refl refl refl refl refl refl refl refl refl)
      (quiet_flusher trace i w b _ g _ plain.1 refl refl refl refl refl)
  plain_keeps i (change.noticed cpu g inode since left) plain =
      let a = with_waiting g (waits trace inode since (waiting_of g s)) (with_queue (flusher_device trace g) left s) in
      both i cpu g a _ _ _ plain.0 plain.1 refl refl refl refl refl refl refl refl refl refl
  plain_keeps i (change.dropped g left) plain = quiet_same trace i w s _ refl refl refl refl
  plain_keeps i (change.finished g) plain = quiet_flusher trace i w s _ g _ plain refl refl refl refl refl
  plain_keeps i (change.unmarked g scan) plain = quiet_flusher trace i w s _ g _ plain refl refl refl refl refl
  plain_keeps i (change.claimed cpu g scan) plain = absurd plain
  plain_keeps i (change.flew cpu g inode pages until) plain =
      let a = in_phase g (phase.Flying inode pages until) s in
      both i cpu g a _ _ _ plain.0 plain.1 refl refl refl refl refl refl refl refl refl refl
  plain_keeps i (change.completed cpu g context page left) plain = absurd plain
  plain_keeps i (change.landed g context pages) plain = quiet_flusher trace i w s _ g _ plain refl refl refl refl refl
  plain_keeps i (change.shared cpu domain context pages) plain = tells i cpu _ _ plain refl refl refl refl refl
  plain_keeps i (change.raised domain hard) plain = quiet_step trace i w s _ _ refl refl refl refl refl
  plain_keeps i (change.unsealed domain) plain = quiet_same trace i w s _ refl refl refl refl
  plain_keeps i (change.published domain) plain = quiet_same trace i w s _ refl refl refl refl
  plain_keeps i (change.renewed domain periods events) plain = quiet_same trace i w s _ refl refl refl refl

pub all_quiet : (trace : Trace) (i : ℕ) (w : Whose) (changes : List Change) (s : State) → ArePlain i w changes → Quietly trace i w s (apply_all trace changes s)
all_quiet trace i w [] s plain = quiet_same trace i w s s refl refl refl refl
all_quiet trace i w (first ∷ more) s plain =
    quiet_on trace i w s (apply trace first s) (apply_all trace more (apply trace first s)) (plain_keeps trace w s i first plain.0)
    (all_quiet trace i w more (apply trace first s) plain.1)
