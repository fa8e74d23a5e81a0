-- What is paid slot by slot, step after step.
use Rattle.std.proofs.Common.{◌≡◌, ◌≢◌, ℕ, zero, suc, ◌+◌, Bool, true, false, true≢false, not, eqb, List, [], ◌∷◌, ◌++◌, set, Option, Some, None, ℤ, sym, refl, ap, ◌∙◌, subst, arith, ⊎_elim}
use mathlib.Core.Option.{some, some-injective, some-ne-none}
use lib.ListN.{get_elem?}
use Rattle.std.proofs.lemmas.List.{append_assoc}
use Rattle.std.proofs.lemmas.Bool.{cond-true, cond-false, cases_Bool}
use Rattle.wbt_table.proofs.Common.{set_here, Counter, Domain, Context, Debt, Event, FoldDue, ClearDue, Owed, IsPackable, version_in, CpuRecord, Setting, Step, add, fold, clear, own_told, record_after, Past, log_of, setting, Cpus, Has, Holds, put_record, Seated, Changes, LogComes, LogsOne, Makes, OwesFirst, OwesLater}
use Rattle.wbt_counter.specs.declared.record.Fold.{Fold}
use Rattle.wbt_table.specs.declared.layout.Layout.{Layout}
use Rattle.wbt_table.specs.declared.state.Slot.{Slot}
use Rattle.wbt_table.specs.declared.state.Slot.TheVariants.{First, Second, Third}
use Rattle.wbt_table.specs.declared.settle.Paid.{Paid}
use Rattle.wbt_table.specs.declared.rule.Logged.{Logged}
use Rattle.wbt_table.specs.History.{LogsSteps}
use Rattle.wbt_table.specs.Calls.{Made, record_of, Pays, PayInOrder, told_fold, IsOf, is_context, is_global, is_group, Asked, SettlesLogged, Comes}
use Rattle.wbt_table.specs.Settle.{rank, IsFoldOf, PaysLogged}
use Rattle.wbt_table.proofs.Lists.{at_less, set_set}
use Rattle.wbt_table.proofs.Turning.{one_record}
use Rattle.wbt_table.proofs.Counting.{of_record}
use Rattle.wbt_table.proofs.Seating.{has_changed, logs_twice, logs_weaker}
use Rattle.wbt_table.proofs.Logging.{put_itself}
use Rattle.wbt_table.proofs.Slots.{none_from}

-- records that come to others, one after another

put_same : {A : Type 0} (l : List A) (i : ℕ) (a : A) → get_elem? l i ≡ some a → set l i a ≡ l
put_same [] i a e = absurd (some-ne-none a (sym e))
put_same (x ∷ xs) zero a e = ap (λ (y : _). y ∷ xs) (sym (some-injective x a e))
put_same (x ∷ xs) (suc i) a e = ap (λ (l : List _). x ∷ l) (put_same xs i a e)

module _ (c : ℕ) where
  pub comes_still : (P : CpuRecord → CpuRecord → Type 0) (old : Seated) → ((r : CpuRecord) → Has old.cpus c r → P r r) → Comes c P old old
  comes_still P old is = record {
    table = refl;
    layout = refl;
    timer = refl;
    cpus = λ r has. (r, is r has, sym (put_same old.cpus c (Some r) has));
  }

  pub comes_has : (P : CpuRecord → CpuRecord → Type 0) (old new : Seated) (r : CpuRecord) → Comes c P old new → Has old.cpus c r
      → (r' : CpuRecord) × P r r' × Has new.cpus c r'
  comes_has P old new r comes has = let t = comes.cpus r has in
      (t.0, t.1, subst (λ (l : Cpus). Has l c t.0) (sym t.2) (set_here old.cpus c (Some t.0) (at_less old.cpus c (Some r) has)))

  pub comes_twice : (P Q R : CpuRecord → CpuRecord → Type 0) (old mid new : Seated) → Comes c P old mid → Comes c Q mid new
      → ((r q r' : CpuRecord) → Has old.cpus c r → P r q → Q q r' → R r r') → Comes c R old new
  unfolding comes_has
  comes_twice P Q R old mid new first second both = record {
    table = second.table ∙ first.table;
    layout = second.layout ∙ first.layout;
    timer = second.timer ∙ first.timer;
    cpus = λ r has. let t = first.cpus r has in
        let hasq = (comes_has P old mid r first has).2 in
        let u = second.cpus t.0 hasq in
        (u.0, both r t.0 u.0 has t.1 u.1, u.2 ∙ ap (λ (l : Cpus). put_record c u.0 l) t.2 ∙ set_set old.cpus c (Some t.0) (Some u.0));
  }

  pub comes_as : (P Q : CpuRecord → CpuRecord → Type 0) (old new : Seated) → Comes c P old new → ((r r' : CpuRecord) → P r r' → Q r r') → Comes c Q old new
  comes_as P Q old new comes is = record {
    table = comes.table;
    layout = comes.layout;
    timer = comes.timer;
    cpus = λ r has. let t = comes.cpus r has in (t.0, is r t.0 t.1, t.2);
  }

  comes_changed : (f : CpuRecord → CpuRecord) (old new : Seated) → Changes c f old new → Comes c (λ r r'. r' ≡ f r) old new
  comes_changed f old new change = record {
    table = change.table;
    layout = change.layout;
    timer = change.timer;
    cpus = λ r has. (f r, refl, change.cpus r has);
  }

-- the gate's answer was given at the steps that the record tells
pub answered_at : (said : ℕ → Bool → Type 0) (cpus : Cpus) (c steps : ℕ) (answer told : Bool) (q : CpuRecord) → Has cpus c q → steps ≡ q.steps → answer ≡ told
    → said steps answer → (r : CpuRecord) → Has cpus c r → said r.steps told
answered_at said cpus c steps answer told q hasq is stops says r has =
    subst (λ (z : ℕ × Bool). said z.0 z.1) (λ i. ((is ∙ ap (λ (z : CpuRecord). z.steps) (one_record cpus c q r hasq has)) i, stops i)) says

cons_none : (owed : Owed) (more : List Owed) → owed ∷ more ≡ [] → ⊥
cons_none owed more e = cc

-- no step is logged, and one more before others
pub still_logged : (set' : Setting) (c : ℕ) (old : Seated) → LogComes c (LogsSteps set' (log_of set' c) []) old old
still_logged set' c old = record { timer_log = refl; logs = put_itself c old.logs }

pub one_logged : (set' : Setting) (c : ℕ) (step : Step) (n : ℕ) (more : List Made) (old mid new : Seated) → LogComes c (LogsOne set' c step n) old mid
    → LogComes c (LogsSteps set' (log_of set' c) more) mid new → LogComes c (LogsSteps set' (log_of set' c) (record { step = step; found = n } ∷ more)) old new
one_logged set' c step n more old mid new first rest =
    logs_weaker c (λ was is. (between : List Logged) × LogsOne set' c step n was between × LogsSteps set' (log_of set' c) more between is)
    (LogsSteps set' (log_of set' c) (record { step = step; found = n } ∷ more)) old new (λ was is t. (t.1.0, t.0, t.1.1, t.2))
    (logs_twice c (LogsOne set' c step n) (LogsSteps set' (log_of set' c) more) old mid new first rest)

module _ (key : Layout) (c : ℕ) (slot : Slot) (said : ℕ → Bool → Type 0) where
  abbrev Pays' : (paid : Paid) (old new : Seated) → Type 0
  Pays' paid old new = Comes c (PaysLogged (setting key) c slot said paid old new) old new

  -- no step is made
  pub nothing_pays : (all : Bool) (old : Seated) → ((r : CpuRecord) → Has old.cpus c r → all ≡ true → OwesLater slot r)
      → ((r : CpuRecord) → Has old.cpus c r → all ≡ false → said r.steps false × (r.debts ≢ []))
      → Pays' (record { all = all; fold = None }) old old
  nothing_pays all old paid stopped = comes_still c (PaysLogged (setting key) c slot said (record { all = all; fold = None }) old old) old (λ r has. (
    record {
      made = [];
      becomes = refl;
      in_order = tt;
      asked = tt;
      all_paid = paid r has;
      stopped = λ t. (stopped r has t).0;
      left = λ t. (stopped r has t).1;
      folds = refl;
      its_fold = tt;
    },
    still_logged (setting key) c old,
  ))

  pub stop_pays : (old : Seated) (owed : Owed) → Holds old.cpus c (OwesFirst key slot owed) → ((r : CpuRecord) → Has old.cpus c r → said r.steps false)
      → Pays' (record { all = false; fold = None }) old old
  stop_pays old owed owes stopped = nothing_pays false old (λ r has t. absurd (true≢false (sym t)))
      (λ r has t. let first = of_record old.cpus c r (OwesFirst key slot owed) has owes in
      (stopped r has, λ e. cons_none owed first.more (sym first.debts ∙ e)))

  pub all_pays : (old : Seated) → Holds old.cpus c (OwesLater slot) → Pays' (record { all = true; fold = None }) old old
  all_pays old later = nothing_pays true old (λ r has t. of_record old.cpus c r (OwesLater slot) has later) (λ r has t. absurd (true≢false t))

  -- a step is made, before which the gate was asked, and then what is still due
  step_pays : (step : Step) (n : ℕ) (paid whole : Paid) (old mid new : Seated) → ((r : CpuRecord) → Has old.cpus c r → said r.steps true)
      → Changes c (record_after (setting key) step n) old mid → LogComes c (LogsOne (setting key) c step n) old mid
      → ((r : CpuRecord) → Has old.cpus c r → Pays c step r.debts)
      → ((r : CpuRecord) → Has old.cpus c r → told_fold paid.fold ++ (record_after (setting key) step n r).folds ≡ told_fold whole.fold ++ r.folds)
      → paid.all ≡ whole.all → IsFoldOf slot whole.fold → Pays' paid mid new → Pays' whole old new
  step_pays step n paid whole old mid new ask change log due folds same its_fold rest =
      let f : CpuRecord → CpuRecord = record_after (setting key) step n in
      comes_twice c (λ r r'. r' ≡ f r) (PaysLogged (setting key) c slot said paid mid new) (PaysLogged (setting key) c slot said whole old new) old mid new
      (comes_changed c f old mid change) rest
      (λ r q r' has is more. let then = subst (λ (z : CpuRecord). PaysLogged (setting key) c slot said paid mid new z r') is more in (
        record {
          made = record { step = step; found = n } ∷ then.0.made;
          becomes = then.0.becomes;
          in_order = (due r has, then.0.in_order);
          asked = (ask r has, then.0.asked);
          all_paid = λ t. then.0.all_paid (same ∙ t);
          stopped = λ t. then.0.stopped (same ∙ t);
          left = λ t. then.0.left (same ∙ t);
          folds = then.0.folds ∙ folds r has;
          its_fold = its_fold;
        },
        one_logged (setting key) c step n then.0.made old mid new log then.1,
      ))

  module _ (x : Counter) where
    -- the step that the first debt asks for
    due_first : (step : Step) (debt : Debt) (cpus : Cpus) → Holds cpus c (OwesFirst key slot (record { counter = x; debt = debt }))
        → ((m : List _) → Pays c step (record { counter = x; debt = debt } ∷ m)) → (r : CpuRecord) → Has cpus c r → Pays c step r.debts
    due_first step debt cpus owes pays r has =
        let first = of_record cpus c r (OwesFirst key slot (record { counter = x; debt = debt })) has owes in
        subst (Pays c step) (sym first.debts) (pays first.more)

    pub clear_pays : (d : ℤ) (n : ℕ) (old new : Seated) → Holds old.cpus c (OwesFirst key slot (record { counter = x; debt = ClearDue d }))
        → ((r : CpuRecord) → Has old.cpus c r → said r.steps true) → Makes (setting key) (clear c x) n old new → Holds new.cpus c (OwesLater slot)
        → Pays' (record { all = true; fold = None }) old new
    clear_pays d n old new owes ask made later = step_pays (clear c x) n (record { all = true; fold = None }) (record { all = true; fold = None }) old new new ask made.changes made.logs
        (due_first (clear c x) (ClearDue d) old.cpus owes (λ m. refl)) (λ r has. refl) refl tt (all_pays new later)

    pub fold_pays : (delta : ℤ) (n : ℕ) (all : Bool) (told : Fold) (old mid new : Seated)
        → Holds old.cpus c (λ r. OwesFirst key slot (record { counter = x; debt = FoldDue }) r × (own_told (setting key) x r ≡ delta) × IsPackable delta)
        → told ≡ record { counter = x; version = version_in n + 1; delta = delta } → ((r : CpuRecord) → Has old.cpus c r → said r.steps true)
        → Makes (setting key) (fold c x) n old mid
        → Pays' (record { all = all; fold = None }) mid new → Pays' (record { all = all; fold = Some told }) old new
    fold_pays delta n all told old mid new owes is ask made rest = step_pays (fold c x) n (record { all = all; fold = None }) (record { all = all; fold = Some told }) old mid new ask made.changes made.logs
        (due_first (fold c x) FoldDue old.cpus (owes.0, owes.1, owes.2.0) (λ m. refl))
        (λ r has. let own = (of_record old.cpus c r
        (λ q. OwesFirst key slot (record { counter = x; debt = FoldDue }) q × (own_told (setting key) x q ≡ delta) × IsPackable delta) has owes).1 in
        ap (λ (z : Fold). z ∷ r.folds) ((λ i. record { counter = x; version = version_in n + 1; delta = own i }) ∙ sym is))
        refl (ap (λ (z : Fold). rank z.counter) is ∙ owes.2.0.in_slot) rest

    pub add_pays : (a : ℤ) (n : ℕ) (paid : Paid) (old mid new : Seated) → Holds old.cpus c (OwesFirst key slot (record { counter = x; debt = Event a }))
        → ((r : CpuRecord) → Has old.cpus c r → said r.steps true) → Makes (setting key) (add c x) n old mid
        → Pays' paid mid new → Pays' paid old new
    add_pays a n paid old mid new owes ask made rest =
        let f : CpuRecord → CpuRecord = record_after (setting key) (add c x) n in
        let then = comes_has c (PaysLogged (setting key) c slot said paid mid new) mid new (f owes.0) rest (has_changed c f old mid owes.0 made.changes owes.1) in
        step_pays (add c x) n paid paid old mid new ask made.changes made.logs (due_first (add c x) (Event a) old.cpus owes (λ m. refl)) (λ r has. refl) refl then.1.0.its_fold rest

-- the slots together

record_append : (set' : Setting) (a b : List Made) (r : CpuRecord) → record_of set' (a ++ b) r ≡ record_of set' b (record_of set' a r)
record_append set' [] b r = refl
record_append set' (m ∷ a) b r = record_append set' a b (record_after set' m.step m.found r)

order_append : (set' : Setting) (c : ℕ) (a b : List Made) (r : CpuRecord) → PayInOrder set' c a r → PayInOrder set' c b (record_of set' a r) → PayInOrder set' c (a ++ b) r
order_append set' c [] b r first second = second
order_append set' c (m ∷ a) b r first second = (first.0, order_append set' c a b (record_after set' m.step m.found r) first.1 second)

asked_append : (set' : Setting) (said : ℕ → Bool → Type 0) (a b : List Made) (r : CpuRecord) → Asked set' said a r → Asked set' said b (record_of set' a r) → Asked set' said (a ++ b) r
asked_append set' said [] b r first second = second
asked_append set' said (m ∷ a) b r first second = (first.0, asked_append set' said a b (record_after set' m.step m.found r) first.1 second)

logs_append : (set' : Setting) (own : Past → List Logged) (a b : List Made) (was mid is : List Logged) → LogsSteps set' own a was mid → LogsSteps set' own b mid is
    → LogsSteps set' own (a ++ b) was is
logs_append set' own [] b was mid is first second = subst (λ (z : List Logged). LogsSteps set' own b z is) first second
logs_append set' own (m ∷ a) b was mid is first second = (first.0, first.1, first.2, logs_append set' own a b first.1 mid is first.3 second)

pub both_logged : (set' : Setting) (c : ℕ) (a b : List Made) (old mid new : Seated) → LogComes c (LogsSteps set' (log_of set' c) a) old mid
    → LogComes c (LogsSteps set' (log_of set' c) b) mid new → LogComes c (LogsSteps set' (log_of set' c) (a ++ b)) old new
both_logged set' c a b old mid new first second =
    logs_weaker c (λ was is. (between : List Logged) × LogsSteps set' (log_of set' c) a was between × LogsSteps set' (log_of set' c) b between is)
    (LogsSteps set' (log_of set' c) (a ++ b)) old new (λ was is t. logs_append set' (log_of set' c) a b was t.0 is t.1 t.2)
    (logs_twice c (LogsSteps set' (log_of set' c) a) (LogsSteps set' (log_of set' c) b) old mid new first second)

-- steps in the order in which they are due, and their folds
pub record PaysSome (set' : Setting) (c : ℕ) (said : ℕ → Bool → Type 0) (told : List Fold) (old now : Seated) (r new : CpuRecord) : Type 0 where
  pub made : List Made
  pub becomes : new ≡ record_of set' made r
  pub in_order : PayInOrder set' c made r
  pub asked : Asked set' said made r
  pub logs : LogComes c (LogsSteps set' (log_of set' c) made) old now
  pub folds : new.folds ≡ told ++ r.folds

some_twice : (set' : Setting) (c : ℕ) (said : ℕ → Bool → Type 0) (t u : List Fold) (old mid now : Seated) (r q new : CpuRecord) → PaysSome set' c said t old mid r q
    → PaysSome set' c said u mid now q new → PaysSome set' c said (u ++ t) old now r new
some_twice set' c said t u old mid now r q new first second = record {
  made = first.made ++ second.made;
  asked = asked_append set' said first.made second.made r first.asked (subst (Asked set' said second.made) first.becomes second.asked);
  logs = both_logged set' c first.made second.made old mid now first.logs second.logs;
  becomes = second.becomes ∙ ap (record_of set' second.made) first.becomes ∙ sym (record_append set' first.made second.made r);
  in_order = order_append set' c first.made second.made r first.in_order (subst (PayInOrder set' c second.made) first.becomes second.in_order);
  folds = second.folds ∙ ap (λ (l : List Fold). u ++ l) first.folds ∙ sym (append_assoc u t r.folds);
}

some_of : (set' : Setting) (c : ℕ) (slot : Slot) (said : ℕ → Bool → Type 0) (paid : Paid) (old now : Seated) (r new : CpuRecord)
    → PaysLogged set' c slot said paid old now r new → PaysSome set' c said (told_fold paid.fold) old now r new
some_of set' c slot said paid old now r new pays =
    record { made = pays.0.made; becomes = pays.0.becomes; in_order = pays.0.in_order; asked = pays.0.asked; logs = pays.1; folds = pays.0.folds }

rank_context : (x : Counter) → rank x ≡ 0 → is_context x ≡ true
rank_context (Context k) is = refl
rank_context (Domain d) is = ⊎_elim (λ t. let one = sym (cond-true (eqb d 0) 1 2 t) ∙ is in absurd (omega arith))
    (λ f. let two = sym (cond-false (eqb d 0) 1 2 f) ∙ is in absurd (omega arith)) (cases_Bool (eqb d 0))

rank_global : (x : Counter) → rank x ≡ 1 → is_global x ≡ true
rank_global (Context k) is = absurd (omega arith)
rank_global (Domain d) is = ⊎_elim (λ t. t) (λ f. let two = sym (cond-false (eqb d 0) 1 2 f) ∙ is in absurd (omega arith)) (cases_Bool (eqb d 0))

rank_group : (x : Counter) → rank x ≡ 2 → is_group x ≡ true
rank_group (Context k) is = absurd (omega arith)
rank_group (Domain d) is = ⊎_elim (λ t. let one = sym (cond-true (eqb d 0) 1 2 t) ∙ is in absurd (omega arith)) (λ f. ap not f) (cases_Bool (eqb d 0))

of_first : (told : Option Fold) → IsFoldOf First told → IsOf is_context told
of_first None is = tt
of_first (Some one) is = rank_context one.counter is

of_second : (told : Option Fold) → IsFoldOf Second told → IsOf is_global told
of_second None is = tt
of_second (Some one) is = rank_global one.counter is

of_third : (told : Option Fold) → IsFoldOf Third told → IsOf is_group told
of_third None is = tt
of_third (Some one) is = rank_group one.counter is

module _ (set' : Setting) (c : ℕ) (said : ℕ → Bool → Type 0) (p : Paid) (old mid : Seated) (r q : CpuRecord) (first : PaysLogged set' c First said p old mid r q) where
  pub settles_first : p.all ≡ false → SettlesLogged set' c said (record { all = false; first = p.fold; second = None; third = None }) old mid r q
  settles_first stops = let some' = some_of set' c First said p old mid r q first in (
    record {
      made = some'.made;
      becomes = some'.becomes;
      in_order = some'.in_order;
      asked = some'.asked;
      all_paid = λ t. absurd (true≢false (sym t));
      stopped = λ t. first.0.stopped stops;
      left = λ t. first.0.left stops;
      folds = some'.folds;
      first = of_first p.fold first.0.its_fold;
      second = tt;
      third = tt;
    },
    some'.logs,
  )

  module _ (p' : Paid) (mid' : Seated) (q' : CpuRecord) (second : PaysLogged set' c Second said p' mid mid' q q') where
    pub settles_second : p'.all ≡ false → SettlesLogged set' c said (record { all = false; first = p.fold; second = p'.fold; third = None }) old mid' r q'
    settles_second stops =
        let both = some_twice set' c said (told_fold p.fold) (told_fold p'.fold) old mid mid' r q q' (some_of set' c First said p old mid r q first)
        (some_of set' c Second said p' mid mid' q q' second) in (
          record {
            made = both.made;
            becomes = both.becomes;
            in_order = both.in_order;
            asked = both.asked;
            all_paid = λ t. absurd (true≢false (sym t));
            stopped = λ t. second.0.stopped stops;
            left = λ t. second.0.left stops;
            folds = both.folds;
            first = of_first p.fold first.0.its_fold;
            second = of_second p'.fold second.0.its_fold;
            third = tt;
          },
          both.logs,
        )

    pub settles_third : (p'' : Paid) (last : Seated) (new : CpuRecord) → PaysLogged set' c Third said p'' mid' last q' new
        → SettlesLogged set' c said (record { all = p''.all; first = p.fold; second = p'.fold; third = p''.fold }) old last r new
    settles_third p'' last new third =
        let rest = some_twice set' c said (told_fold p'.fold) (told_fold p''.fold) mid mid' last q q' new (some_of set' c Second said p' mid mid' q q' second)
        (some_of set' c Third said p'' mid' last q' new third) in
        let all' = some_twice set' c said (told_fold p.fold) (told_fold p''.fold ++ told_fold p'.fold) old mid last r q new (some_of set' c First said p old mid r q first) rest in (
          record {
            made = all'.made;
            becomes = all'.becomes;
            in_order = all'.in_order;
            asked = all'.asked;
            all_paid = λ t. none_from new.debts (third.0.all_paid t);
            stopped = third.0.stopped;
            left = third.0.left;
            folds = all'.folds;
            first = of_first p.fold first.0.its_fold;
            second = of_second p'.fold second.0.its_fold;
            third = of_third p''.fold third.0.its_fold;
          },
          all'.logs,
        )
