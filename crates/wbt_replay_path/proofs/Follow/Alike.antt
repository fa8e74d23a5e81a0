-- States that differ in what isn't followed: part of a CPU's journal, estimates, proportions, pages written.
use Rattle.std.proofs.Common.{◌≡◌, ◌≢◌, ℕ, ◌<◌, ◌≤◌, true, false, ℤ, List, [], ◌∷◌, ◌++◌, length, get_or, refl, sym, ◌∙◌, ap, subst}
use Rattle.std.proofs.Math.ListN.{set}
use Rattle.std.specs.List.{list_any}
use Rattle.wbt_replay_order.proofs.Common.{Trace, Counter, Fold, Event, Setting, CheckEntry, Entry, logged, log_at, do_next, then_do, State, no_cpu, no_flusher, no_domain, no_context, cpu_of, domain_of, with_domain, writeback_of, with_writeback, Cpu, Domain, ReplayTurn, Writeback, Todo, events_with, events_told, folds_with, folds_told, founds_with, founds_told, is_decide, IsFlusherOn, Suits, heights_of, Tidy, Looked, ScansInside, is_closing, debts_in, batched, count_in, Follows, Moves, Found, Held, CpuRecord, Flusher}
use Rattle.wbt_counter.specs.declared.counter.Counter.TheVariants.{Domain as ofDomain, Context as ofContext}
use Rattle.wbt_grant.specs.State as throttle
use Rattle.wbt_replay_moves.specs.declared.state.Whose.TheVariants as whose
use Rattle.wbt_replay_order.specs.Kept.Following.{page_of}
use Rattle.wbt_replay_order.proofs.Facts.Lists.{twice}
use Rattle.wbt_replay_order.proofs.Frames.Others.{IsTurnOn, SameOn}
use Rattle.wbt_replay_order.proofs.Lists.Places.{still}
use Rattle.wbt_replay_order.proofs.Frames.Quiet.{SameShared, SameWriters, TellsBoth, both_of, both_told, kept_by, quietly, goes_on}
use Rattle.wbt_replay_path.proofs.Follow.Tells.{events_more, folds_more, founds_more}

-- ---- a CPU that is the same in all that is followed

abbrev pub followed : (c : Cpu) → List Todo × ReplayTurn × List ℤ × List ℤ × (List CheckEntry × List Held) × ℕ × List Event × TellsBoth
followed c = (c.todo, c.turn, c.own_domains, c.own_contexts, kept_by c, c.made, events_told [] c.entries, both_told c)

-- The CPU i of s becomes one like the base, and nothing else that is followed changes but tasks and flushers.
pub record Alike (i : ℕ) (base : Cpu) (s s2 : State) : Type 0 where
  pub becomes : Cpu
  pub cpus : s2.cpus ≡ set s.cpus i becomes
  pub same : followed becomes ≡ followed base
  pub shared : SameShared s s2
  pub marks : s2.marks ≡ s.marks
  pub steps : s2.steps ≡ s.steps

-- the entry tells no event, no fold and no page that was found dirty
pub record TellsNothing (e : Entry) : Type 0 where
  pub no_event : (older : List Event) → events_with e older ≡ older
  pub no_fold : (older : List Fold) → folds_with e older ≡ older
  pub no_found : (older : List ℕ) → founds_with e older ≡ older

module _ (i : ℕ) (base : Cpu) (s : State) (there : i < length s.cpus) where
  pub alike_log : (s2 : State) (e : Entry) → TellsNothing e → Alike i base s s2 → Alike i base s (log_at i e s2)
  alike_log s2 e nothing al =
      let c : Cpu = al.becomes in
      let events = events_more [] c.entries e ∙ nothing.no_event (events_told [] c.entries) in
      let folds = folds_more [] c.entries e ∙ nothing.no_fold (folds_told [] c.entries) in
      let founds = founds_more [] c.entries e ∙ nothing.no_found (founds_told [] c.entries) in
      let both : both_told (logged e c) ≡ both_told c =
      ap (λ (l : List Fold). both_of l (founds_told [] (c.entries ++ e ∷ []))) folds ∙ ap (λ (l : List ℕ). both_of (folds_told [] c.entries) l) founds in
      record {
        becomes = logged e c;
        cpus = ap (λ (cs : List Cpu). set cs i (logged e (get_or cs i no_cpu))) al.cpus ∙ twice (logged e) s.cpus i c no_cpu there;
        same = ap (λ (l : List Event). (c.todo, c.turn, c.own_domains, c.own_contexts, kept_by c, c.made, l, both_told (logged e c))) events
            ∙ (ap (λ (b : TellsBoth). (c.todo, c.turn, c.own_domains, c.own_contexts, kept_by c, c.made, events_told [] c.entries, b)) both ∙ al.same);
        shared = record { same_book = al.shared.same_book; counts = al.shared.counts; same_limits = al.shared.same_limits; peaks = al.shared.peaks; same_timer = al.shared.same_timer };
        marks = al.marks;
        steps = al.steps;
      }

  -- with other queues and flushers
  pub alike_lists : (s2 : State) (queues : List (List ℕ)) (flushers : List Flusher) → Alike i base s s2 → Alike i base s (record s2 { queues = queues; flushers = flushers })
  alike_lists s2 queues flushers al = record {
    becomes = al.becomes;
    cpus = al.cpus;
    same = al.same;
    shared = record { same_book = al.shared.same_book; counts = al.shared.counts; same_limits = al.shared.same_limits; peaks = al.shared.peaks; same_timer = al.shared.same_timer };
    marks = al.marks;
    steps = al.steps;
  }

  -- the CPU does these next
  pub alike_push : (items : List Todo) (s2 : State) → Alike i base s s2 → Alike i (record base { todo = items ++ base.todo }) s (then_do i items s2)
  alike_push items s2 al = record {
    becomes = do_next items al.becomes;
    cpus = ap (λ (cs : List Cpu). set cs i (do_next items (get_or cs i no_cpu))) al.cpus ∙ twice (do_next items) s.cpus i al.becomes no_cpu there;
    same = ap (λ (q : List Todo × ReplayTurn × List ℤ × List ℤ × (List CheckEntry × List Held) × ℕ × List Event × TellsBoth). (items ++ q.0, q.1, q.2, q.3, q.4, q.5, q.6, q.7)) al.same;
    shared = record { same_book = al.shared.same_book; counts = al.shared.counts; same_limits = al.shared.same_limits; peaks = al.shared.peaks; same_timer = al.shared.same_timer };
    marks = al.marks;
    steps = al.steps;
  }

  pub alike_context : (s2 : State) (k : ℕ) (w : Writeback) → w.count ≡ (writeback_of k s2).count → Alike i base s s2 → Alike i base s (with_writeback k w s2)
  alike_context s2 k w count al = record {
    becomes = al.becomes;
    cpus = al.cpus;
    same = al.same;
    shared = record {
      same_book = al.shared.same_book;
      counts = λ x. by_name x ∙ al.shared.counts x;
      same_limits = al.shared.same_limits;
      peaks = al.shared.peaks;
      same_timer = al.shared.same_timer;
    };
    marks = al.marks;
    steps = al.steps;
  }
    where
      by_name : (x : Counter) → count_in x s2.domains (set s2.contexts k w) ≡ count_in x s2.domains s2.contexts
      by_name (ofDomain d) = refl
      by_name (ofContext m) = still (λ (q : Writeback). q.count) s2.contexts k w no_context count m

  pub alike_domain : (s2 : State) (d : ℕ) (v : Domain) → v.count ≡ (domain_of d s2).count → v.limits ≡ (domain_of d s2).limits → heights_of v ≡ heights_of (domain_of d s2)
      → Alike i base s s2 → Alike i base s (with_domain d v s2)
  alike_domain s2 d v count limits peak al = record {
    becomes = al.becomes;
    cpus = al.cpus;
    same = al.same;
    shared = record {
      same_book = al.shared.same_book;
      counts = λ x. by_name x ∙ al.shared.counts x;
      same_limits = λ e. still (λ (q : Domain). q.limits) s2.domains d v no_domain limits e ∙ al.shared.same_limits e;
      peaks = λ e. still (λ (q : Domain). heights_of q) s2.domains d v no_domain peak e ∙ al.shared.peaks e;
      same_timer = al.shared.same_timer;
    };
    marks = al.marks;
    steps = al.steps;
  }
    where
      by_name : (x : Counter) → count_in x (set s2.domains d v) s2.contexts ≡ count_in x s2.domains s2.contexts
      by_name (ofDomain e) = still (λ (q : Domain). q.count) s2.domains d v no_domain count e
      by_name (ofContext m) = refl

-- A silent move to a state like another, in which the CPU's items are such as may follow.
pub alike_moves : (trace : Trace) (setting : Setting) → Suits trace setting → (i : ℕ) (base : Cpu) (s : State) (t : throttle.State) (s2 : State)
    → i < length s.cpus → i < trace.cpus → ((j : ℕ) → j < trace.cpus → IsTurnOn trace j (cpu_of j s)) → Follows trace setting s t
    → ((j : ℕ) → j ≢ i → SameOn trace j s.tasks s2.tasks s.flushers s2.flushers) → Alike i base s s2
    → base.own_domains ≡ (cpu_of i s).own_domains → base.own_contexts ≡ (cpu_of i s).own_contexts → kept_by base ≡ kept_by (cpu_of i s)
    → (cpu_of i s).made ≤ base.made → events_told [] base.entries ≡ events_told [] (cpu_of i s).entries → both_told base ≡ both_told (cpu_of i s)
    → debts_in base.todo ≡ debts_in (cpu_of i s).todo → Tidy base.todo → ((p : ℕ) (found : Found) (r : CpuRecord) → Looked setting p found base.todo r)
    → ((f : ℕ) → IsFlusherOn trace i f → (base.turn.whose ≡ whose.Flusher f → list_any is_closing base.todo ≡ false) → ScansInside trace (get_or s2.flushers f no_flusher).phase)
    → ((p : ℕ) → batched trace i s2.flushers p ≡ batched trace i s.flushers p) → SameWriters s.tasks s2.tasks
    → ((task : ℕ) → base.turn.whose ≡ whose.Task task → list_any is_decide base.todo ≡ true → ⊥)
    → Moves trace setting s.steps s2 t
alike_moves trace setting suits i base s t s2 there less turns h others al domains contexts checks made events folds debts tidy looked scanning held writers undecided =
    let c2 : Cpu = al.becomes in
    quietly trace setting suits i c2 s t s2 there turns h al.cpus al.shared al.marks al.steps others
    (goes_on trace setting i (cpu_of i s) c2 s.tasks s2.tasks s.flushers s2.flushers (t.cpu i) (λ x. t.own x i) (h.cpu i less)
    (ap (λ q. q.2) al.same ∙ domains) (ap (λ q. q.3) al.same ∙ contexts) (ap (λ q. q.4) al.same ∙ checks)
    (subst (λ (n : ℕ). (cpu_of i s).made ≤ n) (sym (ap (λ q. q.5) al.same)) made) (ap (λ q. q.6) al.same ∙ events) (ap (λ q. q.7) al.same ∙ folds)
    (ap (λ q. debts_in q.0) al.same ∙ debts) (subst Tidy (sym (ap (λ q. q.0) al.same)) tidy)
    (subst (λ (l : List Todo). Looked setting (page_of c2.turn.whose s2.flushers) c2.turn.found l (t.cpu i)) (sym (ap (λ q. q.0) al.same)) (looked _ _ _))
    (λ f on closing. scanning f on (λ e. ap (λ q. list_any is_closing q.0) (sym al.same) ∙ closing (ap (λ (q : ReplayTurn). q.whose) (ap (λ q. q.1) al.same) ∙ e)))
    held writers
    (λ n same decides. absurd (undecided n (ap (λ (q : ReplayTurn). q.whose) (sym (ap (λ q. q.1) al.same)) ∙ same) (ap (λ q. list_any is_decide q.0) (sym al.same) ∙ decides))))
