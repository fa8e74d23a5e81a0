-- At the opening a run follows the step relation.
use Rattle.std.proofs.Common.{◌≡◌, ℕ, zero, suc, ◌<◌, min, Bool, false, eqb, pos, List, [], ◌∷◌, ◌++◌, length, get_or, replicate, refl, sym, ◌∙◌, ap, subst, arith, length-append, ⊎_elim}
use Rattle.std.proofs.lemmas.Bool.{cases_lt}
use Rattle.std.proofs.lemmas.List.{append-nil, get_or_append_left, get_or_past, get_or_push, get_or-replicate, length-replicate}
use Rattle.wbt_replay_order.proofs.Common.{Trace, Count, Counter, total_nothing, times_in, Limits, Setting, held_of, if_nothing, domains, first, new_writer, Writer, writer_in, writer_of, no_cpu, no_held, no_domain, no_context, no_flusher, no_task, flusher_cpu, Cpu, Domain, Flusher, ReplayTask, Writeback, longer_none, held_as, writers_in, writer_at, setting_of, pace_of, opening, first_limits, first_domain, first_domains, first_context, first_contexts, works_of, first_task, first_tasks, first_flusher, first_flushers, first_cpu, first_cpus, first_entries, Suits, heights_of, ScansInside, batch_on, batched, own_in, count_in, FollowsCpu, Follows}
use Rattle.wbt_counter.specs.declared.counter.Counter.TheVariants.{Domain as ofDomain, Context as ofContext}
use Rattle.wbt_grant.specs.State as throttle
use Rattle.wbt_grant.specs.State.{no_record, writer_in as record_of}
use Rattle.wbt_task.specs.declared.allowance.Due.TheVariants as due
use Rattle.wbt_replay_moves.specs.Definition.State.{no_count}
use Rattle.wbt_replay_order.specs.Definition.Opening.{first_held}

-- ---- things in order of their numbers

module _ {A : Type 0} (f : ℕ → A) (list : ℕ → List A) (empty : list 0 ≡ []) (next : (n : ℕ) → list (suc n) ≡ list n ++ f n ∷ []) where
  pub numbered_length : (n : ℕ) → length (list n) ≡ n
  numbered_length zero = ap length empty
  numbered_length (suc n) = omega (arith, ap length (next n), length-append (list n) (f n ∷ []), numbered_length n)

  pub numbered : (n i : ℕ) (d : A) → i < n → get_or (list n) i d ≡ f i
  numbered zero i d less = absurd (omega arith)
  numbered (suc n) i d less =
      ap (λ (l : List A). get_or l i d) (next n)
      ∙ ⊎_elim
      (λ before. get_or_append_left (list n) (f n ∷ []) d i (omega (arith, numbered_length n)) ∙ numbered n i d before)
      (λ after.
      let same : n ≡ i = omega arith in
      get_or_push (list n) (f n) d i (numbered_length n ∙ same) ∙ ap f same)
      (cases_lt i n)

  -- what holds of each of them and of the default
  pub numbered_each : (P : A → Type 0) (n i : ℕ) (d : A) → ((k : ℕ) → P (f k)) → P d → P (get_or (list n) i d)
  numbered_each P n i d each other = ⊎_elim
      (λ less. subst P (sym (numbered n i d less)) (each i))
      (λ past. subst P (sym (get_or_past (list n) i d (omega (arith, past, numbered_length n)))) other)
      (cases_lt i n)

repeated : {A : Type 0} (P : A → Type 0) (n i : ℕ) (x d : A) → P x → P d → P (get_or (replicate n x) i d)
repeated P n i x d here other = ⊎_elim
    (λ less. subst P (sym (get_or-replicate n i x d less)) here)
    (λ past. subst P (sym (get_or_past (replicate n x) i d (omega (arith, past, length-replicate n x)))) other)
    (cases_lt i n)

-- ---- writers

new_due : (most : ℕ) → (new_writer most).due ≡ due.No
unfolding new_writer
new_due most = refl

new_left : (most : ℕ) → (new_writer most).left ≡ min 32 most
unfolding new_writer first
new_left most = refl

module _ (trace : Trace) where
  abbrev task_at : (k : ℕ) → ReplayTask
  task_at k = first_task trace (pace_of trace k) (works_of trace k trace.actions)

  tasks_are : (k : ℕ) → k < length trace.tasks → get_or (first_tasks trace (length trace.tasks)) k no_task ≡ task_at k
  tasks_are k less = numbered task_at (first_tasks trace) refl (λ n. refl) (length trace.tasks) k no_task less

  left_first : (w : ℕ) → (writer_at trace w).task < length trace.tasks → (writer_at trace w).context < length trace.contexts
      → (writer_in (writer_at trace w).context (get_or (first_tasks trace (length trace.tasks)) (writer_at trace w).task no_task)).left ≡ min 32 trace.cap
  left_first w there in_context =
      ap (λ (t : ReplayTask). (writer_in (writer_at trace w).context t).left) (tasks_are (writer_at trace w).task there)
      ∙ (ap (λ (q : Writer). q.left) (get_or-replicate (length trace.contexts) (writer_at trace w).context (new_writer trace.cap) (new_writer 0) in_context) ∙ new_left trace.cap)

  due_first : (k : ℕ) → k < length trace.tasks → (writer_of (get_or (first_tasks trace (length trace.tasks)) k no_task)).due ≡ due.No
  due_first k less =
      ap (λ (t : ReplayTask). (writer_of t).due) (tasks_are k less)
      ∙ repeated (λ (q : Writer). q.due ≡ due.No) (length trace.contexts) 0 (new_writer trace.cap) (new_writer 0) (new_due trace.cap) (new_due 0)

  -- ---- flushers and counts

  no_batch : (i p : ℕ) → batched trace i (first_flushers trace (length trace.flushers)) p ≡ 0
  no_batch i p = total_nothing (length trace.flushers) (batch_on trace i (first_flushers trace (length trace.flushers)) p)
      (λ f. if_nothing (eqb (flusher_cpu trace f) i) _
      (numbered_each (first_flusher trace) (first_flushers trace) refl (λ n. refl) (λ (x : Flusher). times_in p x.batch ≡ 0) (length trace.flushers) f no_flusher (λ k. refl) refl))

  none_counted : (x : Counter) → count_in x (first_domains trace (domains trace)) (first_contexts trace (length trace.contexts)) ≡ no_count
  none_counted (ofDomain d) =
      numbered_each (λ k. first_domain (first_limits trace k)) (first_domains trace) refl (λ n. refl) (λ (q : Domain). q.count ≡ no_count) (domains trace) d no_domain (λ k. refl) refl
  none_counted (ofContext k) =
      numbered_each (first_context trace) (first_contexts trace) refl (λ n. refl) (λ (q : Writeback). q.count ≡ no_count) (length trace.contexts) k no_context (λ n. refl) refl

  domain_is : (d : ℕ) → d < domains trace → get_or (first_domains trace (domains trace)) d no_domain ≡ first_domain (first_limits trace d)
  domain_is d less = numbered (λ k. first_domain (first_limits trace k)) (first_domains trace) refl (λ n. refl) (domains trace) d no_domain less

  no_own : (x : Counter) → pos 0 ≡ own_in x (replicate (domains trace) (pos 0)) (replicate (length trace.contexts) (pos 0))
  no_own (ofDomain d) = repeated (λ n. pos 0 ≡ n) (domains trace) d (pos 0) (pos 0) refl refl
  no_own (ofContext k) = repeated (λ n. pos 0 ≡ n) (length trace.contexts) k (pos 0) (pos 0) refl refl

  module _ (setting : Setting) (suits : Suits trace setting) (firsts : (d : ℕ) → setting.firsts d ≡ first_limits trace d) (pairs : (w : ℕ) → w < length (writers_in trace) → ((writer_at trace w).task < length trace.tasks) × ((writer_at trace w).context < length trace.contexts)) where
    -- before its first load a CPU holds the first limits
    first_holds : (d : ℕ) → held_of setting d [] ≡ held_as d (record { version = 0; limits = first_limits trace d })
    first_holds d = ap (λ (l : Limits). record { domain = d; version = 0; limits = l }) (firsts d)

    first_follows : (i : ℕ) → FollowsCpu trace setting i (first_cpu trace i) (first_tasks trace (length trace.tasks)) (first_flushers trace (length trace.flushers)) no_record (λ x. pos 0)
    first_follows i = record {
      own_is = no_own;
      events = refl;
      folds = refl;
      founds = refl;
      readings = tt;
      triples = record {
        told = longer_none [];
        held_is = λ d less. first_holds d ∙ sym (ap (held_as d) (numbered (λ k. record { version = 0; limits = first_limits trace k }) (first_held trace) refl (λ n. refl) (domains trace) d no_held less));
      };
      debts = refl;
      tidy = tt;
      looked = tt;
      scanning = λ f on closing. numbered_each (first_flusher trace) (first_flushers trace) refl (λ n. refl) (λ (x : Flusher). ScansInside trace x.phase) (length trace.flushers) f no_flusher (λ k. tt) tt;
      held = λ p. sym (no_batch i p);
      paced = omega arith;
      left = λ w less seat free.
          let known : w < length (writers_in trace) = omega (arith, less, suits.writers) in
          ap (min 32) suits.cap ∙ sym (left_first w (pairs w known).0 (pairs w known).1);
      checked = λ k on check. absurd (cc (sym (due_first k on.there) ∙ check));
      check = λ task turn decides. absurd (cc decides);
    }

    cpu_is : (i : ℕ) → i < trace.cpus → get_or (first_cpus trace trace.cpus) i no_cpu ≡ first_cpu trace i
    cpu_is i less = numbered (first_cpu trace) (first_cpus trace) refl (λ n. refl) trace.cpus i no_cpu less

-- the first limits in the trace's own setting
pub setting_firsts : (trace : Trace) (d : ℕ) → (setting_of trace).firsts d ≡ first_limits trace d
unfolding setting_of
setting_firsts trace d = refl

-- at the opening the relation's state follows the run's, by each setting that suits
pub opening_follows : (trace : Trace) (setting : Setting) → Suits trace setting → ((d : ℕ) → setting.firsts d ≡ first_limits trace d)
    → ((w : ℕ) → w < length (writers_in trace) → ((writer_at trace w).task < length trace.tasks) × ((writer_at trace w).context < length trace.contexts))
    → Follows trace setting (opening trace) (throttle.opening setting)
unfolding opening
opening_follows trace setting suits firsts pairs =
    record {
      book = refl;
      marks = λ n inside. repeated (λ (b : Bool). false ≡ b) (length trace.inodes) n false false refl refl;
      versions = λ x. ap (λ (q : Count). q.version) (sym (none_counted trace x));
      values = λ x. ap (λ (q : Count). q.value) (sym (none_counted trace x));
      published = λ d less. firsts d ∙ ap (λ (q : Domain). q.limits) (sym (domain_is trace d less));
      peak = λ d less. ap (λ (l : Limits). (l.hard, 0)) (firsts d) ∙ ap (λ (q : Domain). heights_of q) (sym (domain_is trace d less));
      cpu = λ i less. subst (λ (c : Cpu). FollowsCpu trace setting i c (first_tasks trace (length trace.tasks)) (first_flushers trace (length trace.flushers)) no_record (λ x. pos 0))
          (sym (cpu_is trace setting suits firsts pairs i less)) (first_follows trace setting suits firsts pairs i);
      raises = tt;
      raised = tt;
      stages = λ d. refl;
      lines = record { later = []; entries_are = sym (append-nil (first_entries trace (domains trace))); published_are = refl };
    }
