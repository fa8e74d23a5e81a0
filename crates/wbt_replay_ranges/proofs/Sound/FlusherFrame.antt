-- What keeps a state in the midst of a move where the flusher whose turn it is changes.
use Rattle.std.proofs.Common.{◌≡◌, ◌≢◌, ℕ, ◌+◌, ◌<◌, ◌≤◌, max, length, get_or, All, sym, ◌∙◌, ap, subst, arith}
use Rattle.std.proofs.Math.ListN.{set}
use Rattle.std.proofs.lemmas.List.{length-set, get_or-set_same, get_or-set_other}
use mathlib.Core.Logic.{dite}
use native.Mathlib.Decide.{ℕ_discrete}
use Rattle.wbt_replay_order.proofs.Common.{Trace, State, cpu_of, flusher_of, no_flusher, flusher_cpu, Flusher, Whose, Todo, Facts, IsFlusherOn, latest, reserve, until_of, IsWhose, IsAgreed, IsFlusher, flown_of, Agrees, FlusherAgrees, IsOpen}
use Rattle.wbt_replay_moves.specs.declared.state.Whose.TheVariants as whose
use Rattle.wbt_replay_ranges.proofs.Sound.Going.{Going}
use Rattle.wbt_replay_order.proofs.Lists.Numbered.{one_if, set_all, sum_set}
use Rattle.wbt_replay_ranges.proofs.Sound.Working.{works, working_set}

module _ (trace : Trace) (facts : Facts trace) (i : ℕ) (less : i < trace.cpus) where
  -- another CPU's turn isn't this flusher's
  other_flusher : (k j : ℕ) (w : Whose) → IsFlusherOn trace i k → j ≢ i → IsWhose trace j w → w ≢ whose.Flusher k
  other_flusher k j w on n is e = let there : IsFlusherOn trace j k = subst (IsWhose trace j) e is in n (sym there.cpu_is ∙ on.cpu_is)

  agrees_but : (k : ℕ) (x : Flusher) (s : State) (w : Whose) (t : Todo) → w ≢ whose.Flusher k → Agrees trace s.tasks s.flushers w t → Agrees trace s.tasks (set s.flushers k x) w t
  agrees_but k x s (whose.Flusher f) t n h = subst (λ (y : Flusher). FlusherAgrees trace y t) (sym (get_or-set_other s.flushers k f x no_flusher (λ e. n (ap whose.Flusher e)))) h
  agrees_but k x s (whose.Task task) t n h = h

  agrees_flusher : (k : ℕ) (x : Flusher) (s : State) (t : Todo) → k < length s.flushers → FlusherAgrees trace x t → Agrees trace s.tasks (set s.flushers k x) (whose.Flusher k) t
  agrees_flusher k x s t there h = subst (λ (y : Flusher). FlusherAgrees trace y t) (sym (get_or-set_same s.flushers k x no_flusher there)) h

  pub flusher_going : (k : ℕ) (x : Flusher) (w e e' t t' d : ℕ) (s : State) → IsFlusherOn trace i k → (cpu_of i s).turn.whose ≡ whose.Flusher k → Going trace i e t s
      → IsFlusher trace k x → All (FlusherAgrees trace x) (cpu_of i s).todo
      → flown_of x + e' ≤ flown_of (flusher_of k s) + e → e' ≤ e
      → until_of x.phase ≤ max (until_of (flusher_of k s).phase) (s.now + d) → t' + d ≤ t
      → w + one_if (works (flusher_of k s)) ≡ s.working + one_if (works x)
      → Going trace i e' t' (record s { flushers = set s.flushers k x; working = w })
  flusher_going k x w e e' t t' d s on turn g is agree flown fewer until ticks work =
      let h = g.holds in
      let there : k < length s.flushers = omega (arith, h.flushers.many, on.there) in
      let sums = sum_set flown_of s.flushers k x no_flusher there in
      let working = working_set trace facts (length s.steps) s.now i k x s.flushers s.cpus there on less h.cpus g.live in
      record {
        holds = record {
          pages = h.pages;
          few = h.few;
          long = h.long;
          domains = h.domains;
          contexts = h.contexts;
          written = record { total = omega (arith, h.written.total, sums, flown); events = h.written.events; part = h.written.part; cgroup_part = h.written.cgroup_part };
          marks = h.marks;
          queues = h.queues;
          tasks = h.tasks;
          dirtied = omega (arith, h.dirtied, fewer);
          flushers = record {
            many = length-set s.flushers k x ∙ h.flushers.many;
            each = set_all (IsFlusher trace) s.flushers k x no_flusher is h.flushers.each;
          };
          cpus = h.cpus;
          agreed = λ j l. dite (ℕ_discrete j i) (own j l) (other j l);
          counted = record {
            tasks = h.counted.tasks;
            flushers = omega (arith, h.counted.flushers, working, work);
            cpus = h.counted.cpus;
          };
          orders = h.orders;
          timer = h.timer;
          horizon = record {
            clock = omega (arith, h.horizon.clock, ticks);
            timer = omega (arith, h.horizon.timer, ticks);
            rest = λ n. omega (arith, h.horizon.rest n, ticks);
            until = set_all (λ j (y : Flusher). until_of y.phase + (reserve s + t') ≤ latest) s.flushers k x no_flusher
                (omega (arith, h.horizon.clock, h.horizon.until k, ticks, until)) (λ j. omega (arith, h.horizon.until j, ticks));
          };
        };
        live = g.live;
        closed = λ j n l f on' turn' none. subst (λ (y : Flusher). IsOpen trace y) (sym (get_or-set_other s.flushers k f x no_flusher (apart j n f on'))) (g.closed j n l f on' turn' none);
        room = g.room;
      }
    where
      apart : (j : ℕ) → j ≢ i → (f : ℕ) → IsFlusherOn trace j f → f ≢ k
      apart j n f on' e = n (sym on'.cpu_is ∙ (ap (λ (m : ℕ). flusher_cpu trace m) e ∙ on.cpu_is))

      own : (j : ℕ) → j < trace.cpus → j ≡ i → IsAgreed trace s.tasks (set s.flushers k x) j (cpu_of j s)
      own j l e =
          let here : k < length s.flushers = omega (arith, g.holds.flushers.many, on.there) in
          subst (λ (n : ℕ). IsAgreed trace s.tasks (set s.flushers k x) n (cpu_of n s)) (sym e) (record {
            items = subst (λ (w : Whose). All (Agrees trace s.tasks (set s.flushers k x) w) (cpu_of i s).todo) (sym turn)
                (λ n (y : Todo) (m : n < length (cpu_of i s).todo). agrees_flusher k x s (get_or (cpu_of i s).todo n y) here (agree n y m));
            others = λ f on' n. subst (λ (y : Flusher). IsOpen trace y) (sym (get_or-set_other s.flushers k f x no_flusher (λ e'. n (turn ∙ ap whose.Flusher (sym e')))))
                ((g.holds.agreed i less).others f on' n);
          })

      other : (j : ℕ) → j < trace.cpus → j ≢ i → IsAgreed trace s.tasks (set s.flushers k x) j (cpu_of j s)
      other j l n = let h = g.holds.agreed j l in record {
        items = λ m (y : Todo) (fits : m < length (cpu_of j s).todo). agrees_but k x s (cpu_of j s).turn.whose (get_or (cpu_of j s).todo m y)
            (other_flusher k j (cpu_of j s).turn.whose on n ((g.holds.cpus.each j l).whose (omega (arith, fits)))) (h.items m y fits);
        others = λ f on' n'. subst (λ (y : Flusher). IsOpen trace y) (sym (get_or-set_other s.flushers k f x no_flusher (apart j n f on'))) (h.others f on' n');
      }
