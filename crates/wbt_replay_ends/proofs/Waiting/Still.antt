-- Moves that change neither the book, nor a mark, a queue or a flusher.
use Rattle.std.proofs.Common.{◌≡◌, ℕ, ◌≤◌, true, Bool, List, length, get_or, refl, sym, ◌∙◌, ap, subst, inl, ⊎_elim, []}
use Rattle.std.proofs.Math.ListN.{set}
use Rattle.std.proofs.lemmas.Bool.{cases_lt}
use Rattle.std.proofs.lemmas.List.{get_or-set_same, get_or-set_other, set_past}
use mathlib.Core.Logic.{dite}
use native.Mathlib.Decide.{ℕ_discrete}
use Rattle.wbt_replay_order.proofs.Common.{Trace, Book, times_in, State, no_cpu, no_flusher, cpu_of, flusher_of, device_of, flusher_cpu, Cpu, Flusher, is_finished, IsPlaced, Waiting, queued, taken, takeable, scanned, owed}
use Rattle.wbt_replay_order.proofs.Lists.Todos.{Alike, same_alike}
use Rattle.wbt_replay_ends.proofs.Waiting.Moved.{lists_stay, ours_stay, empties_stay, moved_waits}

pub alike_at : (trace : Trace) (xs : List Cpu) (cpu : ℕ) (c : Cpu) → Alike trace (get_or xs cpu no_cpu) c → (i : ℕ) → Alike trace (get_or xs i no_cpu) (get_or (set xs cpu c) i no_cpu)
alike_at trace xs cpu c h i = dite (ℕ_discrete i cpu)
    (λ here. ⊎_elim
    (λ less. subst (λ (n : ℕ). Alike trace (get_or xs n no_cpu) (get_or (set xs cpu c) n no_cpu)) (sym here)
    (subst (Alike trace (get_or xs cpu no_cpu)) (sym (get_or-set_same xs cpu c no_cpu less)) h))
    (λ past. subst (λ (l : List Cpu). Alike trace (get_or xs i no_cpu) (get_or l i no_cpu)) (sym (set_past xs cpu c past)) (same_alike trace _ _ refl refl))
    (cases_lt cpu (length xs)))
    (λ apart. subst (Alike trace (get_or xs i no_cpu)) (sym (get_or-set_other xs cpu i c no_cpu apart)) (same_alike trace _ _ refl refl))

module _ (trace : Trace) (s t : State) (w : Waiting trace s) where
  pub stays : ((i : ℕ) → Alike trace (cpu_of i s) (cpu_of i t)) → t.running ≤ s.running → t.flushers ≡ s.flushers → t.marks ≡ s.marks → t.queues ≡ s.queues → t.book ≡ s.book
      → Waiting trace t
  stays alike running flushers marks queues book =
      let same : (g : ℕ) → flusher_of g t ≡ flusher_of g s = λ g. ap (λ (fs : List Flusher). get_or fs g no_flusher) flushers in
      moved_waits trace 0 s t (record {
        others = λ g apart. same g;
        owes = λ n p i here less some. owed i less ((alike i).owes n some);
        opens = λ i g apart still. (alike i).opens g still;
        turns = λ i less. (alike i).before (w.turns i less);
        running = running;
        marks = λ n less is. inl (sym (ap (λ (ms : List Bool). get_or ms n true) marks) ∙ is);
        dirties = λ n p here is. inl (sym (ap (λ (b : Book). (b p).dirty) book) ∙ is);
        flights = λ p is. inl (sym (ap (λ (b : Book). (b p).writeback) book) ∙ is);
        queue = λ n some. queued (subst (λ (qs : List (List ℕ)). 1 ≤ times_in n (get_or qs (device_of trace n) [])) (sym queues) some);
        lists = lists_stay trace 0 s t w (same 0);
        ours = ours_stay trace 0 s t w (same 0);
        empties = empties_stay trace 0 s t w (same 0);
        was_taken = λ n less is there at. taken 0 there (ap (λ (x : Flusher). x.phase) (same 0) ∙ at);
        was_awaited = λ n p here there at. takeable (taken 0 there (ap (λ (x : Flusher). x.phase) (same 0) ∙ at));
        was_scanned = λ n p scan here is there at its behind still.
            scanned 0 scan there (ap (λ (x : Flusher). x.phase) (same 0) ∙ at) its behind ((alike (flusher_cpu trace 0)).opens 0 still);
        was_held = λ p is some. subst (λ (x : Flusher). 1 ≤ times_in p x.batch) (sym (same 0)) some;
        placed = λ there. subst (λ (x : Flusher). IsPlaced trace 0 x.phase) (sym (same 0)) (w.places 0 there);
        serves = λ d less some. inl (subst (λ (qs : List (List ℕ)). 1 ≤ length (get_or qs d [])) queues some);
        ends = λ there over. inl (ap (λ (x : Flusher). is_finished x.phase) (sym (same 0)) ∙ over);
      }) w

-- nothing of it changes
pub still : (trace : Trace) (s t : State) → Waiting trace s → t.cpus ≡ s.cpus → t.running ≤ s.running → t.flushers ≡ s.flushers → t.marks ≡ s.marks → t.queues ≡ s.queues → t.book ≡ s.book
    → Waiting trace t
still trace s t w cpus running flushers marks queues book =
    stays trace s t w (λ i. subst (λ (cs : List Cpu). Alike trace (cpu_of i s) (get_or cs i no_cpu)) (sym cpus) (same_alike trace (cpu_of i s) (cpu_of i s) refl refl)) running flushers marks queues book

-- one CPU changes
pub cpu_stays : (trace : Trace) (cpu : ℕ) (c : Cpu) (s t : State) → Waiting trace s → Alike trace (cpu_of cpu s) c → t.cpus ≡ set s.cpus cpu c → t.running ≤ s.running → t.flushers ≡ s.flushers
    → t.marks ≡ s.marks → t.queues ≡ s.queues → t.book ≡ s.book → Waiting trace t
cpu_stays trace cpu c s t w alike cpus running flushers marks queues book =
    stays trace s t w (λ i. subst (λ (cs : List Cpu). Alike trace (cpu_of i s) (get_or cs i no_cpu)) (sym cpus) (alike_at trace s.cpus cpu c alike i)) running flushers marks queues book

pub set_alike : (trace : Trace) (cpu : ℕ) (c : Cpu) (s t : State) → Alike trace (cpu_of cpu s) c → t.cpus ≡ set s.cpus cpu c → (j : ℕ) → Alike trace (cpu_of j s) (cpu_of j t)
set_alike trace cpu c s t alike cpus j = subst (λ (cs : List Cpu). Alike trace (cpu_of j s) (get_or cs j no_cpu)) (sym cpus) (alike_at trace s.cpus cpu c alike j)

pub still_alike : (trace : Trace) (s t : State) → t.cpus ≡ s.cpus → (j : ℕ) → Alike trace (cpu_of j s) (cpu_of j t)
still_alike trace s t cpus j = subst (λ (cs : List Cpu). Alike trace (cpu_of j s) (get_or cs j no_cpu)) (sym cpus) (same_alike trace (cpu_of j s) (cpu_of j s) refl refl)
