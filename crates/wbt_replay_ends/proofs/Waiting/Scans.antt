-- Looks and claims: a page that a scan goes past is clean then, or noted.
use Rattle.std.proofs.Common.{◌≡◌, ◌≢◌, ℕ, ◌+◌, ◌<◌, ◌≤◌, Bool, true, false, not, ◌&&◌, ◌||◌, eqb, List, [], ◌∷◌, ◌++◌, length, refl, sym, ◌∙◌, ap, arith, inl, inr, eq-eqb}
use mathlib.Core.Logic.{dite}
use native.Mathlib.Decide.{ℕ_discrete}
use Rattle.wbt_replay_order.proofs.Common.{Trace, one_if, put_same, put_other, Bits, is_claimable, bits_after, shared_word, times_in-append, then_do, log_at, look_in, looked_at, claim_in, claim_now, State, cpu_of, flusher_of, with_flusher, with_event, in_phase, page_of, Scan, Flusher, ReplayPhase, Todo, IsFlusherOn, Waiting}
use Rattle.wbt_book.specs.declared.event.Event.TheVariants as event
use Rattle.wbt_journal.specs.declared.entry.Entry.TheVariants as entry
use Rattle.wbt_replay_moves.specs.declared.state.ReplayPhase.TheVariants as phase
use Rattle.wbt_replay_moves.specs.declared.todo.Silent.TheVariants as silent
use Rattle.wbt_replay_moves.specs.declared.todo.Step.TheVariants as step
use Rattle.wbt_replay_moves.specs.declared.todo.Todo.TheVariants as todo
use Rattle.wbt_replay_order.proofs.Facts.Lists.{either}
use Rattle.wbt_replay_order.proofs.Lists.Todos.{AreCalm, same_alike, push_alike}
use Rattle.wbt_replay_ends.proofs.Waiting.Still.{still, cpu_stays, still_alike}
use Rattle.wbt_replay_ends.proofs.Waiting.Turned.{passes}

-- calm items come first
pub push_waits : (trace : Trace) (cpu : ℕ) (items : List Todo) (s t : State) → AreCalm items → Waiting trace s → t.cpus ≡ (then_do cpu items s).cpus → t.running ≤ s.running → t.flushers ≡ s.flushers
    → t.marks ≡ s.marks → t.queues ≡ s.queues → t.book ≡ s.book → Waiting trace t
push_waits trace cpu items s t calm w cpus running flushers marks queues book =
    cpu_stays trace cpu (record (cpu_of cpu s) { todo = items ++ (cpu_of cpu s).todo }) s t w (push_alike trace items (cpu_of cpu s) _ calm refl refl) cpus running flushers marks queues book

-- a page that is dirty and can't be claimed is under writeback
noted_now : (d b noted : Bool) → (d && not b) ≡ false → d ≡ true → (noted || (d && b)) ≡ true
noted_now true true true e is = refl
noted_now true true false e is = refl
noted_now true false noted e is = absurd (cc e)
noted_now false b noted e is = absurd (cc is)

still_noted : (b noted : Bool) → noted ≡ true → (noted || b) ≡ true
still_noted b true e = refl
still_noted b false e = absurd (cc e)

module _ (trace : Trace) (i f : ℕ) (less : i < trace.cpus) (on : IsFlusherOn trace i f) (s : State) (seats : length s.cpus ≡ trace.cpus)
    (many : length s.flushers ≡ length trace.flushers) (w : Waiting trace s) where
  looked_waits : (scan : Scan) → (flusher_of f s).phase ≡ phase.Scanning scan → Waiting trace (looked_at i f scan (s.book (page_of scan)) s)
  looked_waits scan at =
      let then : Bool = scan.noted || ((s.book (page_of scan)).dirty && (s.book (page_of scan)).writeback) in
      let p : ReplayPhase = phase.Scanning (record scan { passed = scan.passed + 1; noted = then }) in
      let u : State = in_phase f p s in
      either (Waiting trace) (is_claimable (s.book (page_of scan))) (then_do i (todo.Step (step.Claim (shared_word s.book (page_of scan))) ∷ []) s) (then_do i (todo.Silent silent.Close ∷ []) u)
      (λ can. push_waits trace i (todo.Step (step.Claim (shared_word s.book (page_of scan))) ∷ []) s _ (refl, tt) w refl (omega arith) refl refl refl refl)
      (λ no. push_waits trace i (todo.Silent silent.Close ∷ []) u _ (refl, tt)
      (passes trace i f less on s seats many w (record (flusher_of f s) { phase = p }) u scan then (still_alike trace s u refl) refl (omega arith) refl refl at refl refl
      (λ k is. is) (λ k is. inl is) (λ k some. some) (λ is. noted_now (s.book (page_of scan)).dirty (s.book (page_of scan)).writeback scan.noted no is)
      (λ is. still_noted ((s.book (page_of scan)).dirty && (s.book (page_of scan)).writeback) scan.noted is))
      refl (omega arith) refl refl refl refl)

  pub look_waits : (p : ReplayPhase) → (flusher_of f s).phase ≡ p → Waiting trace (look_in i f p s)
  look_waits (phase.Scanning scan) at = still trace (looked_at i f scan (s.book (page_of scan)) s) _ (looked_waits scan at) refl (omega arith) refl refl refl refl
  look_waits (phase.Idle until kept) at = w
  look_waits (phase.Taken n) at = w
  look_waits (phase.Flying n pages until) at = w
  look_waits phase.Finished at = w

  claimed_waits : (scan : Scan) → (flusher_of f s).phase ≡ phase.Scanning scan → Waiting trace (claim_now i f scan s)
  claimed_waits scan at =
      let x : Flusher = record (flusher_of f s) { phase = phase.Scanning (record scan { passed = scan.passed + 1 }); batch = (flusher_of f s).batch ++ page_of scan ∷ [] } in
      let u : State = with_flusher f x (with_event (event.Claim (page_of scan)) (page_of scan) s) in
      let v : State = log_at i (entry.Claimed f (page_of scan)) u in
      let now : u.book (page_of scan) ≡ bits_after (event.Claim (page_of scan)) (s.book (page_of scan)) = put_same s.book (page_of scan) (bits_after (event.Claim (page_of scan)) (s.book (page_of scan))) in
      let elsewhere : (p : ℕ) → p ≢ page_of scan → u.book p ≡ s.book p = λ p other. put_other s.book (page_of scan) (bits_after (event.Claim (page_of scan)) (s.book (page_of scan))) p other in
      let itself : (p : ℕ) → p ≡ page_of scan → u.book p ≡ bits_after (event.Claim (page_of scan)) (s.book (page_of scan)) = λ p same. ap u.book same ∙ now in
      push_waits trace i (todo.Silent silent.Close ∷ []) v _ (refl, tt)
      (cpu_stays trace i (record (cpu_of i u) { entries = (cpu_of i u).entries ++ entry.Claimed f (page_of scan) ∷ [] }) u v
      (passes trace i f less on s seats many w x u scan scan.noted (still_alike trace s u refl) refl (omega arith) refl refl at refl refl
      (λ p is. dite (ℕ_discrete p (page_of scan))
      (λ same. absurd (cc (sym is ∙ ap (λ (b : Bits). b.dirty) (itself p same))))
      (λ other. sym (ap (λ (b : Bits). b.dirty) (elsewhere p other)) ∙ is))
      (λ p is. dite (ℕ_discrete p (page_of scan))
      (λ same. inr (omega (arith, times_in-append p (flusher_of f s).batch (page_of scan ∷ []), ap one_if (eq-eqb p (page_of scan) same))))
      (λ other. inl (sym (ap (λ (b : Bits). b.writeback) (elsewhere p other)) ∙ is)))
      (λ p some. omega (arith, some, times_in-append p (flusher_of f s).batch (page_of scan ∷ [])))
      (λ is. absurd (cc (sym is ∙ ap (λ (b : Bits). b.dirty) now)))
      (λ is. is))
      (same_alike trace (cpu_of i u) _ refl refl) refl (omega arith) refl refl refl refl)
      refl (omega arith) refl refl refl refl

  pub claim_waits : (word : ℕ) (p : ReplayPhase) → (flusher_of f s).phase ≡ p → Waiting trace (claim_in i f word p s)
  claim_waits word (phase.Scanning scan) at =
      either (λ (u : State). Waiting trace (record u { steps = (claim_in i f word (phase.Scanning scan) s).steps })) (eqb (shared_word s.book (page_of scan)) word) (claim_now i f scan s) s
      (λ hit. still trace (claim_now i f scan s) _ (claimed_waits scan at) refl (omega arith) refl refl refl refl)
      (λ missed. still trace s _ w refl (omega arith) refl refl refl refl)
  claim_waits word (phase.Idle until kept) at = w
  claim_waits word (phase.Taken n) at = w
  claim_waits word (phase.Flying n pages until) at = w
  claim_waits word phase.Finished at = w
