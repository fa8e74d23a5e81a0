-- A flight's page is completed, and the batch is counted in.
use Rattle.std.proofs.Common.{◌≡◌, ◌≢◌, ℕ, zero, suc, ◌<◌, false, eqb, negsuc, List, [], ◌∷◌, ◌++◌, length, refl, sym, ◌∙◌, ap, arith, ne_eqb}
use mathlib.Core.Logic.{dite}
use native.Mathlib.Decide.{ℕ_discrete}
use Rattle.wbt_replay_order.proofs.Common.{Trace, one_if, Context, put_same, put_other, Bits, bits_after, times_in, fraction_of, may_be_added, log_at, owed_to, complete_in, complete_first, complete_page, land_in, landed, share, share_now, share_group, part_in, with_written, State, cpu_of, flusher_of, with_flusher, with_event, domain_of, writeback_of, in_phase, context_of, group_of, max_share, Flusher, ReplayPhase, IsFlusherOn, Waiting}
use Rattle.wbt_counter.specs.declared.counter.Counter.TheVariants.{Domain}
use Rattle.wbt_book.specs.declared.event.Event.TheVariants as event
use Rattle.wbt_journal.specs.declared.entry.Entry.TheVariants as entry
use Rattle.wbt_replay_moves.specs.declared.state.ReplayPhase.TheVariants as phase
use Rattle.wbt_replay_moves.specs.declared.todo.Silent.TheVariants as silent
use Rattle.wbt_replay_moves.specs.declared.todo.Step.TheVariants as step
use Rattle.wbt_replay_moves.specs.declared.todo.Todo.TheVariants as todo
use Rattle.wbt_replay_order.proofs.Facts.Lists.{either}
use Rattle.wbt_replay_order.proofs.Lists.Todos.{AreCalm, same_alike}
use Rattle.wbt_replay_ends.proofs.Waiting.Scans.{push_waits}
use Rattle.wbt_replay_ends.proofs.Waiting.Still.{cpu_stays, still_alike}
use Rattle.wbt_replay_ends.proofs.Waiting.Turned.{goes_on, parks}

owed_calm : (context group : ℕ) → AreCalm (owed_to (negsuc 0) context group (todo.Silent silent.Land))
owed_calm context group =
    either AreCalm (eqb group 0)
    (todo.Step (step.Add (Context context) (negsuc 0)) ∷ todo.Step (step.Add (Domain 0) (negsuc 0)) ∷ todo.Silent silent.Land ∷ [])
    (todo.Step (step.Add (Context context) (negsuc 0)) ∷ todo.Step (step.Add (Domain 0) (negsuc 0)) ∷ todo.Step (step.Add (Domain group) (negsuc 0)) ∷ todo.Silent silent.Land ∷ [])
    (λ none. (refl, (refl, (refl, tt)))) (λ some. (refl, (refl, (refl, (refl, tt)))))

module _ (trace : Trace) (i : ℕ) where
  -- ---- a share

  share_now_waits : (domain context n : ℕ) (s : State) → Waiting trace s → Waiting trace (share_now i domain context n s)
  share_now_waits domain context n s w =
      cpu_stays trace i (record (cpu_of i s) { entries = (cpu_of i s).entries ++ entry.Share domain context n ∷ [] }) s _ w (same_alike trace (cpu_of i s) _ refl refl) refl (omega arith) refl refl refl refl

  share_waits : (domain context n : ℕ) (s : State) → Waiting trace s → Waiting trace (share trace i domain context n s)
  share_waits domain context n s w =
      either (Waiting trace) (may_be_added (fraction_of (part_in domain (writeback_of context s)) (domain_of domain s).events) (max_share trace context)) (share_now i domain context n s) s
      (λ may. share_now_waits domain context n s w) (λ full. w)

  share_group_waits : (group context n : ℕ) (s : State) → Waiting trace s → Waiting trace (share_group trace i group context n s)
  share_group_waits zero context n s w = w
  share_group_waits (suc g) context n s w = share_waits (suc g) context n s w

module _ (trace : Trace) (i f : ℕ) (less : i < trace.cpus) (on : IsFlusherOn trace i f) (s : State) (seats : length s.cpus ≡ trace.cpus)
    (many : length s.flushers ≡ length trace.flushers) (w : Waiting trace s) where
  -- ---- a page

  page_waits : (n until pages : ℕ) (q : ℕ) (qs : List ℕ) → (flusher_of f s).batch ≡ q ∷ qs
      → Waiting trace (complete_page trace i f (context_of trace n) q (with_flusher f (record (flusher_of f s) { batch = qs }) s))
  page_waits n until pages q qs is =
      let x : Flusher = record (flusher_of f s) { batch = qs } in
      let k : ℕ = context_of trace n in
      let u : State = with_event (event.Complete q) q (with_flusher f x s) in
      let v : State = log_at i (entry.Done f q) u in
      let now : u.book q ≡ bits_after (event.Complete q) (s.book q) = put_same s.book q (bits_after (event.Complete q) (s.book q)) in
      let elsewhere : (p : ℕ) → p ≢ q → u.book p ≡ s.book p = λ p other. put_other s.book q (bits_after (event.Complete q) (s.book q)) p other in
      let itself : (p : ℕ) → p ≡ q → u.book p ≡ bits_after (event.Complete q) (s.book q) = λ p same. ap u.book same ∙ now in
      push_waits trace i (owed_to (negsuc 0) k (group_of trace k) (todo.Silent silent.Land)) v _ (owed_calm k (group_of trace k))
      (cpu_stays trace i (record (cpu_of i u) { entries = (cpu_of i u).entries ++ entry.Done f q ∷ [] }) u v
      (goes_on trace i f less on s seats many w x u (still_alike trace s u refl) refl (omega arith) refl refl refl refl
      (λ p e. dite (ℕ_discrete p q)
      (λ same. ap (λ (j : ℕ). (s.book j).dirty) same ∙ (sym (ap (λ (b : Bits). b.dirty) (itself p same)) ∙ e))
      (λ other. sym (ap (λ (b : Bits). b.dirty) (elsewhere p other)) ∙ e))
      (λ p e. dite (ℕ_discrete p q)
      (λ same. absurd (cc (sym e ∙ ap (λ (b : Bits). b.writeback) (itself p same))))
      (λ other. sym (ap (λ (b : Bits). b.writeback) (elsewhere p other)) ∙ e))
      (λ p e some. dite (ℕ_discrete p q)
      (λ same. absurd (cc (sym e ∙ ap (λ (b : Bits). b.writeback) (itself p same))))
      (λ other. omega (arith, some, ap (times_in p) is, ap one_if (ne_eqb p q other)))))
      (same_alike trace (cpu_of i u) _ refl refl) refl (omega arith) refl refl refl refl)
      refl (omega arith) refl refl refl refl

  first_waits : (n until pages : ℕ) (batch : List ℕ) → (flusher_of f s).batch ≡ batch → Waiting trace (complete_first trace i f (context_of trace n) batch s)
  first_waits n until pages [] is = w
  first_waits n until pages (q ∷ qs) is = page_waits n until pages q qs is

  pub complete_waits : (p : ReplayPhase) → (flusher_of f s).phase ≡ p → Waiting trace (complete_in trace i f p s)
  complete_waits (phase.Flying n pages until) at = first_waits n until pages (flusher_of f s).batch refl
  complete_waits (phase.Scanning scan) at = w
  complete_waits (phase.Idle until kept) at = w
  complete_waits (phase.Taken n) at = w
  complete_waits phase.Finished at = w

  -- ---- the batch is counted in

  landed_waits : (n pages until : ℕ) → (flusher_of f s).phase ≡ phase.Flying n pages until → Waiting trace (landed trace i f (context_of trace n) pages s)
  landed_waits n pages until at =
      let k : ℕ = context_of trace n in
      let u : State = with_written k pages (in_phase f (phase.Idle 0 false) s) in
      let v : State = share trace i 0 k pages u in
      share_group_waits trace i (group_of trace k) k pages v (share_waits trace i 0 k pages u
      (parks trace i f less on s seats many w (record (flusher_of f s) { phase = phase.Idle 0 false }) u (still_alike trace s u refl) refl (omega arith) refl refl refl refl refl refl
      (λ m found. cc (sym found ∙ at)) (λ m p scan page found its behind shut. cc (sym found ∙ at)) (λ over. absurd (cc over)) (λ over. absurd (cc over))))

  pub land_waits : (p : ReplayPhase) → (flusher_of f s).phase ≡ p → Waiting trace (land_in trace i f p s)
  land_waits (phase.Flying n pages until) at =
      either (Waiting trace) (eqb (length (flusher_of f s).batch) 0) (landed trace i f (context_of trace n) pages s) s (λ none. landed_waits n pages until at) (λ some. w)
  land_waits (phase.Scanning scan) at = w
  land_waits (phase.Idle until kept) at = w
  land_waits (phase.Taken n) at = w
  land_waits phase.Finished at = w
