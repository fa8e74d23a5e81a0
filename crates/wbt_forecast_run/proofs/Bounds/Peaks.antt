-- A domain's peak only grows, and a move makes one step at most.
use Rattle.std.proofs.Common.{◌≡◌, ◌⊎◌, inl, inr, ℕ, zero, suc, ◌≤◌, ◌&&◌, List, [], ◌∷◌, ◌++◌, set, get_or, refl, ◌∙◌, ap, arith, ⊎_elim}
use Rattle.wbt_counter.specs.declared.counter.Counter.TheVariants.{Domain as ofDomain, Context as ofContext}
use Rattle.wbt_replay_order.proofs.Common.{Trace, StepEntry, extended, State, no_domain, domain_of, with_cpu, with_timer, Domain, advance, is_ended, is_full, fits_further, apply, Change}
use Rattle.wbt_replay_order.proofs.Facts.Lists.{either}
use Rattle.wbt_replay_order.proofs.Growth.Grown.{advance_grows}
use Rattle.wbt_replay_changes.specs.Change as change
use Rattle.wbt_forecast_run.specs.Run.{let_on, moved}
use Rattle.wbt_forecast_run.proofs.Runs.Changing.{move_keeps}
use Rattle.wbt_forecast_run.proofs.Runs.Walking.{with_course}

-- ---- peaks

-- no peak is less than before
abbrev pub PeaksGrow : (s u : State) → Type 0
PeaksGrow s u = (d : ℕ) → (domain_of d s).peak ≤ (domain_of d u).peak

set_grows : (ds : List Domain) (k : ℕ) (x : Domain) → (get_or ds k no_domain).peak ≤ x.peak → (d : ℕ)
    → (get_or ds d no_domain).peak ≤ (get_or (set ds k x) d no_domain).peak
set_grows [] k x more d = omega arith
set_grows (y ∷ ds) zero x more zero = more
set_grows (y ∷ ds) zero x more (suc d) = omega arith
set_grows (y ∷ ds) (suc k) x more zero = omega arith
set_grows (y ∷ ds) (suc k) x more (suc d) = set_grows ds k x more d

-- a domain is another, with a peak that isn't less
set_peaks : (s u : State) (k : ℕ) (x : Domain) → u.domains ≡ set s.domains k x → (domain_of k s).peak ≤ x.peak → PeaksGrow s u
set_peaks s u k x is more d =
    let grows = set_grows s.domains k x more d in
    omega (arith, grows, ap (λ (ds : List Domain). (get_or ds d no_domain).peak) is)

same_peaks : (s u : State) → u.domains ≡ s.domains → PeaksGrow s u
same_peaks s u same d = omega (arith, ap (λ (ds : List Domain). (get_or ds d no_domain).peak) same)

change_peaks : (trace : Trace) (one : Change) (s : State) → PeaksGrow s (apply trace one s)
change_peaks trace (change.stepped who kind) s = same_peaks s (apply trace (change.stepped who kind) s) refl
change_peaks trace (change.of_cpu cpu one) s = same_peaks s (apply trace (change.of_cpu cpu one) s) refl
change_peaks trace (change.of_task task one) s = same_peaks s (apply trace (change.of_task task one) s) refl
change_peaks trace (change.of_flusher f one) s = same_peaks s (apply trace (change.of_flusher f one) s) refl
change_peaks trace (change.of_timer one) s = same_peaks s (apply trace (change.of_timer one) s) refl
change_peaks trace (change.rewrote cpu task page works) s = same_peaks s (apply trace (change.rewrote cpu task page works) s) refl
change_peaks trace (change.dirtied cpu task inode page works) s = same_peaks s (apply trace (change.dirtied cpu task inode page works) s) refl
change_peaks trace (change.marked inode) s = same_peaks s (apply trace (change.marked inode) s) refl
change_peaks trace (change.checked cpu check) s = same_peaks s (apply trace (change.checked cpu check) s) refl
change_peaks trace (change.ended cpu task) s = same_peaks s (apply trace (change.ended cpu task) s) refl
change_peaks trace (change.folded cpu (ofDomain k)) s = set_peaks s (apply trace (change.folded cpu (ofDomain k)) s) k _ refl (omega arith)
change_peaks trace (change.folded cpu (ofContext k)) s = same_peaks s (apply trace (change.folded cpu (ofContext k)) s) refl
change_peaks trace (change.estimated cpu context estimate) s = same_peaks s (apply trace (change.estimated cpu context estimate) s) refl
change_peaks trace (change.took f inode left) s = same_peaks s (apply trace (change.took f inode left) s) refl
change_peaks trace (change.took_due cpu f now pair left) s = same_peaks s (apply trace (change.took_due cpu f now pair left) s) refl
change_peaks trace (change.took_first cpu f pair left) s = same_peaks s (apply trace (change.took_first cpu f pair left) s) refl
change_peaks trace (change.noticed cpu f inode since left) s = same_peaks s (apply trace (change.noticed cpu f inode since left) s) refl
change_peaks trace (change.dropped f left) s = same_peaks s (apply trace (change.dropped f left) s) refl
change_peaks trace (change.finished f) s = same_peaks s (apply trace (change.finished f) s) refl
change_peaks trace (change.unmarked f scan) s = same_peaks s (apply trace (change.unmarked f scan) s) refl
change_peaks trace (change.claimed cpu f scan) s = same_peaks s (apply trace (change.claimed cpu f scan) s) refl
change_peaks trace (change.flew cpu f inode pages until) s = same_peaks s (apply trace (change.flew cpu f inode pages until) s) refl
change_peaks trace (change.completed cpu f context page left) s = same_peaks s (apply trace (change.completed cpu f context page left) s) refl
change_peaks trace (change.landed f context pages) s = same_peaks s (apply trace (change.landed f context pages) s) refl
change_peaks trace (change.shared cpu k context pages) s = set_peaks s (apply trace (change.shared cpu k context pages) s) k _ refl (omega arith)
change_peaks trace (change.raised k hard) s = set_peaks s (apply trace (change.raised k hard) s) k _ refl (omega arith)
change_peaks trace (change.unsealed k) s = set_peaks s (apply trace (change.unsealed k) s) k _ refl (omega arith)
change_peaks trace (change.published k) s = set_peaks s (apply trace (change.published k) s) k _ refl (omega arith)
change_peaks trace (change.renewed k periods events) s = set_peaks s (apply trace (change.renewed k periods events) s) k _ refl (omega arith)

advance_peaks : (trace : Trace) (s : State) → PeaksGrow s (advance trace s)
advance_peaks trace s =
    move_keeps trace PeaksGrow (λ a b c one two d. (let x = one d in let y = two d in omega (arith, x, y))) (λ c u. same_peaks u (with_course c u) refl)
    (λ i c u entries checks. same_peaks u (with_cpu i c u) refl) (λ todos u. same_peaks u (with_timer (record u.timer { todo = todos }) u) refl)
    (λ one u. change_peaks trace one u) s

let_domains : (s : State) → (let_on s).domains ≡ s.domains
let_domains s = either (λ (u : State). u.domains ≡ s.domains) (is_full s && fits_further s) (extended s) s (λ is. refl) (λ no. refl)

let_steps : (s : State) → (let_on s).steps ≡ s.steps
let_steps s = either (λ (u : State). u.steps ≡ s.steps) (is_full s && fits_further s) (extended s) s (λ is. refl) (λ no. refl)

pub moved_peaks : (trace : Trace) (s : State) → PeaksGrow s (moved trace s)
moved_peaks trace s = either (PeaksGrow s) (is_ended s) s (advance trace (let_on s)) (λ over d. omega arith)
    (λ going d. (let x = advance_peaks trace (let_on s) d in let y =
    ap (λ (ds : List Domain). (get_or ds d no_domain).peak) (let_domains s) in omega (arith, x, y)))

-- ---- steps

-- none, or one
abbrev pub GrowsByOne : (s u : State) → Type 0
GrowsByOne s u = (u.steps ≡ s.steps) ⊎ ((e : StepEntry) × (u.steps ≡ s.steps ++ e ∷ []))

pub moved_grows : (trace : Trace) (s : State) → GrowsByOne s (moved trace s)
moved_grows trace s = either (λ (u : State). (u.steps ≡ s.steps) ⊎ ((e : StepEntry) × (u.steps ≡ s.steps ++ e ∷ []))) (is_ended s) s (advance trace (let_on s))
    (λ over. inl refl)
    (λ going.
    ⊎_elim (λ same. inl (same ∙ let_steps s))
    (λ one. inr (one.entry, one.is ∙ ap (λ (l : List StepEntry). l ++ one.entry ∷ []) (let_steps s)))
    (advance_grows trace (let_on s)).1)
