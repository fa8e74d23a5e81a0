-- A history, event by event.
use Rattle.std.proofs.Common.{◌≡◌, ℕ, ◌+◌, ◌<◌, ◌≤◌, List, ◌∷◌, length, get_or, drop, refl, subst, add-one}
use Rattle.std.proofs.Math.Seq.{drop-cons}
use Rattle.std.proofs.lemmas.List.{drop_all}
use Rattle.wbt_task.specs.declared.history.Event.{Event}
use Rattle.wbt_task.specs.History.{Along, Cpu, cpu_after, cpu_step}

-- the rest of a history is its next event and the rest after that
abbrev rest_at : (history : List Event) (at : ℕ) (default : Event) → List Event
rest_at history at default = get_or history at default ∷ drop (at + 1) history

rest_is : (history : List Event) (at : ℕ) (default : Event) → at < length history → drop at history ≡ rest_at history at default
rest_is history at default there = rw add-one (drop-cons history at default there)

pub rest_leads : (ratelimit_pages cap : ℕ) (cpu : Cpu) (history : List Event) (at : ℕ) (default : Event) → at < length history
    → cpu_after ratelimit_pages cap cpu (drop at history)
    ≡ cpu_after ratelimit_pages cap (cpu_step ratelimit_pages cap cpu (get_or history at default)) (drop (at + 1) history)
unfolding cpu_after
rest_leads ratelimit_pages cap cpu history at default there = rw (rest_is history at default there) refl

pub rest_allows : (Ok : Cpu → Event → Type 0) (ratelimit_pages cap : ℕ) (cpu : Cpu) (history : List Event) (at : ℕ) (default : Event) → at < length history
    → Along Ok ratelimit_pages cap cpu (drop at history)
    → Ok cpu (get_or history at default) × Along Ok ratelimit_pages cap (cpu_step ratelimit_pages cap cpu (get_or history at default)) (drop (at + 1) history)
unfolding Along
rest_allows Ok ratelimit_pages cap cpu history at default there along =
    subst (λ rest. Along Ok ratelimit_pages cap cpu rest) (rest_is history at default there) along

pub nothing_left : (ratelimit_pages cap : ℕ) (cpu : Cpu) (history : List Event) (at : ℕ) → length history ≤ at
    → cpu_after ratelimit_pages cap cpu (drop at history) ≡ cpu
unfolding cpu_after
nothing_left ratelimit_pages cap cpu history at past = rw (drop_all at history past) refl
