-- The order lines: a line that is followed, and a state with other lines.
use Rattle.std.proofs.Common.{◌≡◌, ℕ, zero, suc, ◌+◌, ◌-◌, List, ◌∷◌, All, refl, sym, ◌∙◌, ap, subst, arith}
use Rattle.std.specs.List.{sum_by}
use Rattle.std.proofs.lemmas.List.Elements.{All-head, All-tail, All-cons}
use Rattle.std.proofs.lemmas.List.Sums.{sum_by-cons}
use Rattle.wbt_replay_order.proofs.Common.{Trace, State, Actor, Stretch, advance, advance_by, ahead_of, follow, go_on, with_orders, reserve, ticks_of, IsStretch, Sound}
use Rattle.wbt_replay_moves.specs.declared.state.Stretch.TheVariants as stretch
use Rattle.wbt_replay_order.specs.declared.chance.Ahead.{Ahead}
use Rattle.wbt_replay_order.specs.declared.chance.Ahead.TheVariants as ahead
use Rattle.wbt_replay_order.specs.Kept.Horizon.{MomentsAreWithin}

pub step_follows : (trace : Trace) (s : State) (actor : Actor) (steps : ℕ) (more : List Stretch) → s.orders ≡ stretch.Steps actor steps ∷ more → ahead_of actor s ≡ ahead.Step
    → (steps ≡ 0 → ⊥) → go_on trace actor (with_orders (stretch.Steps actor (steps - 1) ∷ more) s) ≡ advance trace s
step_follows trace s actor zero more orders next some = absurd (some refl)
step_follows trace s actor (suc steps) more orders next some =
    let one : suc steps - 1 ≡ steps = omega arith in
    ap (λ (n : ℕ). go_on trace actor (with_orders (stretch.Steps actor n ∷ more) s)) one
    ∙ sym (ap (λ (l : List Stretch). advance_by trace l s) orders ∙ ap (λ (a : Ahead). follow trace actor (suc steps) a more s) next)

pub lines_sound : (trace : Trace) (s : State) (lines : List Stretch) → Sound trace s → All (IsStretch trace) lines → sum_by ticks_of lines ≡ sum_by ticks_of s.orders
    → Sound trace (record s { orders = lines })
lines_sound trace s lines sound fit same =
    let h = sound.holds in
    let kept : reserve (record s { orders = lines }) ≡ reserve s = omega (arith, same) in
    record {
      holds = record {
        pages = h.pages;
        few = h.few;
        long = h.long;
        domains = h.domains;
        contexts = h.contexts;
        written = h.written;
        marks = h.marks;
        queues = h.queues;
        tasks = h.tasks;
        dirtied = h.dirtied;
        flushers = h.flushers;
        cpus = h.cpus;
        agreed = h.agreed;
        counted = h.counted;
        orders = fit;
        timer = h.timer;
        horizon = subst (λ (n : ℕ). MomentsAreWithin (n + 0) s.now s.timer.next s.tasks s.flushers) (sym kept) h.horizon;
      };
      closed = sound.closed;
    }

-- the first line asks for fewer steps
pub fewer_sound : (trace : Trace) (s : State) (actor : Actor) (steps fewer : ℕ) (more : List Stretch) → Sound trace s → s.orders ≡ stretch.Steps actor steps ∷ more
    → Sound trace (record s { orders = stretch.Steps actor fewer ∷ more })
fewer_sound trace s actor steps fewer more sound orders =
    let fits = subst (All (IsStretch trace)) orders sound.holds.orders in
    lines_sound trace s (stretch.Steps actor fewer ∷ more) sound
    (All-cons (IsStretch trace) (stretch.Steps actor fewer) more (All-head (IsStretch trace) (stretch.Steps actor steps) more fits) (All-tail (IsStretch trace) (stretch.Steps actor steps) more fits))
    (sum_by-cons ticks_of (stretch.Steps actor fewer) more ∙ sym (sum_by-cons ticks_of (stretch.Steps actor steps) more) ∙ ap (λ (l : List Stretch). sum_by ticks_of l) (sym orders))
