-- What a search in the rotation comes to: the first actor that can do something, or nobody.
use Rattle.std.proofs.Common.{◌≡◌, ◌⊎◌, inl, inr, ℕ, zero, suc, ◌+◌, ◌-◌, ◌<◌, ◌≤◌, Bool, true, false, ltb, length, ⊎_elim, refl, sym, ◌∙◌, ap, subst, arith}
use Rattle.std.proofs.lemmas.Bool.{cases_lt}
use Rattle.std.proofs.lemmas.Bool.Decides.{nat_tests}
use Rattle.wbt_replay_order.proofs.Common.{Trace, State, Actor, actor_at, after, chance_by, chance_of, is_nothing, move_clock, place_after, seek_turn, take_turn, next_turn}
use Rattle.wbt_replay_moves.specs.declared.state.Actor.TheVariants as who
use Rattle.wbt_replay_order.specs.declared.chance.Chance.{Chance}
use Rattle.wbt_replay_order.specs.declared.chance.Chance.TheVariants as chance
use Rattle.wbt_replay_order.proofs.Facts.Actors.{past_ahead, past_turn, cpu_at, timer_at, place_below}
use Rattle.wbt_replay_order.proofs.Facts.Lists.{either}
use Rattle.wbt_replay_turns.specs.Rotation.{round_to}

-- ---- places that go round

round_is : (count from d : ℕ) → ((from + d < count) × (round_to count from d ≡ from + d)) ⊎ ((count ≤ from + d) × (round_to count from d + count ≡ from + d))
round_is count from d =
    either (λ (n : ℕ). ((from + d < count) × (n ≡ from + d)) ⊎ ((count ≤ from + d) × (n + count ≡ from + d))) (ltb (from + d) count) _ _
    (λ is. inl (grind (arith, nat_tests), refl))
    (λ is. let past : count ≤ from + d = grind (arith, nat_tests) in inr (past, omega (arith, past)))

after_is : (count n : ℕ) → ((n + 1 < count) × (after count n ≡ n + 1)) ⊎ ((count ≤ n + 1) × (after count n ≡ 0))
after_is count n =
    either (λ (m : ℕ). ((n + 1 < count) × (m ≡ n + 1)) ⊎ ((count ≤ n + 1) × (m ≡ 0))) (ltb (n + 1) count) _ _
    (λ is. inl (grind (arith, nat_tests), refl)) (λ is. inr (grind (arith, nat_tests), refl))

-- the place after one is the next that goes round
round_next : (count from d : ℕ) → from < count → d < count → after count (round_to count from d) ≡ round_to count from (d + 1)
round_next count from d below inside =
    ⊎_elim (λ a. ⊎_elim (λ b. ⊎_elim (λ c. omega (arith, a.0, a.1, b.0, b.1, c.0, c.1)) (λ c. omega (arith, a.0, a.1, b.0, b.1, c.0, c.1)) here)
    (λ b. ⊎_elim (λ c. omega (arith, a.0, a.1, b.0, b.1, c.0, c.1)) (λ c. omega (arith, a.0, a.1, b.0, b.1, c.0, c.1)) here) next)
    (λ a. ⊎_elim (λ b. ⊎_elim (λ c. omega (arith, a.0, a.1, b.0, b.1, c.0, c.1, below)) (λ c. omega (arith, a.0, a.1, b.0, b.1, c.0, c.1, below)) here)
    (λ b. ⊎_elim (λ c. omega (arith, a.0, a.1, b.0, b.1, c.0, c.1, below)) (λ c. absurd (omega (arith, a.0, a.1, b.0, b.1, c.0, c.1, below, inside))) here) next)
    (round_is count from d)
  where
    here : ((round_to count from d + 1 < count) × (after count (round_to count from d) ≡ round_to count from d + 1)) ⊎ ((count ≤ round_to count from d + 1) × (after count (round_to count from d) ≡ 0))
    here = after_is count (round_to count from d)

    next : ((from + (d + 1) < count) × (round_to count from (d + 1) ≡ from + (d + 1))) ⊎ ((count ≤ from + (d + 1)) × (round_to count from (d + 1) + count ≡ from + (d + 1)))
    next = round_is count from (d + 1)

round_none : (count from : ℕ) → from < count → from ≡ round_to count from 0
round_none count from below = ⊎_elim (λ c. omega (arith, c.1)) (λ c. absurd (omega (arith, c.0, below))) (round_is count from 0)

-- each place comes
round_all : (count from k : ℕ) → from < count → k < count → (d : ℕ) × (d < count) × (round_to count from d ≡ k)
round_all count from k below inside = ⊎_elim
    (λ before.
    let d : ℕ = k + count - from in
    (d, omega (arith, before, below), ⊎_elim (λ c. absurd (omega (arith, c.0, before, below))) (λ c. omega (arith, c.1, before, below)) (round_is count from d)))
    (λ past.
    let d : ℕ = k - from in
    (d, omega (arith, past, inside), ⊎_elim (λ c. omega (arith, c.1, past)) (λ c. absurd (omega (arith, c.0, past, inside))) (round_is count from d)))
    (cases_lt k from)

pub after_below : (count n : ℕ) → n < count → after count n < count
after_below count n below = ⊎_elim (λ c. omega (arith, c.0, c.1)) (λ c. omega (arith, c.1, below)) (after_is count n)

-- A search that finds nothing passes a place and goes on from the one after it. So it passes all.
module _ (count from : ℕ) (below : from < count) (P : ℕ → Type 0) (N : ℕ → ℕ → Type 0)
    (step : (tries place : ℕ) → N (suc tries) place → P place × N tries (after count place)) where
  passes : (tries d place : ℕ) → tries + d ≡ count → place ≡ round_to count from d → N tries place → (e : ℕ) → d ≤ e → e < count → P (round_to count from e)
  passes zero d place far at none e later inside = absurd (omega (arith, far, later, inside))
  passes (suc tries) d place far at none e later inside =
      let here = step tries place none in
      ⊎_elim
      (λ further.
      passes tries (d + 1) (after count place) (omega (arith, far)) (ap (after count) at ∙ round_next count from d below (omega (arith, far))) here.1 e (omega (arith, further)) inside)
      (λ last. let same : d ≡ e = omega (arith, later, last) in subst P (at ∙ ap (round_to count from) same) here.0)
      (cases_lt d e)

  pub all_passed : N count from → (k : ℕ) → k < count → P k
  all_passed none k inside =
      let d = round_all count from k below inside in
      subst P d.2 (passes count 0 from (omega arith) (round_none count from below) none d.0 (omega arith) d.1)

-- ---- a search

pub no_chance : (found : Chance) → is_nothing found ≡ true → found ≡ chance.Nothing
no_chance chance.Nothing is = refl
no_chance chance.GoesOn is = absurd (cc is)
no_chance (chance.Begins job place) is = absurd (cc is)
no_chance chance.TimerBegins is = absurd (cc is)

-- the actor that comes so many places after a place has nothing to do
abbrev pub Passes : (s : State) (from d : ℕ) → Type 0
Passes s from d = is_nothing (chance_of (actor_at (round_to (length s.cpus + 1) from d) s) s) ≡ true

-- The search from a place on ended so: with the turn of the first that can do something, or with the clock, since nobody can.
pub data Sought (trace : Trace) (s : State) (from : ℕ) (u : State) : Type 0 where
  finds : (d : ℕ) → d < length s.cpus + 1 → ((e : ℕ) → e < d → Passes s from e) → is_nothing (chance_of (actor_at (round_to (length s.cpus + 1) from d) s) s) ≡ false
      → u ≡ take_turn trace (actor_at (round_to (length s.cpus + 1) from d) s) s → Sought trace s from u
  finds_none : ((d : ℕ) → d < length s.cpus + 1 → Passes s from d) → u ≡ move_clock s → Sought trace s from u

module _ (trace : Trace) (s : State) (from : ℕ) (below : from < length s.cpus + 1) where
  -- the search has come so far, and passed those before
  seeks : (tries d place : ℕ) → tries + d ≡ length s.cpus + 1 → place ≡ round_to (length s.cpus + 1) from d → ((e : ℕ) → e < d → Passes s from e)
      → Sought trace s from (seek_turn trace tries place s)
  unfolding seek_turn
  seeks zero d place far at passed = finds_none (λ e less. passed e (omega (arith, less, far))) refl
  seeks (suc tries) d place far at passed =
      by_chance (is_nothing (chance_of (actor_at place s) s)) refl
      (λ none. seeks tries (d + 1) (after (length s.cpus + 1) place) (omega (arith, far)) (ap (after (length s.cpus + 1)) at ∙ round_next (length s.cpus + 1) from d below (omega (arith, far)))
      (λ e less. ⊎_elim (λ before. passed e before)
      (λ last. let same : e ≡ d = omega (arith, less, last) in
      subst (λ (k : ℕ). Passes s from k) (sym same) (ap (λ (p : ℕ). is_nothing (chance_of (actor_at p s) s)) (sym at) ∙ none))
      (cases_lt e d)))
    where
      by_chance : (b : Bool) → is_nothing (chance_of (actor_at place s) s) ≡ b
          → (is_nothing (chance_of (actor_at place s) s) ≡ true → Sought trace s from (seek_turn trace tries (after (length s.cpus + 1) place) s))
          → Sought trace s from (elim b as (λ _. State) [ true ↦ seek_turn trace tries (after (length s.cpus + 1) place) s | false ↦ take_turn trace (actor_at place s) s ])
      by_chance true is behind = behind is
      by_chance false is behind =
          finds d (omega (arith, far)) passed (ap (λ (p : ℕ). is_nothing (chance_of (actor_at p s) s)) (sym at) ∙ is)
          (ap (λ (p : ℕ). take_turn trace (actor_at p s) s) at)

-- a search for the next turn
pub sought : (trace : Trace) (s : State) → Sought trace s (place_after s.rotation s) (next_turn trace s)
sought trace s =
    let from = place_after s.rotation s in
    let below = place_below s.rotation s in
    seeks trace s from below (length s.cpus + 1) 0 from (omega arith) (round_none (length s.cpus + 1) from below) (λ e less. absurd (omega (arith, less)))

-- ---- nobody

-- no actor has anything to do
abbrev pub Idle : (s : State) → Type 0
Idle s = (a : Actor) → chance_of a s ≡ chance.Nothing

-- who is passed in a whole round can't do anything
pub all_pass : (s : State) (from : ℕ) → from < length s.cpus + 1 → ((d : ℕ) → d < length s.cpus + 1 → Passes s from d) → Idle s
all_pass s from below each = by_actor
  where
    at_place : (k : ℕ) → k < length s.cpus + 1 → chance_of (actor_at k s) s ≡ chance.Nothing
    at_place k inside =
        let d = round_all (length s.cpus + 1) from k below inside in
        no_chance (chance_of (actor_at k s) s) (ap (λ (p : ℕ). is_nothing (chance_of (actor_at p s) s)) (sym d.2) ∙ each d.0 d.1)

    by_actor : (a : Actor) → chance_of a s ≡ chance.Nothing
    by_actor (who.Cpu i) = ⊎_elim
        (λ there. ap (λ (a : Actor). chance_of a s) (sym (cpu_at s i there)) ∙ at_place i (omega (arith, there)))
        (λ past. ap (λ n. chance_by n (who.Cpu i) s) (past_ahead s i past) ∙ past_turn s i past)
        (cases_lt i (length s.cpus))
    by_actor who.Timer = ap (λ (a : Actor). chance_of a s) (sym (timer_at s)) ∙ at_place (length s.cpus) (omega arith)
