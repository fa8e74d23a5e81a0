-- No event of a replay gives a page back.
use Rattle.std.proofs.Common.{◌≡◌, ℕ, Bool, true, false, cond, Option, Some, None, List, [], ◌∷◌, ◌++◌, refl, ◌∙◌, ap, arith, true≢false}
use Rattle.wbt_replay_order.proofs.Common.{Trace, total_nothing, one_if, all_times, times, Event, Dirty, Claim, Complete, Each, Flight, Move, effect, event_of, of_part, Told, told, event_in, onto, cpu_of, Cpu, deeds_told, events_told, TellsNoFailure, NeverFails, part_of, state_at}
use Rattle.wbt_journal.specs.Effects.{Write, takes, flies, lands, fails, gives_back, event_by, event_of_move, listed}
use Rattle.wbt_replay_order.specs.Claims.Unfailing.{is_return}
use Rattle.wbt_replay_points.proofs.Claims.Found.{told_events}

-- of an event that is no dirtying, claim or completion
module _ (is : Event → Bool) (no_dirtying : (q : ℕ) → is (Dirty q) ≡ false) (no_claim : (q : ℕ) → is (Claim q) ≡ false)
    (no_completion : (q : ℕ) → is (Complete q) ≡ false) where
  by_move : (move : Move) → is_return move ≡ false → times is (listed (event_of_move move)) ≡ 0
  by_move (takes page) none = let one = ap one_if (no_claim page) in omega (arith, one)
  by_move (flies pages now until) none = refl
  by_move (lands page) none = let one = ap one_if (no_completion page) in omega (arith, one)
  by_move (fails pages) none = refl
  by_move (gives_back page absorbed) none = absurd (true≢false none)

  by_parts : (write : Option Write) (flight : Option Flight) → of_part false (λ (f : Flight). is_return f.move) flight ≡ false
      → times is (listed (event_by write flight)) ≡ 0
  by_parts None None none = refl
  by_parts None (Some flight) none = by_move flight.move none
  by_parts (Some write) flight none = by_fresh write.fresh
    where
      by_fresh : (b : Bool) → times is (listed (cond b (Some (Dirty write.page)) None)) ≡ 0
      by_fresh true = let one = ap one_if (no_dirtying write.page) in omega (arith, one)
      by_fresh false = refl

  times_front : (part : Option Event) (older : List Event) → times is (listed part) ≡ 0 → times is (listed part ++ older) ≡ times is older
  times_front None older none = refl
  times_front (Some event) older none = omega (arith, none)

  none_told : (es : List Told) (older : List Event) → Each TellsNoFailure es → times is (onto event_in es older) ≡ times is older
  none_told [] older each = refl
  none_told (e ∷ es) older each =
      none_told es (event_in e ++ older) each.1 ∙ times_front (event_of e) older (by_parts (effect e).write (effect e).flight each.0.1)

  pub none_given_back : (trace : Trace) → NeverFails trace → (moves : ℕ) → all_times trace.cpus is (deeds_told (state_at trace moves)) ≡ 0
  none_given_back trace never moves = total_nothing trace.cpus (λ i. times is (events_told [] (cpu_of i (state_at trace moves)).entries))
      (λ i.
      let c : Cpu = cpu_of i (state_at trace moves) in
      ap (times is) (told_events c.checks c.estimates [] c.entries) ∙ none_told (told (part_of c)) [] (never moves i))
