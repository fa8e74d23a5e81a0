-- A search in the round that passes over CPUs without jobs finds what it would find: they have nothing to do.
use Rattle.std.proofs.Common.{◌≡◌, ℕ, zero, suc, ◌+◌, ◌-◌, ◌<◌, ◌≤◌, Bool, true, false, cond, ltb, List, [], ◌∷◌, length, None, refl, ◌∙◌, ap, subst, arith}
use Rattle.std.proofs.lemmas.Bool.{cond-true}
use Rattle.std.proofs.lemmas.Bool.Decides.{nat_tests}
use Rattle.wbt_replay_order.proofs.Common.{Trace, State, cpu_of, Actor, ReplayJob, Whose, Todo, first_cpu, actor_at, chance_by, chance_of, is_nothing, seek_job, todo_ahead, Facts, seek_actor, Sound, IsWhose}
use Rattle.wbt_replay_moves.specs.declared.state.Actor.TheVariants as who
use Rattle.wbt_replay_moves.specs.declared.state.Whose.TheVariants as whose
use Rattle.wbt_replay_order.specs.Kept.Round.{IsRound, CanPass, CanPassAll}
use Rattle.wbt_replay_order.specs.declared.chance.Ahead.{Ahead}
use Rattle.wbt_replay_order.specs.declared.chance.Ahead.TheVariants as ahead
use Rattle.wbt_replay_order.specs.declared.chance.Chance.TheVariants as chance
use Rattle.wbt_replay_order.proofs.Facts.Actors.{cpu_at}
use Rattle.wbt_replay_order.proofs.Facts.Jobs.{has_writer_job}
use Rattle.wbt_replay_order.proofs.Facts.Tasks.{some_tasks}
use Rattle.wbt_replay.proofs.Ordering.Seeking.{actor_miss, actor_none, job_none}

-- ---- a search passes over actors that can't do anything

module _ (s : State) where
  pub passed : (k tries left place : ℕ) → tries ≡ k + left → place + k ≤ length s.cpus
      → ((i : ℕ) → place ≤ i → i < place + k → is_nothing (chance_of (actor_at i s) s) ≡ true)
      → seek_actor s tries place ≡ seek_actor s left (place + k)
  passed zero tries left place is within nothing =
      ap (λ n. seek_actor s n place) (let e : tries ≡ left = omega (arith, is) in e) ∙ ap (seek_actor s left) (let e : place ≡ place + 0 = omega arith in e)
  passed (suc k) tries left place is within nothing =
      actor_miss s tries (k + left) place (omega (arith, is)) (nothing place (omega arith) (omega arith))
      ∙ ap (seek_actor s (k + left)) (cond-true (ltb (place + 1) (length s.cpus + 1)) (place + 1) 0 (grind (arith, nat_tests, within)))
      ∙ passed k (k + left) left (place + 1) refl (omega (arith, within)) (λ i from to. nothing i (omega (arith, from)) (omega (arith, to)))
      ∙ ap (seek_actor s left) (let e : place + 1 + k ≡ place + suc k = omega arith in e)

  -- to another place
  pub passed_to : (tries left place to : ℕ) → CanPass s place to → tries + place ≡ to + left → seek_actor s tries place ≡ seek_actor s left to
  passed_to tries left place to can is =
      let k : ℕ = to - place in
      let there : place + k ≡ to = omega (arith, can.after) in
      passed k tries left place (omega (arith, is, there)) (omega (arith, there, can.within)) (λ i from less. can.nothing i from (omega (arith, less, there)))
      ∙ ap (seek_actor s left) there

  -- past all that were to be tried
  pub passed_all : (tries place to : ℕ) → CanPass s place to → place + tries ≤ to → seek_actor s tries place ≡ None
  passed_all tries place to can most =
      passed tries tries 0 place (omega arith) (omega (arith, most, can.within)) (λ i from less. can.nothing i from (omega (arith, less, most)))
      ∙ actor_none s 0 (place + tries) refl

-- ---- a CPU without jobs has nothing to do

none_of : (todos : List Todo) → (1 ≤ length todos → ⊥) → todos ≡ []
none_of [] few = refl
none_of (t ∷ more) few = absurd (few (omega arith))

module _ (trace : Trace) (facts : Facts trace) (s : State) (sound : Sound trace s) (i : ℕ) (less : i < trace.cpus) (idle : (first_cpu trace i).jobs ≡ []) where
  none_there : length (first_cpu trace i).jobs ≡ 0
  none_there = ap (λ (l : List ReplayJob). length l) idle

  nobodys : (w : Whose) → IsWhose trace i w → ⊥
  nobodys (whose.Task task) on =
      let has = has_writer_job trace i (first_cpu trace i).tasks (some_tasks trace i task on) in omega (arith, has.less, none_there)
  nobodys (whose.Flusher flusher) on =
      let has = facts.flusher_job flusher on.there in
      let there = subst (λ (n : ℕ). has.0 < length (first_cpu trace n).jobs) on.cpu_is has.1 in omega (arith, there, none_there)

  no_todo : (cpu_of i s).todo ≡ []
  no_todo = let its = sound.holds.cpus.each i less in none_of (cpu_of i s).todo (λ some. nobodys (cpu_of i s).turn.whose (its.whose some))

  none_ahead : (b : Bool) → cond b ahead.Nothing (todo_ahead (cpu_of i s).todo) ≡ ahead.Nothing
  none_ahead true = refl
  none_ahead false = ap todo_ahead no_todo

  no_turn : (b : Bool) → cond b chance.Nothing (seek_job (cpu_of i s) s (length (cpu_of i s).jobs) (cpu_of i s).next) ≡ chance.Nothing
  no_turn true = refl
  no_turn false =
      job_none (cpu_of i s) s (length (cpu_of i s).jobs) (cpu_of i s).next (ap (λ (l : List ReplayJob). length l) ((sound.holds.cpus.each i less).jobs ∙ idle))

  pub nothing_at : is_nothing (chance_of (actor_at i s) s) ≡ true
  nothing_at =
      ap (λ (a : Actor). is_nothing (chance_of a s)) (cpu_at s i (omega (arith, less, sound.holds.cpus.many)))
      ∙ ap (λ (a : Ahead). is_nothing (chance_by a (who.Cpu i) s)) (none_ahead (cpu_of i s).stopped)
      ∙ ap is_nothing (no_turn (cpu_of i s).stopped)

-- So all that a round passes over can be passed.
pub can_pass : (trace : Trace) → Facts trace → (s : State) → Sound trace s → (round : List ℕ) → IsRound trace round → CanPassAll s round
can_pass trace facts s sound round is =
    let many = sound.holds.cpus.many in
    record {
      many = omega (arith, is.many, many);
      each = λ place less.
          let next = is.each place (omega (arith, less, many)) in
          record {
            after = next.after;
            within = omega (arith, next.within, many);
            nothing = λ i from to. nothing_at trace facts s sound i (omega (arith, to, next.within)) (next.idle i from to);
          };
    }
