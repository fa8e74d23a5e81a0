-- Workers that go on, one time after another.
use Rattle.std.proofs.Common.{◌≡◌, ℕ, ◌<◌, Bool, true, false, cond, List, length, get_or, Option, Some, None, refl, sym, ap, subst, arith}
use Rattle.wbt_run_worker.proofs.Common.{TableId, Each, Trace, Kit, Seats, Goes, HasRun, Team, HasSpoken}
use Rattle.wbt_run_worker.specs.Answers.{ComesOut}
use Rattle.wbt_run_worker.specs.Course.{end_of}
use Rattle.wbt_run_worker.specs.declared.side.End.{End}
use Rattle.wbt_run_worker.specs.declared.side.End.TheVariants.{Ended, Halted, Faulted, Spent, Refused, Stopped}
use Rattle.wbt_run_worker.specs.declared.worker.Worker.{Worker}
use Rattle.wbt_run_worker.proofs.Coursing.{run_on}
use Rattle.wbt_run_worker.proofs.Lists.{each_at}
use Rattle.wbt_run_worker.proofs.Going.{as_named, goes_more, own_side, stands_more}
use Rattle.wbt_run_worker.proofs.Posts.{faulted_since}
use Rattle.wbt_run_worker.proofs.Speaking.{spoke_still, spoken_more}
use Rattle.wbt_run_beside.specs.Beside.{AllDid, AllHaveGone, AllHaveWorked, AllMay, AllMayWork, HasEnded, HasGone, HasGoneOn, HasWorked, MayGoOn, cpu_in, stance_in, team_in, trace_in}

-- why it ended, since an earlier moment too
module _ (told : ℕ → Type 0) (said : ℕ → ℕ → Bool → Type 0) (trace : Trace) (cpu : ℕ) (kit : Kit) (a b c : Team) (s t u : Seats)
    (before : Goes told trace cpu kit a b s t) where
  comes_more : (end : Option End) → ComesOut said trace cpu kit end b c u → ComesOut said trace cpu kit end a c u
  comes_more None comes = comes
  comes_more (Some Ended) comes = comes
  comes_more (Some Halted) comes = comes
  comes_more (Some Faulted) comes = faulted_since a.posts b.posts c.posts before.went.still comes
  comes_more (Some Spent) comes = comes
  comes_more (Some Refused) comes = comes
  comes_more (Some Stopped) comes = comes

in_turn_or_not : {A : Type 0} → (b : Bool) → (b ≡ true → A) → (b ≡ false → A) → A
in_turn_or_not true one other = one refl
in_turn_or_not false one other = other refl

module _ {D : Type 0} (signals : TableId) (told : ℕ → Type 0) (said : ℕ → ℕ → Bool → Type 0) (written : D → Option ℕ) (faults : D → ℕ) (kit : Kit) where
  not_ended : (b : Worker D) → b.in_turn ≡ true → end_of b ≡ None
  not_ended b served = ap (λ (in_turn : Bool). cond in_turn None (Some b.side.end)) served

  may_go : (a b : Worker D) → HasGone signals told said written faults kit a b → MayGoOn signals written faults kit b
  may_go a b gone served = record {
    side = own_side (trace_in a) (cpu_in a) kit (team_in written faults b) b.seats
        (subst (λ (end : Option End). ComesOut said (trace_in a) (cpu_in a) kit end (team_in written faults a) (team_in written faults b) b.seats) (not_ended b served) gone.comes);
    voice = (spoke_still signals b.writes a.voice b.voice (subst (λ (end : Option End). HasSpoken signals b.writes end a.voice b.voice) (not_ended b served) gone.speaks)).may;
  }

  both_gone : (a b c : Worker D) → b.in_turn ≡ true → HasGone signals told said written faults kit a b → HasGone signals told said written faults kit b c
      → HasGone signals told said written faults kit a c
  both_gone a b c served p q =
      let A = team_in written faults a in
      let B = team_in written faults b in
      let C = team_in written faults c in
      record {
        goes = goes_more told (trace_in a) (cpu_in a) kit A B C a.seats b.seats c.seats p.goes q.goes;
        stands = stands_more a.side.posts.items b.side.posts.items c.side.posts.items p.stands q.stands;
        comes = comes_more told said (trace_in a) (cpu_in a) kit A B C a.seats b.seats c.seats p.goes (end_of c)
            (as_named (λ (x : Trace) (y : ℕ). ComesOut said x y kit (end_of c) B C c.seats) (trace_in a) (cpu_in a) kit B b.seats p.goes.stands q.comes);
        run = run_on told said kit (end_of c) (stance_in written faults a) (stance_in written faults b) (stance_in written faults c)
            (subst (λ (end : Option End). HasRun told said kit end (stance_in written faults a) (stance_in written faults b)) (not_ended b served) p.run) q.run;
        speaks = spoken_more signals b.writes c.writes (end_of c) a.voice b.voice c.voice
            (subst (λ (end : Option End). HasSpoken signals b.writes end a.voice b.voice) (not_ended b served) p.speaks) q.speaks;
      }

  goes_further : (a b c : Worker D) → HasGone signals told said written faults kit a b → HasGoneOn signals told said written faults kit b c → HasGone signals told said written faults kit a c
  goes_further a b c gone on = in_turn_or_not b.in_turn
      (λ served. both_gone a b c served gone (on.went served))
      (λ ended. subst (λ (w : Worker D). HasGone signals told said written faults kit a w) (sym (on.stays ended)) gone)

  -- one whose side has ended has worked
  worked : (a b : Worker D) → a.voice.signals ≡ signals → HasEnded b → HasGone signals told said written faults kit a b → HasWorked told said written faults kit a b
  worked a b its ended gone = let is : end_of b ≡ Some b.side.end = ap (λ (in_turn : Bool). cond in_turn None (Some b.side.end)) ended in record {
    goes = gone.goes;
    stands = gone.stands;
    ends = subst (λ (end : Option End). ComesOut said (trace_in a) (cpu_in a) kit end (team_in written faults a) (team_in written faults b) b.seats) is gone.comes;
    run = subst (λ (end : Option End). HasRun told said kit end (stance_in written faults a) (stance_in written faults b)) is gone.run;
    speaks = subst (λ (s : TableId). HasSpoken s b.writes (Some b.side.end) a.voice b.voice) (sym its)
        (subst (λ (end : Option End). HasSpoken signals b.writes end a.voice b.voice) is gone.speaks);
  }

  -- each may go on that is to be served, and has gone on since its first turn where it did
  pub all_may_go : (old mid : List (Worker D)) → length mid ≡ length old → AllHaveGone signals told said written faults kit old mid → AllMay (λ (worker : Worker D). MayGoOn signals written faults kit worker) mid
  all_may_go old mid many gone = λ n other less. may_go (get_or old n other) (get_or mid n other) (gone n other (omega (arith, many)))

  pub all_go_further : (old mid new : List (Worker D)) → length mid ≡ length old → AllHaveGone signals told said written faults kit old mid
      → AllDid (λ (before behind : Worker D). HasGoneOn signals told said written faults kit before behind) mid new → AllHaveGone signals told said written faults kit old new
  all_go_further old mid new many gone on = λ n other less.
      goes_further (get_or old n other) (get_or mid n other) (get_or new n other) (gone n other less) (on n other (omega (arith, many)))

  pub all_worked : (old new : List (Worker D)) → length new ≡ length old → ((n : ℕ) (other : Worker D) → n < length old → (get_or old n other).voice.signals ≡ signals)
      → ((n : ℕ) (other : Worker D) → n < length new → HasEnded (get_or new n other))
      → AllHaveGone signals told said written faults kit old new → AllHaveWorked told said written faults kit old new
  all_worked old new many its ended gone = λ n other less. worked (get_or old n other) (get_or new n other) (its n other less) (ended n other (omega (arith, many))) (gone n other less)

  pub their_signals : (workers : List (Worker D)) → AllMayWork signals written faults kit workers → (n : ℕ) (other : Worker D) → n < length workers
      → (get_or workers n other).voice.signals ≡ signals
  their_signals workers may n other less = (may n other less).voice.its

pub each_ended : {D : Type 0} (workers : List (Worker D)) → Each HasEnded workers → (n : ℕ) (other : Worker D) → n < length workers → HasEnded (get_or workers n other)
each_ended workers all n other less = each_at HasEnded workers n other less all
