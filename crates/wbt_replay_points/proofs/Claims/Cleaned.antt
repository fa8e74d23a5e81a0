-- Each page's ledger by what the lines of the journal tell, at each moment of a run that is followed.
use Rattle.std.proofs.Common.{◌≡◌, ℕ, Bool, [], refl, ◌∙◌, ap, arith}
use Rattle.wbt_replay_order.proofs.Common.{Trace, total_same, one_if, Book, all_times, times, dirties, Event, IsSetting, deeds_of, State, cpu_of, deeds_told, AreCleaned, events_told, IsFollowed, setting_of, NeverFails, state_at}
use Rattle.wbt_book.specs.Ledger.{claims, completes, redirties, absorbs}
use Rattle.wbt_grant.specs.State as throttle
use Rattle.wbt_replay_points.proofs.Claims.Counted.{state_of, rule_at}
use Rattle.wbt_replay_points.proofs.Claims.Unfailing.{none_given_back}

cpus_are : (trace : Trace) → (setting_of trace).cpus ≡ trace.cpus
unfolding setting_of
cpus_are trace = refl

module _ (trace : Trace) (ok : IsSetting (setting_of trace)) (followed : IsFollowed trace) (never : NeverFails trace) where
  -- over all CPUs, the records have an event as often as the journal tells it
  told_times : (moves : ℕ) (is : Event → Bool)
      → all_times (setting_of trace).cpus is (λ i. deeds_of ((state_of trace followed moves).cpu i)) ≡ all_times trace.cpus is (deeds_told (state_at trace moves))
  told_times moves is =
      let t : throttle.State = state_of trace followed moves in
      let s : State = state_at trace moves in
      ap (λ (n : ℕ). all_times n is (λ i. deeds_of (t.cpu i))) (cpus_are trace)
      ∙ total_same trace.cpus (λ i. times is (t.cpu i).events) (λ i. times is (events_told [] (cpu_of i s).entries))
      (λ i less. ap (times is) ((followed.made moves).1.shows.events i less))

  pub cleaned : AreCleaned trace
  cleaned moves p =
      let s : State = state_at trace moves in
      let t : throttle.State = state_of trace followed moves in
      let shows = (followed.made moves).1.shows in
      let ledger = (rule_at trace ok followed moves).ledger.each_page p in
      let dirty : one_if (t.book p).dirty ≡ one_if (s.book p).dirty = ap (λ (book : Book). one_if (book p).dirty) shows.book in
      let writeback : one_if (t.book p).writeback ≡ one_if (s.book p).writeback = ap (λ (book : Book). one_if (book p).writeback) shows.book in
      let told_redirtied = told_times moves (redirties p) in
      let redirtied = none_given_back (redirties p) (λ q. refl) (λ q. refl) (λ q. refl) trace never moves in
      let told_absorbed = told_times moves (absorbs p) in
      let absorbed = none_given_back (absorbs p) (λ q. refl) (λ q. refl) (λ q. refl) trace never moves in
      record {
        dirtyings = omega (arith, ledger.dirtyings, told_times moves (dirties p), told_times moves (claims p), told_redirtied, redirtied, dirty);
        claimings =
            omega (arith, ledger.claimings, told_times moves (claims p), told_times moves (completes p), told_redirtied, redirtied, told_absorbed, absorbed, writeback);
      }
