-- How a run ended, by where the sides of its CPUs stand.
use Rattle.std.proofs.Common.{◌≡◌, ◌≢◌, inl, inr, ⊎_elim, ◌⊎◌, ℕ, zero, suc, ◌<◌, ◌≤◌, Bool, true, false, ◌==◌, if◌then◌else◌, List, [], ◌∷◌, length, map, drop, get_or, slice_get, Option, Some, None, refl, sym, ap, ◌∙◌, subst, arith, eq-eqb, ne_eqb}
use Rattle.std.proofs.lemmas.Bool.{lt-ltb}
use Rattle.std.specs.List.{count_by}
use Rattle.std.proofs.lemmas.List.Sums.{sum_by-cons}
use Rattle.wbt_flusher.specs.Plans.{IsPlanOf}
use Rattle.wbt_run_worker.proofs.Common.{phase_by, shown_by, Phase, Failed, CpuRecord, HasRisenBy, Each, is_fault, CpuJournal, MOST_PAGE_STEPS, HasNoPageSteps, setting, FlusherLine, Trace, Kit, Seats, IsPost, AnyOf, AreApart, Seen, Team, failed_in, faults_in, flusher_at, seen, team_of, record_is, Shown, ShownFlusher, none_shown}
use Rattle.wbt_flusher.specs.declared.work.Phase.TheVariants.{Idle, Scanning, Flying, Returning}
use Rattle.wbt_kit.proofs.Common.{MOST_FAULTS}
use Rattle.wbt_journal.specs.Flights as flights
use Rattle.wbt_journal.specs.Told.{told as told_by}
use Rattle.wbt_run_worker.specs.declared.side.CpuSide.{CpuSide}
use Rattle.wbt_run_worker.specs.declared.side.End.{End}
use Rattle.wbt_run_worker.specs.declared.side.End.TheVariants.{Ended, Halted, Faulted, Spent, Refused, Stopped}
use Rattle.wbt_run_worker.specs.declared.side.Post.{Post}
use Rattle.wbt_run_worker.specs.declared.side.Stand.TheVariants.{Out}
use Rattle.wbt_run_laws.specs.Phases.{is_failed}
use Rattle.wbt_run_laws.specs.Worked.{NoneFailed, SomeFailed, SomeSpent}
use Rattle.wbt_run_drain.specs.Ends.{Any, EndsSo, GoesOn as PostGoesOn, HasEnded, HaveEnded, IsOut, NoneEnds, SomeEnds}
use Rattle.wbt_run_drain.specs.Standing.{AreStanding, EndsBy, HasFailed, OutBy, SideStands}
use Rattle.wbt_run_drain.specs.Teams.{faults_by_all, faults_told, logs_of, posts_of, shown_at, teams_of}
use Rattle.wbt_run_first.proofs.Lists.{made_at}

-- ---- places of a list

module _ {A : Type 0} where
  pub record Stands (xs : List A) (k : ℕ) : Type 0 where
    pub it : A
    pub is : (d : A) → get_or xs k d ≡ it

  pub stands : (xs : List A) (k : ℕ) → k < length xs → Stands xs k
  stands [] k less = absurd (omega arith)
  stands (x ∷ xs) zero less = record { it = x; is = λ d. refl }
  stands (x ∷ xs) (suc k) less = let rest = stands xs k (omega arith) in record { it = rest.it; is = rest.is }

  pub record Found (P : A → Type 0) (xs : List A) : Type 0 where
    pub place : ℕ
    pub less : place < length xs
    pub it : A
    pub is : (d : A) → get_or xs place d ≡ it
    pub such : P it

  pub found : (P : A → Type 0) (xs : List A) → Any P xs → Found P xs
  found P [] any = absurd any
  found P (x ∷ xs) any = ⊎_elim
      (λ (one : P x). record { place = 0; less = omega arith; it = x; is = λ d. refl; such = one })
      (λ (more : Any P xs). let rest = found P xs more in record { place = suc rest.place; less = omega (arith, rest.less); it = rest.it; is = rest.is; such = rest.such })
      any

  pub any_at : (P : A → Type 0) (xs : List A) (k : ℕ) (x : A) → k < length xs → ((d : A) → get_or xs k d ≡ x) → P x → Any P xs
  any_at P [] k x less is one = absurd (omega arith)
  any_at P (y ∷ xs) zero x less is one = inl (subst P (sym (is y)) one)
  any_at P (y ∷ xs) (suc k) x less is one = inr (any_at P xs k x (omega arith) is one)

  pub each_of : (P : A → Type 0) (xs : List A) → ((k : ℕ) (x : A) → k < length xs → ((d : A) → get_or xs k d ≡ x) → P x) → Each P xs
  each_of P [] all = tt
  each_of P (x ∷ xs) all = (all 0 x (omega arith) (λ d. refl), each_of P xs (λ k y less is. all (suc k) y (omega arith) is))

  pub each_in : (P : A → Type 0) (xs : List A) (k : ℕ) (x : A) → k < length xs → ((d : A) → get_or xs k d ≡ x) → Each P xs → P x
  each_in P [] k x less is all = absurd (omega arith)
  each_in P (y ∷ xs) zero x less is all = subst P (is y) all.0
  each_in P (y ∷ xs) (suc k) x less is all = each_in P xs k x (omega arith) is all.1

-- ---- phases of flushers

none_emptied : (pages : List ℕ) → is_failed (flights.emptied pages) ≡ false
none_emptied [] = refl
none_emptied (page ∷ pages) = refl

none_returned : (pages : List ℕ) → is_failed (flights.returned pages) ≡ false
none_returned [] = refl
none_returned (page ∷ pages) = refl

not_failed : (batch : List ℕ) (phase : Phase) → (phase ≡ Failed → ⊥) → is_failed (phase_by batch phase) ≡ false
not_failed batch (Idle until kept) not = refl
not_failed batch (Scanning scan) not = refl
not_failed batch (Flying flight) not = none_emptied (drop flight.landed batch)
not_failed batch (Returning giving) not = none_returned (drop giving.returned batch)
not_failed batch Failed not = absurd (not refl)

by_both : (here : Bool) (one other : ShownFlusher) → is_failed one.told.phase ≡ false → is_failed other.told.phase ≡ false → is_failed (if here then one else other).told.phase ≡ false
by_both true one other a b = a
by_both false one other a b = b

none_failed_in : (posts : List Seen) (flusher : ℕ) → (AnyOf (λ (p : Seen). p.work.phase ≡ Failed) posts → ⊥) → is_failed (flusher_at posts flusher).told.phase ≡ false
none_failed_in [] flusher none = refl
none_failed_in (p ∷ posts) flusher none =
    by_both (flusher == p.plan.flusher) (shown_by p.work) (flusher_at posts flusher)
    (not_failed p.work.batch.items p.work.phase (λ is. none (inl is))) (none_failed_in posts flusher (λ more. none (inr more)))

-- one that has failed, with a number of its own
record FailedOne (lines : List FlusherLine) (posts : List Seen) : Type 0 where
  flusher : ℕ
  there : flusher < length lines
  failed_there : is_failed (flusher_at posts flusher).told.phase ≡ true
  among : AnyOf (λ (p : Seen). p.plan.flusher ≡ flusher) posts

line_there : (lines : List FlusherLine) (k : ℕ) (line : FlusherLine) → slice_get lines k ≡ Some line → k < length lines
line_there [] k line is = absurd (let e : None ≡ Some line = is in cc)
line_there (x ∷ lines) zero line is = omega arith
line_there (x ∷ lines) (suc k) line is = let rest = line_there lines k line is in omega arith

other_one : (flusher : ℕ) (p : Seen) (posts : List Seen) → Each (λ (q : Seen). q.plan.flusher ≢ p.plan.flusher) posts → AnyOf (λ (q : Seen). q.plan.flusher ≡ flusher) posts → flusher ≢ p.plan.flusher
other_one flusher p [] apart among = absurd among
other_one flusher p (q ∷ posts) apart among = ⊎_elim (λ (is : q.plan.flusher ≡ flusher). λ same. apart.0 (is ∙ same)) (λ more. other_one flusher p posts apart.1 more) among

failed_one : (trace : Trace) (posts : List Seen) → Each (λ (p : Seen). IsPlanOf trace p.plan) posts → AreApart posts → AnyOf HasFailed posts → FailedOne trace.flushers posts
failed_one trace [] its apart any = absurd any
failed_one trace (p ∷ posts) its apart any = ⊎_elim
    (λ (one : HasFailed p). record {
      flusher = p.plan.flusher;
      there = line_there trace.flushers p.plan.flusher (record { device = p.plan.device; cpu = p.plan.cpu }) its.0.line;
      failed_there = ap (λ (b : Bool). is_failed (if b then shown_by p.work else flusher_at posts p.plan.flusher).told.phase) (eq-eqb p.plan.flusher p.plan.flusher refl)
          ∙ ap (λ (f : Phase). is_failed (phase_by p.work.batch.items f)) one.failed;
      among = inl refl;
    })
    (λ (more : AnyOf HasFailed posts).
    let rest = failed_one trace posts its.1 apart.1 more in
    record {
      flusher = rest.flusher;
      there = rest.there;
      failed_there = ap (λ (b : Bool). is_failed (if b then shown_by p.work else flusher_at posts rest.flusher).told.phase) (ne_eqb rest.flusher p.plan.flusher (other_one rest.flusher p posts apart.0 rest.among)) ∙ rest.failed_there;
      among = inr rest.among;
    })
    any

-- with the eighth of its batches that its disk failed to write
eighth_in : (posts : List Seen) → AnyOf HasFailed posts → MOST_FAULTS ≤ failed_in posts
eighth_in [] any = absurd any
eighth_in (p ∷ posts) any =
    let sum = sum_by-cons (λ (q : Seen). q.work.faults) p posts in
    ⊎_elim (λ (one : HasFailed p). omega (arith, sum, one.eighth)) (λ more. let rest = eighth_in posts more in omega (arith, sum, rest)) any

-- disks count as many faults as their flushers failures, and so many together
counted_in : (posts : List Seen) → Each (λ (p : Seen). HasRisenBy p.work.faults 0 p.faults) posts → HasRisenBy (failed_in posts) 0 (faults_in posts)
counted_in [] each = omega arith
counted_in (p ∷ posts) each =
    let failures = sum_by-cons (λ (q : Seen). q.work.faults) p posts in
    let faults = sum_by-cons (λ (q : Seen). q.faults) p posts in
    let rest = counted_in posts each.1 in
    omega (arith, failures, faults, each.0, rest)

posts_each : (P Q : Seen → Type 0) → ((p : Seen) → P p → Q p) → (posts : List Seen) → Each P posts → Each Q posts
posts_each P Q h [] all = tt
posts_each P Q h (p ∷ posts) all = (h p all.0, posts_each P Q h posts all.1)

-- ---- posts

module _ {D : Type 0} (said : ℕ → ℕ → Bool → Type 0) (written : D → Option ℕ) (faults : D → ℕ) (cpu : ℕ) (kit : Kit) (seats : Seats) where
  abbrev HasCause : Post D → Type 0
  HasCause post = (end : End) → post.stand ≡ Out end → OutBy said cpu kit seats end (seen written faults post)

  outs_failed : (posts : List (Post D)) → Each HasCause posts → Any (IsOut Faulted) posts → AnyOf HasFailed (posts_of written faults posts)
  outs_failed [] each any = absurd any
  outs_failed (post ∷ posts) each any = ⊎_elim (λ (one : IsOut Faulted post). inl (each.0 Faulted one)) (λ more. inr (outs_failed posts each.1 more)) any

  outs_spent : (posts : List (Post D)) → Each HasCause posts → Any (IsOut Spent) posts → HasNoPageSteps (setting kit.throttle.layout) cpu seats.cpu
  outs_spent [] each any = absurd any
  outs_spent (post ∷ posts) each any = ⊎_elim (λ (one : IsOut Spent post). each.0 Spent one) (λ more. outs_spent posts each.1 more) any

  -- none is out for a cause
  goes_by : (post : Post D) → HasCause post → ((end : End) → post.stand ≡ Out end → (end ≡ Ended) ⊎ (end ≡ Stopped)) → PostGoesOn post
  goes_by post cause only end out = ⊎_elim
      (λ (is : end ≡ Ended). subst (λ (e : End). OutBy said cpu kit seats e (seen written faults post)) is (cause end out))
      (λ (is : end ≡ Stopped). subst (λ (e : End). OutBy said cpu kit seats e (seen written faults post)) is (cause end out)) (only end out)

-- ---- sides

map_there : {A B : Type 0} (f : A → B) (xs : List A) (k : ℕ) (x : A) → k < length xs → ((d : A) → get_or xs k d ≡ x) → (d : B) → get_or (map f xs) k d ≡ f x
map_there f xs k x less is d = made_at f xs k d x less ∙ ap f (is x)

module _ {D : Type 0} (told : ℕ → Type 0) (said : ℕ → ℕ → Bool → Type 0) (written : D → Option ℕ) (faults : D → ℕ) (trace : Trace) (kit : Kit) (sides : List (CpuSide D))
    (seats : Seats) (standing : AreStanding told said written faults trace kit sides seats) where
  abbrev pub last : ℕ → Shown
  last = standing.told_all.last

  -- the side of a CPU
  pub record SideAt (cpu : ℕ) : Type 0 where
    pub side : CpuSide D
    pub is : (d : CpuSide D) → get_or sides cpu d ≡ side
    pub stands_so : SideStands said written faults trace cpu kit side seats
    pub shows : last cpu ≡ shown_at trace cpu (team_of written faults side) seats

  pub in_sides : (cpu : ℕ) → cpu < trace.cpus → cpu < length sides
  in_sides cpu less = subst (λ (n : ℕ). cpu < n) (sym standing.many) less

  pub side_at : (cpu : ℕ) → cpu < trace.cpus → SideAt cpu
  side_at cpu less =
      let place = stands sides cpu (in_sides cpu less) in
      record {
        side = place.it;
        is = place.is;
        stands_so = subst (λ (s : CpuSide D). SideStands said written faults trace cpu kit s seats) (place.is place.it) (standing.each cpu place.it less);
        shows = standing.told_all.shows cpu (team_of written faults place.it) less
            ∙ ap (λ (t : Team). shown_at trace cpu t seats) (map_there (λ (side : CpuSide D). team_of written faults side) sides cpu place.it (in_sides cpu less) place.is (team_of written faults place.it));
      }

  -- one that is found
  pub found_at : (P : CpuSide D → Type 0) → (f : Found P sides) → SideStands said written faults trace f.place kit f.it seats
  found_at P f = subst (λ (s : CpuSide D). SideStands said written faults trace f.place kit s seats) (f.is f.it) (standing.each f.place f.it (subst (λ (n : ℕ). f.place < n) standing.many f.less))

  pub found_cpu : (P : CpuSide D → Type 0) → (f : Found P sides) → f.place < trace.cpus
  found_cpu P f = subst (λ (n : ℕ). f.place < n) standing.many f.less

  found_shows : (P : CpuSide D → Type 0) → (f : Found P sides) → last f.place ≡ shown_at trace f.place (team_of written faults f.it) seats
  found_shows P f = standing.told_all.shows f.place (team_of written faults f.it) (found_cpu P f)
      ∙ ap (λ (t : Team). shown_at trace f.place t seats) (map_there (λ (side : CpuSide D). team_of written faults side) sides f.place f.it f.less f.is (team_of written faults f.it))

  flusher_there : (cpu flusher : ℕ) (team : Team) → last cpu ≡ shown_at trace cpu team seats → flusher < length trace.flushers → (last cpu).flushers flusher ≡ flusher_at team.posts flusher
  flusher_there cpu flusher team shows less =
      ap (λ (s : Shown). s.flushers flusher) shows ∙ ap (λ (b : Bool). if b then flusher_at team.posts flusher else none_shown) (lt-ltb flusher (length trace.flushers) less)

  -- ---- faults

  has_failed : (cpu : ℕ) (side : CpuSide D) → SideStands said written faults trace cpu kit side seats → EndsSo Faulted side → AnyOf HasFailed (posts_of written faults side.posts.items)
  has_failed cpu side at so = ⊎_elim
      (λ (is : side.end ≡ Faulted). subst (λ (e : End). EndsBy said written faults trace cpu kit e side seats) is at.ends)
      (λ (out : Any (IsOut Faulted) side.posts.items). outs_failed said written faults cpu kit seats side.posts.items at.outs out) so

  pub some_failed : SomeEnds Faulted sides → SomeFailed trace last
  some_failed some =
      let f = found (EndsSo Faulted) sides some in
      let at = found_at (EndsSo Faulted) f in
      let posts = posts_of written faults f.it.posts.items in
      let one = failed_one trace posts (posts_each (IsPost trace f.place kit seats.est) (λ (p : Seen). IsPlanOf trace p.plan) (λ p its. its.its.plan_is) posts at.posted.each) at.posted.apart (has_failed f.place f.it at f.such) in
      record {
        cpu = f.place;
        flusher = one.flusher;
        cpu_is = found_cpu (EndsSo Faulted) f;
        flusher_is = one.there;
        failed = ap (λ (f : ShownFlusher). is_failed f.told.phase) (flusher_there f.place one.flusher (team_of written faults f.it) (found_shows (EndsSo Faulted) f) one.there) ∙ one.failed_there;
      }

  -- what is told of a side's disks
  its_faults : (cpu : ℕ) (side : CpuSide D) → SideStands said written faults trace cpu kit side seats → HasRisenBy (count_by is_fault (told_by side.log)) 0 (faults_in (posts_of written faults side.posts.items))
  its_faults cpu side at = subst (λ (n : ℕ). HasRisenBy n 0 (faults_in (posts_of written faults side.posts.items))) at.told.faults (counted_in (posts_of written faults side.posts.items) at.told.each)

  pub eight_told : SomeEnds Faulted sides → MOST_FAULTS ≤ faults_told (logs_of sides)
  eight_told some =
      let f = found (EndsSo Faulted) sides some in
      let at = found_at (EndsSo Faulted) f in
      let failures = eighth_in (posts_of written faults f.it.posts.items) (has_failed f.place f.it at f.such) in
      let all = part_of_all sides f.place f.it f.less f.is in
      omega (arith, failures, at.told.faults, all)
    where
      part_of_all : (xs : List (CpuSide D)) (k : ℕ) (x : CpuSide D) → k < length xs → ((d : CpuSide D) → get_or xs k d ≡ x) → count_by is_fault (told_by x.log) ≤ faults_told (logs_of xs)
      part_of_all [] k x less is = absurd (omega arith)
      part_of_all (y ∷ xs) zero x less is =
          let sum = sum_by-cons (λ (log : CpuJournal). count_by is_fault (told_by log)) y.log (logs_of xs) in
          let same : count_by is_fault (told_by y.log) ≡ count_by is_fault (told_by x.log) = ap (λ (s : CpuSide D). count_by is_fault (told_by s.log)) (is y) in
          omega (arith, sum, same)
      part_of_all (y ∷ xs) (suc k) x less is =
          let sum = sum_by-cons (λ (log : CpuJournal). count_by is_fault (told_by log)) y.log (logs_of xs) in
          let rest = part_of_all xs k x (omega arith) is in
          omega (arith, sum, rest)

  pub all_faults : HasRisenBy (faults_told (logs_of sides)) 0 (faults_by_all (teams_of written faults sides))
  all_faults = summed sides (λ k x less is. its_faults k x (subst (λ (s : CpuSide D). SideStands said written faults trace k kit s seats) (is x) (standing.each k x (subst (λ (n : ℕ). k < n) standing.many less))))
    where
      summed : (xs : List (CpuSide D))
          → ((k : ℕ) (x : CpuSide D) → k < length xs → ((d : CpuSide D) → get_or xs k d ≡ x) → HasRisenBy (count_by is_fault (told_by x.log)) 0 (faults_in (posts_of written faults x.posts.items)))
          → HasRisenBy (faults_told (logs_of xs)) 0 (faults_by_all (teams_of written faults xs))
      summed [] each = omega arith
      summed (x ∷ xs) each =
          let told_sum = sum_by-cons (λ (log : CpuJournal). count_by is_fault (told_by log)) x.log (logs_of xs) in
          let counted_sum = sum_by-cons (λ (team : Team). faults_in team.posts) (team_of written faults x) (teams_of written faults xs) in
          let here = each 0 x (omega arith) (λ d. refl) in
          let rest = summed xs (λ k y less is. each (suc k) y (omega arith) is) in
          omega (arith, told_sum, counted_sum, here, rest)

  pub none_failed : NoneEnds Faulted sides → NoneFailed trace last
  none_failed none cpu flusher less there =
      let at = side_at cpu less in
      ap (λ (f : ShownFlusher). is_failed f.told.phase) (flusher_there cpu flusher (team_of written faults at.side) at.shows there)
      ∙ none_failed_in (posts_of written faults at.side.posts.items) flusher
      (λ any. none (any_at (EndsSo Faulted) sides cpu at.side (in_sides cpu less) at.is (at.stands_so.failed any)))

  -- ---- page steps

  no_page_steps : (cpu : ℕ) (side : CpuSide D) → SideStands said written faults trace cpu kit side seats → EndsSo Spent side → HasNoPageSteps (setting kit.throttle.layout) cpu seats.cpu
  no_page_steps cpu side at so = ⊎_elim
      (λ (is : side.end ≡ Spent). subst (λ (e : End). EndsBy said written faults trace cpu kit e side seats) is at.ends)
      (λ (out : Any (IsOut Spent) side.posts.items). outs_spent said written faults cpu kit seats side.posts.items at.outs out) so

  pub some_spent : (setting kit.throttle.layout).page_steps ≡ MOST_PAGE_STEPS → SomeEnds Spent sides → SomeSpent trace last
  some_spent most some =
      let f = found (EndsSo Spent) sides some in
      let none = no_page_steps f.place f.it (found_at (EndsSo Spent) f) f.such in
      record {
        cpu = f.place;
        cpu_is = found_cpu (EndsSo Spent) f;
        spent =
            let held = ap (λ (s : Shown). s.held) (found_shows (EndsSo Spent) f) ∙ record_is seats.cpu.cpus f.place none.0 none.1 in
            let steps = ap (λ (r : CpuRecord). r.page_steps) held in
            let all = none.2 in
            omega arith;
      }

  -- ---- all have ended

  pub have_ended : NoneEnds Halted sides → NoneEnds Stopped sides → NoneEnds Spent sides → NoneEnds Faulted sides → NoneEnds Refused sides → HaveEnded sides
  have_ended halted stopped spent faulted refused = each_of HasEnded sides (λ k side less is.
      let at = subst (λ (s : CpuSide D). SideStands said written faults trace k kit s seats) (is side) (standing.each k side (subst (λ (n : ℕ). k < n) standing.many less)) in
      let no = λ (end : End) (none : NoneEnds end sides) (so : EndsSo end side). none (any_at (EndsSo end) sides k side less is so) in
      record {
        ended = end_is side.end side (no Halted halted) (no Stopped stopped) (no Spent spent) (no Faulted faulted) (no Refused refused) refl;
        posts = posts_go k side.posts.items at.outs (λ end any. no_out k side halted stopped spent faulted refused less is end any);
      })
    where
      end_is : (end : End) (side : CpuSide D) → (EndsSo Halted side → ⊥) → (EndsSo Stopped side → ⊥) → (EndsSo Spent side → ⊥) → (EndsSo Faulted side → ⊥) → (EndsSo Refused side → ⊥)
          → side.end ≡ end → side.end ≡ Ended
      end_is Ended side h t s f r is = is
      end_is Halted side h t s f r is = absurd (h (inl is))
      end_is Stopped side h t s f r is = absurd (t (inl is))
      end_is Spent side h t s f r is = absurd (s (inl is))
      end_is Faulted side h t s f r is = absurd (f (inl is))
      end_is Refused side h t s f r is = absurd (r (inl is))

      no_out : (k : ℕ) (side : CpuSide D) → NoneEnds Halted sides → NoneEnds Stopped sides → NoneEnds Spent sides → NoneEnds Faulted sides → NoneEnds Refused sides → k < length sides
          → ((d : CpuSide D) → get_or sides k d ≡ side) → (end : End) → Any (IsOut end) side.posts.items → end ≡ Ended
      no_out k side h t s f r less is Ended any = refl
      no_out k side h t s f r less is Halted any = absurd (h (any_at (EndsSo Halted) sides k side less is (inr any)))
      no_out k side h t s f r less is Stopped any = absurd (t (any_at (EndsSo Stopped) sides k side less is (inr any)))
      no_out k side h t s f r less is Spent any = absurd (s (any_at (EndsSo Spent) sides k side less is (inr any)))
      no_out k side h t s f r less is Faulted any = absurd (f (any_at (EndsSo Faulted) sides k side less is (inr any)))
      no_out k side h t s f r less is Refused any = absurd (r (any_at (EndsSo Refused) sides k side less is (inr any)))

      posts_go : (cpu : ℕ) (posts : List (Post D)) → Each (HasCause said written faults cpu kit seats) posts → ((end : End) → Any (IsOut end) posts → end ≡ Ended) → Each PostGoesOn posts
      posts_go cpu [] causes only = tt
      posts_go cpu (post ∷ posts) causes only = (
        goes_by said written faults cpu kit seats post causes.0 (λ end out. inl (only end (inl out))),
        posts_go cpu posts causes.1 (λ end any. only end (inr any)),
      )
