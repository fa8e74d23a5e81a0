-- Sums over the sides of all CPUs, after a flusher's turn: what is owed, what was written, and what was told.
use Rattle.std.proofs.Common.{◌≡◌, ℕ, zero, suc, ◌+◌, ◌<◌, ◌==◌, if◌then◌else◌, eq-eqb, Bool, cond, List, [], ◌∷◌, ◌++◌, length, get_or, set, Option, Some, None, IfSome, refl, sym, ap, ◌∙◌, subst, arith}
use Rattle.std.specs.List.{count_by, sum_by}
use Rattle.std.proofs.lemmas.List.{get_or-map, map-set}
use Rattle.std.proofs.lemmas.List.Sums.{sum_by-append, sum_by-set}
use Rattle.wbt_run_worker.proofs.Common.{AreBacked, handed, owing, owing_total, shown_by, FlusherPlan, HasRisenBy, Grows, Each, is_fault, contexts, domains, NamesInOrder, Told, CpuJournal, Trace, Kit, Seats, Seen, Team, flusher_at, owed_by, owed_in, owed_total, owed_totals, team_of, written_by, IsTold, each_append, ShownFlusher, empty_log}
use Rattle.wbt_flusher.specs.Sights.{held_cpus}
use Rattle.wbt_journal.specs.Told.{told as told_by}
use Rattle.wbt_run_worker.specs.declared.round.JobOutcome.{JobOutcome}
use Rattle.wbt_run_worker.specs.declared.side.CpuSide.{CpuSide}
use Rattle.wbt_run_worker.proofs.Lists.{each_at, each_set}
use Rattle.wbt_run_worker.proofs.Posts.{chosen, counted_on, failed_set, grows_left, grows_right, written_set}
use Rattle.wbt_run_laws.proofs.Faulting.{faults_counted, own_faults}
use Rattle.wbt_run_drain.specs.Standing.{FaultsAreTold}
use Rattle.wbt_run_drain.specs.Teams.{handed_over, logs_of, posts_of, teams_of, written_by_all}
use Rattle.wbt_run_drain.proofs.Ready.{in_teams, team_is}
use Rattle.wbt_run_drain.proofs.Showing.{in_sides, teams_are}
use Rattle.wbt_run_drain.proofs.Taking.{TakesTurn, added, before, behind, behind_is, d, drained, is_seen, mine, noted, q, stands, there, went}
use Rattle.wbt_run_drain.proofs.Telling.{all_told}

-- ---- pages written

all_written_set : (by : Option ℕ) (xs : List Team) (k : ℕ) (x y : Team) → k < length xs → Grows by (written_by (get_or xs k x).posts) (written_by y.posts)
    → Grows by (written_by_all xs) (written_by_all (set xs k y))
all_written_set by [] k x y less grows = absurd (omega arith)
all_written_set by (z ∷ zs) zero x y less grows = grows_left by (written_by z.posts) (written_by y.posts) (written_by_all zs) grows
all_written_set by (z ∷ zs) (suc k) x y less grows =
    grows_right by (written_by_all zs) (written_by_all (set zs k y)) (written_by z.posts) (all_written_set by zs k x y (omega arith) grows)

-- where it was all that was told, it is so still
told_still : (n a b : ℕ) (old now : Option ℕ) → Grows (Some n) old now → IfSome old (λ total. total ≡ a) → b ≡ a + n → IfSome now (λ total. total ≡ b)
told_still n a b old None grows was more = tt
told_still n a b old (Some now) grows was more =
    let earlier : grows.1 ≡ a = subst (λ (o : Option ℕ). IfSome o (λ total. total ≡ a)) grows.3 was in
    let n_is : Some n ≡ Some grows.0 = grows.2 in
    let same : n ≡ grows.0 = cc in
    let sum = grows.4 in
    omega arith

module _ {D : Type 0} {told : ℕ → Type 0} {said : ℕ → ℕ → Bool → Type 0} {written : D → Option ℕ} {faults : D → ℕ} {trace : Trace} {kit : Kit} {sides : List (CpuSide D)}
    {c at : ℕ} {answer : JobOutcome} {side side' : CpuSide D} {seats seats' : Seats} (t : TakesTurn told said written faults trace kit sides c at answer side side' seats seats') where
  abbrev teams : List Team
  teams = teams_of written faults sides

  abbrev team : Team
  team = team_of written faults side

  abbrev team' : Team
  team' = team_of written faults side'

  abbrev sides' : List (CpuSide D)
  sides' = set sides c side'

  its_team : get_or teams c team ≡ team
  its_team = team_is t.standing c side t.cpu_there t.side_is

  in_them : c < length teams
  in_them = in_teams t.standing c side t.cpu_there t.side_is

  -- ---- what is owed

  owed_now : (domain : ℕ) → owed_in (behind t) domain + owing (d t).plan domain (d t).work ≡ owed_in (before t) domain + owing (d t).plan domain (q t).work
  owed_now domain =
      let sums = sum_by-set (owed_by domain) (before t) at (q t) (d t) (there t) in
      let was : owed_by domain (get_or (before t) at (d t)) ≡ owing (d t).plan domain (d t).work = ap (owed_by domain) (is_seen t) in
      let is : owed_by domain (q t) ≡ owing (d t).plan domain (q t).work = ap (λ (plan : FlusherPlan). owing plan domain (q t).work) t.turned.plan in
      omega arith

  total_now : (context : ℕ) → owed_totals (behind t) context + owing_total (d t).plan context (d t).work ≡ owed_totals (before t) context + owing_total (d t).plan context (q t).work
  total_now context =
      let sums = sum_by-set (owed_total context) (before t) at (q t) (d t) (there t) in
      let was : owed_total context (get_or (before t) at (d t)) ≡ owing_total (d t).plan context (d t).work = ap (owed_total context) (is_seen t) in
      let is : owed_total context (q t) ≡ owing_total (d t).plan context (q t).work = ap (λ (plan : FlusherPlan). owing_total plan context (q t).work) t.turned.plan in
      omega arith

  -- of all sides
  all_now : (F : List Seen → ℕ) → sum_by (λ (x : Team). F x.posts) (teams_of written faults sides') + F (before t) ≡ sum_by (λ (x : Team). F x.posts) teams + F (behind t)
  all_now F =
      let sums = sum_by-set (λ (x : Team). F x.posts) teams c team' team in_them in
      let are = ap (λ (all : List Team). sum_by (λ (x : Team). F x.posts) all) (teams_are t) in
      let was : F (get_or teams c team).posts ≡ F (before t) = ap (λ (x : Team). F x.posts) its_team in
      let is : F team'.posts ≡ F (behind t) = ap F (behind_is t) in
      omega arith

  pub backed_now : AreBacked (domains trace) (contexts trace) (λ domain. sum_by (λ (x : Team). owed_in x.posts domain) (teams_of written faults sides'))
      (λ context. sum_by (λ (x : Team). owed_totals x.posts context) (teams_of written faults sides')) seats'
  backed_now = record {
    counted = (went t).cpus.counted t.standing.backed.counted;
    rooms = λ domain less.
        let was = t.standing.backed.rooms domain less in
        let did = (went t).did.rooms domain (subst (λ (n : ℕ). domain < n) (sym (mine t).its.plan_is.domains_are) less) in
        let one = owed_now domain in
        let all = all_now (λ (posts : List Seen). owed_in posts domain) in
        let many : held_cpus seats'.cpu.cpus ≡ held_cpus seats.cpu.cpus = (went t).cpus.as_many in
        omega arith;
    totals = λ context less.
        let was = t.standing.backed.totals context less in
        let did = (went t).did.totals context (subst (λ (n : ℕ). context < n) (sym (ap length (mine t).its.plan_is.contexts)) less) in
        let one = total_now context in
        let all = all_now (λ (posts : List Seen). owed_totals posts context) in
        let many : held_cpus seats'.cpu.cpus ≡ held_cpus seats.cpu.cpus = (went t).cpus.as_many in
        omega arith;
  }

  -- ---- what was told

  names : NamesInOrder side.log
  names = subst NamesInOrder (get_or-map (λ (s : CpuSide D). s.log) sides c side empty_log (in_sides t) ∙ ap (λ (s : CpuSide D). s.log) t.side_is)
      (t.standing.told_all.together.cpus.each c t.cpu_there).names

  tells : told_by side'.log ≡ told_by side.log ++ added t
  tells = (went t).did.logged.tells names

  abbrev IsAllTold : (s : CpuSide D) → Type 0
  IsAllTold s = Each (IsTold told) (told_by s.log)

  pub moments_now : Each IsAllTold sides'
  moments_now = each_set IsAllTold sides c side' t.standing.moments (subst (λ (entries : List Told). Each (IsTold told) entries) (sym tells)
      (each_append (IsTold told) (told_by side.log) (added t) (subst IsAllTold t.side_is (each_at IsAllTold sides c side (in_sides t) t.standing.moments))
      (all_told told (drained t).moments (d t).plan.flusher (added t) (drained t).all_told (noted t).turn.of_flusher (went t).did.moments)))

  -- ---- faults told

  abbrev own_number : ℕ
  own_number = (d t).plan.flusher

  abbrev flusher_was : ShownFlusher
  flusher_was = if own_number == own_number then shown_by (d t).work else flusher_at (before t) own_number

  abbrev flusher_is : ShownFlusher
  flusher_is = if own_number == own_number then shown_by (q t).work else flusher_at (before t) own_number

  faults_now : (q t).work.faults ≡ (d t).work.faults + count_by is_fault (added t)
  faults_now =
      let counted = faults_counted own_number flusher_was.told flusher_is.told (added t) (noted t).turn.flew in
      let was_is : flusher_was.told.faults ≡ (d t).work.faults = ap (λ (f : ShownFlusher). f.told.faults) (chosen (own_number == own_number) (shown_by (d t).work) (flusher_at (before t) own_number) (eq-eqb own_number own_number refl)) in
      let is_is : flusher_is.told.faults ≡ (q t).work.faults = ap (λ (f : ShownFlusher). f.told.faults) (chosen (own_number == own_number) (shown_by (q t).work) (flusher_at (before t) own_number) (eq-eqb own_number own_number refl)) in
      let own = own_faults own_number (added t) (noted t).turn.of_flusher in
      omega (arith, counted, was_is, is_is, own)

  abbrev CountsFaults : (p : Seen) → Type 0
  CountsFaults p = HasRisenBy p.work.faults 0 p.faults

  pub faults_told_now : FaultsAreTold (posts_of written faults side'.posts.items) side'.log
  faults_told_now = subst (λ (posts : List Seen). FaultsAreTold posts side'.log) (sym (behind_is t)) (record {
    faults =
        let more = failed_set (count_by is_fault (added t)) (before t) at (d t) (q t) (there t) (faults_now ∙ ap (λ (p : Seen). p.work.faults + count_by is_fault (added t)) (sym (is_seen t))) in
        let was = (stands t).told.faults in
        let both = ap (count_by is_fault) tells in
        let all = sum_by-append (λ (e : Told). cond (is_fault e) 1 0) (told_by side.log) (added t) in
        omega (arith, more, was, both, all);
    each = each_set CountsFaults (before t) at (q t) (stands t).told.each
        (counted_on (d t).work.faults (q t).work.faults (d t).faults (q t).faults t.turned.counted t.turned.later
        (subst CountsFaults (is_seen t) (each_at CountsFaults (before t) at (d t) (there t) (stands t).told.each)));
  })

  -- ---- pages written

  abbrev pages : ℕ
  pages = sum_by handed (added t)

  abbrev handed_by : (log : CpuJournal) → ℕ
  handed_by log = sum_by handed (told_by log)

  grows : Grows (Some pages) (written_by_all teams) (written_by_all (teams_of written faults sides'))
  grows = subst (λ (all : List Team). Grows (Some pages) (written_by_all teams) (written_by_all all)) (sym (teams_are t))
      (all_written_set (Some pages) teams c team team' in_them
      (subst (λ (x : Team). Grows (Some pages) (written_by x.posts) (written_by team'.posts)) (sym its_team)
      (subst (λ (posts : List Seen). Grows (Some pages) (written_by (before t)) (written_by posts)) (sym (behind_is t))
      (written_set (Some pages) (before t) at (d t) (q t) (there t)
      (subst (λ (p : Seen). Grows (Some pages) p.written (q t).written) (sym (is_seen t)) (went t).did.pages)))))

  handed_now : handed_over (logs_of sides') ≡ handed_over (logs_of sides) + pages
  handed_now =
      let sums = sum_by-set handed_by (logs_of sides) c side'.log side.log (let long = long_logs sides in let less = in_sides t in omega arith) in
      let are = ap handed_over (map-set (λ (s : CpuSide D). s.log) sides c side') in
      let was : handed_by (get_or (logs_of sides) c side.log) ≡ handed_by side.log
      = ap handed_by (get_or-map (λ (s : CpuSide D). s.log) sides c side side.log (in_sides t) ∙ ap (λ (s : CpuSide D). s.log) t.side_is) in
      let is : handed_by side'.log ≡ handed_by side.log + pages = ap (sum_by handed) tells ∙ sum_by-append handed (told_by side.log) (added t) in
      omega arith
    where
      long_logs : (xs : List (CpuSide D)) → length (logs_of xs) ≡ length xs
      long_logs [] = refl
      long_logs (x ∷ xs) = let rest = long_logs xs in omega arith

  pub disks_now : IfSome (written_by_all (teams_of written faults sides')) (λ total. total ≡ handed_over (logs_of sides'))
  disks_now = told_still pages (handed_over (logs_of sides)) (handed_over (logs_of sides')) (written_by_all teams) (written_by_all (teams_of written faults sides')) grows
      t.standing.disks handed_now
