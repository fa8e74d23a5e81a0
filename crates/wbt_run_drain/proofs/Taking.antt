-- A flusher of one of all sides takes a turn: what it is to the side's flushers and to the seats.
use Rattle.std.proofs.Common.{◌≡◌, ℕ, ◌<◌, Bool, List, length, get_or, map, set, Option, sym, ap, ◌∙◌, subst, arith}
use Rattle.std.proofs.lemmas.List.{map-set}
use Rattle.wbt_run_worker.proofs.Common.{IsReady, Went, Sight, sight, CpuRecord, HasRisen, Told, known_of, HasNoPageSteps, setting, Has, Trace, Kit, Seats, ArePosted, IsPost, Seen, seen, team_of, worker_of, record_of, record_is, Grew, NotedFlusherTurn, Worker}
use Rattle.wbt_flusher.specs.Sights as sights
use Rattle.wbt_run_worker.specs.declared.round.JobOutcome.{JobOutcome}
use Rattle.wbt_run_worker.specs.declared.side.CpuSide.{CpuSide}
use Rattle.wbt_run_worker.specs.declared.side.End.TheVariants.{Ended}
use Rattle.wbt_run_worker.specs.declared.side.Post.{Post}
use Rattle.wbt_run_worker.specs.declared.side.Stand.TheVariants.{Open}
use Rattle.wbt_run_worker.proofs.Flushing.{posted_after}
use Rattle.wbt_run_drain.specs.Standing.{AreStanding, SideGoesOn, SideStands}
use Rattle.wbt_run_drain.specs.Teams.{posts_of}
use Rattle.wbt_run_drain.specs.Turned.{HasTurned}
use Rattle.wbt_run_drain.proofs.Answered.{Drains, drains}
use Rattle.wbt_run_drain.proofs.Elsewhere.{KeepsCpu}
use Rattle.wbt_run_drain.proofs.Ready.{goes_at, in_posts, is_ready, its_post, post_seen, stands_at}

-- an open flusher of a side that goes on took a turn
pub record TakesTurn {D : Type 0} (told : ℕ → Type 0) (said : ℕ → ℕ → Bool → Type 0) (written : D → Option ℕ) (faults : D → ℕ) (trace : Trace) (kit : Kit) (sides : List (CpuSide D))
    (c at : ℕ) (answer : JobOutcome) (side side' : CpuSide D) (seats seats' : Seats) : Type 0 where
  pub standing : AreStanding told said written faults trace kit sides seats
  pub cpu_there : c < trace.cpus
  pub side_is : get_or sides c side ≡ side
  pub ended : side.end ≡ Ended
  pub post_there : at < length side.posts.items
  pub turned : HasTurned told said written faults kit at answer side side' seats seats'
  pub opened : turned.was.stand ≡ Open

module _ {D : Type 0} {told : ℕ → Type 0} {said : ℕ → ℕ → Bool → Type 0} {written : D → Option ℕ} {faults : D → ℕ} {trace : Trace} {kit : Kit} {sides : List (CpuSide D)}
    {c at : ℕ} {answer : JobOutcome} {side side' : CpuSide D} {seats seats' : Seats} (t : TakesTurn told said written faults trace kit sides c at answer side side' seats seats') where
  abbrev pub d : Seen
  d = seen written faults t.turned.was

  abbrev pub q : Seen
  q = seen written faults t.turned.is

  abbrev pub before : List Seen
  before = posts_of written faults side.posts.items

  abbrev pub behind : List Seen
  behind = set before at q

  abbrev pub old : Sight
  old = sight d.work seats side.log d.written

  abbrev pub new : Sight
  new = sight q.work seats' side'.log q.written

  -- ---- before it

  pub stands : SideStands said written faults trace c kit side seats
  stands = stands_at t.standing c side t.cpu_there t.side_is

  pub goes : SideGoesOn said written faults trace c kit side seats
  goes = goes_at t.standing c side t.cpu_there t.side_is t.ended at t.post_there t.turned.was t.turned.was_there

  pub there : at < length before
  there = in_posts t.standing c side t.cpu_there t.side_is t.ended at t.post_there t.turned.was t.turned.was_there

  pub is_seen : get_or before at d ≡ d
  is_seen = post_seen t.standing c side t.cpu_there t.side_is t.ended at t.post_there t.turned.was t.turned.was_there

  pub mine : IsPost trace c kit seats.est d
  mine = its_post t.standing c side t.cpu_there t.side_is t.ended at t.post_there t.turned.was t.turned.was_there

  pub ready : IsReady d.plan kit d.work seats
  ready = is_ready t.standing c side t.cpu_there t.side_is t.ended at t.post_there t.turned.was t.turned.was_there t.opened

  -- ---- the turn

  pub drained : Drains told d.plan kit old new
  drained = drains told said (HasRisen d.faults q.faults) d.plan kit old new ready t.turned.turn t.turned.answers

  pub went : Went d.plan kit drained.moments old new
  went = drained.went

  abbrev pub added : List Told
  added = went.did.added

  abbrev pub base : Worker
  base = worker_of trace c (team_of written faults side) seats

  pub noted : NotedFlusherTurn trace kit.published.moment d.plan.cpu d.plan.flusher added (sights.shown_of d.plan base old) (sights.shown_of d.plan base new)
      (sights.notes_of base old) (sights.notes_of base new)
  noted = went.did.turn trace mine.its base

  -- ---- its side's flushers after it

  pub same_plan : q.plan ≡ (get_or before at d).plan
  same_plan = t.turned.plan ∙ ap (λ (p : Seen). p.plan) (sym is_seen)

  pub went_at : Went (get_or before at d).plan kit drained.moments (sight (get_or before at d).work seats side.log (get_or before at d).written) new
  went_at = subst (λ (p : Seen). Went p.plan kit drained.moments (sight p.work seats side.log p.written) new) (sym is_seen) went

  pub behind_is : posts_of written faults side'.posts.items ≡ behind
  behind_is = ap (λ (posts : List (Post D)). map (λ (post : Post D). seen written faults post) posts) t.turned.posts
      ∙ map-set (λ (post : Post D). seen written faults post) side.posts.items at t.turned.is

  pub right : (context : ℕ) → (known_of context seats'.est).publishes ≡ (known_of context seats.est).publishes
  right context = (noted.estimates.each context).right

  pub posted_now : ArePosted trace c kit (posts_of written faults side'.posts.items) seats'
  posted_now = subst (λ (posts : List Seen). ArePosted trace c kit posts seats') (sym behind_is)
      (posted_after trace c kit before at d q base drained.moments seats seats' side.log side'.log there same_plan stands.posted went_at right)

  -- ---- records

  pub has_now : (r : CpuRecord) × Has seats'.cpu.cpus c r
  has_now = (went.fits.held.0, subst (λ (n : ℕ). Has seats'.cpu.cpus n went.fits.held.0) mine.cpu_is went.fits.held.1)

  pub grew : Grew added (record_of c seats.cpu.cpus) (record_of c seats'.cpu.cpus)
  grew = subst (λ (n : ℕ). Grew added (record_of n seats.cpu.cpus) (record_of n seats'.cpu.cpus)) mine.cpu_is noted.turn.grew

  pub still_spent : HasNoPageSteps (setting kit.throttle.layout) c seats.cpu → HasNoPageSteps (setting kit.throttle.layout) c seats'.cpu
  still_spent none =
      let was = ap (λ (r : CpuRecord). r.page_steps) (record_is seats.cpu.cpus c none.0 none.1) in
      let is = ap (λ (r : CpuRecord). r.page_steps) (record_is seats'.cpu.cpus c has_now.0 has_now.1) in
      let steps = grew.page_steps in
      let few = none.2 in
      (has_now.0, has_now.1, omega arith)

  -- and those of other CPUs
  pub others_keep : (cpu : ℕ) → cpu < trace.cpus → (cpu ≡ c → ⊥) → KeepsCpu cpu seats seats'
  others_keep cpu less other =
      let held = t.standing.told_all.together.cpus.held cpu less in
      let r = (t.standing.told_all.last cpu).held in
      let other_one : cpu ≡ d.plan.cpu → ⊥ = λ e. other (e ∙ mine.cpu_is) in
      let stays = went.did.apart.others cpu r other_one held in
      record {
        same = record_is seats'.cpu.cpus cpu r stays ∙ sym (record_is seats.cpu.cpus cpu r held);
        spent = λ k none. (none.0, went.did.apart.others cpu none.0 other_one none.1, none.2);
        right = right;
      }
