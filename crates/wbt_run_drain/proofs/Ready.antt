-- A flusher may take a turn where the sides of all CPUs stand.
use Rattle.std.proofs.Common.{◌≡◌, ℕ, ◌<◌, Bool, List, length, get_or, Option, sym, ap, ◌∙◌, subst, arith}
use Rattle.wbt_run_worker.proofs.Common.{AreBacked, IsReady, IsSteady, CpuRecord, contexts, domains, Has, Trace, Kit, Seats, IsPost, Seen, Team, owed_in, owed_totals, seen, team_of}
use Rattle.wbt_run_worker.specs.declared.side.CpuSide.{CpuSide}
use Rattle.wbt_run_worker.specs.declared.side.End.{End}
use Rattle.wbt_run_worker.specs.declared.side.End.TheVariants.{Ended}
use Rattle.wbt_run_worker.specs.declared.side.Post.{Post}
use Rattle.wbt_run_worker.specs.declared.side.Stand.{Stand}
use Rattle.wbt_run_worker.specs.declared.side.Stand.TheVariants.{Open}
use Rattle.wbt_run_worker.proofs.Flushing.{post_at, ready_at}
use Rattle.wbt_run_worker.proofs.Lists.{at_most, each_at, long_map, map_at}
use Rattle.wbt_run_drain.specs.Standing.{AreStanding, EndsBy, SideGoesOn, SideStands, StandsSo}
use Rattle.wbt_run_drain.specs.Teams.{posts_of, teams_of}
use Rattle.wbt_run_drain.specs.Turned.{MayTurn}

module _ {D : Type 0} {told : ℕ → Type 0} {said : ℕ → ℕ → Bool → Type 0} {written : D → Option ℕ} {faults : D → ℕ} {trace : Trace} {kit : Kit} {sides : List (CpuSide D)} {seats : Seats}
    (standing : AreStanding told said written faults trace kit sides seats) (c : ℕ) (side : CpuSide D) (there : c < trace.cpus) (side_is : get_or sides c side ≡ side) where
  abbrev posts : List Seen
  posts = posts_of written faults side.posts.items

  abbrev teams : List Team
  teams = teams_of written faults sides

  abbrev f : (post : Post D) → Seen
  f post = seen written faults post

  pub stands_at : SideStands said written faults trace c kit side seats
  stands_at = subst (λ (s : CpuSide D). SideStands said written faults trace c kit s seats) side_is (standing.each c side there)

  pub held_at : (r : CpuRecord) × Has seats.cpu.cpus c r
  held_at = ((standing.told_all.last c).held, standing.told_all.together.cpus.held c there)

  pub team_is : get_or teams c (team_of written faults side) ≡ team_of written faults side
  team_is = map_at (λ (s : CpuSide D). team_of written faults s) sides c side ∙ ap (λ (s : CpuSide D). team_of written faults s) side_is

  pub in_teams : c < length teams
  in_teams = let long = long_map (λ (s : CpuSide D). team_of written faults s) sides in let many = standing.many in omega (arith, there)

  -- what its flushers owe is part of what all owe
  pub backed_at : AreBacked (domains trace) (contexts trace) (owed_in posts) (owed_totals posts) seats
  backed_at = subst (λ (team : Team). AreBacked (domains trace) (contexts trace) (owed_in team.posts) (owed_totals team.posts) seats) team_is (record {
    counted = standing.backed.counted;
    rooms = λ domain less.
        let all = standing.backed.rooms domain less in
        let one = at_most (λ (team : Team). owed_in team.posts domain) teams c (team_of written faults side) in_teams in
        omega arith;
    totals = λ context less.
        let all = standing.backed.totals context less in
        let one = at_most (λ (team : Team). owed_totals team.posts context) teams c (team_of written faults side) in_teams in
        omega arith;
  })

  module _ (ended : side.end ≡ Ended) (at : ℕ) (post_there : at < length side.posts.items) (post : Post D) (post_is : get_or side.posts.items at post ≡ post) where
    pub goes_at : SideGoesOn said written faults trace c kit side seats
    goes_at = subst (λ (e : End). EndsBy said written faults trace c kit e side seats) ended stands_at.ends

    pub in_posts : at < length posts
    in_posts = let long = long_map f side.posts.items in omega (arith, post_there)

    pub post_seen : get_or posts at (f post) ≡ f post
    post_seen = map_at f side.posts.items at post ∙ ap f post_is

    pub its_post : IsPost trace c kit seats.est (f post)
    its_post = subst (λ (p : Seen). IsPost trace c kit seats.est p) post_seen (post_at trace c kit posts at (f post) seats in_posts stands_at.posted)

    pub steady_at : post.stand ≡ Open → IsSteady post.flusher.plan post.flusher.work
    steady_at opened =
        let so = each_at (λ (p : Post D). StandsSo said c kit seats p.stand (f p)) side.posts.items at post post_there goes_at.each in
        subst (λ (s : Stand). StandsSo said c kit seats s (f post)) opened (subst (λ (p : Post D). StandsSo said c kit seats p.stand (f p)) post_is so)

    pub is_ready : post.stand ≡ Open → IsReady post.flusher.plan kit post.flusher.work seats
    is_ready opened = subst (λ (p : Seen). IsReady p.plan kit p.work seats) post_seen
        (ready_at trace c kit posts at (f post) seats in_posts stands_at.posted standing.seats_are held_at goes_at.owes_nothing
        (subst (λ (p : Seen). IsSteady p.plan p.work) (sym post_seen) (steady_at opened)) backed_at)

  pub may_turn : side.end ≡ Ended → (at : ℕ) → at < length side.posts.items → ((post : Post D) → get_or side.posts.items at post ≡ post → post.stand ≡ Open)
      → MayTurn kit at side seats
  may_turn ended at post_there opened = record {
    there = post_there;
    suits = λ post post_is. (its_post ended at post_there post post_is).suits;
    ready = λ post post_is. is_ready ended at post_there post post_is (opened post post_is);
  }
