use Rattle.std.proofs.Common.{◌≡◌, ◌<◌, ◌==◌, ℕ, List, [], ◌∷◌, false, length, map, set, get_or, refl, sym, ap, ◌∙◌, subst, arith, true≢false}
use Rattle.std.proofs.lemmas.List.{map-set}
use Rattle.wbt_flusher.specs.Answers.{FlusherAnswers}
use Rattle.wbt_flusher.specs.Did.{no_moments}
use Rattle.wbt_flusher.specs.Sights.{sight}
use Rattle.wbt_io.specs.Faults.{HasRisen}
use Rattle.wbt_kit.specs.declared.turn.Turn.{Turn}
use Rattle.wbt_run_worker.specs.Side.{IsSide}
use Rattle.wbt_run_worker.specs.Team.{Seen, seen, team_of}
use Rattle.wbt_run_worker.specs.declared.side.Post.{Post}
use Rattle.wbt_run_worker.proofs.Lists.{map_at}
use Rattle.wbt_run_worker.proofs.Posts.{later_now}
use Rattle.wbt_run_worker.proofs.Turning.{may_turn, side_after}
use Rattle.turns_taken.proofs.turning.turn_flusher.Goals as goal

some_there : {A B : Type 0} (f : A → B) (xs : List A) → (length xs == 0) ≡ false → 0 < length (map f xs)
some_there f [] is = absurd (true≢false is)
some_there f (x ∷ xs) is = omega arith

pub turn-turn-requires-clause-ready : goal.turn-turn-requires-clause-ready
turn-turn-requires-clause-ready g c =
    let post = c.index_mut-post.result.now in
    let f = λ (p : Post g.row.D.Denot). seen g.D.Disk.written g.D.Disk.faults p in
    let old = team_of g.D.Disk.written g.D.Disk.faults c.args.side.now in
    let there : 0 < length old.posts = some_there f c.args.side.now.posts.items (ap (λ (l : List (Post g.row.D.Denot)). length l == 0) (sym c.as_slice.ensures.value) ∙ sym c.is_empty.ensures ∙ c.if-is_empty.false) in
    let is : get_or old.posts 0 (f post) ≡ f post = map_at f c.args.side.now.posts.items 0 post ∙ ap f (sym c.index_mut-post.ensures.value) in
    may_turn (g.C.Clock.told c.args.hands.now.clock.now) (g.G.Gate.said c.args.hands.now.gate.now) c.args.hands.now.kit.now old 0 (f post) (f post) c.args.seats.now c.args.seats.now
    c.args.side.now.log there is refl (later_now (f post)) c.requires.side

pub returns-in-Stepped : goal.returns-in-Stepped
returns-in-Stepped g c =
    let post = c.index_mut-post.result.now in
    let f = λ (p : Post g.row.D.Denot). seen g.D.Disk.written g.D.Disk.faults p in
    let next = record post { flusher = c.turn-turn.new.self } in
    let old = team_of g.D.Disk.written g.D.Disk.faults c.args.side.now in
    let told = g.C.Clock.told c.args.hands.now.clock.now in
    let said = g.G.Gate.said c.args.hands.now.gate.now in
    let e = c.turn-turn.ensures in
    let there : 0 < length old.posts = some_there f c.args.side.now.posts.items (ap (λ (l : List (Post g.row.D.Denot)). length l == 0) (sym c.as_slice.ensures.value) ∙ sym c.is_empty.ensures ∙ c.if-is_empty.false) in
    let is : get_or old.posts 0 (f post) ≡ f post = map_at f c.args.side.now.posts.items 0 post ∙ ap f (sym c.index_mut-post.ensures.value) in
    let a = subst (λ (a : Turn). FlusherAnswers post.flusher.plan c.args.hands.now.kit.now c.args.drain told said (HasRisen (f post).faults (f next).faults) a
    (sight (f post).work c.args.seats.now old.log (f post).written) (sight (f next).work c.turn-turn.new.seats c.turn-turn.new.log (f next).written)) c.in-Stepped.is e.answers in
    record {
      side = subst (λ (posts : List Seen). IsSide old.desk.trace old.desk.cpu c.args.hands.now.kit.now (record { desk = old.desk; posts = posts; log = c.turn-turn.new.log }) c.turn-turn.new.seats)
          (sym (map-set f c.args.side.now.posts.items 0 next))
          (side_after told said c.args.hands.now.kit.now old 0 (f post) (f next) c.args.seats.now c.turn-turn.new.seats c.turn-turn.new.log there is e.plan (record { faults = e.later; counted = e.counted }) c.requires.side a.moments a.all_told a.does.went a.does.ready);
    }

pub returns-in-Resting : goal.returns-in-Resting
returns-in-Resting g c =
    let post = c.index_mut-post.result.now in
    let f = λ (p : Post g.row.D.Denot). seen g.D.Disk.written g.D.Disk.faults p in
    let next = record post { flusher = c.turn-turn.new.self } in
    let old = team_of g.D.Disk.written g.D.Disk.faults c.args.side.now in
    let told = g.C.Clock.told c.args.hands.now.clock.now in
    let said = g.G.Gate.said c.args.hands.now.gate.now in
    let e = c.turn-turn.ensures in
    let there : 0 < length old.posts = some_there f c.args.side.now.posts.items (ap (λ (l : List (Post g.row.D.Denot)). length l == 0) (sym c.as_slice.ensures.value) ∙ sym c.is_empty.ensures ∙ c.if-is_empty.false) in
    let is : get_or old.posts 0 (f post) ≡ f post = map_at f c.args.side.now.posts.items 0 post ∙ ap f (sym c.index_mut-post.ensures.value) in
    let a = subst (λ (a : Turn). FlusherAnswers post.flusher.plan c.args.hands.now.kit.now c.args.drain told said (HasRisen (f post).faults (f next).faults) a
    (sight (f post).work c.args.seats.now old.log (f post).written) (sight (f next).work c.turn-turn.new.seats c.turn-turn.new.log (f next).written)) c.in-Resting.is e.answers in
    record {
      side = subst (λ (posts : List Seen). IsSide old.desk.trace old.desk.cpu c.args.hands.now.kit.now (record { desk = old.desk; posts = posts; log = c.turn-turn.new.log }) c.turn-turn.new.seats)
          (sym (map-set f c.args.side.now.posts.items 0 next))
          (side_after told said c.args.hands.now.kit.now old 0 (f post) (f next) c.args.seats.now c.turn-turn.new.seats c.turn-turn.new.log there is e.plan (record { faults = e.later; counted = e.counted }) c.requires.side no_moments (record { batches = tt; estimates = tt }) a.steps.went a.steps.ready);
    }

pub returns-in-Done : goal.returns-in-Done
returns-in-Done g c =
    let post = c.index_mut-post.result.now in
    let f = λ (p : Post g.row.D.Denot). seen g.D.Disk.written g.D.Disk.faults p in
    let next = record post { flusher = c.turn-turn.new.self } in
    let old = team_of g.D.Disk.written g.D.Disk.faults c.args.side.now in
    let told = g.C.Clock.told c.args.hands.now.clock.now in
    let said = g.G.Gate.said c.args.hands.now.gate.now in
    let e = c.turn-turn.ensures in
    let there : 0 < length old.posts = some_there f c.args.side.now.posts.items (ap (λ (l : List (Post g.row.D.Denot)). length l == 0) (sym c.as_slice.ensures.value) ∙ sym c.is_empty.ensures ∙ c.if-is_empty.false) in
    let is : get_or old.posts 0 (f post) ≡ f post = map_at f c.args.side.now.posts.items 0 post ∙ ap f (sym c.index_mut-post.ensures.value) in
    let a = subst (λ (a : Turn). FlusherAnswers post.flusher.plan c.args.hands.now.kit.now c.args.drain told said (HasRisen (f post).faults (f next).faults) a
    (sight (f post).work c.args.seats.now old.log (f post).written) (sight (f next).work c.turn-turn.new.seats c.turn-turn.new.log (f next).written)) c.in-Done.is e.answers in
    record {
      side = subst (λ (posts : List Seen). IsSide old.desk.trace old.desk.cpu c.args.hands.now.kit.now (record { desk = old.desk; posts = posts; log = c.turn-turn.new.log }) c.turn-turn.new.seats)
          (sym (map-set f c.args.side.now.posts.items 0 next))
          (side_after told said c.args.hands.now.kit.now old 0 (f post) (f next) c.args.seats.now c.turn-turn.new.seats c.turn-turn.new.log there is e.plan (record { faults = e.later; counted = e.counted }) c.requires.side a.moments a.all_told a.does.steps.went a.does.steps.ready);
    }
