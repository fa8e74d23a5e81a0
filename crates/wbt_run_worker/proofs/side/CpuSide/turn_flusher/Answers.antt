use Rattle.std.proofs.Common.{◌≡◌, ◌<◌, ℕ, List, length, map, set, get_or, refl, sym, ap, ◌∙◌, subst}
use Rattle.std.proofs.lemmas.List.{map-set, set-get_or}
use Rattle.wbt_run_worker.proofs.Common.{Goes, JobAnswers, job_by, JobTakes, JobWaits, Seen, seen, team_of}
use Rattle.wbt_run_worker.specs.declared.round.JobOutcome.{JobOutcome}
use Rattle.wbt_run_worker.specs.declared.side.Job.TheVariants.{Flusher}
use Rattle.wbt_run_worker.specs.declared.side.Post.{Post}
use Rattle.wbt_run_worker.specs.declared.side.Stand.{Stand}
use Rattle.wbt_run_worker.proofs.Answering.{answers_by, goes_by, waits_on}
use Rattle.wbt_run_worker.proofs.Lists.{long_map, map_at}
use Rattle.wbt_run_worker.proofs.Posts.{later_now}
use Rattle.wbt_run_worker.proofs.Taking.{flusher_did, flusher_takes, flusher_waits}
use Rattle.wbt_run_worker.proofs.Turning.{may_turn, plan_suits, same_cpu}
use Rattle.wbt_run_worker.proofs.side.CpuSide.turn_flusher.Goals as goal

pub turn-requires-clause-suits : goal.turn-requires-clause-suits
turn-requires-clause-suits g c =
    let post = c.index_mut-post.result.now in
    let f = λ (p : Post g.row.D.Denot). seen g.D.Disk.written g.D.Disk.faults p in
    let old = team_of g.D.Disk.written g.D.Disk.faults c.args.self.now in
    let there : c.args.at < length old.posts = subst (λ (n : ℕ). c.args.at < n) (sym (long_map f c.args.self.now.posts.items)) c.requires.there in
    let is : get_or old.posts c.args.at (f post) ≡ f post = map_at f c.args.self.now.posts.items c.args.at post ∙ ap f (sym c.index_mut-post.ensures.value) in
    plan_suits (g.C.Clock.told c.args.hands.now.clock.now) (g.G.Gate.said c.args.hands.now.gate.now) c.args.hands.now.kit.now old c.args.at (f post) (f post) c.args.seats.now c.args.seats.now
    c.args.self.now.log there is refl (later_now (f post)) c.requires.side

pub turn-requires-clause-ready : goal.turn-requires-clause-ready
turn-requires-clause-ready g c =
    let post = c.index_mut-post.result.now in
    let f = λ (p : Post g.row.D.Denot). seen g.D.Disk.written g.D.Disk.faults p in
    let old = team_of g.D.Disk.written g.D.Disk.faults c.args.self.now in
    let there : c.args.at < length old.posts = subst (λ (n : ℕ). c.args.at < n) (sym (long_map f c.args.self.now.posts.items)) c.requires.there in
    let is : get_or old.posts c.args.at (f post) ≡ f post = map_at f c.args.self.now.posts.items c.args.at post ∙ ap f (sym c.index_mut-post.ensures.value) in
    may_turn (g.C.Clock.told c.args.hands.now.clock.now) (g.G.Gate.said c.args.hands.now.gate.now) c.args.hands.now.kit.now old c.args.at (f post) (f post) c.args.seats.now c.args.seats.now
    c.args.self.now.log there is refl (later_now (f post)) c.requires.side

pub job_of-requires : goal.job_of-requires
job_of-requires g c =
    let post = c.index_mut-post.result.now in
    let f = λ (p : Post g.row.D.Denot). seen g.D.Disk.written g.D.Disk.faults p in
    let old = team_of g.D.Disk.written g.D.Disk.faults c.args.self.now in
    let there : c.args.at < length old.posts = subst (λ (n : ℕ). c.args.at < n) (sym (long_map f c.args.self.now.posts.items)) c.requires.there in
    let is : get_or old.posts c.args.at (f post) ≡ f post = map_at f c.args.self.now.posts.items c.args.at post ∙ ap f (sym c.index_mut-post.ensures.value) in
    record {
      waits = waits_on (g.C.Clock.told c.args.hands.now.clock.now) (g.G.Gate.said c.args.hands.now.gate.now) c.args.hands.now.kit.now old c.args.at (f post) (f (record post { flusher = c.turn.new.self }))
          c.args.seats.now c.turn.new.seats c.turn.new.log there is c.turn.ensures.plan (record { faults = c.turn.ensures.later; counted = c.turn.ensures.counted }) c.requires.side c.turn.result c.turn.ensures.answers;
    }

pub returns-clause-goes : goal.returns-clause-goes
returns-clause-goes g c =
    let post = c.index_mut-post.result.now in
    let f = λ (p : Post g.row.D.Denot). seen g.D.Disk.written g.D.Disk.faults p in
    let next = record post { flusher = c.turn.new.self } in
    let old = team_of g.D.Disk.written g.D.Disk.faults c.args.self.now in
    let there : c.args.at < length old.posts = subst (λ (n : ℕ). c.args.at < n) (sym (long_map f c.args.self.now.posts.items)) c.requires.there in
    let is : get_or old.posts c.args.at (f post) ≡ f post = map_at f c.args.self.now.posts.items c.args.at post ∙ ap f (sym c.index_mut-post.ensures.value) in
    let all = goes_by (g.C.Clock.told c.args.hands.now.clock.now) (g.G.Gate.said c.args.hands.now.gate.now) c.args.hands.now.kit.now old c.args.at (f post) (f next)
    c.args.seats.now c.turn.new.seats c.turn.new.log there is c.turn.ensures.plan (record { faults = c.turn.ensures.later; counted = c.turn.ensures.counted }) c.requires.side c.turn.result c.turn.ensures.answers in
    subst (λ (posts : List Seen). Goes (g.C.Clock.told c.args.hands.now.clock.now) c.args.self.now.writers.trace c.args.self.now.writers.cpu c.args.hands.now.kit.now old
    (record { desk = c.args.self.now.writers; posts = posts; log = c.turn.new.log }) c.args.seats.now c.turn.new.seats)
    (sym (map-set f c.args.self.now.posts.items c.args.at next)) all

pub returns-clause-answers : goal.returns-clause-answers
returns-clause-answers g c =
    let post = c.index_mut-post.result.now in
    let f = λ (p : Post g.row.D.Denot). seen g.D.Disk.written g.D.Disk.faults p in
    let next = record post { flusher = c.turn.new.self } in
    let old = team_of g.D.Disk.written g.D.Disk.faults c.args.self.now in
    let there : c.args.at < length old.posts = subst (λ (n : ℕ). c.args.at < n) (sym (long_map f c.args.self.now.posts.items)) c.requires.there in
    let is : get_or old.posts c.args.at (f post) ≡ f post = map_at f c.args.self.now.posts.items c.args.at post ∙ ap f (sym c.index_mut-post.ensures.value) in
    let all = answers_by (g.C.Clock.told c.args.hands.now.clock.now) (g.G.Gate.said c.args.hands.now.gate.now) c.args.hands.now.kit.now old c.args.at (f post) (f next)
    c.args.seats.now c.turn.new.seats c.turn.new.log there is c.turn.ensures.plan (record { faults = c.turn.ensures.later; counted = c.turn.ensures.counted }) c.requires.side c.turn.result c.turn.ensures.answers in
    let so = λ (job : JobOutcome) (posts : List Seen). JobAnswers (g.G.Gate.said c.args.hands.now.gate.now) c.args.self.now.writers.trace c.args.self.now.writers.cpu c.args.hands.now.kit.now job old
    (record { desk = c.args.self.now.writers; posts = posts; log = c.turn.new.log }) c.args.seats.now c.turn.new.seats in
    subst (λ (job : JobOutcome). so job (map f (set c.args.self.now.posts.items c.args.at next))) (sym c.job_of.ensures)
    (subst (λ (posts : List Seen). so (job_by c.turn.result) posts) (sym (map-set f c.args.self.now.posts.items c.args.at next)) all)

pub returns-clause-stands : goal.returns-clause-stands
returns-clause-stands g c =
    let post = c.index_mut-post.result.now in
    let f = λ (p : Post g.row.D.Denot). p.stand in
    let posts = c.args.self.now.posts.items in
    let next = record post { flusher = c.turn.new.self } in
    let is : get_or (map f posts) c.args.at (f post) ≡ f post = map_at f posts c.args.at post ∙ ap f (sym c.index_mut-post.ensures.value) in
    map-set f posts c.args.at next
    ∙ subst (λ (stand : Stand). set (map f posts) c.args.at stand ≡ map f posts) is (set-get_or (map f posts) c.args.at (f post))

pub returns-clause-takes : goal.returns-clause-takes
returns-clause-takes g c =
    let told = g.C.Clock.told c.args.hands.now.clock.now in
    let said = g.G.Gate.said c.args.hands.now.gate.now in
    let post = c.index_mut-post.result.now in
    let f = λ (p : Post g.row.D.Denot). seen g.D.Disk.written g.D.Disk.faults p in
    let next = record post { flusher = c.turn.new.self } in
    let old = team_of g.D.Disk.written g.D.Disk.faults c.args.self.now in
    let there : c.args.at < length old.posts = subst (λ (n : ℕ). c.args.at < n) (sym (long_map f c.args.self.now.posts.items)) c.requires.there in
    let is : get_or old.posts c.args.at (f post) ≡ f post = map_at f c.args.self.now.posts.items c.args.at post ∙ ap f (sym c.index_mut-post.ensures.value) in
    let e = c.turn.ensures in
    let did = flusher_did told said c.args.hands.now.kit.now old c.args.at (f post) (f next) c.args.seats.now c.turn.new.seats c.turn.new.log there is e.plan
    c.turn.result e.answers e.took e.halts e.fails e.waits in
    let own = same_cpu told said c.args.hands.now.kit.now old c.args.at (f post) (f next) c.args.seats.now c.turn.new.seats c.turn.new.log there is e.plan
    (record { faults = e.later; counted = e.counted }) c.requires.side in
    let all = flusher_takes told said c.args.hands.now.kit.now old c.args.at (f post) (f next) c.args.seats.now c.turn.new.seats c.turn.new.log there is e.plan
    c.turn.result c.job_of.result c.job_of.ensures did own e.kinds in
    subst (λ (posts : List Seen). JobTakes told said c.args.hands.now.kit.now (Flusher c.args.at) c.job_of.result old
    (record { desk = c.args.self.now.writers; posts = posts; log = c.turn.new.log }) c.args.seats.now c.turn.new.seats)
    (sym (map-set f c.args.self.now.posts.items c.args.at next)) all

pub returns-clause-waits : goal.returns-clause-waits
returns-clause-waits g c =
    let told = g.C.Clock.told c.args.hands.now.clock.now in
    let said = g.G.Gate.said c.args.hands.now.gate.now in
    let post = c.index_mut-post.result.now in
    let f = λ (p : Post g.row.D.Denot). seen g.D.Disk.written g.D.Disk.faults p in
    let next = record post { flusher = c.turn.new.self } in
    let old = team_of g.D.Disk.written g.D.Disk.faults c.args.self.now in
    let there : c.args.at < length old.posts = subst (λ (n : ℕ). c.args.at < n) (sym (long_map f c.args.self.now.posts.items)) c.requires.there in
    let is : get_or old.posts c.args.at (f post) ≡ f post = map_at f c.args.self.now.posts.items c.args.at post ∙ ap f (sym c.index_mut-post.ensures.value) in
    let all = flusher_waits told said c.args.hands.now.kit.now old c.args.at (f post) (f next) c.args.seats.now c.turn.new.seats c.turn.new.log there is c.turn.ensures.plan
    c.turn.result c.turn.ensures.answers in
    let so = λ (outcome : JobOutcome) (posts : List Seen). JobWaits told (Flusher c.args.at) outcome old
    (record { desk = c.args.self.now.writers; posts = posts; log = c.turn.new.log }) c.args.seats.now c.turn.new.seats in
    subst (λ (outcome : JobOutcome). so outcome (map f (set c.args.self.now.posts.items c.args.at next))) (sym c.job_of.ensures)
    (subst (λ (posts : List Seen). so (job_by c.turn.result) posts) (sym (map-set f c.args.self.now.posts.items c.args.at next)) all)
