-- Between two turns of the drain, where each flusher is done, each dirtying of the pages of an inode whose mark is clear was completed or absorbed.
use Rattle.std.proofs.Common.{◌≡◌, ⊎_elim, ℕ, ◌<◌, ◌≤◌, Bool, List, [], ◌∷◌, length, map, get_or, Option, Some, refl, sym, ap, ◌∙◌, subst, arith}
use Rattle.std.proofs.lemmas.Bool.{cases_lt}
use Rattle.std.proofs.lemmas.List.Sums.{sum_by-cons}
use Rattle.wbt_run_worker.proofs.Common.{times_in, CpuRecord, Each, HasCpu, IsKitOf, setting, Has, Layout, IsLawful, Trace, OwesMark, OwesRescan, pages_by, Phase, Kit, Seats, ArePosted, AnyOf, Seen, claimed_by, seen, firsts_of, record_of, record_is, Shown, first_shown}
use Rattle.wbt_kit.proofs.Common.{pages, at_less}
use Rattle.wbt_run_seats.proofs.Opening.{is_throttle}
use Rattle.wbt_run_seats.proofs.Plans.{page_lies}
use Rattle.wbt_flusher.specs.Turns.{IsIdle}
use Rattle.wbt_run_worker.specs.Team.{claimed_in}
use Rattle.wbt_run_worker.specs.declared.side.CpuSide.{CpuSide}
use Rattle.wbt_run_worker.specs.declared.side.End.{End}
use Rattle.wbt_run_worker.specs.declared.side.Post.{Post}
use Rattle.wbt_run_worker.specs.declared.side.Stand.{Stand}
use Rattle.wbt_run_worker.specs.declared.side.Stand.TheVariants.{Done}
use Rattle.wbt_run_worker.proofs.Lists.{each_at}
use Rattle.wbt_table.specs.Calls.{HasNoDirtyPage, OwesInodeNothing}
use Rattle.wbt_run_laws.specs.Throttle.{IsThrottleOf}
use Rattle.wbt_run_drain.proofs.Sweeping.{clean_is_cleaned}
use Rattle.wbt_run_drain.specs.Ends.{HasEnded, HaveEnded}
use Rattle.wbt_run_drain.specs.Standing.{AreAllDone, AreStanding, EndsBy, SideGoesOn, SideStands, StandsSo}
use Rattle.wbt_run_drain.specs.Swept.{IsInodeCleaned}
use Rattle.wbt_run_drain.specs.Teams.{posts_of}

-- ---- nobody owes anything

-- a flusher that rests owes neither
rests_mark : (p : Seen) (inode : ℕ) → IsIdle p.work → OwesMark p.work.phase inode → ⊥
rests_mark p inode idle owes = subst (λ (phase : Phase). OwesMark phase inode) idle.phase owes

rests_rescan : (p : Seen) (page : ℕ) → IsIdle p.work → OwesRescan p.plan p.work.phase page → ⊥
rests_rescan p page idle owes = subst (λ (phase : Phase). OwesRescan p.plan phase page) idle.phase owes

-- and has claimed nothing
rests_claim : (page : ℕ) (p : Seen) → IsIdle p.work → claimed_by page p ≡ 0
rests_claim page p idle = ap (λ (phase : Phase). times_in page (pages_by p.work.batch.items phase)) idle.phase

claim_none : {D : Type 0} (f : Post D → Seen) (page : ℕ) (posts : List (Post D)) → Each (λ (post : Post D). IsIdle (f post).work) posts → claimed_in page (map f posts) ≡ 0
claim_none f page [] idle = refl
claim_none f page (x ∷ xs) idle =
    sum_by-cons (claimed_by page) (f x) (map f xs) ∙ (let a = rests_claim page (f x) idle.0 in let b = claim_none f page xs idle.1 in omega arith)

-- one of some that are all otherwise
none_of : {D : Type 0} (f : Post D → Seen) (is not : Seen → Type 0) (posts : List (Post D)) → ((p : Seen) → not p → is p → ⊥) → Each (λ (post : Post D). not (f post)) posts
    → AnyOf is (map f posts) → ⊥
none_of f is not [] apart each any = any
none_of f is not (x ∷ xs) apart each any = ⊎_elim (λ (it : is (f x)). apart (f x) each.0 it) (λ (more : AnyOf is (map f xs)). none_of f is not xs apart each.1 more) any

module _ {D : Type 0} (told : ℕ → Type 0) (said : ℕ → ℕ → Bool → Type 0) (written : D → Option ℕ) (faults : D → ℕ) (trace : Trace) (kit : Kit)
    (sides : List (CpuSide D)) (seats : Seats) (cpus_are : kit.throttle.layout.cpus ≡ trace.cpus) (stands : AreStanding told said written faults trace kit sides seats)
    (ended : HaveEnded sides) (done : AreAllDone sides) where
  -- where a flusher is done it rests
  rest : (cpu : ℕ) (posts : List (Post D)) → Each (λ (post : Post D). StandsSo said cpu kit seats post.stand (seen written faults post)) posts
      → Each (λ (post : Post D). post.stand ≡ Done) posts → Each (λ (post : Post D). IsIdle post.flusher.work) posts
  rest cpu [] so all = tt
  rest cpu (x ∷ xs) so all =
      let here = subst (λ (stand : Stand). StandsSo said cpu kit seats stand (seen written faults x)) all.0 so.0 in
      (here.1, rest cpu xs so.1 all.1)

  record AtRest (cpu : ℕ) : Type 0 where
    pub side : CpuSide D
    pub goes : SideGoesOn said written faults trace cpu kit side seats
    pub posted : ArePosted trace cpu kit (posts_of written faults side.posts.items) seats
    pub idle : Each (λ (post : Post D). IsIdle post.flusher.work) side.posts.items

  side_rests : (cpu : ℕ) (side : CpuSide D) → SideStands said written faults trace cpu kit side seats → HasEnded side
      → Each (λ (post : Post D). post.stand ≡ Done) side.posts.items → AtRest cpu
  side_rests cpu side by has all =
      let goes = subst (λ (end : End). EndsBy said written faults trace cpu kit end side seats) has.ended by.ends in
      record { side = side; goes = goes; posted = by.posted; idle = rest cpu side.posts.items goes.each all }

  rests_in : (cpu : ℕ) (xs : List (CpuSide D)) → cpu < length xs → ((other : CpuSide D) → SideStands said written faults trace cpu kit (get_or xs cpu other) seats)
      → HaveEnded xs → AreAllDone xs → AtRest cpu
  rests_in cpu [] less by has all = absurd (omega arith)
  rests_in cpu (x ∷ xs) less by has all = side_rests cpu (get_or (x ∷ xs) cpu x) (by x) (each_at HasEnded (x ∷ xs) cpu x less has)
      (each_at (λ (side : CpuSide D). Each (λ (post : Post D). post.stand ≡ Done) side.posts.items) (x ∷ xs) cpu x less all)

  at_rest : (cpu : ℕ) → cpu < trace.cpus → AtRest cpu
  at_rest cpu less = rests_in cpu sides (subst (λ (n : ℕ). cpu < n) (sym stands.many) less) (λ other. stands.each cpu other less) ended done

  cpu_there : (cpu : ℕ) (r : CpuRecord) → Has seats.cpu.cpus cpu r → cpu < trace.cpus
  cpu_there cpu r has = let less = at_less seats.cpu.cpus cpu (Some r) has in let long = stands.seats_are.each_cpu in omega arith

  marks_none : (inode cpu : ℕ) (r : CpuRecord) → Has seats.cpu.cpus cpu r → 1 ≤ times_in inode r.owed_marks → ⊥
  marks_none inode cpu r has owes =
      let it = at_rest cpu (cpu_there cpu r has) in
      none_of (λ (post : Post D). seen written faults post) (λ (p : Seen). OwesMark p.work.phase inode) (λ (p : Seen). IsIdle p.work) it.side.posts.items
      (λ p idle owed. rests_mark p inode idle owed) it.idle
      (it.goes.marks inode (subst (λ (q : CpuRecord). 1 ≤ times_in inode q.owed_marks) (sym (record_is seats.cpu.cpus cpu r has)) owes))

  rescans_none : (page cpu : ℕ) (r : CpuRecord) → Has seats.cpu.cpus cpu r → 1 ≤ times_in page r.owed_rescans → ⊥
  rescans_none page cpu r has owes =
      let it = at_rest cpu (cpu_there cpu r has) in
      none_of (λ (post : Post D). seen written faults post) (λ (p : Seen). OwesRescan p.plan p.work.phase page) (λ (p : Seen). IsIdle p.work) it.side.posts.items
      (λ p idle owed. rests_rescan p page idle owed) it.idle
      (it.goes.rescans page (subst (λ (q : CpuRecord). 1 ≤ times_in page q.owed_rescans) (sym (record_is seats.cpu.cpus cpu r has)) owes))

  -- the CPU holds no page
  pub holds_none : (cpu page : ℕ) → cpu < trace.cpus → times_in page (record_of cpu seats.cpu.cpus).held ≡ 0
  holds_none cpu page less =
      let it = at_rest cpu less in
      it.posted.held page ∙ claim_none (λ (post : Post D). seen written faults post) page it.side.posts.items it.idle

  nothing : (n : ℕ) → (1 ≤ n → ⊥) → n ≡ 0
  nothing n none = ⊎_elim (λ (low : n < 1). omega arith) (λ (high : 1 ≤ n). absurd (none high)) (cases_lt n 1)

  pub owes_nothing : (inode : ℕ) → OwesInodeNothing (setting kit.throttle.layout) inode seats.cpu
  owes_nothing inode = record {
    no_mark = λ cpu r has. nothing (times_in inode r.owed_marks) (marks_none inode cpu r has);
    no_rescan = λ cpu page r has its. nothing (times_in page r.owed_rescans) (rescans_none page cpu r has);
  }

-- the seats have the record of each CPU
pub held_all : {D : Type 0} (told : ℕ → Type 0) (said : ℕ → ℕ → Bool → Type 0) (written : D → Option ℕ) (faults : D → ℕ) (trace : Trace) (kit : Kit)
    (sides : List (CpuSide D)) (seats : Seats) → kit.throttle.layout.cpus ≡ trace.cpus → AreStanding told said written faults trace kit sides seats
    → (cpu : ℕ) → cpu < trace.cpus → HasCpu cpu (record_of cpu seats.cpu.cpus) seats
held_all told said written faults trace kit sides seats cpus_are stands cpu less =
    let many : seats.cpu.layout.cpus ≡ trace.cpus = ap (λ (key : Layout). key.cpus) stands.seats_are.cpu.layout ∙ cpus_are in
    let held = stands.all_held.cpus cpu (subst (λ (n : ℕ). cpu < n) (sym many) less) in
    subst (λ (r : CpuRecord). HasCpu cpu r seats) (sym (record_is seats.cpu.cpus cpu held.0 held.1)) held.1

-- ---- what a clean inode tells

pub throttle_is : (trace : Trace) (now : ℕ) (kit : Kit) → IsLawful trace → IsKitOf trace now kit → IsThrottleOf trace (setting kit.throttle.layout)
throttle_is trace now kit lawful of = subst (λ (key : Layout). IsThrottleOf trace (setting key)) (sym of.layout) (is_throttle trace now lawful)

pub is_cleaned : (trace : Trace) (now : ℕ) (kit : Kit) (seats : Seats) (inode : ℕ) → IsLawful trace → IsKitOf trace now kit
    → ((cpu : ℕ) → cpu < trace.cpus → HasCpu cpu (record_of cpu seats.cpu.cpus) seats) → HasNoDirtyPage (setting kit.throttle.layout) inode seats.cpu
    → ((cpu page : ℕ) → cpu < trace.cpus → times_in page (record_of cpu seats.cpu.cpus).held ≡ 0) → IsInodeCleaned trace kit inode seats
is_cleaned trace now kit seats inode lawful of held clean free page less its =
    let throttle = throttle_is trace now kit lawful of in
    let last : ℕ → Shown = λ cpu. record (first_shown trace (firsts_of seats)) { held = record_of cpu seats.cpu.cpus } in
    clean_is_cleaned trace kit last seats inode page throttle held clean (subst (λ (n : ℕ). page < n) (sym throttle.pages_are) less) its (λ cpu there. free cpu page there)

-- ---- each page has its inode

pub inode_there : (trace : Trace) (now : ℕ) (kit : Kit) (page : ℕ) → IsLawful trace → IsKitOf trace now kit → page < pages trace
    → (setting kit.throttle.layout).inode page < length trace.inodes
inode_there trace now kit page lawful of less =
    let throttle = is_throttle trace now lawful in
    let all = throttle.pages_are in
    subst (λ (key : Layout). (setting key).inode page < length trace.inodes) (sym of.layout)
    (page_lies 0 trace.inodes page lawful.within.inodes.firsts (omega arith) (omega arith)).there
