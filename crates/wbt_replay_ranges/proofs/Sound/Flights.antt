-- Moves of a flusher that flies.
use Rattle.std.proofs.Common.{◌≡◌, ◌≢◌, ℕ, zero, suc, ◌+◌, ◌-◌, ◌/◌, ◌^◌, ◌<◌, ◌≤◌, false, eqb, not, negsuc, List, [], ◌∷◌, ◌++◌, length, get_or, refl, sym, ◌∙◌, ap, subst, arith, eqb-true}
use Rattle.std.specs.List.{sum_by}
use Rattle.std.proofs.Math.ListN.{set}
use Rattle.std.proofs.lemmas.Bool.Decides.{nat_tests}
use Rattle.std.proofs.lemmas.Nat.{shr_le}
use Rattle.std.proofs.lemmas.List.{nil_from_length, get_or-set_same, get_or-set_other}
use Rattle.std.proofs.lemmas.List.Elements.{All-tail}
use Rattle.wbt_replay_order.proofs.Common.{Book, bits_after, put, aged, fraction_of, may_be_added, Half, domains, Entry, StepEntry, Trace, complete_first, complete_in, share, share_now, share_group, landed, land_in, State, cpu_of, flusher_of, domain_of, writeback_of, no_flusher, no_domain, no_context, context_of, group_of, max_share, Domain, Flusher, ReplayPhase, Writeback, is_finished, Facts, IsFlusherOn, IsPageOf, silent_ticks, IsAt, written_of, flown_of, IsFlying, IsOpen, IsOpenAt}
use Rattle.wbt_book.specs.declared.event.Event.TheVariants as event
use Rattle.wbt_flex.specs.Proportions.{added}
use Rattle.wbt_grant.specs.declared.who.StepKind.TheVariants as kind
use Rattle.wbt_journal.specs.declared.entry.Entry.TheVariants as entry
use Rattle.wbt_replay_moves.specs.declared.state.ReplayPhase.TheVariants as phase
use Rattle.wbt_replay_moves.specs.declared.state.Whose.TheVariants as whose
use Rattle.wbt_replay_moves.specs.declared.todo.Silent.TheVariants as silent
use Rattle.wbt_replay_moves.specs.declared.todo.Todo.TheVariants as todo
use Rattle.wbt_replay_order.specs.Kept.Sound.{IsFlightOf}
use Rattle.wbt_replay_order.proofs.Facts.Lists.{either}
use Rattle.wbt_replay_ranges.proofs.Sound.Counters.{Ready, with_step}
use Rattle.wbt_replay_ranges.proofs.Sound.FlusherTurn.{turn_flusher}
use Rattle.wbt_replay_ranges.proofs.Sound.Going.{Going}
use Rattle.wbt_replay_order.proofs.Lists.Numbered.{one_if, set_all, sum_set}
use Rattle.wbt_replay_ranges.proofs.Sound.Owed.{owed_done}
use Rattle.wbt_replay_ranges.proofs.Sound.Own.{Free, Done, push, logged_going, logged_free, logged_whose}
use Rattle.wbt_replay_ranges.proofs.Sound.Scans.{agrees_now, free_step, stays_done}
use Rattle.wbt_replay_ranges.proofs.Sound.Things.{event_going, domain_going, context_frame, context_going}
use Rattle.wbt_replay_ranges.proofs.Sound.Working.{works}

pub group_inside : (trace : Trace) (facts : Facts trace) (k : ℕ) → k < length trace.contexts → group_of trace k < domains trace
group_inside trace facts k less = let l = facts.context_group k less in omega (arith, l)

pub global_inside : (trace : Trace) → 0 < domains trace
global_inside trace = omega arith

module _ (trace : Trace) (facts : Facts trace) (i : ℕ) (less : i < trace.cpus) (s : State) (f : ℕ) (on : IsFlusherOn trace i f) (turn : (cpu_of i s).turn.whose ≡ whose.Flusher f) where
  module _ (inode pages until : ℕ) (is : (flusher_of f s).phase ≡ phase.Flying inode pages until) where
    -- ---- a page is complete

    first_done : (page : ℕ) (rest : List ℕ) → (flusher_of f s).batch ≡ page ∷ rest → Ready trace i s → Free trace i 2 s → Done trace i (complete_first trace i f (context_of trace inode) (page ∷ rest) s)
    first_done page rest batch ready free =
        let context : ℕ = context_of trace inode in
        let x : StepEntry = record { who = i; kind = kind.Complete; context = context; change = negsuc 0; domain = 0; peak = 0 } in
        let y : Flusher = record (flusher_of f s) { batch = rest } in
        let g = ready x in
        let at : IsFlightOf trace (page ∷ rest) inode pages = subst (λ b. IsFlightOf trace b inode pages) batch (subst (IsAt trace (flusher_of f s).batch) is (g.holds.flushers.each f).phase) in
        let flight : IsFlightOf trace rest inode pages = record { there = at.there; rest = omega (arith, at.rest); few = at.few; ours = All-tail (IsPageOf trace inode) page rest at.ours } in
        let m = turn_flusher trace facts i less f y s.working 1 0 silent_ticks silent_ticks 0 (with_step x s) on turn g (free_step trace facts i less s f on turn 2 x free)
        (record { phase = subst (IsAt trace rest) (sym is) flight; quota = (g.holds.flushers.each f).quota; hard = (g.holds.flushers.each f).hard; measures = (g.holds.flushers.each f).measures; weighs = (g.holds.flushers.each f).weighs; wheel = (g.holds.flushers.each f).wheel; places = (g.holds.flushers.each f).places })
        (flown_one page rest batch at.rest) (omega arith) (omega arith) (omega arith) refl in
        let z : State = record (with_step x s) { flushers = set s.flushers f y; working = s.working } in
        let book : Book = put s.book page (bits_after (event.Complete page) (s.book page)) in
        let v : State = record z { book = book } in
        let g2 = event_going trace i 0 silent_ticks book z m.going in
        let free2 : Free trace i 2 v = record { whose = m.free.whose; fits = m.free.fits; room = m.free.room } in
        let es : List Entry = (cpu_of i s).entries ++ entry.Done f page ∷ [] in
        let logged = logged_going trace facts i less es (cpu_of i s).checks (cpu_of i s).estimates 0 silent_ticks v g2 in
        let lfree = logged_free trace facts i less es (cpu_of i s).checks (cpu_of i s).estimates 2 0 silent_ticks v g2 free2 in
        let u : State = record v { cpus = set v.cpus i (record (cpu_of i s) { entries = es }) } in
        let turn2 = ◌∙◌ {a = (cpu_of i u).turn.whose} (logged_whose trace facts i less es (cpu_of i s).checks (cpu_of i s).estimates 0 silent_ticks v g2) turn in
        let flies : IsFlying (flusher_of f u).phase = subst (λ (q : Flusher). IsFlying q.phase) (sym m.is) (subst IsFlying (sym is) tt) in
        owed_done trace facts i less (negsuc 0) context (group_of trace context) (todo.Silent silent.Land) 0 silent_ticks 2 u refl (facts.inode_context inode at.there) (group_inside trace facts context (facts.inode_context inode at.there)) (global_inside trace)
        logged lfree (push trace u.tasks u.flushers (cpu_of i u).turn.whose 2 0 (todo.Silent silent.Land) (cpu_of i u).todo lfree.fits tt (agrees_now trace facts i less s f on turn u turn2 (todo.Silent silent.Land) flies) refl (omega arith) (omega arith) (omega arith))
        (λ g' on' e none. absurd (cc none))
      where
        flown_one : (page : ℕ) (rest : List ℕ) → (flusher_of f s).batch ≡ page ∷ rest → length (page ∷ rest) ≤ pages → flown_of (record (flusher_of f s) { batch = rest }) + 0 ≤ flown_of (flusher_of f s) + 1
        flown_one page rest batch few =
            let e : flown_of (record (flusher_of f s) { batch = rest }) ≡ pages + (pages - length rest) = ap (λ p. flown_of (record (flusher_of f s) { phase = p; batch = rest })) is in
            let e' : flown_of (flusher_of f s) ≡ pages + (pages - length (flusher_of f s).batch) = ap (λ p. flown_of (record (flusher_of f s) { phase = p })) is in
            omega (arith, e, e', ap length batch, few)

    complete_done : (batch : List ℕ) → (flusher_of f s).batch ≡ batch → 1 ≤ length batch → Ready trace i s → Free trace i 2 s → Done trace i (complete_first trace i f (context_of trace inode) batch s)
    complete_done [] e some ready free = absurd (omega (arith, some))
    complete_done (page ∷ rest) e some ready free = first_done page rest e ready free

  -- ---- the batch is counted in

  -- A part and its domain have at most so many events before they get n more; the other domains keep theirs.
  record Shared (k n most : ℕ) (x y : State) : Type 0 where
    pub going : Going trace i 0 0 y
    pub free : Free trace i 2 y
    pub owner : (cpu_of i y).turn.whose ≡ whose.Flusher f
    pub flusher : flusher_of f y ≡ flusher_of f x
    pub total : most + n ≤ sum_by written_of y.contexts
    pub events : (d : ℕ) → d ≢ 0 → (domain_of d y).events.events ≤ most + 1
    pub cgroup_part : (writeback_of k y).cgroup_part.events ≤ most

  record Landed (x y : State) : Type 0 where
    pub going : Going trace i 0 0 y
    pub free : Free trace i 2 y
    pub owner : (cpu_of i y).turn.whose ≡ whose.Flusher f
    pub flusher : flusher_of f y ≡ flusher_of f x

  half_less : (p q : ℕ) → p / 2 ^ q ≤ p
  half_less p q = shr_le p q

  -- the entry of a share
  noted : (es : List Entry) (x : State) → Going trace i 0 0 x → Free trace i 2 x → (cpu_of i x).turn.whose ≡ whose.Flusher f
      → Going trace i 0 0 (record x { cpus = set x.cpus i (record (cpu_of i x) { entries = es }) })
      × Free trace i 2 (record x { cpus = set x.cpus i (record (cpu_of i x) { entries = es }) })
      × ((cpu_of i (record x { cpus = set x.cpus i (record (cpu_of i x) { entries = es }) })).turn.whose ≡ whose.Flusher f)
  noted es x g free turn' = (
    logged_going trace facts i less es (cpu_of i x).checks (cpu_of i x).estimates 0 0 x g,
    logged_free trace facts i less es (cpu_of i x).checks (cpu_of i x).estimates 2 0 0 x g free,
    logged_whose trace facts i less es (cpu_of i x).checks (cpu_of i x).estimates 0 0 x g ∙ turn',
  )

  global_share : (k n most : ℕ) (x : State) → k < length trace.contexts → Going trace i 0 0 x → Free trace i 2 x → (cpu_of i x).turn.whose ≡ whose.Flusher f → most + n ≤ sum_by written_of x.contexts
      → ((d : ℕ) → (domain_of d x).events.events ≤ most + 1) → (writeback_of k x).part.events ≤ most → (writeback_of k x).cgroup_part.events ≤ most
      → Shared k n most x (share_now i 0 k n x)
  global_share k n most x there g free turn' total events part cgroup_part =
      let d : Domain = domain_of 0 x in
      let w : Writeback = writeback_of k x in
      let at = g.holds.domains.each 0 in
      let p : Half = added (aged w.part d.events.period) n in
      let half = half_less w.part.events (d.events.period - w.part.period) in
      let here : 0 < length x.domains = omega (arith, g.holds.domains.many) in
      let in_all : k < length x.contexts = omega (arith, there, g.holds.contexts.many) in
      let d' : Domain = record d { events = added d.events n } in
      let g1 = domain_going trace i 0 0 0 d' x g here (record { limits = at.limits; sequence = at.sequence; under_peak = at.under_peak; peak = at.peak; count = at.count; period = at.period })
      (omega arith) (omega arith) (let l = events 0 in omega (arith, l, total)) in
      let y : State = record x { domains = set x.domains 0 d' } in
      let was = g1.holds.contexts.each k there in
      let same : (get_or (set x.domains 0 d') 0 no_domain).events.period ≡ d.events.period = ap (λ (q : Domain). q.events.period) (get_or-set_same x.domains 0 d' no_domain here) in
      let w' : Writeback = record w { part = p } in
      let g2 = context_going trace i 0 0 k w' y g1 in_all (record { count = was.count; estimate = was.estimate; estimated = was.estimated; part = omega (arith, same); cgroup_part = was.cgroup_part })
      refl (omega (arith, half, part, total)) (omega (arith, cgroup_part, total)) in
      let z : State = record y { contexts = set x.contexts k w' } in
      let e = entry.Share 0 k n in
      let l = noted ((cpu_of i x).entries ++ e ∷ []) z g2 (record { whose = free.whose; fits = free.fits; room = free.room }) turn' in
      let sums = sum_set written_of x.contexts k w' no_context in_all in
      record {
        going = l.0;
        free = l.1;
        owner = l.2;
        flusher = refl;
        total = omega (arith, total, sums);
        events = λ c n'. subst (λ (q : Domain). q.events.events ≤ most + 1) (sym (get_or-set_other x.domains 0 c d' no_domain n')) (events c);
        cgroup_part = subst (λ (q : Writeback). q.cgroup_part.events ≤ most) (sym (get_or-set_same x.contexts k w' no_context in_all)) cgroup_part;
      }

  group_share : (c k n most : ℕ) (x x0 : State) → k < length trace.contexts → group_of trace k ≡ suc c → Shared k n most x0 x → Landed x0 (share_now i (suc c) k n x)
  group_share c k n most x x0 there group sh =
      let g = sh.going in
      let d : Domain = domain_of (suc c) x in
      let w : Writeback = writeback_of k x in
      let at = g.holds.domains.each (suc c) in
      let p : Half = added (aged w.cgroup_part d.events.period) n in
      let half = half_less w.cgroup_part.events (d.events.period - w.cgroup_part.period) in
      let inside = group_inside trace facts k there in
      let here : suc c < length x.domains = omega (arith, g.holds.domains.many, inside, group) in
      let in_all : k < length x.contexts = omega (arith, there, g.holds.contexts.many) in
      let total = sh.total in
      let d' : Domain = record d { events = added d.events n } in
      let g1 = domain_going trace i 0 0 (suc c) d' x g here (record { limits = at.limits; sequence = at.sequence; under_peak = at.under_peak; peak = at.peak; count = at.count; period = at.period })
      (omega arith) (omega arith) (let l = sh.events (suc c) (λ e. absurd (cc e)) in omega (arith, l, total)) in
      let y : State = record x { domains = set x.domains (suc c) d' } in
      let was = g1.holds.contexts.each k there in
      let same : (get_or (set x.domains (suc c) d') (group_of trace k) no_domain).events.period ≡ d.events.period =
      ap (λ (m : ℕ). (get_or (set x.domains (suc c) d') m no_domain).events.period) group ∙ ap (λ (q : Domain). q.events.period) (get_or-set_same x.domains (suc c) d' no_domain here) in
      let w' : Writeback = record w { cgroup_part = p } in
      let cgroup_part = sh.cgroup_part in
      let g2 = context_going trace i 0 0 k w' y g1 in_all (record { count = was.count; estimate = was.estimate; estimated = was.estimated; part = was.part; cgroup_part = omega (arith, same) })
      refl (g1.holds.written.part k) (omega (arith, half, cgroup_part, total)) in
      let z : State = record y { contexts = set x.contexts k w' } in
      let e = entry.Share (suc c) k n in
      let l = noted ((cpu_of i x).entries ++ e ∷ []) z g2 (record { whose = sh.free.whose; fits = sh.free.fits; room = sh.free.room }) sh.owner in
      record {
        going = l.0;
        free = l.1;
        owner = l.2;
        flusher = sh.flusher;
      }

  share_group_done : (group k n most : ℕ) (x x0 : State) → k < length trace.contexts → group_of trace k ≡ group → Shared k n most x0 x → Landed x0 (share_group trace i group k n x)
  share_group_done zero k n most x x0 there group sh = record { going = sh.going; free = sh.free; owner = sh.owner; flusher = sh.flusher }
  share_group_done (suc c) k n most x x0 there group sh = either (Landed x0) (may_be_added (fraction_of (writeback_of k x).cgroup_part (domain_of (suc c) x).events) (max_share trace k)) (share_now i (suc c) k n x) x
      (λ may. group_share c k n most x x0 there group sh)
      (λ no. record { going = sh.going; free = sh.free; owner = sh.owner; flusher = sh.flusher })

  share_done : (k n most : ℕ) (x : State) → k < length trace.contexts → Shared k n most x x → ((d : ℕ) → (domain_of d x).events.events ≤ most + 1) → (writeback_of k x).part.events ≤ most
      → Shared k n most x (share trace i 0 k n x)
  share_done k n most x there sh events part = either (Shared k n most x) (may_be_added (fraction_of (writeback_of k x).part (domain_of 0 x).events) (max_share trace k)) (share_now i 0 k n x) x
      (λ may. global_share k n most x there sh.going sh.free sh.owner sh.total events part sh.cgroup_part)
      (λ no. sh)

  module _ (inode pages until : ℕ) (is : (flusher_of f s).phase ≡ phase.Flying inode pages until) where
    landed_done : Going trace i 0 silent_ticks s → Free trace i 2 s → (flusher_of f s).batch ≡ [] → Done trace i (landed trace i f (context_of trace inode) pages s)
    landed_done g free none =
        let k : ℕ = context_of trace inode in
        let at : IsFlightOf trace (flusher_of f s).batch inode pages = subst (IsAt trace (flusher_of f s).batch) is (g.holds.flushers.each f).phase in
        let there : k < length trace.contexts = facts.inode_context inode at.there in
        let y : Flusher = record (flusher_of f s) { phase = phase.Idle 0 false } in
        let works' : s.working + one_if (works (flusher_of f s)) ≡ s.working + one_if (works y) = ap (λ (p : ReplayPhase). s.working + one_if (not (is_finished p))) is in
        let m = turn_flusher trace facts i less f y s.working 0 0 silent_ticks 0 0 s on turn g free
        (record { phase = none; quota = tt; hard = (g.holds.flushers.each f).hard; measures = (g.holds.flushers.each f).measures; weighs = (g.holds.flushers.each f).weighs; wheel = (g.holds.flushers.each f).wheel; places = (g.holds.flushers.each f).places })
        (omega arith) (omega arith) (omega arith) (omega arith) works' in
        let z : State = record s { flushers = set s.flushers f y; working = s.working } in
        let w : Writeback = writeback_of k s in
        let w' : Writeback = record w { written = w.written + pages } in
        let in_all : k < length s.contexts = omega (arith, there, g.holds.contexts.many) in
        let sums = sum_set written_of s.contexts k w' no_context in_all in
        let most : ℕ = sum_by written_of s.contexts in
        let flown = sum_set flown_of s.flushers f y no_flusher (omega (arith, on.there, g.holds.flushers.many)) in
        let was : flown_of (flusher_of f s) ≡ pages + (pages - length (flusher_of f s).batch) = ap (λ p. flown_of (record (flusher_of f s) { phase = p })) is in
        let total : sum_by written_of (set s.contexts k w') ≡ most + pages = omega (arith, sums) in
        let before = g.holds.contexts.each k there in
        let g2 = context_frame trace i 0 0 k w' z m.going in_all (record { count = before.count; estimate = before.estimate; estimated = before.estimated; part = before.part; cgroup_part = before.cgroup_part })
        (record {
          total = omega (arith, g.holds.written.total, total, flown, was, ap length none);
          events = λ d. omega (arith, g.holds.written.events d, total);
          part = set_all (λ j (v : Writeback). v.part.events ≤ sum_by written_of (set s.contexts k w')) s.contexts k w' no_context (omega (arith, g.holds.written.part k, total)) (λ j. omega (arith, g.holds.written.part j, total));
          cgroup_part = set_all (λ j (v : Writeback). v.cgroup_part.events ≤ sum_by written_of (set s.contexts k w')) s.contexts k w' no_context (omega (arith, g.holds.written.cgroup_part k, total)) (λ j. omega (arith, g.holds.written.cgroup_part j, total));
        }) in
        let x : State = record z { contexts = set s.contexts k w' } in
        let now : writeback_of k x ≡ w' = get_or-set_same s.contexts k w' no_context in_all in
        let events = g.holds.written.events in
        let first : Shared k pages most x x = record {
          going = g2;
          free = record { whose = m.free.whose; fits = m.free.fits; room = m.free.room };
          owner = turn;
          flusher = refl;
          total = omega (arith, total);
          events = λ d n. events d;
          cgroup_part = subst (λ (v : Writeback). v.cgroup_part.events ≤ most) (sym now) (g.holds.written.cgroup_part k);
        } in
        let after = share_group_done (group_of trace k) k pages most (share trace i 0 k pages x) x there refl
        (share_done k pages most x there first events (subst (λ (v : Writeback). v.part.events ≤ most) (sym now) (g.holds.written.part k))) in
        stays_done trace facts i less s f on turn 0 0 2 (share_group trace i (group_of trace k) k pages (share trace i 0 k pages x)) after.going after.free after.owner
        (subst (IsOpen trace) (sym (after.flusher ∙ m.is)) tt)

    land_done : Going trace i 0 silent_ticks s → Free trace i 2 s → Done trace i (land_in trace i f (phase.Flying inode pages until) s)
    land_done g free = either (Done trace i) (eqb (length (flusher_of f s).batch) 0) (landed trace i f (context_of trace inode) pages s) s
        (λ none. landed_done g free (nil_from_length (flusher_of f s).batch (eqb-true (length (flusher_of f s).batch) 0 none)))
        (λ some. stays_done trace facts i less s f on turn 0 silent_ticks 2 s g free turn (subst (IsOpenAt trace (flusher_of f s).batch) (sym is) (grind (arith, nat_tests))))

  -- ---- by the flusher's phase

  module _ (p : ReplayPhase) (is : (flusher_of f s).phase ≡ p) where
    pub complete_at : Ready trace i s → Free trace i 2 s → IsFlying p → IsOpenAt trace (flusher_of f s).batch p → Done trace i (complete_in trace i f p s)
    complete_at ready free flies opens = by_phase p is flies opens
      where
        by_phase : (q : ReplayPhase) → (flusher_of f s).phase ≡ q → IsFlying q → IsOpenAt trace (flusher_of f s).batch q → Done trace i (complete_in trace i f q s)
        by_phase (phase.Idle until kept) e h o = absurd h
        by_phase (phase.Taken inode) e h o = absurd h
        by_phase (phase.Scanning scan) e h o = absurd h
        by_phase (phase.Flying inode pages until) e h o = complete_done inode pages until e (flusher_of f s).batch refl o ready free
        by_phase phase.Finished e h o = absurd h

    pub land_at : Going trace i 0 silent_ticks s → Free trace i 2 s → IsFlying p → Done trace i (land_in trace i f p s)
    land_at g free flies = by_phase p is flies
      where
        by_phase : (q : ReplayPhase) → (flusher_of f s).phase ≡ q → IsFlying q → Done trace i (land_in trace i f q s)
        by_phase (phase.Idle until kept) e h = absurd h
        by_phase (phase.Taken inode) e h = absurd h
        by_phase (phase.Scanning scan) e h = absurd h
        by_phase (phase.Flying inode pages until) e h = land_done inode pages until e g free
        by_phase phase.Finished e h = absurd h
