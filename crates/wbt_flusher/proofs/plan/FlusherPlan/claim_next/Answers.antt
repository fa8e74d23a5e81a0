use Rattle.wbt_flusher.proofs.Common.{Setting, setting, Seated, CpuJournal, page_of, Scan, with_entry, Seats, Goes}
use Rattle.wbt_table.specs.Calls.{Claims}
use Rattle.wbt_table.specs.declared.answer.Claim.{Claim}
use Rattle.wbt_table.specs.declared.answer.Claim.TheVariants as table
use Rattle.wbt_run_steps.proofs.Gating.{asked_halt, asked_look, asked_try}
use Rattle.std.proofs.Common.{◌≡◌, ℕ, ◌+◌, Bool, true, false, ◌||◌, eqb, [], ◌∷◌, ◌++◌, inl, inr, true≢false, refl, sym, ap, ◌∙◌, subst, arith}
use Rattle.wbt_journal.specs.declared.entry.Entry.TheVariants as entry
use Rattle.wbt_flusher.specs.declared.work.Phase.TheVariants.{Scanning}
use Rattle.wbt_flusher.specs.declared.work.FlusherWork.{FlusherWork}
use Rattle.wbt_flusher.proofs.Looking.{claims_page, passes_page, misses, halted, stops_at, claimed_stands, passed_stands, both_of}
use Rattle.wbt_flusher.proofs.Turning.{claimed_as, halted_as, looked_as}
use Rattle.wbt_flusher.proofs.plan.FlusherPlan.claim_next.Goals as goal

or_left : (a b : Bool) → a ≡ true → (a || b) ≡ true
or_left true b is = refl
or_left false b is = absurd (true≢false (sym is))

or_right : (a b : Bool) → b ≡ true → (a || b) ≡ true
or_right true b is = refl
or_right false b is = is

-- a claim of the page at which the scan looks
at_page : (set : Setting) (cpu p q : ℕ) (said : ℕ → Bool → Type 0) (answer : Claim) (old new : Seated) → p ≡ q → Claims set cpu p said answer old new → Claims set cpu q said answer old new
at_page set cpu p q said answer old new same claims = subst (λ (n : ℕ). Claims set cpu n said answer old new) same claims

pub returns-in-Mine : goal.returns-in-Mine
returns-in-Mine g c =
    let batch = c.push_reserved.ensures.items ∙ ap (λ (p : ℕ). c.args.work.now.batch.items ++ p ∷ []) c.page-page.ensures.value in
    let log = c.tell.ensures.log ∙ ap (λ (p : ℕ). with_entry (entry.Claimed c.args.self.now.flusher p) c.args.pen.now.log) c.page-page.ensures.value in
    let e = at_page (setting c.args.hands.now.kit.now.throttle.layout) c.args.self.now.cpu c.page-page.result (page_of c.args.scan) (g.G.Gate.said c.args.hands.now.gate.now c.args.self.now.cpu) table.Mine c.args.seats.now.cpu c.claim.new.seat c.page-page.ensures.value c.in-Mine.ensures in
    let scan = c.args.scan in
    let next : Scan = record scan { passed = scan.passed + 1 } in
    let was : FlusherWork = c.args.work.now in
    let is : FlusherWork = record { phase = Scanning next; batch = c.push_reserved.new.self; faults = was.faults; hard = was.hard; waiting = was.waiting; some_wait = was.some_wait; tallies = was.tallies; wheel = was.wheel; places = was.places } in
    let new : Seats = record { cpu = c.claim.new.seat; share = c.args.seats.now.share; est = c.args.seats.now.est; queue = c.args.seats.now.queue } in
    let gives = claims_page c.args.self.now c.args.hands.now.kit.now c.args.seats.now new c.args.pen.now.log was is scan next e.0 c.requires.suits c.requires.fits (record { share = refl; est = refl; queue = refl })
    c.requires.scan c.requires.phase refl refl (λ noted. noted) refl refl refl batch e.1 e.2 in
    let l = c.requires.lists in
    let room = c.tell.ensures.room in
    record {
      goes = subst (λ (l : CpuJournal). Goes c.args.self.now c.args.hands.now.kit.now c.args.seats.now new c.args.pen.now.log l was is) (sym log) gives.goes;
      fits = gives.fits;
      lists = record { proper = l.proper; tallies = l.tallies; waiting = l.waiting; none_wait = l.none_wait; wheel = l.wheel; places = l.places };
      debts = gives.debts;
      page = λ written. record {
        phase = refl;
        rest = record { faults = refl; hard = refl; waiting = refl; some_wait = refl; wheel = refl; places = refl };
        tallies = refl;
        only = record { share = refl; est = refl; queue = refl };
        page = inl (record { word = e.0; claimable = e.1; claims = e.2; told = log; batch = batch; next_is = refl });
      };
      looks = claimed_stands c.args.self.now was is scan next c.requires.suits.plan_is c.requires.scan c.requires.before c.requires.below refl refl refl batch;
      asked = asked_try c.args.self.now.cpu (g.G.Gate.said c.args.hands.now.gate.now) (setting c.args.hands.now.kit.now.throttle.layout) (page_of scan) e.0 e.0 c.args.seats.now new c.requires.fits.held e.5 e.6 e.2;
      kinds = claimed_as c.args.self.now.cpu (setting c.args.hands.now.kit.now.throttle.layout) (page_of scan) e.0 e.0 c.args.seats.now new e.4;
      room = omega arith;
    }

pub returns-in-NotDirty : goal.returns-in-NotDirty
returns-in-NotDirty g c =
    let e = at_page (setting c.args.hands.now.kit.now.throttle.layout) c.args.self.now.cpu c.page-page.result (page_of c.args.scan) (g.G.Gate.said c.args.hands.now.gate.now c.args.self.now.cpu) (table.NotDirty c.in-NotDirty.word) c.args.seats.now.cpu c.claim.new.seat c.page-page.ensures.value c.in-NotDirty.ensures in
    let scan = c.args.scan in
    let n = e.0 in
    let next : Scan = record scan { passed = scan.passed + 1; noted = c.noted_after.result } in
    let was : FlusherWork = c.args.work.now in
    let is : FlusherWork = record { phase = Scanning next; batch = was.batch; faults = was.faults; hard = was.hard; waiting = was.waiting; some_wait = was.some_wait; tallies = was.tallies; wheel = was.wheel; places = was.places } in
    let new : Seats = record { cpu = c.claim.new.seat; share = c.args.seats.now.share; est = c.args.seats.now.est; queue = c.args.seats.now.queue } in
    let noted = c.noted_after.ensures in
    let gives = passes_page c.args.self.now c.args.hands.now.kit.now c.args.seats.now new c.args.pen.now.log was is scan next n c.requires.suits c.requires.fits (record { share = refl; est = refl; queue = refl })
    c.requires.scan c.requires.phase refl refl (λ is_noted. noted ∙ or_left scan.noted (eqb c.in-NotDirty.word 3) is_noted) refl refl refl refl e.2
    (λ both. noted ∙ or_right scan.noted (eqb c.in-NotDirty.word 3) (ap (λ (k : ℕ). eqb k 3) e.1 ∙ both_of n (page_of scan) ∙ both)) e.3 in
    let l = c.requires.lists in
    record {
      goes = gives.goes;
      fits = gives.fits;
      lists = record { proper = l.proper; tallies = l.tallies; waiting = l.waiting; none_wait = l.none_wait; wheel = l.wheel; places = l.places };
      debts = gives.debts;
      page = λ written. record {
        phase = refl;
        rest = record { faults = refl; hard = refl; waiting = refl; some_wait = refl; wheel = refl; places = refl };
        tallies = refl;
        only = record { share = refl; est = refl; queue = refl };
        page = inr (record {
          word = n;
          not_claimable = e.2;
          looks = e.3;
          told = refl;
          batch = refl;
          next_is = λ i. record scan { passed = scan.passed + 1; noted = (noted ∙ ap (λ (k : ℕ). scan.noted || eqb k 3) e.1 ∙ ap (λ (b : Bool). scan.noted || b) (both_of n (page_of scan))) i };
        });
      };
      looks = passed_stands c.args.self.now was is scan next c.requires.scan c.requires.before refl refl refl refl;
      asked = asked_look c.args.self.now.cpu (g.G.Gate.said c.args.hands.now.gate.now) (setting c.args.hands.now.kit.now.throttle.layout) (page_of scan) n c.args.seats.now new c.requires.fits.held e.5 e.3;
      kinds = looked_as c.args.self.now.cpu (setting c.args.hands.now.kit.now.throttle.layout) (page_of scan) n c.args.seats.now new e.4;
      room = omega arith;
    }

pub returns-in-Missed : goal.returns-in-Missed
returns-in-Missed g c =
    let e = at_page (setting c.args.hands.now.kit.now.throttle.layout) c.args.self.now.cpu c.page-page.result (page_of c.args.scan) (g.G.Gate.said c.args.hands.now.gate.now c.args.self.now.cpu) (table.Missed c.in-Missed.first c.in-Missed.second) c.args.seats.now.cpu c.claim.new.seat c.page-page.ensures.value c.in-Missed.ensures in
    let new : Seats = record { cpu = c.claim.new.seat; share = c.args.seats.now.share; est = c.args.seats.now.est; queue = c.args.seats.now.queue } in
    let gives = misses c.args.self.now c.args.hands.now.kit.now c.args.seats.now new (page_of c.args.scan) c.in-Missed.first c.requires.fits (record { share = refl; est = refl; queue = refl }) e.0 c.in-Missed.second e.1 e.2 in
    record {
      goes = λ told written. gives.goes told c.args.work.now c.args.pen.now.log written;
      fits = gives.fits;
      lists = c.requires.lists;
      debts = gives.debts;
      page = λ written. record { first = c.in-Missed.first; second = c.in-Missed.second; claimable = e.0; changed = e.1; tries = e.2; only = record { share = refl; est = refl; queue = refl }; told = refl; work = refl };
      looks = refl;
      asked = asked_try c.args.self.now.cpu (g.G.Gate.said c.args.hands.now.gate.now) (setting c.args.hands.now.kit.now.throttle.layout) (page_of c.args.scan) c.in-Missed.first c.in-Missed.second c.args.seats.now new c.requires.fits.held e.4 e.5 e.2;
      kinds = claimed_as c.args.self.now.cpu (setting c.args.hands.now.kit.now.throttle.layout) (page_of c.args.scan) c.in-Missed.first c.in-Missed.second c.args.seats.now new e.3;
      room = omega arith;
    }

pub returns-in-Stopped : goal.returns-in-Stopped
returns-in-Stopped g c =
    let e = at_page (setting c.args.hands.now.kit.now.throttle.layout) c.args.self.now.cpu c.page-page.result (page_of c.args.scan) (g.G.Gate.said c.args.hands.now.gate.now c.args.self.now.cpu) table.Stopped c.args.seats.now.cpu c.claim.new.seat c.page-page.ensures.value c.in-Stopped.ensures in
    let new : Seats = record { cpu = c.claim.new.seat; share = c.args.seats.now.share; est = c.args.seats.now.est; queue = c.args.seats.now.queue } in
    let gives = halted c.args.self.now c.args.hands.now.kit.now (g.G.Gate.said c.args.hands.now.gate.now c.args.self.now.cpu) c.args.seats.now new (page_of c.args.scan) c.requires.fits (record { share = refl; est = refl; queue = refl }) e.1 in
    record {
      goes = λ told written. gives.goes told c.args.work.now c.args.pen.now.log written;
      fits = gives.fits;
      lists = c.requires.lists;
      debts = gives.debts;
      page = λ written. record {
        only = record { share = refl; est = refl; queue = refl };
        told = refl;
        work = refl;
        stops = stops_at c.args.self.now c.args.hands.now.kit.now (g.G.Gate.said c.args.hands.now.gate.now c.args.self.now.cpu) (page_of c.args.scan) c.args.seats.now.cpu c.claim.new.seat e.1;
      };
      looks = (refl, e.0);
      asked = asked_halt c.args.self.now.cpu (g.G.Gate.said c.args.hands.now.gate.now) (setting c.args.hands.now.kit.now.throttle.layout) (page_of c.args.scan) c.args.seats.now new c.requires.fits.held e.1;
      kinds = halted_as c.args.self.now.cpu (setting c.args.hands.now.kit.now.throttle.layout) (page_of c.args.scan) (g.G.Gate.said c.args.hands.now.gate.now c.args.self.now.cpu) c.args.seats.now new e.1;
      room = omega arith;
    }
