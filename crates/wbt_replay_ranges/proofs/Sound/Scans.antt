-- Moves of a flusher that scans.
use Rattle.std.proofs.Common.{◌≡◌, ℕ, ◌+◌, ◌*◌, ◌/◌, ◌<◌, ◌≤◌, Bool, true, false, eqb, ltb, leb, not, ◌||◌, ◌&&◌, List, [], ◌∷◌, ◌++◌, length, refl, sym, ◌∙◌, ap, subst, arith, length-append, eqb-true}
use Rattle.std.specs.Int.{div_ceil}
use Rattle.std.proofs.Math.ListN.{set}
use Rattle.std.proofs.lemmas.Nat.{mul-le}
use Rattle.std.proofs.lemmas.Bool.Decides.{nat_tests}
use Rattle.std.proofs.lemmas.List.{nil_from_length, length-set}
use Rattle.std.proofs.lemmas.List.Elements.{All-push}
use Rattle.wbt_replay_order.proofs.Common.{is_claimable, shared_word, put, Book, bits_after, Entry, pages_in, Trace, StepEntry, then_do, FLUSHER_REST, look_in, claim_now, claim_in, close_items, is_scan_over, places_after, close_in, fly, land_empty, hand_over_in, done_at, State, cpu_of, flusher_of, in_phase, page_of, device_at, inode_of, flusher_device, Scan, Flusher, ReplayPhase, Whose, Todo, is_finished, Facts, IsFlusherOn, IsPageOf, silent_ticks, IsAt, flown_of, Agrees, FlusherAgrees, IsScanning, IsOpen, IsOpenAt}
use Rattle.wbt_book.specs.declared.event.Event.TheVariants as event
use Rattle.wbt_grant.specs.declared.who.StepKind.TheVariants as kind
use Rattle.wbt_journal.specs.declared.entry.Entry.TheVariants as entry
use Rattle.wbt_rules.specs.Places.{place_after}
use Rattle.wbt_rules.specs.Things.{rate_of}
use Rattle.wbt_replay_moves.specs.declared.state.ReplayPhase.TheVariants as phase
use Rattle.wbt_replay_moves.specs.declared.state.Whose.TheVariants as whose
use Rattle.wbt_replay_moves.specs.declared.todo.Silent.TheVariants as silent
use Rattle.wbt_replay_moves.specs.declared.todo.Step.TheVariants as step
use Rattle.wbt_replay_moves.specs.declared.todo.Todo.TheVariants as todo
use Rattle.wbt_replay_order.specs.Kept.Sound.{IsScanAt, IsQuotaOf, ArePlaces}
use Rattle.wbt_rules.proofs.Places.{place_below}
use Rattle.wbt_replay_order.proofs.Facts.Lists.{either}
use Rattle.wbt_replay_order.proofs.Facts.Scans.{scan_page}
use Rattle.wbt_replay_ranges.proofs.Sound.Counters.{Ready, with_step, plain_entry, credit_few}
use Rattle.wbt_replay_ranges.proofs.Sound.FlusherTurn.{turn_flusher}
use Rattle.wbt_replay_ranges.proofs.Sound.Going.{Going, spare_going}
use Rattle.wbt_replay_order.proofs.Lists.Numbered.{one_if, set_all}
use Rattle.wbt_replay_ranges.proofs.Sound.Own.{Free, Done, push, do_done, done_free, logged_going, logged_free, logged_whose}
use Rattle.wbt_replay_ranges.proofs.Sound.Things.{event_going}
use Rattle.wbt_replay_ranges.proofs.Sound.Working.{works}

-- ---- numbers

le_times : (b n : ℕ) → 1 ≤ b → n ≤ b * n
le_times b n h = let l : 1 * n ≤ b * n = mul-le 1 n b n h (omega arith) in omega (arith, l)

ceil_less : (a b : ℕ) → 1 ≤ b → div_ceil a b ≤ a
ceil_less a b h = let l = le_times b (a / b) h in omega (arith, l)

module _ (trace : Trace) (facts : Facts trace) (i : ℕ) (less : i < trace.cpus) (s : State) (f : ℕ) (on : IsFlusherOn trace i f) (turn : (cpu_of i s).turn.whose ≡ whose.Flusher f) where
  -- the flusher whose turn it is is f
  pub own_open : (t : State) → (cpu_of i t).turn.whose ≡ whose.Flusher f → IsOpen trace (flusher_of f t) → (g : ℕ) → (cpu_of i t).turn.whose ≡ whose.Flusher g → IsOpen trace (flusher_of g t)
  own_open t is h g e = subst (λ (n : ℕ). IsOpen trace (flusher_of n t)) (let same : whose.Flusher f ≡ whose.Flusher g = sym is ∙ e in cc) h

  pub agrees_now : (t : State) → (cpu_of i t).turn.whose ≡ whose.Flusher f → (item : Todo) → FlusherAgrees trace (flusher_of f t) item → Agrees trace t.tasks t.flushers (cpu_of i t).turn.whose item
  agrees_now t is item h = subst (λ (w : Whose). Agrees trace t.tasks t.flushers w item) (sym is) h

  page_there : (batch : List ℕ) (scan : Scan) → IsScanAt trace batch scan → IsPageOf trace scan.inode (page_of scan)
  page_there batch scan at = scan_page trace scan at.there at.first_is at.pages_is at.start

  -- the scan may close next
  pub put_close : (e t : ℕ) (x : State) → Going trace i e t x → Free trace i 2 x → silent_ticks ≤ t → (cpu_of i x).turn.whose ≡ whose.Flusher f → IsScanning (flusher_of f x).phase → Done trace i (then_do i (todo.Silent silent.Close ∷ []) x)
  put_close e t x g free much is scans =
      let few = credit_few (todo.Silent silent.Close ∷ (cpu_of i x).todo) in
      do_done trace facts i less (todo.Silent silent.Close ∷ []) e t 2 1 x g free
      (push trace x.tasks x.flushers (cpu_of i x).turn.whose 2 1 (todo.Silent silent.Close) (cpu_of i x).todo free.fits tt (agrees_now x is (todo.Silent silent.Close) scans) refl (omega arith) (omega arith) (omega arith))
      (omega (arith, few, much)) (λ g' on' e' none. absurd (cc none))

  pub free_step : (n : ℕ) (x : StepEntry) → Free trace i n s → Free trace i n (with_step x s)
  free_step n x h = record { whose = h.whose; fits = h.fits; room = h.room }

  -- the move changes nothing of the CPU or its flusher
  pub stays_done : (e t n : ℕ) (x : State) → Going trace i e t x → Free trace i n x → (cpu_of i x).turn.whose ≡ whose.Flusher f → IsOpen trace (flusher_of f x) → Done trace i x
  stays_done e t n x g free is opens = done_free trace i n x (spare_going trace i e 0 t 0 x (omega arith) (omega arith) g) (λ g' on' e' none. own_open x is opens g' e') free

  module _ (scan : Scan) (is : (flusher_of f s).phase ≡ phase.Scanning scan) where
    scan_at : (e t : ℕ) → Going trace i e t s → IsScanAt trace (flusher_of f s).batch scan
    scan_at e t g = subst (IsAt trace (flusher_of f s).batch) is (g.holds.flushers.each f).phase

    still_works : (x : Flusher) → is_finished x.phase ≡ false → s.working + one_if (works (flusher_of f s)) ≡ s.working + one_if (works x)
    still_works x now = ap (λ (p : ReplayPhase). s.working + one_if (not (is_finished p))) is ∙ sym (ap (λ (b : Bool). s.working + one_if (not b)) now)

    -- each page of its batch was claimed by a step
    flown_is : flown_of (flusher_of f s) ≡ length (flusher_of f s).batch
    flown_is = ap (λ (p : ReplayPhase). flown_of (record (flusher_of f s) { phase = p })) is

    -- ---- a look

    passed_done : (b : Bool) → Ready trace i s → Free trace i 2 s → scan.passed < scan.pages
        → Done trace i (with_step (plain_entry i kind.Look) (then_do i (todo.Silent silent.Close ∷ []) (in_phase f (phase.Scanning (record scan { passed = scan.passed + 1; noted = b })) s)))
    passed_done b ready free more =
        let x : State = with_step (plain_entry i kind.Look) s in
        let g = ready (plain_entry i kind.Look) in
        let at : IsScanAt trace (flusher_of f s).batch scan = subst (IsAt trace (flusher_of f s).batch) is (g.holds.flushers.each f).phase in
        let y : Flusher = record (flusher_of f s) { phase = phase.Scanning (record scan { passed = scan.passed + 1; noted = b }) } in
        let m = turn_flusher trace facts i less f y s.working 1 0 silent_ticks silent_ticks 0 x on turn g (free_step 2 (plain_entry i kind.Look) free)
        (record { phase = record { there = at.there; first_is = at.first_is; pages_is = at.pages_is; start = at.start; behind = omega (arith, at.behind); within = omega (arith, more); some = at.some; few = at.few; ours = at.ours }; quota = subst (IsQuotaOf trace f) is (g.holds.flushers.each f).quota; hard = (g.holds.flushers.each f).hard; measures = (g.holds.flushers.each f).measures; weighs = (g.holds.flushers.each f).weighs; wheel = (g.holds.flushers.each f).wheel; places = (g.holds.flushers.each f).places })
        (omega (arith, flown_is)) (omega arith) (omega arith) (omega arith) (still_works y refl) in
        put_close 0 silent_ticks (record x { flushers = set x.flushers f y; working = s.working }) m.going m.free (omega arith) turn (subst (λ (z : Flusher). IsScanning z.phase) (sym m.is) tt)

    look_done : Ready trace i s → Free trace i 2 s → IsOpenAt trace (flusher_of f s).batch (phase.Scanning scan) → Done trace i (look_in i f (phase.Scanning scan) s)
    look_done ready free more =
        let x : State = with_step (plain_entry i kind.Look) s in
        let g = ready (plain_entry i kind.Look) in
        let b : Bool = scan.noted || ((s.book (page_of scan)).dirty && (s.book (page_of scan)).writeback) in
        let item : Todo = todo.Step (step.Claim (shared_word s.book (page_of scan))) in
        let opens : IsOpen trace (flusher_of f s) = subst (IsOpenAt trace (flusher_of f s).batch) (sym is) more in
        let few = credit_few (item ∷ (cpu_of i s).todo) in
        either (λ y. Done trace i (with_step (plain_entry i kind.Look) y)) (is_claimable (s.book (page_of scan))) (then_do i (item ∷ []) s) (then_do i (todo.Silent silent.Close ∷ []) (in_phase f (phase.Scanning (record scan { passed = scan.passed + 1; noted = b })) s))
        (λ found. do_done trace facts i less (item ∷ []) 1 silent_ticks 2 1 x g (free_step 2 (plain_entry i kind.Look) free)
        (push trace s.tasks s.flushers (cpu_of i s).turn.whose 2 1 item (cpu_of i s).todo free.fits tt (agrees_now s turn item (subst IsScanning (sym is) tt, opens)) refl (omega arith) (omega arith) (omega arith))
        (omega (arith, few)) (λ g' on' e none. own_open s turn opens g' e))
        (λ passed. passed_done b ready free more.0)

    -- ---- a claim

    claimed_done : Ready trace i s → Free trace i 2 s → IsOpenAt trace (flusher_of f s).batch (phase.Scanning scan) → Done trace i (with_step (plain_entry i kind.Claim) (claim_now i f scan s))
    claimed_done ready free more =
        let book : Book = put s.book (page_of scan) (bits_after (event.Claim (page_of scan)) (s.book (page_of scan))) in
        let x : State = record (with_step (plain_entry i kind.Claim) s) { book = book } in
        let g = event_going trace i 1 silent_ticks book (with_step (plain_entry i kind.Claim) s) (ready (plain_entry i kind.Claim)) in
        let at : IsScanAt trace (flusher_of f s).batch scan = subst (IsAt trace (flusher_of f s).batch) is (g.holds.flushers.each f).phase in
        let y : Flusher = record (flusher_of f s) { phase = phase.Scanning (record scan { passed = scan.passed + 1 }); batch = (flusher_of f s).batch ++ page_of scan ∷ [] } in
        let here = page_there (flusher_of f s).batch scan at in
        let longer = length-append (flusher_of f s).batch (page_of scan ∷ []) in
        let free' : Free trace i 2 x = record { whose = free.whose; fits = free.fits; room = free.room } in
        let m = turn_flusher trace facts i less f y s.working 1 0 silent_ticks silent_ticks 0 x on turn g free'
        (record {
          phase = record {
            there = at.there;
            first_is = at.first_is;
            pages_is = at.pages_is;
            start = at.start;
            behind = omega (arith, at.behind, longer);
            within = omega (arith, more.0);
            some = at.some;
            few = omega (arith, more.1, longer);
            ours = All-push (IsPageOf trace scan.inode) (flusher_of f s).batch (page_of scan) at.ours here;
          };
          quota = subst (IsQuotaOf trace f) is (g.holds.flushers.each f).quota;
          hard = (g.holds.flushers.each f).hard;
          measures = (g.holds.flushers.each f).measures;
          weighs = (g.holds.flushers.each f).weighs;
          wheel = (g.holds.flushers.each f).wheel;
          places = (g.holds.flushers.each f).places;
        })
        (omega (arith, flown_is, longer)) (omega arith) (omega arith) (omega arith) (still_works y refl) in
        let z : State = record x { flushers = set x.flushers f y; working = s.working } in
        let es : List Entry = (cpu_of i s).entries ++ entry.Claimed f (page_of scan) ∷ [] in
        let logged = logged_going trace facts i less es (cpu_of i s).checks (cpu_of i s).estimates 0 silent_ticks z m.going in
        let lfree = logged_free trace facts i less es (cpu_of i s).checks (cpu_of i s).estimates 2 0 silent_ticks z m.going m.free in
        let w : State = record z { cpus = set z.cpus i (record (cpu_of i s) { entries = es }) } in
        let turn2 : (cpu_of i w).turn.whose ≡ whose.Flusher f =
        ◌∙◌ {a = (cpu_of i w).turn.whose} (logged_whose trace facts i less es (cpu_of i s).checks (cpu_of i s).estimates 0 silent_ticks z m.going) turn in
        put_close 0 silent_ticks w logged lfree (omega arith) turn2 (subst (λ (v : Flusher). IsScanning v.phase) (sym m.is) tt)

    claim_done : (word : ℕ) → Ready trace i s → Free trace i 2 s → IsOpenAt trace (flusher_of f s).batch (phase.Scanning scan) → Done trace i (claim_in i f word (phase.Scanning scan) s)
    claim_done word ready free more = either (λ y. Done trace i (with_step (plain_entry i kind.Claim) y)) (eqb (shared_word s.book (page_of scan)) word) (claim_now i f scan s) s
        (λ hit. claimed_done ready free more)
        (λ missed. stays_done 1 silent_ticks 2 (with_step (plain_entry i kind.Claim) s) (ready (plain_entry i kind.Claim)) (free_step 2 (plain_entry i kind.Claim) free) turn
        (subst (IsOpenAt trace (flusher_of f s).batch) (sym is) more))

    -- ---- the close

    marks_done : (b : Bool) (x : State) → (cpu_of i x).turn.whose ≡ whose.Flusher f → (flusher_of f x).phase ≡ phase.Scanning scan → Going trace i 0 silent_ticks x → Free trace i 2 x
        → scan.inode < length trace.inodes → Done trace i (then_do i (close_items scan.inode b) x)
    marks_done b x mine at g free there =
        let hand = push trace x.tasks x.flushers (cpu_of i x).turn.whose 2 1 (todo.Silent silent.HandOver) (cpu_of i x).todo free.fits tt (agrees_now x mine (todo.Silent silent.HandOver) (subst IsScanning (sym at) tt)) refl (omega arith) (omega arith) (omega arith) in
        let few = credit_few (todo.Silent silent.HandOver ∷ (cpu_of i x).todo) in
        either (λ items. Done trace i (then_do i items x)) b (todo.Step (step.Mark scan.inode) ∷ todo.Silent silent.HandOver ∷ []) (todo.Silent silent.HandOver ∷ [])
        (λ again. do_done trace facts i less (todo.Step (step.Mark scan.inode) ∷ todo.Silent silent.HandOver ∷ []) 0 silent_ticks 2 1 x g free
        (push trace x.tasks x.flushers (cpu_of i x).turn.whose 1 1 (todo.Step (step.Mark scan.inode)) (todo.Silent silent.HandOver ∷ (cpu_of i x).todo) hand there (agrees_now x mine (todo.Step (step.Mark scan.inode)) tt) refl (omega arith) (omega arith) (omega arith))
        (omega arith) (λ g' on' e' none. absurd (cc none)))
        (λ once. do_done trace facts i less (todo.Silent silent.HandOver ∷ []) 0 silent_ticks 2 1 x g free hand (omega (arith, few)) (λ g' on' e' none. absurd (cc none)))

    -- the place of the inode, which is one of its pages
    places_kept : (places : List ℕ) → IsScanAt trace (flusher_of f s).batch scan → ArePlaces trace places → ArePlaces trace (places_after trace f scan places)
    places_kept places at h =
        let place : ℕ = place_after scan.pages scan.start scan.passed in
        let below = place_below scan.pages scan.start scan.passed at.start in
        either (ArePlaces trace) (device_at trace (flusher_device trace f)).cyclic (set places scan.inode place) places
        (λ cyclic. record {
          many = length-set places scan.inode place ∙ h.many;
          below = set_all (λ n (v : ℕ). n < length trace.inodes → v < (inode_of trace n).pages) places scan.inode place 0 (λ there. omega (arith, below, at.pages_is)) h.below;
        })
        (λ straight. h)

    close_done : Going trace i 0 silent_ticks s → Free trace i 2 s → Done trace i (close_in trace i f (phase.Scanning scan) s)
    close_done g free =
        let at : IsScanAt trace (flusher_of f s).batch scan = scan_at 0 silent_ticks g in
        let again : Bool = scan.noted || ltb scan.passed scan.pages in
        let y : Flusher = record (flusher_of f s) { places = places_after trace f scan (flusher_of f s).places } in
        let m = turn_flusher trace facts i less f y s.working 0 0 silent_ticks silent_ticks 0 s on turn g free
        (record {
          phase = (g.holds.flushers.each f).phase;
          quota = (g.holds.flushers.each f).quota;
          hard = (g.holds.flushers.each f).hard;
          measures = (g.holds.flushers.each f).measures;
          weighs = (g.holds.flushers.each f).weighs;
          wheel = (g.holds.flushers.each f).wheel;
          places = λ there. places_kept (flusher_of f s).places at ((g.holds.flushers.each f).places there);
        })
        (omega arith) (omega arith) (omega arith) (omega arith) refl in
        let x : State = record s { flushers = set s.flushers f y; working = s.working } in
        either (Done trace i) (is_scan_over scan (length (flusher_of f s).batch)) (then_do i (close_items scan.inode again) x) s
        (λ over. marks_done again x turn (ap (λ (v : Flusher). v.phase) m.is ∙ is) m.going m.free at.there)
        (λ on'. stays_done 0 silent_ticks 2 s g free turn (subst (IsOpenAt trace (flusher_of f s).batch) (sym is) (not_over scan.pages scan.passed scan.quota (length (flusher_of f s).batch) on')))
      where
        not_over : (all passed quota pages : ℕ) → leb all passed || leb quota pages ≡ false → (passed < all) × (pages < quota)
        not_over all passed quota pages h = (grind (arith, nat_tests), grind (arith, nat_tests))

    -- ---- the batch goes to the disk

    empty_done : Going trace i 0 silent_ticks s → Free trace i 2 s → (flusher_of f s).batch ≡ [] → (p : ReplayPhase) → (until : ℕ) (kept : Bool) → p ≡ phase.Idle until kept → until ≤ s.now + 100 → Done trace i (in_phase f p s)
    empty_done g free none p until kept e soon = subst (λ (q : ReplayPhase). Done trace i (in_phase f q s)) (sym e) (idle_done until kept soon)
      where
        idle_done : (until : ℕ) (kept : Bool) → until ≤ s.now + 100 → Done trace i (in_phase f (phase.Idle until kept) s)
        idle_done until kept soon =
            let y : Flusher = record (flusher_of f s) { phase = phase.Idle until kept } in
            let m = turn_flusher trace facts i less f y s.working 0 0 silent_ticks 0 100 s on turn g free
            (record { phase = none; quota = tt; hard = (g.holds.flushers.each f).hard; measures = (g.holds.flushers.each f).measures; weighs = (g.holds.flushers.each f).weighs; wheel = (g.holds.flushers.each f).wheel; places = (g.holds.flushers.each f).places })
            (omega arith) (omega arith) (omega (arith, soon)) (omega arith) (still_works y refl) in
            stays_done 0 0 2 (record s { flushers = set s.flushers f y; working = s.working }) m.going m.free turn (subst (IsOpen trace) (sym m.is) tt)

    fly_done : Going trace i 0 silent_ticks s → Free trace i 2 s → 1 ≤ length (flusher_of f s).batch → Done trace i (fly i f scan.inode (length (flusher_of f s).batch) (done_at s.now (length (flusher_of f s).batch) (rate_of trace (flusher_device trace f))) s)
    fly_done g free some =
        let at : IsScanAt trace (flusher_of f s).batch scan = scan_at 0 silent_ticks g in
        let pages : ℕ = length (flusher_of f s).batch in
        let rate : ℕ = rate_of trace (flusher_device trace f) in
        let until : ℕ = done_at s.now pages rate in
        let ends = facts.inode_end scan.inode at.there in
        let few : pages ≤ pages_in trace.inodes = omega (arith, at.behind, at.within, at.pages_is, ends) in
        let most = facts.few_pages in
        let time = ceil_less (pages * 1000) rate (facts.rate (flusher_device trace f) (facts.flusher_device_is f on.there)) in
        let y : Flusher = record (flusher_of f s) { phase = phase.Flying scan.inode pages until } in
        let m = turn_flusher trace facts i less f y s.working 0 0 silent_ticks 0 silent_ticks s on turn g free
        (record { phase = record { there = at.there; rest = omega arith; few = few; ours = at.ours }; quota = tt; hard = (g.holds.flushers.each f).hard; measures = (g.holds.flushers.each f).measures; weighs = (g.holds.flushers.each f).weighs; wheel = (g.holds.flushers.each f).wheel; places = (g.holds.flushers.each f).places })
        (omega (arith, flown_is)) (omega arith) (omega (arith, time, few, most)) (omega arith) (still_works y refl) in
        let z : State = record s { flushers = set s.flushers f y; working = s.working } in
        let es : List Entry = (cpu_of i s).entries ++ entry.Batch f pages s.now until ∷ [] in
        let logged = logged_going trace facts i less es (cpu_of i s).checks (cpu_of i s).estimates 0 0 z m.going in
        let lfree = logged_free trace facts i less es (cpu_of i s).checks (cpu_of i s).estimates 2 0 0 z m.going m.free in
        stays_done 0 0 2 (record z { cpus = set z.cpus i (record (cpu_of i s) { entries = es }) }) logged lfree
        (logged_whose trace facts i less es (cpu_of i s).checks (cpu_of i s).estimates 0 0 z m.going ∙ turn) (subst (IsOpen trace) (sym m.is) some)

    hand_over_done : Going trace i 0 silent_ticks s → Free trace i 2 s → Done trace i (hand_over_in trace i f (phase.Scanning scan) s)
    hand_over_done g free = either (Done trace i) (eqb (length (flusher_of f s).batch) 0) (land_empty f scan.noted s) (fly i f scan.inode (length (flusher_of f s).batch) (done_at s.now (length (flusher_of f s).batch) (rate_of trace (flusher_device trace f))) s)
        (λ none. let nil = nil_from_length (flusher_of f s).batch (eqb-true (length (flusher_of f s).batch) 0 none) in
        either (λ p. Done trace i (in_phase f p s)) scan.noted (phase.Idle (s.now + FLUSHER_REST) true) (phase.Idle 0 false)
        (λ n. empty_done g free nil (phase.Idle (s.now + FLUSHER_REST) true) (s.now + 100) true refl (omega arith))
        (λ n. empty_done g free nil (phase.Idle 0 false) 0 false refl (omega arith)))
        (λ some. fly_done g free (grind (arith, nat_tests)))

  -- ---- by the flusher's phase

  module _ (p : ReplayPhase) (is : (flusher_of f s).phase ≡ p) where
    pub look_at : Ready trace i s → Free trace i 2 s → IsScanning p → IsOpenAt trace (flusher_of f s).batch p → Done trace i (look_in i f p s)
    look_at ready free scans opens = by_phase p is scans opens
      where
        by_phase : (q : ReplayPhase) → (flusher_of f s).phase ≡ q → IsScanning q → IsOpenAt trace (flusher_of f s).batch q → Done trace i (look_in i f q s)
        by_phase (phase.Idle until kept) e h o = absurd h
        by_phase (phase.Taken inode) e h o = absurd h
        by_phase (phase.Scanning scan) e h o = look_done scan e ready free o
        by_phase (phase.Flying inode pages until) e h o = absurd h
        by_phase phase.Finished e h o = absurd h

    pub claim_at : (word : ℕ) → Ready trace i s → Free trace i 2 s → IsScanning p → IsOpenAt trace (flusher_of f s).batch p → Done trace i (claim_in i f word p s)
    claim_at word ready free scans opens = by_phase p is scans opens
      where
        by_phase : (q : ReplayPhase) → (flusher_of f s).phase ≡ q → IsScanning q → IsOpenAt trace (flusher_of f s).batch q → Done trace i (claim_in i f word q s)
        by_phase (phase.Idle until kept) e h o = absurd h
        by_phase (phase.Taken inode) e h o = absurd h
        by_phase (phase.Scanning scan) e h o = claim_done scan e word ready free o
        by_phase (phase.Flying inode pages until) e h o = absurd h
        by_phase phase.Finished e h o = absurd h

    pub close_at : Going trace i 0 silent_ticks s → Free trace i 2 s → IsScanning p → Done trace i (close_in trace i f p s)
    close_at g free scans = by_phase p is scans
      where
        by_phase : (q : ReplayPhase) → (flusher_of f s).phase ≡ q → IsScanning q → Done trace i (close_in trace i f q s)
        by_phase (phase.Idle until kept) e h = absurd h
        by_phase (phase.Taken inode) e h = absurd h
        by_phase (phase.Scanning scan) e h = close_done scan e g free
        by_phase (phase.Flying inode pages until) e h = absurd h
        by_phase phase.Finished e h = absurd h

    pub hand_over_at : Going trace i 0 silent_ticks s → Free trace i 2 s → IsScanning p → Done trace i (hand_over_in trace i f p s)
    hand_over_at g free scans = by_phase p is scans
      where
        by_phase : (q : ReplayPhase) → (flusher_of f s).phase ≡ q → IsScanning q → Done trace i (hand_over_in trace i f q s)
        by_phase (phase.Idle until kept) e h = absurd h
        by_phase (phase.Taken inode) e h = absurd h
        by_phase (phase.Scanning scan) e h = hand_over_done scan e g free
        by_phase (phase.Flying inode pages until) e h = absurd h
        by_phase phase.Finished e h = absurd h
