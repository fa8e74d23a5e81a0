-- The parts of the first seats, and what is left of them.
use Rattle.std.proofs.Common.{◌≡◌, ⊎_elim, ℕ, zero, suc, ◌+◌, ◌<◌, ◌≤◌, Bool, cond, List, [], ◌∷◌, ◌++◌, length, map, get_or, set, replicate, Some, refl, sym, ap, ◌∙◌, subst, arith, append_assoc, length-append}
use Rattle.std.proofs.lemmas.Bool.{cases_lt, le-ltb}
use Rattle.std.proofs.lemmas.List.{append-nil, get_or-replicate, get_or_past}
use Rattle.wbt_kit.proofs.Common.{no_seat, no_record, CpuRecord, TimerRecord, Limits, opening, with_right, known_of, Known, setting, Cpus, Has, Layout, Setting, TimerEntry, at_less, Trace, domains, LastLine, lines_after, after, IsKitOf, AreFirst, HasCpu, AreSeatsOf, first_limits}
use Rattle.wbt_fraction.specs.Several.{AllFirst}
use Rattle.wbt_fraction.specs.Seat.{Seated as ShareSeat}
use Rattle.wbt_grant.specs.State.{opening as first_state}
use Rattle.wbt_journal.specs.Timer.{put_line}
use Rattle.wbt_run_laws.specs.Closed.{first_lines, opening_lines}
use Rattle.wbt_run_laws.specs.Ticks.{Ticked}
use Rattle.wbt_kit.specs.declared.kit.Kit.{Kit}
use Rattle.wbt_kit.specs.declared.kit.Seats.{Seats}
use Rattle.wbt_timer.specs.Side.{line_of, first_side, first_sides}
use Rattle.wbt_timer.specs.declared.side.DomainSide.{DomainSide}
use Rattle.wbt_run_seats.specs.Opened.{FirstCanSplit, PartIsFirst, LeftIsFirst, TimerOpens}
use Rattle.wbt_run_seats.proofs.Opening.{kit_is_opened}

-- ---- the first seats

pub first_can_split : FirstCanSplit
first_can_split trace kit first lawful are =
    let can = are.splits in
    let few = lawful.within.cpus in
    record {
      stakes = λ d less. let enough = can.stakes d less in omega arith;
      rooms = λ d less. let enough = can.rooms d less in omega arith;
      total_stakes = let enough = can.total_stakes in omega arith;
      totals = λ w less. let enough = can.totals w less in omega arith;
    }

pub replicate_has : (n c : ℕ) (r : CpuRecord) → c < n → Has (replicate n (Some r)) c r
replicate_has zero c r less = absurd (omega arith)
replicate_has (suc n) zero r less = refl
replicate_has (suc n) (suc c) r less = replicate_has n c r (omega arith)

pub first_has : (kit : Kit) (first : Seats) (cpu : ℕ) → AreFirst kit first → cpu < first.cpu.layout.cpus → HasCpu cpu no_record first
first_has kit first cpu are less = subst (λ (l : Cpus). Has l cpu no_record) (sym are.cpu.cpus) (replicate_has first.cpu.layout.cpus cpu no_record less)

pub first_knows : (kit : Kit) (first : Seats) (context : ℕ) → AreFirst kit first → context < length kit.published.names → known_of context first.est ≡ opening
first_knows kit first context are less = ap (λ (l : List Known). get_or l context opening) are.est ∙ get_or-replicate (length kit.published.names) context opening opening less

no_notes_at : (seats : List ShareSeat) (d : ℕ) → AllFirst seats → (get_or seats d no_seat).notes ≡ []
no_notes_at [] d all = refl
no_notes_at (s ∷ seats) zero all = (all 0 s (omega arith)).0
no_notes_at (s ∷ seats) (suc d) all = no_notes_at seats d (λ k e less. all (suc k) e (omega arith))

-- there is a written total for each context
pub first_has_totals : (kit : Kit) (first : Seats) → AreSeatsOf kit first → AreFirst kit first → length kit.shares.homes ≤ kit.shares.totals.contexts
first_has_totals kit first seats are = ⊎_elim
    (λ few. absurd (let room = are.rooms kit.shares.totals.contexts few in let none = get_or_past first.share.totals.rooms kit.shares.totals.contexts 0 (omega (arith, seats.share.2)) in omega arith))
    (λ enough. enough)
    (cases_lt kit.shares.totals.contexts (length kit.shares.homes))

-- ---- a part

module _ (trace : Trace) (now : ℕ) (kit : Kit) (first : Seats) (is : IsKitOf trace now kit) (seats : AreSeatsOf kit first) (are : AreFirst kit first) where
  pub first_held : (cpu : ℕ) → cpu < trace.cpus → HasCpu cpu no_record first
  first_held cpu less = first_has kit first cpu are (omega (arith, less, ap (λ (l : Layout). l.cpus) (seats.cpu.layout ∙ is.layout)))

pub part_is_first : PartIsFirst
part_is_first trace now kit first part cpu lawful is seats are less part_is = record {
  layout = part_is.seats_are.cpu.layout;
  held = part_is.same no_record (first_held trace now kit first is seats are cpu less);
  nothing = record { shares = part_is.nothing_noted; kept = λ domain context. refl };
  publishes = λ context low owner.
      let known = part_is.owned context low owner ∙ ap with_right (first_knows kit first context are low) in
      (ap (λ (k : Known). k.publishes) known, ap (λ (k : Known). k.all) known);
  no_other = λ context low other. ap (λ (k : Known). k.publishes) (part_is.others context low other);
}

-- ---- what is left

pub left_is_first : LeftIsFirst
left_is_first trace now kit first left lawful is are left_is =
    let cpus = ap (λ (l : Layout). l.cpus) is.layout in
    let opened = kit_is_opened trace now kit lawful is in
    record {
      timer = ((first_state (setting first.cpu.layout)).timer, left_is.timer ∙ are.cpu.timer, refl);
      no_cpu = λ c r has. left_is.gone c r (omega (arith, at_less left.cpu.cpus c (Some r) has, left_is.seats_are.each_cpu, cpus)) has;
      nothing = λ domain. left_is.notes domain ∙ no_notes_at first.share.domains domain are.shares;
      publishes_none = λ context low. ap (λ (k : Known). k.publishes) (left_is.owned context low (opened.owners context (omega (arith, is.contexts_are))));
    }

-- ---- the timer

-- a line for each domain from one on
opened_lines : (f : ℕ → Limits) (now domain count : ℕ) → List LastLine
opened_lines f now domain zero = []
opened_lines f now domain (suc count) = record { now = now; hard = (f domain).hard } ∷ opened_lines f now (suc domain) count

put_at_end : (lines : List LastLine) (d : ℕ) (line : LastLine) → d ≡ length lines → put_line d line lines ≡ lines ++ line ∷ []
put_at_end lines d line is = ap (λ (b : Bool). cond b (set lines d line) (lines ++ line ∷ [])) (le-ltb d (length lines) (omega (arith, is)))

after_first : (f : ℕ → Limits) (now count d : ℕ) (lines : List LastLine) → d ≡ length lines
    → after lines_after lines (first_lines f now d count) ≡ lines ++ opened_lines f now d count
unfolding opened_lines
after_first f now zero d lines is = sym (append-nil lines)
after_first f now (suc count) d lines is =
    let line : LastLine = record { now = now; hard = (f d).hard } in
    ap (λ (l : List LastLine). after lines_after l (first_lines f now (suc d) count)) (put_at_end lines d line is)
    ∙ after_first f now count (suc d) (lines ++ line ∷ []) (omega (arith, is, length-append lines (line ∷ [])))
    ∙ append_assoc lines (line ∷ []) (opened_lines f now (suc d) count)

one_line_more : (f : ℕ → Limits) (now count d : ℕ) → opened_lines f now d (suc count) ≡ opened_lines f now d count ++ record { now = now; hard = (f (d + count)).hard } ∷ []
unfolding opened_lines
one_line_more f now zero d = ap (λ (k : ℕ). record { now = now; hard = (f k).hard } ∷ []) (omega arith)
one_line_more f now (suc count) d =
    let next : suc d + count ≡ d + suc count = omega arith in
    ap (λ (l : List LastLine). record { now = now; hard = (f d).hard } ∷ l) (one_line_more f now count (suc d)
    ∙ ap (λ (k : ℕ). opened_lines f now (suc d) count ++ record { now = now; hard = (f k).hard } ∷ []) next)

map_more : {X Y : Type 0} (f : X → Y) (xs : List X) (x : X) → map f (xs ++ x ∷ []) ≡ map f xs ++ f x ∷ []
map_more f [] x = refl
map_more {X} {Y} f (y ∷ xs) x = ap (λ (l : List Y). f y ∷ l) (map_more f xs x)

first_lines_are : (trace : Trace) (now n : ℕ) → map line_of (first_sides trace now n) ≡ opened_lines (first_limits trace now) now 0 n
unfolding opened_lines
first_lines_are trace now zero = refl
first_lines_are trace now (suc n) =
    let next : n ≡ 0 + n = omega arith in
    map_more line_of (first_sides trace now n) (first_side trace now n)
    ∙ ap (λ (l : List LastLine). l ++ record { now = now; hard = (first_limits trace now n).hard } ∷ []) (first_lines_are trace now n)
    ∙ ap (λ (k : ℕ). opened_lines (first_limits trace now) now 0 n ++ record { now = now; hard = (first_limits trace now k).hard } ∷ []) next
    ∙ sym (one_line_more (first_limits trace now) now n 0)

pub timer_opens : TimerOpens
timer_opens trace now kit left side held run lawful is first has first_side opened set ticks =
    let timer = first.timer in
    let same : timer.0 ≡ held = (let e = timer.1 in let h = has in cc) in
    let opening = kit_is_opened trace now kit lawful is in
    record {
      published = ap (λ (t : Ticked). t.held.published) ticks ∙ ap (λ (r : TimerRecord). r.published) (sym same) ∙ timer.2;
      lines = ap (λ (t : Ticked). t.lines) ticks ∙ ap (λ (l : List DomainSide). map line_of l) first_side.domains_are
          ∙ first_lines_are trace now (domains trace) ∙ sym (after_first (first_limits trace now) now (domains trace) 0 [] refl)
          ∙ ap (λ (l : List TimerEntry). after lines_after [] l) (opening.lines ∙ ap (λ (s : Setting). opening_lines trace now s.firsts) (sym set) ∙ ap (λ (n : ℕ). opening_lines trace n run.set.firsts) (sym opened));
      shares = λ domain. ap (λ (t : Ticked). t.shares domain) ticks ∙ first.nothing domain;
    }
