-- A CPU's side before its first turn, on its part of the first seats.
use Rattle.std.proofs.Common.{◌≡◌, ◌≢◌, inl, ⊎_elim, ℕ, zero, suc, ◌+◌, ◌<◌, ◌≤◌, Bool, true, false, ◌==◌, nat_lt, if◌then◌else◌, List, [], ◌∷◌, length, map, get_or, replicate, Option, refl, sym, ap, ◌∙◌, subst, arith}
use Rattle.std.proofs.Math.Path.{fun_ext}
use Rattle.std.proofs.lemmas.Bool.{cases_lt, lt-ltb, le-ltb}
use mathlib.Core.Option.{some-injective}
use Rattle.std.specs.List.{sum_by}
use Rattle.std.proofs.lemmas.List.{length-map}
use Rattle.std.proofs.lemmas.List.Sums.{sum_by-cons}
use Rattle.wbt_run_worker.proofs.Common.{times_in, total, first_estimates, no_record, CpuRecord, Each, contexts, domains, AreFirst, AreSeatsOf, IsKitOf, MOST_PAGE_STEPS, setting, Cpus, Has, Layout, IsLawful, FlusherLine, Trace, known_of, noted, AreBacked, first_held, kit_is_opened, list_by, pages_by, phase_by, shown_by, IsSteady, FlusherPlan, Phase, Kit, Seats, ArePosted, IsDesk, IsPost, IsSide, AreApart, Seen, Team, claimed_by, owed_in, owed_total, flusher_at, owed_totals, team_of, worker_of, firsts_of, record_of, record_is, ShownFlusher, none_shown, Desk}
use Rattle.wbt_kit.proofs.Common.{Context}
use Rattle.wbt_run_seats.specs.Parts.{AreParts, IsPart}
use Rattle.wbt_run_seats.proofs.Firsts.{first_has_totals, part_is_first}
use Rattle.wbt_run_seats.proofs.Fitting.{flusher_fits, one_held, plan_suits}
use Rattle.wbt_flusher.specs.Sights.{completions, first_tallies, first_tally, is_inside, landed_in, owed_by, tallies_of, tally_in}
use Rattle.wbt_flusher.specs.declared.tally.Tallies.{Tallies}
use Rattle.wbt_flusher.specs.declared.work.Phase.TheVariants.{Idle}
use Rattle.wbt_journal.specs.Flights.{ToldFlusher, first_flushers, flusher_of, new_flusher, no_flusher, scanning}
use Rattle.wbt_run_worker.specs.Side.{AreSteady}
use Rattle.wbt_run_worker.specs.Team.{claimed_in, owed_by as owed_of}
use Rattle.wbt_run_worker.specs.declared.side.CpuSide.{CpuSide}
use Rattle.wbt_run_worker.specs.declared.worker.Worker.{Worker}
use Rattle.wbt_run_laws.specs.Notes.{no_fraction}
use Rattle.wbt_run_laws.specs.Shown.{new_shown}
use Rattle.wbt_writer.specs.Counted.{IsFor, written_of}
use Rattle.wbt_writer.specs.Desk.{IsAtKit, IsReady, Suits, kept_in}
use Rattle.wbt_run_drain.specs.Teams.{worker_there}
use Rattle.wbt_run_first.specs.Lent.{AreFirstPosts, AreFirstSides, AreFirstWorkers, ArePut, IsFirstDesk, IsFirstPost, IsFirstSide, IsFirstTeam, IsFirstWorker, first_worker, numbers_on}

map_at : {A B : Type 0} (f : A → B) (xs : List A) (k : ℕ) (d : A) → get_or (map f xs) k (f d) ≡ f (get_or xs k d)
map_at f [] k d = refl
map_at f (x ∷ xs) zero d = refl
map_at f (x ∷ xs) (suc k) d = map_at f xs k d

-- ---- numbers

-- flushers in order by number have numbers of their own, from the first one on
pub record FromOn (number : ℕ) (posts : List Seen) : Type 0 where
  pub apart : AreApart posts
  pub from : Each (λ (p : Seen). number ≤ p.plan.flusher) posts

each_more : (P Q : Seen → Type 0) → ((p : Seen) → P p → Q p) → (posts : List Seen) → Each P posts → Each Q posts
each_more P Q h [] all = tt
each_more P Q h (p ∷ posts) all = (h p all.0, each_more P Q h posts all.1)

from_less : (m n : ℕ) (posts : List Seen) → m ≤ n → FromOn n posts → FromOn m posts
from_less m n posts less on = record {
  apart = on.apart;
  from = each_more (λ (p : Seen). n ≤ p.plan.flusher) (λ (p : Seen). m ≤ p.plan.flusher) (λ p from. omega arith) posts on.from;
}

from_here : (cpu number : ℕ) (line : FlusherLine) (lines : List FlusherLine) (posts : List Seen)
    → ((rest : List Seen) → map (λ (p : Seen). p.plan.flusher) rest ≡ numbers_on cpu (number + 1) lines → FromOn (number + 1) rest)
    → (b : Bool) → map (λ (p : Seen). p.plan.flusher) posts ≡ (if b then number ∷ numbers_on cpu (number + 1) lines else numbers_on cpu (number + 1) lines)
    → FromOn number posts
from_here cpu number line lines posts hyp false are = from_less number (number + 1) posts (omega arith) (hyp posts are)
from_here cpu number line lines [] hyp true are = record { apart = tt; from = tt }
from_here cpu number line lines (p ∷ posts) hyp true are =
    let first : p.plan.flusher ≡ number = cc in
    let rest_are : map (λ (q : Seen). q.plan.flusher) posts ≡ numbers_on cpu (number + 1) lines = cc in
    let rest = hyp posts rest_are in
    record {
      apart = (each_more (λ (q : Seen). number + 1 ≤ q.plan.flusher) (λ (q : Seen). q.plan.flusher ≢ p.plan.flusher) (λ q from. λ e. absurd (omega arith)) posts rest.from, rest.apart);
      from = (omega arith, (from_less number (number + 1) posts (omega arith) rest).from);
    }

pub from_on : (cpu number : ℕ) (lines : List FlusherLine) (posts : List Seen) → map (λ (p : Seen). p.plan.flusher) posts ≡ numbers_on cpu number lines → FromOn number posts
from_on cpu number [] [] are = record { apart = tt; from = tt }
from_on cpu number [] (p ∷ posts) are = absurd (let n = ap (λ (l : List ℕ). length l) are in omega arith)
from_on cpu number (line ∷ lines) posts are =
    from_here cpu number line lines posts (from_on cpu (number + 1) lines) (line.cpu == cpu) are

-- ---- nothing is owed or claimed

total_none : (n : ℕ) (f : ℕ → ℕ) → ((k : ℕ) → f k ≡ 0) → total n f ≡ 0
total_none zero f none = refl
total_none (suc n) f none = let here = none n in let rest = total_none n f none in omega arith

sum_none : (f : Seen → ℕ) (posts : List Seen) → Each (λ (p : Seen). f p ≡ 0) posts → sum_by f posts ≡ 0
sum_none f [] none = refl
sum_none f (p ∷ posts) none = sum_by-cons f p posts ∙ (let rest = sum_none f posts none.1 in let here = none.0 in omega arith)

same_all : (n k : ℕ) → get_or (replicate n first_tallies) k first_tallies ≡ first_tallies
same_all zero k = refl
same_all (suc n) zero = refl
same_all (suc n) (suc k) = same_all n k

abbrev owes_at : (plan : FlusherPlan) (domain context : ℕ) (tallies : Tallies) (phase : Phase) → ℕ
owes_at plan domain context tallies phase = if is_inside plan domain context then (tally_in domain tallies).owed + landed_in plan phase context else 0

owes_first : (inside global : Bool) → (if inside then (if global then first_tally else first_tally).owed + 0 else 0) ≡ 0
owes_first true true = refl
owes_first true false = refl
owes_first false global = refl

same_record : (l : Cpus) (c : ℕ) (q r : CpuRecord) → Has l c q → Has l c r → q ≡ r
same_record l c q r hasq hasr = let e = some-injective _ _ (sym hasq ∙ hasr) in cc

done_nothing : completions no_record ≤ 0
done_nothing = omega arith

-- of a flusher that is idle and owes none
module _ (trace : Trace) (cpu : ℕ) (p : Seen) (is : IsFirstPost trace cpu p) where
  tallies_are : (context : ℕ) → tallies_of p.work context ≡ first_tallies
  tallies_are context = ap (λ (l : List Tallies). get_or l context first_tallies) is.owes_none ∙ same_all (length p.plan.contexts) context

  by_none : (domain context : ℕ) → owed_by p.plan domain context p.work ≡ 0
  by_none domain context =
      ap (λ (t : Tallies). owes_at p.plan domain context t p.work.phase) (tallies_are context)
      ∙ ap (λ (f : Phase). owes_at p.plan domain context first_tallies f) is.idle
      ∙ owes_first (is_inside p.plan domain context) (domain == 0)

  owes_no_domain : (domain : ℕ) → owed_of domain p ≡ 0
  owes_no_domain domain = total_none (length p.plan.contexts) (λ context. owed_by p.plan domain context p.work) (by_none domain)

  owes_no_total : (context : ℕ) → owed_total context p ≡ 0
  owes_no_total context =
      ap (λ (t : Tallies). t.written + landed_in p.plan p.work.phase context) (tallies_are context)
      ∙ ap (λ (f : Phase). first_tallies.written + landed_in p.plan f context) is.idle

  claims_none : (page : ℕ) → claimed_by page p ≡ 0
  claims_none page = ap (λ (f : Phase). times_in page (pages_by p.work.batch.items f)) is.idle

all_owe_none : (trace : Trace) (cpu domain : ℕ) (posts : List Seen) → Each (IsFirstPost trace cpu) posts → owed_in posts domain ≡ 0
all_owe_none trace cpu domain posts each =
    sum_none (owed_of domain) posts (each_more (IsFirstPost trace cpu) (λ (p : Seen). owed_of domain p ≡ 0) (λ p is. owes_no_domain trace cpu p is domain) posts each)

all_owe_no_total : (trace : Trace) (cpu context : ℕ) (posts : List Seen) → Each (IsFirstPost trace cpu) posts → owed_totals posts context ≡ 0
all_owe_no_total trace cpu context posts each =
    sum_none (owed_total context) posts (each_more (IsFirstPost trace cpu) (λ (p : Seen). owed_total context p ≡ 0) (λ p is. owes_no_total trace cpu p is context) posts each)

all_claim_none : (trace : Trace) (cpu page : ℕ) (posts : List Seen) → Each (IsFirstPost trace cpu) posts → claimed_in page posts ≡ 0
all_claim_none trace cpu page posts each =
    sum_none (claimed_by page) posts (each_more (IsFirstPost trace cpu) (λ (p : Seen). claimed_by page p ≡ 0) (λ p is. claims_none trace cpu p is page) posts each)

-- ---- the part of a CPU

module _ (trace : Trace) (now : ℕ) (kit : Kit) (first part : Seats) (cpu : ℕ) (lawful : IsLawful trace) (is : IsKitOf trace now kit) (seats : AreSeatsOf kit first)
    (are : AreFirst kit first) (less : cpu < trace.cpus) (part_is : IsPart kit cpu first part) where
  its_record : Has part.cpu.cpus cpu no_record
  its_record = part_is.same no_record (first_held trace now kit first is seats are cpu less)

  pub record_first : record_of cpu part.cpu.cpus ≡ no_record
  record_first = record_is part.cpu.cpus cpu no_record its_record

  suits : Suits trace kit
  suits =
      let opened = kit_is_opened trace now kit lawful is in
      record {
        throttle = opened.throttle;
        domains_are = opened.limits_are;
        seats = λ w there. (opened.writers w there).same_cpu;
        inodes_are = opened.inodes_are;
        places = ap (λ (l : Layout). l.inodes) is.layout;
        shared_domains = is.domains_are;
        homes = is.homes;
        published = is.contexts_are;
        firsts = is.firsts ∙ ap (first_estimates trace) (sym is.moment);
        queues = opened.devices_are;
        few_page_steps = opened.page_steps;
      }

  module _ (desk : Desk) (its : IsFirstDesk trace now cpu desk) where
    abbrev own_desk : Desk
    own_desk = record { trace = trace; cpu = cpu; work = desk.work }

    same_desk : own_desk ≡ desk
    same_desk = λ i. record { trace = sym its.trace_is i; cpu = sym its.cpu_is i; work = desk.work }

    at_kit : IsAtKit own_desk kit
    at_kit = record { suits = suits; cpu = less; its = subst (λ (n : ℕ). IsFor trace n cpu desk.work.tasks) (sym is.moment) its.its }

    ready : IsReady own_desk kit part
    ready = record {
      at_kit = at_kit;
      fits = record { seats_are = part_is.seats_are; held = part_is.holds.held };
      owes_nothing = ap (λ (r : CpuRecord). r.debts) record_first;
      lefts = its.lefts kit part (ap (λ (l : Layout). (setting l).cap) is.layout) (ap (λ (r : CpuRecord). r.writers) record_first);
      have_read = λ domain context. inl (its.kept domain context);
    }

    pub desk_at : IsDesk trace cpu kit desk
    desk_at = record { trace_is = its.trace_is; cpu_is = its.cpu_is; at_kit = subst (λ (d : Desk). IsAtKit d kit) same_desk at_kit }

    pub desk_ready : IsReady desk kit part
    desk_ready = subst (λ (d : Desk). IsReady d kit part) same_desk ready

  module _ (posts : List Seen) (its : AreFirstPosts trace cpu posts) where
    post_at : (p : Seen) → IsFirstPost trace cpu p → IsPost trace cpu kit part.est p
    post_at p is_first =
        let both = plan_suits trace now kit first p.plan lawful is seats are is_first.of is_first.pages_are in
        let fits = flusher_fits trace now kit first part p.plan lawful is are is_first.of (subst (λ (c : ℕ). IsPart kit c first part) (sym is_first.cpu_is) part_is) in
        record { its = both.1; suits = both.0; cpu_is = is_first.cpu_is; publishes = fits.publishes }

    pub posted : ArePosted trace cpu kit posts part
    posted = record {
      each = each_more (IsFirstPost trace cpu) (IsPost trace cpu kit part.est) post_at posts its.each;
      apart = (from_on cpu 0 trace.flushers posts its.numbers).apart;
      held = λ page. ap (λ (r : CpuRecord). times_in page r.held) record_first ∙ sym (all_claim_none trace cpu page posts its.each);
    }

    pub backed : AreBacked (domains trace) (contexts trace) (owed_in posts) (owed_totals posts) part
    backed =
        let alone = part_is.holds.alone in
        let one = one_held part.cpu.cpus cpu no_record its_record alone in
        let is_record = λ (c : ℕ) (r : CpuRecord) (has : Has part.cpu.cpus c r). same_record part.cpu.cpus cpu no_record r its_record (subst (λ (n : ℕ). Has part.cpu.cpus n r) (alone c r has) has) in
        let has_totals = first_has_totals kit first seats are in
        let homes = ap (λ (l : List ℕ). length l) is.homes in
        let long = length-map trace.contexts (λ (c : Context). c.domain) in
        record {
          counted = record {
            each = λ c r has. subst (λ (x : CpuRecord). completions x ≤ x.page_steps) (is_record c r has) done_nothing;
            few = λ c r has. subst (λ (x : CpuRecord). x.page_steps ≤ MOST_PAGE_STEPS) (is_record c r has) (omega arith);
          };
          rooms = λ domain low.
              let nothing = all_owe_none trace cpu domain posts its.each in
              let room = part_is.rooms domain (omega (arith, low, is.domains_are)) in
              omega arith;
          totals = λ context low.
              let nothing = all_owe_no_total trace cpu context posts its.each in
              let room = part_is.totals context (omega (arith, low, homes, long, has_totals)) in
              omega arith;
        }

    pub posts_steady : AreSteady cpu posts part
    posts_steady = record {
      each = each_more (IsFirstPost trace cpu) (λ (p : Seen). IsSteady p.plan p.work) (λ p is_first. is_first.steady) posts its.each;
      rescans = λ page some. let none = ap (λ (r : CpuRecord). times_in page r.owed_rescans) record_first in absurd (omega arith);
      marks = λ inode some. let none = ap (λ (r : CpuRecord). times_in inode r.owed_marks) record_first in absurd (omega arith);
    }

  pub first_side : (team : Team) → IsFirstTeam trace now cpu team → IsSide trace cpu kit team part
  first_side team its = record {
    stands = record {
      desk = desk_at team.desk its.desk;
      fits = record { seats_are = part_is.seats_are; held = part_is.holds.held };
      posted = posted team.posts its.posts;
      backed = backed team.posts its.posts;
    };
    writers = desk_ready team.desk its.desk;
    steady = posts_steady team.posts its.posts;
  }

-- ---- as a worker

-- one that is idle, and counts no failure
new_by : (p : Seen) → p.work.phase ≡ Idle 0 false → p.work.faults ≡ 0 → list_by p.work ≡ [] → shown_by p.work ≡ new_shown
new_by p idle none no_waits =
    let phase_is : phase_by p.work.batch.items p.work.phase ≡ scanning [] = ap (λ (f : Phase). phase_by p.work.batch.items f) idle in
    λ i. record { told = record { phase = phase_is i; faults = none i }; waits = no_waits i }

either : (here : Bool) (one rest : ShownFlusher) → one ≡ new_shown → rest ≡ new_shown → (if here then one else rest) ≡ new_shown
either true one rest is others = is
either false one rest is others = others

flushers_first : (trace : Trace) (cpu flusher : ℕ) (posts : List Seen) → Each (IsFirstPost trace cpu) posts → flusher_at posts flusher ≡ new_shown
flushers_first trace cpu flusher [] each = refl
flushers_first trace cpu flusher (p ∷ posts) each =
    either (flusher == p.plan.flusher) (shown_by p.work) (flusher_at posts flusher) (new_by p each.0.idle each.0.counts_none each.0.none_waits) (flushers_first trace cpu flusher posts each.1)

first_at : (lines : List FlusherLine) (flusher : ℕ) → flusher < length lines → flusher_of (first_flushers lines) flusher ≡ new_flusher
first_at [] flusher less = absurd (omega arith)
first_at (line ∷ lines) zero less = refl
first_at (line ∷ lines) (suc flusher) less = first_at lines flusher (omega arith)

first_past : (lines : List FlusherLine) (flusher : ℕ) → length lines ≤ flusher → flusher_of (first_flushers lines) flusher ≡ no_flusher
first_past [] flusher less = refl
first_past (line ∷ lines) zero less = absurd (omega arith)
first_past (line ∷ lines) (suc flusher) less = first_past lines flusher (omega arith)

-- as it is told, with no inode that waits
abbrev with_none : (told : ToldFlusher) → ShownFlusher
with_none told = record { told = told; waits = [] }

abbrev shown_at_first : (trace : Trace) (flusher : ℕ) → ShownFlusher
shown_at_first trace flusher = with_none (flusher_of (first_flushers trace.flushers) flusher)

flusher_there : (trace : Trace) (cpu flusher : ℕ) (posts : List Seen) → Each (IsFirstPost trace cpu) posts
    → (if nat_lt flusher (length trace.flushers) then flusher_at posts flusher else none_shown) ≡ shown_at_first trace flusher
flusher_there trace cpu flusher posts each = ⊎_elim
    (λ low. ap (λ (b : Bool). if b then flusher_at posts flusher else none_shown) (lt-ltb flusher (length trace.flushers) low)
    ∙ flushers_first trace cpu flusher posts each ∙ ap with_none (sym (first_at trace.flushers flusher low)))
    (λ high. ap (λ (b : Bool). if b then flusher_at posts flusher else none_shown) (le-ltb flusher (length trace.flushers) high) ∙ ap with_none (sym (first_past trace.flushers flusher high)))
    (cases_lt flusher (length trace.flushers))

pub first_is : (trace : Trace) (now cpu : ℕ) (team : Team) (part : Seats) → IsFirstTeam trace now cpu team → record_of cpu part.cpu.cpus ≡ no_record
    → worker_there trace (worker_of trace cpu team part) ≡ first_worker trace part
first_is trace now cpu team part its held =
    let flushers_are : (λ (flusher : ℕ). if nat_lt flusher (length trace.flushers) then flusher_at team.posts flusher else none_shown) ≡ (λ (flusher : ℕ). shown_at_first trace flusher)
    = fun_ext (λ flusher. flusher_there trace cpu flusher team.posts its.posts.each) in
    let none_written : (λ (task : ℕ). written_of team.desk.work.tasks task) ≡ (λ (task : ℕ). 0) = fun_ext its.desk.written in
    let none_kept : (λ (domain context : ℕ). kept_in trace team.desk.work domain context) ≡ (λ (domain context : ℕ). no_fraction) = fun_ext (λ domain. fun_ext (its.desk.kept domain)) in
    λ i. record {
      shown = record { held = held i; firsts = firsts_of part; side = its.desk.side i; written = none_written i; flushers = flushers_are i };
      notes = record { shares = λ domain. noted part.share domain; kept = none_kept i; estimates = λ context. known_of context part.est };
      log = its.log i;
    }

-- ---- workers

module _ {D : Type 0} (written : D → Option ℕ) (faults : D → ℕ) (trace : Trace) (now : ℕ) (kit : Kit) (first : Seats) (lawful : IsLawful trace) (is : IsKitOf trace now kit)
    (seats : AreSeatsOf kit first) (are : AreFirst kit first) where
  worker_first : (cpu : ℕ) (worker : Worker D) → cpu < trace.cpus → IsPart kit cpu first worker.seats → IsFirstSide written faults trace now cpu worker.side
      → IsFirstWorker written faults trace now kit first cpu worker
  worker_first cpu worker less part side = record {
    part = part;
    first_part = part_is_first trace now kit first worker.seats cpu lawful is seats are less part;
    is_first = side;
    side = first_side trace now kit first worker.seats cpu lawful is seats are less part (team_of written faults worker.side) side.team;
    worker_is = first_is trace now cpu (team_of written faults worker.side) worker.seats side.team (record_first trace now kit first worker.seats cpu lawful is seats are less part);
  }

  pub workers_first : (parts : List Seats) (sides : List (CpuSide D)) (workers : List (Worker D)) → AreParts kit trace.cpus first parts
      → AreFirstSides written faults trace now sides → ArePut parts sides workers → AreFirstWorkers written faults trace now kit first workers
  workers_first parts sides workers cut made put = record {
    many = sym (length-map workers (λ (w : Worker D). w.seats)) ∙ ap (λ (l : List Seats). length l) put.0 ∙ cut.many;
    each = λ cpu other less.
        let its_seats : get_or parts cpu other.seats ≡ (get_or workers cpu other).seats = ap (λ (l : List Seats). get_or l cpu other.seats) (sym put.0) ∙ map_at (λ (w : Worker D). w.seats) workers cpu other in
        let its_side : get_or sides cpu other.side ≡ (get_or workers cpu other).side = ap (λ (l : List (CpuSide D)). get_or l cpu other.side) (sym put.1) ∙ map_at (λ (w : Worker D). w.side) workers cpu other in
        worker_first cpu (get_or workers cpu other) less
        (subst (IsPart kit cpu first) its_seats (cut.each cpu other.seats less))
        (subst (IsFirstSide written faults trace now cpu) its_side (made.each cpu other.side less));
  }
