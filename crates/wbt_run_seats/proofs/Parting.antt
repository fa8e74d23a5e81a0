-- What the parts have, and what is left, CPU by CPU.
use Rattle.std.proofs.Common.{◌≡◌, ◌≢◌, ⊎_elim, ℕ, zero, suc, ◌+◌, ◌-◌, ◌<◌, ◌≤◌, Bool, false, eqb, List, [], ◌∷◌, length, get_or, Some, None, refl, sym, ap, ◌∙◌, subst, arith, eq-eqb, ne_eqb, length-append}
use Rattle.std.proofs.Math.Seq.{get_or-append_seam}
use Rattle.std.proofs.lemmas.List.{get_or-map, get_or_append_left, length-map}
use Rattle.std.proofs.lemmas.Bool.{cases_lt}
use mathlib.Core.Logic.{dite}
use native.Mathlib.Decide.{ℕ_discrete}
use Rattle.wbt_kit.proofs.Common.{CanSplit, CpuRecord, with_right, known_of, accompanied, newcomer, nothing, left_seat, HasLog, AreSeatsOf, HasOwners, HasCpu}
use Rattle.wbt_fraction.specs.Several.{IsParted, HasRoom, HasTotalRoom}
use Rattle.wbt_fraction.proofs.Parting.{parts, has_room, splits_on}
use Rattle.wbt_published.specs.Known.{left_with, handed_on, reader, without_right}
use Rattle.wbt_published.proofs.Turns.{left-at, handed-at}
use Rattle.wbt_queue.specs.Known.{handed, opening as empty}
use Rattle.wbt_queue.specs.declared.known.Known.{Known as Queued}
use Rattle.wbt_queue.specs.Passes as queue
use Rattle.wbt_table.specs.Seat.{IsHeld, as_cpu}
use Rattle.wbt_kit.specs.declared.kit.Kit.{Kit}
use Rattle.wbt_kit.specs.declared.kit.Seats.{Seats}
use Rattle.wbt_kit.proofs.Joining.{cpus_split}
use Rattle.wbt_kit.proofs.Seating.{own_cpus, seats_left, seats_right}
use Rattle.wbt_run_seats.specs.Parts.{owner_of, without, own_of, rest_of, parts_of, IsPart, AreParts, HasNoLog, IsLeft, with_fewer}
use Rattle.wbt_run_seats.proofs.Cpus.{left_has, left_log_gone, left_log_there, left_timer_log, right_has, right_log, right_no_log, right_timer_log, left_timer, right_timer}
use Rattle.wbt_run_seats.proofs.Shares.{left_notes, right_notes, share_left, share_right}

-- seats from which some CPUs went, and which can be split more often
pub record CanGoOn (kit : Kit) (more : ℕ) (seats : Seats) : Type 0 where
  pub seats_are : AreSeatsOf kit seats
  pub splits : CanSplit more kit.shares seats.share

-- what is left of a pass to the queues where some went
module _ (kit : Kit) (old : Seats) where
  rest_many : (n : ℕ) → length (rest_of kit n old).queue.known ≡ length old.queue.known
  rest_many zero = refl
  rest_many (suc n) = length-map (rest_of kit n old).queue.known accompanied ∙ rest_many n

  rest_left : (n device : ℕ) → device < length old.queue.known → queue.known_of device (rest_of kit (suc n) old).queue ≡ accompanied (queue.known_of device (rest_of kit n old).queue)
  rest_left n device low = get_or-map accompanied (rest_of kit n old).queue.known device empty empty (omega (arith, rest_many n))

  rest_gone : (n device : ℕ) → device < length old.queue.known → (queue.known_of device (rest_of kit n old).queue).gone ≡ (queue.known_of device old.queue).gone
  rest_gone zero device low = refl
  rest_gone (suc n) device low = ap (λ (k : Queued). k.gone) (rest_left n device low) ∙ rest_gone n device low

  rest_stakes : (n device : ℕ) → device < length old.queue.known → (queue.known_of device (rest_of kit n old).queue).stakes ≡ (queue.known_of device old.queue).stakes - n
  rest_stakes zero device low = omega arith
  rest_stakes (suc n) device low =
      let was = rest_stakes n device low in
      let one = ap (λ (k : Queued). k.stakes) (rest_left n device low) in
      omega arith

  rest_new : (n device : ℕ) → device < length old.queue.known → newcomer (queue.known_of device (rest_of kit n old).queue) ≡ newcomer (with_fewer n (queue.known_of device old.queue))
  rest_new n device low =
      let gone = rest_gone n device low in
      let stakes = rest_stakes n device low in
      λ z. record { alone = false; gone = gone z; stakes = handed (stakes z); own = nothing; joined = [] }

module _ (kit : Kit) (owners : HasOwners kit) where
  -- ---- one CPU goes

  module _ (n more : ℕ) (old : Seats) (can : CanGoOn kit (suc more) old) where
    abbrev are : AreSeatsOf kit old
    are = can.seats_are

    often : CanSplit (more + 1) kit.shares old.share
    often = subst (λ (k : ℕ). CanSplit k kit.shares old.share) (omega arith) can.splits

    pub enough : HasRoom old.share.domains × HasTotalRoom kit.shares.totals old.share.totals
    enough = has_room kit.shares old.share more are.share often

    abbrev left : Seats
    left = without kit n old

    abbrev own : Seats
    own = own_of kit n old

    pub parted : IsParted kit.shares old.share left.share own.share
    parted = parts kit.shares old.share left.share own.share are.share enough.0 enough.1 refl refl

    pub goes_on : CanGoOn kit more left
    goes_on = record {
      seats_are = seats_left kit n old are owners left.cpu left.share left.est left.queue refl (share_left kit.shares old.share are.share) refl refl;
      splits = splits_on kit.shares old.share left.share own.share parted more often;
    }

    pub own_seats : AreSeatsOf kit own
    own_seats = seats_right kit n old are owners own.cpu own.share own.est own.queue refl (share_right kit.shares old.share are.share) refl refl

    pub known_long : length kit.owners ≡ length old.est.known
    known_long = owners ∙ sym are.each_context

    pub known_left : (context : ℕ) → context < length kit.published.names
        → known_of context left.est ≡ left_with (eqb (owner_of kit context) n) (known_of context old.est)
    known_left context less = left-at kit.owners n old.est.known context (omega (arith, owners)) (omega (arith, are.each_context))

    pub known_own : (context : ℕ) → context < length kit.published.names
        → known_of context own.est ≡ handed_on (eqb (owner_of kit context) n) (known_of context old.est)
    known_own context less = handed-at kit.owners n old.est.known context (omega (arith, owners)) (omega (arith, are.each_context))

  -- ---- several go

  module _ (old : Seats) where
    pub rest_can : (n more : ℕ) → CanGoOn kit (more + n) old → CanGoOn kit more (rest_of kit n old)
    rest_can zero more can = subst (λ (k : ℕ). CanGoOn kit k old) (omega arith) can
    rest_can (suc n) more can = goes_on n more (rest_of kit n old) (rest_can n (suc more) (subst (λ (k : ℕ). CanGoOn kit k old) (omega arith) can))

    -- what is known of a context is what was, but for the right where it went
    abbrev Knows : (n context : ℕ) → Type 0
    Knows n context = (owner_of kit context < n → known_of context (rest_of kit n old).est ≡ without_right (known_of context old.est))
        × (n ≤ owner_of kit context → known_of context (rest_of kit n old).est ≡ known_of context old.est)

    pub rest_knows : (n more : ℕ) → CanGoOn kit (more + n) old → (context : ℕ) → context < length kit.published.names → Knows n context
    rest_knows zero more can context less = ((λ low. absurd (omega arith)), (λ high. refl))
    rest_knows (suc n) more can context less =
        let before : CanGoOn kit (suc more + n) old = subst (λ (k : ℕ). CanGoOn kit k old) (omega arith) can in
        let mid : CanGoOn kit (suc more) (rest_of kit n old) = rest_can n (suc more) before in
        let knew : Knows n context = rest_knows n (suc more) before context less in
        let is = known_left n more (rest_of kit n old) mid context less in
        let owner = owner_of kit context in (
          (λ low. dite (ℕ_discrete owner n)
              (λ same. is ∙ ap (λ (b : Bool). left_with b (known_of context (rest_of kit n old).est)) (eq-eqb owner n same) ∙ ap without_right (knew.1 (omega arith)))
              (λ other. is ∙ ap (λ (b : Bool). left_with b (known_of context (rest_of kit n old).est)) (ne_eqb owner n other) ∙ knew.0 (let q : owner ≢ n = other in omega arith))),
          (λ high. is ∙ ap (λ (b : Bool). left_with b (known_of context (rest_of kit n old).est)) (ne_eqb owner n (λ e. omega arith)) ∙ knew.1 (omega arith)),
        )

    pub rest_is_left : (n more : ℕ) → n ≤ kit.throttle.layout.cpus → CanGoOn kit (more + n) old → IsLeft kit n old (rest_of kit n old)
    rest_is_left zero more few can = record {
      seats_are = can.seats_are;
      gone = λ c r low has. absurd (omega arith);
      stayed = λ c r high has. has;
      logs_gone = λ c log low has. absurd (omega arith);
      logs_stayed = λ c log high has. has;
      timer = refl;
      timer_log = refl;
      notes = λ domain. refl;
      counted = refl;
      stakes = λ domain less. omega arith;
      rooms = λ domain less. omega arith;
      total_stakes = omega arith;
      totals = λ context less. omega arith;
      owned = λ context less low. absurd (omega arith);
      others = λ context less high. refl;
      queues = λ device less. rest_stakes kit old 0 device (omega (arith, less, can.seats_are.each_device));
    }
    rest_is_left (suc n) more few can =
        let before : CanGoOn kit (suc more + n) old = subst (λ (k : ℕ). CanGoOn kit k old) (omega arith) can in
        let rest = rest_of kit n old in
        let mid : CanGoOn kit (suc more) rest = rest_can n (suc more) before in
        let was : IsLeft kit n old rest = rest_is_left n (suc more) (omega arith) before in
        let knows = λ (context : ℕ) (less : context < length kit.published.names). rest_knows (suc n) more can context less in
        let split = parted n more rest mid in
        let cpus = own_cpus kit rest mid.seats_are in
        let there : n < rest.cpu.layout.cpus = omega (arith, mid.seats_are.each_cpu, cpus) in
        record {
          seats_are = (goes_on n more rest mid).seats_are;
          gone = λ c r low has.
              let had = left_has n rest.cpu there c r has in
              let other = had.0 in
              was.gone c r (omega arith) had.1;
          stayed = λ c r high has. (cpus_split n rest.cpu cpus).others c r (λ e. omega arith) (was.stayed c r (omega arith) has);
          logs_gone = λ c log low has. dite (ℕ_discrete c n)
              (λ same.
              let mine = was.logs_stayed c log (omega arith) has in
              subst (λ (k : ℕ). HasNoLog k (left_seat n rest.cpu).logs) (sym same)
              (left_log_gone n rest.cpu there (Some log) (subst (λ (k : ℕ). HasLog rest.cpu.logs k log) same mine)))
              (λ other. left_log_there n rest.cpu there c None other (was.logs_gone c log (let q : c ≢ n = other in omega arith) has));
          logs_stayed = λ c log high has. left_log_there n rest.cpu there c (Some log) (λ e. omega arith) (was.logs_stayed c log (omega arith) has);
          timer = left_timer n rest.cpu there ∙ was.timer;
          timer_log = left_timer_log n rest.cpu there ∙ was.timer_log;
          notes = λ domain. left_notes rest.share.domains domain ∙ was.notes domain;
          counted = was.counted;
          stakes = λ domain less. let one = (split.stakes domain less).0 in let all = was.stakes domain less in omega arith;
          rooms = λ domain less. let one = (split.rooms domain less).0 in let all = was.rooms domain less in omega arith;
          total_stakes = let one = split.total_stakes.0 in let all = was.total_stakes in omega arith;
          totals = λ context less. let one = (split.totals context less).0 in let all = was.totals context less in omega arith;
          owned = λ context less low. (knows context less).0 low;
          others = λ context less high. (knows context less).1 high;
          queues = λ device less. rest_stakes kit old (suc n) device (omega (arith, less, can.seats_are.each_device));
        }

    -- ---- a CPU's part

    same_reader : (n context : ℕ) → Knows n context → reader (known_of context (rest_of kit n old).est) ≡ reader (known_of context old.est)
    same_reader n context knows = ⊎_elim (λ low. ap reader (knows.0 low)) (λ high. ap reader (knows.1 high)) (cases_lt (owner_of kit context) n)

    pub part_is : (n more : ℕ) → n < kit.throttle.layout.cpus → CanGoOn kit (suc more + n) old → (r : CpuRecord) × HasCpu n r old → IsPart kit n old (own_of kit n (rest_of kit n old))
    part_is n more few can held =
        let rest = rest_of kit n old in
        let mid : CanGoOn kit (suc more) rest = rest_can n (suc more) can in
        let was : IsLeft kit n old rest = rest_is_left n (suc more) (omega arith) can in
        let split = parted n more rest mid in
        let cpus = own_cpus kit rest mid.seats_are in
        let there : n < rest.cpu.layout.cpus = omega (arith, mid.seats_are.each_cpu, cpus) in
        let same = λ (r : CpuRecord) (has : HasCpu n r old). (cpus_split n rest.cpu cpus).gone r (was.stayed n r (omega arith) has) in
        record {
          seats_are = own_seats n more rest mid;
          holds = record { held = (held.0, same held.0 held.1); alone = right_has n rest.cpu there; no_timer = right_timer n rest.cpu there };
          same = same;
          log = λ log has. right_log n rest.cpu there log (was.logs_stayed n log (omega arith) has);
          no_log = λ c log other has. ⊎_elim
              (λ low. right_no_log n rest.cpu there c None other (was.logs_gone c log low has))
              (λ high. right_no_log n rest.cpu there c (Some log) other (was.logs_stayed c log high has))
              (cases_lt c n);
          no_timer_log = right_timer_log n rest.cpu there;
          nothing_noted = λ domain. right_notes rest.share.domains domain;
          nothing_counted = refl;
          stakes = λ domain less. (split.stakes domain less).1;
          rooms = λ domain less. (split.rooms domain less).1;
          total_stakes = split.total_stakes.1;
          totals = λ context less. (split.totals context less).1;
          owned = λ context less is.
              let knows = rest_knows n (suc more) can context less in
              known_own n more rest mid context less ∙ ap (λ (b : Bool). handed_on b (known_of context rest.est)) (eq-eqb (owner_of kit context) n is)
              ∙ ap with_right (knows.1 (omega arith));
          others = λ context less other.
              known_own n more rest mid context less ∙ ap (λ (b : Bool). handed_on b (known_of context rest.est)) (ne_eqb (owner_of kit context) n other)
              ∙ same_reader n context (rest_knows n (suc more) can context less);
          queues = λ device less. get_or-map newcomer rest.queue.known device empty empty (omega (arith, mid.seats_are.each_device))
              ∙ rest_new kit old n device (omega (arith, can.seats_are.each_device));
        }

    -- ---- all parts

    pub parts_long : (n : ℕ) → length (parts_of kit n old) ≡ n
    parts_long zero = refl
    parts_long (suc n) = let before = parts_long n in omega (arith, length-append (parts_of kit n old) (own_of kit n (rest_of kit n old) ∷ []))

    pub part_at : (n k : ℕ) (other : Seats) → k < n → get_or (parts_of kit n old) k other ≡ own_of kit k (rest_of kit k old)
    part_at zero k other less = absurd (omega arith)
    part_at (suc n) k other less = dite (ℕ_discrete k n)
        (λ last. let e = parts_long n in
        ap (λ (i : ℕ). get_or (parts_of kit (suc n) old) i other) (last ∙ sym e) ∙ get_or-append_seam (parts_of kit n old) (own_of kit n (rest_of kit n old)) [] other
        ∙ ap (λ (i : ℕ). own_of kit i (rest_of kit i old)) (sym last))
        (λ before. get_or_append_left (parts_of kit n old) (own_of kit n (rest_of kit n old) ∷ []) other k (let q : k ≢ n = before in omega (arith, parts_long n)) ∙ part_at n k other (let q : k ≢ n = before in omega arith))

    pub parts_are : (n more : ℕ) → n ≤ kit.throttle.layout.cpus → CanGoOn kit (more + n) old → ((cpu : ℕ) → cpu < n → (r : CpuRecord) × HasCpu cpu r old) → AreParts kit n old (parts_of kit n old)
    parts_are n more few can held = record {
      many = parts_long n;
      each = λ cpu other less. subst (IsPart kit cpu old) (sym (part_at n cpu other less))
          (part_is cpu (more + n - suc cpu) (omega arith) (subst (λ (k : ℕ). CanGoOn kit k old) (omega arith) can) (held cpu less));
    }

    pub parts_seats : (n more : ℕ) → CanGoOn kit (more + n) old → (k : ℕ) (other : Seats) → k < n → AreSeatsOf kit (get_or (parts_of kit n old) k other)
    parts_seats n more can k other less = subst (AreSeatsOf kit) (sym (part_at n k other less))
        (own_seats k (more + n - suc k) (rest_of kit k old) (rest_can k (suc (more + n - suc k)) (subst (λ (j : ℕ). CanGoOn kit j old) (omega arith) can)))

    -- the next CPU is there still
    pub still_held : (n more : ℕ) → n < kit.throttle.layout.cpus → CanGoOn kit (suc more + n) old → ((r : CpuRecord) × HasCpu n r old) → IsHeld (rest_of kit n old).cpu n
    still_held n more few can held = as_cpu held.0 ((rest_is_left n (suc more) (omega arith) can).stayed n held.0 (omega arith) held.1)

-- ---- seats in a loop over the CPUs

-- what the next split needs
pub record MaySplit (kit : Kit) (n : ℕ) (seats : Seats) : Type 0 where
  pub seats_are : AreSeatsOf kit seats
  pub held : IsHeld seats.cpu n
  pub room : HasRoom seats.share.domains × HasTotalRoom kit.shares.totals seats.share.totals

pub may_split : (kit : Kit) (owners : HasOwners kit) (old : Seats) (n cpus : ℕ) → n < cpus → cpus ≤ kit.throttle.layout.cpus → CanGoOn kit cpus old
    → ((cpu : ℕ) → cpu < cpus → (r : CpuRecord) × HasCpu cpu r old) → (seats : Seats) → seats ≡ rest_of kit n old → MaySplit kit n seats
may_split kit owners old n cpus less few can held seats is =
    let more : ℕ = cpus - suc n in
    let before : CanGoOn kit (suc more + n) old = subst (λ (k : ℕ). CanGoOn kit k old) (omega arith) can in
    let mid : CanGoOn kit (suc more) (rest_of kit n old) = rest_can kit owners old n (suc more) before in
    subst (MaySplit kit n) (sym is)
    (record { seats_are = mid.seats_are; held = still_held kit owners old n more (omega arith) before (held n less); room = enough kit owners n more (rest_of kit n old) mid })

pub some_parts_seats : (kit : Kit) (owners : HasOwners kit) (old : Seats) (n cpus : ℕ) → n ≤ cpus → CanGoOn kit cpus old → (parts : List Seats) → parts ≡ parts_of kit n old
    → (k : ℕ) (other : Seats) → k < length parts → AreSeatsOf kit (get_or parts k other)
some_parts_seats kit owners old n cpus few can parts is k other less =
    subst (λ (l : List Seats). AreSeatsOf kit (get_or l k other)) (sym is)
    (parts_seats kit owners old n (cpus - n) (subst (λ (j : ℕ). CanGoOn kit j old) (omega arith) can) k other
    (let long = ap (λ (l : List Seats). length l) is in omega (arith, parts_long kit owners old n)))

pub all_parts : (kit : Kit) (owners : HasOwners kit) (old : Seats) (n cpus : ℕ) → n ≡ cpus → cpus ≤ kit.throttle.layout.cpus → CanGoOn kit cpus old
    → ((cpu : ℕ) → cpu < cpus → (r : CpuRecord) × HasCpu cpu r old) → (parts : List Seats) → parts ≡ parts_of kit n old → AreParts kit cpus old parts
all_parts kit owners old n cpus same few can held parts is =
    subst (AreParts kit cpus old) (sym (is ∙ ap (λ (k : ℕ). parts_of kit k old) same))
    (parts_are kit owners old cpus 0 few (subst (λ (k : ℕ). CanGoOn kit k old) (omega arith) can) held)

pub all_left : (kit : Kit) (owners : HasOwners kit) (old : Seats) (n cpus : ℕ) → n ≡ cpus → cpus ≤ kit.throttle.layout.cpus → CanGoOn kit cpus old
    → (seats : Seats) → seats ≡ rest_of kit n old → IsLeft kit cpus old seats
all_left kit owners old n cpus same few can seats is =
    subst (IsLeft kit cpus old) (sym (is ∙ ap (λ (k : ℕ). rest_of kit k old) same))
    (rest_is_left kit owners old cpus 0 few (subst (λ (k : ℕ). CanGoOn kit k old) (omega arith) can))
