-- Along the part of a CPU no page is completed that wasn't handed to a disk, and none handed over or given back that wasn't claimed.
use Rattle.std.proofs.Common.{◌≡◌, ℕ, zero, suc, ◌+◌, ◌≤◌, Bool, true, false, cond, if◌then◌else◌, nat_le, Option, Some, None, IfSome, List, [], ◌∷◌, ◌++◌, length, map, set, sum_by, count_by, refl, sym, ◌∙◌, arith}
use Rattle.std.proofs.lemmas.List.Sums.{sum_by-cons}
use Rattle.wbt_book.specs.declared.event.Event.{Event}
use Rattle.wbt_book.specs.declared.event.Event.TheVariants.{Claim, Complete, Redirty}
use Rattle.wbt_counter.specs.Sums.{one_if}
use Rattle.wbt_rules.specs.declared.moments.TheConstants.{MOST_FAULTS}
use Rattle.wbt_trace.specs.declared.trace.FlusherLine.{FlusherLine}
use Rattle.wbt_trace.specs.declared.trace.Trace.{Trace}
use Rattle.wbt_journal.specs.Effects.{Flight, Move, takes, flies, lands, fails, gives_back, effect, event_of, event_of_flight, event_of_move, handed_by, of_part}
use Rattle.wbt_journal.specs.Flights.{ToldFlusher, ToldPhase, scanning, flying, returning, failed, emptied, returned, taken, flown, landed, given_back, faulted, moved, new_flusher, no_flusher, first_flushers, flusher_of, flushers_after, flushers_after_told, flushers_by, Flies, FliesBy, FliesTold, MayMove, Scans, Hands, Lands, GivesBack}
use Rattle.wbt_journal.specs.Items.{Item, tells, items_from}
use Rattle.wbt_journal.specs.Told.{Told, wrote}
use Rattle.wbt_journal.specs.Walk.{Along}
use Rattle.wbt_flusher.specs.Did.{handed}
use Rattle.wbt_top_sums.specs.Sums.{absorbs_one, is_absorption}

-- ---- entries

abbrev pub claims_one : (event : Event) → Bool
claims_one (Claim page) = true
claims_one other = false

abbrev pub completes_one : (event : Event) → Bool
completes_one (Complete page) = true
completes_one other = false

abbrev pub redirties_one : (event : Event) → Bool
redirties_one (Redirty page) = true
redirties_one other = false

abbrev pub is_claim : (entry : Told) → Bool
is_claim entry = of_part false claims_one (event_of entry)

abbrev pub is_completion : (entry : Told) → Bool
is_completion entry = of_part false completes_one (event_of entry)

abbrev pub is_redirtying : (entry : Told) → Bool
is_redirtying entry = of_part false redirties_one (event_of entry)

-- ---- pages of flushers

-- the pages that a flusher has claimed, and neither handed over nor given back
abbrev held : (phase : ToldPhase) → ℕ
held (scanning pages) = length pages
held (flying pages) = 0
held (returning pages) = length pages
held failed = 0

-- the pages of its batch that aren't completed yet
abbrev in_flight : (phase : ToldPhase) → ℕ
in_flight (scanning pages) = 0
in_flight (flying pages) = length pages
in_flight (returning pages) = 0
in_flight failed = 0

abbrev held_by : (flusher : ToldFlusher) → ℕ
held_by flusher = held flusher.phase

abbrev flown_by : (flusher : ToldFlusher) → ℕ
flown_by flusher = in_flight flusher.phase

-- a place that isn't there counts nothing
put_at : (count : ToldFlusher → ℕ) → count no_flusher ≡ 0 → (flushers : List ToldFlusher) (f : ℕ) (p : ToldFlusher)
    → sum_by count (set flushers f p) + count (flusher_of flushers f) ≤ sum_by count flushers + count p
put_at count none [] f p = omega (arith, none)
put_at count none (x ∷ xs) zero p = omega (arith, sum_by-cons count x xs, sum_by-cons count p xs)
put_at count none (x ∷ xs) (suc f) p = let rest = put_at count none xs f p in omega (arith, rest, sum_by-cons count x xs, sum_by-cons count x (set xs f p))

nothing_first : (count : ToldFlusher → ℕ) → count new_flusher ≡ 0 → (lines : List FlusherLine) → sum_by count (first_flushers lines) ≡ 0
nothing_first count none [] = refl
nothing_first count none (f ∷ fs) = let rest = nothing_first count none fs in omega (arith, rest, none, sum_by-cons count new_flusher (first_flushers fs))

-- ---- one entry

-- What an entry changes of what all flushers hold and have in flight, where it claims and completes so many pages, hands over so many, and gives
-- back so many
record Step (claims completes hands backs : ℕ) (old new : List ToldFlusher) : Type 0 where
  flown : completes + sum_by flown_by new ≤ hands + sum_by flown_by old
  taken : hands + backs + sum_by held_by new ≤ claims + sum_by held_by old

still : (flushers : List ToldFlusher) → Step 0 0 0 0 flushers flushers
still flushers = record { flown = omega arith; taken = omega arith }

-- the changed phase, by what it was
scan_held : (page : ℕ) (p : ToldPhase) → Scans p → (held (taken page p) ≡ 1 + held p) × (in_flight (taken page p) ≡ in_flight p)
scan_held page (scanning pages) scans = (grown pages, refl)
  where
    grown : (xs : List ℕ) → length (xs ++ page ∷ []) ≡ 1 + length xs
    grown [] = refl
    grown (x ∷ xs) = let rest = grown xs in omega (arith, rest)
scan_held page (flying pages) scans = absurd scans
scan_held page (returning pages) scans = absurd scans
scan_held page failed scans = absurd scans

emptied_held : (pages : List ℕ) → (held (emptied pages) ≡ 0) × (in_flight (emptied pages) ≡ length pages)
emptied_held [] = (refl, refl)
emptied_held (x ∷ xs) = (refl, refl)

returned_held : (pages : List ℕ) → (held (returned pages) ≡ length pages) × (in_flight (returned pages) ≡ 0)
returned_held [] = (refl, refl)
returned_held (x ∷ xs) = (refl, refl)

hand_held : (count : ℕ) (p : ToldPhase) → Hands count p → (held p ≡ count) × (in_flight p ≡ 0) × (held (flown p) ≡ 0) × (in_flight (flown p) ≡ count)
hand_held count (scanning pages) hands = let e = emptied_held pages in (sym hands.1, refl, e.0, e.1 ∙ sym hands.1)
hand_held count (flying pages) hands = absurd hands
hand_held count (returning pages) hands = absurd hands
hand_held count failed hands = absurd hands

land_held : (page : ℕ) (p : ToldPhase) → Lands page p → (held p ≡ 0) × (held (landed p) ≡ 0) × (in_flight p ≡ 1 + in_flight (landed p))
land_held page (flying (next ∷ pages)) is = let e = emptied_held pages in (refl, e.0, omega (arith, e.1))
land_held page (flying []) is = absurd is
land_held page (scanning pages) is = absurd is
land_held page (returning pages) is = absurd is
land_held page failed is = absurd is

give_held : (page : ℕ) (p : ToldPhase) → GivesBack page p → (in_flight p ≡ 0) × (in_flight (given_back p) ≡ 0) × (held p ≡ 1 + held (given_back p))
give_held page (returning (next ∷ pages)) is = let e = returned_held pages in (refl, e.1, omega (arith, e.0))
give_held page (returning []) is = absurd is
give_held page (scanning pages) is = absurd is
give_held page (flying pages) is = absurd is
give_held page failed is = absurd is

-- with its last fault a flusher does nothing more, else it has its pages still
fail_held : (count faults : ℕ) (p : ToldPhase) → Hands count p → (in_flight p ≡ 0) × (in_flight (faulted faults p).phase ≡ 0) × (held (faulted faults p).phase ≤ held p)
fail_held count faults (scanning pages) hands = let both = by_last (nat_le MOST_FAULTS (faults + 1)) in (refl, both.0, both.1)
  where
    by_last : (last : Bool) → (in_flight (if last then failed else returned pages) ≡ 0) × (held (if last then failed else returned pages) ≤ length pages)
    by_last true = (refl, omega arith)
    by_last false = let e = returned_held pages in (e.1, omega (arith, e.0))
fail_held count faults (flying pages) hands = absurd hands
fail_held count faults (returning pages) hands = absurd hands
fail_held count faults failed hands = absurd hands

-- a page is given back, in whichever way
give_steps : (flushers : List ToldFlusher) (f page : ℕ) (absorbed : Bool) → GivesBack page (flusher_of flushers f).phase → Step 0 0 0 1 flushers (set flushers f (moved (gives_back page absorbed) (flusher_of flushers f)))
give_steps flushers f page absorbed may =
    let p = flusher_of flushers f in
    let is = give_held page p.phase may in
    let a = put_at held_by refl flushers f (moved (gives_back page absorbed) p) in
    let b = put_at flown_by refl flushers f (moved (gives_back page absorbed) p) in
    record { flown = omega (arith, b, is.0, is.1); taken = omega (arith, a, is.2) }

-- a move of a flusher, which its phase allows
abbrev backs_by : (move : Move) → ℕ
backs_by move = one_if (of_part false redirties_one (event_of_move move)) + one_if (of_part false absorbs_one (event_of_move move))

move_steps : (flushers : List ToldFlusher) (f : ℕ) (move : Move) → MayMove move (flusher_of flushers f).phase
    → Step (one_if (of_part false claims_one (event_of_move move))) (one_if (of_part false completes_one (event_of_move move))) (handed_by move) (backs_by move)
    flushers (set flushers f (moved move (flusher_of flushers f)))
move_steps flushers f (takes page) may =
    let p = flusher_of flushers f in
    let now = scan_held page p.phase may in
    let a = put_at held_by refl flushers f (moved (takes page) p) in
    let b = put_at flown_by refl flushers f (moved (takes page) p) in
    record { flown = omega (arith, b, now.1); taken = omega (arith, a, now.0) }
move_steps flushers f (flies n now until) may =
    let p = flusher_of flushers f in
    let is = hand_held n p.phase may in
    let a = put_at held_by refl flushers f (moved (flies n now until) p) in
    let b = put_at flown_by refl flushers f (moved (flies n now until) p) in
    record { flown = omega (arith, b, is.1, is.3); taken = omega (arith, a, is.0, is.2) }
move_steps flushers f (lands page) may =
    let p = flusher_of flushers f in
    let is = land_held page p.phase may in
    let a = put_at held_by refl flushers f (moved (lands page) p) in
    let b = put_at flown_by refl flushers f (moved (lands page) p) in
    record { flown = omega (arith, b, is.2); taken = omega (arith, a, is.0, is.1) }
move_steps flushers f (fails n) may =
    let p = flusher_of flushers f in
    let is = fail_held n p.faults p.phase may in
    let a = put_at held_by refl flushers f (moved (fails n) p) in
    let b = put_at flown_by refl flushers f (moved (fails n) p) in
    record { flown = omega (arith, b, is.0, is.1); taken = omega (arith, a, is.2) }
move_steps flushers f (gives_back page true) may = give_steps flushers f page true may
move_steps flushers f (gives_back page false) may = give_steps flushers f page false may

module _ (trace : Trace) (cpu : ℕ) (flushers : List ToldFlusher) where
  flight_steps : (flight : Option Flight) → IfSome flight (FliesBy trace cpu flushers)
      → Step (one_if (of_part false claims_one (event_of_flight flight))) (one_if (of_part false completes_one (event_of_flight flight)))
      (of_part 0 (λ (f : Flight). handed_by f.move) flight)
      (one_if (of_part false redirties_one (event_of_flight flight)) + one_if (of_part false absorbs_one (event_of_flight flight)))
      flushers (of_part flushers (flushers_by flushers) flight)
  flight_steps None may = still flushers
  flight_steps (Some flight) may = move_steps flushers flight.flusher flight.move may.1

  -- no write is of a flusher
  entry_steps : (e : Told) → FliesTold trace cpu flushers e
      → Step (one_if (is_claim e)) (one_if (is_completion e)) (handed e) (one_if (is_redirtying e) + one_if (is_absorption e)) flushers (flushers_after_told flushers e)
  entry_steps (wrote task page true) may = still flushers
  entry_steps (wrote task page false) may = still flushers
  entry_steps other may = flight_steps (effect other).flight may

-- ---- a part, and what comes after it

-- how many pages a part gives back
abbrev pub back_in : (part : List Told) → ℕ
back_in part = count_by is_redirtying part + count_by is_absorption part

module _ (trace : Trace) where
  record Walked (flushers : List ToldFlusher) (part : List Told) (rest : List Item) : Type 0 where
    completed : count_by is_completion part ≤ sum_by handed part + sum_by flown_by flushers
    handed_over : sum_by handed part + back_in part ≤ count_by is_claim part + sum_by held_by flushers
    last : List ToldFlusher
    goes_on : Along (Flies trace) (flushers_after trace) last rest

  more : (entry : Told) (old new : List ToldFlusher) (part : List Told) (rest : List Item)
      → Step (one_if (is_claim entry)) (one_if (is_completion entry)) (handed entry) (one_if (is_redirtying entry) + one_if (is_absorption entry)) old new → Walked new part rest
      → Walked old (entry ∷ part) rest
  more entry old new part rest step walked =
      let a = sum_by-cons (λ (e : Told). cond (is_completion e) 1 0) entry part in
      let b = sum_by-cons handed entry part in
      let c = sum_by-cons (λ (e : Told). cond (is_claim e) 1 0) entry part in
      let d = sum_by-cons (λ (e : Told). cond (is_redirtying e) 1 0) entry part in
      let f = sum_by-cons (λ (e : Told). cond (is_absorption e) 1 0) entry part in
      record {
        completed = omega (arith, a, b, step.flown, walked.completed);
        handed_over = omega (arith, b, c, d, f, step.taken, walked.handed_over);
        last = walked.last;
        goes_on = walked.goes_on;
      }

  walk : (cpu : ℕ) (flushers : List ToldFlusher) (part : List Told) (rest : List Item) → Along (Flies trace) (flushers_after trace) flushers (map (tells cpu) part ++ rest) → Walked flushers part rest
  walk cpu flushers [] rest along = record { completed = omega arith; handed_over = omega arith; last = flushers; goes_on = along }
  walk cpu flushers (e ∷ part) rest along =
      let new = flushers_after_told flushers e in
      more e flushers new part rest (entry_steps trace cpu flushers e along.0) (walk cpu new part rest along.1)

  -- ---- all parts

  pub record Handed (lists : List (List Told)) : Type 0 where
    pub completed : sum_by (count_by is_completion) lists ≤ sum_by (sum_by handed) lists
    pub handed_over : sum_by (sum_by handed) lists + sum_by (count_by is_redirtying) lists + sum_by (count_by is_absorption) lists ≤ sum_by (count_by is_claim) lists

  pub all_handed : (cpu : ℕ) (flushers : List ToldFlusher) (lists : List (List Told)) → Along (Flies trace) (flushers_after trace) flushers (items_from cpu lists) → Handed lists
  all_handed cpu flushers [] along = record { completed = omega arith; handed_over = omega arith }
  all_handed cpu flushers (part ∷ parts) along =
      let first = first_flushers trace.flushers in
      let w = walk cpu first part (items_from (cpu + 1) parts) along.1 in
      let rest = all_handed (cpu + 1) w.last parts w.goes_on in
      let a = nothing_first flown_by refl trace.flushers in
      let b = nothing_first held_by refl trace.flushers in
      let x = sum_by-cons (count_by is_completion) part parts in
      let y = sum_by-cons (sum_by handed) part parts in
      let z = sum_by-cons (count_by is_claim) part parts in
      let u = sum_by-cons (count_by is_redirtying) part parts in
      let v = sum_by-cons (count_by is_absorption) part parts in
      record {
        completed = omega (arith, a, x, y, w.completed, rest.completed);
        handed_over = omega (arith, b, y, z, u, v, w.handed_over, rest.handed_over);
      }
