-- A whole turn, from its two halves.
use Rattle.std.proofs.Common.{◌≡◌, ℕ, zero, suc, ◌+◌, ◌*◌, ◌^◌, ◌<◌, ◌≤◌, max, All, false, Some, None, List, [], ◌∷◌, ◌++◌, map, length, get_or, refl, sym, ap, ap₂, ◌∙◌, subst, arith, append_assoc}
use Rattle.std.proofs.lemmas.Bool.{le-ltb}
use Rattle.std.proofs.lemmas.List.{length-map, get_or_default}
use Rattle.wbt_kit.proofs.Common.{Count, Limits, MAX_LIMIT, stakes_in, room_in, TimerRecord, Trace, Cgroup, domains, thresholds_at, LastLine, is_opening, TimerEntry, HasTimer, Seated, Put, Done, Stopped, Last, Each}
use Rattle.wbt_fraction.specs.Several.{Seats as ShareSeats}
use Rattle.wbt_fraction.specs.Seat.{Seated as ShareSeat}
use Rattle.wbt_limits.specs.Cgroup.{available_to_cgroup}
use Rattle.wbt_limits.specs.Thresholds.{thresholds_of}
use Rattle.wbt_limits.specs.declared.domain.Pair.{Pair}
use Rattle.wbt_rules.specs.Thresholds.{avail_among, limits_after}
use Rattle.wbt_kit.specs.declared.kit.Seats.{Seats}
use Rattle.wbt_rules.specs.declared.moments.TheConstants.{PERIOD_TICKS}
use Rattle.wbt_run_laws.specs.Ticks.{TimerSince, stops_in}
use Rattle.wbt_run_laws.proofs.Ticking.{ticked_more}
use Rattle.wbt_timer.specs.Side.{Side, IsTimerOf, IsSide, next_of, ticked, line_of}
use Rattle.wbt_rules.specs.Moments.{periods_by}
use Rattle.wbt_timer.specs.Turn.{Outcome, PublishedEach, PublishedFirst, PublishedSome, TimerHalts, TimerPublishes, TimerSteps, TimerTurn, TriedEach, Tries, global_in, limits_each, limits_of, lines_from, no_side, noted, pages_read, seat_at, side_after, with_limits}
use Rattle.wbt_timer.specs.Turn.Tries.{none, begun, refused, came_between}
use Rattle.wbt_timer.specs.declared.side.DomainSide.{DomainSide}
use Rattle.wbt_timer.proofs.Lines.{with_long}
use Rattle.wbt_timer.proofs.Since.{limits_since, peaks_from, stops_never, stops_once}

-- ---- the limits of a machine that has what the trace has

thresholds_same : (m t : Trace) (now d g r : ℕ) → m.settings ≡ t.settings → m.avail ≡ t.avail → m.cgroups ≡ t.cgroups → thresholds_at m now d g r ≡ thresholds_at t now d g r
thresholds_same m t now zero g r settings avail cgroups = λ i. thresholds_of (avail_among now 0 (avail i)) (settings i) None
thresholds_same m t now (suc c) g r settings avail cgroups =
    λ i. thresholds_of (available_to_cgroup (get_or (cgroups i) c (record { filepages = 0; headroom = 0 })).filepages (get_or (cgroups i) c (record { filepages = 0; headroom = 0 })).headroom r
    (avail_among now 0 (avail i)) g) (settings i) (Some (avail_among now 0 (avail i)))

limits_same : (m t : Trace) (now d g : ℕ) (sides : List DomainSide) (counts : List Count) → m.settings ≡ t.settings → m.avail ≡ t.avail → m.cgroups ≡ t.cgroups
    → limits_each m now d g sides counts ≡ limits_each t now d g sides counts
limits_same m t now d g sides [] settings avail cgroups = refl
limits_same m t now d g [] (c ∷ counts) settings avail cgroups = refl
limits_same m t now d g (s ∷ sides) (c ∷ counts) settings avail cgroups =
    ap₂ (λ (l : Limits) (ls : List Limits). l ∷ ls) (ap (λ (p : Pair). limits_after p s.hard (pages_read c)) (thresholds_same m t now d g (pages_read c) settings avail cgroups))
    (limits_same m t now (suc d) g sides counts settings avail cgroups)

-- ---- sides

-- with_limits leaves what is owed, and moves no moment past this one
owed_by : (put : Put) (now : ℕ) (l : Limits) (s : DomainSide) → (side_after put now l s).owed ≡ s.owed
owed_by Done now l s = refl
owed_by Stopped now l s = refl
owed_by Last now l s = refl

owed_stays : (now : ℕ) (os : List Outcome) (sides : List DomainSide) (d : ℕ) → (get_or (with_limits now os sides) d no_side).owed ≡ (get_or sides d no_side).owed
owed_stays now [] sides d = refl
owed_stays now (o ∷ os) [] d = refl
owed_stays now (o ∷ os) (s ∷ sides) zero = owed_by o.put now o.limits s
owed_stays now (o ∷ os) (s ∷ sides) (suc d) = owed_stays now os sides d

at_by : (put : Put) (now : ℕ) (l : Limits) (s : DomainSide) → s.at ≤ now → (side_after put now l s).at ≤ now
at_by Done now l s early = omega arith
at_by Stopped now l s early = early
at_by Last now l s early = early

at_most : (now : ℕ) (os : List Outcome) (sides : List DomainSide) (d : ℕ) → (get_or sides d no_side).at ≤ now → (get_or (with_limits now os sides) d no_side).at ≤ now
at_most now [] sides d early = early
at_most now (o ∷ os) [] d early = early
at_most now (o ∷ os) (s ∷ sides) zero early = at_by o.put now o.limits s early
at_most now (o ∷ os) (s ∷ sides) (suc d) early = at_most now os sides d early

-- the last outcome of a turn that was stopped changes nothing
stopped_last : (now : ℕ) (l : Limits) (os : List Outcome) (sides : List DomainSide) → with_limits now (os ++ record { limits = l; put = Stopped } ∷ []) sides ≡ with_limits now os sides
stopped_last now l [] [] = refl
stopped_last now l [] (s ∷ sides) = refl
stopped_last now l (o ∷ os) [] = refl
stopped_last now l (o ∷ os) (s ∷ sides) = ap (λ (r : List DomainSide). side_after o.put now o.limits s ∷ r) (stopped_last now l os sides)

same_lines : (xs ys : List DomainSide) → length xs ≡ length ys → ((d : ℕ) → (get_or xs d no_side).hard ≡ (get_or ys d no_side).hard)
    → ((d : ℕ) → (get_or xs d no_side).at ≡ (get_or ys d no_side).at) → map line_of xs ≡ map line_of ys
same_lines [] [] long hards ats = refl
same_lines [] (y ∷ ys) long hards ats = absurd (omega (arith, long))
same_lines (x ∷ xs) [] long hards ats = absurd (omega (arith, long))
same_lines (x ∷ xs) (y ∷ ys) long hards ats =
    let rest = same_lines xs ys (omega (arith, long)) (λ d. hards (suc d)) (λ d. ats (suc d)) in
    λ i. record { now = ats 0 i; hard = hards 0 i } ∷ rest i

each_of : (P : DomainSide → Type 0) (xs : List DomainSide) → All P xs → Each P xs
each_of P [] all = tt
each_of P (x ∷ xs) all = (all 0 x (omega arith), each_of P xs (λ k d less. all (suc k) d (omega arith)))

-- ---- what was published, of the trace

module _ (now g : ℕ) (outcomes : List Outcome) (old : Side) (sides1 : List DomainSide) (s0 s1 : Seats) (log0 log1 : List TimerEntry) (is_side : IsSide old) (late : next_of old ≤ now)
    (p : PublishedEach old.machine now g outcomes old.domains sides1 s0 s1 log0 log1) where
  abbrev pub lines : List TimerEntry
  lines = lines_from now 0 outcomes

  pub long : length sides1 ≡ length old.domains
  long = ap (λ (l : List DomainSide). length l) p.sides_are ∙ with_long now outcomes old.domains

  early : Each (λ (s : DomainSide). s.at ≤ old.last) old.domains
  early = each_of (λ (s : DomainSide). s.at ≤ old.last) old.domains is_side.published

  module _ (trace : Trace) (r : TimerRecord) (its : IsTimerOf trace old) (has : HasTimer r s0) where
    pub all : limits_of outcomes ≡ limits_each trace now 0 (global_in p.counts) old.domains p.counts
    all = p.limits_are ∙ limits_same old.machine trace now 0 (global_in p.counts) old.domains p.counts its.settings its.avail its.cgroups

    pub many : length old.domains ≡ domains trace
    many = is_side.many ∙ ap (λ (l : List Cgroup). suc (length l)) its.cgroups

    abbrev pub held : TimerRecord
    held = (p.became r has).held

    pub publishes : TimerPublishes trace now outcomes old r held lines
    publishes = record {
      counts = p.counts;
      each_domain = p.each_domain;
      limits_are = all;
      readings = (p.became r has).readings_are;
      published = (p.became r has).published_are;
      raised = (p.became r has).raised_are;
      lasts = p.lasts r has;
      lines_are = refl;
    }

    -- its lines go on, with sides that have these lines
    pub first_half : (opened : ℕ) (sides : List DomainSide) → map line_of sides ≡ map line_of sides1
        → TimerSince trace opened (stops_in (peaks_from 0 outcomes)) lines (ticked r old s0.share) (record { held = held; lines = map line_of sides; shares = noted s1.share })
    first_half opened sides same =
        subst (λ (sh : ShareSeats). TimerSince trace opened (stops_in (peaks_from 0 outcomes)) lines (ticked r old s0.share) (record { held = held; lines = map line_of sides; shares = noted sh })) (sym p.kept.share)
        (subst (λ (l : List LastLine). TimerSince trace opened (stops_in (peaks_from 0 outcomes)) lines (ticked r old s0.share) (record { held = held; lines = l; shares = noted s0.share })) (ap (map line_of) (sym p.sides_are) ∙ sym same)
        (limits_since trace opened now old.last (global_in p.counts) outcomes old.domains p.counts r held (noted s0.share) late all many early
        (p.became r has).published_are (p.became r has).raised_are (p.lasts r has)))

-- ---- a turn that the gate stopped

module _ (now g : ℕ) (old new : Side) (sides1 : List DomainSide) (s0 s1 : Seats) (log0 log1 : List TimerEntry) (is_side : IsSide old) (late : next_of old ≤ now)
    (p : PublishedSome old.machine now g old.domains sides1 s0 s1 log0 log1)
    (new_is : new ≡ record { machine = old.machine; last = now; period = old.period; domains = sides1 }) where
  abbrev all_of : List Outcome
  all_of = p.outcomes ++ record { limits = p.limits; put = Stopped } ∷ []

  pub halts : TimerHalts now old new s0 s1 log0 log1
  halts = record {
    added = lines_from now 0 all_of;
    logged = p.published.logged;
    stay = record {
      table = p.published.kept.table;
      layout = p.published.kept.layout;
      cpus = p.published.kept.cpus;
      logs = p.published.kept.logs;
      totals = ap (λ (s : ShareSeats). s.totals) p.published.kept.share;
      stakes = λ d. ap (λ (s : ShareSeats). stakes_in d s.domains) p.published.kept.share;
      rooms = λ d. ap (λ (s : ShareSeats). room_in d s.domains) p.published.kept.share;
      est = p.published.kept.est;
      queue = p.published.kept.queue;
    };
    share = p.published.kept.share;
    turn = λ trace r its has.
        let held' : TimerRecord = (p.published.became r has).held in (
          held',
          (p.published.became r has).has,
          record {
            outcomes = p.outcomes;
            some = p.some;
            through = p.through;
            limits = p.limits;
            publishes = publishes now g all_of old sides1 s0 s1 log0 log1 is_side late p.published trace r its has;
            domains_are = ap (λ (s : Side). s.domains) new_is ∙ p.published.sides_are ∙ stopped_last now p.limits p.outcomes old.domains;
            last = ap (λ (s : Side). s.last) new_is;
            period = ap (λ (s : Side). s.period) new_is;
            machine = ap (λ (s : Side). s.machine) new_is;
          },
          λ opened. subst (λ (s : Side). TimerSince trace opened 1 (lines_from now 0 all_of) (ticked r old s0.share) (ticked held' s s1.share)) (sym new_is)
              (subst (λ (n : ℕ). TimerSince trace opened n (lines_from now 0 all_of) (ticked r old s0.share) (record { held = held'; lines = map line_of sides1; shares = noted s1.share }))
              (stops_once 0 p.outcomes p.limits p.through)
              (first_half now g all_of old sides1 s0 s1 log0 log1 is_side late p.published trace r its has opened sides1 refl)),
        );
  }

  pub halted_side : now < 2 ^ 62 → All (λ (s : DomainSide). s.hard ≤ MAX_LIMIT) sides1 → IsSide (record { machine = old.machine; last = now; period = old.period; domains = sides1 })
  halted_side early' hards =
      let as_many' : length sides1 ≡ length old.domains = long now g all_of old sides1 s0 s1 log0 log1 is_side late p.published in
      let before = is_side.period_near in
      record {
        fits = is_side.fits;
        many = as_many' ∙ is_side.many;
        few = omega (arith, as_many', is_side.few);
        last_in_range = early';
        period_near = omega (arith, before, late);
        hards = hards;
        published = λ k d low.
            let here = get_or_default sides1 k d no_side low in
            let was = is_side.published k no_side (omega (arith, low, as_many')) in
            let same = ap (λ (l : List DomainSide). (get_or l k no_side).at) p.published.sides_are in
            let most = at_most now all_of old.domains k (omega (arith, was, late)) in
            omega (arith, ap (λ (s : DomainSide). s.at) here, same, most);
        owed = λ k d low.
            let here = get_or_default sides1 k d no_side low in
            let was = is_side.owed k no_side (omega (arith, low, as_many')) in
            let same = ap (λ (l : List DomainSide). (get_or l k no_side).owed) p.published.sides_are ∙ owed_stays now all_of old.domains k in
            omega (arith, ap (λ (s : DomainSide). s.owed) here, same, was);
      }

-- ---- a whole turn

module _ (now come g : ℕ) (old new : Side) (sides1 sides2 : List DomainSide) (s0 s1 s2 : Seats) (log0 log1 log2 : List TimerEntry) (is_side : IsSide old) (late : next_of old ≤ now)
    (come_is : come ≡ periods_by now old.period) (f : PublishedFirst old.machine now (length old.domains) g old.domains sides1 s0 s1 log0 log1)
    (t : TriedEach come (length sides1) sides1 sides2 s1 s2 log1 log2)
    (new_is : new ≡ record { machine = old.machine; last = now; period = old.period + PERIOD_TICKS * come; domains = sides2 }) where
  abbrev os : List Outcome
  os = f.outcomes

  abbrev p : PublishedEach old.machine now g os old.domains sides1 s0 s1 log0 log1
  p = f.published

  abbrev its_lines : List TimerEntry
  its_lines = lines_from now 0 os

  long' : length sides1 ≡ length old.domains
  long' = long now g os old sides1 s0 s1 log0 log1 is_side late p

  last_lines : map line_of sides2 ≡ map line_of sides1
  last_lines = same_lines sides2 sides1 t.many t.hards t.ats

  module _ (trace : Trace) (r : TimerRecord) (its : IsTimerOf trace old) (has : HasTimer r s0) where
    abbrev held' : TimerRecord
    held' = (p.became r has).held

    many' : length old.domains ≡ domains trace
    many' = many now g os old sides1 s0 s1 log0 log1 is_side late p trace r its has

    second_half : (opened : ℕ) → TimerSince trace opened 0 t.periods (record { held = held'; lines = map line_of sides2; shares = noted s1.share })
        (record { held = held'; lines = map line_of sides2; shares = noted s2.share })
    second_half opened =
        let opens : is_opening trace (map line_of sides2) ≡ false =
        le-ltb (length (map line_of sides2)) (domains trace) (omega (arith, length-map sides2 line_of, t.many, long', many')) in
        t.since trace opened held' (map line_of sides2) opens (omega (arith, long', many'))

    domains_are : new.domains ≡ sides2
    domains_are = ap (λ (s : Side). s.domains) new_is

    whole : (opened : ℕ) → TimerSince trace opened 0 (its_lines ++ t.periods) (ticked r old s0.share) (ticked held' new s2.share)
    whole opened =
        subst (λ (s : Side). TimerSince trace opened 0 (its_lines ++ t.periods) (ticked r old s0.share) (ticked held' s s2.share)) (sym new_is)
        (ticked_more trace opened 0 0 its_lines t.periods (ticked r old s0.share) (record { held = held'; lines = map line_of sides2; shares = noted s1.share })
        (record { held = held'; lines = map line_of sides2; shares = noted s2.share })
        (subst (λ (n : ℕ). TimerSince trace opened n its_lines (ticked r old s0.share) (record { held = held'; lines = map line_of sides2; shares = noted s1.share })) (stops_never 0 os f.through)
        (first_half now g os old sides1 s0 s1 log0 log1 is_side late p trace r its has opened sides2 last_lines)) (second_half opened))

    turned : TimerTurn trace now old new r held' s0.share s2.share (its_lines ++ t.periods)
    turned = record {
      outcomes = os;
      all = f.each_domain;
      through = f.through;
      lines = its_lines;
      publishes = publishes now g os old sides1 s0 s1 log0 log1 is_side late p trace r its has;
      hards = λ d. ap (λ (l : List DomainSide). (get_or l d no_side).hard) domains_are ∙ t.hards d ∙ ap (λ (l : List DomainSide). (get_or l d no_side).hard) p.sides_are;
      periods = t.periods;
      added_are = refl;
      tried = λ d less. tried_at d (t.each d (omega (arith, long', less)));
      last = ap (λ (s : Side). s.last) new_is;
      period = ap (λ (s : Side). s.period) new_is ∙ ap (λ (n : ℕ). old.period + PERIOD_TICKS * n) come_is;
      many = ap (λ (l : List DomainSide). length l) domains_are ∙ t.many ∙ long';
      machine = ap (λ (s : Side). s.machine) new_is;
    }
      where
        tried_at : (d : ℕ) → (line : List TimerEntry) × Tries d ((get_or sides1 d no_side).owed + come) (seat_at d s1.share) (seat_at d s2.share) (get_or sides2 d no_side).owed line
            → (line : List TimerEntry) × Tries d ((get_or old.domains d no_side).owed + periods_by now old.period) (seat_at d s0.share) (seat_at d s2.share) (get_or new.domains d no_side).owed line
        tried_at d was = (
          was.0,
          subst (λ (l : List DomainSide). Tries d ((get_or old.domains d no_side).owed + periods_by now old.period) (seat_at d s0.share) (seat_at d s2.share) (get_or l d no_side).owed was.0) (sym domains_are)
              (subst (λ (n : ℕ). Tries d ((get_or old.domains d no_side).owed + n) (seat_at d s0.share) (seat_at d s2.share) (get_or sides2 d no_side).owed was.0) come_is
              (subst (λ (n : ℕ). Tries d (n + come) (seat_at d s0.share) (seat_at d s2.share) (get_or sides2 d no_side).owed was.0)
              (ap (λ (l : List DomainSide). (get_or l d no_side).owed) p.sides_are ∙ owed_stays now os old.domains d)
              (subst (λ (sh : ShareSeats). Tries d ((get_or sides1 d no_side).owed + come) (seat_at d sh) (seat_at d s2.share) (get_or sides2 d no_side).owed was.0) p.kept.share was.1))),
        )

  pub steps : TimerSteps now old new s0 s2 log0 log2
  steps = record {
    added = its_lines ++ t.periods;
    logged = t.logged ∙ ap (λ (l : List TimerEntry). l ++ t.periods) p.logged ∙ append_assoc log0 its_lines t.periods;
    stay = record {
      table = ap (λ (s : Seated). s.table) t.kept.cpu ∙ p.kept.table;
      layout = ap (λ (s : Seated). s.layout) t.kept.cpu ∙ p.kept.layout;
      cpus = ap (λ (s : Seated). s.cpus) t.kept.cpu ∙ p.kept.cpus;
      logs = ap (λ (s : Seated). s.logs) t.kept.cpu ∙ p.kept.logs;
      totals = t.kept.totals ∙ ap (λ (s : ShareSeats). s.totals) p.kept.share;
      stakes = λ d. t.kept.stakes d ∙ ap (λ (s : ShareSeats). stakes_in d s.domains) p.kept.share;
      rooms = λ d. t.kept.rooms d ∙ ap (λ (s : ShareSeats). room_in d s.domains) p.kept.share;
      est = t.kept.est ∙ p.kept.est;
      queue = t.kept.queue ∙ p.kept.queue;
    };
    turn = λ trace r its has. (held' trace r its has, ap (λ (s : Seated). s.timer) t.kept.cpu ∙ (p.became r has).has, turned trace r its has, whole trace r its has);
  }

-- ---- what the timer keeps

-- no more is owed than was tried
owed_most : (d k : ℕ) (old new : ShareSeat) (owed : ℕ) (added : List TimerEntry) → Tries d k old new owed added → owed ≤ k
owed_most d k old new owed added (none zero_is new_is owed_is added_is) = omega (arith, owed_is)
owed_most d k old new owed added (begun some begins owed_is added_is) = omega (arith, owed_is)
owed_most d k old new owed added (refused some begins owed_is added_is) = omega (arith, owed_is)
owed_most d k old new owed added (came_between again some lost owed_is added_is) = omega (arith, owed_is)

module _ (now come g : ℕ) (old : Side) (sides1 sides2 : List DomainSide) (s0 s1 s2 : Seats) (log0 log1 log2 : List TimerEntry) (is_side : IsSide old) (late : next_of old ≤ now)
    (early : now < 2 ^ 62) (near : old.period + PERIOD_TICKS * come ≤ max old.period (now + PERIOD_TICKS))
    (f : PublishedFirst old.machine now (length old.domains) g old.domains sides1 s0 s1 log0 log1) (hards : All (λ (s : DomainSide). s.hard ≤ MAX_LIMIT) sides1) where
  pub as_many : length sides1 ≡ length old.domains
  as_many = ap (λ (l : List DomainSide). length l) f.published.sides_are ∙ with_long now f.outcomes old.domains

  owed_at : (d : ℕ) → (get_or sides1 d no_side).owed ≡ (get_or old.domains d no_side).owed
  owed_at d = ap (λ (l : List DomainSide). (get_or l d no_side).owed) f.published.sides_are ∙ owed_stays now f.outcomes old.domains d

  -- what is owed and what has come are few
  pub few_periods : All (λ (s : DomainSide). s.owed + come < 2 ^ 63) sides1
  few_periods k d low =
      let here = get_or_default sides1 k d no_side low in
      let was = is_side.owed k no_side (omega (arith, low, as_many)) in
      let same = owed_at k in
      let period = is_side.period_near in
      let last = is_side.last_in_range in
      omega (arith, ap (λ (s : DomainSide). s.owed) here, same, was, period, last, near, early, late)

  module _ (t : TriedEach come (length sides1) sides1 sides2 s1 s2 log1 log2) where
    hard_two : (k : ℕ) (d : DomainSide) → k < length sides2 → (get_or sides2 k d).hard ≤ MAX_LIMIT
    hard_two k d low =
        let was = hards k no_side (omega (arith, low, t.many)) in
        omega (arith, ap (λ (s : DomainSide). s.hard) (get_or_default sides2 k d no_side low), t.hards k, was)

    at_two : (k : ℕ) (d : DomainSide) → k < length sides2 → (get_or sides2 k d).at ≤ now
    at_two k d low =
        let was = is_side.published k no_side (omega (arith, low, t.many, as_many)) in
        let same = ap (λ (l : List DomainSide). (get_or l k no_side).at) f.published.sides_are in
        let most = at_most now f.outcomes old.domains k (omega (arith, was, late)) in
        omega (arith, ap (λ (s : DomainSide). s.at) (get_or_default sides2 k d no_side low), t.ats k, same, most)

    owed_two : (k : ℕ) (d : DomainSide) → k < length sides2 → PERIOD_TICKS * (get_or sides2 k d).owed ≤ old.period + PERIOD_TICKS * come
    owed_two k d low =
        let inside : k < length sides1 = omega (arith, low, t.many) in
        let tried = t.each k inside in
        let most = owed_most k ((get_or sides1 k no_side).owed + come) (seat_at k s1.share) (seat_at k s2.share) (get_or sides2 k no_side).owed tried.0 tried.1 in
        let was = is_side.owed k no_side (omega (arith, inside, as_many)) in
        let same = owed_at k in
        omega (arith, ap (λ (s : DomainSide). s.owed) (get_or_default sides2 k d no_side low), most, same, was)

    pub next_side : IsSide (record { machine = old.machine; last = now; period = old.period + PERIOD_TICKS * come; domains = sides2 })
    next_side = record {
      fits = is_side.fits;
      many = t.many ∙ as_many ∙ is_side.many;
      few = omega (arith, t.many, as_many, is_side.few);
      last_in_range = early;
      period_near = let before = is_side.period_near in omega (arith, near, before, late);
      hards = hard_two;
      published = at_two;
      owed = owed_two;
    }
