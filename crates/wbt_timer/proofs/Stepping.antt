-- What the timer's steps make of the seats, step by step.
use Rattle.std.proofs.Common.{◌≡◌, ℕ, ◌+◌, ◌*◌, ◌<◌, ◌≤◌, Bool, true, false, cond, not, eq-eqb, Some, IsSomeAnd, List, [], ◌∷◌, ◌++◌, length, get_or, set, refl, sym, ap, ◌∙◌, subst, arith, append_assoc, length-append}
use Rattle.std.proofs.lemmas.List.{append-nil, map-append}
use Rattle.wbt_kit.proofs.Common.{Limits, MAX_LIMIT, one_if, Count, Reading, Setting, version_of, Raised, TimerRecord, TimerEntry, Trace, Made, Puts, timer_of, Seated, Put, Done, Stopped, Last}
use Rattle.wbt_num.specs.declared.limits.TheConstants.{LAST_SEQUENCE}
use Rattle.wbt_num.specs.Limits.{IsLawful}
use Rattle.wbt_grant.specs.Kinds.{last_raised}
use Rattle.wbt_grant.specs.State.{is_sealed, stage_of}
use Rattle.wbt_kit.specs.declared.kit.Seats.{Seats}
use Rattle.wbt_table.specs.Calls.{IsCutPut, IsWholePut, MayPut}
use Rattle.wbt_table.specs.Calls.IsCutPut.{at_once, after_unseal, after_thresh, after_both}
use Rattle.wbt_timer.specs.Turn.{Counted, IsLastPut, Outcome, Published, PublishedEach, PublishedFirst, SeatsKept, global_in, is_through, limits_by, limits_each, line_for, lines_from, no_side, published_by, reading_of, side_after, with_limits}
use Rattle.wbt_timer.specs.declared.side.DomainSide.{DomainSide}
use Rattle.wbt_timer.proofs.Lines.{lasts_more, limits_more, lines_more, published_more as more_published, raised_more, read_more, with_later, with_more}

-- the peak that was raised last is at least the hard limit that it was raised to
pub may_put : (d : ℕ) (l : Limits) (r : TimerRecord) (older : List Raised) → IsLawful l → r.raised ≡ record { domain = d; hard = l.hard } ∷ older → MayPut d l r
may_put d l r older lawful is = record {
  lawful = lawful;
  raised_before = subst (λ (rs : List Raised). IsSomeAnd (last_raised d rs) (λ hard. l.hard ≤ hard)) (sym is)
      (subst (λ (b : Bool). IsSomeAnd (cond b (Some l.hard) (last_raised d older)) (λ hard. l.hard ≤ hard)) (sym (eq-eqb d d refl)) (omega arith));
}

-- ---- a publication, by its answer

-- what becomes of the timer's record
pub record PutOn (put : Put) (d : ℕ) (l : Limits) (r r' : TimerRecord) : Type 0 where
  pub published : r'.published ≡ published_by put d l r.published
  pub readings : r'.readings ≡ r.readings
  pub raised : r'.raised ≡ r.raised

whole_put : (d : ℕ) (l : Limits) (was_sealed : Bool) (made : List Made) (r : TimerRecord) → IsWholePut d l was_sealed made → PutOn Done d l r (timer_of made r)
whole_put d l true made r w = subst (λ (m : List Made). PutOn Done d l r (timer_of m r)) (sym w.3) (record { published = refl; readings = refl; raised = refl })
whole_put d l false made r w = subst (λ (m : List Made). PutOn Done d l r (timer_of m r)) (sym w.2) (record { published = refl; readings = refl; raised = refl })

cut_put : (d : ℕ) (l : Limits) (was_sealed : Bool) (made : List Made) (r : TimerRecord) → IsCutPut d l was_sealed made → PutOn Stopped d l r (timer_of made r)
cut_put d l was_sealed made r (at_once is) = subst (λ (m : List Made). PutOn Stopped d l r (timer_of m r)) (sym is) (record { published = refl; readings = refl; raised = refl })
cut_put d l was_sealed made r (after_unseal k even is) = subst (λ (m : List Made). PutOn Stopped d l r (timer_of m r)) (sym is) (record { published = refl; readings = refl; raised = refl })
cut_put d l was_sealed made r (after_thresh n odd is) = subst (λ (m : List Made). PutOn Stopped d l r (timer_of m r)) (sym is) (record { published = refl; readings = refl; raised = refl })
cut_put d l was_sealed made r (after_both k n even is) = subst (λ (m : List Made). PutOn Stopped d l r (timer_of m r)) (sym is) (record { published = refl; readings = refl; raised = refl })

-- the last sequence is that of the last version
last_version : (v : ℕ) (was_sealed : Bool) → LAST_SEQUENCE ≤ 2 * v + one_if (not was_sealed) → LAST_SEQUENCE ≤ 2 * v
last_version v true last = omega (arith, last)
last_version v false last = omega (arith, last)

module _ (set : Setting) (d : ℕ) (l : Limits) (said : ℕ → Bool → Type 0) (old new : Seated) where
  pub put_on : (put : Put) → Puts set d l said put old new → (r : TimerRecord) → old.timer ≡ Some r → (r' : TimerRecord) × (new.timer ≡ Some r') × PutOn put d l r r'
  put_on Done p r has = (timer_of p.0 r, (p.1.timer r has).0, whole_put d l (is_sealed (stage_of d r.drafts)) p.0 r (p.2 r has))
  put_on Stopped p r has = (timer_of p.0 r, (p.1.timer r has).0, cut_put d l (is_sealed (stage_of d r.drafts)) p.0 r (p.2 r has))
  put_on Last p r has = (r, ap (λ (s : Seated). s.timer) p.0 ∙ has, record { published = refl; readings = refl; raised = refl })

  pub last_put : (put : Put) → Puts set d l said put old new → (r : TimerRecord) → old.timer ≡ Some r → IsLastPut put d r.published
  last_put Done p r has = tt
  last_put Stopped p r has = tt
  last_put Last p r has = let last = p.1 r has in last_version (version_of d r.published) (is_sealed (stage_of d r.drafts)) (omega (arith, last))

  -- nothing else of the seat changes
  pub put_kept : (put : Put) → Puts set d l said put old new → (new.table ≡ old.table) × (new.layout ≡ old.layout) × (new.cpus ≡ old.cpus) × (new.logs ≡ old.logs)
  put_kept Done p = (p.1.table, p.1.layout, p.1.cpus, p.1.logs)
  put_kept Stopped p = (p.1.table, p.1.layout, p.1.cpus, p.1.logs)
  put_kept Last p = (ap (λ (s : Seated). s.table) p.0, ap (λ (s : Seated). s.layout) p.0, ap (λ (s : Seated). s.cpus) p.0, ap (λ (s : Seated). s.logs) p.0)

  pub put_stopped : (put : Put) → put ≡ Stopped → Puts set d l said put old new → (r : TimerRecord) → new.timer ≡ Some r → said r.steps false
  put_stopped Done is p r has = absurd (let e = is in cc)
  put_stopped Stopped is p r has = p.3 r has
  put_stopped Last is p r has = absurd (let e = is in cc)

-- ---- domain by domain

pub kept_more : (a b c : Seats) → SeatsKept a b → SeatsKept b c → SeatsKept a c
kept_more a b c p q = record {
  table = q.table ∙ p.table;
  layout = q.layout ∙ p.layout;
  cpus = q.cpus ∙ p.cpus;
  logs = q.logs ∙ p.logs;
  share = q.share ∙ p.share;
  est = q.est ∙ p.est;
  queue = q.queue ∙ p.queue;
}

-- the limits of one domain more
pub published_more : (machine : Trace) (now i g : ℕ) (outcomes : List Outcome) (sides sides1 sides2 : List DomainSide) (s0 s1 s2 s3 : Seats) (log0 log1 log2 : List TimerEntry) (g' : ℕ) (c : Count) (o : Outcome)
    → (p : PublishedEach machine now g outcomes sides sides1 s0 s1 log0 log1) → length outcomes ≡ i → i < length sides → Counted i c s1 s2 → g' ≡ global_in (p.counts ++ c ∷ [])
    → o.limits ≡ limits_by machine now i g' (get_or sides1 i no_side).hard c → Published i o.limits o.put s2 s3
    → sides2 ≡ set sides1 i (side_after o.put now o.limits (get_or sides1 i no_side)) → log2 ≡ log1 ++ line_for o.put i now o.limits
    → PublishedEach machine now g' (outcomes ++ o ∷ []) sides sides2 s0 s3 log0 log2
published_more machine now i g outcomes sides sides1 sides2 s0 s1 s2 s3 log0 log1 log2 g' c o p many less counted global its published noted logged =
    let cs : List Count = p.counts in
    let g2 : ℕ = global_in (cs ++ c ∷ []) in
    let each : length cs ≡ i = p.each_domain ∙ many in
    let few : length cs < length sides = omega (arith, each, less) in
    let at : get_or sides1 i no_side ≡ get_or sides i no_side =
    ap (λ (r : List DomainSide). get_or r i no_side) p.sides_are ∙ with_later now outcomes sides i (omega (arith, many)) in
    let mine : limits_by machine now (length cs) g2 (get_or sides (length cs) no_side).hard c ≡ o.limits =
    ap (λ (k : ℕ). limits_by machine now k g2 (get_or sides k no_side).hard c) each
    ∙ ap (λ (s : DomainSide). limits_by machine now i g2 s.hard c) (sym at) ∙ ap (λ (k : ℕ). limits_by machine now i k (get_or sides1 i no_side).hard c) (sym global) ∙ sym its in
    record {
      counts = cs ++ c ∷ [];
      each_domain = omega (arith, length-append cs (c ∷ []), length-append outcomes (o ∷ []), p.each_domain);
      global_is = global;
      limits_are = map-append (λ (x : Outcome). x.limits) outcomes (o ∷ []) ∙ ap (λ (ls : List Limits). ls ++ o.limits ∷ []) p.limits_are
          ∙ ap (λ (l : Limits). limits_each machine now 0 (global_in cs) sides cs ++ l ∷ []) (sym mine) ∙ sym (limits_more machine now sides cs c few);
      kept = kept_more s0 s1 s3 p.kept (kept_more s1 s2 s3 counted.kept published.kept);
      sides_are = noted ∙ ap (λ (r : List DomainSide). set r i (side_after o.put now o.limits (get_or r i no_side))) p.sides_are
          ∙ ap (λ (k : ℕ). set (with_limits now outcomes sides) k (side_after o.put now o.limits (get_or (with_limits now outcomes sides) k no_side))) (sym many)
          ∙ sym (with_more now outcomes sides o (omega (arith, many, less)));
      logged = logged ∙ ap (λ (x : List TimerEntry). x ++ line_for o.put i now o.limits) p.logged ∙ append_assoc log0 (lines_from now 0 outcomes) (line_for o.put i now o.limits)
          ∙ ap (λ (x : List TimerEntry). log0 ++ x) (sym (lines_more now 0 outcomes o i (omega (arith, many))));
      became = λ r has.
          let one = p.became r has in
          let two = counted.became one.held one.has in
          let three = published.became two.held two.has in
          record {
            held = three.held;
            has = three.has;
            readings_are = three.readings_are ∙ two.readings_are ∙ ap (λ (x : List Reading). reading_of i c ∷ x) one.readings_are ∙ sym (read_more 0 cs c r.readings i (omega (arith, each)));
            published_are = three.published_are ∙ ap (published_by o.put i o.limits) (two.published_are ∙ one.published_are)
                ∙ sym (more_published 0 outcomes o r.published i (omega (arith, many)));
            raised_are = three.raised_are ∙ ap (λ (x : List Raised). record { domain = i; hard = o.limits.hard } ∷ x) (two.raised_are ∙ one.raised_are)
                ∙ sym (raised_more 0 outcomes o r.raised i (omega (arith, many)));
          };
      lasts = λ r has.
          let one = p.became r has in
          let two = counted.became one.held one.has in
          lasts_more 0 outcomes o r.published i (omega (arith, many)) (p.lasts r has)
          (subst (IsLastPut o.put i) (two.published_are ∙ one.published_are) (published.last two.held two.has));
    }

-- before the first domain
pub published_none : (machine : Trace) (now : ℕ) (sides : List DomainSide) (s : Seats) (log : List TimerEntry) → PublishedFirst machine now 0 0 sides sides s s log log
published_none machine now sides s log = record {
  outcomes = [];
  each_domain = refl;
  through = tt;
  published = record {
    counts = [];
    each_domain = refl;
    global_is = refl;
    limits_are = refl;
    kept = record { table = refl; layout = refl; cpus = refl; logs = refl; share = refl; est = refl; queue = refl };
    sides_are = refl;
    logged = sym (append-nil log);
    became = λ r has. record { held = r; has = has; readings_are = refl; published_are = refl; raised_are = refl };
    lasts = λ r has. tt;
  };
}

-- ---- answers and sides

pub not_through : (put : Put) → is_through put ≡ false → put ≡ Stopped
not_through Done is = absurd (let e = is in cc)
not_through Stopped is = refl
not_through Last is = absurd (let e = is in cc)

pub hard_after : (put : Put) (now : ℕ) (l : Limits) (s : DomainSide) → l.hard ≤ MAX_LIMIT → s.hard ≤ MAX_LIMIT → (side_after put now l s).hard ≤ MAX_LIMIT
hard_after Done now l s new old = new
hard_after Stopped now l s new old = old
hard_after Last now l s new old = old
