-- The kinds of the timer's steps: of a log that grows, of a publication, and of a turn domain by domain.
use Rattle.std.proofs.Common.{◌≡◌, ◌≢◌, ℕ, zero, suc, ◌+◌, ◌*◌, ◌-◌, ◌<◌, ◌≤◌, Bool, true, false, Some, None, Option, List, [], ◌∷◌, ◌++◌, length, get_or, replicate, refl, sym, ap, ◌∙◌, subst, arith, append_assoc, length-append, eqb, ne_eqb}
use Rattle.std.proofs.lemmas.List.{append-nil, length-replicate}
use mathlib.Core.Logic.{dite}
use native.Mathlib.Decide.{ℕ_discrete}
use Rattle.wbt_kit.proofs.Common.{Limits, one_if, Step, timer_after, Setting, version_of, DomainLimits, TimerRecord, StepKind, HasTimer, Made, Puts, timer_of, LogsSteps, setting, Seated, Put, Done, Stopped, Last, Granted, Logged}
use Rattle.wbt_num.specs.declared.limits.TheConstants.{LAST_SEQUENCE}
use Rattle.wbt_grant.specs.Effects.{effect}
use Rattle.wbt_grant.specs.Record.{with_stage}
use Rattle.wbt_grant.specs.State.{is_sealed, opening, stage_of}
use Rattle.wbt_grant.specs.declared.record.Draft.{Draft}
use Rattle.wbt_grant.specs.declared.record.Stage.TheVariants.{Sealed, Unsealed, Drafted}
use Rattle.wbt_grant.specs.declared.who.StepKind.TheVariants as kind
use Rattle.wbt_grant.proofs.Sequences.{stage_here, stage_there}
use Rattle.wbt_turns.specs.Words.{IsCutOff, IsTimerTurn, IsWhole, kind_of, publications, publications_but}
use Rattle.wbt_turns.proofs.Following.{cut_more, timer_turns_follow, whole_more, whole_none}
use Rattle.wbt_kit.specs.declared.kit.Seats.{Seats}
use Rattle.wbt_table.specs.Calls.{IsCutPut, IsWholePut, TimesAll}
use Rattle.wbt_table.specs.Calls.IsCutPut.{at_once, after_unseal, after_thresh, after_both}
use Rattle.wbt_table.specs.History.{LogsStep, Past, log_granted, step_told, timer_log_of}
use Rattle.wbt_table.specs.Seat.{Times}
use Rattle.wbt_timer.specs.Kinds.{CutsTurn, HasSealed, IsSealedFirst, PublishesAll, PutSteps, Steps, StepsAs, TakesTurn, TurnsFollowOneAnother, kinds_in, peak_and_put}
use Rattle.wbt_timer.specs.Turn.{IsLastPut, Outcome, is_through, published_by, published_from}

-- ---- a log that grows

-- the kind of a step that is logged
abbrev kind_made : (step : Step) (found : ℕ) → List StepKind
kind_made step found = kind_of (step_told (effect step).access found)

abbrev word_of : (made : List Made) → List StepKind
word_of [] = []
word_of (m ∷ more) = kind_made m.step m.found ++ word_of more

module _ (set : Setting) (own : Past → List Logged) where
  -- a grant that comes with a step is none
  granted_kinds : (grants : Option Granted) (moment : ℕ) (log : List Logged) → kinds_in (log_granted moment grants log) ≡ kinds_in log
  granted_kinds None moment log = refl
  granted_kinds (Some g) moment log = append-nil (kinds_in log)

  step_kinds : (grants : Option Granted) (step : Step) (n : ℕ) (log log' : List Logged) → LogsStep set own grants step n log log' → kinds_in log' ≡ kinds_in log ++ kind_made step n
  step_kinds grants step n log log' l =
      ap kinds_in l.log ∙ ap (λ (w : List StepKind). w ++ kind_made step n) (ap kinds_in l.granted.1 ∙ granted_kinds grants l.granted.0 log)

  steps_kinds : (made : List Made) (log log' : List Logged) → LogsSteps set own made log log' → kinds_in log' ≡ kinds_in log ++ word_of made
  steps_kinds [] log log' l = ap kinds_in l ∙ sym (append-nil (kinds_in log))
  steps_kinds (m ∷ more) log log' l =
      steps_kinds more l.1 log' l.3 ∙ (ap (λ (w : List StepKind). w ++ word_of more) (step_kinds l.0 m.step m.found log l.1 l.2)
      ∙ append_assoc (kinds_in log) (kind_made m.step m.found) (word_of more))

-- ---- steps between seats

pub steps_none : (old new : Seats) → new.cpu ≡ old.cpu → StepsAs [] old new
steps_none old new same = record {
  logs = λ log is. (log, ap (λ (s : Seated). s.timer_log) same ∙ is, sym (append-nil (kinds_in log)));
  cpus = ap (λ (s : Seated). s.logs) same;
}

pub steps_more : (a b : List StepKind) (old mid new : Seats) → StepsAs a old mid → StepsAs b mid new → StepsAs (a ++ b) old new
steps_more a b old mid new first second = record {
  logs = λ log is.
      let one = first.logs log is in
      let two = second.logs one.0 one.1 in
      (two.0, two.1, two.2 ∙ (ap (λ (w : List StepKind). w ++ b) one.2 ∙ append_assoc (kinds_in log) a b));
  cpus = second.cpus ∙ first.cpus;
}

steps_as : (a b : List StepKind) (old new : Seats) → a ≡ b → StepsAs a old new → StepsAs b old new
steps_as a b old new same = subst (λ (w : List StepKind). StepsAs w old new) same

module _ (set : Setting) where
  pub steps_one : (step : Step) (n : ℕ) (old new : Seats) → Times set step n old.cpu new.cpu → StepsAs (kind_made step n) old new
  steps_one step n old new times = record {
    logs = λ log is. let t = times.timer_log log is in (t.0, t.2, step_kinds set timer_log_of None step n log t.0 t.1);
    cpus = times.logs;
  }

  steps_all : (said : ℕ → Bool → Type 0) (made : List Made) (old new : Seats) → TimesAll set said made old.cpu new.cpu → StepsAs (word_of made) old new
  steps_all said made old new times = record {
    logs = λ log is. let t = times.timer_log log is in (t.0, t.2, steps_kinds set timer_log_of made log t.0 t.1);
    cpus = times.logs;
  }

-- ---- publications that are behind

-- a step that leaves drafts alone
pub sealed_on : (step : Step) (n : ℕ) (set : Setting) (old new : Seats) → ((r : TimerRecord) → (timer_after step n r).drafts ≡ r.drafts)
    → Times set step n old.cpu new.cpu → HasSealed old → HasSealed new
sealed_on step n set old new kept times h =
    (timer_after step n h.0, times.timer h.0 h.1, λ domain. ap (λ (drafts : List Draft). is_sealed (stage_of domain drafts)) (kept h.0) ∙ h.2 domain)

pub sealed_same : (old new : Seats) → new.cpu ≡ old.cpu → HasSealed old → HasSealed new
sealed_same old new same h = (h.0, ap (λ (s : Seated). s.timer) same ∙ h.1, h.2)

-- a whole publication
sealed_put : (d e : ℕ) (l : Limits) (drafts : List Draft) → is_sealed (stage_of e drafts) ≡ true
    → is_sealed (stage_of e (with_stage d Sealed (with_stage d (Drafted l) (with_stage d Unsealed drafts)))) ≡ true
sealed_put d e l drafts was =
    let one : List Draft = with_stage d Unsealed drafts in
    let two : List Draft = with_stage d (Drafted l) one in
    dite (ℕ_discrete e d)
    (λ same. subst (λ (n : ℕ). is_sealed (stage_of n (with_stage d Sealed two)) ≡ true) (sym same) (ap is_sealed (stage_here d Sealed two)))
    (λ other. ap is_sealed (stage_there d e Sealed two other ∙ (stage_there d e (Drafted l) one other ∙ stage_there d e Unsealed drafts other)) ∙ was)

-- ---- a publication

module _ (set : Setting) (d : ℕ) (l : Limits) (said : ℕ → Bool → Type 0) (old new : Seats) (h : HasSealed old) where
  some_kind : (k : StepKind) (word : List StepKind) → k ∷ word ≢ []
  some_kind k word is = absurd (let e = is in cc)

  whole_put : (made : List Made) → TimesAll set said made old.cpu new.cpu → IsWholePut d l true made
      → StepsAs (kind.Unseal ∷ kind.Thresh ∷ kind.Publish ∷ []) old new × HasSealed new
  whole_put made times w = (
    steps_as (word_of made) (kind.Unseal ∷ kind.Thresh ∷ kind.Publish ∷ []) old new (ap word_of w.3) (steps_all set said made old new times),
    (
      timer_of made h.0,
      (times.timer h.0 h.1).0,
      subst (λ (m : List Made). (domain : ℕ) → is_sealed (stage_of domain (timer_of m h.0).drafts) ≡ true) (sym w.3) (λ domain. sealed_put d domain l h.0.drafts (h.2 domain)),
    ),
  )

  cut_put : (made : List Made) → TimesAll set said made old.cpu new.cpu → IsCutPut d l true made
      → (part : List StepKind) × (left : List StepKind) × (left ≢ []) × (part ++ left ≡ kind.Unseal ∷ kind.Thresh ∷ kind.Publish ∷ []) × StepsAs part old new
  cut_put made times (at_once is) =
      ([], kind.Unseal ∷ kind.Thresh ∷ kind.Publish ∷ [], some_kind kind.Unseal (kind.Thresh ∷ kind.Publish ∷ []), refl, steps_as (word_of made) [] old new (ap word_of is) (steps_all set said made old new times))
  cut_put made times (after_unseal k even is) = (
    kind.Unseal ∷ [],
    kind.Thresh ∷ kind.Publish ∷ [],
    some_kind kind.Thresh (kind.Publish ∷ []),
    refl,
    steps_as (word_of made) (kind.Unseal ∷ []) old new (ap word_of is) (steps_all set said made old new times),
  )
  cut_put made times (after_thresh n odd is) = absurd (let e = odd in cc)
  cut_put made times (after_both k n even is) = (
    kind.Unseal ∷ kind.Thresh ∷ [],
    kind.Publish ∷ [],
    some_kind kind.Publish [],
    refl,
    steps_as (word_of made) (kind.Unseal ∷ kind.Thresh ∷ []) old new (ap word_of is) (steps_all set said made old new times),
  )

-- after the peak
pub put_steps : (set : Setting) (d : ℕ) (l : Limits) (said : ℕ → Bool → Type 0) (old mid new : Seats) (put : Put) → StepsAs (kind.Peak ∷ []) old mid → HasSealed mid
    → Puts set d l said put mid.cpu new.cpu → PutSteps put old new
put_steps set d l said old mid new Done peak h p =
    let w = whole_put set d l said mid new h p.0 p.1 (subst (λ (b : Bool). IsWholePut d l b p.0) (h.2 d) (p.2 h.0 h.1)) in
    (steps_more (kind.Peak ∷ []) (kind.Unseal ∷ kind.Thresh ∷ kind.Publish ∷ []) old mid new peak w.0, w.1)
put_steps set d l said old mid new Stopped peak h p =
    let c = cut_put set d l said mid new h p.0 p.1 (subst (λ (b : Bool). IsCutPut d l b p.0) (h.2 d) (p.2 h.0 h.1)) in
    (kind.Peak ∷ c.0, c.1, c.2, ap (λ (w : List StepKind). kind.Peak ∷ w) c.3, steps_more (kind.Peak ∷ []) c.0 old mid new peak c.4)
put_steps set d l said old mid new Last peak h p =
    (steps_more (kind.Peak ∷ []) [] old mid new peak (steps_none mid new p.0), sealed_same mid new p.0 h)

-- ---- domain by domain

-- whether the last version stood
abbrev is_last : (put : Put) → Bool
is_last Done = false
is_last Stopped = false
is_last Last = true

publications_both : (a b : List Bool) → publications_but (a ++ b) ≡ publications_but a ++ publications_but b
publications_both [] b = refl
publications_both (false ∷ a) b = ap (λ (w : List StepKind). kind.Count ∷ kind.Peak ∷ kind.Unseal ∷ kind.Thresh ∷ kind.Publish ∷ w) (publications_both a b)
publications_both (true ∷ a) b = ap (λ (w : List StepKind). kind.Count ∷ kind.Peak ∷ w) (publications_both a b)

-- versions of a domain stay, where limits of the ones before it are published
version_after : (put : Put) (d i : ℕ) (l : Limits) (older : List DomainLimits) → d < i → version_of i (published_by put d l older) ≡ version_of i older
version_after Done d i l older less = let none : one_if (eqb i d) ≡ 0 = ap one_if (ne_eqb i d (λ is. omega (arith, is, less))) in omega (arith, none)
version_after Stopped d i l older less = refl
version_after Last d i l older less = refl

pub version_stays : (d i : ℕ) (os : List Outcome) (older : List DomainLimits) → d + length os ≤ i → version_of i (published_from d os older) ≡ version_of i older
version_stays d i [] older less = refl
version_stays d i (one ∷ os) older less =
    version_stays (suc d) i os (published_by one.put d one.limits older) (omega (arith, less)) ∙ version_after one.put d i one.limits older (omega (arith, less))

-- what is noted of one domain more
noted_more : (P : ℕ → Type 0) (lasts : List Bool) (b : Bool) → ((d : ℕ) → get_or lasts d false ≡ true → P d) → (b ≡ true → P (length lasts))
    → (d : ℕ) → get_or (lasts ++ b ∷ []) d false ≡ true → P d
noted_more P [] b each here zero is = here is
noted_more P [] b each here (suc d) is = absurd (let e = is in cc)
noted_more P (x ∷ lasts) b each here zero is = each zero is
noted_more P (x ∷ lasts) b each here (suc d) is = noted_more (λ n. P (suc n)) lasts b (λ n. each (suc n)) here d is

-- nothing is noted of those that are left
none_noted : (n d : ℕ) → get_or (replicate n false) d false ≡ true → ⊥
none_noted zero d is = absurd (let e = is in cc)
none_noted (suc n) zero is = absurd (let e = is in cc)
none_noted (suc n) (suc d) is = none_noted n d is

noted_only : (P : ℕ → Type 0) (lasts : List Bool) (n : ℕ) → ((d : ℕ) → get_or lasts d false ≡ true → P d) → (d : ℕ) → get_or (lasts ++ replicate n false) d false ≡ true → P d
noted_only P [] n each d is = absurd (none_noted n d is)
noted_only P (x ∷ lasts) n each zero is = each zero is
noted_only P (x ∷ lasts) n each (suc d) is = noted_only (λ n. P (suc n)) lasts n (λ n. each (suc n)) d is

-- before the first domain
pub turn_none : (seats : Seats) → HasSealed seats → TakesTurn 0 seats seats
turn_none seats h = record {
  lasts = [];
  each_domain = refl;
  are_last = λ r has d is. absurd (let e = is in cc);
  steps = steps_none seats seats refl;
  sealed = h;
}

-- the steps of one domain more
more_steps : (put : Put) (lasts : List Bool) (old s1 s2 s3 : Seats) → put ≢ Stopped → StepsAs (publications_but lasts) old s1 → StepsAs (kind.Count ∷ []) s1 s2
    → PutSteps put s2 s3 → StepsAs (publications_but (lasts ++ is_last put ∷ [])) old s3 × HasSealed s3
more_steps Done lasts old s1 s2 s3 through before count put = (
  steps_as _ _ old s3 (append_assoc (publications_but lasts) (kind.Count ∷ []) peak_and_put ∙ sym (publications_both lasts (false ∷ [])))
      (steps_more (publications_but lasts ++ kind.Count ∷ []) peak_and_put old s2 s3 (steps_more (publications_but lasts) (kind.Count ∷ []) old s1 s2 before count) put.0),
  put.1,
)
more_steps Stopped lasts old s1 s2 s3 through before count put = absurd (through refl)
more_steps Last lasts old s1 s2 s3 through before count put = (
  steps_as _ _ old s3 (append_assoc (publications_but lasts) (kind.Count ∷ []) (kind.Peak ∷ []) ∙ sym (publications_both lasts (true ∷ [])))
      (steps_more (publications_but lasts ++ kind.Count ∷ []) (kind.Peak ∷ []) old s2 s3 (steps_more (publications_but lasts) (kind.Count ∷ []) old s1 s2 before count) put.0),
  put.1,
)

last_stands : (put : Put) (d : ℕ) (older : List DomainLimits) → is_last put ≡ true → IsLastPut put d older → LAST_SEQUENCE ≤ 2 * version_of d older
last_stands Done d older is last = absurd (let e = is in cc)
last_stands Stopped d older is last = absurd (let e = is in cc)
last_stands Last d older is last = last

pub turn_more : (n i : ℕ) (put : Put) (os : List Outcome) (old s1 s2 s3 : Seats) → n ≡ i + 1 → put ≢ Stopped → TakesTurn i old s1 → StepsAs (kind.Count ∷ []) s1 s2 → PutSteps put s2 s3
    → length os ≡ i → ((r : TimerRecord) → HasTimer r old → IsLastPut put i (published_from 0 os r.published)) → TakesTurn n old s3
turn_more n i put os old s1 s2 s3 next through taken count steps many last =
    let both = more_steps put taken.lasts old s1 s2 s3 through taken.steps count steps in
    record {
      lasts = taken.lasts ++ is_last put ∷ [];
      each_domain = omega (arith, next, length-append taken.lasts (is_last put ∷ []), taken.each_domain);
      are_last = λ r has. noted_more (λ d. LAST_SEQUENCE ≤ 2 * version_of d r.published) taken.lasts (is_last put) (taken.are_last r has) (λ is.
          let stands = last_stands put i (published_from 0 os r.published) is (last r has) in
          let same = version_stays 0 i os r.published (omega (arith, many)) in
          subst (λ (d : ℕ). LAST_SEQUENCE ≤ 2 * version_of d r.published) (sym taken.each_domain) (omega (arith, stands, same)));
      steps = both.0;
      sealed = both.1;
    }

some_more : (a b : List StepKind) → a ≢ [] → a ++ b ≢ []
some_more [] b some is = absurd (some refl)
some_more (k ∷ a) b some is = absurd (let e = is in cc)

-- where the gate cut off a publication
pub turn_cut : (n i : ℕ) (old s1 s2 s3 : Seats) → i < n → TakesTurn i old s1 → StepsAs (kind.Count ∷ []) s1 s2 → PutSteps Stopped s2 s3 → CutsTurn n old s3
turn_cut n i old s1 s2 s3 less taken count put =
    let m : ℕ = n - i - 1 in
    let done : List StepKind = publications_but taken.lasts in
    let rest : List StepKind = publications_but (replicate m false) in
    record {
      lasts = taken.lasts ++ false ∷ replicate m false;
      each_domain = omega (arith, less, length-append taken.lasts (false ∷ replicate m false), length-replicate m false, taken.each_domain);
      are_last = λ r has. noted_only (λ d. LAST_SEQUENCE ≤ 2 * version_of d r.published) taken.lasts (suc m) (taken.are_last r has);
      made = done ++ kind.Count ∷ [] ++ put.0;
      left = put.1 ++ rest;
      some_left = some_more put.1 rest put.2;
      whole = append_assoc (done ++ kind.Count ∷ []) put.0 (put.1 ++ rest) ∙ (append_assoc done (kind.Count ∷ []) (put.0 ++ (put.1 ++ rest))
          ∙ (ap (λ (w : List StepKind). done ++ kind.Count ∷ w) (sym (append_assoc put.0 put.1 rest) ∙ ap (λ (w : List StepKind). w ++ rest) put.3)
          ∙ sym (publications_both taken.lasts (false ∷ replicate m false))));
      steps = steps_more (done ++ kind.Count ∷ []) put.0 old s2 s3 (steps_more done (kind.Count ∷ []) old s1 s2 taken.steps count) put.4;
    }

-- ---- where the CPU's seat stays

pub taken_same : (n m : ℕ) (old mid new : Seats) → n ≡ m → new.cpu ≡ mid.cpu → TakesTurn n old mid → TakesTurn m old new
taken_same n m old mid new many same taken = record {
  lasts = taken.lasts;
  each_domain = taken.each_domain ∙ many;
  are_last = taken.are_last;
  steps = steps_as (publications_but taken.lasts ++ []) (publications_but taken.lasts) old new (append-nil (publications_but taken.lasts))
      (steps_more (publications_but taken.lasts) [] old mid new taken.steps (steps_none mid new same));
  sealed = sealed_same mid new same taken.sealed;
}

pub not_stopped : (put : Put) → is_through put ≡ true → put ≢ Stopped
not_stopped put through is = absurd (let e : false ≡ true = ap is_through (sym is) ∙ through in cc)

-- ---- laws

pub sealed_at_first : IsSealedFirst
sealed_at_first kit seats first = ((opening (setting seats.cpu.layout)).timer, first.cpu.timer, λ domain. refl)

module _ (domains : ℕ) where
  none_yet : (seats : Seats) → Steps (IsWhole (IsTimerTurn domains)) seats seats
  none_yet seats = ([], whole_none (IsTimerTurn domains), steps_none seats seats refl)

  one_more : (old mid new : Seats) → Steps (IsWhole (IsTimerTurn domains)) old mid → TakesTurn domains mid new → Steps (IsWhole (IsTimerTurn domains)) old new
  one_more old mid new before taken =
      let turn : List StepKind = publications_but taken.lasts in
      (before.0 ++ turn, whole_more (IsTimerTurn domains) before.0 turn before.1 (taken.lasts, taken.each_domain, refl), steps_more before.0 turn old mid new before.2 taken.steps)

  one_cut : (old mid new : Seats) → Steps (IsWhole (IsTimerTurn domains)) old mid → CutsTurn domains mid new → Steps (IsCutOff (IsTimerTurn domains)) old new
  one_cut old mid new before cut =
      (before.0 ++ cut.made, cut_more (IsTimerTurn domains) before.0 cut.made before.1 (cut.left, (cut.lasts, cut.each_domain, cut.whole)), steps_more before.0 cut.made old mid new before.2 cut.steps)

  no_more : (old new : Seats) → Steps (IsWhole (IsTimerTurn domains)) old new → Steps (IsCutOff (IsTimerTurn domains)) old new
  no_more old new all = (all.0, (timer_turns_follow domains).ended all.0 all.1, all.2)

pub turns_follow : TurnsFollowOneAnother
turns_follow domains = record { none = none_yet domains; more = one_more domains; cut = one_cut domains; ended = no_more domains }

none_last : (lasts : List Bool) → ((d : ℕ) → d < length lasts → get_or lasts d false ≡ true → ⊥) → publications_but lasts ≡ publications (length lasts)
none_last [] none = refl
none_last (false ∷ lasts) none =
    ap (λ (w : List StepKind). kind.Count ∷ kind.Peak ∷ kind.Unseal ∷ kind.Thresh ∷ kind.Publish ∷ w) (none_last lasts (λ d less. none (suc d) (omega (arith, less))))
none_last (true ∷ lasts) none = absurd (none 0 (omega arith) refl)

pub publishes_all : PublishesAll
publishes_all domains old new r has spare taken =
    steps_as (publications_but taken.lasts) (publications domains) old new
    (none_last taken.lasts (λ d less is. omega (arith, taken.are_last r has d is, spare d (omega (arith, less, taken.each_domain)))) ∙ ap publications taken.each_domain) taken.steps
