-- Calls that change nothing but the list of a flusher's wheel, with what they tell.
use Rattle.std.proofs.Common.{◌≡◌, ℕ, suc, ◌+◌, ◌<◌, ◌≤◌, max, Bool, true, false, eqb, List, [], ◌∷◌, length, get_or, Option, Some, None, IfSome, sym, refl, ap, ◌∙◌, subst, arith, eq-eqb, inl, inr, ⊎_elim, true≢false}
use Rattle.std.proofs.lemmas.Bool.{cond-true}
use Rattle.std.proofs.lemmas.Option.{get_or_from_slice_get}
use Rattle.std.specs.Prelude.{sum_by, ◌*◌, ◌^◌, ◌&&◌, not, is_some, unwrap_or, IfNone}
use Rattle.wbt_expiry.specs.Kept.{reach}
use Rattle.wbt_flusher.proofs.Common.{AreInOrder, Waiting, Due, CpuRecord, Grows, Context, FlusherLine, Trace, added_to, Told, CpuJournal, IsPlain, Grew, Logged, with_entry, IsOwn, IsOfFlusher, FliesInTurn, flusher_after, Waited, items_told, gained_none, longer_none, logged_entry, IsSilent, walked_silent, walks_silent, Kit, Seats, OnlyQueue, only_same, NoticesBefore, HasWheel, WasTold, pairs_of, Goes, GoesAt, Went, Moments, Fits, IsTimed, handed, IsInode, IsPlanOf, IsWork, Sight, list_by, record_in, sight, HasLists}
use Rattle.wbt_kit.proofs.Common.{Inode, flusher_device}
use Rattle.wbt_expiry.specs.Waiting.{Each, has_inode, with_pair}
use Rattle.wbt_expiry.proofs.Sorting.{each_put}
use Rattle.wbt_trace.specs.Lawful.{IsExpire}
use Rattle.wbt_rules.specs.declared.age.TheConstants.{DEFAULT_EXPIRE, EXPIRE_TICKS}
use Rattle.wbt_rules.specs.Age.{due_after, expire_of, expire_ticks, is_ageing}
use Rattle.wbt_rules.specs.Things.{context_in, inode_in}
use Rattle.wbt_journal.specs.Counts.{CountsAreFresh, versions_after}
use Rattle.wbt_journal.specs.Told.{noticed, aged, took}
use Rattle.wbt_journal.specs.Waits.{MayNotice, noticed_pair as named_pair}
use Rattle.wbt_journal.specs.declared.entry.Entry.{Entry}
use Rattle.wbt_journal.specs.declared.entry.Entry.TheVariants as entry
use Rattle.wbt_run_laws.specs.Grew.{HasSeen}
use Rattle.wbt_flusher.specs.Ageing.{NoticesNext, NoticesNumber, TakesFirst, is_strange, waits_already, is_noticed}
use Rattle.wbt_flusher.specs.Ages.{noticed_pair, told_at, with_list}
use Rattle.wbt_flusher.specs.Plans.{due_of}
use Rattle.wbt_flusher.specs.declared.plan.FlusherPlan.{FlusherPlan}
use Rattle.wbt_flusher.specs.declared.work.FlusherWork.{FlusherWork}
use Rattle.wbt_flusher.proofs.Acting.{did_act, mark_or, rescan_or}
use Rattle.wbt_flusher.proofs.Completing.{own_flusher}
use Rattle.wbt_flusher.proofs.Going.{goes_nowhere, keeps_same}
use Rattle.wbt_flusher.proofs.Noting.{grows_none}

-- ---- records

pub notice_grows : (flusher inode since : ℕ) (r : CpuRecord) → Grew (noticed flusher inode since ∷ []) r r
notice_grows flusher inode since r = record {
  folds = refl;
  events = refl;
  found_dirty = refl;
  readings = gained_none r.readings;
  triples = longer_none r.triples;
  fresh = λ cpu. walks_silent HasSeen CountsAreFresh versions_after r r (items_told cpu (noticed flusher inode since ∷ [])) ((λ s. (tt, refl)), tt) (λ s has. has);
  page_steps = omega arith;
}

pub age_grows : (flusher inode due now : ℕ) (r : CpuRecord) → Grew (aged flusher inode due now ∷ []) r r
age_grows flusher inode due now r = record {
  folds = refl;
  events = refl;
  found_dirty = refl;
  readings = gained_none r.readings;
  triples = longer_none r.triples;
  fresh = λ cpu. walks_silent HasSeen CountsAreFresh versions_after r r (items_told cpu (aged flusher inode due now ∷ [])) ((λ s. (tt, refl)), tt) (λ s has. has);
  page_steps = omega arith;
}

pub take_grows : (flusher inode : ℕ) (r : CpuRecord) → Grew (took flusher inode ∷ []) r r
take_grows flusher inode r = record {
  folds = refl;
  events = refl;
  found_dirty = refl;
  readings = gained_none r.readings;
  triples = longer_none r.triples;
  fresh = λ cpu. walks_silent HasSeen CountsAreFresh versions_after r r (items_told cpu (took flusher inode ∷ [])) ((λ s. (tt, refl)), tt) (λ s has. has);
  page_steps = omega arith;
}

-- ---- what is told of the list

-- the flusher's device in the trace
device_is : (trace : Trace) (plan : FlusherPlan) → IsPlanOf trace plan → flusher_device trace plan.flusher ≡ plan.device
device_is trace plan of =
    let line : FlusherLine = record { device = plan.device; cpu = plan.cpu } in
    let its : get_or trace.flushers plan.flusher (record { device = 0; cpu = 0 }) ≡ line = get_or_from_slice_get trace.flushers plan.flusher line (record { device = 0; cpu = 0 }) of.line in
    ap (λ (l : FlusherLine). l.device) its

-- and an inode's due moment
due_is : (trace : Trace) (plan : FlusherPlan) (inode since : ℕ) → IsPlanOf trace plan → due_after trace inode since ≡ due_of plan inode since
unfolding expire_ticks
due_is trace plan inode since of =
    ap (λ (z : List Inode × List Context). since + expire_of (context_in z.1 (inode_in z.0 inode).context)) (λ i. (sym of.inodes i, sym of.contexts i))

may_notice : (trace : Trace) (plan : FlusherPlan) (inode since : ℕ) (pairs : List Due) → IsPlanOf trace plan → since < 2 ^ 62 → plan.ages ≡ true → IsInode plan inode → has_inode inode pairs ≡ false
    → MayNotice trace plan.flusher inode since pairs
may_notice trace plan inode since pairs of before ages its none =
    let device = device_is trace plan of in
    record {
      there = subst (λ (l : List Inode). inode < length l) of.inodes its.there;
      device = ap (λ (z : List Inode × List Context). (context_in z.1 (inode_in z.0 inode).context).device) (λ i. (sym of.inodes i, sym of.contexts i)) ∙ its.of_device ∙ sym device;
      ageing = ap (is_ageing trace) device ∙ sym of.ages ∙ ages;
      moment = before;
      new = none;
    }

waits_noticed : (trace : Trace) (plan : FlusherPlan) (inode since : ℕ) (pairs : List Due) → IsPlanOf trace plan → since < 2 ^ 62 → plan.ages ≡ true → IsInode plan inode → has_inode inode pairs ≡ false
    → Waited trace plan.flusher pairs (noticed plan.flusher inode since ∷ []) (with_pair (noticed_pair plan inode since) pairs)
waits_noticed trace plan inode since pairs of before ages its none = record {
  allowed = ((λ own. may_notice trace plan inode since pairs of before ages its none), tt);
  reached = cond-true (eqb plan.flusher plan.flusher) (with_pair (named_pair trace inode since) pairs) pairs (eq-eqb plan.flusher plan.flusher refl)
      ∙ ap (λ (due : ℕ). with_pair (record { due = due; inode = inode }) pairs) (due_is trace plan inode since of);
}

waits_aged : (trace : Trace) (flusher inode due now : ℕ) (rest : List Due) → due ≤ now
    → Waited trace flusher (record { due = due; inode = inode } ∷ rest) (aged flusher inode due now ∷ []) rest
waits_aged trace flusher inode due now rest by_now = record {
  allowed = ((λ own. record { first = refl; moment = refl; by_now = by_now }), tt);
  reached = cond-true (eqb flusher flusher) rest (record { due = due; inode = inode } ∷ rest) (eq-eqb flusher flusher refl);
}

waits_taken : (trace : Trace) (flusher inode due : ℕ) (rest : List Due) → Waited trace flusher (record { due = due; inode = inode } ∷ rest) (took flusher inode ∷ []) rest
waits_taken trace flusher inode due rest = record {
  allowed = ((λ own. refl), tt);
  reached = cond-true (eqb flusher flusher) rest (record { due = due; inode = inode } ∷ rest) (eq-eqb flusher flusher refl);
}

-- ---- calls

-- nothing but the wheel changed, and one entry was told
module _ (plan : FlusherPlan) (kit : Kit) (seats : Seats) (was : FlusherWork) (wheel : Option Waiting) (fits : Fits plan kit seats) where
  abbrev turned : FlusherWork
  turned = record { phase = was.phase; batch = was.batch; faults = was.faults; hard = was.hard; waiting = was.waiting; some_wait = was.some_wait; tallies = was.tallies; wheel = wheel; places = was.places }

  listed : (told : Moments) (before behind : CpuJournal) (written : Option ℕ) (e : Told) → IsOfFlusher plan.flusher e → IsPlain e → ((domain context : ℕ) → added_to domain context (e ∷ []) ≡ 0)
      → Logged (e ∷ []) before behind → ((trace : Trace) → IsWork trace plan kit → IsOwn trace plan.cpu e) → IsTimed told e → Grows (Some (sum_by handed (e ∷ []))) written written
      → IsSilent (FliesInTurn plan.flusher) (flusher_after plan.flusher) e → ((r : CpuRecord) → Grew (e ∷ []) r r)
      → ((trace : Trace) → IsWork trace plan kit → Waited trace plan.flusher (list_by was) (e ∷ []) (pairs_of wheel))
      → Went plan kit told (sight was seats before written) (sight turned seats behind written)
  listed told before behind written e of plain adds_none logged own timed pages silent grows waited =
      let s = sight was seats before written in
      let t = sight turned seats behind written in
      record {
        did = did_act plan kit told s t (record {
          added = e ∷ [];
          of_flusher = (of, tt);
          plain = (plain, tt);
          adds_none = adds_none;
          logged = logged;
          own = λ trace work. (own trace work, tt);
          moments = (timed, tt);
          pages = pages;
          flew = walked_silent (FliesInTurn plan.flusher) (flusher_after plan.flusher) _ (e ∷ []) (silent, tt);
          waited = waited;
          apart = record { others = λ c r other has. has; no_more = λ c r other has. has; timer = refl; layout = refl };
          share = refl;
          est = refl;
          on_record = record {
            grew = grows (record_in plan s);
            writers = refl;
            held = λ page. refl;
            rescans = λ page owes. ⊎_elim (λ own. inl own) (λ other. inr (owes, other)) (rescan_or plan was.phase page);
            marks = λ inode owes. ⊎_elim (λ own. inl own) (λ other. inr (owes, other)) (mark_or was.phase inode);
            completed = refl;
            owing_is = λ domain there. omega arith;
            total_is = λ context there. omega arith;
          };
        });
        fits = fits;
        cpus = keeps_same seats.cpu.cpus seats.cpu.cpus refl;
        queue = only_same plan.device seats.queue seats.queue refl;
      }

  pub notices : (now inode : ℕ) (before : CpuJournal) → now < 2 ^ 62 → plan.ages ≡ true → IsInode plan inode → has_inode inode (list_by was) ≡ false → pairs_of wheel ≡ with_pair (noticed_pair plan inode now) (list_by was)
      → GoesAt now plan kit seats seats before (with_entry (entry.Noticed plan.flusher inode now) before) was turned
  notices now inode before early ages its none is told written has =
      listed told before (with_entry (entry.Noticed plan.flusher inode now) before) written (noticed plan.flusher inode now)
      (record { no_write = refl; no_check = refl; flight = tt; wait = refl }) (record { no_check = refl; no_estimate = refl }) (λ domain context. refl)
      (logged_entry (entry.Noticed plan.flusher inode now) before refl)
      (λ trace work. record { write = tt; fold = tt; check = tt; flight = tt; share = tt; estimate = tt; wait = own_flusher trace plan kit work })
      (record { batch = tt; estimate = tt; wait = has }) (grows_none written) (λ p. (tt, refl)) (notice_grows plan.flusher inode now)
      (λ trace work. subst (λ (l : List Due). Waited trace plan.flusher (list_by was) (noticed plan.flusher inode now ∷ []) l) (sym is) (waits_noticed trace plan inode now (list_by was) work.plan_is early ages its none))

  pub ages_first : (now inode due : ℕ) (before : CpuJournal) → due ≤ now → list_by was ≡ record { due = due; inode = inode } ∷ pairs_of wheel
      → GoesAt now plan kit seats seats before (with_entry (entry.Aged plan.flusher inode due now) before) was turned
  ages_first now inode due before by_now is told written has =
      listed told before (with_entry (entry.Aged plan.flusher inode due now) before) written (aged plan.flusher inode due now)
      (record { no_write = refl; no_check = refl; flight = tt; wait = refl }) (record { no_check = refl; no_estimate = refl }) (λ domain context. refl)
      (logged_entry (entry.Aged plan.flusher inode due now) before refl)
      (λ trace work. record { write = tt; fold = tt; check = tt; flight = tt; share = tt; estimate = tt; wait = own_flusher trace plan kit work })
      (record { batch = tt; estimate = tt; wait = has }) (grows_none written) (λ p. (tt, refl)) (age_grows plan.flusher inode due now)
      (λ trace work. subst (λ (l : List Due). Waited trace plan.flusher l (aged plan.flusher inode due now ∷ []) (pairs_of wheel)) (sym is) (waits_aged trace plan.flusher inode due now (pairs_of wheel) by_now))

  pub takes_first : (inode due : ℕ) (before : CpuJournal) → list_by was ≡ record { due = due; inode = inode } ∷ pairs_of wheel
      → Goes plan kit seats seats before (with_entry (entry.Taken plan.flusher inode) before) was turned
  takes_first inode due before is told written =
      listed told before (with_entry (entry.Taken plan.flusher inode) before) written (took plan.flusher inode)
      (record { no_write = refl; no_check = refl; flight = tt; wait = refl }) (record { no_check = refl; no_estimate = refl }) (λ domain context. refl)
      (logged_entry (entry.Taken plan.flusher inode) before refl)
      (λ trace work. record { write = tt; fold = tt; check = tt; flight = tt; share = tt; estimate = tt; wait = own_flusher trace plan kit work })
      (record { batch = tt; estimate = tt; wait = tt }) (grows_none written) (λ p. (tt, refl)) (take_grows plan.flusher inode)
      (λ trace work. subst (λ (l : List Due). Waited trace plan.flusher l (took plan.flusher inode ∷ []) (pairs_of wheel)) (sym is) (waits_taken trace plan.flusher inode due (pairs_of wheel)))

-- an inode is due within the reach of a wheel
pub expire_few : (expire : Option ℕ) → IfSome expire IsExpire → EXPIRE_TICKS * unwrap_or expire DEFAULT_EXPIRE ≤ reach
expire_few None is = omega arith
expire_few (Some centi) is = let most = is.1 in omega arith

-- ---- wheels

-- the lists of what the flusher keeps stay where its wheel is still one of the plan's
pub lists_wheel : (plan : FlusherPlan) (was : FlusherWork) (wheel : Option Waiting) → HasLists plan was → HasWheel plan wheel → HasLists plan (record was { wheel = wheel })
lists_wheel plan was wheel lists its = record { proper = lists.proper; tallies = lists.tallies; waiting = lists.waiting; none_wait = lists.none_wait; wheel = its; places = lists.places }

pub wheel_told : (plan : FlusherPlan) (now : ℕ) (wheel : Option Waiting) → HasWheel plan wheel → HasWheel plan (told_at now wheel)
wheel_told plan now None its = its
wheel_told plan now (Some waiting) its = record { ageing = its.ageing; inodes = its.inodes; own = its.own; order = its.order }

pub told_pairs : (now : ℕ) (wheel : Option Waiting) → pairs_of (told_at now wheel) ≡ pairs_of wheel
told_pairs now None = refl
told_pairs now (Some waiting) = refl

pub told_now : (now : ℕ) (wheel : Option Waiting) → WasTold now (told_at now wheel)
told_now now None = tt
told_now now (Some waiting) = omega arith

-- telling a moment again changes nothing
pub told_again : (now : ℕ) (wheel : Option Waiting) → WasTold now wheel → told_at now wheel ≡ wheel
told_again now None was = refl
told_again now (Some waiting) was = ap (λ (n : ℕ). Some (record { pairs = waiting.pairs; told = n; inodes = waiting.inodes })) (let same : max waiting.told now ≡ waiting.told = omega arith in same)

pub none_in_order : AreInOrder []
unfolding AreInOrder
none_in_order = tt

order_tail : (pair : Due) (rest : List Due) → AreInOrder (pair ∷ rest) → AreInOrder rest
unfolding AreInOrder
order_tail pair rest order = order.1

-- without its first pair
pub wheel_rest : (plan : FlusherPlan) (pair : Due) (rest : List Due) (wheel : Option Waiting) → pairs_of wheel ≡ pair ∷ rest → HasWheel plan wheel → HasWheel plan (with_list rest wheel)
wheel_rest plan pair rest None is its = its
wheel_rest plan pair rest (Some waiting) is its = record {
  ageing = its.ageing;
  inodes = its.inodes;
  own = (subst (λ (l : List Due). Each (λ p. IsInode plan p.inode) l) is its.own).1;
  order = order_tail pair rest (subst AreInOrder is its.order);
}

pub first_own : (plan : FlusherPlan) (pair : Due) (rest : List Due) (wheel : Option Waiting) → pairs_of wheel ≡ pair ∷ rest → HasWheel plan wheel → IsInode plan pair.inode
first_own plan pair rest None is its = absurd (none_first is)
  where
    none_first : [] ≡ pair ∷ rest → ⊥
    none_first e = cc
first_own plan pair rest (Some waiting) is its = (subst (λ (l : List Due). Each (λ p. IsInode plan p.inode) l) is its.own).0

-- with a pair more
pub wheel_with : (plan : FlusherPlan) (pair : Due) (wheel : Option Waiting) → IsInode plan pair.inode → IfSome (with_list (with_pair pair (pairs_of wheel)) wheel) (λ (waiting : Waiting). AreInOrder waiting.pairs) → HasWheel plan wheel
    → HasWheel plan (with_list (with_pair pair (pairs_of wheel)) wheel)
wheel_with plan pair None here order its = its
wheel_with plan pair (Some waiting) here order its = record {
  ageing = its.ageing;
  inodes = its.inodes;
  own = each_put (λ p. IsInode plan p.inode) pair waiting.pairs here its.own;
  order = order;
}

-- an ageing device's flusher has one
pub some_wheel : (plan : FlusherPlan) (wheel : Option Waiting) → plan.ages ≡ true → HasWheel plan wheel → (waiting : Waiting) × (wheel ≡ Some waiting)
some_wheel plan None ages its = absurd (true≢false (sym ages ∙ its))
some_wheel plan (Some waiting) ages its = (waiting, refl)

-- ---- what a wheel holds after a call

pub wheel_there : (plan : FlusherPlan) (inode : ℕ) (wheel : Option Waiting) → HasWheel plan wheel → inode < length plan.inodes → IfSome wheel (λ (waiting : Waiting). inode < waiting.inodes)
wheel_there plan inode None its there = tt
wheel_there plan inode (Some waiting) its there = subst (λ (n : ℕ). inode < n) (sym its.inodes) there

pub soon_told : (now due : ℕ) (wheel : Option Waiting) → WasTold now wheel → due ≤ now + reach → IfSome wheel (λ (waiting : Waiting). due ≤ waiting.told + reach)
soon_told now due None told soon = tt
soon_told now due (Some waiting) told soon = omega arith

told_with : (now : ℕ) (pairs : List Due) (wheel : Option Waiting) → WasTold now wheel → WasTold now (with_list pairs wheel)
told_with now pairs None told = tt
told_with now pairs (Some waiting) told = told

with_same : (wheel : Option Waiting) → with_list (pairs_of wheel) wheel ≡ wheel
with_same None = refl
with_same (Some waiting) = refl

pairs_with : (plan : FlusherPlan) (pairs : List Due) (wheel : Option Waiting) → plan.ages ≡ true → HasWheel plan wheel → pairs_of (with_list pairs wheel) ≡ pairs
pairs_with plan pairs None ages its = absurd (true≢false (sym ages ∙ its))
pairs_with plan pairs (Some waiting) ages its = refl

-- it was put exactly where it didn't wait yet
new_by : (plan : FlusherPlan) (has : Bool) (wheel : Option Waiting) → plan.ages ≡ true → HasWheel plan wheel → (put : Bool) → put ≡ (is_some wheel && not has) → put ≡ not has
new_by plan has None ages its put is = absurd (true≢false (sym ages ∙ its))
new_by plan has (Some waiting) ages its put is = is

not_true : (b : Bool) → not b ≡ true → b ≡ false
not_true true is = absurd (true≢false (sym is))
not_true false is = refl

not_false : (b : Bool) → not b ≡ false → b ≡ true
not_false true is = refl
not_false false is = absurd (true≢false is)

-- ---- a number that was taken from the queue

pub record NoticesOne (plan : FlusherPlan) (now inode : ℕ) (was is : FlusherWork) (before behind : CpuJournal) : Type 0 where
  pub goes : (kit : Kit) (seats : Seats) → Fits plan kit seats → GoesAt now plan kit seats seats before behind was is
  pub lists : HasLists plan is
  pub told : WasTold now is.wheel
  pub notices : NoticesNumber plan now inode was is before behind

-- nothing came of it
module _ (plan : FlusherPlan) (now inode : ℕ) (was : FlusherWork) (wheel : Option Waiting) (log : CpuJournal) (lists : HasLists plan was) (told : WasTold now was.wheel) (same : wheel ≡ was.wheel) where
  not_noticed : NoticesNumber plan now inode was was log log → NoticesOne plan now inode was (record was { wheel = wheel }) log log
  not_noticed notices = subst (λ (w : Option Waiting). NoticesOne plan now inode was (record was { wheel = w }) log log) (sym same) (record {
    goes = λ kit seats fits moments written has. goes_nowhere plan kit seats fits moments was log written;
    lists = lists;
    told = told;
    notices = notices;
  })

  pub notices_again : (put : Bool) → plan.ages ≡ true → IsInode plan inode → put ≡ (is_some was.wheel && not (has_inode inode (list_by was))) → put ≡ false
      → NoticesOne plan now inode was (record was { wheel = wheel }) log log
  notices_again put ages its accepted none =
      let has = not_false (has_inode inode (list_by was)) (sym (new_by plan (has_inode inode (list_by was)) was.wheel ages lists.wheel put accepted) ∙ none) in
      not_noticed (waits_already its has refl refl)

pub notices_strange : (plan : FlusherPlan) (now inode : ℕ) (was : FlusherWork) (log : CpuJournal) → HasLists plan was → WasTold now was.wheel → (IsInode plan inode → ⊥) → NoticesOne plan now inode was was log log
notices_strange plan now inode was log lists told strange = not_noticed plan now inode was was.wheel log lists told refl (is_strange strange refl refl)

-- it waits now
pub notices_new : (plan : FlusherPlan) (now inode due : ℕ) (was : FlusherWork) (wheel : Option Waiting) (log behind : CpuJournal) (put : Bool) → now < 2 ^ 62 → HasLists plan was → WasTold now was.wheel → plan.ages ≡ true → IsInode plan inode
    → due ≡ due_of plan inode now → put ≡ (is_some was.wheel && not (has_inode inode (list_by was))) → put ≡ true
    → wheel ≡ with_list (with_pair (record { due = due; inode = inode }) (list_by was)) was.wheel → IfSome wheel (λ (waiting : Waiting). AreInOrder waiting.pairs)
    → behind ≡ with_entry (entry.Noticed plan.flusher inode now) log → NoticesOne plan now inode was (record was { wheel = wheel }) log behind
notices_new plan now inode due was wheel log behind put early lists told ages its due_is' accepted some becomes order tells =
    let none = not_true (has_inode inode (list_by was)) (sym (new_by plan (has_inode inode (list_by was)) was.wheel ages lists.wheel put accepted) ∙ some) in
    let pair = noticed_pair plan inode now in
    let is : wheel ≡ with_list (with_pair pair (list_by was)) was.wheel = becomes ∙ ap (λ (d : ℕ). with_list (with_pair (record { due = d; inode = inode }) (list_by was)) was.wheel) due_is' in
    subst (λ (l : CpuJournal). NoticesOne plan now inode was (record was { wheel = wheel }) log l) (sym tells) (record {
      goes = λ kit seats fits. notices plan kit seats was wheel fits now inode log early ages its none (ap pairs_of is ∙ pairs_with plan (with_pair pair (list_by was)) was.wheel ages lists.wheel);
      lists = lists_wheel plan was wheel lists
          (subst (λ (w : Option Waiting). HasWheel plan w) (sym is) (wheel_with plan pair was.wheel its (subst (λ (w : Option Waiting). IfSome w (λ (waiting : Waiting). AreInOrder waiting.pairs)) is order) lists.wheel));
      told = subst (λ (w : Option Waiting). WasTold now w) (sym is) (told_with now (with_pair pair (list_by was)) was.wheel told);
      notices = is_noticed its none (ap (λ (w : Option Waiting). record was { wheel = w }) is) refl;
    })

-- ---- an inode that was taken of the list

-- the wheel stayed
pub record AsItWas (plan : FlusherPlan) (was is : FlusherWork) (log : CpuJournal) : Type 0 where
  pub goes : (kit : Kit) (seats : Seats) → Fits plan kit seats → Goes plan kit seats seats log log was is
  pub lists : HasLists plan is
  pub same : is ≡ was

pub as_it_was : (plan : FlusherPlan) (was : FlusherWork) (wheel : Option Waiting) (log : CpuJournal) → HasLists plan was → wheel ≡ was.wheel → AsItWas plan was (record was { wheel = wheel }) log
as_it_was plan was wheel log lists same = subst (λ (w : Option Waiting). AsItWas plan was (record was { wheel = w }) log) (sym same) (record {
  goes = λ kit seats fits told written. goes_nowhere plan kit seats fits told was log written;
  lists = lists;
  same = refl;
})

-- where none is due by the moment nothing changed
pub none_taken : (now : ℕ) (was : FlusherWork) (wheel : Option Waiting) → WasTold now was.wheel → pairs_of wheel ≡ list_by was → wheel ≡ with_list (pairs_of wheel) (told_at now was.wheel) → wheel ≡ was.wheel
none_taken now was wheel told same becomes = becomes ∙ (λ i. with_list (same i) (told_again now was.wheel told i)) ∙ with_same was.wheel

pub none_first : (was : FlusherWork) (wheel : Option Waiting) → list_by was ≡ [] → pairs_of wheel ≡ [] → wheel ≡ with_list (pairs_of wheel) was.wheel → wheel ≡ was.wheel
none_first was wheel none none' becomes = becomes ∙ ap (λ (l : List Due). with_list l was.wheel) (none' ∙ sym none) ∙ with_same was.wheel

pub record TakesOne (plan : FlusherPlan) (inode : ℕ) (was is : FlusherWork) : Type 0 where
  pub its : IsInode plan inode
  pub lists : HasLists plan is

module _ (plan : FlusherPlan) (pair : Due) (was : FlusherWork) (wheel : Option Waiting) (lists : HasLists plan was) (first : list_by was ≡ pair ∷ pairs_of wheel) (becomes : wheel ≡ with_list (pairs_of wheel) was.wheel) where
  pub takes_one : TakesOne plan pair.inode was (record was { wheel = wheel })
  takes_one = record {
    its = first_own plan pair (pairs_of wheel) was.wheel first lists.wheel;
    lists = lists_wheel plan was wheel lists (subst (λ (w : Option Waiting). HasWheel plan w) (sym becomes) (wheel_rest plan pair (pairs_of wheel) was.wheel first lists.wheel));
  }

  pub takes_it : (told : Entry) (seats : Seats) (before behind : CpuJournal) (written : Option ℕ) → behind ≡ with_entry told before
      → TakesFirst pair told (sight was seats before written) (sight (record was { wheel = wheel }) seats behind written)
  takes_it told seats before behind written tells = record {
    rest = pairs_of wheel;
    first = first;
    seats = refl;
    work = ap (λ (w : Option Waiting). record was { wheel = w }) becomes;
    log = tells;
  }

-- ---- what may be there, or not

pub if_none : {A : Type 0} {P Q : Type 0} (r : Option A) → (P → Q) → IfNone r P → IfNone r Q
if_none None f p = f p
if_none (Some a) f p = tt

pub if_some : {A : Type 0} {P Q : A → Type 0} (r : Option A) → ((a : A) → P a → Q a) → IfSome r P → IfSome r Q
if_some None f p = tt
if_some (Some a) f p = f a p

-- ---- one after another

pub queue_more : (old mid new : Seats) → OnlyQueue old mid → OnlyQueue mid new → OnlyQueue old new
queue_more old mid new p q = record { cpu = q.cpu ∙ p.cpu; share = q.share ∙ p.share; est = q.est ∙ p.est }

pub wheel_more : (was mid is : FlusherWork) → mid ≡ record was { wheel = mid.wheel } → is ≡ record mid { wheel = is.wheel } → is ≡ record was { wheel = is.wheel }
wheel_more was mid is p q = q ∙ ap (λ (w : FlusherWork). record w { wheel = is.wheel }) p

pub notices_more : (plan : FlusherPlan) (now k : ℕ) (old mid new : Sight) → NoticesBefore plan now k old mid → NoticesNext plan now mid new → NoticesBefore plan now (k + 1) old new
notices_more plan now k old mid new before one =
    let next : suc k ≡ k + 1 = omega arith in
    subst (λ (n : ℕ). NoticesBefore plan now n old new) next (mid, before, one)
