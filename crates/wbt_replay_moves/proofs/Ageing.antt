-- Notices: what they keep, and what is left of them.
use Rattle.std.proofs.Common.{◌≡◌, ℕ, zero, suc, ◌+◌, ◌-◌, ◌^◌, ◌<◌, ◌≤◌, Bool, true, false, cond, List, [], ◌∷◌, Option, Some, None, IfNone, MatchOption, All, length, set, unwrap_or, refl, ap, sym, subst, ◌∙◌, arith}
use Rattle.std.specs.Option.{IsSome}
use Rattle.std.proofs.Math.Nat.{le-max_right}
use Rattle.std.proofs.lemmas.List.{get_or-set_same, length-set, set-get_or}
use Rattle.std.proofs.lemmas.List.Elements.{All-tail}
use Rattle.wbt_expiry.specs.Waiting.{Waiting, has_inode}
use Rattle.wbt_journal.specs.declared.entry.Entry.TheVariants as entry
use Rattle.wbt_rules.specs.Things.{flusher_device}
use Rattle.wbt_trace.specs.declared.trace.Trace.{Trace}
use Rattle.wbt_replay_moves.specs.Definition.Cpu.{logged}
use Rattle.wbt_replay_moves.specs.Definition.Idle.{note, notice_all, notice_from, notice_next, tell, told_by, waits}
use Rattle.wbt_replay_moves.specs.Definition.State.{State, no_flusher, no_waiting, cpu_of, flusher_of, waiting_of, with_flusher, queue_of, with_queue}
use Rattle.wbt_replay_moves.specs.Kept.Fit.{HasFlusher, NoticeFits, NoticesFit, QueueFits}
use Rattle.wbt_replay_moves.specs.declared.state.Flusher.{Flusher}

either : {A : Type 0} (P : A → Type 0) (b : Bool) (x y : A) → (b ≡ true → P x) → (b ≡ false → P y) → P (cond b x y)
either P true x y p q = p refl
either P false x y p q = q refl

-- A flusher is there as long as no flusher and no queue goes.
still_here : (trace : Trace) (f flushers flushers2 queues queues2 : ℕ) → flushers2 ≡ flushers → queues2 ≡ queues
    → HasFlusher trace f flushers queues → HasFlusher trace f flushers2 queues2
still_here trace f flushers flushers2 queues queues2 all each h = record {
  there = omega (arith, h.there, all);
  line = h.line;
  device = h.device;
  queue = omega (arith, h.queue, each);
  rate = h.rate;
}

-- ---- a number leaves the queue

module _ (trace : Trace) (f since : ℕ) (s : State) (h : NoticesFit trace f since s) (n : ℕ) (ns : List ℕ) (is : queue_of (flusher_device trace f) s ≡ n ∷ ns) where
  abbrev pub popped : State
  popped = with_queue (flusher_device trace f) ns s

  left : queue_of (flusher_device trace f) popped ≡ ns
  left = get_or-set_same s.queues (flusher_device trace f) ns [] h.here.queue

  pub popped_fits : NoticesFit trace f since popped
  popped_fits = record {
    here = still_here trace f (length s.flushers) (length s.flushers) (length s.queues) (length popped.queues) refl (length-set s.queues (flusher_device trace f) ns) h.here;
    wheel = h.wheel;
    told = h.told;
    early = h.early;
    queue = subst (All (NoticeFits trace (waiting_of f s).inodes)) (sym left)
        (All-tail (NoticeFits trace (waiting_of f s).inodes) n ns (subst (All (NoticeFits trace (waiting_of f s).inodes)) is h.queue));
  }

-- ---- an inode waits from now on

noted_fits : (trace : Trace) (cpu f n since : ℕ) (s : State) → NoticesFit trace f since s → NoticesFit trace f since (note trace cpu f n since s)
noted_fits trace cpu f n since s h =
    let w : Waiting = waits trace n since (waiting_of f s) in
    let v : Flusher = record (flusher_of f s) { wheel = Some w } in
    let now : flusher_of f (note trace cpu f n since s) ≡ v = get_or-set_same s.flushers f v no_flusher h.here.there in
    let waiting : waiting_of f (note trace cpu f n since s) ≡ w = ap (λ (x : Flusher). unwrap_or x.wheel no_waiting) now in
    record {
      here = still_here trace f (length s.flushers) (length (set s.flushers f v)) (length s.queues) (length s.queues) (length-set s.flushers f v) refl h.here;
      wheel = subst (λ (x : Flusher). IsSome x.wheel) (sym now) refl;
      told = subst (λ (x : Waiting). since ≤ x.told) (sym waiting) h.told;
      early = h.early;
      queue = subst (λ (x : Waiting). All (NoticeFits trace x.inodes) (queue_of (flusher_device trace f) s)) (sym waiting) h.queue;
    }

-- ---- the moment is told

queue_fits : (trace : Trace) (queue : List ℕ) (wheel : Option Waiting) → IsSome wheel → QueueFits trace queue wheel
    → All (NoticeFits trace (unwrap_or wheel no_waiting).inodes) queue
queue_fits trace queue None some h = absurd (cc some)
queue_fits trace queue (Some w) some h = h

pub told_fits : (trace : Trace) (f now : ℕ) (s t : State) → t ≡ tell f now s → HasFlusher trace f (length s.flushers) (length s.queues) → IsSome (flusher_of f s).wheel → now < 2 ^ 62
    → QueueFits trace (queue_of (flusher_device trace f) s) (flusher_of f s).wheel → NoticesFit trace f now t
told_fits trace f now s t is here some early queue =
    let w : Waiting = told_by now (waiting_of f s) in
    let v : Flusher = record (flusher_of f s) { wheel = Some w } in
    let at : flusher_of f (tell f now s) ≡ v = get_or-set_same s.flushers f v no_flusher here.there in
    let waiting : waiting_of f (tell f now s) ≡ w = ap (λ (x : Flusher). unwrap_or x.wheel no_waiting) at in
    subst (NoticesFit trace f now) (sym is) (record {
      here = still_here trace f (length s.flushers) (length (set s.flushers f v)) (length s.queues) (length s.queues) (length-set s.flushers f v) refl here;
      wheel = subst (λ (x : Flusher). IsSome x.wheel) (sym at) refl;
      told = subst (λ (x : Waiting). now ≤ x.told) (sym waiting) (le-max_right (waiting_of f s).told now);
      early = early;
      queue = subst (λ (x : Waiting). All (NoticeFits trace x.inodes) (queue_of (flusher_device trace f) s)) (sym waiting)
          (queue_fits trace (queue_of (flusher_device trace f) s) (flusher_of f s).wheel some queue);
    })

-- ---- notices go on

from_fits : (trace : Trace) (cpu f since : ℕ) (s : State) → NoticesFit trace f since s → (numbers : List ℕ) → queue_of (flusher_device trace f) s ≡ numbers
    → NoticesFit trace f since (notice_from trace cpu f since numbers s)
from_fits trace cpu f since s h [] is = h
from_fits trace cpu f since s h (n ∷ ns) is =
    let u : State = with_queue (flusher_device trace f) ns s in
    let fits : NoticesFit trace f since u = popped_fits trace f since s h n ns is in
    either (NoticesFit trace f since) (has_inode n (waiting_of f u).pairs) u (note trace cpu f n since u)
    (λ waits. fits) (λ new. noted_fits trace cpu f n since u fits)

pub next_fits : (trace : Trace) (cpu f since : ℕ) (s : State) → NoticesFit trace f since s → NoticesFit trace f since (notice_next trace cpu f since s)
next_fits trace cpu f since s h = from_fits trace cpu f since s h (queue_of (flusher_device trace f) s) refl

pub notices_go : (trace : Trace) (cpu f since most done : ℕ) → done < most → (s t : State) → t ≡ notice_next trace cpu f since s
    → notice_all trace cpu f since (most - (done + 1)) t ≡ notice_all trace cpu f since (most - done) s
unfolding notice_all
notices_go trace cpu f since most done less s t is =
    let more : most - done ≡ suc (most - (done + 1)) = omega arith in
    ap (notice_all trace cpu f since (most - (done + 1))) is ∙ ap (λ (n : ℕ). notice_all trace cpu f since n s) (sym more)

pub notices_end : (trace : Trace) (cpu f since most done : ℕ) → most ≤ done → (s : State) → notice_all trace cpu f since (most - done) s ≡ s
unfolding notice_all
notices_end trace cpu f since most done past s =
    let none : most - done ≡ 0 = omega arith in
    ap (λ (n : ℕ). notice_all trace cpu f since n s) none

pub all_fits : (trace : Trace) (cpu f since most : ℕ) (s : State) → NoticesFit trace f since s → NoticesFit trace f since (notice_all trace cpu f since most s)
unfolding notice_all
all_fits trace cpu f since zero s h = h
all_fits trace cpu f since (suc most) s h = all_fits trace cpu f since most (notice_next trace cpu f since s) (next_fits trace cpu f since s h)

pub noticed_fits : (trace : Trace) (cpu f now : ℕ) (s t u : State) → t ≡ tell f now s → u ≡ notice_all trace cpu f now 64 t
    → HasFlusher trace f (length s.flushers) (length s.queues) → IsSome (flusher_of f s).wheel → now < 2 ^ 62
    → QueueFits trace (queue_of (flusher_device trace f) s) (flusher_of f s).wheel → NoticesFit trace f now u
noticed_fits trace cpu f now s t u told is here some early queue =
    subst (NoticesFit trace f now) (sym is) (all_fits trace cpu f now 64 t (told_fits trace f now s t told here some early queue))

-- ---- CPUs are as many

from_cpus : (trace : Trace) (cpu f since : ℕ) (numbers : List ℕ) (s : State) → length (notice_from trace cpu f since numbers s).cpus ≡ length s.cpus
from_cpus trace cpu f since [] s = refl
from_cpus trace cpu f since (n ∷ ns) s =
    let u : State = with_queue (flusher_device trace f) ns s in
    either (λ (t : State). length t.cpus ≡ length s.cpus) (has_inode n (waiting_of f u).pairs) u (note trace cpu f n since u)
    (λ waits. refl) (λ new. length-set s.cpus cpu (logged (entry.Noticed f n since) (cpu_of cpu s)))

pub next_cpus : (trace : Trace) (cpu f since : ℕ) (s : State) → length (notice_next trace cpu f since s).cpus ≡ length s.cpus
next_cpus trace cpu f since s = from_cpus trace cpu f since (queue_of (flusher_device trace f) s) s

pub all_cpus : (trace : Trace) (cpu f since most : ℕ) (s : State) → length (notice_all trace cpu f since most s).cpus ≡ length s.cpus
unfolding notice_all
all_cpus trace cpu f since zero s = refl
all_cpus trace cpu f since (suc most) s = all_cpus trace cpu f since most (notice_next trace cpu f since s) ∙ next_cpus trace cpu f since s

pub noticed_cpus : (trace : Trace) (cpu f now : ℕ) (s t u : State) → t ≡ tell f now s → u ≡ notice_all trace cpu f now 64 t → length u.cpus ≡ length s.cpus
noticed_cpus trace cpu f now s t u told is =
    ap (λ (x : State). length x.cpus) is ∙ all_cpus trace cpu f now 64 t ∙ ap (λ (x : State). length x.cpus) told

-- ---- the same wheel

-- what waits at a flusher that has a wheel
pub stood_for : (i : ℕ) (s : State) (f : Flusher) (w : Waiting) → f ≡ flusher_of i s → f.wheel ≡ Some w → waiting_of i s ≡ w
stood_for i s f w at is = ap (λ (x : Flusher). unwrap_or x.wheel no_waiting) (sym at) ∙ ap (λ (x : Option Waiting). unwrap_or x no_waiting) is

-- A wheel is put back that stands for what it stood for.
pub same_wheel : (i : ℕ) (s : State) (f : Flusher) (w v : Waiting) → f ≡ flusher_of i s → f.wheel ≡ Some w
    → v.pairs ≡ w.pairs → v.told ≡ w.told → v.inodes ≡ w.inodes → with_flusher i (record f { wheel = Some v }) s ≡ s
same_wheel i s f w v at is pairs told inodes =
    let same : v ≡ w = λ j. record { pairs = pairs j; told = told j; inodes = inodes j } in
    let back : record f { wheel = Some v } ≡ flusher_of i s = ap (λ (x : Option Waiting). record f { wheel = x }) (ap Some same ∙ sym is) ∙ at in
    ap (λ (x : Flusher). with_flusher i x s) back ∙ ap (λ (l : List Flusher). record s { flushers = l }) (set-get_or s.flushers i no_flusher)

-- what is said of none, by what a match says of it
pub if_none : {A P Q : Type 0} (R : A → Type 0) (r : Option A) → (P → Q) → MatchOption r P R → IfNone r Q
if_none R None to h = to h
if_none R (Some x) to h = tt
