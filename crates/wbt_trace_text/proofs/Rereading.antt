-- The lines of a lawful trace are taken one by one, and make that trace.
use Rattle.std.proofs.Common.{◌≡◌, ℕ, ◌+◌, ◌^◌, ◌<◌, ◌≤◌, Bool, true, false, ◌||◌, ◌==◌, if◌then◌else◌, nat_lt, nat_le, List, [], ◌∷◌, ◌++◌, length, map, Option, Some, None, is_some, is_none, unwrap_or, IfSome, Ok, refl, sym, ◌∙◌, ap, subst, arith, append_assoc, length-append}
use Rattle.std.proofs.lemmas.List.{append-nil}
use Rattle.std.proofs.lemmas.List.Sums.{sum_by-append, sum_by-cons}
use Rattle.std.specs.List.{AllByRecursion}
use Rattle.wbt_text.specs.Numbers.{AllShort, AreNumbers, numbers_text}
use Rattle.wbt_text.specs.Reading.{Lead}
use Rattle.wbt_trace_text.specs.Accept.{accept, after, is_unknown, is_twice, is_out_of_range, is_over_limit, unless, is_too_early, is_no_count, is_no_rate}
use Rattle.wbt_trace.specs.Lawful.{IsNext, AreAvails, IsDevice, IsCgroup, IsContext, IsInode, AreFirsts, IsTask, IsPace, HasPace, IsFlusher, IsCount, IsAction, writers_after, IsOrder, IsExpire, IsChunk, IsFirstRate, IsFirstEstimate}
use Rattle.wbt_trace_text.specs.Lines.{numbers_of, IsLine}
use Rattle.wbt_trace_text.specs.Reading.{traces}
use Rattle.wbt_trace.specs.Sofar.{Sofar, last_from, least_shares, device_at, with_strict, with_chunk, with_cyclic, task_at, with_pace, context_at, with_expire, with_estimate, pages_in, inode_at}
use Rattle.wbt_trace.specs.WriterList.{is_writer, with_writer}
use Rattle.wbt_trace_text.specs.Writing.{line_text, lines_text, numbered, avail_line, device_line, strict_lines, chunk_line, chunk_lines, cyclic_lines, cgroup_line, context_line, expire_line, expire_lines, estimate_line, estimate_lines, inode_line, task_line, pace_line, pace_lines, flusher_line, action_line, order_line}
use Rattle.wbt_trace_text.specs.declared.fault.Refusal.TheVariants.{UnknownName, Twice, OutOfRange, Limit}
use Rattle.wbt_trace_text.specs.declared.line.Line.{Line}
use Rattle.wbt_trace_text.specs.declared.line.Line.TheVariants as line
use Rattle.wbt_trace.specs.declared.trace.Action.{Action}
use Rattle.wbt_trace.specs.declared.trace.Action.TheVariants as action
use Rattle.wbt_trace.specs.declared.trace.Avail.{Avail}
use Rattle.wbt_trace.specs.declared.trace.Cgroup.{Cgroup}
use Rattle.wbt_trace.specs.declared.trace.Context.{Context}
use Rattle.wbt_trace.specs.declared.trace.Device.{Device}
use Rattle.wbt_trace.specs.declared.trace.FirstEstimate.{FirstEstimate}
use Rattle.wbt_trace.specs.declared.trace.FlusherLine.{FlusherLine}
use Rattle.wbt_trace.specs.declared.trace.Inode.{Inode}
use Rattle.wbt_trace.specs.declared.trace.Order.{Order}
use Rattle.wbt_trace.specs.declared.trace.Order.TheVariants as order
use Rattle.wbt_trace.specs.declared.trace.Pace.{Pace}
use Rattle.wbt_trace.specs.declared.trace.TaskLine.{TaskLine}
use Rattle.wbt_trace.specs.declared.writers.Writer.{Writer}
use Rattle.wbt_trace_text.proofs.Avails.{last_from_push}
use Rattle.wbt_trace_text.proofs.Contexts.{plain as undue, plain_is as undue_is, unestimated, unestimated_is, at_front as context_at_front, made_due, made_estimate}
use Rattle.wbt_trace_text.proofs.Devices.{plain, plain_is, unchunked, unchunked_is, straight, straight_is, at_front, made_strict, made_chunk, made_cyclic}
use Rattle.wbt_trace_text.proofs.Keeping.{IsGood}
use Rattle.wbt_trace_text.proofs.Kept.{IsKept, taken, accept_kept}
use Rattle.wbt_trace_text.proofs.Small.{small}
use Rattle.wbt_trace_text.proofs.Tasks.{unpaced, unpaced_is, at_front as task_at_front, made_paced}
use Rattle.wbt_trace_text.proofs.Tests.{below_off, to_off, none_off, both_off}

-- The lines are taken one by one, and lead from one state to another.
abbrev pub Accepts : List Line → Sofar → Sofar → Type 0
Accepts [] s t = s ≡ t
Accepts (l ∷ ls) s t = (u : Sofar) × (accept l s ≡ Ok u) × Accepts ls u t

pub accepts_append : (ks ls : List Line) (s t u : Sofar) → Accepts ks s t → Accepts ls t u → Accepts (ks ++ ls) s u
accepts_append [] ls s t u a b = subst (λ (x : Sofar). Accepts ls x u) (sym a) b
accepts_append (k ∷ ks) ls s t u a b = (a.0, a.1, accepts_append ks ls a.0 t u a.2 b)

-- a line without a fault is taken
pub passes : (l : Line) (s : Sofar) → IsGood l s → accept l s ≡ Ok (after l s)
passes l s good = all_off (is_unknown l s) (is_twice l s) (is_out_of_range l s) (is_over_limit l s) good.known good.once good.range good.limit
  where
    all_off : (a b c d : Bool) → a ≡ false → b ≡ false → c ≡ false → d ≡ false → unless a UnknownName (unless b Twice (unless c OutOfRange (unless d Limit (Ok (after l s))))) ≡ Ok (after l s)
    all_off true b c d x y z w = cc
    all_off false true c d x y z w = cc
    all_off false false true d x y z w = cc
    all_off false false false true x y z w = cc
    all_off false false false false x y z w = refl

-- the text of a line whose numbers are short is that of the line
pub line_is : (l : Line) → AllShort (numbers_of l) → IsLine (line_text l) l
line_is l short = (numbers_text (numbers_of l), refl, spelled l short)
  where
    spelled : (k : Line) → AllShort (numbers_of k) → AreNumbers (numbers_text (numbers_of k)) (numbers_of k)
    spelled (line.Cpus a) is = (is, refl)
    spelled (line.Cap a) is = (is, refl)
    spelled (line.DirtyRatio a) is = (is, refl)
    spelled (line.BackgroundRatio a) is = (is, refl)
    spelled (line.DirtyBytes a) is = (is, refl)
    spelled (line.BackgroundBytes a) is = (is, refl)
    spelled (line.Avail a b) is = (is, refl)
    spelled (line.Device a b c d) is = (is, refl)
    spelled (line.Strict a) is = (is, refl)
    spelled (line.Chunk a b) is = (is, refl)
    spelled (line.Cyclic a) is = (is, refl)
    spelled (line.Cgroup a b c) is = (is, refl)
    spelled (line.Context a b c) is = (is, refl)
    spelled (line.Expire a b) is = (is, refl)
    spelled (line.Estimate a b c d) is = (is, refl)
    spelled (line.Inode a b c) is = (is, refl)
    spelled (line.Task a b) is = (is, refl)
    spelled (line.Pace a b c) is = (is, refl)
    spelled (line.Flusher a b c) is = (is, refl)
    spelled (line.Write a b c d) is = (is, refl)
    spelled (line.Rest a b) is = (is, refl)
    spelled (line.Order a b) is = (is, refl)
    spelled (line.OrderTimer a) is = (is, refl)
    spelled (line.Tick a) is = (is, refl)
    spelled (line.Halt a) is = (is, refl)

-- what is taken line by line leads through its text
pub lead_of : (ls : List Line) (s t : Sofar) → IsKept s → Accepts ls s t → Lead traces ls s (lines_text ls) t []
lead_of [] s t kept on = (on, refl)
lead_of (l ∷ ls) s t kept on =
    let line = taken l s on.0 on.1 in
    (line_text l, lines_text ls, on.0, refl, line_is l (small l s kept line.good), on.1, lead_of ls on.0 t (accept_kept l s on.0 on.1 kept) on.2)

-- ---- one sort of things after another

early_off : (last : Option ℕ) (tick : ℕ) → IsNext last tick → is_too_early tick last ≡ false
early_off None tick is = below_off 0 tick (omega (arith, is))
early_off (Some before) tick is = to_off tick before is

pub avails : (n : ℕ) (xs : List Avail) (s : Sofar) → AreAvails (last_from s.avail) xs → length s.avail + length xs ≤ 256 → Accepts (numbered avail_line n xs) s (record s { avail = s.avail ++ xs })
avails n [] s are few = λ i. record s { avail = sym (append-nil s.avail) i }
avails n (x ∷ xs) s are few =
    let good : IsGood (avail_line n x) s = record {
      known = refl;
      once = refl;
      range = both_off (is_too_early x.from (last_from s.avail) || nat_lt (10 ^ 12) x.from) (nat_lt (2 ^ 40) x.pages) (both_off (is_too_early x.from (last_from s.avail)) (nat_lt (10 ^ 12) x.from) (early_off (last_from s.avail) x.from are.0) (below_off (10 ^ 12) x.from are.1)) (below_off (2 ^ 40) x.pages are.2);
      limit = to_off 256 (length s.avail) (omega arith);
    } in
    let u : Sofar = record s { avail = s.avail ++ x ∷ [] } in
    let next : AreAvails (last_from u.avail) xs = subst (λ (o : Option ℕ). AreAvails o xs) (sym (last_from_push s.avail x)) are.3 in
    let rest = avails (n + 1) xs u next (omega (arith, length-append s.avail (x ∷ []))) in
    (u, passes (avail_line n x) s good, subst (λ (ys : List Avail). Accepts (numbered avail_line (n + 1) xs) u (record s { avail = ys })) (append_assoc s.avail (x ∷ []) xs) rest)

pub devices : (n : ℕ) (xs : List Device) (s : Sofar) → n ≡ length s.devices → AllByRecursion IsDevice xs → least_shares s.devices + least_shares xs ≤ 100 → length s.devices + length xs ≤ 16 → Accepts (numbered device_line n xs) s (record s { devices = s.devices ++ map plain xs })
devices n [] s at all shares few = λ i. record s { devices = sym (append-nil s.devices) i }
devices n (x ∷ xs) s at all shares few =
    let cons = sum_by-cons (λ (y : Device). y.min) x xs in
    let a = nat_lt (length s.devices) n in
    let b = x.rate == 0 in
    let c = nat_lt (2 ^ 20) x.rate in
    let e = nat_lt x.max x.min in
    let f = nat_lt 100 x.max in
    let g = nat_lt 100 (least_shares s.devices + x.min) in
    let good : IsGood (device_line n x) s = record {
      known = refl;
      once = below_off n (length s.devices) (omega (arith, at));
      range = both_off ((((a || b) || c) || e) || f) g
          (both_off (((a || b) || c) || e) f
          (both_off ((a || b) || c) e (both_off (a || b) c (both_off a b (below_off (length s.devices) n (omega (arith, at))) (none_off x.rate all.0.rate.0)) (below_off (2 ^ 20) x.rate all.0.rate.1)) (below_off x.max x.min all.0.shares.0)) (below_off 100 x.max all.0.shares.1))
          (below_off 100 (least_shares s.devices + x.min) (omega (arith, shares, cons)));
      limit = to_off 16 (length s.devices) (omega arith);
    } in
    let u : Sofar = record s { devices = s.devices ++ plain x ∷ [] } in
    let rest = devices (n + 1) xs u (omega (arith, at, length-append s.devices (plain x ∷ []))) all.1 (omega (arith, shares, cons, sum_by-append (λ (y : Device). y.min) s.devices (plain x ∷ []))) (omega (arith, length-append s.devices (plain x ∷ []))) in
    (u, passes (device_line n x) s good, subst (λ (ys : List Device). Accepts (numbered device_line (n + 1) xs) u (record s { devices = ys })) (append_assoc s.devices (plain x ∷ []) (map plain xs)) rest)

-- each strict device is made strict after all devices have been declared
pub stricts : (n : ℕ) (front xs : List Device) (s : Sofar) → n ≡ length front → s.devices ≡ front ++ map plain xs → Accepts (strict_lines n xs) s (record s { devices = front ++ map unchunked xs })
stricts n front [] s at are = λ i. record s { devices = are i }
stricts n front (x ∷ xs) s at are =
    by_line x.strict refl (λ t devices. stricts (n + 1) (front ++ unchunked x ∷ []) xs t (omega (arith, at, length-append front (unchunked x ∷ []))) (devices ∙ sym (append_assoc front (unchunked x ∷ []) (map plain xs))))
  where
    rejoin : (t : Sofar) → Accepts (strict_lines (n + 1) xs) t (record t { devices = (front ++ unchunked x ∷ []) ++ map unchunked xs }) → Accepts (strict_lines (n + 1) xs) t (record t { devices = front ++ unchunked x ∷ map unchunked xs })
    rejoin t rest = subst (λ (ys : List Device). Accepts (strict_lines (n + 1) xs) t (record t { devices = ys })) (append_assoc front (unchunked x ∷ []) (map unchunked xs)) rest

    good : IsGood (line.Strict n) s
    good = record {
      known = to_off (length s.devices) n (omega (arith, at, ap (λ (ds : List Device). length ds) are, length-append front (plain x ∷ map plain xs)));
      once = ap (λ (k : ℕ). (device_at k s.devices).strict) at ∙ ap (λ (ds : List Device). (device_at (length front) ds).strict) are ∙ ap (λ (d : Device). d.strict) (at_front front (plain x) (map plain xs));
      range = refl;
      limit = refl;
    }

    by_line : (b : Bool) → x.strict ≡ b
        → ((t : Sofar) → t.devices ≡ front ++ unchunked x ∷ map plain xs → Accepts (strict_lines (n + 1) xs) t (record t { devices = (front ++ unchunked x ∷ []) ++ map unchunked xs }))
        → Accepts ((if b then line.Strict n ∷ [] else []) ++ strict_lines (n + 1) xs) s (record s { devices = front ++ unchunked x ∷ map unchunked xs })
    by_line true is more =
        let u : Sofar = record s { devices = front ++ unchunked x ∷ map plain xs } in
        let taken : accept (line.Strict n) s ≡ Ok u =
        passes (line.Strict n) s good ∙ ap (λ (ds : List Device). Ok (record s { devices = ds })) ((λ i. with_strict (at i) (are i)) ∙ made_strict front x (map plain xs) is) in
        (u, taken, rejoin u (more u refl))
    by_line false is more = rejoin s (more s (are ∙ ap (λ (d : Device). front ++ d ∷ map plain xs) (plain_is x is)))

-- and then each gets its chunk
pub chunks : (n : ℕ) (front xs : List Device) (s : Sofar) → n ≡ length front → s.devices ≡ front ++ map unchunked xs → AllByRecursion IsDevice xs → Accepts (chunk_lines n xs) s (record s { devices = front ++ map straight xs })
chunks n front [] s at are all = λ i. record s { devices = are i }
chunks n front (x ∷ xs) s at are all =
    by_line x.chunk refl (λ t devices. chunks (n + 1) (front ++ straight x ∷ []) xs t (omega (arith, at, length-append front (straight x ∷ []))) (devices ∙ sym (append_assoc front (straight x ∷ []) (map unchunked xs))) all.1)
  where
    rejoin : (t : Sofar) → Accepts (chunk_lines (n + 1) xs) t (record t { devices = (front ++ straight x ∷ []) ++ map straight xs }) → Accepts (chunk_lines (n + 1) xs) t (record t { devices = front ++ straight x ∷ map straight xs })
    rejoin t rest = subst (λ (ys : List Device). Accepts (chunk_lines (n + 1) xs) t (record t { devices = ys })) (append_assoc front (straight x ∷ []) (map straight xs)) rest

    in_range : (pages : ℕ) → x.chunk ≡ Some pages → IsChunk pages
    in_range pages is = subst (λ (o : Option ℕ). IfSome o IsChunk) is all.0.chunk

    good : (pages : ℕ) → IsChunk pages → IsGood (line.Chunk n pages) s
    good pages is = record {
      known = to_off (length s.devices) n (omega (arith, at, ap (λ (ds : List Device). length ds) are, length-append front (unchunked x ∷ map unchunked xs)));
      once = ap (λ (k : ℕ). is_some (device_at k s.devices).chunk) at ∙ ap (λ (ds : List Device). is_some (device_at (length front) ds).chunk) are ∙ ap (λ (d : Device). is_some d.chunk) (at_front front (unchunked x) (map unchunked xs));
      range = both_off (pages == 0) (nat_lt 2097152 pages) (none_off pages is.0) (below_off 2097152 pages is.1);
      limit = refl;
    }

    by_line : (o : Option ℕ) → x.chunk ≡ o → ((t : Sofar) → t.devices ≡ front ++ straight x ∷ map unchunked xs → Accepts (chunk_lines (n + 1) xs) t (record t { devices = (front ++ straight x ∷ []) ++ map straight xs }))
        → Accepts (chunk_line n o ++ chunk_lines (n + 1) xs) s (record s { devices = front ++ straight x ∷ map straight xs })
    by_line (Some pages) is more =
        let u : Sofar = record s { devices = front ++ straight x ∷ map unchunked xs } in
        let taken : accept (line.Chunk n pages) s ≡ Ok u =
        passes (line.Chunk n pages) s (good pages (in_range pages is)) ∙ ap (λ (ds : List Device). Ok (record s { devices = ds })) ((λ i. with_chunk (at i) pages (are i)) ∙ made_chunk front x (map unchunked xs) pages is) in
        (u, taken, rejoin u (more u refl))
    by_line None is more = rejoin s (more s (are ∙ ap (λ (d : Device). front ++ d ∷ map unchunked xs) (unchunked_is x is)))

-- and last each gets its cyclic line
pub cyclics : (n : ℕ) (front xs : List Device) (s : Sofar) → n ≡ length front → s.devices ≡ front ++ map straight xs → Accepts (cyclic_lines n xs) s (record s { devices = front ++ xs })
cyclics n front [] s at are = λ i. record s { devices = are i }
cyclics n front (x ∷ xs) s at are =
    by_line x.cyclic refl (λ t devices. cyclics (n + 1) (front ++ x ∷ []) xs t (omega (arith, at, length-append front (x ∷ []))) (devices ∙ sym (append_assoc front (x ∷ []) (map straight xs))))
  where
    rejoin : (t : Sofar) → Accepts (cyclic_lines (n + 1) xs) t (record t { devices = (front ++ x ∷ []) ++ xs }) → Accepts (cyclic_lines (n + 1) xs) t (record t { devices = front ++ x ∷ xs })
    rejoin t rest = subst (λ (ys : List Device). Accepts (cyclic_lines (n + 1) xs) t (record t { devices = ys })) (append_assoc front (x ∷ []) xs) rest

    good : IsGood (line.Cyclic n) s
    good = record {
      known = to_off (length s.devices) n (omega (arith, at, ap (λ (ds : List Device). length ds) are, length-append front (straight x ∷ map straight xs)));
      once = ap (λ (k : ℕ). (device_at k s.devices).cyclic) at ∙ ap (λ (ds : List Device). (device_at (length front) ds).cyclic) are ∙ ap (λ (d : Device). d.cyclic) (at_front front (straight x) (map straight xs));
      range = refl;
      limit = refl;
    }

    by_line : (b : Bool) → x.cyclic ≡ b
        → ((t : Sofar) → t.devices ≡ front ++ x ∷ map straight xs → Accepts (cyclic_lines (n + 1) xs) t (record t { devices = (front ++ x ∷ []) ++ xs }))
        → Accepts ((if b then line.Cyclic n ∷ [] else []) ++ cyclic_lines (n + 1) xs) s (record s { devices = front ++ x ∷ xs })
    by_line true is more =
        let u : Sofar = record s { devices = front ++ x ∷ map straight xs } in
        let taken : accept (line.Cyclic n) s ≡ Ok u =
        passes (line.Cyclic n) s good ∙ ap (λ (ds : List Device). Ok (record s { devices = ds })) ((λ i. with_cyclic (at i) (are i)) ∙ made_cyclic front x (map straight xs) is) in
        (u, taken, rejoin u (more u refl))
    by_line false is more = rejoin s (more s (are ∙ ap (λ (d : Device). front ++ d ∷ map straight xs) (straight_is x is)))

pub cgroups : (n : ℕ) (xs : List Cgroup) (s : Sofar) → n ≡ length s.cgroups + 1 → AllByRecursion IsCgroup xs → length s.cgroups + length xs ≤ 8 → Accepts (numbered cgroup_line n xs) s (record s { cgroups = s.cgroups ++ xs })
cgroups n [] s at all few = λ i. record s { cgroups = sym (append-nil s.cgroups) i }
cgroups n (x ∷ xs) s at all few =
    let a = nat_lt (length s.cgroups + 1) n in
    let b = nat_lt (2 ^ 40) x.filepages in
    let c = nat_lt (2 ^ 40) x.headroom in
    let good : IsGood (cgroup_line n x) s = record {
      known = refl;
      once = to_off n (length s.cgroups) (omega (arith, at));
      range = both_off (a || b) c (both_off a b (below_off (length s.cgroups + 1) n (omega (arith, at))) (below_off (2 ^ 40) x.filepages all.0.0)) (below_off (2 ^ 40) x.headroom all.0.1);
      limit = to_off 8 (length s.cgroups) (omega arith);
    } in
    let u : Sofar = record s { cgroups = s.cgroups ++ x ∷ [] } in
    let rest = cgroups (n + 1) xs u (omega (arith, at, length-append s.cgroups (x ∷ []))) all.1 (omega (arith, length-append s.cgroups (x ∷ []))) in
    (u, passes (cgroup_line n x) s good, subst (λ (ys : List Cgroup). Accepts (numbered cgroup_line (n + 1) xs) u (record s { cgroups = ys })) (append_assoc s.cgroups (x ∷ []) xs) rest)

pub contexts : (n : ℕ) (xs : List Context) (s : Sofar) → n ≡ length s.contexts → AllByRecursion (IsContext (length s.devices) (length s.cgroups)) xs → length s.contexts + length xs ≤ 64 → Accepts (numbered context_line n xs) s (record s { contexts = s.contexts ++ map undue xs })
contexts n [] s at all few = λ i. record s { contexts = sym (append-nil s.contexts) i }
contexts n (x ∷ xs) s at all few =
    let good : IsGood (context_line n x) s = record {
      known = both_off (nat_le (length s.devices) x.device) (nat_lt (length s.cgroups) x.domain) (to_off (length s.devices) x.device all.0.0) (below_off (length s.cgroups) x.domain all.0.1);
      once = below_off n (length s.contexts) (omega (arith, at));
      range = below_off (length s.contexts) n (omega (arith, at));
      limit = to_off 64 (length s.contexts) (omega arith);
    } in
    let u : Sofar = record s { contexts = s.contexts ++ undue x ∷ [] } in
    let rest = contexts (n + 1) xs u (omega (arith, at, length-append s.contexts (undue x ∷ []))) all.1 (omega (arith, length-append s.contexts (undue x ∷ []))) in
    (u, passes (context_line n x) s good, subst (λ (ys : List Context). Accepts (numbered context_line (n + 1) xs) u (record s { contexts = ys })) (append_assoc s.contexts (undue x ∷ []) (map undue xs)) rest)

-- it is said after how long inodes are due after all contexts have been declared
pub expires : (n : ℕ) (front xs : List Context) (s : Sofar) (d g : ℕ) → n ≡ length front → s.contexts ≡ front ++ map undue xs → AllByRecursion (IsContext d g) xs → Accepts (expire_lines n xs) s (record s { contexts = front ++ map unestimated xs })
expires n front [] s d g at are all = λ i. record s { contexts = are i }
expires n front (x ∷ xs) s d g at are all =
    by_line x.expire refl (λ t contexts. expires (n + 1) (front ++ unestimated x ∷ []) xs t d g (omega (arith, at, length-append front (unestimated x ∷ []))) (contexts ∙ sym (append_assoc front (unestimated x ∷ []) (map undue xs))) all.1)
  where
    rejoin : (t : Sofar) → Accepts (expire_lines (n + 1) xs) t (record t { contexts = (front ++ unestimated x ∷ []) ++ map unestimated xs }) → Accepts (expire_lines (n + 1) xs) t (record t { contexts = front ++ unestimated x ∷ map unestimated xs })
    rejoin t rest = subst (λ (ys : List Context). Accepts (expire_lines (n + 1) xs) t (record t { contexts = ys })) (append_assoc front (unestimated x ∷ []) (map unestimated xs)) rest

    in_range : (centi : ℕ) → x.expire ≡ Some centi → IsExpire centi
    in_range centi is = subst (λ (o : Option ℕ). IfSome o IsExpire) is all.0.2

    good : (centi : ℕ) → IsExpire centi → IsGood (line.Expire n centi) s
    good centi is = record {
      known = to_off (length s.contexts) n (omega (arith, at, ap (λ (ws : List Context). length ws) are, length-append front (undue x ∷ map undue xs)));
      once = ap (λ (k : ℕ). is_some (context_at k s.contexts).expire) at ∙ ap (λ (ws : List Context). is_some (context_at (length front) ws).expire) are ∙ ap (λ (w : Context). is_some w.expire) (context_at_front front (undue x) (map undue xs));
      range = both_off (centi == 0) (nat_lt 100000 centi) (none_off centi is.0) (below_off 100000 centi is.1);
      limit = refl;
    }

    by_line : (o : Option ℕ) → x.expire ≡ o
        → ((t : Sofar) → t.contexts ≡ front ++ unestimated x ∷ map undue xs → Accepts (expire_lines (n + 1) xs) t (record t { contexts = (front ++ unestimated x ∷ []) ++ map unestimated xs }))
        → Accepts (expire_line n o ++ expire_lines (n + 1) xs) s (record s { contexts = front ++ unestimated x ∷ map unestimated xs })
    by_line (Some centi) is more =
        let u : Sofar = record s { contexts = front ++ unestimated x ∷ map undue xs } in
        let taken : accept (line.Expire n centi) s ≡ Ok u =
        passes (line.Expire n centi) s (good centi (in_range centi is)) ∙ ap (λ (ws : List Context). Ok (record s { contexts = ws })) ((λ i. with_expire (at i) centi (are i)) ∙ made_due front x (map undue xs) centi is) in
        (u, taken, rejoin u (more u refl))
    by_line None is more = rejoin s (more s (are ∙ ap (λ (w : Context). front ++ w ∷ map undue xs) (undue_is x is)))

rate_off : (rate : ℕ) → IsFirstRate rate → is_no_rate rate ≡ false
rate_off rate is = both_off (rate == 0) (nat_lt (2 ^ 40) rate) (none_off rate is.0) (below_off (2 ^ 40) rate is.1)

-- and then what first estimates are
pub estimates : (n : ℕ) (front xs : List Context) (s : Sofar) (d g : ℕ) → n ≡ length front → s.contexts ≡ front ++ map unestimated xs → AllByRecursion (IsContext d g) xs → Accepts (estimate_lines n xs) s (record s { contexts = front ++ xs })
estimates n front [] s d g at are all = λ i. record s { contexts = are i }
estimates n front (x ∷ xs) s d g at are all =
    by_line x.estimate refl (λ t contexts. estimates (n + 1) (front ++ x ∷ []) xs t d g (omega (arith, at, length-append front (x ∷ []))) (contexts ∙ sym (append_assoc front (x ∷ []) (map unestimated xs))) all.1)
  where
    rejoin : (t : Sofar) → Accepts (estimate_lines (n + 1) xs) t (record t { contexts = (front ++ x ∷ []) ++ xs }) → Accepts (estimate_lines (n + 1) xs) t (record t { contexts = front ++ x ∷ xs })
    rejoin t rest = subst (λ (ys : List Context). Accepts (estimate_lines (n + 1) xs) t (record t { contexts = ys })) (append_assoc front (x ∷ []) xs) rest

    in_range : (first : FirstEstimate) → x.estimate ≡ Some first → IsFirstEstimate first
    in_range first is = subst (λ (o : Option FirstEstimate). IfSome o IsFirstEstimate) is all.0.3

    good : (first : FirstEstimate) → IsFirstEstimate first → IsGood (line.Estimate n first.bandwidth first.average first.ratelimit) s
    good first is = record {
      known = to_off (length s.contexts) n (omega (arith, at, ap (λ (ws : List Context). length ws) are, length-append front (unestimated x ∷ map unestimated xs)));
      once = ap (λ (k : ℕ). is_some (context_at k s.contexts).estimate) at ∙ ap (λ (ws : List Context). is_some (context_at (length front) ws).estimate) are ∙ ap (λ (w : Context). is_some w.estimate) (context_at_front front (unestimated x) (map unestimated xs));
      range = both_off (is_no_rate first.bandwidth || is_no_rate first.average) (is_no_rate first.ratelimit)
          (both_off (is_no_rate first.bandwidth) (is_no_rate first.average) (rate_off first.bandwidth is.bandwidth) (rate_off first.average is.average)) (rate_off first.ratelimit is.ratelimit);
      limit = refl;
    }

    by_line : (o : Option FirstEstimate) → x.estimate ≡ o
        → ((t : Sofar) → t.contexts ≡ front ++ x ∷ map unestimated xs → Accepts (estimate_lines (n + 1) xs) t (record t { contexts = (front ++ x ∷ []) ++ xs }))
        → Accepts (estimate_line n o ++ estimate_lines (n + 1) xs) s (record s { contexts = front ++ x ∷ xs })
    by_line (Some first) is more =
        let u : Sofar = record s { contexts = front ++ x ∷ map unestimated xs } in
        let l : Line = line.Estimate n first.bandwidth first.average first.ratelimit in
        let taken : accept l s ≡ Ok u =
        passes l s (good first (in_range first is)) ∙ ap (λ (ws : List Context). Ok (record s { contexts = ws })) ((λ i. with_estimate (at i) first (are i)) ∙ made_estimate front x (map unestimated xs) first is) in
        (u, taken, rejoin u (more u refl))
    by_line None is more = rejoin s (more s (are ∙ ap (λ (w : Context). front ++ w ∷ map unestimated xs) (unestimated_is x is)))

pub inodes : (n : ℕ) (xs : List Inode) (s : Sofar) → n ≡ length s.inodes → AllByRecursion (IsInode (length s.contexts)) xs → AreFirsts (pages_in s.inodes) xs → pages_in s.inodes + pages_in xs ≤ 2097152 → length s.inodes + length xs ≤ 4096
    → Accepts (numbered inode_line n xs) s (record s { inodes = s.inodes ++ xs })
inodes n [] s at all firsts total few = λ i. record s { inodes = sym (append-nil s.inodes) i }
inodes n (x ∷ xs) s at all firsts total few =
    let cons = sum_by-cons (λ (y : Inode). y.pages) x xs in
    let a = nat_lt (length s.inodes) n in
    let b = x.pages == 0 in
    let c = nat_lt 2097152 x.pages in
    let good : IsGood (inode_line n x) s = record {
      known = to_off (length s.contexts) x.context all.0.0;
      once = below_off n (length s.inodes) (omega (arith, at));
      range = both_off (a || b) c (both_off a b (below_off (length s.inodes) n (omega (arith, at))) (none_off x.pages all.0.1)) (below_off 2097152 x.pages (omega (arith, total, cons)));
      limit = both_off (nat_le 4096 (length s.inodes)) (nat_lt 2097152 (pages_in s.inodes + x.pages)) (to_off 4096 (length s.inodes) (omega arith)) (below_off 2097152 (pages_in s.inodes + x.pages) (omega (arith, total, cons)));
    } in
    let u : Sofar = record s { inodes = s.inodes ++ x ∷ [] } in
    let same : pages_in u.inodes ≡ pages_in s.inodes + x.pages = omega (arith, sum_by-append (λ (y : Inode). y.pages) s.inodes (x ∷ [])) in
    let taken : accept (inode_line n x) s ≡ Ok u =
    passes (inode_line n x) s good ∙ ap (λ (first : ℕ). Ok (record s { inodes = s.inodes ++ (record { context = x.context; first = first; pages = x.pages }) ∷ [] })) (sym firsts.0) in
    let next : AreFirsts (pages_in u.inodes) xs = subst (λ (k : ℕ). AreFirsts k xs) (sym same) firsts.1 in
    let rest = inodes (n + 1) xs u (omega (arith, at, length-append s.inodes (x ∷ []))) all.1 next (omega (arith, total, cons, same)) (omega (arith, length-append s.inodes (x ∷ []))) in
    (u, taken, subst (λ (ys : List Inode). Accepts (numbered inode_line (n + 1) xs) u (record s { inodes = ys })) (append_assoc s.inodes (x ∷ []) xs) rest)

pub tasks : (n : ℕ) (xs : List TaskLine) (s : Sofar) → n ≡ length s.tasks → is_none s.cpus ≡ false → AllByRecursion (IsTask (unwrap_or s.cpus 0)) xs → length s.tasks + length xs ≤ 256 → Accepts (numbered task_line n xs) s (record s { tasks = s.tasks ++ map unpaced xs })
tasks n [] s at given all few = λ i. record s { tasks = sym (append-nil s.tasks) i }
tasks n (x ∷ xs) s at given all few =
    let good : IsGood (task_line n x) s = record {
      known = given;
      once = below_off n (length s.tasks) (omega (arith, at));
      range = both_off (nat_lt (length s.tasks) n) (nat_le (unwrap_or s.cpus 0) x.cpu) (below_off (length s.tasks) n (omega (arith, at))) (to_off (unwrap_or s.cpus 0) x.cpu all.0);
      limit = to_off 256 (length s.tasks) (omega arith);
    } in
    let u : Sofar = record s { tasks = s.tasks ++ unpaced x ∷ [] } in
    let rest = tasks (n + 1) xs u (omega (arith, at, length-append s.tasks (unpaced x ∷ []))) given all.1 (omega (arith, length-append s.tasks (unpaced x ∷ []))) in
    (u, passes (task_line n x) s good, subst (λ (ys : List TaskLine). Accepts (numbered task_line (n + 1) xs) u (record s { tasks = ys })) (append_assoc s.tasks (unpaced x ∷ []) (map unpaced xs)) rest)

no_count_off : (n : ℕ) → IsCount n → is_no_count n ≡ false
no_count_off n is = both_off (n == 0) (nat_lt (10 ^ 12) n) (none_off n is.0) (below_off (10 ^ 12) n is.1)

-- it is said when they rest after all tasks have been declared
pub paces : (n : ℕ) (front xs : List TaskLine) (s : Sofar) → n ≡ length front → s.tasks ≡ front ++ map unpaced xs → AllByRecursion HasPace xs → Accepts (pace_lines n xs) s (record s { tasks = front ++ xs })
paces n front [] s at are all = λ i. record s { tasks = are i }
paces n front (x ∷ xs) s at are all =
    by_line x.pace refl (λ t tasks. paces (n + 1) (front ++ x ∷ []) xs t (omega (arith, at, length-append front (x ∷ []))) (tasks ∙ sym (append_assoc front (x ∷ []) (map unpaced xs))) all.1)
  where
    rejoin : (t : Sofar) → Accepts (pace_lines (n + 1) xs) t (record t { tasks = (front ++ x ∷ []) ++ xs }) → Accepts (pace_lines (n + 1) xs) t (record t { tasks = front ++ x ∷ xs })
    rejoin t rest = subst (λ (ys : List TaskLine). Accepts (pace_lines (n + 1) xs) t (record t { tasks = ys })) (append_assoc front (x ∷ []) xs) rest

    in_range : (pace : Pace) → x.pace ≡ Some pace → IsPace pace
    in_range pace is = subst (λ (o : Option Pace). IfSome o IsPace) is all.0

    good : (pace : Pace) → IsPace pace → IsGood (line.Pace n pace.pages pace.ticks) s
    good pace is = record {
      known = to_off (length s.tasks) n (omega (arith, at, ap (λ (ts : List TaskLine). length ts) are, length-append front (unpaced x ∷ map unpaced xs)));
      once = ap (λ (k : ℕ). is_some (task_at k s.tasks).pace) at ∙ ap (λ (ts : List TaskLine). is_some (task_at (length front) ts).pace) are ∙ ap (λ (t : TaskLine). is_some t.pace) (task_at_front front (unpaced x) (map unpaced xs));
      range = both_off (pace.pages == 0 || nat_lt 2097152 pace.pages) (is_no_count pace.ticks)
          (both_off (pace.pages == 0) (nat_lt 2097152 pace.pages) (none_off pace.pages is.pages.0) (below_off 2097152 pace.pages is.pages.1)) (no_count_off pace.ticks is.ticks);
      limit = refl;
    }

    by_line : (o : Option Pace) → x.pace ≡ o → ((t : Sofar) → t.tasks ≡ front ++ x ∷ map unpaced xs → Accepts (pace_lines (n + 1) xs) t (record t { tasks = (front ++ x ∷ []) ++ xs }))
        → Accepts (pace_line n o ++ pace_lines (n + 1) xs) s (record s { tasks = front ++ x ∷ xs })
    by_line (Some pace) is more =
        let u : Sofar = record s { tasks = front ++ x ∷ map unpaced xs } in
        let l : Line = line.Pace n pace.pages pace.ticks in
        let taken : accept l s ≡ Ok u =
        passes l s (good pace (in_range pace is)) ∙ ap (λ (ts : List TaskLine). Ok (record s { tasks = ts })) ((λ i. with_pace (at i) pace (are i)) ∙ made_paced front x (map unpaced xs) pace is) in
        (u, taken, rejoin u (more u refl))
    by_line None is more = rejoin s (more s (are ∙ ap (λ (t : TaskLine). front ++ t ∷ map unpaced xs) (unpaced_is x is)))

pub flushers : (n : ℕ) (xs : List FlusherLine) (s : Sofar) → n ≡ length s.flushers → is_none s.cpus ≡ false → AllByRecursion (IsFlusher (length s.devices) (unwrap_or s.cpus 0)) xs → length s.flushers + length xs ≤ 64
    → Accepts (numbered flusher_line n xs) s (record s { flushers = s.flushers ++ xs })
flushers n [] s at given all few = λ i. record s { flushers = sym (append-nil s.flushers) i }
flushers n (x ∷ xs) s at given all few =
    let good : IsGood (flusher_line n x) s = record {
      known = both_off (is_none s.cpus) (nat_le (length s.devices) x.device) given (to_off (length s.devices) x.device all.0.0);
      once = below_off n (length s.flushers) (omega (arith, at));
      range = both_off (nat_lt (length s.flushers) n) (nat_le (unwrap_or s.cpus 0) x.cpu) (below_off (length s.flushers) n (omega (arith, at))) (to_off (unwrap_or s.cpus 0) x.cpu all.0.1);
      limit = to_off 64 (length s.flushers) (omega arith);
    } in
    let u : Sofar = record s { flushers = s.flushers ++ x ∷ [] } in
    let rest = flushers (n + 1) xs u (omega (arith, at, length-append s.flushers (x ∷ []))) given all.1 (omega (arith, length-append s.flushers (x ∷ []))) in
    (u, passes (flusher_line n x) s good, subst (λ (ys : List FlusherLine). Accepts (numbered flusher_line (n + 1) xs) u (record s { flushers = ys })) (append_assoc s.flushers (x ∷ []) xs) rest)

-- the writers grow
more_writers : (task context : ℕ) (ws : List Writer) → length ws ≤ length (with_writer task context ws)
more_writers task context ws = by_test (is_writer task context ws)
  where
    by_test : (b : Bool) → length ws ≤ length (if b then ws else ws ++ (record { task = task; context = context }) ∷ [])
    by_test true = omega arith
    by_test false = omega (arith, length-append ws ((record { task = task; context = context }) ∷ []))

writers_grow : (ws : List Writer) (inodes : List Inode) (actions : List Action) → length ws ≤ length (writers_after ws inodes actions)
writers_grow ws inodes [] = omega arith
writers_grow ws inodes (action.Write task inode from pages ∷ more) =
    omega (arith, more_writers task (inode_at inode inodes).context ws, writers_grow (with_writer task (inode_at inode inodes).context ws) inodes more)
writers_grow ws inodes (action.Rest task ticks ∷ more) = writers_grow ws inodes more

pub actions : (n : ℕ) (xs : List Action) (s : Sofar) → AllByRecursion (IsAction (length s.tasks) s.inodes) xs → length s.actions + length xs ≤ 65536 → length (writers_after s.writers s.inodes xs) ≤ 1024
    → Accepts (numbered action_line n xs) s (record s { actions = s.actions ++ xs; writers = writers_after s.writers s.inodes xs })
actions n [] s all few writers = λ i. record s { actions = sym (append-nil s.actions) i }
actions n (action.Write task inode from pages ∷ xs) s all few writers =
    let x = action.Write task inode from pages in
    let ws = with_writer task (inode_at inode s.inodes).context s.writers in
    let good : IsGood (line.Write task inode from pages) s = record {
      known = both_off (nat_le (length s.tasks) task) (nat_le (length s.inodes) inode) (to_off (length s.tasks) task all.0.0) (to_off (length s.inodes) inode all.0.1);
      once = refl;
      range = both_off (pages == 0) (nat_lt (inode_at inode s.inodes).pages (from + pages)) (none_off pages all.0.2) (below_off (inode_at inode s.inodes).pages (from + pages) all.0.3);
      limit = both_off (nat_le 65536 (length s.actions)) (nat_lt 1024 (length ws)) (to_off 65536 (length s.actions) (omega arith)) (below_off 1024 (length ws) (omega (arith, writers_grow ws s.inodes xs, writers)));
    } in
    let u : Sofar = record s { actions = s.actions ++ x ∷ []; writers = ws } in
    let rest = actions (n + 1) xs u all.1 (omega (arith, length-append s.actions (x ∷ []))) writers in
    (u, passes (line.Write task inode from pages) s good, subst (λ (ys : List Action). Accepts (numbered action_line (n + 1) xs) u (record s { actions = ys; writers = writers_after ws s.inodes xs })) (append_assoc s.actions (x ∷ []) xs) rest)
actions n (action.Rest task ticks ∷ xs) s all few writers =
    let x = action.Rest task ticks in
    let good : IsGood (line.Rest task ticks) s = record {
      known = to_off (length s.tasks) task all.0.0;
      once = refl;
      range = no_count_off ticks all.0.1;
      limit = to_off 65536 (length s.actions) (omega arith);
    } in
    let u : Sofar = record s { actions = s.actions ++ x ∷ [] } in
    let rest = actions (n + 1) xs u all.1 (omega (arith, length-append s.actions (x ∷ []))) writers in
    (u, passes (line.Rest task ticks) s good, subst (λ (ys : List Action). Accepts (numbered action_line (n + 1) xs) u (record s { actions = ys; writers = writers_after s.writers s.inodes xs })) (append_assoc s.actions (x ∷ []) xs) rest)

-- an order line is taken
order_good : (n : ℕ) (x : Order) (s : Sofar) → is_none s.cpus ≡ false → IsOrder (unwrap_or s.cpus 0) x → length s.order < 65536 → IsGood (order_line n x) s
order_good n (order.Steps cpu steps) s given is few = record {
  known = given;
  once = refl;
  range = both_off (nat_le (unwrap_or s.cpus 0) cpu) (is_no_count steps) (to_off (unwrap_or s.cpus 0) cpu is.0) (no_count_off steps is.1);
  limit = to_off 65536 (length s.order) few;
}
order_good n (order.Timer steps) s given is few = record { known = refl; once = refl; range = no_count_off steps is; limit = to_off 65536 (length s.order) few }
order_good n (order.Tick ticks) s given is few = record { known = refl; once = refl; range = no_count_off ticks is; limit = to_off 65536 (length s.order) few }

order_after : (n : ℕ) (x : Order) (s : Sofar) → after (order_line n x) s ≡ record s { order = s.order ++ x ∷ [] }
order_after n (order.Steps cpu steps) s = refl
order_after n (order.Timer steps) s = refl
order_after n (order.Tick ticks) s = refl

pub orders : (n : ℕ) (xs : List Order) (s : Sofar) → is_none s.cpus ≡ false → AllByRecursion (IsOrder (unwrap_or s.cpus 0)) xs → length s.order + length xs ≤ 65536 → Accepts (numbered order_line n xs) s (record s { order = s.order ++ xs })
orders n [] s given all few = λ i. record s { order = sym (append-nil s.order) i }
orders n (x ∷ xs) s given all few =
    let u : Sofar = record s { order = s.order ++ x ∷ [] } in
    let rest = orders (n + 1) xs u given all.1 (omega (arith, length-append s.order (x ∷ []))) in
    (u, passes (order_line n x) s (order_good n x s given all.0 (omega arith)) ∙ ap (λ (t : Sofar). Ok t) (order_after n x s), subst (λ (ys : List Order). Accepts (numbered order_line (n + 1) xs) u (record s { order = ys })) (append_assoc s.order (x ∷ []) xs) rest)
