-- A line that is taken keeps each part of the trace so far lawful.
use Rattle.std.proofs.Common.{◌≡◌, ℕ, zero, suc, ◌+◌, ◌^◌, ◌<◌, ◌≤◌, true, false, ◌||◌, ◌==◌, nat_lt, nat_le, List, [], ◌∷◌, ◌++◌, length, get_or, Option, Some, None, is_none, unwrap_or, IfSome, refl, sym, ◌∙◌, ap, subst, arith, length-append}
use Rattle.std.specs.List.{All, AllByRecursion}
use Rattle.std.proofs.lemmas.List.Elements.{All-append, All-cons, All-nil, All-set, recursion_from_All}
use Rattle.std.proofs.lemmas.List.Sums.{sum_by-append, sum_by-cons}
use Rattle.wbt_trace_text.specs.Accept.{is_unknown, is_twice, is_out_of_range, is_over_limit, is_too_early, is_no_count, is_no_rate, after}
use Rattle.wbt_trace.specs.Lawful.{AreSettings, IsNext, AreAvails, IsDevice, AreDevices, IsCgroup, IsContext, IsInode, AreFirsts, AreInodes, IsTask, IsPace, HasPace, IsFlusher, IsCount, IsAction, writers_after, writers_of, IsOrder, IsExpire, IsChunk, IsFirstRate, IsFirstEstimate}
use Rattle.wbt_trace.specs.Sofar.{Sofar, trace_so_far, last_from, least_shares, device_at, task_at, context_at, pages_in, inode_at}
use Rattle.wbt_trace.specs.WriterList.{with_writer}
use Rattle.wbt_trace_text.specs.declared.line.Line.{Line}
use Rattle.wbt_trace_text.specs.declared.line.Line.TheVariants as line
use Rattle.wbt_trace.specs.declared.trace.Action.{Action}
use Rattle.wbt_trace.specs.declared.trace.Action.TheVariants as action
use Rattle.wbt_trace.specs.declared.trace.Avail.{Avail}
use Rattle.wbt_trace.specs.declared.trace.Device.{Device}
use Rattle.wbt_trace.specs.declared.trace.FirstEstimate.{FirstEstimate}
use Rattle.wbt_trace.specs.declared.trace.Inode.{Inode}
use Rattle.wbt_trace.specs.declared.trace.Order.{Order}
use Rattle.wbt_trace.specs.declared.trace.Order.TheVariants as order
use Rattle.wbt_trace.specs.declared.trace.Pace.{Pace}
use Rattle.wbt_trace.specs.declared.writers.Writer.{Writer}
use Rattle.wbt_trace_text.proofs.Contexts.{same_length as as_many, estimate_length}
use Rattle.wbt_trace_text.proofs.Devices.{same_shares, same_length, chunk_shares, chunk_length, cyclic_shares, cyclic_length}
use Rattle.wbt_trace_text.proofs.Tasks.{pace_length}
use Rattle.wbt_trace_text.proofs.Tests.{left_off, right_off, not_below, not_to, not_none, not_given}

-- The line has no fault.
pub record IsGood (l : Line) (s : Sofar) : Type 0 where
  pub known : is_unknown l s ≡ false
  pub once : is_twice l s ≡ false
  pub range : is_out_of_range l s ≡ false
  pub limit : is_over_limit l s ≡ false

push : {T : Type 0} (P : T → Type 0) (xs : List T) (x : T) → All P xs → P x → All P (xs ++ x ∷ [])
push {T} P xs x all is = All-append P xs (x ∷ []) all (All-cons P x [] is (All-nil P))

one_more : {T : Type 0} (n : ℕ) (xs : List T) (x : T) → nat_le n (length xs) ≡ false → length (xs ++ x ∷ []) ≤ n
one_more {T} n xs x is = omega (arith, length-append xs (x ∷ []), not_to n (length xs) is)

abbrev pub IsCpus : Option ℕ → Type 0
IsCpus cpus = IfSome cpus (λ c. (1 ≤ c) × (c ≤ 64))

pub keeps_cpus : (l : Line) (s : Sofar) → IsGood l s → IsCpus s.cpus → IsCpus (after l s).cpus
keeps_cpus (line.Cpus c) s good is = (not_none c (left_off (c == 0) (nat_lt 64 c) good.range), not_below 64 c (right_off (c == 0) (nat_lt 64 c) good.range))
keeps_cpus other s good is = is

abbrev pub IsCap : ℕ → Type 0
IsCap cap = (1 ≤ cap) × (cap ≤ 1024)

pub keeps_cap : (l : Line) (s : Sofar) → IsGood l s → IsCap (unwrap_or s.cap 1024) → IsCap (unwrap_or (after l s).cap 1024)
keeps_cap (line.Cap c) s good is = (not_none c (left_off (c == 0) (nat_lt 1024 c) good.range), not_below 1024 c (right_off (c == 0) (nat_lt 1024 c) good.range))
keeps_cap other s good is = is

pub keeps_settings : (l : Line) (s : Sofar) → IsGood l s → AreSettings (trace_so_far s).settings → AreSettings (trace_so_far (after l s)).settings
keeps_settings (line.DirtyRatio p) s good is = record { ratio = not_below 100 p good.range; bg_ratio = is.bg_ratio; bytes = is.bytes; bg_bytes = is.bg_bytes }
keeps_settings (line.BackgroundRatio p) s good is = record { ratio = is.ratio; bg_ratio = not_below 100 p good.range; bytes = is.bytes; bg_bytes = is.bg_bytes }
keeps_settings (line.DirtyBytes b) s good is = record { ratio = is.ratio; bg_ratio = is.bg_ratio; bytes = not_below (2 ^ 48) b good.range; bg_bytes = is.bg_bytes }
keeps_settings (line.BackgroundBytes b) s good is = record { ratio = is.ratio; bg_ratio = is.bg_ratio; bytes = is.bytes; bg_bytes = not_below (2 ^ 48) b good.range }
keeps_settings other s good is = is

-- the tick of the last line, where one came before
abbrev last_after : Option ℕ → List Avail → Option ℕ
last_after last [] = last
last_after last (a ∷ more) = last_after (Some a.from) more

last_is : (last : Option ℕ) (a : Avail) (more : List Avail) → last_after last (a ∷ more) ≡ last_from (a ∷ more)
last_is last a [] = refl
last_is last a (b ∷ more) = last_is (Some a.from) b more

last_of : (lines : List Avail) → last_after None lines ≡ last_from lines
last_of [] = refl
last_of (a ∷ more) = last_is None a more

avails_push : (last : Option ℕ) (lines : List Avail) (a : Avail) → AreAvails last lines → IsNext (last_after last lines) a.from → a.from ≤ 10 ^ 12 → a.pages ≤ 2 ^ 40 → AreAvails last (lines ++ a ∷ [])
avails_push last [] a are next from pages = (next, from, pages, tt)
avails_push last (b ∷ more) a are next from pages = (are.0, are.1, are.2, avails_push (Some b.from) more a are.3 next from pages)

next_of : (last : Option ℕ) (tick : ℕ) → is_too_early tick last ≡ false → IsNext last tick
next_of None tick is = omega (arith, not_below 0 tick is)
next_of (Some before) tick is = not_to tick before is

pub keeps_avail : (l : Line) (s : Sofar) → IsGood l s → AreAvails None s.avail → AreAvails None (after l s).avail
keeps_avail (line.Avail from pages) s good are =
    let front = left_off (is_too_early from (last_from s.avail) || nat_lt (10 ^ 12) from) (nat_lt (2 ^ 40) pages) good.range in
    let early = left_off (is_too_early from (last_from s.avail)) (nat_lt (10 ^ 12) from) front in
    let next : IsNext (last_after None s.avail) from = subst (λ (o : Option ℕ). IsNext o from) (sym (last_of s.avail)) (next_of (last_from s.avail) from early) in
    avails_push None s.avail (record { from = from; pages = pages }) are next (not_below (10 ^ 12) from (right_off (is_too_early from (last_from s.avail)) (nat_lt (10 ^ 12) from) front)) (not_below (2 ^ 40) pages (right_off (is_too_early from (last_from s.avail) || nat_lt (10 ^ 12) from) (nat_lt (2 ^ 40) pages) good.range))
keeps_avail other s good are = are

pub keeps_few_avail : (l : Line) (s : Sofar) → IsGood l s → length s.avail ≤ 256 → length (after l s).avail ≤ 256
keeps_few_avail (line.Avail from pages) s good few = one_more 256 s.avail (record { from = from; pages = pages }) good.limit
keeps_few_avail other s good few = few

-- what a device's line without a fault says
pub record GoodDevice (s : Sofar) (d rate min max : ℕ) : Type 0 where
  pub number : d ≤ length s.devices
  pub some : 1 ≤ rate
  pub rate_most : rate ≤ 2 ^ 20
  pub shares : min ≤ max
  pub most : max ≤ 100
  pub together : least_shares s.devices + min ≤ 100

pub good_device : (s : Sofar) (d rate min max : ℕ) → is_out_of_range (line.Device d rate min max) s ≡ false → GoodDevice s d rate min max
good_device s d rate min max is =
    let a = nat_lt (length s.devices) d in
    let b = rate == 0 in
    let c = nat_lt (2 ^ 20) rate in
    let e = nat_lt max min in
    let f = nat_lt 100 max in
    let g = nat_lt 100 (least_shares s.devices + min) in
    let to_f = left_off ((((a || b) || c) || e) || f) g is in
    let to_e = left_off (((a || b) || c) || e) f to_f in
    let to_c = left_off ((a || b) || c) e to_e in
    let to_b = left_off (a || b) c to_c in
    record {
      number = not_below (length s.devices) d (left_off a b to_b);
      some = not_none rate (right_off a b to_b);
      rate_most = not_below (2 ^ 20) rate (right_off (a || b) c to_c);
      shares = not_below max min (right_off ((a || b) || c) e to_e);
      most = not_below 100 max (right_off (((a || b) || c) || e) f to_f);
      together = not_below 100 (least_shares s.devices + min) (right_off ((((a || b) || c) || e) || f) g is);
    }

pub chunk_of : (pages : ℕ) → (pages == 0 || nat_lt 2097152 pages) ≡ false → IsChunk pages
chunk_of pages is = (not_none pages (left_off (pages == 0) (nat_lt 2097152 pages) is), not_below 2097152 pages (right_off (pages == 0) (nat_lt 2097152 pages) is))

pub keeps_devices : (l : Line) (s : Sofar) → IsGood l s → AreDevices s.devices → AreDevices (after l s).devices
keeps_devices (line.Device d rate min max) s good are =
    let g = good_device s d rate min max good.range in
    let device : Device = record { rate = rate; min = min; max = max; strict = false; chunk = None; cyclic = false } in
    record {
      each = push IsDevice s.devices device are.each (record { rate = (g.some, g.rate_most); shares = (g.shares, g.most); chunk = tt });
      shares = omega (arith, sum_by-append (λ (x : Device). x.min) s.devices (device ∷ []), g.together);
      few = one_more 16 s.devices device good.limit;
    }
keeps_devices (line.Strict d) s good are =
    let is = are.each d (record { rate = 0; min = 0; max = 0; strict = false; chunk = None; cyclic = false }) (not_to (length s.devices) d good.known) in
    record {
      each = All-set IsDevice s.devices d (record (device_at d s.devices) { strict = true }) (record { rate = is.rate; shares = is.shares; chunk = is.chunk }) are.each;
      shares = omega (arith, are.shares, same_shares d s.devices);
      few = omega (arith, are.few, same_length d s.devices);
    }
keeps_devices (line.Chunk d pages) s good are =
    let is = are.each d (record { rate = 0; min = 0; max = 0; strict = false; chunk = None; cyclic = false }) (not_to (length s.devices) d good.known) in
    record {
      each = All-set IsDevice s.devices d (record (device_at d s.devices) { chunk = Some pages }) (record { rate = is.rate; shares = is.shares; chunk = chunk_of pages good.range }) are.each;
      shares = omega (arith, are.shares, chunk_shares d pages s.devices);
      few = omega (arith, are.few, chunk_length d pages s.devices);
    }
keeps_devices (line.Cyclic d) s good are =
    let is = are.each d (record { rate = 0; min = 0; max = 0; strict = false; chunk = None; cyclic = false }) (not_to (length s.devices) d good.known) in
    record {
      each = All-set IsDevice s.devices d (record (device_at d s.devices) { cyclic = true }) (record { rate = is.rate; shares = is.shares; chunk = is.chunk }) are.each;
      shares = omega (arith, are.shares, cyclic_shares d s.devices);
      few = omega (arith, are.few, cyclic_length d s.devices);
    }
keeps_devices other s good are = are

pub keeps_cgroups : (l : Line) (s : Sofar) → IsGood l s → All IsCgroup s.cgroups → All IsCgroup (after l s).cgroups
keeps_cgroups (line.Cgroup g filepages headroom) s good all =
    let a = nat_lt (length s.cgroups + 1) g in
    let b = nat_lt (2 ^ 40) filepages in
    let c = nat_lt (2 ^ 40) headroom in
    push IsCgroup s.cgroups (record { filepages = filepages; headroom = headroom }) all (not_below (2 ^ 40) filepages (right_off a b (left_off (a || b) c good.range)), not_below (2 ^ 40) headroom (right_off (a || b) c good.range))
keeps_cgroups other s good all = all

pub keeps_few_cgroups : (l : Line) (s : Sofar) → IsGood l s → length s.cgroups ≤ 8 → length (after l s).cgroups ≤ 8
keeps_few_cgroups (line.Cgroup g filepages headroom) s good few = one_more 8 s.cgroups (record { filepages = filepages; headroom = headroom }) good.limit
keeps_few_cgroups other s good few = few

pub expire_of : (centi : ℕ) → (centi == 0 || nat_lt 100000 centi) ≡ false → IsExpire centi
expire_of centi is = (not_none centi (left_off (centi == 0) (nat_lt 100000 centi) is), not_below 100000 centi (right_off (centi == 0) (nat_lt 100000 centi) is))

rate_of : (rate : ℕ) → is_no_rate rate ≡ false → IsFirstRate rate
rate_of rate is = (not_none rate (left_off (rate == 0) (nat_lt (2 ^ 40) rate) is), not_below (2 ^ 40) rate (right_off (rate == 0) (nat_lt (2 ^ 40) rate) is))

pub estimate_of : (bandwidth average ratelimit : ℕ) → (is_no_rate bandwidth || is_no_rate average || is_no_rate ratelimit) ≡ false
    → IsFirstEstimate (record { bandwidth = bandwidth; average = average; ratelimit = ratelimit })
estimate_of bandwidth average ratelimit is =
    let a = is_no_rate bandwidth in
    let b = is_no_rate average in
    let c = is_no_rate ratelimit in
    let ab = left_off (a || b) c is in
    record { bandwidth = rate_of bandwidth (left_off a b ab); average = rate_of average (right_off a b ab); ratelimit = rate_of ratelimit (right_off (a || b) c is) }

pub keeps_contexts : (l : Line) (s : Sofar) → IsGood l s → All (IsContext (length s.devices) (length s.cgroups)) s.contexts → All (IsContext (length (after l s).devices) (length (after l s).cgroups)) (after l s).contexts
keeps_contexts (line.Device d rate min max) s good all =
    λ k x less. let is = all k x less in (omega (arith, is.0, length-append s.devices ((record { rate = rate; min = min; max = max; strict = false; chunk = None; cyclic = false }) ∷ [])), is.1, is.2, is.3)
keeps_contexts (line.Strict d) s good all = λ k x less. let is = all k x less in (omega (arith, is.0, same_length d s.devices), is.1, is.2, is.3)
keeps_contexts (line.Chunk d pages) s good all = λ k x less. let is = all k x less in (omega (arith, is.0, chunk_length d pages s.devices), is.1, is.2, is.3)
keeps_contexts (line.Cyclic d) s good all = λ k x less. let is = all k x less in (omega (arith, is.0, cyclic_length d s.devices), is.1, is.2, is.3)
keeps_contexts (line.Cgroup g filepages headroom) s good all =
    λ k x less. let is = all k x less in (is.0, omega (arith, is.1, length-append s.cgroups ((record { filepages = filepages; headroom = headroom }) ∷ [])), is.2, is.3)
keeps_contexts (line.Context w device domain) s good all =
    let a = nat_le (length s.devices) device in
    let b = nat_lt (length s.cgroups) domain in
    push (IsContext (length s.devices) (length s.cgroups)) s.contexts (record { device = device; domain = domain; expire = None; estimate = None }) all (not_to (length s.devices) device (left_off a b good.known), not_below (length s.cgroups) domain (right_off a b good.known), tt, tt)
keeps_contexts (line.Expire w centi) s good all =
    let is = all w (record { device = 0; domain = 0; expire = None; estimate = None }) (not_to (length s.contexts) w good.known) in
    All-set (IsContext (length s.devices) (length s.cgroups)) s.contexts w (record (context_at w s.contexts) { expire = Some centi }) (is.0, is.1, expire_of centi good.range, is.3) all
keeps_contexts (line.Estimate w bandwidth average ratelimit) s good all =
    let is = all w (record { device = 0; domain = 0; expire = None; estimate = None }) (not_to (length s.contexts) w good.known) in
    let first : FirstEstimate = record { bandwidth = bandwidth; average = average; ratelimit = ratelimit } in
    All-set (IsContext (length s.devices) (length s.cgroups)) s.contexts w (record (context_at w s.contexts) { estimate = Some first }) (is.0, is.1, is.2, estimate_of bandwidth average ratelimit good.range) all
keeps_contexts other s good all = all

pub keeps_few_contexts : (l : Line) (s : Sofar) → IsGood l s → length s.contexts ≤ 64 → length (after l s).contexts ≤ 64
keeps_few_contexts (line.Context w device domain) s good few = one_more 64 s.contexts (record { device = device; domain = domain; expire = None; estimate = None }) good.limit
keeps_few_contexts (line.Expire w centi) s good few = omega (arith, few, as_many w centi s.contexts)
keeps_few_contexts (line.Estimate w bandwidth average ratelimit) s good few =
    omega (arith, few, estimate_length w (record { bandwidth = bandwidth; average = average; ratelimit = ratelimit }) s.contexts)
keeps_few_contexts other s good few = few

firsts_push : (n : ℕ) (inodes : List Inode) (x : Inode) → AreFirsts n inodes → x.first ≡ n + pages_in inodes → AreFirsts n (inodes ++ x ∷ [])
firsts_push n [] x are is = (omega (arith, is), tt)
firsts_push n (i ∷ is) x are first = (are.0, firsts_push (n + i.pages) is x are.1 (omega (arith, first, sum_by-cons (λ (y : Inode). y.pages) i is)))

pub keeps_inodes : (l : Line) (s : Sofar) → IsGood l s → AreInodes (length s.contexts) s.inodes → AreInodes (length (after l s).contexts) (after l s).inodes
keeps_inodes (line.Context w device domain) s good are = record {
  each = λ k x less. let is = are.each k x less in (omega (arith, is.0, length-append s.contexts ((record { device = device; domain = domain; expire = None; estimate = None }) ∷ [])), is.1);
  firsts = are.firsts;
  total = are.total;
  few = are.few;
}
keeps_inodes (line.Expire w centi) s good are = record {
  each = λ k x less. let is = are.each k x less in (omega (arith, is.0, as_many w centi s.contexts), is.1);
  firsts = are.firsts;
  total = are.total;
  few = are.few;
}
keeps_inodes (line.Estimate w bandwidth average ratelimit) s good are = record {
  each = λ k x less. let is = are.each k x less in (omega (arith, is.0, estimate_length w (record { bandwidth = bandwidth; average = average; ratelimit = ratelimit }) s.contexts), is.1);
  firsts = are.firsts;
  total = are.total;
  few = are.few;
}
keeps_inodes (line.Inode i context pages) s good are =
    let inode : Inode = record { context = context; first = pages_in s.inodes; pages = pages } in
    let a = nat_lt (length s.inodes) i in
    let b = pages == 0 in
    let c = nat_lt 2097152 pages in
    let few = nat_le 4096 (length s.inodes) in
    let total = nat_lt 2097152 (pages_in s.inodes + pages) in
    record {
      each = push (IsInode (length s.contexts)) s.inodes inode are.each (not_to (length s.contexts) context good.known, not_none pages (right_off a b (left_off (a || b) c good.range)));
      firsts = firsts_push 0 s.inodes inode are.firsts (omega arith);
      total = omega (arith, sum_by-append (λ (x : Inode). x.pages) s.inodes (inode ∷ []), not_below 2097152 (pages_in s.inodes + pages) (right_off few total good.limit));
      few = one_more 4096 s.inodes inode (left_off few total good.limit);
    }
keeps_inodes other s good are = are

count_of : (n : ℕ) → is_no_count n ≡ false → IsCount n
count_of n is = (not_none n (left_off (n == 0) (nat_lt (10 ^ 12) n) is), not_below (10 ^ 12) n (right_off (n == 0) (nat_lt (10 ^ 12) n) is))

pub pace_of : (pages ticks : ℕ) → (pages == 0 || nat_lt 2097152 pages || is_no_count ticks) ≡ false → IsPace (record { pages = pages; ticks = ticks })
pace_of pages ticks is =
    let a = pages == 0 in
    let b = nat_lt 2097152 pages in
    record { pages = chunk_of pages (left_off (a || b) (is_no_count ticks) is); ticks = count_of ticks (right_off (a || b) (is_no_count ticks) is) }

pub keeps_paces : (l : Line) (s : Sofar) → IsGood l s → All HasPace s.tasks → All HasPace (after l s).tasks
keeps_paces (line.Task t cpu) s good all = push HasPace s.tasks (record { cpu = cpu; pace = None }) all tt
keeps_paces (line.Pace t pages ticks) s good all =
    let pace : Pace = record { pages = pages; ticks = ticks } in
    All-set HasPace s.tasks t (record (task_at t s.tasks) { pace = Some pace }) (pace_of pages ticks good.range) all
keeps_paces other s good all = all

pub keeps_tasks : (l : Line) (s : Sofar) → IsGood l s → All (IsTask (unwrap_or s.cpus 0)) s.tasks → All (IsTask (unwrap_or (after l s).cpus 0)) (after l s).tasks
keeps_tasks (line.Cpus cpus) s good all = λ k x less. omega (arith, all k x less, not_given s.cpus good.once)
keeps_tasks (line.Task t cpu) s good all =
    push (IsTask (unwrap_or s.cpus 0)) s.tasks (record { cpu = cpu; pace = None }) all (not_to (unwrap_or s.cpus 0) cpu (right_off (nat_lt (length s.tasks) t) (nat_le (unwrap_or s.cpus 0) cpu) good.range))
keeps_tasks (line.Pace t pages ticks) s good all =
    let is = all t (record { cpu = 0; pace = None }) (not_to (length s.tasks) t good.known) in
    All-set (IsTask (unwrap_or s.cpus 0)) s.tasks t (record (task_at t s.tasks) { pace = Some (record { pages = pages; ticks = ticks }) }) is all
keeps_tasks other s good all = all

pub keeps_few_tasks : (l : Line) (s : Sofar) → IsGood l s → length s.tasks ≤ 256 → length (after l s).tasks ≤ 256
keeps_few_tasks (line.Task t cpu) s good few = one_more 256 s.tasks (record { cpu = cpu; pace = None }) good.limit
keeps_few_tasks (line.Pace t pages ticks) s good few = omega (arith, few, pace_length t (record { pages = pages; ticks = ticks }) s.tasks)
keeps_few_tasks other s good few = few

pub keeps_flushers : (l : Line) (s : Sofar) → IsGood l s → All (IsFlusher (length s.devices) (unwrap_or s.cpus 0)) s.flushers → All (IsFlusher (length (after l s).devices) (unwrap_or (after l s).cpus 0)) (after l s).flushers
keeps_flushers (line.Cpus cpus) s good all = λ k x less. let is = all k x less in (is.0, omega (arith, is.1, not_given s.cpus good.once))
keeps_flushers (line.Device d rate min max) s good all =
    λ k x less. let is = all k x less in (omega (arith, is.0, length-append s.devices ((record { rate = rate; min = min; max = max; strict = false; chunk = None; cyclic = false }) ∷ [])), is.1)
keeps_flushers (line.Strict d) s good all = λ k x less. let is = all k x less in (omega (arith, is.0, same_length d s.devices), is.1)
keeps_flushers (line.Chunk d pages) s good all = λ k x less. let is = all k x less in (omega (arith, is.0, chunk_length d pages s.devices), is.1)
keeps_flushers (line.Cyclic d) s good all = λ k x less. let is = all k x less in (omega (arith, is.0, cyclic_length d s.devices), is.1)
keeps_flushers (line.Flusher f device cpu) s good all =
    push (IsFlusher (length s.devices) (unwrap_or s.cpus 0)) s.flushers (record { device = device; cpu = cpu }) all
    (not_to (length s.devices) device (right_off (is_none s.cpus) (nat_le (length s.devices) device) good.known), not_to (unwrap_or s.cpus 0) cpu (right_off (nat_lt (length s.flushers) f) (nat_le (unwrap_or s.cpus 0) cpu) good.range))
keeps_flushers other s good all = all

pub keeps_few_flushers : (l : Line) (s : Sofar) → IsGood l s → length s.flushers ≤ 64 → length (after l s).flushers ≤ 64
keeps_few_flushers (line.Flusher f device cpu) s good few = one_more 64 s.flushers (record { device = device; cpu = cpu }) good.limit
keeps_few_flushers other s good few = few

-- an inode stays where it is
pub same_inode : (i : ℕ) (inodes : List Inode) (x : Inode) → i < length inodes → inode_at i (inodes ++ x ∷ []) ≡ inode_at i inodes
same_inode i [] x less = absurd (omega arith)
same_inode zero (y ∷ ys) x less = refl
same_inode (suc i) (y ∷ ys) x less = same_inode i ys x (omega arith)

one_more_task : (n : ℕ) (inodes : List Inode) (a : Action) → IsAction n inodes a → IsAction (n + 1) inodes a
one_more_task n inodes (action.Write task inode from pages) is = (omega (arith, is.0), is.1, is.2, is.3)
one_more_task n inodes (action.Rest task ticks) is = (omega (arith, is.0), is.1)

one_more_inode : (n : ℕ) (inodes : List Inode) (x : Inode) (a : Action) → IsAction n inodes a → IsAction n (inodes ++ x ∷ []) a
one_more_inode n inodes x (action.Write task inode from pages) is = (
  is.0,
  omega (arith, is.1, length-append inodes (x ∷ [])),
  is.2,
  omega (arith, is.3, ap (λ (y : Inode). y.pages) (same_inode inode inodes x is.1)),
)
one_more_inode n inodes x (action.Rest task ticks) is = is

pub keeps_actions : (l : Line) (s : Sofar) → IsGood l s → All (IsAction (length s.tasks) s.inodes) s.actions → All (IsAction (length (after l s).tasks) (after l s).inodes) (after l s).actions
keeps_actions (line.Task t cpu) s good all =
    λ k x less. subst (λ (n : ℕ). IsAction n s.inodes (get_or s.actions k x)) (sym (length-append s.tasks ((record { cpu = cpu; pace = None }) ∷ []))) (one_more_task (length s.tasks) s.inodes (get_or s.actions k x) (all k x less))
keeps_actions (line.Pace t pages ticks) s good all =
    subst (λ (n : ℕ). All (IsAction n s.inodes) s.actions) (sym (pace_length t (record { pages = pages; ticks = ticks }) s.tasks)) all
keeps_actions (line.Inode i context pages) s good all =
    λ k x less. one_more_inode (length s.tasks) s.inodes (record { context = context; first = pages_in s.inodes; pages = pages }) (get_or s.actions k x) (all k x less)
keeps_actions (line.Write task inode from pages) s good all =
    let a = nat_le (length s.tasks) task in
    let b = nat_le (length s.inodes) inode in
    let c = pages == 0 in
    let d = nat_lt (inode_at inode s.inodes).pages (from + pages) in
    push (IsAction (length s.tasks) s.inodes) s.actions (action.Write task inode from pages) all (
      not_to (length s.tasks) task (left_off a b good.known),
      not_to (length s.inodes) inode (right_off a b good.known),
      not_none pages (left_off c d good.range),
      not_below (inode_at inode s.inodes).pages (from + pages) (right_off c d good.range),
    )
keeps_actions (line.Rest task ticks) s good all =
    push (IsAction (length s.tasks) s.inodes) s.actions (action.Rest task ticks) all (not_to (length s.tasks) task good.known, count_of ticks good.range)
keeps_actions other s good all = all

pub keeps_few_actions : (l : Line) (s : Sofar) → IsGood l s → length s.actions ≤ 65536 → length (after l s).actions ≤ 65536
keeps_few_actions (line.Write task inode from pages) s good few =
    one_more 65536 s.actions (action.Write task inode from pages) (left_off (nat_le 65536 (length s.actions)) (nat_lt 1024 (length (with_writer task (inode_at inode s.inodes).context s.writers))) good.limit)
keeps_few_actions (line.Rest task ticks) s good few = one_more 65536 s.actions (action.Rest task ticks) good.limit
keeps_few_actions other s good few = few

-- the writers with those of one action more
writers_push : (ws : List Writer) (inodes : List Inode) (actions : List Action) (a : Action) → writers_after ws inodes (actions ++ a ∷ []) ≡ writers_after (writers_after ws inodes actions) inodes (a ∷ [])
writers_push ws inodes [] a = refl
writers_push ws inodes (action.Write task inode from pages ∷ more) a = writers_push (with_writer task (inode_at inode inodes).context ws) inodes more a
writers_push ws inodes (action.Rest task ticks ∷ more) a = writers_push ws inodes more a

-- an inode more has no writers
writers_stay : (ws : List Writer) (n : ℕ) (inodes : List Inode) (x : Inode) (actions : List Action) → AllByRecursion (IsAction n inodes) actions → writers_after ws (inodes ++ x ∷ []) actions ≡ writers_after ws inodes actions
writers_stay ws n inodes x [] all = refl
writers_stay ws n inodes x (action.Write task inode from pages ∷ more) all =
    ap (λ (i : Inode). writers_after (with_writer task i.context ws) (inodes ++ x ∷ []) more) (same_inode inode inodes x all.0.1) ∙ writers_stay (with_writer task (inode_at inode inodes).context ws) n inodes x more all.1
writers_stay ws n inodes x (action.Rest task ticks ∷ more) all = writers_stay ws n inodes x more all.1

pub keeps_writers : (l : Line) (s : Sofar) → IsGood l s → All (IsAction (length s.tasks) s.inodes) s.actions → s.writers ≡ writers_of s.inodes s.actions → (after l s).writers ≡ writers_of (after l s).inodes (after l s).actions
keeps_writers (line.Inode i context pages) s good all is =
    is ∙ sym (writers_stay [] (length s.tasks) s.inodes (record { context = context; first = pages_in s.inodes; pages = pages }) s.actions (recursion_from_All (IsAction (length s.tasks) s.inodes) s.actions all))
keeps_writers (line.Write task inode from pages) s good all is =
    ap (λ (ws : List Writer). with_writer task (inode_at inode s.inodes).context ws) is ∙ sym (writers_push [] s.inodes s.actions (action.Write task inode from pages))
keeps_writers (line.Rest task ticks) s good all is = is ∙ sym (writers_push [] s.inodes s.actions (action.Rest task ticks))
keeps_writers other s good all is = is

pub keeps_few_writers : (l : Line) (s : Sofar) → IsGood l s → length s.writers ≤ 1024 → length (after l s).writers ≤ 1024
keeps_few_writers (line.Write task inode from pages) s good few =
    let ws = with_writer task (inode_at inode s.inodes).context s.writers in
    not_below 1024 (length ws) (right_off (nat_le 65536 (length s.actions)) (nat_lt 1024 (length ws)) good.limit)
keeps_few_writers other s good few = few

more_cpus : (n m : ℕ) (o : Order) → n ≤ m → IsOrder n o → IsOrder m o
more_cpus n m (order.Steps cpu steps) le is = (omega (arith, is.0), is.1)
more_cpus n m (order.Timer steps) le is = is
more_cpus n m (order.Tick ticks) le is = is

pub keeps_order : (l : Line) (s : Sofar) → IsGood l s → All (IsOrder (unwrap_or s.cpus 0)) s.order → All (IsOrder (unwrap_or (after l s).cpus 0)) (after l s).order
keeps_order (line.Cpus cpus) s good all = λ k x less. more_cpus (unwrap_or s.cpus 0) cpus (get_or s.order k x) (omega (arith, not_given s.cpus good.once)) (all k x less)
keeps_order (line.Order cpu steps) s good all =
    let a = nat_le (unwrap_or s.cpus 0) cpu in
    push (IsOrder (unwrap_or s.cpus 0)) s.order (order.Steps cpu steps) all (not_to (unwrap_or s.cpus 0) cpu (left_off a (is_no_count steps) good.range), count_of steps (right_off a (is_no_count steps) good.range))
keeps_order (line.OrderTimer steps) s good all = push (IsOrder (unwrap_or s.cpus 0)) s.order (order.Timer steps) all (count_of steps good.range)
keeps_order (line.Tick ticks) s good all = push (IsOrder (unwrap_or s.cpus 0)) s.order (order.Tick ticks) all (count_of ticks good.range)
keeps_order other s good all = all

pub keeps_few_orders : (l : Line) (s : Sofar) → IsGood l s → length s.order ≤ 65536 → length (after l s).order ≤ 65536
keeps_few_orders (line.Order cpu steps) s good few = one_more 65536 s.order (order.Steps cpu steps) good.limit
keeps_few_orders (line.OrderTimer steps) s good few = one_more 65536 s.order (order.Timer steps) good.limit
keeps_few_orders (line.Tick ticks) s good few = one_more 65536 s.order (order.Tick ticks) good.limit
keeps_few_orders other s good few = few

abbrev pub IsHalt : Option ℕ → Type 0
IsHalt halt = IfSome halt (λ steps. steps ≤ 10 ^ 12)

pub keeps_halt : (l : Line) (s : Sofar) → IsGood l s → IsHalt s.halt → IsHalt (after l s).halt
keeps_halt (line.Halt steps) s good is = not_below (10 ^ 12) steps good.range
keeps_halt other s good is = is
