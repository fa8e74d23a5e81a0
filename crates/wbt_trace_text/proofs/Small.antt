-- The numbers of a line without a fault have at most 18 digits.
use Rattle.std.proofs.Common.{◌≡◌, ℕ, zero, suc, ◌+◌, ◌^◌, ◌≤◌, false, ◌||◌, ◌==◌, nat_lt, nat_le, List, [], ◌∷◌, length, is_none, unwrap_or, arith}
use Rattle.std.proofs.lemmas.List.Sums.{sum_by-cons}
use Rattle.wbt_text.specs.Numbers.{IsShort, AllShort}
use Rattle.wbt_trace_text.specs.Accept.{is_too_early, is_no_count}
use Rattle.wbt_trace_text.specs.Lines.{numbers_of}
use Rattle.wbt_trace.specs.Sofar.{Sofar, last_from, pages_in, inode_at}
use Rattle.wbt_trace_text.specs.declared.line.Line.{Line}
use Rattle.wbt_trace_text.specs.declared.line.Line.TheVariants as line
use Rattle.wbt_trace.specs.declared.trace.Inode.{Inode}
use Rattle.wbt_trace_text.proofs.Keeping.{IsGood, good_device, chunk_of, expire_of, estimate_of, pace_of}
use Rattle.wbt_trace_text.proofs.Kept.{IsKept, cpus_most}
use Rattle.wbt_trace_text.proofs.Tests.{left_off, right_off, not_below, not_to}

pub inode_least : (i : ℕ) (inodes : List Inode) → (inode_at i inodes).pages ≤ pages_in inodes
inode_least i [] = omega arith
inode_least zero (y ∷ ys) = omega (arith, sum_by-cons (λ (x : Inode). x.pages) y ys)
inode_least (suc i) (y ∷ ys) = omega (arith, sum_by-cons (λ (x : Inode). x.pages) y ys, inode_least i ys)

small_count : (n : ℕ) → is_no_count n ≡ false → IsShort n
small_count n is = omega (arith, not_below (10 ^ 12) n (right_off (n == 0) (nat_lt (10 ^ 12) n) is))

pub small : (l : Line) (s : Sofar) → IsKept s → IsGood l s → AllShort (numbers_of l)
small (line.Cpus n) s kept good = (omega (arith, not_below 64 n (right_off (n == 0) (nat_lt 64 n) good.range)), tt)
small (line.Cap n) s kept good = (omega (arith, not_below 1024 n (right_off (n == 0) (nat_lt 1024 n) good.range)), tt)
small (line.DirtyRatio n) s kept good = (omega (arith, not_below 100 n good.range), tt)
small (line.BackgroundRatio n) s kept good = (omega (arith, not_below 100 n good.range), tt)
small (line.DirtyBytes n) s kept good = (omega (arith, not_below (2 ^ 48) n good.range), tt)
small (line.BackgroundBytes n) s kept good = (omega (arith, not_below (2 ^ 48) n good.range), tt)
small (line.Avail from pages) s kept good =
    let a = is_too_early from (last_from s.avail) in
    let b = nat_lt (10 ^ 12) from in
    let c = nat_lt (2 ^ 40) pages in
    (omega (arith, not_below (10 ^ 12) from (right_off a b (left_off (a || b) c good.range))), (omega (arith, not_below (2 ^ 40) pages (right_off (a || b) c good.range)), tt))
small (line.Device d rate min max) s kept good =
    let g = good_device s d rate min max good.range in
    (omega (arith, g.number, kept.devices.few), (omega (arith, g.rate_most), (omega (arith, g.shares, g.most), (omega (arith, g.most), tt))))
small (line.Strict d) s kept good = (omega (arith, not_to (length s.devices) d good.known, kept.devices.few), tt)
small (line.Chunk d pages) s kept good = (omega (arith, not_to (length s.devices) d good.known, kept.devices.few), (omega (arith, (chunk_of pages good.range).1), tt))
small (line.Cyclic d) s kept good = (omega (arith, not_to (length s.devices) d good.known, kept.devices.few), tt)
small (line.Cgroup g filepages headroom) s kept good =
    let a = nat_lt (length s.cgroups + 1) g in
    let b = nat_lt (2 ^ 40) filepages in
    let c = nat_lt (2 ^ 40) headroom in
    let ab = left_off (a || b) c good.range in (omega (arith, not_below (length s.cgroups + 1) g (left_off a b ab), kept.few_cgroups), (omega (arith, not_below (2 ^ 40) filepages (right_off a b ab)), (omega (arith, not_below (2 ^ 40) headroom (right_off (a || b) c good.range)), tt)))
small (line.Context w device domain) s kept good =
    let a = nat_le (length s.devices) device in
    let b = nat_lt (length s.cgroups) domain in (omega (arith, not_below (length s.contexts) w good.range, kept.few_contexts), (omega (arith, not_to (length s.devices) device (left_off a b good.known), kept.devices.few), (omega (arith, not_below (length s.cgroups) domain (right_off a b good.known), kept.few_cgroups), tt)))
small (line.Expire w centi) s kept good = (omega (arith, not_to (length s.contexts) w good.known, kept.few_contexts), (omega (arith, (expire_of centi good.range).1), tt))
small (line.Estimate w bandwidth average ratelimit) s kept good =
    let first = estimate_of bandwidth average ratelimit good.range in
    (omega (arith, not_to (length s.contexts) w good.known, kept.few_contexts), (omega (arith, first.bandwidth.1), (omega (arith, first.average.1), (omega (arith, first.ratelimit.1), tt))))
small (line.Inode i context pages) s kept good =
    let a = nat_lt (length s.inodes) i in
    let b = pages == 0 in
    let c = nat_lt 2097152 pages in (omega (arith, not_below (length s.inodes) i (left_off a b (left_off (a || b) c good.range)), kept.inodes.few), (omega (arith, not_to (length s.contexts) context good.known, kept.few_contexts), (omega (arith, not_below 2097152 pages (right_off (a || b) c good.range)), tt)))
small (line.Task t cpu) s kept good =
    let a = nat_lt (length s.tasks) t in
    let b = nat_le (unwrap_or s.cpus 0) cpu in (omega (arith, not_below (length s.tasks) t (left_off a b good.range), kept.few_tasks), (omega (arith, not_to (unwrap_or s.cpus 0) cpu (right_off a b good.range), cpus_most s.cpus kept.cpus), tt))
small (line.Pace t pages ticks) s kept good =
    let pace = pace_of pages ticks good.range in
    (omega (arith, not_to (length s.tasks) t good.known, kept.few_tasks), (omega (arith, pace.pages.1), (omega (arith, pace.ticks.1), tt)))
small (line.Flusher f device cpu) s kept good =
    let a = nat_lt (length s.flushers) f in
    let b = nat_le (unwrap_or s.cpus 0) cpu in (omega (arith, not_below (length s.flushers) f (left_off a b good.range), kept.few_flushers), (omega (arith, not_to (length s.devices) device (right_off (is_none s.cpus) (nat_le (length s.devices) device) good.known), kept.devices.few), (omega (arith, not_to (unwrap_or s.cpus 0) cpu (right_off a b good.range), cpus_most s.cpus kept.cpus), tt)))
small (line.Write task inode from pages) s kept good =
    let a = nat_le (length s.tasks) task in
    let b = nat_le (length s.inodes) inode in
    let within = not_below (inode_at inode s.inodes).pages (from + pages) (right_off (pages == 0) (nat_lt (inode_at inode s.inodes).pages (from + pages)) good.range) in (omega (arith, not_to (length s.tasks) task (left_off a b good.known), kept.few_tasks), (omega (arith, not_to (length s.inodes) inode (right_off a b good.known), kept.inodes.few), (omega (arith, within, inode_least inode s.inodes, kept.inodes.total), (omega (arith, within, inode_least inode s.inodes, kept.inodes.total), tt))))
small (line.Rest task ticks) s kept good = (omega (arith, not_to (length s.tasks) task good.known, kept.few_tasks), (small_count ticks good.range, tt))
small (line.Order cpu steps) s kept good =
    let a = nat_le (unwrap_or s.cpus 0) cpu in
    (omega (arith, not_to (unwrap_or s.cpus 0) cpu (left_off a (is_no_count steps) good.range), cpus_most s.cpus kept.cpus), (small_count steps (right_off a (is_no_count steps) good.range), tt))
small (line.OrderTimer n) s kept good = (small_count n good.range, tt)
small (line.Tick n) s kept good = (small_count n good.range, tt)
small (line.Halt n) s kept good = (omega (arith, not_below (10 ^ 12) n good.range), tt)
