-- By its loads a writer that doesn't wait may be granted pages.
use Rattle.std.proofs.Common.{◌≡◌, ◌≢◌, ℕ, ◌<◌, ◌≤◌, ◌⊎◌, inl, inr, ⊎_elim, true, eqb, eqb-true, Option, Some, None, refl, sym, ap, ◌∙◌, subst}
use Rattle.std.specs.Prelude.{IfSome}
use Rattle.std.proofs.lemmas.Bool.{cases_eq, or_cases}
use Rattle.wbt_counter.specs.Batch.{stat_error}
use Rattle.wbt_writer.proofs.Common.{at_least_zero, Count, MayGrant, Setting, WriterRecord, DomainLine, Decision, Trace, Seats, reads_for, record_in, HasGroupLine, HasLines, IsGroup, LoadedAll, DomainLoad}
use Rattle.wbt_kit.proofs.Common.{Limits}
use Rattle.wbt_counter.specs.Through.{lets_through}
use Rattle.wbt_grant.specs.Bound.{hard_in, is_let_through}
use Rattle.wbt_grant.specs.State.{kept_of}
use Rattle.wbt_grant.specs.declared.record.Kept.{Kept}
use Rattle.wbt_pause.specs.Claims.{MayBeGranted}
use Rattle.wbt_position.specs.declared.ratio.DomainRead.{DomainRead}
use Rattle.wbt_journal.specs.Checks.{cgroup_read}
use Rattle.wbt_writer.specs.Loads.{HasKeptGroup, kept_by, kept_for}
use Rattle.wbt_writer.specs.declared.lines.Lines.{Lines}
use Rattle.wbt_writer.specs.declared.loads.Loads.{Loads}

-- the kept loads of a domain let the writer through where what was read of it does
through : (set : Setting) (x : WriterRecord) (load : DomainLoad) (wb d : ℕ) → d ≡ load.domain → kept_of load.domain x.kept ≡ kept_for load → x.context_reading ≡ Some wb
    → lets_through (stat_error set.cpus) (Some load.limits.hard) (Some (at_least_zero load.count.value)) (Some wb) ≡ true → is_let_through set d x ≡ true
through set x load wb d is kept context lets =
    let at : kept_of d x.kept ≡ kept_for load = ap (λ (e : ℕ). kept_of e x.kept) is ∙ kept in
    ap (λ (z : Kept × Option ℕ). lets_through (stat_error set.cpus) (hard_in z.0.limits) z.0.reading z.1) (λ i. (at i, context i)) ∙ lets

-- what was read of a domain is what its line says, which is what was loaded
lets_by : (cpus cpus' : ℕ) (load : DomainLoad) (limits : Limits) (count : Count) (wb : ℕ) → cpus ≡ cpus' → limits ≡ load.limits → count ≡ load.count
    → lets_through (stat_error cpus) (Some limits.hard) (Some (at_least_zero count.value)) (Some wb) ≡ true
    → lets_through (stat_error cpus') (Some load.limits.hard) (Some (at_least_zero load.count.value)) (Some wb) ≡ true
lets_by cpus cpus' load limits count wb one two three lets =
    ap (λ (z : ℕ × Limits × Count). lets_through (stat_error z.0) (Some z.1.hard) (Some (at_least_zero z.2.value)) (Some wb)) (λ i. (sym one i, sym two i, sym three i)) ∙ lets

group_through : (set : Setting) (trace : Trace) (context : ℕ) (x : WriterRecord) (wb d group : ℕ) (load : Option DomainLoad) (line : Option DomainLine) → trace.cpus ≡ set.cpus → d ≢ 0 → d ≡ group → IsGroup group load
    → HasGroupLine load line → ((l : DomainLoad) → load ≡ Some l → kept_of l.domain x.kept ≡ kept_for l) → x.context_reading ≡ Some wb
    → IfSome (cgroup_read trace context line) (λ (r : DomainRead). lets_through (stat_error trace.cpus) (Some r.limits.hard) (Some r.dirty) (Some wb) ≡ true) → is_let_through set d x ≡ true
group_through set trace context x wb d group None line cpus some is its has kept context_is lets = absurd (some (is ∙ its))
group_through set trace context x wb d group (Some load) None cpus some is its has kept context_is lets = absurd has
group_through set trace context x wb d group (Some load) (Some line) cpus some is its has kept context_is lets =
    through set x load wb d (is ∙ sym its.1) (kept load refl) context_is (lets_by trace.cpus set.cpus load line.limits line.count wb cpus has.limits has.count lets)

kept_group : (set : Setting) (cpu w : ℕ) (seats : Seats) (load : Option DomainLoad) → HasKeptGroup set cpu w load seats → (l : DomainLoad) → load ≡ Some l → kept_of l.domain (kept_by set cpu w seats).kept ≡ kept_for l
kept_group set cpu w seats None has l is = absurd (none_some l is)
  where
    none_some : (l : DomainLoad) → None ≡ Some l → ⊥
    none_some l e = cc
kept_group set cpu w seats (Some load) has l is = subst (λ (m : DomainLoad). kept_of m.domain (kept_by set cpu w seats).kept ≡ kept_for m) (same is) has
  where
    same : Some load ≡ Some l → load ≡ l
    same e = cc

-- a decision that lets the writer go on by these reads
pub may_grant : (set : Setting) (trace : Trace) (cpu w context group : ℕ) (loads : Loads) (lines : Lines) (decision : Decision) (old seats : Seats) → w < set.writers → trace.cpus ≡ set.cpus → trace.cap ≡ set.cap
    → set.group (set.works_in w) ≡ group → LoadedAll set cpu w context group loads old seats → HasLines loads lines
    → MayBeGranted (reads_for trace context lines loads.count) decision → MayGrant set w decision.left (record_in cpu seats)
may_grant set trace cpu w context group loads lines decision old seats there cpus cap group_is loaded has may = record {
  writer_is = there;
  at_least_one = may.pages.0;
  at_most_cap = subst (λ (n : ℕ). decision.left ≤ n) cap may.pages.1;
  let_through = λ d inside. by d (or_cases (eqb d 0) (eqb d (set.group (set.works_in w))) inside);
}
  where
    by : (d : ℕ) → (eqb d 0 ≡ true) ⊎ (eqb d (set.group (set.works_in w)) ≡ true) → is_let_through set d (kept_by set cpu w seats) ≡ true
    by d (inl zero_is) = through set (kept_by set cpu w seats) loads.global (at_least_zero loads.count.value) d (eqb-true d 0 zero_is ∙ sym loaded.global) loaded.has_global loaded.has_context
        (lets_by trace.cpus set.cpus loads.global lines.global.limits lines.global.count (at_least_zero loads.count.value) cpus has.limits has.count may.through.0)
    by d (inr group_at) = ⊎_elim
        (λ zero_is. through set (kept_by set cpu w seats) loads.global (at_least_zero loads.count.value) d (zero_is ∙ sym loaded.global) loaded.has_global loaded.has_context
        (lets_by trace.cpus set.cpus loads.global lines.global.limits lines.global.count (at_least_zero loads.count.value) cpus has.limits has.count may.through.0))
        (λ some. group_through set trace context (kept_by set cpu w seats) (at_least_zero loads.count.value) d group loads.group lines.cgroup cpus some (eqb-true d (set.group (set.works_in w)) group_at ∙ group_is) loaded.group_is
        has.group (kept_group set cpu w seats loads.group loaded.has_group) loaded.has_context may.through.1)
        (cases_eq d 0)
