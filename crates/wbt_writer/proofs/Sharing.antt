-- What a check notes of shares: its fractions were read, or are those that are kept, and are kept then.
use Rattle.std.proofs.Common.{◌≡◌, ◌≢◌, ℕ, suc, ◌<◌, ◌≤◌, inl, inr, cond, eqb, List, [], ◌∷◌, length, get_or, set, Option, Some, None, refl, sym, ap, ◌∙◌, subst, arith, eq-eqb, ne_eqb}
use Rattle.std.specs.Prelude.{slice_index_or}
use Rattle.std.proofs.lemmas.Bool.{cases_eq, cond-true, cond-false}
use Rattle.std.proofs.lemmas.List.{get_or-set_same, get_or-set_other}
use Rattle.wbt_writer.proofs.Common.{cgroup_reads, reads_of, Each, context_domain, checked, CheckEntry, DomainLine, Trace, Longer, Notes, SharesGrew, longer_none, no_fractions, fractions_after}
use Rattle.wbt_kit.proofs.Common.{Fraction, begun, added_at, no_seat, Note}
use Rattle.wbt_fraction.specs.Seat.{Seated as ShareSeat}
use Rattle.wbt_fraction.specs.Several.{Seats as ShareSeats}
use Rattle.wbt_fraction.specs.Sums.{total as weigh}
use Rattle.wbt_published.specs.Passes as est
use Rattle.wbt_run_laws.specs.Calls.{NotesGrew}
use Rattle.wbt_run_laws.specs.Entries.{ReadsKept}
use Rattle.wbt_run_laws.specs.Notes.{AreKept, IsKept, no_fraction}
use Rattle.wbt_run_laws.proofs.Calling.{looks_add_none, read_may_be_kept}
use Rattle.wbt_run_laws.proofs.Entering.{check_reads_kept}
use Rattle.wbt_run_laws.proofs.Lists.{longer_more}
use Rattle.wbt_run_laws.proofs.Noting.{kept_longer}
use Rattle.wbt_writer.specs.Desk.{fraction_in}
use Rattle.wbt_run_steps.specs.Reads.{IsReadOrHeld, was_read, came_between}
use Rattle.wbt_writer.specs.Lines.{ReadsGroup, ReadsShare, share_after}
use Rattle.wbt_writer.specs.declared.lines.Lines.{Lines}
use Rattle.wbt_writer.specs.declared.work.Fractions.{Fractions}
use Rattle.wbt_writer.proofs.Acting.{notes_with}

-- ---- one read

-- what a read of a context's fraction in a domain makes of notes
record OneRead (context : ℕ) (fraction kept : Fraction) (old new : List Note) : Type 0 where
  grew : NotesGrew (λ of. 0) old new
  is_kept : IsKept old context kept → IsKept new context fraction
  no_earlier : IsKept old context kept → kept.period ≤ fraction.period

one_read : (context : ℕ) (fraction kept : Fraction) (old new : ShareSeat) → IsReadOrHeld context fraction kept old new → OneRead context fraction kept old.notes new.notes
one_read context fraction kept old new (was_read reads) =
    let gives = read_may_be_kept context fraction old new reads in
    record {
      grew = looks_add_none _ old new tt reads.looks;
      is_kept = λ before. inr gives.was_read;
      no_earlier = λ before. gives.no_earlier kept before;
    }
one_read context fraction kept old new (came_between again between is) =
    let grew = looks_add_none _ old new tt between.1.1 in
    record {
      grew = grew;
      is_kept = λ before. subst (λ (f : Fraction). IsKept new.notes context f) (sym is) (kept_longer old.notes new.notes context kept grew.longer before);
      no_earlier = λ before. let same = ap (λ (f : Fraction). f.period) is in omega arith;
    }

abbrev pub notes_at : (share : ShareSeats) (domain : ℕ) → List Note
notes_at share domain = (slice_index_or share.domains domain no_seat).notes

-- what a call makes of the notes of all domains
record AllNotes (old new : ℕ → List Note) : Type 0 where
  longer : (domain : ℕ) → Longer (old domain) (new domain)
  adds : (domain context : ℕ) → weigh (added_at (suc context)) (new domain) ≡ weigh (added_at (suc context)) (old domain)
  begins_none : (domain : ℕ) → begun (new domain) ≡ begun (old domain)

all_same : (old new : ShareSeats) → new ≡ old → AllNotes (notes_at old) (notes_at new)
all_same old new is = record {
  longer = λ d. subst (λ (s : ShareSeats). Longer (notes_at old d) (notes_at s d)) (sym is) (longer_none (notes_at old d));
  adds = λ d k. ap (λ (s : ShareSeats). weigh (added_at (suc k)) (notes_at s d)) is;
  begins_none = λ d. ap (λ (s : ShareSeats). begun (notes_at s d)) is;
}

all_more : (old mid new : ℕ → List Note) → AllNotes old mid → AllNotes mid new → AllNotes old new
all_more old mid new p q = record {
  longer = λ d. longer_more (old d) (mid d) (new d) (p.longer d) (q.longer d);
  adds = λ d k. q.adds d k ∙ p.adds d k;
  begins_none = λ d. q.begins_none d ∙ p.begins_none d;
}

module _ (domain context : ℕ) (fraction kept : Fraction) (old new : ShareSeats) (there : domain < length old.domains) (read : ReadsShare domain context fraction kept old new) where
  here : slice_index_or new.domains domain no_seat ≡ read.mid
  here = ap (λ (l : List ShareSeat). get_or l domain no_seat) read.domains_are ∙ get_or-set_same old.domains domain read.mid no_seat there

  elsewhere : (d : ℕ) → d ≢ domain → slice_index_or new.domains d no_seat ≡ slice_index_or old.domains d no_seat
  elsewhere d other = ap (λ (l : List ShareSeat). get_or l d no_seat) read.domains_are ∙ get_or-set_other old.domains domain d read.mid no_seat other

  one : OneRead context fraction kept (notes_at old domain) (notes_at new domain)
  one = subst (λ (s : ShareSeat). OneRead context fraction kept (notes_at old domain) s.notes) (sym here) (one_read context fraction kept (slice_index_or old.domains domain no_seat) read.mid read.comes)

  all : AllNotes (notes_at old) (notes_at new)
  all = record {
    longer = λ d. elim (cases_eq d domain) [
      | inl is ↦ subst (λ (e : ℕ). Longer (notes_at old e) (notes_at new e)) (sym is) one.grew.longer
      | inr other ↦ subst (λ (s : ShareSeat). Longer (notes_at old d) s.notes) (sym (elsewhere d other)) (longer_none (notes_at old d))
    ];
    adds = λ d k. elim (cases_eq d domain) [
      | inl is ↦ subst (λ (e : ℕ). weigh (added_at (suc k)) (notes_at new e) ≡ weigh (added_at (suc k)) (notes_at old e)) (sym is) (let more = one.grew.adds k in omega arith)
      | inr other ↦ ap (λ (s : ShareSeat). weigh (added_at (suc k)) s.notes) (elsewhere d other)
    ];
    begins_none = λ d. elim (cases_eq d domain) [
      | inl is ↦ subst (λ (e : ℕ). begun (notes_at new e) ≡ begun (notes_at old e)) (sym is) one.grew.begins_none
      | inr other ↦ ap (λ (s : ShareSeat). begun s.notes) (elsewhere d other)
    ];
  }

-- ---- kept fractions by domain

in_group : (trace : Trace) (d context : ℕ) (kept : Fractions) → d ≢ 0 → d ≡ context_domain trace context → fraction_in trace d context kept ≡ kept.group
in_group trace d context kept some is =
    cond-false (eqb d 0) kept.global (cond (eqb d (context_domain trace context)) kept.group no_fraction) (ne_eqb d 0 some)
    ∙ cond-true (eqb d (context_domain trace context)) kept.group no_fraction (eq-eqb d (context_domain trace context) is)

in_none : (trace : Trace) (d context : ℕ) (kept : Fractions) → d ≢ 0 → d ≢ context_domain trace context → fraction_in trace d context kept ≡ no_fraction
in_none trace d context kept some other =
    cond-false (eqb d 0) kept.global (cond (eqb d (context_domain trace context)) kept.group no_fraction) (ne_eqb d 0 some)
    ∙ cond-false (eqb d (context_domain trace context)) kept.group no_fraction (ne_eqb d (context_domain trace context) other)

by_domain : (trace : Trace) (d context : ℕ) (a b : Fractions) (P : Fraction → Fraction → Type 0) → (d ≡ 0 → P a.global b.global) → (d ≢ 0 → d ≡ context_domain trace context → P a.group b.group) → P no_fraction no_fraction
    → P (fraction_in trace d context a) (fraction_in trace d context b)
by_domain trace d context a b P global group none = elim (cases_eq d 0) [
  | inl is ↦ subst (λ (z : Fraction × Fraction). P z.0 z.1) (λ i. (sym (in_global a is) i, sym (in_global b is) i)) (global is)
  | inr some ↦ elim (cases_eq d (context_domain trace context)) [
    | inl its ↦ subst (λ (z : Fraction × Fraction). P z.0 z.1) (λ i. (sym (in_group trace d context a some its) i, sym (in_group trace d context b some its) i)) (group some its)
    | inr other ↦ subst (λ (z : Fraction × Fraction). P z.0 z.1) (λ i. (sym (in_none trace d context a some other) i, sym (in_none trace d context b some other) i)) none
  ]
]
  where
    in_global : (kept : Fractions) → d ≡ 0 → fraction_in trace d context kept ≡ kept.global
    in_global kept is = cond-true (eqb d 0) kept.global (cond (eqb d (context_domain trace context)) kept.group no_fraction) (eq-eqb d 0 is)

-- ---- a check

-- the line of the cgroup, where the context has one
abbrev pub IsGroupLine : (group : ℕ) (line : Option DomainLine) → Type 0
IsGroupLine group None = group ≡ 0
IsGroupLine group (Some line) = (group ≢ 0) × (line.domain ≡ group)

module _ (trace : Trace) (context : ℕ) (lines : Lines) (all_kept : List Fractions) (pass pass' : est.Seats) (s0 s1 s2 : ShareSeats) where
  abbrev kept : Fractions
  kept = get_or all_kept context no_fractions

  abbrev after_kept : List Fractions
  after_kept = set all_kept context (fractions_after lines kept)

  abbrev before : Notes
  before = notes_with trace all_kept s0 pass

  abbrev behind : Notes
  behind = notes_with trace after_kept s2 pass'

  module _ (there : context < length all_kept) (global_there : 0 < length s0.domains) (global_is : lines.global.domain ≡ 0) (group_is : IsGroupLine (context_domain trace context) lines.cgroup)
      (group_there : context_domain trace context < length s1.domains) (global : ReadsShare 0 context lines.global.share kept.global s0 s1) (group : ReadsGroup context lines.cgroup kept.group s1 s2) where
    first : AllNotes (notes_at s0) (notes_at s1)
    first = all 0 context lines.global.share kept.global s0 s1 global_there global

    second_by : (line : Option DomainLine) → IsGroupLine (context_domain trace context) line → ReadsGroup context line kept.group s1 s2 → AllNotes (notes_at s1) (notes_at s2)
    second_by None is read = all_same s1 s2 read
    second_by (Some line) is read = all line.domain context line.share kept.group s1 s2 (subst (λ (d : ℕ). d < length s1.domains) (sym is.1) group_there) read

    second : AllNotes (notes_at s1) (notes_at s2)
    second = second_by lines.cgroup group_is group

    whole : AllNotes (notes_at s0) (notes_at s2)
    whole = all_more (notes_at s0) (notes_at s1) (notes_at s2) first second

    kept_now : get_or after_kept context no_fractions ≡ fractions_after lines kept
    kept_now = get_or-set_same all_kept context (fractions_after lines kept) no_fractions there

    kept_else : (k : ℕ) → k ≢ context → get_or after_kept k no_fractions ≡ get_or all_kept k no_fractions
    kept_else k other = get_or-set_other all_kept context k (fractions_after lines kept) no_fractions other

    module _ (are : AreKept before) where
      -- the global domain
      global_kept : IsKept (notes_at s0 0) context kept.global
      global_kept = are 0 context

      global_first : OneRead context lines.global.share kept.global (notes_at s0 0) (notes_at s1 0)
      global_first = one 0 context lines.global.share kept.global s0 s1 global_there global

      global_now : IsKept (notes_at s2 0) context lines.global.share
      global_now = kept_longer (notes_at s1 0) (notes_at s2 0) context lines.global.share (second.longer 0) (global_first.is_kept global_kept)

      global_later : kept.global.period ≤ lines.global.share.period
      global_later = global_first.no_earlier global_kept

      -- the cgroup's
      module _ (d : ℕ) (some : d ≢ 0) (its : d ≡ context_domain trace context) where
        group_kept : IsKept (notes_at s1 d) context kept.group
        group_kept = kept_longer (notes_at s0 d) (notes_at s1 d) context kept.group (first.longer d)
            (subst (λ (f : Fraction). IsKept (notes_at s0 d) context f) (in_group trace d context kept some its) (are d context))

        group_by : (line : Option DomainLine) → IsGroupLine (context_domain trace context) line → ReadsGroup context line kept.group s1 s2
            → IsKept (notes_at s2 d) context (share_after line kept.group) × (kept.group.period ≤ (share_after line kept.group).period)
        group_by None is read = (kept_longer (notes_at s1 d) (notes_at s2 d) context kept.group (second.longer d) group_kept, omega arith)
        group_by (Some line) is read =
            let at : d ≡ line.domain = its ∙ sym is.1 in
            let o : OneRead context line.share kept.group (notes_at s1 line.domain) (notes_at s2 line.domain) =
            one line.domain context line.share kept.group s1 s2 (subst (λ (e : ℕ). e < length s1.domains) (sym is.1) group_there) read in
            let was : IsKept (notes_at s1 line.domain) context kept.group = subst (λ (e : ℕ). IsKept (notes_at s1 e) context kept.group) at group_kept in
            (subst (λ (e : ℕ). IsKept (notes_at s2 e) context line.share) (sym at) (o.is_kept was), o.no_earlier was)

        pub group_both : IsKept (notes_at s2 d) context (share_after lines.cgroup kept.group) × (kept.group.period ≤ (share_after lines.cgroup kept.group).period)
        group_both = group_by lines.cgroup group_is group

      -- what is kept then
      kept_here : (d : ℕ) → IsKept (notes_at s2 d) context (fraction_in trace d context (fractions_after lines kept))
      kept_here d = by_domain trace d context (fractions_after lines kept) (fractions_after lines kept) (λ f g. IsKept (notes_at s2 d) context f)
          (λ is. subst (λ (e : ℕ). IsKept (notes_at s2 e) context lines.global.share) (sym is) global_now) (λ some its. (group_both d some its).0) (inl refl)

      pub kept_then : AreKept behind
      kept_then d k = elim (cases_eq k context) [
        | inl is ↦ subst (λ (z : ℕ). IsKept (notes_at s2 d) z (fraction_in trace d z (get_or after_kept z no_fractions))) (sym is)
            (subst (λ (f : Fractions). IsKept (notes_at s2 d) context (fraction_in trace d context f)) (sym kept_now) (kept_here d))
        | inr other ↦ subst (λ (f : Fractions). IsKept (notes_at s2 d) k (fraction_in trace d k f)) (sym (kept_else k other))
            (kept_longer (notes_at s0 d) (notes_at s2 d) k (fraction_in trace d k (get_or all_kept k no_fractions)) (whole.longer d) (are d k))
      ]

      -- no period goes back
      none_falls : (d k : ℕ) → (before.kept d k).period ≤ (behind.kept d k).period
      none_falls d k = elim (cases_eq k context) [
        | inl is ↦ subst (λ (z : ℕ). (fraction_in trace d z (get_or all_kept z no_fractions)).period ≤ (fraction_in trace d z (get_or after_kept z no_fractions)).period) (sym is)
            (subst (λ (f : Fractions). (fraction_in trace d context kept).period ≤ (fraction_in trace d context f).period) (sym kept_now)
            (by_domain trace d context kept (fractions_after lines kept) (λ f g. f.period ≤ g.period) (λ is_global. global_later) (λ some its. (group_both d some its).1) (omega arith)))
        | inr other ↦ subst (λ (f : Fractions). (fraction_in trace d k (get_or all_kept k no_fractions)).period ≤ (fraction_in trace d k f).period) (sym (kept_else k other)) (omega arith)
      ]

      -- what each line tells
      record LineKept (line : DomainLine) : Type 0 where
        told : IsKept (notes_at s2 line.domain) context line.share
        later : (before.kept line.domain context).period ≤ line.share.period
        then_kept : line.share.period ≤ (behind.kept line.domain context).period

      global_line : LineKept lines.global
      global_line = record {
        told = subst (λ (d : ℕ). IsKept (notes_at s2 d) context lines.global.share) (sym global_is) global_now;
        later = subst (λ (d : ℕ). (fraction_in trace d context kept).period ≤ lines.global.share.period) (sym global_is) global_later;
        then_kept = subst (λ (d : ℕ). lines.global.share.period ≤ (fraction_in trace d context (get_or after_kept context no_fractions)).period) (sym global_is)
            (subst (λ (f : Fractions). lines.global.share.period ≤ f.global.period) (sym kept_now) (omega arith));
      }

      group_line : (line : DomainLine) → lines.cgroup ≡ Some line → LineKept line
      group_line line is =
          let its : IsGroupLine (context_domain trace context) (Some line) = subst (IsGroupLine (context_domain trace context)) is group_is in
          let some : line.domain ≢ 0 = λ e. its.0 (sym its.1 ∙ e) in
          let both = group_both line.domain some its.1 in
          let share : share_after lines.cgroup kept.group ≡ line.share = ap (λ (l : Option DomainLine). share_after l kept.group) is in
          let same : (fractions_after lines kept).group ≡ line.share = share in
          record {
            told = subst (λ (f : Fraction). IsKept (notes_at s2 line.domain) context f) share both.0;
            later = subst (λ (f : Fraction). (fraction_in trace line.domain context kept).period ≤ f.period) share
                (subst (λ (f : Fraction). f.period ≤ (share_after lines.cgroup kept.group).period) (sym (in_group trace line.domain context kept some its.1)) both.1);
            then_kept =
                let at : fraction_in trace line.domain context (get_or after_kept context no_fractions) ≡ line.share =
                ap (fraction_in trace line.domain context) kept_now ∙ in_group trace line.domain context (fractions_after lines kept) some its.1 ∙ same in
                let period = ap (λ (f : Fraction). f.period) at in omega arith;
          }

      each_line : (P : DomainLine → Type 0) → ((line : DomainLine) → LineKept line → P line) → (check : CheckEntry) → check.global ≡ lines.global → check.cgroup ≡ lines.cgroup → Each P (reads_of check)
      each_line P h check one_is two_is = (subst P (sym one_is) (h lines.global global_line), rest check.cgroup two_is)
        where
          rest : (line : Option DomainLine) → line ≡ lines.cgroup → Each P (cgroup_reads line)
          rest None is = tt
          rest (Some line) is = (h line (group_line line (sym is)), tt)

      pub reads_kept : (check : CheckEntry) → check.context ≡ context → check.global ≡ lines.global → check.cgroup ≡ lines.cgroup → ReadsKept check before.kept behind.kept
      reads_kept check at one_is two_is = record {
        no_earlier = each_line (λ read. (before.kept read.domain check.context).period ≤ read.share.period)
            (λ line l. subst (λ (k : ℕ). (before.kept line.domain k).period ≤ line.share.period) (sym at) l.later) check one_is two_is;
        kept_now = each_line (λ read. read.share.period ≤ (behind.kept read.domain check.context).period)
            (λ line l. subst (λ (k : ℕ). line.share.period ≤ (behind.kept line.domain k).period) (sym at) l.then_kept) check one_is two_is;
        none_falls = none_falls;
      }

      pub check_shares : (cpu : ℕ) (check : CheckEntry) → check.context ≡ context → check.global ≡ lines.global → check.cgroup ≡ lines.cgroup → SharesGrew cpu (checked check ∷ []) before behind
      check_shares cpu check at one_is two_is = record {
        longer = whole.longer;
        adds = λ d k. let same = whole.adds d k in omega arith;
        begins_none = whole.begins_none;
        kept = λ was. kept_then;
        fractions = λ was. (
          each_line (λ read. IsKept (notes_at s2 read.domain) check.context read.share)
              (λ line l. subst (λ (k : ℕ). IsKept (notes_at s2 line.domain) k line.share) (sym at) l.told) check one_is two_is,
          tt,
        );
        periods = check_reads_kept cpu check before.kept behind.kept (reads_kept check at one_is two_is);
      }
