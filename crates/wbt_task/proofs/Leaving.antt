-- Pages are left where no check is due, and the counts have room.
use Rattle.std.proofs.Common.{◌≡◌, ◌≢◌, ℕ, ◌+◌, ◌^◌, ◌<◌, ◌≤◌, ◌||◌, true, false, cond, eqb, leb, [], ◌∷◌, length, refl, sym, subst, inl, inr, arith}
use Rattle.std.specs.List.{sum_by}
use Rattle.std.proofs.lemmas.Bool.{cases_eq}
use Rattle.std.proofs.lemmas.Bool.Decides.{nat_tests}
use Rattle.std.proofs.lemmas.List.Sums.{sum_by-set}
use Rattle.wbt_pause.specs.declared.decision.Decision.{Decision}
use Rattle.wbt_pause.specs.declared.decision.Kind.{Kind}
use Rattle.wbt_pause.specs.declared.decision.Kind.TheVariants.{Exempt, Free, Go, Wait}
use Rattle.wbt_task.specs.declared.allowance.CpuLocal.{CpuLocal}
use Rattle.wbt_task.specs.declared.allowance.Due.TheVariants.{Check, No}
use Rattle.wbt_task.specs.declared.history.Event.{Event}
use Rattle.wbt_task.specs.declared.history.Event.TheVariants.{Checked, Ended, Wrote}
use Rattle.wbt_task.specs.declared.history.Writer.{Writer}
use Rattle.wbt_task.specs.Allowance.{due_at, ended, first, page_after}
use Rattle.wbt_task.specs.Counts.{AllHavePagesLeft, HasPage, HasPagesLeft, LeavesPages, counted, dirtied_by, is_write}
use Rattle.wbt_task.specs.History.{Along, Cpu, HasRoom, IsInTurn, IsOfWriter, checked_writer, cpu_after, cpu_step, due_again, new_writer, writer_in, writer_of, wrote_page, wrote_writer}
use Rattle.wbt_task.specs.Laws.{DecisionsSettle, PagesAreLeft, RoomIsKept, WritesHavePages}
use Rattle.wbt_pause.proofs.Counting.{counts_no_more}
use Rattle.wbt_pause.proofs.Deciding.{leaves_within_cap}
use Rattle.wbt_task.proofs.Keeping.{checked_is, event_keeps, new_is, others_stay, rest_there, same_writers, written_is}

-- ---- pages left

-- a page that no check follows leaves another
due_at_none : (dirtied limit left : ℕ) → due_at dirtied limit left ≡ No → 1 ≤ left
due_at_none dirtied limit left =
    elim (leb limit dirtied || eqb left 0) as (λ b. (b ≡ false → 1 ≤ left) → cond b Check No ≡ No → 1 ≤ left)
    [ true ↦ λ is e. absurd cc | false ↦ λ is e. is refl ] (λ t. grind (arith, nat_tests))

new_has : (cap : ℕ) → 1 ≤ cap → HasPagesLeft cap (new_writer cap)
unfolding new_writer first
new_has cap some = (omega arith, λ e. omega arith)

written_has : (cap ratelimit_pages : ℕ) (local : CpuLocal) (writer : Writer) → HasPagesLeft cap writer
    → HasPagesLeft cap (wrote_writer (wrote_page ratelimit_pages local writer) writer)
unfolding page_after
written_has cap ratelimit_pages local writer has = (omega (arith, has.0), λ e. due_at_none _ _ _ e)

waits_or_not : (kind : Kind) → due_again kind ≡ No → kind ≢ Wait
waits_or_not Free e = λ w. cc
waits_or_not Go e = λ w. cc
waits_or_not Exempt e = λ w. cc
waits_or_not Wait e = λ w. cc

checked_has : (cap : ℕ) (decision : Decision) → (decision.left ≤ cap) × (decision.kind ≢ Wait → 1 ≤ decision.left) → HasPagesLeft cap (checked_writer decision)
checked_has cap decision leaves = (leaves.0, λ e. leaves.1 (waits_or_not decision.kind e))

-- the event's own writer, and the others
own_has : (ratelimit_pages cap : ℕ) (cpu : Cpu) (event : Event) → 1 ≤ cap → LeavesPages cap cpu event → AllHavePagesLeft cap cpu
    → writer_in event < length cpu.writers → HasPagesLeft cap (writer_of (cpu_step ratelimit_pages cap cpu event) (writer_in event))
own_has ratelimit_pages cap cpu (Wrote writer) some leaves has there =
    subst (λ w. HasPagesLeft cap w) (sym (written_is ratelimit_pages cap cpu writer there)) (written_has cap ratelimit_pages cpu.local (writer_of cpu writer) (has writer there))
own_has ratelimit_pages cap cpu (Checked writer decision) some leaves has there =
    subst (λ w. HasPagesLeft cap w) (sym (checked_is ratelimit_pages cap cpu writer decision there)) (checked_has cap decision leaves)
own_has ratelimit_pages cap cpu (Ended writer) some leaves has there =
    subst (λ w. HasPagesLeft cap w) (sym (new_is ratelimit_pages cap cpu writer there)) (new_has cap some)

each_has : (ratelimit_pages cap : ℕ) (cpu : Cpu) (event : Event) → 1 ≤ cap → LeavesPages cap cpu event → AllHavePagesLeft cap cpu
    → AllHavePagesLeft cap (cpu_step ratelimit_pages cap cpu event)
each_has ratelimit_pages cap cpu event some leaves has = λ writer there.
    let there_before : writer < length cpu.writers = subst (λ n. writer < n) (same_writers ratelimit_pages cap cpu event) there in
    elim (cases_eq writer (writer_in event)) [
      | inl same ↦ subst (λ w. HasPagesLeft cap (writer_of (cpu_step ratelimit_pages cap cpu event) w)) (sym same)
          (own_has ratelimit_pages cap cpu event some leaves has (subst (λ w. w < length cpu.writers) same there_before))
      | inr differs ↦ subst (λ w. HasPagesLeft cap w) (sym (others_stay ratelimit_pages cap cpu event writer differs)) (has writer there_before)
    ]

pub pages_are_left : PagesAreLeft
unfolding cpu_after Along
pages_are_left ratelimit_pages cap cpu [] some leaves has = has
pages_are_left ratelimit_pages cap cpu (event ∷ history) some leaves has =
    pages_are_left ratelimit_pages cap (cpu_step ratelimit_pages cap cpu event) history some leaves.1
    (each_has ratelimit_pages cap cpu event some leaves.0 has)

has_page : (cap : ℕ) (cpu : Cpu) (event : Event) → IsOfWriter (length cpu.writers) event → IsInTurn cpu event → AllHavePagesLeft cap cpu → HasPage cpu event
has_page cap cpu (Wrote writer) there turn has = (has writer there).1 turn
has_page cap cpu (Checked writer decision) there turn has = tt
has_page cap cpu (Ended writer) there turn has = tt

pub writes_have_pages : WritesHavePages
unfolding Along
writes_have_pages ratelimit_pages cap cpu [] some there leaves turns has = tt
writes_have_pages ratelimit_pages cap cpu (event ∷ history) some there leaves turns has = (
  has_page cap cpu event (there 0 event (omega arith)) turns.0 has,
  writes_have_pages ratelimit_pages cap (cpu_step ratelimit_pages cap cpu event) history some (rest_there ratelimit_pages cap cpu event history there)
      leaves.1 turns.1 (each_has ratelimit_pages cap cpu event some leaves.0 has),
)

pub decisions_settle : DecisionsSettle
decisions_settle cpu writer reads estimate now some =
    (counts_no_more reads estimate (writer_of cpu writer).task now, leaves_within_cap reads estimate (writer_of cpu writer).task now some)

-- ---- room

-- what one writer dirtied is among what is counted
one_of_all : (cpu : Cpu) (writer : ℕ) → writer < length cpu.writers → (writer_of cpu writer).task.nr_dirtied ≤ sum_by dirtied_by cpu.writers
unfolding new_writer first
one_of_all cpu writer there = omega (arith, sum_by-set dirtied_by cpu.writers writer (new_writer 0) (new_writer 0) there)

has_room : (cpu : Cpu) (event : Event) → IsOfWriter (length cpu.writers) event → counted cpu < 2 ^ 52 → cpu.local.since_check < 2 ^ 52 → HasRoom cpu event
has_room cpu (Wrote writer) there pages since = (omega (arith, one_of_all cpu writer there), since)
has_room cpu (Checked writer decision) there pages since = tt
has_room cpu (Ended writer) there pages since = omega (arith, one_of_all cpu writer there)

page_since : (ratelimit_pages : ℕ) (local : CpuLocal) (writer : Writer) → (wrote_page ratelimit_pages local writer).local.since_check ≤ local.since_check + 1
unfolding page_after
page_since ratelimit_pages local writer = grind (arith, nat_tests)

since_grows : (ratelimit_pages cap : ℕ) (cpu : Cpu) (event : Event) → (cpu_step ratelimit_pages cap cpu event).local.since_check ≤ cpu.local.since_check + 1
unfolding cpu_step ended
since_grows ratelimit_pages cap cpu (Wrote writer) = page_since ratelimit_pages cpu.local (writer_of cpu writer)
since_grows ratelimit_pages cap cpu (Checked writer decision) = omega arith
since_grows ratelimit_pages cap cpu (Ended writer) = omega arith

one_write : (event : Event) → is_write event ≤ 1
unfolding is_write
one_write (Wrote writer) = omega arith
one_write (Checked writer decision) = omega arith
one_write (Ended writer) = omega arith

pub room_is_kept : RoomIsKept
unfolding Along
room_is_kept ratelimit_pages cap cpu [] there settles pages since = tt
room_is_kept ratelimit_pages cap cpu (event ∷ history) there settles pages since =
    let keeps = event_keeps ratelimit_pages cap cpu event (there 0 event (omega arith)) settles.0 in
    let more = since_grows ratelimit_pages cap cpu event in
    let one = one_write event in (
      has_room cpu event (there 0 event (omega arith)) (omega arith) (omega arith),
      room_is_kept ratelimit_pages cap (cpu_step ratelimit_pages cap cpu event) history (rest_there ratelimit_pages cap cpu event history there)
          settles.1 (omega (arith, keeps, one)) (omega (arith, more)),
    )
