-- Each event keeps the pages of a CPU and stays near a check, and so does a history.
use Rattle.std.proofs.Common.{◌≡◌, ℕ, zero, suc, ◌+◌, ◌-◌, ◌*◌, ◌<◌, ◌≤◌, ◌⊎◌, ◌↔◌, ◌||◌, true, false, cond, eqb, leb, List, [], ◌∷◌, All, length, get_or, refl, sym, subst, inl, inr, arith}
use Rattle.std.proofs.Math.ListN.{set}
use Rattle.std.specs.List.{sum_by}
use Rattle.std.proofs.lemmas.Bool.Decides.{nat_tests}
use Rattle.std.proofs.lemmas.List.{get_or-set_other, get_or-set_same, length-set}
use Rattle.std.proofs.lemmas.List.Sums.{fold-append, sum_by-cons, sum_by-set}
use Rattle.wbt_pause.specs.declared.decision.Decision.{Decision}
use Rattle.wbt_pause.specs.declared.decision.Kind.{Kind}
use Rattle.wbt_pause.specs.declared.decision.Kind.TheVariants.{Exempt, Free, Go, Wait}
use Rattle.wbt_task.specs.declared.allowance.CpuLocal.{CpuLocal}
use Rattle.wbt_task.specs.declared.allowance.Due.TheVariants.{Check, No}
use Rattle.wbt_task.specs.declared.history.Event.{Event}
use Rattle.wbt_task.specs.declared.history.Event.TheVariants.{Checked, Ended, Wrote}
use Rattle.wbt_task.specs.declared.history.Writer.{Writer}
use Rattle.wbt_task.specs.Allowance.{Page, allowance_of, due_at, ended, first, limit_after, moved_at, page_after}
use Rattle.wbt_task.specs.Counts.{Settles, checks_due_in, counted, dirtied_by, due_by, is_due, is_write, settled_by, settled_in, writes_in}
use Rattle.wbt_task.specs.History.{Along, Cpu, IsOfWriter, checked_writer, cpu_after, cpu_step, due_again, new_writer, writer_of, wrote_page, wrote_writer}
use Rattle.wbt_task.specs.Laws.{CheckIsDueAgain, ChecksAreNear, HistoryGoesOn, OthersStay, PagesAreKept, StaysBelow, WriteIsDue}

pub history_goes_on : HistoryGoesOn
unfolding cpu_after
history_goes_on ratelimit_pages cap cpu history more = fold-append (cpu_step ratelimit_pages cap) cpu history more

-- ---- writers

pub same_writers : (ratelimit_pages cap : ℕ) (cpu : Cpu) (event : Event) → length (cpu_step ratelimit_pages cap cpu event).writers ≡ length cpu.writers
unfolding cpu_step
same_writers ratelimit_pages cap cpu (Wrote writer) = length-set cpu.writers writer _
same_writers ratelimit_pages cap cpu (Checked writer decision) = length-set cpu.writers writer _
same_writers ratelimit_pages cap cpu (Ended writer) = length-set cpu.writers writer _

pub others_stay : OthersStay
unfolding cpu_step
others_stay ratelimit_pages cap cpu (Wrote other) writer differs = get_or-set_other cpu.writers other writer _ _ differs
others_stay ratelimit_pages cap cpu (Checked other decision) writer differs = get_or-set_other cpu.writers other writer _ _ differs
others_stay ratelimit_pages cap cpu (Ended other) writer differs = get_or-set_other cpu.writers other writer _ _ differs

-- the writer of an event is as the event says
pub written_is : (ratelimit_pages cap : ℕ) (cpu : Cpu) (writer : ℕ) → writer < length cpu.writers
    → writer_of (cpu_step ratelimit_pages cap cpu (Wrote writer)) writer
    ≡ wrote_writer (wrote_page ratelimit_pages cpu.local (writer_of cpu writer)) (writer_of cpu writer)
unfolding cpu_step
written_is ratelimit_pages cap cpu writer there = get_or-set_same cpu.writers writer _ _ there

pub checked_is : (ratelimit_pages cap : ℕ) (cpu : Cpu) (writer : ℕ) (decision : Decision) → writer < length cpu.writers
    → writer_of (cpu_step ratelimit_pages cap cpu (Checked writer decision)) writer ≡ checked_writer decision
unfolding cpu_step
checked_is ratelimit_pages cap cpu writer decision there = get_or-set_same cpu.writers writer _ _ there

pub new_is : (ratelimit_pages cap : ℕ) (cpu : Cpu) (writer : ℕ) → writer < length cpu.writers
    → writer_of (cpu_step ratelimit_pages cap cpu (Ended writer)) writer ≡ new_writer cap
unfolding cpu_step
new_is ratelimit_pages cap cpu writer there = get_or-set_same cpu.writers writer _ _ there

-- ---- what is due

due_tells : (dirtied limit left : ℕ) → due_at dirtied limit left ≡ Check → (limit ≤ dirtied) ⊎ (left ≡ 0)
due_tells dirtied limit left =
    elim (leb limit dirtied || eqb left 0) as (λ b. (b ≡ true → (limit ≤ dirtied) ⊎ (left ≡ 0)) → cond b Check No ≡ Check → (limit ≤ dirtied) ⊎ (left ≡ 0))
    [ true ↦ λ is e. is refl | false ↦ λ is e. absurd cc ] (λ t. grind (arith, nat_tests))

due_when : (dirtied limit left : ℕ) → (limit ≤ dirtied) ⊎ (left ≡ 0) → due_at dirtied limit left ≡ Check
due_when dirtied limit left is =
    let test : leb limit dirtied || eqb left 0 ≡ true = grind (arith, nat_tests) in
    rw test refl

limit_tells : (dirtied since allowance ratelimit_pages n : ℕ) → limit_after dirtied since allowance ratelimit_pages ≤ n
    → (allowance ≤ n) ⊎ (ratelimit_pages ≤ since)
limit_tells dirtied since allowance ratelimit_pages n h = grind (arith, nat_tests)

limit_when : (dirtied since allowance ratelimit_pages n : ℕ) → dirtied ≤ n → (allowance ≤ n) ⊎ (ratelimit_pages ≤ since)
    → limit_after dirtied since allowance ratelimit_pages ≤ n
limit_when dirtied since allowance ratelimit_pages n grown is = grind (arith, nat_tests)

page_is_due : (ratelimit_pages : ℕ) (local : CpuLocal) (writer : Writer)
    → let page : Page = wrote_page ratelimit_pages local writer in
    (page.due ≡ Check) ↔ ((allowance_of writer.task writer.exceeded ≤ page.task.nr_dirtied) ⊎ ((ratelimit_pages ≤ local.since_check + 1) ⊎ (writer.left - 1 ≡ 0)))
unfolding page_after
page_is_due ratelimit_pages local writer =
    let dirtied : ℕ = writer.task.nr_dirtied + 1 in
    let allowance : ℕ = allowance_of writer.task writer.exceeded in
    let limit : ℕ = limit_after dirtied (local.since_check + 1) allowance ratelimit_pages in
    let n : ℕ = dirtied + moved_at local.leaks dirtied limit in (
      λ e. elim (due_tells n limit (writer.left - 1) e) [
        | inl reached ↦ elim (limit_tells dirtied (local.since_check + 1) allowance ratelimit_pages n reached) [
          | inl used ↦ inl used
          | inr enough ↦ inr (inl enough)
        ]
        | inr none ↦ inr (inr none)
      ],
      λ is. due_when n limit (writer.left - 1) (elim is [
        | inl used ↦ inl (limit_when dirtied (local.since_check + 1) allowance ratelimit_pages n (omega arith) (inl used))
        | inr rest ↦ elim rest [
          | inl enough ↦ inl (limit_when dirtied (local.since_check + 1) allowance ratelimit_pages n (omega arith) (inr enough))
          | inr none ↦ inr none
        ]
      ]),
    )

pub write_is_due : WriteIsDue
write_is_due ratelimit_pages cap cpu writer there =
    rw (written_is ratelimit_pages cap cpu writer there) (page_is_due ratelimit_pages cpu.local (writer_of cpu writer))

again : (kind : Kind) → (due_again kind ≡ Check) ↔ (kind ≡ Wait)
again Free = (λ e. cc, λ e. cc)
again Go = (λ e. cc, λ e. cc)
again Exempt = (λ e. cc, λ e. cc)
again Wait = (λ e. refl, λ e. refl)

pub check_is_due_again : CheckIsDueAgain
check_is_due_again ratelimit_pages cap cpu writer decision there =
    rw (checked_is ratelimit_pages cap cpu writer decision there) (again decision.kind)

-- ---- pages

page_keeps : (ratelimit_pages : ℕ) (local : CpuLocal) (writer : Writer)
    → (wrote_page ratelimit_pages local writer).task.nr_dirtied + (wrote_page ratelimit_pages local writer).local.leaks
    ≡ writer.task.nr_dirtied + 1 + local.leaks
unfolding page_after
page_keeps ratelimit_pages local writer = omega arith

sum_changed : (cpu : Cpu) (writer : ℕ) (now : Writer) → writer < length cpu.writers
    → sum_by dirtied_by (set cpu.writers writer now) + (writer_of cpu writer).task.nr_dirtied ≡ sum_by dirtied_by cpu.writers + now.task.nr_dirtied
sum_changed cpu writer now there = sum_by-set dirtied_by cpu.writers writer now _ there

pub event_keeps : (ratelimit_pages cap : ℕ) (cpu : Cpu) (event : Event) → IsOfWriter (length cpu.writers) event → Settles cpu event
    → counted (cpu_step ratelimit_pages cap cpu event) + settled_by cpu event ≡ counted cpu + is_write event
unfolding cpu_step is_write ended first new_writer
event_keeps ratelimit_pages cap cpu (Wrote writer) there settles =
    let page : Page = wrote_page ratelimit_pages cpu.local (writer_of cpu writer) in
    let kept = page_keeps ratelimit_pages cpu.local (writer_of cpu writer) in
    let changed = sum_changed cpu writer (wrote_writer page (writer_of cpu writer)) there in
    omega (arith, kept, changed)
event_keeps ratelimit_pages cap cpu (Checked writer decision) there settles =
    let changed = sum_changed cpu writer (checked_writer decision) there in
    omega (arith, changed)
event_keeps ratelimit_pages cap cpu (Ended writer) there settles =
    let changed = sum_changed cpu writer (new_writer cap) there in
    omega (arith, changed)

-- the rest of a history is of writers that are there
pub rest_there : (ratelimit_pages cap : ℕ) (cpu : Cpu) (event : Event) (history : List Event) → All (IsOfWriter (length cpu.writers)) (event ∷ history)
    → All (IsOfWriter (length (cpu_step ratelimit_pages cap cpu event).writers)) history
rest_there ratelimit_pages cap cpu event history there =
    λ k d h. subst (λ n. IsOfWriter n (get_or history k d)) (sym (same_writers ratelimit_pages cap cpu event)) (there (suc k) d (omega arith))

pub pages_are_kept : PagesAreKept
unfolding cpu_after settled_in Along
pages_are_kept ratelimit_pages cap cpu [] there settles = omega arith
pages_are_kept ratelimit_pages cap cpu (event ∷ history) there settles =
    let now : Cpu = cpu_step ratelimit_pages cap cpu event in
    let one = event_keeps ratelimit_pages cap cpu event (there 0 event (omega arith)) settles.0 in
    let rest = pages_are_kept ratelimit_pages cap now history (rest_there ratelimit_pages cap cpu event history there) settles.1 in
    omega (arith, one, rest, sum_by-cons is_write event history)

-- ---- the CPU's count

page_below : (ratelimit_pages : ℕ) (local : CpuLocal) (writer : Writer) → local.since_check < ratelimit_pages
    → (wrote_page ratelimit_pages local writer).local.since_check < ratelimit_pages
unfolding page_after
page_below ratelimit_pages local writer below = grind (arith, nat_tests)

event_below : (ratelimit_pages cap : ℕ) (cpu : Cpu) (event : Event) → cpu.local.since_check < ratelimit_pages
    → (cpu_step ratelimit_pages cap cpu event).local.since_check < ratelimit_pages
unfolding cpu_step ended
event_below ratelimit_pages cap cpu (Wrote writer) below = page_below ratelimit_pages cpu.local (writer_of cpu writer) below
event_below ratelimit_pages cap cpu (Checked writer decision) below = below
event_below ratelimit_pages cap cpu (Ended writer) below = below

pub stays_below : StaysBelow
unfolding cpu_after
stays_below ratelimit_pages cap cpu [] below = below
stays_below ratelimit_pages cap cpu (event ∷ history) below =
    stays_below ratelimit_pages cap (cpu_step ratelimit_pages cap cpu event) history (event_below ratelimit_pages cap cpu event below)

-- ---- checks that are due

-- where no check is due the CPU counts on
page_counts : (ratelimit_pages : ℕ) (local : CpuLocal) (writer : Writer) → is_due (wrote_page ratelimit_pages local writer).due ≡ 0
    → (wrote_page ratelimit_pages local writer).local.since_check ≡ local.since_check + 1
unfolding page_after is_due
page_counts ratelimit_pages local writer none = grind (arith, nat_tests, none)

-- and else it counts at least from 0
near : (due since now most : ℕ) → since < most → (due ≡ 0 → now ≡ since + 1) → since + 1 ≤ now + most * due
near zero since now most below counts = omega (arith, counts refl)
near (suc due) since now most below counts =
    let once : most * suc due ≡ most + most * due = omega arith in
    omega (arith, once)

event_near : (ratelimit_pages cap : ℕ) (cpu : Cpu) (event : Event) → cpu.local.since_check < ratelimit_pages
    → cpu.local.since_check + is_write event ≤ (cpu_step ratelimit_pages cap cpu event).local.since_check + ratelimit_pages * due_by ratelimit_pages cpu event
unfolding cpu_step is_write ended
event_near ratelimit_pages cap cpu (Wrote writer) below =
    near (is_due (wrote_page ratelimit_pages cpu.local (writer_of cpu writer)).due) cpu.local.since_check _ ratelimit_pages below
    (page_counts ratelimit_pages cpu.local (writer_of cpu writer))
event_near ratelimit_pages cap cpu (Checked writer decision) below = omega arith
event_near ratelimit_pages cap cpu (Ended writer) below = omega arith

pub checks_are_near : ChecksAreNear
unfolding checks_due_in
checks_are_near ratelimit_pages cap cpu [] below = omega arith
checks_are_near ratelimit_pages cap cpu (event ∷ history) below =
    let now : Cpu = cpu_step ratelimit_pages cap cpu event in
    let due : ℕ = due_by ratelimit_pages cpu event in
    let one : cpu.local.since_check + is_write event ≤ now.local.since_check + ratelimit_pages * due = event_near ratelimit_pages cap cpu event below in
    let rest : now.local.since_check + writes_in history < ratelimit_pages * (checks_due_in ratelimit_pages cap now history + 1) =
    checks_are_near ratelimit_pages cap now history (event_below ratelimit_pages cap cpu event below) in
    let writes : writes_in (event ∷ history) ≡ is_write event + writes_in history = sum_by-cons is_write event history in
    let product : ratelimit_pages * (due + checks_due_in ratelimit_pages cap now history + 1)
    ≡ ratelimit_pages * due + ratelimit_pages * (checks_due_in ratelimit_pages cap now history + 1) = omega arith in
    omega (arith, rest, one, writes, product)
