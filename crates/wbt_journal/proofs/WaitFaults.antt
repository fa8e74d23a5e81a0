-- The first faults of waiting lists.
use Rattle.std.proofs.Common.{◌≡◌, ℕ, ◌^◌, true, List, [], ◌∷◌, length}
use Rattle.std.specs.Bool.{Decides}
use Rattle.std.proofs.lemmas.Bool.Decides.{Decides-and, Decides-eqb}
use Rattle.wbt_expiry.specs.declared.due.Due.{Due}
use Rattle.wbt_expiry.specs.Waiting.{has_inode}
use Rattle.wbt_rules.specs.Age.{is_ageing}
use Rattle.wbt_rules.specs.Things.{device_of, flusher_device}
use Rattle.wbt_trace.specs.declared.trace.Trace.{Trace}
use Rattle.wbt_journal.specs.Effects.{Wait, WaitMove, notices, ages, takes_first, effect}
use Rattle.wbt_journal.specs.Flights.{is_own_flusher}
use Rattle.wbt_journal.specs.Items.{Item, begins, tells}
use Rattle.wbt_journal.specs.Told.{Told}
use Rattle.wbt_journal.specs.Waits.{MayNotice, may_notice, StandsFirst, stands_first, FirstIsDue, first_is_due, MayAge, may_age, MayWait, may_wait, list_of, WaitsBy, waits_by, WaitsTold, waits_told, Waits, wait_fault, WaitsOnOwn, waits_on_own, stranger_fault}
use Rattle.wbt_journal.specs.Walk.{Tells}
use Rattle.wbt_journal.proofs.Faults.{like, is_true, is_false, is_le, is_less, is_given, always, test_tells, part_decides}

notice_decides : (trace : Trace) (flusher inode since : ℕ) (pairs : List Due) → Decides (may_notice trace flusher inode since pairs) (MayNotice trace flusher inode since pairs)
notice_decides trace flusher inode since pairs = like (may_notice trace flusher inode since pairs)
    (Decides-and _ _ (is_less inode (length trace.inodes))
    (Decides-and _ _ (Decides-eqb (device_of trace inode) (flusher_device trace flusher))
    (Decides-and _ _ (is_true (is_ageing trace (flusher_device trace flusher))) (Decides-and _ _ (is_less since (2 ^ 62)) (is_false (has_inode inode pairs))))))
    (λ p. record { there = p.0; device = p.1.0; ageing = p.1.1.0; moment = p.1.1.1.0; new = p.1.1.1.1 })
    (λ m. (m.there, (m.device, (m.ageing, (m.moment, m.new)))))

first_decides : (inode : ℕ) (pairs : List Due) → Decides (stands_first inode pairs) (StandsFirst inode pairs)
first_decides inode [] = ((λ is. cc), λ none. absurd none)
first_decides inode (pair ∷ pairs) = Decides-eqb pair.inode inode

due_decides : (due : ℕ) (pairs : List Due) → Decides (first_is_due due pairs) (FirstIsDue due pairs)
due_decides due [] = ((λ is. cc), λ none. absurd none)
due_decides due (pair ∷ pairs) = Decides-eqb pair.due due

age_decides : (inode due now : ℕ) (pairs : List Due) → Decides (may_age inode due now pairs) (MayAge inode due now pairs)
age_decides inode due now pairs = like (may_age inode due now pairs)
    (Decides-and _ _ (first_decides inode pairs) (Decides-and _ _ (due_decides due pairs) (is_le due now)))
    (λ p. record { first = p.0; moment = p.1.0; by_now = p.1.1 })
    (λ m. (m.first, (m.moment, m.by_now)))

wait_decides : (trace : Trace) (flusher : ℕ) (move : WaitMove) (pairs : List Due) → Decides (may_wait trace flusher move pairs) (MayWait trace flusher move pairs)
wait_decides trace flusher (notices inode since) pairs = notice_decides trace flusher inode since pairs
wait_decides trace flusher (ages inode due now) pairs = age_decides inode due now pairs
wait_decides trace flusher (takes_first inode) pairs = first_decides inode pairs

waits_decide : (trace : Trace) (cpu : ℕ) (lists : List (List Due)) (entry : Told) → Decides (waits_told trace cpu lists entry) (WaitsTold trace cpu lists entry)
waits_decide trace cpu lists entry = part_decides (waits_by trace cpu lists) (WaitsBy trace cpu lists)
    (λ wait. is_given (is_own_flusher trace cpu wait.flusher) (may_wait trace wait.flusher wait.move (list_of lists wait.flusher))
    (wait_decides trace wait.flusher wait.move (list_of lists wait.flusher))) (effect entry).wait

pub wait_tells : (trace : Trace) (lists : List (List Due)) (item : Item) → Tells (wait_fault trace lists item) (Waits trace lists item)
wait_tells trace lists (begins cpu) = always
wait_tells trace lists (tells cpu entry) = test_tells _ 0 (waits_decide trace cpu lists entry)

own_decides : (trace : Trace) (cpu : ℕ) (entry : Told) → Decides (waits_on_own trace cpu entry) (WaitsOnOwn trace (tells cpu entry))
own_decides trace cpu entry = part_decides (λ (wait : Wait). is_own_flusher trace cpu wait.flusher) (λ wait. is_own_flusher trace cpu wait.flusher ≡ true)
    (λ wait. is_true (is_own_flusher trace cpu wait.flusher)) (effect entry).wait

pub stranger_tells : (trace : Trace) (item : Item) → Tells (stranger_fault trace item) (WaitsOnOwn trace item)
stranger_tells trace (begins cpu) = always
stranger_tells trace (tells cpu entry) = test_tells _ 0 (own_decides trace cpu entry)
