-- With all stakes back all notes are there, and the stakes of all queues.
use Rattle.std.proofs.Common.{◌≡◌, ℕ, zero, suc, ◌+◌, ◌-◌, ◌^◌, ◌<◌, ◌≤◌, List, [], ◌∷◌, length, map, get_or, refl, ap, ◌∙◌, arith}
use Rattle.std.specs.List.{sum_by}
use Rattle.std.proofs.lemmas.List.Sums.{sum_by-cons}
use Rattle.wbt_kit.proofs.Common.{fits_length, AllJoined, stakes_in, AreFirst}
use Rattle.wbt_fraction.specs.Seat.{Seated as ShareSeat}
use Rattle.wbt_fraction.specs.Several.{AllFirst}
use Rattle.wbt_kit.specs.declared.kit.Kit.{Kit}
use Rattle.wbt_kit.specs.declared.kit.Seats.{Seats}
use Rattle.wbt_queue.specs.Known as passes
use Rattle.wbt_queue.specs.Known.{handed, opening as empty}
use Rattle.wbt_queue.specs.Passes as queue
use Rattle.wbt_queue.specs.declared.known.Known.{Known as Queued}
use Rattle.wbt_run_steps.specs.Queues.{HasAllStakes, KeepsQueueStakes}
use Rattle.wbt_run_seats.specs.Gathered.{HasOneStake, AllNotesComeTogether}
use Rattle.wbt_run_seats.specs.Parts.{IsLeft, IsPart}
use Rattle.wbt_run_seats.specs.Together.{AreTogether, queue_with}
use Rattle.wbt_run_seats.proofs.Passes.{parts_at}
use Rattle.wbt_run_seats.proofs.Shares.{joined_complete}

joined_stakes : (old from new : List ShareSeat) → AllJoined old from new → (d : ℕ) → stakes_in d new ≡ stakes_in d old + stakes_in d from
joined_stakes [] [] [] all d = refl
joined_stakes [] [] (n ∷ new) all d = absurd all
joined_stakes [] (f ∷ from) new all d = absurd all
joined_stakes (o ∷ old) [] new all d = absurd all
joined_stakes (o ∷ old) (f ∷ from) [] all d = absurd all
joined_stakes (o ∷ old) (f ∷ from) (n ∷ new) all zero = all.0.stakes
joined_stakes (o ∷ old) (f ∷ from) (n ∷ new) all (suc d) = joined_stakes old from new all.1 d

first_stakes : (seats : List ShareSeat) (d : ℕ) → d < length seats → AllFirst seats → stakes_in d seats ≡ 2 ^ 32
first_stakes [] d less all = absurd (omega arith)
first_stakes (s ∷ seats) zero less all = (all 0 s (omega arith)).1
first_stakes (s ∷ seats) (suc d) less all = first_stakes seats d (omega arith) (λ k e low. all (suc k) e (omega arith))

one_each : (kit : Kit) (others : List Seats) (d : ℕ) → d < length kit.shares.domains → ((n : ℕ) (other : Seats) → n < length others → HasOneStake kit (get_or others n other))
    → sum_by (λ (part : Seats). stakes_in d part.share.domains) others ≡ length others
one_each kit [] d low each = refl
one_each kit (part ∷ others) d low each =
    let here = each 0 part (omega arith) d low in
    let rest = one_each kit others d low (λ n other less. each (suc n) other (omega arith)) in
    let sum = sum_by-cons (λ (p : Seats). stakes_in d p.share.domains) part others in
    omega arith

pub all_notes_come_together : AllNotesComeTogether
all_notes_come_together kit first left one mid others timer cpus new are begins rest kept single each together stays joined its domain low =
    let all = first_stakes first.share.domains domain (omega (arith, fits_length kit.shares.domains first.share.domains are.share.0)) begins.shares in
    let gone = rest.stakes domain low in
    let same = kept domain in
    let mine = single domain low in
    let theirs = one_each kit others domain low each in
    let sum = together.stakes domain in
    let still = stays domain in
    let both = joined_stakes timer.domains cpus.domains new.domains joined domain in
    joined_complete timer.domains cpus.domains new.domains joined domain (omega (arith, fits_length kit.shares.domains new.domains its.0)) (omega arith)

-- ---- stakes of queues

-- one stake of each device's queue
abbrev pub HasOneOfEach : (kit : Kit) (seats : Seats) → Type 0
HasOneOfEach kit seats = (device : ℕ) → device < length kit.queues.sizes → (queue.known_of device seats.queue).stakes ≡ 1

first_queue : (sizes : List ℕ) (device : ℕ) → (get_or (map (λ _. empty) sizes) device empty).stakes ≡ 2 ^ 32
first_queue [] device = refl
first_queue (size ∷ sizes) zero = refl
first_queue (size ∷ sizes) (suc device) = first_queue sizes device

all_at_first : (kit : Kit) (first : Seats) → AreFirst kit first → (device : ℕ) → (queue.known_of device first.queue).stakes ≡ 2 ^ 32
all_at_first kit first are device = ap (λ (l : List Queued). (get_or l device empty).stakes) are.queue ∙ first_queue kit.queues.sizes device

one_handed : (stakes : ℕ) → 2 ≤ stakes → handed stakes ≡ 1
one_handed zero some = absurd (omega arith)
one_handed (suc zero) some = absurd (omega arith)
one_handed (suc (suc more)) some = refl

-- the part of one of a few CPUs
pub part_has_one : (kit : Kit) (cpu : ℕ) (first part : Seats) → AreFirst kit first → cpu ≤ 64 → IsPart kit cpu first part → HasOneOfEach kit part
part_has_one kit cpu first part are few is device low =
    let all = all_at_first kit first are device in
    ap (λ (k : Queued). k.stakes) (is.queues device low) ∙ one_handed ((queue.known_of device first.queue).stakes - cpu) (omega arith)

-- passes that are taken in bring a stake each
with_each : (device : ℕ) (parts : List Seats) (known : Queued) → ((n : ℕ) (other : Seats) → n < length parts → (queue.known_of device (get_or parts n other).queue).stakes ≡ 1)
    → (queue_with device parts known).stakes ≡ known.stakes + length parts
with_each device [] known each = omega arith
with_each device (one ∷ parts) known each =
    let here : (queue.known_of device one.queue).stakes ≡ 1 = each 0 one (omega arith) in
    let rest : (queue_with device (one ∷ parts) known).stakes ≡ (known.stakes + (queue.known_of device one.queue).stakes) + length parts =
    with_each device parts (passes.knows_both known (queue.known_of device one.queue)) (λ n other less. each (suc n) other (omega arith)) in
    omega arith

-- Where the parts of all CPUs kept their stakes, and what was left of the first seats kept its own, the pass that takes in those of the CPUs has
-- all stakes.
pub all_stakes_come_together : (kit : Kit) (first left one mid : Seats) (others : List Seats) (timer new : queue.Seats) → AreFirst kit first → 1 + length others ≤ 64
    → IsLeft kit (1 + length others) first left → KeepsQueueStakes left.queue timer → length timer.known ≡ length kit.queues.sizes → HasOneOfEach kit one
    → ((n : ℕ) (other : Seats) → n < length others → HasOneOfEach kit (get_or others n other)) → AreTogether kit one others mid
    → new ≡ record timer { known = queue.all_joined timer.known mid.queue.known } → HasAllStakes kit.queues new
all_stakes_come_together kit first left one mid others timer new are few rest kept long single each together is device low =
    let all = all_at_first kit first are device in
    let gone = rest.queues device low in
    let same = kept device in
    let mine = single device low in
    let came : (queue.known_of device mid.queue).stakes ≡ (queue.known_of device one.queue).stakes + length others =
    ap (λ (k : Queued). k.stakes) (together.queues device low) ∙ with_each device others (queue.known_of device one.queue) (λ n other less. each n other less device low) in
    let both : (queue.known_of device new).stakes ≡ (queue.known_of device timer).stakes + (queue.known_of device mid.queue).stakes =
    ap (λ (q : queue.Seats). (queue.known_of device q).stakes) is
    ∙ ap (λ (k : Queued). k.stakes) (parts_at timer.known mid.queue.known device (omega (arith, low, long)) (omega (arith, low, together.seats_are.each_device))) in
    omega arith
