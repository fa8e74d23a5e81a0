-- Seats that take in others, one after another.
use Rattle.std.proofs.Common.{◌≡◌, ℕ, ◌<◌, List, [], ◌∷◌, ◌++◌, length, refl, sym, ap, ◌∙◌, arith}
use Rattle.std.proofs.lemmas.List.Sums.{sum_by_push}
use Rattle.wbt_kit.proofs.Common.{room_in, stakes_in, room_of, Note, fits_length, knows_both, known_of, Known, joined_seat, Seated, AreSeatsOf, AreJoined}
use Rattle.wbt_fraction.specs.declared.total.note.TotalNote.{TotalNote}
use Rattle.wbt_published.specs.Passes.{Seats as EstPass}
use Rattle.wbt_published.proofs.Turns.{joined-at}
use Rattle.wbt_queue.specs.Known as part
use Rattle.wbt_queue.specs.Passes as queue
use Rattle.wbt_queue.specs.declared.known.Known as declared
use Rattle.wbt_kit.specs.declared.kit.Kit.{Kit}
use Rattle.wbt_kit.specs.declared.kit.Seats.{Seats}
use Rattle.wbt_run_seats.specs.Parts.{noted}
use Rattle.wbt_run_seats.specs.Together.{cpus_with, notes_with, tallies_with, known_with, queue_with, AreComplete, TogetherAtFirst, TogetherWithOneMore}
use Rattle.wbt_run_seats.proofs.Passes.{parts_at}
use Rattle.wbt_run_seats.proofs.Shares.{joined_notes, joined_complete}

-- ---- one more at the end

cpus_more : (parts : List Seats) (from : Seats) (cpu : Seated) → cpus_with (parts ++ from ∷ []) cpu ≡ joined_seat (cpus_with parts cpu) from.cpu
cpus_more [] from cpu = refl
cpus_more (part ∷ parts) from cpu = cpus_more parts from (joined_seat cpu part.cpu)

notes_more : (domain : ℕ) (parts : List Seats) (from : Seats) (notes : List Note)
    → notes_with domain (parts ++ from ∷ []) notes ≡ noted from.share domain ++ notes_with domain parts notes
notes_more domain [] from notes = refl
notes_more domain (part ∷ parts) from notes = notes_more domain parts from (noted part.share domain ++ notes)

tallies_more : (parts : List Seats) (from : Seats) (notes : List TotalNote) → tallies_with (parts ++ from ∷ []) notes ≡ from.share.totals.notes ++ tallies_with parts notes
tallies_more [] from notes = refl
tallies_more (part ∷ parts) from notes = tallies_more parts from (part.share.totals.notes ++ notes)

known_more : (context : ℕ) (parts : List Seats) (from : Seats) (known : Known)
    → known_with context (parts ++ from ∷ []) known ≡ knows_both (known_with context parts known) (known_of context from.est)
known_more context [] from known = refl
known_more context (one ∷ parts) from known = known_more context parts from (knows_both known (known_of context one.est))

queue_more : (device : ℕ) (parts : List Seats) (from : Seats) (known : declared.Known)
    → queue_with device (parts ++ from ∷ []) known ≡ part.knows_both (queue_with device parts known) (queue.known_of device from.queue)
queue_more device [] from known = refl
queue_more device (one ∷ parts) from known = queue_more device parts from (part.knows_both known (queue.known_of device one.queue))

-- ---- what a join brings

-- what is known of a context
pub joined_known : (kit : Kit) (old from new : Seats) → AreSeatsOf kit old → AreSeatsOf kit from → AreJoined old from new → (context : ℕ) → context < length kit.published.names
    → known_of context new.est ≡ knows_both (known_of context old.est) (known_of context from.est)
joined_known kit old from new one two joined context less =
    ap (λ (p : EstPass). known_of context p) joined.est ∙ joined-at old.est.known from.est.known context (omega (arith, one.each_context)) (omega (arith, two.each_context))

joined_queue : (kit : Kit) (old from new : Seats) → AreSeatsOf kit old → AreSeatsOf kit from → AreJoined old from new → (device : ℕ) → device < length kit.queues.sizes
    → queue.known_of device new.queue ≡ part.knows_both (queue.known_of device old.queue) (queue.known_of device from.queue)
joined_queue kit old from new one two joined device less =
    ap (λ (q : queue.Seats). queue.known_of device q) joined.queue ∙ parts_at old.queue.known from.queue.known device (omega (arith, one.each_device)) (omega (arith, two.each_device))

-- and with all stakes all notes
pub joined_all : (kit : Kit) (old from new : Seats) → AreSeatsOf kit new → AreJoined old from new → AreComplete kit new
joined_all kit old from new are joined domain less =
    joined_complete old.share.domains from.share.domains new.share.domains joined.shares domain (omega (arith, fits_length kit.shares.domains new.share.domains are.share.0))

-- ---- the laws

pub at_first : TogetherAtFirst
at_first kit seats are = record {
  seats_are = are;
  cpu = refl;
  notes = λ domain. refl;
  stakes = λ domain. omega arith;
  rooms = λ domain. omega arith;
  counted = refl;
  total_stakes = omega arith;
  totals = λ context. omega arith;
  known = λ context less. refl;
  queues = λ device less. refl;
  complete = λ some. absurd (some refl);
}

pub one_more : TogetherWithOneMore
one_more kit old mid from new parts theirs are all joined = record {
  seats_are = are;
  cpu = joined.cpu ∙ ap (λ (s : Seated). joined_seat s from.cpu) all.cpu ∙ sym (cpus_more parts from old.cpu);
  notes = λ domain. joined_notes mid.share.domains from.share.domains new.share.domains joined.shares domain ∙ ap (λ (l : List Note). noted from.share domain ++ l) (all.notes domain)
      ∙ sym (notes_more domain parts from (noted old.share domain));
  stakes = λ domain.
      let both = joined.added.stakes domain in
      let before = all.stakes domain in
      let sum = sum_by_push (λ (part : Seats). stakes_in domain part.share.domains) parts from in omega arith;
  rooms = λ domain.
      let both = joined.added.rooms domain in
      let before = all.rooms domain in
      let sum = sum_by_push (λ (part : Seats). room_in domain part.share.domains) parts from in omega arith;
  counted = joined.totals.notes ∙ ap (λ (l : List TotalNote). from.share.totals.notes ++ l) all.counted ∙ sym (tallies_more parts from old.share.totals.notes);
  total_stakes =
      let both = joined.totals.stakes in
      let before = all.total_stakes in
      let sum = sum_by_push (λ (part : Seats). part.share.totals.stakes) parts from in omega arith;
  totals = λ context.
      let both = joined.added.totals context in
      let before = all.totals context in
      let sum = sum_by_push (λ (part : Seats). room_of context part.share.totals.rooms) parts from in omega arith;
  known = λ context less. joined_known kit mid from new all.seats_are theirs joined context less ∙ ap (λ (k : Known). knows_both k (known_of context from.est)) (all.known context less)
      ∙ sym (known_more context parts from (known_of context old.est));
  queues = λ device less. joined_queue kit mid from new all.seats_are theirs joined device less
      ∙ ap (λ (k : declared.Known). part.knows_both k (queue.known_of device from.queue)) (all.queues device less) ∙ sym (queue_more device parts from (queue.known_of device old.queue));
  complete = λ some. (joined_all kit mid from new are joined, joined.totals.complete);
}
