use Rattle.std.proofs.Common.{true≢false, sym, refl, ◌∙◌, eq-eqb}
use Rattle.wbt_writer.proofs.work.WriterWork.mark.Goals as goal
use Rattle.wbt_writer.proofs.Exacting.{marks_alone, marks_put}
use Rattle.wbt_writer.proofs.Marking.{at_marked, marked}

pub put-requires-clause-at_kit : goal.put-requires-clause-at_kit
put-requires-clause-at_kit g c =
    let m = c.mark.ensures.marks in
    at_marked c.args.place.now.trace.now c.args.hands.now.kit.now c.args.place.now.cpu c.args.inode m.found c.args.self.now c.args.seats.now c.mark.new.seats c.requires.at_kit m.only m.makes

pub returns-then-mark-clause-marked : goal.returns-then-mark-clause-marked
returns-then-mark-clause-marked g c =
    let m = c.mark.ensures.marks in
    marked c.args.place.now.trace.now c.args.hands.now.kit.now c.args.place.now.cpu c.args.inode m.found c.args.self.now c.args.seats.now c.mark.new.seats c.requires.at_kit
    m.only m.makes c.put.new.self c.put.new.seats c.put.ensures.only (λ found. c.put.ensures.put)

pub returns-else-mark-clause-at_kit : goal.returns-else-mark-clause-at_kit
returns-else-mark-clause-at_kit g c =
    let m = c.mark.ensures.marks in
    at_marked c.args.place.now.trace.now c.args.hands.now.kit.now c.args.place.now.cpu c.args.inode m.found c.args.self.now c.args.seats.now c.mark.new.seats c.requires.at_kit m.only m.makes

pub returns-else-mark-clause-marked : goal.returns-else-mark-clause-marked
returns-else-mark-clause-marked g c =
    let m = c.mark.ensures.marks in
    marked c.args.place.now.trace.now c.args.hands.now.kit.now c.args.place.now.cpu c.args.inode m.found c.args.self.now c.args.seats.now c.mark.new.seats c.requires.at_kit
    m.only m.makes c.args.self.now c.mark.new.seats
    (record { tasks = refl; fractions = refl; cpu = refl; share = refl; est = refl; queues = λ device. refl })
    (λ found. absurd (true≢false (sym (eq-eqb m.found 0 found) ∙ sym m.is_clear ∙ c.if-mark.false)))

pub returns-then-mark-clause-marks : goal.returns-then-mark-clause-marks
returns-then-mark-clause-marks g c =
    marks_put c.args.place.now.trace.now c.args.hands.now.kit.now c.args.place.now.cpu c.args.inode c.mark.result c.args.seats.now c.mark.new.seats c.put.new.seats c.args.self.now c.put.new.self
    c.mark.ensures.marks c.if-mark.true c.put.ensures.only c.put.ensures.puts

pub returns-else-mark-clause-marks : goal.returns-else-mark-clause-marks
returns-else-mark-clause-marks g c =
    marks_alone c.args.place.now.trace.now c.args.hands.now.kit.now c.args.place.now.cpu c.args.inode c.mark.result c.args.seats.now c.mark.new.seats c.args.self.now.waiting.items c.mark.ensures.marks c.if-mark.false
