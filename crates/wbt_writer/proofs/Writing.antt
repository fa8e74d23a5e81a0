-- A whole write: the step, and what follows it.
use Rattle.std.proofs.Common.{ℕ, ◌+◌, Bool, true, false, List, [], ◌∷◌, refl, sym, ap, ◌∙◌, subst}
use Rattle.wbt_writer.proofs.Common.{writer_in, WriterRecord, wrote, CpuJournal, setting, Fresh, Already, Trace, Kit, Seats, IsStopped, first_page, HaveLefts, Sight, sight, Does, CutOff, Dirties}
use Rattle.wbt_writer.specs.Writes.{Finished, Finishes, Writes, Written, WrittenFresh}
use Rattle.wbt_writer.specs.declared.tasks.Tasks.{Tasks}
use Rattle.wbt_writer.specs.declared.work.WriterWork.{WriterWork}
use Rattle.wbt_writer.specs.declared.write.Wrote.{Wrote}
use Rattle.wbt_writer.specs.declared.write.Wrote.TheVariants as wrote_it
use Rattle.wbt_writer.proofs.Marking.{puts_do}
use Rattle.wbt_writer.proofs.Noting.{does_more}

-- nothing was done
pub does_none : (trace : Trace) (opened cpu : ℕ) (work : WriterWork) (seats : Seats) (log : CpuJournal) → Does trace opened cpu [] (sight work seats log) (sight work seats log)
does_none trace opened cpu work seats log = puts_do trace opened cpu work work seats seats log (record { tasks = refl; fractions = refl; cpu = refl; share = refl; est = refl; queues = λ device. refl })

pub stopped_first : (trace : Trace) (opened cpu : ℕ) (said : ℕ → ℕ → Bool → Type 0) (work : WriterWork) (seats : Seats) (log : CpuJournal) → IsStopped cpu said seats → CutOff trace cpu opened said (sight work seats log) (sight work seats log)
stopped_first trace opened cpu said work seats log stopped = record { added = []; does = does_none trace opened cpu work seats log; stopped = stopped }

module _ (trace : Trace) (kit : Kit) (cpu task inode page : ℕ) (said : ℕ → ℕ → Bool → Type 0) (old mid new : Sight) where
  abbrev opened : ℕ
  opened = kit.published.moment

  pub written_already : Dirties trace kit cpu task inode page Already old new → Written trace kit cpu (wrote task (first_page trace inode + page) false ∷ []) old new
  written_already d = record { does = d.does; owes_nothing = d.leaves.0; lefts = d.lefts; owes_no_more = d.leaves.1 }

  whole : Dirties trace kit cpu task inode page Fresh old mid → Finished trace kit cpu inode mid new → WrittenFresh trace kit cpu task inode page old new
  whole d f = record {
    folds = f.folds;
    each_fold = f.each_fold;
    written = record {
      does = does_more trace opened cpu (wrote task (first_page trace inode + page) true ∷ []) f.folds old mid new d.does f.does;
      owes_nothing = f.paid;
      lefts = subst (λ (s : Tasks). HaveLefts trace cpu kit s new.seats) (sym f.tasks) (record {
        each = λ w low seat ended quiet. ap (λ (l : List WriterRecord). (writer_in (setting kit.throttle.layout) w l).left) f.writers ∙ d.lefts.each w low seat ended quiet;
      });
      owes_no_more = λ i owes. let m = f.marks_paid i owes in d.leaves.1 i m.0 m.1;
    };
    before_mark = f.before_mark;
    marks = f.marks;
  }

  pub writes_fresh : (answer : Wrote) → Dirties trace kit cpu task inode page Fresh old mid → Finishes trace kit cpu inode said answer mid new → Writes trace kit cpu task inode page said answer old new
  writes_fresh wrote_it.Fresh d f = whole d f
  writes_fresh wrote_it.Stopped d f = record {
    added = wrote task (first_page trace inode + page) true ∷ f.added;
    does = does_more trace opened cpu (wrote task (first_page trace inode + page) true ∷ []) f.added old mid new d.does f.does;
    stopped = f.stopped;
  }
  writes_fresh wrote_it.Already d f = absurd f
  writes_fresh wrote_it.Spent d f = absurd f
