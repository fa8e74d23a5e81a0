-- A worker's turns with its log, one after another.
use Rattle.std.proofs.Common.{◌≡◌, List, [], ◌++◌, sym, refl, ap, ◌∙◌, subst, append_assoc, append-nil}
use Rattle.wbt_run_laws.proofs.Common.{Told, told, TimerEntry, NotedSince, TimerSince}
use Rattle.wbt_journal.specs.Told.{NamesInOrder}
use Rattle.wbt_journal.specs.declared.entry.CpuJournal.{CpuJournal}
use Rattle.wbt_run_laws.specs.Worker.{WritersGo, FlusherGoes, WentNowhere, WentOn, LogIsWhole, TimerWentNowhere, TimerWentOn, TimerLogIsWhole}
use Rattle.wbt_run_laws.proofs.Logging.{logged_nothing, logged_both}
use Rattle.wbt_run_laws.proofs.Noting.{noted_of_writers, noted_of_flusher, noted_now, noted_more}
use Rattle.wbt_run_laws.proofs.Ticking.{ticked_now, ticked_more}

pub writers_go : WritersGo
writers_go trace opened cpu old new took = record {
  added = took.added;
  logged = took.logged;
  since = noted_of_writers trace opened cpu took.added old.shown new.shown old.notes new.notes took.turn;
}

pub flusher_goes : FlusherGoes
flusher_goes trace opened cpu flusher old new took = record {
  added = took.added;
  logged = took.logged;
  since = noted_of_flusher trace opened cpu flusher took.added old.shown new.shown old.notes new.notes took.turn;
}

pub went_nowhere : WentNowhere
went_nowhere trace opened cpu worker = record { added = []; logged = logged_nothing worker.log; since = noted_now trace opened cpu worker.shown worker.notes }

pub went_on : WentOn
went_on trace opened cpu old mid new p q = record {
  added = p.added ++ q.added;
  logged = logged_both p.added q.added old.log mid.log new.log p.logged q.logged;
  since = noted_more trace opened cpu p.added q.added old.shown mid.shown new.shown old.notes mid.notes new.notes p.since q.since;
}

pub log_is_whole : LogIsWhole
log_is_whole trace opened cpu old new empty went =
    let named : NamesInOrder old.log = subst NamesInOrder (sym empty) (refl, refl) in
    let all : told new.log ≡ went.added = went.logged.tells named ∙ ap (λ (log : CpuJournal). told log ++ went.added) empty in
    record {
      names = went.logged.names named;
      since = subst (λ (es : List Told). NotedSince trace opened cpu es old.shown new.shown old.notes new.notes) (sym all) went.since;
    }

pub timer_went_nowhere : TimerWentNowhere
timer_went_nowhere trace opened worker = record { added = []; logged = sym (append-nil worker.log); since = ticked_now trace opened worker.ticked }

pub timer_went_on : TimerWentOn
timer_went_on trace opened m n old mid new p q = record {
  added = p.added ++ q.added;
  logged = q.logged ∙ ap (λ (l : List TimerEntry). l ++ q.added) p.logged ∙ append_assoc old.log p.added q.added;
  since = ticked_more trace opened m n p.added q.added old.ticked mid.ticked new.ticked p.since q.since;
}

pub timer_log_is_whole : TimerLogIsWhole
timer_log_is_whole trace opened stops old new empty went =
    let all : new.log ≡ went.added = went.logged ∙ ap (λ (l : List TimerEntry). l ++ went.added) empty in
    subst (λ (es : List TimerEntry). TimerSince trace opened stops es old.ticked new.ticked) (sym all) went.since
