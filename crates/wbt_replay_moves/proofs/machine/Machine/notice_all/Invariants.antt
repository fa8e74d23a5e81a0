use Rattle.std.proofs.Common.{◌≡◌, ◌<◌, ◌-◌, length}
use Rattle.wbt_replay_moves.specs.Definition.Idle as spec
use Rattle.wbt_replay_moves.specs.Kept.Fit.{NoticesFit}
use Rattle.wbt_replay_moves.specs.Seen.{seen}
use Rattle.wbt_replay_moves.proofs.machine.Machine.notice_all.Given as goal

abbrev pub invariant-loop : goal.invariant-loop
invariant-loop l = record {
  same : spec.notice_all l.trace l.cpu l.flusher l.since (64 - l.counter) (seen l.self) ≡ spec.notice_all l.trace l.cpu l.flusher l.since 64 (seen l.initial.self);
  cpu : l.cpu < length (seen l.self).cpus;
  fits : NoticesFit l.trace l.flusher l.since (seen l.self);
}
