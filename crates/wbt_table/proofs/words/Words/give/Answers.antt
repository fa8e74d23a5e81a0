use Rattle.std.proofs.Common.{◌≡◌, ℕ, Option, subst}
use Rattle.wbt_table.proofs.Common.{Setting, setting, Logs, LogChanges, MayGive, log_of, LogsGrant}
use Rattle.wbt_table.specs.declared.rule.Granted.{Granted}
use Rattle.wbt_table.proofs.Granting.{none_given, none_logged, grant_logged}
use Rattle.wbt_table.proofs.words.Words.give.Goals as goal

pub returns-in_default-clause-given : goal.returns-in_default-clause-given
returns-in_default-clause-given c r has = none_given c.args.place.now.me.0.cpus c.args.cpu c.args.grants r c.in_default.is has

pub returns-in_default-clause-logs : goal.returns-in_default-clause-logs
returns-in_default-clause-logs c = none_logged c.args.cpu c.args.grants c.args.place.now.me.0.logs c.in_default.is

pub returns-in-Some-clause-logs : goal.returns-in-Some-clause-logs
returns-in-Some-clause-logs c =
    let set' : Setting = setting c.args.self.now.layout in
    let g : Granted = c.in-Some.grant in
    let may = c.requires.may in
    let its : set'.seat g.writer ≡ c.args.cpu = (subst (λ (x : Option Granted). MayGive set' c.args.cpu x may.0) c.in-Some.is may.2).0 in
    let before : Logs = c.args.place.now.me.0.logs in
    let now : Logs = c.grant.new.place.me.0.logs in
    subst (λ (i : ℕ). LogChanges i (LogsGrant c.args.grants) before now) its
    (grant_logged set' (log_of set' (set'.seat g.writer)) (set'.seat g.writer) g.writer g.left c.grant.result c.args.grants before now c.in-Some.is c.grant.ensures.turned.logs)
