-- What an act tells.
use Rattle.std.specs.Prelude.{Option, Some, None, List, [], ◌∷◌}
use Rattle.wbt_journal.specs.Effects.{Share}
use Rattle.wbt_journal.specs.Told.{Told, wrote, folded, checked, claimed, batch, done, share, estimated, fault, gave_back, noticed, aged, took}
use Rattle.wbt_audit_walk.specs.declared.act.Act.{Act}
use Rattle.wbt_audit_walk.specs.declared.act.Act.TheVariants as act
use Rattle.wbt_audit_walk.specs.declared.act.Added.{Added}

-- what each kind of act tells
abbrev pub told_of : (act : Act) → Told
told_of (act.Write task page fresh) = wrote task page fresh
told_of (act.Fold fold) = folded fold
told_of (act.Check check) = checked check.now
told_of (act.Claim flusher page) = claimed flusher page
told_of (act.Batch flusher pages now until) = batch flusher pages now until
told_of (act.Done flusher page) = done flusher page
told_of (act.Share domain context n) = share domain context n
told_of (act.Est est) = estimated est.now
told_of (act.Fault flusher pages) = fault flusher pages
told_of (act.Back flusher page absorbed) = gave_back flusher page absorbed
told_of (act.Notice flusher inode since) = noticed flusher inode since
told_of (act.Age flusher inode due now) = aged flusher inode due now
told_of (act.Take flusher inode) = took flusher inode

-- an act, where there is one, as a list
abbrev pub told_by : (which : Option Act) → List Told
told_by None = []
told_by (Some act) = told_of act ∷ []

-- what was added for a context in a domain
abbrev pub added_of : (added : Added) → Share
added_of added = record { domain = added.domain; context = added.context; n = added.n }
