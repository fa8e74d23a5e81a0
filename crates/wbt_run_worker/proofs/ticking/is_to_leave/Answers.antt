use Rattle.std.proofs.Common.{false, ap, refl, ◌∙◌}
use Rattle.wbt_run_worker.proofs.Common.{Known}
use Rattle.wbt_run_worker.proofs.Speaking.{timer_looked, timer_looked_for, timer_more, timer_now}
use Rattle.wbt_run_worker.proofs.ticking.is_to_leave.Goals as goal

pub loop-init : goal.loop-init
loop-init g c = (tt, tt, refl, λ refused. timer_now c.args.condition.now.signals refused c.args.voice.now c.requires.voice)

pub all_have_left-requires : goal.all_have_left-requires
all_have_left-requires g c = record { voice = (c.loop.invariant.3 false).its }

pub is_quiet-requires : goal.is_quiet-requires
is_quiet-requires g c = record { voice = ap (λ (v : Known). v.signals) c.all_have_left.ensures.gone ∙ (c.loop.invariant.3 false).its }

pub returns-then-all_have_left-clause-speaks : goal.returns-then-all_have_left-clause-speaks
returns-then-all_have_left-clause-speaks g c = λ refused.
    timer_more c.args.condition.now.signals refused refused refused c.args.voice.now c.loop.voice c.all_have_left.new.voice (c.loop.invariant.3 refused)
    (timer_looked_for c.args.condition.now.signals refused c.all_have_left.result c.loop.voice c.all_have_left.new.voice (c.loop.invariant.3 refused).its c.all_have_left.ensures.gone)

pub returns-then-is_in_turns-clause-speaks : goal.returns-then-is_in_turns-clause-speaks
returns-then-is_in_turns-clause-speaks g c = λ refused.
    timer_more c.args.condition.now.signals refused refused refused c.args.voice.now c.loop.voice c.all_have_left.new.voice (c.loop.invariant.3 refused)
    (timer_looked_for c.args.condition.now.signals refused c.all_have_left.result c.loop.voice c.all_have_left.new.voice (c.loop.invariant.3 refused).its c.all_have_left.ensures.gone)

pub returns-then-not-is_quiet-clause-speaks : goal.returns-then-not-is_quiet-clause-speaks
returns-then-not-is_quiet-clause-speaks g c = λ refused. let signals = c.args.condition.now.signals in
    let left = timer_looked_for signals refused c.all_have_left.result c.loop.voice c.all_have_left.new.voice (c.loop.invariant.3 refused).its c.all_have_left.ensures.gone in
    timer_more signals refused refused refused c.args.voice.now c.all_have_left.new.voice c.is_quiet.new.voice
    (timer_more signals refused refused refused c.args.voice.now c.loop.voice c.all_have_left.new.voice (c.loop.invariant.3 refused) left)
    (timer_looked signals refused c.is_quiet.result c.all_have_left.new.voice c.is_quiet.new.voice left.its c.is_quiet.ensures.quiet)

pub loop-preserved : goal.loop-preserved
loop-preserved g c = let signals = c.args.condition.now.signals in let i = c.loop.invariant in (
  tt,
  tt,
  ap (λ (v : Known). v.rings) c.is_quiet.ensures.quiet ∙ ap (λ (v : Known). v.rings) c.all_have_left.ensures.gone ∙ i.2,
  λ refused. let left = timer_looked_for signals refused c.all_have_left.result c.loop.voice c.all_have_left.new.voice (i.3 refused).its c.all_have_left.ensures.gone in
      timer_more signals refused refused refused c.args.voice.now c.all_have_left.new.voice c.is_quiet.new.voice
      (timer_more signals refused refused refused c.args.voice.now c.loop.voice c.all_have_left.new.voice (i.3 refused) left)
      (timer_looked signals refused c.is_quiet.result c.all_have_left.new.voice c.is_quiet.new.voice left.its c.is_quiet.ensures.quiet),
)
