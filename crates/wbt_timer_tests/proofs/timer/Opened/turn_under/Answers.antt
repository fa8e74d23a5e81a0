use Rattle.wbt_timer_tests.proofs.timer.Opened.turn_under.Goals as goal

pub returns : goal.returns
returns g c = c.turn.ensures.ready c.args.self.now.trace c.requires
