use Rattle.std.proofs.Common.{refl}
use Rattle.std.specs.Fmt.{digits}
use Rattle.wbt_replay_order.proofs.Common.{log2, halvings, packed_pages, thresholds_of, threshold, global_threshold, background_below, domain_batch, context_batch, first_at, updated, update_of, polynom_value, position_ratio, decided, rate_of, cut_decision, go_decision, throttled, decision_of, longest_pause, least_pause, decision_for, first, page_after, ended, new_writer, ages_in, first_estimate, quota_of, page_at, is_strict, domain_loads, measures_of, weighs_of, make_step, make_move, make_timer_step, make_timer_move, domain_turns, domain_periods, opening, run, seek_turn, seek_job, task_turn, tasks_sooner, flushers_sooner, journal_of, journal_lines}
use Rattle.wbt_replay_worked.specs.WorkedTimer.{OvertakenRun}
use Rattle.wbt_replay_worked.proofs.worked.overtaken_run.Goals as goal

pub returns : goal.returns
unfolding ages_in OvertakenRun journal_of opening run seek_turn seek_job task_turn tasks_sooner flushers_sooner make_step make_move make_timer_step make_timer_move domain_turns domain_periods domain_loads measures_of weighs_of new_writer first page_after ended first_at first_estimate quota_of page_at updated update_of polynom_value position_ratio decided rate_of cut_decision go_decision throttled decision_of decision_for is_strict longest_pause least_pause thresholds_of threshold global_threshold background_below domain_batch context_batch log2 halvings packed_pages journal_lines digits
returns c = refl
