use Rattle.std.proofs.Common.{refl}
use Rattle.std.specs.Fmt.{digits}
use Rattle.wbt_replay_order.proofs.Common.{log2, halvings, packed_pages, thresholds_of, threshold, global_threshold, background_below, domain_batch, context_batch, first_at, updated, update_of, polynom_value, position_ratio, first, page_after, ended, new_writer, ages_in, first_estimate, quota_of, page_at, is_strict, domain_loads, measures_of, weighs_of, make_step, make_move, make_timer_step, make_timer_move, domain_turns, domain_periods, opening, run, seek_turn, seek_job, task_turn, tasks_sooner, flushers_sooner, journal_of, journal_lines}
use Rattle.wbt_replay_worked.specs.WorkedOrders.{HaltedRun}
use Rattle.wbt_replay_worked.proofs.worked.halted_run.Goals as goal

pub returns : goal.returns
unfolding ages_in HaltedRun journal_of opening run seek_turn seek_job task_turn tasks_sooner flushers_sooner make_step make_move make_timer_step make_timer_move domain_turns domain_periods domain_loads measures_of weighs_of new_writer first page_after ended first_at first_estimate quota_of page_at updated update_of polynom_value position_ratio is_strict thresholds_of threshold global_threshold background_below domain_batch context_batch log2 halvings packed_pages journal_lines digits
returns c = refl
