-- Each verdict by computation: made by tools/judged-values.
use Rattle.std.proofs.Common.{◌≡◌, refl}
use Rattle.wbt_counter.specs.Batch.{domain_batch, context_batch}
use Rattle.wbt_num.specs.Arithmetic.{halvings, log2}
use Rattle.wbt_position.specs.Polynom.{polynom_value}
use Rattle.wbt_position.specs.Position.{position_ratio}
use Rattle.wbt_pause.specs.Pauses.{longest_pause, least_pause}
use Rattle.wbt_estimate.specs.Estimate.{first_at}
use Rattle.wbt_limits.specs.Thresholds.{global_threshold, threshold, background_below, thresholds_of}
use Rattle.wbt_pause.specs.Decision.{decided, rate_of, cut_decision, go_decision, throttled, decision_of}
use Rattle.wbt_expiry.specs.Waiting.{with_pair, has_inode}
use Rattle.wbt_rules.specs.Age.{ages_in, expire_ticks}
use Rattle.wbt_rules.specs.First.{first_estimate}
use Rattle.wbt_rules.specs.Strict.{is_strict}
use Rattle.wbt_strict.specs.Decision.{decision_for, exceeded_for}
use Rattle.wbt_strict.specs.Position.{strict_ratio}
use Rattle.wbt_task.specs.Allowance.{first, page_after, ended}
use Rattle.wbt_task.specs.History.{new_writer, new_cpu, cpu_step, cpu_after}
use Rattle.wbt_journal.specs.Checks.{mark_of, with_marks}
use Rattle.wbt_journal.specs.Verdict.{lawful, broken, verdict_of}
use Rattle.wbt_judged.specs.Judged.{AreJudged}
use Rattle.wbt_judged.specs.Found.{case_508_0_trace, case_508_0, case_508_1, case_508_2, case_508_3, case_508_4, case_512_0_trace, case_512_0, case_512_1, case_512_2, case_512_3, case_512_4, case_515_1_trace, case_515_1, case_515_2, case_521_1_trace, case_521_1, case_532_0_trace, case_532_0, case_532_1, case_532_2, case_532_3, case_532_4, case_539_3_trace, case_539_3, case_549_0_trace, case_549_0, case_549_2, case_559_2_trace, case_559_2, case_559_4, case_560_0_trace, case_560_0, case_560_1, case_560_2, case_560_3, case_560_4, case_578_1_trace, case_578_1, case_578_3, case_583_4_trace, case_583_4, case_588_4_trace, case_588_4, case_597_2_trace, case_597_2, case_601_3_trace, case_601_3, case_609_1_trace, case_609_1, case_609_2, case_611_1_trace, case_611_1, case_611_2, case_611_3, case_612_0_trace, case_612_0, case_612_2, case_612_3, case_612_4, case_613_4_trace, case_613_4}
use Rattle.wbt_judged.specs.Strict.{case_514_2_trace, case_514_2, case_514_3, case_527_3_trace, case_527_3, case_533_1_trace, case_533_1, case_538_3_trace, case_538_3, case_548_2_trace, case_548_2, case_548_4, case_550_0_trace, case_550_0, case_556_3_trace, case_556_3, case_568_0_trace, case_568_0, case_568_3, case_569_2_trace, case_569_2, case_569_4, case_626_4_trace, case_626_4}
use Rattle.wbt_judged.specs.Ageing.{case_502_1_trace, case_502_1, case_502_3, case_518_2_trace, case_518_2, case_536_1_trace, case_536_1, case_587_4_trace, case_587_4, case_592_3_trace, case_592_3, case_596_1_trace, case_596_1, case_596_4, case_610_4_trace, case_610_4, case_616_0_trace, case_616_0, case_616_4, case_625_0_trace, case_625_0, case_625_3, case_625_4}
use Rattle.wbt_judged.specs.Changed.{case_ages_trace, case_ages, case_ages_1, case_ages_2, case_ages_3, case_ages_4, case_ages_5, case_ages_6, case_ages_7, case_ages_8, case_ages_9, case_ages_10, case_ages_11, case_ages_12, case_ages_13, case_ages_14, case_ages_15, case_ages_16, case_ages_17, case_ages_18, case_chunked_trace, case_chunked, case_chunked_1, case_chunked_2, case_chunked_3, case_cut_pauses_trace, case_cut_pauses, case_cut_pauses_1, case_cut_pauses_2, case_cut_pauses_3, case_ends_at_its_pace_trace, case_ends_at_its_pace, case_ends_at_its_pace_1, case_fails_eight_times_trace, case_fails_eight_times, case_fails_eight_times_1, case_fails_eight_times_2, case_fails_eight_times_3, case_fails_eight_times_4, case_fails_eight_times_5, case_fails_eight_times_6, case_given_estimate_trace, case_given_estimate, case_given_estimate_1, case_given_estimate_2, case_gives_back_trace, case_gives_back, case_gives_back_1, case_gives_back_2, case_gives_back_3, case_gives_back_4, case_gives_back_5, case_gives_back_6, case_gives_back_7, case_gives_back_8, case_goes_by_its_line_trace, case_goes_by_its_line, case_goes_by_its_line_1, case_goes_on_trace, case_goes_on, case_goes_on_1, case_goes_on_2, case_goes_on_in_a_cgroup_trace, case_goes_on_in_a_cgroup, case_goes_on_in_a_cgroup_1, case_goes_round_trace, case_goes_round, case_goes_round_1, case_goes_round_2, case_goes_round_3, case_goes_round_4, case_goes_round_5, case_goes_round_6, case_goes_round_7, case_is_exempt_trace, case_is_exempt, case_is_exempt_1, case_is_exempt_2, case_is_exempt_with_two_cpus_trace, case_is_exempt_with_two_cpus, case_is_exempt_with_two_cpus_1, case_older_triple_trace, case_older_triple, case_older_triple_1, case_older_triple_2, case_older_triple_3, case_older_triple_4, case_rests_after_three_pages_trace, case_rests_after_three_pages, case_rests_after_three_pages_1, case_rests_after_three_pages_2, case_rests_after_three_pages_3, case_rests_by_its_pace_trace, case_rests_by_its_pace, case_rests_by_its_pace_1, case_rests_by_its_pace_2, case_rests_by_its_pace_3, case_waits_trace, case_waits, case_waits_1, case_waits_2}

is_case_508_0 : verdict_of case_508_0_trace (with_marks case_508_0_trace case_508_0) ≡ lawful
unfolding halvings log2 polynom_value position_ratio strict_ratio longest_pause least_pause domain_batch context_batch first_at first_estimate global_threshold threshold background_below thresholds_of decided rate_of cut_decision go_decision throttled decision_of is_strict decision_for exceeded_for first page_after ended new_writer new_cpu cpu_step cpu_after mark_of verdict_of ages_in expire_ticks with_pair has_inode
is_case_508_0 = refl

is_case_508_1 : verdict_of case_508_0_trace (with_marks case_508_0_trace case_508_1) ≡ broken 4 8
unfolding halvings log2 polynom_value position_ratio strict_ratio longest_pause least_pause domain_batch context_batch first_at first_estimate global_threshold threshold background_below thresholds_of decided rate_of cut_decision go_decision throttled decision_of is_strict decision_for exceeded_for first page_after ended new_writer new_cpu cpu_step cpu_after mark_of verdict_of ages_in expire_ticks with_pair has_inode
is_case_508_1 = refl

is_case_508_2 : verdict_of case_508_0_trace (with_marks case_508_0_trace case_508_2) ≡ broken 7 13
unfolding halvings log2 polynom_value position_ratio strict_ratio longest_pause least_pause domain_batch context_batch first_at first_estimate global_threshold threshold background_below thresholds_of decided rate_of cut_decision go_decision throttled decision_of is_strict decision_for exceeded_for first page_after ended new_writer new_cpu cpu_step cpu_after mark_of verdict_of ages_in expire_ticks with_pair has_inode
is_case_508_2 = refl

is_case_508_3 : verdict_of case_508_0_trace (with_marks case_508_0_trace case_508_3) ≡ broken 14 7
unfolding halvings log2 polynom_value position_ratio strict_ratio longest_pause least_pause domain_batch context_batch first_at first_estimate global_threshold threshold background_below thresholds_of decided rate_of cut_decision go_decision throttled decision_of is_strict decision_for exceeded_for first page_after ended new_writer new_cpu cpu_step cpu_after mark_of verdict_of ages_in expire_ticks with_pair has_inode
is_case_508_3 = refl

is_case_508_4 : verdict_of case_508_0_trace (with_marks case_508_0_trace case_508_4) ≡ broken 8 9
unfolding halvings log2 polynom_value position_ratio strict_ratio longest_pause least_pause domain_batch context_batch first_at first_estimate global_threshold threshold background_below thresholds_of decided rate_of cut_decision go_decision throttled decision_of is_strict decision_for exceeded_for first page_after ended new_writer new_cpu cpu_step cpu_after mark_of verdict_of ages_in expire_ticks with_pair has_inode
is_case_508_4 = refl

is_case_512_0 : verdict_of case_512_0_trace (with_marks case_512_0_trace case_512_0) ≡ lawful
unfolding halvings log2 polynom_value position_ratio strict_ratio longest_pause least_pause domain_batch context_batch first_at first_estimate global_threshold threshold background_below thresholds_of decided rate_of cut_decision go_decision throttled decision_of is_strict decision_for exceeded_for first page_after ended new_writer new_cpu cpu_step cpu_after mark_of verdict_of ages_in expire_ticks with_pair has_inode
is_case_512_0 = refl

is_case_512_1 : verdict_of case_512_0_trace (with_marks case_512_0_trace case_512_1) ≡ broken 14 4
unfolding halvings log2 polynom_value position_ratio strict_ratio longest_pause least_pause domain_batch context_batch first_at first_estimate global_threshold threshold background_below thresholds_of decided rate_of cut_decision go_decision throttled decision_of is_strict decision_for exceeded_for first page_after ended new_writer new_cpu cpu_step cpu_after mark_of verdict_of ages_in expire_ticks with_pair has_inode
is_case_512_1 = refl

is_case_512_2 : verdict_of case_512_0_trace (with_marks case_512_0_trace case_512_2) ≡ broken 14 6
unfolding halvings log2 polynom_value position_ratio strict_ratio longest_pause least_pause domain_batch context_batch first_at first_estimate global_threshold threshold background_below thresholds_of decided rate_of cut_decision go_decision throttled decision_of is_strict decision_for exceeded_for first page_after ended new_writer new_cpu cpu_step cpu_after mark_of verdict_of ages_in expire_ticks with_pair has_inode
is_case_512_2 = refl

is_case_512_3 : verdict_of case_512_0_trace (with_marks case_512_0_trace case_512_3) ≡ broken 14 7
unfolding halvings log2 polynom_value position_ratio strict_ratio longest_pause least_pause domain_batch context_batch first_at first_estimate global_threshold threshold background_below thresholds_of decided rate_of cut_decision go_decision throttled decision_of is_strict decision_for exceeded_for first page_after ended new_writer new_cpu cpu_step cpu_after mark_of verdict_of ages_in expire_ticks with_pair has_inode
is_case_512_3 = refl

is_case_512_4 : verdict_of case_512_0_trace (with_marks case_512_0_trace case_512_4) ≡ broken 14 15
unfolding halvings log2 polynom_value position_ratio strict_ratio longest_pause least_pause domain_batch context_batch first_at first_estimate global_threshold threshold background_below thresholds_of decided rate_of cut_decision go_decision throttled decision_of is_strict decision_for exceeded_for first page_after ended new_writer new_cpu cpu_step cpu_after mark_of verdict_of ages_in expire_ticks with_pair has_inode
is_case_512_4 = refl

is_case_515_1 : verdict_of case_515_1_trace (with_marks case_515_1_trace case_515_1) ≡ broken 13 15
unfolding halvings log2 polynom_value position_ratio strict_ratio longest_pause least_pause domain_batch context_batch first_at first_estimate global_threshold threshold background_below thresholds_of decided rate_of cut_decision go_decision throttled decision_of is_strict decision_for exceeded_for first page_after ended new_writer new_cpu cpu_step cpu_after mark_of verdict_of ages_in expire_ticks with_pair has_inode
is_case_515_1 = refl

is_case_515_2 : verdict_of case_515_1_trace (with_marks case_515_1_trace case_515_2) ≡ broken 12 5
unfolding halvings log2 polynom_value position_ratio strict_ratio longest_pause least_pause domain_batch context_batch first_at first_estimate global_threshold threshold background_below thresholds_of decided rate_of cut_decision go_decision throttled decision_of is_strict decision_for exceeded_for first page_after ended new_writer new_cpu cpu_step cpu_after mark_of verdict_of ages_in expire_ticks with_pair has_inode
is_case_515_2 = refl

is_case_521_1 : verdict_of case_521_1_trace (with_marks case_521_1_trace case_521_1) ≡ broken 4 11
unfolding halvings log2 polynom_value position_ratio strict_ratio longest_pause least_pause domain_batch context_batch first_at first_estimate global_threshold threshold background_below thresholds_of decided rate_of cut_decision go_decision throttled decision_of is_strict decision_for exceeded_for first page_after ended new_writer new_cpu cpu_step cpu_after mark_of verdict_of ages_in expire_ticks with_pair has_inode
is_case_521_1 = refl

is_case_532_0 : verdict_of case_532_0_trace (with_marks case_532_0_trace case_532_0) ≡ lawful
unfolding halvings log2 polynom_value position_ratio strict_ratio longest_pause least_pause domain_batch context_batch first_at first_estimate global_threshold threshold background_below thresholds_of decided rate_of cut_decision go_decision throttled decision_of is_strict decision_for exceeded_for first page_after ended new_writer new_cpu cpu_step cpu_after mark_of verdict_of ages_in expire_ticks with_pair has_inode
is_case_532_0 = refl

is_case_532_1 : verdict_of case_532_0_trace (with_marks case_532_0_trace case_532_1) ≡ broken 16 23
unfolding halvings log2 polynom_value position_ratio strict_ratio longest_pause least_pause domain_batch context_batch first_at first_estimate global_threshold threshold background_below thresholds_of decided rate_of cut_decision go_decision throttled decision_of is_strict decision_for exceeded_for first page_after ended new_writer new_cpu cpu_step cpu_after mark_of verdict_of ages_in expire_ticks with_pair has_inode
is_case_532_1 = refl

is_case_532_2 : verdict_of case_532_0_trace (with_marks case_532_0_trace case_532_2) ≡ broken 9 2
unfolding halvings log2 polynom_value position_ratio strict_ratio longest_pause least_pause domain_batch context_batch first_at first_estimate global_threshold threshold background_below thresholds_of decided rate_of cut_decision go_decision throttled decision_of is_strict decision_for exceeded_for first page_after ended new_writer new_cpu cpu_step cpu_after mark_of verdict_of ages_in expire_ticks with_pair has_inode
is_case_532_2 = refl

is_case_532_3 : verdict_of case_532_0_trace (with_marks case_532_0_trace case_532_3) ≡ broken 13 21
unfolding halvings log2 polynom_value position_ratio strict_ratio longest_pause least_pause domain_batch context_batch first_at first_estimate global_threshold threshold background_below thresholds_of decided rate_of cut_decision go_decision throttled decision_of is_strict decision_for exceeded_for first page_after ended new_writer new_cpu cpu_step cpu_after mark_of verdict_of ages_in expire_ticks with_pair has_inode
is_case_532_3 = refl

is_case_532_4 : verdict_of case_532_0_trace (with_marks case_532_0_trace case_532_4) ≡ broken 14 9
unfolding halvings log2 polynom_value position_ratio strict_ratio longest_pause least_pause domain_batch context_batch first_at first_estimate global_threshold threshold background_below thresholds_of decided rate_of cut_decision go_decision throttled decision_of is_strict decision_for exceeded_for first page_after ended new_writer new_cpu cpu_step cpu_after mark_of verdict_of ages_in expire_ticks with_pair has_inode
is_case_532_4 = refl

is_case_539_3 : verdict_of case_539_3_trace (with_marks case_539_3_trace case_539_3) ≡ broken 13 28
unfolding halvings log2 polynom_value position_ratio strict_ratio longest_pause least_pause domain_batch context_batch first_at first_estimate global_threshold threshold background_below thresholds_of decided rate_of cut_decision go_decision throttled decision_of is_strict decision_for exceeded_for first page_after ended new_writer new_cpu cpu_step cpu_after mark_of verdict_of ages_in expire_ticks with_pair has_inode
is_case_539_3 = refl

is_case_549_0 : verdict_of case_549_0_trace (with_marks case_549_0_trace case_549_0) ≡ lawful
unfolding halvings log2 polynom_value position_ratio strict_ratio longest_pause least_pause domain_batch context_batch first_at first_estimate global_threshold threshold background_below thresholds_of decided rate_of cut_decision go_decision throttled decision_of is_strict decision_for exceeded_for first page_after ended new_writer new_cpu cpu_step cpu_after mark_of verdict_of ages_in expire_ticks with_pair has_inode
is_case_549_0 = refl

is_case_549_2 : verdict_of case_549_0_trace (with_marks case_549_0_trace case_549_2) ≡ broken 16 7
unfolding halvings log2 polynom_value position_ratio strict_ratio longest_pause least_pause domain_batch context_batch first_at first_estimate global_threshold threshold background_below thresholds_of decided rate_of cut_decision go_decision throttled decision_of is_strict decision_for exceeded_for first page_after ended new_writer new_cpu cpu_step cpu_after mark_of verdict_of ages_in expire_ticks with_pair has_inode
is_case_549_2 = refl

is_case_559_2 : verdict_of case_559_2_trace (with_marks case_559_2_trace case_559_2) ≡ broken 8 11
unfolding halvings log2 polynom_value position_ratio strict_ratio longest_pause least_pause domain_batch context_batch first_at first_estimate global_threshold threshold background_below thresholds_of decided rate_of cut_decision go_decision throttled decision_of is_strict decision_for exceeded_for first page_after ended new_writer new_cpu cpu_step cpu_after mark_of verdict_of ages_in expire_ticks with_pair has_inode
is_case_559_2 = refl

is_case_559_4 : verdict_of case_559_2_trace (with_marks case_559_2_trace case_559_4) ≡ broken 13 25
unfolding halvings log2 polynom_value position_ratio strict_ratio longest_pause least_pause domain_batch context_batch first_at first_estimate global_threshold threshold background_below thresholds_of decided rate_of cut_decision go_decision throttled decision_of is_strict decision_for exceeded_for first page_after ended new_writer new_cpu cpu_step cpu_after mark_of verdict_of ages_in expire_ticks with_pair has_inode
is_case_559_4 = refl

is_case_560_0 : verdict_of case_560_0_trace (with_marks case_560_0_trace case_560_0) ≡ lawful
unfolding halvings log2 polynom_value position_ratio strict_ratio longest_pause least_pause domain_batch context_batch first_at first_estimate global_threshold threshold background_below thresholds_of decided rate_of cut_decision go_decision throttled decision_of is_strict decision_for exceeded_for first page_after ended new_writer new_cpu cpu_step cpu_after mark_of verdict_of ages_in expire_ticks with_pair has_inode
is_case_560_0 = refl

is_case_560_1 : verdict_of case_560_0_trace (with_marks case_560_0_trace case_560_1) ≡ broken 16 28
unfolding halvings log2 polynom_value position_ratio strict_ratio longest_pause least_pause domain_batch context_batch first_at first_estimate global_threshold threshold background_below thresholds_of decided rate_of cut_decision go_decision throttled decision_of is_strict decision_for exceeded_for first page_after ended new_writer new_cpu cpu_step cpu_after mark_of verdict_of ages_in expire_ticks with_pair has_inode
is_case_560_1 = refl

is_case_560_2 : verdict_of case_560_0_trace (with_marks case_560_0_trace case_560_2) ≡ broken 12 6
unfolding halvings log2 polynom_value position_ratio strict_ratio longest_pause least_pause domain_batch context_batch first_at first_estimate global_threshold threshold background_below thresholds_of decided rate_of cut_decision go_decision throttled decision_of is_strict decision_for exceeded_for first page_after ended new_writer new_cpu cpu_step cpu_after mark_of verdict_of ages_in expire_ticks with_pair has_inode
is_case_560_2 = refl

is_case_560_3 : verdict_of case_560_0_trace (with_marks case_560_0_trace case_560_3) ≡ broken 13 27
unfolding halvings log2 polynom_value position_ratio strict_ratio longest_pause least_pause domain_batch context_batch first_at first_estimate global_threshold threshold background_below thresholds_of decided rate_of cut_decision go_decision throttled decision_of is_strict decision_for exceeded_for first page_after ended new_writer new_cpu cpu_step cpu_after mark_of verdict_of ages_in expire_ticks with_pair has_inode
is_case_560_3 = refl

is_case_560_4 : verdict_of case_560_0_trace (with_marks case_560_0_trace case_560_4) ≡ broken 9 2
unfolding halvings log2 polynom_value position_ratio strict_ratio longest_pause least_pause domain_batch context_batch first_at first_estimate global_threshold threshold background_below thresholds_of decided rate_of cut_decision go_decision throttled decision_of is_strict decision_for exceeded_for first page_after ended new_writer new_cpu cpu_step cpu_after mark_of verdict_of ages_in expire_ticks with_pair has_inode
is_case_560_4 = refl

is_case_578_1 : verdict_of case_578_1_trace (with_marks case_578_1_trace case_578_1) ≡ broken 12 20
unfolding halvings log2 polynom_value position_ratio strict_ratio longest_pause least_pause domain_batch context_batch first_at first_estimate global_threshold threshold background_below thresholds_of decided rate_of cut_decision go_decision throttled decision_of is_strict decision_for exceeded_for first page_after ended new_writer new_cpu cpu_step cpu_after mark_of verdict_of ages_in expire_ticks with_pair has_inode
is_case_578_1 = refl

is_case_578_3 : verdict_of case_578_1_trace (with_marks case_578_1_trace case_578_3) ≡ broken 12 14
unfolding halvings log2 polynom_value position_ratio strict_ratio longest_pause least_pause domain_batch context_batch first_at first_estimate global_threshold threshold background_below thresholds_of decided rate_of cut_decision go_decision throttled decision_of is_strict decision_for exceeded_for first page_after ended new_writer new_cpu cpu_step cpu_after mark_of verdict_of ages_in expire_ticks with_pair has_inode
is_case_578_3 = refl

is_case_583_4 : verdict_of case_583_4_trace (with_marks case_583_4_trace case_583_4) ≡ broken 13 41
unfolding halvings log2 polynom_value position_ratio strict_ratio longest_pause least_pause domain_batch context_batch first_at first_estimate global_threshold threshold background_below thresholds_of decided rate_of cut_decision go_decision throttled decision_of is_strict decision_for exceeded_for first page_after ended new_writer new_cpu cpu_step cpu_after mark_of verdict_of ages_in expire_ticks with_pair has_inode
is_case_583_4 = refl

is_case_588_4 : verdict_of case_588_4_trace (with_marks case_588_4_trace case_588_4) ≡ broken 14 14
unfolding halvings log2 polynom_value position_ratio strict_ratio longest_pause least_pause domain_batch context_batch first_at first_estimate global_threshold threshold background_below thresholds_of decided rate_of cut_decision go_decision throttled decision_of is_strict decision_for exceeded_for first page_after ended new_writer new_cpu cpu_step cpu_after mark_of verdict_of ages_in expire_ticks with_pair has_inode
is_case_588_4 = refl

is_case_597_2 : verdict_of case_597_2_trace (with_marks case_597_2_trace case_597_2) ≡ broken 4 7
unfolding halvings log2 polynom_value position_ratio strict_ratio longest_pause least_pause domain_batch context_batch first_at first_estimate global_threshold threshold background_below thresholds_of decided rate_of cut_decision go_decision throttled decision_of is_strict decision_for exceeded_for first page_after ended new_writer new_cpu cpu_step cpu_after mark_of verdict_of ages_in expire_ticks with_pair has_inode
is_case_597_2 = refl

is_case_601_3 : verdict_of case_601_3_trace (with_marks case_601_3_trace case_601_3) ≡ broken 3 89
unfolding halvings log2 polynom_value position_ratio strict_ratio longest_pause least_pause domain_batch context_batch first_at first_estimate global_threshold threshold background_below thresholds_of decided rate_of cut_decision go_decision throttled decision_of is_strict decision_for exceeded_for first page_after ended new_writer new_cpu cpu_step cpu_after mark_of verdict_of ages_in expire_ticks with_pair has_inode
is_case_601_3 = refl

is_case_609_1 : verdict_of case_609_1_trace (with_marks case_609_1_trace case_609_1) ≡ broken 12 10
unfolding halvings log2 polynom_value position_ratio strict_ratio longest_pause least_pause domain_batch context_batch first_at first_estimate global_threshold threshold background_below thresholds_of decided rate_of cut_decision go_decision throttled decision_of is_strict decision_for exceeded_for first page_after ended new_writer new_cpu cpu_step cpu_after mark_of verdict_of ages_in expire_ticks with_pair has_inode
is_case_609_1 = refl

is_case_609_2 : verdict_of case_609_1_trace (with_marks case_609_1_trace case_609_2) ≡ broken 8 50
unfolding halvings log2 polynom_value position_ratio strict_ratio longest_pause least_pause domain_batch context_batch first_at first_estimate global_threshold threshold background_below thresholds_of decided rate_of cut_decision go_decision throttled decision_of is_strict decision_for exceeded_for first page_after ended new_writer new_cpu cpu_step cpu_after mark_of verdict_of ages_in expire_ticks with_pair has_inode
is_case_609_2 = refl

is_case_611_1 : verdict_of case_611_1_trace (with_marks case_611_1_trace case_611_1) ≡ broken 13 22
unfolding halvings log2 polynom_value position_ratio strict_ratio longest_pause least_pause domain_batch context_batch first_at first_estimate global_threshold threshold background_below thresholds_of decided rate_of cut_decision go_decision throttled decision_of is_strict decision_for exceeded_for first page_after ended new_writer new_cpu cpu_step cpu_after mark_of verdict_of ages_in expire_ticks with_pair has_inode
is_case_611_1 = refl

is_case_611_2 : verdict_of case_611_1_trace (with_marks case_611_1_trace case_611_2) ≡ broken 6 6
unfolding halvings log2 polynom_value position_ratio strict_ratio longest_pause least_pause domain_batch context_batch first_at first_estimate global_threshold threshold background_below thresholds_of decided rate_of cut_decision go_decision throttled decision_of is_strict decision_for exceeded_for first page_after ended new_writer new_cpu cpu_step cpu_after mark_of verdict_of ages_in expire_ticks with_pair has_inode
is_case_611_2 = refl

is_case_611_3 : verdict_of case_611_1_trace (with_marks case_611_1_trace case_611_3) ≡ broken 16 23
unfolding halvings log2 polynom_value position_ratio strict_ratio longest_pause least_pause domain_batch context_batch first_at first_estimate global_threshold threshold background_below thresholds_of decided rate_of cut_decision go_decision throttled decision_of is_strict decision_for exceeded_for first page_after ended new_writer new_cpu cpu_step cpu_after mark_of verdict_of ages_in expire_ticks with_pair has_inode
is_case_611_3 = refl

is_case_612_0 : verdict_of case_612_0_trace (with_marks case_612_0_trace case_612_0) ≡ lawful
unfolding halvings log2 polynom_value position_ratio strict_ratio longest_pause least_pause domain_batch context_batch first_at first_estimate global_threshold threshold background_below thresholds_of decided rate_of cut_decision go_decision throttled decision_of is_strict decision_for exceeded_for first page_after ended new_writer new_cpu cpu_step cpu_after mark_of verdict_of ages_in expire_ticks with_pair has_inode
is_case_612_0 = refl

is_case_612_2 : verdict_of case_612_0_trace (with_marks case_612_0_trace case_612_2) ≡ broken 12 5
unfolding halvings log2 polynom_value position_ratio strict_ratio longest_pause least_pause domain_batch context_batch first_at first_estimate global_threshold threshold background_below thresholds_of decided rate_of cut_decision go_decision throttled decision_of is_strict decision_for exceeded_for first page_after ended new_writer new_cpu cpu_step cpu_after mark_of verdict_of ages_in expire_ticks with_pair has_inode
is_case_612_2 = refl

is_case_612_3 : verdict_of case_612_0_trace (with_marks case_612_0_trace case_612_3) ≡ broken 9 2
unfolding halvings log2 polynom_value position_ratio strict_ratio longest_pause least_pause domain_batch context_batch first_at first_estimate global_threshold threshold background_below thresholds_of decided rate_of cut_decision go_decision throttled decision_of is_strict decision_for exceeded_for first page_after ended new_writer new_cpu cpu_step cpu_after mark_of verdict_of ages_in expire_ticks with_pair has_inode
is_case_612_3 = refl

is_case_612_4 : verdict_of case_612_0_trace (with_marks case_612_0_trace case_612_4) ≡ broken 12 5
unfolding halvings log2 polynom_value position_ratio strict_ratio longest_pause least_pause domain_batch context_batch first_at first_estimate global_threshold threshold background_below thresholds_of decided rate_of cut_decision go_decision throttled decision_of is_strict decision_for exceeded_for first page_after ended new_writer new_cpu cpu_step cpu_after mark_of verdict_of ages_in expire_ticks with_pair has_inode
is_case_612_4 = refl

is_case_613_4 : verdict_of case_613_4_trace (with_marks case_613_4_trace case_613_4) ≡ broken 2 154
unfolding halvings log2 polynom_value position_ratio strict_ratio longest_pause least_pause domain_batch context_batch first_at first_estimate global_threshold threshold background_below thresholds_of decided rate_of cut_decision go_decision throttled decision_of is_strict decision_for exceeded_for first page_after ended new_writer new_cpu cpu_step cpu_after mark_of verdict_of ages_in expire_ticks with_pair has_inode
is_case_613_4 = refl

is_case_514_2 : verdict_of case_514_2_trace (with_marks case_514_2_trace case_514_2) ≡ broken 4 11
unfolding halvings log2 polynom_value position_ratio strict_ratio longest_pause least_pause domain_batch context_batch first_at first_estimate global_threshold threshold background_below thresholds_of decided rate_of cut_decision go_decision throttled decision_of is_strict decision_for exceeded_for first page_after ended new_writer new_cpu cpu_step cpu_after mark_of verdict_of ages_in expire_ticks with_pair has_inode
is_case_514_2 = refl

is_case_514_3 : verdict_of case_514_2_trace (with_marks case_514_2_trace case_514_3) ≡ broken 16 23
unfolding halvings log2 polynom_value position_ratio strict_ratio longest_pause least_pause domain_batch context_batch first_at first_estimate global_threshold threshold background_below thresholds_of decided rate_of cut_decision go_decision throttled decision_of is_strict decision_for exceeded_for first page_after ended new_writer new_cpu cpu_step cpu_after mark_of verdict_of ages_in expire_ticks with_pair has_inode
is_case_514_3 = refl

is_case_527_3 : verdict_of case_527_3_trace (with_marks case_527_3_trace case_527_3) ≡ broken 2 203
unfolding halvings log2 polynom_value position_ratio strict_ratio longest_pause least_pause domain_batch context_batch first_at first_estimate global_threshold threshold background_below thresholds_of decided rate_of cut_decision go_decision throttled decision_of is_strict decision_for exceeded_for first page_after ended new_writer new_cpu cpu_step cpu_after mark_of verdict_of ages_in expire_ticks with_pair has_inode
is_case_527_3 = refl

is_case_533_1 : verdict_of case_533_1_trace (with_marks case_533_1_trace case_533_1) ≡ broken 13 214
unfolding halvings log2 polynom_value position_ratio strict_ratio longest_pause least_pause domain_batch context_batch first_at first_estimate global_threshold threshold background_below thresholds_of decided rate_of cut_decision go_decision throttled decision_of is_strict decision_for exceeded_for first page_after ended new_writer new_cpu cpu_step cpu_after mark_of verdict_of ages_in expire_ticks with_pair has_inode
is_case_533_1 = refl

is_case_538_3 : verdict_of case_538_3_trace (with_marks case_538_3_trace case_538_3) ≡ broken 8 5
unfolding halvings log2 polynom_value position_ratio strict_ratio longest_pause least_pause domain_batch context_batch first_at first_estimate global_threshold threshold background_below thresholds_of decided rate_of cut_decision go_decision throttled decision_of is_strict decision_for exceeded_for first page_after ended new_writer new_cpu cpu_step cpu_after mark_of verdict_of ages_in expire_ticks with_pair has_inode
is_case_538_3 = refl

is_case_548_2 : verdict_of case_548_2_trace (with_marks case_548_2_trace case_548_2) ≡ broken 14 4
unfolding halvings log2 polynom_value position_ratio strict_ratio longest_pause least_pause domain_batch context_batch first_at first_estimate global_threshold threshold background_below thresholds_of decided rate_of cut_decision go_decision throttled decision_of is_strict decision_for exceeded_for first page_after ended new_writer new_cpu cpu_step cpu_after mark_of verdict_of ages_in expire_ticks with_pair has_inode
is_case_548_2 = refl

is_case_548_4 : verdict_of case_548_2_trace (with_marks case_548_2_trace case_548_4) ≡ broken 5 10
unfolding halvings log2 polynom_value position_ratio strict_ratio longest_pause least_pause domain_batch context_batch first_at first_estimate global_threshold threshold background_below thresholds_of decided rate_of cut_decision go_decision throttled decision_of is_strict decision_for exceeded_for first page_after ended new_writer new_cpu cpu_step cpu_after mark_of verdict_of ages_in expire_ticks with_pair has_inode
is_case_548_4 = refl

is_case_550_0 : verdict_of case_550_0_trace (with_marks case_550_0_trace case_550_0) ≡ lawful
unfolding halvings log2 polynom_value position_ratio strict_ratio longest_pause least_pause domain_batch context_batch first_at first_estimate global_threshold threshold background_below thresholds_of decided rate_of cut_decision go_decision throttled decision_of is_strict decision_for exceeded_for first page_after ended new_writer new_cpu cpu_step cpu_after mark_of verdict_of ages_in expire_ticks with_pair has_inode
is_case_550_0 = refl

is_case_556_3 : verdict_of case_556_3_trace (with_marks case_556_3_trace case_556_3) ≡ broken 12 4
unfolding halvings log2 polynom_value position_ratio strict_ratio longest_pause least_pause domain_batch context_batch first_at first_estimate global_threshold threshold background_below thresholds_of decided rate_of cut_decision go_decision throttled decision_of is_strict decision_for exceeded_for first page_after ended new_writer new_cpu cpu_step cpu_after mark_of verdict_of ages_in expire_ticks with_pair has_inode
is_case_556_3 = refl

is_case_568_0 : verdict_of case_568_0_trace (with_marks case_568_0_trace case_568_0) ≡ lawful
unfolding halvings log2 polynom_value position_ratio strict_ratio longest_pause least_pause domain_batch context_batch first_at first_estimate global_threshold threshold background_below thresholds_of decided rate_of cut_decision go_decision throttled decision_of is_strict decision_for exceeded_for first page_after ended new_writer new_cpu cpu_step cpu_after mark_of verdict_of ages_in expire_ticks with_pair has_inode
is_case_568_0 = refl

is_case_568_3 : verdict_of case_568_0_trace (with_marks case_568_0_trace case_568_3) ≡ broken 9 3
unfolding halvings log2 polynom_value position_ratio strict_ratio longest_pause least_pause domain_batch context_batch first_at first_estimate global_threshold threshold background_below thresholds_of decided rate_of cut_decision go_decision throttled decision_of is_strict decision_for exceeded_for first page_after ended new_writer new_cpu cpu_step cpu_after mark_of verdict_of ages_in expire_ticks with_pair has_inode
is_case_568_3 = refl

is_case_569_2 : verdict_of case_569_2_trace (with_marks case_569_2_trace case_569_2) ≡ broken 3 121
unfolding halvings log2 polynom_value position_ratio strict_ratio longest_pause least_pause domain_batch context_batch first_at first_estimate global_threshold threshold background_below thresholds_of decided rate_of cut_decision go_decision throttled decision_of is_strict decision_for exceeded_for first page_after ended new_writer new_cpu cpu_step cpu_after mark_of verdict_of ages_in expire_ticks with_pair has_inode
is_case_569_2 = refl

is_case_569_4 : verdict_of case_569_2_trace (with_marks case_569_2_trace case_569_4) ≡ broken 7 87
unfolding halvings log2 polynom_value position_ratio strict_ratio longest_pause least_pause domain_batch context_batch first_at first_estimate global_threshold threshold background_below thresholds_of decided rate_of cut_decision go_decision throttled decision_of is_strict decision_for exceeded_for first page_after ended new_writer new_cpu cpu_step cpu_after mark_of verdict_of ages_in expire_ticks with_pair has_inode
is_case_569_4 = refl

is_case_626_4 : verdict_of case_626_4_trace (with_marks case_626_4_trace case_626_4) ≡ broken 6 36
unfolding halvings log2 polynom_value position_ratio strict_ratio longest_pause least_pause domain_batch context_batch first_at first_estimate global_threshold threshold background_below thresholds_of decided rate_of cut_decision go_decision throttled decision_of is_strict decision_for exceeded_for first page_after ended new_writer new_cpu cpu_step cpu_after mark_of verdict_of ages_in expire_ticks with_pair has_inode
is_case_626_4 = refl

is_case_502_1 : verdict_of case_502_1_trace (with_marks case_502_1_trace case_502_1) ≡ broken 2 58
unfolding halvings log2 polynom_value position_ratio strict_ratio longest_pause least_pause domain_batch context_batch first_at first_estimate global_threshold threshold background_below thresholds_of decided rate_of cut_decision go_decision throttled decision_of is_strict decision_for exceeded_for first page_after ended new_writer new_cpu cpu_step cpu_after mark_of verdict_of ages_in expire_ticks with_pair has_inode
is_case_502_1 = refl

is_case_502_3 : verdict_of case_502_1_trace (with_marks case_502_1_trace case_502_3) ≡ broken 5 46
unfolding halvings log2 polynom_value position_ratio strict_ratio longest_pause least_pause domain_batch context_batch first_at first_estimate global_threshold threshold background_below thresholds_of decided rate_of cut_decision go_decision throttled decision_of is_strict decision_for exceeded_for first page_after ended new_writer new_cpu cpu_step cpu_after mark_of verdict_of ages_in expire_ticks with_pair has_inode
is_case_502_3 = refl

is_case_518_2 : verdict_of case_518_2_trace (with_marks case_518_2_trace case_518_2) ≡ broken 16 117
unfolding halvings log2 polynom_value position_ratio strict_ratio longest_pause least_pause domain_batch context_batch first_at first_estimate global_threshold threshold background_below thresholds_of decided rate_of cut_decision go_decision throttled decision_of is_strict decision_for exceeded_for first page_after ended new_writer new_cpu cpu_step cpu_after mark_of verdict_of ages_in expire_ticks with_pair has_inode
is_case_518_2 = refl

is_case_536_1 : verdict_of case_536_1_trace (with_marks case_536_1_trace case_536_1) ≡ broken 4 11
unfolding halvings log2 polynom_value position_ratio strict_ratio longest_pause least_pause domain_batch context_batch first_at first_estimate global_threshold threshold background_below thresholds_of decided rate_of cut_decision go_decision throttled decision_of is_strict decision_for exceeded_for first page_after ended new_writer new_cpu cpu_step cpu_after mark_of verdict_of ages_in expire_ticks with_pair has_inode
is_case_536_1 = refl

is_case_587_4 : verdict_of case_587_4_trace (with_marks case_587_4_trace case_587_4) ≡ broken 10 13
unfolding halvings log2 polynom_value position_ratio strict_ratio longest_pause least_pause domain_batch context_batch first_at first_estimate global_threshold threshold background_below thresholds_of decided rate_of cut_decision go_decision throttled decision_of is_strict decision_for exceeded_for first page_after ended new_writer new_cpu cpu_step cpu_after mark_of verdict_of ages_in expire_ticks with_pair has_inode
is_case_587_4 = refl

is_case_592_3 : verdict_of case_592_3_trace (with_marks case_592_3_trace case_592_3) ≡ broken 13 15
unfolding halvings log2 polynom_value position_ratio strict_ratio longest_pause least_pause domain_batch context_batch first_at first_estimate global_threshold threshold background_below thresholds_of decided rate_of cut_decision go_decision throttled decision_of is_strict decision_for exceeded_for first page_after ended new_writer new_cpu cpu_step cpu_after mark_of verdict_of ages_in expire_ticks with_pair has_inode
is_case_592_3 = refl

is_case_596_1 : verdict_of case_596_1_trace (with_marks case_596_1_trace case_596_1) ≡ broken 14 10
unfolding halvings log2 polynom_value position_ratio strict_ratio longest_pause least_pause domain_batch context_batch first_at first_estimate global_threshold threshold background_below thresholds_of decided rate_of cut_decision go_decision throttled decision_of is_strict decision_for exceeded_for first page_after ended new_writer new_cpu cpu_step cpu_after mark_of verdict_of ages_in expire_ticks with_pair has_inode
is_case_596_1 = refl

is_case_596_4 : verdict_of case_596_1_trace (with_marks case_596_1_trace case_596_4) ≡ broken 12 4
unfolding halvings log2 polynom_value position_ratio strict_ratio longest_pause least_pause domain_batch context_batch first_at first_estimate global_threshold threshold background_below thresholds_of decided rate_of cut_decision go_decision throttled decision_of is_strict decision_for exceeded_for first page_after ended new_writer new_cpu cpu_step cpu_after mark_of verdict_of ages_in expire_ticks with_pair has_inode
is_case_596_4 = refl

is_case_610_4 : verdict_of case_610_4_trace (with_marks case_610_4_trace case_610_4) ≡ broken 7 36
unfolding halvings log2 polynom_value position_ratio strict_ratio longest_pause least_pause domain_batch context_batch first_at first_estimate global_threshold threshold background_below thresholds_of decided rate_of cut_decision go_decision throttled decision_of is_strict decision_for exceeded_for first page_after ended new_writer new_cpu cpu_step cpu_after mark_of verdict_of ages_in expire_ticks with_pair has_inode
is_case_610_4 = refl

is_case_616_0 : verdict_of case_616_0_trace (with_marks case_616_0_trace case_616_0) ≡ lawful
unfolding halvings log2 polynom_value position_ratio strict_ratio longest_pause least_pause domain_batch context_batch first_at first_estimate global_threshold threshold background_below thresholds_of decided rate_of cut_decision go_decision throttled decision_of is_strict decision_for exceeded_for first page_after ended new_writer new_cpu cpu_step cpu_after mark_of verdict_of ages_in expire_ticks with_pair has_inode
is_case_616_0 = refl

is_case_616_4 : verdict_of case_616_0_trace (with_marks case_616_0_trace case_616_4) ≡ broken 9 2
unfolding halvings log2 polynom_value position_ratio strict_ratio longest_pause least_pause domain_batch context_batch first_at first_estimate global_threshold threshold background_below thresholds_of decided rate_of cut_decision go_decision throttled decision_of is_strict decision_for exceeded_for first page_after ended new_writer new_cpu cpu_step cpu_after mark_of verdict_of ages_in expire_ticks with_pair has_inode
is_case_616_4 = refl

is_case_625_0 : verdict_of case_625_0_trace (with_marks case_625_0_trace case_625_0) ≡ lawful
unfolding halvings log2 polynom_value position_ratio strict_ratio longest_pause least_pause domain_batch context_batch first_at first_estimate global_threshold threshold background_below thresholds_of decided rate_of cut_decision go_decision throttled decision_of is_strict decision_for exceeded_for first page_after ended new_writer new_cpu cpu_step cpu_after mark_of verdict_of ages_in expire_ticks with_pair has_inode
is_case_625_0 = refl

is_case_625_3 : verdict_of case_625_0_trace (with_marks case_625_0_trace case_625_3) ≡ broken 3 25
unfolding halvings log2 polynom_value position_ratio strict_ratio longest_pause least_pause domain_batch context_batch first_at first_estimate global_threshold threshold background_below thresholds_of decided rate_of cut_decision go_decision throttled decision_of is_strict decision_for exceeded_for first page_after ended new_writer new_cpu cpu_step cpu_after mark_of verdict_of ages_in expire_ticks with_pair has_inode
is_case_625_3 = refl

is_case_625_4 : verdict_of case_625_0_trace (with_marks case_625_0_trace case_625_4) ≡ broken 8 28
unfolding halvings log2 polynom_value position_ratio strict_ratio longest_pause least_pause domain_batch context_batch first_at first_estimate global_threshold threshold background_below thresholds_of decided rate_of cut_decision go_decision throttled decision_of is_strict decision_for exceeded_for first page_after ended new_writer new_cpu cpu_step cpu_after mark_of verdict_of ages_in expire_ticks with_pair has_inode
is_case_625_4 = refl

is_case_ages : verdict_of case_ages_trace (with_marks case_ages_trace case_ages) ≡ lawful
unfolding halvings log2 polynom_value position_ratio strict_ratio longest_pause least_pause domain_batch context_batch first_at first_estimate global_threshold threshold background_below thresholds_of decided rate_of cut_decision go_decision throttled decision_of is_strict decision_for exceeded_for first page_after ended new_writer new_cpu cpu_step cpu_after mark_of verdict_of ages_in expire_ticks with_pair has_inode
is_case_ages = refl

is_case_ages_1 : verdict_of case_ages_trace (with_marks case_ages_trace case_ages_1) ≡ broken 10 10
unfolding halvings log2 polynom_value position_ratio strict_ratio longest_pause least_pause domain_batch context_batch first_at first_estimate global_threshold threshold background_below thresholds_of decided rate_of cut_decision go_decision throttled decision_of is_strict decision_for exceeded_for first page_after ended new_writer new_cpu cpu_step cpu_after mark_of verdict_of ages_in expire_ticks with_pair has_inode
is_case_ages_1 = refl

is_case_ages_2 : verdict_of case_ages_trace (with_marks case_ages_trace case_ages_2) ≡ broken 10 7
unfolding halvings log2 polynom_value position_ratio strict_ratio longest_pause least_pause domain_batch context_batch first_at first_estimate global_threshold threshold background_below thresholds_of decided rate_of cut_decision go_decision throttled decision_of is_strict decision_for exceeded_for first page_after ended new_writer new_cpu cpu_step cpu_after mark_of verdict_of ages_in expire_ticks with_pair has_inode
is_case_ages_2 = refl

is_case_ages_3 : verdict_of case_ages_trace (with_marks case_ages_trace case_ages_3) ≡ broken 10 27
unfolding halvings log2 polynom_value position_ratio strict_ratio longest_pause least_pause domain_batch context_batch first_at first_estimate global_threshold threshold background_below thresholds_of decided rate_of cut_decision go_decision throttled decision_of is_strict decision_for exceeded_for first page_after ended new_writer new_cpu cpu_step cpu_after mark_of verdict_of ages_in expire_ticks with_pair has_inode
is_case_ages_3 = refl

is_case_ages_4 : verdict_of case_ages_trace (with_marks case_ages_trace case_ages_4) ≡ broken 10 7
unfolding halvings log2 polynom_value position_ratio strict_ratio longest_pause least_pause domain_batch context_batch first_at first_estimate global_threshold threshold background_below thresholds_of decided rate_of cut_decision go_decision throttled decision_of is_strict decision_for exceeded_for first page_after ended new_writer new_cpu cpu_step cpu_after mark_of verdict_of ages_in expire_ticks with_pair has_inode
is_case_ages_4 = refl

is_case_ages_5 : verdict_of case_ages_trace (with_marks case_ages_trace case_ages_5) ≡ broken 10 11
unfolding halvings log2 polynom_value position_ratio strict_ratio longest_pause least_pause domain_batch context_batch first_at first_estimate global_threshold threshold background_below thresholds_of decided rate_of cut_decision go_decision throttled decision_of is_strict decision_for exceeded_for first page_after ended new_writer new_cpu cpu_step cpu_after mark_of verdict_of ages_in expire_ticks with_pair has_inode
is_case_ages_5 = refl

is_case_ages_6 : verdict_of case_ages_trace (with_marks case_ages_trace case_ages_6) ≡ broken 10 11
unfolding halvings log2 polynom_value position_ratio strict_ratio longest_pause least_pause domain_batch context_batch first_at first_estimate global_threshold threshold background_below thresholds_of decided rate_of cut_decision go_decision throttled decision_of is_strict decision_for exceeded_for first page_after ended new_writer new_cpu cpu_step cpu_after mark_of verdict_of ages_in expire_ticks with_pair has_inode
is_case_ages_6 = refl

is_case_ages_7 : verdict_of case_ages_trace (with_marks case_ages_trace case_ages_7) ≡ broken 10 11
unfolding halvings log2 polynom_value position_ratio strict_ratio longest_pause least_pause domain_batch context_batch first_at first_estimate global_threshold threshold background_below thresholds_of decided rate_of cut_decision go_decision throttled decision_of is_strict decision_for exceeded_for first page_after ended new_writer new_cpu cpu_step cpu_after mark_of verdict_of ages_in expire_ticks with_pair has_inode
is_case_ages_7 = refl

is_case_ages_8 : verdict_of case_ages_trace (with_marks case_ages_trace case_ages_8) ≡ lawful
unfolding halvings log2 polynom_value position_ratio strict_ratio longest_pause least_pause domain_batch context_batch first_at first_estimate global_threshold threshold background_below thresholds_of decided rate_of cut_decision go_decision throttled decision_of is_strict decision_for exceeded_for first page_after ended new_writer new_cpu cpu_step cpu_after mark_of verdict_of ages_in expire_ticks with_pair has_inode
is_case_ages_8 = refl

is_case_ages_9 : verdict_of case_ages_trace (with_marks case_ages_trace case_ages_9) ≡ broken 10 21
unfolding halvings log2 polynom_value position_ratio strict_ratio longest_pause least_pause domain_batch context_batch first_at first_estimate global_threshold threshold background_below thresholds_of decided rate_of cut_decision go_decision throttled decision_of is_strict decision_for exceeded_for first page_after ended new_writer new_cpu cpu_step cpu_after mark_of verdict_of ages_in expire_ticks with_pair has_inode
is_case_ages_9 = refl

is_case_ages_10 : verdict_of case_ages_trace (with_marks case_ages_trace case_ages_10) ≡ lawful
unfolding halvings log2 polynom_value position_ratio strict_ratio longest_pause least_pause domain_batch context_batch first_at first_estimate global_threshold threshold background_below thresholds_of decided rate_of cut_decision go_decision throttled decision_of is_strict decision_for exceeded_for first page_after ended new_writer new_cpu cpu_step cpu_after mark_of verdict_of ages_in expire_ticks with_pair has_inode
is_case_ages_10 = refl

is_case_ages_11 : verdict_of case_ages_trace (with_marks case_ages_trace case_ages_11) ≡ broken 10 11
unfolding halvings log2 polynom_value position_ratio strict_ratio longest_pause least_pause domain_batch context_batch first_at first_estimate global_threshold threshold background_below thresholds_of decided rate_of cut_decision go_decision throttled decision_of is_strict decision_for exceeded_for first page_after ended new_writer new_cpu cpu_step cpu_after mark_of verdict_of ages_in expire_ticks with_pair has_inode
is_case_ages_11 = refl

is_case_ages_12 : verdict_of case_ages_trace (with_marks case_ages_trace case_ages_12) ≡ lawful
unfolding halvings log2 polynom_value position_ratio strict_ratio longest_pause least_pause domain_batch context_batch first_at first_estimate global_threshold threshold background_below thresholds_of decided rate_of cut_decision go_decision throttled decision_of is_strict decision_for exceeded_for first page_after ended new_writer new_cpu cpu_step cpu_after mark_of verdict_of ages_in expire_ticks with_pair has_inode
is_case_ages_12 = refl

is_case_ages_13 : verdict_of case_ages_trace (with_marks case_ages_trace case_ages_13) ≡ broken 10 22
unfolding halvings log2 polynom_value position_ratio strict_ratio longest_pause least_pause domain_batch context_batch first_at first_estimate global_threshold threshold background_below thresholds_of decided rate_of cut_decision go_decision throttled decision_of is_strict decision_for exceeded_for first page_after ended new_writer new_cpu cpu_step cpu_after mark_of verdict_of ages_in expire_ticks with_pair has_inode
is_case_ages_13 = refl

is_case_ages_14 : verdict_of case_ages_trace (with_marks case_ages_trace case_ages_14) ≡ broken 10 17
unfolding halvings log2 polynom_value position_ratio strict_ratio longest_pause least_pause domain_batch context_batch first_at first_estimate global_threshold threshold background_below thresholds_of decided rate_of cut_decision go_decision throttled decision_of is_strict decision_for exceeded_for first page_after ended new_writer new_cpu cpu_step cpu_after mark_of verdict_of ages_in expire_ticks with_pair has_inode
is_case_ages_14 = refl

is_case_ages_15 : verdict_of case_ages_trace (with_marks case_ages_trace case_ages_15) ≡ broken 10 22
unfolding halvings log2 polynom_value position_ratio strict_ratio longest_pause least_pause domain_batch context_batch first_at first_estimate global_threshold threshold background_below thresholds_of decided rate_of cut_decision go_decision throttled decision_of is_strict decision_for exceeded_for first page_after ended new_writer new_cpu cpu_step cpu_after mark_of verdict_of ages_in expire_ticks with_pair has_inode
is_case_ages_15 = refl

is_case_ages_16 : verdict_of case_ages_trace (with_marks case_ages_trace case_ages_16) ≡ lawful
unfolding halvings log2 polynom_value position_ratio strict_ratio longest_pause least_pause domain_batch context_batch first_at first_estimate global_threshold threshold background_below thresholds_of decided rate_of cut_decision go_decision throttled decision_of is_strict decision_for exceeded_for first page_after ended new_writer new_cpu cpu_step cpu_after mark_of verdict_of ages_in expire_ticks with_pair has_inode
is_case_ages_16 = refl

is_case_ages_17 : verdict_of case_ages_trace (with_marks case_ages_trace case_ages_17) ≡ broken 14 27
unfolding halvings log2 polynom_value position_ratio strict_ratio longest_pause least_pause domain_batch context_batch first_at first_estimate global_threshold threshold background_below thresholds_of decided rate_of cut_decision go_decision throttled decision_of is_strict decision_for exceeded_for first page_after ended new_writer new_cpu cpu_step cpu_after mark_of verdict_of ages_in expire_ticks with_pair has_inode
is_case_ages_17 = refl

is_case_ages_18 : verdict_of case_ages_trace (with_marks case_ages_trace case_ages_18) ≡ broken 14 21
unfolding halvings log2 polynom_value position_ratio strict_ratio longest_pause least_pause domain_batch context_batch first_at first_estimate global_threshold threshold background_below thresholds_of decided rate_of cut_decision go_decision throttled decision_of is_strict decision_for exceeded_for first page_after ended new_writer new_cpu cpu_step cpu_after mark_of verdict_of ages_in expire_ticks with_pair has_inode
is_case_ages_18 = refl

is_case_chunked : verdict_of case_chunked_trace (with_marks case_chunked_trace case_chunked) ≡ lawful
unfolding halvings log2 polynom_value position_ratio strict_ratio longest_pause least_pause domain_batch context_batch first_at first_estimate global_threshold threshold background_below thresholds_of decided rate_of cut_decision go_decision throttled decision_of is_strict decision_for exceeded_for first page_after ended new_writer new_cpu cpu_step cpu_after mark_of verdict_of ages_in expire_ticks with_pair has_inode
is_case_chunked = refl

is_case_chunked_1 : verdict_of case_chunked_trace (with_marks case_chunked_trace case_chunked_1) ≡ broken 14 17
unfolding halvings log2 polynom_value position_ratio strict_ratio longest_pause least_pause domain_batch context_batch first_at first_estimate global_threshold threshold background_below thresholds_of decided rate_of cut_decision go_decision throttled decision_of is_strict decision_for exceeded_for first page_after ended new_writer new_cpu cpu_step cpu_after mark_of verdict_of ages_in expire_ticks with_pair has_inode
is_case_chunked_1 = refl

is_case_chunked_2 : verdict_of case_chunked_trace (with_marks case_chunked_trace case_chunked_2) ≡ broken 14 17
unfolding halvings log2 polynom_value position_ratio strict_ratio longest_pause least_pause domain_batch context_batch first_at first_estimate global_threshold threshold background_below thresholds_of decided rate_of cut_decision go_decision throttled decision_of is_strict decision_for exceeded_for first page_after ended new_writer new_cpu cpu_step cpu_after mark_of verdict_of ages_in expire_ticks with_pair has_inode
is_case_chunked_2 = refl

is_case_chunked_3 : verdict_of case_chunked_trace (with_marks case_chunked_trace case_chunked_3) ≡ lawful
unfolding halvings log2 polynom_value position_ratio strict_ratio longest_pause least_pause domain_batch context_batch first_at first_estimate global_threshold threshold background_below thresholds_of decided rate_of cut_decision go_decision throttled decision_of is_strict decision_for exceeded_for first page_after ended new_writer new_cpu cpu_step cpu_after mark_of verdict_of ages_in expire_ticks with_pair has_inode
is_case_chunked_3 = refl

is_case_cut_pauses : verdict_of case_cut_pauses_trace (with_marks case_cut_pauses_trace case_cut_pauses) ≡ lawful
unfolding halvings log2 polynom_value position_ratio strict_ratio longest_pause least_pause domain_batch context_batch first_at first_estimate global_threshold threshold background_below thresholds_of decided rate_of cut_decision go_decision throttled decision_of is_strict decision_for exceeded_for first page_after ended new_writer new_cpu cpu_step cpu_after mark_of verdict_of ages_in expire_ticks with_pair has_inode
is_case_cut_pauses = refl

is_case_cut_pauses_1 : verdict_of case_cut_pauses_trace (with_marks case_cut_pauses_trace case_cut_pauses_1) ≡ broken 7 67
unfolding halvings log2 polynom_value position_ratio strict_ratio longest_pause least_pause domain_batch context_batch first_at first_estimate global_threshold threshold background_below thresholds_of decided rate_of cut_decision go_decision throttled decision_of is_strict decision_for exceeded_for first page_after ended new_writer new_cpu cpu_step cpu_after mark_of verdict_of ages_in expire_ticks with_pair has_inode
is_case_cut_pauses_1 = refl

is_case_cut_pauses_2 : verdict_of case_cut_pauses_trace (with_marks case_cut_pauses_trace case_cut_pauses_2) ≡ broken 7 67
unfolding halvings log2 polynom_value position_ratio strict_ratio longest_pause least_pause domain_batch context_batch first_at first_estimate global_threshold threshold background_below thresholds_of decided rate_of cut_decision go_decision throttled decision_of is_strict decision_for exceeded_for first page_after ended new_writer new_cpu cpu_step cpu_after mark_of verdict_of ages_in expire_ticks with_pair has_inode
is_case_cut_pauses_2 = refl

is_case_cut_pauses_3 : verdict_of case_cut_pauses_trace (with_marks case_cut_pauses_trace case_cut_pauses_3) ≡ broken 7 74
unfolding halvings log2 polynom_value position_ratio strict_ratio longest_pause least_pause domain_batch context_batch first_at first_estimate global_threshold threshold background_below thresholds_of decided rate_of cut_decision go_decision throttled decision_of is_strict decision_for exceeded_for first page_after ended new_writer new_cpu cpu_step cpu_after mark_of verdict_of ages_in expire_ticks with_pair has_inode
is_case_cut_pauses_3 = refl

is_case_ends_at_its_pace : verdict_of case_ends_at_its_pace_trace (with_marks case_ends_at_its_pace_trace case_ends_at_its_pace) ≡ lawful
unfolding halvings log2 polynom_value position_ratio strict_ratio longest_pause least_pause domain_batch context_batch first_at first_estimate global_threshold threshold background_below thresholds_of decided rate_of cut_decision go_decision throttled decision_of is_strict decision_for exceeded_for first page_after ended new_writer new_cpu cpu_step cpu_after mark_of verdict_of ages_in expire_ticks with_pair has_inode
is_case_ends_at_its_pace = refl

is_case_ends_at_its_pace_1 : verdict_of case_ends_at_its_pace_trace (with_marks case_ends_at_its_pace_trace case_ends_at_its_pace_1) ≡ broken 8 30
unfolding halvings log2 polynom_value position_ratio strict_ratio longest_pause least_pause domain_batch context_batch first_at first_estimate global_threshold threshold background_below thresholds_of decided rate_of cut_decision go_decision throttled decision_of is_strict decision_for exceeded_for first page_after ended new_writer new_cpu cpu_step cpu_after mark_of verdict_of ages_in expire_ticks with_pair has_inode
is_case_ends_at_its_pace_1 = refl

is_case_fails_eight_times : verdict_of case_fails_eight_times_trace (with_marks case_fails_eight_times_trace case_fails_eight_times) ≡ lawful
unfolding halvings log2 polynom_value position_ratio strict_ratio longest_pause least_pause domain_batch context_batch first_at first_estimate global_threshold threshold background_below thresholds_of decided rate_of cut_decision go_decision throttled decision_of is_strict decision_for exceeded_for first page_after ended new_writer new_cpu cpu_step cpu_after mark_of verdict_of ages_in expire_ticks with_pair has_inode
is_case_fails_eight_times = refl

is_case_fails_eight_times_1 : verdict_of case_fails_eight_times_trace (with_marks case_fails_eight_times_trace case_fails_eight_times_1) ≡ broken 14 44
unfolding halvings log2 polynom_value position_ratio strict_ratio longest_pause least_pause domain_batch context_batch first_at first_estimate global_threshold threshold background_below thresholds_of decided rate_of cut_decision go_decision throttled decision_of is_strict decision_for exceeded_for first page_after ended new_writer new_cpu cpu_step cpu_after mark_of verdict_of ages_in expire_ticks with_pair has_inode
is_case_fails_eight_times_1 = refl

is_case_fails_eight_times_2 : verdict_of case_fails_eight_times_trace (with_marks case_fails_eight_times_trace case_fails_eight_times_2) ≡ broken 14 44
unfolding halvings log2 polynom_value position_ratio strict_ratio longest_pause least_pause domain_batch context_batch first_at first_estimate global_threshold threshold background_below thresholds_of decided rate_of cut_decision go_decision throttled decision_of is_strict decision_for exceeded_for first page_after ended new_writer new_cpu cpu_step cpu_after mark_of verdict_of ages_in expire_ticks with_pair has_inode
is_case_fails_eight_times_2 = refl

is_case_fails_eight_times_3 : verdict_of case_fails_eight_times_trace (with_marks case_fails_eight_times_trace case_fails_eight_times_3) ≡ broken 16 43
unfolding halvings log2 polynom_value position_ratio strict_ratio longest_pause least_pause domain_batch context_batch first_at first_estimate global_threshold threshold background_below thresholds_of decided rate_of cut_decision go_decision throttled decision_of is_strict decision_for exceeded_for first page_after ended new_writer new_cpu cpu_step cpu_after mark_of verdict_of ages_in expire_ticks with_pair has_inode
is_case_fails_eight_times_3 = refl

is_case_fails_eight_times_4 : verdict_of case_fails_eight_times_trace (with_marks case_fails_eight_times_trace case_fails_eight_times_4) ≡ broken 16 47
unfolding halvings log2 polynom_value position_ratio strict_ratio longest_pause least_pause domain_batch context_batch first_at first_estimate global_threshold threshold background_below thresholds_of decided rate_of cut_decision go_decision throttled decision_of is_strict decision_for exceeded_for first page_after ended new_writer new_cpu cpu_step cpu_after mark_of verdict_of ages_in expire_ticks with_pair has_inode
is_case_fails_eight_times_4 = refl

is_case_fails_eight_times_5 : verdict_of case_fails_eight_times_trace (with_marks case_fails_eight_times_trace case_fails_eight_times_5) ≡ broken 16 48
unfolding halvings log2 polynom_value position_ratio strict_ratio longest_pause least_pause domain_batch context_batch first_at first_estimate global_threshold threshold background_below thresholds_of decided rate_of cut_decision go_decision throttled decision_of is_strict decision_for exceeded_for first page_after ended new_writer new_cpu cpu_step cpu_after mark_of verdict_of ages_in expire_ticks with_pair has_inode
is_case_fails_eight_times_5 = refl

is_case_fails_eight_times_6 : verdict_of case_fails_eight_times_trace (with_marks case_fails_eight_times_trace case_fails_eight_times_6) ≡ lawful
unfolding halvings log2 polynom_value position_ratio strict_ratio longest_pause least_pause domain_batch context_batch first_at first_estimate global_threshold threshold background_below thresholds_of decided rate_of cut_decision go_decision throttled decision_of is_strict decision_for exceeded_for first page_after ended new_writer new_cpu cpu_step cpu_after mark_of verdict_of ages_in expire_ticks with_pair has_inode
is_case_fails_eight_times_6 = refl

is_case_given_estimate : verdict_of case_given_estimate_trace (with_marks case_given_estimate_trace case_given_estimate) ≡ lawful
unfolding halvings log2 polynom_value position_ratio strict_ratio longest_pause least_pause domain_batch context_batch first_at first_estimate global_threshold threshold background_below thresholds_of decided rate_of cut_decision go_decision throttled decision_of is_strict decision_for exceeded_for first page_after ended new_writer new_cpu cpu_step cpu_after mark_of verdict_of ages_in expire_ticks with_pair has_inode
is_case_given_estimate = refl

is_case_given_estimate_1 : verdict_of case_given_estimate_trace (with_marks case_given_estimate_trace case_given_estimate_1) ≡ broken 6 7
unfolding halvings log2 polynom_value position_ratio strict_ratio longest_pause least_pause domain_batch context_batch first_at first_estimate global_threshold threshold background_below thresholds_of decided rate_of cut_decision go_decision throttled decision_of is_strict decision_for exceeded_for first page_after ended new_writer new_cpu cpu_step cpu_after mark_of verdict_of ages_in expire_ticks with_pair has_inode
is_case_given_estimate_1 = refl

is_case_given_estimate_2 : verdict_of case_given_estimate_trace (with_marks case_given_estimate_trace case_given_estimate_2) ≡ broken 6 8
unfolding halvings log2 polynom_value position_ratio strict_ratio longest_pause least_pause domain_batch context_batch first_at first_estimate global_threshold threshold background_below thresholds_of decided rate_of cut_decision go_decision throttled decision_of is_strict decision_for exceeded_for first page_after ended new_writer new_cpu cpu_step cpu_after mark_of verdict_of ages_in expire_ticks with_pair has_inode
is_case_given_estimate_2 = refl

is_case_gives_back : verdict_of case_gives_back_trace (with_marks case_gives_back_trace case_gives_back) ≡ lawful
unfolding halvings log2 polynom_value position_ratio strict_ratio longest_pause least_pause domain_batch context_batch first_at first_estimate global_threshold threshold background_below thresholds_of decided rate_of cut_decision go_decision throttled decision_of is_strict decision_for exceeded_for first page_after ended new_writer new_cpu cpu_step cpu_after mark_of verdict_of ages_in expire_ticks with_pair has_inode
is_case_gives_back = refl

is_case_gives_back_1 : verdict_of case_gives_back_trace (with_marks case_gives_back_trace case_gives_back_1) ≡ broken 14 11
unfolding halvings log2 polynom_value position_ratio strict_ratio longest_pause least_pause domain_batch context_batch first_at first_estimate global_threshold threshold background_below thresholds_of decided rate_of cut_decision go_decision throttled decision_of is_strict decision_for exceeded_for first page_after ended new_writer new_cpu cpu_step cpu_after mark_of verdict_of ages_in expire_ticks with_pair has_inode
is_case_gives_back_1 = refl

is_case_gives_back_2 : verdict_of case_gives_back_trace (with_marks case_gives_back_trace case_gives_back_2) ≡ broken 14 12
unfolding halvings log2 polynom_value position_ratio strict_ratio longest_pause least_pause domain_batch context_batch first_at first_estimate global_threshold threshold background_below thresholds_of decided rate_of cut_decision go_decision throttled decision_of is_strict decision_for exceeded_for first page_after ended new_writer new_cpu cpu_step cpu_after mark_of verdict_of ages_in expire_ticks with_pair has_inode
is_case_gives_back_2 = refl

is_case_gives_back_3 : verdict_of case_gives_back_trace (with_marks case_gives_back_trace case_gives_back_3) ≡ broken 14 10
unfolding halvings log2 polynom_value position_ratio strict_ratio longest_pause least_pause domain_batch context_batch first_at first_estimate global_threshold threshold background_below thresholds_of decided rate_of cut_decision go_decision throttled decision_of is_strict decision_for exceeded_for first page_after ended new_writer new_cpu cpu_step cpu_after mark_of verdict_of ages_in expire_ticks with_pair has_inode
is_case_gives_back_3 = refl

is_case_gives_back_4 : verdict_of case_gives_back_trace (with_marks case_gives_back_trace case_gives_back_4) ≡ broken 14 11
unfolding halvings log2 polynom_value position_ratio strict_ratio longest_pause least_pause domain_batch context_batch first_at first_estimate global_threshold threshold background_below thresholds_of decided rate_of cut_decision go_decision throttled decision_of is_strict decision_for exceeded_for first page_after ended new_writer new_cpu cpu_step cpu_after mark_of verdict_of ages_in expire_ticks with_pair has_inode
is_case_gives_back_4 = refl

is_case_gives_back_5 : verdict_of case_gives_back_trace (with_marks case_gives_back_trace case_gives_back_5) ≡ broken 13 19
unfolding halvings log2 polynom_value position_ratio strict_ratio longest_pause least_pause domain_batch context_batch first_at first_estimate global_threshold threshold background_below thresholds_of decided rate_of cut_decision go_decision throttled decision_of is_strict decision_for exceeded_for first page_after ended new_writer new_cpu cpu_step cpu_after mark_of verdict_of ages_in expire_ticks with_pair has_inode
is_case_gives_back_5 = refl

is_case_gives_back_6 : verdict_of case_gives_back_trace (with_marks case_gives_back_trace case_gives_back_6) ≡ broken 13 19
unfolding halvings log2 polynom_value position_ratio strict_ratio longest_pause least_pause domain_batch context_batch first_at first_estimate global_threshold threshold background_below thresholds_of decided rate_of cut_decision go_decision throttled decision_of is_strict decision_for exceeded_for first page_after ended new_writer new_cpu cpu_step cpu_after mark_of verdict_of ages_in expire_ticks with_pair has_inode
is_case_gives_back_6 = refl

is_case_gives_back_7 : verdict_of case_gives_back_trace (with_marks case_gives_back_trace case_gives_back_7) ≡ broken 12 12
unfolding halvings log2 polynom_value position_ratio strict_ratio longest_pause least_pause domain_batch context_batch first_at first_estimate global_threshold threshold background_below thresholds_of decided rate_of cut_decision go_decision throttled decision_of is_strict decision_for exceeded_for first page_after ended new_writer new_cpu cpu_step cpu_after mark_of verdict_of ages_in expire_ticks with_pair has_inode
is_case_gives_back_7 = refl

is_case_gives_back_8 : verdict_of case_gives_back_trace (with_marks case_gives_back_trace case_gives_back_8) ≡ broken 16 21
unfolding halvings log2 polynom_value position_ratio strict_ratio longest_pause least_pause domain_batch context_batch first_at first_estimate global_threshold threshold background_below thresholds_of decided rate_of cut_decision go_decision throttled decision_of is_strict decision_for exceeded_for first page_after ended new_writer new_cpu cpu_step cpu_after mark_of verdict_of ages_in expire_ticks with_pair has_inode
is_case_gives_back_8 = refl

is_case_goes_by_its_line : verdict_of case_goes_by_its_line_trace (with_marks case_goes_by_its_line_trace case_goes_by_its_line) ≡ lawful
unfolding halvings log2 polynom_value position_ratio strict_ratio longest_pause least_pause domain_batch context_batch first_at first_estimate global_threshold threshold background_below thresholds_of decided rate_of cut_decision go_decision throttled decision_of is_strict decision_for exceeded_for first page_after ended new_writer new_cpu cpu_step cpu_after mark_of verdict_of ages_in expire_ticks with_pair has_inode
is_case_goes_by_its_line = refl

is_case_goes_by_its_line_1 : verdict_of case_goes_by_its_line_trace (with_marks case_goes_by_its_line_trace case_goes_by_its_line_1) ≡ broken 7 55
unfolding halvings log2 polynom_value position_ratio strict_ratio longest_pause least_pause domain_batch context_batch first_at first_estimate global_threshold threshold background_below thresholds_of decided rate_of cut_decision go_decision throttled decision_of is_strict decision_for exceeded_for first page_after ended new_writer new_cpu cpu_step cpu_after mark_of verdict_of ages_in expire_ticks with_pair has_inode
is_case_goes_by_its_line_1 = refl

is_case_goes_on : verdict_of case_goes_on_trace (with_marks case_goes_on_trace case_goes_on) ≡ lawful
unfolding halvings log2 polynom_value position_ratio strict_ratio longest_pause least_pause domain_batch context_batch first_at first_estimate global_threshold threshold background_below thresholds_of decided rate_of cut_decision go_decision throttled decision_of is_strict decision_for exceeded_for first page_after ended new_writer new_cpu cpu_step cpu_after mark_of verdict_of ages_in expire_ticks with_pair has_inode
is_case_goes_on = refl

is_case_goes_on_1 : verdict_of case_goes_on_trace (with_marks case_goes_on_trace case_goes_on_1) ≡ broken 7 55
unfolding halvings log2 polynom_value position_ratio strict_ratio longest_pause least_pause domain_batch context_batch first_at first_estimate global_threshold threshold background_below thresholds_of decided rate_of cut_decision go_decision throttled decision_of is_strict decision_for exceeded_for first page_after ended new_writer new_cpu cpu_step cpu_after mark_of verdict_of ages_in expire_ticks with_pair has_inode
is_case_goes_on_1 = refl

is_case_goes_on_2 : verdict_of case_goes_on_trace (with_marks case_goes_on_trace case_goes_on_2) ≡ broken 7 62
unfolding halvings log2 polynom_value position_ratio strict_ratio longest_pause least_pause domain_batch context_batch first_at first_estimate global_threshold threshold background_below thresholds_of decided rate_of cut_decision go_decision throttled decision_of is_strict decision_for exceeded_for first page_after ended new_writer new_cpu cpu_step cpu_after mark_of verdict_of ages_in expire_ticks with_pair has_inode
is_case_goes_on_2 = refl

is_case_goes_on_in_a_cgroup : verdict_of case_goes_on_in_a_cgroup_trace (with_marks case_goes_on_in_a_cgroup_trace case_goes_on_in_a_cgroup) ≡ lawful
unfolding halvings log2 polynom_value position_ratio strict_ratio longest_pause least_pause domain_batch context_batch first_at first_estimate global_threshold threshold background_below thresholds_of decided rate_of cut_decision go_decision throttled decision_of is_strict decision_for exceeded_for first page_after ended new_writer new_cpu cpu_step cpu_after mark_of verdict_of ages_in expire_ticks with_pair has_inode
is_case_goes_on_in_a_cgroup = refl

is_case_goes_on_in_a_cgroup_1 : verdict_of case_goes_on_in_a_cgroup_trace (with_marks case_goes_on_in_a_cgroup_trace case_goes_on_in_a_cgroup_1) ≡ broken 7 62
unfolding halvings log2 polynom_value position_ratio strict_ratio longest_pause least_pause domain_batch context_batch first_at first_estimate global_threshold threshold background_below thresholds_of decided rate_of cut_decision go_decision throttled decision_of is_strict decision_for exceeded_for first page_after ended new_writer new_cpu cpu_step cpu_after mark_of verdict_of ages_in expire_ticks with_pair has_inode
is_case_goes_on_in_a_cgroup_1 = refl

is_case_goes_round : verdict_of case_goes_round_trace (with_marks case_goes_round_trace case_goes_round) ≡ lawful
unfolding halvings log2 polynom_value position_ratio strict_ratio longest_pause least_pause domain_batch context_batch first_at first_estimate global_threshold threshold background_below thresholds_of decided rate_of cut_decision go_decision throttled decision_of is_strict decision_for exceeded_for first page_after ended new_writer new_cpu cpu_step cpu_after mark_of verdict_of ages_in expire_ticks with_pair has_inode
is_case_goes_round = refl

is_case_goes_round_1 : verdict_of case_goes_round_trace (with_marks case_goes_round_trace case_goes_round_1) ≡ broken 12 22
unfolding halvings log2 polynom_value position_ratio strict_ratio longest_pause least_pause domain_batch context_batch first_at first_estimate global_threshold threshold background_below thresholds_of decided rate_of cut_decision go_decision throttled decision_of is_strict decision_for exceeded_for first page_after ended new_writer new_cpu cpu_step cpu_after mark_of verdict_of ages_in expire_ticks with_pair has_inode
is_case_goes_round_1 = refl

is_case_goes_round_2 : verdict_of case_goes_round_trace (with_marks case_goes_round_trace case_goes_round_2) ≡ broken 13 39
unfolding halvings log2 polynom_value position_ratio strict_ratio longest_pause least_pause domain_batch context_batch first_at first_estimate global_threshold threshold background_below thresholds_of decided rate_of cut_decision go_decision throttled decision_of is_strict decision_for exceeded_for first page_after ended new_writer new_cpu cpu_step cpu_after mark_of verdict_of ages_in expire_ticks with_pair has_inode
is_case_goes_round_2 = refl

is_case_goes_round_3 : verdict_of case_goes_round_trace (with_marks case_goes_round_trace case_goes_round_3) ≡ broken 16 36
unfolding halvings log2 polynom_value position_ratio strict_ratio longest_pause least_pause domain_batch context_batch first_at first_estimate global_threshold threshold background_below thresholds_of decided rate_of cut_decision go_decision throttled decision_of is_strict decision_for exceeded_for first page_after ended new_writer new_cpu cpu_step cpu_after mark_of verdict_of ages_in expire_ticks with_pair has_inode
is_case_goes_round_3 = refl

is_case_goes_round_4 : verdict_of case_goes_round_trace (with_marks case_goes_round_trace case_goes_round_4) ≡ broken 14 30
unfolding halvings log2 polynom_value position_ratio strict_ratio longest_pause least_pause domain_batch context_batch first_at first_estimate global_threshold threshold background_below thresholds_of decided rate_of cut_decision go_decision throttled decision_of is_strict decision_for exceeded_for first page_after ended new_writer new_cpu cpu_step cpu_after mark_of verdict_of ages_in expire_ticks with_pair has_inode
is_case_goes_round_4 = refl

is_case_goes_round_5 : verdict_of case_goes_round_trace (with_marks case_goes_round_trace case_goes_round_5) ≡ broken 14 30
unfolding halvings log2 polynom_value position_ratio strict_ratio longest_pause least_pause domain_batch context_batch first_at first_estimate global_threshold threshold background_below thresholds_of decided rate_of cut_decision go_decision throttled decision_of is_strict decision_for exceeded_for first page_after ended new_writer new_cpu cpu_step cpu_after mark_of verdict_of ages_in expire_ticks with_pair has_inode
is_case_goes_round_5 = refl

is_case_goes_round_6 : verdict_of case_goes_round_trace (with_marks case_goes_round_trace case_goes_round_6) ≡ lawful
unfolding halvings log2 polynom_value position_ratio strict_ratio longest_pause least_pause domain_batch context_batch first_at first_estimate global_threshold threshold background_below thresholds_of decided rate_of cut_decision go_decision throttled decision_of is_strict decision_for exceeded_for first page_after ended new_writer new_cpu cpu_step cpu_after mark_of verdict_of ages_in expire_ticks with_pair has_inode
is_case_goes_round_6 = refl

is_case_goes_round_7 : verdict_of case_goes_round_trace (with_marks case_goes_round_trace case_goes_round_7) ≡ broken 13 36
unfolding halvings log2 polynom_value position_ratio strict_ratio longest_pause least_pause domain_batch context_batch first_at first_estimate global_threshold threshold background_below thresholds_of decided rate_of cut_decision go_decision throttled decision_of is_strict decision_for exceeded_for first page_after ended new_writer new_cpu cpu_step cpu_after mark_of verdict_of ages_in expire_ticks with_pair has_inode
is_case_goes_round_7 = refl

is_case_is_exempt : verdict_of case_is_exempt_trace (with_marks case_is_exempt_trace case_is_exempt) ≡ lawful
unfolding halvings log2 polynom_value position_ratio strict_ratio longest_pause least_pause domain_batch context_batch first_at first_estimate global_threshold threshold background_below thresholds_of decided rate_of cut_decision go_decision throttled decision_of is_strict decision_for exceeded_for first page_after ended new_writer new_cpu cpu_step cpu_after mark_of verdict_of ages_in expire_ticks with_pair has_inode
is_case_is_exempt = refl

is_case_is_exempt_1 : verdict_of case_is_exempt_trace (with_marks case_is_exempt_trace case_is_exempt_1) ≡ broken 7 64
unfolding halvings log2 polynom_value position_ratio strict_ratio longest_pause least_pause domain_batch context_batch first_at first_estimate global_threshold threshold background_below thresholds_of decided rate_of cut_decision go_decision throttled decision_of is_strict decision_for exceeded_for first page_after ended new_writer new_cpu cpu_step cpu_after mark_of verdict_of ages_in expire_ticks with_pair has_inode
is_case_is_exempt_1 = refl

is_case_is_exempt_2 : verdict_of case_is_exempt_trace (with_marks case_is_exempt_trace case_is_exempt_2) ≡ broken 7 68
unfolding halvings log2 polynom_value position_ratio strict_ratio longest_pause least_pause domain_batch context_batch first_at first_estimate global_threshold threshold background_below thresholds_of decided rate_of cut_decision go_decision throttled decision_of is_strict decision_for exceeded_for first page_after ended new_writer new_cpu cpu_step cpu_after mark_of verdict_of ages_in expire_ticks with_pair has_inode
is_case_is_exempt_2 = refl

is_case_is_exempt_with_two_cpus : verdict_of case_is_exempt_with_two_cpus_trace (with_marks case_is_exempt_with_two_cpus_trace case_is_exempt_with_two_cpus) ≡ lawful
unfolding halvings log2 polynom_value position_ratio strict_ratio longest_pause least_pause domain_batch context_batch first_at first_estimate global_threshold threshold background_below thresholds_of decided rate_of cut_decision go_decision throttled decision_of is_strict decision_for exceeded_for first page_after ended new_writer new_cpu cpu_step cpu_after mark_of verdict_of ages_in expire_ticks with_pair has_inode
is_case_is_exempt_with_two_cpus = refl

is_case_is_exempt_with_two_cpus_1 : verdict_of case_is_exempt_with_two_cpus_trace (with_marks case_is_exempt_with_two_cpus_trace case_is_exempt_with_two_cpus_1) ≡ broken 7 53
unfolding halvings log2 polynom_value position_ratio strict_ratio longest_pause least_pause domain_batch context_batch first_at first_estimate global_threshold threshold background_below thresholds_of decided rate_of cut_decision go_decision throttled decision_of is_strict decision_for exceeded_for first page_after ended new_writer new_cpu cpu_step cpu_after mark_of verdict_of ages_in expire_ticks with_pair has_inode
is_case_is_exempt_with_two_cpus_1 = refl

is_case_older_triple : verdict_of case_older_triple_trace (with_marks case_older_triple_trace case_older_triple) ≡ lawful
unfolding halvings log2 polynom_value position_ratio strict_ratio longest_pause least_pause domain_batch context_batch first_at first_estimate global_threshold threshold background_below thresholds_of decided rate_of cut_decision go_decision throttled decision_of is_strict decision_for exceeded_for first page_after ended new_writer new_cpu cpu_step cpu_after mark_of verdict_of ages_in expire_ticks with_pair has_inode
is_case_older_triple = refl

is_case_older_triple_1 : verdict_of case_older_triple_trace (with_marks case_older_triple_trace case_older_triple_1) ≡ broken 4 10
unfolding halvings log2 polynom_value position_ratio strict_ratio longest_pause least_pause domain_batch context_batch first_at first_estimate global_threshold threshold background_below thresholds_of decided rate_of cut_decision go_decision throttled decision_of is_strict decision_for exceeded_for first page_after ended new_writer new_cpu cpu_step cpu_after mark_of verdict_of ages_in expire_ticks with_pair has_inode
is_case_older_triple_1 = refl

is_case_older_triple_2 : verdict_of case_older_triple_trace (with_marks case_older_triple_trace case_older_triple_2) ≡ broken 4 15
unfolding halvings log2 polynom_value position_ratio strict_ratio longest_pause least_pause domain_batch context_batch first_at first_estimate global_threshold threshold background_below thresholds_of decided rate_of cut_decision go_decision throttled decision_of is_strict decision_for exceeded_for first page_after ended new_writer new_cpu cpu_step cpu_after mark_of verdict_of ages_in expire_ticks with_pair has_inode
is_case_older_triple_2 = refl

is_case_older_triple_3 : verdict_of case_older_triple_trace (with_marks case_older_triple_trace case_older_triple_3) ≡ broken 4 15
unfolding halvings log2 polynom_value position_ratio strict_ratio longest_pause least_pause domain_batch context_batch first_at first_estimate global_threshold threshold background_below thresholds_of decided rate_of cut_decision go_decision throttled decision_of is_strict decision_for exceeded_for first page_after ended new_writer new_cpu cpu_step cpu_after mark_of verdict_of ages_in expire_ticks with_pair has_inode
is_case_older_triple_3 = refl

is_case_older_triple_4 : verdict_of case_older_triple_trace (with_marks case_older_triple_trace case_older_triple_4) ≡ broken 7 17
unfolding halvings log2 polynom_value position_ratio strict_ratio longest_pause least_pause domain_batch context_batch first_at first_estimate global_threshold threshold background_below thresholds_of decided rate_of cut_decision go_decision throttled decision_of is_strict decision_for exceeded_for first page_after ended new_writer new_cpu cpu_step cpu_after mark_of verdict_of ages_in expire_ticks with_pair has_inode
is_case_older_triple_4 = refl

is_case_rests_after_three_pages : verdict_of case_rests_after_three_pages_trace (with_marks case_rests_after_three_pages_trace case_rests_after_three_pages) ≡ lawful
unfolding halvings log2 polynom_value position_ratio strict_ratio longest_pause least_pause domain_batch context_batch first_at first_estimate global_threshold threshold background_below thresholds_of decided rate_of cut_decision go_decision throttled decision_of is_strict decision_for exceeded_for first page_after ended new_writer new_cpu cpu_step cpu_after mark_of verdict_of ages_in expire_ticks with_pair has_inode
is_case_rests_after_three_pages = refl

is_case_rests_after_three_pages_1 : verdict_of case_rests_after_three_pages_trace (with_marks case_rests_after_three_pages_trace case_rests_after_three_pages_1) ≡ broken 12 7
unfolding halvings log2 polynom_value position_ratio strict_ratio longest_pause least_pause domain_batch context_batch first_at first_estimate global_threshold threshold background_below thresholds_of decided rate_of cut_decision go_decision throttled decision_of is_strict decision_for exceeded_for first page_after ended new_writer new_cpu cpu_step cpu_after mark_of verdict_of ages_in expire_ticks with_pair has_inode
is_case_rests_after_three_pages_1 = refl

is_case_rests_after_three_pages_2 : verdict_of case_rests_after_three_pages_trace (with_marks case_rests_after_three_pages_trace case_rests_after_three_pages_2) ≡ broken 12 7
unfolding halvings log2 polynom_value position_ratio strict_ratio longest_pause least_pause domain_batch context_batch first_at first_estimate global_threshold threshold background_below thresholds_of decided rate_of cut_decision go_decision throttled decision_of is_strict decision_for exceeded_for first page_after ended new_writer new_cpu cpu_step cpu_after mark_of verdict_of ages_in expire_ticks with_pair has_inode
is_case_rests_after_three_pages_2 = refl

is_case_rests_after_three_pages_3 : verdict_of case_rests_after_three_pages_trace (with_marks case_rests_after_three_pages_trace case_rests_after_three_pages_3) ≡ broken 16 26
unfolding halvings log2 polynom_value position_ratio strict_ratio longest_pause least_pause domain_batch context_batch first_at first_estimate global_threshold threshold background_below thresholds_of decided rate_of cut_decision go_decision throttled decision_of is_strict decision_for exceeded_for first page_after ended new_writer new_cpu cpu_step cpu_after mark_of verdict_of ages_in expire_ticks with_pair has_inode
is_case_rests_after_three_pages_3 = refl

is_case_rests_by_its_pace : verdict_of case_rests_by_its_pace_trace (with_marks case_rests_by_its_pace_trace case_rests_by_its_pace) ≡ lawful
unfolding halvings log2 polynom_value position_ratio strict_ratio longest_pause least_pause domain_batch context_batch first_at first_estimate global_threshold threshold background_below thresholds_of decided rate_of cut_decision go_decision throttled decision_of is_strict decision_for exceeded_for first page_after ended new_writer new_cpu cpu_step cpu_after mark_of verdict_of ages_in expire_ticks with_pair has_inode
is_case_rests_by_its_pace = refl

is_case_rests_by_its_pace_1 : verdict_of case_rests_by_its_pace_trace (with_marks case_rests_by_its_pace_trace case_rests_by_its_pace_1) ≡ broken 7 67
unfolding halvings log2 polynom_value position_ratio strict_ratio longest_pause least_pause domain_batch context_batch first_at first_estimate global_threshold threshold background_below thresholds_of decided rate_of cut_decision go_decision throttled decision_of is_strict decision_for exceeded_for first page_after ended new_writer new_cpu cpu_step cpu_after mark_of verdict_of ages_in expire_ticks with_pair has_inode
is_case_rests_by_its_pace_1 = refl

is_case_rests_by_its_pace_2 : verdict_of case_rests_by_its_pace_trace (with_marks case_rests_by_its_pace_trace case_rests_by_its_pace_2) ≡ broken 7 67
unfolding halvings log2 polynom_value position_ratio strict_ratio longest_pause least_pause domain_batch context_batch first_at first_estimate global_threshold threshold background_below thresholds_of decided rate_of cut_decision go_decision throttled decision_of is_strict decision_for exceeded_for first page_after ended new_writer new_cpu cpu_step cpu_after mark_of verdict_of ages_in expire_ticks with_pair has_inode
is_case_rests_by_its_pace_2 = refl

is_case_rests_by_its_pace_3 : verdict_of case_rests_by_its_pace_trace (with_marks case_rests_by_its_pace_trace case_rests_by_its_pace_3) ≡ broken 8 29
unfolding halvings log2 polynom_value position_ratio strict_ratio longest_pause least_pause domain_batch context_batch first_at first_estimate global_threshold threshold background_below thresholds_of decided rate_of cut_decision go_decision throttled decision_of is_strict decision_for exceeded_for first page_after ended new_writer new_cpu cpu_step cpu_after mark_of verdict_of ages_in expire_ticks with_pair has_inode
is_case_rests_by_its_pace_3 = refl

is_case_waits : verdict_of case_waits_trace (with_marks case_waits_trace case_waits) ≡ lawful
unfolding halvings log2 polynom_value position_ratio strict_ratio longest_pause least_pause domain_batch context_batch first_at first_estimate global_threshold threshold background_below thresholds_of decided rate_of cut_decision go_decision throttled decision_of is_strict decision_for exceeded_for first page_after ended new_writer new_cpu cpu_step cpu_after mark_of verdict_of ages_in expire_ticks with_pair has_inode
is_case_waits = refl

is_case_waits_1 : verdict_of case_waits_trace (with_marks case_waits_trace case_waits_1) ≡ broken 7 55
unfolding halvings log2 polynom_value position_ratio strict_ratio longest_pause least_pause domain_batch context_batch first_at first_estimate global_threshold threshold background_below thresholds_of decided rate_of cut_decision go_decision throttled decision_of is_strict decision_for exceeded_for first page_after ended new_writer new_cpu cpu_step cpu_after mark_of verdict_of ages_in expire_ticks with_pair has_inode
is_case_waits_1 = refl

is_case_waits_2 : verdict_of case_waits_trace (with_marks case_waits_trace case_waits_2) ≡ broken 7 94
unfolding halvings log2 polynom_value position_ratio strict_ratio longest_pause least_pause domain_batch context_batch first_at first_estimate global_threshold threshold background_below thresholds_of decided rate_of cut_decision go_decision throttled decision_of is_strict decision_for exceeded_for first page_after ended new_writer new_cpu cpu_step cpu_after mark_of verdict_of ages_in expire_ticks with_pair has_inode
is_case_waits_2 = refl

pub are_judged : AreJudged
are_judged = record {
  is_case_508_0 = is_case_508_0;
  is_case_508_1 = is_case_508_1;
  is_case_508_2 = is_case_508_2;
  is_case_508_3 = is_case_508_3;
  is_case_508_4 = is_case_508_4;
  is_case_512_0 = is_case_512_0;
  is_case_512_1 = is_case_512_1;
  is_case_512_2 = is_case_512_2;
  is_case_512_3 = is_case_512_3;
  is_case_512_4 = is_case_512_4;
  is_case_515_1 = is_case_515_1;
  is_case_515_2 = is_case_515_2;
  is_case_521_1 = is_case_521_1;
  is_case_532_0 = is_case_532_0;
  is_case_532_1 = is_case_532_1;
  is_case_532_2 = is_case_532_2;
  is_case_532_3 = is_case_532_3;
  is_case_532_4 = is_case_532_4;
  is_case_539_3 = is_case_539_3;
  is_case_549_0 = is_case_549_0;
  is_case_549_2 = is_case_549_2;
  is_case_559_2 = is_case_559_2;
  is_case_559_4 = is_case_559_4;
  is_case_560_0 = is_case_560_0;
  is_case_560_1 = is_case_560_1;
  is_case_560_2 = is_case_560_2;
  is_case_560_3 = is_case_560_3;
  is_case_560_4 = is_case_560_4;
  is_case_578_1 = is_case_578_1;
  is_case_578_3 = is_case_578_3;
  is_case_583_4 = is_case_583_4;
  is_case_588_4 = is_case_588_4;
  is_case_597_2 = is_case_597_2;
  is_case_601_3 = is_case_601_3;
  is_case_609_1 = is_case_609_1;
  is_case_609_2 = is_case_609_2;
  is_case_611_1 = is_case_611_1;
  is_case_611_2 = is_case_611_2;
  is_case_611_3 = is_case_611_3;
  is_case_612_0 = is_case_612_0;
  is_case_612_2 = is_case_612_2;
  is_case_612_3 = is_case_612_3;
  is_case_612_4 = is_case_612_4;
  is_case_613_4 = is_case_613_4;
  is_case_514_2 = is_case_514_2;
  is_case_514_3 = is_case_514_3;
  is_case_527_3 = is_case_527_3;
  is_case_533_1 = is_case_533_1;
  is_case_538_3 = is_case_538_3;
  is_case_548_2 = is_case_548_2;
  is_case_548_4 = is_case_548_4;
  is_case_550_0 = is_case_550_0;
  is_case_556_3 = is_case_556_3;
  is_case_568_0 = is_case_568_0;
  is_case_568_3 = is_case_568_3;
  is_case_569_2 = is_case_569_2;
  is_case_569_4 = is_case_569_4;
  is_case_626_4 = is_case_626_4;
  is_case_502_1 = is_case_502_1;
  is_case_502_3 = is_case_502_3;
  is_case_518_2 = is_case_518_2;
  is_case_536_1 = is_case_536_1;
  is_case_587_4 = is_case_587_4;
  is_case_592_3 = is_case_592_3;
  is_case_596_1 = is_case_596_1;
  is_case_596_4 = is_case_596_4;
  is_case_610_4 = is_case_610_4;
  is_case_616_0 = is_case_616_0;
  is_case_616_4 = is_case_616_4;
  is_case_625_0 = is_case_625_0;
  is_case_625_3 = is_case_625_3;
  is_case_625_4 = is_case_625_4;
  is_case_ages = is_case_ages;
  is_case_ages_1 = is_case_ages_1;
  is_case_ages_2 = is_case_ages_2;
  is_case_ages_3 = is_case_ages_3;
  is_case_ages_4 = is_case_ages_4;
  is_case_ages_5 = is_case_ages_5;
  is_case_ages_6 = is_case_ages_6;
  is_case_ages_7 = is_case_ages_7;
  is_case_ages_8 = is_case_ages_8;
  is_case_ages_9 = is_case_ages_9;
  is_case_ages_10 = is_case_ages_10;
  is_case_ages_11 = is_case_ages_11;
  is_case_ages_12 = is_case_ages_12;
  is_case_ages_13 = is_case_ages_13;
  is_case_ages_14 = is_case_ages_14;
  is_case_ages_15 = is_case_ages_15;
  is_case_ages_16 = is_case_ages_16;
  is_case_ages_17 = is_case_ages_17;
  is_case_ages_18 = is_case_ages_18;
  is_case_chunked = is_case_chunked;
  is_case_chunked_1 = is_case_chunked_1;
  is_case_chunked_2 = is_case_chunked_2;
  is_case_chunked_3 = is_case_chunked_3;
  is_case_cut_pauses = is_case_cut_pauses;
  is_case_cut_pauses_1 = is_case_cut_pauses_1;
  is_case_cut_pauses_2 = is_case_cut_pauses_2;
  is_case_cut_pauses_3 = is_case_cut_pauses_3;
  is_case_ends_at_its_pace = is_case_ends_at_its_pace;
  is_case_ends_at_its_pace_1 = is_case_ends_at_its_pace_1;
  is_case_fails_eight_times = is_case_fails_eight_times;
  is_case_fails_eight_times_1 = is_case_fails_eight_times_1;
  is_case_fails_eight_times_2 = is_case_fails_eight_times_2;
  is_case_fails_eight_times_3 = is_case_fails_eight_times_3;
  is_case_fails_eight_times_4 = is_case_fails_eight_times_4;
  is_case_fails_eight_times_5 = is_case_fails_eight_times_5;
  is_case_fails_eight_times_6 = is_case_fails_eight_times_6;
  is_case_given_estimate = is_case_given_estimate;
  is_case_given_estimate_1 = is_case_given_estimate_1;
  is_case_given_estimate_2 = is_case_given_estimate_2;
  is_case_gives_back = is_case_gives_back;
  is_case_gives_back_1 = is_case_gives_back_1;
  is_case_gives_back_2 = is_case_gives_back_2;
  is_case_gives_back_3 = is_case_gives_back_3;
  is_case_gives_back_4 = is_case_gives_back_4;
  is_case_gives_back_5 = is_case_gives_back_5;
  is_case_gives_back_6 = is_case_gives_back_6;
  is_case_gives_back_7 = is_case_gives_back_7;
  is_case_gives_back_8 = is_case_gives_back_8;
  is_case_goes_by_its_line = is_case_goes_by_its_line;
  is_case_goes_by_its_line_1 = is_case_goes_by_its_line_1;
  is_case_goes_on = is_case_goes_on;
  is_case_goes_on_1 = is_case_goes_on_1;
  is_case_goes_on_2 = is_case_goes_on_2;
  is_case_goes_on_in_a_cgroup = is_case_goes_on_in_a_cgroup;
  is_case_goes_on_in_a_cgroup_1 = is_case_goes_on_in_a_cgroup_1;
  is_case_goes_round = is_case_goes_round;
  is_case_goes_round_1 = is_case_goes_round_1;
  is_case_goes_round_2 = is_case_goes_round_2;
  is_case_goes_round_3 = is_case_goes_round_3;
  is_case_goes_round_4 = is_case_goes_round_4;
  is_case_goes_round_5 = is_case_goes_round_5;
  is_case_goes_round_6 = is_case_goes_round_6;
  is_case_goes_round_7 = is_case_goes_round_7;
  is_case_is_exempt = is_case_is_exempt;
  is_case_is_exempt_1 = is_case_is_exempt_1;
  is_case_is_exempt_2 = is_case_is_exempt_2;
  is_case_is_exempt_with_two_cpus = is_case_is_exempt_with_two_cpus;
  is_case_is_exempt_with_two_cpus_1 = is_case_is_exempt_with_two_cpus_1;
  is_case_older_triple = is_case_older_triple;
  is_case_older_triple_1 = is_case_older_triple_1;
  is_case_older_triple_2 = is_case_older_triple_2;
  is_case_older_triple_3 = is_case_older_triple_3;
  is_case_older_triple_4 = is_case_older_triple_4;
  is_case_rests_after_three_pages = is_case_rests_after_three_pages;
  is_case_rests_after_three_pages_1 = is_case_rests_after_three_pages_1;
  is_case_rests_after_three_pages_2 = is_case_rests_after_three_pages_2;
  is_case_rests_after_three_pages_3 = is_case_rests_after_three_pages_3;
  is_case_rests_by_its_pace = is_case_rests_by_its_pace;
  is_case_rests_by_its_pace_1 = is_case_rests_by_its_pace_1;
  is_case_rests_by_its_pace_2 = is_case_rests_by_its_pace_2;
  is_case_rests_by_its_pace_3 = is_case_rests_by_its_pace_3;
  is_case_waits = is_case_waits;
  is_case_waits_1 = is_case_waits_1;
  is_case_waits_2 = is_case_waits_2;
}
