-- The verdict on each judged journal: made by tools/judged-values.
use Rattle.std.specs.Prelude.{◌≡◌}
use Rattle.wbt_journal.specs.Checks.{with_marks}
use Rattle.wbt_journal.specs.Verdict.{lawful, broken, verdict_of}
use Rattle.wbt_judged.specs.Found.{case_508_0_trace, case_508_0, case_508_1, case_508_2, case_508_3, case_508_4, case_512_0_trace, case_512_0, case_512_1, case_512_2, case_512_3, case_512_4, case_515_1_trace, case_515_1, case_515_2, case_521_1_trace, case_521_1, case_532_0_trace, case_532_0, case_532_1, case_532_2, case_532_3, case_532_4, case_539_3_trace, case_539_3, case_549_0_trace, case_549_0, case_549_2, case_559_2_trace, case_559_2, case_559_4, case_560_0_trace, case_560_0, case_560_1, case_560_2, case_560_3, case_560_4, case_578_1_trace, case_578_1, case_578_3, case_583_4_trace, case_583_4, case_588_4_trace, case_588_4, case_597_2_trace, case_597_2, case_601_3_trace, case_601_3, case_609_1_trace, case_609_1, case_609_2, case_611_1_trace, case_611_1, case_611_2, case_611_3, case_612_0_trace, case_612_0, case_612_2, case_612_3, case_612_4, case_613_4_trace, case_613_4}
use Rattle.wbt_judged.specs.Strict.{case_514_2_trace, case_514_2, case_514_3, case_527_3_trace, case_527_3, case_533_1_trace, case_533_1, case_538_3_trace, case_538_3, case_548_2_trace, case_548_2, case_548_4, case_550_0_trace, case_550_0, case_556_3_trace, case_556_3, case_568_0_trace, case_568_0, case_568_3, case_569_2_trace, case_569_2, case_569_4, case_626_4_trace, case_626_4}
use Rattle.wbt_judged.specs.Ageing.{case_502_1_trace, case_502_1, case_502_3, case_518_2_trace, case_518_2, case_536_1_trace, case_536_1, case_587_4_trace, case_587_4, case_592_3_trace, case_592_3, case_596_1_trace, case_596_1, case_596_4, case_610_4_trace, case_610_4, case_616_0_trace, case_616_0, case_616_4, case_625_0_trace, case_625_0, case_625_3, case_625_4}
use Rattle.wbt_judged.specs.Changed.{case_ages_trace, case_ages, case_ages_1, case_ages_2, case_ages_3, case_ages_4, case_ages_5, case_ages_6, case_ages_7, case_ages_8, case_ages_9, case_ages_10, case_ages_11, case_ages_12, case_ages_13, case_ages_14, case_ages_15, case_ages_16, case_ages_17, case_ages_18, case_chunked_trace, case_chunked, case_chunked_1, case_chunked_2, case_chunked_3, case_cut_pauses_trace, case_cut_pauses, case_cut_pauses_1, case_cut_pauses_2, case_cut_pauses_3, case_ends_at_its_pace_trace, case_ends_at_its_pace, case_ends_at_its_pace_1, case_fails_eight_times_trace, case_fails_eight_times, case_fails_eight_times_1, case_fails_eight_times_2, case_fails_eight_times_3, case_fails_eight_times_4, case_fails_eight_times_5, case_fails_eight_times_6, case_given_estimate_trace, case_given_estimate, case_given_estimate_1, case_given_estimate_2, case_gives_back_trace, case_gives_back, case_gives_back_1, case_gives_back_2, case_gives_back_3, case_gives_back_4, case_gives_back_5, case_gives_back_6, case_gives_back_7, case_gives_back_8, case_goes_by_its_line_trace, case_goes_by_its_line, case_goes_by_its_line_1, case_goes_on_trace, case_goes_on, case_goes_on_1, case_goes_on_2, case_goes_on_in_a_cgroup_trace, case_goes_on_in_a_cgroup, case_goes_on_in_a_cgroup_1, case_goes_round_trace, case_goes_round, case_goes_round_1, case_goes_round_2, case_goes_round_3, case_goes_round_4, case_goes_round_5, case_goes_round_6, case_goes_round_7, case_is_exempt_trace, case_is_exempt, case_is_exempt_1, case_is_exempt_2, case_is_exempt_with_two_cpus_trace, case_is_exempt_with_two_cpus, case_is_exempt_with_two_cpus_1, case_older_triple_trace, case_older_triple, case_older_triple_1, case_older_triple_2, case_older_triple_3, case_older_triple_4, case_rests_after_three_pages_trace, case_rests_after_three_pages, case_rests_after_three_pages_1, case_rests_after_three_pages_2, case_rests_after_three_pages_3, case_rests_by_its_pace_trace, case_rests_by_its_pace, case_rests_by_its_pace_1, case_rests_by_its_pace_2, case_rests_by_its_pace_3, case_waits_trace, case_waits, case_waits_1, case_waits_2}

-- the definitions agree with each
pub record AreJudged : Type 0 where
  pub is_case_508_0 : verdict_of case_508_0_trace (with_marks case_508_0_trace case_508_0) ≡ lawful
  pub is_case_508_1 : verdict_of case_508_0_trace (with_marks case_508_0_trace case_508_1) ≡ broken 4 8
  pub is_case_508_2 : verdict_of case_508_0_trace (with_marks case_508_0_trace case_508_2) ≡ broken 7 13
  pub is_case_508_3 : verdict_of case_508_0_trace (with_marks case_508_0_trace case_508_3) ≡ broken 14 7
  pub is_case_508_4 : verdict_of case_508_0_trace (with_marks case_508_0_trace case_508_4) ≡ broken 8 9
  pub is_case_512_0 : verdict_of case_512_0_trace (with_marks case_512_0_trace case_512_0) ≡ lawful
  pub is_case_512_1 : verdict_of case_512_0_trace (with_marks case_512_0_trace case_512_1) ≡ broken 14 4
  pub is_case_512_2 : verdict_of case_512_0_trace (with_marks case_512_0_trace case_512_2) ≡ broken 14 6
  pub is_case_512_3 : verdict_of case_512_0_trace (with_marks case_512_0_trace case_512_3) ≡ broken 14 7
  pub is_case_512_4 : verdict_of case_512_0_trace (with_marks case_512_0_trace case_512_4) ≡ broken 14 15
  pub is_case_515_1 : verdict_of case_515_1_trace (with_marks case_515_1_trace case_515_1) ≡ broken 13 15
  pub is_case_515_2 : verdict_of case_515_1_trace (with_marks case_515_1_trace case_515_2) ≡ broken 12 5
  pub is_case_521_1 : verdict_of case_521_1_trace (with_marks case_521_1_trace case_521_1) ≡ broken 4 11
  pub is_case_532_0 : verdict_of case_532_0_trace (with_marks case_532_0_trace case_532_0) ≡ lawful
  pub is_case_532_1 : verdict_of case_532_0_trace (with_marks case_532_0_trace case_532_1) ≡ broken 16 23
  pub is_case_532_2 : verdict_of case_532_0_trace (with_marks case_532_0_trace case_532_2) ≡ broken 9 2
  pub is_case_532_3 : verdict_of case_532_0_trace (with_marks case_532_0_trace case_532_3) ≡ broken 13 21
  pub is_case_532_4 : verdict_of case_532_0_trace (with_marks case_532_0_trace case_532_4) ≡ broken 14 9
  pub is_case_539_3 : verdict_of case_539_3_trace (with_marks case_539_3_trace case_539_3) ≡ broken 13 28
  pub is_case_549_0 : verdict_of case_549_0_trace (with_marks case_549_0_trace case_549_0) ≡ lawful
  pub is_case_549_2 : verdict_of case_549_0_trace (with_marks case_549_0_trace case_549_2) ≡ broken 16 7
  pub is_case_559_2 : verdict_of case_559_2_trace (with_marks case_559_2_trace case_559_2) ≡ broken 8 11
  pub is_case_559_4 : verdict_of case_559_2_trace (with_marks case_559_2_trace case_559_4) ≡ broken 13 25
  pub is_case_560_0 : verdict_of case_560_0_trace (with_marks case_560_0_trace case_560_0) ≡ lawful
  pub is_case_560_1 : verdict_of case_560_0_trace (with_marks case_560_0_trace case_560_1) ≡ broken 16 28
  pub is_case_560_2 : verdict_of case_560_0_trace (with_marks case_560_0_trace case_560_2) ≡ broken 12 6
  pub is_case_560_3 : verdict_of case_560_0_trace (with_marks case_560_0_trace case_560_3) ≡ broken 13 27
  pub is_case_560_4 : verdict_of case_560_0_trace (with_marks case_560_0_trace case_560_4) ≡ broken 9 2
  pub is_case_578_1 : verdict_of case_578_1_trace (with_marks case_578_1_trace case_578_1) ≡ broken 12 20
  pub is_case_578_3 : verdict_of case_578_1_trace (with_marks case_578_1_trace case_578_3) ≡ broken 12 14
  pub is_case_583_4 : verdict_of case_583_4_trace (with_marks case_583_4_trace case_583_4) ≡ broken 13 41
  pub is_case_588_4 : verdict_of case_588_4_trace (with_marks case_588_4_trace case_588_4) ≡ broken 14 14
  pub is_case_597_2 : verdict_of case_597_2_trace (with_marks case_597_2_trace case_597_2) ≡ broken 4 7
  pub is_case_601_3 : verdict_of case_601_3_trace (with_marks case_601_3_trace case_601_3) ≡ broken 3 89
  pub is_case_609_1 : verdict_of case_609_1_trace (with_marks case_609_1_trace case_609_1) ≡ broken 12 10
  pub is_case_609_2 : verdict_of case_609_1_trace (with_marks case_609_1_trace case_609_2) ≡ broken 8 50
  pub is_case_611_1 : verdict_of case_611_1_trace (with_marks case_611_1_trace case_611_1) ≡ broken 13 22
  pub is_case_611_2 : verdict_of case_611_1_trace (with_marks case_611_1_trace case_611_2) ≡ broken 6 6
  pub is_case_611_3 : verdict_of case_611_1_trace (with_marks case_611_1_trace case_611_3) ≡ broken 16 23
  pub is_case_612_0 : verdict_of case_612_0_trace (with_marks case_612_0_trace case_612_0) ≡ lawful
  pub is_case_612_2 : verdict_of case_612_0_trace (with_marks case_612_0_trace case_612_2) ≡ broken 12 5
  pub is_case_612_3 : verdict_of case_612_0_trace (with_marks case_612_0_trace case_612_3) ≡ broken 9 2
  pub is_case_612_4 : verdict_of case_612_0_trace (with_marks case_612_0_trace case_612_4) ≡ broken 12 5
  pub is_case_613_4 : verdict_of case_613_4_trace (with_marks case_613_4_trace case_613_4) ≡ broken 2 154
  pub is_case_514_2 : verdict_of case_514_2_trace (with_marks case_514_2_trace case_514_2) ≡ broken 4 11
  pub is_case_514_3 : verdict_of case_514_2_trace (with_marks case_514_2_trace case_514_3) ≡ broken 16 23
  pub is_case_527_3 : verdict_of case_527_3_trace (with_marks case_527_3_trace case_527_3) ≡ broken 2 203
  pub is_case_533_1 : verdict_of case_533_1_trace (with_marks case_533_1_trace case_533_1) ≡ broken 13 214
  pub is_case_538_3 : verdict_of case_538_3_trace (with_marks case_538_3_trace case_538_3) ≡ broken 8 5
  pub is_case_548_2 : verdict_of case_548_2_trace (with_marks case_548_2_trace case_548_2) ≡ broken 14 4
  pub is_case_548_4 : verdict_of case_548_2_trace (with_marks case_548_2_trace case_548_4) ≡ broken 5 10
  pub is_case_550_0 : verdict_of case_550_0_trace (with_marks case_550_0_trace case_550_0) ≡ lawful
  pub is_case_556_3 : verdict_of case_556_3_trace (with_marks case_556_3_trace case_556_3) ≡ broken 12 4
  pub is_case_568_0 : verdict_of case_568_0_trace (with_marks case_568_0_trace case_568_0) ≡ lawful
  pub is_case_568_3 : verdict_of case_568_0_trace (with_marks case_568_0_trace case_568_3) ≡ broken 9 3
  pub is_case_569_2 : verdict_of case_569_2_trace (with_marks case_569_2_trace case_569_2) ≡ broken 3 121
  pub is_case_569_4 : verdict_of case_569_2_trace (with_marks case_569_2_trace case_569_4) ≡ broken 7 87
  pub is_case_626_4 : verdict_of case_626_4_trace (with_marks case_626_4_trace case_626_4) ≡ broken 6 36
  pub is_case_502_1 : verdict_of case_502_1_trace (with_marks case_502_1_trace case_502_1) ≡ broken 2 58
  pub is_case_502_3 : verdict_of case_502_1_trace (with_marks case_502_1_trace case_502_3) ≡ broken 5 46
  pub is_case_518_2 : verdict_of case_518_2_trace (with_marks case_518_2_trace case_518_2) ≡ broken 16 117
  pub is_case_536_1 : verdict_of case_536_1_trace (with_marks case_536_1_trace case_536_1) ≡ broken 4 11
  pub is_case_587_4 : verdict_of case_587_4_trace (with_marks case_587_4_trace case_587_4) ≡ broken 10 13
  pub is_case_592_3 : verdict_of case_592_3_trace (with_marks case_592_3_trace case_592_3) ≡ broken 13 15
  pub is_case_596_1 : verdict_of case_596_1_trace (with_marks case_596_1_trace case_596_1) ≡ broken 14 10
  pub is_case_596_4 : verdict_of case_596_1_trace (with_marks case_596_1_trace case_596_4) ≡ broken 12 4
  pub is_case_610_4 : verdict_of case_610_4_trace (with_marks case_610_4_trace case_610_4) ≡ broken 7 36
  pub is_case_616_0 : verdict_of case_616_0_trace (with_marks case_616_0_trace case_616_0) ≡ lawful
  pub is_case_616_4 : verdict_of case_616_0_trace (with_marks case_616_0_trace case_616_4) ≡ broken 9 2
  pub is_case_625_0 : verdict_of case_625_0_trace (with_marks case_625_0_trace case_625_0) ≡ lawful
  pub is_case_625_3 : verdict_of case_625_0_trace (with_marks case_625_0_trace case_625_3) ≡ broken 3 25
  pub is_case_625_4 : verdict_of case_625_0_trace (with_marks case_625_0_trace case_625_4) ≡ broken 8 28
  pub is_case_ages : verdict_of case_ages_trace (with_marks case_ages_trace case_ages) ≡ lawful
  pub is_case_ages_1 : verdict_of case_ages_trace (with_marks case_ages_trace case_ages_1) ≡ broken 10 10
  pub is_case_ages_2 : verdict_of case_ages_trace (with_marks case_ages_trace case_ages_2) ≡ broken 10 7
  pub is_case_ages_3 : verdict_of case_ages_trace (with_marks case_ages_trace case_ages_3) ≡ broken 10 27
  pub is_case_ages_4 : verdict_of case_ages_trace (with_marks case_ages_trace case_ages_4) ≡ broken 10 7
  pub is_case_ages_5 : verdict_of case_ages_trace (with_marks case_ages_trace case_ages_5) ≡ broken 10 11
  pub is_case_ages_6 : verdict_of case_ages_trace (with_marks case_ages_trace case_ages_6) ≡ broken 10 11
  pub is_case_ages_7 : verdict_of case_ages_trace (with_marks case_ages_trace case_ages_7) ≡ broken 10 11
  pub is_case_ages_8 : verdict_of case_ages_trace (with_marks case_ages_trace case_ages_8) ≡ lawful
  pub is_case_ages_9 : verdict_of case_ages_trace (with_marks case_ages_trace case_ages_9) ≡ broken 10 21
  pub is_case_ages_10 : verdict_of case_ages_trace (with_marks case_ages_trace case_ages_10) ≡ lawful
  pub is_case_ages_11 : verdict_of case_ages_trace (with_marks case_ages_trace case_ages_11) ≡ broken 10 11
  pub is_case_ages_12 : verdict_of case_ages_trace (with_marks case_ages_trace case_ages_12) ≡ lawful
  pub is_case_ages_13 : verdict_of case_ages_trace (with_marks case_ages_trace case_ages_13) ≡ broken 10 22
  pub is_case_ages_14 : verdict_of case_ages_trace (with_marks case_ages_trace case_ages_14) ≡ broken 10 17
  pub is_case_ages_15 : verdict_of case_ages_trace (with_marks case_ages_trace case_ages_15) ≡ broken 10 22
  pub is_case_ages_16 : verdict_of case_ages_trace (with_marks case_ages_trace case_ages_16) ≡ lawful
  pub is_case_ages_17 : verdict_of case_ages_trace (with_marks case_ages_trace case_ages_17) ≡ broken 14 27
  pub is_case_ages_18 : verdict_of case_ages_trace (with_marks case_ages_trace case_ages_18) ≡ broken 14 21
  pub is_case_chunked : verdict_of case_chunked_trace (with_marks case_chunked_trace case_chunked) ≡ lawful
  pub is_case_chunked_1 : verdict_of case_chunked_trace (with_marks case_chunked_trace case_chunked_1) ≡ broken 14 17
  pub is_case_chunked_2 : verdict_of case_chunked_trace (with_marks case_chunked_trace case_chunked_2) ≡ broken 14 17
  pub is_case_chunked_3 : verdict_of case_chunked_trace (with_marks case_chunked_trace case_chunked_3) ≡ lawful
  pub is_case_cut_pauses : verdict_of case_cut_pauses_trace (with_marks case_cut_pauses_trace case_cut_pauses) ≡ lawful
  pub is_case_cut_pauses_1 : verdict_of case_cut_pauses_trace (with_marks case_cut_pauses_trace case_cut_pauses_1) ≡ broken 7 67
  pub is_case_cut_pauses_2 : verdict_of case_cut_pauses_trace (with_marks case_cut_pauses_trace case_cut_pauses_2) ≡ broken 7 67
  pub is_case_cut_pauses_3 : verdict_of case_cut_pauses_trace (with_marks case_cut_pauses_trace case_cut_pauses_3) ≡ broken 7 74
  pub is_case_ends_at_its_pace : verdict_of case_ends_at_its_pace_trace (with_marks case_ends_at_its_pace_trace case_ends_at_its_pace) ≡ lawful
  pub is_case_ends_at_its_pace_1 : verdict_of case_ends_at_its_pace_trace (with_marks case_ends_at_its_pace_trace case_ends_at_its_pace_1) ≡ broken 8 30
  pub is_case_fails_eight_times : verdict_of case_fails_eight_times_trace (with_marks case_fails_eight_times_trace case_fails_eight_times) ≡ lawful
  pub is_case_fails_eight_times_1 : verdict_of case_fails_eight_times_trace (with_marks case_fails_eight_times_trace case_fails_eight_times_1) ≡ broken 14 44
  pub is_case_fails_eight_times_2 : verdict_of case_fails_eight_times_trace (with_marks case_fails_eight_times_trace case_fails_eight_times_2) ≡ broken 14 44
  pub is_case_fails_eight_times_3 : verdict_of case_fails_eight_times_trace (with_marks case_fails_eight_times_trace case_fails_eight_times_3) ≡ broken 16 43
  pub is_case_fails_eight_times_4 : verdict_of case_fails_eight_times_trace (with_marks case_fails_eight_times_trace case_fails_eight_times_4) ≡ broken 16 47
  pub is_case_fails_eight_times_5 : verdict_of case_fails_eight_times_trace (with_marks case_fails_eight_times_trace case_fails_eight_times_5) ≡ broken 16 48
  pub is_case_fails_eight_times_6 : verdict_of case_fails_eight_times_trace (with_marks case_fails_eight_times_trace case_fails_eight_times_6) ≡ lawful
  pub is_case_given_estimate : verdict_of case_given_estimate_trace (with_marks case_given_estimate_trace case_given_estimate) ≡ lawful
  pub is_case_given_estimate_1 : verdict_of case_given_estimate_trace (with_marks case_given_estimate_trace case_given_estimate_1) ≡ broken 6 7
  pub is_case_given_estimate_2 : verdict_of case_given_estimate_trace (with_marks case_given_estimate_trace case_given_estimate_2) ≡ broken 6 8
  pub is_case_gives_back : verdict_of case_gives_back_trace (with_marks case_gives_back_trace case_gives_back) ≡ lawful
  pub is_case_gives_back_1 : verdict_of case_gives_back_trace (with_marks case_gives_back_trace case_gives_back_1) ≡ broken 14 11
  pub is_case_gives_back_2 : verdict_of case_gives_back_trace (with_marks case_gives_back_trace case_gives_back_2) ≡ broken 14 12
  pub is_case_gives_back_3 : verdict_of case_gives_back_trace (with_marks case_gives_back_trace case_gives_back_3) ≡ broken 14 10
  pub is_case_gives_back_4 : verdict_of case_gives_back_trace (with_marks case_gives_back_trace case_gives_back_4) ≡ broken 14 11
  pub is_case_gives_back_5 : verdict_of case_gives_back_trace (with_marks case_gives_back_trace case_gives_back_5) ≡ broken 13 19
  pub is_case_gives_back_6 : verdict_of case_gives_back_trace (with_marks case_gives_back_trace case_gives_back_6) ≡ broken 13 19
  pub is_case_gives_back_7 : verdict_of case_gives_back_trace (with_marks case_gives_back_trace case_gives_back_7) ≡ broken 12 12
  pub is_case_gives_back_8 : verdict_of case_gives_back_trace (with_marks case_gives_back_trace case_gives_back_8) ≡ broken 16 21
  pub is_case_goes_by_its_line : verdict_of case_goes_by_its_line_trace (with_marks case_goes_by_its_line_trace case_goes_by_its_line) ≡ lawful
  pub is_case_goes_by_its_line_1 : verdict_of case_goes_by_its_line_trace (with_marks case_goes_by_its_line_trace case_goes_by_its_line_1) ≡ broken 7 55
  pub is_case_goes_on : verdict_of case_goes_on_trace (with_marks case_goes_on_trace case_goes_on) ≡ lawful
  pub is_case_goes_on_1 : verdict_of case_goes_on_trace (with_marks case_goes_on_trace case_goes_on_1) ≡ broken 7 55
  pub is_case_goes_on_2 : verdict_of case_goes_on_trace (with_marks case_goes_on_trace case_goes_on_2) ≡ broken 7 62
  pub is_case_goes_on_in_a_cgroup : verdict_of case_goes_on_in_a_cgroup_trace (with_marks case_goes_on_in_a_cgroup_trace case_goes_on_in_a_cgroup) ≡ lawful
  pub is_case_goes_on_in_a_cgroup_1 : verdict_of case_goes_on_in_a_cgroup_trace (with_marks case_goes_on_in_a_cgroup_trace case_goes_on_in_a_cgroup_1) ≡ broken 7 62
  pub is_case_goes_round : verdict_of case_goes_round_trace (with_marks case_goes_round_trace case_goes_round) ≡ lawful
  pub is_case_goes_round_1 : verdict_of case_goes_round_trace (with_marks case_goes_round_trace case_goes_round_1) ≡ broken 12 22
  pub is_case_goes_round_2 : verdict_of case_goes_round_trace (with_marks case_goes_round_trace case_goes_round_2) ≡ broken 13 39
  pub is_case_goes_round_3 : verdict_of case_goes_round_trace (with_marks case_goes_round_trace case_goes_round_3) ≡ broken 16 36
  pub is_case_goes_round_4 : verdict_of case_goes_round_trace (with_marks case_goes_round_trace case_goes_round_4) ≡ broken 14 30
  pub is_case_goes_round_5 : verdict_of case_goes_round_trace (with_marks case_goes_round_trace case_goes_round_5) ≡ broken 14 30
  pub is_case_goes_round_6 : verdict_of case_goes_round_trace (with_marks case_goes_round_trace case_goes_round_6) ≡ lawful
  pub is_case_goes_round_7 : verdict_of case_goes_round_trace (with_marks case_goes_round_trace case_goes_round_7) ≡ broken 13 36
  pub is_case_is_exempt : verdict_of case_is_exempt_trace (with_marks case_is_exempt_trace case_is_exempt) ≡ lawful
  pub is_case_is_exempt_1 : verdict_of case_is_exempt_trace (with_marks case_is_exempt_trace case_is_exempt_1) ≡ broken 7 64
  pub is_case_is_exempt_2 : verdict_of case_is_exempt_trace (with_marks case_is_exempt_trace case_is_exempt_2) ≡ broken 7 68
  pub is_case_is_exempt_with_two_cpus : verdict_of case_is_exempt_with_two_cpus_trace (with_marks case_is_exempt_with_two_cpus_trace case_is_exempt_with_two_cpus) ≡ lawful
  pub is_case_is_exempt_with_two_cpus_1 : verdict_of case_is_exempt_with_two_cpus_trace (with_marks case_is_exempt_with_two_cpus_trace case_is_exempt_with_two_cpus_1) ≡ broken 7 53
  pub is_case_older_triple : verdict_of case_older_triple_trace (with_marks case_older_triple_trace case_older_triple) ≡ lawful
  pub is_case_older_triple_1 : verdict_of case_older_triple_trace (with_marks case_older_triple_trace case_older_triple_1) ≡ broken 4 10
  pub is_case_older_triple_2 : verdict_of case_older_triple_trace (with_marks case_older_triple_trace case_older_triple_2) ≡ broken 4 15
  pub is_case_older_triple_3 : verdict_of case_older_triple_trace (with_marks case_older_triple_trace case_older_triple_3) ≡ broken 4 15
  pub is_case_older_triple_4 : verdict_of case_older_triple_trace (with_marks case_older_triple_trace case_older_triple_4) ≡ broken 7 17
  pub is_case_rests_after_three_pages : verdict_of case_rests_after_three_pages_trace (with_marks case_rests_after_three_pages_trace case_rests_after_three_pages) ≡ lawful
  pub is_case_rests_after_three_pages_1 : verdict_of case_rests_after_three_pages_trace (with_marks case_rests_after_three_pages_trace case_rests_after_three_pages_1) ≡ broken 12 7
  pub is_case_rests_after_three_pages_2 : verdict_of case_rests_after_three_pages_trace (with_marks case_rests_after_three_pages_trace case_rests_after_three_pages_2) ≡ broken 12 7
  pub is_case_rests_after_three_pages_3 : verdict_of case_rests_after_three_pages_trace (with_marks case_rests_after_three_pages_trace case_rests_after_three_pages_3) ≡ broken 16 26
  pub is_case_rests_by_its_pace : verdict_of case_rests_by_its_pace_trace (with_marks case_rests_by_its_pace_trace case_rests_by_its_pace) ≡ lawful
  pub is_case_rests_by_its_pace_1 : verdict_of case_rests_by_its_pace_trace (with_marks case_rests_by_its_pace_trace case_rests_by_its_pace_1) ≡ broken 7 67
  pub is_case_rests_by_its_pace_2 : verdict_of case_rests_by_its_pace_trace (with_marks case_rests_by_its_pace_trace case_rests_by_its_pace_2) ≡ broken 7 67
  pub is_case_rests_by_its_pace_3 : verdict_of case_rests_by_its_pace_trace (with_marks case_rests_by_its_pace_trace case_rests_by_its_pace_3) ≡ broken 8 29
  pub is_case_waits : verdict_of case_waits_trace (with_marks case_waits_trace case_waits) ≡ lawful
  pub is_case_waits_1 : verdict_of case_waits_trace (with_marks case_waits_trace case_waits_1) ≡ broken 7 55
  pub is_case_waits_2 : verdict_of case_waits_trace (with_marks case_waits_trace case_waits_2) ≡ broken 7 94
