-- The machine's numbers are in range.
use Rattle.std.proofs.Common.{ℕ, arith}
use Rattle.wbt_book.proofs.Words.{words_follow}
use Rattle.wbt_grant.specs.Setting.{IsSetting}
use Rattle.wbt_grant.proofs.Example.{small_is_setting}
use Rattle.wbt_attained.specs.Alone.{alone, IsAlone}

pub is_setting : (cpus batches cap : ℕ) → IsAlone cpus batches cap → IsSetting (alone cpus batches cap)
is_setting cpus batches cap is = let few = is.few_pages in let some = is.some_cpu in record {
  some_cpu = is.some_cpu;
  few_cpus = is.few_cpus;
  some_cap = is.some_cap;
  last_even = omega arith;
  few_pages = is.few_pages;
  homes = λ p l. omega arith;
  seats = λ w l. l;
  firsts_lawful = λ d. record { bg_below_thresh = omega arith; thresh_below_hard = omega arith; hard_in_range = omega arith };
  words_hold = λ book p l. (words_follow (book p)).holds;
  sequences_hold = small_is_setting.sequences_hold;
  limits_hold = small_is_setting.limits_hold;
  unseal_adds = small_is_setting.unseal_adds;
}
