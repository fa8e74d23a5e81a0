-- A machine with one context and a writer on each CPU.
use Rattle.std.specs.Prelude.{ℕ, ◌+◌, ◌*◌, ◌≤◌}
use Rattle.wbt_num.specs.declared.limits.Limits.{Limits}
use Rattle.wbt_num.specs.declared.limits.TheConstants.{LAST_SEQUENCE}
use Rattle.wbt_num.specs.declared.most.TheConstants.{MOST_CPUS, MOST_PAGES}
use Rattle.wbt_counter.specs.Batch.{domain_batch, stat_error}
use Rattle.wbt_grant.specs.Setting.{Setting}
use Rattle.wbt_grant.specs.Example.{plain}

-- its hard limit, which is also its other two limits: so many domain batches
abbrev pub hard_limit : (cpus batches : ℕ) → ℕ
hard_limit cpus batches = batches * domain_batch cpus

-- its pages: as many as the hard limit, a batch for each CPU, and a cap for each writer
abbrev pub all_pages : (cpus batches cap : ℕ) → ℕ
all_pages cpus batches cap = (hard_limit cpus batches + cpus * domain_batch cpus) + cpus * cap

-- its first limits, which are all the same
abbrev pub limits_of : (cpus batches : ℕ) → Limits
limits_of cpus batches = record { thresh = hard_limit cpus batches; bg = hard_limit cpus batches; hard = hard_limit cpus batches }

-- the writer of number i sits on the CPU i, and all pages are of one inode
abbrev pub alone : (cpus batches cap : ℕ) → Setting
alone cpus batches cap = record {
  cpus = cpus;
  cap = cap;
  page_steps = all_pages cpus batches cap;
  last_sequence = LAST_SEQUENCE;
  firsts = λ d. limits_of cpus batches;
  contexts = 1;
  group = λ k. 0;
  pages = all_pages cpus batches cap;
  home = λ p. 0;
  inode = λ p. 0;
  writers = cpus;
  seat = λ w. w;
  works_in = λ w. 0;
  coding = plain;
}

-- numbers in range, and a hard limit that with a batch for each CPU is at least twice the error
pub record IsAlone (cpus batches cap : ℕ) : Type 0 where
  pub some_cpu : 1 ≤ cpus
  pub few_cpus : cpus ≤ MOST_CPUS
  pub some_cap : 1 ≤ cap
  pub few_pages : all_pages cpus batches cap ≤ MOST_PAGES
  pub no_less : 2 * stat_error cpus ≤ hard_limit cpus batches + cpus * domain_batch cpus
