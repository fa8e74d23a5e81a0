-- The setting of a lawful trace is one for the step relation.
use Rattle.std.proofs.Common.{ℕ, ◌<◌, [], length, All, arith}
use Rattle.std.proofs.lemmas.List.Elements.{All-nil}
use Rattle.wbt_num.specs.Limits as numbers
use Rattle.wbt_limits.proofs.Rising.{sequence_in-word, limits_in-words}
use Rattle.wbt_rules.proofs.Firsts.{first_lawful}
use Rattle.wbt_replay_order.proofs.Common.{IsLawful, Trace, word_holds_page, IsSetting, opening_moment, first_limits, inode_with, writers_in, writer_at, setting_of}
use Rattle.wbt_replay_order.proofs.Facts.Facts.{facts}
use Rattle.wbt_replay_order.proofs.Facts.Inodes.{no_inode, found_there}
use Rattle.wbt_replay_order.proofs.Facts.Pairs.{IsPair, no_writer, pairs_of_writers}
use Rattle.wbt_replay_order.proofs.Facts.Tasks.{no_task}

-- the first limits of a domain are lawful
pub firsts_lawful : (trace : Trace) (d : ℕ) → numbers.IsLawful (first_limits trace d)
firsts_lawful trace d = first_lawful trace opening_moment d

module _ (trace : Trace) (lawful : IsLawful trace) where
  pairs : All (IsPair (length trace.tasks) (length trace.contexts)) (writers_in trace)
  pairs = pairs_of_writers (length trace.tasks) (length trace.contexts) [] trace.inodes trace.actions
      (λ n less. (lawful.within.inodes.each n no_inode less).0) (All-nil (IsPair (length trace.tasks) (length trace.contexts))) lawful.within.actions

  -- a writer's task and its context are there
  pub pair_of : (w : ℕ) → w < length (writers_in trace) → IsPair (length trace.tasks) (length trace.contexts) (writer_at trace w)
  pair_of w less = pairs w no_writer less

  pub setting_is : IsSetting (setting_of trace)
  unfolding setting_of
  setting_is =
      let f = facts trace lawful in
      record {
        some_cpu = f.some_cpu;
        few_cpus = f.few_cpus;
        some_cap = f.some_cap;
        last_even = omega arith;
        few_pages = f.few_pages;
        homes = λ p less. f.inode_context (inode_with trace p) (omega (arith, found_there 0 0 p trace.inodes lawful.within.inodes.firsts (omega arith) (omega (arith, less))));
        seats = λ w less. lawful.within.tasks (writer_at trace w).task no_task (pair_of w less).0;
        firsts_lawful = firsts_lawful trace;
        words_hold = λ book p less. word_holds_page book p;
        sequences_hold = sequence_in-word;
        limits_hold = limits_in-words;
        unseal_adds = λ sequence hard. omega arith;
      }
