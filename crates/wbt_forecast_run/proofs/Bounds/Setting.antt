-- The setting of a trace with room for the steps of the longest run: the step relation follows each run by it.
use Rattle.std.proofs.Common.{ℕ, ◌*◌, arith}
use Rattle.wbt_replay_order.proofs.Common.{Setting, IsSetting, IsLawful, Trace, State, setting_of, Suits, most_ever, Sound}
use Rattle.wbt_replay_order.proofs.Facts.Settings.{setting_is}
use Rattle.wbt_replay_path.proofs.Follow.Whole.{TakesSteps}
use Rattle.wbt_forecast_run.proofs.Counts.Exact.{suits_lawful}

-- the trace's setting, but for how many page steps and which sequences it has room
abbrev pub roomy : (trace : Trace) → Setting
roomy trace = record (setting_of trace) { page_steps = most_ever; last_sequence = 2 * most_ever }

-- it has room for the steps that a sound state's run may make
pub roomy_takes : (trace : Trace) (s : State) → Sound trace s → TakesSteps (roomy trace) s.most
roomy_takes trace s sound = let long = sound.holds.long in record { page_steps = long; last_sequence = omega (arith, long) }

module _ (trace : Trace) (lawful : IsLawful trace) where
  pub roomy_is : IsSetting (roomy trace)
  roomy_is = let is = setting_is trace lawful in record {
    some_cpu = is.some_cpu;
    few_cpus = is.few_cpus;
    some_cap = is.some_cap;
    last_even = omega arith;
    few_pages = is.few_pages;
    homes = is.homes;
    seats = is.seats;
    firsts_lawful = is.firsts_lawful;
    words_hold = is.words_hold;
    sequences_hold = is.sequences_hold;
    limits_hold = is.limits_hold;
    unseal_adds = is.unseal_adds;
  }

  pub roomy_suits : Suits trace (roomy trace)
  roomy_suits = let suits = suits_lawful trace lawful in record {
    cpus = suits.cpus;
    cap = suits.cap;
    contexts = suits.contexts;
    group = suits.group;
    pages = suits.pages;
    page = suits.page;
    home = suits.home;
    writers = suits.writers;
    seat = suits.seat;
    works_in = suits.works_in;
    writer_context = suits.writer_context;
    once = suits.once;
    writer_is = suits.writer_is;
    setting_is = roomy_is;
    word = suits.word;
    bits = suits.bits;
    hard_once = suits.hard_once;
  }
