-- What the lines of a law text have said.
use Rattle.std.specs.Prelude.{ℕ, None}
use Rattle.wbt_estimate.specs.declared.estimate.Estimate.{Estimate}
use Rattle.wbt_law.specs.declared.input.Draft.{Draft}
use Rattle.wbt_law.specs.declared.place.Place.TheVariants.{Cpus}

-- rates of which only the average and the rate limit are known
abbrev pub rates_of : (avg ratelimit : ℕ) → Estimate
rates_of avg ratelimit = record {
  version = 0;
  bw = avg;
  avg = avg;
  ratelimit = ratelimit;
  balanced = ratelimit;
  written_stamp = 0;
  dirtied_stamp = 0;
  at = 0;
}

-- before the first line: the least that each line may say
abbrev pub start : Draft
start = record {
  place = Cpus;
  law = record {
    reads = record {
      global = record { limits = record { thresh = 0; bg = 0; hard = 0 }; dirty = 0; wb_thresh = 0 };
      cgroup = None;
      wb_dirty = 0;
      cpus = 1;
      cap = 1;
    };
    estimate = rates_of 1 1;
    task = record { nr_dirtied = 0; nr_dirtied_pause = 0; paused_when = 0 };
    now = 0;
  };
}
