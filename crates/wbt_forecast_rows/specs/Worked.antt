-- A worked forecast: its text, in full.
use Rattle.std.specs.Prelude.{◌≡◌, ℕ, List, [], ◌∷◌, None, codes, false}
use Rattle.wbt_num.specs.declared.limits.Settings.{Settings}
use Rattle.wbt_trace.specs.declared.trace.Action.TheVariants.{Write}
use Rattle.wbt_trace.specs.declared.trace.Trace.{Trace}
use Rattle.wbt_replay_order.specs.Definition.Run.{state_at}
use Rattle.wbt_forecast_rows.specs.Forecast.{forecast_of}
use Rattle.wbt_forecast_rows.specs.Text.{forecast_text}

-- the settings that hold where a trace gives none: 20 and 10 percent
abbrev pub no_settings : Settings
no_settings = record { ratio = 20; bg_ratio = 10; bytes = 0; bg_bytes = 0 }

-- One CPU, which runs a task and the flusher of a disk that writes 25600 pages a second. 100000 pages are available, and the task
-- writes the two pages of an inode.
abbrev pub two_pages_trace : Trace
two_pages_trace = record {
  cpus = 1;
  cap = 1024;
  settings = no_settings;
  avail = (record { from = 0; pages = 100000 }) ∷ [];
  devices = (record { rate = 25600; min = 0; max = 100; strict = false; chunk = None; cyclic = false }) ∷ [];
  cgroups = [];
  contexts = (record { device = 0; domain = 0; expire = None; estimate = None }) ∷ [];
  inodes = (record { context = 0; first = 0; pages = 2 }) ∷ [];
  tasks = (record { cpu = 0; pace = None }) ∷ [];
  flushers = (record { device = 0; cpu = 0 }) ∷ [];
  actions = Write 0 0 0 2 ∷ [];
  order = [];
  halt = None;
}

-- All moments of the run are in the first interval.
abbrev pub two_pages_text : List ℕ
two_pages_text = codes "forecast 1000\nfrom 0\ndomain 0 0 2 19995 21067\ncontext 0 2 2 25600 25600 25600\ntask 0 2 0 0 0 0\ntotals 2 2\nend done\n"

-- the forecast of this trace, by intervals of a thousand ticks, has just this text
unfoldable pub TwoPagesForecast : Type 0
TwoPagesForecast = forecast_text (forecast_of two_pages_trace 1000 (state_at two_pages_trace) 100) ≡ two_pages_text

-- The pages are written and claimed at tick 1, and completed at tick 2.
abbrev pub two_ticks_text : List ℕ
two_ticks_text = codes "forecast 1\nfrom 1\ndomain 0 2 2 19995 21067\ncontext 0 2 0 25600 25600 25600\ntask 0 2 0 0 0 0\nfrom 2\ndomain 0 0 1 19995 21067\ncontext 0 0 2 25600 25600 25600\ntotals 2 2\nend done\n"

-- the forecast of this trace, tick by tick, has just this text
unfoldable pub TwoTicksForecast : Type 0
TwoTicksForecast = forecast_text (forecast_of two_pages_trace 1 (state_at two_pages_trace) 100) ≡ two_ticks_text
