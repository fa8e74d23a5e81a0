-- What a machine in memory stands for.
use Rattle.wbt_replay_moves.specs.Definition.State.{State}
use Rattle.wbt_replay_moves.specs.Pages.{book_of}
use Rattle.wbt_replay_moves.specs.Steps.{steps_of}
use Rattle.wbt_replay_moves.specs.declared.machine.Machine.{Machine}

-- the state that a machine in memory stands for
abbrev pub seen : (m : Machine) → State
seen m = record {
  now = m.clock;
  pages = m.pages.count;
  book = book_of m.pages.words;
  ratelimit_pages = m.ratelimit_pages;
  domains = m.domains.items;
  contexts = m.contexts.items;
  marks = m.marks.items;
  queues = m.queues.items;
  tasks = m.tasks.items;
  flushers = m.flushers.items;
  cpus = m.cpus.items;
  running = m.running;
  working = m.working;
  stopped = m.stopped;
  spent = m.spent;
  orders = m.orders;
  rotation = m.rotation;
  timer = m.timer;
  steps = steps_of m.steps;
  most = m.most;
}
