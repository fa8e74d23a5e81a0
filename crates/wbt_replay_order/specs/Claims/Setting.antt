-- What of a trace's throttle never changes, for the step relation.
use Rattle.std.specs.Prelude.{ℕ, ◌+◌, if◌then◌else◌, nat_lt, List, [], ◌∷◌, length, get_or}
use Rattle.wbt_limits.specs.Words.{sequence_word_of, thresh_word_of, sequence_in, limits_in}
use Rattle.wbt_num.specs.declared.limits.TheConstants.{LAST_SEQUENCE}
use Rattle.wbt_num.specs.declared.most.TheConstants.{MOST_PAGE_STEPS}
use Rattle.wbt_trace.specs.Lawful.{writers_of}
use Rattle.wbt_trace.specs.Sofar.{pages_in}
use Rattle.wbt_trace.specs.declared.trace.Inode.{Inode}
use Rattle.wbt_trace.specs.declared.trace.Trace.{Trace}
use Rattle.wbt_trace.specs.declared.writers.Writer.{Writer}
use Rattle.wbt_book.specs.PageWords.{shared_word, bits_at}
use Rattle.wbt_grant.specs.Setting.{Setting}
use Rattle.wbt_rules.specs.Things.{context_of, group_of}
use Rattle.wbt_replay_order.specs.Definition.Opening.{first_limits}
use Rattle.wbt_replay_order.specs.Definition.Tasks.{task_cpu}

-- the number of the inode that has the page, of inodes from a number on
abbrev pub inode_from : (page number : ℕ) (inodes : List Inode) → ℕ
inode_from page number [] = number
inode_from page number (i ∷ inodes) = if nat_lt page (i.first + i.pages) then number else inode_from page (number + 1) inodes

-- the number of the inode that has a page of the trace
abbrev pub inode_with : (trace : Trace) (page : ℕ) → ℕ
inode_with trace page = inode_from page 0 trace.inodes

-- the trace's writers: the distinct pairs of a task and the context of an inode that it writes
abbrev pub writers_in : (trace : Trace) → List Writer
writers_in trace = writers_of trace.inodes trace.actions

-- a writer by its number
abbrev pub writer_at : (trace : Trace) (w : ℕ) → Writer
writer_at trace w = get_or (writers_in trace) w (record { task = 0; context = 0 })

-- the setting of the step relation that a trace gives
unfoldable pub setting_of : (trace : Trace) → Setting
setting_of trace = record {
  cpus = trace.cpus;
  cap = trace.cap;
  page_steps = MOST_PAGE_STEPS;
  last_sequence = LAST_SEQUENCE;
  firsts = λ d. first_limits trace d;
  contexts = length trace.contexts;
  group = λ k. group_of trace k;
  pages = pages_in trace.inodes;
  home = λ p. context_of trace (inode_with trace p);
  inode = λ p. inode_with trace p;
  writers = length (writers_in trace);
  seat = λ w. task_cpu trace (writer_at trace w).task;
  works_in = λ w. (writer_at trace w).context;
  coding = record {
    page_word = λ book p. shared_word book p;
    page_bits = λ word p. bits_at word p;
    sequence_word = sequence_word_of;
    thresh_word = thresh_word_of;
    sequence_in = sequence_in;
    limits_in = limits_in;
  };
}
