-- What of a throttle never changes: its numbers, where its words stand, and what they are at the start.
use Rattle.std.specs.Prelude.{◌≡◌, ℕ, suc, ◌+◌, ◌*◌, ◌<◌, ◌≤◌, cond, nat_lt, List, [], ◌∷◌, ◌++◌, All, length, map, replicate, get_or, pos}
use Rattle.wbt_num.specs.declared.limits.Limits.{Limits}
use Rattle.wbt_num.specs.declared.limits.TheConstants.{LAST_SEQUENCE}
use Rattle.wbt_num.specs.declared.most.TheConstants.{MOST_CPUS, MOST_CAP, MOST_CGROUPS, MOST_CONTEXTS, MOST_INODES, MOST_PAGES, MOST_WRITERS, MOST_PAGE_STEPS}
use Rattle.wbt_num.specs.Limits.{IsLawful}
use Rattle.wbt_limits.specs.Words.{sequence_word_of, thresh_word_of, sequence_in, limits_in}
use Rattle.wbt_counter.specs.declared.counter.Counter.{Counter}
use Rattle.wbt_counter.specs.declared.counter.Counter.TheVariants.{Domain, Context}
use Rattle.wbt_counter.specs.Batch.{domain_batch, context_batch}
use Rattle.wbt_counter.specs.Word.{packed, own_word}
use Rattle.wbt_book.specs.PageWords.{word_of, words_for, bits_at, shared_word}
use Rattle.wbt_grant.specs.Setting.{Setting}
use Rattle.wbt_table.specs.declared.layout.Layout.{Layout}
use Rattle.wbt_table.specs.declared.layout.Place.{Place}
use Rattle.wbt_table.specs.declared.layout.Writer.{Writer}
use Rattle.wbt_table.specs.declared.words.Batches.{Batches}
use Rattle.wbt_table.specs.declared.words.Offsets.{Offsets}
use Rattle.wbt_table.specs.declared.words.TheConstants.{WORDS_PER_LINE, SPARE_WORDS}

-- how many pages inodes have together
abbrev pub pages_in : (inodes : List Place) → ℕ
pages_in [] = 0
pages_in (place ∷ more) = place.pages + pages_in more

-- the number of the first inode that ends after a page
abbrev pub inode_at : (page : ℕ) (inodes : List Place) → ℕ
inode_at page [] = 0
inode_at page (place ∷ more) = cond (nat_lt page (place.first + place.pages)) 0 (suc (inode_at page more))

-- what stands for numbers of which the layout has nothing
abbrev pub no_place : Place
no_place = record { context = 0; first = 0; pages = 0 }

-- what stands for a writer that the layout hasn't
abbrev pub no_writer : Writer
no_writer = record { cpu = 0; context = 0 }

-- what stands for the first limits of a domain that the layout hasn't
abbrev pub no_limits : Limits
no_limits = record { thresh = 0; bg = 0; hard = 0 }

-- the setting of the step relation: thirty-two pages a word, and two words for the limits of a domain
abbrev pub setting : (key : Layout) → Setting
setting key = record {
  cpus = key.cpus;
  cap = key.cap;
  page_steps = key.page_steps;
  last_sequence = LAST_SEQUENCE;
  firsts = λ d. get_or key.firsts d no_limits;
  contexts = length key.contexts;
  group = λ k. get_or key.contexts k 0;
  pages = pages_in key.inodes;
  home = λ p. (get_or key.inodes (inode_at p key.inodes) no_place).context;
  inode = λ p. inode_at p key.inodes;
  writers = length key.writers;
  seat = λ w. (get_or key.writers w no_writer).cpu;
  works_in = λ w. (get_or key.writers w no_writer).context;
  coding = record {
    page_word = shared_word;
    page_bits = bits_at;
    sequence_word = sequence_word_of;
    thresh_word = thresh_word_of;
    sequence_in = sequence_in;
    limits_in = limits_in;
  };
}

-- the counters by number: the domains' first, then the contexts'
abbrev pub domains : (key : Layout) → ℕ
domains key = length key.firsts

-- how many counters there are, which is how many shared words there are, and how many own words each CPU has
abbrev pub counters : (key : Layout) → ℕ
counters key = domains key + length key.contexts

-- the number of a counter among them, from 0: a domain's is its own, a context's comes after all domains'
abbrev pub number : (key : Layout) (x : Counter) → ℕ
number key (Domain d) = d
number key (Context k) = domains key + k

-- a counter of a domain or of a context that there is
abbrev pub HasCounter : (key : Layout) (x : Counter) → Type 0
HasCounter key (Domain d) = d < domains key
HasCounter key (Context k) = k < length key.contexts

-- Where the words stand. Word 0 is that of split and join; then come the page words, the inodes' words, the shared words of
-- the counters, each CPU's own words of them, the sequence words, the thresh words and the peaks of the domains. Spare words part what CPUs change apart
-- from each other, so that a line of a cache has words of one part alone, wherever lines begin
abbrev pub page_words : (key : Layout) → ℕ
page_words key = words_for (pages_in key.inodes)

-- where the inodes' words begin, after the page words
abbrev pub inodes_from : (key : Layout) → ℕ
inodes_from key = 1 + page_words key + SPARE_WORDS

-- each inode's word has a line of its own
abbrev pub shared_from : (key : Layout) → ℕ
shared_from key = inodes_from key + length key.inodes * WORDS_PER_LINE

-- where the own words begin, with those of the CPU 0
abbrev pub own_from : (key : Layout) → ℕ
own_from key = shared_from key + (counters key + SPARE_WORDS)

-- from a CPU's first own word to that of the next CPU
abbrev pub stride : (key : Layout) → ℕ
stride key = counters key + SPARE_WORDS

-- where the sequence words begin, and after them the thresh words
abbrev pub limits_from : (key : Layout) → ℕ
limits_from key = own_from key + key.cpus * stride key

-- where the peaks begin, after the thresh words
abbrev pub peaks_from : (key : Layout) → ℕ
peaks_from key = limits_from key + domains key + domains key

-- how many words there are in all, the spare ones among them
abbrev pub width : (key : Layout) → ℕ
width key = peaks_from key + domains key + SPARE_WORDS

-- the place of a page's word, which up to 32 pages share
abbrev pub page_at : (page : ℕ) → ℕ
page_at page = 1 + word_of page

-- the place of the inode n's word, which has its mark
abbrev pub mark_at : (key : Layout) (n : ℕ) → ℕ
mark_at key n = inodes_from key + n * WORDS_PER_LINE

-- the place of a counter's shared word
abbrev pub shared_at : (key : Layout) (x : Counter) → ℕ
shared_at key x = shared_from key + number key x

-- the place of the CPU i's own word of a counter
abbrev pub own_at : (key : Layout) (x : Counter) (i : ℕ) → ℕ
own_at key x i = own_from key + (i * stride key + number key x)

-- the place of a domain's sequence word
abbrev pub sequence_at : (key : Layout) (d : ℕ) → ℕ
sequence_at key d = limits_from key + d

-- the place of a domain's thresh word
abbrev pub thresh_at : (key : Layout) (d : ℕ) → ℕ
thresh_at key d = limits_from key + domains key + d

-- the place of a domain's peak
abbrev pub peak_at : (key : Layout) (d : ℕ) → ℕ
peak_at key d = peaks_from key + d

-- the sequence word at the start: the first limits have the sequence 0
abbrev pub first_sequence_word : (limits : Limits) → ℕ
first_sequence_word limits = sequence_word_of 0 limits.hard

-- the words at the start: no page is dirty, nothing is marked or counted, and the first limits stand published
abbrev pub opening_words : (key : Layout) → List ℕ
opening_words key = replicate (shared_from key) 0 ++ replicate (counters key + SPARE_WORDS) (packed 0 (pos 0))
    ++ replicate (key.cpus * stride key) (own_word (pos 0)) ++ map first_sequence_word key.firsts ++ map thresh_word_of key.firsts
    ++ map (λ (limits : Limits). limits.hard) key.firsts ++ replicate SPARE_WORDS 0

-- inodes lie one after the other
abbrev pub AreInOrder : (from : ℕ) (inodes : List Place) → Type 0
AreInOrder from [] = Unit {0}
AreInOrder from (place ∷ more) = (place.first ≡ from) × AreInOrder (from + place.pages) more

-- numbers in range, and names of what there is
pub record IsLayout (key : Layout) : Type 0 where
  pub some_cpu : 1 ≤ key.cpus
  pub few_cpus : key.cpus ≤ MOST_CPUS
  pub some_cap : 1 ≤ key.cap
  pub small_cap : key.cap ≤ MOST_CAP
  pub some_page_step : 1 ≤ key.page_steps
  pub few_page_steps : key.page_steps ≤ MOST_PAGE_STEPS
  pub some_domain : 1 ≤ domains key
  pub few_domains : domains key ≤ 1 + MOST_CGROUPS
  pub firsts_lawful : All IsLawful key.firsts
  pub few_contexts : length key.contexts ≤ MOST_CONTEXTS
  pub contexts_in_domains : All (λ d. d < domains key) key.contexts
  pub few_inodes : length key.inodes ≤ MOST_INODES
  pub few_pages : pages_in key.inodes ≤ MOST_PAGES
  pub inodes_in_order : AreInOrder 0 key.inodes
  pub inodes_in_contexts : All (λ (place : Place). place.context < length key.contexts) key.inodes
  pub few_writers : length key.writers ≤ MOST_WRITERS
  pub writers_on_cpus : All (λ (writer : Writer). writer.cpu < key.cpus) key.writers
  pub writers_in_contexts : All (λ (writer : Writer). writer.context < length key.contexts) key.writers

-- where the parts begin, as the code keeps it
abbrev pub offsets : (key : Layout) → Offsets
offsets key = record {
  inodes = inodes_from key;
  shared = shared_from key;
  own = own_from key;
  limits = limits_from key;
  peaks = peaks_from key;
  stride = stride key;
  domains = domains key;
}

-- and the batches of counters
abbrev pub batches : (key : Layout) → Batches
batches key = record { domain = domain_batch key.cpus; context = context_batch key.cpus }
