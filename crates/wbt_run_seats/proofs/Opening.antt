-- A kit has what its trace names.
use Rattle.std.proofs.Common.{◌≡◌, ◌≢◌, ℕ, zero, suc, ◌+◌, ◌<◌, ◌≤◌, max, List, [], ◌∷◌, length, get_or, slice_get, Option, Some, refl, sym, ap, ◌∙◌, subst, arith, length-append, None}
use Rattle.std.proofs.Math.Seq.{get_or-append_seam}
use Rattle.std.proofs.Math.ListN.{get_or-map as map_at}
use Rattle.std.proofs.lemmas.List.{get_or-map, get_or_append_left, length-map}
use Rattle.std.proofs.lemmas.Option.{slice_get-get_or}
use mathlib.Core.Logic.{dite}
use native.Mathlib.Decide.{ℕ_discrete}
use Rattle.wbt_kit.proofs.Common.{Limits, IsLawful, AreFirsts, inode_at, Cgroup, Context, TaskLine, Trace, domains, contexts, pages, cpu_of_task, first_limits, all_writers, setting, Layout, Place, layout_of, place_of, first_cpu, first_lawful}
use Rattle.wbt_limits.proofs.Rising.{cgroup_thresh_is_between}
use Rattle.wbt_journal.specs.Machine.{task_cpu}
use Rattle.wbt_rules.specs.Thresholds.{avail_at}
use Rattle.wbt_journal.specs.Timer.{HasThresholds, IsCgroup}
use Rattle.wbt_journal.specs.declared.timer.TimerEntry.TheVariants as timer
use Rattle.wbt_table.specs.Layout as table
use Rattle.wbt_table.specs.Layout.{no_place, no_writer, no_limits}
use Rattle.wbt_table.specs.declared.layout.Writer.{Writer}
use Rattle.wbt_run_laws.specs.Closed.{OpensWith, first_lines}
use Rattle.wbt_run_laws.specs.Throttle.{IsThrottleOf, writer_at}
use Rattle.wbt_kit.specs.Opening.{firsts_of, owners_of, sizes_of, inodes_on, seated, cpu_of}
use Rattle.wbt_kit.proofs.Laid.{firsts_long, pages_same, pairs}
use Rattle.wbt_run_seats.specs.Opened.{KitIsOpened}
use Rattle.wbt_run_seats.proofs.Plans.{no_inode, places, inode_is, page_lies, ends_within, first_cpu_there}

-- ---- first limits

pub firsts_at : (trace : Trace) (now n d : ℕ) → d < n → get_or (firsts_of trace now n) d no_limits ≡ first_limits trace now d
firsts_at trace now zero d less = absurd (omega arith)
firsts_at trace now (suc n) d less = dite (ℕ_discrete d n)
    (λ last. ap (λ (k : ℕ). get_or (firsts_of trace now (suc n)) k no_limits) (last ∙ sym (firsts_long trace now n))
    ∙ get_or-append_seam (firsts_of trace now n) (first_limits trace now n) [] no_limits ∙ ap (first_limits trace now) (sym last))
    (λ other. get_or_append_left (firsts_of trace now n) (first_limits trace now n ∷ []) no_limits d (let q : d ≢ n = other in omega (arith, firsts_long trace now n))
    ∙ firsts_at trace now n d (let q : d ≢ n = other in omega arith))

-- lines of equal limits
lines_same : (f g : ℕ → Limits) (now domain count : ℕ) → ((d : ℕ) → d < domain + count → f d ≡ g d) → first_lines f now domain count ≡ first_lines g now domain count
lines_same f g now domain zero same = refl
lines_same f g now domain (suc count) same = λ i. timer.Limits domain now (same domain (omega arith) i) ∷ lines_same f g now (suc domain) count (λ d less. same d (omega arith)) i

-- ---- thresholds of the opening

has_thresholds : (trace : Trace) (now domain : ℕ) → domain < domains trace → HasThresholds trace now domain (first_limits trace now domain)
has_thresholds trace now zero less = record { thresh = refl; background = refl }
has_thresholds trace now (suc cgroup) less =
    let g : Cgroup = get_or trace.cgroups cgroup (record { filepages = 0; headroom = 0 }) in
    let lies = cgroup_thresh_is_between g.filepages g.headroom 0 (avail_at trace now) 0 trace.settings (Some (avail_at trace now)) in
    let lawful = first_lawful trace now (suc cgroup) in
    subst (λ (o : Option Cgroup). IsCgroup trace now o (first_limits trace now (suc cgroup))) (sym (slice_get-get_or trace.cgroups cgroup (record { filepages = 0; headroom = 0 }) (omega (arith, less))))
    (record { at_least = lies.0; at_most = lies.1; background = lawful.bg_below_thresh })

-- ---- the throttle

module _ (trace : Trace) (now : ℕ) (lawful : IsLawful trace) where
  abbrev key : Layout
  key = layout_of trace now

  abbrev in_order : AreFirsts 0 trace.inodes
  in_order = lawful.within.inodes.firsts

  pub enough_pages : table.pages_in (places trace.inodes) ≡ pages trace
  enough_pages = pages_same trace.inodes

  writer_same : (w : ℕ) → w < length (all_writers trace) → get_or key.writers w no_writer ≡ seated trace (writer_at trace w)
  writer_same w less = get_or-map (seated trace) (all_writers trace) w (record { task = 0; context = 0 }) no_writer less

  pub home_there : (page : ℕ) → page < pages trace → (setting key).home page < contexts trace
  home_there page less =
      let lies = page_lies 0 trace.inodes page in_order (omega arith) (omega (arith, enough_pages)) in
      let k = table.inode_at page (places trace.inodes) in
      subst (λ (p : Place). p.context < contexts trace) (sym (get_or-map place_of trace.inodes k no_inode no_place lies.there))
      (lawful.within.inodes.each k no_inode lies.there).0

  pub is_throttle : IsThrottleOf trace (setting key)
  is_throttle = record {
    cpus = refl;
    cap = refl;
    contexts_are = length-map trace.contexts (λ (c : Context). c.domain);
    pages_are = enough_pages;
    writers_are = length-map (all_writers trace) (seated trace);
    groups = λ context. map_at (λ (c : Context). c.domain) trace.contexts context (record { device = 0; domain = 0; expire = None; estimate = None });
    homes = λ page less. (page_lies 0 trace.inodes page in_order (omega arith) (omega (arith, enough_pages))).context;
    homes_are = home_there;
    works_in = λ w less. ap (λ (x : Writer). x.context) (writer_same w less);
  }

  pub first_is : (d : ℕ) → d < domains trace → (setting key).firsts d ≡ first_limits trace now d
  first_is d less = firsts_at trace now (domains trace) d less

  pub opens_with : OpensWith trace now (setting key).firsts
  opens_with = record {
    thresholds = λ d less. subst (HasThresholds trace now d) (sym (first_is d less)) (has_thresholds trace now d less);
    hards = λ d less. subst (λ (l : Limits). l.hard ≡ l.thresh) (sym (first_is d less)) refl;
  }

  -- ---- writers and inodes

  task_there : (tasks : List TaskLine) (k : ℕ) (d : TaskLine) → k < length tasks → cpu_of_task (slice_get tasks k) ≡ Some (get_or tasks k d).cpu
  task_there [] k d less = absurd (omega arith)
  task_there (t ∷ tasks) zero d less = refl
  task_there (t ∷ tasks) (suc k) d less = task_there tasks k d (omega arith)

  pub writer_seated : (w : ℕ) → w < length (all_writers trace)
      → (task_cpu trace (writer_at trace w).task ≡ Some ((setting key).seat w)) × ((setting key).seat w ≡ cpu_of trace (writer_at trace w).task)
      × ((setting key).seat w < trace.cpus) × ((writer_at trace w).context < contexts trace)
  writer_seated w less =
      let pair = pairs trace now lawful w (record { task = 0; context = 0 }) less in
      let same = ap (λ (x : Writer). x.cpu) (writer_same w less) in (
        task_there trace.tasks (writer_at trace w).task (record { cpu = 0; pace = None }) pair.0 ∙ ap Some (sym same),
        same,
        subst (λ (n : ℕ). n < trace.cpus) (sym same) (lawful.within.tasks (writer_at trace w).task (record { cpu = 0; pace = None }) pair.0),
        pair.1,
      )

  pub inode_lies : (inode page : ℕ) → inode < length trace.inodes → (inode_at inode trace.inodes).first ≤ page
      → page < (inode_at inode trace.inodes).first + (inode_at inode trace.inodes).pages
      → (page < pages trace) × ((setting key).inode page ≡ inode) × ((setting key).home page ≡ (inode_at inode trace.inodes).context)
  inode_lies inode page less from to =
      let is = inode_is 0 trace.inodes inode page no_inode in_order less from to in
      let ends = ends_within 0 trace.inodes inode no_inode in_order less in (
        omega (arith, enough_pages),
        is,
        ap (λ (k : ℕ). (get_or (places trace.inodes) k no_place).context) is ∙ ap (λ (p : Place). p.context) (get_or-map place_of trace.inodes inode no_inode no_place less),
      )

  -- ---- devices

  pub owner_there : (k : ℕ) → k < length (owners_of trace) → get_or (owners_of trace) k 0 < trace.cpus
  owner_there k less =
      let long = length-map trace.contexts (λ (c : Context). first_cpu c.device trace.flushers) in
      subst (λ (n : ℕ). n < trace.cpus) (sym (get_or-map (λ (c : Context). first_cpu c.device trace.flushers) trace.contexts k (record { device = 0; domain = 0; expire = None; estimate = None }) 0 (omega (arith, long))))
      (first_cpu_there (get_or trace.contexts k (record { device = 0; domain = 0; expire = None; estimate = None })).device (length trace.devices) trace.cpus trace.flushers lawful.whole.cpus lawful.within.flushers)

  pub sizes_long : (n : ℕ) → length (sizes_of trace n) ≡ n
  sizes_long zero = refl
  sizes_long (suc n) = let before = sizes_long n in omega (arith, length-append (sizes_of trace n) (max (inodes_on trace n) 1 ∷ []))

-- ---- the kit

pub kit_is_opened : KitIsOpened
kit_is_opened trace now kit lawful is =
    let key = layout_of trace now in
    let Opens : Layout → Type 0 = λ l. IsThrottleOf trace (setting l) × OpensWith trace now (setting l).firsts in
    let both = subst Opens (sym is.layout) (is_throttle trace now lawful, opens_with trace now lawful) in
    record {
      throttle = both.0;
      opens = both.1;
      lines = lines_same (first_limits trace now) (setting kit.throttle.layout).firsts now 0 (domains trace)
          (λ d less. sym (first_is trace now lawful d (omega (arith, less))) ∙ ap (λ (l : Layout). (setting l).firsts d) (sym is.layout));
      cpus = ap (λ (l : Layout). l.cpus) is.layout;
      page_steps = subst (λ (l : Layout). l.page_steps ≤ 8589934592) (sym is.layout) (omega arith);
      limits_are = ap (λ (l : Layout). table.domains l) is.layout ∙ firsts_long trace now (domains trace);
      domains_are = is.domains_are;
      contexts_are = is.contexts_are;
      homes_are = ap (λ (l : List ℕ). length l) is.homes ∙ length-map trace.contexts (λ (c : Context). c.domain);
      inodes_are = ap (λ (l : Layout). length l.inodes) is.layout ∙ length-map trace.inodes place_of;
      devices_are = ap (λ (l : List ℕ). length l) is.sizes ∙ sizes_long trace now lawful (length trace.devices);
      owners = λ context less. subst (λ (l : List ℕ). get_or l context 0 < trace.cpus) (sym is.owners)
          (owner_there trace now lawful context (omega (arith, length-map trace.contexts (λ (c : Context). first_cpu c.device trace.flushers))));
      writers = λ w less.
          let its = writer_seated trace now lawful w less in
          record {
            cpu = its.0 ∙ ap (λ (l : Layout). Some ((setting l).seat w)) (sym is.layout);
            same_cpu = ap (λ (l : Layout). (setting l).seat w) is.layout ∙ its.1;
            on_cpu = subst (λ (l : Layout). (setting l).seat w < trace.cpus) (sym is.layout) its.2;
            in_context = both.0.works_in w less;
            there = its.3;
          };
      inodes = λ inode page less from to.
          let its = inode_lies trace now lawful inode page less from to in
          record {
            there = its.0;
            inode_is = ap (λ (l : Layout). (setting l).inode page) is.layout ∙ its.1;
            home = ap (λ (l : Layout). (setting l).home page) is.layout ∙ its.2;
          };
    }
