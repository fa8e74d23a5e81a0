-- What a flusher knows of its trace, and how it fits the kit that it works over.
use Rattle.std.specs.Prelude.{◌≡◌, ℕ, ◌+◌, ◌<◌, ◌≤◌, Bool, IfSome, length, slice_get, slice_index_or, Some}
use Rattle.wbt_num.specs.declared.most.TheConstants.{MOST_CGROUPS, MOST_CONTEXTS, MOST_PAGES, MOST_PAGE_STEPS}
use Rattle.wbt_trace.specs.Lawful.{IsChunk, IsExpire}
use Rattle.wbt_trace.specs.Sofar.{least_shares}
use Rattle.wbt_trace.specs.declared.ranges.TheConstants.{MOST_PERCENT}
use Rattle.wbt_trace.specs.declared.trace.Context.{Context}
use Rattle.wbt_trace.specs.declared.trace.Inode.{Inode}
use Rattle.wbt_trace.specs.declared.trace.Trace.{Trace}
use Rattle.wbt_journal.specs.Machine.{domains}
use Rattle.wbt_rules.specs.Age.{expire_of, is_ageing}
use Rattle.wbt_rules.specs.First.{first_estimates}
use Rattle.wbt_rules.specs.Things as things
use Rattle.wbt_rules.specs.Things.{context_in, greatest_share, inode_in, inode_end}
use Rattle.wbt_table.specs.Layout as table
use Rattle.wbt_table.specs.Layout.{setting}
use Rattle.wbt_run_laws.specs.Throttle.{IsThrottleOf}
use Rattle.wbt_kit.specs.declared.kit.Kit.{Kit}
use Rattle.wbt_flusher.specs.declared.plan.FlusherPlan.{FlusherPlan}

-- an inode of the plan by number
abbrev pub inode_at : (plan : FlusherPlan) (inode : ℕ) → Inode
inode_at plan inode = inode_in plan.inodes inode

-- a context of the plan by number
abbrev pub context_at : (plan : FlusherPlan) (context : ℕ) → Context
context_at plan context = context_in plan.contexts context

-- the page after an inode's last
abbrev pub end_of : (plan : FlusherPlan) (inode : ℕ) → ℕ
end_of plan inode = inode_end (inode_at plan inode)

-- the context of an inode
abbrev pub context_of : (plan : FlusherPlan) (inode : ℕ) → ℕ
context_of plan inode = (inode_at plan inode).context

-- the cgroup of a context, 0 where it has none
abbrev pub group_of : (plan : FlusherPlan) (context : ℕ) → ℕ
group_of plan context = (context_at plan context).domain

-- the greatest share of the flusher's device, in 1024ths
abbrev pub max_share : (plan : FlusherPlan) → ℕ
max_share plan = greatest_share plan.shares

-- its device is strict
abbrev pub is_strict : (plan : FlusherPlan) → Bool
is_strict plan = plan.shares.strict

-- the moment at which an inode is due that is noticed at one
abbrev pub due_of : (plan : FlusherPlan) (inode since : ℕ) → ℕ
due_of plan inode since = since + expire_of (context_at plan (context_of plan inode))

-- an inode of the flusher's device
pub record IsInode (plan : FlusherPlan) (inode : ℕ) : Type 0 where
  pub there : inode < length plan.inodes
  pub of_device : (context_at plan (context_of plan inode)).device ≡ plan.device

-- numbers in range, and names of what there is
pub record IsPlan (plan : FlusherPlan) : Type 0 where
  pub some_domain : 1 ≤ plan.domains
  pub few_domains : plan.domains ≤ MOST_CGROUPS + 1
  pub few_contexts : length plan.contexts ≤ MOST_CONTEXTS
  pub groups : (context : ℕ) → context < length plan.contexts → group_of plan context < plan.domains
  pub contexts : (inode : ℕ) → inode < length plan.inodes → context_of plan inode < length plan.contexts
  pub pages : (inode : ℕ) → inode < length plan.inodes → end_of plan inode ≤ plan.pages
  pub some_page : (inode : ℕ) → inode < length plan.inodes → (inode_at plan inode).first < end_of plan inode
  pub few_pages : plan.pages ≤ MOST_PAGES
  pub few_inodes : length plan.inodes < MOST_PAGES
  pub expires : (context : ℕ) → context < length plan.contexts → IfSome (context_at plan context).expire IsExpire
  pub shares : (plan.shares.min ≤ plan.shares.max) × (plan.shares.max ≤ MOST_PERCENT)
  pub chunk : IfSome plan.shares.chunk IsChunk
  pub least : plan.least_shares ≤ MOST_PERCENT

-- the kit has what the plan names
pub record Suits (plan : FlusherPlan) (kit : Kit) : Type 0 where
  pub plan_is : IsPlan plan
  pub cpu : plan.cpu < kit.throttle.layout.cpus
  pub domains_are : plan.domains ≡ table.domains kit.throttle.layout
  pub shared_domains : plan.domains ≡ length kit.shares.domains
  pub contexts_are : length plan.contexts ≡ length kit.throttle.layout.contexts
  pub homes_are : length plan.contexts ≡ length kit.shares.homes
  pub groups : (context : ℕ) → context < length plan.contexts → slice_index_or kit.shares.homes context 0 ≡ group_of plan context
  pub totals : length kit.shares.homes ≤ kit.shares.totals.contexts
  pub published : length plan.contexts ≡ length kit.published.names
  pub inodes_are : length plan.inodes ≡ length kit.throttle.layout.inodes
  pub pages_are : plan.pages ≡ (setting kit.throttle.layout).pages
  -- an inode's pages are those from its first one on
  pub its_pages : (inode page : ℕ) → inode < length plan.inodes → (inode_at plan inode).first ≤ page → page < end_of plan inode
      → (setting kit.throttle.layout).inode page ≡ inode
  pub no_others : (inode page : ℕ) → inode < length plan.inodes → page < plan.pages → (setting kit.throttle.layout).inode page ≡ inode
      → ((inode_at plan inode).first ≤ page) × (page < end_of plan inode)
  pub counted : (page : ℕ) → page < plan.pages → (setting kit.throttle.layout).home page < length kit.throttle.layout.contexts
  pub counted_in : (context : ℕ) → context < length kit.throttle.layout.contexts → (setting kit.throttle.layout).group context < table.domains kit.throttle.layout
  pub few_page_steps : kit.throttle.layout.page_steps ≤ MOST_PAGE_STEPS
  pub device : plan.device < length kit.queues.sizes

-- ---- of a trace

-- what a trace says of one of its flushers
pub record IsPlanOf (trace : Trace) (plan : FlusherPlan) : Type 0 where
  pub line : slice_get trace.flushers plan.flusher ≡ Some (record { device = plan.device; cpu = plan.cpu })
  pub leads : plan.leads ≡ things.leads trace plan.flusher
  pub ages : plan.ages ≡ is_ageing trace plan.device
  pub domains_are : plan.domains ≡ domains trace
  pub inodes : plan.inodes ≡ trace.inodes
  pub contexts : plan.contexts ≡ trace.contexts
  pub shares : slice_get trace.devices plan.device ≡ Some plan.shares
  pub least : plan.least_shares ≡ least_shares trace.devices

-- the plan and the kit are of one trace
pub record IsWork (trace : Trace) (plan : FlusherPlan) (kit : Kit) : Type 0 where
  pub plan_is : IsPlanOf trace plan
  pub throttle : IsThrottleOf trace (setting kit.throttle.layout)
  pub firsts : kit.published.firsts ≡ first_estimates trace kit.published.moment
