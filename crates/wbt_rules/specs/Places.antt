-- Where a scan stands that goes round the pages of its inode.
use Rattle.std.specs.Prelude.{◌≡◌, ℕ, ◌+◌, ◌%◌, ◌<◌, ◌≤◌}
use Rattle.wbt_rules.specs.declared.scan.Scan.{Scan}

-- the place within its inode to which a scan comes that began at one and passed so many pages
abbrev pub place_after : (pages start passed : ℕ) → ℕ
place_after pages start passed = (start + passed) % pages

-- the page at which it looks next
unfoldable pub page_at : (first pages start passed : ℕ) → ℕ
page_at first pages start passed = first + place_after pages start passed

-- the page at which a scan looks next
abbrev pub page_of : (scan : Scan) → ℕ
page_of scan = page_at scan.first scan.pages scan.start scan.passed

-- the page is one of those that the scan hasn't passed
abbrev pub IsAhead : (scan : Scan) (page : ℕ) → Type 0
IsAhead scan page = (k : ℕ) × (scan.passed ≤ k) × (k < scan.pages) × (page_at scan.first scan.pages scan.start k ≡ page)

-- a scan that passes as many pages as its inode has passes each of them once, wherever it begins
abbrev pub PassesEachOnce : Type 0
PassesEachOnce = (first pages start page : ℕ) → start < pages → first ≤ page → page < first + pages
    → (passed : ℕ) × (passed < pages) × (page_at first pages start passed ≡ page)
    × ((other : ℕ) → other < pages → page_at first pages start other ≡ page → other ≡ passed)
