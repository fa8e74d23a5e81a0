-- Where a scan stands.
use Rattle.std.proofs.Common.{◌≡◌, ◌<◌, length, arith}
use Rattle.wbt_replay_order.proofs.Common.{Trace, page_of, inode_of, Scan, IsPageOf}
use Rattle.wbt_rules.proofs.Places.{page_inside}

-- the page that it comes to next is one of its inode
pub scan_page : (trace : Trace) (scan : Scan) → scan.inode < length trace.inodes → scan.first ≡ (inode_of trace scan.inode).first
    → scan.pages ≡ (inode_of trace scan.inode).pages → scan.start < scan.pages → IsPageOf trace scan.inode (page_of scan)
scan_page trace scan there first pages start =
    let inside = page_inside scan.first scan.pages scan.start scan.passed start in
    record { there = there; after_first = omega (arith, inside.0, first); before_end = omega (arith, inside.1, first, pages) }
