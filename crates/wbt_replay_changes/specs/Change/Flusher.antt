-- What becomes of a flusher alone.
use Rattle.std.specs.Prelude.{ℕ, Bool}
use Rattle.wbt_rules.specs.declared.scan.Scan.{Scan}

-- what becomes of a flusher alone
pub data FlusherChange : Type 0 where
  -- it is idle until a moment; the drain doesn't drop a rest that is kept
  idled : (until : ℕ) (kept : Bool) → FlusherChange
  -- its scan passes a page that can't be claimed, and may note that the inode is to be marked again
  passed : (scan : Scan) (again : Bool) → FlusherChange
  -- it keeps the place at which its next scan of the inode begins
  placed : (scan : Scan) → FlusherChange
  -- it keeps the hard limit that it loaded
  limited : (hard : ℕ) → FlusherChange
  -- its wheel is told a moment
  told : (now : ℕ) → FlusherChange
