-- The context of a page is one that there is.
use Rattle.std.proofs.Common.{◌≡◌, ℕ, ◌+◌, ◌<◌, Bool, true, false, ◌&&◌, cond, nat_le, nat_lt, Some, List, [], ◌∷◌, All, length, subst}
use Rattle.std.proofs.lemmas.List.Elements.{All-head, All-tail}
use Rattle.wbt_audit_walk.proofs.Common.{IsLawful, Inode, Trace}
use Rattle.wbt_trace.specs.Lawful.{IsInode}
use Rattle.wbt_journal.specs.Machine.{context_among, page_context}

in_range : (contexts page : ℕ) (inodes : List Inode) → All (IsInode contexts) inodes → (context : ℕ) → context_among page inodes ≡ Some context → context < contexts
in_range contexts page [] all context is = cc
in_range contexts page (inode ∷ inodes) all context is =
    by (λ later. in_range contexts page inodes (All-tail (IsInode contexts) inode inodes all) context later) (nat_le inode.first page && nat_lt page (inode.first + inode.pages)) is
  where
    same : Some inode.context ≡ Some context → inode.context ≡ context
    same e = cc

    by : (context_among page inodes ≡ Some context → context < contexts) → (b : Bool) → cond b (Some inode.context) (context_among page inodes) ≡ Some context → context < contexts
    by later true e = subst (λ n. n < contexts) (same e) (All-head (IsInode contexts) inode inodes all).0
    by later false e = later e

pub context_there : (trace : Trace) → IsLawful trace → (page context : ℕ) → page_context trace page ≡ Some context → context < length trace.contexts
context_there trace lawful page context is = in_range (length trace.contexts) page trace.inodes lawful.within.inodes.each context is
