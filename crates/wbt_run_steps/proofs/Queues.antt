-- Puts and takes leave the stakes of a pass, and what it knows of other devices' queues.
use Rattle.std.proofs.Common.{◌≡◌, ℕ, zero, suc, List, [], ◌∷◌, ◌++◌, get_or, set, Result, Ok, Err, Option, Some, None, refl, sym, ap, ◌∙◌, subst, append_assoc, append-nil}
use Rattle.std.specs.Prelude.{IfOk, IfErr, IfSome, IfNone}
use Rattle.std.proofs.lemmas.List.{get_or-set_other}
use mathlib.Core.Logic.{dite}
use native.Mathlib.Decide.{ℕ_discrete}
use Rattle.wbt_queue.specs.Known.{opening, after_put, after_take}
use Rattle.wbt_kit.proofs.Common.{Seats}
use Rattle.wbt_queue.specs.Passes.{known_of}
use Rattle.wbt_queue.specs.declared.known.Known.{Known}
use Rattle.wbt_run_steps.specs.Queues.{OnlyDevice, PutsMore}

-- ---- what a pass put into a queue

pub puts_none : (old new : Known) → new ≡ old → PutsMore old new
puts_none old new same = record { puts = []; after = ap (λ (k : Known). k.own.puts) same ∙ sym (append-nil old.own.puts) }

pub puts_then : (old mid new : Known) → PutsMore old mid → PutsMore mid new → PutsMore old new
puts_then old mid new p q = record {
  puts = p.puts ++ q.puts;
  after = q.after ∙ ap (λ (l : List ℕ). l ++ q.puts) p.after ∙ append_assoc old.own.puts p.puts q.puts;
}

puts_set : (l : List Known) (device : ℕ) (x : Known) → PutsMore (get_or l device opening) x → PutsMore (get_or l device opening) (get_or (set l device x) device opening)
puts_set [] device x more = puts_none opening opening refl
puts_set (k ∷ l) zero x more = more
puts_set (k ∷ l) (suc device) x more = puts_set l device x more

-- ---- one device's queue

pub only_same : (device : ℕ) (old new : Seats) → new ≡ old → OnlyDevice device old new
only_same device old new same = record {
  stakes = λ d. ap (λ (s : Seats). (known_of d s).stakes) same;
  others = λ d other. ap (known_of d) same;
  puts = puts_none (known_of device old) (known_of device new) (ap (known_of device) same);
}

pub only_more : (device : ℕ) (old mid new : Seats) → OnlyDevice device old mid → OnlyDevice device mid new → OnlyDevice device old new
only_more device old mid new p q = record {
  stakes = λ d. q.stakes d ∙ p.stakes d;
  others = λ d other. q.others d other ∙ p.others d other;
  puts = puts_then (known_of device old) (known_of device mid) (known_of device new) p.puts q.puts;
}

-- into each queue the pass put numbers after those that it had put, if any
pub puts_each : (device : ℕ) (old new : Seats) → OnlyDevice device old new → (d : ℕ) → PutsMore (known_of d old) (known_of d new)
puts_each device old new only d = dite (ℕ_discrete d device)
    (λ same. subst (λ (n : ℕ). PutsMore (known_of n old) (known_of n new)) (sym same) only.puts)
    (λ other. puts_none (known_of d old) (known_of d new) (only.others d other))

stakes_set : (l : List Known) (device d : ℕ) (x : Known) → x.stakes ≡ (get_or l device opening).stakes → (get_or (set l device x) d opening).stakes ≡ (get_or l d opening).stakes
stakes_set [] device d x same = refl
stakes_set (k ∷ l) zero zero x same = same
stakes_set (k ∷ l) zero (suc d) x same = refl
stakes_set (k ∷ l) (suc device) zero x same = refl
stakes_set (k ∷ l) (suc device) (suc d) x same = stakes_set l device d x same

-- where the pass knows other things of one queue, with as many stakes
pub only_set : (device : ℕ) (old new : Seats) (x : Known) → x.stakes ≡ (known_of device old).stakes → PutsMore (known_of device old) x → new ≡ record old { known = set old.known device x }
    → OnlyDevice device old new
only_set device old new x same more is = record {
  stakes = λ d. ap (λ (s : Seats). (known_of d s).stakes) is ∙ stakes_set old.known device d x same;
  others = λ d other. ap (known_of d) is ∙ get_or-set_other old.known device d x opening other;
  puts = subst (λ (k : Known). PutsMore (known_of device old) k) (sym (ap (known_of device) is)) (puts_set old.known device x more);
}

-- a put, and one that found the queue full
pub only_put : {A B : Type 0} (answer : Result A B) (held : Type 0) (device inode : ℕ) (old new : Seats)
    → IfOk answer (λ _. new ≡ record old { known = set old.known device (after_put inode (known_of device old)) }) → IfErr answer (λ _. (new ≡ old) × held) → OnlyDevice device old new
only_put (Ok done) held device inode old new put full =
    only_set device old new (after_put inode (known_of device old)) refl (record { puts = inode ∷ []; after = refl }) put
only_put (Err refused) held device inode old new put full = only_same device old new full.0

-- a take, and one that found the queue empty
pub only_take : (answer : Option ℕ) (held : Type 0) (device : ℕ) (old new : Seats)
    → IfSome answer (λ inode. new ≡ record old { known = set old.known device (after_take inode (known_of device old)) }) → IfNone answer ((new ≡ old) × held) → OnlyDevice device old new
only_take (Some inode) held device old new taken none =
    only_set device old new (after_take inode (known_of device old)) refl (record { puts = []; after = sym (append-nil (known_of device old).own.puts) }) taken
only_take None held device old new taken none = only_same device old new none.0
