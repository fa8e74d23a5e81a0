-- What a pass knows of the estimates of one context, and how it changes.
use Rattle.std.specs.Prelude.{◌≡◌, ℕ, Bool, true, false, cond, ◌||◌, List, [], ◌∷◌, ◌++◌, length, get_or, max, eqb}
use Rattle.wbt_estimate.specs.declared.estimate.Estimate.{Estimate}
use Rattle.wbt_estimate.specs.Estimate.{IsSound, first_at}
use Rattle.wbt_published.specs.declared.known.Known.{Known}

-- what stands in a cell and in the notes for the first estimate, which the cells know
abbrev pub first_one : Estimate
first_one = first_at 0

-- the first estimate of a context, of those of all contexts
abbrev pub first_in : (firsts : List Estimate) (context : ℕ) → Estimate
first_in firsts context = get_or firsts context first_one

-- a context may begin with it
abbrev pub IsFirst : (estimate : Estimate) → Type 0
IsFirst estimate = (estimate.version ≡ 0) × IsSound estimate

-- how an estimate stands in the notes: the first one, whatever it is, as one that is the same for all contexts
abbrev pub note_of : (estimate : Estimate) → Estimate
note_of estimate = cond (eqb estimate.version 0) first_one estimate

-- the first pass of a cell
abbrev pub opening : Known
opening = record { publishes = true; all = first_one ∷ []; reads = []; seen = 0 }

-- a pass whose knowledge went to another
abbrev pub spent : Known
spent = record { publishes = false; all = []; reads = []; seen = 0 }

-- the version that is published next
abbrev pub next_version : (known : Known) → ℕ
next_version known = length known.all

-- the pass read this
abbrev pub after_read : (note : Estimate) (known : Known) → Known
after_read note known = record known { reads = known.reads ++ note ∷ []; seen = note.version }

-- the pass published this
abbrev pub after_publish : (estimate : Estimate) (known : Known) → Known
after_publish estimate known = record known { all = known.all ++ estimate ∷ []; seen = estimate.version }

-- a new pass that doesn't publish
abbrev pub reader : (known : Known) → Known
reader known = record spent { seen = known.seen }

-- the old pass, where the right to publish went to the new one; of what is published now it hears no more
abbrev pub without_right : (known : Known) → Known
without_right known = record known { publishes = false }

-- the new pass, where it got the right that the old one had
abbrev pub with_right : (known : Known) → Known
with_right known = record known { reads = [] }

-- the old pass and the new one, where the context belongs to this owner
abbrev pub left_with : (goes : Bool) (known : Known) → Known
left_with goes known = cond goes (without_right known) known

-- the new pass: it may publish where the context belongs to this owner, as far as the old one might
abbrev pub handed_on : (goes : Bool) (known : Known) → Known
handed_on goes known = cond goes (with_right known) (reader known)

-- one pass after it took in another
abbrev pub knows_both : (one other : Known) → Known
knows_both one other = record {
  publishes = one.publishes || other.publishes;
  all = cond other.publishes other.all one.all;
  reads = one.reads ++ other.reads;
  seen = max one.seen other.seen;
}
