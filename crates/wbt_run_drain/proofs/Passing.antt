-- Passes over the flushers of a side, and over all sides, so far.
use Rattle.std.proofs.Common.{◌≡◌, ℕ, suc, ◌+◌, ◌<◌, ◌≤◌, Bool, false, List, [], ◌∷◌, length, get_or, set, Option, refl, sym, ap, ◌∙◌, subst, arith, length-set, set-set}
use Rattle.std.proofs.lemmas.List.{get_or_default, get_or-set_other, get_or-set_same, set-get_or}
use mathlib.Core.Logic.{dite}
use native.Mathlib.Decide.{ℕ_discrete}
use Rattle.wbt_run_worker.proofs.Common.{Each, Trace, Kit, Seats}
use Rattle.wbt_run_worker.specs.declared.round.JobOutcome.{JobOutcome}
use Rattle.wbt_run_worker.specs.declared.round.JobOutcome.TheVariants as job
use Rattle.wbt_run_worker.specs.declared.side.CpuSide.{CpuSide}
use Rattle.wbt_run_worker.specs.declared.side.End.{End}
use Rattle.wbt_run_worker.specs.declared.side.End.TheVariants.{Ended, Refused}
use Rattle.wbt_run_worker.specs.declared.side.Post.{Post}
use Rattle.wbt_run_worker.specs.declared.side.Stand.{Stand}
use Rattle.wbt_run_worker.specs.declared.side.Stand.TheVariants.{Open, Done, Out}
use Rattle.wbt_run_worker.proofs.Lists.{each_and}
use Rattle.wbt_run_drain.specs.Ends.{GoesOn, HasEnded, HaveEnded}
use Rattle.wbt_run_drain.specs.Standing.{AreAllDone, AreStanding, WentOn}
use Rattle.wbt_run_drain.specs.Turned.{AreOver, HasTurned, IsLast, IsOver, MayTurn, NoneRefusedMore, OnlySide, StopsAtRefusal, stand_by}
use Rattle.wbt_run_drain.proofs.Ready.{may_turn}
use Rattle.wbt_run_drain.proofs.Taking.{TakesTurn}
use Rattle.wbt_run_drain.proofs.Turning.{stands_behind, went_behind, went_more, went_nowhere}

-- ---- where flushers stand

done_isnt_open : Done ≡ Open → ⊥
done_isnt_open e = cc

out_isnt_open : (end : End) → Out end ≡ Open → ⊥
out_isnt_open end e = cc

-- one that is turned no more isn't open
last_isnt_open : (answer : JobOutcome) (stand : Stand) → IsLast answer → stand_by answer stand ≡ Open → ⊥
last_isnt_open job.Stepped stand last e = absurd last
last_isnt_open (job.Resting ticks) stand last e = absurd last
last_isnt_open job.Over stand last e = done_isnt_open e
last_isnt_open (job.Ends end) stand last e = out_isnt_open end e

-- one that is neither open nor out is done
is_done : (stand : Stand) → (stand ≡ Open → ⊥) → ((end : End) → stand ≡ Out end → ⊥) → stand ≡ Done
is_done Open isnt out = absurd (isnt refl)
is_done Done isnt out = refl
is_done (Out end) isnt out = absurd (out end refl)

each_of : {A : Type 0} (P : A → Type 0) (xs : List A) → ((k : ℕ) (x : A) → k < length xs → P (get_or xs k x)) → Each P xs
each_of P [] all = tt
each_of P (x ∷ xs) all = (all 0 x (omega arith), each_of P xs (λ k y less. all (suc k) y (omega arith)))

-- ---- the flushers of a side

module _ {D : Type 0} (told : ℕ → Type 0) (said : ℕ → ℕ → Bool → Type 0) (written : D → Option ℕ) (faults : D → ℕ) (trace : Trace) (kit : Kit) (cpu : ℕ) where
  -- so far: of those that were seen none is open, where none is to be turned again
  pub record PassesSide (at end : ℕ) (first now : List (CpuSide D)) (seats seats' : Seats) (before again : Bool) : Type 0 where
    pub standing : AreStanding told said written faults trace kit now seats'
    pub went : WentOn trace first now seats seats'
    pub only : OnlySide cpu first now
    pub many : end ≡ length only.side.posts.items
    pub before_is : again ≡ false → before ≡ false
    pub none_open : again ≡ false → (k : ℕ) (post : Post D) → k < at → (get_or only.side.posts.items k post).stand ≡ Open → ⊥

  pub passes_first : (end : ℕ) (sides : List (CpuSide D)) (side : CpuSide D) (seats : Seats) (before : Bool) → AreStanding told said written faults trace kit sides seats → side ≡ get_or sides cpu side
      → end ≡ length side.posts.items → PassesSide 0 end sides sides seats seats before before
  passes_first end sides side seats before standing side_is many = record {
    standing = standing;
    went = went_nowhere trace sides seats;
    only = record {
      side = side;
      sides = sym (set-get_or sides cpu side) ∙ ap (λ (s : CpuSide D). set sides cpu s) (sym side_is);
      many = ap (λ (s : CpuSide D). length s.posts.items) side_is;
    };
    many = many;
    before_is = λ none. none;
    none_open = λ none k post less. absurd (omega arith);
  }

  module _ (at end : ℕ) (first now : List (CpuSide D)) (seats seats' : Seats) (before again : Bool) (there : cpu < length first)
      (passes : PassesSide at end first now seats seats' before again) where
    pub still_there : cpu < length now
    still_there = let same = ap (λ (all : List (CpuSide D)). length all) passes.only.sides ∙ length-set first cpu passes.only.side in omega (arith, there)

    -- its side is the one that changed
    pub the_side : (default : CpuSide D) → get_or now cpu default ≡ passes.only.side
    the_side default = ap (λ (all : List (CpuSide D)). get_or all cpu default) passes.only.sides ∙ get_or-set_same first cpu passes.only.side default there

    cpu_there : cpu < trace.cpus
    cpu_there = let many = passes.standing.many in let less = still_there in omega arith

    module _ (side : CpuSide D) (side_is : side ≡ get_or now cpu side) where
      pub same_side : side ≡ passes.only.side
      same_side = side_is ∙ the_side side

      pub post_there : at < end → at < length side.posts.items
      post_there less = let many = passes.many in let same = ap (λ (s : CpuSide D). length s.posts.items) same_side in omega arith

      pub may_now : at < end → side.end ≡ Ended → (post : Post D) → post ≡ get_or side.posts.items at post → post.stand ≡ Open → MayTurn kit at side seats'
      may_now less ended post post_is opened = may_turn passes.standing cpu side cpu_there (sym side_is) ended at (post_there less)
          (λ other other_is.
          ap (λ (p : Post D). p.stand) (sym other_is ∙ get_or_default side.posts.items at other post (post_there less) ∙ sym post_is) ∙ opened)

      -- one that isn't open is passed by
      pub passes_by : at < end → (post : Post D) → post ≡ get_or side.posts.items at post → (post.stand ≡ Open → ⊥)
          → PassesSide (at + 1) end first now seats seats' before again
      passes_by less post post_is closed = record {
        standing = passes.standing;
        went = passes.went;
        only = passes.only;
        many = passes.many;
        before_is = passes.before_is;
        none_open = λ none k other low. dite (ℕ_discrete k at)
            (λ here opened. closed (ap (λ (p : Post D). p.stand)
            (post_is ∙ get_or_default side.posts.items at post other (post_there less) ∙ ap (λ (s : CpuSide D). get_or s.posts.items at other) same_side
            ∙ ap (λ (n : ℕ). get_or passes.only.side.posts.items n other) (sym here)) ∙ opened))
            (λ elsewhere. passes.none_open none k other (omega arith));
      }

      module _ (answer : JobOutcome) (side' : CpuSide D) (seats'' : Seats) (again' : Bool) (less : at < end) (ended : side.end ≡ Ended) (post : Post D)
          (post_is : post ≡ get_or side.posts.items at post) (opened : post.stand ≡ Open)
          (turned : HasTurned told said written faults kit at answer side side' seats' seats'') (last : again' ≡ false → (again ≡ false) × IsLast answer) where
        takes : TakesTurn told said written faults trace kit now cpu at answer side side' seats' seats''
        takes = record {
          standing = passes.standing;
          cpu_there = cpu_there;
          side_is = sym side_is;
          ended = ended;
          post_there = post_there less;
          turned = turned;
          opened = ap (λ (p : Post D). p.stand) (sym turned.was_there ∙ get_or_default side.posts.items at turned.was post (post_there less) ∙ sym post_is) ∙ opened;
        }

        none_now : again' ≡ false → (k : ℕ) (other : Post D) → k < at + 1 → (get_or side'.posts.items k other).stand ≡ Open → ⊥
        none_now none k other low = dite (ℕ_discrete k at)
            (λ here is_open.
            let it : get_or side'.posts.items k other ≡ turned.is
            = ap (λ (n : ℕ). get_or side'.posts.items n other) here ∙ ap (λ (posts : List (Post D)). get_or posts at other) turned.posts
            ∙ get_or-set_same side.posts.items at turned.is other (post_there less) in
            last_isnt_open answer turned.was.stand (last none).1 (sym turned.stands ∙ ap (λ (p : Post D). p.stand) (sym it) ∙ is_open))
            (λ elsewhere is_open.
            let it : get_or side'.posts.items k other ≡ get_or passes.only.side.posts.items k other
            = ap (λ (posts : List (Post D)). get_or posts k other) turned.posts ∙ get_or-set_other side.posts.items at k turned.is other elsewhere
            ∙ ap (λ (s : CpuSide D). get_or s.posts.items k other) same_side in
            passes.none_open (last none).0 k other (omega arith) (ap (λ (p : Post D). p.stand) (sym it) ∙ is_open))

        as_many : length side'.posts.items ≡ length side.posts.items
        as_many = ap (λ (posts : List (Post D)). length posts) turned.posts ∙ length-set side.posts.items at turned.is

        pub passes_on : PassesSide (at + 1) end first (set now cpu side') seats seats'' before again'
        passes_on = record {
          standing = stands_behind takes;
          went = went_more trace first now (set now cpu side') seats seats' seats'' passes.went (went_behind takes);
          only = record {
            side = side';
            sides = ap (λ (all : List (CpuSide D)). set all cpu side') passes.only.sides ∙ set-set first cpu passes.only.side side';
            many = as_many ∙ ap (λ (s : CpuSide D). length s.posts.items) same_side ∙ passes.only.many
                ∙ ap (λ (s : CpuSide D). length s.posts.items) (get_or_default first cpu passes.only.side side' there);
          };
          many = passes.many ∙ ap (λ (s : CpuSide D). length s.posts.items) (sym same_side) ∙ sym as_many;
          before_is = λ none. passes.before_is (last none).0;
          none_open = none_now;
        }

    -- by the sides that were looked at, all of which are the one
    module _ (x y z : CpuSide D) (post : Post D) (post_is : post ≡ get_or (get_or now cpu z).posts.items at post) where
      abbrev here : CpuSide D
      here = get_or now cpu x

      here_is : here ≡ get_or now cpu here
      here_is = get_or_default now cpu x here still_there

      post_here : post ≡ get_or here.posts.items at post
      post_here = post_is ∙ ap (λ (s : CpuSide D). get_or s.posts.items at post) (the_side z ∙ sym (the_side x))

      ended_here : (get_or now cpu y).end ≡ Ended → here.end ≡ Ended
      ended_here ended = ap (λ (s : CpuSide D). s.end) (the_side x ∙ sym (the_side y)) ∙ ended

      pub may_here : at < end → (get_or now cpu y).end ≡ Ended → post.stand ≡ Open → MayTurn kit at here seats'
      may_here less ended opened = may_now here here_is less (ended_here ended) post post_here opened

      pub on_here : (answer : JobOutcome) (side' : CpuSide D) (seats'' : Seats) (again' : Bool) → at < end → (get_or now cpu y).end ≡ Ended → post.stand ≡ Open
          → HasTurned told said written faults kit at answer here side' seats' seats'' → (again' ≡ false → (again ≡ false) × IsLast answer)
          → PassesSide (at + 1) end first (set now cpu side') seats seats'' before again'
      on_here answer side' seats'' again' less ended opened turned last =
          passes_on here here_is answer side' seats'' again' less (ended_here ended) post post_here opened turned last

      pub by_here : at < end → (post.stand ≡ Open → ⊥) → PassesSide (at + 1) end first now seats seats' before again
      by_here less closed = passes_by here here_is less post post_here closed

    -- ---- its end

    pub over_now : end ≤ at → again ≡ false → (other : CpuSide D) → IsOver (get_or now cpu other)
    over_now all none other = subst (λ (s : CpuSide D). IsOver s) (sym (the_side other)) (λ ended.
        each_of (λ (post : Post D). post.stand ≡ Open → ⊥) passes.only.side.posts.items (λ k post less.
        passes.none_open none k post (let many = passes.many in omega arith)))

-- ---- all sides

pub there_after : {D : Type 0} (cpu : ℕ) (now now' : List (CpuSide D)) → OnlySide cpu now now' → cpu < length now → cpu < length now'
there_after {D} cpu now now' only less =
    let same : length now' ≡ length now = ap (λ (all : List (CpuSide D)). length all) only.sides ∙ length-set now cpu only.side in omega (arith, same, less)

module _ {D : Type 0} (told : ℕ → Type 0) (said : ℕ → ℕ → Bool → Type 0) (written : D → Option ℕ) (faults : D → ℕ) (trace : Trace) (kit : Kit) where
  -- so far: those that were seen are over, where none is to be turned again
  pub record PassesAll (cpu end : ℕ) (first now : List (CpuSide D)) (seats seats' : Seats) (again : Bool) : Type 0 where
    pub standing : AreStanding told said written faults trace kit now seats'
    pub went : WentOn trace first now seats seats'
    pub many : end ≡ length now
    pub over : again ≡ false → (k : ℕ) (side : CpuSide D) → k < cpu → IsOver (get_or now k side)
    pub refused : NoneRefusedMore first now

  pub all_first : (sides : List (CpuSide D)) (seats : Seats) (again : Bool) → AreStanding told said written faults trace kit sides seats
      → PassesAll 0 (length sides) sides sides seats seats again
  all_first sides seats again standing = record {
    standing = standing;
    went = went_nowhere trace sides seats;
    many = refl;
    over = λ none k side less. absurd (omega arith);
    refused = λ k side less is. is;
  }

  module _ (cpu end : ℕ) (first now now' : List (CpuSide D)) (seats seats' seats'' : Seats) (again again' : Bool) (passes : PassesAll cpu end first now seats seats' again)
      (standing : AreStanding told said written faults trace kit now' seats'') (went : WentOn trace now now' seats' seats'') (only : OnlySide cpu now now')
      (before : again' ≡ false → again ≡ false) (over : again' ≡ false → (other : CpuSide D) → IsOver (get_or now' cpu other)) where
    -- only this side may have been refused memory
    at_most_here : (k : ℕ) (side : CpuSide D) → k < length first → (k ≡ cpu → ⊥) → (get_or now' k side).end ≡ Refused → (get_or first k side).end ≡ Refused
    at_most_here k side less elsewhere is = passes.refused k side less
        (sym (ap (λ (s : CpuSide D). s.end) (ap (λ (all : List (CpuSide D)). get_or all k side) only.sides ∙ get_or-set_other now cpu k only.side side elsewhere)) ∙ is)

    pub stops_here : StopsAtRefusal first now'
    stops_here one two other low less first_is second_is first_wasnt second_wasnt = dite (ℕ_discrete one cpu)
        (λ one_here. dite (ℕ_discrete two cpu)
        (λ two_here. one_here ∙ sym two_here)
        (λ elsewhere. absurd (second_wasnt (at_most_here two other less elsewhere second_is))))
        (λ elsewhere. absurd (first_wasnt (at_most_here one other low elsewhere first_is)))

    -- and where it wasn't none was
    pub none_more : ((other : CpuSide D) → (get_or now' cpu other).end ≡ Refused → ⊥) → NoneRefusedMore first now'
    none_more isnt k side less is = dite (ℕ_discrete k cpu)
        (λ here. absurd (isnt side (subst (λ (n : ℕ). (get_or now' n side).end ≡ Refused) here is)))
        (λ elsewhere. at_most_here k side less elsewhere is)

    pub all_on : ((other : CpuSide D) → (get_or now' cpu other).end ≡ Refused → ⊥) → PassesAll (cpu + 1) end first now' seats seats'' again'
    all_on isnt = record {
      standing = standing;
      went = went_more trace first now now' seats seats' seats'' passes.went went;
      many = passes.many ∙ sym (ap (λ (all : List (CpuSide D)). length all) only.sides ∙ length-set now cpu only.side);
      over = λ none k side low. dite (ℕ_discrete k cpu)
          (λ here. subst (λ (n : ℕ). IsOver (get_or now' n side)) (sym here) (over none side))
          (λ elsewhere. subst (λ (s : CpuSide D). IsOver s)
          (sym (ap (λ (all : List (CpuSide D)). get_or all k side) only.sides ∙ get_or-set_other now cpu k only.side side elsewhere))
          (passes.over (before none) k side (omega arith)));
      refused = none_more isnt;
    }

  module _ (cpu end : ℕ) (first now : List (CpuSide D)) (seats seats' : Seats) (again : Bool) (passes : PassesAll cpu end first now seats seats' again) where
    pub all_others : end ≤ cpu → again ≡ false → AreOver now
    all_others all none = each_of IsOver now (λ k side less. passes.over none k side (let many = passes.many in omega arith))

    pub all_over : end ≤ cpu → again ≡ false → HaveEnded now → AreAllDone now
    all_over all none ended =
        each_and HasEnded IsOver (λ (side : CpuSide D). Each (λ (post : Post D). post.stand ≡ Done) side.posts.items)
        (λ side has over. each_and GoesOn (λ (post : Post D). post.stand ≡ Open → ⊥) (λ (post : Post D). post.stand ≡ Done)
        (λ post on isnt. is_done post.stand isnt on) side.posts.items has.posts (over has.ended))
        now ended (all_others all none)

    pub all_stop : StopsAtRefusal first now
    all_stop one two other low less first_is second_is first_wasnt second_wasnt = absurd (first_wasnt (passes.refused one other low first_is))

-- ---- pass after pass

-- none was refused memory up to a pass that stops at the first that is
pub stops_later : {D : Type 0} (first mid last : List (CpuSide D)) → length mid ≡ length first → NoneRefusedMore first mid → StopsAtRefusal mid last → StopsAtRefusal first last
stops_later first mid last many none stops one two other low less first_is second_is first_wasnt second_wasnt =
    stops one two other (omega (arith, many, low)) (omega (arith, many, less)) first_is second_is
    (λ was. first_wasnt (none one other low was)) (λ was. second_wasnt (none two other less was))

pub none_later : {D : Type 0} (first mid last : List (CpuSide D)) → length mid ≡ length first → NoneRefusedMore first mid → NoneRefusedMore mid last → NoneRefusedMore first last
none_later first mid last many none more k other less is = none k other less (more k other (omega (arith, many, less)) is)
