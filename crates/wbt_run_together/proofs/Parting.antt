-- Workers that are parted one after another: their sides, and their seats together.
use Rattle.std.proofs.Common.{◌≡◌, suc, ◌+◌, ◌≤◌, List, [], ◌∷◌, ◌++◌, length, map, get_or, take, drop, refl, sym, ap, ◌∙◌, subst, append_assoc, append-nil, arith, length-append}
use Rattle.wbt_run_seats.specs.Together.{AreTogether}
use Rattle.wbt_run_seats.proofs.Together.{at_first, one_more}
use Rattle.wbt_run_worker.proofs.Common.{AreSeatsOf, Kit, Seats}
use Rattle.wbt_kit.proofs.Common.{AreJoined}
use Rattle.wbt_run_worker.specs.declared.side.CpuSide.{CpuSide}
use Rattle.wbt_run_worker.specs.declared.worker.Worker.{Worker}
use Rattle.wbt_run_together.specs.Gather.{AllAtKit, CameTogether, seats_of, sides_of}

made_both : {A B : Type 0} (f : A → B) (xs ys : List A) → map f (xs ++ ys) ≡ map f xs ++ map f ys
made_both f [] ys = refl
made_both {A} {B} f (x ∷ xs) ys = ap (λ (l : List B). f x ∷ l) (made_both f xs ys)

pub one_less : {A : Type 0} (items rest : List A) (x : A) → items ≡ x ∷ rest → length items ≡ length rest + 1
one_less {A} items rest x are = ap (λ (l : List A). length l) are ∙ (let long : length (x ∷ rest) ≡ length rest + 1 = omega arith in long)

pub one_pushed : {A : Type 0} (items items' : List A) (x : A) → items' ≡ items ++ x ∷ [] → length items' ≡ length items + 1
one_pushed {A} items items' x are = let long = length-append items (x ∷ []) in let same = ap (λ (l : List A). length l) are in omega arith

module _ {D : Type 0} (kit : Kit) where
  -- of these workers the rest is still to be parted; the seats took in those of the others, and their sides stand after the first ones
  pub record Parted (first : Seats) (workers : List (Worker D)) (before : List (CpuSide D)) (rest : List (Worker D)) (all : Seats) (sides : List (CpuSide D)) : Type 0 where
    pub taken : List (Worker D)
    pub split : workers ≡ taken ++ rest
    pub together : AreTogether kit first (seats_of taken) all
    pub sides_are : sides ≡ before ++ sides_of taken

  pub parted_first : (first : Seats) (workers : List (Worker D)) (before : List (CpuSide D)) → AreSeatsOf kit first → Parted first workers before workers first before
  parted_first first workers before at = record { taken = []; split = refl; together = at_first kit first at; sides_are = sym (append-nil before) }

  pub parted_more : (first : Seats) (workers : List (Worker D)) (before : List (CpuSide D)) (items rest : List (Worker D)) (worker : Worker D) (mid all : Seats) (sides sides' : List (CpuSide D))
      → Parted first workers before items mid sides → items ≡ worker ∷ rest → AreSeatsOf kit worker.seats → AreSeatsOf kit all → AreJoined mid worker.seats all
      → sides' ≡ sides ++ worker.side ∷ [] → Parted first workers before rest all sides'
  parted_more first workers before items rest worker mid all sides sides' sofar are at all_at joined pushed = record {
    taken = sofar.taken ++ worker ∷ [];
    split = sofar.split ∙ ap (λ (l : List (Worker D)). sofar.taken ++ l) are ∙ sym (append_assoc sofar.taken (worker ∷ []) rest);
    together = subst (λ (l : List Seats). AreTogether kit first l all) (sym (made_both (λ (w : Worker D). w.seats) sofar.taken (worker ∷ [])))
        (one_more kit first mid worker.seats all (seats_of sofar.taken) at all_at sofar.together joined);
    sides_are = pushed ∙ ap (λ (l : List (CpuSide D)). l ++ worker.side ∷ []) sofar.sides_are ∙ append_assoc before (sides_of sofar.taken) (worker.side ∷ [])
        ∙ ap (λ (l : List (CpuSide D)). before ++ l) (sym (made_both (λ (w : Worker D). w.side) sofar.taken (worker ∷ [])));
  }

  pub at_head : (items rest : List (Worker D)) (worker : Worker D) → items ≡ worker ∷ rest → AllAtKit kit items → AreSeatsOf kit worker.seats
  at_head items rest worker are all = (subst (AllAtKit kit) are all) 0 worker (omega arith)

  pub at_tail : (items rest : List (Worker D)) (worker : Worker D) → items ≡ worker ∷ rest → AllAtKit kit items → AllAtKit kit rest
  at_tail items rest worker are all = λ n other less. (subst (AllAtKit kit) are all) (suc n) other (omega arith)

  -- the first one came out
  pub with_first : (workers rest : List (Worker D)) (worker : Worker D) → 1 ≤ length workers → worker ≡ get_or workers 0 worker
      → rest ≡ take 0 workers ++ drop (0 + 1) workers → workers ≡ worker ∷ rest
  with_first [] rest worker some is cut = absurd (omega arith)
  with_first (w ∷ workers) rest worker some is cut = ap (λ (x : Worker D). x ∷ workers) (sym is) ∙ ap (λ (l : List (Worker D)). worker ∷ l) (sym cut)

  pub came_first : (workers rest : List (Worker D)) (worker : Worker D) (all : Seats) → workers ≡ worker ∷ rest → AreTogether kit worker.seats (seats_of rest) all
      → CameTogether kit workers all
  came_first workers rest worker all are together = subst (λ (l : List (Worker D)). CameTogether kit l all) (sym are) together

  pub sides_first : (workers rest : List (Worker D)) (worker : Worker D) (before mid sides : List (CpuSide D)) → workers ≡ worker ∷ rest
      → mid ≡ before ++ worker.side ∷ [] → sides ≡ mid ++ sides_of rest → sides ≡ before ++ sides_of workers
  sides_first workers rest worker before mid sides are pushed more =
      more ∙ ap (λ (l : List (CpuSide D)). l ++ sides_of rest) pushed ∙ append_assoc before (worker.side ∷ []) (sides_of rest)
      ∙ ap (λ (l : List (Worker D)). before ++ sides_of l) (sym are)
