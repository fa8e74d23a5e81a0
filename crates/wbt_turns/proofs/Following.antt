-- Words of a kind that follow one another.
use Rattle.std.proofs.Common.{◌≡◌, inl, ℕ, zero, suc, false, List, [], ◌∷◌, ◌++◌, replicate, refl, sym, ap, ◌∙◌, subst}
use Rattle.std.proofs.lemmas.List.{append-nil, append_assoc, length-replicate}
use Rattle.wbt_grant.specs.declared.who.StepKind.{StepKind}
use Rattle.wbt_grant.specs.declared.who.StepKind.TheVariants as kind
use Rattle.wbt_turns.specs.Laws.{TimerTurnsFollow, TurnsFollow}
use Rattle.wbt_turns.specs.Words.{AreCut, AreWhole, IsCut, IsCutOff, IsTimerTurn, IsTurn, IsWhole, publications, publications_but, repeated, rests}

module _ (IsWord : List StepKind → Type 0) where
  -- there are no words yet
  pub whole_none : IsWhole IsWord []
  whole_none = record { words = []; are = refl }

  are_more : (words : List (List StepKind)) (word one : List StepKind) → AreWhole IsWord words word → IsWord one → AreWhole IsWord (words ++ one ∷ []) (word ++ one)
  are_more [] word one is its = (its, ([], ap (λ (w : List StepKind). w ++ one) is ∙ sym (append-nil one), refl))
  are_more (first ∷ words) word one h its =
      (h.0, (h.1.0 ++ one, ap (λ (w : List StepKind). w ++ one) h.1.1 ∙ append_assoc first h.1.0 one, are_more words h.1.0 one h.1.2 its))

  -- one more that is whole
  pub whole_more : (word one : List StepKind) → IsWhole IsWord word → IsWord one → IsWhole IsWord (word ++ one)
  whole_more word one h its = record { words = h.words ++ one ∷ []; are = are_more h.words word one h.are its }

  are_cut : (words : List (List StepKind)) (word part : List StepKind) → AreWhole IsWord words word → IsCut IsWord part → AreCut IsWord words (word ++ part)
  are_cut [] word part is cut = subst (IsCut IsWord) (ap (λ (w : List StepKind). w ++ part) (sym is)) cut
  are_cut (first ∷ words) word part h cut =
      (h.0, (h.1.0 ++ part, ap (λ (w : List StepKind). w ++ part) h.1.1 ∙ append_assoc first h.1.0 part, are_cut words h.1.0 part h.1.2 cut))

  -- a last one that may be cut off
  pub cut_more : (word part : List StepKind) → IsWhole IsWord word → IsCut IsWord part → IsCutOff IsWord (word ++ part)
  cut_more word part h cut = record { words = h.words; are = are_cut h.words word part h.are cut }

  -- a whole one is none that was cut off
  pub whole_cut : (word : List StepKind) → IsWord word → IsCut IsWord word
  whole_cut word its = ([], subst IsWord (sym (append-nil word)) its)

  -- no more, where some word of the kind is left to be made
  pub cut_none : (left word : List StepKind) → IsWord left → IsWhole IsWord word → IsCutOff IsWord word
  cut_none left word its h = subst (IsCutOff IsWord) (append-nil word) (cut_more word [] h (left, its))

-- ---- turns of a CPU

pub turns_follow : (domains : ℕ) → TurnsFollow domains
turns_follow domains = record {
  none = whole_none (IsTurn domains);
  more = whole_more (IsTurn domains);
  cut = cut_more (IsTurn domains);
  ended = λ word h. cut_none (IsTurn domains) [] word (rests (inl refl)) h;
}

-- ---- turns of the timer

pub all_published : (domains : ℕ) → publications_but (replicate domains false) ≡ publications domains
all_published zero = refl
all_published (suc domains) = ap (λ (w : List StepKind). kind.Count ∷ kind.Peak ∷ kind.Unseal ∷ kind.Thresh ∷ kind.Publish ∷ w) (all_published domains)

pub whole_turn : (domains : ℕ) → IsTimerTurn domains (publications domains)
whole_turn domains = (replicate domains false, length-replicate domains false, sym (all_published domains))

whole_times : (domains turns : ℕ) → IsWhole (IsTimerTurn domains) (repeated turns (publications domains))
whole_times domains zero = whole_none (IsTimerTurn domains)
whole_times domains (suc turns) = whole_more (IsTimerTurn domains) (repeated turns (publications domains)) (publications domains) (whole_times domains turns) (whole_turn domains)

pub timer_turns_follow : (domains : ℕ) → TimerTurnsFollow domains
timer_turns_follow domains = record {
  none = whole_none (IsTimerTurn domains);
  more = whole_more (IsTimerTurn domains);
  cut = cut_more (IsTimerTurn domains);
  ended = λ word h. cut_none (IsTimerTurn domains) (publications domains) word (whole_turn domains) h;
  all_published = all_published domains;
  times = whole_times domains;
}
