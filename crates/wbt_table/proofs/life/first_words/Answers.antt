use Rattle.std.proofs.Common.{◌≡◌, ℕ, ◌+◌, ◌-◌, ◌*◌, List, ◌++◌, map, replicate, pos, ap, ◌∙◌, arith}
use Rattle.wbt_table.proofs.Common.{Limits, thresh_word_of, packed, own_word, counters, stride, first_sequence_word}
use Rattle.wbt_table.specs.declared.layout.Layout.{Layout}
use Rattle.wbt_table.specs.declared.words.Offsets.{Offsets}
use Rattle.wbt_table.specs.declared.words.TheConstants.{SPARE_WORDS}
use Rattle.wbt_table.specs.Layout.{shared_from}
use Rattle.wbt_table.proofs.life.first_words.Goals as goal

pub returns : goal.returns
returns c =
    let key : Layout = c.args.layout.now in
    let placed = c.requires.offsets in
    let a : c.args.offsets.shared ≡ shared_from key = ap (λ (o : Offsets). o.shared) placed in
    let own : c.args.offsets.own ≡ shared_from key + (counters key + SPARE_WORDS) = ap (λ (o : Offsets). o.own) placed in
    let limits : c.args.offsets.limits ≡ shared_from key + (counters key + SPARE_WORDS) + key.cpus * stride key = ap (λ (o : Offsets). o.limits) placed in
    let b : c.args.offsets.own - c.args.offsets.shared ≡ counters key + SPARE_WORDS = omega arith in
    let d : c.args.offsets.limits - c.args.offsets.own ≡ key.cpus * stride key = omega arith in
    let one : c.push_numbers.new.words.items ≡ replicate (shared_from key) 0 = c.in_ok-push_numbers.ensures ∙ (λ i. c.new-words.ensures.items i ++ replicate (a i) 0) in
    let two : c.push_numbers-2.new.words.items ≡ replicate (shared_from key) 0 ++ replicate (counters key + SPARE_WORDS) (packed 0 (pos 0))
    = c.in_ok-push_numbers-2.ensures ∙ (λ i. one i ++ replicate (b i) (c.pack.ensures.word i)) in
    let three : c.push_numbers-3.new.words.items ≡ replicate (shared_from key) 0 ++ replicate (counters key + SPARE_WORDS) (packed 0 (pos 0))
    ++ replicate (key.cpus * stride key) (own_word (pos 0))
    = c.in_ok-push_numbers-3.ensures ∙ (λ i. two i ++ replicate (d i) (c.own_word.ensures.value i)) in
    c.in_ok-push_numbers-4.ensures
    ∙ ap (λ (l : List ℕ). l ++ replicate SPARE_WORDS 0)
    (c.in_ok-push_firsts.ensures ∙ (λ i. three i ++ map first_sequence_word (c.as_slice.ensures i) ++ map thresh_word_of (c.as_slice.ensures i)
    ++ map (λ (l : Limits). l.hard) (c.as_slice.ensures i)))
