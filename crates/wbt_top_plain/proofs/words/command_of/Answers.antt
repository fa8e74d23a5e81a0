use Rattle.std.proofs.Common.{◌≡◌, ℕ, List, [], ◌∷◌, length, map, get_or, sym, ◌∙◌, ap, arith, string_bytes}
use Rattle.wbt_top_plain.proofs.words.command_of.Goals as goal

-- a list of two
two : {A : Type 0} (f : A → List ℕ) (xs : List A) (x y : A) → length xs ≡ 2 → x ≡ get_or xs 0 x → y ≡ get_or xs 1 y → map f xs ≡ f x ∷ f y ∷ []
two f [] x y long first second = absurd (omega arith)
two f (a ∷ []) x y long first second = absurd (omega arith)
two f (a ∷ b ∷ []) x y long first second = λ i. f (sym first i) ∷ f (sym second i) ∷ []
two f (a ∷ b ∷ d ∷ xs) x y long first second = absurd (omega arith)

same_two : {a b c d : List ℕ} → a ∷ b ∷ [] ≡ c ∷ d ∷ [] → (a ≡ c) × (b ≡ d)
same_two e = (ap (λ (l : List (List ℕ)). get_or l 0 []) e, ap (λ (l : List (List ℕ)). get_or l 1 []) e)

pub returns-in-len2-clause-bulk : goal.returns-in-len2-clause-bulk
returns-in-len2-clause-bulk c = λ n.
    let word = c.word-item-then-this-lt3.result in
    let number = c.number-item.result in
    let words : map string_bytes c.args.words.now.list ≡ string_bytes word ∷ string_bytes number ∷ [] =
    two string_bytes c.args.words.now.list word number
    (let long = ap length c.as_slice.ensures in omega (arith, long, c.in-len2.len_at_least, c.in-len2.len_below))
    (c.word-item-then-this-lt3.is ∙ ap (λ l. get_or l 0 word) c.as_slice.ensures)
    (c.number-item.is ∙ ap (λ l. get_or l 1 number) c.as_slice.ensures) in
    let bytes : c.as_bytes-in-len2.result.now ≡ string_bytes word = c.as_bytes-in-len2.ensures.value in
    let text : c.as_str.result.now ≡ string_bytes number = c.as_str.ensures.value in (
      (λ is. let told = (c.command_numbered.ensures.bulk n).0 is in record { spelled = words ∙ (λ i. (sym bytes ∙ told.0) i ∷ (sym text ∙ told.1) i ∷ []); size = told.2 }),
      (λ is. let both = same_two (sym words ∙ is.spelled) in (c.command_numbered.ensures.bulk n).1 (bytes ∙ both.0, text ∙ both.1, is.size)),
    )

pub returns-in-len2-clause-forecast : goal.returns-in-len2-clause-forecast
returns-in-len2-clause-forecast c = λ every.
    let word = c.word-item-then-this-lt3.result in
    let number = c.number-item.result in
    let words : map string_bytes c.args.words.now.list ≡ string_bytes word ∷ string_bytes number ∷ [] =
    two string_bytes c.args.words.now.list word number
    (let long = ap length c.as_slice.ensures in omega (arith, long, c.in-len2.len_at_least, c.in-len2.len_below))
    (c.word-item-then-this-lt3.is ∙ ap (λ l. get_or l 0 word) c.as_slice.ensures)
    (c.number-item.is ∙ ap (λ l. get_or l 1 number) c.as_slice.ensures) in
    let bytes : c.as_bytes-in-len2.result.now ≡ string_bytes word = c.as_bytes-in-len2.ensures.value in
    let text : c.as_str.result.now ≡ string_bytes number = c.as_str.ensures.value in (
      (λ is. let told = (c.command_numbered.ensures.forecast every).0 is in record { spelled = words ∙ (λ i. (sym bytes ∙ told.0) i ∷ (sym text ∙ told.1) i ∷ []); ticks = told.2 }),
      (λ is. let both = same_two (sym words ∙ is.spelled) in (c.command_numbered.ensures.forecast every).1 (bytes ∙ both.0, text ∙ both.1, is.ticks)),
    )
