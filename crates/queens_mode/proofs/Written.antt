-- Lines that are written one after another.
use Rattle.std.proofs.Common.{◌≡◌, ℕ, List, [], ◌∷◌, ◌++◌, sym, ap, ◌∙◌, append_assoc}
use Rattle.bee_text.specs.Lines.{join_lines}
use Rattle.bee_text.proofs.LineLemmas.{join_lines-append}

-- one line more, and some lines more
line-more : (old before after : List ℕ) (lines : List (List ℕ)) (line : List ℕ) → before ≡ old ++ join_lines lines → after ≡ before ++ (line ++ 10 ∷ []) → after ≡ old ++ join_lines (lines ++ line ∷ [])
line-more old before after lines line e f =
    f ∙ ap (λ t. t ++ (line ++ 10 ∷ [])) e ∙ append_assoc old (join_lines lines) (line ++ 10 ∷ []) ∙ ap (λ t. old ++ t) (sym (join_lines-append lines (line ∷ [])))

lines-more : (old before after : List ℕ) (lines more : List (List ℕ)) → before ≡ old ++ join_lines lines → after ≡ before ++ join_lines more → after ≡ old ++ join_lines (lines ++ more)
lines-more old before after lines more e f =
    f ∙ ap (λ t. t ++ join_lines more) e ∙ append_assoc old (join_lines lines) (join_lines more) ∙ ap (λ t. old ++ t) (sym (join_lines-append lines more))

-- a line, and its line feed apart
line-ended : (before middle after line : List ℕ) → middle ≡ before ++ line → after ≡ middle ++ 10 ∷ [] → after ≡ before ++ (line ++ 10 ∷ [])
line-ended before middle after line e f = f ∙ ap (λ t. t ++ 10 ∷ []) e ∙ append_assoc before line (10 ∷ [])

-- four lines, and a fifth one
pub head-written : (old a b c d e f first second third fourth fifth : List ℕ) → a ≡ old ++ (first ++ 10 ∷ []) → b ≡ a ++ (second ++ 10 ∷ []) → c ≡ b ++ (third ++ 10 ∷ []) → d ≡ c ++ (fourth ++ 10 ∷ []) → e ≡ d ++ fifth → f ≡ e ++ 10 ∷ []
    → f ≡ old ++ join_lines (first ∷ second ∷ third ∷ fourth ∷ fifth ∷ [])
head-written old a b c d e f first second third fourth fifth p q r s t u =
    let two = line-more old a b (first ∷ []) second p q in
    let three = line-more old b c (first ∷ second ∷ []) third two r in
    let four = line-more old c d (first ∷ second ∷ third ∷ []) fourth three s in
    line-more old d f (first ∷ second ∷ third ∷ fourth ∷ []) fifth four (line-ended d e f fifth t u)

-- two lines, lines, and the last line
pub solution-written : (old a b c d e first second last : List ℕ) (lines : List (List ℕ)) → a ≡ old ++ first → b ≡ a ++ 10 ∷ [] → c ≡ b ++ (second ++ 10 ∷ []) → d ≡ c ++ join_lines lines → e ≡ d ++ (last ++ 10 ∷ [])
    → e ≡ old ++ join_lines (first ∷ second ∷ (lines ++ last ∷ []))
solution-written old a b c d e first second last lines p q r s t =
    let two = line-more old b c (first ∷ []) second (line-ended old a b first p q) r in
    let more = lines-more old c d (first ∷ second ∷ []) lines two s in
    line-more old d e (first ∷ second ∷ lines) last more t
