-- What is written one after another is the lines of a document.
use Rattle.std.proofs.Common.{◌≡◌, ℕ, List, [], ◌∷◌, ◌++◌, map, codes, refl, sym, ap, ◌∙◌, append_assoc}
use Rattle.bee_text.specs.Lines.{join_lines}
use Rattle.bee_text.proofs.LineLemmas.{join_lines-append}

-- a line, lines, a line, lines, and lines
pub certificate-written : (old a b c d new first middle : List ℕ) (xs ys zs : List (List ℕ)) → a ≡ old ++ (first ++ 10 ∷ []) → b ≡ a ++ join_lines xs → c ≡ b ++ (middle ++ 10 ∷ []) → d ≡ c ++ join_lines ys → new ≡ d ++ join_lines zs
    → new ≡ old ++ join_lines (first ∷ (xs ++ middle ∷ (ys ++ zs)))
certificate-written old a b c d new first middle xs ys zs e f g h i =
    i ∙ ap (λ t. t ++ join_lines zs) (h ∙ ap (λ t. t ++ join_lines ys) (g ∙ ap (λ t. t ++ (middle ++ 10 ∷ [])) (f ∙ ap (λ t. t ++ join_lines xs) e)))
    ∙ append_assoc (((old ++ (first ++ 10 ∷ [])) ++ join_lines xs) ++ (middle ++ 10 ∷ [])) (join_lines ys) (join_lines zs)
    ∙ ap (λ t. (((old ++ (first ++ 10 ∷ [])) ++ join_lines xs) ++ (middle ++ 10 ∷ [])) ++ t) (sym (join_lines-append ys zs))
    ∙ append_assoc ((old ++ (first ++ 10 ∷ [])) ++ join_lines xs) (middle ++ 10 ∷ []) (join_lines (ys ++ zs))
    ∙ ap (λ t. ((old ++ (first ++ 10 ∷ [])) ++ join_lines xs) ++ t) (append_assoc middle (10 ∷ []) (join_lines (ys ++ zs)))
    ∙ append_assoc (old ++ (first ++ 10 ∷ [])) (join_lines xs) (join_lines (middle ∷ (ys ++ zs)))
    ∙ ap (λ t. (old ++ (first ++ 10 ∷ [])) ++ t) (sym (join_lines-append xs (middle ∷ (ys ++ zs))))
    ∙ append_assoc old (first ++ 10 ∷ []) (join_lines (xs ++ middle ∷ (ys ++ zs)))
    ∙ ap (λ t. old ++ t) (append_assoc first (10 ∷ []) (join_lines (xs ++ middle ∷ (ys ++ zs))))

-- the first lines, lines, lines, and the last line
pub document-written : (old a b c new last : List ℕ) (v w : List ℕ) (hs xs ys : List (List ℕ)) → a ≡ old ++ join_lines (v ∷ w ∷ hs) → b ≡ a ++ join_lines xs → c ≡ b ++ join_lines ys → new ≡ c ++ (last ++ 10 ∷ [])
    → new ≡ old ++ join_lines (v ∷ w ∷ (hs ++ (xs ++ (ys ++ last ∷ []))))
document-written old a b c new last v w hs xs ys e f g h =
    h ∙ ap (λ t. t ++ (last ++ 10 ∷ [])) (g ∙ ap (λ t. t ++ join_lines ys) (f ∙ ap (λ t. t ++ join_lines xs) e))
    ∙ append_assoc ((old ++ join_lines (v ∷ w ∷ hs)) ++ join_lines xs) (join_lines ys) (last ++ 10 ∷ [])
    ∙ ap (λ t. ((old ++ join_lines (v ∷ w ∷ hs)) ++ join_lines xs) ++ t) (sym (join_lines-append ys (last ∷ [])))
    ∙ append_assoc (old ++ join_lines (v ∷ w ∷ hs)) (join_lines xs) (join_lines (ys ++ last ∷ []))
    ∙ ap (λ t. (old ++ join_lines (v ∷ w ∷ hs)) ++ t) (sym (join_lines-append xs (ys ++ last ∷ [])))
    ∙ append_assoc old (join_lines (v ∷ w ∷ hs)) (join_lines (xs ++ (ys ++ last ∷ [])))
    ∙ ap (λ t. old ++ t) (sym (join_lines-append (v ∷ w ∷ hs) (xs ++ (ys ++ last ∷ []))))
