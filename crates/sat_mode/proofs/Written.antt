-- The line that tells values, as it is written.
use Rattle.std.proofs.Common.{◌≡◌, ℕ, List, [], ◌∷◌, ◌++◌, codes, refl, sym, ap, ◌∙◌, append_assoc}
use Rattle.bee_text.specs.Lines.{join_lines}
use Rattle.bee_text.specs.Words.{words_behind, join_words}

words_behind-end : (ws : List (List ℕ)) → words_behind (ws ++ codes "0" ∷ []) ≡ words_behind ws ++ codes " 0"
words_behind-end [] = refl
words_behind-end (w ∷ ws) =
    ap (λ (t : List ℕ). 32 ∷ (w ++ t)) (words_behind-end ws) ∙ ap (λ (t : List ℕ). 32 ∷ t) (sym (append_assoc w (words_behind ws) (codes " 0")))

pub values-written : (ws : List (List ℕ))
    → (codes "s SATISFIABLE\nv" ++ words_behind ws) ++ codes " 0\n" ≡ join_lines (codes "s SATISFIABLE" ∷ join_words (codes "v" ∷ (ws ++ codes "0" ∷ [])) ∷ [])
values-written ws =
    let end : words_behind (ws ++ codes "0" ∷ []) ++ 10 ∷ [] ≡ words_behind ws ++ codes " 0\n" =
    ap (λ (t : List ℕ). t ++ 10 ∷ []) (words_behind-end ws) ∙ append_assoc (words_behind ws) (codes " 0") (10 ∷ []) in
    ap (λ (t : List ℕ). codes "s SATISFIABLE\nv" ++ t) (sym end)
