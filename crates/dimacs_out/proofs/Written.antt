-- What is written one after another is the lines as they are defined.
use Rattle.std.proofs.Common.{◌≡◌, ℕ, List, [], ◌∷◌, ◌++◌, map, codes, refl, ap, sym, ◌∙◌, append_assoc}
use Rattle.std.proofs.lemmas.List.{append-nil}
use Rattle.bee_text.specs.Lines.{join_lines}
use Rattle.bee_text.proofs.LineLemmas.{join_lines-append}
use Rattle.bee_text.specs.Words.{join_words, words_behind}
use Rattle.order_ints.specs.declared.literal.Lit.{Lit}
use Rattle.ledger_text.specs.Words.{literal_word}
use Rattle.dimacs_out.specs.CompiledText.{clause_line}
use Rattle.dimacs_out.specs.Written.{words_ended}

words_behind-last : (ws : List (List ℕ)) (z : List ℕ) → words_behind (ws ++ z ∷ []) ≡ 32 ∷ (words_ended ws ++ z)
words_behind-last [] z = ap (λ l. 32 ∷ l) (append-nil z)
words_behind-last (w ∷ ws) z =
    ap (λ l. 32 ∷ (w ++ l)) (words_behind-last ws z) ∙ ap (λ l. 32 ∷ l) (sym (append_assoc w (32 ∷ words_ended ws) z))

-- words before a blank each, and one word behind them
pub join_words-last : (ws : List (List ℕ)) (z : List ℕ) → join_words (ws ++ z ∷ []) ≡ words_ended ws ++ z
join_words-last [] z = append-nil z
join_words-last (w ∷ ws) z = ap (λ l. w ++ l) (words_behind-last ws z) ∙ sym (append_assoc w (32 ∷ words_ended ws) z)

-- the line of a clause and its line feed
pub clause_written : (out mid new : List ℕ) (c : List Lit) → mid ≡ out ++ words_ended (map literal_word c) → new ≡ (mid ++ codes "0") ++ 10 ∷ [] → new ≡ out ++ clause_line c ++ 10 ∷ []
clause_written out mid new c e f =
    f ∙ ap (λ l. (l ++ codes "0") ++ 10 ∷ []) e
    ∙ ap (λ l. l ++ 10 ∷ []) (append_assoc out (words_ended (map literal_word c)) (codes "0") ∙ ap (λ l. out ++ l) (sym (join_words-last (map literal_word c) (codes "0"))))

-- lines, a line, and lines
pub join_lines-around : (xs : List (List ℕ)) (y : List ℕ) (zs : List (List ℕ)) → join_lines (xs ++ y ∷ zs) ≡ join_lines xs ++ (y ++ 10 ∷ join_lines zs)
join_lines-around [] y zs = refl
join_lines-around (x ∷ xs) y zs =
    ap (λ l. x ++ 10 ∷ l) (join_lines-around xs y zs) ∙ sym (append_assoc x (10 ∷ join_lines xs) (y ++ 10 ∷ join_lines zs))

pub text_written : (h e l p n : List ℕ) (es ls : List (List ℕ)) (y : List ℕ) (zs : List (List ℕ)) → e ≡ h ++ join_lines es → l ≡ e ++ join_lines ls → p ≡ l ++ y ++ 10 ∷ []
    → n ≡ p ++ join_lines zs → n ≡ h ++ join_lines (es ++ (ls ++ y ∷ zs))
text_written h e l p n es ls y zs a b c d =
    d ∙ ap (λ t. t ++ join_lines zs) c ∙ append_assoc (l ++ y) (10 ∷ []) (join_lines zs) ∙ append_assoc l y (10 ∷ join_lines zs)
    ∙ ap (λ t. t ++ (y ++ 10 ∷ join_lines zs)) b ∙ append_assoc e (join_lines ls) (y ++ 10 ∷ join_lines zs)
    ∙ ap (λ t. e ++ t) (sym (join_lines-around ls y zs)) ∙ ap (λ t. t ++ join_lines (ls ++ y ∷ zs)) a ∙ append_assoc h (join_lines es) (join_lines (ls ++ y ∷ zs))
    ∙ ap (λ t. h ++ t) (sym (join_lines-append es (ls ++ y ∷ zs)))
