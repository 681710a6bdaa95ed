-- The text of a line, as it is written word by word.
use Rattle.std.proofs.Common.{◌≡◌, ℕ, List, [], ◌∷◌, ◌++◌, codes, ap, ◌∙◌, append_assoc}
use Rattle.bee_text.specs.Words.{words_behind}
use Rattle.bee_text.proofs.WordLemmas.{words_behind-append}

-- the words of a list, and 0 behind them
ended : (ws vs : List (List ℕ)) → words_behind (ws ++ codes "0" ∷ vs) ≡ words_behind ws ++ 32 ∷ 48 ∷ words_behind vs
ended ws vs = words_behind-append ws (codes "0" ∷ vs)

pub addition-text : (a n : List ℕ) (ls hs : List (List ℕ)) →
    (a ++ n) ++ words_behind ls ++ codes " 0" ++ words_behind hs ++ codes " 0\n"
    ≡ a ++ ((n ++ words_behind (ls ++ codes "0" ∷ (hs ++ codes "0" ∷ []))) ++ 10 ∷ [])
addition-text a n ls hs =
    let e : words_behind (ls ++ codes "0" ∷ (hs ++ codes "0" ∷ [])) ≡ words_behind ls ++ 32 ∷ 48 ∷ (words_behind hs ++ 32 ∷ 48 ∷ []) =
    ended ls (hs ++ codes "0" ∷ []) ∙ ap (λ (t : List ℕ). words_behind ls ++ 32 ∷ 48 ∷ t) (ended hs []) in
    rw e (simp append_assoc)

pub deletion-text : (a n : List ℕ) (is : List (List ℕ)) →
    (a ++ n) ++ codes " d" ++ words_behind is ++ codes " 0\n" ≡ a ++ ((n ++ words_behind (codes "d" ∷ (is ++ codes "0" ∷ []))) ++ 10 ∷ [])
deletion-text a n is = rw (ended is []) (simp append_assoc)
