-- Words of a text with any blanks, tabs, carriage returns and line feeds between them.
use Rattle.std.specs.Prelude.{ℕ, Bool, true, false, List, [], ◌∷◌, if◌then◌else◌}
use Rattle.bee_text.specs.Words.{is_gap, before_first}

-- a text without the gap that it begins with
abbrev pub after_gap : List ℕ → List ℕ
after_gap [] = []
after_gap (b ∷ bs) = if is_gap b then after_gap bs else b ∷ bs

-- whether a text begins with a word
abbrev pub begins_word : List ℕ → Bool
begins_word [] = false
begins_word (b ∷ bs) = if is_gap b then false else true

-- the words of a text, each as long as it can be
abbrev pub words_of : List ℕ → List (List ℕ)
words_of [] = []
words_of (b ∷ bs) =
    if is_gap b
    then words_of bs
    else (if begins_word bs then before_first b (words_of bs) else (b ∷ []) ∷ words_of bs)
