-- Words as they are written one after another.
use Rattle.std.specs.Prelude.{ℕ, List, [], ◌∷◌, ◌++◌}

-- the words one after the other, each before a blank
abbrev pub words_ended : List (List ℕ) → List ℕ
words_ended [] = []
words_ended (w ∷ ws) = w ++ 32 ∷ words_ended ws
