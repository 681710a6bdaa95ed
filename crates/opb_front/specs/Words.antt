-- The words of a line. They stand apart by blanks, tabs and carriage returns, and `;` is a word of its own, whatever
-- stands beside it.
use Rattle.std.specs.Prelude.{◌==◌, ◌||◌, ◌++◌, not, ℕ, Bool, true, false, List, [], ◌∷◌}
use Rattle.std.specs.Prelude.{if◌then◌else◌}
use Rattle.bee_text.specs.Words.{is_gap, before_first}
use Rattle.bee_text.specs.Lines.{lines_of, unfinished}

-- whether a byte ends a word: it stands between words, or is a word of its own
abbrev pub ends_word : ℕ → Bool
ends_word b = is_gap b || b == 59

-- whether a text goes on with a byte of a word
abbrev pub goes_on : List ℕ → Bool
goes_on [] = false
goes_on (b ∷ bs) = not (ends_word b)

-- the words of a line, each as long as it can be
abbrev pub line_words : List ℕ → List (List ℕ)
line_words [] = []
line_words (b ∷ bs) =
    if is_gap b
    then line_words bs
    else (if b == 59
    then (59 ∷ []) ∷ line_words bs
    else (if goes_on bs then before_first b (line_words bs) else (b ∷ []) ∷ line_words bs))

-- the lines of a text: each line feed begins the next one
abbrev pub text_lines : List ℕ → List (List ℕ)
text_lines text = lines_of text ++ unfinished text ∷ []
