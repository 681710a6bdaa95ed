-- Words: what a word is, words joined by single blanks, a text split at its blanks.
use Rattle.std.specs.Prelude.{ℕ, Bool, false, not, ◌||◌, List, [], ◌∷◌, ◌++◌, Option, None, Some}
use Rattle.std.specs.Prelude.{IsTrue, if◌then◌else◌, ◌==◌}
use Rattle.std.specs.List.{list_all}
use Rattle.bee_text.specs.Lines.{lacks}

-- the bytes between words: blank, tab, line feed, carriage return
abbrev pub is_gap : ℕ → Bool
is_gap byte = byte == 32 || byte == 9 || byte == 10 || byte == 13

-- whether a text is a word: not empty, and no blank, tab, line feed or carriage return inside
abbrev pub is_word : List ℕ → Bool
is_word [] = false
is_word (b ∷ bs) = list_all (λ c. not (is_gap c)) (b ∷ bs)

-- a text is a word
abbrev pub IsWord : List ℕ → Type 0
IsWord text = IsTrue (is_word text)

-- each is a word
abbrev pub AreWords : List (List ℕ) → Type 0
AreWords texts = IsTrue (list_all is_word texts)

-- none has a blank inside; each may be empty
abbrev pub ArePieces : List (List ℕ) → Type 0
ArePieces texts = IsTrue (list_all (lacks 32) texts)

-- the words one after the other, each behind a blank
abbrev pub words_behind : List (List ℕ) → List ℕ
words_behind [] = []
words_behind (w ∷ ws) = 32 ∷ (w ++ words_behind ws)

-- the words one after the other, a single blank between two of them
abbrev pub join_words : List (List ℕ) → List ℕ
join_words [] = []
join_words (w ∷ ws) = w ++ words_behind ws

-- a byte put before the first part, which is empty if there is no part
abbrev pub before_first : ℕ → List (List ℕ) → List (List ℕ)
before_first byte [] = (byte ∷ []) ∷ []
before_first byte (w ∷ ws) = (byte ∷ w) ∷ ws

-- a text split at each of its blanks, into one piece more than there are blanks
abbrev pub split_blanks : List ℕ → List (List ℕ)
split_blanks [] = [] ∷ []
split_blanks (b ∷ bs) = if b == 32 then [] ∷ split_blanks bs else before_first b (split_blanks bs)

-- the pieces of what is left of a text, if anything is left
abbrev pub pieces_left : Option (List ℕ) → List (List ℕ)
pieces_left None = []
pieces_left (Some text) = split_blanks text
