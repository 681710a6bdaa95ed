-- The laws of numbers, lines and words that other crates build on.
use Rattle.std.specs.Prelude.{◌≡◌, ℕ, ◌<◌, ◌^◌, List, ◌∷◌, ◌++◌, length, slice_index, ℤ}
use Rattle.std.specs.Prelude.{IsTrue, FitsSigned}
use Rattle.std.specs.Int.{w128}
use Rattle.std.specs.Char.{is_ascii_digit}
use Rattle.std.specs.Fmt.{decimal, signed_decimal}
use Rattle.std.specs.List.{list_all}
use Rattle.bee_text.specs.Lines.{IsLine, AreLines, join_lines, lines_of, unfinished}
use Rattle.bee_text.specs.Words.{IsWord, AreWords, ArePieces, join_words, split_blanks}
use Rattle.bee_text.specs.Gaps.{words_of}

-- two numbers of 128 bits with one decimal are one number
abbrev pub DecimalTellsNumber : Type 0
DecimalTellsNumber = (m n : ℕ) → m < 2 ^ 128 → n < 2 ^ 128 → decimal m ≡ decimal n → m ≡ n

-- the same of signed numbers
abbrev pub SignedDecimalTellsNumber : Type 0
SignedDecimalTellsNumber = (y z : ℤ) → FitsSigned w128 y → FitsSigned w128 z
    → signed_decimal y ≡ signed_decimal z → y ≡ z

-- each byte of a decimal is a digit
abbrev pub DecimalHasDigits : Type 0
DecimalHasDigits = (n : ℕ) → n < 2 ^ 128 → IsTrue (list_all is_ascii_digit (decimal n))

-- only the decimal of zero begins with the digit zero
abbrev pub DecimalLeadsByZero : Type 0
DecimalLeadsByZero = (n : ℕ) → n < 2 ^ 128 → slice_index (decimal n) 0 ≡ 48 → n ≡ 0

-- a decimal is a word, so it is not empty and a line too
abbrev pub DecimalIsWord : Type 0
DecimalIsWord = (n : ℕ) → n < 2 ^ 128 → IsWord (decimal n)

-- the same of signed numbers
abbrev pub SignedDecimalIsWord : Type 0
SignedDecimalIsWord = (z : ℤ) → FitsSigned w128 z → IsWord (signed_decimal z)

-- lines that are joined to one text are the same lines
abbrev pub JoinTellsLines : Type 0
JoinTellsLines = (xs ys : List (List ℕ)) → AreLines xs → AreLines ys → join_lines xs ≡ join_lines ys
    → xs ≡ ys

-- joined lines have those lines, also with a line behind them that no line feed ends
abbrev pub LinesOfJoined : Type 0
LinesOfJoined = (xs : List (List ℕ)) (rest : List ℕ) → AreLines xs → IsLine rest
    → lines_of (join_lines xs ++ rest) ≡ xs

-- that line is what stands behind their last line feed
abbrev pub UnfinishedOfJoined : Type 0
UnfinishedOfJoined = (xs : List (List ℕ)) (rest : List ℕ) → IsLine rest
    → unfinished (join_lines xs ++ rest) ≡ rest

-- a text is its lines joined, and what stands behind them
abbrev pub JoinOfLines : Type 0
JoinOfLines = (text : List ℕ) → join_lines (lines_of text) ++ unfinished text ≡ text

-- the lines of a text are lines
abbrev pub LinesOfText : Type 0
LinesOfText = (text : List ℕ) → AreLines (lines_of text)

-- lists of lines one after the other
abbrev pub JoinAppendsLines : Type 0
JoinAppendsLines = (xs ys : List (List ℕ)) → join_lines (xs ++ ys) ≡ join_lines xs ++ join_lines ys

-- words that are joined to one text are the same words
abbrev pub JoinTellsWords : Type 0
JoinTellsWords = (vs ws : List (List ℕ)) → AreWords vs → AreWords ws → join_words vs ≡ join_words ws
    → vs ≡ ws

-- joined pieces have those pieces between their blanks
abbrev pub SplitOfJoined : Type 0
SplitOfJoined = (ws : List (List ℕ)) → 0 < length ws → ArePieces ws → split_blanks (join_words ws) ≡ ws

-- joined words have those words
abbrev pub WordsOfJoined : Type 0
WordsOfJoined = (ws : List (List ℕ)) → AreWords ws → words_of (join_words ws) ≡ ws

-- the words of a text are words
abbrev pub WordsOfText : Type 0
WordsOfText = (text : List ℕ) → AreWords (words_of text)

-- lists of words one after the other, a blank between them
abbrev pub JoinAppendsWords : Type 0
JoinAppendsWords = (vs ws : List (List ℕ)) → 0 < length vs → 0 < length ws
    → join_words (vs ++ ws) ≡ join_words vs ++ 32 ∷ join_words ws

-- joined words are a line, where each is a line
abbrev pub JoinedWordsAreLine : Type 0
JoinedWordsAreLine = (ws : List (List ℕ)) → AreLines ws → IsLine (join_words ws)

-- words are lines
abbrev pub WordsAreLines : Type 0
WordsAreLines = (ws : List (List ℕ)) → AreWords ws → AreLines ws
