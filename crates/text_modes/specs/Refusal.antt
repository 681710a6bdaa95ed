-- The text that tells which line of a text fails.
use Rattle.std.specs.Prelude.{ℕ, List, [], ◌∷◌, ◌++◌, codes}
use Rattle.std.specs.Fmt.{decimal}

-- the text of a refusal, by the number of the first line that fails
abbrev pub refusal_text : ℕ → List ℕ
refusal_text line = codes "REFUSED " ++ decimal line ++ 10 ∷ []
