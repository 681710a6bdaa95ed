-- Lines of a text: what a line is, lines joined, the lines of a text.
use Rattle.std.specs.Prelude.{ℕ, Bool, not, List, [], ◌∷◌, ◌++◌, IsTrue, if◌then◌else◌, ◌==◌}
use Rattle.std.specs.List.{list_all}

-- whether a byte is not found in a text
abbrev pub lacks : ℕ → List ℕ → Bool
lacks byte text = list_all (λ b. not (b == byte)) text

-- a line has no line feed inside
abbrev pub IsLine : List ℕ → Type 0
IsLine text = IsTrue (lacks 10 text)

-- each is a line
abbrev pub AreLines : List (List ℕ) → Type 0
AreLines texts = IsTrue (list_all (lacks 10) texts)

-- the lines one after the other, each followed by a line feed
abbrev pub join_lines : List (List ℕ) → List ℕ
join_lines [] = []
join_lines (x ∷ xs) = x ++ 10 ∷ join_lines xs

-- a byte put before the first part, if there is a part
abbrev pub onto_first : ℕ → List (List ℕ) → List (List ℕ)
onto_first byte [] = []
onto_first byte (x ∷ xs) = (byte ∷ x) ∷ xs

-- the lines of a text: of its bytes those that a line feed follows somewhere
abbrev pub lines_of : List ℕ → List (List ℕ)
lines_of [] = []
lines_of (b ∷ bs) = if b == 10 then [] ∷ lines_of bs else onto_first b (lines_of bs)

-- what stands behind the last line feed of a text
abbrev pub unfinished : List ℕ → List ℕ
unfinished [] = []
unfinished (b ∷ bs) = if lacks 10 (b ∷ bs) then b ∷ bs else unfinished bs

-- how far a text has been read: what is left of it, and how many lines were given
pub record Progress : Type 0 where
  pub rest : List ℕ
  pub read : ℕ
