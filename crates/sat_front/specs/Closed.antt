-- Texts whose last line may lack its line feed.
use Rattle.std.specs.Prelude.{◌≡◌, ℕ, ◌+◌, List, [], ◌∷◌, ◌++◌}
use Rattle.bee_text.specs.Lines.{unfinished}
use Rattle.line_texts.specs.declared.ends.TextEnd.{TextEnd}
use Rattle.line_texts.specs.declared.ends.TextEnd.TheVariants.{Whole, Misfit, Missing}

-- the line feed that is missing behind these bytes
abbrev pub closing : List ℕ → List ℕ
closing [] = []
closing (b ∷ bs) = 10 ∷ []

-- the text with a line feed behind its last line
abbrev pub closed : List ℕ → List ℕ
closed text = text ++ closing (unfinished text)

-- how a text ends behind so many lines, all of which were taken
abbrev pub IsEndBehind : {S C : Type 0} → (S → Type 0) → S → ℕ → TextEnd C → Type 0
IsEndBehind IsEnd s read Whole = IsEnd s
IsEndBehind IsEnd s read (Misfit number cause) = ⊥
IsEndBehind IsEnd s read (Missing number) = (number ≡ read + 1) × (IsEnd s → ⊥)
