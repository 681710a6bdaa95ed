-- Each text has one end: it shows one verdict, or one line of it is the first that fails. The clauses are over as many
-- variables as a solver takes.
use Rattle.std.specs.Prelude.{◌≡◌, ℕ, ◌≤◌, ◌^◌, List, ℤ, Option}
use Rattle.answer_document.specs.declared.verdict.Verdict.{Verdict}
use Rattle.answer_import.specs.Imports.{Sought, TextShows, TextFails}
use Rattle.answer_import.specs.declared.importing.Imported.{Imported}
use Rattle.answer_import.specs.declared.importing.Imported.TheVariants as imported

-- a text shows one verdict, with the same numbers or none
abbrev pub ShowsOne : Type 0
ShowsOne = (s : Sought) → s.cnf.vars ≤ 2 ^ 27 → (text : List ℕ) (v w : Verdict) (a b : Option (List ℤ))
    → TextShows s text v a → TextShows s text w b → (v ≡ w) × (a ≡ b)

-- no line of a text that shows one fails
abbrev pub ShowsOrFails : Type 0
ShowsOrFails = (s : Sought) → s.cnf.vars ≤ 2 ^ 27 → (text : List ℕ) (v : Verdict) (a : Option (List ℤ)) (line : ℕ)
    → TextShows s text v a → TextFails s text line → ⊥

-- one line of another text is the first that fails
abbrev pub FailsOnce : Type 0
FailsOnce = (s : Sought) → s.cnf.vars ≤ 2 ^ 27 → (text : List ℕ) (m n : ℕ) → TextFails s text m
    → TextFails s text n → m ≡ n

-- it cannot be that a text neither shows a verdict nor has a line that fails
abbrev pub ShowsOrFailsOnce : Type 0
ShowsOrFailsOnce = (s : Sought) (text : List ℕ) → ((v : Verdict) (a : Option (List ℤ)) → TextShows s text v a → ⊥)
    → ((line : ℕ) → TextFails s text line → ⊥) → ⊥

-- a text is imported as an answer with this verdict
abbrev pub IsAnswered : Verdict → Imported → Type 0
IsAnswered v (imported.Answer w written) = w ≡ v
IsAnswered v (imported.Refused line) = ⊥
