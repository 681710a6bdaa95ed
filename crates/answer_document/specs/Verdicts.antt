-- How verdicts are spelled, and which verdict fits which goal.
use Rattle.std.specs.Prelude.{◌≡◌, ℕ, ◌≤◌, ◌<◌, ◌^◌, Bool, true, false, List, [], ◌∷◌}
use Rattle.std.specs.Prelude.{codes, ℤ, Option, Some, None, IfSome}
use Rattle.std.specs.Fmt.{decimal, signed_decimal}
use Rattle.bee_text.specs.Words.{join_words}
use Rattle.model_meaning.specs.declared.model.Goal.{Goal}
use Rattle.model_meaning.specs.declared.model.Goal.TheVariants.{Satisfy, Minimize, Maximize}
use Rattle.answer_document.specs.declared.verdict.Bounds.{Bounds}
use Rattle.answer_document.specs.declared.verdict.Verdict.{Verdict}
use Rattle.answer_document.specs.declared.verdict.Verdict.TheVariants.{Satisfiable, Unsatisfiable, Optimum, Unknown}

-- the values of the objectives, as a list of one number or two
abbrev pub numbers_with : ℤ → Option ℤ → List ℤ
numbers_with first None = first ∷ []
numbers_with first (Some second) = first ∷ second ∷ []

abbrev pub numbers_in : Bounds → List ℤ
numbers_in b = numbers_with b.first b.second

-- their words
abbrev pub words_with : ℤ → Option ℤ → List (List ℕ)
words_with first None = signed_decimal first ∷ []
words_with first (Some second) = signed_decimal first ∷ signed_decimal second ∷ []

abbrev pub bound_words : Bounds → List (List ℕ)
bound_words b = words_with b.first b.second

-- the words of a verdict
abbrev pub verdict_words : Verdict → List (List ℕ)
verdict_words Satisfiable = codes "SATISFIABLE" ∷ []
verdict_words Unsatisfiable = codes "UNSATISFIABLE" ∷ []
verdict_words (Optimum b) = codes "OPTIMUM" ∷ bound_words b
verdict_words (Unknown n best) = codes "UNKNOWN" ∷ decimal n ∷ []

abbrev pub verdict_text : Verdict → List ℕ
verdict_text v = join_words (verdict_words v)

-- whether a certificate is written: not for a solution alone, which says all by itself
abbrev pub is_certified : Verdict → Bool
is_certified Satisfiable = false
is_certified Unsatisfiable = true
is_certified (Optimum b) = true
is_certified (Unknown n best) = true

-- a goal and a verdict have a second number both, or neither has one
abbrev pub HaveSecond : Option ℕ → Option ℤ → Type 0
HaveSecond None None = Unit {0}
HaveSecond None (Some n) = ⊥
HaveSecond (Some place) None = ⊥
HaveSecond (Some place) (Some n) = Unit {0}

-- there is one number for each objective
abbrev pub BoundsFit : Goal → Bounds → Type 0
BoundsFit Satisfy b = ⊥
BoundsFit (Minimize place second) b = HaveSecond second b.second
BoundsFit (Maximize place second) b = HaveSecond second b.second

-- which verdict fits a goal: a solution alone where nothing is sought of it, an optimum and a best solution where
-- something is, with one number for each objective; a number of learned clauses is from 1 and below 2 ^ 63
abbrev pub VerdictFits : Goal → Verdict → Type 0
VerdictFits goal Satisfiable = goal ≡ Satisfy
VerdictFits goal Unsatisfiable = Unit {0}
VerdictFits goal (Optimum b) = BoundsFit goal b
VerdictFits goal (Unknown n best) = (1 ≤ n) × (n < 2 ^ 63) × IfSome best (BoundsFit goal)
