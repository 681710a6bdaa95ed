-- How many queries a compilation may make.
use Rattle.std.specs.Prelude.{◌≡◌, ℕ, ◌+◌, ◌*◌, ◌≤◌, List, [], ◌∷◌, ◌++◌, length, Ok}
use Rattle.std.specs.Int.Digits.{digits_of}
use Rattle.core_forms.specs.declared.form.Core.{Core}
use Rattle.core_forms.specs.OwnVars.{own_vars}
use Rattle.ledger_text.specs.declared.line.Line.{Line}
use Rattle.step_kernel.specs.Kernel.{Kernel}
use Rattle.fixpoint_queue.specs.Pairs.{pairs_along}
use Rattle.asking_bound.specs.Made.{made_along, all_made}

-- how many binary digits a number has
abbrev pub binary_digits : ℕ → ℕ
binary_digits n = length (digits_of 2 n)

-- the numbers of different variables of cores, together
abbrev pub occurrences_of : List Core → ℕ
occurrences_of [] = 0
occurrences_of (core ∷ cores) = length (own_vars core) + occurrences_of cores

-- One query for each core that was made, and one for each new label that each of its different variables can get, of
-- which there are as many as the last number of variables has binary digits.
abbrev pub most_questions : Kernel → List Line → Kernel → ℕ
most_questions start lines last =
    length (all_made start lines) + occurrences_of (all_made start lines) * binary_digits (length last.view)

-- From a state and a ledger on, with so many queries to make, a counter has risen by at most three for each query
-- that was asked; there are so many left; and those that came are no more than the cores that were made, and the pairs
-- that got a new label.
abbrev pub IsAsked : Kernel → List Line → List Line → ℕ → ℕ → ℕ → ℕ → Type 0
IsAsked k before behind queued counter now left =
    (lines : List Line) → behind ≡ before ++ lines →
    now + 3 * left ≤ counter + 3 * (queued + length (made_along (Ok k) lines) + pairs_along (Ok k) lines)
