-- Laws of new labels.
use Rattle.std.specs.Prelude.{◌≡◌, ℕ, ◌*◌, ◌≤◌, List, length, Ok}
use Rattle.ledger_text.specs.declared.line.Line.{Line}
use Rattle.step_kernel.specs.Kernel.{Kernel, IsKernel}
use Rattle.step_kernel.specs.Steps.{replay}
use Rattle.fixpoint_queue.specs.Pairs.{pairs_along}
use Rattle.asking_bound.specs.Made.{all_made}
use Rattle.asking_bound.specs.NewLabels.{new_labels}
use Rattle.asking_bound.specs.Questions.{binary_digits, occurrences_of}

-- a variable gets no more new labels than the last number of variables has binary digits
abbrev pub FewNewLabels : Type 0
FewNewLabels =
    (start last : Kernel) (lines : List Line) (v : ℕ) → IsKernel start → replay start lines ≡ Ok last
    → 1 ≤ v →
    new_labels v (Ok start) lines ≤ binary_digits (length last.view)

-- the pairs of a pending core and one of its variables that get a new label are no more than that number for each pair
-- of a core that was made and one of its variables
abbrev pub FewPairs : Type 0
FewPairs =
    (start last : Kernel) (lines : List Line) → IsKernel start → replay start lines ≡ Ok last →
    pairs_along (Ok start) lines ≤ occurrences_of (all_made start lines) * binary_digits (length last.view)
