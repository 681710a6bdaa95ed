-- What a split makes of a runner, and the lists of variables of a core that is cut.
use Rattle.std.specs.Prelude.{◌≡◌, ◌⊎◌, ℕ, ◌+◌, ◌<◌, ◌≤◌, List, [], ◌∷◌, ◌++◌}
use Rattle.std.specs.Prelude.{length, slice_index_or, Ok}
use Rattle.index_ring.specs.Lists.{times}
use Rattle.ledger_text.specs.declared.line.Line.TheVariants.{Split}
use Rattle.part_base.specs.declared.cut.Cut.{Cut}
use Rattle.step_kernel.specs.Steps.{step}
use Rattle.fixpoint_queue.specs.Saturation.{Saturation}
use Rattle.fixpoint_queue.specs.Standing.{AreAllVars}

-- the step is made and has its line; only the parts come into the queue, which grows by no more than the cores
pub record IsSplit (old new : Saturation) (id : ℕ) : Type 0 where
  pub stepped : step old.kernel (Split id) ≡ Ok new.kernel
  pub line : new.ledger ≡ old.ledger ++ Split id ∷ []
  pub queued : (other : ℕ) → 1 ≤ times other new.queued → (1 ≤ times other old.queued)
      ⊎ (length old.kernel.cores < other)
  pub grows : length new.queued + length old.kernel.cores ≤ length old.queued + length new.kernel.cores

-- the variables of each part of a cut, but for what is left of the list, at whose place none is listed
pub record AreCutLists (lists : List (List ℕ)) (cut : Cut) : Type 0 where
  pub before : List (List ℕ)
  pub behind : List (List ℕ)
  pub are : lists ≡ before ++ [] ∷ behind
  pub front : AreAllVars before cut.front
  pub back : AreAllVars behind cut.back

-- so many variables from one on
pub record AreFrom (next count : ℕ) (vars : List ℕ) : Type 0 where
  pub many : length vars ≡ count
  pub at : (k : ℕ) → k < count → slice_index_or vars k 0 ≡ next + k
