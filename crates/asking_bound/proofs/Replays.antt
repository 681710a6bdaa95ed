-- What all lines of a ledger leave of the new labels.
use Rattle.std.proofs.Common.{◌≡◌, ℕ, ◌+◌, ◌*◌, ◌≤◌, ◌<◌, List, [], ◌∷◌, ◌++◌, length, refl, ap, sym, ◌∙◌, arith, ⊎_elim, Result, Ok, Err}
use Rattle.std.proofs.lemmas.Bool.{cases_lt}
use Rattle.order_ints.specs.View.{label_of}
use Rattle.core_forms.specs.declared.form.Core.{Core}
use Rattle.ledger_text.specs.declared.line.Line.{Line}
use Rattle.step_kernel.specs.declared.fault.StepFault.{StepFault}
use Rattle.step_kernel.specs.Kernel.{Kernel, pending, IsKernel}
use Rattle.step_kernel.specs.Steps.{step, replayed, replay}
use Rattle.step_kernel.proofs.Kept.{Kept}
use Rattle.step_kernel.proofs.StepLaws.{step-kept, replay-kept}
use Rattle.step_kernel.proofs.Stepped.{err_ok}
use Rattle.fixpoint_queue.specs.Pairs.{pairs_to, pairs_along}
use Rattle.asking_bound.specs.Laws.{FewNewLabels, FewPairs}
use Rattle.asking_bound.specs.Made.{made_to, made_along}
use Rattle.asking_bound.specs.NewLabels.{new_label_to, new_labels}
use Rattle.asking_bound.specs.Questions.{binary_digits, occurrences_of}
use Rattle.asking_bound.proofs.CoresLeft.{pairs_left, pairs-most}
use Rattle.asking_bound.proofs.DigitLaws.{digits-more}
use Rattle.asking_bound.proofs.LabelsLeft.{labels_left, left-most}
use Rattle.asking_bound.proofs.StepLabels.{step-labels, step-past}
use Rattle.asking_bound.proofs.StepPairs.{step-pairs}

replayed-err : (fault : StepFault) (lines : List Line) → replayed (Err fault) lines ≡ Err fault
replayed-err fault [] = refl
replayed-err fault (line ∷ lines) = refl

-- the variables of two lists of cores
pub occurrences-append : (cs ds : List Core) → occurrences_of (cs ++ ds) ≡ occurrences_of cs + occurrences_of ds
occurrences-append [] ds = omega arith
occurrences-append (c ∷ cs) ds = omega (arith, occurrences-append cs ds)

module _ (digits : ℕ) (last : Kernel) (most : binary_digits (length last.view) ≤ digits) where
  -- on the way to the last state there are no more digits
  few-digits : (mid : Kernel) (lines : List Line) → IsKernel mid → replay mid lines ≡ Ok last → binary_digits (length mid.view) ≤ digits
  few-digits mid lines is e = omega (arith, most, digits-more (length mid.view) (length last.view) (replay-kept mid last lines is e).longer)

  labels-along : (k : Kernel) (lines : List Line) (v : ℕ) → IsKernel k → replay k lines ≡ Ok last → 1 ≤ v → v ≤ length k.view → new_labels v (Ok k) lines ≤ labels_left digits k.view v
  labels-along k [] v is e low high = omega arith
  labels-along k (line ∷ lines) v is e low high = by (step k line) refl e (λ mid. labels-along mid lines v)
    where
      by : (r : Result Kernel StepFault) → step k line ≡ r → replayed r lines ≡ Ok last
          → ((mid : Kernel) → IsKernel mid → replay mid lines ≡ Ok last → 1 ≤ v → v ≤ length mid.view → new_labels v (Ok mid) lines ≤ labels_left digits mid.view v)
          → new_label_to v k r + new_labels v r lines ≤ labels_left digits k.view v
      by (Err fault) stepped e rest = absurd (err_ok fault last (sym (replayed-err fault lines) ∙ e))
      by (Ok mid) stepped e rest =
          let kept : Kept k mid = step-kept k mid line is stepped in
          omega (
            arith,
            step-labels digits k is line mid stepped (few-digits mid lines kept.kernel e) v low high,
            rest mid kept.kernel e low (omega (arith, high, kept.longer)),
          )

  -- also of one that comes on the way
  pub labels-any : (k : Kernel) (lines : List Line) (v : ℕ) → IsKernel k → replay k lines ≡ Ok last → 1 ≤ v → new_labels v (Ok k) lines ≤ digits
  labels-any k [] v is e low = omega arith
  labels-any k (line ∷ lines) v is e low =
      ⊎_elim
      (λ (past : length k.view < v). by (step k line) refl e past (λ mid. labels-any mid lines v))
      (λ (high : v ≤ length k.view). omega (arith, labels-along k (line ∷ lines) v is e low high, left-most digits k.view (label_of k.view v)))
      (cases_lt (length k.view) v)
    where
      by : (r : Result Kernel StepFault) → step k line ≡ r → replayed r lines ≡ Ok last → length k.view < v
          → ((mid : Kernel) → IsKernel mid → replay mid lines ≡ Ok last → 1 ≤ v → new_labels v (Ok mid) lines ≤ digits) → new_label_to v k r + new_labels v r lines ≤ digits
      by (Err fault) stepped e past rest = absurd (err_ok fault last (sym (replayed-err fault lines) ∙ e))
      by (Ok mid) stepped e past rest =
          omega (arith, step-past digits k is line mid stepped v past, rest mid (step-kept k mid line is stepped).kernel e low)

  pub along : (k : Kernel) (lines : List Line) → IsKernel k → replay k lines ≡ Ok last → pairs_along (Ok k) lines ≤ pairs_left digits k.view (pending k.cores) + occurrences_of (made_along (Ok k) lines) * digits
  along k [] is e = omega arith
  along k (line ∷ lines) is e = by (step k line) refl e (λ mid. along mid lines)
    where
      by : (r : Result Kernel StepFault) → step k line ≡ r → replayed r lines ≡ Ok last
          → ((mid : Kernel) → IsKernel mid → replay mid lines ≡ Ok last → pairs_along (Ok mid) lines ≤ pairs_left digits mid.view (pending mid.cores) + occurrences_of (made_along (Ok mid) lines) * digits)
          → pairs_to k r + pairs_along r lines ≤ pairs_left digits k.view (pending k.cores) + occurrences_of (made_to k r ++ made_along r lines) * digits
      by (Err fault) stepped e rest = absurd (err_ok fault last (sym (replayed-err fault lines) ∙ e))
      by (Ok mid) stepped e rest =
          let kept : Kept k mid = step-kept k mid line is stepped in
          let both : occurrences_of (made_to k (Ok mid) ++ made_along (Ok mid) lines) * digits ≡ (occurrences_of (made_to k (Ok mid)) + occurrences_of (made_along (Ok mid) lines)) * digits =
          ap (λ (n : ℕ). n * digits) (occurrences-append (made_to k (Ok mid)) (made_along (Ok mid) lines)) in
          omega (
            arith,
            both,
            step-pairs digits k is line mid stepped (few-digits mid lines kept.kernel e),
            rest mid kept.kernel e,
          )

pub few-new-labels : FewNewLabels
few-new-labels start last lines v is e low = labels-any (binary_digits (length last.view)) last (omega arith) start lines v is e low

pub few-pairs : FewPairs
few-pairs start last lines is e =
    let digits = binary_digits (length last.view) in
    omega (
      arith,
      along digits last (omega arith) start lines is e,
      pairs-most digits start.view (pending start.cores),
      ap (λ (n : ℕ). n * digits) (occurrences-append (pending start.cores) (made_along (Ok start) lines)),
    )
