-- A text is a refutation, or one line of it is the first that fails; and a last line feed makes no difference.
use Rattle.std.proofs.Common.{◌≡◌, ℕ, ◌+◌, ◌^◌, ◌≤◌, Bool, true, false, List, length, refl, subst}
use Rattle.bee_text.specs.Lines.{lines_of}
use Rattle.line_texts.specs.LineByLine.{IsWhole, FirstMisfit}
use Rattle.line_texts.proofs.WholeOrMisfit.{no-answer}
use Rattle.order_ints.specs.declared.literal.Lit.{Lit}
use Rattle.order_ints.specs.declared.cnf.Cnf.{Cnf}
use Rattle.sat_front.specs.Closed.{closed}
use Rattle.drup_check.specs.DrupLines.{NextClauses, ShowEmpty}
use Rattle.drup_check.proofs.Exact as drup
use Rattle.lrat_check.specs.Kinds.{are_hinted, is_lrat_text}
use Rattle.lrat_check.specs.LratLines.{SoFar, start_of, NextProof, IsRefuted}
use Rattle.lrat_check.specs.Laws.{ProofsFit, OneFails}
use Rattle.proof_import.specs.Refutations.{RefutedBy, FailsAs, IsRefutation, RefutationFails}

-- the same, of a text whose last line has its line feed
abbrev RefutesAs : Bool → Cnf → List ℕ → Type 0
RefutesAs true cnf bytes = (s : SoFar) × IsWhole (NextProof cnf) IsRefuted (start_of cnf) bytes s
RefutesAs false cnf bytes = (cs : List (List Lit)) × IsWhole (NextClauses cnf.vars) ShowEmpty cnf.clauses bytes cs

abbrev Refutes : Cnf → List ℕ → Type 0
Refutes cnf bytes = RefutesAs (are_hinted (lines_of bytes)) cnf bytes

abbrev MisfitsAs : Bool → Cnf → ℕ → List ℕ → Type 0
MisfitsAs true cnf line bytes = FirstMisfit (NextProof cnf) IsRefuted (start_of cnf) bytes line
MisfitsAs false cnf line bytes = FirstMisfit (NextClauses cnf.vars) ShowEmpty cnf.clauses bytes line

abbrev Misfits : Cnf → ℕ → List ℕ → Type 0
Misfits cnf line bytes = MisfitsAs (are_hinted (lines_of bytes)) cnf line bytes

module _ (cnf : Cnf) (text : List ℕ) where
  refutes : (b : Bool) → RefutedBy b cnf text → RefutesAs b cnf (closed text)
  refutes true h = h
  refutes false h = h

  refuted : (b : Bool) → RefutesAs b cnf (closed text) → RefutedBy b cnf text
  refuted true h = h
  refuted false h = h

  misfits : (line : ℕ) (b : Bool) → FailsAs b cnf text line → MisfitsAs b cnf line (closed text)
  misfits line true h = h
  misfits line false h = h

  fails : (line : ℕ) (b : Bool) → MisfitsAs b cnf line (closed text) → FailsAs b cnf text line
  fails line true h = h
  fails line false h = h

  some-as : (b : Bool) → (RefutedBy b cnf text → ⊥) → ((line : ℕ) → FailsAs b cnf text line → ⊥) → ⊥
  some-as true none never =
      no-answer (NextProof cnf) IsRefuted (start_of cnf) (closed text) (λ s whole. none (s, whole))
      (λ before left s parts lead misfit.
      never (length before + 1) (record { before = before; left = left; parts = parts; number_is = refl; stands = s; lead = lead; misfit = misfit }))
  some-as false none never =
      no-answer (NextClauses cnf.vars) ShowEmpty cnf.clauses (closed text) (λ s whole. none (s, whole))
      (λ before left s parts lead misfit.
      never (length before + 1) (record { before = before; left = left; parts = parts; number_is = refl; stands = s; lead = lead; misfit = misfit }))

  -- it cannot be that a text is neither
  pub refutation-or-line : (IsRefutation cnf text → ⊥) → ((line : ℕ) → RefutationFails cnf text line → ⊥) → ⊥
  refutation-or-line = some-as (is_lrat_text text)

module _ (cnf : Cnf) (text other : List ℕ) (same : closed text ≡ closed other) where
  pub refutation-closed : IsRefutation cnf text → IsRefutation cnf other
  refutation-closed h = refuted cnf other (is_lrat_text other) (subst (Refutes cnf) same (refutes cnf text (is_lrat_text text) h))

  pub fails-closed : (line : ℕ) → RefutationFails cnf text line → RefutationFails cnf other line
  fails-closed line h = fails cnf other line (is_lrat_text other) (subst (Misfits cnf line) same (misfits cnf text line (is_lrat_text text) h))

-- over the laws of proofs with hints
module _ (proofs : ProofsFit) (faults : OneFails) (cnf : Cnf) (few : cnf.vars ≤ 2 ^ 27) (text : List ℕ) where
  fits-as : (b : Bool) (line : ℕ) → RefutedBy b cnf text → FailsAs b cnf text line → ⊥
  fits-as true line h k = proofs cnf text line h k
  fits-as false line h k = drup.proof_fits cnf few text line h k

  same-as : (b : Bool) (m n : ℕ) → FailsAs b cnf text m → FailsAs b cnf text n → m ≡ n
  same-as true m n h k = faults cnf text m n h k
  same-as false m n h k = drup.line_same cnf few text m n h k

  pub refutation-fits : (line : ℕ) → IsRefutation cnf text → RefutationFails cnf text line → ⊥
  refutation-fits = fits-as (is_lrat_text text)

  pub refutation-line : (m n : ℕ) → RefutationFails cnf text m → RefutationFails cnf text n → m ≡ n
  refutation-line = same-as (is_lrat_text text)
