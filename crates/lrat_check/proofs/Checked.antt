-- A proof that is read up to a line, with what its store has so far.
use Rattle.std.proofs.Common.{◌≡◌, ℕ, ◌+◌, Bool, true, false, List, [], ◌∷◌, ◌++◌, refl, sym, ap, subst, ◌∙◌}
use Rattle.std.proofs.lemmas.Bool.{true≢false}
use Rattle.std.proofs.lemmas.List.{append-nil}
use Rattle.bee_text.specs.Lines.{IsLine, join_lines, lines_of}
use Rattle.bee_text.proofs.LineLemmas.{lines_of-cut}
use Rattle.order_ints.specs.declared.cnf.Cnf.{Cnf}
use Rattle.line_texts.proofs.ReadTo.{ReadTo, nothing_read, line_read, line_fails, end_fails}
use Rattle.line_texts.proofs.Fronts.{misfit_first, missing_first}
use Rattle.sat_front.specs.Closed.{closed}
use Rattle.lrat_check.specs.declared.store.LratStore.{LratStore}
use Rattle.lrat_check.specs.declared.check.LratEnd.{LratEnd}
use Rattle.lrat_check.specs.declared.check.LratEnd.TheVariants as end
use Rattle.lrat_check.specs.LratLines.{SoFar, start_of, NextProof, IsRefuted, IsLrat, LratFails}
use Rattle.lrat_check.specs.Stored.{so_far, Holds, IsEnded, IsLratEnd}

-- so many lines are read, the rest is left, and the store has what they add
pub record Checked (cnf : Cnf) (text rest : List ℕ) (read : ℕ) (s : LratStore) : Type 0 where
  pub lead : ReadTo (NextProof cnf) (start_of cnf) (closed text) (closed rest) read (so_far s)
  pub holds : Holds cnf s

pub checked_none : (cnf : Cnf) (text : List ℕ) (s : LratStore) → so_far s ≡ start_of cnf → Holds cnf s → Checked cnf text text 0 s
checked_none cnf text s start holds = record {
  lead = subst (λ (t : SoFar). ReadTo (NextProof cnf) (start_of cnf) (closed text) (closed text) 0 t) (sym start) (nothing_read (NextProof cnf) (start_of cnf) (closed text));
  holds = holds;
}

module _ (cnf : Cnf) (text rest : List ℕ) (read : ℕ) (s : LratStore) (h : Checked cnf text rest read s) where
  is_whole : closed rest ≡ [] → IsRefuted (so_far s) → IsLrat cnf text
  is_whole none empty = (
    so_far s,
    record {
      lines = h.lead.before;
      are_lines = h.lead.are_lines;
      joined = h.lead.joined ∙ ap (λ (r : List ℕ). join_lines h.lead.before ++ r) none ∙ append-nil (join_lines h.lead.before);
      lead = h.lead.lead;
      ended = empty;
    },
  )

  is_early : (number : ℕ) → number ≡ read + 1 → closed rest ≡ [] → (IsRefuted (so_far s) → ⊥) → LratFails cnf text number
  is_early number n none early =
      let P : List ℕ → Type 0 = λ r. ReadTo (NextProof cnf) (start_of cnf) (closed text) r read (so_far s) in
      missing_first (NextProof cnf) IsRefuted (start_of cnf) (closed text) number
      (end_fails (NextProof cnf) (start_of cnf) IsRefuted (closed text) [] read number (so_far s) (subst P none h.lead) refl n (λ e shown. early shown))

  -- nothing is left
  pub all_read : closed rest ≡ [] → (e : LratEnd) → IsEnded s.refuted read e → IsLratEnd cnf text e
  all_read none (end.Proof lines) k = is_whole none k
  all_read none (end.Refused line) k = is_early line k.1 none (λ shown. true≢false (sym shown ∙ k.0))

  module _ (line later : List ℕ) (number : ℕ) (is : IsLine line) (cut : closed rest ≡ line ++ 10 ∷ closed later) (n : number ≡ read + 1) where
    pub line_checked : (t : LratStore) → NextProof cnf (so_far s) line (so_far t) → Holds cnf t → Checked cnf text later number t
    line_checked t next holds = record {
      lead = line_read (NextProof cnf) (start_of cnf) (closed text) (closed rest) line (closed later) read number (so_far s) (so_far t) h.lead is cut n next;
      holds = holds;
    }

    pub line_refused : ((t : SoFar) → NextProof cnf (so_far s) line t → ⊥) → LratFails cnf text number
    line_refused misfits =
        misfit_first (NextProof cnf) IsRefuted (start_of cnf) (closed text) number (λ _ _ (_ : Bool). Unit {0}) true
        (line_fails (NextProof cnf) (start_of cnf) (λ _ _ (_ : Bool). Unit {0}) (closed text) (closed rest) line (closed later) read number (so_far s) true h.lead
        (ap lines_of cut ∙ lines_of-cut line (closed later) is) n misfits tt)
