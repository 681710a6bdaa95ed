-- A proof that is read up to a line, with the clauses so far.
use Rattle.std.proofs.Common.{◌≡◌, ℕ, ◌+◌, Bool, true, false, List, [], ◌∷◌, ◌++◌, refl, sym, ap, subst, ◌∙◌}
use Rattle.std.specs.Prelude.{MatchBool}
use Rattle.std.proofs.lemmas.Bool.{false≢true}
use Rattle.std.proofs.lemmas.List.{append-nil}
use Rattle.bee_text.specs.Lines.{IsLine, join_lines, lines_of}
use Rattle.bee_text.proofs.LineLemmas.{lines_of-cut}
use Rattle.order_ints.specs.declared.literal.Lit.{Lit}
use Rattle.order_ints.specs.declared.cnf.Cnf.{Cnf}
use Rattle.drup_check.specs.declared.tiers.Tiers.{Tiers}
use Rattle.line_texts.proofs.ReadTo.{ReadTo, nothing_read, line_read, line_fails, end_fails}
use Rattle.line_texts.proofs.Fronts.{misfit_first, missing_first}
use Rattle.sat_front.specs.Closed.{closed}
use Rattle.drup_check.specs.Standing.{StandsAs}
use Rattle.drup_check.specs.DrupLines.{NextClauses, ShowEmpty, IsDrup, DrupFails}
use Rattle.drup_check.specs.Taken.{GoesOn, Misfits}

-- so many lines are read, the rest is left, and the store stands for the clauses so far
pub record Checked (cnf : Cnf) (text rest : List ℕ) (read : ℕ) (refuted : Bool) (s : Tiers) : Type 0 where
  pub clauses : List (List Lit)
  pub lead : ReadTo (NextClauses cnf.vars) cnf.clauses (closed text) (closed rest) read clauses
  pub stands : StandsAs refuted s clauses
  pub vars : s.db.trail.vars ≡ cnf.vars

pub checked_none : (cnf : Cnf) (text : List ℕ) (refuted : Bool) (s : Tiers) → StandsAs refuted s cnf.clauses → s.db.trail.vars ≡ cnf.vars → Checked cnf text text 0 refuted s
checked_none cnf text refuted s st vars = record { clauses = cnf.clauses; lead = nothing_read (NextClauses cnf.vars) cnf.clauses (closed text); stands = st; vars = vars }

module _ (cnf : Cnf) (text rest : List ℕ) (read : ℕ) (refuted : Bool) (s : Tiers) (h : Checked cnf text rest read refuted s) where
  -- nothing is left
  pub is_whole : closed rest ≡ [] → ((cs : List (List Lit)) → StandsAs refuted s cs → ShowEmpty cs) → IsDrup cnf text
  is_whole none empty = (
    h.clauses,
    record {
      lines = h.lead.before;
      are_lines = h.lead.are_lines;
      joined = h.lead.joined ∙ ap (λ (r : List ℕ). join_lines h.lead.before ++ r) none ∙ append-nil (join_lines h.lead.before);
      lead = h.lead.lead;
      ended = empty h.clauses h.stands;
    },
  )

  pub is_early : (number : ℕ) → number ≡ read + 1 → closed rest ≡ [] → ((cs : List (List Lit)) → StandsAs refuted s cs → ShowEmpty cs → ⊥) → DrupFails cnf text number
  is_early number n none early =
      let P : List ℕ → Type 0 = λ r. ReadTo (NextClauses cnf.vars) cnf.clauses (closed text) r read h.clauses in
      missing_first (NextClauses cnf.vars) ShowEmpty cnf.clauses (closed text) number
      (end_fails (NextClauses cnf.vars) cnf.clauses ShowEmpty (closed text) [] read number h.clauses (subst P none h.lead) refl n (λ e shown. early h.clauses h.stands shown))

  module _ (line later : List ℕ) (number : ℕ) (is : IsLine line) (cut : closed rest ≡ line ++ 10 ∷ closed later) (n : number ≡ read + 1) where
    pub line_checked : (again : Bool) (t : Tiers) → ((cs : List (List Lit)) → StandsAs refuted s cs → GoesOn s.db.trail.vars cs line again t) → t.db.trail.vars ≡ s.db.trail.vars → Checked cnf text later number again t
    line_checked again t goes vars =
        let on = goes h.clauses h.stands in
        record {
          clauses = on.clauses;
          lead = line_read (NextClauses cnf.vars) cnf.clauses (closed text) (closed rest) line (closed later) read number h.clauses on.clauses h.lead is cut n
              (subst (λ (v : ℕ). NextClauses v h.clauses line on.clauses) h.vars on.next);
          stands = on.stands;
          vars = vars ∙ h.vars;
        }

    pub line_refused : ((cs : List (List Lit)) → StandsAs refuted s cs → Misfits s.db.trail.vars cs line) → DrupFails cnf text number
    line_refused misfits =
        misfit_first (NextClauses cnf.vars) ShowEmpty cnf.clauses (closed text) number (λ _ _ (_ : Bool). Unit {0}) true
        (line_fails (NextClauses cnf.vars) cnf.clauses (λ _ _ (_ : Bool). Unit {0}) (closed text) (closed rest) line (closed later) read number h.clauses true h.lead
        (ap lines_of cut ∙ lines_of-cut line (closed later) is) n (subst (λ (v : ℕ). Misfits v h.clauses line) h.vars (misfits h.clauses h.stands)) tt)

-- what came of a line, by the answer
module _ (vars : ℕ) (line : List ℕ) (b : Bool) (old : Tiers) (r : Bool) (new : Tiers) where
  abbrev Takes : Bool → Type 0
  Takes taken = (cs : List (List Lit)) → StandsAs b old cs → MatchBool taken (GoesOn vars cs line r new) (Misfits vars cs line)

  pub is_taken : (taken : Bool) → taken ≡ true → Takes taken → (cs : List (List Lit)) → StandsAs b old cs → GoesOn vars cs line r new
  is_taken true is h = h
  is_taken false is h = absurd (false≢true is)

  pub not_taken : (taken : Bool) → taken ≡ false → Takes taken → (cs : List (List Lit)) → StandsAs b old cs → Misfits vars cs line
  not_taken true is h = absurd (false≢true (sym is))
  not_taken false is h = h
