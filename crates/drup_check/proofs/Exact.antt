-- A text is a proof, or has one line that fails first.
use Rattle.std.proofs.Common.{◌≡◌, ℕ, ◌≤◌, List, refl, ◌^◌}
use Rattle.bee_text.specs.Lines.{unfinished}
use Rattle.order_ints.specs.declared.literal.Lit.{Lit}
use Rattle.order_ints.specs.declared.cnf.Cnf.{Cnf}
use Rattle.line_texts.proofs.Leads.{whole_fits}
use Rattle.line_texts.proofs.Fronts.{misfit_same}
use Rattle.sat_front.specs.Closed.{closed}
use Rattle.drup_check.specs.DrupLines.{NextClauses, ShowEmpty, IsDrup, DrupFails}
use Rattle.drup_check.proofs.Taking.{next_same}

abbrev AnyClauses : List (List Lit) → Type 0
AnyClauses cs = Unit {0}

module _ (cnf : Cnf) (few : cnf.vars ≤ 2 ^ 27) (text : List ℕ) where
  keeps : (s t : List (List Lit)) (line : List ℕ) → AnyClauses s → NextClauses cnf.vars s line t → AnyClauses t
  keeps s t line any next = tt

  one : (s t u : List (List Lit)) (line : List ℕ) → AnyClauses s → NextClauses cnf.vars s line t → NextClauses cnf.vars s line u → t ≡ u
  one s t u line any = next_same cnf.vars few s t u line

  pub proof_fits : (line : ℕ) → IsDrup cnf text → DrupFails cnf text line → ⊥
  proof_fits line p m = whole_fits (NextClauses cnf.vars) AnyClauses keeps one ShowEmpty cnf.clauses tt (closed text) p.0 m.stands m.before m.left p.1 m.parts m.lead m.misfit

  pub line_same : (m n : ℕ) → DrupFails cnf text m → DrupFails cnf text n → m ≡ n
  line_same m n p q = misfit_same (NextClauses cnf.vars) AnyClauses keeps one ShowEmpty cnf.clauses tt (unfinished (closed text)) (closed text) m n refl p q
