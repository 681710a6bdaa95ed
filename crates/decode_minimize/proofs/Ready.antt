-- Clauses that a solver takes.
use Rattle.std.proofs.Common.{◌≡◌, ℕ, zero, suc, ◌+◌, List, [], ◌∷◌, ◌++◌, length, refl, sym, ap, ◌∙◌, subst}
use Rattle.order_ints.specs.declared.atom.Atom.{Atom}
use Rattle.order_ints.specs.declared.atom.Atom.TheVariants.{True, False, Of}
use Rattle.order_ints.specs.declared.cnf.Cnf.{Cnf}
use Rattle.order_ints.specs.declared.literal.Lit.{Lit}
use Rattle.order_ints.specs.OrderedClauses.{ClausesAscend}
use Rattle.order_ints.specs.Place.{AtomBelow, ClausesBelow}
use Rattle.clause_rings.specs.Clauses.{AreApartIn}
use Rattle.clause_rings.proofs.Ascending.{ascending-apart}
use Rattle.order_ints.specs.declared.order_int.MapValue.{MapValue}
use Rattle.order_ints.specs.declared.order_int.MapValue.TheVariants as entry
use Rattle.order_ints.specs.OrderValue.{IsOrdered}
use Rattle.order_ints.specs.Place.{AtomsBelow}
use Rattle.order_ints.specs.Truth.{Valuation}
use Rattle.statement_lower.specs.Entries.{AreOrdered}
use Rattle.state_compile.specs.StandsFor.{read_by}
use Rattle.answer_document.specs.BoundAtoms.{integer_named}
use Rattle.answer_document.specs.Valid.{atom_clauses}
use Rattle.decode_minimize.specs.declared.improving.Sought.{Sought}
use Rattle.decode_minimize.specs.Objectives.{IsObjective}
use Rattle.decode_minimize.specs.Solved.{Problem, IsSolvable, IsProblem, IsSeekable}

pub solvable-apart : (cnf : Cnf) → IsSolvable cnf → AreApartIn cnf
solvable-apart cnf is = ascending-apart cnf is.ascend

atom-ascend : (cs : List (List Lit)) (a : Atom) → ClausesAscend cs → ClausesAscend (cs ++ atom_clauses a)
atom-ascend [] True h = tt
atom-ascend [] False h = (tt, tt)
atom-ascend [] (Of l) h = ((tt, tt), tt)
atom-ascend (c ∷ cs) a h = (h.0, atom-ascend cs a h.1)

atom-below : (n : ℕ) (cs : List (List Lit)) (a : Atom) → ClausesBelow n cs → AtomBelow n a → ClausesBelow n (cs ++ atom_clauses a)
atom-below n [] True h k = tt
atom-below n [] False h k = (tt, tt)
atom-below n [] (Of l) h k = ((k, tt), tt)
atom-below n (c ∷ cs) a h k = (h.0, atom-below n cs a h.1 k)

-- they stay so with the clause of an atom behind them
pub solvable-with : (cnf : Cnf) (a : Atom) → IsSolvable cnf → AtomBelow (cnf.vars + 1) a → IsSolvable (record { vars = cnf.vars; clauses = cnf.clauses ++ atom_clauses a })
solvable-with cnf a is below = record {
  vars = is.vars;
  in_range = atom-below (cnf.vars + 1) cnf.clauses a is.in_range below;
  ascend = atom-ascend cnf.clauses a is.ascend;
}

-- each integer of a map is ordered where all are
ordered-named : (σ : Valuation) (entries : List MapValue) (place : ℕ) → AreOrdered σ entries → IsOrdered σ (integer_named entries place)
ordered-named σ [] place h = refl
ordered-named σ (entry.Bool a ∷ entries) zero h = refl
ordered-named σ (entry.Int a ∷ entries) zero h = h.0
ordered-named σ (entry.Bool a ∷ entries) (suc place) h = ordered-named σ entries place h
ordered-named σ (entry.Int a ∷ entries) (suc place) h = ordered-named σ entries place h.1

-- so what a name stands for can be sought
pub seekable-at : (p : Problem) → IsProblem p → (sought : Sought) (entries : List MapValue) (place : ℕ) → sought.view.now ≡ p.view → entries ≡ p.entries → sought.integer.now ≡ integer_named entries place
    → IsSeekable p.cnf sought
seekable-at p is sought entries place view same named =
    let integer : integer_named p.entries place ≡ sought.integer.now = ap (λ (es : List MapValue). integer_named es place) (sym same) ∙ sym named in
    let seen : p.view ≡ sought.view.now = sym view in
    record {
      vars = is.vars ∙ ap length seen;
      labels = subst (λ (v : List Atom). AtomsBelow (length v + 1) v) seen is.labels;
      objective = subst (λ (v : List Atom). IsObjective (length v + 1) sought.integer.now) seen (subst (IsObjective (length p.view + 1)) integer (is.objectives place));
      ordered = λ σ h. subst (λ (v : List Atom). IsOrdered (read_by v σ) sought.integer.now) seen
          (subst (IsOrdered (read_by p.view σ)) integer (ordered-named (read_by p.view σ) p.entries place (is.ordered σ h)));
    }
