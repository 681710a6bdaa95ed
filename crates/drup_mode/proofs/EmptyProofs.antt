-- What comes of an empty proof.
use Rattle.std.proofs.Common.{ℕ, List, [], refl, sym, subst}
use Rattle.order_ints.specs.declared.cnf.Cnf.{Cnf}
use Rattle.line_texts.proofs.Fronts.{missing_first}
use Rattle.drup_check.specs.DrupLines.{NextClauses, ShowEmpty, IsDrup, DrupFails}
use Rattle.drup_mode.specs.EmptyLaw.{EmptyShows}

empty_proof : (cnf : Cnf) → ShowEmpty cnf.clauses → IsDrup cnf []
empty_proof cnf shown = (cnf.clauses, record { lines = []; are_lines = refl; joined = refl; lead = refl; ended = shown })

empty_fails : (cnf : Cnf) → (ShowEmpty cnf.clauses → ⊥) → DrupFails cnf [] 1
empty_fails cnf unshown =
    missing_first (NextClauses cnf.vars) ShowEmpty cnf.clauses [] 1 (record { number_is = refl; stands = cnf.clauses; lead = refl; early = λ none shown. unshown shown })

pub empty_shows : EmptyShows
empty_shows texts cnf held e = record {
  valid = λ shown. record { cnf = cnf; held = held; proof = subst (λ (t : List ℕ). IsDrup cnf t) (sym e) (empty_proof cnf shown) };
  refused = λ unshown. record { cnf = cnf; held = held; fails = subst (λ (t : List ℕ). DrupFails cnf t 1) (sym e) (empty_fails cnf unshown) };
}
