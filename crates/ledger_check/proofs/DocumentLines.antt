-- The lines of a document are lines: no line feed stands inside of one.
use Rattle.std.proofs.Common.{◌≡◌, ℕ, ◌≤◌, true, not, ◌==◌, List, [], ◌∷◌, map, refl, arith}
use Rattle.std.specs.List.{list_all}
use Rattle.std.proofs.lemmas.Bool.{and_parts, and_from, or_left, false≢true}
use Rattle.std.proofs.lemmas.Bool.Decides.{nat_tests}
use Rattle.bee_text.specs.Lines.{lacks, IsLine, AreLines}
use Rattle.bumblebee_reader.specs.Bytes.{is_letter, is_digit}
use Rattle.bumblebee_reader.specs.Bytes as bytes
use Rattle.bumblebee_reader.specs.Names.{IsName, AreDeclared}
use Rattle.model_meaning.specs.declared.model.Decl.{Decl}
use Rattle.model_meaning.specs.declared.model.Goal.{Goal}
use Rattle.model_meaning.specs.declared.model.Model.{Model}
use Rattle.answer_document.specs.declared.verdict.Verdict.{Verdict}
use Rattle.answer_document.specs.declared.verdict.Verdict.TheVariants.{Satisfiable, Unsatisfiable, Optimum, Unknown}
use Rattle.answer_document.specs.Verdicts.{VerdictFits}
use Rattle.answer_document.specs.Told.{FitsCount}
use Rattle.answer_document.proofs.DocumentLines.{document-are-lines}
use Rattle.ledger_check.specs.Laws.{AreWrittenLines}

-- names
name-line : (name : List ℕ) → IsName name → IsLine name
name-line [] h = absurd (false≢true h)
name-line (b ∷ bs) h =
    let parts = and_parts (is_letter b) (list_all bytes.is_word bs) h in
    and_from (not (b == 10)) (lacks 10 bs) (byte b (or_left (is_letter b) (is_digit b) parts.0)) (all bs parts.1)
  where
    high : (b : ℕ) → 48 ≤ b → not (b == 10) ≡ true
    high b low = grind (arith, nat_tests)

    byte : (b : ℕ) → bytes.is_word b ≡ true → not (b == 10) ≡ true
    byte b h = high b (grind (arith, nat_tests))

    all : (bs : List ℕ) → list_all bytes.is_word bs ≡ true → lacks 10 bs ≡ true
    all [] h = refl
    all (b ∷ bs) h =
        let parts = and_parts (bytes.is_word b) (list_all bytes.is_word bs) h in
        and_from (not (b == 10)) (lacks 10 bs) (byte b parts.0) (all bs parts.1)

-- declared names are lines
pub declared-lines : (names : List (List ℕ)) → AreDeclared names → AreLines names
declared-lines [] h = refl
declared-lines (n ∷ names) h = and_from (lacks 10 n) (list_all (lacks 10) names) (name-line n h.0.spelled) (declared-lines names h.2)

-- a verdict that fits a goal has a number of learned clauses of 64 bits
fits-count : (goal : Goal) (v : Verdict) → VerdictFits goal v → FitsCount v
fits-count goal Satisfiable h = tt
fits-count goal Unsatisfiable h = tt
fits-count goal (Optimum b) h = tt
fits-count goal (Unknown n best) h = omega (arith, h.1)

-- where names are lines, the lines of each document are lines
pub written-lines : (model : Model) → AreLines (map (λ (d : Decl). d.name) model.decls) → AreWrittenLines model
written-lines model names d h fits = document-are-lines model.decls model.goal d names h (fits-count model.goal d.verdict fits)
