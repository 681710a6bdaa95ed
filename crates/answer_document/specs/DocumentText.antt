-- The text of an answer's document, as a function to bytes.
--
--     bee VERSION                    1, or 2 where the goal has two objectives
--     VERDICT                        SATISFIABLE, UNSATISFIABLE, OPTIMUM NUMBER .., UNKNOWN COUNT
--     best NUMBER ..                 behind UNKNOWN, where a solution is known
--     NAME = VALUE                   for each declared name, where there is an assignment
--     ledger
--     LINE                           for each step of the compilation
--     proof
--     LINE                           for each line of the derivation
--     second
--     LINE                           for each line of the second derivation, where there is one
--     end
--
-- NUMBER .. is one number for each objective. After SATISFIABLE the lines from `ledger` to those before `end` are left
-- out.
use Rattle.std.specs.Prelude.{ℕ, Bool, true, false, List, [], ◌∷◌, ◌++◌, codes, map, Option, Some, None}
use Rattle.std.specs.Prelude.{if◌then◌else◌}
use Rattle.bee_text.specs.Lines.{join_lines}
use Rattle.bee_text.specs.Words.{join_words}
use Rattle.model_meaning.specs.declared.model.Decl.{Decl}
use Rattle.model_meaning.specs.declared.model.Goal.{Goal}
use Rattle.model_meaning.specs.declared.model.Goal.TheVariants.{Satisfy, Minimize, Maximize}
use Rattle.model_meaning.specs.declared.model.Assignment.{Assignment}
use Rattle.name_map.specs.ValueLines.{declared_lines}
use Rattle.ledger_text.specs.declared.line.Line.{Line}
use Rattle.ledger_text.specs.Steps.{step_text}
use Rattle.proof_check.specs.declared.line.ProofLine.{ProofLine}
use Rattle.proof_check.specs.Lines.{line_bytes}
use Rattle.answer_document.specs.Goals.{has_second}
use Rattle.answer_document.specs.declared.verdict.Bounds.{Bounds}
use Rattle.answer_document.specs.declared.verdict.Verdict.{Verdict}
use Rattle.answer_document.specs.declared.verdict.Verdict.TheVariants.{Satisfiable, Unsatisfiable, Optimum, Unknown}
use Rattle.answer_document.specs.declared.document.Document.{Document}
use Rattle.answer_document.specs.Verdicts.{bound_words, verdict_text, is_certified}

-- the first line: the version of the form
abbrev pub version_line : Goal → List ℕ
version_line goal = if has_second goal then codes "bee 2" else codes "bee 1"

-- the line of a best solution's values
abbrev pub best_line : Bounds → List ℕ
best_line b = join_words (codes "best" ∷ bound_words b)

abbrev pub best_lines : Verdict → List (List ℕ)
best_lines Satisfiable = []
best_lines Unsatisfiable = []
best_lines (Optimum b) = []
best_lines (Unknown n None) = []
best_lines (Unknown n (Some b)) = best_line b ∷ []

-- the lines of an assignment
abbrev pub assignment_lines : List Decl → Option Assignment → List (List ℕ)
assignment_lines decls None = []
assignment_lines decls (Some a) = declared_lines decls a.values

-- the lines of a second derivation
abbrev pub second_lines : Option (List ProofLine) → List (List ℕ)
second_lines None = []
second_lines (Some proof) = codes "second" ∷ map line_bytes proof

-- the lines of a certificate
abbrev pub certificate_lines : Document → List (List ℕ)
certificate_lines d =
    codes "ledger" ∷ (map step_text d.ledger ++ codes "proof" ∷ (map line_bytes d.proof ++ second_lines d.second))

-- where the verdict has one
abbrev pub certificate_of : Document → List (List ℕ)
certificate_of d = if is_certified d.verdict then certificate_lines d else []

-- the lines of a document
abbrev pub document_lines : List Decl → Goal → Document → List (List ℕ)
document_lines decls goal d =
    version_line goal ∷ verdict_text d.verdict ∷ (best_lines d.verdict
    ++ (assignment_lines decls d.assignment
    ++ (certificate_of d ++ codes "end" ∷ [])))

-- and its text
abbrev pub document_text : List Decl → Goal → Document → List ℕ
document_text decls goal d = join_lines (document_lines decls goal d)
