-- The text that is written for a board, as a function to bytes.
--
--     queens N
--     variables V                    of the CNF at the end of the compilation
--     clauses C
--     equations E                    the equations of the ledger
--     VERDICT
--     columns COLUMN ..              of the queens in the rows, in order
--     ledger
--     LINE                           for each step of the compilation
--     end
--
-- The lines from `columns` on stand after SATISFIABLE. After another verdict the document of the answer stands there.
use Rattle.std.specs.Prelude.{ℕ, zero, suc, ◌+◌, ◌*◌, List, [], ◌∷◌, ◌++◌, codes, map, ℤ, Option}
use Rattle.std.specs.Prelude.{Some, None}
use Rattle.std.specs.Fmt.{decimal, signed_decimal}
use Rattle.bee_text.specs.Lines.{join_lines}
use Rattle.ledger_text.specs.declared.line.Line.{Line}
use Rattle.ledger_text.specs.declared.line.Line.TheVariants.{Equate, Split, Encode}
use Rattle.ledger_text.specs.Steps.{step_text}
use Rattle.model_meaning.specs.declared.model.Assignment.{Assignment}
use Rattle.model_meaning.specs.declared.model.Decl.{Decl}
use Rattle.model_meaning.specs.declared.model.Goal.TheVariants.{Satisfy}
use Rattle.model_meaning.specs.Terms.{value_at}
use Rattle.answer_document.specs.declared.verdict.Verdict.{Verdict}
use Rattle.answer_document.specs.declared.verdict.Verdict.TheVariants.{Satisfiable, Unsatisfiable, Optimum, Unknown}
use Rattle.answer_document.specs.declared.document.Document.{Document}
use Rattle.answer_document.specs.Verdicts.{verdict_text}
use Rattle.answer_document.specs.DocumentText.{document_text}
use Rattle.decode_minimize.specs.declared.answering.CnfSize.{CnfSize}

-- how many lines of a ledger are equations
abbrev pub equations_in : List Line → ℕ
equations_in [] = 0
equations_in (Equate id e ∷ lines) = 1 + equations_in lines
equations_in (Split id ∷ lines) = equations_in lines
equations_in (Encode id ∷ lines) = equations_in lines

-- a number with its word
abbrev pub count_line : List ℕ → ℕ → List ℕ
count_line word n = word ++ 32 ∷ decimal n

-- the lines up to the verdict
abbrev pub head_lines : ℕ → CnfSize → List Line → Verdict → List (List ℕ)
head_lines size cnf ledger v =
    count_line (codes "queens") size
    ∷ count_line (codes "variables") cnf.variables
    ∷ count_line (codes "clauses") cnf.clauses
    ∷ count_line (codes "equations") (equations_in ledger)
    ∷ verdict_text v
    ∷ []

-- the values of an assignment that may be missing
abbrev pub values_of : Option Assignment → List ℤ
values_of None = []
values_of (Some a) = a.values

-- the column of the queen in row k, counted from 0
abbrev pub column_at : List ℤ → ℕ → ℤ
column_at values k = value_at values (3 * k)

-- the line of the columns in so many rows
abbrev pub columns_line : List ℤ → ℕ → List ℕ
columns_line values zero = codes "columns"
columns_line values (suc k) = columns_line values k ++ 32 ∷ signed_decimal (column_at values k)

-- the lines of a solution
abbrev pub solution_lines : ℕ → List ℤ → List Line → List (List ℕ)
solution_lines size values ledger = columns_line values size ∷ codes "ledger"
    ∷ (map step_text ledger ++ codes "end" ∷ [])

-- what stands behind the verdict, for a model with these declarations
abbrev pub rest_text : ℕ → List Decl → Document → Verdict → List ℕ
rest_text size decls d Satisfiable = join_lines (solution_lines size (values_of d.assignment) d.ledger)
rest_text size decls d Unsatisfiable = document_text decls Satisfy d
rest_text size decls d (Optimum b) = document_text decls Satisfy d
rest_text size decls d (Unknown n best) = document_text decls Satisfy d

-- the whole text
abbrev pub summary_text : ℕ → List Decl → CnfSize → Document → List ℕ
summary_text size decls cnf d = join_lines (head_lines size cnf d.ledger d.verdict) ++ rest_text size decls d d.verdict
