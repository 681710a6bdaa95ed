-- The text of a conflict's document, and which documents are written.
use Rattle.std.specs.Prelude.{◌≡◌, ℕ, ◌<◌, ◌^◌, List, [], ◌∷◌, ◌++◌, codes, map, length, Ok, IsTrue}
use Rattle.bee_text.specs.Lines.{join_lines}
use Rattle.model_meaning.specs.declared.model.Decl.{Decl}
use Rattle.model_meaning.specs.declared.model.Assignment.{Assignment}
use Rattle.model_meaning.specs.declared.model.Model.{Model}
use Rattle.model_meaning.specs.Domains.{in_domains}
use Rattle.model_meaning.specs.Solutions.{AllHold, IsSolution}
use Rattle.model_parts.specs.Only.{is_listed, numbers_of, chosen, only, all_but}
use Rattle.name_map.specs.ValueLines.{declared_lines}
use Rattle.ledger_text.specs.declared.line.Line.{Line}
use Rattle.ledger_text.specs.Steps.{step_text}
use Rattle.step_kernel.specs.Kernel.{Kernel}
use Rattle.step_kernel.specs.Steps.{replay}
use Rattle.step_kernel.specs.CnfOf.{cnf_of}
use Rattle.proof_check.specs.declared.line.ProofLine.{ProofLine}
use Rattle.proof_check.specs.Lines.{line_bytes}
use Rattle.proof_check.specs.Lrat.{Proof, proof_of, take_lines}
use Rattle.proof_check.specs.Known.{known}
use Rattle.answer_document.specs.Valid.{start_of, AreReadableSteps, AreReadableLines}
use Rattle.conflict_text.specs.declared.verdict.CoreVerdict.{CoreVerdict}
use Rattle.conflict_text.specs.declared.verdict.CoreVerdict.TheVariants.{Satisfiable, Core, Unknown}
use Rattle.conflict_text.specs.declared.document.ConflictDocument.{ConflictDocument}
use Rattle.conflict_text.specs.ConflictLines.{version_line, verdict_line, statement_line, without_line, VerdictFits}

-- the lines of the part, its ledger and the derivation
abbrev pub certificate_lines : List ℕ → List Line → List ProofLine → List (List ℕ)
certificate_lines statements ledger proof =
    map statement_line statements ++ ((codes "ledger" ∷ map step_text ledger) ++ (codes "proof" ∷ map line_bytes proof))

-- each statement with its assignment
abbrev pub witness_lines : List Decl → List ℕ → List Assignment → List (List ℕ)
witness_lines decls [] given = []
witness_lines decls (n ∷ ns) [] = []
witness_lines decls (n ∷ ns) (a ∷ given) = without_line n
    ∷ (declared_lines decls a.values ++ witness_lines decls ns given)

-- the lines of a solution
abbrev pub solution_lines : List Decl → List Assignment → List (List ℕ)
solution_lines decls [] = []
solution_lines decls (a ∷ given) = declared_lines decls a.values

-- what stands behind the verdict
abbrev pub behind_lines : List Decl → ConflictDocument → CoreVerdict → List (List ℕ)
behind_lines decls d Satisfiable = solution_lines decls d.assignments
behind_lines decls d (Core k) =
    certificate_lines d.statements d.ledger d.proof ++ witness_lines decls d.statements d.assignments
behind_lines decls d (Unknown n) = certificate_lines d.statements d.ledger d.proof

abbrev pub conflict_lines : List Decl → ConflictDocument → List (List ℕ)
conflict_lines decls d = (version_line ∷ verdict_line d.verdict ∷ [])
    ++ (behind_lines decls d d.verdict ++ codes "end" ∷ [])

abbrev pub conflict_text : List Decl → ConflictDocument → List ℕ
conflict_text decls d = join_lines (conflict_lines decls d)

-- each assignment has a value for each declared name
abbrev pub AreWhole : List Decl → List Assignment → Type 0
AreWhole decls [] = Unit {0}
AreWhole decls (a ∷ given) = (length decls ≡ length a.values) × AreWhole decls given

-- a part of a model: numbers of its statements, ascending from n on
abbrev pub ArePart : Model → ℕ → List ℕ → Type 0
ArePart model n [] = Unit {0}
ArePart model n (m ∷ ms) = (n < m) × IsTrue (is_listed m (numbers_of model.stmts)) × ArePart model m ms

-- each number has 64 bits
abbrev pub AreNumbers : List ℕ → Type 0
AreNumbers [] = Unit {0}
AreNumbers (n ∷ ns) = (n < 2 ^ 64) × AreNumbers ns

-- the ledger leads from the model with the part to a last state, and the derivation is one from its clauses
pub record IsShownBy (model : Model) (d : ConflictDocument) : Type 0 where
  pub part : ArePart model 0 d.statements
  pub steps : AreReadableSteps d.ledger
  pub lines : AreReadableLines d.proof
  pub last : Kernel
  pub leads : replay (start_of (only model d.statements)) d.ledger ≡ Ok last
  pub proof : Proof
  pub accepted : take_lines (proof_of (cnf_of last)) d.proof ≡ Ok proof

-- an assignment in the domains meets all statements of the part but one
pub record IsWitness (model : Model) (conflict : List ℕ) (n : ℕ) (a : Assignment) : Type 0 where
  pub in_domains : IsTrue (in_domains model.decls a.values)
  pub others : AllHold a.values (all_but n (chosen conflict model.stmts))

abbrev pub AreWitnesses : Model → List ℕ → List ℕ → List Assignment → Type 0
AreWitnesses model conflict [] [] = Unit {0}
AreWitnesses model conflict [] (a ∷ given) = ⊥
AreWitnesses model conflict (n ∷ ns) [] = ⊥
AreWitnesses model conflict (n ∷ ns) (a ∷ given) = IsWitness model conflict n a × AreWitnesses model conflict ns given

-- one assignment, which is a solution
abbrev pub IsOneSolution : Model → List Assignment → Type 0
IsOneSolution model [] = ⊥
IsOneSolution model (a ∷ []) = IsSolution model a.values
IsOneSolution model (a ∷ b ∷ given) = ⊥

-- the document of a verdict
abbrev pub IsDocumentOf : Model → ConflictDocument → CoreVerdict → Type 0
IsDocumentOf model d Satisfiable = IsOneSolution model d.assignments
IsDocumentOf model d (Core k) =
    (s : IsShownBy model d) × IsTrue (known s.proof []) × (length d.statements ≡ k)
    × AreWitnesses model d.statements d.statements d.assignments
IsDocumentOf model d (Unknown n) = (s : IsShownBy model d) × (length s.proof.added ≡ n)

-- the document of a conflict, whose verdict can be told
pub record IsConflictDocument (model : Model) (d : ConflictDocument) : Type 0 where
  pub fits : VerdictFits d.verdict
  pub document : IsDocumentOf model d d.verdict
