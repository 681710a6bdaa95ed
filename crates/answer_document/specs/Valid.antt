-- When a text is a valid answer to a model.
use Rattle.std.specs.Prelude.{◌≡◌, ◌⊎◌, ℕ, ◌+◌, List, [], ◌∷◌, ◌++◌, length, ℤ, Option}
use Rattle.std.specs.Prelude.{Some, None, Ok, IsTrue, IfSome, FitsSigned}
use Rattle.std.specs.Int.{w64}
use Rattle.std.specs.Option.{option_map}
use Rattle.order_ints.specs.declared.literal.Lit.{Lit}
use Rattle.order_ints.specs.declared.atom.Atom.{Atom}
use Rattle.order_ints.specs.declared.atom.Atom.TheVariants.{True, False, Of}
use Rattle.order_ints.specs.declared.cnf.Cnf.{Cnf}
use Rattle.order_ints.specs.View.{resolve}
use Rattle.model_meaning.specs.declared.model.Assignment.{Assignment}
use Rattle.model_meaning.specs.declared.model.Model.{Model}
use Rattle.model_meaning.specs.Solutions.{IsSolution}
use Rattle.ledger_text.specs.declared.line.Line.{Line}
use Rattle.ledger_text.specs.Steps.{IsReadableStep}
use Rattle.model_lower.specs.Lowering.{lowered_of}
use Rattle.step_kernel.specs.Kernel.{Kernel, started}
use Rattle.step_kernel.specs.Steps.{replay}
use Rattle.step_kernel.specs.CnfOf.{cnf_of}
use Rattle.proof_check.specs.declared.line.ProofLine.{ProofLine}
use Rattle.proof_check.specs.Lines.{Each, IsReadable}
use Rattle.proof_check.specs.Lrat.{Proof, proof_of, take_lines}
use Rattle.proof_check.specs.Known.{known}
use Rattle.answer_document.specs.declared.verdict.Bounds.{Bounds}
use Rattle.answer_document.specs.declared.verdict.Verdict.{Verdict}
use Rattle.answer_document.specs.declared.verdict.Verdict.TheVariants.{Satisfiable, Unsatisfiable, Optimum, Unknown}
use Rattle.answer_document.specs.declared.document.Document.{Document}
use Rattle.answer_document.specs.Verdicts.{VerdictFits}
use Rattle.answer_document.specs.Claims.{IsSolutionAt}
use Rattle.answer_document.specs.BoundAtoms.{first_bound, second_bound, fixed}
use Rattle.answer_document.specs.DocumentText.{document_text}

-- the state with which the compilation of a model begins
abbrev pub start_of : Model → Kernel
start_of model = started (lowered_of model).vars (lowered_of model).cores

-- the atoms of bounds, as the store of the last state has them
abbrev pub first_shown : Model → Kernel → ℤ → Atom
first_shown model last m = resolve last.view (first_bound model.goal (lowered_of model).map.entries m)

abbrev pub second_shown : Model → Kernel → ℤ → Atom
second_shown model last n = resolve last.view (second_bound model.goal (lowered_of model).map.entries n)

-- An atom is shown by a proof: it is True, or its clause of one literal is known, or the empty clause is.
abbrev pub IsShown : Proof → Atom → Type 0
IsShown p True = Unit {0}
IsShown p False = IsTrue (known p [])
IsShown p (Of l) = IsTrue (known p []) ⊎ IsTrue (known p (l ∷ []))

-- the clause of an atom: none of True, and the empty one of False
abbrev pub atom_clauses : Atom → List (List Lit)
atom_clauses True = []
atom_clauses False = [] ∷ []
atom_clauses (Of l) = (l ∷ []) ∷ []

-- The CNF over which a second objective is sought: that of the last state, and at its end the clause that the first one
-- is no worse than a number.
abbrev pub second_cnf : Model → Kernel → ℤ → Cnf
second_cnf model last m = record {
  vars = (cnf_of last).vars;
  clauses =
      (cnf_of last).clauses ++ atom_clauses (resolve last.view (fixed model.goal (lowered_of model).map.entries m));
}

-- the ledger leads from the lowered model to a last state, and the proof is one from its CNF
pub record IsDerived (model : Model) (d : Document) : Type 0 where
  pub last : Kernel
  pub leads : replay (start_of model) d.ledger ≡ Ok last
  pub proof : Proof
  pub accepted : take_lines (proof_of (cnf_of last)) d.proof ≡ Ok proof

-- the first proof shows that the first objective is no better than its number, and the second proof is one from the CNF
-- in which it is no worse
pub record IsSecond (model : Model) (last : Kernel) (first : Proof) (b : Bounds) (lines : List ProofLine) : Type 0 where
  pub bound : IsShown first (first_shown model last b.first)
  pub proof : Proof
  pub accepted : take_lines (proof_of (second_cnf model last b.first)) lines ≡ Ok proof

-- the bound of each objective is shown, that of the second one by the second proof
abbrev pub AreShown : (model : Model) (last : Kernel) (first : Proof) (b : Bounds) → Option ℤ
    → Option (List ProofLine) → Type 0
AreShown model last first b None None = IsShown first (first_shown model last b.first)
AreShown model last first b None (Some lines) = ⊥
AreShown model last first b (Some n) None = ⊥
AreShown model last first b (Some n) (Some lines) = (s : IsSecond model last first b lines)
    × IsShown s.proof (second_shown model last n)

-- the additions of both proofs together are so many; a second proof stands only where there are two objectives
abbrev pub AreAdded : (model : Model) (last : Kernel) (first : Proof) (n : ℕ) (b : Bounds) → Option ℤ
    → Option (List ProofLine) → Type 0
AreAdded model last first n b second None = length first.added ≡ n
AreAdded model last first n b None (Some lines) = ⊥
AreAdded model last first n b (Some m) (Some lines) = (s : IsSecond model last first b lines)
    × (length first.added + length s.proof.added ≡ n)

-- without a best solution there is one proof
abbrev pub AreAddedAlone : Proof → ℕ → Option (List ProofLine) → Type 0
AreAddedAlone first n None = length first.added ≡ n
AreAddedAlone first n (Some lines) = ⊥

-- the certificate of a verdict
abbrev pub IsCertified : Model → Document → Verdict → Type 0
IsCertified model d Satisfiable = Unit {0}
IsCertified model d Unsatisfiable = (c : IsDerived model d) × IsTrue (known c.proof []) × (d.second ≡ None)
IsCertified model d (Optimum b) = (c : IsDerived model d) × AreShown model c.last c.proof b b.second d.second
IsCertified model d (Unknown n None) = (c : IsDerived model d) × AreAddedAlone c.proof n d.second
IsCertified model d (Unknown n (Some b)) = (c : IsDerived model d)
    × AreAdded model c.last c.proof n b b.second d.second

-- an assignment stands exactly where the verdict has one; it is a solution, with the stated values of the objectives
abbrev pub AnswerHolds : Model → Verdict → Option (List ℤ) → Type 0
AnswerHolds model Satisfiable (Some a) = IsSolution model a
AnswerHolds model Satisfiable None = ⊥
AnswerHolds model Unsatisfiable (Some a) = ⊥
AnswerHolds model Unsatisfiable None = Unit {0}
AnswerHolds model (Optimum b) (Some a) = IsSolutionAt model a b
AnswerHolds model (Optimum b) None = ⊥
AnswerHolds model (Unknown n None) (Some a) = ⊥
AnswerHolds model (Unknown n None) None = Unit {0}
AnswerHolds model (Unknown n (Some b)) (Some a) = IsSolutionAt model a b
AnswerHolds model (Unknown n (Some b)) None = ⊥

-- the ids of the lines of ledger and proofs have 64 bits, and their variables are from 1 to 2 ^ 27
abbrev pub AreReadableSteps : List Line → Type 0
AreReadableSteps [] = Unit {0}
AreReadableSteps (line ∷ lines) = IsReadableStep line × AreReadableSteps lines

abbrev pub AreReadableLines : List ProofLine → Type 0
AreReadableLines lines = Each IsReadable lines

abbrev pub IsReadableSecond : Option (List ProofLine) → Type 0
IsReadableSecond None = Unit {0}
IsReadableSecond (Some lines) = AreReadableLines lines

-- numbers have 64 bits with their sign
abbrev pub FitNumbers : Option Bounds → Type 0
FitNumbers None = Unit {0}
FitNumbers (Some b) = FitsSigned w64 b.first × IfSome b.second (FitsSigned w64)

abbrev pub stated : Verdict → Option Bounds
stated Satisfiable = None
stated Unsatisfiable = None
stated (Optimum b) = Some b
stated (Unknown n best) = best

abbrev pub FitValues : List ℤ → Type 0
FitValues [] = Unit {0}
FitValues (z ∷ zs) = FitsSigned w64 z × FitValues zs

abbrev pub FitAssignment : Option Assignment → Type 0
FitAssignment None = Unit {0}
FitAssignment (Some a) = FitValues a.values

pub record IsReadableDocument (d : Document) : Type 0 where
  pub verdict : FitNumbers (stated d.verdict)
  pub assignment : FitAssignment d.assignment
  pub ledger : AreReadableSteps d.ledger
  pub proof : AreReadableLines d.proof
  pub second : IsReadableSecond d.second

-- the numbers of an assignment
abbrev pub numbers_given : Option Assignment → Option (List ℤ)
numbers_given a = option_map (λ (given : Assignment). given.values) a

-- Bytes are a valid answer to a model, with a verdict and an assignment: they are the text of a document with these,
-- the verdict fits the goal, the assignment is a solution with the stated values of the objectives, and the certificate
-- shows the verdict.
pub record IsValid (model : Model) (text : List ℕ) (v : Verdict) (a : Option (List ℤ)) : Type 0 where
  pub document : Document
  pub spelled : text ≡ document_text model.decls model.goal document
  pub readable : IsReadableDocument document
  pub verdict : document.verdict ≡ v
  pub assignment : numbers_given document.assignment ≡ a
  pub fits : VerdictFits model.goal v
  pub answer : AnswerHolds model v a
  pub certificate : IsCertified model document v
