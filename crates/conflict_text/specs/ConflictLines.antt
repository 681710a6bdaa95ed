-- Which line of the text of a conflict may stand next, and what stands behind it.
--
--     bee core 1
--     VERDICT                  SATISFIABLE, CORE COUNT or UNKNOWN COUNT
--     statement NUMBER         behind CORE and UNKNOWN, for each statement of the part, ascending
--     ledger
--     LINE                     for each step of the compilation of the model with this part of its statements
--     proof
--     LINE                     for each line of the derivation
--     without NUMBER           behind CORE, for each statement of the part
--     NAME = VALUE             for each declared name: an assignment that meets the part's other statements
--     end
--
-- SATISFIABLE is followed by the values of a solution alone.
use Rattle.std.specs.Prelude.{◌≡◌, ◌⊎◌, ℕ, ◌+◌, ◌<◌, ◌≤◌, ◌^◌, List, [], ◌∷◌}
use Rattle.std.specs.Prelude.{◌++◌, codes, length, slice_get, ℤ, Option, Some, None, IsTrue}
use Rattle.std.specs.Fmt.{decimal}
use Rattle.model_meaning.specs.declared.model.Decl.{Decl}
use Rattle.model_meaning.specs.declared.model.Model.{Model}
use Rattle.model_meaning.specs.Domains.{in_domains}
use Rattle.model_meaning.specs.Solutions.{AllHold}
use Rattle.model_parts.specs.Only.{is_listed, numbers_of, only, all_but}
use Rattle.step_kernel.specs.Kernel.{Kernel}
use Rattle.step_kernel.specs.CnfOf.{cnf_of}
use Rattle.proof_check.specs.Lrat.{Proof, proof_of}
use Rattle.proof_check.specs.Known.{known}
use Rattle.answer_document.specs.Valid.{start_of}
use Rattle.certificate_lines.specs.CertificateLines.{IsValueLine, IsStepLine, IsDerivedLine}
use Rattle.conflict_text.specs.declared.verdict.CoreVerdict.{CoreVerdict}
use Rattle.conflict_text.specs.declared.verdict.CoreVerdict.TheVariants.{Satisfiable, Core, Unknown}
use Rattle.conflict_text.specs.declared.part.Part.{Part}
use Rattle.conflict_text.specs.declared.part.Part.TheVariants as part

-- What is known of a text behind some of its lines: the model, with all statements or with those that were named; the
-- part that comes next, the verdict, the statements that were named, the statement that was named last, how many
-- assignments were begun behind the derivation, the values of the last one, the state of the compilation, and how far
-- the derivation has come.
pub record Standing : Type 0 where
  pub model : Model
  pub part : Part
  pub verdict : CoreVerdict
  pub conflict : List ℕ
  pub now : ℕ
  pub begun : ℕ
  pub values : List ℤ
  pub kernel : Option Kernel
  pub proof : Option Proof

-- before the first line; statements are numbered from 1
abbrev pub start_standing : Model → Standing
start_standing model = record {
  model = model;
  part = part.Version;
  verdict = Satisfiable;
  conflict = [];
  now = 0;
  begun = 0;
  values = [];
  kernel = None;
  proof = None;
}

-- how lines are spelled
abbrev pub version_line : List ℕ
version_line = codes "bee core 1"

abbrev pub verdict_line : CoreVerdict → List ℕ
verdict_line Satisfiable = codes "SATISFIABLE"
verdict_line (Core k) = codes "CORE " ++ decimal k
verdict_line (Unknown n) = codes "UNKNOWN " ++ decimal n

abbrev pub statement_line : ℕ → List ℕ
statement_line n = codes "statement " ++ decimal n

abbrev pub without_line : ℕ → List ℕ
without_line n = codes "without " ++ decimal n

-- numbers have 64 bits; a number of learned clauses is from 1 and below 2 ^ 63
abbrev pub VerdictFits : CoreVerdict → Type 0
VerdictFits Satisfiable = Unit {0}
VerdictFits (Core k) = k < 2 ^ 64
VerdictFits (Unknown n) = (1 ≤ n) × (n < 2 ^ 63)

-- what comes behind a verdict
abbrev pub behind_verdict : CoreVerdict → Part
behind_verdict Satisfiable = part.Values
behind_verdict (Core k) = part.Statements
behind_verdict (Unknown n) = part.Statements

pub record IsVerdict (s : Standing) (line : List ℕ) (t : Standing) : Type 0 where
  pub verdict : CoreVerdict
  pub fits : VerdictFits verdict
  pub spelled : line ≡ verdict_line verdict
  pub behind : t ≡ record s { part = behind_verdict verdict; verdict = verdict }

-- a conflict has as many statements as its verdict says; of a search that was given up any number may be named
abbrev pub MayName : CoreVerdict → ℕ → Type 0
MayName Satisfiable n = ⊥
MayName (Core k) n = n < k
MayName (Unknown b) n = Unit {0}

abbrev pub HasNamed : CoreVerdict → ℕ → Type 0
HasNamed Satisfiable n = ⊥
HasNamed (Core k) n = n ≡ k
HasNamed (Unknown b) n = Unit {0}

-- the next statement is named, one of the model behind those before it
pub record IsNamed (s : Standing) (line : List ℕ) (t : Standing) : Type 0 where
  pub number : ℕ
  pub small : number < 2 ^ 64
  pub spelled : line ≡ statement_line number
  pub room : MayName s.verdict (length s.conflict)
  pub above : s.now < number
  pub named : IsTrue (is_listed number (numbers_of s.model.stmts))
  pub behind : t ≡ record s { conflict = s.conflict ++ number ∷ []; now = number }

-- the ledger of the model with the named statements begins
pub record IsLedgerBegin (s : Standing) (line : List ℕ) (t : Standing) : Type 0 where
  pub spelled : line ≡ codes "ledger"
  pub complete : HasNamed s.verdict (length s.conflict)
  pub behind : t ≡ record s {
    model = only s.model s.conflict;
    part = part.Ledger;
    kernel = Some (start_of (only s.model s.conflict));
  }

-- a step of it
pub record IsStep (s : Standing) (line : List ℕ) (t : Standing) : Type 0 where
  pub now : Kernel
  pub at : s.kernel ≡ Some now
  pub next : Kernel
  pub step : IsStepLine now line next
  pub behind : t ≡ record s { kernel = Some next }

-- the derivation over the clauses of the last state begins
pub record IsProofBegin (s : Standing) (line : List ℕ) (t : Standing) : Type 0 where
  pub last : Kernel
  pub at : s.kernel ≡ Some last
  pub spelled : line ≡ codes "proof"
  pub behind : t ≡ record s { part = part.Proof; proof = Some (proof_of (cnf_of last)) }

-- a line of it
pub record IsDerived (s : Standing) (line : List ℕ) (t : Standing) : Type 0 where
  pub now : Proof
  pub at : s.proof ≡ Some now
  pub next : Proof
  pub derived : IsDerivedLine now line next
  pub behind : t ≡ record s { proof = Some next }

-- what was derived shows that the part has no solution, or it adds as many clauses as the verdict says
abbrev pub IsConcluded : CoreVerdict → Option Proof → Type 0
IsConcluded v None = ⊥
IsConcluded Satisfiable (Some p) = ⊥
IsConcluded (Core k) (Some p) = IsTrue (known p [])
IsConcluded (Unknown n) (Some p) = length p.added ≡ n

-- the statement whose assignment comes next, if one is left: each of a conflict has one
abbrev pub next_without : CoreVerdict → List ℕ → ℕ → Option ℕ
next_without Satisfiable conflict begun = None
next_without (Core k) conflict begun = slice_get conflict begun
next_without (Unknown n) conflict begun = None

-- it begins, or the text ends: the line that tells it, and what stands behind it
abbrev pub next_line : Option ℕ → List ℕ
next_line (Some n) = without_line n
next_line None = codes "end"

abbrev pub advanced : Standing → Option ℕ → Standing
advanced s (Some n) = record s { part = part.Values; now = n; begun = s.begun + 1; values = [] }
advanced s None = record s { part = part.End }

abbrev pub Continues : Standing → Option ℕ → List ℕ → Standing → Type 0
Continues s next line t = (line ≡ next_line next) × (t ≡ advanced s next)

abbrev pub GoesOn : Standing → List ℕ → Standing → Type 0
GoesOn s line t = Continues s (next_without s.verdict s.conflict s.begun) line t

-- the value of the next name
pub record IsValue (s : Standing) (line : List ℕ) (t : Standing) : Type 0 where
  pub decl : Decl
  pub turn : slice_get s.model.decls (length s.values) ≡ Some decl
  pub value : ℤ
  pub told : IsValueLine decl line value
  pub behind : t ≡ record s { values = s.values ++ value ∷ [] }

-- the statements that an assignment must meet: all, or those of the part but the one that was named last
abbrev pub MeetsStatements : Standing → CoreVerdict → Type 0
MeetsStatements s Satisfiable = AllHold s.values s.model.stmts
MeetsStatements s (Core k) = AllHold s.values (all_but s.now s.model.stmts)
MeetsStatements s (Unknown n) = ⊥

-- each name has a value of its domain, and the statements hold
pub record IsMet (s : Standing) : Type 0 where
  pub all : length s.values ≡ length s.model.decls
  pub in_domains : IsTrue (in_domains s.model.decls s.values)
  pub holds : MeetsStatements s s.verdict

-- which line may stand next, part by part
abbrev pub NextIn : Standing → Part → List ℕ → Standing → Type 0
NextIn s part.Version line t = (line ≡ version_line) × (t ≡ record s { part = part.Verdict })
NextIn s part.Verdict line t = IsVerdict s line t
NextIn s part.Statements line t = IsNamed s line t ⊎ IsLedgerBegin s line t
NextIn s part.Ledger line t = IsStep s line t ⊎ IsProofBegin s line t
NextIn s part.Proof line t = IsDerived s line t ⊎ (IsConcluded s.verdict s.proof × GoesOn s line t)
NextIn s part.Values line t = IsValue s line t ⊎ (IsMet s × GoesOn s line t)
NextIn s part.End line t = ⊥

abbrev pub IsNext : Standing → List ℕ → Standing → Type 0
IsNext s line t = NextIn s s.part line t

-- the text may end behind its last line
abbrev pub IsEnd : Standing → Type 0
IsEnd s = s.part ≡ part.End
