-- What the text of a conflict says of a model, and that it is true.
use Rattle.std.specs.Prelude.{◌≡◌, ℕ, ◌≤◌, List, length, ℤ, IsTrue, IsFalse}
use Rattle.model_meaning.specs.declared.model.Model.{Model}
use Rattle.model_meaning.specs.Domains.{in_domains}
use Rattle.model_meaning.specs.Solutions.{AllHold, IsSolution}
use Rattle.model_meaning.specs.Limits.{DeclsInLimit, InLimits}
use Rattle.model_meaning.specs.WellTyped.{WellTyped}
use Rattle.model_lower.specs.Weighed.{most_weight}
use Rattle.model_parts.specs.Only.{is_listed, chosen, only, all_but}
use Rattle.model_parts.specs.PartLaws.{IsWithin}
use Rattle.model_parts.specs.CoreWeight.{core_weight}
use Rattle.line_texts.specs.LineByLine.{IsWhole}
use Rattle.answer_document.specs.Told.{AreNames}
use Rattle.conflict_text.specs.declared.verdict.CoreVerdict.{CoreVerdict}
use Rattle.conflict_text.specs.declared.verdict.CoreVerdict.TheVariants.{Satisfiable, Core, Unknown}
use Rattle.conflict_text.specs.declared.document.ConflictDocument.{ConflictDocument}
use Rattle.conflict_text.specs.ConflictLines.{Standing, start_standing, IsNext, IsEnd}
use Rattle.conflict_text.specs.ConflictDocuments.{conflict_text, AreNumbers, IsConflictDocument}

-- for a statement of a part some assignment in the domains meets all other statements of the part
pub record IsNeeded (model : Model) (conflict : List ℕ) (n : ℕ) : Type 0 where
  pub assignment : List ℤ
  pub in_domains : IsTrue (in_domains model.decls assignment)
  pub others : AllHold assignment (all_but n (chosen conflict model.stmts))

-- no assignment in the domains meets all statements of a part, and each of them is needed for that
pub record IsConflict (model : Model) (conflict : List ℕ) : Type 0 where
  pub unsatisfiable : (a : List ℤ) → IsSolution (only model conflict) a → ⊥
  pub needed : (n : ℕ) → IsTrue (is_listed n conflict) → IsNeeded model conflict n

abbrev pub Says : Model → Standing → CoreVerdict → Type 0
Says model s Satisfiable = IsSolution model s.values
Says model s (Core k) = IsConflict model s.conflict × (length s.conflict ≡ k)
Says model s (Unknown n) = Unit {0}

-- Bytes are the text of a conflict, with its verdict and its statements.
pub record IsConflictText (model : Model) (text : List ℕ) (v : CoreVerdict) : Type 0 where
  pub stands : Standing
  pub whole : IsWhole IsNext IsEnd (start_standing model) text stands
  pub verdict : stands.verdict ≡ v

-- what the text of a conflict says of a model that is taken is true, whoever wrote it
abbrev pub ConflictLaw : Type 0
ConflictLaw = (model : Model) (text : List ℕ) (s : Standing) → WellTyped model → InLimits model
    → core_weight model ≤ most_weight
    → IsWhole IsNext IsEnd (start_standing model) text s → Says model s s.verdict

-- each part of a conflict that lacks one of its statements has a solution
abbrev pub Irreducible : Type 0
Irreducible = (model : Model) (conflict fewer : List ℕ) (n : ℕ)
    → IsConflict model conflict → IsWithin fewer conflict → IsTrue (is_listed n conflict) → IsFalse (is_listed n fewer)
    → (a : List ℤ) × IsSolution (only model fewer) a

-- a line leads to one standing, so a text is whole with one verdict, or has one first line that fails, and never both
abbrev pub OneNext : Type 0
OneNext = (s t u : Standing) (line : List ℕ) → DeclsInLimit s.model.decls → IsNext s line t → IsNext s line u
    → t ≡ u

-- the text of a document of a conflict is whole, and tells its verdict
abbrev pub WrittenLaw : Type 0
WrittenLaw = (model : Model) (d : ConflictDocument) → InLimits model → AreNames model.decls → AreNumbers d.statements
    → IsConflictDocument model d → IsConflictText model (conflict_text model.decls d) d.verdict
