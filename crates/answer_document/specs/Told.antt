-- What the text of a document tells: its verdict and assignment, and its certificate where it has one.
use Rattle.std.specs.Prelude.{◌≡◌, ◌⊎◌, ℕ, ◌<◌, ◌^◌, true, List, [], ◌∷◌, map, ℤ, pos}
use Rattle.std.specs.Prelude.{Option, Some, None}
use Rattle.bee_text.specs.Lines.{AreLines}
use Rattle.model_meaning.specs.declared.model.Assignment.{Assignment}
use Rattle.model_meaning.specs.declared.model.Decl.{Decl}
use Rattle.model_meaning.specs.declared.model.Goal.{Goal}
use Rattle.model_meaning.specs.declared.model.Kind.{Kind}
use Rattle.model_meaning.specs.declared.model.Kind.TheVariants as kind
use Rattle.model_meaning.specs.declared.model.Model.{Model}
use Rattle.answer_document.specs.declared.verdict.Verdict.{Verdict}
use Rattle.answer_document.specs.declared.verdict.Verdict.TheVariants.{Satisfiable, Unsatisfiable, Optimum, Unknown}
use Rattle.answer_document.specs.declared.document.Document.{Document}
use Rattle.answer_document.specs.Verdicts.{is_certified}
use Rattle.answer_document.specs.DocumentText.{document_text}
use Rattle.answer_document.specs.Valid.{IsReadableDocument, IsValid}

-- no declared name has a line feed
abbrev pub AreNames : List Decl → Type 0
AreNames decls = AreLines (map (λ (d : Decl). d.name) decls)

-- a number of learned clauses has 64 bits
abbrev pub FitsCount : Verdict → Type 0
FitsCount Satisfiable = Unit {0}
FitsCount Unsatisfiable = Unit {0}
FitsCount (Optimum b) = Unit {0}
FitsCount (Unknown n best) = n < 2 ^ 64

-- a value for each name, 0 or 1 for a Boolean
abbrev pub IsValueOf : Kind → ℤ → Type 0
IsValueOf kind.Bool z = (z ≡ pos 0) ⊎ (z ≡ pos 1)
IsValueOf (kind.Range low high) z = Unit {0}
IsValueOf (kind.Listed values) z = Unit {0}

abbrev pub AreValues : List Decl → List ℤ → Type 0
AreValues [] [] = Unit {0}
AreValues [] (z ∷ zs) = ⊥
AreValues (d ∷ ds) [] = ⊥
AreValues (d ∷ ds) (z ∷ zs) = IsValueOf d.kind z × AreValues ds zs

-- an assignment stands exactly where the verdict has one
abbrev pub HasValues : List Decl → Verdict → Option Assignment → Type 0
HasValues decls Satisfiable (Some a) = AreValues decls a.values
HasValues decls Satisfiable None = ⊥
HasValues decls Unsatisfiable (Some a) = ⊥
HasValues decls Unsatisfiable None = Unit {0}
HasValues decls (Optimum b) (Some a) = AreValues decls a.values
HasValues decls (Optimum b) None = ⊥
HasValues decls (Unknown n (Some b)) (Some a) = AreValues decls a.values
HasValues decls (Unknown n (Some b)) None = ⊥
HasValues decls (Unknown n None) (Some a) = ⊥
HasValues decls (Unknown n None) None = Unit {0}

-- a document with numbers and variables in their ranges, and an assignment as its verdict asks for
pub record IsWritable (decls : List Decl) (d : Document) : Type 0 where
  pub readable : IsReadableDocument d
  pub count : FitsCount d.verdict
  pub values : HasValues decls d.verdict d.assignment

-- two documents say the same
pub record SameCertificate (d e : Document) : Type 0 where
  pub ledger : d.ledger ≡ e.ledger
  pub proof : d.proof ≡ e.proof
  pub second : d.second ≡ e.second

pub record SameAnswer (d e : Document) : Type 0 where
  pub verdict : d.verdict ≡ e.verdict
  pub assignment : d.assignment ≡ e.assignment
  pub certificate : is_certified d.verdict ≡ true → SameCertificate d e

-- for the same declarations a text is that of one answer, whatever is sought
abbrev pub TextTellsAnswer : Type 0
TextTellsAnswer = (decls : List Decl) (goal other : Goal) (d e : Document) → AreNames decls → IsWritable decls d
    → IsWritable decls e
    → document_text decls goal d ≡ document_text decls other e → SameAnswer d e

-- so a valid answer has one verdict and one assignment
abbrev pub ValidTellsAnswer : Type 0
ValidTellsAnswer = (model : Model) (text : List ℕ) (v w : Verdict) (a b : Option (List ℤ)) → AreNames model.decls
    → IsValid model text v a → IsValid model text w b
    → (v ≡ w) × (a ≡ b)
