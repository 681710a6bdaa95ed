-- What a text is imported as, where it shows a verdict, and where a line of it fails.
use Rattle.std.proofs.Common.{◌≡◌, ℕ, ◌^◌, ◌≤◌, List, ℤ, Option, ap}
use Rattle.model_meaning.specs.declared.model.Model.{Model}
use Rattle.answer_document.specs.declared.verdict.Verdict.{Verdict}
use Rattle.answer_document.specs.Valid.{numbers_given}
use Rattle.answer_import.specs.declared.importing.Imported.{Imported}
use Rattle.answer_import.specs.declared.importing.Imported.TheVariants.{Answer, Refused}
use Rattle.answer_import.specs.Imports.{Sought, TextShows, TextFails, IsImport}
use Rattle.answer_import.specs.FindingLaws.{ShowsOne, ShowsOrFails, FailsOnce, IsAnswered}

module _ (one : ShowsOne) (either : ShowsOrFails) (once : FailsOnce) (model : Model) (s : Sought) (few : s.cnf.vars ≤ 2 ^ 27) (text : List ℕ) where
  pub answered : (v : Verdict) (a : Option (List ℤ)) → TextShows s text v a → (i : Imported) → IsImport model s text i → IsAnswered v i
  answered v a h (Answer w written) k = (one s few text w v (numbers_given k.document.assignment) a k.shows h).0
  answered v a h (Refused line) k = either s few text v a line h k

  pub refused : (line : ℕ) → TextFails s text line → (i : Imported) → IsImport model s text i → i ≡ Refused line
  refused line h (Answer w written) k = absurd (either s few text w (numbers_given k.document.assignment) line k.shows h)
  refused line h (Refused n) k = ap Refused (once s few text n line k h)
