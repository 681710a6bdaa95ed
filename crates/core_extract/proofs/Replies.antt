-- What an answer to a model for which any solution serves replies.
use Rattle.std.proofs.Common.{◌≡◌, ℕ, length, Option, Some, None, refl, ap, ◌∙◌, subst}
use Rattle.std.specs.Prelude.{IfSome}
use Rattle.core_forms.specs.declared.equation.Equation.{Equation}
use Rattle.core_forms.specs.declared.form.Core.{Core}
use Rattle.model_meaning.specs.declared.model.Goal.{Goal}
use Rattle.model_meaning.specs.declared.model.Goal.TheVariants.{Satisfy}
use Rattle.model_meaning.specs.declared.model.Model.{Model}
use Rattle.model_meaning.specs.declared.model.Assignment.{Assignment}
use Rattle.answer_document.specs.declared.verdict.Verdict.{Verdict}
use Rattle.answer_document.specs.declared.verdict.Verdict.TheVariants.{Satisfiable, Unsatisfiable, Optimum, Unknown}
use Rattle.answer_document.specs.declared.document.Document.{Document}
use Rattle.answer_document.specs.Verdicts.{VerdictFits}
use Rattle.answer_document.specs.Valid.{numbers_given, AnswerHolds}
use Rattle.search_options.specs.declared.options.SearchOptions.{SearchOptions}
use Rattle.decode_minimize.specs.Answers.{IsAnswer, IsSpent, all_additions}
use Rattle.core_extract.specs.Extracted.{IsAnswered, IsReply, certificate_of, reply_with, reply_of}

module _ (told : Core → Equation → Type 0) (model : Model) (options : SearchOptions) (d : Document) (before after : ℕ) (is : IsAnswer told model options d before after) where
  answered : (v : Verdict) → d.verdict ≡ v → IsAnswered told model options d.ledger d.proof v
  answered v e = record { document = d; before = before; after = after; is = is; verdict = e; ledger_is = refl; proof_is = refl }

  by-verdict : (v : Verdict) (a : Option Assignment) → d.verdict ≡ v → VerdictFits Satisfy v → AnswerHolds model v (numbers_given a) → IfSome a (λ (x : Assignment). length model.decls ≡ length x.values)
      → IsSpent options.budget (all_additions d) v → IsReply told model options (reply_with (certificate_of d) v a)
  by-verdict Satisfiable None e fits holds count spent = absurd holds
  by-verdict Satisfiable (Some a) e fits holds count spent = (holds, count)
  by-verdict Unsatisfiable a e fits holds count spent = answered Unsatisfiable e
  by-verdict (Optimum b) a e fits holds count spent = absurd fits
  by-verdict (Unknown n None) a e fits holds count spent = answered (Unknown options.budget None) (e ∙ ap (λ (m : ℕ). Unknown m None) spent.0)
  by-verdict (Unknown n (Some b)) a e fits holds count spent = absurd fits.2

  pub is-reply : model.goal ≡ Satisfy → IsReply told model options (reply_of d)
  is-reply goal =
      by-verdict d.verdict d.assignment refl (subst (λ (g : Goal). VerdictFits g d.verdict) goal is.valid.fits) is.valid.answer is.count is.spent
