-- What the reading of a text tells of it.
use Rattle.std.proofs.Common.{◌≡◌, ℕ, ◌+◌, ◌≤◌, List, [], ◌∷◌, ◌++◌, map, Option, refl, sym, ap, ◌∙◌, subst, inl, inr, ℤ}
use Rattle.std.proofs.lemmas.List.{append-nil}
use Rattle.bee_text.specs.Lines.{AreLines, join_lines, lines_of, unfinished}
use Rattle.bee_text.proofs.LineLemmas.{lines_of-join_lines, unfinished-join_lines}
use Rattle.model_meaning.specs.declared.model.Decl.{Decl}
use Rattle.model_meaning.specs.declared.model.Model.{Model}
use Rattle.model_meaning.specs.WellTyped.{WellTyped}
use Rattle.model_meaning.specs.Limits.{InLimits}
use Rattle.model_weight.specs.Weight.{weight_of}
use Rattle.model_lower.specs.Weighed.{most_weight}
use Rattle.answer_document.specs.declared.verdict.Verdict.{Verdict}
use Rattle.answer_document.specs.Valid.{IsValid}
use Rattle.answer_document.proofs.ClaimLaws.{claim_law}
use Rattle.line_texts.specs.LineByLine.{Lead, IsWhole}
use Rattle.line_texts.specs.declared.ends.TextEnd.{TextEnd}
use Rattle.line_texts.specs.Ends.{MisfitAt, MissingAt, EndsAs}
use Rattle.ledger_check.specs.declared.fault.Why.{Why}
use Rattle.ledger_check.specs.declared.fault.Why.TheVariants.{Shape}
use Rattle.ledger_check.specs.Items.{Standing}
use Rattle.ledger_check.specs.Tests.{start_standing}
use Rattle.ledger_check.specs.Reading.{IsNext, IsEnd}
use Rattle.ledger_check.specs.Fronts.{answer_of}
use Rattle.ledger_check.specs.Taken.{IsOnly, IsMisfitFor}
use Rattle.ledger_check.specs.Checked.{IsAnswer, IsRefused}
use Rattle.ledger_check.proofs.Onward.{whole-valid}
use Rattle.ledger_check.proofs.ValidWhole.{valid-whole}
use Rattle.ledger_check.proofs.DocumentLines.{written-lines}

module _ (model : Model) where
  lead-next : (s t : Standing) (ls : List (List ℕ)) → Lead (IsOnly model) s ls t → Lead (IsNext model) s ls t
  lead-next s t [] e = e
  lead-next s t (l ∷ ls) h = (h.0, h.1.next, lead-next h.0 t ls h.2)

  -- lines that lead to one standing alone are the front of whatever leads further
  behind-only : (s stands t : Standing) (before left : List (List ℕ)) → Lead (IsOnly model) s before stands → Lead (IsNext model) s (before ++ left) t → Lead (IsNext model) stands left t
  behind-only s stands t [] left e h = subst (λ x. Lead (IsNext model) x left t) e h
  behind-only s stands t (l ∷ before) left h k =
      behind-only h.0 stands t before left h.2 (subst (λ x. Lead (IsNext model) x (before ++ left) t) (h.1.alone k.0 k.1) k.2)

  whole-lines : (start s : Standing) (text : List ℕ) (Next : Standing → List ℕ → Standing → Type 0) → (w : IsWhole Next IsEnd start text s) → lines_of text ≡ w.lines
  whole-lines start s text Next w = ap lines_of w.joined ∙ lines_of-join_lines w.lines w.are_lines

  whole-ended : (start s : Standing) (text : List ℕ) → IsWhole (IsNext model) IsEnd start text s → unfinished text ≡ []
  whole-ended start s text w = ap unfinished (w.joined ∙ sym (append-nil (join_lines w.lines))) ∙ unfinished-join_lines w.lines [] refl

  module _ (names : AreLines (map (λ (d : Decl). d.name) model.decls)) (text : List ℕ) where
    -- a valid answer leads along its lines to an end
    pub record LeadsOn (v : Verdict) : Type 0 where
      end : Standing
      lead : Lead (IsNext model) (start_standing model) (lines_of text) end
      ended : IsEnd end
      none : unfinished text ≡ []
      verdict : end.verdict ≡ v

    leads-on : (v : Verdict) (a : Option (List ℤ)) → IsValid model text v a → LeadsOn v
    leads-on v a valid =
        let w = valid-whole model (written-lines model names) text v a valid in
        record {
          end = w.0;
          lead = subst (λ ls. Lead (IsNext model) (start_standing model) ls w.0) (sym (whole-lines (start_standing model) w.0 text (IsNext model) w.1)) w.1.lead;
          ended = w.1.ended;
          none = whole-ended (start_standing model) w.0 text w.1;
          verdict = w.2;
        }

    -- what was read as whole is a valid answer, and true
    pub whole-answer : (t : Standing) → WellTyped model → InLimits model → weight_of model ≤ most_weight → IsWhole (IsOnly model) IsEnd (start_standing model) text t → IsAnswer model text t.verdict
    whole-answer t typed limits light w =
        let valid = whole-valid model text t (record { lines = w.lines; are_lines = w.are_lines; joined = w.joined; lead = lead-next (start_standing model) t w.lines w.lead; ended = w.ended }) in
        record {
          assignment = answer_of t.verdict t.values;
          valid = valid;
          true_claims = claim_law model text t.verdict (answer_of t.verdict t.values) typed limits light valid;
        }

    -- and has one verdict
    pub whole-verdict : (t : Standing) → IsWhole (IsOnly model) IsEnd (start_standing model) text t → (v : Verdict) (a : Option (List ℤ)) → IsValid model text v a → t.verdict ≡ v
    whole-verdict t w v a valid =
        let on = leads-on v a valid in
        let lines : lines_of text ≡ w.lines ++ [] = whole-lines (start_standing model) t text (IsOnly model) w ∙ sym (append-nil w.lines) in
        let same : t ≡ on.end = behind-only (start_standing model) t on.end w.lines [] w.lead (subst (λ ls. Lead (IsNext model) (start_standing model) ls on.end) lines on.lead) in
        ap (λ s. s.verdict) same ∙ on.verdict

    -- a text with a line that fails is no valid answer, and that line is the first
    pub misfit-not : (number : ℕ) (why : Why) → MisfitAt (IsOnly model) (IsMisfitFor model) (start_standing model) text number why → (v : Verdict) (a : Option (List ℤ)) → IsValid model text v a → ⊥
    misfit-not number why m v a valid =
        let on = leads-on v a valid in
        let rest = behind-only (start_standing model) m.stands on.end m.before (m.line ∷ m.left) m.lead (subst (λ ls. Lead (IsNext model) (start_standing model) ls on.end) m.parts on.lead) in
        m.because.misfit rest.0 rest.1

    pub misfit-refused : (number : ℕ) (why : Why) → MisfitAt (IsOnly model) (IsMisfitFor model) (start_standing model) text number why → IsRefused model text number why
    misfit-refused number why m = record {
      invalid = misfit-not number why m;
      first = inl (record {
        before = m.before;
        line = m.line;
        left = m.left;
        parts = m.parts;
        number_is = m.number_is;
        stands = m.stands;
        lead = lead-next (start_standing model) m.stands m.before m.lead;
        misfit = m.because.misfit;
        because = m.because.because;
      });
    }

    -- and so is one in which a line is missing
    pub missing-not : (number : ℕ) → MissingAt (IsOnly model) IsEnd (start_standing model) text number → (v : Verdict) (a : Option (List ℤ)) → IsValid model text v a → ⊥
    missing-not number m v a valid =
        let on = leads-on v a valid in
        let same : m.stands ≡ on.end = behind-only (start_standing model) m.stands on.end (lines_of text) [] m.lead
        (subst (λ ls. Lead (IsNext model) (start_standing model) ls on.end) (sym (append-nil (lines_of text))) on.lead) in
        m.early on.none (subst IsEnd (sym same) on.ended)

    pub missing-refused : (number : ℕ) → MissingAt (IsOnly model) IsEnd (start_standing model) text number → IsRefused model text number Shape
    missing-refused number m = record {
      invalid = missing-not number m;
      first = inr (
        record { number_is = m.number_is; stands = m.stands; lead = lead-next (start_standing model) m.stands (lines_of text) m.lead; early = m.early },
        refl,
      );
    }

    -- the standing at which the reading began is that before the first line
    pub ended-from : (start t : Standing) (e : TextEnd Why) → start ≡ start_standing model → EndsAs (IsOnly model) IsEnd (IsMisfitFor model) start text t e
        → EndsAs (IsOnly model) IsEnd (IsMisfitFor model) (start_standing model) text t e
    ended-from start t e is ends = subst (λ s. EndsAs (IsOnly model) IsEnd (IsMisfitFor model) s text t e) is ends
