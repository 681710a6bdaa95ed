-- Where no line fails, all lines lead to an end, so that a text is whole or a line fails.
use Rattle.std.proofs.Common.{◌≡◌, ℕ, List, [], ◌∷◌, ◌++◌, append_assoc, refl, sym, ap, subst, ◌∙◌}
use Rattle.std.proofs.lemmas.List.{append-nil}
use Rattle.bee_text.specs.Lines.{join_lines, lines_of, unfinished}
use Rattle.bee_text.proofs.LineLemmas.{join_lines-lines_of, lines_of_lines}
use Rattle.line_texts.specs.LineByLine.{Lead, IsWhole, IsMisfit}
use Rattle.line_texts.proofs.Leads.{lead_push}

module _ {S : Type 0} (Next : S → List ℕ → S → Type 0) (IsEnd : S → Type 0) (start : S) (text : List ℕ)
    (whole : (s : S) → IsWhole Next IsEnd start text s → ⊥)
    (fits : (before left : List (List ℕ)) (s : S) → lines_of text ≡ before ++ left → Lead Next start before s → IsMisfit Next IsEnd s left (unfinished text) → ⊥)
  where
    -- all lines lead to one standing, behind which the text ends
    at-end : (before : List (List ℕ)) (s : S) → lines_of text ≡ before → Lead Next start before s → ⊥
    at-end before s parts lead =
        fits before [] s (parts ∙ sym (append-nil before)) lead
        (λ none ended. whole s (record {
          lines = lines_of text;
          are_lines = lines_of_lines text;
          joined = sym (join_lines-lines_of text) ∙ ap (λ (rest : List ℕ). join_lines (lines_of text) ++ rest) none ∙ append-nil (join_lines (lines_of text));
          lead = subst (λ (ls : List (List ℕ)). Lead Next start ls s) (sym parts) lead;
          ended = ended;
        }))

    from-line : (before left : List (List ℕ)) (s : S) → lines_of text ≡ before ++ left → Lead Next start before s → ⊥
    from-line before [] s parts lead = at-end before s (parts ∙ append-nil before) lead
    from-line before (line ∷ left) s parts lead =
        fits before (line ∷ left) s parts lead
        (λ t next. from-line (before ++ line ∷ []) left t (parts ∙ sym (append_assoc before (line ∷ []) left)) (lead_push Next start before line s t lead next))

    pub no-answer : ⊥
    no-answer = from-line [] (lines_of text) start refl refl
