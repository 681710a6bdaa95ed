-- Each text is whole, or a line of it fails: line by line it is decided which line is the next.
use Rattle.std.proofs.Common.{◌≡◌, ℕ, ◌+◌, ◌^◌, ◌≤◌, ◌⊎◌, inl, inr, List, [], ◌∷◌, ◌++◌, length, append_assoc, refl, sym, ap, subst, ⊎_elim, ◌∙◌}
use Rattle.std.proofs.lemmas.List.{append-nil}
use Rattle.bee_text.specs.Lines.{join_lines, lines_of, unfinished}
use Rattle.bee_text.proofs.LineLemmas.{join_lines-lines_of, lines_of_lines}
use Rattle.dimacs_out.specs.declared.text.CnfText.{CnfText}
use Rattle.line_texts.specs.LineByLine.{Lead, IsWhole, IsMisfit}
use Rattle.line_texts.proofs.Leads.{lead_push}
use Rattle.dimacs_read.specs.AnswerLaws.{TextOrLine, ValuesOrLine}
use Rattle.dimacs_read.specs.TextLines.{IsTextOf}
use Rattle.dimacs_read.specs.TextSteps.{Draft, nothing_read, held, NextLine, IsComplete, TextFails}
use Rattle.dimacs_read.specs.Values.{Told, nothing_told, NextValues, AreTold}
use Rattle.dimacs_read.proofs.TextRead.{whole_text}
use Rattle.dimacs_read.proofs.Searches.{Decided, and-decided, bytes-decided}
use Rattle.dimacs_read.proofs.LinesDecided.{Led, IsSmall, next-decided, keeps-small, complete-decided, FailsAbove, above-decided}
use Rattle.dimacs_read.proofs.ValuesDecided.{values-next, told-decided}

-- a text is whole
record Wholly {S : Type 0} (Next : S → List ℕ → S → Type 0) (IsEnd : S → Type 0) (start : S) (text : List ℕ) : Type 0 where
  stands : S
  whole : IsWhole Next IsEnd start text stands

-- lines of a text lead somewhere, from where what is left isn't the next
record Stuck {S : Type 0} (Next : S → List ℕ → S → Type 0) (IsEnd : S → Type 0) (start : S) (text : List ℕ) : Type 0 where
  before : List (List ℕ)
  left : List (List ℕ)
  parts : lines_of text ≡ before ++ left
  stands : S
  lead : Lead Next start before stands
  misfit : IsMisfit Next IsEnd stands left (unfinished text)

-- a text is one or the other where that is decided of each line, and of the end, at all that lines lead to
module _ {S : Type 0} (Next : S → List ℕ → S → Type 0) (IsEnd : S → Type 0) (start : S) (Good : S → Type 0) (good : Good start)
    (keeps : (s t : S) (line : List ℕ) → Good s → Next s line t → Good t)
    (next : (s : S) (line : List ℕ) → Good s → Decided (Led Next s line)) (ended : (s : S) → Decided (IsEnd s)) (text : List ℕ)
  where
    abbrev Either : Type 0
    Either = Wholly Next IsEnd start text ⊎ Stuck Next IsEnd start text

    at-end : (before : List (List ℕ)) (s : S) → lines_of text ≡ before → Lead Next start before s → Decided ((unfinished text ≡ []) × IsEnd s) → Either
    at-end before s parts lead (inl h) =
        inl (record {
          stands = s;
          whole = record {
            lines = lines_of text;
            are_lines = lines_of_lines text;
            joined = sym (join_lines-lines_of text) ∙ ap (λ (rest : List ℕ). join_lines (lines_of text) ++ rest) h.0 ∙ append-nil (join_lines (lines_of text));
            lead = subst (λ (ls : List (List ℕ)). Lead Next start ls s) (sym parts) lead;
            ended = h.1;
          };
        })
    at-end before s parts lead (inr h) =
        inr (record { before = before; left = []; parts = parts ∙ sym (append-nil before); stands = s; lead = lead; misfit = λ none end. h (none, end) })

    from-line : (before left : List (List ℕ)) (s : S) → lines_of text ≡ before ++ left → Lead Next start before s → Good s → Either
    from-line before [] s parts lead fine =
        at-end before s (parts ∙ append-nil before) lead (and-decided (bytes-decided (unfinished text) []) (ended s))
    from-line before (line ∷ left) s parts lead fine =
        ⊎_elim
        (λ (h : Led Next s line).
        from-line (before ++ line ∷ []) left h.to (parts ∙ sym (append_assoc before (line ∷ []) left)) (lead_push Next start before line s h.to lead h.is) (keeps s h.to line fine h.is))
        (λ (none : Led Next s line → ⊥).
        inr (record { before = before; left = line ∷ left; parts = parts; stands = s; lead = lead; misfit = λ t h. none (record { to = t; is = h }) }))
        (next s line fine)

    either : Either
    either = from-line [] (lines_of text) start refl refl good

-- Values.

pub values_or_line : ValuesOrLine
values_or_line cnf text =
    ⊎_elim
    (λ (h : Wholly (NextValues cnf) AreTold (nothing_told cnf.vars) text).
    inl (h.stands.known.values, record { told = h.stands; whole = h.whole; values_are = refl }))
    (λ (h : Stuck (NextValues cnf) AreTold (nothing_told cnf.vars) text).
    inr (length h.before + 1, record { before = h.before; left = h.left; parts = h.parts; number_is = refl; stands = h.stands; lead = h.lead; misfit = h.misfit }))
    (either (NextValues cnf) AreTold (nothing_told cnf.vars) (λ s. Unit {0}) tt (λ s t line fine h. tt) (λ s line fine. values-next cnf s line) told-decided text)

-- Compiled texts.

module _ (text : List ℕ) where
  abbrev Fails : Type 0
  Fails = (line : ℕ) × TextFails text line

  -- the line that is no next one fails, or one before it does
  line-fails : (before left : List (List ℕ)) (s : Draft) → lines_of text ≡ before ++ left → Lead NextLine nothing_read before s → IsMisfit NextLine IsComplete s left (unfinished text) → Fails
  line-fails before [] s parts lead misfit =
      (length before + 1, record { before = before; left = []; parts = parts; stands = s; lead = lead; misfit = misfit; fault = refl })
  line-fails before (line ∷ left) s parts lead misfit = by (above-decided s line)
    where
      by : Decided (FailsAbove s line) → Fails
      by (inl a) = (a.number, record { before = before; left = line ∷ left; parts = parts; stands = s; lead = lead; misfit = misfit; fault = inl a.is })
      by (inr none) =
          (length before + 1, record { before = before; left = line ∷ left; parts = parts; stands = s; lead = lead; misfit = misfit; fault = inr (λ n is. none (record { number = n; is = is }), refl) })

pub text_or_line : TextOrLine
text_or_line text =
    ⊎_elim
    (λ (h : Wholly NextLine IsComplete nothing_read text). inl (held h.stands, whole_text text h.stands h.whole))
    (λ (h : Stuck NextLine IsComplete nothing_read text). inr (line-fails text h.before h.left h.stands h.parts h.lead h.misfit))
    (either NextLine IsComplete nothing_read (λ (s : Draft). IsSmall s.stage) tt keeps-small next-decided complete-decided text)
