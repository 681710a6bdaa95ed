-- A text whose last line may lack its line feed, line by line.
use Rattle.std.proofs.Common.{◌≡◌, ℕ, true, List, [], ◌∷◌, ◌++◌, refl, sym, ap, ◌∙◌, append_assoc}
use Rattle.std.proofs.lemmas.Bool.{and_from}
use Rattle.std.proofs.lemmas.List.{append-nil}
use Rattle.bee_text.specs.Lines.{lacks, IsLine, AreLines, join_lines, unfinished}
use Rattle.bee_text.proofs.LineLemmas.{unfinished-join_lines}
use Rattle.line_texts.specs.Ends.{EndsAs}
use Rattle.line_texts.specs.declared.ends.TextEnd.{TextEnd}
use Rattle.line_texts.specs.declared.ends.TextEnd.TheVariants.{Whole, Misfit, Missing}
use Rattle.line_texts.proofs.ReadTo.{ReadTo, lines_behind, end_fails}
use Rattle.sat_front.specs.Closed.{closing, closed, IsEndBehind}

one_line : (line : List ℕ) → IsLine line → AreLines (line ∷ [])
one_line line is = and_from (lacks 10 line) true is refl

-- a line is cut off
pub closed_line : (text line rest : List ℕ) → IsLine line → text ≡ line ++ 10 ∷ rest → closed text ≡ line ++ 10 ∷ closed rest
closed_line text line rest is cut =
    let end : unfinished text ≡ unfinished rest =
    (lines_behind text rest (line ∷ []) (one_line line is) (cut ∙ sym (append_assoc line (10 ∷ []) rest))).end in
    ap (λ u. text ++ closing u) end ∙ ap (λ t. t ++ closing (unfinished rest)) cut ∙ append_assoc line (10 ∷ rest) (closing (unfinished rest))

-- the bytes behind the last line feed are cut off
pub closed_last : (text : List ℕ) → IsLine text → (text ≡ [] → ⊥) → closed text ≡ text ++ 10 ∷ closed []
closed_last [] is some = absurd (some refl)
closed_last (b ∷ bs) is some = ap (λ u. (b ∷ bs) ++ closing u) (unfinished-join_lines [] (b ∷ bs) is)

-- how the reading ends behind the last line
pub ends : {S C : Type 0} (Next : S → List ℕ → S → Type 0) (IsEnd : S → Type 0) (Because : S → List ℕ → C → Type 0) (start : S) (text : List ℕ) (read : ℕ) (s : S) (end : TextEnd C)
    → ReadTo Next start text [] read s → IsEndBehind IsEnd s read end → EndsAs Next IsEnd Because start text s end
ends Next IsEnd Because start text read s Whole h is = record {
  lines = h.before;
  are_lines = h.are_lines;
  joined = h.joined ∙ append-nil (join_lines h.before);
  lead = h.lead;
  ended = is;
}
ends Next IsEnd Because start text read s (Misfit number cause) h is = absurd is
ends Next IsEnd Because start text read s (Missing number) h is = end_fails Next start IsEnd text [] read number s h refl is.0 (λ none ended. is.1 ended)
