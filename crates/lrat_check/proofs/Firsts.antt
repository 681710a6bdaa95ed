-- The first line that says something.
use Rattle.std.proofs.Common.{◌≡◌, ℕ, Bool, true, false, ◌||◌, List, [], ◌∷◌, ◌++◌, codes, drop, sym, ap, ◌∙◌}
use Rattle.std.proofs.lemmas.Bool.{cond-true, cond-false}
use Rattle.std.proofs.lemmas.Slice.Eq.{bytes_eq-Decides}
use Rattle.bee_text.specs.Gaps.{words_of}
use Rattle.bee_text.specs.Lines.{IsLine, lines_of}
use Rattle.bee_text.proofs.LineLemmas.{lines_of-cut}
use Rattle.sat_front.specs.Closed.{closed}
use Rattle.sat_front.specs.CnfLines.{is_skipped}
use Rattle.lrat_check.specs.Kinds.{has_two_zeros, begins_deletion, is_hinted, are_hinted}
use Rattle.lrat_check.proofs.Said.{not_skipped}

module _ (rest line later : List ℕ) (is : IsLine line) (cut : closed rest ≡ line ++ 10 ∷ closed later) where
  lines : lines_of (closed rest) ≡ line ∷ lines_of (closed later)
  lines = ap lines_of cut ∙ lines_of-cut line (closed later) is

  skips : is_skipped (words_of line) ≡ true → are_hinted (lines_of (closed rest)) ≡ are_hinted (lines_of (closed later))
  skips e = ap are_hinted lines ∙ cond-true _ _ _ e

  -- a line that says nothing is passed over
  pub skips-empty : words_of line ≡ [] → are_hinted (lines_of (closed rest)) ≡ are_hinted (lines_of (closed later))
  skips-empty none = skips (ap is_skipped none)

  pub skips-comment : (first : List ℕ) (behind : List (List ℕ)) → words_of line ≡ first ∷ behind → first ≡ codes "c" → are_hinted (lines_of (closed rest)) ≡ are_hinted (lines_of (closed later))
  skips-comment first behind words e = skips (ap is_skipped words ∙ (bytes_eq-Decides first (codes "c")).1 e)

  -- any other tells
  pub tells : (first : List ℕ) (behind : List (List ℕ)) → words_of line ≡ first ∷ behind → (first ≡ codes "c" → ⊥) → are_hinted (lines_of (closed rest)) ≡ is_hinted (words_of line)
  tells first behind words other = ap are_hinted lines ∙ cond-false _ _ _ (not_skipped (words_of line) first behind words other)

  pub hinted-deletion : (first : List ℕ) (behind : List (List ℕ)) → words_of line ≡ first ∷ behind → (first ≡ codes "c" → ⊥) → (deletes : Bool) → deletes ≡ begins_deletion behind → deletes ≡ true → deletes ≡ are_hinted (lines_of (closed rest))
  hinted-deletion first behind words other deletes is it =
      let here : begins_deletion (drop 1 (words_of line)) ≡ true = ap (λ (ws : List (List ℕ)). begins_deletion (drop 1 ws)) words ∙ sym is ∙ it in
      it ∙ sym (ap (λ (b : Bool). b || has_two_zeros (words_of line)) here) ∙ sym (tells first behind words other)

  pub hinted-zeros : (first : List ℕ) (behind : List (List ℕ)) → words_of line ≡ first ∷ behind → (first ≡ codes "c" → ⊥) → (deletes : Bool) → deletes ≡ begins_deletion behind → deletes ≡ false → (zeros : Bool) → zeros ≡ has_two_zeros (words_of line)
      → zeros ≡ are_hinted (lines_of (closed rest))
  hinted-zeros first behind words other deletes is it zeros two =
      let here : begins_deletion (drop 1 (words_of line)) ≡ false = ap (λ (ws : List (List ℕ)). begins_deletion (drop 1 ws)) words ∙ sym is ∙ it in
      two ∙ sym (ap (λ (b : Bool). b || has_two_zeros (words_of line)) here) ∙ sym (tells first behind words other)
