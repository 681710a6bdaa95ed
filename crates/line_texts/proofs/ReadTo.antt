-- A text that is read up to a line, and what stands then.
use Rattle.std.proofs.Common.{◌≡◌, ℕ, ◌+◌, ◌≤◌, true, List, [], ◌∷◌, ◌++◌, length, refl, sym, ap, subst, ◌∙◌, arith, append_assoc, ⊎_elim, length-append}
use Rattle.std.specs.List.{list_all}
use Rattle.std.proofs.lemmas.Bool.{and_from, cases_Bool}
use Rattle.std.proofs.lemmas.List.{append-nil}
use Rattle.std.proofs.lemmas.List.Folds.{list_all-append}
use Rattle.bee_text.specs.Lines.{lacks, IsLine, AreLines, join_lines, lines_of, unfinished}
use Rattle.bee_text.proofs.LineLemmas.{lines_of-join_lines_rest, unfinished-join_lines, join_lines-lines_of, lines_of_lines, lines_of-rest, join_lines-append}
use Rattle.line_texts.specs.LineByLine.{Lead}
use Rattle.line_texts.specs.Ends.{MisfitAt, MissingAt}
use Rattle.line_texts.proofs.Leads.{lead_push}

-- what stands behind the last line feed is a line
unfinished_is_line : (text : List ℕ) → IsLine (unfinished text)
unfinished_is_line [] = refl
unfinished_is_line (b ∷ bs) = ⊎_elim
    (λ (e : lacks 10 (b ∷ bs) ≡ true). rw e e)
    (λ e. rw e (unfinished_is_line bs))
    (cases_Bool (lacks 10 (b ∷ bs)))

-- lines before what is left of a text are its first lines
pub record Behind (text rest : List ℕ) (before : List (List ℕ)) : Type 0 where
  pub lines : lines_of text ≡ before ++ lines_of rest
  pub end : unfinished text ≡ unfinished rest

pub lines_behind : (text rest : List ℕ) (before : List (List ℕ)) → AreLines before → text ≡ join_lines before ++ rest → Behind text rest before
lines_behind text rest before are joined =
    let whole : text ≡ join_lines (before ++ lines_of rest) ++ unfinished rest =
    joined ∙ ap (λ r. join_lines before ++ r) (sym (join_lines-lines_of rest)) ∙ sym (append_assoc (join_lines before) (join_lines (lines_of rest)) (unfinished rest))
    ∙ ap (λ ls. ls ++ unfinished rest) (sym (join_lines-append before (lines_of rest))) in
    let both : AreLines (before ++ lines_of rest) =
    list_all-append (lacks 10) before (lines_of rest) ∙ and_from (list_all (lacks 10) before) (list_all (lacks 10) (lines_of rest)) are (lines_of_lines rest) in
    record {
      lines = ap lines_of whole ∙ lines_of-join_lines_rest (before ++ lines_of rest) (unfinished rest) both (unfinished_is_line rest);
      end = ap unfinished whole ∙ unfinished-join_lines (before ++ lines_of rest) (unfinished rest) (unfinished_is_line rest);
    }

-- so many lines are read, the rest is left, and they lead so far
pub record ReadTo {S : Type 0} (Next : S → List ℕ → S → Type 0) (start : S) (text rest : List ℕ) (read : ℕ) (s : S) : Type 0 where
  pub before : List (List ℕ)
  pub are_lines : AreLines before
  pub joined : text ≡ join_lines before ++ rest
  pub count : read ≡ length before
  pub most : read + length rest ≤ length text
  pub lead : Lead Next start before s

module _ {S : Type 0} (Next : S → List ℕ → S → Type 0) (start : S) where
  pub nothing_read : (text : List ℕ) → ReadTo Next start text text 0 start
  nothing_read text = record { before = []; are_lines = refl; joined = refl; count = refl; most = omega arith; lead = refl }

  line_joined : (text rest line later : List ℕ) (before : List (List ℕ)) → text ≡ join_lines before ++ rest → rest ≡ line ++ 10 ∷ later → text ≡ join_lines (before ++ line ∷ []) ++ later
  line_joined text rest line later before e f =
      e ∙ ap (λ r. join_lines before ++ r) (f ∙ sym (append_assoc line (10 ∷ []) later)) ∙ sym (append_assoc (join_lines before) (line ++ 10 ∷ []) later)
      ∙ ap (λ t. t ++ later) (sym (join_lines-append before (line ∷ [])))

  pub line_read : (text rest line later : List ℕ) (read after : ℕ) (s t : S) → ReadTo Next start text rest read s → IsLine line → rest ≡ line ++ 10 ∷ later → after ≡ read + 1
      → Next s line t → ReadTo Next start text later after t
  line_read text rest line later read after s t h is cut n next = record {
    before = h.before ++ line ∷ [];
    are_lines = list_all-append (lacks 10) h.before (line ∷ []) ∙ and_from (list_all (lacks 10) h.before) (list_all (lacks 10) (line ∷ [])) h.are_lines (and_from (lacks 10 line) true is refl);
    joined = line_joined text rest line later h.before h.joined cut;
    count = omega (arith, h.count, n, length-append h.before (line ∷ []));
    most = omega (arith, h.most, n, ap length cut, length-append line (10 ∷ later));
    lead = lead_push Next start h.before line s t h.lead next;
  }

  pub line_fails : {C : Type 0} (Because : S → List ℕ → C → Type 0) (text rest line later : List ℕ) (read number : ℕ) (s : S) (cause : C) → ReadTo Next start text rest read s
      → lines_of rest ≡ line ∷ lines_of later → number ≡ read + 1 → ((t : S) → Next s line t → ⊥) → Because s line cause → MisfitAt Next Because start text number cause
  line_fails Because text rest line later read number s cause h cut n misfit because = record {
    before = h.before;
    line = line;
    left = lines_of later;
    parts = (lines_behind text rest h.before h.are_lines h.joined).lines ∙ ap (λ ls. h.before ++ ls) cut;
    number_is = omega (arith, n, h.count);
    stands = s;
    lead = h.lead;
    misfit = misfit;
    because = because;
  }

  pub end_fails : (IsEnd : S → Type 0) (text rest : List ℕ) (read number : ℕ) (s : S) → ReadTo Next start text rest read s → IsLine rest → number ≡ read + 1
      → (rest ≡ [] → IsEnd s → ⊥) → MissingAt Next IsEnd start text number
  end_fails IsEnd text rest read number s h line n early =
      let behind = lines_behind text rest h.before h.are_lines h.joined in
      let rest_is : unfinished text ≡ rest = behind.end ∙ unfinished-join_lines [] rest line in
      let all : lines_of text ≡ h.before = behind.lines ∙ ap (λ ls. h.before ++ ls) (lines_of-rest rest line) ∙ append-nil h.before in
      let P : List (List ℕ) → Type 0 = λ ls. Lead Next start ls s in
      record {
        number_is = omega (arith, n, h.count, ap length all);
        stands = s;
        lead = subst P (sym all) h.lead;
        early = λ none. early (sym rest_is ∙ none);
      }
