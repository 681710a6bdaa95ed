-- It cannot be that a text neither shows a verdict nor has a line that fails.
use Rattle.std.proofs.Common.{◌≡◌, ◌⊎◌, ℕ, ◌+◌, Bool, true, false, List, [], ◌∷◌, ◌++◌, ℤ, Option, None, Some, length, refl, sym, ap, subst, ◌∙◌, inl, inr, ⊎_elim, append_assoc}
use Rattle.std.specs.List.{list_all}
use Rattle.std.proofs.lemmas.Bool.{and_parts, cases_Bool}
use Rattle.std.proofs.lemmas.List.{append-nil}
use Rattle.bee_text.specs.Gaps.{words_of}
use Rattle.bee_text.specs.Lines.{lacks, IsLine, AreLines, join_lines, lines_of, unfinished}
use Rattle.bee_text.proofs.LineLemmas.{join_lines-lines_of, lines_of_lines, join_lines-append, unfinished-join_lines}
use Rattle.order_ints.specs.Numbers.{numbers_of}
use Rattle.order_ints.specs.Truth.{valuation_of}
use Rattle.sat_front.specs.Closed.{closing, closed}
use Rattle.model_meaning.specs.declared.model.Goal.{Goal}
use Rattle.model_meaning.specs.declared.model.Goal.TheVariants.{Satisfy, Minimize, Maximize}
use Rattle.objective_bound.specs.Bounds.{value_at}
use Rattle.dimacs_read.specs.Values.{IsValues, ValuesFail}
use Rattle.dimacs_read.proofs.Answered.{values_or_line}
use Rattle.answer_document.specs.declared.verdict.Verdict.{Verdict}
use Rattle.answer_document.specs.declared.verdict.Verdict.TheVariants.{Satisfiable, Unsatisfiable, Optimum}
use Rattle.answer_import.specs.Fronts.{IsComment, IsTelling, AreBefore, AreComments, SomeTell, BeginsOther, IsCut}
use Rattle.answer_import.specs.Imports.{Sought, better_cnf, ShowsBehind, FailsBehind, TextShows, TextFails}
use Rattle.answer_import.proofs.Gathering.{before-more, lines-more}
use Rattle.answer_import.proofs.OneRefutation.{refutation-or-line}

-- Joined lines have no bytes behind them.
joined-whole : (lines : List (List ℕ)) → unfinished (join_lines lines) ≡ []
joined-whole lines = ap unfinished (sym (append-nil (join_lines lines))) ∙ unfinished-join_lines lines [] refl

joined-closed : (lines : List (List ℕ)) → closed (join_lines lines) ≡ join_lines lines
joined-closed lines = ap (λ (u : List ℕ). join_lines lines ++ closing u) (joined-whole lines) ∙ append-nil (join_lines lines)

-- a closed text is lines
record AreLinesOf (text : List ℕ) : Type 0 where
  lines : List (List ℕ)
  are : AreLines lines
  is : closed text ≡ join_lines lines

unfinished-line : (text : List ℕ) → IsLine (unfinished text)
unfinished-line [] = refl
unfinished-line (b ∷ bs) = ⊎_elim
    (λ (e : lacks 10 (b ∷ bs) ≡ true). rw e e)
    (λ e. rw e (unfinished-line bs))
    (cases_Bool (lacks 10 (b ∷ bs)))

closed-lines : (text : List ℕ) → AreLinesOf text
closed-lines text = by (unfinished text) refl
  where
    whole : (u : List ℕ) → unfinished text ≡ u → closed text ≡ join_lines (lines_of text) ++ (u ++ closing u)
    whole u e =
        ap (λ (w : List ℕ). text ++ closing w) e ∙ ap (λ (t : List ℕ). t ++ closing u) (sym (join_lines-lines_of text) ∙ ap (λ (w : List ℕ). join_lines (lines_of text) ++ w) e)
        ∙ append_assoc (join_lines (lines_of text)) u (closing u)

    by : (u : List ℕ) → unfinished text ≡ u → AreLinesOf text
    by [] e = record { lines = lines_of text; are = lines_of_lines text; is = whole [] e ∙ append-nil (join_lines (lines_of text)) }
    by (b ∷ bs) e = record {
      lines = lines_of text ++ (b ∷ bs) ∷ [];
      are = lines-more (lines_of text) (b ∷ bs) (lines_of_lines text) (subst IsLine e (unfinished-line text));
      is = whole (b ∷ bs) e ∙ sym (join_lines-append (lines_of text) ((b ∷ bs) ∷ []));
    }

none-tell : (lines : List (List ℕ)) → AreBefore lines → (SomeTell lines → ⊥) → AreComments lines
none-tell [] before none = tt
none-tell (l ∷ ls) before none = (⊎_elim (λ (h : IsComment (words_of l)). h) (λ (h : IsTelling (words_of l)). absurd (none (inl h))) before.0, none-tell ls before.1 (λ h. none (inr h)))

-- it cannot be that a text is cut nowhere
module _ (text : List ℕ) (never : (lines : List (List ℕ)) (told : Bool) (rest : List ℕ) → IsCut text lines told rest → ⊥) where
  cut-at : (before left : List (List ℕ)) → AreLines before → AreBefore before → closed text ≡ join_lines (before ++ left)
      → (closed (join_lines left) ≡ []) ⊎ BeginsOther (closed (join_lines left)) → ⊥
  cut-at before left are ok is behind =
      let parts : closed text ≡ join_lines before ++ closed (join_lines left) =
      is ∙ join_lines-append before left ∙ ap (λ (r : List ℕ). join_lines before ++ r) (sym (joined-closed left)) in
      let untold : SomeTell before → ⊥ =
      λ tells. never before true (join_lines left) (record { are_lines = are; parts = parts; before = ok; told_is = tells; behind = behind }) in
      never before false (join_lines left) (record { are_lines = are; parts = parts; before = ok; told_is = none-tell before ok untold; behind = behind })

  walk : (before left : List (List ℕ)) → AreLines before → AreLines left → AreBefore before → closed text ≡ join_lines (before ++ left) → ⊥
  walk before [] are tail ok is = cut-at before [] are ok is (inl refl)
  walk before (l ∷ left) are tail ok is =
      let one : IsLine l = (and_parts (lacks 10 l) (list_all (lacks 10) left) tail).0 in
      let others : AreLines left = (and_parts (lacks 10 l) (list_all (lacks 10) left) tail).1 in
      let on : IsComment (words_of l) ⊎ IsTelling (words_of l) → ⊥ =
      λ kind. walk (before ++ l ∷ []) left (lines-more before l are one) others (before-more before l ok kind) (is ∙ ap join_lines (sym (append_assoc before (l ∷ []) left))) in
      let begins : BeginsOther (join_lines (l ∷ left)) = record { line = l; left = join_lines left; one = one; is = refl; other = (λ h. on (inl h), λ h. on (inr h)) } in
      cut-at before (l ∷ left) are ok is (inr (subst BeginsOther (sym (joined-closed (l ∷ left))) begins))

  cut-nowhere : ⊥
  cut-nowhere = let c = closed-lines text in walk [] c.lines refl c.are tt c.is

module _ (s : Sought) (text : List ℕ) (none : (v : Verdict) (a : Option (List ℤ)) → TextShows s text v a → ⊥) (never : (line : ℕ) → TextFails s text line → ⊥) where
  behind-values : (vs : List Bool) (rest : List ℕ) (goal : Goal) → ((v : Verdict) → ShowsBehind s vs rest goal v → ⊥) → ((k : ℕ) → FailsBehind s vs rest goal k → ⊥) → ⊥
  behind-values vs rest Satisfy shown fails = fails 1 (λ e. shown Satisfiable (e, refl), refl)
  behind-values vs rest (Minimize place second) shown fails =
      refutation-or-line (better_cnf s vs) rest (λ h. shown (Optimum (record { first = value_at s.goal s.entries vs; second = None })) (h, refl)) fails
  behind-values vs rest (Maximize place second) shown fails =
      refutation-or-line (better_cnf s vs) rest (λ h. shown (Optimum (record { first = value_at s.goal s.entries vs; second = None })) (h, refl)) fails

  cut-ends : (lines : List (List ℕ)) (told : Bool) (rest : List ℕ) → IsCut text lines told rest → ⊥
  cut-ends lines false rest cut =
      refutation-or-line s.cnf text
      (λ h. none Unsatisfiable None (record { lines = lines; told = false; rest = rest; cut = cut; shows = (h, refl, refl) }))
      (λ line h. never line (record { lines = lines; told = false; rest = rest; cut = cut; fails = h }))
  cut-ends lines true rest cut =
      ⊎_elim
      (λ (h : (vs : List Bool) × IsValues s.cnf (join_lines lines) vs).
      behind-values h.0 rest s.goal
      (λ v shows.
      none v (Some (numbers_of (valuation_of h.0) s.entries))
      (record { lines = lines; told = true; rest = rest; cut = cut; shows = record { values = h.0; are = h.1; behind = shows; given_is = refl } }))
      (λ k fails.
      never (length lines + k)
      (record { lines = lines; told = true; rest = rest; cut = cut; fails = inr (record { values = h.0; are = h.1; place = k; fails = fails; line_is = refl }) })))
      (λ (h : (line : ℕ) × ValuesFail s.cnf (join_lines lines) line). never h.0 (record { lines = lines; told = true; rest = rest; cut = cut; fails = inl h.1 }))
      (values_or_line s.cnf (join_lines lines))

  pub some-end : ⊥
  some-end = cut-nowhere text cut-ends
