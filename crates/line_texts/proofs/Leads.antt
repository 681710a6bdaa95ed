-- Lines that lead from one standing to another.
use Rattle.std.proofs.Common.{◌≡◌, ℕ, List, [], ◌∷◌, ◌++◌, refl, sym, ap, subst, ◌∙◌}
use Rattle.std.proofs.lemmas.List.{append-nil}
use Rattle.bee_text.specs.Lines.{join_lines, lines_of, unfinished}
use Rattle.bee_text.proofs.LineLemmas.{lines_of-join_lines, unfinished-join_lines}
use Rattle.line_texts.specs.LineByLine.{Lead, IsWhole, IsMisfit}

module _ {S : Type 0} (Next : S → List ℕ → S → Type 0) where
  -- one line more
  pub lead_push : (s : S) (ls : List (List ℕ)) (line : List ℕ) (m t : S) → Lead Next s ls m → Next m line t → Lead Next s (ls ++ line ∷ []) t
  lead_push s [] line m t e n = let P : S → Type 0 = λ x. Next x line t in (t, subst P (sym e) n, refl)
  lead_push s (l ∷ ls) line m t h n = (h.0, h.1, lead_push h.0 ls line m t h.2 n)

  -- lines that lead somewhere have a front that does
  pub lead_front : (s : S) (before left : List (List ℕ)) (t : S) → Lead Next s (before ++ left) t → (m : S) × (Lead Next s before m × Lead Next m left t)
  lead_front s [] left t h = (s, (refl, h))
  lead_front s (l ∷ before) left t h =
      let rest = lead_front h.0 before left t h.2 in
      (rest.0, ((h.0, h.1, rest.1.0), rest.1.1))

  -- lines behind lines
  pub lead_join : (s : S) (xs ys : List (List ℕ)) (m t : S) → Lead Next s xs m → Lead Next m ys t → Lead Next s (xs ++ ys) t
  lead_join s [] ys m t p q = let P : S → Type 0 = λ x. Lead Next x ys t in subst P (sym p) q
  lead_join s (x ∷ xs) ys m t p q = (p.0, p.1, lead_join p.0 xs ys m t p.2 q)

  -- Where a line leads to one standing alone, lines do.
  module _ (Good : S → Type 0) (keeps : (s t : S) (line : List ℕ) → Good s → Next s line t → Good t) (one : (s t u : S) (line : List ℕ) → Good s → Next s line t → Next s line u → t ≡ u) where
    pub lead_same : (s t u : S) (ls : List (List ℕ)) → Good s → Lead Next s ls t → Lead Next s ls u → t ≡ u
    lead_same s t u [] good p q = sym p ∙ q
    lead_same s t u (l ∷ ls) good p q =
        let same : p.0 ≡ q.0 = one s p.0 q.0 l good p.1 q.1 in
        let P : S → Type 0 = λ x. Lead Next x ls u in
        lead_same p.0 t u ls (keeps s p.0 l good p.1) p.2 (subst P (sym same) q.2)

    module _ (IsEnd : S → Type 0) (start : S) (good : Good start) where
      -- a text that is whole has no line that fails
      misfit_not : (text : List ℕ) (s stands : S) (before left : List (List ℕ)) → Lead Next start (before ++ left) s → IsEnd s → Lead Next start before stands
          → unfinished text ≡ [] → IsMisfit Next IsEnd stands left (unfinished text) → ⊥
      misfit_not text s stands before [] lead ended q none m =
          let cut = lead_front start before [] s lead in
          let same : cut.0 ≡ stands = lead_same start cut.0 stands before good cut.1.0 q in
          m none (subst IsEnd (sym cut.1.1 ∙ same) ended)
      misfit_not text s stands before (l ∷ left) lead ended q none m =
          let cut = lead_front start before (l ∷ left) s lead in
          let same : cut.0 ≡ stands = lead_same start cut.0 stands before good cut.1.0 q in
          let P : S → Type 0 = λ x. Next x l cut.1.1.0 in
          m cut.1.1.0 (subst P same cut.1.1.1)

      pub whole_fits : (text : List ℕ) (s stands : S) (before left : List (List ℕ)) → IsWhole Next IsEnd start text s → lines_of text ≡ before ++ left
          → Lead Next start before stands → IsMisfit Next IsEnd stands left (unfinished text) → ⊥
      whole_fits text s stands before left whole parts q m =
          let lines : lines_of text ≡ whole.lines = ap lines_of whole.joined ∙ lines_of-join_lines whole.lines whole.are_lines in
          let none : unfinished text ≡ [] = ap unfinished (whole.joined ∙ sym (append-nil (join_lines whole.lines))) ∙ unfinished-join_lines whole.lines [] refl in
          let P : List (List ℕ) → Type 0 = λ ls. Lead Next start ls s in
          misfit_not text s stands before left (subst P (sym lines ∙ parts) whole.lead) whole.ended q none m

      -- a text that is whole tells one thing
      pub whole_same : (text : List ℕ) (s t : S) → IsWhole Next IsEnd start text s → IsWhole Next IsEnd start text t → s ≡ t
      whole_same text s t p q =
          let same : p.lines ≡ q.lines = sym (lines_of-join_lines p.lines p.are_lines) ∙ ap lines_of (sym p.joined ∙ q.joined) ∙ lines_of-join_lines q.lines q.are_lines in
          let P : List (List ℕ) → Type 0 = λ ls. Lead Next start ls t in
          lead_same start s t p.lines good p.lead (subst P (sym same) q.lead)
