-- The first line that fails is one line.
use Rattle.std.proofs.Common.{◌≡◌, ℕ, ◌+◌, ◌⊎◌, inl, inr, List, [], ◌∷◌, ◌++◌, length, drop, get_or, refl, sym, ap, subst, ◌∙◌}
use Rattle.std.proofs.lemmas.List.{append-nil}
use Rattle.bee_text.specs.Lines.{lines_of, unfinished}
use Rattle.line_texts.specs.LineByLine.{Lead, IsMisfit, FirstMisfit}
use Rattle.line_texts.specs.Ends.{MisfitAt, MissingAt}
use Rattle.line_texts.proofs.Leads.{lead_front, lead_same}

-- the second front is longer, by a line that is left behind the first, and more
pub record Longer (xs left ys later : List (List ℕ)) : Type 0 where
  pub line : List ℕ
  pub more : List (List ℕ)
  pub longer : ys ≡ xs ++ line ∷ more
  pub left_is : left ≡ line ∷ (more ++ later)

abbrev Compared : List (List ℕ) → List (List ℕ) → List (List ℕ) → List (List ℕ) → Type 0
Compared xs left ys later = ((xs ≡ ys) × (left ≡ later)) ⊎ (Longer xs left ys later ⊎ Longer ys later xs left)

compare_fronts : (xs left ys later : List (List ℕ)) → xs ++ left ≡ ys ++ later → Compared xs left ys later
compare_fronts [] left [] later e = inl (refl, e)
compare_fronts [] left (y ∷ ys) later e = inr (inl (record { line = y; more = ys; longer = refl; left_is = e }))
compare_fronts (x ∷ xs) left [] later e = inr (inr (record { line = x; more = xs; longer = refl; left_is = sym e }))
compare_fronts (x ∷ xs) left (y ∷ ys) later e =
    let first : x ≡ y = ap (λ ls. get_or ls 0 []) e in
    on first (compare_fronts xs left ys later (ap (drop 1) e))
  where
    on : x ≡ y → Compared xs left ys later → Compared (x ∷ xs) left (y ∷ ys) later
    on first (inl p) = inl ((λ i. first i ∷ p.0 i), p.1)
    on first (inr (inl p)) = inr (inl (record { line = p.line; more = p.more; longer = λ i. sym first i ∷ p.longer i; left_is = p.left_is }))
    on first (inr (inr p)) = inr (inr (record { line = p.line; more = p.more; longer = λ i. first i ∷ p.longer i; left_is = p.left_is }))

-- the lines before, the lines left, and what stands between
pub record SameFront {S : Type 0} (before others left later : List (List ℕ)) (s t : S) : Type 0 where
  pub fronts : before ≡ others
  pub lefts : left ≡ later
  pub stands : s ≡ t

module _ {S : Type 0} (Next : S → List ℕ → S → Type 0) (Good : S → Type 0) (keeps : (s t : S) (line : List ℕ) → Good s → Next s line t → Good t) (one : (s t u : S) (line : List ℕ) → Good s → Next s line t → Next s line u → t ≡ u) (IsEnd : S → Type 0) (start : S) (good : Good start) (behind : List ℕ) where
  longer_leads : (before left others later : List (List ℕ)) (s t : S) → Longer before left others later → Lead Next start before s → IsMisfit Next IsEnd s left behind → Lead Next start others t → ⊥
  longer_leads before left others later s t h lead misfit goes =
      let P : List (List ℕ) → Type 0 = λ ls. Lead Next start ls t in
      let cut = lead_front Next start before (h.line ∷ h.more) t (subst P h.longer goes) in
      let same : cut.0 ≡ s = lead_same Next Good keeps one start cut.0 s before good cut.1.0 lead in
      let Q : List (List ℕ) → Type 0 = λ ls. IsMisfit Next IsEnd s ls behind in
      let R : S → Type 0 = λ x. Next x h.line cut.1.1.0 in
      subst Q h.left_is misfit cut.1.1.0 (subst R same cut.1.1.1)

  pub front_same : (before left others later : List (List ℕ)) (s t : S) → before ++ left ≡ others ++ later → Lead Next start before s → IsMisfit Next IsEnd s left behind → Lead Next start others t
      → IsMisfit Next IsEnd t later behind → SameFront before others left later s t
  front_same before left others later s t e lead misfit goes fails = by (compare_fronts before left others later e)
    where
      by : Compared before left others later → SameFront before others left later s t
      by (inl p) =
          let P : List (List ℕ) → Type 0 = λ ls. Lead Next start ls t in
          record { fronts = p.0; lefts = p.1; stands = lead_same Next Good keeps one start s t before good lead (subst P (sym p.0) goes) }
      by (inr (inl p)) = absurd (longer_leads before left others later s t p lead misfit goes)
      by (inr (inr p)) = absurd (longer_leads others later before left t s p goes fails lead)

  pub misfit_same : (text : List ℕ) (m n : ℕ) → unfinished text ≡ behind → FirstMisfit Next IsEnd start text m → FirstMisfit Next IsEnd start text n → m ≡ n
  misfit_same text m n end p q =
      let P : List ℕ → Type 0 = λ b. IsMisfit Next IsEnd p.stands p.left b in
      let Q : List ℕ → Type 0 = λ b. IsMisfit Next IsEnd q.stands q.left b in
      let same = front_same p.before p.left q.before q.left p.stands q.stands (sym p.parts ∙ q.parts) p.lead (subst P end p.misfit) q.lead (subst Q end q.misfit) in
      p.number_is ∙ ap (λ ls. length ls + 1) same.fronts ∙ sym q.number_is

-- how a reading ends tells the first line that fails

module _ {S : Type 0} (Next : S → List ℕ → S → Type 0) (IsEnd : S → Type 0) (start : S) (text : List ℕ) (number : ℕ) where
  pub misfit_first : {C : Type 0} (Because : S → List ℕ → C → Type 0) (cause : C) → MisfitAt Next Because start text number cause → FirstMisfit Next IsEnd start text number
  misfit_first Because cause h =
      record { before = h.before; left = h.line ∷ h.left; parts = h.parts; number_is = h.number_is; stands = h.stands; lead = h.lead; misfit = h.misfit }

  pub missing_first : MissingAt Next IsEnd start text number → FirstMisfit Next IsEnd start text number
  missing_first h =
      record { before = lines_of text; left = []; parts = sym (append-nil (lines_of text)); number_is = h.number_is; stands = h.stands; lead = h.lead; misfit = h.early }
