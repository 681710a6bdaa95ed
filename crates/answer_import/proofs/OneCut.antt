-- The lines before a refutation are the same, however a text is cut.
use Rattle.std.proofs.Common.{◌≡◌, ◌⊎◌, ℕ, Bool, true, false, List, [], ◌∷◌, ◌++◌, codes, drop, get_or, refl, sym, ap, subst, ◌∙◌, inl, inr, arith}
use Rattle.std.proofs.lemmas.List.{append_cancel_left}
use Rattle.bee_text.specs.Gaps.{words_of}
use Rattle.bee_text.specs.Lines.{join_lines, lines_of}
use Rattle.bee_text.proofs.LineLemmas.{lines_of-cut}
use Rattle.line_texts.proofs.ReadTo.{lines_behind}
use Rattle.sat_front.specs.Closed.{closed}
use Rattle.answer_import.specs.Fronts.{IsComment, IsTelling, IsOther, AreBefore, AreComments, SomeTell, IsToldBy, BeginsOther, IsCut}

-- no line is of two kinds
other-or-before : (words : List (List ℕ)) → IsOther words → IsComment words ⊎ IsTelling words → ⊥
other-or-before words other (inl h) = other.0 h
other-or-before words other (inr h) = other.1 h

s-or-c : codes "s" ≡ codes "c" → ⊥
s-or-c e = absurd (omega (arith, ap (λ (t : List ℕ). get_or t 0 0) e))

v-or-c : codes "v" ≡ codes "c" → ⊥
v-or-c e = absurd (omega (arith, ap (λ (t : List ℕ). get_or t 0 0) e))

telling-or-comment : (words : List (List ℕ)) → IsTelling words → IsComment words → ⊥
telling-or-comment [] tells says = absurd tells
telling-or-comment (w ∷ ws) (inl tells) says = s-or-c (sym tells ∙ says)
telling-or-comment (w ∷ ws) (inr tells) says = v-or-c (sym tells ∙ says)

told-or-not : (lines : List (List ℕ)) → SomeTell lines → AreComments lines → ⊥
told-or-not [] tell none = absurd tell
told-or-not (l ∷ ls) (inl tell) none = telling-or-comment (words_of l) tell none.0
told-or-not (l ∷ ls) (inr tell) none = told-or-not ls tell none.1

told-same : (lines : List (List ℕ)) (a b : Bool) → IsToldBy a lines → IsToldBy b lines → a ≡ b
told-same lines true true p q = refl
told-same lines true false p q = absurd (told-or-not lines p q)
told-same lines false true p q = absurd (told-or-not lines q p)
told-same lines false false p q = refl

-- the first of these lines is one of a refutation, if there is one
abbrev BeginOther : List (List ℕ) → Type 0
BeginOther [] = Unit {0}
BeginOther (l ∷ ls) = IsOther (words_of l)

begin-other : (rest : List ℕ) → (rest ≡ []) ⊎ BeginsOther rest → BeginOther (lines_of rest)
begin-other rest (inl none) = subst (λ (r : List ℕ). BeginOther (lines_of r)) (sym none) tt
begin-other rest (inr some) = subst BeginOther (sym (ap lines_of some.is ∙ lines_of-cut some.line some.left some.one)) some.other

fronts-same : (ls ms xs ys : List (List ℕ)) → AreBefore ls → AreBefore ms → BeginOther xs → BeginOther ys → ls ++ xs ≡ ms ++ ys → ls ≡ ms
fronts-same [] [] xs ys p q x y e = refl
fronts-same [] (m ∷ ms) xs ys p q x y e = absurd (other-or-before (words_of m) (subst BeginOther e x) q.0)
fronts-same (l ∷ ls) [] xs ys p q x y e = absurd (other-or-before (words_of l) (subst BeginOther (sym e) y) p.0)
fronts-same (l ∷ ls) (m ∷ ms) xs ys p q x y e =
    let first : l ≡ m = ap (λ (zs : List (List ℕ)). get_or zs 0 []) e in
    let others : ls ≡ ms = fronts-same ls ms xs ys p.1 q.1 x y (ap (drop 1) e) in
    λ i. first i ∷ others i

-- two cuts of a text
pub record SameCut (lines others : List (List ℕ)) (told tells : Bool) (rest later : List ℕ) : Type 0 where
  pub lines_same : lines ≡ others
  pub told_same : told ≡ tells
  pub behind : closed rest ≡ closed later

pub cut-same : (text rest later : List ℕ) (lines others : List (List ℕ)) (told tells : Bool) → IsCut text lines told rest → IsCut text others tells later → SameCut lines others told tells rest later
cut-same text rest later lines others told tells p q =
    let all : lines ++ lines_of (closed rest) ≡ others ++ lines_of (closed later) =
    sym (lines_behind (closed text) (closed rest) lines p.are_lines p.parts).lines ∙ (lines_behind (closed text) (closed later) others q.are_lines q.parts).lines in
    let same : lines ≡ others =
    fronts-same lines others (lines_of (closed rest)) (lines_of (closed later)) p.before q.before (begin-other (closed rest) p.behind) (begin-other (closed later) q.behind) all in
    record {
      lines_same = same;
      told_same = told-same lines told tells p.told_is (subst (IsToldBy tells) (sym same) q.told_is);
      behind =
          append_cancel_left (join_lines lines) (closed rest) (closed later)
          (sym p.parts ∙ q.parts ∙ ap (λ (ls : List (List ℕ)). join_lines ls ++ closed later) (sym same));
    }
