-- What a line says.
use Rattle.std.proofs.Common.{◌≡◌, ℕ, Bool, true, false, List, [], ◌∷◌, codes, refl, sym, ap, subst, ◌∙◌, inl, inr}
use Rattle.std.specs.Prelude.{Option, None, Some, MatchBool}
use Rattle.std.specs.Str.{bytes_eq}
use Rattle.std.proofs.lemmas.Bool.{true≢false}
use Rattle.std.proofs.lemmas.Slice.Eq.{bytes_eq-Decides}
use Rattle.bee_text.specs.Gaps.{words_of}
use Rattle.bee_text.specs.Words.{join_words}
use Rattle.order_ints.specs.declared.cnf.Cnf.{Cnf}
use Rattle.proof_check.specs.declared.line.ProofLine.{ProofLine}
use Rattle.proof_check.specs.Lines.{AreBytesOf}
use Rattle.sat_front.specs.CnfLines.{is_skipped}
use Rattle.lrat_check.specs.LratLines.{SoFar, after_line, Says, NextProof}

not_true : (b : Bool) → (b ≡ true → ⊥) → b ≡ false
not_true true other = absurd (other refl)
not_true false other = refl

none_some : {X : Type 0} (o : Option X) (a : X) → o ≡ None → o ≡ Some a → ⊥
none_some o a e f = absurd (cc)

pub not_skipped : (words : List (List ℕ)) (first : List ℕ) (behind : List (List ℕ)) → words ≡ first ∷ behind → (first ≡ codes "c" → ⊥) → is_skipped words ≡ false
not_skipped words first behind cut other = ap is_skipped cut ∙ not_true (bytes_eq first (codes "c")) (λ e. other ((bytes_eq-Decides first (codes "c")).0 e))

-- what an answer says
pub match-true : (A B : Type 0) (b : Bool) → b ≡ true → MatchBool b A B → A
match-true A B true e h = h
match-true A B false e h = absurd (true≢false (sym e))

pub match-false : (A B : Type 0) (b : Bool) → b ≡ false → MatchBool b A B → B
match-false A B true e h = absurd (true≢false e)
match-false A B false e h = h

module _ (cnf : Cnf) (s : SoFar) where
  -- a line that says nothing
  pub skipped_empty : (line : List ℕ) → words_of line ≡ [] → NextProof cnf s line s
  skipped_empty line none = inl (ap is_skipped none, refl)

  pub skipped_comment : (line first : List ℕ) (behind : List (List ℕ)) → words_of line ≡ first ∷ behind → first ≡ codes "c" → NextProof cnf s line s
  skipped_comment line first behind cut is = inl (ap is_skipped cut ∙ (bytes_eq-Decides first (codes "c")).1 is, refl)

  -- another may stand next exactly where it says what fits
  module _ (line first : List ℕ) (behind : List (List ℕ)) (cut : words_of line ≡ first ∷ behind) (other : first ≡ codes "c" → ⊥) where
    said : (t : SoFar) → Says cnf s (first ∷ behind) t → NextProof cnf s line t
    said t h = inr (not_skipped (words_of line) first behind cut other, subst (λ (ws : List (List ℕ)). Says cnf s ws t) (sym cut) h)

    none_said : ((t : SoFar) → Says cnf s (first ∷ behind) t → ⊥) → (t : SoFar) → NextProof cnf s line t → ⊥
    none_said none t (inl p) = true≢false (sym p.0 ∙ not_skipped (words_of line) first behind cut other)
    none_said none t (inr p) = none t (subst (λ (ws : List (List ℕ)). Says cnf s ws t) cut p.1)

    pub line_taken : (taken : Bool) (t : SoFar) → MatchBool taken (Says cnf s (first ∷ behind) t) ((u : SoFar) → Says cnf s (first ∷ behind) u → ⊥)
        → MatchBool taken (NextProof cnf s line t) ((u : SoFar) → NextProof cnf s line u → ⊥)
    line_taken true t h = said t h
    line_taken false t h = none_said h

  -- words of which the line is known that they spell
  module _ (words : List (List ℕ)) (line : ProofLine) (spelled : AreBytesOf line (join_words words)) (only : (l : ProofLine) → AreBytesOf l (join_words words) → line ≡ l) where
    says : (t : SoFar) → after_line cnf s line ≡ Some t → Says cnf s words t
    says t e = record { line = line; spelled = spelled; after = e }

    says_none : after_line cnf s line ≡ None → (t : SoFar) → Says cnf s words t → ⊥
    says_none e t h = none_some (after_line cnf s line) t e (ap (after_line cnf s) (only h.line h.spelled) ∙ h.after)

    pub said_taken : (taken : Bool) (t : SoFar) → MatchBool taken (after_line cnf s line ≡ Some t) (after_line cnf s line ≡ None)
        → MatchBool taken (Says cnf s words t) ((u : SoFar) → Says cnf s words u → ⊥)
    said_taken true t h = says t h
    said_taken false t h = says_none h

  pub unread : (words : List (List ℕ)) → ((l : ProofLine) → AreBytesOf l (join_words words) → ⊥) → (t : SoFar) → Says cnf s words t → ⊥
  unread words none t h = none h.line h.spelled
