-- Which line may stand next, by its first word.
use Rattle.std.proofs.Common.{◌≡◌, ℕ, ◌≤◌, inl, inr, Bool, true, false, List, [], ◌∷◌, ◌++◌, codes, drop, refl, sym, ap, subst, ◌∙◌, ◌^◌}
use Rattle.std.specs.Str.{bytes_eq}
use Rattle.std.proofs.lemmas.Bool.{true≢false}
use Rattle.std.proofs.lemmas.Slice.Eq.{bytes_eq-Decides}
use Rattle.bee_text.specs.Gaps.{words_of}
use Rattle.order_ints.specs.declared.literal.Lit.{Lit}
use Rattle.sat_front.specs.CnfLines.{is_skipped}
use Rattle.drup_check.specs.Rup.{Rup}
use Rattle.drup_check.specs.DrupLines.{SpellsClause, is_deletion, Says, NextClauses}
use Rattle.drup_check.proofs.Spelled.{spells_same}

not_true : (b : Bool) → (b ≡ true → ⊥) → b ≡ false
not_true true other = absurd (other refl)
not_true false other = refl

module _ (vars : ℕ) (cs : List (List Lit)) (words : List (List ℕ)) (first : List ℕ) (behind : List (List ℕ)) (cut : words ≡ first ∷ behind) where
  deletion : first ≡ codes "d" → is_deletion words ≡ true
  deletion e = ap is_deletion cut ∙ (bytes_eq-Decides first (codes "d")).1 e

  addition : (first ≡ codes "d" → ⊥) → is_deletion words ≡ false
  addition other = ap is_deletion cut ∙ not_true (bytes_eq first (codes "d")) (λ e. other ((bytes_eq-Decides first (codes "d")).0 e))

  pub deletes : first ≡ codes "d" → (clause : List Lit) → SpellsClause vars behind clause → Says vars cs words cs
  deletes e clause spelled =
      inl (deletion e, record { clause = clause; spelled = subst (λ (ws : List (List ℕ)). SpellsClause vars ws clause) (sym (ap (drop 1) cut)) spelled; after_is = refl })

  pub no_deletion : first ≡ codes "d" → ((clause : List Lit) → SpellsClause vars behind clause → ⊥) → (t : List (List Lit)) → Says vars cs words t → ⊥
  no_deletion e none t (inl p) = none p.1.clause (subst (λ (ws : List (List ℕ)). SpellsClause vars ws p.1.clause) (ap (drop 1) cut) p.1.spelled)
  no_deletion e none t (inr p) = true≢false (sym (deletion e) ∙ p.0)

  pub adds : (first ≡ codes "d" → ⊥) → (clause : List Lit) → SpellsClause vars words clause → Rup cs clause → Says vars cs words (cs ++ clause ∷ [])
  adds other clause spelled shown = inr (addition other, record { clause = clause; spelled = spelled; shown = shown; after_is = refl })

  pub no_addition : (first ≡ codes "d" → ⊥) → ((clause : List Lit) → SpellsClause vars words clause → Rup cs clause → ⊥) → (t : List (List Lit)) → Says vars cs words t → ⊥
  no_addition other none t (inl p) = true≢false (sym p.0 ∙ addition other)
  no_addition other none t (inr p) = none p.1.clause p.1.spelled p.1.shown

  -- where the clause that is spelled is not shown, none is
  pub not_shown : vars ≤ 2 ^ 27 → (clause : List Lit) → SpellsClause vars words clause → (Rup cs clause → ⊥) → (d : List Lit) → SpellsClause vars words d → Rup cs d → ⊥
  not_shown small clause spelled fails d spells shown = fails (subst (Rup cs) (spells_same vars small words d clause spells spelled) shown)

not_skipped : (words : List (List ℕ)) (first : List ℕ) (behind : List (List ℕ)) → words ≡ first ∷ behind → (first ≡ codes "c" → ⊥) → is_skipped words ≡ false
not_skipped words first behind cut other = ap is_skipped cut ∙ not_true (bytes_eq first (codes "c")) (λ e. other ((bytes_eq-Decides first (codes "c")).0 e))

-- a line that says something may stand next exactly where it says what may stand next
module _ (vars : ℕ) (cs : List (List Lit)) (line : List ℕ) (first : List ℕ) (behind : List (List ℕ)) (cut : words_of line ≡ first ∷ behind) (other : first ≡ codes "c" → ⊥) where
  pub said : (t : List (List Lit)) → Says vars cs (words_of line) t → NextClauses vars cs line t
  said t h = inr (not_skipped (words_of line) first behind cut other, h)

  pub none_said : ((t : List (List Lit)) → Says vars cs (words_of line) t → ⊥) → (t : List (List Lit)) → NextClauses vars cs line t → ⊥
  none_said none t (inl p) = true≢false (sym p.0 ∙ not_skipped (words_of line) first behind cut other)
  none_said none t (inr p) = none t p.1

-- a line that says nothing
pub skipped_empty : (vars : ℕ) (cs : List (List Lit)) (line : List ℕ) → words_of line ≡ [] → NextClauses vars cs line cs
skipped_empty vars cs line none = inl (ap is_skipped none, refl)

pub skipped_comment : (vars : ℕ) (cs : List (List Lit)) (line first : List ℕ) (behind : List (List ℕ)) → words_of line ≡ first ∷ behind → first ≡ codes "c" → NextClauses vars cs line cs
skipped_comment vars cs line first behind cut is = inl (ap is_skipped cut ∙ (bytes_eq-Decides first (codes "c")).1 is, refl)

-- a line leads to one standing alone
says_same : (vars : ℕ) → vars ≤ 2 ^ 27 → (cs : List (List Lit)) (words : List (List ℕ)) (t u : List (List Lit)) → Says vars cs words t → Says vars cs words u → t ≡ u
says_same vars small cs words t u (inl p) (inl q) = p.1.after_is ∙ sym q.1.after_is
says_same vars small cs words t u (inl p) (inr q) = absurd (true≢false (sym p.0 ∙ q.0))
says_same vars small cs words t u (inr p) (inl q) = absurd (true≢false (sym q.0 ∙ p.0))
says_same vars small cs words t u (inr p) (inr q) =
    p.1.after_is ∙ ap (λ (c : List Lit). cs ++ c ∷ []) (spells_same vars small words p.1.clause q.1.clause p.1.spelled q.1.spelled) ∙ sym q.1.after_is

pub next_same : (vars : ℕ) → vars ≤ 2 ^ 27 → (s t u : List (List Lit)) (line : List ℕ) → NextClauses vars s line t → NextClauses vars s line u → t ≡ u
next_same vars small s t u line (inl p) (inl q) = p.1 ∙ sym q.1
next_same vars small s t u line (inl p) (inr q) = absurd (true≢false (sym p.0 ∙ q.0))
next_same vars small s t u line (inr p) (inl q) = absurd (true≢false (sym q.0 ∙ p.0))
next_same vars small s t u line (inr p) (inr q) = says_same vars small s (words_of line) t u p.1 q.1
