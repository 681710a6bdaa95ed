-- Literals of a clause that are read.
use Rattle.std.proofs.Common.{◌≡◌, ℕ, List, [], ◌∷◌, ◌++◌, length, map, codes, drop, get_or, refl, sym, ap, subst, ◌∙◌, arith, length-append}
use Rattle.std.proofs.lemmas.List.{map-append, append_assoc}
use Rattle.order_ints.specs.declared.literal.Lit.{Lit}
use Rattle.order_ints.specs.Place.{LitBelow, ClauseBelow}
use Rattle.ledger_text.specs.Words.{literal_word}
use Rattle.dimacs_out.specs.CompiledText.{clause_words}

-- the literals that are still to come, and 0 behind them
pub record LiteralsLeft (n : ℕ) (words : List (List ℕ)) : Type 0 where
  pub left : List Lit
  pub spelled : words ≡ clause_words left
  pub below : ClauseBelow n left

pub left_next : (n : ℕ) (w : List ℕ) (ws : List (List ℕ)) → (w ≡ codes "0" → ⊥) → LiteralsLeft n (w ∷ ws) → LiteralsLeft n ws
left_next n w ws nonzero h = by h.left h.spelled h.below
  where
    by : (left : List Lit) → w ∷ ws ≡ clause_words left → ClauseBelow n left → LiteralsLeft n ws
    by [] same below = absurd (nonzero (ap (λ vs. get_or vs 0 []) same))
    by (l ∷ left) same below = record { left = left; spelled = ap (drop 1) same; below = below.1 }

pub left_misfit : (n : ℕ) (w : List ℕ) (ws : List (List ℕ)) → (w ≡ codes "0" → ws ≡ [] → ⊥) → ((l : Lit) → LitBelow n l → w ≡ literal_word l → ⊥) → LiteralsLeft n (w ∷ ws) → ⊥
left_misfit n w ws ends none h = by h.left h.spelled h.below
  where
    by : (left : List Lit) → w ∷ ws ≡ clause_words left → ClauseBelow n left → ⊥
    by [] same below = ends (ap (λ vs. get_or vs 0 []) same) (ap (drop 1) same)
    by (l ∷ left) same below = none l below.0 (ap (λ vs. get_or vs 0 []) same)

left_some : (n : ℕ) (words : List (List ℕ)) → LiteralsLeft n words → words ≡ [] → ⊥
left_some n words h none = omega (arith, ap length (sym none ∙ h.spelled), length-append (map literal_word h.left) (codes "0" ∷ []))

below-push : (n : ℕ) (c : List Lit) (l : Lit) → ClauseBelow n c → LitBelow n l → ClauseBelow n (c ++ l ∷ [])
below-push n [] l h k = (k, tt)
below-push n (m ∷ c) l h k = (h.0, below-push n c l h.1 k)

-- so many literals are read
pub record LiteralsSoFar (n : ℕ) (all words : List (List ℕ)) (lits : List Lit) : Type 0 where
  pub below : ClauseBelow n lits
  pub spelled : all ≡ map literal_word lits ++ words
  pub left : (c : List Lit) → ClauseBelow n c → all ≡ clause_words c → LiteralsLeft n words

pub no_literals : (n : ℕ) (all : List (List ℕ)) → LiteralsSoFar n all all []
no_literals n all = record { below = tt; spelled = refl; left = λ c h e. record { left = c; spelled = e; below = h } }

pub literal_read : (n : ℕ) (all words : List (List ℕ)) (lits after : List Lit) (w : List ℕ) (ws : List (List ℕ)) (l : Lit) → LiteralsSoFar n all words lits → words ≡ w ∷ ws
    → (w ≡ codes "0" → ⊥) → LitBelow n l → w ≡ literal_word l → after ≡ lits ++ l ∷ [] → LiteralsSoFar n all ws after
literal_read n all words lits after w ws l h cut nonzero below spelled after_is =
    let P : List Lit → Type 0 = λ xs. LiteralsSoFar n all ws xs in
    subst P (sym after_is) (record {
      below = below-push n lits l h.below below;
      spelled = h.spelled ∙ ap (λ vs. map literal_word lits ++ vs) (cut ∙ ap (λ v. v ∷ ws) spelled) ∙ sym (append_assoc (map literal_word lits) (literal_word l ∷ []) ws) ∙ ap (λ vs. vs ++ ws) (sym (map-append literal_word lits (l ∷ [])));
      left = λ c k e. left_next n w ws nonzero (let Q : List (List ℕ) → Type 0 = λ vs. LiteralsLeft n vs in subst Q cut (h.left c k e));
    })

pub literals_misfit : (n : ℕ) (all words : List (List ℕ)) (lits : List Lit) (w : List ℕ) (ws : List (List ℕ)) → LiteralsSoFar n all words lits → words ≡ w ∷ ws
    → (w ≡ codes "0" → ws ≡ [] → ⊥) → ((l : Lit) → LitBelow n l → w ≡ literal_word l → ⊥) → (c : List Lit) → ClauseBelow n c → all ≡ clause_words c → ⊥
literals_misfit n all words lits w ws h cut ends none c below e =
    let Q : List (List ℕ) → Type 0 = λ vs. LiteralsLeft n vs in
    left_misfit n w ws ends none (subst Q cut (h.left c below e))

pub literals_open : (n : ℕ) (all words : List (List ℕ)) (lits : List Lit) → LiteralsSoFar n all words lits → words ≡ [] → (c : List Lit) → ClauseBelow n c → all ≡ clause_words c → ⊥
literals_open n all words lits h none c below e = left_some n words (h.left c below e) none

pub literals_whole : (n : ℕ) (all words : List (List ℕ)) (lits : List Lit) (w : List ℕ) (ws : List (List ℕ)) → LiteralsSoFar n all words lits → words ≡ w ∷ ws → w ≡ codes "0" → ws ≡ []
    → all ≡ clause_words lits
literals_whole n all words lits w ws h cut zero none = h.spelled ∙ ap (λ vs. map literal_word lits ++ vs) (cut ∙ (λ i. zero i ∷ none i))
