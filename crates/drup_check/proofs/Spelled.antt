-- Words that spell a clause, as they are read.
use Rattle.std.proofs.Common.{◌≡◌, ℕ, ◌+◌, ◌^◌, ◌<◌, ◌≤◌, Bool, true, false, List, [], ◌∷◌, ◌++◌, codes, length, get_or, drop, map, refl, sym, ap, subst, ◌∙◌, arith, append_assoc}
use Rattle.std.specs.Prelude.{Option, Some, None}
use Rattle.std.proofs.lemmas.List.{map-append}
use Rattle.bee_text.proofs.NumberLemmas.{decimal_leads_by_zero}
use Rattle.order_ints.specs.declared.literal.Lit.{Lit}
use Rattle.order_ints.specs.Place.{LitBelow, ClauseBelow}
use Rattle.ledger_text.specs.Words.{literal_word}
use Rattle.ledger_text.proofs.Spelled.{signed_word, literal_word_tells}
use Rattle.drup_check.specs.DrupLines.{SpellsClause}

pub none_some : {X : Type 0} (o : Option X) (a : X) → o ≡ None → o ≡ Some a → ⊥
none_some o a e f = absurd (cc)

-- no literal is spelled by 0
signed_nonzero : (p : Bool) (v : ℕ) → 1 ≤ v → v < 10 ^ 64 → signed_word p v ≡ codes "0" → ⊥
signed_nonzero true v low small e =
    let zero : v ≡ 0 = decimal_leads_by_zero v small (ap (λ t. get_or t 0 0) e) in
    omega arith
signed_nonzero false v low small e = absurd (omega (arith, ap (λ t. get_or t 0 0) e))

literal_nonzero : (n : ℕ) (l : Lit) → n ≤ 2 ^ 32 → LitBelow n l → literal_word l ≡ codes "0" → ⊥
literal_nonzero n l bound below e = signed_nonzero l.positive l.var below.0 (omega (arith, below.1)) e

-- literals are read, and these words are left
pub record SpelledTo (vars : ℕ) (all : List (List ℕ)) (lits : List Lit) (left : List (List ℕ)) : Type 0 where
  pub read : all ≡ map literal_word lits ++ left
  pub below : ClauseBelow (vars + 1) lits

pub spelled_none : (vars : ℕ) (all : List (List ℕ)) → SpelledTo vars all [] all
spelled_none vars all = record { read = refl; below = tt }

clause_push : (n : ℕ) (c : List Lit) (l : Lit) → ClauseBelow n c → LitBelow n l → ClauseBelow n (c ++ l ∷ [])
clause_push n [] l h k = (k, tt)
clause_push n (m ∷ c) l h k = (h.0, clause_push n c l h.1 k)

module _ (vars : ℕ) (small : vars ≤ 2 ^ 27) where
  nonzero : (l : Lit) → LitBelow (vars + 1) l → literal_word l ≡ codes "0" → ⊥
  nonzero l below e = literal_nonzero (vars + 1) l (omega arith) below e

  -- words that spell a clause, behind literals, spell one
  rest_spells : (lits c : List Lit) (left : List (List ℕ)) → ClauseBelow (vars + 1) lits → ClauseBelow (vars + 1) c → map literal_word lits ++ left ≡ map literal_word c ++ codes "0" ∷ []
      → (d : List Lit) × SpellsClause vars left d
  rest_spells [] c left hl hc e = (c, record { spelled = e; below = hc })
  rest_spells (l ∷ lits) [] left hl hc e = absurd (nonzero l hl.0 (ap (λ ws. get_or ws 0 []) e))
  rest_spells (l ∷ lits) (m ∷ c) left hl hc e = rest_spells lits c left hl.1 hc.1 (ap (drop 1) e)

  same_clause : (c d : List Lit) → ClauseBelow (vars + 1) c → ClauseBelow (vars + 1) d → map literal_word c ++ codes "0" ∷ [] ≡ map literal_word d ++ codes "0" ∷ [] → c ≡ d
  same_clause [] [] hc hd e = refl
  same_clause [] (m ∷ d) hc hd e = absurd (nonzero m hd.0 (ap (λ ws. get_or ws 0 []) (sym e)))
  same_clause (l ∷ c) [] hc hd e = absurd (nonzero l hc.0 (ap (λ ws. get_or ws 0 []) e))
  same_clause (l ∷ c) (m ∷ d) hc hd e =
      let n = vars + 1 in
      let first : l ≡ m = literal_word_tells n n l m (omega arith) (omega arith) hc.0 hd.0 (ap (λ ws. get_or ws 0 []) e) in
      let rest : c ≡ d = same_clause c d hc.1 hd.1 (ap (drop 1) e) in
      λ i. first i ∷ rest i

  -- words spell one clause
  pub spells_same : (words : List (List ℕ)) (c d : List Lit) → SpellsClause vars words c → SpellsClause vars words d → c ≡ d
  spells_same words c d p q = same_clause c d p.below q.below (sym p.spelled ∙ q.spelled)

  module _ (all : List (List ℕ)) (lits : List Lit) (left : List (List ℕ)) (h : SpelledTo vars all lits left) where
    left_spells : (c : List Lit) → SpellsClause vars all c → (d : List Lit) × SpellsClause vars left d
    left_spells c p = rest_spells lits c left h.below p.below (sym h.read ∙ p.spelled)

    -- no word is left
    pub no_end : left ≡ [] → (c : List Lit) → SpellsClause vars all c → ⊥
    no_end none c p = let d = left_spells c p in by d.0 d.1
      where
        by : (d : List Lit) → SpellsClause vars left d → ⊥
        by [] q = absurd (omega (arith, ap length (sym none ∙ q.spelled)))
        by (m ∷ d) q = absurd (omega (arith, ap length (sym none ∙ q.spelled)))

    module _ (w : List ℕ) (ws : List (List ℕ)) (cut : left ≡ w ∷ ws) where
      -- a literal is read
      pub spelled_literal : (next : List Lit) (l : Lit) → LitBelow (vars + 1) l → w ≡ literal_word l → next ≡ lits ++ l ∷ [] → SpelledTo vars all next ws
      spelled_literal next l below is more =
          subst (λ (ls : List Lit). SpelledTo vars all ls ws) (sym more)
          (record {
            read = h.read ∙ ap (λ (ls : List (List ℕ)). map literal_word lits ++ ls) (cut ∙ ap (λ (v : List ℕ). v ∷ ws) is) ∙ sym (append_assoc (map literal_word lits) (literal_word l ∷ []) ws)
                ∙ ap (λ (ls : List (List ℕ)). ls ++ ws) (sym (map-append literal_word lits (l ∷ [])));
            below = clause_push (vars + 1) lits l h.below below;
          })

      -- the last word is read
      pub spelled_last : w ≡ codes "0" → ws ≡ [] → SpellsClause vars all lits
      spelled_last is none = record { spelled = h.read ∙ ap (λ (ls : List (List ℕ)). map literal_word lits ++ ls) (cut ∙ (λ i. is i ∷ none i)); below = h.below }

      -- words stand behind 0
      pub not_last : w ≡ codes "0" → (v : List ℕ) (vs : List (List ℕ)) → ws ≡ v ∷ vs → (c : List Lit) → SpellsClause vars all c → ⊥
      not_last is v vs more c p = let d = left_spells c p in by d.0 d.1
        where
          by : (d : List Lit) → SpellsClause vars left d → ⊥
          by [] q = absurd (omega (arith, ap length (sym more ∙ ap (drop 1) (sym cut ∙ q.spelled))))
          by (m ∷ d) q = nonzero m q.below.0 (sym (ap (λ us. get_or us 0 []) (sym cut ∙ q.spelled)) ∙ is)

      -- a word is neither
      pub no_literal : (w ≡ codes "0" → ⊥) → ((l : Lit) → LitBelow (vars + 1) l → w ≡ literal_word l → ⊥) → (c : List Lit) → SpellsClause vars all c → ⊥
      no_literal other none c p = let d = left_spells c p in by d.0 d.1
        where
          by : (d : List Lit) → SpellsClause vars left d → ⊥
          by [] q = other (ap (λ us. get_or us 0 []) (sym cut ∙ q.spelled))
          by (m ∷ d) q = none m q.below.0 (ap (λ us. get_or us 0 []) (sym cut ∙ q.spelled))
