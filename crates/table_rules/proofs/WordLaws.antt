-- Words of short integers: what tells which one is first in a row is what the order of words says, and where the first
-- pairs tell it somewhere, no equation with a name that they don't have is implied.
use Rattle.std.proofs.Common.{◌≡◌, ℕ, zero, suc, ◌+◌, Bool, true, false, not, ◌&&◌, cond, eqb, ltb, leb, length, take, List, [], ◌∷◌, ◌++◌, Contains, inl, pos, ◌+ℤ◌, refl, sym, ap, subst, ◌∙◌, arith}
use Rattle.std.specs.Prelude.{Option, None, Some, IsNone, IfSome, int_lt}
use Rattle.std.specs.Bool.{beq}
use Rattle.std.specs.Option.{option_or}
use Rattle.std.specs.Ordering.{int_eq}
use Rattle.std.proofs.lemmas.Bool.{ltb-true, eq-eqb, ne_eqb, eqb-true, eqb-false}
use Rattle.std.proofs.lemmas.List.Elements.{Contains-append_left, Contains-append_right}
use Rattle.order_ints.specs.declared.literal.Lit.{Lit}
use Rattle.order_ints.specs.declared.atom.Atom.{Atom}
use Rattle.order_ints.specs.declared.atom.Atom.TheVariants.{True, False, Of}
use Rattle.order_ints.specs.declared.order_int.OrdInt.{OrdInt}
use Rattle.order_ints.specs.Truth.{Valuation, lit_truth, atom_truth}
use Rattle.order_ints.specs.OrderValue.{gains, value_of, in_order}
use Rattle.core_forms.specs.declared.equation.Equation.{Equation}
use Rattle.core_forms.specs.declared.form.Core.TheVariants.{Lex}
use Rattle.core_forms.specs.Values.{all_ordered, values, is_before}
use Rattle.core_forms.specs.Variables.{atom_vars, steps_vars, ints_vars, AreAmong, SameOn}
use Rattle.core_forms.specs.OwnVars.{with_vars, if_few}
use Rattle.core_forms.specs.Meaning.{core_truth}
use Rattle.core_forms.proofs.OwnVars.{with_vars-members}
use Rattle.table_rules.specs.Rows.{are_equal_in}
use Rattle.table_rules.specs.Pairs.{pairs_over, IsIn}
use Rattle.table_rules.specs.Instances.{IsInstance, is_over, is_instance_of, found_at}
use Rattle.table_rules.specs.Words.{are_short, word_vars, which_first, is_the_told, is_told, AreEqualWhereTold}
use Rattle.table_rules.proofs.RowLaws.{and-true, true-and, beq-refl}
use Rattle.table_rules.proofs.PairLaws.{same-lit, normal}
use Rattle.table_rules.proofs.InstanceLaws.{listed-has_var, instance-parts, is-false, found-none}

-- short integers are ordered
short-steps : (σ : Valuation) (steps : List (Atom × ℕ)) → ltb (length steps) 2 ≡ true → in_order σ steps ≡ true
short-steps σ [] h = refl
short-steps σ (s ∷ []) h = elim (atom_truth σ s.0) as (λ t. cond t true true ≡ true) [ true ↦ refl | false ↦ refl ]
short-steps σ (s ∷ t ∷ steps) h = absurd (omega (arith, ltb-true (length (s ∷ t ∷ steps)) 2 h))

short-ordered : (σ : Valuation) (ints : List OrdInt) → are_short ints ≡ true → all_ordered σ ints ≡ true
short-ordered σ [] h = refl
short-ordered σ (a ∷ ints) h =
    let both = and-true (ltb (length a.steps) 2) (are_short ints) h in
    true-and (in_order σ a.steps) (all_ordered σ ints) (short-steps σ a.steps both.0) (short-ordered σ ints both.1)

-- what is told, or else another truth value
abbrev or_else : Option Bool → Bool → Bool
or_else None other = other
or_else (Some told) other = told

before-first : (σ : Valuation) (strict : Bool) (front back : List OrdInt) → is_before strict (values σ front) (values σ back) ≡ or_else (which_first σ front back) (not strict)
before-first σ strict [] back = refl
before-first σ strict (a ∷ front) [] = refl
before-first σ strict (a ∷ front) (b ∷ back) = by (int_eq (value_of σ a) (value_of σ b)) (before-first σ strict front back)
  where
    by : (t : Bool) → is_before strict (values σ front) (values σ back) ≡ or_else (which_first σ front back) (not strict)
        → cond t (is_before strict (values σ front) (values σ back)) (int_lt (value_of σ a) (value_of σ b))
        ≡ or_else (cond t (which_first σ front back) (Some (int_lt (value_of σ a) (value_of σ b)))) (not strict)
    by true h = h
    by false h = refl

-- where the atom of short words is right, their order is met
told-met : (σ : Valuation) (r : Atom) (strict : Bool) (front back : List OrdInt) → are_short front ≡ true → are_short back ≡ true
    → is_told σ r (Some (not strict)) front back ≡ true → core_truth σ (Lex r strict front back) ≡ true
told-met σ r strict front back f b h =
    true-and (all_ordered σ front && all_ordered σ back) (beq (atom_truth σ r) (is_before strict (values σ front) (values σ back)))
    (true-and (all_ordered σ front) (all_ordered σ back) (short-ordered σ front f) (short-ordered σ back b))
    (ap (beq (atom_truth σ r)) (before-first σ strict front back) ∙ right (which_first σ front back) h)
  where
    right : (o : Option Bool) → is_the_told (atom_truth σ r) (option_or o (Some (not strict))) ≡ true → beq (atom_truth σ r) (or_else o (not strict)) ≡ true
    right None k = k
    right (Some told) k = k

-- what the first pairs tell, the whole words tell
first-told : (σ : Valuation) (t : Bool) (m : ℕ) (front back : List OrdInt) (equal : Option Bool)
    → is_the_told t (option_or (which_first σ (take m front) (take m back)) None) ≡ true → is_the_told t (option_or (which_first σ front back) equal) ≡ true
first-told σ t zero front back equal h = absurd (cc)
first-told σ t (suc m) [] back equal h = absurd (cc)
first-told σ t (suc m) (a ∷ front) [] equal h = absurd (cc)
first-told σ t (suc m) (a ∷ front) (b ∷ back) equal h = by (int_eq (value_of σ a) (value_of σ b)) h (first-told σ t m front back equal)
  where
    by : (s : Bool) → is_the_told t (option_or (cond s (which_first σ (take m front) (take m back)) (Some (int_lt (value_of σ a) (value_of σ b)))) None) ≡ true
        → (is_the_told t (option_or (which_first σ (take m front) (take m back)) None) ≡ true → is_the_told t (option_or (which_first σ front back) equal) ≡ true)
        → is_the_told t (option_or (cond s (which_first σ front back) (Some (int_lt (value_of σ a) (value_of σ b)))) equal) ≡ true
    by true k rest = rest k
    by false k rest = k

-- what depends on variables alone
module _ (σ τ : Valuation) where
  left_same : (xs ys : List ℕ) → SameOn (xs ++ ys) σ τ → SameOn xs σ τ
  left_same xs ys h v c = h v (Contains-append_left xs ys v c)

  right_same : (xs ys : List ℕ) → SameOn (xs ++ ys) σ τ → SameOn ys σ τ
  right_same xs ys h v c = h v (Contains-append_right xs ys v c)

  atom-same : (a : Atom) → SameOn (atom_vars a) σ τ → atom_truth σ a ≡ atom_truth τ a
  atom-same True h = refl
  atom-same False h = refl
  atom-same (Of l) h = ap (λ b. cond l.positive b (not b)) (h l.var (0, omega arith, refl))

  gains-same : (steps : List (Atom × ℕ)) → SameOn (steps_vars steps) σ τ → gains σ steps ≡ gains τ steps
  gains-same [] h = refl
  gains-same (s ∷ steps) h =
      ap (λ t. cond t s.1 0 + gains σ steps) (atom-same s.0 (left_same (atom_vars s.0) (steps_vars steps) h))
      ∙ ap (λ n. cond (atom_truth τ s.0) s.1 0 + n) (gains-same steps (right_same (atom_vars s.0) (steps_vars steps) h))

  value-same : (a : OrdInt) → SameOn (steps_vars a.steps) σ τ → value_of σ a ≡ value_of τ a
  value-same a h = ap (λ n. a.base +ℤ pos n) (gains-same a.steps h)

  first-same : (front back : List OrdInt) → SameOn (ints_vars front) σ τ → SameOn (ints_vars back) σ τ → which_first σ front back ≡ which_first τ front back
  first-same [] back h k = refl
  first-same (a ∷ front) [] h k = refl
  first-same (a ∷ front) (b ∷ back) h k =
      let e = value-same a (left_same (steps_vars a.steps) (ints_vars front) h) in
      let f = value-same b (left_same (steps_vars b.steps) (ints_vars back) k) in
      let r = first-same front back (right_same (steps_vars a.steps) (ints_vars front) h) (right_same (steps_vars b.steps) (ints_vars back) k) in
      cc

  told-same : (r : Atom) (equal : Option Bool) (front back : List OrdInt) → SameOn (word_vars r front back) σ τ → is_told σ r equal front back ≡ is_told τ r equal front back
  told-same r equal front back h =
      let ints = right_same (atom_vars r) (ints_vars front ++ ints_vars back) h in
      let e = atom-same r (left_same (atom_vars r) (ints_vars front ++ ints_vars back) h) in
      let f = first-same front back (left_same (ints_vars front) (ints_vars back) ints) (right_same (ints_vars front) (ints_vars back) ints) in
      ap (λ t. is_the_told t (option_or (which_first σ front back) equal)) e ∙ ap (λ o. is_the_told (atom_truth τ r) (option_or o equal)) f

-- a valuation with the other truth value of one variable
abbrev flipped : Valuation → ℕ → Valuation
flipped σ v w = cond (eqb w v) (not (σ w)) (σ w)

flip-other : (σ : Valuation) (v w : ℕ) → (w ≡ v → ⊥) → σ w ≡ flipped σ v w
flip-other σ v w ne = sym (ap (λ t. cond t (not (σ w)) (σ w)) (ne_eqb w v ne))

flip-lit : (σ : Valuation) (v : ℕ) (l : Lit) → l.var ≡ v → lit_truth (flipped σ v) l ≡ not (lit_truth σ l)
flip-lit σ v l e = ap (λ t. cond l.positive t (not t)) (ap (λ t. cond t (not (σ l.var)) (σ l.var)) (eq-eqb l.var v e)) ∙ turned l.positive (σ l.var)
  where
    turned : (p x : Bool) → cond p (not x) (not (not x)) ≡ not (cond p x (not x))
    turned true x = refl
    turned false x = refl

-- a truth value that is turned is not what it was
turned-apart : (x y z w : Bool) → z ≡ not x → w ≡ y → x ≡ y → z ≡ w → ⊥
turned-apart true y z w e f g h = let clash : false ≡ true = sym e ∙ h ∙ f ∙ sym g in cc
turned-apart false y z w e f g h = let clash : true ≡ false = sym e ∙ h ∙ f ∙ sym g in cc

-- two literals of a variable that are equally true are one
one-literal : (σ : Valuation) (l m : Lit) → l.var ≡ m.var → lit_truth σ l ≡ lit_truth σ m → l ≡ m
one-literal σ l m e h = same-lit l m e (signs l.positive m.positive (σ l.var) (h ∙ ap (λ v. cond m.positive (σ v) (not (σ v))) (sym e)))
  where
    signs : (s t x : Bool) → cond s x (not x) ≡ cond t x (not x) → s ≡ t
    signs true true x k = refl
    signs true false true k = absurd (cc)
    signs true false false k = absurd (cc)
    signs false true true k = absurd (cc)
    signs false true false k = absurd (cc)
    signs false false x k = refl

-- a literal is not as true as a different atom under both of two valuations that differ in its variable
module _ (σ : Valuation) (l : Lit) where
  apart : (b : Atom) → (Of l ≡ b → ⊥) → lit_truth σ l ≡ atom_truth σ b → lit_truth (flipped σ l.var) l ≡ atom_truth (flipped σ l.var) b → ⊥
  apart True ne e f = turned-apart (lit_truth σ l) true (lit_truth (flipped σ l.var) l) true (flip-lit σ l.var l refl) refl e f
  apart False ne e f = turned-apart (lit_truth σ l) false (lit_truth (flipped σ l.var) l) false (flip-lit σ l.var l refl) refl e f
  apart (Of m) ne e f = by (eqb m.var l.var) refl
    where
      by : (t : Bool) → eqb m.var l.var ≡ t → ⊥
      by true s = ne (ap (λ (x : Lit). Of x) (one-literal σ l m (sym (eqb-true m.var l.var s)) e))
      by false s =
          let stays = ap (λ t. cond m.positive t (not t)) (sym (flip-other σ l.var m.var (eqb-false m.var l.var s))) in
          turned-apart (lit_truth σ l) (lit_truth σ m) (lit_truth (flipped σ l.var) l) (lit_truth (flipped σ l.var) m) (flip-lit σ l.var l refl) stays e f

pub few-among : (r : Atom) (front back : List OrdInt) (few : Option (List ℕ)) → few ≡ if_few (with_vars (word_vars r front back) [])
    → IfSome few (λ vars. AreAmong (word_vars r front back) vars)
few-among r front back None e = tt
few-among r front back (Some vars) e = subst (AreAmong (word_vars r front back)) (sym (at (leb (length all) 8) e)) (λ v c. (with_vars-members (word_vars r front back) [] v).1 (inl c))
  where
    all : List ℕ
    all = with_vars (word_vars r front back) []

    at : (t : Bool) → Some vars ≡ cond t (Some all) None → vars ≡ all
    at true k = cc
    at false k = absurd (cc)

pub listed : (names few vars : List ℕ) (found : Option (List ℕ)) → IfSome found (λ own. AreAmong names own) → found ≡ Some few → vars ≡ few → AreAmong names vars
listed names few vars None h e is = absurd (cc)
listed names few vars (Some own) h e is = subst (AreAmong names) (let same : own ≡ few = cc in same ∙ sym is) h

-- of an order of short words the first pairs have listed variables, and tell somewhere which word is first; and no pair
-- of atoms over these is equally true wherever the atom is right
module _ (r : Atom) (strict : Bool) (m : ℕ) (front back : List OrdInt) (vars : List ℕ)
    (short_front : are_short front ≡ true) (short_back : are_short back ≡ true)
    (among : AreAmong (word_vars r (take m front) (take m back)) vars) where
  abbrev IsFirstTold : Valuation → Type 0
  IsFirstTold σ = is_told σ r None (take m front) (take m back) ≡ true

  first-met : (σ : Valuation) → IsFirstTold σ → core_truth σ (Lex r strict front back) ≡ true
  first-met σ h = told-met σ r strict front back short_front short_back (first-told σ (atom_truth σ r) m front back (Some (not strict)) h)

  -- so both truth values of another variable meet it
  flip-told : (σ : Valuation) (v : ℕ) → (Contains vars v → ⊥) → IsFirstTold σ → IsFirstTold (flipped σ v)
  flip-told σ v other h =
      sym (told-same σ (flipped σ v) r None (take m front) (take m back) (λ w c. flip-other σ v w (λ e. other (subst (Contains vars) e (among w c))))) ∙ h

  outside : (a b : Atom) → is_over vars a ≡ false → (a ≡ b → ⊥) → ((σ : Valuation) → core_truth σ (Lex r strict front back) ≡ true → atom_truth σ a ≡ atom_truth σ b)
      → (σ : Valuation) → IsFirstTold σ → ⊥
  outside True b over ne implied σ h = cc
  outside False b over ne implied σ h = cc
  outside (Of l) b over ne implied σ h =
      let other : Contains vars l.var → ⊥ = λ c. let clash = listed-has_var vars l.var c in cc in
      apart σ l b ne (implied σ (first-met σ h)) (implied (flipped σ l.var) (first-met (flipped σ l.var) (flip-told σ l.var other h)))

  module _ (σ : Valuation) (told : IsFirstTold σ)
      (none : (p : Atom × Atom) → IsIn p (pairs_over vars) → AreEqualWhereTold r None (take m front) (take m back) p → AreEqualWhereTold r (Some (not strict)) front back p → ⊥) where
    inside : (e : Equation) → IsInstance (Lex r strict front back) e → is_over vars e.a ≡ true → is_over vars e.b ≡ true → ⊥
    inside e h a b =
        let n = normal vars e.a e.b a b h.different in
        let equal : (τ : Valuation) → core_truth τ (Lex r strict front back) ≡ true → are_equal_in τ n.pair ≡ true =
        λ τ met. n.same τ ∙ ap (λ t. beq (atom_truth τ e.a) t) (sym (h.implied τ met)) ∙ beq-refl (atom_truth τ e.a) in
        none n.pair n.listed (λ τ k. equal τ (first-met τ k)) (λ τ k. equal τ (told-met τ r strict front back short_front short_back k))

    never : (e : Equation) → IsInstance (Lex r strict front back) e → ⊥
    never e h = by (is_over vars e.a) refl (is_over vars e.b) refl
      where
        by : (s : Bool) → is_over vars e.a ≡ s → (t : Bool) → is_over vars e.b ≡ t → ⊥
        by true a true b = inside e h a b
        by true a false b = outside e.b e.a b (λ k. h.different (sym k)) (λ τ met. sym (h.implied τ met)) σ told
        by false a t b = outside e.a e.b a h.different h.implied σ told

    pub none-found : found_at (Lex r strict front back) ≡ None
    none-found = by (found_at (Lex r strict front back)) ((found-none (Lex r strict front back) (found_at (Lex r strict front back)) refl).1 (λ e. is-false (Lex r strict front back) (is_instance_of (Lex r strict front back) e) (λ is. never e (instance-parts (Lex r strict front back) e is))))
      where
        by : (o : Option Equation) → IsNone o → o ≡ None
        by None k = refl
        by (Some e) k = absurd (cc)
