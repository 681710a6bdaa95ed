-- The pairs of atoms over variables: both atoms are over them and different, and up to order and to the negation of
-- both there is one for any two atoms over them.
use Rattle.std.proofs.Common.{◌≡◌, ℕ, ◌⊎◌, inl, inr, Bool, true, false, not, ◌||◌, cond, eqb, List, [], ◌∷◌, ◌++◌, refl, sym, ap, subst, ◌∙◌}
use Rattle.std.specs.Bool.{beq}
use Rattle.std.proofs.lemmas.Bool.{eq-eqb, eqb-true, eqb-false}
use Rattle.order_ints.specs.declared.literal.Lit.{Lit}
use Rattle.order_ints.specs.declared.atom.Atom.{Atom}
use Rattle.order_ints.specs.declared.atom.Atom.TheVariants.{True, False, Of}
use Rattle.order_ints.specs.Truth.{Valuation, lit_truth}
use Rattle.table_rules.specs.Rows.{are_equal_in}
use Rattle.table_rules.specs.Pairs.{pairs_with, pairs_among, pairs_over, IsIn}
use Rattle.table_rules.specs.Instances.{has_var, is_over}

abbrev pub lit : ℕ → Bool → Lit
lit v positive = record { var = v; positive = positive }

same-var : (l m : Lit) → Of l ≡ Of m → l.var ≡ m.var
same-var l m e = let same : l ≡ m = cc in ap (λ (x : Lit). x.var) same

pub same-lit : (l m : Lit) → l.var ≡ m.var → l.positive ≡ m.positive → l ≡ m
same-lit l m e s = ap (λ v. lit v l.positive) e ∙ ap (λ b. lit m.var b) s

-- listed variables differ
abbrev pub AreDistinct : List ℕ → Type 0
AreDistinct [] = Unit {0}
AreDistinct (v ∷ vars) = (has_var vars v ≡ false) × AreDistinct vars

-- a variable of a list is its first one or one of the others
by_place : {X : Type 0} (w v : ℕ) (vars : List ℕ) → has_var (w ∷ vars) v ≡ true → (w ≡ v → X) → (has_var vars v ≡ true → X) → X
by_place {X} w v vars h here there = by (eqb w v) refl h
  where
    by : (t : Bool) → eqb w v ≡ t → (t || has_var vars v) ≡ true → X
    by true e k = here (eqb-true w v e)
    by false e k = there k

is-first : (v : ℕ) (vars : List ℕ) → has_var (v ∷ vars) v ≡ true
is-first v vars = ap (λ t. t || has_var vars v) (eq-eqb v v refl)

is-later : (w v : ℕ) (vars : List ℕ) → has_var vars v ≡ true → has_var (w ∷ vars) v ≡ true
is-later w v vars h = elim (eqb w v) as (λ t. (t || has_var vars v) ≡ true) [ true ↦ refl | false ↦ h ]

over-later : (w : ℕ) (vars : List ℕ) (a : Atom) → is_over vars a ≡ true → is_over (w ∷ vars) a ≡ true
over-later w vars True h = refl
over-later w vars False h = refl
over-later w vars (Of l) h = is-later w l.var vars h

in-append : (p : Atom × Atom) (ps qs : List (Atom × Atom)) → IsIn p (ps ++ qs) → IsIn p ps ⊎ IsIn p qs
in-append p [] qs h = inr h
in-append p (x ∷ ps) qs (inl e) = inl (inl e)
in-append p (x ∷ ps) qs (inr h) = further (in-append p ps qs h)
  where
    further : (IsIn p ps ⊎ IsIn p qs) → IsIn p (x ∷ ps) ⊎ IsIn p qs
    further (inl i) = inl (inr i)
    further (inr i) = inr i

in-left : (p : Atom × Atom) (ps qs : List (Atom × Atom)) → IsIn p ps → IsIn p (ps ++ qs)
in-left p [] qs h = absurd h
in-left p (x ∷ ps) qs (inl e) = inl e
in-left p (x ∷ ps) qs (inr h) = inr (in-left p ps qs h)

in-right : (p : Atom × Atom) (ps qs : List (Atom × Atom)) → IsIn p qs → IsIn p (ps ++ qs)
in-right p [] qs h = h
in-right p (x ∷ ps) qs h = inr (in-right p ps qs h)

-- what is known of a pair: both atoms are over the variables, and they are different
pub record IsProper (vars : List ℕ) (p : Atom × Atom) : Type 0 where
  pub a_over : is_over vars p.0 ≡ true
  pub b_over : is_over vars p.1 ≡ true
  pub different : p.0 ≡ p.1 → ⊥

proper-along : (vars : List ℕ) (p q : Atom × Atom) → p ≡ q → IsProper vars q → IsProper vars p
proper-along vars p q e h = subst (IsProper vars) (sym e) h

proper-later : (w : ℕ) (vars : List ℕ) (p : Atom × Atom) → IsProper vars p → IsProper (w ∷ vars) p
proper-later w vars p h = record {
  a_over = over-later w vars p.0 h.a_over;
  b_over = over-later w vars p.1 h.b_over;
  different = h.different;
}

-- of an atom with each literal
module _ (vars : List ℕ) (a : Atom) (over : is_over vars a ≡ true) where
  with-proper : (rest : List ℕ) → ((v : ℕ) → has_var rest v ≡ true → (has_var vars v ≡ true) × ((b : Bool) → a ≡ Of (lit v b) → ⊥))
      → (p : Atom × Atom) → IsIn p (pairs_with a rest) → IsProper vars p
  with-proper [] each p h = absurd h
  with-proper (w ∷ rest) each p (inl e) =
      let m = each w (is-first w rest) in proper-along vars p (a, Of (lit w true)) e (record { a_over = over; b_over = m.0; different = m.1 true })
  with-proper (w ∷ rest) each p (inr (inl e)) =
      let m = each w (is-first w rest) in proper-along vars p (a, Of (lit w false)) e (record { a_over = over; b_over = m.0; different = m.1 false })
  with-proper (w ∷ rest) each p (inr (inr h)) = with-proper rest (λ v k. each v (is-later w v rest k)) p h

among-proper : (vars : List ℕ) → AreDistinct vars → (p : Atom × Atom) → IsIn p (pairs_among vars) → IsProper vars p
among-proper [] d p h = absurd h
among-proper (v ∷ vars) d p h = by (in-append p (pairs_with (Of (lit v true)) vars) (pairs_among vars) h) (among-proper vars d.1 p)
  where
    other : (w : ℕ) → has_var vars w ≡ true → (has_var (v ∷ vars) w ≡ true) × ((b : Bool) → Of (lit v true) ≡ Of (lit w b) → ⊥)
    other w k = (is-later v w vars k, λ b e. let same : v ≡ w = same-var (lit v true) (lit w b) e in let clash : true ≡ false = sym k ∙ ap (has_var vars) (sym same) ∙ d.0 in cc)

    by : (IsIn p (pairs_with (Of (lit v true)) vars) ⊎ IsIn p (pairs_among vars)) → (IsIn p (pairs_among vars) → IsProper vars p) → IsProper (v ∷ vars) p
    by (inl i) rest = with-proper (v ∷ vars) (Of (lit v true)) (is-first v vars) vars other p i
    by (inr i) rest = proper-later v vars p (rest i)

pub over-proper : (vars : List ℕ) → AreDistinct vars → (p : Atom × Atom) → IsIn p (pairs_over vars) → IsProper vars p
over-proper vars d p (inl e) = proper-along vars p (True, False) e (record { a_over = refl; b_over = refl; different = λ s. cc })
over-proper vars d p (inr h) = by (in-append p (pairs_with True vars) (pairs_among vars) h)
  where
    by : (IsIn p (pairs_with True vars) ⊎ IsIn p (pairs_among vars)) → IsProper vars p
    by (inl i) = with-proper vars True refl vars (λ v k. (k, λ b e. cc)) p i
    by (inr i) = among-proper vars d p i

-- each literal over listed variables stands behind an atom
in-with : (a : Atom) (vars : List ℕ) (v : ℕ) (b : Bool) → has_var vars v ≡ true → IsIn (a, Of (lit v b)) (pairs_with a vars)
in-with a [] v b h = absurd (cc)
in-with a (w ∷ vars) v b h = by_place w v vars h (λ e. here b e) (λ k. inr (inr (in-with a vars v b k)))
  where
    here : (b : Bool) → w ≡ v → IsIn (a, Of (lit v b)) (pairs_with a (w ∷ vars))
    here true e = inl (ap (λ x. (a, Of (lit x true))) (sym e))
    here false e = inr (inl (ap (λ x. (a, Of (lit x false))) (sym e)))

-- and of two different ones one stands with each literal of the other
in-among : (vars : List ℕ) (v w : ℕ) (b : Bool) → has_var vars v ≡ true → has_var vars w ≡ true → (v ≡ w → ⊥)
    → IsIn (Of (lit v true), Of (lit w b)) (pairs_among vars) ⊎ IsIn (Of (lit w true), Of (lit v b)) (pairs_among vars)
in-among [] v w b h k ne = absurd (cc)
in-among (x ∷ vars) v w b h k ne =
    by_place x v vars h
    (λ e. by_place x w vars k (λ f. absurd (ne (sym e ∙ f))) (λ there. inl (in-left _ _ (pairs_among vars) (first v w e there))))
    (λ there. by_place x w vars k (λ f. inr (in-left _ _ (pairs_among vars) (first w v f there))) (λ also. both (in-among vars v w b there also ne)))
  where
    first : (y z : ℕ) → x ≡ y → has_var vars z ≡ true → IsIn (Of (lit y true), Of (lit z b)) (pairs_with (Of (lit x true)) vars)
    first y z e i = subst (λ (u : ℕ). IsIn (Of (lit u true), Of (lit z b)) (pairs_with (Of (lit x true)) vars)) e (in-with (Of (lit x true)) vars z b i)

    both : (IsIn (Of (lit v true), Of (lit w b)) (pairs_among vars) ⊎ IsIn (Of (lit w true), Of (lit v b)) (pairs_among vars))
        → IsIn (Of (lit v true), Of (lit w b)) (pairs_among (x ∷ vars)) ⊎ IsIn (Of (lit w true), Of (lit v b)) (pairs_among (x ∷ vars))
    both (inl i) = inl (in-right _ (pairs_with (Of (lit x true)) vars) (pairs_among vars) i)
    both (inr i) = inr (in-right _ (pairs_with (Of (lit x true)) vars) (pairs_among vars) i)

beq-sym : (x y : Bool) → beq x y ≡ beq y x
beq-sym true true = refl
beq-sym true false = refl
beq-sym false true = refl
beq-sym false false = refl

sign-right : (s t x y : Bool) → beq x (cond (beq s t) y (not y)) ≡ beq (cond s x (not x)) (cond t y (not y))
sign-right true true x y = refl
sign-right true false x y = refl
sign-right false true true true = refl
sign-right false true true false = refl
sign-right false true false true = refl
sign-right false true false false = refl
sign-right false false true true = refl
sign-right false false true false = refl
sign-right false false false true = refl
sign-right false false false false = refl

sign-left : (s t x y : Bool) → beq y (cond (beq s t) x (not x)) ≡ beq (cond s x (not x)) (cond t y (not y))
sign-left s t x y =
    ap (λ u. beq y (cond u x (not x))) (beq-sym s t) ∙ sign-right t s y x ∙ beq-sym (cond t y (not y)) (cond s x (not x))

sign-one : (s x : Bool) → beq true (cond (not s) x (not x)) ≡ beq false (cond s x (not x))
sign-one true true = refl
sign-one true false = refl
sign-one false true = refl
sign-one false false = refl

-- a pair of the list that is equally true exactly where two atoms are
pub record HasNormal (vars : List ℕ) (a b : Atom) : Type 0 where
  pub pair : Atom × Atom
  pub listed : IsIn pair (pairs_over vars)
  pub same : (σ : Valuation) → are_equal_in σ pair ≡ are_equal_in σ (a, b)

module _ (vars : List ℕ) where
  constants : (a b : Atom) → ((σ : Valuation) → are_equal_in σ (a, b) ≡ false) → HasNormal vars a b
  constants a b h = record { pair = (True, False); listed = inl refl; same = λ σ. sym (h σ) }

  -- a pair that stands with True
  with_true : (v : ℕ) (s : Bool) (a b : Atom) → has_var vars v ≡ true → ((σ : Valuation) → are_equal_in σ (True, Of (lit v s)) ≡ are_equal_in σ (a, b)) → HasNormal vars a b
  with_true v s a b h same = record {
    pair = (True, Of (lit v s));
    listed = inr (in-left _ (pairs_with True vars) (pairs_among vars) (in-with True vars v s h));
    same = same;
  }

  opposite : (l m : Lit) → l.var ≡ m.var → (l ≡ m → ⊥) → (σ : Valuation) → beq (lit_truth σ l) (lit_truth σ m) ≡ false
  opposite l m e ne σ = by l.positive m.positive refl refl
    where
      at : (s t : Bool) → l.positive ≡ s → m.positive ≡ t → s ≡ t → ⊥
      at s t p q r = ne (same-lit l m e (p ∙ r ∙ sym q))

      clash : (s t x : Bool) → (s ≡ t → ⊥) → beq (cond s x (not x)) (cond t x (not x)) ≡ false
      clash true true x d = absurd (d refl)
      clash true false true d = refl
      clash true false false d = refl
      clash false true true d = refl
      clash false true false d = refl
      clash false false x d = absurd (d refl)

      by : (s t : Bool) → l.positive ≡ s → m.positive ≡ t → beq (cond s (σ l.var) (not (σ l.var))) (cond t (σ m.var) (not (σ m.var))) ≡ false
      by s t p q =
          ap (λ v. beq (cond s (σ l.var) (not (σ l.var))) (cond t (σ v) (not (σ v)))) (sym e) ∙ clash s t (σ l.var) (at s t p q)

  two_literals : (l m : Lit) → has_var vars l.var ≡ true → has_var vars m.var ≡ true → (l.var ≡ m.var → ⊥) → HasNormal vars (Of l) (Of m)
  two_literals l m h k ne = by (in-among vars l.var m.var (beq l.positive m.positive) h k ne)
    where
      by : (IsIn (Of (lit l.var true), Of (lit m.var (beq l.positive m.positive))) (pairs_among vars) ⊎ IsIn (Of (lit m.var true), Of (lit l.var (beq l.positive m.positive))) (pairs_among vars))
          → HasNormal vars (Of l) (Of m)
      by (inl i) = record {
        pair = (Of (lit l.var true), Of (lit m.var (beq l.positive m.positive)));
        listed = inr (in-right _ (pairs_with True vars) (pairs_among vars) i);
        same = λ σ. sign-right l.positive m.positive (σ l.var) (σ m.var);
      }
      by (inr i) = record {
        pair = (Of (lit m.var true), Of (lit l.var (beq l.positive m.positive)));
        listed = inr (in-right _ (pairs_with True vars) (pairs_among vars) i);
        same = λ σ. sign-left l.positive m.positive (σ l.var) (σ m.var);
      }

  pub normal : (a b : Atom) → is_over vars a ≡ true → is_over vars b ≡ true → (a ≡ b → ⊥) → HasNormal vars a b
  normal True True h k ne = absurd (ne refl)
  normal True False h k ne = constants True False (λ σ. refl)
  normal True (Of m) h k ne = with_true m.var m.positive True (Of m) k (λ σ. refl)
  normal False True h k ne = constants False True (λ σ. refl)
  normal False False h k ne = absurd (ne refl)
  normal False (Of m) h k ne = with_true m.var (not m.positive) False (Of m) k (λ σ. sign-one m.positive (σ m.var))
  normal (Of l) True h k ne = with_true l.var l.positive (Of l) True h (λ σ. beq-sym true (lit_truth σ l))
  normal (Of l) False h k ne = with_true l.var (not l.positive) (Of l) False h (λ σ. sign-one l.positive (σ l.var) ∙ beq-sym false (lit_truth σ l))
  normal (Of l) (Of m) h k ne = by (eqb l.var m.var) refl
    where
      by : (t : Bool) → eqb l.var m.var ≡ t → HasNormal vars (Of l) (Of m)
      by true e = constants (Of l) (Of m) (opposite l m (eqb-true l.var m.var e) (λ s. ne (ap (λ (x : Lit). Of x) s)))
      by false e = two_literals l m h k (eqb-false l.var m.var e)
