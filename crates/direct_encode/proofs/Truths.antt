-- When the clauses of a core are true.
use Rattle.std.proofs.Common.{◌≡◌, ℕ, zero, suc, ◌<◌, Bool, true, false, not, ◌||◌, ◌&&◌, cond, length, get_or, List, [], ◌∷◌, ◌++◌, map, Contains, ℤ, pos, ◌+ℤ◌, refl, sym, ap, subst, ◌∙◌, arith}
use Rattle.std.specs.Prelude.{int_le, filter}
use Rattle.std.specs.Bool.{beq}
use Rattle.std.specs.Ordering.{int_eq}
use Rattle.std.proofs.lemmas.Int.{ints}
use Rattle.order_ints.specs.declared.atom.Atom.{Atom}
use Rattle.order_ints.specs.declared.order_int.OrdInt.{OrdInt}
use Rattle.order_ints.specs.Truth.{Valuation, atom_truth}
use Rattle.order_ints.specs.AtomClauses.{atom_clause_truth, atom_clauses_truth}
use Rattle.order_ints.specs.OrderValue.{value_of, none_true, in_order, IsOrdered}
use Rattle.order_ints.specs.OrderLevels.{is_among, values_of, at_of}
use Rattle.order_ints.proofs.Reaching.{atom_truth-at_of, Contains-value_of}
use Rattle.order_ints.proofs.TruthLaws.{atom_truth-not_atom, atom_clauses_truth-append}
use Rattle.direct_encode.specs.Orders.{order_clauses_above, order_clauses_of_steps, order_clauses}
use Rattle.direct_encode.specs.Comparisons.{reaching_clause, reaching_clauses, exceeding_clause, exceeding_clauses, differing_clause, common_values, differing_clauses, leq_clauses, eq_clauses}

-- order: the clauses above a step say that the steps above it are in order, where it is true, and that none is true, where it is not
order-choice : (p s i n : Bool) → ((p || (not s || false)) && cond s i n) ≡ cond p (cond s i n) (not s && n)
order-choice true s i n = refl
order-choice false true i n = refl
order-choice false false i n = refl

same-choice : (p : Bool) → true ≡ cond p true true
same-choice true = refl
same-choice false = refl

truth-order_clauses_above : (σ : Valuation) (p : Atom) (steps : List (Atom × ℕ)) → atom_clauses_truth σ (order_clauses_above p steps) ≡ cond (atom_truth σ p) (in_order σ steps) (none_true σ steps)
truth-order_clauses_above σ p [] = same-choice (atom_truth σ p)
truth-order_clauses_above σ p (s ∷ steps) =
    ap (λ b. (atom_truth σ p || (b || false)) && atom_clauses_truth σ (order_clauses_above s.0 steps)) (atom_truth-not_atom σ s.0)
    ∙ ap (λ b. (atom_truth σ p || (not (atom_truth σ s.0) || false)) && b) (truth-order_clauses_above σ s.0 steps)
    ∙ order-choice (atom_truth σ p) (atom_truth σ s.0) (in_order σ steps) (none_true σ steps)

truth-order_clauses_of_steps : (σ : Valuation) (steps : List (Atom × ℕ)) → atom_clauses_truth σ (order_clauses_of_steps steps) ≡ in_order σ steps
truth-order_clauses_of_steps σ [] = refl
truth-order_clauses_of_steps σ (s ∷ steps) = truth-order_clauses_above σ s.0 steps

-- the clauses of order are true exactly where the integer is ordered
pub truth-order_clauses : (σ : Valuation) (a : OrdInt) → atom_clauses_truth σ (order_clauses a) ≡ in_order σ a.steps
truth-order_clauses σ a = truth-order_clauses_of_steps σ a.steps

-- clauses that values give are true together where each is, and not where one isn't
truth-all : (σ : Valuation) (f : ℤ → List Atom) (vs : List ℤ) → ((v : ℤ) → atom_clause_truth σ (f v) ≡ true) → atom_clauses_truth σ (map f vs) ≡ true
truth-all σ f [] each = refl
truth-all σ f (v ∷ vs) each = ap (λ b. b && atom_clauses_truth σ (map f vs)) (each v) ∙ truth-all σ f vs each

and-false : (b c : Bool) → c ≡ false → (b && c) ≡ false
and-false true c e = e
and-false false c e = refl

truth-one : (σ : Valuation) (f : ℤ → List Atom) (vs : List ℤ) (v : ℤ) (k : ℕ) → k < length vs → get_or vs k v ≡ v → atom_clause_truth σ (f v) ≡ false → atom_clauses_truth σ (map f vs) ≡ false
truth-one σ f [] v k lt at fails = absurd (omega (arith, lt))
truth-one σ f (w ∷ vs) v zero lt at fails =
    ap (λ b. b && atom_clauses_truth σ (map f vs)) (ap (λ x. atom_clause_truth σ (f x)) at ∙ fails)
truth-one σ f (w ∷ vs) v (suc k) lt at fails =
    and-false (atom_clause_truth σ (f w)) (atom_clauses_truth σ (map f vs)) (truth-one σ f vs v k (omega (arith, lt)) at fails)

pub truth-map : (σ : Valuation) (f : ℤ → List Atom) (vs : List ℤ) (t : Bool) → (t ≡ true → (v : ℤ) → atom_clause_truth σ (f v) ≡ true) → (t ≡ false → (v : ℤ) × Contains vs v × (atom_clause_truth σ (f v) ≡ false)) → atom_clauses_truth σ (map f vs) ≡ t
truth-map σ f vs true each one = truth-all σ f vs (each refl)
truth-map σ f vs false each one = let c = one refl in truth-one σ f vs c.0 c.1.0 c.1.1 c.1.2 c.2

-- tests on values: v stands for any value, x and y for those of the two integers
reaching-each : (r : Bool) (x y v : ℤ) → (not r || int_le x y) ≡ true → (not r || (not (int_le v x) || (int_le v y || false))) ≡ true
reaching-each r x y v h = grind (arith, ints)

reaching-one : (r : Bool) (x y : ℤ) → (not r || int_le x y) ≡ false → (not r || (not (int_le x x) || (int_le x y || false))) ≡ false
reaching-one r x y h = grind (arith, ints)

exceeding-each : (r : Bool) (x y v : ℤ) → (r || not (int_le x y)) ≡ true → (r || (not (int_le v y) || (int_le (v +ℤ pos 1) x || false))) ≡ true
exceeding-each r x y v h = grind (arith, ints)

exceeding-one : (r : Bool) (x y : ℤ) → (r || not (int_le x y)) ≡ false → (r || (not (int_le y y) || (int_le (y +ℤ pos 1) x || false))) ≡ false
exceeding-one r x y h = grind (arith, ints)

differing-each : (r : Bool) (x y v : ℤ) → (r || not (int_eq x y)) ≡ true → (r || (not (int_le v x) || (int_le (v +ℤ pos 1) x || (not (int_le v y) || (int_le (v +ℤ pos 1) y || false))))) ≡ true
differing-each r x y v h = grind (arith, ints)

differing-one : (r : Bool) (x y : ℤ) → (r || not (int_eq x y)) ≡ false → (r || (not (int_le x x) || (int_le (x +ℤ pos 1) x || (not (int_le x y) || (int_le (x +ℤ pos 1) y || false))))) ≡ false
differing-one r x y h = grind (arith, ints)

equal-from : (r : Bool) (x y : ℤ) → (r || not (int_eq x y)) ≡ false → y ≡ x
equal-from r x y h = grind (arith, ints)

-- a member that passes the test stays among those that pass
Contains-cons : (vs : List ℤ) (w v : ℤ) → Contains vs v → Contains (w ∷ vs) v
Contains-cons vs w v c = (suc c.0, omega (arith, c.1), c.2)

Contains-filter : (test : ℤ → Bool) (vs : List ℤ) (v : ℤ) (k : ℕ) → k < length vs → get_or vs k v ≡ v → test v ≡ true → Contains (filter test vs) v
Contains-filter test [] v k lt at passes = absurd (omega (arith, lt))
Contains-filter test (w ∷ vs) v zero lt at passes =
    subst (λ (b : Bool). Contains (cond b (w ∷ filter test vs) (filter test vs)) v) (sym (ap test at ∙ passes)) (0, omega arith, at)
Contains-filter test (w ∷ vs) v (suc k) lt at passes =
    elim (test w) as (λ b. Contains (cond b (w ∷ filter test vs) (filter test vs)) v) [
      | true ↦ Contains-cons (filter test vs) w v (Contains-filter test vs v k (omega (arith, lt)) at passes)
      | false ↦ Contains-filter test vs v k (omega (arith, lt)) at passes
    ]

or-true : (b c : Bool) → c ≡ true → (b || c) ≡ true
or-true true c e = refl
or-true false c e = e

int_eq-true : (v w : ℤ) → v ≡ w → int_eq v w ≡ true
int_eq-true v w e = grind (arith, ints)

among-Contains : (vs : List ℤ) (v : ℤ) (k : ℕ) → k < length vs → get_or vs k v ≡ v → is_among v vs ≡ true
among-Contains [] v k lt at = absurd (omega (arith, lt))
among-Contains (w ∷ vs) v zero lt at = ap (λ b. b || is_among v vs) (int_eq-true w v at)
among-Contains (w ∷ vs) v (suc k) lt at =
    or-true (int_eq w v) (is_among v vs) (among-Contains vs v k (omega (arith, lt)) at)

module _ (σ : Valuation) (r : Atom) (a b : OrdInt) (oa : IsOrdered σ a) (ob : IsOrdered σ b) where
  truth-reaching : (v : ℤ) → atom_clause_truth σ (reaching_clause r a b v) ≡ (not (atom_truth σ r) || (not (int_le v (value_of σ a)) || (int_le v (value_of σ b) || false)))
  truth-reaching v =
      let nr = atom_truth-not_atom σ r in
      let na = atom_truth-not_atom σ (at_of a v) in
      let ea = atom_truth-at_of σ a v oa in
      let eb = atom_truth-at_of σ b v ob in
      cc

  truth-exceeding : (v : ℤ) → atom_clause_truth σ (exceeding_clause r a b v) ≡ (atom_truth σ r || (not (int_le v (value_of σ b)) || (int_le (v +ℤ pos 1) (value_of σ a) || false)))
  truth-exceeding v =
      let nb = atom_truth-not_atom σ (at_of b v) in
      let eb = atom_truth-at_of σ b v ob in
      let ea = atom_truth-at_of σ a (v +ℤ pos 1) oa in
      cc

  truth-differing : (v : ℤ) → atom_clause_truth σ (differing_clause r a b v) ≡ (atom_truth σ r || (not (int_le v (value_of σ a)) || (int_le (v +ℤ pos 1) (value_of σ a) || (not (int_le v (value_of σ b)) || (int_le (v +ℤ pos 1) (value_of σ b) || false)))))
  truth-differing v =
      let na = atom_truth-not_atom σ (at_of a v) in
      let nb = atom_truth-not_atom σ (at_of b v) in
      let ea = atom_truth-at_of σ a v oa in
      let eb = atom_truth-at_of σ b v ob in
      let fa = atom_truth-at_of σ a (v +ℤ pos 1) oa in
      let fb = atom_truth-at_of σ b (v +ℤ pos 1) ob in
      cc

  -- on ordered integers: where r is true, the first value is at most the second
  pub truth-reaching_clauses : atom_clauses_truth σ (reaching_clauses r a b) ≡ (not (atom_truth σ r) || int_le (value_of σ a) (value_of σ b))
  truth-reaching_clauses =
      truth-map σ (reaching_clause r a b) (values_of a) (not (atom_truth σ r) || int_le (value_of σ a) (value_of σ b))
      (λ e v. truth-reaching v ∙ reaching-each (atom_truth σ r) (value_of σ a) (value_of σ b) v e)
      (λ e. (value_of σ a, Contains-value_of σ a oa, truth-reaching (value_of σ a) ∙ reaching-one (atom_truth σ r) (value_of σ a) (value_of σ b) e))

  -- where r is false, the first value is above the second
  pub truth-exceeding_clauses : atom_clauses_truth σ (exceeding_clauses r a b) ≡ (atom_truth σ r || not (int_le (value_of σ a) (value_of σ b)))
  truth-exceeding_clauses =
      truth-map σ (exceeding_clause r a b) (values_of b) (atom_truth σ r || not (int_le (value_of σ a) (value_of σ b)))
      (λ e v. truth-exceeding v ∙ exceeding-each (atom_truth σ r) (value_of σ a) (value_of σ b) v e)
      (λ e. (value_of σ b, Contains-value_of σ b ob, truth-exceeding (value_of σ b) ∙ exceeding-one (atom_truth σ r) (value_of σ a) (value_of σ b) e))

  -- two integers with one value have it in common
  common : value_of σ b ≡ value_of σ a → Contains (common_values a b) (value_of σ a)
  common e =
      let ca = Contains-value_of σ a oa in
      let cb : Contains (values_of b) (value_of σ a) = subst (λ (v : ℤ). Contains (values_of b) v) e (Contains-value_of σ b ob) in
      Contains-filter (λ v. is_among v (values_of b)) (values_of a) (value_of σ a) ca.0 ca.1 ca.2 (among-Contains (values_of b) (value_of σ a) cb.0 cb.1 cb.2)

  -- where r is false, the values differ
  pub truth-differing_clauses : atom_clauses_truth σ (differing_clauses r a b) ≡ (atom_truth σ r || not (int_eq (value_of σ a) (value_of σ b)))
  truth-differing_clauses =
      truth-map σ (differing_clause r a b) (common_values a b) (atom_truth σ r || not (int_eq (value_of σ a) (value_of σ b)))
      (λ e v. truth-differing v ∙ differing-each (atom_truth σ r) (value_of σ a) (value_of σ b) v e)
      (λ e. (value_of σ a, common (equal-from (atom_truth σ r) (value_of σ a) (value_of σ b) e), truth-differing (value_of σ a) ∙ differing-one (atom_truth σ r) (value_of σ a) (value_of σ b) e))

leq-choice : (r t : Bool) → ((not r || t) && (r || not t)) ≡ beq r t
leq-choice true true = refl
leq-choice true false = refl
leq-choice false true = refl
leq-choice false false = refl

eq-choice : (r s t u : Bool) → u ≡ (s && t) → ((not r || s) && ((not r || t) && (r || not u))) ≡ beq r u
eq-choice true true true u e = grind arith
eq-choice true true false u e = grind arith
eq-choice true false t u e = grind arith
eq-choice false s t u e = grind arith

both-le : (x y : ℤ) → int_eq x y ≡ (int_le x y && int_le y x)
both-le x y = grind (arith, ints)

pub truth-leq_clauses : (σ : Valuation) (r : Atom) (a b : OrdInt) → IsOrdered σ a → IsOrdered σ b → atom_clauses_truth σ (leq_clauses r a b) ≡ beq (atom_truth σ r) (int_le (value_of σ a) (value_of σ b))
truth-leq_clauses σ r a b oa ob =
    let split = atom_clauses_truth-append σ (reaching_clauses r a b) (exceeding_clauses r a b) in
    let first = truth-reaching_clauses σ r a b oa ob in
    let second = truth-exceeding_clauses σ r a b oa ob in
    let all = leq-choice (atom_truth σ r) (int_le (value_of σ a) (value_of σ b)) in
    cc

pub truth-eq_clauses : (σ : Valuation) (r : Atom) (a b : OrdInt) → IsOrdered σ a → IsOrdered σ b → atom_clauses_truth σ (eq_clauses r a b) ≡ beq (atom_truth σ r) (int_eq (value_of σ a) (value_of σ b))
truth-eq_clauses σ r a b oa ob =
    let split = atom_clauses_truth-append σ (reaching_clauses r a b) (reaching_clauses r b a ++ differing_clauses r a b) in
    let more = atom_clauses_truth-append σ (reaching_clauses r b a) (differing_clauses r a b) in
    let first = truth-reaching_clauses σ r a b oa ob in
    let second = truth-reaching_clauses σ r b a ob oa in
    let third = truth-differing_clauses σ r a b oa ob in
    let all = eq-choice (atom_truth σ r) (int_le (value_of σ a) (value_of σ b)) (int_le (value_of σ b) (value_of σ a)) (int_eq (value_of σ a) (value_of σ b)) (both-le (value_of σ a) (value_of σ b)) in
    cc

-- what is said of ordered integers alone, beside their order
guarded : (s t u v : Bool) → (s ≡ true → t ≡ true → u ≡ v) → (s && (t && u)) ≡ ((s && t) && v)
guarded true true u v e = e refl refl
guarded true false u v e = refl
guarded false t u v e = refl

pub truth-compared : (σ : Valuation) (a b : OrdInt) (cs : List (List Atom)) (t : Bool) → (IsOrdered σ a → IsOrdered σ b → atom_clauses_truth σ cs ≡ t) → atom_clauses_truth σ (order_clauses a ++ (order_clauses b ++ cs)) ≡ ((in_order σ a.steps && in_order σ b.steps) && t)
truth-compared σ a b cs t says =
    let split = atom_clauses_truth-append σ (order_clauses a) (order_clauses b ++ cs) in
    let more = atom_clauses_truth-append σ (order_clauses b) cs in
    let first = truth-order_clauses σ a in
    let second = truth-order_clauses σ b in
    let all = guarded (in_order σ a.steps) (in_order σ b.steps) (atom_clauses_truth σ cs) t says in
    cc
