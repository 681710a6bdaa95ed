-- When the clauses of a greatest member are true.
use Rattle.std.proofs.Common.{◌≡◌, Bool, true, false, not, ◌||◌, ◌&&◌, List, [], ◌∷◌, ℤ, pos, refl, ap, ◌∙◌, arith}
use Rattle.std.specs.Prelude.{int_le}
use Rattle.std.specs.Ordering.{int_eq}
use Rattle.std.proofs.lemmas.Int.{ints}
use Rattle.order_ints.specs.declared.order_int.OrdInt.{OrdInt}
use Rattle.order_ints.specs.Truth.{Valuation}
use Rattle.order_ints.specs.AtomClauses.{atom_clause_truth, atom_clauses_truth}
use Rattle.order_ints.specs.OrderValue.{value_of, in_order, IsOrdered}
use Rattle.order_ints.specs.OrderLevels.{is_among, values_of, at_of}
use Rattle.order_ints.proofs.Reaching.{atom_truth-at_of, Contains-value_of}
use Rattle.order_ints.proofs.TruthLaws.{atom_truth-not_atom, atom_clauses_truth-append}
use Rattle.core_forms.specs.Values.{all_ordered, values, all_at_most, is_greatest}
use Rattle.direct_encode.specs.Orders.{order_clauses, orders_of}
use Rattle.direct_encode.specs.Maxima.{at_most_clause, at_most_clauses, all_at_most_clauses, all_at, some_reaching_clause, some_reaching_clauses, max_clauses}
use Rattle.direct_encode.proofs.Truths.{truth-order_clauses, truth-map}

-- some value is at least v
abbrev pub some_from : ℤ → List ℤ → Bool
some_from v [] = false
some_from v (w ∷ ws) = int_le v w || some_from v ws

both-true : (b c : Bool) → (b && c) ≡ true → (b ≡ true) × (c ≡ true)
both-true true c h = (refl, h)
both-true false c h = absurd (cc)

-- the clauses of all orders
pub truth-orders_of : (σ : Valuation) (ints : List OrdInt) → atom_clauses_truth σ (orders_of ints) ≡ all_ordered σ ints
truth-orders_of σ [] = refl
truth-orders_of σ (a ∷ ints) =
    let split = atom_clauses_truth-append σ (order_clauses a) (orders_of ints) in
    let first = truth-order_clauses σ a in
    let rest = truth-orders_of σ ints in
    cc

at_most-each : (x z v : ℤ) → int_le x z ≡ true → (not (int_le v x) || (int_le v z || false)) ≡ true
at_most-each x z v h = grind (arith, ints)

at_most-one : (x z : ℤ) → int_le x z ≡ false → (not (int_le x x) || (int_le x z || false)) ≡ false
at_most-one x z h = grind (arith, ints)

truth-at_most : (σ : Valuation) (a c : OrdInt) → IsOrdered σ a → IsOrdered σ c → atom_clauses_truth σ (at_most_clauses a c) ≡ int_le (value_of σ a) (value_of σ c)
truth-at_most σ a c oa oc =
    truth-map σ (at_most_clause a c) (values_of a) (int_le (value_of σ a) (value_of σ c))
    (λ e v. each v ∙ at_most-each (value_of σ a) (value_of σ c) v e)
    (λ e. (value_of σ a, Contains-value_of σ a oa, each (value_of σ a) ∙ at_most-one (value_of σ a) (value_of σ c) e))
  where
    each : (v : ℤ) → atom_clause_truth σ (at_most_clause a c v) ≡ (not (int_le v (value_of σ a)) || (int_le v (value_of σ c) || false))
    each v =
        let na = atom_truth-not_atom σ (at_of a v) in
        let ea = atom_truth-at_of σ a v oa in
        let ec = atom_truth-at_of σ c v oc in
        cc

-- each member is at most c
truth-all_at_most : (σ : Valuation) (ints : List OrdInt) (c : OrdInt) → all_ordered σ ints ≡ true → IsOrdered σ c → atom_clauses_truth σ (all_at_most_clauses ints c) ≡ all_at_most (value_of σ c) (values σ ints)
truth-all_at_most σ [] c ordered oc = refl
truth-all_at_most σ (a ∷ ints) c ordered oc =
    let o = both-true (in_order σ a.steps) (all_ordered σ ints) ordered in
    let split = atom_clauses_truth-append σ (at_most_clauses a c) (all_at_most_clauses ints c) in
    let first = truth-at_most σ a c o.0 oc in
    let rest = truth-all_at_most σ ints c o.1 oc in
    cc

-- some integer is at least v
truth-all_at : (σ : Valuation) (ints : List OrdInt) (v : ℤ) → all_ordered σ ints ≡ true → atom_clause_truth σ (all_at ints v) ≡ some_from v (values σ ints)
truth-all_at σ [] v ordered = refl
truth-all_at σ (a ∷ ints) v ordered =
    let o = both-true (in_order σ a.steps) (all_ordered σ ints) ordered in
    ap (λ b. b || atom_clause_truth σ (all_at ints v)) (atom_truth-at_of σ a v o.0)
    ∙ ap (λ b. int_le v (value_of σ a) || b) (truth-all_at σ ints v o.1)

or-right : (b c : Bool) → c ≡ true → (b || c) ≡ true
or-right true c e = refl
or-right false c e = e

le-trans : (v z w : ℤ) → int_le v z ≡ true → int_le z w ≡ true → int_le v w ≡ true
le-trans v z w h k = grind (arith, ints)

either-from : (z v w : ℤ) (ws : List ℤ) (b : Bool) → int_le z w ≡ b → int_le v z ≡ true → (b || some_from z ws) ≡ true → (some_from z ws ≡ true → some_from v ws ≡ true) → (int_le v w || some_from v ws) ≡ true
either-from z v w ws true e le h rest = ap (λ b. b || some_from v ws) (le-trans v z w le e)
either-from z v w ws false e le h rest = or-right (int_le v w) (some_from v ws) (rest h)

lower-from : (z v : ℤ) (ws : List ℤ) → int_le v z ≡ true → some_from z ws ≡ true → some_from v ws ≡ true
lower-from z v [] le h = absurd (cc)
lower-from z v (w ∷ ws) le h = either-from z v w ws (int_le z w) refl le h (lower-from z v ws le)

some-each : (z v : ℤ) (ws : List ℤ) → some_from z ws ≡ true → (not (int_le v z) || some_from v ws) ≡ true
some-each z v ws h = by (int_le v z) refl
  where
    by : (b : Bool) → int_le v z ≡ b → (not b || some_from v ws) ≡ true
    by true e = lower-from z v ws e h
    by false e = refl

itself : (z : ℤ) → int_le z z ≡ true
itself z = grind (arith, ints)

-- c is at most some member
truth-some_reaching : (σ : Valuation) (ints : List OrdInt) (c : OrdInt) → all_ordered σ ints ≡ true → IsOrdered σ c → atom_clauses_truth σ (some_reaching_clauses ints c) ≡ some_from (value_of σ c) (values σ ints)
truth-some_reaching σ ints c ordered oc =
    truth-map σ (some_reaching_clause ints c) (values_of c) (some_from (value_of σ c) (values σ ints))
    (λ e v. each v ∙ some-each (value_of σ c) v (values σ ints) e)
    (λ e. (value_of σ c, Contains-value_of σ c oc, each (value_of σ c) ∙ ap (λ b. not b || some_from (value_of σ c) (values σ ints)) (itself (value_of σ c)) ∙ e))
  where
    each : (v : ℤ) → atom_clause_truth σ (some_reaching_clause ints c v) ≡ (not (int_le v (value_of σ c)) || some_from v (values σ ints))
    each v =
        ap (λ b. b || atom_clause_truth σ (all_at ints v)) (atom_truth-not_atom σ (at_of c v) ∙ ap not (atom_truth-at_of σ c v oc))
        ∙ ap (λ b. not (int_le v (value_of σ c)) || b) (truth-all_at σ ints v ordered)

-- of members that are at most z one is at least z exactly where it is z
same-greatest : (z : ℤ) (ws : List ℤ) → (all_at_most z ws && some_from z ws) ≡ is_greatest z ws
same-greatest z ws = by (all_at_most z ws) refl
  where
    at : (z w : ℤ) → int_le w z ≡ true → int_le z w ≡ int_eq w z
    at z w h = grind (arith, ints)

    among : (ws : List ℤ) → all_at_most z ws ≡ true → some_from z ws ≡ is_among z ws
    among [] all = refl
    among (w ∷ ws) all =
        let o = both-true (int_le w z) (all_at_most z ws) all in
        ap (λ b. b || some_from z ws) (at z w o.0) ∙ ap (λ b. int_eq w z || b) (among ws o.1)

    and-false : (b : Bool) → false ≡ (b && false)
    and-false true = refl
    and-false false = refl

    and-true : (b : Bool) → b ≡ (b && true)
    and-true true = refl
    and-true false = refl

    by : (b : Bool) → all_at_most z ws ≡ b → (b && some_from z ws) ≡ (is_among z ws && b)
    by true e = among ws e ∙ and-true (is_among z ws)
    by false e = and-false (is_among z ws)

pub truth-max : (σ : Valuation) (ints : List OrdInt) (c : OrdInt) → all_ordered σ ints ≡ true → IsOrdered σ c → atom_clauses_truth σ (max_clauses ints c) ≡ is_greatest (value_of σ c) (values σ ints)
truth-max σ ints c ordered oc =
    atom_clauses_truth-append σ (all_at_most_clauses ints c) (some_reaching_clauses ints c)
    ∙ ap (λ b. b && atom_clauses_truth σ (some_reaching_clauses ints c)) (truth-all_at_most σ ints c ordered oc)
    ∙ ap (λ b. all_at_most (value_of σ c) (values σ ints) && b) (truth-some_reaching σ ints c ordered oc)
    ∙ same-greatest (value_of σ c) (values σ ints)
