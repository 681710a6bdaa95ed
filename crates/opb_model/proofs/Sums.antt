-- The sums of a file are those of its model.
use Rattle.std.proofs.Common.{arith, ◌≡◌, ◌↔◌, ℕ, zero, suc, ◌+◌, ◌-◌, ◌<◌, ℤ, pos, ◌+ℤ◌, ◌≤ℤ◌, Bool, true, false, not, List, [], ◌∷◌, ◌++◌, map, length, refl, sym, subst, IsTrue, slice_index_or}
use Rattle.std.specs.Prelude.{int_le, if◌then◌else◌}
use Rattle.std.specs.Ordering.{int_eq}
use Rattle.std.proofs.lemmas.Int.{ints}
use Rattle.std.proofs.lemmas.Bool.Decides.{Decides-int_eq}
use Rattle.model_meaning.specs.declared.what.IntTerm.TheVariants.{Number, Of}
use Rattle.model_meaning.specs.Terms.{value_at, is_one, truth_of, truths_of, as_number}
use Rattle.model_meaning.specs.Integers.{relates, weight_of_true}
use Rattle.model_meaning.specs.Holds.{Holds}
use Rattle.model_meaning.specs.Solutions.{AllHold}
use Rattle.model_meaning.proofs.DomainLaws.{Decides-int_le}
use Rattle.opb_front.specs.declared.items.Term.{Term}
use Rattle.opb_front.specs.declared.items.Comparison.{Comparison}
use Rattle.opb_front.specs.declared.items.Comparison.TheVariants.{AtLeast, AtMost, Equal}
use Rattle.opb_front.specs.declared.items.Constraint.{Constraint}
use Rattle.opb_front.specs.Grammar.{sum_above, sum_below}
use Rattle.opb_front.specs.Fits.{TermFits, TermsFit, ConstraintsFit}
use Rattle.opb_front.specs.Solutions.{literal_truth, sum_of, Compares, IsMet, AreMet}
use Rattle.opb_model.specs.Models.{relation_of, coefficients, member, members, sum, constraint_stmts}

-- a truth value as a number is 1 where it is true

one : (x : Bool) → int_eq (as_number x) (pos 1) ≡ x
one true = refl
one false = refl

one-at : (b : List Bool) (r : List ℤ) (p : ℕ) → p < length b → is_one (map as_number b ++ r) p ≡ slice_index_or b p false
one-at [] r p h = absurd (omega (arith, h))
one-at (x ∷ b) r zero h = one x
one-at (x ∷ b) r (suc p) h = one-at b r p (omega (arith, h))

literal-same : (b : List Bool) (r : List ℤ) (t : Term) → TermFits (length b) t → truth_of (map as_number b ++ r) (member t) ≡ literal_truth b t.literal
literal-same b r t h =
    let low = h.from_one in
    let high = h.to_last in
    let e = one-at b r (t.literal.index - 1) (omega (arith, low, high)) in
    λ i. if t.literal.positive then e i else not (e i)

pub weight-same : (b : List Bool) (r : List ℤ) (ts : List Term) → TermsFit (length b) ts → weight_of_true (coefficients ts) (truths_of (map as_number b ++ r) (members ts)) ≡ sum_of b ts
weight-same b r [] h = refl
weight-same b r (t ∷ ts) h =
    let e = literal-same b r t h.0 in
    let f = weight-same b r ts h.1 in
    λ i. (if e i then t.coefficient else pos 0) +ℤ f i

-- a relation is that of the comparison
relates-same : (c : Comparison) (s bound : ℤ) → IsTrue (relates (relation_of c) s bound) ↔ Compares c s bound
relates-same AtLeast s bound = Decides-int_le bound s
relates-same AtMost s bound = Decides-int_le s bound
relates-same Equal s bound = Decides-int_eq s bound

-- a constraint is met where its statement holds
constraint-same : (b : List Bool) (r : List ℤ) (n : ℕ) (c : Constraint) → TermsFit (length b) c.terms
    → Holds (map as_number b ++ r) (sum n c.comparison c.terms (Number c.bound)).what ↔ IsMet b c
unfolding Holds
constraint-same b r n c h =
    let e = weight-same b r c.terms h in
    let P : ℤ → Type 0 = λ s. IsTrue (relates (relation_of c.comparison) s c.bound) in
    let same = relates-same c.comparison (sum_of b c.terms) c.bound in
    (λ k. same.0 (subst P e k), λ k. subst P (sym e) (same.1 k))

pub constraints-same : (b : List Bool) (r : List ℤ) (n : ℕ) (cs : List Constraint) → ConstraintsFit (length b) cs
    → AllHold (map as_number b ++ r) (constraint_stmts n cs) ↔ AreMet b cs
constraints-same b r n [] h = (λ k. tt, λ k. tt)
constraints-same b r n (c ∷ cs) h =
    let first = constraint-same b r n c h.0.0 in
    let rest = constraints-same b r (n + 1) cs h.1 in
    (λ k. (first.0 k.0, rest.0 k.1), λ k. (first.1 k.0, rest.1 k.1))

-- the cost is the sum of the objective where its statement holds

value-behind : (b : List Bool) (v : ℤ) → value_at (map as_number b ++ v ∷ []) (length b) ≡ v
value-behind [] v = refl
value-behind (x ∷ b) v = value-behind b v

pub cost-same : (b : List Bool) (v : ℤ) (n : ℕ) (ts : List Term) → TermsFit (length b) ts
    → Holds (map as_number b ++ v ∷ []) (sum n Equal ts (Of (length b))).what ↔ (v ≡ sum_of b ts)
unfolding Holds
cost-same b v n ts h =
    let e = weight-same b (v ∷ []) ts h in
    let f = value-behind b v in
    let P : ℤ → ℤ → Type 0 = λ s w. IsTrue (int_eq s w) in
    let same = Decides-int_eq (sum_of b ts) v in
    let W : ℤ = weight_of_true (coefficients ts) (truths_of (map as_number b ++ v ∷ []) (members ts)) in
    (λ k. sym (same.0 (subst (λ s. P s v) e (subst (λ w. P W w) f k))), λ k. subst (λ w. P W w) (sym f) (subst (λ s. P s v) (sym e) (same.1 (sym k))))

-- a sum is from the sum of the negative coefficients to that of the positive ones

part : (c : ℤ) (x y : Bool) → int_le (pos 0) c ≡ y
    → ((if y then pos 0 else c) ≤ℤ (if x then c else pos 0)) × ((if x then c else pos 0) ≤ℤ (if y then c else pos 0))
part c true true e = let low = (Decides-int_le (pos 0) c).0 e in (low, omega (arith, ints))
part c false true e = let low = (Decides-int_le (pos 0) c).0 e in (omega (arith, ints), low)
part c true false e = (omega (arith, ints), grind (arith, ints, e))
part c false false e = (grind (arith, ints, e), omega (arith, ints))

pub within : (b : List Bool) (ts : List Term) → (sum_below ts ≤ℤ sum_of b ts) × (sum_of b ts ≤ℤ sum_above ts)
within b [] = (omega (arith, ints), omega (arith, ints))
within b (t ∷ ts) =
    let first = part t.coefficient (literal_truth b t.literal) (int_le (pos 0) t.coefficient) refl in
    let rest = within b ts in
    (added _ _ _ _ first.0 rest.0, added _ _ _ _ first.1 rest.1)
  where
    added : (u v x y : ℤ) → u ≤ℤ v → x ≤ℤ y → (u +ℤ x) ≤ℤ (v +ℤ y)
    added u v x y p q = omega (arith, ints, p, q)

-- the one is not positive, and the other not negative

sign : (c : ℤ) (y : Bool) → int_le (pos 0) c ≡ y → ((if y then pos 0 else c) ≤ℤ pos 0) × (pos 0 ≤ℤ (if y then c else pos 0))
sign c true e = (omega (arith, ints), (Decides-int_le (pos 0) c).0 e)
sign c false e = (grind (arith, ints, e), omega (arith, ints))

pub signs : (ts : List Term) → (sum_below ts ≤ℤ pos 0) × (pos 0 ≤ℤ sum_above ts)
signs [] = (omega (arith, ints), omega (arith, ints))
signs (t ∷ ts) =
    let first = sign t.coefficient (int_le (pos 0) t.coefficient) refl in
    let rest = signs ts in
    (below _ _ first.0 rest.0, above _ _ first.1 rest.1)
  where
    below : (u x : ℤ) → u ≤ℤ pos 0 → x ≤ℤ pos 0 → (u +ℤ x) ≤ℤ pos 0
    below u x p q = omega (arith, ints, p, q)

    above : (u x : ℤ) → pos 0 ≤ℤ u → pos 0 ≤ℤ x → pos 0 ≤ℤ (u +ℤ x)
    above u x p q = omega (arith, ints, p, q)
