-- How many values are better than one, and what it means that none is.
use Rattle.std.proofs.Common.{◌≡◌, ◌⊎◌, ℕ, zero, suc, ◌+◌, ◌≤◌, ◌<◌, Bool, true, false, not, List, [], ◌∷◌, length, get_or, map, refl, sym, ap, ◌∙◌, inl, inr, ⊎_elim, ℤ, pos, ◌+ℤ◌, ◌≤ℤ◌, arith}
use Rattle.std.specs.Prelude.{Contains, int_lt, ◌<ℤ◌, if◌then◌else◌}
use Rattle.std.proofs.lemmas.Int.{ints}
use Rattle.std.proofs.lemmas.Bool.{false≢true, true≢false}
use Rattle.order_ints.specs.declared.atom.Atom.{Atom}
use Rattle.order_ints.specs.declared.atom.Atom.TheVariants.{True}
use Rattle.order_ints.specs.declared.order_int.OrdInt.{OrdInt}
use Rattle.order_ints.specs.Truth.{Valuation, atom_truth, not_atom}
use Rattle.order_ints.specs.View.{resolve}
use Rattle.order_ints.specs.OrderValue.{value_of, IsOrdered}
use Rattle.order_ints.specs.OrderLevels.{levels, values_of, at_of}
use Rattle.order_ints.specs.OrderRange.{weights}
use Rattle.order_ints.proofs.Comparisons.{lt_from_test, le_from_test}
use Rattle.order_ints.proofs.Truths.{atom_truth-not_atom}
use Rattle.order_ints.proofs.Reaching.{atom_truth-at_of, at_of-low, at_of-high, Contains-value_of}
use Rattle.state_compile.specs.StandsFor.{read_by}
use Rattle.state_compile.proofs.Reading.{read-atom}
use Rattle.decode_minimize.specs.declared.objective.Direction.{Direction}
use Rattle.decode_minimize.specs.declared.objective.Direction.TheVariants.{Least, Greatest}
use Rattle.decode_minimize.specs.Objectives.{is_better_value, better_among, better_left, bound_of}

less-is : (v w : ℤ) → v <ℤ w → int_lt v w ≡ true
less-is v w h = grind (arith, ints)

less-from : (v w : ℤ) → int_lt v w ≡ true → v <ℤ w
less-from v w e = grind (arith, ints)

not-less : (v w : ℤ) → w ≤ℤ v → int_lt v w ≡ false
not-less v w h = grind (arith, ints)

not-less-from : (v w : ℤ) → int_lt v w ≡ false → w ≤ℤ v
not-less-from v w e = grind (arith, ints)

not-itself : (d : Direction) (v : ℤ) → is_better_value d v v ≡ false
not-itself Least v = not-less v v (omega (arith, ints))
not-itself Greatest v = not-less v v (omega (arith, ints))

less-along : (u v w : ℤ) → int_lt u v ≡ true → int_lt v w ≡ true → int_lt u w ≡ true
less-along u v w e f = less-is u w (omega (arith, ints, less-from u v e, less-from v w f))

better-along : (d : Direction) (u v w : ℤ) → is_better_value d u v ≡ true → is_better_value d v w ≡ true → is_better_value d u w ≡ true
better-along Least u v w e f = less-along u v w e f
better-along Greatest u v w e f = less-along w v u f e

abbrev one_if : Bool → ℕ
one_if b = if b then 1 else 0

one-if-along : (a b : Bool) → (a ≡ true → b ≡ true) → one_if a ≤ one_if b
one-if-along true true f = omega arith
one-if-along true false f = absurd (false≢true (f refl))
one-if-along false b f = omega arith

one-if-true : (b : Bool) → b ≡ true → one_if b ≡ 1
one-if-true true e = refl
one-if-true false e = absurd (false≢true e)

one-if-false : (b : Bool) → b ≡ false → one_if b ≡ 0
one-if-false true e = absurd (true≢false e)
one-if-false false e = refl

one-if-most : (b : Bool) → one_if b ≤ 1
one-if-most true = omega arith
one-if-most false = omega arith

-- what is better than a better value is better
fewer : (d : Direction) (v w : ℤ) (xs : List ℤ) → is_better_value d w v ≡ true → better_among d w xs ≤ better_among d v xs
fewer d v w [] h = omega arith
fewer d v w (x ∷ xs) h =
    omega (arith, one-if-along (is_better_value d x w) (is_better_value d x v) (λ e. better-along d x w v e h), fewer d v w xs h)

member-cases : (y : ℤ) (xs : List ℤ) (x : ℤ) → Contains (y ∷ xs) x → (y ≡ x) ⊎ Contains xs x
member-cases y xs x has = by-place has.0 has.1 has.2
  where
    by-place : (k : ℕ) → k < length (y ∷ xs) → get_or (y ∷ xs) k x ≡ x → (y ≡ x) ⊎ Contains xs x
    by-place zero low is = inl is
    by-place (suc k) low is = inr (k, omega arith, is)

no-member : (x : ℤ) → Contains [] x → ⊥
no-member x has = omega (arith, has.1)

first-less : (d : Direction) (v w x : ℤ) (xs : List ℤ) → is_better_value d w v ≡ true → x ≡ w → one_if (is_better_value d x w) + better_among d w xs < one_if (is_better_value d x v) + better_among d v xs
first-less d v w x xs h e =
    let same : is_better_value d x w ≡ false = ap (λ y. is_better_value d y w) e ∙ not-itself d w in
    let better : is_better_value d x v ≡ true = ap (λ y. is_better_value d y v) e ∙ h in
    omega (arith, one-if-false (is_better_value d x w) same, one-if-true (is_better_value d x v) better, fewer d v w xs h)

-- fewer values are better than a better one that is among them
pub less-left : (d : Direction) (v w : ℤ) (xs : List ℤ) → is_better_value d w v ≡ true → Contains xs w → better_among d w xs < better_among d v xs
less-left d v w [] h has = absurd (no-member w has)
less-left d v w (x ∷ xs) h has =
    ⊎_elim
    (λ (e : x ≡ w). first-less d v w x xs h e)
    (λ (later : Contains xs w). let more = less-left d v w xs h later in
    let front = one-if-along (is_better_value d x w) (is_better_value d x v) (λ e. better-along d x w v e h) in
    omega (arith, front, more))
    (member-cases x xs w has)

all-left : (d : Direction) (v : ℤ) (xs : List ℤ) → better_among d v xs ≤ length xs
all-left d v [] = omega arith
all-left d v (x ∷ xs) = omega (arith, one-if-most (is_better_value d x v), all-left d v xs)

-- a value that is among them isn't better than itself
pub some-left : (d : Direction) (v : ℤ) (xs : List ℤ) → Contains xs v → better_among d v xs + 1 ≤ length xs
some-left d v [] has = absurd (no-member v has)
some-left d v (x ∷ xs) has =
    ⊎_elim
    (λ (e : x ≡ v). omega (arith, one-if-false (is_better_value d x v) (ap (λ y. is_better_value d y v) e ∙ not-itself d v), all-left d v xs))
    (λ (later : Contains xs v). let more = some-left d v xs later in omega (arith, one-if-most (is_better_value d x v), more))
    (member-cases x xs v has)

-- where no value is better, the bound holds whatever the valuation
none-front : (b : Bool) (n : ℕ) → one_if b + n ≡ 0 → b ≡ false
none-front true n e = absurd (omega (arith, e))
none-front false n e = refl

least-low : (v low : ℤ) (x : Atom) (steps : List (Atom × ℕ)) → better_among Least v (map (λ (level : ℤ × Atom). level.0) (levels low x steps)) ≡ 0 → v ≤ℤ low
least-low v low x [] e = not-less-from low v (none-front (int_lt low v) 0 e)
least-low v low x (s ∷ steps) e = not-less-from low v (none-front (int_lt low v) (better_among Least v (map (λ (level : ℤ × Atom). level.0) (levels (low +ℤ pos s.1) s.0 steps))) e)

greatest-high : (v low : ℤ) (x : Atom) (steps : List (Atom × ℕ)) → better_among Greatest v (map (λ (level : ℤ × Atom). level.0) (levels low x steps)) ≡ 0 → (low +ℤ pos (weights steps)) ≤ℤ v
greatest-high v low x [] e = omega (arith, ints, not-less-from v low (none-front (int_lt v low) 0 e))
greatest-high v low x (s ∷ steps) e =
    let rest = better_among Greatest v (map (λ (level : ℤ × Atom). level.0) (levels (low +ℤ pos s.1) s.0 steps)) in
    let none : rest ≡ 0 = omega (arith, e) in
    omega (arith, ints, greatest-high v (low +ℤ pos s.1) s.0 steps none)

pub none-left : (d : Direction) (a : OrdInt) (v : ℤ) → better_left d a v ≡ 0 → bound_of d a v ≡ True
none-left Least a v e = at_of-low a v (least-low v a.base True a.steps e)
none-left Greatest a v e = ap not_atom (at_of-high a (v +ℤ pos 1) (omega (arith, ints, greatest-high v a.base True a.steps e)))

-- a valuation under which the bound is broken gives a better value
broken : (d : Direction) (a : OrdInt) (m : ℤ) (σ : Valuation) → IsOrdered σ a → atom_truth σ (bound_of d a m) ≡ false → is_better_value d (value_of σ a) m ≡ true
broken Least a m σ ordered e = less-is (value_of σ a) m (lt_from_test m (value_of σ a) (sym (atom_truth-at_of σ a m ordered) ∙ e))
broken Greatest a m σ ordered e =
    let reached : atom_truth σ (at_of a (m +ℤ pos 1)) ≡ true = was-true (atom_truth σ (at_of a (m +ℤ pos 1))) (sym (atom_truth-not_atom σ (at_of a (m +ℤ pos 1))) ∙ e) in
    let more = le_from_test (m +ℤ pos 1) (value_of σ a) (sym (atom_truth-at_of σ a (m +ℤ pos 1) ordered) ∙ reached) in
    less-is m (value_of σ a) (above m (value_of σ a) more)
  where
    was-true : (b : Bool) → not b ≡ false → b ≡ true
    was-true true e = refl
    was-true false e = absurd (true≢false e)

    above : (m v : ℤ) → (m +ℤ pos 1) ≤ℤ v → m <ℤ v
    above m v h = omega (arith, ints, h)

module _ (d : Direction) (a : OrdInt) (m : ℤ) (view : List Atom) (σ : Valuation) (ordered : IsOrdered (read_by view σ) a) (e : atom_truth σ (resolve view (bound_of d a m)) ≡ false) where
  better-read : is_better_value d (value_of (read_by view σ) a) m ≡ true
  better-read = broken d a m (read_by view σ) ordered (read-atom view σ (bound_of d a m) ∙ e)

  -- so fewer are left
  pub fewer-left : better_left d a (value_of (read_by view σ) a) < better_left d a m
  fewer-left = less-left d m (value_of (read_by view σ) a) (values_of a) better-read (Contains-value_of (read_by view σ) a ordered)
