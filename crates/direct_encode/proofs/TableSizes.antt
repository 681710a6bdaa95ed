-- How many literals the clauses over pairs of places have, and below which bound their variables are.
use Rattle.std.proofs.Common.{◌≡◌, ℕ, zero, suc, ◌+◌, ◌-◌, ◌*◌, ◌≤◌, min, Bool, true, false, not, ◌&&◌, cond, List, [], ◌∷◌, length, ℤ, pos, ◌+ℤ◌, refl, sym, ◌∙◌, arith}
use Rattle.std.specs.Prelude.{nat_lt}
use Rattle.std.proofs.Math.Nat.{zero-mul, suc-mul, mul_comm, mul_assoc}
use Rattle.std.proofs.lemmas.Bool.Decides.{nat_tests}
use Rattle.order_ints.specs.declared.atom.Atom.{Atom}
use Rattle.order_ints.specs.declared.order_int.OrdInt.{OrdInt}
use Rattle.order_ints.specs.Truth.{not_atom}
use Rattle.order_ints.specs.Place.{AtomBelow, AtomsBelow, AtomClausesBelow}
use Rattle.order_ints.specs.OrderRange.{IntBelow}
use Rattle.order_ints.specs.OrderLevels.{at_of}
use Rattle.order_ints.specs.Walk.{value_at}
use Rattle.order_ints.proofs.Reaching.{AtomBelow-at_of}
use Rattle.order_ints.proofs.PlaceLaws.{AtomBelow-not_atom, AtomClausesBelow-append}
use Rattle.core_cost.specs.Arithmetic.{pairs_of_values}
use Rattle.core_cost.specs.Network.{cheaper}
use Rattle.core_forms.specs.Shapes.{steps_of}
use Rattle.direct_encode.specs.Literals.{literals}
use Rattle.direct_encode.specs.Tables.{over_places, row_clauses, table_clauses, from_pair, up_to_pair, at_pair, sum_reached, sum_exceeded, has_lower_neighbour, has_upper_neighbour, unless, sum_pair, sum3_clauses, product_at, are_natural, product_pair, prod_clauses, quotient_at, rest_at, division_pair, div_mod_clauses}
use Rattle.direct_encode.proofs.Sizes.{literals-append}

literals-over : (f : ℕ → List (List Atom)) (k first count : ℕ) → ((i : ℕ) → literals (f i) ≤ k) → literals (over_places f first count) ≤ count * k
literals-over f k first zero each = let none = zero-mul k in omega (arith, none)
literals-over f k first (suc count) each =
    let split = literals-append (f first) (over_places f (first + 1) count) in
    let here = each first in
    let rest = literals-over f k (first + 1) count each in
    let more = suc-mul count k in
    omega (arith, split, here, rest, more)

-- so many literals for each pair
pub literals-table : (pair : ℕ → ℕ → List (List Atom)) (a b : OrdInt) (k : ℕ) → ((i j : ℕ) → literals (pair i j) ≤ k) → literals (table_clauses pair a b) ≤ k * pairs_of_values (steps_of a) (steps_of b)
literals-table pair a b k each =
    let all = literals-over (row_clauses pair b) ((steps_of b + 1) * k) 0 (steps_of a + 1) (λ i. literals-over (pair i) k 0 (steps_of b + 1) (each i)) in
    let turned : (steps_of a + 1) * ((steps_of b + 1) * k) ≡ k * ((steps_of a + 1) * (steps_of b + 1)) =
    sym (mul_assoc (steps_of a + 1) (steps_of b + 1) k) ∙ mul_comm ((steps_of a + 1) * (steps_of b + 1)) k in
    omega (arith, all, turned)

literals-unless : (left_out : Bool) (clause : List Atom) (k : ℕ) → length clause ≡ k → literals (unless left_out clause) ≤ k
literals-unless true clause k e = omega arith
literals-unless false clause k e = omega (arith, e)

pub literals-sum_pair : (a b c : OrdInt) (i j : ℕ) → literals (sum_pair a b c i j) ≤ 6
literals-sum_pair a b c i j =
    let split = literals-append (unless (has_lower_neighbour a b c i j) (from_pair a b i j (sum_reached a b c i j))) (unless (has_upper_neighbour a b c i j) (up_to_pair a b i j (not_atom (sum_exceeded a b c i j)))) in
    let first = literals-unless (has_lower_neighbour a b c i j) (from_pair a b i j (sum_reached a b c i j)) 3 refl in
    let second = literals-unless (has_upper_neighbour a b c i j) (up_to_pair a b i j (not_atom (sum_exceeded a b c i j))) 3 refl in
    omega (arith, split, first, second)

pub literals-product_pair : (a b c : OrdInt) (i j : ℕ) → literals (product_pair a b c i j) ≤ 10
literals-product_pair a b c i j = by (are_natural a b)
  where
    by : (t : Bool) → literals (cond t (from_pair a b i j (at_of c (product_at a b i j)) ∷ up_to_pair a b i j (not_atom (at_of c (product_at a b i j +ℤ pos 1))) ∷ []) (at_pair a b i j (at_of c (product_at a b i j)) ∷ at_pair a b i j (not_atom (at_of c (product_at a b i j +ℤ pos 1))) ∷ [])) ≤ 10
    by true = omega arith
    by false = omega arith

pub literals-division_pair : (a b q r : OrdInt) (i j : ℕ) → literals (division_pair a b q r i j) ≤ 20
literals-division_pair a b q r i j = omega arith

-- where no network is cheaper, the table is the cost
pub table-cheaper : (h : Bool) (table network : ℕ) → not (h && nat_lt network table) ≡ true → table ≤ cheaper h table network
table-cheaper true table network e = by table network e
  where
    by : (table network : ℕ) → not (nat_lt network table) ≡ true → table ≤ min table network
    by table network e = grind (arith, nat_tests)
table-cheaper false table network e = omega arith

-- variables
module _ (n : ℕ) where
  below-over : (f : ℕ → List (List Atom)) (first count : ℕ) → ((i : ℕ) → AtomClausesBelow n (f i)) → AtomClausesBelow n (over_places f first count)
  below-over f first zero each = tt
  below-over f first (suc count) each =
      AtomClausesBelow-append n (f first) (over_places f (first + 1) count) (each first) (below-over f (first + 1) count each)

  below-table : (pair : ℕ → ℕ → List (List Atom)) (a b : OrdInt) → ((i j : ℕ) → AtomClausesBelow n (pair i j)) → AtomClausesBelow n (table_clauses pair a b)
  below-table pair a b each = below-over (row_clauses pair b) 0 (steps_of a + 1) (λ i. below-over (pair i) 0 (steps_of b + 1) (each i))

  below-unless : (left_out : Bool) (clause : List Atom) → AtomsBelow n clause → AtomClausesBelow n (unless left_out clause)
  below-unless true clause h = tt
  below-unless false clause h = (h, tt)

  below-not_at : (a : OrdInt) (v : ℤ) → IntBelow n a → AtomBelow n (not_atom (at_of a v))
  below-not_at a v ha = AtomBelow-not_atom n (at_of a v) (AtomBelow-at_of n a v ha)

  module _ (a b : OrdInt) (ha : IntBelow n a) (hb : IntBelow n b) where
    below-from_pair : (i j : ℕ) (x : Atom) → AtomBelow n x → AtomsBelow n (from_pair a b i j x)
    below-from_pair i j x h = (below-not_at a (value_at a i) ha, (below-not_at b (value_at b j) hb, (h, tt)))

    below-up_to_pair : (i j : ℕ) (x : Atom) → AtomBelow n x → AtomsBelow n (up_to_pair a b i j x)
    below-up_to_pair i j x h = (AtomBelow-at_of n a (value_at a i +ℤ pos 1) ha, (AtomBelow-at_of n b (value_at b j +ℤ pos 1) hb, (h, tt)))

    below-at_pair : (i j : ℕ) (x : Atom) → AtomBelow n x → AtomsBelow n (at_pair a b i j x)
    below-at_pair i j x h =
        (below-not_at a (value_at a i) ha, (AtomBelow-at_of n a (value_at a i +ℤ pos 1) ha, (below-not_at b (value_at b j) hb, (AtomBelow-at_of n b (value_at b j +ℤ pos 1) hb, (h, tt)))))

    pub below-sum3 : (c : OrdInt) → IntBelow n c → AtomClausesBelow n (sum3_clauses a b c)
    below-sum3 c hc =
        below-table (sum_pair a b c) a b
        (λ i j. AtomClausesBelow-append n (unless (has_lower_neighbour a b c i j) (from_pair a b i j (sum_reached a b c i j))) (unless (has_upper_neighbour a b c i j) (up_to_pair a b i j (not_atom (sum_exceeded a b c i j))))
        (below-unless (has_lower_neighbour a b c i j) (from_pair a b i j (sum_reached a b c i j)) (below-from_pair i j (sum_reached a b c i j) (AtomBelow-at_of n c _ hc)))
        (below-unless (has_upper_neighbour a b c i j) (up_to_pair a b i j (not_atom (sum_exceeded a b c i j))) (below-up_to_pair i j (not_atom (sum_exceeded a b c i j)) (below-not_at c _ hc))))

    pub below-prod : (c : OrdInt) → IntBelow n c → AtomClausesBelow n (prod_clauses a b c)
    below-prod c hc = below-table (product_pair a b c) a b (λ i j. by i j (are_natural a b))
      where
        by : (i j : ℕ) (t : Bool) → AtomClausesBelow n (cond t (from_pair a b i j (at_of c (product_at a b i j)) ∷ up_to_pair a b i j (not_atom (at_of c (product_at a b i j +ℤ pos 1))) ∷ []) (at_pair a b i j (at_of c (product_at a b i j)) ∷ at_pair a b i j (not_atom (at_of c (product_at a b i j +ℤ pos 1))) ∷ []))
        by i j true = (below-from_pair i j _ (AtomBelow-at_of n c (product_at a b i j) hc), (below-up_to_pair i j _ (below-not_at c (product_at a b i j +ℤ pos 1) hc), tt))
        by i j false = (below-at_pair i j _ (AtomBelow-at_of n c (product_at a b i j) hc), (below-at_pair i j _ (below-not_at c (product_at a b i j +ℤ pos 1) hc), tt))

    pub below-div_mod : (q r : OrdInt) → IntBelow n q → IntBelow n r → AtomClausesBelow n (div_mod_clauses a b q r)
    below-div_mod q r hq hr =
        below-table (division_pair a b q r) a b
        (λ i j. (
          below-at_pair i j _ (AtomBelow-at_of n q (quotient_at a b i j) hq),
          (
            below-at_pair i j _ (below-not_at q (quotient_at a b i j +ℤ pos 1) hq),
            (below-at_pair i j _ (AtomBelow-at_of n r (rest_at a b i j) hr), (below-at_pair i j _ (below-not_at r (rest_at a b i j +ℤ pos 1) hr), tt)),
          ),
        ))
