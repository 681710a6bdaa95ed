-- When the clauses of quotient and rest are true.
use Rattle.std.proofs.Common.{◌≡◌, ℕ, zero, suc, ◌+◌, ◌*◌, ◌<◌, ◌≤◌, Bool, true, false, not, ◌&&◌, ℤ, pos, negsuc, neg_ℤ, ◌+ℤ◌, ◌*ℤ◌, ◌≤ℤ◌, ◌<ℤ◌, ◌⊎◌, inl, inr, refl, sym, ap, ◌∙◌, arith}
use Rattle.std.specs.Prelude.{int_le, int_lt, unsigned_abs, ◌/◌, ◌%◌}
use Rattle.std.specs.Ordering.{int_eq}
use Rattle.std.proofs.Math.Nat.{div-add-mod, mod-lt, mul-le-mul_left, mul-suc}
use Rattle.std.proofs.Math.IntN.{pos-*ℤ-pos, pos-*ℤ-negsuc}
use Rattle.std.proofs.lemmas.Bool.{cases_order, true≢false}
use Rattle.std.proofs.lemmas.Bool.Decides.{Decides-int_eq}
use Rattle.std.proofs.lemmas.Int.{ints}
use Rattle.order_ints.specs.declared.atom.Atom.{Atom}
use Rattle.order_ints.specs.declared.order_int.OrdInt.{OrdInt}
use Rattle.order_ints.specs.Truth.{Valuation, atom_truth, not_atom}
use Rattle.order_ints.specs.AtomClauses.{atom_clause_truth, atom_clauses_truth}
use Rattle.order_ints.specs.OrderValue.{value_of, IsOrdered}
use Rattle.order_ints.specs.OrderRange.{low_of}
use Rattle.order_ints.specs.OrderLevels.{at_of}
use Rattle.order_ints.specs.Walk.{value_at}
use Rattle.order_ints.proofs.Gains.{low-le}
use Rattle.order_ints.proofs.Reaching.{atom_truth-at_of}
use Rattle.order_ints.proofs.TruthLaws.{atom_truth-not_atom}
use Rattle.core_forms.specs.Meaning.{is_division}
use Rattle.direct_encode.specs.Tables.{at_pair, quotient_at, rest_at, division_pair, div_mod_clauses}
use Rattle.direct_encode.proofs.TableTruths.{HasFalse, truth-table, truth-at_pair, place_of_value}
use Rattle.direct_encode.proofs.ProductTruths.{imp-at, trues, both-true, both-false, either-false, itself, not-next, between, at-values}

-- one division of natural numbers
unique : (y q t z r : ℕ) → t < y → r < y → y * q + t ≡ y * z + r → q ≤ z
unique y q t z r lt ls e = by (cases_order q z)
  where
    by : ((q ≡ z) ⊎ ((q < z) ⊎ (z < q))) → q ≤ z
    by (inl h) = omega (arith, h)
    by (inr (inl h)) = omega (arith, h)
    by (inr (inr h)) =
        let more = mul-le-mul_left {m = suc z} {n = q} y (omega (arith, h)) in
        let step = mul-suc y z in
        absurd (omega (arith, more, step, e, lt, ls))

divided : (x y z r : ℕ) → 0 < y → r < y → x ≡ y * z + r → (x / y ≡ z) × (x % y ≡ r)
divided x y z r some lt e =
    let whole = div-add-mod x y in
    let rest = mod-lt x {m = y} some in
    let same : y * (x / y) + x % y ≡ y * z + r = whole ∙ e in
    let le = unique y (x / y) (x % y) z r rest lt same in
    let ge = unique y z r (x / y) (x % y) lt rest (sym same) in
    let quotient : x / y ≡ z = omega (arith, le, ge) in
    let product = ap (λ n. y * n) quotient in
    (quotient, omega (arith, same, product))

less-from : (r y : ℤ) → int_lt r y ≡ true → r <ℤ y
less-from r y h = grind (arith, ints)

atmost-from : (v w : ℤ) → int_le v w ≡ true → v ≤ℤ w
atmost-from v w h = grind (arith, ints)

less-test : (r y : ℤ) → r <ℤ y → int_lt r y ≡ true
less-test r y h = grind (arith, ints)

atmost-test : (v w : ℤ) → v ≤ℤ w → int_le v w ≡ true
atmost-test v w h = grind (arith, ints)

-- quotient and rest are those of the definition
signed-divided : (x y z r : ℤ) → pos 0 ≤ℤ x → pos 1 ≤ℤ y → pos 0 ≤ℤ r → r <ℤ y → x ≡ y *ℤ z +ℤ r → (pos (unsigned_abs x / unsigned_abs y) ≡ z) × (pos (unsigned_abs x % unsigned_abs y) ≡ r)
signed-divided (negsuc x) y z r hx hy hr lt e = absurd (omega (arith, ints, hx))
signed-divided (pos x) (negsuc y) z r hx hy hr lt e = absurd (omega (arith, ints, hy))
signed-divided (pos x) (pos y) z (negsuc r) hx hy hr lt e = absurd (omega (arith, ints, hr))
signed-divided (pos x) (pos y) (pos z) (pos r) hx hy hr lt e =
    let product = pos-*ℤ-pos y z in
    let both = divided x y z r (omega (arith, ints, hy)) (omega (arith, ints, lt)) (omega (arith, ints, e, product)) in
    (ap pos both.0, ap pos both.1)
signed-divided (pos x) (pos y) (negsuc z) (pos r) hx hy hr lt e =
    let product = pos-*ℤ-negsuc y z in
    let more = mul-suc y z in
    absurd (omega (arith, ints, hx, lt, e, product, more))

division-is : (x y z r : ℤ) → pos 0 ≤ℤ x → pos 1 ≤ℤ y → is_division x y z r ≡ true → (pos (unsigned_abs x / unsigned_abs y) ≡ z) × (pos (unsigned_abs x % unsigned_abs y) ≡ r)
division-is x y z r hx hy h =
    let first = both-true (int_eq x (y *ℤ z +ℤ r)) (int_le (pos 0) r && int_lt r y) h in
    let more = both-true (int_le (pos 0) r) (int_lt r y) first.1 in
    signed-divided x y z r hx hy (atmost-from (pos 0) r more.0) (less-from r y more.1) ((Decides-int_eq x (y *ℤ z +ℤ r)).0 first.0)

division-holds : (x y : ℤ) → pos 0 ≤ℤ x → pos 1 ≤ℤ y → is_division x y (pos (unsigned_abs x / unsigned_abs y)) (pos (unsigned_abs x % unsigned_abs y)) ≡ true
division-holds (negsuc x) y hx hy = absurd (omega (arith, ints, hx))
division-holds (pos x) (negsuc y) hx hy = absurd (omega (arith, ints, hy))
division-holds (pos x) (pos y) hx hy =
    let product = pos-*ℤ-pos y (x / y) in
    let whole = div-add-mod x y in
    let rest = mod-lt x {m = y} (omega (arith, ints, hy)) in
    trues _ _ ((Decides-int_eq (pos x) (pos y *ℤ pos (x / y) +ℤ pos (x % y))).1 (omega (arith, ints, product, whole)))
    (trues _ _ (atmost-test (pos 0) (pos (x % y)) (omega (arith, ints))) (less-test (pos (x % y)) (pos y) (omega (arith, ints, rest))))

true-or-false : (b : Bool) → (b ≡ true) ⊎ (b ≡ false)
true-or-false true = inl refl
true-or-false false = inr refl

one-of-four : (s t u v : Bool) → ((s ≡ false) ⊎ ((t ≡ false) ⊎ ((u ≡ false) ⊎ (v ≡ false)))) → (s && (t && (u && (v && true)))) ≡ false
one-of-four s t u v (inl h) = either-false s (t && (u && (v && true))) h
one-of-four s t u v (inr (inl h)) = both-false s (t && (u && (v && true))) (either-false t (u && (v && true)) h)
one-of-four s t u v (inr (inr (inl h))) = both-false s (t && (u && (v && true))) (both-false t (u && (v && true)) (either-false u (v && true) h))
one-of-four s t u v (inr (inr (inr h))) = both-false s (t && (u && (v && true))) (both-false t (u && (v && true)) (both-false u (v && true) (either-false v true h)))

module _ (σ : Valuation) (a b q r : OrdInt) (oa : IsOrdered σ a) (ob : IsOrdered σ b) (oq : IsOrdered σ q) (orest : IsOrdered σ r) (na : pos 0 ≤ℤ low_of a) (nb : pos 1 ≤ℤ low_of b) where
  abbrev is-divided : Bool
  is-divided = is_division (value_of σ a) (value_of σ b) (value_of σ q) (value_of σ r)

  abbrev quotient : ℤ
  quotient = pos (unsigned_abs (value_of σ a) / unsigned_abs (value_of σ b))

  abbrev rest : ℤ
  rest = pos (unsigned_abs (value_of σ a) % unsigned_abs (value_of σ b))

  natural : pos 0 ≤ℤ value_of σ a
  natural = let low = low-le σ a in omega (arith, ints, low, na)

  positive : pos 1 ≤ℤ value_of σ b
  positive = let low = low-le σ b in omega (arith, ints, low, nb)

  quotient-here : (i j : ℕ) → value_at a i ≡ value_of σ a → value_at b j ≡ value_of σ b → quotient_at a b i j ≡ quotient
  quotient-here i j ea eb = ap (λ (v : ℤ). pos (unsigned_abs v / unsigned_abs (value_at b j))) ea ∙ ap (λ (v : ℤ). pos (unsigned_abs (value_of σ a) / unsigned_abs v)) eb

  rest-here : (i j : ℕ) → value_at a i ≡ value_of σ a → value_at b j ≡ value_of σ b → rest_at a b i j ≡ rest
  rest-here i j ea eb = ap (λ (v : ℤ). pos (unsigned_abs v % unsigned_abs (value_at b j))) ea ∙ ap (λ (v : ℤ). pos (unsigned_abs (value_of σ a) % unsigned_abs v)) eb

  -- an integer reaches its value, and does not exceed it
  at-own : (c : OrdInt) → IsOrdered σ c → (v : ℤ) → v ≡ value_of σ c → atom_truth σ (at_of c v) ≡ true
  at-own c oc v e = atom_truth-at_of σ c v oc ∙ ap (λ (w : ℤ). int_le w (value_of σ c)) e ∙ itself (value_of σ c)

  not-above : (c : OrdInt) → IsOrdered σ c → (v : ℤ) → v ≡ value_of σ c → atom_truth σ (not_atom (at_of c (v +ℤ pos 1))) ≡ true
  not-above c oc v e =
      atom_truth-not_atom σ (at_of c (v +ℤ pos 1)) ∙ ap not (atom_truth-at_of σ c (v +ℤ pos 1) oc ∙ ap (λ (w : ℤ). int_le (w +ℤ pos 1) (value_of σ c)) e ∙ not-next (value_of σ c))

  one-each : (i j : ℕ) (x : Atom) → (value_at a i ≡ value_of σ a → value_at b j ≡ value_of σ b → atom_truth σ x ≡ true) → atom_clause_truth σ (at_pair a b i j x) ≡ true
  one-each i j x says =
      truth-at_pair σ a b oa ob i j x
      ∙ imp-at (int_le (value_at a i) (value_of σ a)) (int_le (value_at a i +ℤ pos 1) (value_of σ a)) (int_le (value_at b j) (value_of σ b)) (int_le (value_at b j +ℤ pos 1) (value_of σ b)) (atom_truth σ x)
      (λ s u t v. says (sym (between (value_at a i) (value_of σ a) s u)) (sym (between (value_at b j) (value_of σ b) t v)))

  each : is-divided ≡ true → (i j : ℕ) → atom_clauses_truth σ (division_pair a b q r i j) ≡ true
  each e i j =
      let is = division-is (value_of σ a) (value_of σ b) (value_of σ q) (value_of σ r) natural positive e in
      trues _ _ (one-each i j (at_of q (quotient_at a b i j)) (λ ea eb. at-own q oq (quotient_at a b i j) (quotient-here i j ea eb ∙ is.0)))
      (trues _ _ (one-each i j (not_atom (at_of q (quotient_at a b i j +ℤ pos 1))) (λ ea eb. not-above q oq (quotient_at a b i j) (quotient-here i j ea eb ∙ is.0)))
      (trues _ _ (one-each i j (at_of r (rest_at a b i j)) (λ ea eb. at-own r orest (rest_at a b i j) (rest-here i j ea eb ∙ is.1)))
      (trues _ _ (one-each i j (not_atom (at_of r (rest_at a b i j +ℤ pos 1))) (λ ea eb. not-above r orest (rest_at a b i j) (rest-here i j ea eb ∙ is.1))) refl)))

  -- an integer that is not v is below it, or above
  misses : (c : OrdInt) → IsOrdered σ c → (v : ℤ) → (v ≡ value_of σ c) ⊎ ((atom_truth σ (at_of c v) ≡ false) ⊎ (atom_truth σ (not_atom (at_of c (v +ℤ pos 1))) ≡ false))
  misses c oc v = by (true-or-false (int_le v (value_of σ c))) (true-or-false (int_le (v +ℤ pos 1) (value_of σ c)))
    where
      by : ((int_le v (value_of σ c) ≡ true) ⊎ (int_le v (value_of σ c) ≡ false)) → ((int_le (v +ℤ pos 1) (value_of σ c) ≡ true) ⊎ (int_le (v +ℤ pos 1) (value_of σ c) ≡ false)) → (v ≡ value_of σ c) ⊎ ((atom_truth σ (at_of c v) ≡ false) ⊎ (atom_truth σ (not_atom (at_of c (v +ℤ pos 1))) ≡ false))
      by (inr h) k = inr (inl (atom_truth-at_of σ c v oc ∙ h))
      by (inl h) (inl k) = inr (inr (atom_truth-not_atom σ (at_of c (v +ℤ pos 1)) ∙ ap not (atom_truth-at_of σ c (v +ℤ pos 1) oc ∙ k)))
      by (inl h) (inr k) = inl (sym (between v (value_of σ c) h k))

  fails : (i j : ℕ) → is-divided ≡ false → value_at a i ≡ value_of σ a → value_at b j ≡ value_of σ b → ((quotient_at a b i j ≡ value_of σ q) ⊎ ((atom_truth σ (at_of q (quotient_at a b i j)) ≡ false) ⊎ (atom_truth σ (not_atom (at_of q (quotient_at a b i j +ℤ pos 1))) ≡ false))) → ((rest_at a b i j ≡ value_of σ r) ⊎ ((atom_truth σ (at_of r (rest_at a b i j)) ≡ false) ⊎ (atom_truth σ (not_atom (at_of r (rest_at a b i j +ℤ pos 1))) ≡ false))) → atom_clauses_truth σ (division_pair a b q r i j) ≡ false
  fails i j e ea eb (inr (inl h)) k =
      one-of-four (atom_clause_truth σ (at_pair a b i j (at_of q (quotient_at a b i j)))) (atom_clause_truth σ (at_pair a b i j (not_atom (at_of q (quotient_at a b i j +ℤ pos 1))))) (atom_clause_truth σ (at_pair a b i j (at_of r (rest_at a b i j)))) (atom_clause_truth σ (at_pair a b i j (not_atom (at_of r (rest_at a b i j +ℤ pos 1)))))
      (inl (at-values σ a b q oa ob oq i j (at_of q (quotient_at a b i j)) ea eb h))
  fails i j e ea eb (inr (inr h)) k =
      one-of-four (atom_clause_truth σ (at_pair a b i j (at_of q (quotient_at a b i j)))) (atom_clause_truth σ (at_pair a b i j (not_atom (at_of q (quotient_at a b i j +ℤ pos 1))))) (atom_clause_truth σ (at_pair a b i j (at_of r (rest_at a b i j)))) (atom_clause_truth σ (at_pair a b i j (not_atom (at_of r (rest_at a b i j +ℤ pos 1)))))
      (inr (inl (at-values σ a b q oa ob oq i j (not_atom (at_of q (quotient_at a b i j +ℤ pos 1))) ea eb h)))
  fails i j e ea eb (inl h) (inr (inl k)) =
      one-of-four (atom_clause_truth σ (at_pair a b i j (at_of q (quotient_at a b i j)))) (atom_clause_truth σ (at_pair a b i j (not_atom (at_of q (quotient_at a b i j +ℤ pos 1))))) (atom_clause_truth σ (at_pair a b i j (at_of r (rest_at a b i j)))) (atom_clause_truth σ (at_pair a b i j (not_atom (at_of r (rest_at a b i j +ℤ pos 1)))))
      (inr (inr (inl (at-values σ a b q oa ob oq i j (at_of r (rest_at a b i j)) ea eb k))))
  fails i j e ea eb (inl h) (inr (inr k)) =
      one-of-four (atom_clause_truth σ (at_pair a b i j (at_of q (quotient_at a b i j)))) (atom_clause_truth σ (at_pair a b i j (not_atom (at_of q (quotient_at a b i j +ℤ pos 1))))) (atom_clause_truth σ (at_pair a b i j (at_of r (rest_at a b i j)))) (atom_clause_truth σ (at_pair a b i j (not_atom (at_of r (rest_at a b i j +ℤ pos 1)))))
      (inr (inr (inr (at-values σ a b q oa ob oq i j (not_atom (at_of r (rest_at a b i j +ℤ pos 1))) ea eb k))))
  fails i j e ea eb (inl h) (inl k) =
      let holds = division-holds (value_of σ a) (value_of σ b) natural positive in
      let same : is_division (value_of σ a) (value_of σ b) (value_of σ q) (value_of σ r) ≡ true =
      ap (λ (z : ℤ). is_division (value_of σ a) (value_of σ b) z (value_of σ r)) (sym h ∙ quotient-here i j ea eb)
      ∙ ap (λ (z : ℤ). is_division (value_of σ a) (value_of σ b) quotient z) (sym k ∙ rest-here i j ea eb) ∙ holds in
      absurd (true≢false (sym same ∙ e))

  one : is-divided ≡ false → HasFalse σ (division_pair a b q r) a b
  one e =
      let p = place_of_value σ a oa in
      let s = place_of_value σ b ob in
      (p.0, s.0, p.1, s.1, fails p.0 s.0 e p.2 s.2 (misses q oq (quotient_at a b p.0 s.0)) (misses r orest (rest_at a b p.0 s.0)))

  -- the clauses are true exactly where the third and fourth are quotient and rest of the first by the second
  pub truth-div_mod : atom_clauses_truth σ (div_mod_clauses a b q r) ≡ is_division (value_of σ a) (value_of σ b) (value_of σ q) (value_of σ r)
  truth-div_mod = truth-table σ (division_pair a b q r) a b is-divided each one
