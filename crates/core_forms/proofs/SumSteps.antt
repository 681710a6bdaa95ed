-- The steps of the loops that list the values of a fresh sum.
use Rattle.std.proofs.Common.{◌≡◌, ℕ, ◌+◌, ◌-◌, ◌*◌, ◌<◌, ◌≤◌, ◌^◌, zero, suc, List, [], ◌∷◌, ◌++◌, map, drop, append_assoc, append-nil, ℤ, pos, ◌+ℤ◌, sym, ap, subst, ◌∙◌, arith, to_z, of_z}
use Rattle.std.specs.Prelude.{unsigned_abs}
use Rattle.std.specs.List.{AllByRecursion}
use Rattle.std.proofs.Math.Nat.{mul-le-mul}
use Rattle.std.proofs.lemmas.Int.{ints}
use mir.Syntax.{w128}
use Rattle.order_ints.specs.declared.atom.Atom.{Atom}
use Rattle.order_ints.specs.OrderRange.{weights}
use Rattle.core_forms.specs.Sums.{pair_sums, spaced}
use Rattle.core_forms.proofs.Bounds.{wide_bits}

abbrev pub AreNear : List (ℤ × Atom) → Type 0
AreNear walk = AllByRecursion (λ level. unsigned_abs level.0 < 2 ^ 100) walk

-- one value more of a walk
pub put-more : (V : ℤ) (v w s : ℤ) (x : Atom) (walk rest : List (ℤ × Atom)) (xs ys W : List ℤ) → walk ≡ (w, x) ∷ rest → V ≡ v → unsigned_abs v < 2 ^ 100
    → AreNear walk → s ≡ V +ℤ to_z w128 (of_z w128 w) → ys ≡ xs ++ to_z w128 (of_z w128 s) ∷ []
    → xs ++ map (λ u. V +ℤ u) (map (λ level. level.0) walk) ≡ W
    → AreNear rest × (ys ++ map (λ u. V +ℤ u) (map (λ level. level.0) rest) ≡ W)
put-more V v w s x walk rest xs ys W e same near all f g h =
    let these = subst AreNear e all in
    let fw = wide_bits w (omega (arith, these.0)) in
    let sum : s ≡ V +ℤ w = f ∙ ap (λ z. V +ℤ z) fw in
    let size : unsigned_abs s < 2 ^ 110 = far V v w s same near these.0 sum in
    let fs : to_z w128 (of_z w128 s) ≡ V +ℤ w = wide_bits s (omega (arith, size)) ∙ sum in
    let put : ys ≡ xs ++ (V +ℤ w) ∷ [] = g ∙ ap (λ z. xs ++ z ∷ []) fs in
    (these.1, ap (λ l. l ++ map (λ u. V +ℤ u) (map (λ level. level.0) rest)) put ∙ append_assoc xs ((V +ℤ w) ∷ []) _ ∙ ap (λ l. xs ++ map (λ u. V +ℤ u) (map (λ level. level.0) l)) (sym e) ∙ h)
  where
    far : (V v w s : ℤ) → V ≡ v → unsigned_abs v < 2 ^ 100 → unsigned_abs w < 2 ^ 100 → s ≡ V +ℤ w → unsigned_abs s < 2 ^ 110
    far V v w s e a b f = omega (arith, ints, e, a, b, f)

-- one spaced number more
pub spaced-more : (low V value next : ℤ) (gap gaps k : ℕ) (xs ys W : List ℤ) → V ≡ low → unsigned_abs low < 2 ^ 101 → gaps * gap < 2 ^ 102 → k < gaps
    → value ≡ V +ℤ pos (k * gap) → next ≡ value +ℤ pos gap → ys ≡ xs ++ to_z w128 (of_z w128 next) ∷ []
    → xs ++ spaced (value +ℤ pos gap) gap (gaps - k) ≡ W
    → (to_z w128 (of_z w128 next) ≡ V +ℤ pos ((k + 1) * gap)) × (ys ++ spaced (to_z w128 (of_z w128 next) +ℤ pos gap) gap (gaps - (k + 1)) ≡ W)
spaced-more low V value next gap gaps k xs ys W same near span below at e put h =
    let most : (k + 1) * gap ≤ gaps * gap = mul-le-mul (omega arith) (omega arith) in
    let there : next ≡ V +ℤ pos ((k + 1) * gap) = reached V value next gap k at e in
    let size = far low V next ((k + 1) * gap) (gaps * gap) same near most span there in
    let bits = wide_bits next (omega (arith, size)) in
    let one : gaps - k ≡ suc (gaps - (k + 1)) = omega (arith, below) in
    let front : xs ++ spaced next gap (suc (gaps - (k + 1))) ≡ W =
    subst (λ (n : ℕ). xs ++ spaced next gap n ≡ W) one (subst (λ (z : ℤ). xs ++ spaced z gap (gaps - k) ≡ W) (sym e) h) in
    let tail : ys ++ spaced (next +ℤ pos gap) gap (gaps - (k + 1)) ≡ W =
    ap (λ l. l ++ spaced (next +ℤ pos gap) gap (gaps - (k + 1))) (put ∙ ap (λ z. xs ++ z ∷ []) bits) ∙ append_assoc xs (next ∷ []) _ ∙ front in
    (bits ∙ there, subst (λ (z : ℤ). ys ++ spaced (z +ℤ pos gap) gap (gaps - (k + 1)) ≡ W) (sym bits) tail)
  where
    reached : (V value next : ℤ) (gap k : ℕ) → value ≡ V +ℤ pos (k * gap) → next ≡ value +ℤ pos gap → next ≡ V +ℤ pos ((k + 1) * gap)
    reached V value next gap k e f = omega (arith, ints, e, f)

    far : (low V next : ℤ) (m n : ℕ) → V ≡ low → unsigned_abs low < 2 ^ 101 → m ≤ n → n < 2 ^ 102 → next ≡ V +ℤ pos m → unsigned_abs next < 2 ^ 110
    far low V next m n e a b l f = omega (arith, ints, e, a, b, l, f)

-- the weights from a place on
pub weights-drop : (steps : List (Atom × ℕ)) (k : ℕ) → weights (drop k steps) ≤ weights steps
weights-drop [] zero = omega arith
weights-drop [] (suc k) = omega arith
weights-drop (s ∷ steps) zero = omega arith
weights-drop (s ∷ steps) (suc k) = omega (arith, weights-drop steps k)

-- where the walk is at its end, all sums are there
pub walk-done : (walk : List (ℤ × Atom)) (ws xs W : List ℤ) → walk ≡ [] → xs ++ pair_sums (map (λ level. level.0) walk) ws ≡ W → xs ≡ W
walk-done walk ws xs W e h =
    sym (append-nil xs) ∙ subst (λ (w : List (ℤ × Atom)). xs ++ pair_sums (map (λ level. level.0) w) ws ≡ W) e h
