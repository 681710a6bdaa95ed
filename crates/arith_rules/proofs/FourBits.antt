-- The least and the greatest of four numbers within the limits, back from their bits.
use Rattle.std.proofs.Common.{◌≡◌, ◌<◌, ◌^◌, ℤ, to_z, of_z, sym, subst, ◌∙◌, arith}
use Rattle.std.specs.Prelude.{unsigned_abs}
use Rattle.std.specs.Int.{int_min, int_max}
use mir.Syntax.{w128}
use Rattle.std.proofs.lemmas.Int.{ints, clamps}
use Rattle.core_forms.proofs.Bounds.{small_bits}

pub min-small : (x y : ℤ) → unsigned_abs x < 2 ^ 100 → unsigned_abs y < 2 ^ 100 → unsigned_abs (int_min x y) < 2 ^ 100
min-small x y hx hy = omega (arith, ints, clamps, hx, hy)

pub max-small : (x y : ℤ) → unsigned_abs x < 2 ^ 100 → unsigned_abs y < 2 ^ 100 → unsigned_abs (int_max x y) < 2 ^ 100
max-small x y hx hy = omega (arith, ints, clamps, hx, hy)

pub small-by : (x y : ℤ) → x ≡ y → unsigned_abs y < 2 ^ 100 → unsigned_abs x < 2 ^ 100
small-by x y e h = subst (λ (z : ℤ). unsigned_abs z < 2 ^ 100) (sym e) h

-- a choice of two numbers, made of the choices of two pairs
module _ (choice : ℤ → ℤ → ℤ) (keeps : (x y : ℤ) → unsigned_abs x < 2 ^ 100 → unsigned_abs y < 2 ^ 100 → unsigned_abs (choice x y) < 2 ^ 100) where
  of-two : (x y m : ℤ) → unsigned_abs x < 2 ^ 100 → unsigned_abs y < 2 ^ 100 → m ≡ choice (to_z w128 (of_z w128 x)) (to_z w128 (of_z w128 y)) → m ≡ choice x y
  of-two x y m hx hy e = e ∙ (λ i. choice (small_bits x hx i) (small_bits y hy i))

  module _ (p q r s m n l p' q' r' s' : ℤ) (ep : p ≡ p') (eq : q ≡ q') (er : r ≡ r') (es : s ≡ s')
      (hp : unsigned_abs p' < 2 ^ 100) (hq : unsigned_abs q' < 2 ^ 100) (hr : unsigned_abs r' < 2 ^ 100) (hs : unsigned_abs s' < 2 ^ 100)
      (first : m ≡ choice (to_z w128 (of_z w128 p)) (to_z w128 (of_z w128 q)))
      (second : n ≡ choice (to_z w128 (of_z w128 r)) (to_z w128 (of_z w128 s)))
      (last : l ≡ choice (to_z w128 (of_z w128 m)) (to_z w128 (of_z w128 n))) where
    of-first : m ≡ choice p' q'
    of-first = of-two p q m (small-by p p' ep hp) (small-by q q' eq hq) first ∙ (λ i. choice (ep i) (eq i))

    of-second : n ≡ choice r' s'
    of-second = of-two r s n (small-by r r' er hr) (small-by s s' es hs) second ∙ (λ i. choice (er i) (es i))

    of-last : l ≡ choice (choice p' q') (choice r' s')
    of-last =
        of-two m n l (small-by m (choice p' q') of-first (keeps p' q' hp hq)) (small-by n (choice r' s') of-second (keeps r' s' hr hs)) last
        ∙ (λ i. choice (of-first i) (of-second i))

    last-small : unsigned_abs l < 2 ^ 100
    last-small = small-by l (choice (choice p' q') (choice r' s')) of-last (keeps (choice p' q') (choice r' s') (keeps p' q' hp hq) (keeps r' s' hr hs))

    pub of-four : to_z w128 (of_z w128 l) ≡ choice (choice p' q') (choice r' s')
    of-four = small_bits l last-small ∙ of-last

    pub four-small : unsigned_abs (to_z w128 (of_z w128 l)) < 2 ^ 110
    four-small =
        let h : unsigned_abs (to_z w128 (of_z w128 l)) < 2 ^ 100 = small-by (to_z w128 (of_z w128 l)) l (small_bits l last-small) last-small in omega (arith, h)
