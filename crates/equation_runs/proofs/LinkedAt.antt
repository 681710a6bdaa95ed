-- Two integers at two numbers that belong together: their atoms there are one, or they are those at a value of one of the two.
use Rattle.std.proofs.Common.{◌≡◌, true, ℤ, pos, ◌+ℤ◌, ◌≤ℤ◌, ◌<ℤ◌, sym, ap, ◌∙◌, ⊎_elim, arith}
use Rattle.std.specs.Prelude.{int_le}
use Rattle.std.proofs.lemmas.Int.{ints}
use Rattle.order_ints.specs.declared.atom.Atom.TheVariants.{True, False}
use Rattle.order_ints.specs.declared.order_int.OrdInt.{OrdInt}
use Rattle.order_ints.specs.Truth.{not_atom}
use Rattle.order_ints.specs.OrderLevels.{values_of, at_of, is_among}
use Rattle.order_ints.proofs.Comparisons.{int_le-true, le_from_test}
use Rattle.equation_runs.proofs.AtTrimmed.{cases-le}
use Rattle.equation_runs.proofs.NextValue.{IsNext, IsBefore, IsFrom, IsUpTo, next-value, value-before}

le-itself : (v : ℤ) → v ≤ℤ v
le-itself v = omega (arith, ints)

le-over : (u v w : ℤ) → u ≤ℤ v → v ≤ℤ w → u ≤ℤ w
le-over u v w h k = omega (arith, ints, h, k)

lt-above : (v : ℤ) → v <ℤ (v +ℤ pos 1)
lt-above v = omega (arith, ints)

more-above : (u v : ℤ) → u ≤ℤ v → (u +ℤ pos 1) ≤ℤ (v +ℤ pos 1)
more-above u v h = omega (arith, ints, h)

at-least : (u v : ℤ) → u <ℤ (v +ℤ pos 1) → u ≤ℤ v
at-least u v h = omega (arith, ints, h)

-- two maps upwards: what one makes of w is at most v exactly where w is at most what the other makes of v, and the first takes the second back
pub record MoveTogether (f g : ℤ → ℤ) : Type 0 where
  pub tests : (w v : ℤ) → int_le (f w) v ≡ int_le w (g v)
  pub back : (v : ℤ) → f (g v) ≡ v

-- two maps downwards
pub record MoveApart (h g : ℤ → ℤ) : Type 0 where
  pub tests : (w v : ℤ) → int_le v (h w) ≡ int_le w (g v)
  pub back : (v : ℤ) → h (g v) ≡ v

-- a at v, and b at what v is linked with
pub data RaisedAt (f g : ℤ → ℤ) (a b : OrdInt) (v : ℤ) : Type 0 where
  raised_one : at_of a v ≡ at_of b (f v) → RaisedAt f g a b v
  raised_first : (w : ℤ) → v ≤ℤ w → is_among w (values_of a) ≡ true → at_of a w ≡ at_of a v → at_of b (f w) ≡ at_of b (f v) → RaisedAt f g a b v
  raised_second : (w : ℤ) → f v ≤ℤ w → is_among w (values_of b) ≡ true → at_of b w ≡ at_of b (f v) → at_of a (g w) ≡ at_of a v → RaisedAt f g a b v

module _ (f g : ℤ → ℤ) (move : MoveTogether f g) where
  to-second : (w v : ℤ) → f w ≤ℤ v → w ≤ℤ g v
  to-second w v h = le_from_test w (g v) (sym (move.tests w v) ∙ int_le-true (f w) v h)

  to-first : (w v : ℤ) → w ≤ℤ g v → f w ≤ℤ v
  to-first w v h = le_from_test (f w) v (move.tests w v ∙ int_le-true w (g v) h)

  upwards : (u w : ℤ) → u ≤ℤ w → f u ≤ℤ f w
  upwards u w h = to-first u (f w) (le-over u w (g (f w)) h (to-second w (f w) (le-itself (f w))))

  under : (w v : ℤ) → v <ℤ f w → g v ≤ℤ w
  under w v lt = ⊎_elim
      (λ (h : w ≤ℤ g v). let le = to-first w v h in absurd (omega (arith, ints, lt, le)))
      (λ (h : g v <ℤ w). omega (arith, ints, h)) (cases-le w (g v))

  pub raised-at : (a b : OrdInt) (v : ℤ) → RaisedAt f g a b v
  raised-at a b v = ⊎_elim
      (λ (p : IsFrom (at_of a) v False). ⊎_elim
      (λ (q : IsFrom (at_of b) (f v) False). raised_one (p v (le-itself v) ∙ sym (q (f v) (le-itself (f v)))))
      (λ (n : IsNext (at_of b) (values_of b) (f v)). raised_second n.value n.from n.is_one (n.same n.value n.from (le-itself n.value)) (p (g n.value) (to-second v n.value n.from) ∙ sym (p v (le-itself v))))
      (next-value b (f v)))
      (λ (m : IsNext (at_of a) (values_of a) v). ⊎_elim
      (λ (q : IsFrom (at_of b) (f v) False). raised_first m.value m.from m.is_one (m.same m.value m.from (le-itself m.value)) (q (f m.value) (upwards v m.value m.from) ∙ sym (q (f v) (le-itself (f v)))))
      (λ (n : IsNext (at_of b) (values_of b) (f v)). ⊎_elim
      (λ (le : f m.value ≤ℤ n.value). raised_first m.value m.from m.is_one (m.same m.value m.from (le-itself m.value)) (n.same (f m.value) (upwards v m.value m.from) le))
      (λ (lt : n.value <ℤ f m.value). raised_second n.value n.from n.is_one (n.same n.value n.from (le-itself n.value)) (m.same (g n.value) (to-second v n.value n.from) (under m.value n.value lt)))
      (cases-le (f m.value) n.value))
      (next-value b (f v)))
      (next-value a v)

-- a at v, and b above what v is linked with
pub data MirroredAt (h g : ℤ → ℤ) (a b : OrdInt) (v : ℤ) : Type 0 where
  mirrored_one : at_of a v ≡ not_atom (at_of b (h v +ℤ pos 1)) → MirroredAt h g a b v
  mirrored_first : (w : ℤ) → is_among w (values_of a) ≡ true → at_of a w ≡ at_of a v → at_of b (h w +ℤ pos 1) ≡ at_of b (h v +ℤ pos 1) → MirroredAt h g a b v
  mirrored_second : (w : ℤ) → is_among w (values_of b) ≡ true → at_of a (g w) ≡ at_of a v → at_of b (w +ℤ pos 1) ≡ at_of b (h v +ℤ pos 1) → MirroredAt h g a b v

module _ (h g : ℤ → ℤ) (move : MoveApart h g) where
  to-other : (w v : ℤ) → v ≤ℤ h w → w ≤ℤ g v
  to-other w v le = le_from_test w (g v) (sym (move.tests w v) ∙ int_le-true v (h w) le)

  from-other : (w v : ℤ) → w ≤ℤ g v → v ≤ℤ h w
  from-other w v le = le_from_test v (h w) (move.tests w v ∙ int_le-true w (g v) le)

  downwards : (u w : ℤ) → u ≤ℤ w → h w ≤ℤ h u
  downwards u w le = from-other u (h w) (le-over u w (g (h w)) le (to-other w (h w) (le-itself (h w))))

  above : (u w : ℤ) → u ≤ℤ w → (h w +ℤ pos 1) ≤ℤ (h u +ℤ pos 1)
  above u w le = more-above (h w) (h u) (downwards u w le)

  pub mirrored-at : (a b : OrdInt) (v : ℤ) → MirroredAt h g a b v
  mirrored-at a b v = ⊎_elim
      (λ (p : IsFrom (at_of a) v False). ⊎_elim
      (λ (q : IsUpTo (at_of b) (h v +ℤ pos 1) True). mirrored_one (p v (le-itself v) ∙ sym (ap not_atom (q (h v +ℤ pos 1) (le-itself (h v +ℤ pos 1))))))
      (λ (n : IsBefore (at_of b) (values_of b) (h v +ℤ pos 1)). second n (p (g n.value) (to-other v n.value (at-least n.value (h v) n.below)) ∙ sym (p v (le-itself v))))
      (value-before b (h v +ℤ pos 1)))
      (λ (m : IsNext (at_of a) (values_of a) v). ⊎_elim
      (λ (q : IsUpTo (at_of b) (h v +ℤ pos 1) True). mirrored_first m.value m.is_one (m.same m.value m.from (le-itself m.value)) (q (h m.value +ℤ pos 1) (above v m.value m.from) ∙ sym (q (h v +ℤ pos 1) (le-itself (h v +ℤ pos 1)))))
      (λ (n : IsBefore (at_of b) (values_of b) (h v +ℤ pos 1)). ⊎_elim
      (λ (le : m.value ≤ℤ g n.value). mirrored_first m.value m.is_one (m.same m.value m.from (le-itself m.value)) (n.same (h m.value +ℤ pos 1) (next-over m n le) (above v m.value m.from)))
      (λ (lt : g n.value <ℤ m.value). second n (m.same (g n.value) (to-other v n.value (at-least n.value (h v) n.below)) (omega (arith, ints, lt))))
      (cases-le m.value (g n.value)))
      (value-before b (h v +ℤ pos 1)))
      (next-value a v)
    where
      second : (n : IsBefore (at_of b) (values_of b) (h v +ℤ pos 1)) → at_of a (g n.value) ≡ at_of a v → MirroredAt h g a b v
      second n e = mirrored_second n.value n.is_one e (n.same (n.value +ℤ pos 1) (lt-above n.value) (more-above n.value (h v) (at-least n.value (h v) n.below)))

      next-over : (m : IsNext (at_of a) (values_of a) v) (n : IsBefore (at_of b) (values_of b) (h v +ℤ pos 1)) → m.value ≤ℤ g n.value → n.value <ℤ (h m.value +ℤ pos 1)
      next-over m n le = let under = from-other m.value n.value le in omega (arith, ints, under)
