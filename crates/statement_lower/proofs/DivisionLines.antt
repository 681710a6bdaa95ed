-- A division: its quotient and its remainder, of which the one that the statement doesn't name is a fresh integer.
use Rattle.std.proofs.Common.{◌≡◌, ℕ, suc, ◌+◌, ◌*◌, ◌/◌, ◌<◌, ◌≤◌, ℤ, pos, negsuc, ◌+ℤ◌, ◌-ℤ◌, ◌*ℤ◌, ◌≤ℤ◌, ◌<ℤ◌, Bool, true, ◌&&◌, [], ◌∷◌, IsTrue, refl, sym, ◌∙◌, arith}
use Rattle.std.specs.Prelude.{unsigned_abs}
use Rattle.std.specs.Bool.{Decides}
use Rattle.std.proofs.lemmas.Bool.{and_parts}
use Rattle.std.proofs.lemmas.Bool.Decides.{Decides-int_eq, Decides-and}
use Rattle.std.proofs.lemmas.Int.{ints}
use Rattle.std.proofs.Math.Nat.{mul_comm, le-div_iff_mul-le, div-le_self}
use Rattle.order_ints.specs.declared.order_int.OrdInt.{OrdInt}
use Rattle.order_ints.specs.Truth.{Valuation, Agree}
use Rattle.order_ints.specs.OrderRange.{low_of, high_of}
use Rattle.order_ints.specs.OrderValue.{value_of, in_order, IsOrdered}
use Rattle.order_ints.specs.Represents.{DependsBelow}
use Rattle.order_ints.proofs.Gains.{low-le, high-ge, value_of-agree}
use Rattle.core_forms.specs.declared.form.Core.TheVariants as core
use Rattle.core_forms.specs.Meaning.{is_division}
use Rattle.core_forms.specs.WellFormed.{IsWellFormed, greatest_abs}
use Rattle.core_forms.proofs.CoreLists.{MeetsAll-one}
use Rattle.core_forms.proofs.Limits.{times-le, small-divisions}
use Rattle.model_meaning.specs.Integers.{is_quotient, is_remainder}
use Rattle.model_meaning.specs.Domains.{at_least_zero}
use Rattle.model_meaning.proofs.DomainLaws.{Decides-int_le, Decides-int_lt}
use Rattle.model_meaning.proofs.HoldsLaws.{Decides-is_quotient}
use Rattle.model_meaning.proofs.Remainders.{Decides-is_remainder}
use Rattle.statement_lower.specs.Lines.{fresh_range, most_remainder, most_quotient}
use Rattle.statement_lower.specs.Lowers.{Lowers}
use Rattle.statement_lower.proofs.EntryLaws.{SmallInteger, small-more}
use Rattle.statement_lower.proofs.FreshIntegers.{small-fresh, takes-fresh}

-- Numbers.

Decides-is_division : (a b q r : ℤ) → Decides (is_division a b q r) ((a ≡ b *ℤ q +ℤ r) × ((pos 0 ≤ℤ r) × (r <ℤ b)))
Decides-is_division a b q r =
    Decides-and _ _ (Decides-int_eq a (b *ℤ q +ℤ r)) (Decides-and _ _ (Decides-int_le (pos 0) r) (Decides-int_lt r b))

-- a division of a number that is not negative by a positive one has a quotient and a remainder that are not negative
record Parts (i j q r : ℤ) : Type 0 where
  dividend : ℕ
  divisor : ℕ
  quotient : ℕ
  remainder : ℕ
  i_is : i ≡ pos dividend
  j_is : j ≡ pos divisor
  q_is : q ≡ pos quotient
  r_is : r ≡ pos remainder
  sum : dividend ≡ divisor * quotient + remainder
  less : remainder < divisor

parts-of : (i j q r : ℤ) → pos 0 ≤ℤ i → pos 1 ≤ℤ j → i ≡ j *ℤ q +ℤ r → pos 0 ≤ℤ r → r <ℤ j → Parts i j q r
parts-of (pos i) (pos j) (pos q) (pos r) h k e l m = record {
  dividend = i;
  divisor = j;
  quotient = q;
  remainder = r;
  i_is = refl;
  j_is = refl;
  q_is = refl;
  r_is = refl;
  sum = omega (arith, ints, e);
  less = omega (arith, ints, m);
}
parts-of (pos i) (pos j) (negsuc q) (pos r) h k e l m =
    let s : j * suc q ≡ j * q + j = omega arith in absurd (omega (arith, ints, e, s, m))
parts-of (negsuc i) j q r h k e l m = absurd (omega (arith, ints, h))
parts-of i (negsuc j) q r h k e l m = absurd (omega (arith, ints, k))
parts-of i j q (negsuc r) h k e l m = absurd (omega (arith, ints, l))

up-to : (n : ℕ) (z : ℤ) → pos n ≤ℤ z → n ≤ at_least_zero z
up-to n (pos m) h = omega (arith, ints, h)
up-to n (negsuc m) h = absurd (omega (arith, ints, h))

zero-abs : (z : ℤ) → at_least_zero z ≤ unsigned_abs z
zero-abs (pos n) = omega (arith, ints)
zero-abs (negsuc n) = omega arith

quotient-within : (q l j i h : ℕ) → 1 ≤ l → l ≤ j → j * q ≤ i → i ≤ h → q ≤ h / l
quotient-within q l j i h some le e top =
    let t : q * l ≤ q * j = times-le q l q j (omega arith) le in
    (le-div_iff_mul-le {k = l} {x = q} {y = h} (omega (arith, some))).1 (omega (arith, t, mul_comm q j, e, top))

-- Over integers.

four-ordered : (o p q r t : Bool) → o ≡ true → p ≡ true → q ≡ true → r ≡ true → t ≡ true → ((o && (p && (q && r))) && t) ≡ true
four-ordered o p q r t e f g h k = rw (e, f, g, h, k) refl

module _ (vars : ℕ) (C : Valuation → Type 0) (keeps : DependsBelow (vars + 1) C) (a b c : OrdInt)
    (fa : SmallInteger (vars + 1) a) (fb : SmallInteger (vars + 1) b) (fc : SmallInteger (vars + 1) c)
    (la : pos 0 ≤ℤ low_of a) (lb : pos 1 ≤ℤ low_of b)
    (order : (σ : Valuation) → C σ → IsOrdered σ a × IsOrdered σ b × IsOrdered σ c) where
  few-remainders : most_remainder a b ≤ 1073741824
  few-remainders =
      let z = zero-abs (high_of a) in
      let m : most_remainder a b ≤ at_least_zero (high_of a) = omega arith in
      omega (arith, z, m, fa.small)

  few-quotients : most_quotient a b ≤ 1073741824
  few-quotients =
      let z = zero-abs (high_of a) in
      let d = div-le_self (at_least_zero (high_of a)) (at_least_zero (low_of b)) in
      omega (arith, z, d, fa.small)

  division-parts : (σ : Valuation) (q r : ℤ) → value_of σ a ≡ value_of σ b *ℤ q +ℤ r → pos 0 ≤ℤ r → r <ℤ value_of σ b → Parts (value_of σ a) (value_of σ b) q r
  division-parts σ q r e l m =
      parts-of (value_of σ a) (value_of σ b) q r (omega (arith, ints, low-le σ a, la)) (omega (arith, ints, low-le σ b, lb)) e l m

  remainder-fits : (σ : Valuation) (q r : ℤ) (p : Parts (value_of σ a) (value_of σ b) q r) → p.remainder ≤ most_remainder a b
  remainder-fits σ q r p =
      let x = up-to p.remainder (high_of a) (omega (arith, ints, high-ge σ a, p.i_is, p.sum)) in
      let y = up-to p.remainder (high_of b -ℤ pos 1) (omega (arith, ints, high-ge σ b, p.j_is, p.less)) in
      omega (arith, x, y)

  quotient-fits : (σ : Valuation) (q r : ℤ) (p : Parts (value_of σ a) (value_of σ b) q r) → p.quotient ≤ most_quotient a b
  quotient-fits σ q r p =
      let top = up-to p.dividend (high_of a) (omega (arith, ints, high-ge σ a, p.i_is)) in
      let least : at_least_zero (low_of b) ≤ p.divisor = least-of (low_of b) p.divisor lb (omega (arith, ints, low-le σ b, p.j_is)) in
      let some = up-to 1 (low_of b) lb in
      quotient-within p.quotient (at_least_zero (low_of b)) p.divisor p.dividend (at_least_zero (high_of a)) some least (omega (arith, p.sum)) top
    where
      least-of : (z : ℤ) (n : ℕ) → pos 1 ≤ℤ z → z ≤ℤ pos n → at_least_zero z ≤ n
      least-of (pos m) n h k = omega (arith, ints, k)
      least-of (negsuc m) n h k = absurd (omega (arith, ints, h))

  well-formed : (n : ℕ) (q r : OrdInt) → SmallInteger n q → SmallInteger n r → IsWellFormed (core.DivMod a b q r)
  well-formed n q r fq fr =
      let le = times-le (greatest_abs b) (greatest_abs q) 1073741824 1073741824 fb.small fq.small in
      (fa.sound, fb.sound, fq.sound, fr.sound, la, lb, small-divisions b q r (omega (arith, le, fr.small)))

  more : (n : ℕ) (x : OrdInt) → SmallInteger (vars + 1) x → SmallInteger (vars + n + 1) x
  more n x h = small-more (vars + 1) (vars + n + 1) x (omega arith) h

  -- the statement names the quotient
  pub quotient-lowers : Lowers vars (vars + most_remainder a b) C (core.DivMod a b c (fresh_range vars (most_remainder a b)) ∷ []) (λ σ. IsTrue (is_quotient (value_of σ a) (value_of σ b) (value_of σ c)))
  quotient-lowers =
      let most = most_remainder a b in
      let z = fresh_range vars most in
      let fz = small-fresh vars most few-remainders in
      record {
        more = omega arith;
        below = ((tt, ((more most a fa).below, ((more most b fb).below, ((more most c fc).below, (fz.below, tt))))), tt);
        well_formed = (well-formed (vars + most + 1) c z (more most c fc) fz, tt);
        implies = λ σ o h.
            let p = and_parts (in_order σ a.steps && (in_order σ b.steps && (in_order σ c.steps && in_order σ z.steps))) (is_division (value_of σ a) (value_of σ b) (value_of σ c) (value_of σ z))
            ((MeetsAll-one σ (core.DivMod a b c z)).0 h) in
            let d = (Decides-is_division (value_of σ a) (value_of σ b) (value_of σ c) (value_of σ z)).0 p.1 in
            (Decides-is_quotient (value_of σ a) (value_of σ b) (value_of σ c)).1 (value_of σ z, d.0, d.1.0, d.1.1);
        extends = λ σ o h.
            let q = (Decides-is_quotient (value_of σ a) (value_of σ b) (value_of σ c)).0 h in
            let p = division-parts σ (value_of σ c) q.0 q.1 q.2 q.3 in
            let t = takes-fresh σ vars most p.remainder (remainder-fits σ (value_of σ c) q.0 p) in
            let τ : Valuation = t.0 in
            let same : Agree (vars + 1) σ τ = t.1 in
            let order_of = order τ (keeps σ τ same o) in
            let ea : value_of σ a ≡ value_of τ a = value_of-agree (vars + 1) σ τ a same fa.below in
            let eb : value_of σ b ≡ value_of τ b = value_of-agree (vars + 1) σ τ b same fb.below in
            let ec : value_of σ c ≡ value_of τ c = value_of-agree (vars + 1) σ τ c same fc.below in
            let ez : q.0 ≡ value_of τ z = p.r_is ∙ sym t.2.1 in
            let s : value_of τ a ≡ value_of τ b *ℤ value_of τ c +ℤ value_of τ z = rw (← ea, ← eb, ← ec, ← ez) q.1 in
            let l : pos 0 ≤ℤ value_of τ z = rw (← ez) q.2 in
            let m : value_of τ z <ℤ value_of τ b = rw (← ez, ← eb) q.3 in (
              τ,
              same,
              (MeetsAll-one τ (core.DivMod a b c z)).1
                  (four-ordered _ _ _ _ _ order_of.0 order_of.1 order_of.2 t.2.0 ((Decides-is_division (value_of τ a) (value_of τ b) (value_of τ c) (value_of τ z)).1 (s, (l, m)))),
            );
      }

  -- the statement names the remainder
  pub remainder-lowers : Lowers vars (vars + most_quotient a b) C (core.DivMod a b (fresh_range vars (most_quotient a b)) c ∷ []) (λ σ. IsTrue (is_remainder (value_of σ a) (value_of σ b) (value_of σ c)))
  remainder-lowers =
      let most = most_quotient a b in
      let z = fresh_range vars most in
      let fz = small-fresh vars most few-quotients in
      record {
        more = omega arith;
        below = ((tt, ((more most a fa).below, ((more most b fb).below, (fz.below, ((more most c fc).below, tt))))), tt);
        well_formed = (well-formed (vars + most + 1) z c fz (more most c fc), tt);
        implies = λ σ o h.
            let p = and_parts (in_order σ a.steps && (in_order σ b.steps && (in_order σ z.steps && in_order σ c.steps))) (is_division (value_of σ a) (value_of σ b) (value_of σ z) (value_of σ c))
            ((MeetsAll-one σ (core.DivMod a b z c)).0 h) in
            let d = (Decides-is_division (value_of σ a) (value_of σ b) (value_of σ z) (value_of σ c)).0 p.1 in
            (Decides-is_remainder (value_of σ a) (value_of σ b) (value_of σ c)).1 (value_of σ z, d.0, d.1.0, d.1.1);
        extends = λ σ o h.
            let q = (Decides-is_remainder (value_of σ a) (value_of σ b) (value_of σ c)).0 h in
            let p = division-parts σ q.0 (value_of σ c) q.1 q.2 q.3 in
            let t = takes-fresh σ vars most p.quotient (quotient-fits σ q.0 (value_of σ c) p) in
            let τ : Valuation = t.0 in
            let same : Agree (vars + 1) σ τ = t.1 in
            let order_of = order τ (keeps σ τ same o) in
            let ea : value_of σ a ≡ value_of τ a = value_of-agree (vars + 1) σ τ a same fa.below in
            let eb : value_of σ b ≡ value_of τ b = value_of-agree (vars + 1) σ τ b same fb.below in
            let ec : value_of σ c ≡ value_of τ c = value_of-agree (vars + 1) σ τ c same fc.below in
            let ez : q.0 ≡ value_of τ z = p.q_is ∙ sym t.2.1 in
            let s : value_of τ a ≡ value_of τ b *ℤ value_of τ z +ℤ value_of τ c = rw (← ea, ← eb, ← ec, ← ez) q.1 in
            let l : pos 0 ≤ℤ value_of τ c = rw (← ec) q.2 in
            let m : value_of τ c <ℤ value_of τ b = rw (← ec, ← eb) q.3 in (
              τ,
              same,
              (MeetsAll-one τ (core.DivMod a b z c)).1
                  (four-ordered _ _ _ _ _ order_of.0 order_of.1 t.2.0 order_of.2 ((Decides-is_division (value_of τ a) (value_of τ b) (value_of τ z) (value_of τ c)).1 (s, (l, m)))),
            );
      }
