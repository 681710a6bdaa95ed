-- The tests of equality tell it, and so they are equivalences.
use Rattle.std.proofs.Common.{◌≡◌, ℕ, Bool, true, false, ◌&&◌, ◌==◌, refl, sym, ap, ◌∙◌}
use Rattle.std.specs.Ordering.{int_eq}
use Rattle.std.specs.Bool.{beq, Decides, one_answer}
use Rattle.std.specs.Cmp.{IsEquivalence, booleans_Decides}
use Rattle.std.specs.Cmp.Lexicographic.{pointwise, pointwise_decides}
use Rattle.std.proofs.lemmas.Bool.{and_parts}
use Rattle.std.proofs.lemmas.Bool.Decides.{Decides-eqb, Decides-int_eq}
use Rattle.order_ints.specs.declared.literal.Lit.{Lit}
use Rattle.order_ints.specs.declared.atom.Atom.{Atom}
use Rattle.order_ints.specs.declared.atom.Atom.TheVariants.{True, False, Of}
use Rattle.order_ints.specs.declared.order_int.OrdInt.{OrdInt}
use Rattle.order_ints.specs.Same.{is_true, is_false, same_atom, same_step, same_int}
use Rattle.order_ints.specs.OrderedClauses.{same_lit}

-- both tests of a conjunction hold exactly where both facts do
both-tell : {P Q R : Type 0} (b c : Bool) → Decides b P → Decides c Q → (P → Q → R) → (R → P)
    → (R → Q) → Decides (b && c) R
both-tell b c p q make first second = (
  (λ h. make (p.0 (and_parts b c h).0) (q.0 (and_parts b c h).1)),
  (λ r. and_both b c (p.1 (first r)) (q.1 (second r))),
)
  where
    and_both : (b c : Bool) → b ≡ true → c ≡ true → (b && c) ≡ true
    and_both true c e f = f
    and_both false c e f = e

pub same_lit-tells : (l m : Lit) → Decides (same_lit l m) (l ≡ m)
same_lit-tells l m =
    both-tell (l.var == m.var) (beq l.positive m.positive) (Decides-eqb l.var m.var)
    (booleans_Decides l.positive m.positive)
    (λ e f. λ i. record { var = e i; positive = f i }) (λ e. ap (λ (x : Lit). x.var) e)
    (λ e. ap (λ (x : Lit). x.positive) e)

pub is_true-True : (a : Atom) → is_true a ≡ true → a ≡ True
is_true-True True h = refl
is_true-True False h = absurd (cc)
is_true-True (Of l) h = absurd (cc)

pub is_false-False : (a : Atom) → is_false a ≡ true → a ≡ False
is_false-False True h = absurd (cc)
is_false-False False h = refl
is_false-False (Of l) h = absurd (cc)

pub same_atom-true : (a b : Atom) → same_atom a b ≡ true → a ≡ b
same_atom-true True b h = sym (is_true-True b h)
same_atom-true False b h = sym (is_false-False b h)
same_atom-true (Of l) True h = absurd (cc)
same_atom-true (Of l) False h = absurd (cc)
same_atom-true (Of l) (Of m) h = ap Of ((same_lit-tells l m).0 h)

pub same_atom-refl : (a : Atom) → same_atom a a ≡ true
same_atom-refl True = refl
same_atom-refl False = refl
same_atom-refl (Of l) = (same_lit-tells l l).1 refl

-- the test of each tells equality
pub same_atom-tells : (a b : Atom) → Decides (same_atom a b) (a ≡ b)
same_atom-tells a b = (same_atom-true a b, λ e. ap (same_atom a) (sym e) ∙ same_atom-refl a)

pub same_step-tells : (s t : Atom × ℕ) → Decides (same_step s t) (s ≡ t)
same_step-tells s t =
    both-tell (same_atom s.0 t.0) (s.1 == t.1) (same_atom-tells s.0 t.0) (Decides-eqb s.1 t.1)
    (λ e f. λ i. (e i, f i)) (λ e. ap (λ (x : Atom × ℕ). x.0) e) (λ e. ap (λ (x : Atom × ℕ). x.1) e)

pub same_int-tells : (a b : OrdInt) → Decides (same_int a b) (a ≡ b)
same_int-tells a b =
    both-tell (int_eq a.base b.base) (pointwise same_step a.steps b.steps) (Decides-int_eq a.base b.base)
    (pointwise_decides same_step-tells a.steps b.steps)
    (λ e f. λ i. record { base = e i; steps = f i }) (λ e. ap (λ (x : OrdInt). x.base) e)
    (λ e. ap (λ (x : OrdInt). x.steps) e)

-- a test that tells equality is an equivalence
tells_equiv : {X : Type 0} (E : X → X → Bool) → ((x y : X) → Decides (E x y) (x ≡ y)) → IsEquivalence E
tells_equiv E tells = record {
  refl = λ x. (tells x x).1 refl;
  symm = λ x y. one_answer (E x y) (E y x) (tells x y) ((λ h. sym ((tells y x).0 h)), (λ e. (tells y x).1 (sym e)));
  congr = λ x y z h. ap (λ w. E w z) ((tells x y).0 h);
}

pub same_atom_equiv : IsEquivalence same_atom
same_atom_equiv = tells_equiv same_atom same_atom-tells

pub same_int_equiv : IsEquivalence same_int
same_int_equiv = tells_equiv same_int same_int-tells
