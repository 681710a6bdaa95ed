-- The core of a comparison: that an atom is its truth, and its range.
use Rattle.std.proofs.Common.{◌≡◌, ℕ, ℤ, Bool, true, false, not, ◌&&◌, refl, sym, ap, ◌∙◌, arith}
use Rattle.std.specs.Prelude.{int_le, int_lt}
use Rattle.std.specs.Bool.{beq}
use Rattle.std.specs.Ordering.{int_eq}
use Rattle.std.proofs.lemmas.Bool.Decides.{same_from_decides, Decides-not, Decides-like, Decides-int_eq}
use Rattle.std.proofs.lemmas.Int.{ints, by_lt_z}
use Rattle.order_ints.specs.declared.atom.Atom.{Atom}
use Rattle.order_ints.specs.declared.order_int.OrdInt.{OrdInt}
use Rattle.order_ints.specs.Truth.{Valuation, atom_truth, not_atom}
use Rattle.order_ints.specs.Place.{AtomBelow}
use Rattle.order_ints.specs.OrderRange.{IntBelow}
use Rattle.order_ints.specs.OrderValue.{value_of, in_order, IsOrdered}
use Rattle.order_ints.proofs.Truths.{atom_truth-not_atom, AtomBelow-not_atom}
use Rattle.core_forms.specs.Meaning.{core_truth}
use Rattle.core_forms.specs.Place.{CoreBelow}
use Rattle.core_forms.specs.WellFormed.{IsSound, IsWellFormed}
use Rattle.model_meaning.specs.declared.statement.Relation.{Relation}
use Rattle.model_meaning.specs.declared.statement.Relation.TheVariants as relation
use Rattle.model_meaning.specs.Integers.{relates}
use Rattle.model_meaning.specs.Holds.{same}
use Rattle.model_meaning.proofs.DomainLaws.{Decides-int_le, Decides-int_lt}
use Rattle.statement_lower.specs.Comparison.{comparison_core}
use Rattle.statement_lower.proofs.BooleanLines.{beq-same}

beq-not : (x y : Bool) → beq (not x) y ≡ beq x (not y)
beq-not true true = refl
beq-not true false = refl
beq-not false true = refl
beq-not false false = refl

less-not : (a b : ℤ) → not (int_le b a) ≡ int_lt a b
less-not a b =
    same_from_decides _ _
    (Decides-like _ (λ h. by_lt_z a b (λ l. l) (λ l. absurd (h l))) (λ l h. omega (arith, ints, l, h)) (Decides-not (int_le b a) (Decides-int_le b a)))
    (Decides-int_lt a b)

pub equal-turned : (a b : ℤ) → int_eq a b ≡ int_eq b a
equal-turned a b = same_from_decides _ _ (Decides-int_eq a b) (Decides-like _ sym sym (Decides-int_eq b a))

ordered-both : (o p t : Bool) → o ≡ true → p ≡ true → ((o && p) && t) ≡ t
ordered-both o p t e f = rw (e, f) refl

negated : (σ : Valuation) (r : Atom) (t : Bool) → beq (atom_truth σ (not_atom r)) t ≡ beq (atom_truth σ r) (not t)
negated σ r t = ap (λ x. beq x t) (atom_truth-not_atom σ r) ∙ beq-not (atom_truth σ r) t

-- on ordered integers the core of a comparison says that r is its truth
to-beq : (σ : Valuation) (rel : Relation) (r : Atom) (a b : OrdInt) → IsOrdered σ a → IsOrdered σ b → core_truth σ (comparison_core rel r a b) ≡ beq (atom_truth σ r) (relates rel (value_of σ a) (value_of σ b))
to-beq σ relation.Leq r a b h k = ordered-both (in_order σ a.steps) (in_order σ b.steps) _ h k
to-beq σ relation.Geq r a b h k = ordered-both (in_order σ b.steps) (in_order σ a.steps) _ k h
to-beq σ relation.Eq r a b h k = ordered-both (in_order σ a.steps) (in_order σ b.steps) _ h k
to-beq σ relation.Lt r a b h k =
    ordered-both (in_order σ b.steps) (in_order σ a.steps) _ k h
    ∙ (negated σ r _ ∙ ap (beq (atom_truth σ r)) (less-not (value_of σ a) (value_of σ b)))
to-beq σ relation.Gt r a b h k =
    ordered-both (in_order σ a.steps) (in_order σ b.steps) _ h k
    ∙ (negated σ r _ ∙ ap (beq (atom_truth σ r)) (less-not (value_of σ b) (value_of σ a)))
to-beq σ relation.Neq r a b h k =
    ordered-both (in_order σ a.steps) (in_order σ b.steps) _ h k ∙ negated σ r _

pub comparison-truth : (σ : Valuation) (rel : Relation) (r : Atom) (a b : OrdInt) → IsOrdered σ a → IsOrdered σ b → core_truth σ (comparison_core rel r a b) ≡ same (atom_truth σ r) (relates rel (value_of σ a) (value_of σ b))
comparison-truth σ rel r a b h k =
    to-beq σ rel r a b h k ∙ beq-same (atom_truth σ r) (relates rel (value_of σ a) (value_of σ b))

-- ranges of integers that are compared
pub comparison-below : (n : ℕ) (rel : Relation) (r : Atom) (a b : OrdInt) → AtomBelow n r → IntBelow n a → IntBelow n b → CoreBelow n (comparison_core rel r a b)
comparison-below n relation.Leq r a b at h k = ((at, tt), (h, (k, tt)))
comparison-below n relation.Geq r a b at h k = ((at, tt), (k, (h, tt)))
comparison-below n relation.Eq r a b at h k = ((at, tt), (h, (k, tt)))
comparison-below n relation.Lt r a b at h k = ((AtomBelow-not_atom n r at, tt), (k, (h, tt)))
comparison-below n relation.Gt r a b at h k = ((AtomBelow-not_atom n r at, tt), (h, (k, tt)))
comparison-below n relation.Neq r a b at h k = ((AtomBelow-not_atom n r at, tt), (h, (k, tt)))

pub comparison-well_formed : (rel : Relation) (r : Atom) (a b : OrdInt) → IsSound a → IsSound b → IsWellFormed (comparison_core rel r a b)
comparison-well_formed relation.Leq r a b h k = (h, k)
comparison-well_formed relation.Geq r a b h k = (k, h)
comparison-well_formed relation.Eq r a b h k = (h, k)
comparison-well_formed relation.Lt r a b h k = (k, h)
comparison-well_formed relation.Gt r a b h k = (h, k)
comparison-well_formed relation.Neq r a b h k = (h, k)
