-- Each equation that a rule states of a core holds under each valuation that meets the core.
use Rattle.std.proofs.Common.{◌≡◌, Bool, true, false, ◌&&◌, refl}
use Rattle.std.specs.Prelude.{int_le}
use Rattle.std.specs.Bool.{beq}
use Rattle.std.specs.Ordering.{int_eq}
use Rattle.order_ints.specs.Truth.{Valuation, atom_truth}
use Rattle.order_ints.specs.OrderValue.{value_of}
use Rattle.core_forms.specs.declared.equation.Rule.{Rule}
use Rattle.core_forms.specs.declared.equation.Rule.TheVariants.{Order, Form, Table}
use Rattle.core_forms.specs.declared.form.Core.{Core}
use Rattle.core_forms.specs.declared.form.Core.TheVariants.{Ladder, Clause, Parity, Conj, Comp, LeqR, EqR, Sum3, Count, Sum, Max, AllDiff, Amo, Prod, DivMod, Lex}
use Rattle.core_forms.specs.Meaning.{ordered, Meets}
use Rattle.core_forms.specs.Contents.{ints_of}
use Rattle.core_forms.proofs.ContentLaws.{ordered-met}
use Rattle.rule_base.specs.Pairs.{AreEqual}
use Rattle.equi_rules.specs.Instances.{form_equations, equations_of}
use Rattle.equi_rules.proofs.OrderSound.{ints-equal}
use Rattle.equi_rules.proofs.AtomSound.{clause-equal, parity-equal, conj-equal, amo-equal}
use Rattle.equi_rules.proofs.CompareSound.{leq-equal, eq-equal}

and-left : (s t : Bool) → (s && t) ≡ true → s ≡ true
and-left true t h = refl
and-left false t h = absurd (cc)

and-right : (s t : Bool) → (s && t) ≡ true → t ≡ true
and-right true t h = h
and-right false t h = absurd (cc)

beq-same : (s t : Bool) → beq s t ≡ true → s ≡ t
beq-same true true h = refl
beq-same true false h = absurd (cc)
beq-same false true h = absurd (cc)
beq-same false false h = refl

form-equal : (σ : Valuation) (core : Core) → Meets σ core → AreEqual σ (form_equations core)
form-equal σ (Ladder a) met = tt
form-equal σ (Clause ls) met = clause-equal σ ls met
form-equal σ (Parity ls odd) met = parity-equal σ ls odd met
form-equal σ (Conj r ls) met = conj-equal σ r ls met
form-equal σ (Comp a b hi lo) met = tt
form-equal σ (LeqR r a b) met =
    let orders = and-left (ordered σ a && ordered σ b) (beq (atom_truth σ r) (int_le (value_of σ a) (value_of σ b))) met in
    leq-equal σ r a b (and-left (ordered σ a) (ordered σ b) orders) (and-right (ordered σ a) (ordered σ b) orders)
    (beq-same (atom_truth σ r) (int_le (value_of σ a) (value_of σ b)) (and-right (ordered σ a && ordered σ b) (beq (atom_truth σ r) (int_le (value_of σ a) (value_of σ b))) met))
form-equal σ (EqR r a b) met =
    let orders = and-left (ordered σ a && ordered σ b) (beq (atom_truth σ r) (int_eq (value_of σ a) (value_of σ b))) met in
    eq-equal σ r a b (and-left (ordered σ a) (ordered σ b) orders) (and-right (ordered σ a) (ordered σ b) orders)
    (beq-same (atom_truth σ r) (int_eq (value_of σ a) (value_of σ b)) (and-right (ordered σ a && ordered σ b) (beq (atom_truth σ r) (int_eq (value_of σ a) (value_of σ b))) met))
form-equal σ (Sum3 a b c) met = tt
form-equal σ (Count ls c) met = tt
form-equal σ (Sum xs k) met = tt
form-equal σ (Max xs c) met = tt
form-equal σ (AllDiff xs cs) met = tt
form-equal σ (Amo ls) met = amo-equal σ ls met
form-equal σ (Prod a b c) met = tt
form-equal σ (DivMod a b q r) met = tt
form-equal σ (Lex r strict front back) met = tt

pub equations-equal : (core : Core) (σ : Valuation) (rule : Rule) → Meets σ core → AreEqual σ (equations_of core rule)
equations-equal core σ Order met = ints-equal σ (ints_of core) (ordered-met σ core met)
equations-equal core σ Form met = form-equal σ core met
equations-equal core σ Table met = tt
