-- Laws of what is found among the equations that rules state, and of instances.
use Rattle.std.proofs.Common.{◌≡◌, Bool, true, false, not, ◌&&◌, List, refl, sym, ap, ◌∙◌, ◌↔◌}
use Rattle.std.specs.Prelude.{Option, None, Some, IsNone, IfSome}
use Rattle.std.specs.Option.{option_or, is_some}
use Rattle.order_ints.specs.declared.atom.Atom.{Atom}
use Rattle.order_ints.specs.Same.{same_atom}
use Rattle.order_ints.specs.Truth.{Valuation}
use Rattle.core_forms.specs.declared.equation.Rule.{Rule}
use Rattle.core_forms.specs.declared.equation.Rule.TheVariants.{Order, Form, Table}
use Rattle.core_forms.specs.declared.equation.Equation.{Equation}
use Rattle.core_forms.specs.declared.form.Core.{Core}
use Rattle.core_forms.specs.Meaning.{Meets}
use Rattle.rule_base.specs.declared.sought.SoughtEquation.TheVariants.{Apart, Pair}
use Rattle.rule_base.specs.Pairs.{first_sought, is_listed, AreEqual, EachOfPairs}
use Rattle.rule_base.specs.Found.{stated_by, found_by, is_instance_by, IsImplied}
use Rattle.rule_base.proofs.PairLaws.{first_sought-Pair, listed-found, sought-found, none-apart, equal-listed, each-listed}

-- what is the first of two options is one of them
by_first : {X Y : Type 0} (o p : Option X) (x : X) → option_or o p ≡ Some x → (o ≡ Some x → Y) → (p ≡ Some x → Y) → Y
by_first None p x e here there = there e
by_first (Some y) p x e here there = here e

both-none : {X : Type 0} (o p : Option X) → option_or o p ≡ None → (o ≡ None) × (p ≡ None)
both-none None p e = (refl, e)
both-none (Some y) p e = absurd (cc)

module _ (pairs : Rule → List (Atom × Atom)) where
  stated-instance : (rule : Rule) (o : Option (Atom × Atom)) (e : Equation) → first_sought Apart (pairs rule) ≡ o → stated_by rule o ≡ Some e → is_instance_by pairs e ≡ true
  stated-instance rule None e is stated = absurd (cc)
  stated-instance rule (Some p) e is stated =
      let same : record { rule = rule; a = p.0; b = p.1 } ≡ e = cc in
      let apart : not (same_atom p.0 p.1) ≡ true = sought-found Apart (pairs rule) p is in
      let listed : is_listed p.0 p.1 (pairs rule) ≡ true = listed-found Apart (pairs rule) p is in
      ap (is_instance_by pairs) (sym same) ∙ ap (λ t. t && is_listed p.0 p.1 (pairs rule)) apart ∙ listed

  -- what is found is an instance
  pub found-instance : (e : Equation) → found_by pairs ≡ Some e → is_instance_by pairs e ≡ true
  found-instance e found =
      by_first (stated_by Order (first_sought Apart (pairs Order))) (option_or (stated_by Form (first_sought Apart (pairs Form))) (stated_by Table (first_sought Apart (pairs Table)))) e found
      (stated-instance Order (first_sought Apart (pairs Order)) e refl)
      (λ more. by_first (stated_by Form (first_sought Apart (pairs Form))) (stated_by Table (first_sought Apart (pairs Table))) e more
      (stated-instance Form (first_sought Apart (pairs Form)) e refl)
      (stated-instance Table (first_sought Apart (pairs Table)) e refl))

  none-stated : (rule : Rule) (o : Option (Atom × Atom)) → stated_by rule o ≡ None → o ≡ None
  none-stated rule None e = refl
  none-stated rule (Some p) e = absurd (cc)

  no-pair : (rule : Rule) → found_by pairs ≡ None → first_sought Apart (pairs rule) ≡ None
  no-pair Order none =
      none-stated Order (first_sought Apart (pairs Order)) (both-none (stated_by Order (first_sought Apart (pairs Order))) (option_or (stated_by Form (first_sought Apart (pairs Form))) (stated_by Table (first_sought Apart (pairs Table)))) none).0
  no-pair Form none =
      let more = (both-none (stated_by Order (first_sought Apart (pairs Order))) (option_or (stated_by Form (first_sought Apart (pairs Form))) (stated_by Table (first_sought Apart (pairs Table)))) none).1 in
      none-stated Form (first_sought Apart (pairs Form)) (both-none (stated_by Form (first_sought Apart (pairs Form))) (stated_by Table (first_sought Apart (pairs Table))) more).0
  no-pair Table none =
      let more = (both-none (stated_by Order (first_sought Apart (pairs Order))) (option_or (stated_by Form (first_sought Apart (pairs Form))) (stated_by Table (first_sought Apart (pairs Table)))) none).1 in
      none-stated Table (first_sought Apart (pairs Table)) (both-none (stated_by Form (first_sought Apart (pairs Form))) (stated_by Table (first_sought Apart (pairs Table))) more).1

  and-listed : (s t : Bool) → (t ≡ true → s ≡ true) → (not s && t) ≡ false
  and-listed true t h = refl
  and-listed false true h = absurd (let e : false ≡ true = h refl in cc)
  and-listed false false h = refl

  none-instance : found_by pairs ≡ None → (e : Equation) → is_instance_by pairs e ≡ false
  none-instance none e =
      and-listed (same_atom e.a e.b) (is_listed e.a e.b (pairs e.rule)) (none-apart (pairs e.rule) e.a e.b (no-pair e.rule none))

  instance-none : (o : Option Equation) → found_by pairs ≡ o → ((e : Equation) → is_instance_by pairs e ≡ false) → IsNone o
  instance-none None is never = refl
  instance-none (Some e) is never = absurd (let yes = found-instance e is in let not_so = never e in cc)

  none-found : (o : Option Equation) → found_by pairs ≡ o → IsNone o → (e : Equation) → is_instance_by pairs e ≡ false
  none-found None is none = none-instance is
  none-found (Some e) is none = absurd (cc)

  -- nothing is found exactly where there is no instance
  pub found-none : (o : Option Equation) → o ≡ found_by pairs → IsNone o ↔ ((e : Equation) → is_instance_by pairs e ≡ false)
  found-none o is = (none-found o (sym is), instance-none o (sym is))

  -- and what is found is one
  pub found-some : (o : Option Equation) → o ≡ found_by pairs → IfSome o (λ e. is_instance_by pairs e ≡ true)
  found-some None is = tt
  found-some (Some e) is = found-instance e (sym is)

  and-left : (s t : Bool) → (s && t) ≡ true → s ≡ true
  and-left true t h = refl
  and-left false t h = absurd (cc)

  and-right : (s t : Bool) → (s && t) ≡ true → t ≡ true
  and-right true t h = h
  and-right false t h = absurd (cc)

  -- an equation of one atom is no instance, and one of two is where it is found among those of its rule
  pub instance-same : (e : Equation) → same_atom e.a e.b ≡ true → false ≡ is_instance_by pairs e
  instance-same e same = ap (λ t. not t && is_listed e.a e.b (pairs e.rule)) (sym same)

  pub instance-tested : (e : Equation) (o : Option (Atom × Atom)) → same_atom e.a e.b ≡ false → o ≡ first_sought (Pair e.a e.b) (pairs e.rule) → is_some o ≡ is_instance_by pairs e
  instance-tested e o differ found =
      ap is_some found ∙ first_sought-Pair e.a e.b (pairs e.rule) ∙ ap (λ t. not t && is_listed e.a e.b (pairs e.rule)) (sym differ)

  -- an instance is listed by its rule
  pub instance-listed : (e : Equation) → is_instance_by pairs e ≡ true → is_listed e.a e.b (pairs e.rule) ≡ true
  instance-listed e is = and-right (not (same_atom e.a e.b)) (is_listed e.a e.b (pairs e.rule)) is

  -- an instance is implied where the pairs of each rule are equally true under each valuation that meets the core
  pub instance-implied : (core : Core) → ((σ : Valuation) (rule : Rule) → Meets σ core → AreEqual σ (pairs rule)) → (e : Equation) → is_instance_by pairs e ≡ true → IsImplied core e
  instance-implied core equal e is σ met = equal-listed σ (pairs e.rule) e.a e.b (equal σ e.rule met) (instance-listed e is)

  pub found-implied : (core : Core) → ((σ : Valuation) (rule : Rule) → Meets σ core → AreEqual σ (pairs rule)) → (o : Option Equation) → o ≡ found_by pairs → IfSome o (IsImplied core)
  found-implied core equal None is = tt
  found-implied core equal (Some e) is = instance-implied core equal e (found-instance e (sym is))

  -- what holds of both atoms of each pair holds of both atoms of an instance
  pub instance-each : (P : Atom → Type 0) → ((rule : Rule) → EachOfPairs P (pairs rule)) → (e : Equation) → is_instance_by pairs e ≡ true → P e.a × P e.b
  instance-each P each e is = each-listed P (pairs e.rule) e.a e.b (each e.rule) (instance-listed e is)
