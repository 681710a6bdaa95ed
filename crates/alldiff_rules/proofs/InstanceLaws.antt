-- Laws of what is found of a core, and of instances.
use Rattle.std.proofs.Common.{◌≡◌, ◌≢◌, true, false, not, ◌⊎◌, inl, inr, refl, ap, sym, ◌∙◌, subst₂, ⊎_elim}
use Rattle.std.specs.Prelude.{◌↔◌, Option, None, Some, IsNone, IfSome}
use Rattle.std.specs.Option.{is_some}
use Rattle.std.proofs.lemmas.Bool.{true≢false, false≢true, false_from_ne_true}
use Rattle.order_ints.specs.declared.atom.Atom.{Atom}
use Rattle.order_ints.specs.Same.{same_atom}
use Rattle.order_ints.specs.Equality.{same_atom-refl}
use Rattle.core_forms.specs.declared.equation.Rule.TheVariants.{Form}
use Rattle.core_forms.specs.declared.equation.Equation.{Equation}
use Rattle.core_forms.specs.declared.form.Core.{Core}
use Rattle.core_forms.specs.WellFormed.{IsWellFormed}
use Rattle.rule_base.specs.declared.sought.SoughtEquation.TheVariants.{Apart, Pair}
use Rattle.rule_base.specs.Pairs.{is_pair_of, is_sought}
use Rattle.rule_base.specs.Found.{stated_by, IsImplied}
use Rattle.rule_base.proofs.PairLaws.{by_pair}
use Rattle.alldiff_rules.specs.Instances.{IsStated, IsInstance}
use Rattle.alldiff_rules.specs.Finds.{Finds, IsOfTwo}
use Rattle.alldiff_rules.proofs.TwinLaws.{same-not-apart, pair-itself, pair-crossed}
use Rattle.alldiff_rules.proofs.Sound.{instance-implied}

-- an equation of an atom with itself is not looked for
pub apart-of_two : IsOfTwo Apart
apart-of_two a = ap not (same_atom-refl a)

pub pair-of_two : (a b : Atom) → a ≢ b → IsOfTwo (Pair a b)
pair-of_two a b differ x =
    false_from_ne_true (is_pair_of a b (x, x)) (λ e. by_pair {X = ⊥} a b (x, x) e (λ f g. differ (sym f ∙ g)) (λ f g. differ (sym g ∙ f)))

apart-differ : (a b : Atom) → is_sought Apart (a, b) ≡ true → a ≢ b
apart-differ a b e same = true≢false (sym e ∙ ap not (ap (same_atom a) (sym same) ∙ same_atom-refl a))

module _ (core : Core) where
  -- what is found
  pub found-instance : (o : Option (Atom × Atom)) → Finds Apart (IsStated core) o → IfSome (stated_by Form o) (IsInstance core)
  found-instance None h = tt
  found-instance (Some p) h = record { form = refl; differ = apart-differ p.0 p.1 h.1; stated = inl h.0 }

  pub found-implied : IsWellFormed core → (o : Option (Atom × Atom)) → Finds Apart (IsStated core) o → IfSome (stated_by Form o) (IsImplied core)
  found-implied form None h = tt
  found-implied form (Some p) h = instance-implied core (record { rule = Form; a = p.0; b = p.1 }) form (found-instance (Some p) h)

  -- where nothing is found there is no instance
  never : ((a b : Atom) → IsStated core a b → is_sought Apart (a, b) ≡ false) → (e : Equation) → IsInstance core e → ⊥
  never none e h = ⊎_elim (λ (s : IsStated core e.a e.b). h.differ (same-not-apart e.a e.b (none e.a e.b s))) (λ (s : IsStated core e.b e.a). h.differ (sym (same-not-apart e.b e.a (none e.b e.a s)))) h.stated

  pub found-none : (o : Option (Atom × Atom)) → Finds Apart (IsStated core) o → IsNone (stated_by Form o) ↔ ((e : Equation) → IsInstance core e → ⊥)
  found-none None h = (λ _. never h, λ _. refl)
  found-none (Some p) h = (λ none. absurd (cc), λ no. absurd (no (record { rule = Form; a = p.0; b = p.1 }) (found-instance (Some p) h)))

  -- a given equation
  abbrev pub IsEither : Atom → Atom → Type 0
  IsEither a b = (a ≢ b) × (IsStated core a b ⊎ IsStated core b a)

  pub told-stated : (a b : Atom) → a ≢ b → (o : Option (Atom × Atom)) → Finds (Pair a b) (IsStated core) o → (is_some o ≡ true) ↔ IsEither a b
  told-stated a b differ None h = (λ e. absurd (false≢true e), λ k. ⊎_elim (λ (s : IsStated core a b). absurd (true≢false (sym (pair-itself a b) ∙ h a b s))) (λ (s : IsStated core b a). absurd (true≢false (sym (pair-crossed a b) ∙ h b a s))) k.1)
  told-stated a b differ (Some p) h =
      (λ _. (differ, by_pair {X = IsStated core a b ⊎ IsStated core b a} a b p h.1 (λ f g. inl (subst₂ (IsStated core) f g h.0)) (λ f g. inr (subst₂ (IsStated core) f g h.0))), λ _. refl)

  pub same-stated : (a b : Atom) → a ≡ b → (false ≡ true) ↔ IsEither a b
  same-stated a b same = (λ e. absurd (false≢true e), λ k. absurd (k.0 same))

  -- only equations of the rule Form are instances
  pub form-instance : (e : Equation) → e.rule ≡ Form → IsEither e.a e.b → IsInstance core e
  form-instance e is h = record { form = is; differ = h.0; stated = h.1 }
