-- A text has one first fault, or it says a model none of whose parts is too heavy.
use Rattle.std.proofs.Common.{◌≡◌, ◌⊎◌, inl, inr, ℕ, ◌+◌, ◌<◌, ◌≤◌, List, length, refl, ap, sym, ◌∙◌, subst, ⊎_elim, arith}
use Rattle.std.proofs.lemmas.Bool.{cases_lt}
use Rattle.model_meaning.specs.declared.model.Model.{Model}
use Rattle.model_weight.specs.Weight.{weight_of}
use Rattle.model_lower.specs.Weighed.{most_weight}
use Rattle.model_parts.specs.CoreWeight.{core_weight}
use Rattle.model_texts.specs.declared.fault.ModelFault.{ModelFault}
use Rattle.model_texts.specs.declared.fault.ModelFault.TheVariants as fault
use Rattle.model_texts.specs.ModelTexts.{longest_text, IsModelOf, IsFirstFault, HasFault}
use Rattle.model_texts.specs.HeldModels.{HoldsModel}
use Rattle.model_texts.proofs.FirstFaults.{one_text_fault, no_text_fault}
use Rattle.model_texts.proofs.OneModel.{one_model}
use Rattle.model_texts.proofs.FaultOrModel.{FaultOrModel, fault_or_model}
use Rattle.conflict_models.specs.ConflictModels.{HoldsWhole, IsFirstFaultOf, HasFaultOf}

-- no part of a model weighs less than the model
lighter : (m : Model) (n : ℕ) → core_weight m ≤ n → weight_of m ≤ n
lighter m n h = omega (arith, h)

heavier : (m : Model) (n : ℕ) → n < weight_of m → n < core_weight m
heavier m n h = omega (arith, h)

-- a text that says a model has no fault but its weight
module _ (text : List ℕ) (m : Model) (short : length text ≤ longest_text) (says : IsModelOf text m) where
  weight-alone : (f : ModelFault) → ((w : ℕ) → f ≡ fault.TooHeavy w → ⊥) → IsFirstFault text f → ⊥
  weight-alone f other h =
      ⊎_elim
      (λ (heavy : most_weight < weight_of m). other (weight_of m) (one_text_fault text f (fault.TooHeavy (weight_of m)) (inr (short, h)) (inr (short, (m, says, heavy, refl)))))
      (λ (light : weight_of m ≤ most_weight). no_text_fault text f m short says light (inr (short, h)))
      (cases_lt most_weight (weight_of m))

  alone : (f : ModelFault) → IsFirstFaultOf text f → (most_weight < core_weight m) × (f ≡ fault.TooHeavy (core_weight m))
  alone fault.TooLong h = absurd h
  alone (fault.Syntax line) h = absurd (weight-alone (fault.Syntax line) (λ w e. cc) h)
  alone (fault.Number line) h = absurd (weight-alone (fault.Number line) (λ w e. cc) h)
  alone (fault.Typed f) h = absurd (weight-alone (fault.Typed f) (λ w e. cc) h)
  alone (fault.Cnf line) h = absurd h
  alone (fault.TooHeavy w) h =
      let same : h.0 ≡ m = one_model text h.0 m h.1 says in
      (subst (λ (n : Model). most_weight < core_weight n) same h.2, ap fault.TooHeavy (h.3 ∙ ap (λ (n : Model). core_weight n) same))

-- two faults that a text has first are one
one-first : (text : List ℕ) (f g : ModelFault) → length text ≤ longest_text → IsFirstFaultOf text f → IsFirstFaultOf text g → f ≡ g
one-first text (fault.TooHeavy w) g short h k = (alone text h.0 short h.1 (fault.TooHeavy w) h).1 ∙ sym (alone text h.0 short h.1 g k).1
one-first text f (fault.TooHeavy w) short h k = (alone text k.0 short k.1 f h).1 ∙ sym (alone text k.0 short k.1 (fault.TooHeavy w) k).1
one-first text fault.TooLong g short h k = absurd h
one-first text (fault.Cnf line) g short h k = absurd h
one-first text f fault.TooLong short h k = absurd k
one-first text f (fault.Cnf line) short h k = absurd k
one-first text (fault.Syntax m) (fault.Syntax n) short h k = one_text_fault text (fault.Syntax m) (fault.Syntax n) (inr (short, h)) (inr (short, k))
one-first text (fault.Syntax m) (fault.Number n) short h k = one_text_fault text (fault.Syntax m) (fault.Number n) (inr (short, h)) (inr (short, k))
one-first text (fault.Syntax m) (fault.Typed n) short h k = one_text_fault text (fault.Syntax m) (fault.Typed n) (inr (short, h)) (inr (short, k))
one-first text (fault.Number m) (fault.Syntax n) short h k = one_text_fault text (fault.Number m) (fault.Syntax n) (inr (short, h)) (inr (short, k))
one-first text (fault.Number m) (fault.Number n) short h k = one_text_fault text (fault.Number m) (fault.Number n) (inr (short, h)) (inr (short, k))
one-first text (fault.Number m) (fault.Typed n) short h k = one_text_fault text (fault.Number m) (fault.Typed n) (inr (short, h)) (inr (short, k))
one-first text (fault.Typed m) (fault.Syntax n) short h k = one_text_fault text (fault.Typed m) (fault.Syntax n) (inr (short, h)) (inr (short, k))
one-first text (fault.Typed m) (fault.Number n) short h k = one_text_fault text (fault.Typed m) (fault.Number n) (inr (short, h)) (inr (short, k))
one-first text (fault.Typed m) (fault.Typed n) short h k = one_text_fault text (fault.Typed m) (fault.Typed n) (inr (short, h)) (inr (short, k))

pub one-fault : (text : List ℕ) (f g : ModelFault) → HasFaultOf text f → HasFaultOf text g → f ≡ g
one-fault text f g (inl h) (inl k) = h.1 ∙ sym k.1
one-fault text f g (inl h) (inr k) = absurd (let high = h.0 in let low = k.0 in omega arith)
one-fault text f g (inr h) (inl k) = absurd (let low = h.0 in let high = k.0 in omega arith)
one-fault text f g (inr h) (inr k) = one-first text f g h.0 h.1 k.1

-- a text that holds a model none of whose parts is too heavy has no fault
pub held-fault : (text : List ℕ) (m : Model) (f : ModelFault) → HoldsWhole text m → HasFaultOf text f → ⊥
held-fault text m f h (inl k) = let short = h.within in let long = k.0 in omega arith
held-fault text m f h (inr k) = let heavy = (alone text m h.within h.says f k.1).0 in let light = h.light in omega arith

-- each text has the one or the other
abbrev pub Either : List ℕ → Type 0
Either text = ((f : ModelFault) × HasFaultOf text f) ⊎ ((m : Model) × HoldsWhole text m)

module _ (text : List ℕ) where
  first : (f : ModelFault) → length text ≤ longest_text → IsFirstFault text f → Either text
  first fault.TooLong short h = absurd h
  first (fault.Syntax line) short h = inl (fault.Syntax line, inr (short, h))
  first (fault.Number line) short h = inl (fault.Number line, inr (short, h))
  first (fault.Typed f) short h = inl (fault.Typed f, inr (short, h))
  first (fault.Cnf line) short h = absurd h
  first (fault.TooHeavy w) short h =
      inl (fault.TooHeavy (core_weight h.0), inr (short, (h.0, h.1, heavier h.0 most_weight h.2, refl)))

  by-model : (m : Model) → HoldsModel text m → Either text
  by-model m h =
      ⊎_elim
      (λ (heavy : most_weight < core_weight m). inl (fault.TooHeavy (core_weight m), inr (h.within, (m, h.says, heavy, refl))))
      (λ (light : core_weight m ≤ most_weight). inr (m, record { within = h.within; says = h.says; light = light }))
      (cases_lt most_weight (core_weight m))

  by-fault : (f : ModelFault) → HasFault text f → Either text
  by-fault f (inl k) = inl (f, inl k)
  by-fault f (inr k) = first f k.0 k.1

  pub either : Either text
  either = ⊎_elim (λ (p : (f : ModelFault) × HasFault text f). by-fault p.0 p.1) (λ (p : (m : Model) × HoldsModel text m). by-model p.0 p.1) (fault_or_model text)
