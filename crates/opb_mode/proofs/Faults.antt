-- A text has one fault at most, and none where it says a file whose model is answered.
use Rattle.std.proofs.Common.{arith, ◌≡◌, ℕ, ◌<◌, ◌≤◌, ◌⊎◌, List, length, refl, ap, sym, subst, ◌∙◌, inl, inr}
use Rattle.text_modes.specs.TwoTexts.{HoldsSome}
use Rattle.model_weight.specs.Weight.{weight_of}
use Rattle.model_texts.specs.declared.fault.ModelFault.{ModelFault}
use Rattle.model_texts.specs.declared.fault.ModelFault.TheVariants as fault
use Rattle.model_texts.specs.ModelTexts.{longest_text}
use Rattle.opb_front.specs.declared.fault.OpbFault.TheVariants as opb_fault
use Rattle.opb_front.specs.declared.items.Opb.{Opb}
use Rattle.opb_front.specs.Grammar.{IsOpbText}
use Rattle.opb_front.proofs.Ends.{said_same}
use Rattle.opb_front.proofs.OneFault.{said_or_fault, fault_same}
use Rattle.opb_model.specs.Models.{opb_model}
use Rattle.opb_model.specs.Items.{opb_text}
use Rattle.opb_front.specs.declared.fault.OpbFault.{OpbFault}
use Rattle.model_texts.specs.declared.model_text.ModelTextFault.TheVariants as text_fault
use Rattle.opb_mode.specs.Files.{file_fault_of, HoldsFile, HoldsFileModel, IsFileFault, HasFileFault, IsHeavyFile, HasOpbFault}

pub within_limit : (text : List ℕ) → length text < 16777217 → length text ≤ longest_text
within_limit text h = omega arith

pub file_had : (text : List ℕ) (f : ModelFault) → length text < 16777217 → IsFileFault text f → HasFileFault text f
file_had text f h first = inr (within_limit text h, first)

-- of a file

named_same : (f g : OpbFault) → f ≡ g → file_fault_of f ≡ file_fault_of g
named_same f g e = ap file_fault_of e

fault-tells : (f g : ModelFault) → text_fault.Model f ≡ text_fault.Model g → f ≡ g
fault-tells f g e = cc

called_same : (f : OpbFault) (g : OpbFault) (m n : ModelFault) → f ≡ g → file_fault_of f ≡ text_fault.Model m → file_fault_of g ≡ text_fault.Model n → m ≡ n
called_same f g m n e p q = fault-tells m n (sym p ∙ (named_same f g e ∙ q))

one_first : (text : List ℕ) (f g : ModelFault) → IsFileFault text f → IsFileFault text g → f ≡ g
one_first text fault.TooLong fault.TooLong h k = refl
one_first text fault.TooLong (fault.Syntax line) h k = absurd (said_or_fault text h.0 (opb_fault.Syntax line) h.1 k)
one_first text fault.TooLong (fault.Number line) h k = absurd (said_or_fault text h.0 (opb_fault.Number line) h.1 k)
one_first text (fault.Syntax line) fault.TooLong h k = absurd (said_or_fault text k.0 (opb_fault.Syntax line) k.1 h)
one_first text (fault.Number line) fault.TooLong h k = absurd (said_or_fault text k.0 (opb_fault.Number line) k.1 h)
one_first text (fault.Syntax line) (fault.Syntax other) h k = called_same (opb_fault.Syntax line) (opb_fault.Syntax other) _ _ (fault_same text (opb_fault.Syntax line) (opb_fault.Syntax other) h k) refl refl
one_first text (fault.Number line) (fault.Number other) h k = called_same (opb_fault.Number line) (opb_fault.Number other) _ _ (fault_same text (opb_fault.Number line) (opb_fault.Number other) h k) refl refl
one_first text (fault.Syntax line) (fault.Number other) h k = called_same (opb_fault.Syntax line) (opb_fault.Number other) _ _ (fault_same text (opb_fault.Syntax line) (opb_fault.Number other) h k) refl refl
one_first text (fault.Number line) (fault.Syntax other) h k = called_same (opb_fault.Number line) (opb_fault.Syntax other) _ _ (fault_same text (opb_fault.Number line) (opb_fault.Syntax other) h k) refl refl
one_first text (fault.Typed t) g h k = elim h [ ]
one_first text (fault.TooHeavy w) g h k = elim h [ ]
one_first text (fault.Cnf line) g h k = elim h [ ]
one_first text f (fault.Typed t) h k = elim k [ ]
one_first text f (fault.TooHeavy w) h k = elim k [ ]
one_first text f (fault.Cnf line) h k = elim k [ ]

pub one_file_fault : (text : List ℕ) (f g : ModelFault) → HasFileFault text f → HasFileFault text g → f ≡ g
one_file_fault text f g (inl h) (inl k) = h.1 ∙ sym k.1
one_file_fault text f g (inl h) (inr k) = absurd (let high = h.0 in let low = k.0 in omega arith)
one_file_fault text f g (inr h) (inl k) = absurd (let low = h.0 in let high = k.0 in omega arith)
one_file_fault text f g (inr h) (inr k) = one_first text f g h.1 k.1

no_first : (text : List ℕ) (f : ModelFault) (opb : Opb) → HoldsFile text opb → IsFileFault text f → ⊥
no_first text fault.TooLong opb h k =
    let same : opb ≡ k.0 = said_same text opb k.0 h.says k.1 in
    let short : length (opb_text k.0) ≤ longest_text = subst (λ (o : Opb). length (opb_text o) ≤ longest_text) same h.short in
    let long = k.2 in
    omega (arith, short, long)
no_first text (fault.Syntax line) opb h k = said_or_fault text opb (opb_fault.Syntax line) h.says k
no_first text (fault.Number line) opb h k = said_or_fault text opb (opb_fault.Number line) h.says k
no_first text (fault.Typed t) opb h k = k
no_first text (fault.TooHeavy w) opb h k = k
no_first text (fault.Cnf line) opb h k = k

pub no_file_fault : (text : List ℕ) (f : ModelFault) (opb : Opb) → HoldsFile text opb → HasFileFault text f → ⊥
no_file_fault text f opb h (inl k) = let high = k.0 in let low = h.within in omega arith
no_file_fault text f opb h (inr k) = no_first text f opb h k.1

-- of a file that is to be solved

pub opb_had : (text : List ℕ) (f : ModelFault) → length text < 16777217 → (IsFileFault text f ⊎ IsHeavyFile text f) → HasOpbFault text f
opb_had text f h (inl first) = inl (file_had text f h first)
opb_had text f h (inr heavy) = inr heavy

heavy_held : (text : List ℕ) (f : ModelFault) → IsHeavyFile text f → (opb : Opb) × HoldsFile text opb
heavy_held text fault.TooLong h = elim h [ ]
heavy_held text (fault.Syntax line) h = elim h [ ]
heavy_held text (fault.Number line) h = elim h [ ]
heavy_held text (fault.Typed t) h = elim h [ ]
heavy_held text (fault.TooHeavy w) h = (h.0, h.1)
heavy_held text (fault.Cnf line) h = elim h [ ]

one_heavy : (text : List ℕ) (f g : ModelFault) → IsHeavyFile text f → IsHeavyFile text g → f ≡ g
one_heavy text (fault.TooHeavy v) (fault.TooHeavy w) h k =
    let same = said_same text h.0 k.0 h.1.says k.1.says in
    ap (λ n. fault.TooHeavy n) (h.3 ∙ ap (λ (o : Opb). weight_of (opb_model o)) same ∙ sym k.3)
one_heavy text fault.TooLong g h k = elim h [ ]
one_heavy text (fault.Syntax line) g h k = elim h [ ]
one_heavy text (fault.Number line) g h k = elim h [ ]
one_heavy text (fault.Typed t) g h k = elim h [ ]
one_heavy text (fault.Cnf line) g h k = elim h [ ]
one_heavy text f fault.TooLong h k = elim k [ ]
one_heavy text f (fault.Syntax line) h k = elim k [ ]
one_heavy text f (fault.Number line) h k = elim k [ ]
one_heavy text f (fault.Typed t) h k = elim k [ ]
one_heavy text f (fault.Cnf line) h k = elim k [ ]

pub one_opb_fault : (text : List ℕ) (f g : ModelFault) → HasOpbFault text f → HasOpbFault text g → f ≡ g
one_opb_fault text f g (inl h) (inl k) = one_file_fault text f g h k
one_opb_fault text f g (inl h) (inr k) = let held = heavy_held text g k in absurd (no_file_fault text f held.0 held.1 h)
one_opb_fault text f g (inr h) (inl k) = let held = heavy_held text f h in absurd (no_file_fault text g held.0 held.1 k)
one_opb_fault text f g (inr h) (inr k) = one_heavy text f g h k

light_or_heavy : (text : List ℕ) (f : ModelFault) → HoldsSome HoldsFileModel text → IsHeavyFile text f → ⊥
light_or_heavy text (fault.TooHeavy w) h k =
    let same : h.1.opb ≡ k.0 = said_same text h.1.opb k.0 h.1.file.says k.1.says in
    let weight : weight_of h.0 ≡ weight_of (opb_model k.0) = ap weight_of h.1.model_is ∙ ap (λ (o : Opb). weight_of (opb_model o)) same in
    let light = h.1.light in
    let above = k.2 in
    omega (arith, weight, light, above)
light_or_heavy text fault.TooLong h k = k
light_or_heavy text (fault.Syntax line) h k = k
light_or_heavy text (fault.Number line) h k = k
light_or_heavy text (fault.Typed t) h k = k
light_or_heavy text (fault.Cnf line) h k = k

pub held_or_fault : (text : List ℕ) (f : ModelFault) → HoldsSome HoldsFileModel text → HasOpbFault text f → ⊥
held_or_fault text f h (inl k) = no_file_fault text f h.1.opb h.1.file k
held_or_fault text f h (inr k) = light_or_heavy text f h k
