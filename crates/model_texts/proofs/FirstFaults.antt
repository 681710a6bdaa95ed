-- A text has one first fault, or it says a model that is compiled.
use Rattle.std.proofs.Common.{◌≡◌, ℕ, ◌<◌, ◌≤◌, arith, inl, inr, true, false, List, length, ap, sym, ◌∙◌, refl, Option, Some, None, Ok, Err}
use Rattle.std.specs.Prelude.{nat_lt, if◌then◌else◌}
use Rattle.std.proofs.lemmas.Bool.Decides.{nat_tests}
use Rattle.bumblebee_reader.specs.declared.syntax.Item.{Item}
use Rattle.bumblebee_reader.specs.declared.fault.ReadFault.TheVariants as read_fault
use Rattle.bumblebee_reader.specs.Reading.{AtItem, Outcome, reading}
use Rattle.bumblebee_reader.proofs.Text.{reading_from_text, reading_from_syntax_fault, reading_from_number_fault}
use Rattle.typed_model.specs.declared.fault.TypeFault.{TypeFault}
use Rattle.model_meaning.specs.declared.model.Model.{Model}
use Rattle.typed_model.specs.Items.{first_fault, model_of}
use Rattle.model_weight.specs.Weight.{weight_of}
use Rattle.model_lower.specs.Weighed.{most_weight}
use Rattle.model_texts.specs.declared.fault.ModelFault.{ModelFault}
use Rattle.model_texts.specs.declared.fault.ModelFault.TheVariants as fault
use Rattle.model_texts.specs.ModelTexts.{longest_text, IsModelOf, IsFirstFault, HasFault}

heavy_fault : ℕ → Option ModelFault
heavy_fault w = if nat_lt most_weight w then Some (fault.TooHeavy w) else None

heavy_above : (w : ℕ) → most_weight < w → heavy_fault w ≡ Some (fault.TooHeavy w)
unfolding heavy_fault
heavy_above w h = let t : nat_lt most_weight w ≡ true = grind (arith, nat_tests, h) in rw t refl

heavy_within : (w : ℕ) → w ≤ most_weight → heavy_fault w ≡ None
unfolding heavy_fault
heavy_within w h = let t : nat_lt most_weight w ≡ false = grind (arith, nat_tests, h) in rw t refl

typed_fault : Option TypeFault → ℕ → Option ModelFault
typed_fault None weight = heavy_fault weight
typed_fault (Some f) weight = Some (fault.Typed f)

verdict : Outcome → Option ModelFault
verdict (Ok items) = typed_fault (first_fault items) (weight_of (model_of items))
verdict (Err (read_fault.Syntax line)) = Some (fault.Syntax line)
verdict (Err (read_fault.Number line)) = Some (fault.Number line)
verdict (Err read_fault.Memory) = None

typed_verdict : (items : List Item) (f : TypeFault) → first_fault items ≡ Some f → verdict (Ok items) ≡ Some (fault.Typed f)
unfolding verdict typed_fault
typed_verdict items f e = ap (λ t. typed_fault t (weight_of (model_of items))) e

weighed_verdict : (items : List Item) (m : Model) → first_fault items ≡ None → m ≡ model_of items → verdict (Ok items) ≡ heavy_fault (weight_of m)
unfolding verdict typed_fault
weighed_verdict items m none same =
    ap (λ t. typed_fault t (weight_of (model_of items))) none ∙ ap (λ (n : Model). heavy_fault (weight_of n)) (sym same)

faulty : (text : List ℕ) (f : ModelFault) → IsFirstFault text f → verdict (reading AtItem 1 text) ≡ Some f
unfolding verdict
faulty text fault.TooLong h = elim h [ ]
faulty text (fault.Syntax line) h = ap verdict (reading_from_syntax_fault text line h)
faulty text (fault.Number line) h = ap verdict (reading_from_number_fault text line h)
faulty text (fault.Typed f) h = ap verdict (reading_from_text text h.0 h.1) ∙ typed_verdict h.0.items f h.2
faulty text (fault.Cnf line) h = elim h [ ]
faulty text (fault.TooHeavy w) h =
    ap verdict (reading_from_text text h.1.syntax h.1.spelled)
    ∙ weighed_verdict h.1.syntax.items h.0 h.1.no_fault h.1.model_is ∙ heavy_above (weight_of h.0) h.2 ∙ ap (λ n. Some (fault.TooHeavy n)) (sym h.3)

faultless : (text : List ℕ) (m : Model) → IsModelOf text m → weight_of m ≤ most_weight → verdict (reading AtItem 1 text) ≡ None
unfolding verdict
faultless text m says light =
    ap verdict (reading_from_text text says.syntax says.spelled)
    ∙ weighed_verdict says.syntax.items m says.no_fault says.model_is ∙ heavy_within (weight_of m) light

some_same : (f g : ModelFault) → Some f ≡ Some g → f ≡ g
some_same f g e = cc

-- a text has one first fault
one_fault : (text : List ℕ) (f g : ModelFault) → IsFirstFault text f → IsFirstFault text g → f ≡ g
one_fault text f g h k = some_same f g (sym (faulty text f h) ∙ faulty text g k)

some_none : (f : ModelFault) → Some f ≡ None → ⊥
some_none f e = cc

-- a text that says a model that is compiled has no fault
no_fault : (text : List ℕ) (f : ModelFault) (m : Model) → IsModelOf text m → weight_of m ≤ most_weight → IsFirstFault text f → ⊥
no_fault text f m says light h = some_none f (sym (faulty text f h) ∙ faultless text m says light)

-- a text that is too long has no other fault

pub one_text_fault : (text : List ℕ) (f g : ModelFault) → HasFault text f → HasFault text g → f ≡ g
one_text_fault text f g (inl h) (inl k) = h.1 ∙ sym k.1
one_text_fault text f g (inl h) (inr k) = absurd (let high = h.0 in let low = k.0 in omega arith)
one_text_fault text f g (inr h) (inl k) = absurd (let low = h.0 in let high = k.0 in omega arith)
one_text_fault text f g (inr h) (inr k) = one_fault text f g h.1 k.1

-- a text within the limit that says a model that is compiled has no fault
pub no_text_fault : (text : List ℕ) (f : ModelFault) (m : Model) → length text ≤ longest_text → IsModelOf text m → weight_of m ≤ most_weight → HasFault text f → ⊥
no_text_fault text f m short says light (inl k) = absurd (let high = k.0 in omega (arith, short))
no_text_fault text f m short says light (inr k) = no_fault text f m says light k.1
