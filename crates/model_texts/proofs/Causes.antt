-- Why nothing comes of a text.
use Rattle.std.proofs.Common.{◌≡◌, ◌≢◌, ℕ, List, Some, Err, inl, inr}
use Rattle.bumblebee_reader.specs.declared.syntax.Syntax.{Syntax}
use Rattle.bumblebee_reader.specs.declared.fault.ReadFault.{ReadFault}
use Rattle.bumblebee_reader.specs.Grammar.{IsText}
use Rattle.bumblebee_reader.specs.declared.fault.ReadFault.TheVariants as read_fault
use Rattle.bumblebee_reader.specs.Unread.{whole_text, unread}
use Rattle.bumblebee_reader.proofs.Pulled.{unread_tells_lem}
use Rattle.typed_model.specs.declared.fault.TypeFault.{TypeFault}
use Rattle.typed_model.specs.declared.fault.TypeFault.TheVariants.{NoGoal, Unknown, Undeclared, Kind, Twice, Lengths, EmptyDomain, DivDomain, Memory}
use Rattle.typed_model.specs.Items.{first_fault, IsFaultOf}
use Rattle.model_texts.specs.ModelTexts.{IsCauseOf, text_fault_of, read_fault_of}

first_is : (s : Syntax) (f : TypeFault) → f ≢ Memory → IsFaultOf f s.items → first_fault s.items ≡ Some f
first_is s f other h = elim h [
  | inl m ↦ absurd (other m)
  | inr e ↦ e
]

-- the fault of the items is the fault of the text
pub caused : (text : List ℕ) (s : Syntax) (f : TypeFault) → IsText text s → IsFaultOf f s.items → IsCauseOf (text_fault_of f) text
caused text s Memory spelled h = tt
caused text s (NoGoal n) spelled h = (s, spelled, first_is s (NoGoal n) (λ e. cc) h)
caused text s (Unknown n) spelled h = (s, spelled, first_is s (Unknown n) (λ e. cc) h)
caused text s (Undeclared n) spelled h = (s, spelled, first_is s (Undeclared n) (λ e. cc) h)
caused text s (Kind n) spelled h = (s, spelled, first_is s (Kind n) (λ e. cc) h)
caused text s (Twice n) spelled h = (s, spelled, first_is s (Twice n) (λ e. cc) h)
caused text s (Lengths n) spelled h = (s, spelled, first_is s (Lengths n) (λ e. cc) h)
caused text s (EmptyDomain n) spelled h = (s, spelled, first_is s (EmptyDomain n) (λ e. cc) h)
caused text s (DivDomain n) spelled h = (s, spelled, first_is s (DivDomain n) (λ e. cc) h)

-- the fault of the reading is the fault of the text
pub read_caused : (text : List ℕ) (f : ReadFault) → (f ≢ read_fault.Memory → unread (whole_text text) ≡ Err f) → IsCauseOf (read_fault_of f) text
read_caused text read_fault.Memory h = tt
read_caused text (read_fault.Syntax line) h = ((unread_tells_lem text).syntax line).0 (h (λ e. cc))
read_caused text (read_fault.Number line) h = ((unread_tells_lem text).number line).0 (h (λ e. cc))
