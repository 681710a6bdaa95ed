-- A loop that takes the items of a text one at a time: it begins with none, each item goes behind the others, and at the
-- end or at a fault it knows what the grammar says of the text. `whole` is what the whole text gives, and `o` and `behind`
-- are what is unread.
use Rattle.std.proofs.Common.{◌≡◌, ℕ, Ok, Err, List, [], ◌∷◌, ◌++◌, refl, sym, ap, ◌∙◌}
use Rattle.std.proofs.lemmas.List.{append_assoc, append-nil}
use Rattle.bumblebee_reader.specs.declared.syntax.Item.{Item}
use Rattle.bumblebee_reader.specs.declared.fault.ReadFault.{ReadFault}
use Rattle.bumblebee_reader.specs.declared.fault.ReadFault.TheVariants as fault
use Rattle.bumblebee_reader.specs.Grammar.{IsText}
use Rattle.bumblebee_reader.specs.Faults.{IsSyntaxFault, IsNumberFault}
use Rattle.bumblebee_reader.specs.Laws.{UnreadTells}
use Rattle.bumblebee_reader.specs.Reading.{Outcome, with_item, with_items}
use Rattle.bumblebee_reader.specs.Unread.{whole_text, unread}
use Rattle.bumblebee_reader.proofs.Text.{text_from_reading, reading_from_text, syntax_fault_from_reading, reading_from_syntax_fault, number_fault_from_reading, reading_from_number_fault, no_memory_fault}

behind_one_more : (items : List Item) (i : Item) (o : Outcome) → with_items items (with_item i o) ≡ with_items (items ++ i ∷ []) o
behind_one_more items i (Ok is) = ap Ok (sym (append_assoc items (i ∷ []) is))
behind_one_more items i (Err f) = refl

behind_all : (items : List Item) → with_items items (Ok []) ≡ Ok items
behind_all items = ap Ok (append-nil items)

-- nothing is taken of the whole text
pub none_taken : (whole : Outcome) → whole ≡ with_items [] whole
none_taken (Ok is) = refl
none_taken (Err f) = refl

-- one more item is taken
pub one_more_taken : (whole : Outcome) (items : List Item) (i : Item) (o behind : Outcome) → whole ≡ with_items items o → o ≡ with_item i behind → whole ≡ with_items (items ++ i ∷ []) behind
one_more_taken whole items i o behind so_far h =
    so_far ∙ ap (with_items items) h ∙ behind_one_more items i behind

-- at the end the items are all that the reading of the text gives
pub all_taken : (whole : Outcome) (items : List Item) (o : Outcome) → whole ≡ with_items items o → o ≡ Ok [] → whole ≡ Ok items
all_taken whole items o so_far h = so_far ∙ ap (with_items items) h ∙ behind_all items

-- a fault is the fault of the whole text
pub fault_met : (whole : Outcome) (items : List Item) (o : Outcome) (f : ReadFault) → whole ≡ with_items items o → o ≡ Err f → whole ≡ Err f
fault_met whole items o f so_far h = so_far ∙ ap (with_items items) h

-- the same in the words of the grammar

pub text_is_taken : (text : List ℕ) (items : List Item) (o : Outcome) → unread (whole_text text) ≡ with_items items o → o ≡ Ok [] → IsText text (record { items = items })
text_is_taken text items o so_far h =
    text_from_reading text (record { items = items }) (all_taken (unread (whole_text text)) items o so_far h)

pub syntax_fault_met : (text : List ℕ) (items : List Item) (o : Outcome) (line : ℕ) → unread (whole_text text) ≡ with_items items o → o ≡ Err (fault.Syntax line) → IsSyntaxFault text line
syntax_fault_met text items o line so_far h =
    syntax_fault_from_reading text line (fault_met (unread (whole_text text)) items o (fault.Syntax line) so_far h)

pub number_fault_met : (text : List ℕ) (items : List Item) (o : Outcome) (line : ℕ) → unread (whole_text text) ≡ with_items items o → o ≡ Err (fault.Number line) → IsNumberFault text line
number_fault_met text items o line so_far h =
    number_fault_from_reading text line (fault_met (unread (whole_text text)) items o (fault.Number line) so_far h)

-- what the whole text gives when it is read is what the grammar says of it
pub unread_tells_lem : UnreadTells
unread_tells_lem text = record {
  items = λ xs. (λ h. text_from_reading text (record { items = xs }) h, λ h. reading_from_text text (record { items = xs }) h);
  syntax = λ line. (λ h. syntax_fault_from_reading text line h, λ h. reading_from_syntax_fault text line h);
  number = λ line. (λ h. number_fault_from_reading text line h, λ h. reading_from_number_fault text line h);
  no_memory = λ h. no_memory_fault text h;
}
