-- What a run promises in a mode that reads one text. The mode gives three relations: the text that is written for the
-- text that was read, with its outcome; and the first fault of a text.
use Rattle.std.specs.Prelude.{◌≡◌, ◌≢◌, ℕ, List, Option}
use Rattle.bee_outside.specs.Bytes.{TookPiece}
use Rattle.text_modes.specs.Seen.{Seen}
use Rattle.text_modes.specs.Ends.{IsSilent, count_read, count_written}
use Rattle.text_modes.specs.Promises.{ReadWithin, ReadFailed, WriteFailed, ReadFaulty, WroteWhole, WroteFront}
use Rattle.text_modes.specs.declared.ends.Outcome.{Outcome}
use Rattle.text_modes.specs.declared.ends.End.{End}
use Rattle.text_modes.specs.declared.ends.End.TheVariants.{Wrote, Fault, Read, Write, Memory}

-- the text under the name was read
abbrev pub WasRead : List ℕ → Option ℕ → Seen → List ℕ → Type 0
WasRead input limit seen text = ReadWithin input limit seen.shelf_before seen.shelf_after text

-- a text is given for the text that was read, with some outcome
abbrev pub GivesSome : {Texts : Type 0} → (Texts → Outcome → List ℕ → Type 0) → Texts → List ℕ
    → Type 0
GivesSome Gives texts written = (outcome : Outcome) × Gives texts outcome written

-- what each end says
abbrev pub Says : {F : Type 0} → Option ℕ → (List ℕ → Outcome → List ℕ → Type 0)
    → (List ℕ → F → Type 0) → List ℕ → End F → Seen → Type 0
Says limit Gives HasFault input (Wrote outcome) seen =
    WroteWhole (WasRead input limit seen) (λ text. Gives text outcome) seen
Says limit Gives HasFault input (Fault fault) seen =
    ReadFaulty input limit seen.shelf_before seen.shelf_after HasFault fault
Says limit Gives HasFault input Read seen = ReadFailed input seen
Says limit Gives HasFault input Write seen = WroteFront (WasRead input limit seen) (GivesSome Gives) seen
    × WriteFailed seen
Says limit Gives HasFault input Memory seen = Unit {0}

-- a run that reads one text, so many bytes of it as the limit says at most
pub record OneTextRun {F : Type 0} (limit : Option ℕ) (Gives : List ℕ → Outcome → List ℕ
    → Type 0) (HasFault : List ℕ → F → Type 0) (input : List ℕ) (end : End F) (seen : Seen) : Type 0 where
  pub says : Says limit Gives HasFault input end seen
  pub silent : IsSilent end → seen.out_after.taken ≡ seen.out_before.taken
  pub read_faults : seen.shelf_after.faults input ≡ count_read end (seen.shelf_before.faults input)
  pub write_faults : seen.out_after.faults ≡ count_written end seen.out_before.faults
  pub bounded : TookPiece (seen.shelf_before.left input) (seen.shelf_after.left input) limit
  pub others_stay : (other : List ℕ) → other ≢ input
      → seen.shelf_after.left other ≡ seen.shelf_before.left other
