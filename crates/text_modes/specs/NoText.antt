-- What a run promises in a mode that reads no text. The mode gives one relation: the text that is written, with its
-- outcome.
use Rattle.std.specs.Prelude.{◌≡◌, ℕ, List}
use Rattle.text_modes.specs.Seen.{ShelfShown, SinkShown, Seen}
use Rattle.text_modes.specs.Ends.{IsSilent, count_written}
use Rattle.text_modes.specs.Promises.{WriteFailed, WroteWhole, WroteFront}
use Rattle.text_modes.specs.OneText.{GivesSome}
use Rattle.text_modes.specs.declared.ends.Outcome.{Outcome}
use Rattle.text_modes.specs.declared.ends.End.{End}
use Rattle.text_modes.specs.declared.ends.End.TheVariants.{Wrote, Fault, Read, Write, Memory}

-- no text is there to be read, and none to be told
abbrev pub NothingRead : Unit {0} → Type 0
NothingRead nothing = Unit {0}

-- a shelf that isn't asked for anything
abbrev pub unread : ShelfShown → SinkShown → SinkShown → Seen
unread shelf before after = record { shelf_before = shelf; shelf_after = shelf; out_before = before; out_after = after }

-- what each end says
abbrev pub Says : {F : Type 0} → (Outcome → List ℕ → Type 0) → End F → Seen → Type 0
Says Gives (Wrote outcome) seen = WroteWhole NothingRead (λ nothing. Gives outcome) seen
Says Gives (Fault fault) seen = ⊥
Says Gives Read seen = ⊥
Says Gives Write seen = WroteFront NothingRead (GivesSome (λ nothing. Gives)) seen × WriteFailed seen
Says Gives Memory seen = Unit {0}

-- a run that reads no text
pub record NoTextRun {F : Type 0} (Gives : Outcome → List ℕ → Type 0) (end : End F) (seen : Seen) : Type 0 where
  pub says : Says Gives end seen
  pub silent : IsSilent end → seen.out_after.taken ≡ seen.out_before.taken
  pub write_faults : seen.out_after.faults ≡ count_written end seen.out_before.faults
  pub unasked : seen.shelf_after ≡ seen.shelf_before
