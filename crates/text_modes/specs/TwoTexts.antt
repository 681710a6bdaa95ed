-- What a run promises in a mode that reads two texts. The first is judged before the second is read. The mode gives
-- three relations: which first text is fit, and which fault another one has first; and the text that is written for the
-- two that were read, with its outcome.
use Rattle.std.specs.Prelude.{◌≡◌, ◌≢◌, ◌⊎◌, ℕ, List, [], Option, None, Result, Ok, Err}
use Rattle.bee_outside.specs.Faults.{next_count}
use Rattle.text_modes.specs.Seen.{ShelfShown, Seen}
use Rattle.text_modes.specs.Ends.{IsSilent, count_written}
use Rattle.text_modes.specs.Promises.{ReadWhole, ReadWithin, ToldUnder, ReadFailed, WriteFailed, ReadFaulty, WroteWhole}
use Rattle.text_modes.specs.Promises.{WroteFront, TookUnder}
use Rattle.text_modes.specs.OneText.{GivesSome}
use Rattle.text_modes.specs.declared.ends.Outcome.{Outcome}
use Rattle.text_modes.specs.declared.ends.End.{End}
use Rattle.text_modes.specs.declared.ends.End.TheVariants.{Wrote, Fault, Read, Write, Memory}

-- the two texts of a run
pub record Texts : Type 0 where
  pub first : List ℕ
  pub second : List ℕ

-- The first text was read, and then the second one to its end. `between` is what the shelf showed between the two:
-- where both have one name, the second is what the reading of the first left.
pub record ReadBoth (input second : List ℕ) (limit : Option ℕ) (between : ShelfShown) (seen : Seen) (texts : Texts)
    : Type 0 where
  pub first_read : ReadWithin input limit seen.shelf_before between texts.first
  pub second_read : ReadWhole (between.left second) (seen.shelf_after.left second) texts.second

-- both texts are told before the run; where both have one name, nothing is left of it for the second
pub record ToldBoth (input second : List ℕ) (seen : Seen) (texts : Texts) : Type 0 where
  pub first_told : ToldUnder input seen texts.first
  pub second_told : ((second ≡ input) × (texts.second ≡ []))
      ⊎ ((second ≢ input) × ToldUnder second seen texts.second)

-- reading failed under one of the names
abbrev pub EitherFailed : List ℕ → List ℕ → Seen → Type 0
EitherFailed input second seen = ReadFailed input seen ⊎ ReadFailed second seen

-- the first text was read and has this fault, and the second was not asked for
pub record IsRefused {F : Type 0} (input : List ℕ) (limit : Option ℕ) (HasFault : List ℕ → F
    → Type 0) (between : ShelfShown) (seen : Seen) (fault : F) : Type 0 where
  pub faulty : ReadFaulty input limit seen.shelf_before between HasFault fault
  pub unasked : seen.shelf_after ≡ between

-- the reading of the second text failed; the first one was read before, and is fit
pub record SecondFailed (input second : List ℕ) (limit : Option ℕ) (IsFit : List ℕ
    → Type 0) (between : ShelfShown) (seen : Seen) : Type 0 where
  pub text : List ℕ
  pub read : ReadWithin input limit seen.shelf_before between text
  pub fit : IsFit text
  pub failed : ReadFailed second seen

-- what each end says
abbrev pub Says : {F : Type 0} → Option ℕ → (List ℕ → Type 0) → (Texts → Outcome → List ℕ → Type 0)
    → (List ℕ → F → Type 0) → List ℕ → List ℕ → ShelfShown → End F → Seen → Type 0
Says limit IsFit Gives HasFault input second between (Wrote outcome) seen =
    WroteWhole (ReadBoth input second limit between seen) (λ texts. Gives texts outcome) seen
Says limit IsFit Gives HasFault input second between (Fault fault) seen =
    IsRefused input limit HasFault between seen fault
Says limit IsFit Gives HasFault input second between Read seen = ReadFailed input seen
    ⊎ SecondFailed input second limit IsFit between seen
Says limit IsFit Gives HasFault input second between Write seen =
    WroteFront (ReadBoth input second limit between seen) (GivesSome Gives) seen × WriteFailed seen
Says limit IsFit Gives HasFault input second between Memory seen = Unit {0}

-- no fault is counted, under any name
abbrev pub CountsStay : ShelfShown → ShelfShown → Type 0
CountsStay before after = (name : List ℕ) → after.faults name ≡ before.faults name

-- the counts of faults behind a reading that ended the run so: one more under its name where it failed, and else none
abbrev pub CountsUnder : {F : Type 0} → List ℕ → End F → ShelfShown → ShelfShown → Type 0
CountsUnder name Read before after = after.faults name ≡ next_count (before.faults name)
CountsUnder name end before after = CountsStay before after

-- The counts of faults: a fault of either reading ends the run, and no call follows it. So nothing is asked in vain
-- between the two readings, under either name: the counts that the second one finds are those before the first.
abbrev pub CountsRead : {F : Type 0} → List ℕ → List ℕ → ShelfShown → End F → Seen → Type 0
CountsRead input second between end seen =
    (CountsStay seen.shelf_before between × CountsUnder second end between seen.shelf_after)
    ⊎ ((end ≡ Read) × (between.faults input ≡ next_count (seen.shelf_before.faults input))
    × (seen.shelf_after ≡ between))

-- a run that reads two texts, so many bytes of the first one as the limit says at most, and the second one where the
-- first is fit
pub record TwoTextRun {F : Type 0} (limit : Option ℕ) (IsFit : List ℕ → Type 0) (Gives : Texts → Outcome
    → List ℕ → Type 0) (HasFault : List ℕ → F
    → Type 0) (input second : List ℕ) (end : End F) (seen : Seen) : Type 0 where
  pub between : ShelfShown
  pub says : Says limit IsFit Gives HasFault input second between end seen
  pub silent : IsSilent end → seen.out_after.taken ≡ seen.out_before.taken
  pub read_faults : CountsRead input second between end seen
  pub write_faults : seen.out_after.faults ≡ count_written end seen.out_before.faults
  pub first_taken : TookUnder input limit seen.shelf_before between
  pub second_taken : TookUnder second None between seen.shelf_after

-- a first text is fit where it holds something
abbrev pub HoldsSome : {H : Type 0} → (List ℕ → H → Type 0) → List ℕ → Type 0
HoldsSome {H} Holds text = (held : H) × Holds text held

-- what reading and judging the first text comes to
abbrev pub FirstRead : {H F : Type 0} → List ℕ → Option ℕ → (List ℕ → H → Type 0)
    → (List ℕ → F → Type 0) → ShelfShown → ShelfShown → Result H (End F) → Type 0
FirstRead {H} input limit Holds HasFault before after (Ok held) =
    (text : List ℕ) × ReadWithin input limit before after text × Holds text held × CountsStay before after
FirstRead input limit Holds HasFault before after (Err (Fault fault)) =
    ReadFaulty input limit before after HasFault fault × CountsStay before after
FirstRead input limit Holds HasFault before after (Err Read) = after.faults input ≡ next_count (before.faults input)
FirstRead input limit Holds HasFault before after (Err Memory) = CountsStay before after
FirstRead input limit Holds HasFault before after (Err end) = ⊥

-- a first text holds this, or has this fault
abbrev pub IsJudged : {H F : Type 0} → (H → Type 0) → (F → Type 0) → Result H F → Type 0
IsJudged Holds HasFault (Ok held) = Holds held
IsJudged Holds HasFault (Err fault) = HasFault fault

-- the text that is given for each first text that holds this, and a second text
abbrev pub GivesBehind : {H : Type 0} → (List ℕ → H → Type 0) → (Texts → Outcome → List ℕ → Type 0)
    → H → List ℕ → Outcome → List ℕ → Type 0
GivesBehind Holds Gives held second outcome written = (first : List ℕ) → Holds first held
    → Gives (record { first = first; second = second }) outcome written
