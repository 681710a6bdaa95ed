-- What the promises of the modes are made of. A mode gives its own relations: which texts a run read, which text is
-- written for them, and which answer they have.
use Rattle.std.specs.Prelude.{◌≡◌, ◌≢◌, ℕ, ◌<◌, ◌≤◌, ◌⊎◌, List, length, Option, Some}
use Rattle.std.specs.Prelude.{IfSome}
use Rattle.bee_outside.specs.Faults.{Rose, next_count}
use Rattle.bee_outside.specs.Bytes.{in_front, grown, NothingLeft, AllFlushed, GrewByFront, TookPiece}
use Rattle.text_modes.specs.Seen.{ShelfShown, SinkShown, Seen}
use Rattle.text_modes.specs.Ends.{IsSilent}
use Rattle.text_modes.specs.declared.ends.Outcome.{Outcome}
use Rattle.text_modes.specs.declared.ends.End.{End}
use Rattle.text_modes.specs.declared.ends.End.TheVariants.{Wrote, Fault, Read, Write, Memory}

-- these bytes were read, and the end was seen
pub record ReadWhole (before after : Option (List ℕ)) (text : List ℕ) : Type 0 where
  pub moved : before ≡ in_front text after
  pub whole : NothingLeft after

-- the text under a name is told before the run
abbrev pub ToldUnder : List ℕ → Seen → List ℕ → Type 0
ToldUnder name seen text = seen.shelf_before.left name ≡ Some text

-- the faults under a name rose, and those of the sink
abbrev pub ReadFailed : List ℕ → Seen → Type 0
ReadFailed name seen = Rose (seen.shelf_before.faults name) (seen.shelf_after.faults name)

abbrev pub WriteFailed : Seen → Type 0
WriteFailed seen = Rose seen.out_before.faults seen.out_after.faults

-- a run ended by writing the whole text that the mode gives for the texts that were read, and flushed it
pub record WroteWhole {Texts : Type 0} (WereRead : Texts → Type 0) (Gives : Texts → List ℕ
    → Type 0) (seen : Seen) : Type 0 where
  pub texts : Texts
  pub written : List ℕ
  pub read : WereRead texts
  pub gives : Gives texts written
  pub taken : seen.out_after.taken ≡ grown seen.out_before.taken written
  pub flushed : AllFlushed seen.out_after.taken seen.out_after.flushed

-- a write fault ended the run: what was taken is a front of the text that the mode gives for the texts that were read
pub record WroteFront {Texts : Type 0} (WereRead : Texts → Type 0) (Gives : Texts → List ℕ
    → Type 0) (seen : Seen) : Type 0 where
  pub texts : Texts
  pub written : List ℕ
  pub read : WereRead texts
  pub gives : Gives texts written
  pub taken : GrewByFront seen.out_before.taken written seen.out_after.taken

-- The end that told texts have comes, unless memory is wanting or a fault of the outside ends the run. An end by which
-- nothing is written wants no word of the sink.
pub record Answers {Texts F : Type 0} (AreTold : Texts → Type 0) (HaveEnd : Texts → End F
    → Type 0) (ReadFails : Type 0) (end : End F) (seen : Seen) : Type 0 where
  pub refused : (texts : Texts) (answer : End F) → AreTold texts → HaveEnd texts answer → IsSilent answer
      → (ReadFails → ⊥) →
      (end ≡ answer) ⊎ (end ≡ Memory)
  pub complete : (texts : Texts) (answer : End F) → AreTold texts → HaveEnd texts answer → (ReadFails → ⊥)
      → (WriteFailed seen → ⊥) →
      (end ≡ answer) ⊎ (end ≡ Memory)

-- A run over told texts that are fit ends by writing some text whole, unless memory is wanting or a fault of the
-- outside ends it. So a mode says it whose text for the same texts may differ from run to run.
pub record Finishes {Texts F : Type 0} (AreTold : Texts → Type 0) (AreFit : Texts
    → Type 0) (ReadFails : Type 0) (end : End F) (seen : Seen) : Type 0 where
  pub complete : (texts : Texts) → AreTold texts → AreFit texts → (ReadFails → ⊥)
      → (WriteFailed seen → ⊥) →
      ((outcome : Outcome) × (end ≡ Wrote outcome)) ⊎ (end ≡ Memory)

-- a reading under a name takes from the front of what is left there, so many bytes as the limit says at most, and from
-- nothing else
pub record TookUnder (name : List ℕ) (limit : Option ℕ) (before after : ShelfShown) : Type 0 where
  pub front : TookPiece (before.left name) (after.left name) limit
  pub others_stay : (other : List ℕ) → other ≢ name → after.left other ≡ before.left other

-- the text under a name was read to its end, before so many bytes as the limit says
pub record ReadWithin (name : List ℕ) (limit : Option ℕ) (before after : ShelfShown) (text : List ℕ)
    : Type 0 where
  pub read : ReadWhole (before.left name) (after.left name) text
  pub within : IfSome limit (λ n. length text < n)

-- so many bytes as the limit says were read, and each text that is no shorter has this fault
pub record IsTooLong {F : Type 0} (name : List ℕ) (limit : Option ℕ) (before after : ShelfShown)
    (HasFault : List ℕ → F → Type 0) (fault : F) : Type 0 where
  pub text : List ℕ
  pub moved : before.left name ≡ in_front text (after.left name)
  pub long : limit ≡ Some (length text)
  pub has : (longer : List ℕ) → length text ≤ length longer → HasFault longer fault

-- the text under a name was read to its end, and has this fault
pub record IsFaulty {F : Type 0} (name : List ℕ) (limit : Option ℕ) (before after : ShelfShown) (HasFault : List ℕ
    → F → Type 0) (fault : F) : Type 0 where
  pub text : List ℕ
  pub read : ReadWithin name limit before after text
  pub has : HasFault text fault

-- the text under a name was read, as far as the limit lets, and has this fault
abbrev pub ReadFaulty : {F : Type 0} → List ℕ → Option ℕ → ShelfShown → ShelfShown
    → (List ℕ → F → Type 0) → F → Type 0
ReadFaulty name limit before after HasFault fault = IsTooLong name limit before after HasFault fault
    ⊎ IsFaulty name limit before after HasFault fault

-- a text was written whole and flushed, and no fault happened
pub record WroteText (before after : SinkShown) (IsGiven : List ℕ → Type 0) : Type 0 where
  pub written : List ℕ
  pub gives : IsGiven written
  pub taken : after.taken ≡ grown before.taken written
  pub flushed : AllFlushed after.taken after.flushed
  pub counts : after.faults ≡ before.faults

-- a fault ended the writing of a text, of which a front was taken
pub record WroteSome (before after : SinkShown) (IsGiven : Outcome → List ℕ → Type 0) : Type 0 where
  pub outcome : Outcome
  pub written : List ℕ
  pub gives : IsGiven outcome written
  pub taken : GrewByFront before.taken written after.taken
  pub counts : after.faults ≡ next_count before.faults

-- what making a text and writing it comes to
abbrev pub Writes : {F : Type 0} → (Outcome → List ℕ → Type 0) → (F → Type 0) → End F → SinkShown
    → SinkShown → Type 0
Writes Gives HasFault (Wrote outcome) before after = WroteText before after (Gives outcome)
Writes Gives HasFault (Fault fault) before after = HasFault fault × (after ≡ before)
Writes Gives HasFault Write before after = WroteSome before after Gives
Writes Gives HasFault Memory before after = after ≡ before
Writes Gives HasFault Read before after = ⊥
