-- What the end of a run says of writing and of faults, in every mode.
use Rattle.std.specs.Prelude.{ℕ, List}
use Rattle.bee_outside.specs.Faults.{next_count}
use Rattle.text_modes.specs.declared.ends.Outcome.{Outcome}
use Rattle.text_modes.specs.declared.ends.Made.{Made}
use Rattle.text_modes.specs.declared.ends.Made.TheVariants as made
use Rattle.text_modes.specs.declared.ends.End.{End}
use Rattle.text_modes.specs.declared.ends.End.TheVariants.{Wrote, Fault, Read, Write, Memory}

-- this end comes without a byte on the sink
abbrev pub IsSilent : {F : Type 0} → End F → Type 0
IsSilent (Wrote outcome) = ⊥
IsSilent Write = ⊥
IsSilent (Fault fault) = Unit {0}
IsSilent Read = Unit {0}
IsSilent Memory = Unit {0}

-- the shelf's count of faults after a run that ended so: a fault of reading ends the run, and no call follows it
abbrev pub count_read : {F : Type 0} → End F → ℕ → ℕ
count_read Read n = next_count n
count_read end n = n

-- the sink's count of faults after a run that ended so: a fault of writing ends the run, and no call follows it
abbrev pub count_written : {F : Type 0} → End F → ℕ → ℕ
count_written Write n = next_count n
count_written end n = n

-- what is made is a text that is given, with its outcome, or a fault that is had
abbrev pub IsMade : {F : Type 0} → (Outcome → List ℕ → Type 0) → (F → Type 0) → Made F → Type 0
IsMade Gives HasFault (made.Text outcome written) = Gives outcome written.items
IsMade Gives HasFault (made.Fault fault) = HasFault fault

-- this end is a fault that a text has
abbrev pub IsFaultEnd : {T F : Type 0} → (T → F → Type 0) → T → End F → Type 0
IsFaultEnd HasFault text (Fault fault) = HasFault text fault
IsFaultEnd HasFault text end = ⊥
