-- How far the lines behind the named statements were read, as a standing, and what comes of the next line.
use Rattle.std.specs.Prelude.{ℕ, ◌+◌, ◌≤◌, List}
use Rattle.std.specs.Prelude.{length, Option, None, Some}
use Rattle.model_meaning.specs.declared.model.Model.{Model}
use Rattle.line_texts.specs.LineByLine.{IsWhole, FirstMisfit}
use Rattle.conflict_text.specs.declared.part.Part.{Part}
use Rattle.conflict_text.specs.declared.part.Part.TheVariants as part
use Rattle.conflict_text.specs.ConflictLines.{Standing, MeetsStatements, IsNext, IsEnd}
use Rattle.conflict_check.specs.declared.reading.Place.{Place}
use Rattle.conflict_check.specs.declared.reading.Place.TheVariants as place
use Rattle.conflict_check.specs.declared.reading.Reading.{Reading}

abbrev pub part_at : Place → Part
part_at place.Ledger = part.Ledger
part_at place.Proof = part.Proof
part_at place.Values = part.Values
part_at place.End = part.End

-- the model is the one that is lent: all of it, or the part
abbrev pub standing_of : Model → Reading → Standing
standing_of model r = record {
  model = model;
  part = part_at r.place;
  verdict = r.verdict;
  conflict = r.conflict.items;
  now = r.last;
  begun = r.begun;
  values = r.given.values;
  kernel = r.state;
  proof = r.proof;
}

-- the statements hold that the assignment at hand must meet
abbrev pub MeetsNow : Model → Reading → Type 0
MeetsNow model r = MeetsStatements (standing_of model r) r.verdict

-- a text is whole, or the line of a number is the first that fails
abbrev pub ReadAs : Standing → List ℕ → Standing → Option ℕ → Type 0
ReadAs start text behind None = IsWhole IsNext IsEnd start text behind
ReadAs start text behind (Some line) = FirstMisfit IsNext IsEnd start text line

-- a text has no more lines than bytes
abbrev pub IsFew : List ℕ → Option ℕ → Type 0
IsFew text None = Unit {0}
IsFew text (Some line) = line ≤ length text + 1
