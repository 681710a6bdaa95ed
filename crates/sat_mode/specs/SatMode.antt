-- What a run in sat mode promises.
use Rattle.std.specs.Prelude.{ℕ, ◌+◌, List, Some}
use Rattle.text_modes.specs.Seen.{Seen}
use Rattle.text_modes.specs.Ends.{IsFaultEnd}
use Rattle.text_modes.specs.Promises.{ToldUnder, ReadFailed, Answers, Finishes}
use Rattle.text_modes.specs.OneText.{OneTextRun}
use Rattle.text_modes.specs.declared.ends.End.{End}
use Rattle.sat_front.specs.declared.text_fault.CnfTextFault.{CnfTextFault}
use Rattle.sat_front.specs.HeldCnfs.{longest_text, HasCnf, HasFault}
use Rattle.search_options.specs.declared.options.SearchOptions.{SearchOptions}
use Rattle.sat_mode.specs.Found.{IsSolved}

-- A run in sat mode, with how the clauses are searched and the name of the text, of which one byte more than the limit
-- is read at most. What is written for it tells what was found of its clauses (`IsSolved`), and its fault is the first
-- that it has. A text that lists clauses is answered, by values, by a refutation or by the budget that is spent, unless
-- memory is wanting.
pub record SatMode (options : SearchOptions) (input : List ℕ) (end : End CnfTextFault) (seen : Seen) : Type 0 where
  pub run : OneTextRun (Some (longest_text + 1)) (IsSolved options) HasFault input end seen
  pub faulty : Answers (ToldUnder input seen) (IsFaultEnd HasFault) (ReadFailed input seen) end seen
  pub finishes : Finishes (ToldUnder input seen) HasCnf (ReadFailed input seen) end seen
