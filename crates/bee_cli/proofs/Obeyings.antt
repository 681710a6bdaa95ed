-- What a run promises where its mode never began, and what a command keeps to.
use Rattle.std.proofs.Common.{◌≡◌, ℕ, List, Some, None, refl, sym}
use Rattle.std.specs.Prelude.{Option, option_map}
use Rattle.command_words.specs.declared.command.Command.{Command}
use Rattle.command_words.specs.declared.command.Options.{Options as Words}
use Rattle.command_words.specs.Request.{Request, Compile, Weigh, Solve, Check, Decode, Queens, Sat, Drup, OpbModel, Opb, request_of}
use Rattle.command_words.specs.Request.{All, CheckAll, Core, CheckCore, Bound, Certify, Resume}
use Rattle.command_words.specs.Line.{request}
use Rattle.command_words.specs.Limits.{KeepsLimits}
use Rattle.command_words.proofs.RequestLimits.{requests_keep_limits}
use Rattle.text_modes.specs.Seen.{Seen, Untouched}
use Rattle.text_modes.specs.declared.ends.End.{End}
use Rattle.text_modes.specs.declared.ends.End.TheVariants as end
use Rattle.compile_mode.proofs.Ends as compiling
use Rattle.weigh_mode.proofs.Ends as weighing
use Rattle.solve_mode.proofs.Ends as solving
use Rattle.check_modes.proofs.AnswerEnds as checking
use Rattle.decode_mode.proofs.Ends as decoding
use Rattle.queens_mode.specs.QueensMode.{QueensMode}
use Rattle.queens_mode.proofs.Ends as placing
use Rattle.sat_mode.proofs.Ends as searching
use Rattle.drup_mode.proofs.Ends as proving
use Rattle.opb_mode.proofs.Ends as files
use Rattle.all_mode.proofs.Ends as listing
use Rattle.check_modes.proofs.ListEnds as list_checking
use Rattle.core_mode.proofs.Ends as explaining
use Rattle.check_modes.proofs.ConflictEnds as core_checking
use Rattle.bound_mode.proofs.Ends as bounding
use Rattle.certify_mode.proofs.Ends as certifying
use Rattle.resume_mode.proofs.Ends as resuming
use Rattle.model_texts.specs.declared.fault.ModelFault.{ModelFault}
use Rattle.bee_cli.specs.Statuses.{model_fault, status_of}
use Rattle.bee_cli.specs.Obeyed.{Obeys}
use Rattle.bee_cli.specs.declared.status.Status.{Status}
use Rattle.bee_cli.specs.declared.status.Status.TheVariants.{Memory}

-- memory is wanting for the words
pub unread : (request : Option Request) (seen : Seen) → Untouched seen → Obeys request Memory seen
unread None seen same = same
unread (Some (Compile input)) seen same = (end.Memory, refl, compiling.idle input seen same)
unread (Some (Weigh input)) seen same = (end.Memory, refl, weighing.idle input seen same)
unread (Some (Solve input options)) seen same = (end.Memory, refl, solving.idle options.search input seen same)
unread (Some (Check input second)) seen same = (end.Memory, refl, checking.idle input second seen same)
unread (Some (Decode input second)) seen same = (end.Memory, refl, decoding.idle input second seen same)
unread (Some (Queens size options)) seen same = (end.Memory, refl, placing.idle options.search size seen same)
unread (Some (Sat input options)) seen same = (end.Memory, refl, searching.idle options.search input seen same)
unread (Some (Drup input second)) seen same = (end.Memory, refl, proving.idle input second seen same)
unread (Some (OpbModel input)) seen same = (end.Memory, refl, files.model_idle input seen same)
unread (Some (Opb input options)) seen same = (end.Memory, refl, files.idle options.search input seen same)
unread (Some (All input options)) seen same = (end.Memory, refl, listing.idle options.search input seen same)
unread (Some (CheckAll input second)) seen same = (end.Memory, refl, list_checking.idle input second seen same)
unread (Some (Core input options)) seen same = (end.Memory, refl, explaining.idle options.search input seen same)
unread (Some (CheckCore input second)) seen same = (end.Memory, refl, core_checking.idle input second seen same)
unread (Some (Bound input number)) seen same = (end.Memory, refl, bounding.idle number input seen same)
unread (Some (Certify input second)) seen same = (end.Memory, refl, certifying.idle input second seen same)
unread (Some (Resume input second options)) seen same = (end.Memory, refl, resuming.idle options.search input second seen same)

-- queens are placed
pub queens_obeyed : (words : Words) (size : ℕ) (ending : End ModelFault) (status : Status) (seen : Seen) → QueensMode words.search size ending seen → status ≡ status_of model_fault ending
    → Obeys (Some (Queens size words)) status seen
queens_obeyed words size ending status seen run is = (ending, is, run)

-- the command that the words give keeps to its limits
pub keeps : (words : List (List ℕ)) (command : Command) → option_map request_of (Some command) ≡ request words → KeepsLimits (request_of command)
keeps words command e = requests_keep_limits words (request_of command) (sym e)
