-- What a run promises, by what the words ask for.
use Rattle.std.specs.Prelude.{◌≡◌, Bool, true, false, Option, Some}
use Rattle.command_words.specs.Request.{Request, Compile, Weigh, Solve, Check, Decode, Queens, Sat, Drup, OpbModel, Opb}
use Rattle.command_words.specs.Request.{All, CheckAll, Core, CheckCore, Bound, Certify, Resume}
use Rattle.text_modes.specs.Seen.{Seen, Untouched}
use Rattle.compile_mode.specs.CompileMode.{CompileMode}
use Rattle.weigh_mode.specs.WeighMode.{WeighMode}
use Rattle.solve_mode.specs.SolveMode.{SolveMode}
use Rattle.check_modes.specs.CheckMode.{CheckMode}
use Rattle.decode_mode.specs.DecodeMode.{DecodeMode}
use Rattle.queens_mode.specs.QueensMode.{QueensMode}
use Rattle.sat_mode.specs.SatMode.{SatMode}
use Rattle.drup_mode.specs.DrupMode.{DrupMode}
use Rattle.opb_mode.specs.OpbModelMode.{OpbModelMode}
use Rattle.opb_mode.specs.OpbMode.{OpbMode}
use Rattle.all_mode.specs.AllMode.{AllMode}
use Rattle.check_modes.specs.CheckAllMode.{CheckAllMode}
use Rattle.core_mode.specs.CoreMode.{CoreMode}
use Rattle.check_modes.specs.CheckCoreMode.{CheckCoreMode}
use Rattle.bound_mode.specs.BoundMode.{BoundMode}
use Rattle.certify_mode.specs.CertifyMode.{CertifyMode}
use Rattle.resume_mode.specs.ResumeMode.{ResumeMode}
use Rattle.bee_cli.specs.Statuses.{model_fault, cnf_fault, clauses_fault, certify_fault, bound_fault, Ended}
use Rattle.bee_cli.specs.declared.status.Status.{Status}

-- the words ask for a mode that is built
abbrev pub is_built : Option Request → Bool
is_built (Some (Compile input)) = true
is_built (Some (Weigh input)) = true
is_built (Some (Solve input options)) = true
is_built (Some (Check input second)) = true
is_built (Some (Decode input second)) = true
is_built (Some (Queens size options)) = true
is_built (Some (Sat input options)) = true
is_built (Some (Drup input second)) = true
is_built (Some (OpbModel input)) = true
is_built (Some (Opb input options)) = true
is_built (Some (All input options)) = true
is_built (Some (CheckAll input second)) = true
is_built (Some (Core input options)) = true
is_built (Some (CheckCore input second)) = true
is_built (Some (Bound input number)) = true
is_built (Some (Certify input second)) = true
is_built (Some (Resume input second options)) = true
is_built request = false

-- a mode that is built has one record of clauses, over the end of the run, of which the status tells
abbrev pub Obeys : Option Request → Status → Seen → Type 0
Obeys (Some (Compile input)) status seen = Ended model_fault (λ end. CompileMode input end seen) status
Obeys (Some (Weigh input)) status seen = Ended model_fault (λ end. WeighMode input end seen) status
Obeys (Some (Solve input options)) status seen =
    Ended model_fault (λ end. SolveMode options.search input end seen) status
Obeys (Some (Check input second)) status seen = Ended model_fault (λ end. CheckMode input second end seen) status
Obeys (Some (Decode input second)) status seen = Ended cnf_fault (λ end. DecodeMode input second end seen) status
Obeys (Some (Queens size options)) status seen =
    Ended model_fault (λ end. QueensMode options.search size end seen) status
Obeys (Some (Sat input options)) status seen =
    Ended clauses_fault (λ end. SatMode options.search input end seen) status
Obeys (Some (Drup input second)) status seen = Ended clauses_fault (λ end. DrupMode input second end seen) status
Obeys (Some (OpbModel input)) status seen = Ended model_fault (λ end. OpbModelMode input end seen) status
Obeys (Some (Opb input options)) status seen =
    Ended model_fault (λ end. OpbMode options.search input end seen) status
Obeys (Some (All input options)) status seen = Ended model_fault (λ end. AllMode options.search input end seen) status
Obeys (Some (CheckAll input second)) status seen = Ended model_fault (λ end. CheckAllMode input second end seen) status
Obeys (Some (Core input options)) status seen = Ended model_fault (λ end. CoreMode options.search input end seen) status
Obeys (Some (CheckCore input second)) status seen =
    Ended model_fault (λ end. CheckCoreMode input second end seen) status
Obeys (Some (Bound input number)) status seen = Ended bound_fault (λ end. BoundMode number input end seen) status
Obeys (Some (Certify input second)) status seen = Ended certify_fault (λ end. CertifyMode input second end seen) status
Obeys (Some (Resume input second options)) status seen =
    Ended model_fault (λ end. ResumeMode options.search input second end seen) status
Obeys request status seen = Untouched seen
