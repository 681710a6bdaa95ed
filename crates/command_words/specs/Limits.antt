-- What a command that the words ask for keeps to.
use Rattle.std.specs.Prelude.{◌≡◌, ℕ, ◌≤◌, ◌<◌, ◌^◌, List, Some, FitsSigned}
use Rattle.std.specs.Int.{w64}
use Rattle.clap.specs.Words.{Text}
use Rattle.command_words.specs.Request.{Request, Compile, Weigh, Solve, Check, Decode, Queens, Sat, Drup, OpbModel, Opb}
use Rattle.command_words.specs.Request.{All, CheckAll, Core, CheckCore, Bound, Certify, Resume}
use Rattle.command_words.specs.Line.{request}

-- a budget is from 1 and below 2 ^ 63
abbrev pub IsBudget : ℕ → Type 0
IsBudget budget = (1 ≤ budget) × (budget < 2 ^ 63)

-- the numbers of a command are in their limits
abbrev pub KeepsLimits : Request → Type 0
KeepsLimits (Compile input) = Unit {0}
KeepsLimits (Weigh input) = Unit {0}
KeepsLimits (Solve input options) = IsBudget options.search.budget
KeepsLimits (Check input second) = Unit {0}
KeepsLimits (Decode input second) = Unit {0}
KeepsLimits (Queens size options) = (4 ≤ size) × (size ≤ 24) × IsBudget options.search.budget
KeepsLimits (Sat input options) = IsBudget options.search.budget
KeepsLimits (Drup input second) = Unit {0}
KeepsLimits (OpbModel input) = Unit {0}
KeepsLimits (Opb input options) = IsBudget options.search.budget
KeepsLimits (All input options) = IsBudget options.search.budget
KeepsLimits (CheckAll input second) = Unit {0}
KeepsLimits (Core input options) = IsBudget options.search.budget
KeepsLimits (CheckCore input second) = Unit {0}
KeepsLimits (Bound input number) = FitsSigned w64 number
KeepsLimits (Certify input second) = Unit {0}
KeepsLimits (Resume input second options) = IsBudget options.search.budget

-- the words ask for no other command
abbrev pub RequestsKeepLimits : Type 0
RequestsKeepLimits = (words : List Text) (asked : Request) → request words ≡ Some asked → KeepsLimits asked
