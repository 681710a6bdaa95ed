-- What the words of the command line ask for, by the values of words and options.
use Rattle.std.specs.Prelude.{ℕ, ℤ, Bool, false, not, codes, bytes_eq, Option, Some, None, is_some, option_map}
use Rattle.std.specs.Prelude.{option_and_then, if◌then◌else◌}
use Rattle.std.specs.Option.{option_map_or}
use Rattle.clap.specs.Words.{Text}
use Rattle.command_words.specs.declared.command.Options.{Options}
use Rattle.command_words.specs.declared.command.Command.{Command}
use Rattle.command_words.specs.declared.command.Command.TheVariants as command
use Rattle.command_words.specs.Numeral.{number_within, signed_number}

-- a command, with its names as texts
pub data Request : Type 0 where
  Compile : (input : Text) → Request
  Weigh : (input : Text) → Request
  Solve : (input : Text) (options : Options) → Request
  Check : (input second : Text) → Request
  Decode : (input second : Text) → Request
  Queens : (size : ℕ) (options : Options) → Request
  Sat : (input : Text) (options : Options) → Request
  Drup : (input second : Text) → Request
  OpbModel : (input : Text) → Request
  Opb : (input : Text) (options : Options) → Request
  All : (input : Text) (options : Options) → Request
  CheckAll : (input second : Text) → Request
  Core : (input : Text) (options : Options) → Request
  CheckCore : (input second : Text) → Request
  Bound : (input : Text) (number : ℤ) → Request
  Certify : (input second : Text) → Request
  Resume : (input second : Text) (options : Options) → Request

abbrev pub request_of : Command → Request
request_of (command.Compile input) = Compile input.now
request_of (command.Weigh input) = Weigh input.now
request_of (command.Solve input options) = Solve input.now options
request_of (command.Check input second) = Check input.now second.now
request_of (command.Decode input second) = Decode input.now second.now
request_of (command.Queens size options) = Queens size options
request_of (command.Sat input options) = Sat input.now options
request_of (command.Drup input second) = Drup input.now second.now
request_of (command.OpbModel input) = OpbModel input.now
request_of (command.Opb input options) = Opb input.now options
request_of (command.All input options) = All input.now options
request_of (command.CheckAll input second) = CheckAll input.now second.now
request_of (command.Core input options) = Core input.now options
request_of (command.CheckCore input second) = CheckCore input.now second.now
request_of (command.Bound input number) = Bound input.now number
request_of (command.Certify input second) = Certify input.now second.now
request_of (command.Resume input second options) = Resume input.now second.now options

-- a word stands and is this one
abbrev pub is_word : Text → Option Text → Bool
is_word text word = option_map_or (λ found. bytes_eq found text) word false

-- the budget that a word says, from 1 to 9,223,372,036,854,775,807; where no word is given, 1,000,000
abbrev pub budget_of : Option Text → Option ℕ
budget_of None = Some 1000000
budget_of (Some word) = number_within 1 9223372036854775807 word

-- the size of a board that a word says, from 4 to 24
abbrev pub size_of : Text → Option ℕ
size_of word = number_within 4 24 word

-- the number that an objective is to be better than, as a word says it: from -9,223,372,036,854,775,808 to
-- 9,223,372,036,854,775,807, so any value that an objective of a model has
abbrev pub bound_of : Text → Option ℤ
bound_of word = signed_number word

-- a flag that is given has the value `true`
abbrev pub is_given : (Text → Option Text) → Text → Bool
is_given value id = is_word (codes "true") (value id)

-- the options, where the budget is one
abbrev pub options_with : (Text → Option Text) → ℕ → Options
options_with value budget = record {
  search = record { budget = budget; restart = not (is_given value (codes "no-restart")) };
  progress = is_given value (codes "progress");
}

-- The options. There are none where a budget is given that is none.
abbrev pub options_of : (Text → Option Text) → Option Options
options_of value = option_map (options_with value) (budget_of (value (codes "budget")))

-- the first name, where no second one is given
abbrev pub lone_input : (Text → Option Text) → Option Text
lone_input value = if is_some (value (codes "second")) then None else value (codes "input")

-- both names, where both are given
abbrev pub both_inputs : (Text → Option Text) → Option (Text × Text)
both_inputs value =
    option_and_then (λ input. option_map (λ second. (input, second)) (value (codes "second"))) (value (codes "input"))

-- the size of a board, where it is given alone
abbrev pub queens_size : (Text → Option Text) → Option ℕ
queens_size value = option_and_then size_of (lone_input value)

-- what a mode asks for that reads one text and doesn't search
abbrev pub reading_of : Option Text → Text → Option Request
reading_of mode input =
    if is_word (codes "compile") mode then Some (Compile input)
    else if is_word (codes "weigh") mode then Some (Weigh input)
    else if is_word (codes "opbmodel") mode then Some (OpbModel input)
    else None

abbrev pub reading_requested : Option Text → (Text → Option Text) → Option Request
reading_requested mode value = option_and_then (reading_of mode) (lone_input value)

-- what a mode asks for that reads one text and searches, with these options
abbrev pub searching_of : Option Text → Options → Text → Option Request
searching_of mode options input =
    if is_word (codes "solve") mode then Some (Solve input options)
    else if is_word (codes "sat") mode then Some (Sat input options)
    else if is_word (codes "opb") mode then Some (Opb input options)
    else if is_word (codes "all") mode then Some (All input options)
    else if is_word (codes "core") mode then Some (Core input options)
    else None

abbrev pub searching_requested : Option Text → (Text → Option Text) → Options → Option Request
searching_requested mode value options = option_and_then (searching_of mode options) (lone_input value)

-- what the mode asks for that places queens
abbrev pub queens_requested : Option Text → (Text → Option Text) → Options → Option Request
queens_requested mode value options =
    if is_word (codes "queens") mode then option_map (λ size. Queens size options) (queens_size value) else None

-- what the mode asks for that solves a model from values that are known
abbrev pub resuming_requested : Option Text → (Text → Option Text) → Options → Option Request
resuming_requested mode value options =
    if is_word (codes "resume") mode
    then option_map (λ names. Resume names.0 names.1 options) (both_inputs value)
    else None

-- what a mode asks for that reads two texts and doesn't search
abbrev pub checking_of : Option Text → Text × Text → Option Request
checking_of mode names =
    if is_word (codes "check") mode then Some (Check names.0 names.1)
    else if is_word (codes "decode") mode then Some (Decode names.0 names.1)
    else if is_word (codes "drup") mode then Some (Drup names.0 names.1)
    else if is_word (codes "checkall") mode then Some (CheckAll names.0 names.1)
    else if is_word (codes "checkcore") mode then Some (CheckCore names.0 names.1)
    else if is_word (codes "certify") mode then Some (Certify names.0 names.1)
    else None

abbrev pub checking_requested : Option Text → (Text → Option Text) → Option Request
checking_requested mode value = option_and_then (checking_of mode) (both_inputs value)

-- what the mode asks for that bounds an objective: a text's name and a number
abbrev pub bound_requested : Option Text → (Text → Option Text) → Option Request
bound_requested mode value =
    if is_word (codes "bound") mode
    then option_and_then (λ names. option_map (Bound names.0) (bound_of names.1)) (both_inputs value)
    else None

-- the first request, if there is one, and else the other
abbrev pub or_else : Option Request → Option Request → Option Request
or_else (Some asked) other = Some asked
or_else None other = other

-- what a mode asks for that makes no search
abbrev pub still_requested : Option Text → (Text → Option Text) → Option Request
still_requested mode value =
    or_else (checking_requested mode value) (or_else (reading_requested mode value) (bound_requested mode value))

-- what a mode asks for, with these options; the progress of a search alone can be asked for
abbrev pub mode_requested : Option Text → (Text → Option Text) → Options → Option Request
mode_requested mode value options =
    or_else (searching_requested mode value options)
    (or_else (queens_requested mode value options)
    (or_else (resuming_requested mode value options)
    (if options.progress then None else still_requested mode value)))

-- what the words ask for, by the values of words and options: modes with one name or number, and with two names
abbrev pub requested : (Text → Option Text) → Option Request
requested value = option_and_then (mode_requested (value (codes "mode")) value) (options_of value)
