-- The command line `bee MODE [--budget N] [--no-restart] [--progress] [--] INPUT [SECOND]`, as clap reads it.
use Rattle.std.specs.Prelude.{Bool, true, List, codes, Option, Some, None, if◌then◌else◌}
use Rattle.clap.specs.Words.{App, Rule, Text, new_app, new_rule, with_rule, matches_of, fault_of, first_of}
use Rattle.clap.specs.declared.builder.ArgAction.TheVariants.{Set, SetTrue}
use Rattle.clap.specs.Walk.{is_empty}
use Rattle.command_words.specs.Request.{Request, requested}

-- a word that must stand, in its place
abbrev pub required_word : Text → Rule
required_word id = record (new_rule id) { required = true; action = Some Set }

-- a word that may stand, in its place
abbrev pub optional_word : Text → Rule
optional_word id = record (new_rule id) { action = Some Set }

-- an option with a value, and one without
abbrev pub option_with_value : Text → Rule
option_with_value id = record (new_rule id) { long = Some id; action = Some Set }

abbrev pub flag : Text → Rule
flag id = record (new_rule id) { long = Some id; action = Some SetTrue }

-- the command
abbrev pub bee : App
bee =
    with_rule
    (with_rule
    (with_rule
    (with_rule
    (with_rule (with_rule (new_app (codes "bee")) (required_word (codes "mode"))) (required_word (codes "input")))
    (optional_word (codes "second")))
    (option_with_value (codes "budget")))
    (flag (codes "no-restart")))
    (flag (codes "progress"))

-- clap takes the words: they name what the command has, what must stand is there, nothing is said twice, and
-- no help is asked for
abbrev pub is_taken : List Text → Bool
is_taken words = is_empty (fault_of bee words)

-- the value that the words give to a word or an option
abbrev pub value_of : List Text → Text → Option Text
value_of words id = first_of id (matches_of bee words)

-- What the words of the command line ask for; the program's name is the first word. There is nothing where clap
-- doesn't take the words, or they are no command.
abbrev pub request : List Text → Option Request
request words = if is_taken words then requested (value_of words) else None
