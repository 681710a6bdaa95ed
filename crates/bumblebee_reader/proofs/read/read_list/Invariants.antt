use Rattle.std.proofs.Common.{◌≡◌, ◌≤◌, List, ℕ, length}
use Rattle.std.specs.Option.{option_map}
use Rattle.bumblebee_reader.specs.declared.syntax.Arg.{Arg}
use Rattle.bumblebee_reader.specs.Tokens.{token_of}
use Rattle.bumblebee_reader.specs.Reading.{AtFirst, InList, reading, term_taken}
use Rattle.bumblebee_reader.proofs.read.read_list.Given as goal

abbrev pub invariant-loop-terms : goal.invariant-loop-terms
invariant-loop-terms l =
    ((name : List ℕ) (args : List Arg) → reading (AtFirst name args) l.fn.tokens.line l.fn.tokens.rest.now ≡ term_taken (InList name args l.terms.items) (option_map token_of l.first) l.tokens.line l.tokens.rest.now) × (length l.tokens.rest.now ≤ length l.fn.tokens.rest.now)

abbrev pub decreases-loop-terms : goal.decreases-loop-terms
decreases-loop-terms l = length l.tokens.rest.now
