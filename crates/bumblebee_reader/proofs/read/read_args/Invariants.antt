use Rattle.std.proofs.Common.{◌≡◌, ◌≤◌, List, [], ℕ, length}
use Rattle.bumblebee_reader.specs.Reading.{AtArg, reading}
use Rattle.bumblebee_reader.proofs.read.read_args.Given as goal

abbrev pub invariant-loop-args : goal.invariant-loop-args
invariant-loop-args l =
    ((name : List ℕ) → reading (AtArg name []) l.initial.tokens.line l.initial.tokens.rest.now ≡ reading (AtArg name l.args.items) l.tokens.line l.tokens.rest.now) × (length l.tokens.rest.now ≤ length l.initial.tokens.rest.now)

abbrev pub decreases-loop-args : goal.decreases-loop-args
decreases-loop-args l = length l.tokens.rest.now
