use Rattle.std.proofs.Common.{◌≡◌, length, map}
use Rattle.opb_front.specs.Words.{line_words}
use Rattle.opb_front.specs.Tokens.{token_of, line_tokens}
use Rattle.opb_front.specs.Steps.{run}
use Rattle.opb_front.proofs.draft.OpbDraft.take_line.Given as goal

-- the words that are left lead to what all lead to
abbrev pub invariant-loop-word : goal.invariant-loop-word
invariant-loop-word l = run l.self (map token_of (line_words l.rest)) ≡ run l.fn.self (line_tokens l.fn.line)

abbrev pub decreases-loop-word : goal.decreases-loop-word
decreases-loop-word l = length (line_words l.rest)
