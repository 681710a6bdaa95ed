use Rattle.std.proofs.Common.{◌≡◌, ◌≤◌, length}
use Rattle.bumblebee_reader.specs.Tokens.{tokens_at, last_line_at}
use Rattle.bumblebee_reader.proofs.tokens.Tokens.next.Given as goal

abbrev pub invariant-loop-first : goal.invariant-loop-first
invariant-loop-first l =
    (tokens_at l.self.line l.self.rest.now ≡ tokens_at l.initial.self.line l.initial.self.rest.now) × (last_line_at l.self.line l.self.rest.now ≡ last_line_at l.initial.self.line l.initial.self.rest.now) × (length l.self.rest.now ≤ length l.initial.self.rest.now)

abbrev pub decreases-loop-first : goal.decreases-loop-first
decreases-loop-first l = length l.self.rest.now
