use Rattle.std.proofs.Common.{◌≡◌, ℕ, List, length}
use Rattle.order_ints.specs.declared.literal.Lit.{Lit}
use Rattle.proof_check.specs.Named.{Named}
use Rattle.conflict_analysis.specs.Resolving.{IsFollowing}
use Rattle.conflict_analysis.proofs.follow.follow.Given as goal

abbrev pub invariant-loop-k : goal.invariant-loop-k
invariant-loop-k g l = record {
  following : (spare : List Lit) (bound : ℕ) (conflict : Named) →
      IsFollowing (g.T.Reasons.trail l.source).entries (g.T.Reasons.named l.source) spare bound conflict l.minimiser.cells l.order l.fn.marks.cells l.fn.hints.items (length l.order) →
      IsFollowing (g.T.Reasons.trail l.source).entries (g.T.Reasons.named l.source) spare bound conflict l.minimiser.cells l.order l.marks.cells l.hints.items l.k;
  size : length l.marks.cells ≡ length l.fn.marks.cells;
}
