use Rattle.std.proofs.Common.{sym, subst}
use Rattle.index_ring.specs.Lists.{RingLists}
use Rattle.clause_rings.specs.Moves.{IsReleased}
use Rattle.clause_rings.proofs.ComeAndGo.{released-unlinked}
use Rattle.clause_rings.proofs.moves.release.Goals as goal

pub returns-then-not-is_free-clause-released : goal.returns-then-not-is_free-clause-released
returns-then-not-is_free-clause-released c = subst (λ (r : RingLists). IsReleased c.args.rings.now r c.args.node) (sym c.unlink.ensures.lists) (released-unlinked c.args.rings.now c.args.node)
