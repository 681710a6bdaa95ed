-- Each node leaves its own ring.
use Rattle.std.proofs.Common.{◌+◌, ◌*◌, ◌∙◌, sym, subst, arith}
use Rattle.index_ring.specs.Lists.{RingLists, IsFree}
use Rattle.clause_rings.proofs.Nodes.{unlinked-free, unlinked-all}
use Rattle.clause_rings.proofs.moves.park.Goals as goal

pub unlink-requires-2 : goal.unlink-requires-2
unlink-requires-2 c = λ free. c.requires.second (sym (unlinked-all c.args.rings.now (2 * c.args.c) (2 * c.args.c + 1) (λ e. absurd (omega arith))) ∙ subst (λ (r : RingLists). IsFree r (2 * c.args.c + 1)) c.unlink.ensures.lists free)

pub push_back-requires-clause-free : goal.push_back-requires-clause-free
push_back-requires-clause-free c = subst (λ (r : RingLists). IsFree r (2 * c.args.c)) (sym c.unlink-2.ensures.lists) (unlinked-all c.unlink.new.self (2 * c.args.c + 1) (2 * c.args.c) (λ e. absurd (omega arith)) ∙ subst (λ (r : RingLists). IsFree r (2 * c.args.c)) (sym c.unlink.ensures.lists) (unlinked-free c.args.rings.now (2 * c.args.c)))
