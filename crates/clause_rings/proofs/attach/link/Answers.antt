-- The node that has left ring 0 is free, and so is the other one still.
use Rattle.std.proofs.Common.{◌+◌, ◌*◌, ◌<◌, subst, sym, arith, length, ap}
use Rattle.index_ring.specs.Lists.{RingLists, IsFree}
use Rattle.clause_rings.proofs.Nodes.{unlinked-free, unlinked-others, pushed-others, length-unlinked}
use Rattle.clause_arena.specs.Codes.{code_of}
use Rattle.clause_rings.proofs.attach.link.Goals as goal

pub push_back-requires-clause-free : goal.push_back-requires-clause-free
push_back-requires-clause-free c = subst (λ (r : RingLists). IsFree r (2 * c.args.c)) (sym c.unlink.ensures.lists) (unlinked-free c.args.rings.now (2 * c.args.c))

pub push_back-requires-then-len-gt1-clause-free : goal.push_back-requires-then-len-gt1-clause-free
push_back-requires-then-len-gt1-clause-free c =
    let able = c.requires.linkable.ring 0 c.requires.some in
    let there : c.code_of.result < length c.unlink.new.self.lists = omega (arith, able.1, c.code_of.ensures, ap code_of c.lit_at-first.ensures, ap (λ (r : RingLists). length r.lists) c.unlink.ensures.lists, length-unlinked c.args.rings.now (2 * c.args.c)) in
    subst (λ (r : RingLists). IsFree r (2 * c.args.c + 1)) (sym c.push_back.ensures.lists) ((pushed-others c.unlink.new.self c.code_of.result (2 * c.args.c) there).free (2 * c.args.c + 1) (λ e. absurd (omega arith)) (subst (λ (r : RingLists). IsFree r (2 * c.args.c + 1)) (sym c.unlink.ensures.lists) ((unlinked-others c.args.rings.now (2 * c.args.c)).free (2 * c.args.c + 1) (λ e. absurd (omega arith)) c.requires.linkable.free)))
