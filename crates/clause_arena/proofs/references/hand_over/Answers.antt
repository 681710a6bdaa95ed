use Rattle.std.proofs.Common.{◌∙◌, ℕ, length, ap, arith, refl}
use Rattle.std.specs.Prelude.{◌==◌}
use Rattle.std.proofs.lemmas.Bool.{eq-eqb, cond-true}
use Rattle.std.proofs.lemmas.List.{length-map}
use Rattle.index_ring.specs.Lists.{RingLists, without, times_in_all, pushed_back}
use Rattle.index_ring.proofs.Times.{all-without}
use Rattle.clause_arena.proofs.references.hand_over.Goals as goal

pub push_back-requires-clause-ring : goal.push_back-requires-clause-ring
push_back-requires-clause-ring c =
    omega (arith, ap (λ (r : RingLists). length r.lists) c.unlink.ensures.lists, length-map c.args.order.now.lists (without c.args.c), c.requires.two, c.requires.ring)

pub push_back-requires-clause-node : goal.push_back-requires-clause-node
push_back-requires-clause-node c = omega (arith, ap (λ (r : RingLists). r.nodes) c.unlink.ensures.lists, c.requires.node)

pub push_back-requires-clause-free : goal.push_back-requires-clause-free
push_back-requires-clause-free c =
    ap (λ (r : RingLists). times_in_all c.args.c r.lists) c.unlink.ensures.lists
    ∙ all-without c.args.c c.args.c c.args.order.now.lists
    ∙ cond-true {A = ℕ} (c.args.c == c.args.c) 0 (times_in_all c.args.c c.args.order.now.lists) (eq-eqb c.args.c c.args.c refl)

pub returns-clause-order : goal.returns-clause-order
returns-clause-order c = c.push_back.ensures.lists ∙ ap (λ (r : RingLists). pushed_back r c.args.ring c.args.c) c.unlink.ensures.lists
