-- Where the blocker is true, so is a literal of the clause.
use Rattle.std.proofs.Common.{◌/◌, ◌%◌, ◌^◌, refl, sym, subst, inl, ◌≤◌}
use Rattle.literal_trail.specs.Trail.{entry_at}
use Rattle.order_ints.specs.declared.literal.Lit.{Lit}
use Rattle.std.specs.List.{Contains}
use Rattle.clause_arena.specs.Clauses.{lits_of}
use Rattle.clause_arena.specs.Codes.{lit_of}
use Rattle.clause_rings.specs.Keeping.{seen}
use Rattle.clause_rings.proofs.Kept.{at-watch, ringed-lit}
use Rattle.clause_rings.proofs.Looked.{advances-none, true-now, head-level}
use Rattle.clause_rings.proofs.walk.meet.Goals as goal

pub is_true-requires : goal.is_true-requires
is_true-requires c = let w = c.args.watches.now in subst (λ (l : Lit). l.var ≤ w.trail.vars) (sym c.lit_of-other.ensures) (ringed-lit w (c.args.node / 2) (lit_of (c.args.blocker % 2 ^ 31)) c.requires.kept (at-watch w c.args.node c.requires.kept c.requires.head c.requires.node).watched.live (c.requires.blocker c.args.node refl).0).high

pub returns-then-is_true-clause-advances : goal.returns-then-is_true-clause-advances
returns-then-is_true-clause-advances c = advances-none (seen c.args.watches.now)

pub returns-then-is_true-clause-visited : goal.returns-then-is_true-clause-visited
returns-then-is_true-clause-visited c =
    let w = c.args.watches.now in
    inl (refl, true-now w.trail (lits_of w.arena.clauses (c.args.node / 2)) c.lit_of-other.result (entry_at w.trail.entries w.head).level c.requires.kept.db.trail (head-level w c.requires.kept c.requires.head) (subst (λ (l : Lit). Contains (lits_of w.arena.clauses (c.args.node / 2)) l) (sym c.lit_of-other.ensures) (c.requires.blocker c.args.node refl).0) (c.if-is_true.ensures.0 refl))

pub meet_two-requires-clause-other : goal.meet_two-requires-clause-other
meet_two-requires-clause-other c = subst (λ (l : Lit). Contains (lits_of c.args.watches.now.arena.clauses (c.args.node / 2)) l) (sym c.lit_of-other.ensures) (c.requires.blocker c.args.node refl).0
