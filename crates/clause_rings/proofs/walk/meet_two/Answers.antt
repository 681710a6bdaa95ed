-- The other literal of two is made true, or both are false.
use Rattle.std.proofs.Common.{◌≡◌, ◌/◌, ◌≤◌, ap, sym, ◌∙◌, subst, arith, refl, inl, Bool, Option}
use Rattle.std.specs.Prelude.{is_some}
use Rattle.literal_trail.specs.Standing.{IsUnit}
use Rattle.clause_arena.specs.Clauses.{lits_of}
use Rattle.clause_rings.specs.Keeping.{seen}
use Rattle.clause_rings.proofs.Kept.{IsAtWatch, at-watch, ringed-lit}
use Rattle.clause_rings.proofs.Looked.{advances-none}
use Rattle.clause_rings.proofs.Two.{IsOther, other-of, other-unit, other-false, forced-kept, forced-advances, forced-met, fails-from, none-from}
use Rattle.clause_rings.proofs.walk.meet_two.Goals as goal

pub truth-requires : goal.truth-requires
truth-requires c = (ringed-lit c.args.watches.now (c.args.node / 2) c.args.other c.requires.kept (at-watch c.args.watches.now c.args.node c.requires.kept c.requires.head c.requires.node).watched.live c.requires.other).high

pub returns-then-is_some-clause-advances : goal.returns-then-is_some-clause-advances
returns-then-is_some-clause-advances c = advances-none (seen c.args.watches.now)

pub returns-then-is_some-clause-conflict : goal.returns-then-is_some-clause-conflict
returns-then-is_some-clause-conflict c =
    let w = c.args.watches.now in
    let at : IsAtWatch w c.args.node = at-watch w c.args.node c.requires.kept c.requires.head c.requires.node in
    let other : IsOther w c.args.node c.args.other = other-of w c.args.node c.args.other at c.requires.two c.requires.other c.requires.apart in
    (at.watched.live, other-false w c.args.node c.args.other other (fails-from _ (ap is_some (sym c.truth.ensures) ∙ (sym c.is_some.ensures ∙ c.if-is_some.true)) c.requires.not_true))

pub imply-requires-clause-lit : goal.imply-requires-clause-lit
imply-requires-clause-lit c =
    let r = ringed-lit c.args.watches.now (c.args.node / 2) c.args.other c.requires.kept (at-watch c.args.watches.now c.args.node c.requires.kept c.requires.head c.requires.node).watched.live c.requires.other in
    (r.low, omega (arith, r.high))

unit : (c : goal.After-imply) → IsUnit c.args.watches.now.trail.entries (lits_of c.args.watches.now.arena.clauses (c.args.node / 2)) c.args.other
unit c =
    let w = c.args.watches.now in
    let at : IsAtWatch w c.args.node = at-watch w c.args.node c.requires.kept c.requires.head c.requires.node in
    let other : IsOther w c.args.node c.args.other = other-of w c.args.node c.args.other at c.requires.two c.requires.other c.requires.apart in
    other-unit w c.args.node c.args.other other (none-from _ (ap is_some (sym c.truth.ensures) ∙ (sym c.is_some.ensures ∙ c.if-is_some.false)))

pub returns-clause-kept : goal.returns-clause-kept
returns-clause-kept c = forced-kept c.args.watches.now c.args.node c.args.other c.imply.new.self c.requires.kept c.requires.head (at-watch c.args.watches.now c.args.node c.requires.kept c.requires.head c.requires.node).watched.live c.imply.ensures.trail c.imply.ensures.is_trail (unit c)

pub returns-clause-advances : goal.returns-clause-advances
returns-clause-advances c = forced-advances c.args.watches.now c.args.node c.args.other c.imply.new.self c.requires.kept c.requires.head (at-watch c.args.watches.now c.args.node c.requires.kept c.requires.head c.requires.node).watched.live c.imply.ensures.trail c.imply.ensures.is_trail (unit c)

pub returns-clause-visited : goal.returns-clause-visited
returns-clause-visited c = inl (refl, forced-met c.args.watches.now c.args.node c.args.other c.imply.new.self c.requires.kept c.requires.head (at-watch c.args.watches.now c.args.node c.requires.kept c.requires.head c.requires.node).watched.live c.imply.ensures.trail c.imply.ensures.is_trail (unit c))
