-- A node in the ring that is walked has a blocker.
use Rattle.std.proofs.Common.{ℕ, ◌≡◌, ◌/◌, Option, Some, subst, sym, ◌∙◌, arith}
use Rattle.std.specs.Prelude.{slice_index}
use Rattle.clause_rings.specs.Watches.{Blocks}
use Rattle.std.proofs.lemmas.List.{get_or_default}
use Rattle.clause_arena.specs.Clauses.{lits_of}
use Rattle.index_ring.specs.Lists.{Stands}
use Rattle.clause_rings.specs.Keeping.{head_ring}
use Rattle.std.specs.Prelude.{IfSome}
use Rattle.clause_rings.proofs.Kept.{IsAtWatch, at-watch, watch-blocker}
use Rattle.clause_rings.proofs.walk.blocker_of.Goals as goal

pub index-requires : goal.index-requires
index-requires c =
    let w = c.args.watches.now in
    let at : IsAtWatch w c.in-Some.node = at-watch w c.in-Some.node c.requires.kept c.requires.head (subst (λ (o : Option ℕ). IfSome o (λ v. Stands w.rings (head_ring w) v)) c.in-Some.is c.requires.node) in
    let b = watch-blocker w c.in-Some.node c.requires.kept at in
    omega (arith, b.0)

pub returns-in-Some : goal.returns-in-Some
returns-in-Some c = λ v is.
    let w = c.args.watches.now in
    let at : IsAtWatch w c.in-Some.node = at-watch w c.in-Some.node c.requires.kept c.requires.head (subst (λ (o : Option ℕ). IfSome o (λ v. Stands w.rings (head_ring w) v)) c.in-Some.is c.requires.node) in
    let b = watch-blocker w c.in-Some.node c.requires.kept at in
    let same : c.in-Some.node ≡ v = (let both : Some c.in-Some.node ≡ Some v = sym c.in-Some.is ∙ is in cc) in
    let got : slice_index w.blockers.items c.in-Some.node ≡ c.index.result.now = get_or_default w.blockers.items c.in-Some.node 0 c.index.result.now b.0 ∙ sym c.index.ensures in
    subst (λ (n : ℕ). Blocks (lits_of w.arena.clauses (n / 2)) c.index.result.now) same (subst (λ (n : ℕ). Blocks (lits_of w.arena.clauses (c.in-Some.node / 2)) n) got b.1)
