-- Where the first literal is false, true, or free.
use Rattle.std.proofs.Common.{ℕ, List, Bool, true, false, not, ◌≡◌, ◌≤◌, ◌<◌, ◌+◌, length, sym, subst, ◌∙◌, ap, arith, inr, Option, Some, None}
use Rattle.std.specs.Bool.{OnTrue, OnFalse}
use Rattle.order_ints.specs.declared.literal.Lit.{Lit}
use Rattle.literal_trail.specs.Trail.{Trail, truth_in, implied}
use Rattle.literal_trail.specs.Standing.{IsFalse}
use Rattle.clause_arena.specs.Clauses.{Clause, IsLive, lits_of, lit_in}
use Rattle.clause_rings.specs.Clauses.{IsDb}
use Rattle.clause_rings.specs.Attaching.{AreRanked, IsAttached}
use Rattle.clause_rings.proofs.Db.{db-range_at}
use Rattle.clause_rings.proofs.Literals.{contains-at}
use Rattle.clause_rings.proofs.Attaching.{attached-true, attached-forced, attached-open, ranked-fails, alone-unit}
use Rattle.clause_rings.proofs.attach.force.Goals as goal

-- where the first literal has a value
attached-some : (cs : List Clause) (t : Trail) (c : ℕ) (b : Bool) → IsDb cs t → IsLive cs c → 1 ≤ length (lits_of cs c) → AreRanked t.entries (lits_of cs c) → truth_in t.entries (lit_in (lits_of cs c) 0) ≡ Some b → OnFalse (not b) (IsAttached t.entries (lits_of cs c))
attached-some cs t c true db live some ranked is = attached-true cs t c db live some ranked is
attached-some cs t c false db live some ranked is = tt

fails-some : (cs : List Clause) (t : Trail) (c : ℕ) (b : Bool) → IsDb cs t → AreRanked t.entries (lits_of cs c) → truth_in t.entries (lit_in (lits_of cs c) 0) ≡ Some b → OnTrue (not b) (IsFalse t.entries (lits_of cs c))
fails-some cs t c true db ranked is = tt
fails-some cs t c false db ranked is = ranked-fails t (lits_of cs c) db.trail ranked is

pub truth-requires : goal.truth-requires
truth-requires c = db-range_at c.args.arena.now.clauses c.args.trail.now c.args.c 0 c.lit_at-first.result c.requires.db c.requires.live (omega arith) c.lit_at-first.ensures

pub imply-requires-clause-lit : goal.imply-requires-clause-lit
imply-requires-clause-lit c = let r = c.requires.db.in_range c.args.c c.requires.live (lit_in (lits_of c.args.arena.now.clauses c.args.c) 0) (contains-at (lits_of c.args.arena.now.clauses c.args.c) 0 (omega arith)) in subst (λ (l : Lit). (1 ≤ l.var) × (l.var < c.args.trail.now.vars + 1)) (sym c.lit_at-first.ensures) r

-- the truth of the first literal, as it is known in an arm
first_is : (t : Trail) (l m : Lit) (o : Option Bool) → l ≡ m → o ≡ truth_in t.entries l → truth_in t.entries m ≡ o
first_is t l m o e is = ap (λ (x : Lit). truth_in t.entries x) (sym e) ∙ sym is

pub returns-in-Some-clause-attached : goal.returns-in-Some-clause-attached
returns-in-Some-clause-attached c = attached-some c.args.arena.now.clauses c.args.trail.now c.args.c c.in-Some.truth c.requires.db c.requires.live c.requires.some c.requires.ranked (first_is c.args.trail.now c.lit_at-first.result (lit_in (lits_of c.args.arena.now.clauses c.args.c) 0) (Some c.in-Some.truth) c.lit_at-first.ensures c.in-Some.ensures)

pub returns-in-Some-clause-fails : goal.returns-in-Some-clause-fails
returns-in-Some-clause-fails c = fails-some c.args.arena.now.clauses c.args.trail.now c.args.c c.in-Some.truth c.requires.db c.requires.ranked (first_is c.args.trail.now c.lit_at-first.result (lit_in (lits_of c.args.arena.now.clauses c.args.c) 0) (Some c.in-Some.truth) c.lit_at-first.ensures c.in-Some.ensures)

pub returns-then-is_alone-clause-forced : goal.returns-then-is_alone-clause-forced
returns-then-is_alone-clause-forced c =
    let free = first_is c.args.trail.now c.lit_at-first.result (lit_in (lits_of c.args.arena.now.clauses c.args.c) 0) None c.lit_at-first.ensures c.in-None.ensures in
    inr (alone-unit c.args.arena.now.clauses c.args.trail.now c.args.c c.requires.db c.requires.some c.requires.ranked c.if-is_alone.ensures.yes free, c.imply.ensures.trail ∙ ap (λ (l : Lit). implied c.args.trail.now l c.args.c) c.lit_at-first.ensures)

pub returns-then-is_alone-clause-attached : goal.returns-then-is_alone-clause-attached
returns-then-is_alone-clause-attached c =
    let free = first_is c.args.trail.now c.lit_at-first.result (lit_in (lits_of c.args.arena.now.clauses c.args.c) 0) None c.lit_at-first.ensures c.in-None.ensures in
    subst (λ (t : Trail). IsAttached t.entries (lits_of c.args.arena.now.clauses c.args.c)) (sym (c.imply.ensures.trail ∙ ap (λ (l : Lit). implied c.args.trail.now l c.args.c) c.lit_at-first.ensures)) (attached-forced c.args.arena.now.clauses c.args.trail.now c.args.c c.requires.db c.requires.live c.requires.some c.requires.ranked free)

pub returns-else-is_alone-clause-attached : goal.returns-else-is_alone-clause-attached
returns-else-is_alone-clause-attached c =
    let free = first_is c.args.trail.now c.lit_at-first.result (lit_in (lits_of c.args.arena.now.clauses c.args.c) 0) None c.lit_at-first.ensures c.in-None.ensures in
    attached-open c.args.trail.now.entries (lits_of c.args.arena.now.clauses c.args.c) (λ f. let no : Some false ≡ None = sym f ∙ free in cc) c.if-is_alone.ensures.no.1 c.if-is_alone.ensures.no.0
