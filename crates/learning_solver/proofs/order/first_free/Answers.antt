use Rattle.std.proofs.Common.{◌≡◌, ◌≤◌, ℕ, List, [], ◌∷◌, length, Option, None, ap, subst, sym, ◌∙◌, arith}
use Rattle.index_ring.specs.Lists.{list_of, times}
use Rattle.literal_trail.specs.Trail.{entry_of}
use Rattle.index_ring.specs.Lists.{rest_from}
use Rattle.learning_solver.proofs.RingLaws.{free-there, stands-variable, behind-stands, left-there, still-ahead, rest-first, false-told}
use Rattle.learning_solver.proofs.order.first_free.Goals as goal

pub loop-at-init : goal.loop-at-init
loop-at-init c =
    let list = list_of c.args.ring.now 0 in
    record {
      stands = c.requires.from;
      passed = λ first v there free.
          let P : List ℕ → Type 0 = λ l. 1 ≤ times v l in
          subst P (sym (ap (λ (o : Option ℕ). rest_from o list) first ∙ rest-first list)) there;
    }

pub is_free-requires-clause-high : goal.is_free-requires-clause-high
is_free-requires-clause-high c = (stands-variable c.args.db.now.trail.vars c.args.ring.now c.in-Some.v c.requires.ring (c.loop-at.invariant.stands c.in-Some.v c.in-Some.is)).1

pub returns-then-is_free-clause-free : goal.returns-then-is_free-clause-free
returns-then-is_free-clause-free c =
    let t = c.args.db.now.trail in
    free-there t c.args.ring.now c.in-Some.v c.requires.ring (c.loop-at.invariant.stands c.in-Some.v c.in-Some.is) (c.is_free.ensures.0 c.if-is_free.true)

left : (c : goal.After-after-at) → rest_from c.loop-at.at (list_of c.args.ring.now 0) ≡ c.in-Some.v ∷ rest_from c.after-at.result (list_of c.args.ring.now 0)
left c =
    let list = list_of c.args.ring.now 0 in
    ap (λ (o : Option ℕ). rest_from o list) c.in-Some.is
    ∙ left-there c.args.db.now.trail.vars c.args.ring.now c.in-Some.v c.after-at.result c.requires.ring (c.loop-at.invariant.stands c.in-Some.v c.in-Some.is) c.after-at.ensures.node

pub loop-at-smaller : goal.loop-at-smaller
loop-at-smaller c = omega (arith, ap (λ (l : List ℕ). length l) (left c))

pub loop-at-preserved : goal.loop-at-preserved
loop-at-preserved c =
    let t = c.args.db.now.trail in
    let ring = c.args.ring.now in
    let v = c.in-Some.v in
    let list = list_of ring 0 in
    record {
      stands = behind-stands t.vars ring v c.after-at.result c.requires.ring (c.loop-at.invariant.stands v c.in-Some.is) c.after-at.ensures.node;
      passed = λ first w there free.
          let P : List ℕ → Type 0 = λ l. 1 ≤ times w l in
          still-ahead v w (rest_from c.after-at.result list)
          (λ e. false-told c.is_free.result c.if-is_free.false (c.is_free.ensures.1 (subst (λ (u : ℕ). entry_of t.entries u ≡ None) (sym e) free)))
          (subst P (left c) (c.loop-at.invariant.passed first w there free));
    }

pub returns-clause-none : goal.returns-clause-none
returns-clause-none c = λ first none v low high free.
    let list = list_of c.args.ring.now 0 in
    let ahead = c.loop-at.invariant.passed first v (c.requires.ring.all v low high) free in
    let nothing : rest_from c.loop-at.at list ≡ [] = ap (λ (o : Option ℕ). rest_from o list) c.in_default.is in
    omega (arith, ahead, ap (times v) nothing)
