use Rattle.std.proofs.Common.{◌≡◌, ℕ, ◌≤◌, inl, inr, List, [], ◌∷◌, length, refl, sym, ap, ◌∙◌, subst, arith, ⊎_elim, Option}
use Rattle.std.specs.Prelude.{IfSome}
use Rattle.std.proofs.lemmas.Bool.{cases_eq}
use Rattle.order_ints.specs.declared.atom.Atom.{Atom}
use Rattle.index_ring.specs.Lists.{times, after_in}
use Rattle.index_ring.proofs.Times.{times-other}
use Rattle.equation_store.specs.Class.{IsMember, IsWalk}
use Rattle.equation_store.specs.Store.{class_walk}
use Rattle.fixpoint_queue.specs.Listed.{HasVar, IsListed}
use Rattle.index_ring.specs.Lists.{rest_from}
use Rattle.fixpoint_queue.proofs.Waking.{rest-first, rest-after, rest-none, walk-has, walk-once}
use Rattle.fixpoint_queue.proofs.worklist.Worklist.wake.Goals as goal
use Rattle.fixpoint_queue.proofs.worklist.Worklist.wake.Goals.{After-after-next}

pub loop-next-init : goal.loop-next-init
loop-next-init c =
    let walk = class_walk c.args.store.now c.args.label in
    let all : rest_from c.first-next.result walk ≡ walk = ap (λ (o : Option ℕ). rest_from o walk) c.first-next.ensures.value ∙ rest-first walk in
    record {
      places = refl;
      occurs = refl;
      marks = refl;
      queued = c.requires.queued;
      stays = λ id h. h;
      only = λ id h. inl h;
      member = c.first-next.ensures.member;
      woken = λ v id m o. inl (subst (λ (l : List ℕ). 1 ≤ times v l) (sym all) (omega (arith, walk-has c.args.store.now.view c.args.label v walk c.first-next.ensures.walk m)));
    }

-- the member at hand, and what is left of the walk behind it
at-hand : (c : After-after-next) → IsMember c.args.store.now.view c.args.label c.in-Some.var
at-hand c = subst (λ (o : Option ℕ). IfSome o (IsMember c.args.store.now.view c.args.label)) c.in-Some.is c.loop-next.invariant.member

left : (c : After-after-next) → rest_from c.loop-next.next (class_walk c.args.store.now c.args.label)
    ≡ c.in-Some.var ∷ rest_from c.after-next.result (class_walk c.args.store.now c.args.label)
left c =
    let walk = class_walk c.args.store.now c.args.label in
    let is : IsWalk c.args.store.now.view c.args.label walk = c.first-next.ensures.walk in
    let member = at-hand c in
    let after : c.after-next.result ≡ after_in c.in-Some.var walk = c.after-next.ensures.value c.args.label member.2 in
    ap (λ (o : Option ℕ). rest_from o walk) c.in-Some.is
    ∙ rest-after c.in-Some.var walk (walk-once c.args.store.now.view c.args.label walk is) (omega (arith, walk-has c.args.store.now.view c.args.label c.in-Some.var walk is member))
    ∙ ap (λ (o : Option ℕ). c.in-Some.var ∷ rest_from o walk) (sym after)

pub loop-next-smaller : goal.loop-next-smaller
loop-next-smaller c = omega (arith, ap length (left c))

pub loop-next-preserved : goal.loop-next-preserved
loop-next-preserved c =
    let walk = class_walk c.args.store.now c.args.label in
    let rest = rest_from c.after-next.result walk in
    record {
      places = c.wake_at.ensures.places ∙ c.loop-next.invariant.places;
      occurs = c.loop-next.invariant.occurs;
      marks = c.loop-next.invariant.marks;
      queued = c.wake_at.ensures.queued;
      stays = λ id h. c.wake_at.ensures.stays id (c.loop-next.invariant.stays id h);
      only = λ id h.
          ⊎_elim (λ (there : 1 ≤ times id c.loop-next.self.queue.queued). c.loop-next.invariant.only id there) (λ (o : HasVar c.args.state.now id c.in-Some.var). inr (c.in-Some.var, at-hand c, o))
          (c.wake_at.ensures.only id h);
      member = c.after-next.ensures.member c.args.label (at-hand c).2;
      woken = λ v id m o.
          ⊎_elim
          (λ (ahead : 1 ≤ times v (rest_from c.loop-next.next walk)).
          ⊎_elim
          (λ (e : c.in-Some.var ≡ v). inr (c.wake_at.ensures.woken id (subst (λ (w : ℕ). HasVar c.args.state.now id w) (sym e) o)))
          (λ (n : c.in-Some.var ≡ v → ⊥). inl (omega (arith, ahead, ap (times v) (left c), times-other v c.in-Some.var rest n)))
          (cases_eq c.in-Some.var v))
          (λ (there : 1 ≤ times id c.loop-next.self.queue.queued). inr (c.wake_at.ensures.stays id there))
          (c.loop-next.invariant.woken v id m o);
    }

pub wake_at-requires-clause-high : goal.wake_at-requires-clause-high
wake_at-requires-clause-high c =
    let member : IsMember c.args.store.now.view c.args.label c.in-Some.var = subst (λ (o : Option ℕ). IfSome o (IsMember c.args.store.now.view c.args.label)) c.in-Some.is c.loop-next.invariant.member in
    omega (arith, member.1, ap length c.requires.same)

pub wake_at-requires-clause-places : goal.wake_at-requires-clause-places
wake_at-requires-clause-places c = omega (arith, c.requires.places, c.loop-next.invariant.places)

pub wake_at-requires-clause-listed : goal.wake_at-requires-clause-listed
wake_at-requires-clause-listed c = subst (IsListed c.args.state.now) (sym c.loop-next.invariant.occurs) c.requires.listed

pub returns-clause-woken : goal.returns-clause-woken
returns-clause-woken c =
    let same : c.args.store.now.view ≡ c.args.state.now.view = c.requires.same in
    let none : rest_from c.loop-next.next (class_walk c.args.store.now c.args.label) ≡ [] = rest-none c.loop-next.next (class_walk c.args.store.now c.args.label) c.in_default.not-Some in
    record {
      places = c.loop-next.invariant.places;
      ids = c.loop-next.invariant.queued;
      stays = c.loop-next.invariant.stays;
      only = λ id there.
          ⊎_elim (λ (was : 1 ≤ times id c.args.self.now.queue.queued). inl was)
          (λ (at : (v : ℕ) × IsMember c.args.store.now.view c.args.label v × HasVar c.args.state.now id v). inr (at.0, subst (λ (view : List Atom). IsMember view c.args.label at.0) same at.1, at.2))
          (c.loop-next.invariant.only id there);
      woken = λ v id m o.
          ⊎_elim (λ (ahead : 1 ≤ times v (rest_from c.loop-next.next (class_walk c.args.store.now c.args.label))). absurd (omega (arith, ahead, ap (times v) none))) (λ (there : 1 ≤ times id c.loop-next.self.queue.queued). there)
          (c.loop-next.invariant.woken v id (subst (λ (view : List Atom). IsMember view c.args.label v) (sym same) m) o);
    }
