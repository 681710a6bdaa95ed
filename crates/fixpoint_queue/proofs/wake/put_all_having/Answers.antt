use Rattle.std.proofs.Common.{◌≡◌, ℕ, ◌≤◌, inl, inr, get_or, refl, sym, ap, ◌∙◌, subst, arith, ⊎_elim}
use Rattle.std.proofs.lemmas.Bool.{cases_eq}
use Rattle.std.proofs.lemmas.List.{get_or_default}
use Rattle.index_ring.specs.Lists.{times}
use Rattle.fixpoint_queue.specs.Listed.{HasVar}
use Rattle.fixpoint_queue.proofs.wake.put_all_having.Goals as goal

pub loop-id-init : goal.loop-id-init
loop-id-init c = record {
  places = refl;
  queued = c.requires.queued;
  stays = λ i h. h;
  only = λ i h. inl h;
  woken = λ k low. absurd (omega (arith, low));
}

pub put_having-requires-clause-place : goal.put_having-requires-clause-place
put_having-requires-clause-place c =
    let coming = c.args.coming.now in
    let index = c.loop-id.id-index in
    omega (arith, c.loop-id.invariant.places, c.requires.places (get_or coming index 0) (index, c.loop-id-test.true, get_or_default coming index (get_or coming index 0) 0 c.loop-id-test.true))

pub loop-id-preserved : goal.loop-id-preserved
loop-id-preserved c =
    record {
      places = c.put_having.ensures.places ∙ c.loop-id.invariant.places;
      queued = c.put_having.ensures.queued;
      stays = λ i h. c.put_having.ensures.stays i (c.loop-id.invariant.stays i h);
      only = λ i h. ⊎_elim (λ (was : 1 ≤ times i c.loop-id.ids.queued). c.loop-id.invariant.only i was) (λ (has : HasVar c.args.state.now i c.args.var). inr has) (c.put_having.ensures.only i h);
      woken = λ k low has.
          ⊎_elim
          (λ (e : k ≡ c.loop-id.id-index).
          let same : get_or c.args.coming.now k 0 ≡ get_or c.args.coming.now c.loop-id.id-index 0 = ap (λ (j : ℕ). get_or c.args.coming.now j 0) e in
          subst (λ (j : ℕ). 1 ≤ times j c.put_having.new.ids.queued) (sym same) (c.put_having.ensures.woken (subst (λ (j : ℕ). HasVar c.args.state.now j c.args.var) same has)))
          (λ (n : k ≡ c.loop-id.id-index → ⊥). c.put_having.ensures.stays (get_or c.args.coming.now k 0) (c.loop-id.invariant.woken k (omega (arith, low, n)) has))
          (cases_eq k c.loop-id.id-index);
    }

pub returns-clause-woken : goal.returns-clause-woken
returns-clause-woken c = λ id there has.
    let same : get_or c.args.coming.now there.0 0 ≡ id = get_or_default c.args.coming.now there.0 0 id there.1 ∙ there.2 in
    subst (λ (j : ℕ). 1 ≤ times j c.loop-id.ids.queued) same (c.loop-id.invariant.woken there.0 (omega (arith, there.1, c.loop-id-test.false)) (subst (λ (j : ℕ). HasVar c.args.state.now j c.args.var) (sym same) has))
