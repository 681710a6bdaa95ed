use Rattle.std.proofs.Common.{◌≡◌, ◌⊎◌, inl, inr, ℕ, List, get_or, sym, ap, ◌∙◌, subst, arith, ⊎_elim}
use Rattle.std.specs.Prelude.{Contains}
use Rattle.std.proofs.lemmas.Bool.{cases_eq}
use Rattle.std.proofs.lemmas.List.{get_or_default}
use Rattle.fixpoint_queue.proofs.Waking.{contains-none}
use Rattle.fixpoint_queue.proofs.handing.others.Goals as goal

pub loop-var-init : goal.loop-var-init
loop-var-init c = record {
  from = λ v there. absurd (contains-none v (subst (λ (l : List ℕ). Contains l v) c.new-come.ensures.items there));
  all = λ k low. absurd (omega (arith, low));
}

pub loop-var-preserved : goal.loop-var-preserved
loop-var-preserved c =
    let vars = c.args.vars.now in
    let index = c.loop-var.var-index in
    let own : Contains vars (get_or vars index 0) = (index, c.loop-var-test.true, get_or_default vars index (get_or vars index 0) 0 c.loop-var-test.true) in
    record {
      from = λ v there.
          ⊎_elim (λ (was : Contains c.loop-var.come.items v). c.loop-var.invariant.from v was) (λ (e : v ≡ get_or vars index 0). subst (Contains vars) (sym e) own) (c.in_ok-put_other.ensures.from v there);
      all = λ k low.
          ⊎_elim
          (λ (e : k ≡ index).
          let same : get_or vars k 0 ≡ get_or vars index 0 = ap (λ (j : ℕ). get_or vars j 0) e in
          subst (λ (x : ℕ). Contains c.put_other.new.come.items x ⊎ Contains c.args.known.now x) (sym same) c.in_ok-put_other.ensures.has)
          (λ (n : k ≡ index → ⊥).
          ⊎_elim (λ (was : Contains c.loop-var.come.items (get_or vars k 0)). inl (c.in_ok-put_other.ensures.keeps (get_or vars k 0) was)) (λ (h : Contains c.args.known.now (get_or vars k 0)). inr h)
          (c.loop-var.invariant.all k (omega (arith, low, n))))
          (cases_eq k index);
    }

pub returns-clause-all : goal.returns-clause-all
returns-clause-all c = λ v there.
    let same : get_or c.args.vars.now there.0 0 ≡ v = get_or_default c.args.vars.now there.0 0 v there.1 ∙ there.2 in
    subst (λ (x : ℕ). Contains c.loop-var.come.items x ⊎ Contains c.args.known.now x) same (c.loop-var.invariant.all there.0 (omega (arith, there.1, c.loop-var-test.false)))
