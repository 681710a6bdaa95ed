use Rattle.std.proofs.Common.{◌≡◌, ℕ, ◌≤◌, true, inl, inr, sym, subst, ⊎_elim, rules}
use Rattle.index_ring.specs.Lists.{times}
use Rattle.fixpoint_queue.specs.Listed.{HasVar}
use Rattle.fixpoint_queue.proofs.wake.put_having.Goals as goal

pub returns-then-is_at-clause-stays : goal.returns-then-is_at-clause-stays
returns-then-is_at-clause-stays c = c.put.ensures.put.stays

pub returns-then-is_at-clause-woken : goal.returns-then-is_at-clause-woken
returns-then-is_at-clause-woken c = λ has. c.put.ensures.put.has

pub returns-then-is_at-clause-only : goal.returns-then-is_at-clause-only
returns-then-is_at-clause-only c = λ i h.
    let here : c.is_at.result ≡ true = search rules in
    ⊎_elim (λ (was : 1 ≤ times i c.args.ids.now.queued). inl was) (λ (e : i ≡ c.args.id). inr (subst (λ (j : ℕ). HasVar c.args.state.now j c.args.var) (sym e) (c.is_at.ensures.0 here)))
    (c.put.ensures.put.only i h)
