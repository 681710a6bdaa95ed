-- How many ids a queue has.
use Rattle.std.proofs.Common.{◌≡◌, ◌⊎◌, ℕ, ◌+◌, ◌≤◌, ◌<◌, Bool, List, length, refl, ap, arith, ⊎_elim, Option, Some, None}
use Rattle.std.specs.Prelude.{if◌then◌else◌}
use Rattle.std.proofs.lemmas.Bool.{cases_lt, lt-ltb}
use Rattle.core_forms.specs.declared.form.Core.{Core}
use Rattle.index_ring.specs.Lists.{times}
use Rattle.step_kernel.specs.Kernel.{core_at, pending}
use Rattle.step_kernel.proofs.Splits.{there-bounds}
use Rattle.fixpoint_queue.proofs.PairLaws.{sum-le, sum-add, length-sum, one_there, pending-sum, one_past, past-sum}

-- each pending core stands in the queue once, and nothing else does
module _ (cores : List (Option Core)) (queued : List ℕ) (exact : (id : ℕ) → times id queued ≡ one_there (core_at cores id)) where
  inside : (id : ℕ) → 1 ≤ times id queued → (1 ≤ id) × (id ≤ length cores)
  inside id there = by (core_at cores id) refl (exact id)
    where
      by : (o : Option Core) → core_at cores id ≡ o → times id queued ≡ one_there o → (1 ≤ id) × (id ≤ length cores)
      by None at e = absurd (omega (arith, there, e))
      by (Some core) at e = there-bounds cores id core at

  -- then it is as long as there are pending cores
  pub queued-pending : length queued ≡ length (pending cores)
  queued-pending =
      let all = length-sum (length cores) queued inside in
      omega (
        arith,
        all,
        pending-sum cores,
        sum-le (length cores) (λ i. times i queued) (λ i. one_there (core_at cores i)) (λ i low high. let e = exact i in omega (arith, e)),
        sum-le (length cores) (λ i. one_there (core_at cores i)) (λ i. times i queued) (λ i low high. let e = exact i in omega (arith, e)),
      )

-- a queue that ids past a limit come into, each once, grows by so many as there are ids past the limit
module _ (limit last : ℕ) (old new : List ℕ) (within : limit ≤ last)
    (were : (id : ℕ) → 1 ≤ times id old → (1 ≤ id) × (id ≤ last)) (are : (id : ℕ) → 1 ≤ times id new → (1 ≤ id) × (id ≤ last))
    (once : (id : ℕ) → times id new ≤ 1) (only : (id : ℕ) → 1 ≤ times id new → (1 ≤ times id old) ⊎ (limit < id))
  where
    fewer : (id : ℕ) → times id new ≤ times id old + one_past limit id
    fewer id =
        ⊎_elim
        (λ (none : times id new < 1). omega (arith, none))
        (λ (there : 1 ≤ times id new).
        ⊎_elim
        (λ (old-there : 1 ≤ times id old). omega (arith, once id, old-there))
        (λ (past : limit < id). omega (arith, once id, ap {B = ℕ} (λ (b : Bool). if b then 1 else 0) (lt-ltb limit id past)))
        (only id there))
        (cases_lt (times id new) 1)

    pub queue-grows : length new + limit ≤ length old + last
    queue-grows =
        omega (
          arith,
          length-sum last new are,
          length-sum last old were,
          sum-le last (λ id. times id new) (λ id. times id old + one_past limit id) (λ id low high. fewer id),
          sum-add last (λ id. times id old) (one_past limit),
          past-sum last limit within,
        )
