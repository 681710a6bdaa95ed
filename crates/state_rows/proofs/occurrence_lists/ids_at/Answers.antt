use Rattle.std.proofs.Common.{◌≡◌, ℕ, ◌+◌, ◌≤◌, ◌<◌, [], ◌∷◌, length, arith, ⊎_elim}
use Rattle.std.proofs.lemmas.Bool.{cases_lt}
use Rattle.index_ring.specs.Lists.{times, times_in_all}
use Rattle.index_ring.proofs.Times.{total_length-le}
use Rattle.core_occurrences.specs.Lists.{OccurrenceLists, IsOccurrences, cores_at}
use Rattle.core_occurrences.proofs.Occurring.{contains-from_times}
use Rattle.state_rows.proofs.occurrence_lists.ids_at.Goals as goal

-- no more ids than places stand at a variable
few : (occurs : OccurrenceLists) → IsOccurrences occurs → (v : ℕ) → length (cores_at occurs v) ≤ occurs.ids + 1
few occurs is v = omega (arith, total_length-le (occurs.ids + 1) (cores_at occurs v ∷ []) (λ id. omega (arith, is.once v id)) none)
  where
    none : (id : ℕ) → occurs.ids + 1 ≤ id → times_in_all id (cores_at occurs v ∷ []) ≡ 0
    none id past =
        ⊎_elim (λ (h : times id (cores_at occurs v) < 1). omega (arith, h))
        (λ (h : 1 ≤ times id (cores_at occurs v)). absurd (omega (arith, (is.inside v id (contains-from_times (cores_at occurs v) id h)).1, past))) (cases_lt (times id (cores_at occurs v)) 1)

pub ids_at-requires-clause-room : goal.ids_at-requires-clause-room
ids_at-requires-clause-room c = omega (arith, few c.args.occurrences.now c.ids.ensures.occurrences c.args.var, c.ids.ensures.count, c.in_ok-ids.ensures.exact)
