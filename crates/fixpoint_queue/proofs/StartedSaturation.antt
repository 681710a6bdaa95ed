-- A state whose pending cores are all queued, as it is at first.
use Rattle.std.proofs.Common.{◌≡◌, inl, ℕ, ◌-◌, ◌≤◌, ◌<◌, ◌==◌, Bool, true, false, List, [], length, get_or, take, replicate, refl, sym, ap, ◌∙◌, subst, arith, ⊎_elim, Option, Some, None}
use Rattle.std.specs.Prelude.{Contains, option_map, if◌then◌else◌}
use Rattle.std.proofs.lemmas.Option.{none-some}
use Rattle.std.proofs.lemmas.Bool.{cases_lt}
use Rattle.std.proofs.lemmas.List.{take_all, append-nil, get_or-replicate, get_or_past, length-replicate}
use Rattle.core_forms.specs.declared.equation.Equation.{Equation}
use Rattle.core_forms.specs.declared.form.Core.{Core}
use Rattle.core_forms.specs.Trimmed.{trimmed_core}
use Rattle.index_ring.specs.Lists.{times}
use Rattle.core_occurrences.specs.Lists.{OccurrenceLists, Occurs, cores_at, no_occurrences, grown}
use Rattle.step_kernel.specs.Kernel.{Kernel, core_at, trimmed_at, IsKernel}
use Rattle.step_kernel.specs.Least.{is_compound_if}
use Rattle.fixpoint_queue.specs.IdQueue.{Ids}
use Rattle.fixpoint_queue.specs.Marks.{mark_of}
use Rattle.fixpoint_queue.specs.Standing.{StandBut, ArePending}
use Rattle.fixpoint_queue.specs.Waits.{IsSaturation, Waits}
use Rattle.fixpoint_queue.proofs.PairLaws.{one_there}
use Rattle.fixpoint_queue.proofs.Stood.{stand-held}

-- no core stands at variables that have just come
all-past : (n i : ℕ) → ◌≡◌ {A = List ℕ} (get_or (replicate n []) i []) []
all-past n i = ⊎_elim (λ (lt : i < n). get_or-replicate n i [] [] lt) (λ (le : n ≤ i). get_or_past (replicate n []) i [] (omega (arith, le, length-replicate {A = List ℕ} n []))) (cases_lt i n)

none-in : (id : ℕ) (xs : List ℕ) → xs ≡ [] → Contains xs id → ⊥
none-in id xs is there = nothing (subst (λ (l : List ℕ). Contains l id) is there)
  where
    nothing : Contains [] id → ⊥
    nothing h = omega (arith, h.1)

pub none-stands : (vars ids : ℕ) (o : OccurrenceLists) → o ≡ grown (no_occurrences vars) 0 ids 0 → (v id : ℕ) → Occurs o v id → ⊥
none-stands vars ids o is v id there =
    none-in id (cores_at o v)
    (ap (λ (l : OccurrenceLists). cores_at l v) is ∙ ap (λ (l : List (List ℕ)). get_or l (v - 1) []) (append-nil (replicate vars [])) ∙ all-past vars (v - 1))
    there

-- marks that have just come are false
falses : (n i : ℕ) → get_or (replicate n false) i false ≡ false
falses n i = ⊎_elim (λ (lt : i < n). get_or-replicate n i false false lt) (λ (le : n ≤ i). get_or_past (replicate n false) i false (omega (arith, le, length-replicate n false))) (cases_lt i n)

no-marks : (n id : ℕ) → mark_of (replicate n false) id ≡ false
no-marks n id = by (id == 0)
  where
    by : (b : Bool) → (if b then false else get_or (replicate n false) (id - 1) false) ≡ false
    by true = refl
    by false = falses n (id - 1)

module _ (told : Core → Equation → Type 0) (k : Kernel) (occurs : OccurrenceLists) (queue : Ids) (h : ArePending k.cores (length k.cores) occurs queue) where
  all : take (length k.cores) k.cores ≡ k.cores
  all = take_all (length k.cores) k.cores (omega arith)

  all-queued : (id : ℕ) (core : Core) → core_at k.cores id ≡ Some core → 1 ≤ times id queue.queued
  all-queued id core at = h.come id core (ap (λ (cs : List (Option Core)). core_at cs id) all ∙ at)

  -- each once, and nothing else
  pub exactly-queued : (id : ℕ) → times id queue.queued ≡ one_there (core_at k.cores id)
  exactly-queued id = by (core_at k.cores id) refl
    where
      by : (o : Option Core) → core_at k.cores id ≡ o → times id queue.queued ≡ one_there o
      by None is =
          ⊎_elim
          (λ (none : times id queue.queued < 1). omega (arith, none))
          (λ (there : 1 ≤ times id queue.queued).
          let p = h.only id there in
          absurd (none-some p.0 (sym is ∙ ap (λ (cs : List (Option Core)). core_at cs id) (sym all) ∙ p.1)))
          (cases_lt (times id queue.queued) 1)
      by (Some core) is = omega (arith, h.queued.once id, all-queued id core is)

  no-core : (id : ℕ) → times id queue.queued ≡ 0 → core_at k.cores id ≡ None
  no-core id none = by (core_at k.cores id) refl
    where
      by : (o : Option Core) → core_at k.cores id ≡ o → core_at k.cores id ≡ None
      by None is = is
      by (Some core) is = absurd (omega (arith, none, all-queued id core is))

  no-trimmed : (id : ℕ) → times id queue.queued ≡ 0 → trimmed_at k id ≡ None
  no-trimmed id none = ap (option_map (trimmed_core k.view)) (no-core id none)

  waiting : Waits told k queue.queued
  waiting id none core is = absurd (none-some core (sym (no-trimmed id none) ∙ is))

  pub saturation-started : (marks : List Bool) (n : ℕ) → marks ≡ replicate n false → n ≡ length k.cores → IsKernel k
      → length k.view ≤ length occurs.lists → length k.cores ≤ occurs.ids → length k.cores < queue.places → IsSaturation told k occurs queue marks
  saturation-started marks n marks-are n-is kernel vars ids places = record {
    kernel = kernel;
    listed = record {
      occurrences = h.occurrences;
      vars = vars;
      ids = ids;
      there = stand-held 0 k.cores occurs h.occurrences (inl refl) (subst (λ (cs : List (Option Core)). StandBut 0 cs occurs) all h.stand);
    };
    places = places;
    queued = h.queued;
    pending = λ id there. let p = h.only id there in (p.0, ap (λ (cs : List (Option Core)). core_at cs id) (sym all) ∙ p.1);
    waits = waiting;
    mark_places = omega (arith, n-is, ap length marks-are, length-replicate n false);
    marked = λ id none. ap (λ (l : List Bool). mark_of l id) marks-are ∙ no-marks n id ∙ sym (ap is_compound_if (no-trimmed id none));
  }
