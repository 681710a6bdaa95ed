-- The pending cores of a state come to their variables and into the queue.
use Rattle.std.proofs.Common.{◌≡◌, ℕ, zero, suc, ◌+◌, ◌≤◌, ◌<◌, List, [], ◌∷◌, ◌++◌, length, get_or, take, refl, sym, ap, ◌∙◌, subst, arith, ⊎_elim, Option, Some, None}
use Rattle.std.specs.Prelude.{Contains}
use Rattle.std.proofs.lemmas.Option.{none-some}
use Rattle.std.proofs.lemmas.Bool.{cases_eq}
use Rattle.std.proofs.lemmas.List.{take_more, append-nil}
use Rattle.std.specs.List.{All}
use Rattle.core_forms.specs.declared.form.Core.{Core}
use Rattle.index_ring.specs.Lists.{times}
use Rattle.core_occurrences.specs.Lists.{OccurrenceLists, IsOccurrences, Occurs, added, grown}
use Rattle.step_kernel.specs.Kernel.{Kernel, core_at, IsKernel}
use Rattle.step_kernel.proofs.LeastCompound.{core_at-next}
use Rattle.core_occurrences.proofs.Listed.{length-with_id}
use Rattle.fixpoint_queue.specs.IdQueue.{Ids, IsIds, IsPut}
use Rattle.fixpoint_queue.specs.Standing.{StandBut, AreVars, ArePending}
use Rattle.fixpoint_queue.proofs.Stood.{core_at-elsewhere, core_at-last, core_at-past, stand-none, stand-added, stand-grown}
use Rattle.fixpoint_queue.proofs.Entries.{length-taken, none-behind, all-of, core-bounds}

module _ (cores : List (Option Core)) (k : ℕ) (o : OccurrenceLists) (q : Ids) (inside : k < length cores) (h : ArePending cores k o q) where
  abbrev front : List (Option Core)
  front = take k cores

  long : length front ≡ k
  long = length-taken cores k (omega (arith, inside))

  taken : (x : Option Core) → get_or cores k None ≡ x → take (k + 1) cores ≡ front ++ x ∷ []
  taken x at = take_more cores k None inside ∙ ap (λ (c : Option Core). front ++ c ∷ []) at

  pub pending-none : get_or cores k None ≡ None → ArePending cores (k + 1) o q
  pending-none at = record {
    stand = subst (λ (cs : List (Option Core)). StandBut 0 cs o) (sym (taken None at)) (stand-none 0 front o h.stand);
    occurrences = h.occurrences;
    queued = h.queued;
    come = λ id core is. h.come id core (sym (same id) ∙ is);
    only = λ id there. let p = h.only id there in (p.0, same id ∙ p.1);
  }
    where
      same : (id : ℕ) → core_at (take (k + 1) cores) id ≡ core_at front id
      same id =
          ap (λ (cs : List (Option Core)). core_at cs id) (taken None at)
          ∙ ⊎_elim
          (λ (e : id ≡ length front + 1). by e)
          (λ (n : id ≡ length front + 1 → ⊥). core_at-elsewhere front None id n)
          (cases_eq id (length front + 1))
        where
          past : (cs : List (Option Core)) → core_at cs (length cs + 1) ≡ None
          past cs = core_at-past cs (length cs + 1) (omega arith)

          by : id ≡ length front + 1 → core_at (front ++ None ∷ []) id ≡ core_at front id
          by e = subst (λ (j : ℕ). core_at (front ++ None ∷ []) j ≡ core_at front j) (sym e) (core_at-last front None ∙ sym (past front))

  pub pending-one : (core : Core) (vars : List ℕ) (o' : OccurrenceLists) (q' : Ids) → get_or cores k None ≡ Some core → AreVars vars core
      → ((v : ℕ) → Contains vars v → v ≤ length o.lists)
      → o' ≡ added o (k + 1) vars → IsOccurrences o' → IsPut q (k + 1) q' → IsIds q' → ArePending cores (k + 1) o' q'
  pending-one core vars o' q' at are bound o-is occurrences q-is ids = record {
    stand = subst (λ (cs : List (Option Core)). StandBut 0 cs o') (sym (taken (Some core) at))
        (subst (StandBut 0 (front ++ Some core ∷ [])) (sym o-is) (stand-added 0 front o core vars (k + 1) (omega (arith, long)) are bound h.stand));
    occurrences = occurrences;
    queued = ids;
    come = λ id c is.
        ⊎_elim
        (λ (e : id ≡ length front + 1). subst (λ (j : ℕ). 1 ≤ times j q'.queued) (omega (arith, e, long)) q-is.has)
        (λ (n : id ≡ length front + 1 → ⊥). q-is.stays id (h.come id c (sym (core_at-elsewhere front (Some core) id n) ∙ sym (at-taken id) ∙ is)))
        (cases_eq id (length front + 1));
    only = λ id there.
        ⊎_elim
        (λ (e : id ≡ length front + 1). (core, at-taken id ∙ ap (core_at (front ++ Some core ∷ [])) e ∙ core_at-last front (Some core)))
        (λ (n : id ≡ length front + 1 → ⊥).
        ⊎_elim
        (λ (was : 1 ≤ times id q.queued). let p = h.only id was in (p.0, at-taken id ∙ core_at-elsewhere front (Some core) id n ∙ p.1))
        (λ (e : id ≡ k + 1). absurd (n (omega (arith, e, long))))
        (q-is.only id there))
        (cases_eq id (length front + 1));
  }
    where
      at-taken : (id : ℕ) → core_at (take (k + 1) cores) id ≡ core_at (front ++ Some core ∷ []) id
      at-taken id = ap (λ (cs : List (Option Core)). core_at cs id) (taken (Some core) at)

  pub pending-grown : (o' : OccurrenceLists) (n : ℕ) → o' ≡ grown o 0 0 n → IsOccurrences o' → ArePending cores k o' q
  pending-grown o' n o-is occurrences = record {
    stand = subst (StandBut 0 front) (sym o-is) (stand-grown 0 front o 0 0 n h.stand);
    occurrences = occurrences;
    queued = h.queued;
    come = h.come;
    only = h.only;
  }

  pub fresh : (o' : OccurrenceLists) → ArePending cores k o' q → (v : ℕ) → ¬ Occurs o' v (k + 1)
  fresh o' h' = none-behind 0 front o' (k + 1) (omega (arith, long)) (λ e. omega (arith, e)) h'.stand

no-core : (id : ℕ) → core_at [] id ≡ None
no-core zero = refl
no-core (suc id) = core_at-past [] (suc id) (omega arith)

-- nothing stands at first
pub pending-start : (cores : List (Option Core)) (o : OccurrenceLists) (q : Ids) → ((v id : ℕ) → Occurs o v id → ⊥) → IsOccurrences o → q.queued ≡ [] → IsIds q → ArePending cores 0 o q
pending-start cores o q none occurrences empty ids = record {
  stand = λ v id low apart. ((λ there. absurd (none v id there)), (λ has. absurd (none-some has.0 (sym (no-core id) ∙ has.1))));
  occurrences = occurrences;
  queued = ids;
  come = λ id core is. absurd (none-some core (sym (no-core id) ∙ is));
  only = λ id there. absurd (nothing id (subst (λ (l : List ℕ). 1 ≤ times id l) empty there));
}
  where
    nothing : (id : ℕ) → 1 ≤ times id [] → ⊥
    nothing id le = omega (arith, le)

-- a core that comes to its variables, for which room was made
pub record Entry (k : Kernel) (before : ℕ) (o o1 : OccurrenceLists) (q : Ids) (core : Core) (vars : List ℕ) : Type 0 where
  pub kernel : IsKernel k
  pub inside : before < length k.cores
  pub pending : ArePending k.cores before o q
  pub at : core_at k.cores (before + 1) ≡ Some core
  pub are : AreVars vars core
  pub wide : length k.view ≤ length o.lists
  pub grown-is : o1 ≡ grown o 0 0 (length vars)
  pub occurrences : IsOccurrences o1

module _ (k : Kernel) (before : ℕ) (o o1 : OccurrenceLists) (q : Ids) (core : Core) (vars : List ℕ) (e : Entry k before o o1 q core vars) where
  pub entry-lists : length o1.lists ≡ length o.lists
  entry-lists = ap (λ (l : OccurrenceLists). length l.lists) e.grown-is ∙ ap length (append-nil o.lists)

  pub entry-range : (v : ℕ) → Contains vars v → (1 ≤ v) × (v ≤ length o1.lists)
  entry-range v there =
      let b = core-bounds k e.kernel (before + 1) core e.at v ((e.are.exact v).0 there) in
      (b.0, omega (arith, b.1, e.wide, entry-lists))

  pub entry-all : All (λ (v : ℕ). (1 ≤ v) × (v ≤ length o1.lists)) vars
  entry-all = all-of (λ (v : ℕ). (1 ≤ v) × (v ≤ length o1.lists)) vars entry-range

  entry-grown : ArePending k.cores before o1 q
  entry-grown = pending-grown k.cores before o q e.inside e.pending o1 (length vars) e.grown-is e.occurrences

  pub entry-fresh : (v : ℕ) → ¬ Occurs o1 v (before + 1)
  entry-fresh = fresh k.cores before o q e.inside e.pending o1 entry-grown

  pub entry-done : (o2 : OccurrenceLists) (q2 : Ids) → o2 ≡ added o1 (before + 1) vars → IsOccurrences o2 → IsPut q (before + 1) q2 → IsIds q2 → ArePending k.cores (before + 1) o2 q2
  entry-done o2 q2 =
      pending-one k.cores before o1 q e.inside entry-grown core vars o2 q2 (sym (core_at-next k.cores before) ∙ e.at) e.are (λ v there. (entry-range v there).1)

  pub entry-width : (o2 : OccurrenceLists) → o2 ≡ added o1 (before + 1) vars → length o2.lists ≡ length o.lists
  entry-width o2 is = ap (λ (l : OccurrenceLists). length l.lists) is ∙ length-with_id (before + 1) vars 1 o1.lists ∙ entry-lists
