-- One core after another comes to its variables and into the queue.
use Rattle.std.proofs.Common.{◌≡◌, inl, inr, ℕ, zero, suc, ◌+◌, ◌≤◌, ◌<◌, List, [], ◌∷◌, ◌++◌, length, get_or, take, drop, refl, sym, ap, ◌∙◌, subst, arith, ⊎_elim, Option, Some, None}
use Rattle.std.specs.Prelude.{◌==◌, ◌⊎◌, Contains, if◌then◌else◌}
use Rattle.std.specs.List.{All}
use Rattle.std.proofs.lemmas.Option.{none-some}
use Rattle.std.proofs.lemmas.Bool.{cases_eq, cases_lt, cond-true, cond-false, eq-eqb, ne_eqb}
use Rattle.std.proofs.lemmas.List.{get_or_default, get_or_past, take_more, length-take-le, at_drop_more}
use Rattle.core_forms.specs.declared.form.Core.{Core}
use Rattle.core_forms.specs.Variables.{core_vars}
use Rattle.core_forms.proofs.VariableLaws.{vars_below}
use Rattle.index_ring.specs.Lists.{times}
use Rattle.core_occurrences.specs.Lists.{OccurrenceLists, Occurs, IsOccurrences, added}
use Rattle.core_occurrences.proofs.Listed.{length-with_id}
use Rattle.step_kernel.specs.Kernel.{Kernel, core_at, IsKernel}
use Rattle.step_kernel.proofs.Holes.{below-there}
use Rattle.step_kernel.proofs.Splits.{there-bounds}
use Rattle.fixpoint_queue.specs.IdQueue.{Ids, IsIds, IsPut}
use Rattle.fixpoint_queue.specs.Standing.{StandBut, AreVars, AreAllVars, AreVarsFrom, AreEntered, all_counted}
use Rattle.fixpoint_queue.proofs.Stood.{stand-added, stand-passed, occurs-added}

pub all-vars-put : (lists : List (List ℕ)) (cores : List Core) (vars : List ℕ) (core : Core) → AreAllVars lists cores → AreVars vars core → AreAllVars (lists ++ vars ∷ []) (cores ++ core ∷ [])
all-vars-put [] [] vars core h is = (is, tt)
all-vars-put [] (c ∷ cores) vars core h is = absurd h
all-vars-put (l ∷ lists) [] vars core h is = absurd h
all-vars-put (l ∷ lists) (c ∷ cores) vars core h is = (h.0, all-vars-put lists cores vars core h.1 is)

pub all-of : (P : ℕ → Type 0) (xs : List ℕ) → ((v : ℕ) → Contains xs v → P v) → All P xs
all-of P xs h k d lt = h (get_or xs k d) (k, lt, get_or_default xs k (get_or xs k d) d lt)

-- the variables of a pending core are those of the state
pub core-bounds : (k : Kernel) → IsKernel k → (id : ℕ) (core : Core) → core_at k.cores id ≡ Some core → (v : ℕ) → Contains (core_vars core) v → (1 ≤ v) × (v ≤ length k.view)
core-bounds k is id core at v there =
    let b = vars_below (length k.view + 1) core (below-there k.cores id core at (length k.view + 1) is.below).0 v there in
    (b.0, omega (arith, b.1))

-- an id behind all that stand stands nowhere
none-there : (held : ℕ) (cores : List (Option Core)) (occurs : OccurrenceLists) (id : ℕ) → length cores < id → (id ≡ held → ⊥) → StandBut held cores occurs → (v : ℕ) → 1 ≤ v → ¬ Occurs occurs v id
none-there held cores occurs id past apart stand v low o =
    let has = (stand v id low apart).0 o in
    absurd (omega (arith, past, (there-bounds cores id has.0 has.1).1))

pub none-behind : (held : ℕ) (cores : List (Option Core)) (occurs : OccurrenceLists) (id : ℕ) → length cores < id → (id ≡ held → ⊥) → StandBut held cores occurs → (v : ℕ) → ¬ Occurs occurs v id
none-behind held cores occurs id past apart stand zero o = none-there held cores occurs id past apart stand 1 (omega arith) o
none-behind held cores occurs id past apart stand (suc v) o = none-there held cores occurs id past apart stand (suc v) (omega arith) o

pub some-inside : (cores : List (Option Core)) (i : ℕ) (core : Core) → get_or cores i None ≡ Some core → i < length cores
some-inside cores i core e = ⊎_elim (λ (h : i < length cores). h) (λ (h : length cores ≤ i). absurd (none-some core (sym (get_or_past cores i None h) ∙ e))) (cases_lt i (length cores))

pub length-taken : (cores : List (Option Core)) (n : ℕ) → n ≤ length cores → length (take n cores) ≡ n
length-taken cores n le = length-take-le n cores le

pub entered-none : (held : ℕ) (cores : List (Option Core)) (before : ℕ) (occurs : OccurrenceLists) (queue : Ids) → StandBut held (take before cores) occurs → IsOccurrences occurs → IsIds queue → AreEntered held cores before 0 occurs occurs queue queue
entered-none held cores before occurs queue stand is ids =
    let e : before + 0 ≡ before = omega arith in
    record {
      stand = subst (λ (n : ℕ). StandBut held (take n cores) occurs) (sym e) stand;
      keeps = λ v id low o. o;
      occurrences = is;
      lists = refl;
      ids = refl;
      places = refl;
      queued = ids;
      stays = λ id h. h;
      come = λ id low high. absurd (omega (arith, low, high));
      only = λ id h. inl h;
    }

module _ (held : ℕ) (cores : List (Option Core)) (before i : ℕ) (first o new_occurs : OccurrenceLists) (start q new_queue : Ids) (vars : List ℕ) (core : Core)
    (at : get_or cores (before + i) None ≡ Some core) (are : (before + i + 1 ≡ held → ⊥) → AreVars vars core) (bound : (before + i + 1 ≡ held → ⊥) → (v : ℕ) → Contains vars v → v ≤ length o.lists)
    (h : AreEntered held cores before i first o start q) (occurs-is : new_occurs ≡ (if before + i + 1 == held then o else added o (before + i + 1) vars)) (occurrences : IsOccurrences new_occurs)
    (queue-is : IsPut q (before + i + 1) new_queue) (ids : IsIds new_queue)
  where
    inside : before + i < length cores
    inside = some-inside cores (before + i) core at

    taken : take (before + (i + 1)) cores ≡ take (before + i) cores ++ Some core ∷ []
    taken =
        let e : before + (i + 1) ≡ before + i + 1 = omega arith in
        ap (λ (n : ℕ). take n cores) e ∙ take_more cores (before + i) None inside ∙ ap (λ (c : Option Core). take (before + i) cores ++ c ∷ []) at

    long : before + i + 1 ≡ length (take (before + i) cores) + 1
    long = omega (arith, length-taken cores (before + i) (omega (arith, inside)))

    -- the lists are as they were, or the core was added
    cases : ((before + i + 1 ≡ held) × (new_occurs ≡ o)) ⊎ ((before + i + 1 ≡ held → ⊥) × (new_occurs ≡ added o (before + i + 1) vars))
    cases =
        ⊎_elim (λ (e : before + i + 1 ≡ held). inl (e, occurs-is ∙ cond-true (before + i + 1 == held) _ _ (eq-eqb (before + i + 1) held e)))
        (λ (n : before + i + 1 ≡ held → ⊥). inr (n, occurs-is ∙ cond-false (before + i + 1 == held) _ _ (ne_eqb (before + i + 1) held n)))
        (cases_eq (before + i + 1) held)

    stand-one : StandBut held (take (before + i) cores ++ Some core ∷ []) new_occurs
    stand-one =
        ⊎_elim
        (λ (c : (before + i + 1 ≡ held) × (new_occurs ≡ o)). subst (StandBut held (take (before + i) cores ++ Some core ∷ [])) (sym c.1) (stand-passed held (take (before + i) cores) o core (sym c.0 ∙ long) h.stand))
        (λ (c : (before + i + 1 ≡ held → ⊥) × (new_occurs ≡ added o (before + i + 1) vars)).
        subst (StandBut held (take (before + i) cores ++ Some core ∷ [])) (sym c.1) (stand-added held (take (before + i) cores) o core vars (before + i + 1) long (are c.0) (bound c.0) h.stand))
        cases

    keeps-one : (v id : ℕ) → 1 ≤ v → Occurs o v id → Occurs new_occurs v id
    keeps-one v id low was =
        ⊎_elim
        (λ (c : (before + i + 1 ≡ held) × (new_occurs ≡ o)). subst (λ (l : OccurrenceLists). Occurs l v id) (sym c.1) was)
        (λ (c : (before + i + 1 ≡ held → ⊥) × (new_occurs ≡ added o (before + i + 1) vars)).
        subst (λ (l : OccurrenceLists). Occurs l v id) (sym c.1) ((occurs-added o (before + i + 1) vars (bound c.0) v id low).1 (inl was)))
        cases

    lists-one : length new_occurs.lists ≡ length o.lists
    lists-one =
        ⊎_elim (λ (c : (before + i + 1 ≡ held) × (new_occurs ≡ o)). ap (λ (l : OccurrenceLists). length l.lists) c.1)
        (λ (c : (before + i + 1 ≡ held → ⊥) × (new_occurs ≡ added o (before + i + 1) vars)). ap (λ (l : OccurrenceLists). length l.lists) c.1 ∙ length-with_id (before + i + 1) vars 1 o.lists) cases

    ids-one : new_occurs.ids ≡ o.ids
    ids-one =
        ⊎_elim (λ (c : (before + i + 1 ≡ held) × (new_occurs ≡ o)). ap (λ (l : OccurrenceLists). l.ids) c.1) (λ (c : (before + i + 1 ≡ held → ⊥) × (new_occurs ≡ added o (before + i + 1) vars)). ap (λ (l : OccurrenceLists). l.ids) c.1) cases

    -- room is used for the variables at most
    pub room-one : o.room ≤ new_occurs.room + length vars
    room-one =
        ⊎_elim (λ (c : (before + i + 1 ≡ held) × (new_occurs ≡ o)). omega (arith, ap (λ (l : OccurrenceLists). l.room) c.1)) (λ (c : (before + i + 1 ≡ held → ⊥) × (new_occurs ≡ added o (before + i + 1) vars)). omega (arith, ap (λ (l : OccurrenceLists). l.room) c.1)) cases

    pub entered-one : AreEntered held cores before (i + 1) first new_occurs start new_queue
    entered-one = record {
      stand = subst (λ (cs : List (Option Core)). StandBut held cs new_occurs) (sym taken) stand-one;
      keeps = λ v id low was. keeps-one v id low (h.keeps v id low was);
      occurrences = occurrences;
      lists = lists-one ∙ h.lists;
      ids = ids-one ∙ h.ids;
      places = queue-is.places ∙ h.places;
      queued = ids;
      stays = λ id there. queue-is.stays id (h.stays id there);
      come = λ id low high.
          ⊎_elim (λ (e : id ≡ before + i + 1). subst (λ (j : ℕ). 1 ≤ times j new_queue.queued) (sym e) queue-is.has)
          (λ (n : id ≡ before + i + 1 → ⊥).
          queue-is.stays id
          (h.come id low (⊎_elim (λ (lt : id < before + i + 1). omega (arith, lt)) (λ (le : before + i + 1 ≤ id). absurd (n (omega (arith, le, high)))) (cases_lt id (before + i + 1)))))
          (cases_eq id (before + i + 1));
      only = λ id there.
          ⊎_elim
          (λ (was : 1 ≤ times id q.queued).
          ⊎_elim (λ (old : 1 ≤ times id start.queued). inl old) (λ (b : (before < id) × (id ≤ before + i)). inr (b.0, omega (arith, b.1))) (h.only id was))
          (λ (e : id ≡ before + i + 1). inr (omega (arith, e), omega (arith, e)))
          (queue-is.only id there);
    }

-- the listed variables at a place, and the core whose they are
pub listed-at : (cores : List (Option Core)) (before held : ℕ) (lists : List (List ℕ)) → AreVarsFrom cores before held lists → (i : ℕ) → i < length lists → (item vars : List ℕ) → item ≡ get_or lists i item → vars ≡ item →
    (core : Core) × (get_or cores (before + i) None ≡ Some core) × ((before + i + 1 ≡ held → ⊥) → AreVars vars core)
listed-at cores before held lists are i lt item vars is same =
    let at = are i lt in
    (at.0, at.1, λ apart. subst (λ (l : List ℕ). AreVars l at.0) (get_or_default lists i [] item lt ∙ sym is ∙ sym same) (at.2 apart))

pub counted-at : (lists : List (List ℕ)) (i : ℕ) (item vars : List ℕ) → i < length lists → item ≡ get_or lists i item → vars ≡ item → all_counted (drop i lists) ≡ length vars + all_counted (drop (i + 1) lists)
counted-at lists i item vars lt is same =
    ap all_counted (at_drop_more (λ ys. ys) lists i item lt ∙ ap (λ (x : List ℕ). x ∷ drop (i + 1) lists) (sym is ∙ sym same))
