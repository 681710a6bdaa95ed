-- A pending core goes, and others may come behind all.
use Rattle.std.proofs.Common.{◌≡◌, ◌⊎◌, inl, ℕ, zero, suc, ◌-◌, ◌≤◌, ◌<◌, ◌==◌, Bool, true, false, List, [], ◌∷◌, length, map, get_or, set, refl, sym, ap, ◌∙◌, subst, arith, ⊎_elim, Option, Some, None}
use Rattle.std.specs.Prelude.{option_map, if◌then◌else◌}
use Rattle.std.proofs.lemmas.Option.{none-some}
use Rattle.std.proofs.lemmas.Bool.{cases_eq, cases_lt, cond-false, ne_eqb}
use Rattle.std.proofs.lemmas.Bool.Decides.{nat_tests}
use Rattle.std.proofs.lemmas.List.{length-set, get_or-set_other}
use Rattle.order_ints.specs.declared.atom.Atom.{Atom}
use Rattle.core_forms.specs.declared.equation.Equation.{Equation}
use Rattle.core_forms.specs.declared.form.Core.{Core}
use Rattle.core_forms.specs.Trimmed.{trimmed_core}
use Rattle.index_ring.specs.Lists.{times, without}
use Rattle.index_ring.proofs.Times.{times-without}
use Rattle.core_occurrences.specs.Lists.{OccurrenceLists, IsOccurrences, removed}
use Rattle.step_kernel.specs.Kernel.{Kernel, core_at, trimmed_at, IsKernel}
use Rattle.step_kernel.specs.Least.{is_compound_if}
use Rattle.step_kernel.proofs.Splits.{there-bounds}
use Rattle.fixpoint_queue.specs.IdQueue.{Ids, IsIds}
use Rattle.fixpoint_queue.specs.Listed.{IsListed}
use Rattle.fixpoint_queue.specs.Marks.{mark_of}
use Rattle.fixpoint_queue.specs.Waits.{IsSaturation, Waits, AreMarked}
use Rattle.step_kernel.specs.Steps.{without as cleared}
use Rattle.fixpoint_queue.specs.Standing.{Stand}
use Rattle.fixpoint_queue.proofs.Stood.{core_at-past, core_at-gone, core_at-without, stand-removed}

-- the cores but one stand as they did
pub record Goes (k new : Kernel) (gone : ℕ) : Type 0 where
  pub kernel : IsKernel new
  pub longer : length k.cores ≤ length new.cores
  pub empty : core_at new.cores gone ≡ None
  pub at : (id : ℕ) → id ≤ length k.cores → (id ≡ gone → ⊥) → core_at new.cores id ≡ core_at k.cores id
  pub trimmed : (id : ℕ) → id ≤ length k.cores → (id ≡ gone → ⊥) → trimmed_at new id ≡ trimmed_at k id

-- the queue loses that one, and has those that come
pub record Queues (k new : Kernel) (gone : ℕ) (old queue : Ids) : Type 0 where
  pub ids : IsIds queue
  pub places : length new.cores < queue.places
  pub stays : (id : ℕ) → (id ≡ gone → ⊥) → 1 ≤ times id old.queued → 1 ≤ times id queue.queued
  pub come : (id : ℕ) (core : Core) → length k.cores < id → core_at new.cores id ≡ Some core → 1 ≤ times id queue.queued
  pub only : (id : ℕ) → 1 ≤ times id queue.queued → ((id ≡ gone → ⊥) × (1 ≤ times id old.queued)) ⊎ ((core : Core) × (core_at new.cores id ≡ Some core))

-- the marks lose it
pub record Marked (k new : Kernel) (gone : ℕ) (old marks : List Bool) : Type 0 where
  pub places : length new.cores ≤ length marks
  pub empty : mark_of marks gone ≡ false
  pub at : (id : ℕ) → (id ≡ gone → ⊥) → mark_of marks id ≡ mark_of old id

module _ (told : Core → Equation → Type 0) (k new : Kernel) (gone : ℕ) (occurs next : OccurrenceLists) (old queue : Ids) (was marks : List Bool)
    (saturation : IsSaturation told k occurs old was) (goes : Goes k new gone) (listed : IsListed new next) (queues : Queues k new gone old queue) (marked : Marked k new gone was marks)
  where
    inside : (id : ℕ) → 1 ≤ times id old.queued → id ≤ length k.cores
    inside id there = let p = saturation.pending id there in (there-bounds k.cores id p.0 p.1).1

    not-old : (id : ℕ) → (id ≡ gone → ⊥) → times id queue.queued ≡ 0 → times id old.queued ≡ 0
    not-old id other none =
        ⊎_elim (λ (h : times id old.queued < 1). omega (arith, h)) (λ (h : 1 ≤ times id old.queued). absurd (omega (arith, none, queues.stays id other h))) (cases_lt (times id old.queued) 1)

    -- an id behind the cores that were there and not in the queue is no core's
    none-there : (id : ℕ) → length k.cores < id → times id queue.queued ≡ 0 → core_at new.cores id ≡ None
    none-there id past none = by (core_at new.cores id) refl
      where
        by : (o : Option Core) → core_at new.cores id ≡ o → core_at new.cores id ≡ None
        by None is = is
        by (Some core) is = absurd (omega (arith, none, queues.come id core past is))

    not-queued : (id : ℕ) → length k.cores < id → times id old.queued ≡ 0
    not-queued id past =
        ⊎_elim (λ (h : times id old.queued < 1). omega (arith, h)) (λ (h : 1 ≤ times id old.queued). absurd (omega (arith, past, inside id h))) (cases_lt (times id old.queued) 1)

    no-trimmed : (kk : Kernel) (id : ℕ) → core_at kk.cores id ≡ None → trimmed_at kk id ≡ None
    no-trimmed kk id none = ap (option_map (trimmed_core kk.view)) none

    waits-new : Waits told new queue.queued
    waits-new id none core is =
        ⊎_elim
        (λ (e : id ≡ gone). absurd (none-some core (sym (no-trimmed new id (ap (core_at new.cores) e ∙ goes.empty)) ∙ is)))
        (λ (other : id ≡ gone → ⊥).
        ⊎_elim
        (λ (past : length k.cores < id). absurd (none-some core (sym (no-trimmed new id (none-there id past none)) ∙ is)))
        (λ (within : id ≤ length k.cores). saturation.waits id (not-old id other none) core (sym (goes.trimmed id within other) ∙ is))
        (cases_lt (length k.cores) id))
        (cases_eq id gone)

    marks-past : (id : ℕ) → length k.cores < id → mark_of was id ≡ false
    marks-past id past = saturation.marked id (not-queued id past) ∙ ap is_compound_if (no-trimmed k id (core_at-past k.cores id past))

    marked-new : AreMarked new queue.queued marks
    marked-new id none =
        ⊎_elim
        (λ (e : id ≡ gone). ap (mark_of marks) e ∙ marked.empty ∙ sym (ap is_compound_if (no-trimmed new id (ap (core_at new.cores) e ∙ goes.empty))))
        (λ (other : id ≡ gone → ⊥).
        marked.at id other
        ∙ ⊎_elim
        (λ (past : length k.cores < id). marks-past id past ∙ sym (ap is_compound_if (no-trimmed new id (none-there id past none))))
        (λ (within : id ≤ length k.cores). saturation.marked id (not-old id other none) ∙ ap is_compound_if (sym (goes.trimmed id within other)))
        (cases_lt (length k.cores) id))
        (cases_eq id gone)

    pending-new : (id : ℕ) → 1 ≤ times id queue.queued → (core : Core) × (core_at new.cores id ≡ Some core)
    pending-new id there =
        ⊎_elim
        (λ (h : (id ≡ gone → ⊥) × (1 ≤ times id old.queued)). let p = saturation.pending id h.1 in (p.0, goes.at id (inside id h.1) h.0 ∙ p.1))
        (λ (h : (core : Core) × (core_at new.cores id ≡ Some core)). h)
        (queues.only id there)

    pub saturation-next : IsSaturation told new next queue marks
    saturation-next = record {
      kernel = goes.kernel;
      listed = listed;
      places = queues.places;
      queued = queues.ids;
      pending = pending-new;
      waits = waits-new;
      mark_places = marked.places;
      marked = marked-new;
    }

-- the mark of an id that is set, and of others
mark-other : (marks : List Bool) (gone id : ℕ) (m : Bool) → 1 ≤ gone → (id ≡ gone → ⊥) → mark_of (set marks (gone - 1) m) id ≡ mark_of marks id
mark-other marks gone id m low n = by (id == 0) refl
  where
    by : (b : Bool) → (id == 0) ≡ b → (if b then false else get_or (set marks (gone - 1) m) (id - 1) false) ≡ (if b then false else get_or marks (id - 1) false)
    by true z = refl
    by false z =
        let first : 1 ≤ id = grind (arith, nat_tests, z) in
        get_or-set_other marks (gone - 1) (id - 1) m false (λ q. n (omega (arith, q, low, first)))

no-mark : (marks : List Bool) (i : ℕ) → get_or (set marks i false) i false ≡ false
no-mark [] i = refl
no-mark (m ∷ marks) zero = refl
no-mark (m ∷ marks) (suc i) = no-mark marks i

mark-own : (marks : List Bool) (gone : ℕ) → mark_of (set marks (gone - 1) false) gone ≡ false
mark-own marks gone = by (gone == 0)
  where
    by : (b : Bool) → (if b then false else get_or (set marks (gone - 1) false) (gone - 1) false) ≡ false
    by true = refl
    by false = no-mark marks (gone - 1)

-- the marks after one is taken away, and others may have come
pub marked-gone : (k new : Kernel) (gone : ℕ) (old wide marks : List Bool) → 1 ≤ gone → ((id : ℕ) → mark_of wide id ≡ mark_of old id) → marks ≡ set wide (gone - 1) false → length new.cores ≤ length wide → Marked k new gone old marks
marked-gone k new gone old wide marks low same is places = record {
  places = omega (arith, places, ap length is, length-set wide (gone - 1) false);
  empty = ap (λ (l : List Bool). mark_of l gone) is ∙ mark-own wide gone;
  at = λ id other. ap (λ (l : List Bool). mark_of l id) is ∙ mark-other wide gone id false low other ∙ same id;
}

-- the queue without one
pub queues-gone : (k new : Kernel) (gone : ℕ) (old queue : Ids) → queue.queued ≡ without gone old.queued → queue.places ≡ old.places → IsIds queue → length k.cores ≡ length new.cores
    → length new.cores < old.places → Queues k new gone old queue
queues-gone k new gone old queue queued places ids same wide = record {
  ids = ids;
  places = omega (arith, places, wide);
  stays = λ id other there. omega (arith, there, left id other);
  come = λ id core past at. absurd (omega (arith, past, same, (there-bounds new.cores id core at).1));
  only = λ id there.
      inl
      (⊎_elim (λ (e : id ≡ gone). absurd (omega (arith, there, own id e))) (λ (other : id ≡ gone → ⊥). (other, omega (arith, there, left id other))) (cases_eq id gone));
}
  where
    left : (id : ℕ) → (id ≡ gone → ⊥) → times id queue.queued ≡ times id old.queued
    left id other = ap (times id) queued ∙ times-without gone id old.queued ∙ cond-false (id == gone) 0 (times id old.queued) (ne_eqb id gone other)

    own : (id : ℕ) → id ≡ gone → times id queue.queued ≡ 0
    own id e =
        let yes : (id == gone) ≡ true = grind (arith, nat_tests, e) in
        ap (times id) queued ∙ times-without gone id old.queued ∙ ap (λ (t : Bool). if t then 0 else times id old.queued) yes

-- a core goes and no other comes
pub goes-encoded : (k new : Kernel) (gone : ℕ) → 1 ≤ gone → IsKernel new → new.view ≡ k.view → new.cores ≡ cleared k.cores gone → Goes k new gone
goes-encoded k new gone low kernel view cores = record {
  kernel = kernel;
  longer = omega (arith, ap length cores, length-set k.cores (gone - 1) None);
  empty = ap (λ (cs : List (Option Core)). core_at cs gone) cores ∙ core_at-gone k.cores gone low;
  at = λ id within other. at id other;
  trimmed = λ id within other. ap (λ (v : List Atom). option_map (trimmed_core v) (core_at new.cores id)) view ∙ ap (option_map (trimmed_core k.view)) (at id other);
}
  where
    at : (id : ℕ) → (id ≡ gone → ⊥) → core_at new.cores id ≡ core_at k.cores id
    at id other = ap (λ (cs : List (Option Core)). core_at cs id) cores ∙ core_at-without k.cores gone id low other

pub mapped : (gone : ℕ) (lists : List (List ℕ)) → length (map (without gone) lists) ≡ length lists
mapped gone [] = refl
mapped gone (l ∷ lists) = ap suc (mapped gone lists)

pub listed-encoded : (k new : Kernel) (gone : ℕ) (occurs next : OccurrenceLists) → 1 ≤ gone → new.view ≡ k.view → new.cores ≡ cleared k.cores gone → next ≡ removed occurs gone → IsOccurrences next → IsListed k occurs → IsListed new next
listed-encoded k new gone occurs next low view cores is occurrences h = record {
  occurrences = occurrences;
  vars = omega (arith, h.vars, ap length view, ap (λ (o : OccurrenceLists). length o.lists) is, mapped gone occurs.lists);
  ids = omega (arith, h.ids, ap length cores, length-set k.cores (gone - 1) None, ap (λ (o : OccurrenceLists). o.ids) is);
  there = subst (λ (o : OccurrenceLists). Stand new.cores o) (sym is)
      (subst (λ (cs : List (Option Core)). Stand cs (removed occurs gone)) (sym cores) (stand-removed k.cores occurs gone low h.there));
}
