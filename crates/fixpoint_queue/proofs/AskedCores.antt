-- What one query makes of the queue: it is as it must be, and there is less to do.
use Rattle.std.proofs.Common.{◌≡◌, ℕ, ◌+◌, ◌*◌, ◌≤◌, ◌<◌, ◌-◌, Bool, true, false, List, length, get_or, set, inl, inr, refl, sym, ap, ◌∙◌, subst, arith, ◌⊎◌, ⊎_elim, Option, Some, None}
use Rattle.std.specs.Prelude.{◌==◌, option_map, is_some, MatchOption, if◌then◌else◌}
use Rattle.std.proofs.lemmas.Bool.{false≢true, cases_lt, cases_eq, cond-false, ne_eqb}
use Rattle.std.proofs.lemmas.Option.{none-some}
use Rattle.std.proofs.lemmas.Bool.Decides.{nat_tests}
use Rattle.std.proofs.lemmas.List.{get_or-set_same, get_or-set_other, length-set}
use Rattle.std.proofs.Math.Nat.{suc-mul}
use Rattle.std.proofs.Math.Numerals.{add-one}
use Rattle.order_ints.specs.declared.atom.Atom.{Atom}
use Rattle.order_ints.specs.Truth.{not_atom}
use Rattle.order_ints.specs.View.{resolve}
use Rattle.order_ints.specs.Label.{IsLabel}
use Rattle.order_ints.specs.Same.{same_atom}
use Rattle.order_ints.specs.Equality.{same_atom-refl}
use Rattle.order_ints.proofs.Labels.{resolve-label, AtomBelow-label}
use Rattle.core_forms.specs.declared.equation.Equation.{Equation}
use Rattle.core_forms.specs.declared.form.Core.{Core}
use Rattle.equation_store.specs.declared.relabel.Change.{Change}
use Rattle.equation_store.specs.Class.{IsMember, number_own}
use Rattle.equation_store.specs.Merge.{change_of, loser_of, merged}
use Rattle.equation_store.proofs.Change.{IsChange, change_of-is}
use Rattle.equation_store.proofs.Changes.{merge_labelled}
use Rattle.equation_store.proofs.Owners.{merge_takes_one}
use Rattle.index_ring.specs.Lists.{times, without}
use Rattle.index_ring.proofs.Times.{length-without, times-without}
use Rattle.step_kernel.specs.Kernel.{Kernel, core_at, trimmed_at}
use Rattle.core_parts.specs.Parts.{is_compound_of}
use Rattle.step_kernel.specs.Least.{is_compound_if}
use Rattle.core_rules.specs.Instances.{is_instance_at}
use Rattle.step_kernel.specs.Steps.{equated}
use Rattle.core_rules.proofs.InstanceLaws.{instance-different}
use Rattle.step_kernel.proofs.There.{is-there, there-labels, there-equated}
use Rattle.step_kernel.proofs.Splits.{at-bounds}
use Rattle.fixpoint_queue.specs.IdQueue.{Ids, IsIds}
use Rattle.core_occurrences.specs.Lists.{OccurrenceLists}
use Rattle.fixpoint_queue.specs.Listed.{HasVar, IsListed}
use Rattle.fixpoint_queue.specs.Marks.{mark_of}
use Rattle.fixpoint_queue.specs.Quiet.{IsQuiet}
use Rattle.fixpoint_queue.specs.Waits.{IsSaturation, IsWoken, IsWokenFor, left_to_do}
use Rattle.fixpoint_queue.proofs.Ids.{ids-few}
use Rattle.fixpoint_queue.proofs.Quieter.{quiet-kept, trimmed-kept}

-- cores stand at their variables as before
listed-equated : (k : Kernel) (e : Equation) (occurs : OccurrenceLists) → length (merged k.view e.a e.b) ≡ length k.view → IsListed k occurs → IsListed (equated k e) occurs
listed-equated k e occurs same is = by (same_atom e.a (not_atom e.b))
  where
    by : (b : Bool) → IsListed (if b then record k { bottom = true } else record k { view = merged k.view e.a e.b }) occurs
    by true = record { occurrences = is.occurrences; vars = is.vars; ids = is.ids; there = is.there }
    by false = record { occurrences = is.occurrences; vars = omega (arith, is.vars, same); ids = is.ids; there = is.there }

-- an equation leaves the cores as they were made
pub same-cores : (k : Kernel) (e : Equation) → (equated k e).cores ≡ k.cores
same-cores k e = by (same_atom e.a (not_atom e.b))
  where
    by : (b : Bool) → (if b then record k { bottom = true } else record k { view = merged k.view e.a e.b }).cores ≡ k.cores
    by true = refl
    by false = refl

module _ (k : Kernel) (e : Equation) (old new : Ids) (ids : IsIds old) where
  pub woken-stays : (o : Option ℕ) → MatchOption o (new ≡ old) (λ x. IsWoken k x old new) → (id : ℕ) → 1 ≤ times id old.queued → 1 ≤ times id new.queued
  woken-stays None w id h = subst (λ (q : Ids). 1 ≤ times id q.queued) (sym w) h
  woken-stays (Some x) w id h = w.stays id h

  woken-ids : (o : Option ℕ) → MatchOption o (new ≡ old) (λ x. IsWoken k x old new) → IsIds new
  woken-ids None w = subst IsIds (sym w) ids
  woken-ids (Some x) w = w.ids

  woken-places : (o : Option ℕ) → MatchOption o (new ≡ old) (λ x. IsWoken k x old new) → new.places ≡ old.places
  woken-places None w = ap (λ (q : Ids). q.places) w
  woken-places (Some x) w = w.places

  woken-only : (o : Option ℕ) → MatchOption o (new ≡ old) (λ x. IsWoken k x old new) → (id : ℕ) → 1 ≤ times id new.queued → (1 ≤ times id old.queued) ⊎ ((v : ℕ) × HasVar k id v)
  woken-only None w id h = inl (subst (λ (q : Ids). 1 ≤ times id q.queued) w h)
  woken-only (Some x) w id h = ⊎_elim (λ (there : 1 ≤ times id old.queued). inl there) (λ (at : (v : ℕ) × IsMember k.view x v × HasVar k id v). inr (at.0, at.2)) (w.only id h)

  woken-has : (o : Option ℕ) → MatchOption o (new ≡ old) (λ x. IsWoken k x old new) → (x v id : ℕ) → o ≡ Some x → IsMember k.view x v → HasVar k id v → 1 ≤ times id new.queued
  woken-has None w x v id e member there = absurd (none-some x e)
  woken-has (Some y) w x v id e member there = w.woken v id (subst (λ (z : ℕ). IsMember k.view z v) (sym (some-of y x e)) member) there
    where
      some-of : (y x : ℕ) → ◌≡◌ {A = Option ℕ} (Some y) (Some x) → y ≡ x
      some-of y x h = cc

-- ---- an equation is taken

module _ (told : Core → Equation → Type 0) (k : Kernel) (occurs : OccurrenceLists) (old new : Ids) (marks : List Bool) (saturation : IsSaturation told k occurs old marks)
    (id : ℕ) (core : Core) (there : trimmed_at k id ≡ Some core) (e : Equation) (instance : is_instance_at core e ≡ true)
    (woken : IsWokenFor k e old new)
  where
    labels : IsLabel k.view e.a × IsLabel k.view e.b
    labels = there-labels k id core saturation.kernel there e instance

    same-length : length (merged k.view e.a e.b) ≡ length k.view
    same-length = (merge_labelled k.view e.a e.b saturation.kernel.labelled (AtomBelow-label k.view e.a labels.0) (AtomBelow-label k.view e.b labels.1)).0

    -- a core that isn't woken waited for nothing before
    not-woken : (i : ℕ) → times i new.queued ≡ 0 → times i old.queued ≡ 0
    not-woken i none =
        ⊎_elim (λ (h : times i old.queued < 1). omega (arith, h)) (λ (h : 1 ≤ times i old.queued). absurd (omega (arith, none, woken-stays k e old new saturation.queued (loser_of k.view e.a e.b) woken i h))) (cases_lt (times i old.queued) 1)

    unwoken : (i : ℕ) → times i new.queued ≡ 0 → (x v : ℕ) → loser_of k.view e.a e.b ≡ Some x → IsMember k.view x v → HasVar k i v → ⊥
    unwoken i none x v loser member stands = absurd (omega (arith, none, woken-has k e old new saturation.queued (loser_of k.view e.a e.b) woken x v i loser member stands))

    pending-new : (i : ℕ) → 1 ≤ times i new.queued → (c : Core) × (core_at (equated k e).cores i ≡ Some c)
    pending-new i h =
        let there : (c : Core) × (core_at k.cores i ≡ Some c) =
        ⊎_elim (λ (was : 1 ≤ times i old.queued). saturation.pending i was)
        (λ (at : (v : ℕ) × HasVar k i v). (at.1.0, at.1.1))
        (woken-only k e old new saturation.queued (loser_of k.view e.a e.b) woken i h) in
        (there.0, ap (λ (cs : List (Option Core)). core_at cs i) (same-cores k e) ∙ there.1)

    pub saturation-equated : IsSaturation told (equated k e) occurs new marks
    saturation-equated = record {
      kernel = there-equated k id core saturation.kernel there e instance;
      listed = listed-equated k e occurs same-length saturation.listed;
      places = omega (arith, saturation.places, ap length (same-cores k e), woken-places k e old new saturation.queued (loser_of k.view e.a e.b) woken);
      queued = woken-ids k e old new saturation.queued (loser_of k.view e.a e.b) woken;
      pending = pending-new;
      waits = λ i none. quiet-kept told k saturation.kernel e labels.0 labels.1 i (unwoken i none) (saturation.waits i (not-woken i none));
      mark_places = omega (arith, saturation.mark_places, ap length (same-cores k e));
      marked = λ i none. saturation.marked i (not-woken i none) ∙ sym (ap is_compound_if (trimmed-kept told k saturation.kernel e labels.0 labels.1 i (unwoken i none)));
    }

    -- a class loses, unless the two atoms are opposite
    pub loses : same_atom e.a (not_atom e.b) ≡ false → is_some (loser_of k.view e.a e.b) ≡ true
    loses h = by (change_of k.view (resolve k.view e.a) (resolve k.view e.b)) changes
      where
        ra : resolve k.view e.a ≡ e.a
        ra = resolve-label k.view e.a labels.0

        rb : resolve k.view e.b ≡ e.b
        rb = resolve-label k.view e.b labels.1

        changes : MatchOption (change_of k.view (resolve k.view e.a) (resolve k.view e.b)) ((e.a ≡ e.b) ⊎ (e.a ≡ not_atom e.b)) (IsChange k.view e.a e.b)
        changes =
            subst (λ (a : Atom). MatchOption (change_of k.view a (resolve k.view e.b)) ((e.a ≡ e.b) ⊎ (e.a ≡ not_atom e.b)) (IsChange k.view e.a e.b)) (sym ra)
            (subst (λ (b : Atom). MatchOption (change_of k.view e.a b) ((e.a ≡ e.b) ⊎ (e.a ≡ not_atom e.b)) (IsChange k.view e.a e.b)) (sym rb)
            (change_of-is k.view e.a e.b labels.0 labels.1))

        by : (o : Option Change) → MatchOption o ((e.a ≡ e.b) ⊎ (e.a ≡ not_atom e.b)) (IsChange k.view e.a e.b) → is_some (option_map (λ c. c.loser) o) ≡ true
        by None m = absurd (⊎_elim (instance-different core e instance) (λ q. absurd (false≢true (sym h ∙ ap (same_atom e.a) (sym q) ∙ same_atom-refl e.a))) m)
        by (Some c) m = refl

    fewer : same_atom e.a (not_atom e.b) ≡ false → number_own (merged k.view e.a e.b) + 1 ≡ number_own k.view
    fewer h =
        omega (
          arith,
          merge_takes_one k.view e.a e.b saturation.kernel.labelled (AtomBelow-label k.view e.a labels.0) (AtomBelow-label k.view e.b labels.1),
          ap {B = ℕ} (λ (t : Bool). if t then 1 else 0) (loses h),
        )

    pub less-equated : k.bottom ≡ false → left_to_do (equated k e) new < left_to_do k old
    less-equated running = by (same_atom e.a (not_atom e.b)) refl
      where
        places : new.places ≡ old.places
        places = woken-places k e old new saturation.queued (loser_of k.view e.a e.b) woken

        few : length new.queued ≤ new.places
        few = ids-few new (woken-ids k e old new saturation.queued (loser_of k.view e.a e.b) woken)

        whole : left_to_do k old ≡ number_own k.view * (old.places + 1) + length old.queued + 1
        whole = ap (λ (t : Bool). if t then 0 else number_own k.view * (old.places + 1) + length old.queued + 1) running

        by : (b : Bool) → same_atom e.a (not_atom e.b) ≡ b → left_to_do (if b then record k { bottom = true } else record k { view = merged k.view e.a e.b }) new < left_to_do k old
        by true h = omega (arith, whole)
        by false h =
            let now : left_to_do (record k { view = merged k.view e.a e.b }) new ≡ number_own (merged k.view e.a e.b) * (new.places + 1) + length new.queued + 1 =
            ap (λ (t : Bool). if t then 0 else number_own (merged k.view e.a e.b) * (new.places + 1) + length new.queued + 1) running in
            let product : number_own k.view * (old.places + 1) ≡ number_own (merged k.view e.a e.b) * (new.places + 1) + (new.places + 1) =
            ap (λ (n : ℕ). n * (old.places + 1)) (sym (fewer h)) ∙ ap (λ (n : ℕ). (number_own (merged k.view e.a e.b) + 1) * (n + 1)) (sym places) ∙ one-more (number_own (merged k.view e.a e.b)) (new.places + 1) in
            omega (arith, whole, now, product, few)
          where
            one-more : (m n : ℕ) → (m + 1) * n ≡ m * n + n
            one-more m n = omega (arith, suc-mul m n, ap (λ (t : ℕ). t * n) (add-one m))

-- ---- nothing is told

pub quiet-core : (told : Core → Equation → Type 0) (k : Kernel) (id : ℕ) (core : Core) → trimmed_at k id ≡ Some core → ((e : Equation) → told core e → ⊥) → IsQuiet told k id
quiet-core told k id core there none other at e tells = none e (subst (λ (c : Core). told c e) (some-of other core (sym at ∙ there)) tells)
  where
    some-of : (x y : Core) → ◌≡◌ {A = Option Core} (Some x) (Some y) → x ≡ y
    some-of x y h = cc

module _ (told : Core → Equation → Type 0) (k : Kernel) (occurs : OccurrenceLists) (old new : Ids) (marks : List Bool) (saturation : IsSaturation told k occurs old marks)
    (id : ℕ) (core : Core) (there : trimmed_at k id ≡ Some core) (none : (e : Equation) → told core e → ⊥)
    (queued : new.queued ≡ without id old.queued) (places : new.places ≡ old.places) (ids : IsIds new)
  where
    bounds : (1 ≤ id) × (id ≤ length k.cores)
    bounds = at-bounds k id core there

    gone : (i : ℕ) → (i ≡ id → ⊥) → times i new.queued ≡ times i old.queued
    gone i n = ap (times i) queued ∙ times-without id i old.queued ∙ cond-false (i == id) 0 (times i old.queued) (ne_eqb i id n)

    other-mark : (i : ℕ) → (i ≡ id → ⊥) → mark_of (set marks (id - 1) (is_compound_of core)) i ≡ mark_of marks i
    other-mark i n = by (i == 0) refl
      where
        by : (b : Bool) → (i == 0) ≡ b → (if b then false else get_or (set marks (id - 1) (is_compound_of core)) (i - 1) false) ≡ (if b then false else get_or marks (i - 1) false)
        by true z = refl
        by false z =
            let low : 1 ≤ i = grind (arith, nat_tests, z) in
            get_or-set_other marks (id - 1) (i - 1) (is_compound_of core) false (λ q. n (omega (arith, q, low, bounds.0)))

    own-mark : mark_of (set marks (id - 1) (is_compound_of core)) id ≡ is_compound_of core
    own-mark =
        let no : (id == 0) ≡ false = grind (arith, nat_tests, bounds.0) in
        ap (λ (t : Bool). if t then false else get_or (set marks (id - 1) (is_compound_of core)) (id - 1) false) no
        ∙ get_or-set_same marks (id - 1) (is_compound_of core) false (omega (arith, bounds, saturation.mark_places))

    pub saturation-quiet : IsSaturation told k occurs new (set marks (id - 1) (is_compound_of core))
    saturation-quiet = record {
      kernel = saturation.kernel;
      listed = saturation.listed;
      places = omega (arith, saturation.places, places);
      queued = ids;
      pending = λ i h.
          ⊎_elim (λ (e : i ≡ id). let r = is-there k id core there in (r.core, subst (λ (j : ℕ). core_at k.cores j ≡ Some r.core) (sym e) r.at))
          (λ (n : i ≡ id → ⊥). saturation.pending i (omega (arith, h, gone i n))) (cases_eq i id);
      waits = λ i left.
          ⊎_elim (λ (e : i ≡ id). subst (IsQuiet told k) (sym e) (quiet-core told k id core there none))
          (λ (n : i ≡ id → ⊥). saturation.waits i (sym (gone i n) ∙ left)) (cases_eq i id);
      mark_places = omega (arith, saturation.mark_places, length-set marks (id - 1) (is_compound_of core));
      marked = λ i left.
          ⊎_elim (λ (e : i ≡ id). subst (λ (j : ℕ). mark_of (set marks (id - 1) (is_compound_of core)) j ≡ is_compound_if (trimmed_at k j)) (sym e) (own-mark ∙ sym (ap is_compound_if there)))
          (λ (n : i ≡ id → ⊥). other-mark i n ∙ saturation.marked i (sym (gone i n) ∙ left)) (cases_eq i id);
    }

    pub less-quiet : k.bottom ≡ false → 1 ≤ times id old.queued → left_to_do k new < left_to_do k old
    less-quiet running first =
        let was : left_to_do k old ≡ number_own k.view * (old.places + 1) + length old.queued + 1 =
        ap (λ (t : Bool). if t then 0 else number_own k.view * (old.places + 1) + length old.queued + 1) running in
        let now : left_to_do k new ≡ number_own k.view * (new.places + 1) + length new.queued + 1 =
        ap (λ (t : Bool). if t then 0 else number_own k.view * (new.places + 1) + length new.queued + 1) running in
        omega (arith, was, now, first, length-without id old.queued, ap length queued, ap (λ (n : ℕ). number_own k.view * (n + 1)) places)
