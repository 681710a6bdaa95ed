-- Equations that one core tells, taken one after another.
use Rattle.std.proofs.Common.{◌≡◌, ◌⊎◌, inl, inr, ℕ, ◌+◌, ◌≤◌, ◌<◌, Bool, true, false, List, [], ◌∷◌, ◌++◌, length, drop, get_or, refl, sym, ap, ◌∙◌, subst, arith, Some, Ok}
use Rattle.std.specs.Prelude.{option_map, not, ◌||◌, if◌then◌else◌}
use Rattle.std.proofs.lemmas.List.{drop_more}
use Rattle.std.proofs.lemmas.Bool.{false≢true}
use Rattle.order_ints.specs.declared.atom.Atom.{Atom}
use Rattle.order_ints.specs.Truth.{not_atom}
use Rattle.order_ints.specs.Place.{AtomBelow}
use Rattle.order_ints.specs.Label.{IsLabel, IsLater}
use Rattle.order_ints.specs.Same.{same_atom}
use Rattle.order_ints.proofs.Labels.{AtomBelow-label}
use Rattle.core_forms.specs.declared.equation.Equation.{Equation}
use Rattle.core_forms.specs.declared.form.Core.{Core}
use Rattle.core_forms.specs.Place.{CoreBelow}
use Rattle.core_forms.specs.Trimmed.{trimmed_core}
use Rattle.core_forms.proofs.Composed.{trimmed_again}
use Rattle.core_forms.proofs.Labelled.{trimmed_later}
use Rattle.equation_store.specs.Merge.{loser_of, merged}
use Rattle.equation_store.proofs.Changes.{merge_is_later, merge_labelled}
use Rattle.equation_runs.specs.Turns.{resolved_equation, IsMade, IsMadeOrTold, AreInTurn, made_equation, EquationsBelow}
use Rattle.index_ring.specs.Lists.{times}
use Rattle.core_occurrences.specs.Lists.{OccurrenceLists}
use Rattle.ledger_text.specs.declared.line.Line.{Line}
use Rattle.ledger_text.specs.declared.line.Line.TheVariants.{Equate}
use Rattle.step_kernel.specs.Kernel.{Kernel, trimmed_at, IsKernel}
use Rattle.step_kernel.specs.Steps.{step, equated}
use Rattle.step_kernel.proofs.Holes.{below-there}
use Rattle.step_kernel.proofs.There.{is-there, there-below, there-labels}
use Rattle.fixpoint_queue.specs.declared.worklist.Worklist.{Worklist}
use Rattle.fixpoint_queue.specs.Taken.{HasTaken}
use Rattle.fixpoint_queue.specs.Told.{IsToldInstance}
use Rattle.fixpoint_queue.specs.Waits.{IsSaturation, IsWokenFor, left_to_do, left_to_ask}
use Rattle.fixpoint_queue.specs.Pairs.{IsCounted}
use Rattle.fixpoint_queue.proofs.AskedCores.{woken-stays, saturation-equated, less-equated}
use Rattle.fixpoint_queue.proofs.Counted.{counted-taken, counted-then, left-running}
use Rattle.fixpoint_queue.proofs.LedgerLaws.{adds-trans}

-- ---- the store after an equation

-- whatever an equation is, it leaves as many variables
pub same-vars : (k : Kernel) → IsKernel k → (e : Equation) → IsLabel k.view e.a × IsLabel k.view e.b → length (equated k e).view ≡ length k.view
same-vars k is e labels = by (same_atom e.a (not_atom e.b))
  where
    by : (b : Bool) → length (if b then record k { bottom = true } else record k { view = merged k.view e.a e.b }).view ≡ length k.view
    by true = refl
    by false = (merge_labelled k.view e.a e.b is.labelled (AtomBelow-label k.view e.a labels.0) (AtomBelow-label k.view e.b labels.1)).0

-- a core that is as the store has another one stays so
pub there-later : (k : Kernel) → IsKernel k → (id : ℕ) (core : Core) → CoreBelow (length k.view + 1) core → trimmed_at k id ≡ Some (trimmed_core k.view core)
    → (e : Equation) → IsLabel k.view e.a × IsLabel k.view e.b → trimmed_at (equated k e) id ≡ Some (trimmed_core (equated k e).view core)
there-later k is id core below there e labels = by (same_atom e.a (not_atom e.b))
  where
    later : IsLater k.view (merged k.view e.a e.b)
    later = merge_is_later k.view e.a e.b is.labelled (AtomBelow-label k.view e.a labels.0) (AtomBelow-label k.view e.b labels.1)

    moved : trimmed_at (record k { view = merged k.view e.a e.b }) id ≡ Some (trimmed_core (merged k.view e.a e.b) core)
    moved =
        let r = is-there k id (trimmed_core k.view core) there in
        ap (option_map (trimmed_core (merged k.view e.a e.b))) r.at
        ∙ ap Some
        (sym (trimmed_later (length k.view + 1) k.view (merged k.view e.a e.b) r.core later (below-there k.cores id r.core r.at (length k.view + 1) is.below).0)
        ∙ ap (trimmed_core (merged k.view e.a e.b)) r.is
        ∙ trimmed_later (length k.view + 1) k.view (merged k.view e.a e.b) core later below)

    by : (b : Bool) → trimmed_at (if b then record k { bottom = true } else record k { view = merged k.view e.a e.b }) id
        ≡ Some (trimmed_core (if b then record k { bottom = true } else record k { view = merged k.view e.a e.b }).view core)
    by true = there
    by false = moved

-- ---- an equation of a run

-- it is made where its atoms, as the view has them, are one
pub is-made : (view : List Atom) (e found : Equation) → found ≡ resolved_equation view e → found.a ≡ found.b → IsMade view e
is-made view e found same one = sym (ap (λ (f : Equation). f.a) same) ∙ one ∙ ap (λ (f : Equation). f.b) same

pub not-made : (view : List Atom) (e found : Equation) → found ≡ resolved_equation view e → (found.a ≡ found.b → ⊥) → IsMade view e → ⊥
not-made view e found same apart made = apart (ap (λ (f : Equation). f.a) same ∙ made ∙ sym (ap (λ (f : Equation). f.b) same))

-- so the equation is told
pub told-of : (told : Core → Equation → Type 0) (core : Core) (view : List Atom) (e : Equation) → IsMadeOrTold told core view e → (IsMade view e → ⊥) → told (trimmed_core view core) (resolved_equation view e)
told-of told core view e (inl made) not = absurd (not made)
told-of told core view e (inr tells) not = tells

-- the next equation of a run, and those behind it
pub next-turn : (told : Core → Equation → Type 0) (core : Core) (view : List Atom) (run : List Equation) (i : ℕ) → i < length run → AreInTurn told core view (drop i run)
    → AreInTurn told core view (get_or run i made_equation ∷ drop (i + 1) run)
next-turn told core view run i low turn = subst (AreInTurn told core view) (drop_more run i made_equation low) turn

pub first-told : (told : Core → Equation → Type 0) (core : Core) (view : List Atom) (e : Equation) (es : List Equation) → AreInTurn told core view (e ∷ es) → IsMadeOrTold told core view e
first-told told core view e es turn = turn.told_behind.0 view turn.behind

pub below-next : (n : ℕ) (run : List Equation) (i : ℕ) → i < length run → EquationsBelow n (drop i run)
    → (AtomBelow n (get_or run i made_equation).a × AtomBelow n (get_or run i made_equation).b) × EquationsBelow n (drop (i + 1) run)
below-next n run i low below = subst (EquationsBelow n) (drop_more run i made_equation low) below

-- what stands where there is no contradiction
pub unless-bottom : {T : Type 0} (bottom : Bool) → bottom ≡ false → (bottom ≡ true) ⊎ T → T
unless-bottom bottom running (inl h) = absurd (false≢true (sym running ∙ h))
unless-bottom bottom running (inr t) = t

-- ---- what was taken

-- nothing was asked
counted-idle : (k : Kernel) (before : List Line) (left counter now : ℕ) → now ≤ counter → IsCounted k before before left counter now left
counted-idle k before left counter now most lines added = omega (arith, most)

-- of two flags the first that is set
either-set : (m n : Bool) (P : Bool → Type 0) → (m ≡ true → P true) → (m ≡ false → P n) → P (m || n)
either-set true n P first second = first refl
either-set false n P first second = second refl

module _ (told : Core → Equation → Type 0) (id : ℕ) (core : Core) where
  pub taken-none : (k : Kernel) (before : List Line) (work : Worklist) → IsSaturation told k work.occurs work.queue work.marks → 1 ≤ times id work.queue.queued → trimmed_at k id ≡ Some (trimmed_core k.view core)
      → HasTaken told id core k before work k before work false
  taken-none k before work saturation queued there = record {
    saturation = saturation;
    occurs = refl;
    marks = refl;
    queued = queued;
    there = there;
    vars = refl;
    adds = record { added = []; is = sym (append-none before); leads = refl; equations = tt };
    counted = λ counter now most. counted-idle k before (left_to_ask k work.queue) counter now (omega (arith, most));
    less = omega arith;
    still = λ _. refl;
  }
    where
      append-none : (lines : List Line) → lines ++ [] ≡ lines
      append-none [] = refl
      append-none (line ∷ lines) = ap (λ (l : List Line). line ∷ l) (append-none lines)

  module _ (k : Kernel) (old new : Worklist) (same-occurs : new.occurs ≡ old.occurs) (same-marks : new.marks ≡ old.marks) (saturation : IsSaturation told k old.occurs old.queue old.marks) (below : CoreBelow (length k.view + 1) core) (there : trimmed_at k id ≡ Some (trimmed_core k.view core))
      (running : k.bottom ≡ false) (first : 1 ≤ times id old.queue.queued) (e : Equation) (tells : IsToldInstance told (trimmed_core k.view core) e)
      (woken : IsWokenFor k e old.queue new.queue) (after : Kernel) (is : after ≡ equated k e) (stepped : step k (Equate id e) ≡ Ok after)
      (before behind : List Line) (line : behind ≡ before ++ Equate id e ∷ [])
    where
      labels : IsLabel k.view e.a × IsLabel k.view e.b
      labels = there-labels k id (trimmed_core k.view core) saturation.kernel there e tells.1

      pub taken-one : HasTaken told id core k before old after behind new true
      taken-one = record {
        saturation =
            subst (λ (o : OccurrenceLists). IsSaturation told after o new.queue new.marks) (sym same-occurs)
            (subst (λ (m : List Bool). IsSaturation told after old.occurs new.queue m) (sym same-marks)
            (subst (λ (n : Kernel). IsSaturation told n old.occurs new.queue old.marks) (sym is)
            (saturation-equated told k old.occurs old.queue new.queue old.marks saturation id (trimmed_core k.view core) there e tells.1 woken)));
        occurs = same-occurs;
        marks = same-marks;
        queued = woken-stays k e old.queue new.queue saturation.queued (loser_of k.view e.a e.b) woken id first;
        there = subst (λ (n : Kernel). trimmed_at n id ≡ Some (trimmed_core n.view core)) (sym is) (there-later k saturation.kernel id core below there e labels);
        vars = ap (λ (n : Kernel). length n.view) is ∙ same-vars k saturation.kernel e labels;
        adds = record { added = Equate id e ∷ []; is = line; leads = (after, stepped, (trimmed_core k.view core, there, tells.0), refl); equations = tt };
        counted = λ counter now most.
            subst (λ (n : ℕ). IsCounted k before behind n counter now (left_to_ask after new.queue)) (sym (left-running k old.queue running))
            (counted-taken told k old.occurs old.queue new.queue old.marks saturation id (trimmed_core k.view core) there e tells.1 first woken after is stepped before behind line counter now most);
        less = omega (arith, fewer);
        still = λ none. absurd (false≢true (sym none));
      }
        where
          fewer : left_to_do after new.queue < left_to_do k old.queue
          fewer =
              subst (λ (n : Kernel). left_to_do n new.queue < left_to_do k old.queue) (sym is)
              (less-equated told k old.occurs old.queue new.queue old.marks saturation id (trimmed_core k.view core) there e tells.1 woken running)

  module _ (k mid new : Kernel) (before behind last : List Line) (from next to : Worklist) where
    -- what was taken, and then more
    module _ (m n : Bool) (one : HasTaken told id core k before from mid behind next m) (two : HasTaken told id core mid behind next new last to n) where
      both-counted : (counter now later : ℕ) → now ≤ counter + (if m then 3 else 0) → later ≤ now + (if n then 3 else 0) → IsCounted k before last (left_to_ask k from.queue) counter later (left_to_ask new to.queue)
      both-counted counter now later most more =
          counted-then told k mid new before behind last (left_to_ask k from.queue) counter now (left_to_ask mid next.queue) later (left_to_ask new to.queue) one.adds two.adds (one.counted counter now most) (two.counted now later more)

      then-counted : (counter now : ℕ) → now ≤ counter + (if m || n then 3 else 0) → IsCounted k before last (left_to_ask k from.queue) counter now (left_to_ask new to.queue)
      then-counted counter now =
          either-set m n (λ (b : Bool). now ≤ counter + (if b then 3 else 0) → IsCounted k before last (left_to_ask k from.queue) counter now (left_to_ask new to.queue))
          (λ set most. both-counted counter now now (subst (λ (b : Bool). now ≤ counter + (if b then 3 else 0)) (sym set) most) (omega arith))
          (λ unset most. both-counted counter counter now (omega arith) most)

      then-less : left_to_do new to.queue + (if m || n then 1 else 0) ≤ left_to_do k from.queue
      then-less =
          either-set m n (λ (b : Bool). left_to_do new to.queue + (if b then 1 else 0) ≤ left_to_do k from.queue)
          (λ set. let strict = subst (λ (b : Bool). left_to_do mid next.queue + (if b then 1 else 0) ≤ left_to_do k from.queue) set one.less in omega (arith, strict, two.less))
          (λ unset. omega (arith, one.less, two.less))

      then-still : (m || n) ≡ false → new ≡ k
      then-still =
          either-set m n (λ (b : Bool). b ≡ false → new ≡ k)
          (λ set none. absurd (false≢true (sym none)))
          (λ unset none. two.still none ∙ one.still unset)

      pub taken-then : HasTaken told id core k before from new last to (m || n)
      taken-then = record {
        saturation = two.saturation;
        occurs = two.occurs ∙ one.occurs;
        marks = two.marks ∙ one.marks;
        queued = two.queued;
        there = two.there;
        vars = two.vars ∙ one.vars;
        adds = adds-trans told before behind last k mid new one.adds two.adds;
        counted = then-counted;
        less = then-less;
        still = then-still;
      }

-- ---- a core that was asked

-- what the store makes of a core that is as it has it
pub there-trimmed : (k : Kernel) → IsKernel k → (id : ℕ) (core : Core) → trimmed_at k id ≡ Some core → trimmed_core k.view core ≡ core
there-trimmed k is id core there =
    let r = is-there k id core there in
    ap (trimmed_core k.view) (sym r.is) ∙ trimmed_again k.view r.core is.labelled ∙ r.is

-- so it is there as it was asked
pub there-asked : (k : Kernel) → IsKernel k → (id : ℕ) (core : Core) → trimmed_at k id ≡ Some core → trimmed_at k id ≡ Some (trimmed_core k.view core)
there-asked k is id core there = there ∙ ap Some (sym (there-trimmed k is id core there))

-- where nothing of a run was taken, an equation that is taken then is the first
module _ (told : Core → Equation → Type 0) (id : ℕ) (core : Core) (k mid : Kernel) (before behind : List Line) (from next : Worklist) (some : Bool)
    (taken : HasTaken told id core k before from mid behind next some) (none : some ≡ false) (there : trimmed_at k id ≡ Some core)
  where
    pub idle-there : trimmed_at mid id ≡ Some core
    idle-there = subst (λ (n : Kernel). trimmed_at n id ≡ Some core) (sym (taken.still none)) there

    pub idle-running : k.bottom ≡ false → mid.bottom ≡ false
    idle-running running = subst (λ (n : Kernel). n.bottom ≡ false) (sym (taken.still none)) running

    pub idle-equation : k.bottom ≡ false → (e : Equation) → IsToldInstance told core e → (to : Worklist) → to.occurs ≡ next.occurs → to.marks ≡ next.marks → IsWokenFor mid e next.queue to.queue → (new : Kernel) → new ≡ equated mid e → step mid (Equate id e) ≡ Ok new
        → (last : List Line) → last ≡ behind ++ Equate id e ∷ [] → HasTaken told id core k before from new last to true
    idle-equation running e tells to same-occurs same-marks woken new is stepped last line =
        let kernel = taken.saturation.kernel in
        let one = taken-one told id core mid next to same-occurs same-marks taken.saturation (there-below mid id core kernel idle-there) (there-asked mid kernel id core idle-there) (idle-running running) taken.queued e
        (subst (λ (c : Core). IsToldInstance told c e) (sym (there-trimmed mid kernel id core idle-there)) tells) woken new is stepped behind last line in
        subst (λ (b : Bool). HasTaken told id core k before from new last to (b || true)) none (taken-then told id core k mid new before behind last from next to some true taken one)

-- the same lines before
pub lines-same : {told : Core → Equation → Type 0} {id : ℕ} {core : Core} {k new : Kernel} {items before behind : List Line} {from to : Worklist} {some : Bool}
    → items ≡ before → HasTaken told id core k items from new behind to some → HasTaken told id core k before from new behind to some
lines-same {told} {id} {core} {k} {new} {items} {before} {behind} {from} {to} {some} same taken =
    subst (λ (lines : List Line). HasTaken told id core k lines from new behind to some) same taken

-- the same flag
pub flag-is : {told : Core → Equation → Type 0} {id : ℕ} {core : Core} {k new : Kernel} {before behind : List Line} {from to : Worklist} {some other : Bool}
    → some ≡ other → HasTaken told id core k before from new behind to some → HasTaken told id core k before from new behind to other
flag-is {told} {id} {core} {k} {new} {before} {behind} {from} {to} {some} {other} same taken =
    subst (λ (b : Bool). HasTaken told id core k before from new behind to b) same taken

-- what was taken behind a query, where something was
module _ (told : Core → Equation → Type 0) (id : ℕ) (core : Core) (k new : Kernel) (before last : List Line) (from to : Worklist)
    (taken : HasTaken told id core k before from new last to true)
  where
    pub asked-counted : k.bottom ≡ false → (counter now : ℕ) → now ≤ counter + 3 → IsCounted k before last (length from.queue.queued) counter now (left_to_ask new to.queue)
    asked-counted running counter now most =
        subst (λ (n : ℕ). IsCounted k before last n counter now (left_to_ask new to.queue)) (left-running k from.queue running) (taken.counted counter now most)

    pub asked-less : left_to_do new to.queue < left_to_do k from.queue
    asked-less = omega (arith, taken.less)
