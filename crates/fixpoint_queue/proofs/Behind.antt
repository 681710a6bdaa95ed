-- What the store has become since a core was asked, equation by equation of its run.
use Rattle.std.proofs.Common.{◌≡◌, ◌⊎◌, inl, inr, ℕ, ◌+◌, ◌≤◌, Bool, true, false, List, [], ◌∷◌, length, Contains, refl, sym, ap, ◌∙◌, subst, arith, Option, Some, None}
use Rattle.std.specs.Prelude.{if◌then◌else◌}
use Rattle.std.proofs.lemmas.Bool.{false≢true}
use Rattle.std.proofs.lemmas.List.Elements.{Contains-append_left, Contains-append_right}
use Rattle.order_ints.specs.declared.atom.Atom.{Atom}
use Rattle.order_ints.specs.Truth.{not_atom}
use Rattle.order_ints.specs.View.{resolve}
use Rattle.order_ints.specs.Place.{AtomBelow}
use Rattle.order_ints.specs.Label.{IsLater}
use Rattle.order_ints.specs.Same.{same_atom}
use Rattle.order_ints.specs.Equality.{same_atom-refl}
use Rattle.order_ints.proofs.Labels.{IsLabel-resolve, AtomBelow-label, resolves_once, resolve-later}
use Rattle.core_forms.specs.declared.equation.Equation.{Equation}
use Rattle.core_forms.specs.declared.form.Core.{Core}
use Rattle.core_forms.specs.Place.{CoreBelow}
use Rattle.core_forms.specs.Variables.{atom_vars, core_vars, AreAmong}
use Rattle.core_forms.proofs.VariableLaws.{none_there, vars_below}
use Rattle.core_forms.proofs.Labelled.{vars_are_own}
use Rattle.equation_store.specs.declared.relabel.Change.{Change}
use Rattle.equation_store.specs.Class.{class_size}
use Rattle.equation_store.specs.Merge.{change_of, changed_by, merged}
use Rattle.equation_store.proofs.Changes.{merge_is_later, merge_labelled}
use Rattle.equation_store.proofs.Facts.{is_merge}
use Rattle.equation_store.proofs.Merge.{merge_resolves}
use Rattle.equation_runs.specs.Turns.{resolved_equation, IsMade, equation_vars, equations_vars, AreMade, IsBehind, AreToldInTurn, AreInTurn, EquationsBelow}
use Rattle.step_kernel.specs.Kernel.{Kernel, trimmed_at, IsKernel}
use Rattle.step_kernel.specs.Steps.{equated}
use Rattle.step_kernel.proofs.There.{is-there}
use Rattle.fixpoint_queue.proofs.Inside.{IsInside, IsAmongIf, resolved-inside, change-among, changed-inside}

-- ---- where a core stands as the store has it

-- nothing was made since
pub behind-none : (k : Kernel) → IsKernel k → (id : ℕ) (core : Core) → trimmed_at k id ≡ Some core → IsBehind core [] k.view
behind-none k is id core there = record {
  labelled = is.labelled;
  made = tt;
  still = λ _ v has _. let r = is-there k id core there in vars_are_own k.view r.core v is.labelled (subst (λ (c : Core). Contains (core_vars c) v) (sym r.is) has);
  inside = λ _ v none. absurd (none_there v none);
}

-- so a run that is told in turn begins
pub turn-begins : (told : Core → Equation → Type 0) (k : Kernel) → IsKernel k → (id : ℕ) (core : Core) → trimmed_at k id ≡ Some core → (es : List Equation) → AreToldInTurn told core es → AreInTurn told core k.view es
turn-begins told k is id core there es turns = record { done = []; behind = behind-none k is id core there; places = tt; told_behind = turns }

-- ---- one equation more

module _ (core : Core) (done : List Equation) (view : List Atom) (behind : IsBehind core done view) (below : CoreBelow (length view + 1) core) (e : Equation) where
  abbrev more : List ℕ
  more = equations_vars (e ∷ done)

  old : AreAmong (equations_vars done) more
  old v c = Contains-append_right (equation_vars e) (equations_vars done) v c

  first : AreAmong (atom_vars e.a) more
  first v c = Contains-append_left (equation_vars e) (equations_vars done) v (Contains-append_left (atom_vars e.a) (atom_vars e.b) v c)

  second : AreAmong (atom_vars e.b) more
  second v c = Contains-append_left (equation_vars e) (equations_vars done) v (Contains-append_right (atom_vars e.a) (atom_vars e.b) v c)

  places : (v : ℕ) → Contains (core_vars core) v → (1 ≤ v) × (v ≤ length view)
  places v has = let b = vars_below (length view + 1) core below v has in (b.0, omega (arith, b.1))

  module _ (own : AreAmong more (core_vars core)) where
    now : IsInside (core_vars core) (equations_vars done) view
    now = let less : AreAmong (equations_vars done) (core_vars core) = λ v c. own v (old v c) in record { still = behind.still less; inside = behind.inside less }

    -- after a change that its atoms make, or none
    after : (o : Option Change) → IsAmongIf more o → IsInside (core_vars core) more (changed_by o view)
    after o among = changed-inside (core_vars core) (equations_vars done) view now places more old own o among

    pub merged-inside : IsInside (core_vars core) more (merged view (resolve view e.a) (resolve view e.b))
    merged-inside =
        let a = resolve view e.a in
        let b = resolve view e.b in
        let in-a : AreAmong (atom_vars a) more = resolved-inside (core_vars core) (equations_vars done) view now places more e.a (λ v c. own v (first v c)) old first in
        let in-b : AreAmong (atom_vars b) more = resolved-inside (core_vars core) (equations_vars done) view now places more e.b (λ v c. own v (second v c)) old second in
        let same : change_of view (resolve view a) (resolve view b) ≡ change_of view a b =
        ap (λ (d : Atom). change_of view d (resolve view b)) (resolves_once view e.a behind.labelled) ∙ ap (change_of view a) (resolves_once view e.b behind.labelled) in
        subst (λ (o : Option Change). IsInside (core_vars core) more (changed_by o view)) (sym same) (after (change_of view a b) (change-among more (class_size view) a b in-a in-b))

    pub same-inside : IsInside (core_vars core) more view
    same-inside = after None tt

  -- that is made already
  pub behind-made : IsMade view e → IsBehind core (e ∷ done) view
  behind-made made = record {
    labelled = behind.labelled;
    made = (made, behind.made);
    still = λ own. (same-inside own).still;
    inside = λ own. (same-inside own).inside;
  }

-- what is made stays made
made-later : (n : ℕ) (view next : List Atom) → IsLater view next → (es : List Equation) → EquationsBelow n es → AreMade view es → AreMade next es
made-later n view next later [] below made = tt
made-later n view next later (e ∷ es) below made = (
  sym (resolve-later view next later n e.a below.0.0) ∙ ap (resolve next) made.0 ∙ resolve-later view next later n e.b below.0.1,
  made-later n view next later es below.1 made.1,
)

module _ (k : Kernel) (is : IsKernel k) (e : Equation) (in_first : AtomBelow (length k.view + 1) e.a) (in_second : AtomBelow (length k.view + 1) e.b) where
  abbrev a : Atom
  a = resolve k.view e.a

  abbrev b : Atom
  b = resolve k.view e.b

  in-a : AtomBelow (length k.view + 1) a
  in-a = AtomBelow-label k.view a (IsLabel-resolve k.view e.a is.labelled in_first)

  in-b : AtomBelow (length k.view + 1) b
  in-b = AtomBelow-label k.view b (IsLabel-resolve k.view e.b is.labelled in_second)

  -- an equation whose atoms are neither one nor opposite is made by the merge of their labels
  pub made-merged : (a ≡ b → ⊥) → same_atom a (not_atom b) ≡ false → IsMade (merged k.view a b) e
  made-merged differs h =
      let once-a : resolve k.view a ≡ a = resolves_once k.view e.a is.labelled in
      let once-b : resolve k.view b ≡ b = resolves_once k.view e.b is.labelled in
      let m = is_merge k.view a b is.labelled in-a in-b in
      let apart : resolve k.view a ≡ resolve k.view b → ⊥ = λ q. differs (sym once-a ∙ q ∙ once-b) in
      let free : resolve k.view a ≡ not_atom (resolve k.view b) → ⊥ =
      λ q. absurd (false≢true (sym h ∙ ap (same_atom a) (ap not_atom (sym once-b) ∙ sym q ∙ once-a) ∙ same_atom-refl a)) in
      merge_resolves k.view a b e.a is.labelled in-a in-b in_first ∙ (m.changes apart free).equal ∙ sym (merge_resolves k.view a b e.b is.labelled in-a in-b in_second)

  -- so the store is what it was, and one equation more, or there is a contradiction
  pub behind-equated : (core : Core) (done : List Equation) → IsBehind core done k.view → CoreBelow (length k.view + 1) core → EquationsBelow (length k.view + 1) done → (a ≡ b → ⊥)
      → ((equated k (resolved_equation k.view e)).bottom ≡ true) ⊎ IsBehind core (e ∷ done) (equated k (resolved_equation k.view e)).view
  behind-equated core done behind below others differs = by (same_atom a (not_atom b)) refl
    where
      next : same_atom a (not_atom b) ≡ false → IsBehind core (e ∷ done) (merged k.view a b)
      next h = record {
        labelled = (merge_labelled k.view a b is.labelled in-a in-b).1;
        made = (made-merged differs h, made-later (length k.view + 1) k.view (merged k.view a b) (merge_is_later k.view a b is.labelled in-a in-b) done others behind.made);
        still = λ own. (merged-inside core done k.view behind below e own).still;
        inside = λ own. (merged-inside core done k.view behind below e own).inside;
      }

      by : (t : Bool) → same_atom a (not_atom b) ≡ t
          → ((if t then record k { bottom = true } else record k { view = merged k.view a b }).bottom ≡ true)
          ⊎ IsBehind core (e ∷ done) (if t then record k { bottom = true } else record k { view = merged k.view a b }).view
      by true h = inl refl
      by false h = inr (next h)

-- ---- what is left of a run

module _ (told : Core → Equation → Type 0) (core : Core) (e : Equation) (es : List Equation) where
  -- behind an equation that is made already
  pub turn-made : (view : List Atom) → CoreBelow (length view + 1) core → AtomBelow (length view + 1) e.a → AtomBelow (length view + 1) e.b → IsMade view e → AreInTurn told core view (e ∷ es) → AreInTurn told core view es
  turn-made view below first second made turn = record {
    done = e ∷ turn.done;
    behind = behind-made core turn.done view turn.behind below e made;
    places = ((first, second), turn.places);
    told_behind = turn.told_behind.1;
  }

  -- behind one that is made now
  pub turn-equated : (k : Kernel) → IsKernel k → CoreBelow (length k.view + 1) core → AtomBelow (length k.view + 1) e.a → AtomBelow (length k.view + 1) e.b → (resolve k.view e.a ≡ resolve k.view e.b → ⊥)
      → (next : Kernel) → next ≡ equated k (resolved_equation k.view e) → length next.view ≡ length k.view → AreInTurn told core k.view (e ∷ es) → (next.bottom ≡ true) ⊎ AreInTurn told core next.view es
  turn-equated k is below first second differs next same longer turn =
      by (subst (λ (n : Kernel). (n.bottom ≡ true) ⊎ IsBehind core (e ∷ turn.done) n.view) (sym same) (behind-equated k is e first second core turn.done turn.behind below turn.places differs))
    where
      by : (next.bottom ≡ true) ⊎ IsBehind core (e ∷ turn.done) next.view → (next.bottom ≡ true) ⊎ AreInTurn told core next.view es
      by (inl bottom) = inl bottom
      by (inr behind) = inr (record {
        done = e ∷ turn.done;
        behind = behind;
        places = subst (λ (n : ℕ). EquationsBelow (n + 1) (e ∷ turn.done)) (sym longer) ((first, second), turn.places);
        told_behind = turn.told_behind.1;
      })
