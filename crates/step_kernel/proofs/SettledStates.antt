-- A state in which the edge of a pending core is settled, and what it is when that is put back.
use Rattle.std.proofs.Common.{◌≡◌, ℕ, ◌+◌, ◌-◌, Bool, true, false, List, length, get_or, set, refl, sym, ap, ◌∙◌, subst, arith, Option, Some, None, Result, Ok, Err}
use Rattle.std.specs.Prelude.{slice_set, option_map, IfOk, IfSome, OnErr, if◌then◌else◌}
use Rattle.std.specs.declared.alloc.AllocError.{AllocError}
use Rattle.std.proofs.lemmas.List.{set-set, get_or-set_same}
use Rattle.order_ints.specs.declared.atom.Atom.{Atom}
use Rattle.order_ints.proofs.Labels.{labels_below}
use Rattle.core_forms.specs.declared.edges.Edge.{Edge}
use Rattle.core_forms.specs.declared.form.Core.{Core}
use Rattle.core_forms.specs.declared.equation.Equation.{Equation}
use Rattle.core_forms.specs.Cost.{cost_of}
use Rattle.core_forms.specs.Edges.{settled_core, restored, IsStableInside}
use Rattle.core_forms.specs.Trimmed.{trimmed_core}
use Rattle.core_forms.specs.WellFormed.{IsWellFormed}
use Rattle.core_forms.proofs.CostLaws.{cost-trimmed}
use Rattle.core_forms.proofs.EdgeLaws.{settled-trimmed, settled-well_formed, settled-below, restored-stable, restored-inside}
use Rattle.core_rules.specs.Instances.{is_instance_at}
use Rattle.equation_store.specs.Store.{Store}
use Rattle.ledger_text.specs.declared.line.Line.TheVariants.{Equate}
use Rattle.step_kernel.specs.declared.fault.StepFault.TheVariants.{AfterBottom, NotInstance}
use Rattle.step_kernel.specs.Cursor.{gone_first, kernel_of, IsState}
use Rattle.step_kernel.specs.Instances.{IsInstanceAt}
use Rattle.step_kernel.specs.Kernel.{Kernel, core_at, trimmed_at, IsKernel}
use Rattle.step_kernel.specs.Settled.{with_core, IsSettled}
use Rattle.step_kernel.specs.StableMarks.{Rounds, AreStableMarks, IsEdgeAt}
use Rattle.step_kernel.specs.Steps.{equated, unless_fault, step_at, step}
use Rattle.step_kernel.proofs.Cursors.{gone-put}
use Rattle.step_kernel.proofs.Holes.{at-id, place-there, put-same, below-there, formed-there, costs-there, below-put, formed-put, costs-put}
use Rattle.step_kernel.proofs.Splits.{there-bounds}
use Rattle.step_kernel.proofs.StableLaws.{stable-put}

-- the core that was put at the place of a pending one
pub put-there : (cores : List (Option Core)) (id : ℕ) (core new : Core) → core_at cores id ≡ Some core → core_at (set cores (id - 1) (Some new)) id ≡ Some new
put-there cores id core new there =
    let bounds = there-bounds cores id core there in
    at-id (set cores (id - 1) (Some new)) id (Some new) bounds.0 (get_or-set_same cores (id - 1) (Some new) None (omega (arith, bounds.0, bounds.1)))

-- a state whose core at an id is settled is one
module _ (k : Kernel) (is : IsKernel k) (id : ℕ) (core : Core) (there : core_at k.cores id ≡ Some core) (inside : IsStableInside k.view core) where
  settled-formed : IsWellFormed (settled_core k.view core)
  settled-formed = settled-well_formed k.view core inside (formed-there k.cores id core there is.formed).0

  pub settled-kernel : IsKernel (with_core k id (settled_core k.view core))
  settled-kernel = record {
    labelled = is.labelled;
    formed = formed-put k.cores id core there (settled_core k.view core) is.formed settled-formed;
    below =
        below-put k.cores id core there (length k.view + 1) (settled_core k.view core) is.below
        (settled-below k.view core inside (length k.view + 1) (below-there k.cores id core there (length k.view + 1) is.below).0 (labels_below k.view is.labelled));
    clauses = is.clauses;
    small =
        omega (
          arith,
          is.small,
          costs-there k.cores id core there k.view,
          costs-put k.cores id core there k.view (settled_core k.view core),
          cost-trimmed k.view (settled_core k.view core) settled-formed,
          ap cost_of (settled-trimmed k.view core inside),
        );
  }

-- what the core is as the settled state has it, and as the state before had it trimmed
module _ (k now : Kernel) (id : ℕ) (edge : Edge) (h : IsSettled k now id edge) where
  pub settled-there : core_at now.cores id ≡ Some (settled_core k.view h.core)
  settled-there = ap (λ (t : Kernel). core_at t.cores id) h.is ∙ put-there k.cores id h.core (settled_core k.view h.core) h.there

  pub settled-view : now.view ≡ k.view
  settled-view = ap (λ (t : Kernel). t.view) h.is

  pub settled-state : IsKernel k → IsKernel now
  settled-state is = subst IsKernel (sym h.is) (settled-kernel k is id h.core h.there h.inside)

  back : set now.cores (id - 1) (Some (restored edge (settled_core k.view h.core))) ≡ k.cores
  back =
      ap (λ (t : Kernel). set t.cores (id - 1) (Some (restored edge (settled_core k.view h.core)))) h.is
      ∙ set-set k.cores (id - 1) (Some (settled_core k.view h.core)) (Some (restored edge (settled_core k.view h.core)))
      ∙ ap (λ (c : Core). set k.cores (id - 1) (Some c)) h.restored
      ∙ put-same k.cores (id - 1) h.core (place-there k.cores id h.core h.there)

  -- put back, it is the state before
  pub unsettled : (store : Store) (cs made : List (Option Core)) (clauses : List (List Atom)) (bottom : Bool) → kernel_of store cs clauses bottom ≡ now
      → ((core : Core) → core_at cs id ≡ Some core → made ≡ slice_set cs (id - 1) (Some (restored edge core))) → kernel_of store made clauses bottom ≡ k
  unsettled store cs made clauses bottom same put =
      let there : core_at cs id ≡ Some (settled_core k.view h.core) = ap (λ (t : Kernel). core_at t.cores id) same ∙ settled-there in
      let cores : made ≡ k.cores =
      put (settled_core k.view h.core) there
      ∙ ap (λ (t : Kernel). set t.cores (id - 1) (Some (restored edge (settled_core k.view h.core)))) same ∙ back in
      ap (λ (t : List (Option Core)). kernel_of store t clauses bottom) cores
      ∙ ap (λ (t : Kernel). record t { cores = k.cores }) (same ∙ h.is)

  pub unsettled-state : (store : Store) (cs made : List (Option Core)) (clauses : List (List Atom)) (bottom : Bool) (first : ℕ) (marks : Rounds) → kernel_of store cs clauses bottom ≡ now
      → ((core : Core) → core_at cs id ≡ Some core → made ≡ slice_set cs (id - 1) (Some (restored edge core)))
      → IsKernel k → IsState (kernel_of store cs clauses bottom) first marks → IsState (kernel_of store made clauses bottom) first marks
  unsettled-state store cs made clauses bottom first marks same put is state =
      let core : Core = settled_core k.view h.core in
      let there : core_at cs id ≡ Some core = ap (λ (t : Kernel). core_at t.cores id) same ∙ settled-there in
      let place : get_or cs (id - 1) None ≡ Some core = place-there cs id core there in
      let cores : made ≡ set cs (id - 1) (Some (restored edge core)) = put core there in
      record {
        kernel = subst IsKernel (sym (unsettled store cs made clauses bottom same put)) is;
        cursor = state.cursor ∙ sym (gone-put cs (id - 1) core (restored edge core) place) ∙ ap gone_first (sym cores);
        stable =
            subst (λ (t : List (Option Core)). AreStableMarks store.view t marks) (sym cores)
            (stable-put store.view cs marks (id - 1) (restored edge core) state.stable
            (λ marked. let was = (state.stable (id - 1) marked).1 core place in (
              restored-stable store.view edge core was.0,
              restored-inside edge (marks.top + 1) core was.1,
            )));
      }

-- what the call that settles leaves
module _ (store : Store) (cs made : List (Option Core)) (clauses : List (List Atom)) (bottom : Bool) (new : Rounds) (id : ℕ) where
  pub settles : (k : Kernel) (r : Result (Option Edge) AllocError) → kernel_of store cs clauses bottom ≡ k
      → IfOk r (λ a. IfSome a (λ edge. IsEdgeAt store.view cs made new id edge))
      → IfOk r (λ a. IfSome a (λ edge. IsSettled k (kernel_of store made clauses bottom) id edge))
  settles k (Ok (Some edge)) same h =
      subst (λ (t : Kernel). IsSettled t (kernel_of store made clauses bottom) id edge) same
      (record {
        core = h.at.core;
        there = h.at.there;
        inside = h.at.inside;
        is = ap (λ (t : List (Option Core)). kernel_of store t clauses bottom) h.is;
        restored = h.restored;
      })
  settles k (Ok None) same h = tt
  settles k (Err e) same h = tt

  module _ (first : ℕ) (old : Rounds) (state : IsState (kernel_of store cs clauses bottom) first old) (marks : AreStableMarks store.view made new) where
    same-state : made ≡ cs → IsState (kernel_of store made clauses bottom) first new
    same-state same = record {
      kernel = subst (λ (t : List (Option Core)). IsKernel (kernel_of store t clauses bottom)) (sym same) state.kernel;
      cursor = state.cursor ∙ ap gone_first (sym same);
      stable = marks;
    }

    edge-state : (edge : Edge) → IsEdgeAt store.view cs made new id edge → IsState (kernel_of store made clauses bottom) first new
    edge-state edge h = record {
      kernel =
          subst (λ (t : List (Option Core)). IsKernel (kernel_of store t clauses bottom)) (sym h.is)
          (settled-kernel (kernel_of store cs clauses bottom) state.kernel id h.at.core h.at.there h.at.inside);
      cursor =
          state.cursor ∙ sym (gone-put cs (id - 1) h.at.core (settled_core store.view h.at.core) (place-there cs id h.at.core h.at.there))
          ∙ ap gone_first (sym h.is);
      stable = marks;
    }

    pub settles-state : (r : Result (Option Edge) AllocError) → IfOk r (λ a. IfSome a (λ edge. IsEdgeAt store.view cs made new id edge))
        → IfOk r (λ a. a ≡ None → made ≡ cs) → OnErr r (made ≡ cs) → IsState (kernel_of store made clauses bottom) first new
    settles-state (Ok (Some edge)) h none stays = edge-state edge h
    settles-state (Ok None) h none stays = same-state (none refl)
    settles-state (Err e) h none stays = same-state stays

-- what is told at the core that stands there is told at the core as the store has it
module _ (now : Kernel) (id : ℕ) (core : Core) (there : core_at now.cores id ≡ Some core) where
  pub lent : (k : Kernel) (edge : Edge) → IsSettled k now id edge → trimmed_at k id ≡ Some core
  lent k edge h =
      ap (option_map (trimmed_core k.view)) h.there
      ∙ ap Some (sym (settled-trimmed k.view h.core h.inside))
      ∙ sym (settled-there k now id edge h) ∙ there

  module _ (e : Equation) where
    pub told : (r : Result Bool AllocError) → IfOk r (λ b. b ≡ is_instance_at core e)
        → IfOk r (λ b. (k : Kernel) (edge : Edge) → IsSettled k now id edge → IsKernel k → b ≡ true → IsInstanceAt k id e)
    told (Ok b) is = λ k edge h kernel seen. (core, lent k edge h, sym is ∙ seen)
    told (Err err) is = tt

    pub not-told : (r : Result Bool AllocError) → IfOk r (λ b. b ≡ is_instance_at core e)
        → IfOk r (λ b. (k : Kernel) (edge : Edge) → IsSettled k now id edge → k.bottom ≡ false → b ≡ false → step k (Equate id e) ≡ Err NotInstance)
    not-told (Ok b) is = λ k edge h running seen.
        ap (λ (t : Bool). if t then Err AfterBottom else step_at k (Equate id e) (trimmed_at k id)) running
        ∙ ap (step_at k (Equate id e)) (lent k edge h)
        ∙ ap (λ (t : Bool). unless_fault (if t then None else Some NotInstance) (equated k e)) (sym is ∙ seen)
    not-told (Err err) is = tt
