-- The state after a split of a core that is cut at its front, with its edge settled.
use Rattle.std.proofs.Common.{◌≡◌, ◌⊎◌, ℕ, ◌+◌, ◌-◌, ◌<◌, ◌≤◌, ◌^◌, Bool, true, false, List, ◌∷◌, ◌++◌, map, length, get_or, set, refl, sym, ap, ◌∙◌, subst, arith, Option, Some, None}
use Rattle.std.specs.Prelude.{option_map, IfOk, IfSome, if◌then◌else◌}
use Rattle.std.specs.declared.result.Result.{Result}
use Rattle.std.specs.declared.result.Result.TheVariants.{Ok, Err}
use Rattle.std.proofs.lemmas.List.{set-set, get_or-set_same, get_or_append_left, set-append_left, length-set, length-append, length-map, map-append, append_assoc}
use Rattle.std.proofs.Math.Seq.{get_or-append_seam}
use Rattle.order_ints.specs.declared.atom.Atom.{Atom}
use Rattle.order_ints.specs.Label.{own_labels, with_own_labels}
use Rattle.order_ints.proofs.Labels.{length-own_labels}
use Rattle.core_forms.specs.declared.edges.Edge.{Edge}
use Rattle.core_forms.specs.declared.form.Core.{Core}
use Rattle.core_forms.specs.Cores.{CoresBelow}
use Rattle.core_forms.specs.Edges.{settled_core, restored, IsStableInside, InsideBelow}
use Rattle.core_forms.specs.Place.{CoreBelow}
use Rattle.core_forms.specs.Stable.{IsStableCore}
use Rattle.core_forms.specs.Trimmed.{trimmed_core}
use Rattle.core_forms.proofs.EdgeLaws.{settled-trimmed, settled-inside, inside-stable, inside-further, inside-more}
use Rattle.core_forms.proofs.Stability.{stable_core}
use Rattle.part_base.specs.declared.cut.Cut.{Cut}
use Rattle.part_base.specs.declared.parts.Parts.{Parts}
use Rattle.part_base.specs.Cuts.{rest_of, IsCut}
use Rattle.equation_store.specs.Store.{Store}
use Rattle.ledger_text.specs.declared.line.Line.TheVariants.{Split}
use Rattle.step_kernel.specs.declared.fault.StepFault.TheVariants.{AfterBottom, NotCompound}
use Rattle.step_kernel.specs.Cursor.{gone_first, kernel_of, IsState}
use Rattle.step_kernel.specs.Kernel.{Kernel, core_at, pending, trimmed_at, IsKernel}
use Rattle.step_kernel.specs.StableMarks.{Rounds, IsMarked, AreStableMarks, IsEdgeAt}
use Rattle.step_kernel.specs.Settled.{IsSettled, IsSettledWhole}
use Rattle.step_kernel.specs.SplitAt.{IsStableAt, IsCutAt, most_inside}
use Rattle.step_kernel.specs.Steps.{without, divided, unless_fault, step_at, step}
use Rattle.core_parts.specs.Parts.{parts_at, is_compound_of}
use Rattle.step_kernel.proofs.Cursors.{gone-without, gone-append}
use Rattle.step_kernel.proofs.Holes.{the, put-again, put-same, below-there}
use Rattle.step_kernel.proofs.SettledStates.{settled-there, settled-view, settles, unsettled, unsettled-state}
use Rattle.step_kernel.proofs.CutRests.{rest-inside}
use Rattle.step_kernel.proofs.StableLaws.{at-next, stable-more, stable-without}
use Rattle.step_kernel.proofs.Splits.{divided-from, divided-room, there-bounds}
use Rattle.step_kernel.proofs.There.{there-divided, there-below}

-- a stable core is as the store has it
pub stable-there : (k : Kernel) (id : ℕ) (core : Core) → core_at k.cores id ≡ Some core → IsStableCore k.view core → trimmed_at k id ≡ Some core
stable-there k id core there stable = ap (option_map (trimmed_core k.view)) there ∙ ap Some (stable_core k.view core stable)

-- one that is stable but for its edge is so with its edge settled
pub trimmed-there : (k : Kernel) (id : ℕ) (core : Core) → core_at k.cores id ≡ Some core → IsStableInside k.view core
    → trimmed_at k id ≡ Some (settled_core k.view core)
trimmed-there k id core there inside = ap (option_map (trimmed_core k.view)) there ∙ ap Some (sym (settled-trimmed k.view core inside))

-- how many are gone at the beginning, where one more goes, and cores come behind
pub gone-cut : (cs ds : List (Option Core)) (i first : ℕ) → first ≡ gone_first cs → first ≤ gone_first (set cs i None ++ ds)
gone-cut cs ds i first is = omega (arith, is, gone-without cs i, gone-append (set cs i None) ds)

-- ---- a core whose edge is settled

pub whole-stable : (k now : Kernel) (id : ℕ) (edge : Edge) → IsSettledWhole k now id edge → IsStableAt now id
whole-stable k now id edge w = record {
  core = settled_core k.view w.settled.core;
  there = settled-there k now id edge w.settled;
  stable = subst (λ (v : List Atom). IsStableCore v (settled_core k.view w.settled.core)) (sym (settled-view k now id edge w.settled)) w.stable;
}

-- and is cut as it stands
pub whole-cut : (k now : Kernel) (id : ℕ) (edge : Edge) (core : Core) (cut : Cut) → core_at now.cores id ≡ Some core → is_compound_of core ≡ true
    → IsCut (length now.view + 1) core (parts_at (length now.view + 1) core) cut → IsSettledWhole k now id edge → IsCutAt k id cut
whole-cut k now id edge core cut there compound is w =
    let same : Some core ≡ Some (settled_core k.view w.settled.core) = sym there ∙ settled-there k now id edge w.settled in
    let made : core ≡ settled_core k.view w.settled.core = ap (the core) same in
    record {
      core = w.settled.core;
      there = w.settled.there;
      inside = w.settled.inside;
      stable = w.stable;
      own = w.own;
      compound = ap is_compound_of (sym made) ∙ compound;
      is =
          subst (λ (n : ℕ). IsCut (n + 1) (settled_core k.view w.settled.core) (parts_at (n + 1) (settled_core k.view w.settled.core)) cut)
          (ap length (settled-view k now id edge w.settled))
          (subst (λ (c : Core). IsCut (length now.view + 1) c (parts_at (length now.view + 1) c) cut) made is);
    }

pub cut-told : {E : Type 0} (r : Result (Option Cut) E) (core : Core) (now : Kernel) (id : ℕ) → core_at now.cores id ≡ Some core → is_compound_of core ≡ true
    → IfOk r (λ made. IfSome made (λ cut. IsCut (length now.view + 1) core (parts_at (length now.view + 1) core) cut))
    → IfOk r (λ made. IfSome made (λ cut. (k : Kernel) (edge : Edge) → IsSettledWhole k now id edge → IsCutAt k id cut))
cut-told (Ok None) core now id there compound is = tt
cut-told (Ok (Some cut)) core now id there compound is = λ k edge w. whole-cut k now id edge core cut there compound is w
cut-told (Err e) core now id there compound is = tt

-- how it is cut is how the core was, whose edge was settled
pub cut-made-out : {E : Type 0} (r : Result (Option Cut) E) (k now : Kernel) (id : ℕ) (edge : Edge)
    → IfOk r (λ made. IfSome made (λ cut. (k : Kernel) (edge : Edge) → IsSettledWhole k now id edge → IsCutAt k id cut))
    → IsSettledWhole k now id edge → IfOk r (λ made. IfSome made (λ cut. IsCutAt k id cut))
cut-made-out (Ok None) k now id edge told w = tt
cut-made-out (Ok (Some cut)) k now id edge told w = told k edge w
cut-made-out (Err e) k now id edge told w = tt

-- the cores where the edge of one is settled, that one taken out, and what is known of the marks
pub record IsOpened (k : Kernel) (id : ℕ) (core settled : Core) (now : List (Option Core)) (marks : Rounds) : Type 0 where
  pub taken : get_or now (id - 1) None ≡ Some settled
  pub gone : set now (id - 1) None ≡ set k.cores (id - 1) None
  pub marked : AreStableMarks k.view now marks → AreStableMarks k.view (set k.cores (id - 1) (Some settled)) marks
  pub below : InsideBelow (marks.top + 1) core

-- where what was taken out, and is as it was, is put again, and its edge as it stood, all is as before
module _ (k : Kernel) (id : ℕ) (edge : Edge) (store : Store) (items now taken put made : List (Option Core)) (ls : List (List Atom)) (b : Bool) (core back : Core) (marks : Rounds)
    (same : kernel_of store items ls b ≡ k) (at : IsEdgeAt store.view items now marks id edge) (out : get_or now (id - 1) None ≡ Some core) (gone : taken ≡ set now (id - 1) None)
    (as-was : back ≡ core) (again : put ≡ set taken (id - 1) (Some back))
    (edge-back : (core : Core) → core_at put id ≡ Some core → made ≡ set put (id - 1) (Some (restored edge core))) where
  settled-now : IsSettled k (kernel_of store now ls b) id edge
  settled-now = settles store items now ls b marks id k (Ok (Some edge)) same at

  put-now : put ≡ now
  put-now =
      put-again now taken put (id - 1) back gone again ∙ ap (λ (c : Core). set now (id - 1) (Some c)) as-was ∙ put-same now (id - 1) core out

  pub kept : kernel_of store made ls b ≡ k
  kept =
      unsettled k (kernel_of store now ls b) id edge settled-now store put made ls b
      (ap (λ (t : List (Option Core)). kernel_of store t ls b) put-now) edge-back

  pub kept-state : (first : ℕ) → IsKernel k → IsState (kernel_of store now ls b) first marks → IsState (kernel_of store made ls b) first marks
  kept-state first is state =
      unsettled-state k (kernel_of store now ls b) id edge settled-now store put made ls b first marks
      (ap (λ (t : List (Option Core)). kernel_of store t ls b) put-now) edge-back is
      (subst (λ (t : List (Option Core)). IsState (kernel_of store t ls b) first marks) (sym put-now) state)

-- cores come behind, and further variables
stable-behind : (view : List Atom) (cs ds : List (Option Core)) (fresh n : ℕ) (marks : Rounds) → CoresBelow n (pending cs) → AreStableMarks view cs marks
    → AreStableMarks (with_own_labels view fresh) (cs ++ ds) marks
stable-behind view cs ds fresh n marks below h place m = (omega (arith, (h place m).0, length-append cs ds), there)
  where
    there : (core : Core) → get_or (cs ++ ds) place None ≡ Some core → IsStableInside (with_own_labels view fresh) core × InsideBelow (marks.top + 1) core
    there core at =
        let is : get_or cs place None ≡ Some core = sym (get_or_append_left cs ds None place (h place m).0) ∙ at in
        let low = (below-there cs (place + 1) core (at-next cs place (Some core) is) n below).0 in
        let inside = (h place m).1 core is in
        (inside-further view fresh n core low inside.0, inside.1)

module _ (k : Kernel) (is : IsKernel k) (id : ℕ) (cut : Cut) (at : IsCutAt k id cut) where
  abbrev settled : Core
  settled = settled_core k.view at.core

  abbrev parts : Parts
  parts = parts_at (length k.view + 1) settled

  there : trimmed_at k id ≡ Some settled
  there = trimmed-there k id at.core at.there at.inside

  pub opened : (store : Store) (cs : List (Option Core)) (ls : List (List Atom)) (b : Bool) (view : List Atom) (items now : List (Option Core)) (marks : Rounds) (edge : Edge)
      → kernel_of store cs ls b ≡ k → view ≡ store.view → items ≡ cs → IsEdgeAt view items now marks id edge → IsOpened k id at.core settled now marks
  opened store cs ls b view items now marks edge same viewed kept e =
      let edge-at : IsEdgeAt k.view k.cores now marks id edge =
      subst (λ (v : List Atom). IsEdgeAt v k.cores now marks id edge) (viewed ∙ ap (λ (t : Kernel). t.view) same)
      (subst (λ (t : List (Option Core)). IsEdgeAt view t now marks id edge) (kept ∙ ap (λ (t : Kernel). t.cores) same) e) in
      let core : edge-at.at.core ≡ at.core = ap (the at.core) (sym edge-at.at.there ∙ at.there) in
      let is : now ≡ set k.cores (id - 1) (Some settled) = edge-at.is ∙ ap (λ (c : Core). set k.cores (id - 1) (Some (settled_core k.view c))) core in
      let bounds = there-bounds k.cores id at.core at.there in
      record {
        taken =
            ap (λ (t : List (Option Core)). get_or t (id - 1) None) is
            ∙ get_or-set_same k.cores (id - 1) (Some settled) None (omega (arith, bounds.0, bounds.1));
        gone = ap (λ (t : List (Option Core)). set t (id - 1) None) is ∙ set-set k.cores (id - 1) (Some settled) None;
        marked = subst (λ (t : List (Option Core)). AreStableMarks k.view t marks) is;
        below = subst (InsideBelow (marks.top + 1)) core edge-at.at.below;
      }

  pub cut-divided : IsKernel (divided k id parts)
  cut-divided = there-divided k id settled is there at.compound

  pub cut-room : length k.view + cut.fresh ≤ 2 ^ 27
  cut-room = omega (arith, divided-room k id parts cut-divided, at.is.fresh)

  pub cut-step : k.bottom ≡ false → step k (Split id) ≡ Ok (divided k id parts)
  cut-step running =
      ap (λ (b : Bool). if b then Err AfterBottom else step_at k (Split id) (trimmed_at k id)) running
      ∙ ap (step_at k (Split id)) there
      ∙ ap (λ (b : Bool). unless_fault (if b then None else Some NotCompound) (divided k id parts)) at.compound

  all-pending : map Some parts.cores ≡ map Some cut.front ++ Some (rest_of cut settled) ∷ map Some cut.back
  all-pending = ap (map Some) at.is.cores ∙ map-append Some cut.front (rest_of cut settled ∷ cut.back)

  pub cut-made : (old new : Store) (cs fs bs made : List (Option Core)) (ls : List (List Atom)) (b : Bool) (rest : Core)
      → kernel_of old cs ls b ≡ k → new.view ≡ with_own_labels old.view cut.fresh → rest ≡ rest_of cut settled
      → fs ≡ map Some cut.front → bs ≡ map Some cut.back
      → made ≡ without (set cs (id - 1) None ++ (fs ++ Some rest ∷ bs)) id → kernel_of new made ls b ≡ divided k id parts
  cut-made old new cs fs bs made ls b rest same view left front back cores =
      let bounds = there-bounds k.cores id at.core at.there in
      let high : id ≤ length cs = omega (arith, bounds.1, ap (λ (t : Kernel). length t.cores) same) in
      let inside : id - 1 < length cs = omega (arith, bounds.0, high) in
      let ds : fs ++ Some rest ∷ bs ≡ map Some parts.cores =
      ap (λ (t : List (Option Core)). t ++ Some rest ∷ bs) front
      ∙ ap (λ (t : Core). map Some cut.front ++ Some t ∷ bs) left
      ∙ ap (λ (t : List (Option Core)). map Some cut.front ++ Some (rest_of cut settled) ∷ t) back
      ∙ sym all-pending in
      let once : made ≡ without (cs ++ (fs ++ Some rest ∷ bs)) id =
      cores
      ∙ set-append_left (set cs (id - 1) None) (fs ++ Some rest ∷ bs) (id - 1) None (omega (arith, inside, length-set cs (id - 1) None))
      ∙ ap (λ (t : List (Option Core)). t ++ (fs ++ Some rest ∷ bs)) (set-set cs (id - 1) None None)
      ∙ sym (set-append_left cs (fs ++ Some rest ∷ bs) (id - 1) None inside) in
      let grown : new.view ≡ old.view ++ own_labels (length old.view + 1) parts.fresh = view ∙ ap (λ (n : ℕ). old.view ++ own_labels (length old.view + 1) n) (sym at.is.fresh) in
      divided-from k id parts old new cs (fs ++ Some rest ∷ bs) made ls b same grown once ds bounds.0 high

  -- what is left of the list is stable inside, too, and has no greater variable there than is noted
  rest-place : get_or (divided k id parts).cores (length k.cores + length cut.front) None ≡ Some (rest_of cut settled)
  rest-place =
      let before : length (without k.cores id ++ map Some cut.front) ≡ length k.cores + length cut.front =
      omega (arith, length-append (without k.cores id) (map Some cut.front), length-set k.cores (id - 1) None, length-map {B = Option Core} cut.front Some) in
      ap (λ (t : List (Option Core)). get_or (without k.cores id ++ t) (length k.cores + length cut.front) None) all-pending
      ∙ ap (λ (t : List (Option Core)). get_or t (length k.cores + length cut.front) None)
      (sym (append_assoc (without k.cores id) (map Some cut.front) (Some (rest_of cut settled) ∷ map Some cut.back)))
      ∙ ap (λ (i : ℕ). get_or ((without k.cores id ++ map Some cut.front) ++ Some (rest_of cut settled) ∷ map Some cut.back) i None) (sym before)
      ∙ get_or-append_seam (without k.cores id ++ map Some cut.front) (Some (rest_of cut settled)) (map Some cut.back) None

  rest-below : CoreBelow (length k.view + cut.fresh + 1) (rest_of cut settled)
  rest-below =
      let vars : length (divided k id parts).view + 1 ≡ length k.view + cut.fresh + 1 =
      omega (arith, length-append k.view (own_labels (length k.view + 1) parts.fresh), length-own_labels (length k.view + 1) parts.fresh, at.is.fresh) in
      subst (λ (n : ℕ). CoreBelow n (rest_of cut settled)) vars
      (below-there (divided k id parts).cores (length k.cores + length cut.front + 1) (rest_of cut settled)
      (at-next (divided k id parts).cores (length k.cores + length cut.front) (Some (rest_of cut settled)) rest-place) (length (divided k id parts).view + 1) cut-divided.below).0

  rest-stable : (top : ℕ) → InsideBelow (top + 1) at.core → most_inside (length k.view) cut.fresh settled ≤ top
      → IsStableInside (divided k id parts).view (rest_of cut settled) × InsideBelow (top + 1) (rest_of cut settled)
  rest-stable top inside most = (
    inside-further k.view parts.fresh (length k.view + cut.fresh + 1) (rest_of cut settled) rest-below
        (inside-stable k.view (rest_of cut settled) (at.is.stable k.view refl at.stable)),
    rest-inside cut.coming cut.head settled (length k.view) cut.fresh top at.is.comes (there-below k id settled is there)
        (settled-inside k.view (top + 1) at.core inside) rest-below most,
  )

  pub cut-stable : (old new : Rounds) → AreStableMarks k.view (set k.cores (id - 1) (Some settled)) old
      → ((place : ℕ) → IsMarked new place → IsMarked old place ⊎ (place ≡ length k.cores + length cut.front))
      → old.top ≤ new.top → InsideBelow (old.top + 1) at.core → most_inside (length k.view) cut.fresh settled ≤ new.top
      → AreStableMarks (divided k id parts).view (divided k id parts).cores new
  cut-stable old new before marked top inside most =
      let gone : AreStableMarks k.view (without k.cores id) old =
      subst (λ (cs : List (Option Core)). AreStableMarks k.view cs old) (set-set k.cores (id - 1) (Some settled) None)
      (stable-without k.view (set k.cores (id - 1) (Some settled)) old id before) in
      let stays : AreStableMarks (divided k id parts).view (divided k id parts).cores old =
      stable-behind k.view (without k.cores id) (map Some parts.cores) parts.fresh (length k.view + 1) old
      (below-there k.cores id at.core at.there (length k.view + 1) is.below).1 gone in
      stable-more (divided k id parts).view (divided k id parts).cores old new (length k.cores + length cut.front) marked top stays
      (omega (
        arith,
        length-append (without k.cores id) (map Some parts.cores),
        length-set k.cores (id - 1) None,
        ap length all-pending,
        length-append (map Some cut.front) (Some (rest_of cut settled) ∷ map Some cut.back),
        length-map {B = Option Core} cut.front Some,
      ))
      (λ core stands.
      let same : Some (rest_of cut settled) ≡ Some core = sym rest-place ∙ stands in
      subst (λ (c : Core). IsStableInside (divided k id parts).view c × InsideBelow (new.top + 1) c) (ap (the core) same)
      (rest-stable new.top (inside-more (old.top + 1) (new.top + 1) at.core (omega (arith, top)) inside) most))
