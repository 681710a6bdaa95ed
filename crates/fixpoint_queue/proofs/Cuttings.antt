-- Cores that are stable, perhaps but for their edge, and how they are cut.
use Rattle.std.proofs.Common.{◌≡◌, ◌⊎◌, inl, inr, ℕ, zero, suc, ◌+◌, ◌-◌, ◌≤◌, ◌<◌, ◌^◌, true, List, [], ◌∷◌, ◌++◌, map, length, get_or, refl, sym, ap, ◌∙◌, subst, arith, ⊎_elim, Some, None}
use Rattle.std.specs.Prelude.{Contains, option_map}
use Rattle.std.specs.List.Sorted.{IsStrictlyIncreasing}
use Rattle.std.proofs.lemmas.List.{get_or_default, length-append}
use Rattle.core_forms.specs.declared.form.Core.{Core}
use Rattle.core_forms.specs.Edges.{settled_core, listed_vars}
use Rattle.core_forms.specs.Stable.{IsStableCore}
use Rattle.core_forms.specs.Trimmed.{trimmed_core}
use Rattle.core_forms.specs.Variables.{core_vars}
use Rattle.core_forms.proofs.EdgeLaws.{settled-trimmed}
use Rattle.core_forms.proofs.Stability.{stable_core}
use Rattle.part_base.specs.declared.cut.Cut.{Cut}
use Rattle.part_base.specs.declared.parts.Parts.{Parts}
use Rattle.part_base.specs.Cuts.{rest_of}
use Rattle.core_parts.specs.Parts.{parts_at, is_compound_of}
use Rattle.step_kernel.specs.Kernel.{Kernel, core_at, trimmed_at, IsKernel}
use Rattle.step_kernel.specs.Least.{is_compound_if}
use Rattle.step_kernel.specs.SplitAt.{ArePartsAt, IsStableAt, IsCutAt}
use Rattle.fixpoint_queue.specs.Listed.{HasVar}
use Rattle.fixpoint_queue.specs.Split.{AreCutLists, AreFrom}
use Rattle.fixpoint_queue.specs.Standing.{AreVars, AreAllVars}
use Rattle.fixpoint_queue.proofs.Splittings.{AreListed, as-many, part, fresh-bound}
use Rattle.fixpoint_queue.proofs.Stood.{some-of}

-- ---- a core that is stable

module _ (k : Kernel) (id : ℕ) (core : Core) (s : IsStableAt k id) (at : core_at k.cores id ≡ Some core) where
  pub stable-there : IsStableCore k.view core
  stable-there = subst (IsStableCore k.view) (some-of s.core core (sym s.there ∙ at)) s.stable

  -- the store has it as it was made
  pub stable-trimmed : trimmed_at k id ≡ Some core
  stable-trimmed = ap (option_map (trimmed_core k.view)) at ∙ ap (λ (c : Core). Some c) (stable_core k.view core stable-there)

  pub stable-compound : is_compound_if (trimmed_at k id) ≡ true → is_compound_of core ≡ true
  stable-compound compound = sym (ap is_compound_if stable-trimmed) ∙ compound

-- the parts of it as the store has it
pub parts-are : (k : Kernel) (id : ℕ) (core : Core) (parts : Parts) → trimmed_at k id ≡ Some core → is_compound_of core ≡ true → parts ≡ parts_at (length k.view + 1) core → ArePartsAt k id parts
parts-are k id core parts there compound are = record { core = core; there = there; compound = compound; are = are }

-- ---- a cut

-- the core as the store has it
abbrev pub cut-core : (k : Kernel) (id : ℕ) (cut : Cut) → IsCutAt k id cut → Core
cut-core k id cut at = settled_core k.view at.core

pub cut-parts : (k : Kernel) (id : ℕ) (cut : Cut) (at : IsCutAt k id cut) → ArePartsAt k id (parts_at (length k.view + 1) (cut-core k id cut at))
cut-parts k id cut at = record {
  core = cut-core k id cut at;
  there = ap (option_map (trimmed_core k.view)) at.there ∙ ap (λ (c : Core). Some c) (sym (settled-trimmed k.view at.core at.inside));
  compound = at.compound;
  are = refl;
}

pub cut-fresh : (k : Kernel) (id : ℕ) (cut : Cut) (at : IsCutAt k id cut) → cut.fresh ≡ (parts_at (length k.view + 1) (cut-core k id cut at)).fresh
cut-fresh k id cut at = sym at.is.fresh

-- there are not too many variables with the fresh ones
pub cut-bound : (k : Kernel) (id : ℕ) (cut : Cut) → IsKernel k → IsCutAt k id cut → length k.view + cut.fresh ≤ 2 ^ 27
cut-bound k id cut is at = omega (arith, fresh-bound k id (parts_at (length k.view + 1) (cut-core k id cut at)) is (cut-parts k id cut at), at.is.fresh)

-- so many variables from one on stand in order
pub from-increasing : (next count : ℕ) (vars : List ℕ) → AreFrom next count vars → IsStrictlyIncreasing vars
from-increasing next count vars are i lt = omega (arith, are.at i (omega (arith, lt, are.many)), are.at (i + 1) (omega (arith, lt, are.many)))

pub from-inside : (next count : ℕ) (vars : List ℕ) → AreFrom next count vars → (v : ℕ) → Contains vars v → (next ≤ v) × (v < next + count)
from-inside next count vars are v there =
    let inside : there.0 < count = omega (arith, there.1, are.many) in
    let same : next + there.0 ≡ v = sym (are.at there.0 inside) ∙ get_or_default vars there.0 0 v there.1 ∙ there.2 in
    (omega (arith, same), omega (arith, same, inside))

from-each : (next count : ℕ) (vars : List ℕ) → AreFrom next count vars → (v : ℕ) → next ≤ v → v < next + count → Contains vars v
from-each next count vars are v low high =
    let i = v - next in
    let inside : i < length vars = omega (arith, low, high, are.many) in
    let e : next + i ≡ v = omega (arith, low) in
    (i, inside, get_or_default vars i v 0 inside ∙ are.at i (omega (arith, inside, are.many)) ∙ e)

-- the parts in front and behind, and what is left of the list between them
listed-cut : (before behind : List (List ℕ)) (front back : List Core) (rest : Core) → AreAllVars before front → AreAllVars behind back → (i : ℕ) → i < length (before ++ [] ∷ behind) →
    (core : Core) × (get_or (map Some (front ++ rest ∷ back)) i None ≡ Some core) × ((i ≡ length front → ⊥) → AreVars (get_or (before ++ [] ∷ behind) i []) core)
listed-cut [] behind [] back rest h b zero lt = (rest, refl, λ apart. absurd (apart refl))
listed-cut [] behind [] back rest h b (suc i) lt = let p = part behind back b i (omega (arith, lt)) in (p.0, p.1, λ apart. p.2)
listed-cut [] behind (c ∷ front) back rest h b i lt = absurd h
listed-cut (l ∷ before) behind [] back rest h b i lt = absurd h
listed-cut (l ∷ before) behind (c ∷ front) back rest h b zero lt = (c, refl, λ apart. h.0)
listed-cut (l ∷ before) behind (c ∷ front) back rest h b (suc i) lt =
    let p = listed-cut before behind front back rest h.1 b i (omega (arith, lt)) in
    (p.0, p.1, λ apart. p.2 (λ e. apart (omega (arith, e))))

rest-there : (front back : List Core) (rest : Core) → get_or (map Some (front ++ rest ∷ back)) (length front) None ≡ Some rest
rest-there [] back rest = refl
rest-there (c ∷ front) back rest = rest-there front back rest

module _ (k : Kernel) (id : ℕ) (cut : Cut) (lists : List (List ℕ)) (come : List ℕ) (at : IsCutAt k id cut) (are : AreCutLists lists cut) (from : AreFrom (length k.view + 1) cut.fresh come) where
  abbrev core-now : Core
  core-now = cut-core k id cut at

  abbrev parts : Parts
  parts = parts_at (length k.view + 1) core-now

  -- what is left of the list has a place
  pub rest-inside : length cut.front < length lists
  rest-inside = omega (arith, ap length are.are, length-append are.before ([] ∷ are.behind), as-many are.before cut.front are.front)

  pub parts-listed : AreListed k id parts (length cut.front) (length k.cores + length cut.front + 1) come lists
  parts-listed = record {
    many = omega (
      arith,
      ap length are.are,
      length-append are.before ([] ∷ are.behind),
      as-many are.before cut.front are.front,
      as-many are.behind cut.back are.back,
      ap length at.is.cores,
      length-append cut.front (rest_of cut core-now ∷ cut.back),
    );
    listed = λ i lt.
        let inside : i < length (are.before ++ [] ∷ are.behind) = subst (λ (l : List (List ℕ)). i < length l) are.are lt in
        let p = listed-cut are.before are.behind cut.front cut.back (rest_of cut core-now) are.front are.back i inside in (
          p.0,
          ap (λ (cs : List Core). get_or (map Some cs) i None) at.is.cores ∙ p.1,
          λ apart. subst (λ (l : List (List ℕ)). AreVars (get_or l i []) p.0) (sym are.are) (p.2 (λ e. apart (omega (arith, e)))),
        );
    from = λ v there. let b = from-inside (length k.view + 1) cut.fresh come from v there in (omega (arith, b.0), omega (arith, b.1, at.is.fresh));
    all = all;
  }
    where
      all : length cut.front < length lists → (core : Core) → get_or (map Some parts.cores) (length cut.front) None ≡ Some core → (v : ℕ) → Contains (core_vars core) v → Contains come v ⊎ HasVar k id v
      all inside core is v there =
          let same : core ≡ rest_of cut core-now =
          some-of core (rest_of cut core-now) (sym is ∙ ap (λ (cs : List Core). get_or (map Some cs) (length cut.front) None) at.is.cores ∙ rest-there cut.front cut.back (rest_of cut core-now)) in
          ⊎_elim (λ (h : Contains (listed_vars core-now) v). inr (at.core, at.there, at.own v h))
          (λ (b : (length k.view + 1 ≤ v) × (v < length k.view + 1 + cut.fresh)). inl (from-each (length k.view + 1) cut.fresh come from v b.0 b.1))
          (at.is.vars v (subst (λ (c : Core). Contains (core_vars c) v) same there))
