use Rattle.std.proofs.Common.{◌≡◌, ◌+◌, ℤ, true, to_z, of_z, sym, subst}
use Rattle.std.specs.BTreeSet.{BTreeSet, contains, Updates}
use Rattle.std.specs.Ordering.{int_cmp}
use Rattle.core_forms.proofs.Bounds.{small_bits}
use Rattle.equation_runs.specs.DifferentRuns.{is_held_before}
use Rattle.equation_runs.proofs.DifferentSets.{held-next, held-same}
use Rattle.equation_runs.proofs.different.held_values.Goals as goal
use Rattle.equation_runs.proofs.different.held_values.Goals.{in-Some+in_ok-insert, in_default}

pub loop-place-preserved : goal.loop-place-preserved
loop-place-preserved c = elim c.match-constant_at.branch [
  | in-Some+in_ok-insert w ↦
      let value = w.in-Some.value in
      subst (λ (s : BTreeSet ℤ). (v : ℤ) → contains int_cmp s v ≡ is_held_before c.args.ints.now c.args.conditions.now (c.loop-place.place + 1) v) (sym w.held-is)
      (held-next c.args.ints.now c.args.conditions.now c.loop-place.place value w.in-Some.ensures.value c.loop-place.held w.insert.new.self
      (subst (λ (v : ℤ). Updates int_cmp c.loop-place.held w.insert.new.self v true) (small_bits value w.in-Some.ensures.small) w.in_ok-insert.ensures.updates)
      c.loop-place.invariant)
  | in_default w ↦
      subst (λ (s : BTreeSet ℤ). (v : ℤ) → contains int_cmp s v ≡ is_held_before c.args.ints.now c.args.conditions.now (c.loop-place.place + 1) v) (sym w.held-is)
      (held-same c.args.ints.now c.args.conditions.now c.loop-place.place w.in_default.ensures.value c.loop-place.held c.loop-place.invariant)
]
