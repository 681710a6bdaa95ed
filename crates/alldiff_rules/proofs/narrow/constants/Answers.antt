use Rattle.std.proofs.Common.{◌≡◌, ◌<◌, ◌+◌, ℤ, sym, ap, ◌∙◌, subst, to_z, of_z}
use Rattle.std.specs.Int.{w128}
use Rattle.std.specs.BTreeMap.{BTreeMap, get, Updates}
use Rattle.std.specs.Ordering.{int_cmp}
use Rattle.std.specs.Prelude.{Some}
use Rattle.std.proofs.lemmas.Cmp.{tied_itself, int_cmp_total}
use Rattle.std.proofs.lemmas.Map.Lookups.{exact_signed}
use Rattle.order_ints.specs.declared.order_int.OrdInt.{OrdInt}
use Rattle.order_ints.specs.OrderMade.{constant_of}
use Rattle.core_forms.proofs.Bounds.{small_bits}
use Rattle.alldiff_rules.specs.declared.table.Places.{Places}
use Rattle.alldiff_rules.specs.Members.{IsConstantAt}
use Rattle.alldiff_rules.specs.Table.{joined, Shows}
use Rattle.alldiff_rules.proofs.Tables.{next-shown, none-shown}
use Rattle.alldiff_rules.proofs.narrow.constants.Goals as goal
use Rattle.alldiff_rules.proofs.narrow.constants.Goals.{in-Some+in_ok-put, in_default}

same_constant : (u v : ℤ) → constant_of u ≡ constant_of v → u ≡ v
same_constant u v e = ap (λ (a : OrdInt). a.base) e

pub loop-place-preserved : goal.loop-place-preserved
loop-place-preserved c = elim c.match-constant_at.branch [
  | in-Some+in_ok-put w ↦
      let key : to_z w128 (of_z w128 w.in-Some.value) ≡ w.in-Some.value = small_bits w.in-Some.value w.in-Some.ensures.small in
      let updates : Updates int_cmp c.loop-place.table w.put.new.table w.in-Some.value (Some (joined (get int_cmp c.loop-place.table w.in-Some.value) c.loop-place.place)) =
      subst (λ (v : ℤ). Updates int_cmp c.loop-place.table w.put.new.table v (Some (joined (get int_cmp c.loop-place.table v) c.loop-place.place))) key w.in_ok-put.ensures.updates in
      subst (λ (m : BTreeMap ℤ Places). (v : ℤ) → Shows (λ i. (i < c.loop-place.place + 1) × IsConstantAt c.args.ints.now c.args.conditions.now v i) (get int_cmp m v)) (sym w.table-is)
      (next-shown int_cmp exact_signed (tied_itself int_cmp_total) (IsConstantAt c.args.ints.now c.args.conditions.now) c.loop-place.place c.loop-place.table c.loop-place.invariant w.in-Some.value w.in-Some.ensures.value
      (λ v p. same_constant v w.in-Some.value (sym p.1 ∙ w.in-Some.ensures.value.1)) w.put.new.table updates)
  | in_default w ↦
      subst (λ (m : BTreeMap ℤ Places). (v : ℤ) → Shows (λ i. (i < c.loop-place.place + 1) × IsConstantAt c.args.ints.now c.args.conditions.now v i) (get int_cmp m v)) (sym w.table-is)
      (none-shown int_cmp exact_signed (tied_itself int_cmp_total) (IsConstantAt c.args.ints.now c.args.conditions.now) c.loop-place.place c.loop-place.table c.loop-place.invariant w.in_default.ensures.value)
]
