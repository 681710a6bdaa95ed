use Rattle.std.proofs.Common.{◌≡◌, ◌<◌, ◌+◌, ℤ, ℕ, sym, subst, to_z, of_z, length, arith}
use Rattle.std.specs.Int.{w128}
use Rattle.std.specs.BTreeMap.{BTreeMap, get, Updates}
use Rattle.std.specs.Ordering.{int_cmp}
use Rattle.std.specs.Prelude.{Some}
use Rattle.std.proofs.lemmas.Cmp.{tied_itself, int_cmp_total}
use Rattle.std.proofs.lemmas.Map.Lookups.{exact_signed}
use Rattle.core_forms.proofs.Bounds.{small_bits}
use Rattle.alldiff_rules.specs.declared.table.Places.{Places}
use Rattle.alldiff_rules.specs.Members.{IsHolderAt}
use Rattle.alldiff_rules.specs.Table.{joined, Shows}
use Rattle.alldiff_rules.proofs.Holders.{one-holder}
use Rattle.alldiff_rules.proofs.Tables.{next-shown, none-shown}
use Rattle.alldiff_rules.proofs.narrow.holders.Goals as goal
use Rattle.alldiff_rules.proofs.narrow.holders.Goals.{in-Some+in_ok-put, in_default}

pub loop-place-preserved : goal.loop-place-preserved
loop-place-preserved c = elim c.match-held_value.branch [
  | in-Some+in_ok-put w ↦
      let key : to_z w128 (of_z w128 w.in-Some.value) ≡ w.in-Some.value = small_bits w.in-Some.value w.in-Some.ensures.small in
      let updates : Updates int_cmp c.loop-place.table w.put.new.table w.in-Some.value (Some (joined (get int_cmp c.loop-place.table w.in-Some.value) c.loop-place.place)) =
      subst (λ (v : ℤ). Updates int_cmp c.loop-place.table w.put.new.table v (Some (joined (get int_cmp c.loop-place.table v) c.loop-place.place))) key w.in_ok-put.ensures.updates in
      subst (λ (m : BTreeMap ℤ Places). (v : ℤ) → Shows (λ i. (i < c.loop-place.place + 1) × IsHolderAt c.args.ints.now c.args.conditions.now c.args.upper v i) (get int_cmp m v)) (sym w.table-is)
      (next-shown int_cmp exact_signed (tied_itself int_cmp_total) (IsHolderAt c.args.ints.now c.args.conditions.now c.args.upper) c.loop-place.place c.loop-place.table c.loop-place.invariant w.in-Some.value w.in-Some.ensures.value
      (λ v p. one-holder c.args.ints.now c.args.conditions.now c.loop-place.place c.args.upper v w.in-Some.value p w.in-Some.ensures.value) w.put.new.table updates)
  | in_default w ↦
      subst (λ (m : BTreeMap ℤ Places). (v : ℤ) → Shows (λ i. (i < c.loop-place.place + 1) × IsHolderAt c.args.ints.now c.args.conditions.now c.args.upper v i) (get int_cmp m v)) (sym w.table-is)
      (none-shown int_cmp exact_signed (tied_itself int_cmp_total) (IsHolderAt c.args.ints.now c.args.conditions.now c.args.upper) c.loop-place.place c.loop-place.table c.loop-place.invariant w.in_default.ensures.value)
]

pub returns : goal.returns
returns c =
    let whole : c.loop-place.place ≡ length c.args.ints.now = omega (arith, c.loop-place-test.false, c.loop-place.auto.place-end) in
    subst (λ (n : ℕ). (v : ℤ) → Shows (λ i. (i < n) × IsHolderAt c.args.ints.now c.args.conditions.now c.args.upper v i) (get int_cmp c.loop-place.table v)) whole c.loop-place.invariant
