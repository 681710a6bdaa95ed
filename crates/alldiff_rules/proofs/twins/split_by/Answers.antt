use Rattle.std.proofs.Common.{◌≡◌, ◌<◌, ◌+◌, ℤ, ℕ, sym, ◌∙◌, subst, to_z, of_z}
use Rattle.std.specs.Int.{w128}
use Rattle.std.specs.BTreeMap.{BTreeMap, get, Updates}
use Rattle.std.specs.Prelude.{Some}
use Rattle.core_forms.proofs.Bounds.{small_bits}
use Rattle.alldiff_rules.specs.declared.table.Places.{Places}
use Rattle.alldiff_rules.specs.Table.{pair_cmp, joined, Shows}
use Rattle.alldiff_rules.specs.Twins.{IsSplitAt}
use Rattle.alldiff_rules.proofs.Sounds.{same_choice}
use Rattle.alldiff_rules.proofs.Tables.{exact_choices, tied_choice, next-shown, none-shown}
use Rattle.alldiff_rules.proofs.twins.split_by.Goals as goal
use Rattle.alldiff_rules.proofs.twins.split_by.Goals.{in-Some+in_ok-put_pair, in_default}

pub loop-place-preserved : goal.loop-place-preserved
loop-place-preserved c = elim c.match-split_at.branch [
  | in-Some+in_ok-put_pair w ↦
      let key : to_z w128 (of_z w128 w.in-Some.choice.low) ≡ w.in-Some.choice.low = small_bits w.in-Some.choice.low w.in-Some.ensures.small in
      let updates : Updates pair_cmp c.loop-place.table w.put_pair.new.table (w.in-Some.choice.low, w.in-Some.choice.weight) (Some (joined (get pair_cmp c.loop-place.table (w.in-Some.choice.low, w.in-Some.choice.weight)) c.loop-place.place)) =
      subst (λ (v : ℤ). Updates pair_cmp c.loop-place.table w.put_pair.new.table (v, w.in-Some.choice.weight) (Some (joined (get pair_cmp c.loop-place.table (v, w.in-Some.choice.weight)) c.loop-place.place))) key w.in_ok-put_pair.ensures in
      subst (λ (m : BTreeMap (ℤ × ℕ) Places). (key : ℤ × ℕ) → Shows (λ i. (i < c.loop-place.place + 1) × IsSplitAt c.args.ints.now c.args.conditions.now c.args.atom key.0 key.1 i) (get pair_cmp m key)) (sym w.table-is)
      (next-shown pair_cmp exact_choices tied_choice (λ key i. IsSplitAt c.args.ints.now c.args.conditions.now c.args.atom key.0 key.1 i) c.loop-place.place c.loop-place.table c.loop-place.invariant (w.in-Some.choice.low, w.in-Some.choice.weight)
      w.in-Some.ensures.value
      (λ v p. same_choice v w.in-Some.choice.low w.in-Some.choice.weight c.args.atom c.args.atom (sym p.1 ∙ w.in-Some.ensures.value.1)) w.put_pair.new.table updates)
  | in_default w ↦
      subst (λ (m : BTreeMap (ℤ × ℕ) Places). (key : ℤ × ℕ) → Shows (λ i. (i < c.loop-place.place + 1) × IsSplitAt c.args.ints.now c.args.conditions.now c.args.atom key.0 key.1 i) (get pair_cmp m key)) (sym w.table-is)
      (none-shown pair_cmp exact_choices tied_choice (λ key i. IsSplitAt c.args.ints.now c.args.conditions.now c.args.atom key.0 key.1 i) c.loop-place.place c.loop-place.table c.loop-place.invariant (λ v p. w.in_default.ensures.value v.0 v.1 p))
]
