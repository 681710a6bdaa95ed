use Rattle.std.proofs.Common.{◌≡◌, ℤ, rules, w64, to_z, of_z, sym, subst, ◌∙◌}
use Rattle.bound_mode.specs.Bounded.{IsBoundText}
use Rattle.model_texts.proofs.ModelShapes.{typed, limited}
use Rattle.model_texts.proofs.HeavyFaults.{heavy_caused}
use Rattle.bound_mode.proofs.making.bound_text.Goals as goal
use Rattle.bound_mode.proofs.making.bound_text.Goals.{in-Ok, in-Err}

pub weigh-requires : goal.weigh-requires
weigh-requires c = limited c.args.text.now c.in_ok-model.model c.requires c.in_ok-model.ensures.model

pub write_bound-requires-clause-typed : goal.write_bound-requires-clause-typed
write_bound-requires-clause-typed c = typed c.args.text.now c.in_ok-model.model c.in_ok-model.ensures.model

pub write_bound-requires-clause-limits : goal.write_bound-requires-clause-limits
write_bound-requires-clause-limits c = limited c.args.text.now c.in_ok-model.model c.requires c.in_ok-model.ensures.model

pub returns-then-not-has_objective-clause-fault : goal.returns-then-not-has_objective-clause-fault
returns-then-not-has_objective-clause-fault c = elim c.match-weigh.branch [
  | in-Ok w ↦ rw w.result-is tt
  | in-Err w ↦ rw w.result-is (heavy_caused c.args.text.now c.in_ok-model.model w.in-Err.fault _ c.requires c.in_ok-model.ensures.model w.in-Err.ensures.heavy w.lower_fault.ensures)
]

pub returns-in-Ok-write_bound-clause-bounded : goal.returns-in-Ok-write_bound-clause-bounded
returns-in-Ok-write_bound-clause-bounded c = let e : to_z w64 (of_z w64 c.args.number) ≡ c.args.number = search rules in record {
  boundable = record {
    model = c.in_ok-model.model;
    says = c.in_ok-model.ensures.model;
    light = c.in-Ok-write_bound.ensures.light;
    seeks = sym c.has_objective.ensures ∙ c.if-not-has_objective.false;
  };
  is = subst (λ (m : ℤ). IsBoundText m c.in_ok-model.model c.in-Ok-write_bound.written.items) e c.in-Ok-write_bound.ensures.text;
}

pub returns-in-Err-write_bound-clause-fault : goal.returns-in-Err-write_bound-clause-fault
returns-in-Err-write_bound-clause-fault c =
    heavy_caused c.args.text.now c.in_ok-model.model c.in-Err-write_bound.fault _ c.requires c.in_ok-model.ensures.model c.in-Err-write_bound.ensures.heavy c.lower_fault-in-Err-write_bound.ensures
