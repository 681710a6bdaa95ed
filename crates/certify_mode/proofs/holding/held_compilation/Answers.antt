use Rattle.std.proofs.Common.{sym, ◌∙◌}
use Rattle.model_texts.proofs.ModelShapes.{typed, limited}
use Rattle.model_texts.proofs.HeavyFaults.{heavy_caused}
use Rattle.certify_mode.proofs.Holdings.{held-twin}
use Rattle.certify_mode.proofs.holding.held_compilation.Goals as goal
use Rattle.certify_mode.proofs.holding.held_compilation.Goals.{in-Ok, in-Err}

pub weigh-requires : goal.weigh-requires
weigh-requires c = limited c.args.text.now c.in_ok-model.model c.requires c.in_ok-model.ensures.model

pub returns-then-has_second-clause-held : goal.returns-then-has_second-clause-held
returns-then-has_second-clause-held c = elim c.match-weigh.branch [
  | in-Ok w ↦ rw w.result-is (record {
    model = c.in_ok-model.model;
    held = record { within = c.requires; says = c.in_ok-model.ensures.model; light = w.in-Ok.ensures.light };
    two = sym c.has_second.ensures ∙ c.if-has_second.true;
  })
  | in-Err w ↦ rw w.result-is tt
]

pub returns-then-has_second-clause-fault : goal.returns-then-has_second-clause-fault
returns-then-has_second-clause-fault c = elim c.match-weigh.branch [
  | in-Ok w ↦ rw w.result-is tt
  | in-Err w ↦ rw w.result-is (heavy_caused c.args.text.now c.in_ok-model.model w.in-Err.fault _ c.requires c.in_ok-model.ensures.model w.in-Err.ensures.heavy w.lower_fault.ensures)
]

pub compile_model-requires-clause-typed : goal.compile_model-requires-clause-typed
compile_model-requires-clause-typed c = typed c.args.text.now c.in_ok-twin.twin c.in_ok-twin.ensures.model

pub compile_model-requires-clause-limits : goal.compile_model-requires-clause-limits
compile_model-requires-clause-limits c = limited c.args.text.now c.in_ok-twin.twin c.requires c.in_ok-twin.ensures.model

pub returns-in-Ok-compile_model-clause-held : goal.returns-in-Ok-compile_model-clause-held
returns-in-Ok-compile_model-clause-held c = record {
  light = held-twin c.args.text.now c.in_ok-model.model c.in_ok-twin.twin c.in-Ok-compile_model.compiled c.requires c.in_ok-model.ensures.model c.in_ok-twin.ensures.model c.in-Ok-compile_model.ensures.light c.in-Ok-compile_model.ensures.compiled c.in-Ok-compile_model.ensures.fits;
  one = sym c.has_second.ensures ∙ c.if-has_second.false;
}

pub returns-in-Err-compile_model-clause-fault : goal.returns-in-Err-compile_model-clause-fault
returns-in-Err-compile_model-clause-fault c =
    heavy_caused c.args.text.now c.in_ok-twin.twin c.in-Err-compile_model.fault _ c.requires c.in_ok-twin.ensures.model c.in-Err-compile_model.ensures.heavy c.lower_fault-in-Err-compile_model.ensures
