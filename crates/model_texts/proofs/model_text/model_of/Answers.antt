use Rattle.std.proofs.Common.{sym, subst}
use Rattle.bumblebee_reader.proofs.Pulled.{unread_tells_lem}
use Rattle.model_texts.specs.declared.model_text.ModelTextFault.{ModelTextFault}
use Rattle.model_texts.specs.ModelTexts.{IsCauseOf}
use Rattle.model_texts.proofs.Causes.{caused, read_caused}
use Rattle.model_texts.proofs.model_text.model_of.Goals as goal

pub returns-in-Err-clause-fault : goal.returns-in-Err-clause-fault
returns-in-Err-clause-fault c =
    subst (λ (e : ModelTextFault). IsCauseOf e c.args.text.now) (sym c.read_fault.ensures) (read_caused c.args.text.now c.in-Err.fault c.in-Err.ensures)

pub returns-in-Ok-finish-clause-model : goal.returns-in-Ok-finish-clause-model
returns-in-Ok-finish-clause-model c =
    let t = c.in-Ok.ensures in
    record {
      syntax = record { items = t.0 };
      spelled = ((unread_tells_lem c.args.text.now).items t.0).0 t.1;
      no_fault = c.in-Ok-finish.ensures.accepted t.0 t.2;
      model_is = c.in-Ok-finish.ensures.model t.0 t.2;
    }

pub returns-in-Err-finish-clause-fault : goal.returns-in-Err-finish-clause-fault
returns-in-Err-finish-clause-fault c =
    let t = c.in-Ok.ensures in
    subst (λ (e : ModelTextFault). IsCauseOf e c.args.text.now) (sym c.text_fault.ensures)
    (caused c.args.text.now (record { items = t.0 }) c.in-Err-finish.fault (((unread_tells_lem c.args.text.now).items t.0).0 t.1) (c.in-Err-finish.ensures.fault t.0 t.2))
