use Rattle.std.proofs.lemmas.Result.{IfOk-weaker}
use Rattle.alldiff_rules.proofs.ExactLaws.{told-exact}
use Rattle.alldiff_rules.proofs.instances.is_instance.Goals as goal

pub returns-in-Form-clause-test : goal.returns-in-Form-clause-test
returns-in-Form-clause-test c =
    IfOk-weaker c.is_stated.result _ _ (told-exact c.args.core.now c.args.e.now c.in-Form.is) c.is_stated.ensures
