use Rattle.std.proofs.Common.{◌≤◌, ◌^◌, arith}
use Rattle.std.proofs.lemmas.Result.{IfOk-weaker}
use Rattle.answer_import.specs.Importing.{sought_of}
use Rattle.answer_import.proofs.Answered.{answered, refused}
use Rattle.answer_import.proofs.importing.import_answer.Goals as goal

pub returns-clause-complete : goal.returns-clause-complete
returns-clause-complete c v given shows =
    let laws = c.finding_laws.ensures in
    let few : c.args.compiled.cnf.vars ≤ 2 ^ 27 = omega (arith, c.requires.fits.vars) in
    IfOk-weaker c.import_text.result _ _
    (answered laws.one laws.either laws.once c.args.model.now (sought_of c.args.model.now c.args.compiled) few c.args.text.now v given shows) c.import_text.ensures

pub returns-clause-exact : goal.returns-clause-exact
returns-clause-exact c line fails =
    let laws = c.finding_laws.ensures in
    let few : c.args.compiled.cnf.vars ≤ 2 ^ 27 = omega (arith, c.requires.fits.vars) in
    IfOk-weaker c.import_text.result _ _
    (refused laws.one laws.either laws.once c.args.model.now (sought_of c.args.model.now c.args.compiled) few c.args.text.now line fails) c.import_text.ensures
