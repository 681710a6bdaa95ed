use Rattle.bee_cli.proofs.reporting.report.Goals as goal

pub returns-in-Some : goal.returns-in-Some
returns-in-Some g c =
    let said = c.say_refusal.ensures in
    rw c.in-Refused.is (record { line = said.text; is = said.is; took = said.took })

pub returns-in-Model : goal.returns-in-Model
returns-in-Model g c =
    let said = c.say_fault.ensures in
    rw c.in-Model.is (record { line = said.text; is = said.is; took = said.took })
