use Rattle.core_forms.specs.Contents.{ints_of}
use Rattle.core_forms.specs.Totals.{before_last}
use Rattle.equation_runs.proofs.Turns.{last-told, last-over}
use Rattle.equation_runs.proofs.run.run_at_edge.Goals as goal

pub returns-in-Some-clause-told : goal.returns-in-Some-clause-told
returns-in-Some-clause-told g c =
    let core = c.args.core.now in
    last-told core (before_last (ints_of core)) c.in-Some.last.now c.in-Some.ensures c.chains_alone.result c.chains_alone.ensures

pub returns-in-Some-clause-below : goal.returns-in-Some-clause-below
returns-in-Some-clause-below g c =
    let core = c.args.core.now in
    last-over core (before_last (ints_of core)) c.in-Some.last.now c.in-Some.ensures c.chains_alone.result c.chains_alone.ensures
