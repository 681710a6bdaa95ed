use Rattle.std.proofs.Common.{◌≡◌, subst}
use Rattle.search_options.specs.declared.options.SearchOptions.{SearchOptions}
use Rattle.opb_mode.specs.OpbMode.{AnswersFile}
use Rattle.opb_mode.proofs.Ends.{given_file}
use Rattle.opb_mode.proofs.answer_mode.SolvingFileOneText.make.Goals as goal

pub returns-in-Ok : goal.returns-in-Ok
returns-in-Ok g c =
    let v = c.self.view_is in
    let same : c.self.inside.options ≡ c.args.self.now = cc in
    given_file c.args.self.now c.args.text.now c.in-Ok.outcome c.in-Ok.written.items
    (subst (λ (o : SearchOptions). AnswersFile o c.args.text.now c.in-Ok.outcome c.in-Ok.written.items) same c.in-Ok.ensures.solved)
