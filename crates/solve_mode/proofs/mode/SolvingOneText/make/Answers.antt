use Rattle.std.proofs.Common.{◌≡◌, subst}
use Rattle.search_options.specs.declared.options.SearchOptions.{SearchOptions}
use Rattle.solve_mode.specs.Solved.{Answers}
use Rattle.solve_mode.proofs.Ends.{given_text}
use Rattle.solve_mode.proofs.mode.SolvingOneText.make.Goals as goal

pub returns-in-Ok : goal.returns-in-Ok
returns-in-Ok g c =
    let v = c.self.view_is in
    let same : c.self.inside.options ≡ c.args.self.now = cc in
    given_text c.args.self.now c.args.text.now c.in-Ok.outcome c.in-Ok.written.items
    (subst (λ (o : SearchOptions). Answers o c.args.text.now c.in-Ok.outcome c.in-Ok.written.items) same c.in-Ok.ensures.solved)
