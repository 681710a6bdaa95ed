use Rattle.std.proofs.Common.{ap, sym, refl, ◌∙◌}
use Rattle.bee_text.specs.Lines.{lines_of}
use Rattle.bee_text.proofs.SearchLemmas.{none_at, separator_cut}
use Rattle.bee_text.proofs.LineLemmas.{lines_of-cut, lines_of-rest}
use Rattle.bee_text.proofs.lines.Lines.next_line.Goals as goal

pub returns-in_err-end-clause-none : goal.returns-in_err-end-clause-none
returns-in_err-end-clause-none c =
    rw (c.from_residual.ensures, ← c.self.view_is) (none_at _ c.self.inside.left.now (sym c.find_line_feed.ensures ∙ c.in_err-end.was), refl)

pub returns-in_err-end-clause-lines : goal.returns-in_err-end-clause-lines
returns-in_err-end-clause-lines c =
    rw (c.from_residual.ensures, ← c.self.view_is) (lines_of-rest c.self.inside.left.now (none_at _ c.self.inside.left.now (sym c.find_line_feed.ensures ∙ c.in_err-end.was)))

pub returns-clause-line : goal.returns-clause-line
returns-clause-line c = (separator_cut 10 c.self.inside.left.now c.in_ok-end.end (sym c.find_line_feed.ensures ∙ c.in_ok-end.was)).0

pub returns-clause-rest : goal.returns-clause-rest
returns-clause-rest c =
    rw (← c.self.view_is) ((separator_cut 10 c.self.inside.left.now c.in_ok-end.end (sym c.find_line_feed.ensures ∙ c.in_ok-end.was)).1)

pub returns-clause-lines : goal.returns-clause-lines
returns-clause-lines c =
    let cut = separator_cut 10 c.self.inside.left.now c.in_ok-end.end (sym c.find_line_feed.ensures ∙ c.in_ok-end.was) in
    rw (← c.self.view_is) (ap lines_of cut.1 ∙ lines_of-cut _ _ cut.0)
