use Rattle.std.proofs.Common.{ap, sym, ◌∙◌}
use Rattle.std.specs.Option.{option_copied}
use Rattle.bee_text.specs.Words.{split_blanks, pieces_left}
use Rattle.bee_text.proofs.SearchLemmas.{none_at, separator_cut}
use Rattle.bee_text.proofs.WordLemmas.{split_blanks-cut, split_blanks-piece}
use Rattle.bee_text.proofs.words.Words.next_word.Goals as goal

pub returns-in-Some-clause-piece : goal.returns-in-Some-clause-piece
returns-in-Some-clause-piece c =
    let cut = separator_cut 32 c.in_ok-text.text.now c.in-Some.end (sym c.find_blank.ensures ∙ c.in-Some.is) in
    sym c.self.view_is ∙ (ap (λ o. pieces_left (option_copied o)) c.in_ok-text.was ∙ (ap split_blanks cut.1 ∙ split_blanks-cut _ _ cut.0))

pub returns-in-Some-clause-apart : goal.returns-in-Some-clause-apart
returns-in-Some-clause-apart c = (separator_cut 32 c.in_ok-text.text.now c.in-Some.end (sym c.find_blank.ensures ∙ c.in-Some.is)).0

pub returns-in-None-clause-piece : goal.returns-in-None-clause-piece
returns-in-None-clause-piece c =
    sym c.self.view_is ∙ (ap (λ o. pieces_left (option_copied o)) c.in_ok-text.was ∙ split_blanks-piece c.in_ok-text.text.now (none_at _ c.in_ok-text.text.now (sym c.find_blank.ensures ∙ c.in-None.is)))

pub returns-in-None-clause-apart : goal.returns-in-None-clause-apart
returns-in-None-clause-apart c = none_at _ c.in_ok-text.text.now (sym c.find_blank.ensures ∙ c.in-None.is)
