use Rattle.answer_rows.proofs.answers.answered.Given as goal

-- the counter is that of the new ledger
abbrev pub ghosts-answer_with : goal.ghosts-answer_with
ghosts-answer_with a = record { name = a.blank.name; parts = a.blank.parts }
