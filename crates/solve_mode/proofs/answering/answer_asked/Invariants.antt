use Rattle.solve_mode.proofs.answering.answer_asked.Given as goal

-- the counter is that of the new ledger
abbrev pub ghosts-answer_with : goal.ghosts-answer_with
ghosts-answer_with g a = record { name = a.blank.name; parts = a.blank.parts }
