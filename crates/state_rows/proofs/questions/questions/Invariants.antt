use Rattle.state_rows.proofs.questions.questions.Given as goal

-- the counter is that of the new ledger
abbrev pub ghosts-asked_of : goal.ghosts-asked_of
ghosts-asked_of g a = record { name = a.blank.name; parts = a.blank.parts }
