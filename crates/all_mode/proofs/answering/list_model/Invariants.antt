use Rattle.all_mode.proofs.answering.list_model.Given as goal

-- the counter is that of the new ledger
abbrev pub ghosts-list_with : goal.ghosts-list_with
ghosts-list_with g a = record { name = a.blank.name; parts = a.blank.parts }
