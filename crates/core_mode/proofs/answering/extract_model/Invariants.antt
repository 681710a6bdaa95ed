use Rattle.core_mode.proofs.answering.extract_model.Given as goal

-- the counter is that of the new ledger
abbrev pub ghosts-extract_with : goal.ghosts-extract_with
ghosts-extract_with g a = record { name = a.blank.name; parts = a.blank.parts }
