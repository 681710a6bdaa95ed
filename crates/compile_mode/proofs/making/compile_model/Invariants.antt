use Rattle.compile_mode.proofs.making.compile_model.Given as goal

-- the counter is that of the new ledger
abbrev pub ghosts-compile_with : goal.ghosts-compile_with
ghosts-compile_with a = record { name = a.blank.name; parts = a.blank.parts }
