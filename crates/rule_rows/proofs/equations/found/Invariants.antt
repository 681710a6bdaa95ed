use Rattle.rule_rows.proofs.equations.found.Given as goal

-- the counter is that of the new ledger
abbrev pub ghosts-found_with : goal.ghosts-found_with
ghosts-found_with a = record { name = a.blank.name; parts = a.blank.parts }
