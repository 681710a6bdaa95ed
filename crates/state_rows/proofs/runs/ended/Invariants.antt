use Rattle.state_rows.proofs.runs.ended.Given as goal

-- the counter is that of the new ledger
abbrev pub ghosts-ended_with : goal.ghosts-ended_with
ghosts-ended_with g a = record { name = a.blank.name; parts = a.blank.parts }
