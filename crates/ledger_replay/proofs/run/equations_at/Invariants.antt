use Rattle.ledger_replay.proofs.run.equations_at.Given as goal

-- the counters are those of the new ledgers
abbrev pub ghosts-equations_at_edge : goal.ghosts-equations_at_edge
ghosts-equations_at_edge a = record { name = a.blank.name; parts = a.blank.parts }

abbrev pub ghosts-equations_of : goal.ghosts-equations_of
ghosts-equations_of a = record { name = a.blank.name; parts = a.blank.parts }
