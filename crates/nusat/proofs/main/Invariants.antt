use Rattle.nusat.proofs.main.Given as goal

-- the ledger of the count of steps is the blank's
abbrev pub ghosts-run : goal.ghosts-run
ghosts-run a = record { name = a.blank.name; parts = a.blank.parts }
