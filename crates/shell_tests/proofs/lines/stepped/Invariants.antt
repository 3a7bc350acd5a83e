use Rattle.shell_tests.proofs.lines.stepped.Given as goal

-- the ledger of the count of steps is the blank's
abbrev pub ghosts-three_lines : goal.ghosts-three_lines
ghosts-three_lines a = record { name = a.blank.name; parts = a.blank.parts }
