use Rattle.shell_tests.proofs.said.said_on.Given as goal

-- the ledger of the count of steps is the blank's
abbrev pub ghosts-session : goal.ghosts-session
ghosts-session a = record { name = a.blank.name; parts = a.blank.parts }
