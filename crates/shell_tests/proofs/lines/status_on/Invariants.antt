use Rattle.shell_tests.proofs.lines.status_on.Given as goal

-- the ledger of the count of steps is the blank's
abbrev pub ghosts-sound_status : goal.ghosts-sound_status
ghosts-sound_status a = record { name = a.blank.name; parts = a.blank.parts }
