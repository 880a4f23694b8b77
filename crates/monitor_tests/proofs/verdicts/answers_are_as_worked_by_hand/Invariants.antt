use Rattle.monitor_tests.proofs.verdicts.answers_are_as_worked_by_hand.Given as goal

-- the ledger is that of the blank
abbrev pub ghosts-answers : goal.ghosts-answers
ghosts-answers g a = record { name = a.blank.name; parts = a.blank.parts }
