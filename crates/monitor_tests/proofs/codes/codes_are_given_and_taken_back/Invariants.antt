use Rattle.monitor_tests.proofs.codes.codes_are_given_and_taken_back.Given as goal

-- the ledger is that of the blank
abbrev pub ghosts-codes_after : goal.ghosts-codes_after
ghosts-codes_after g a = record { name = a.blank.name; parts = a.blank.parts }
