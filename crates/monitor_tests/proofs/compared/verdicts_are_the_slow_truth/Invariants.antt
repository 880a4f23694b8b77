use Rattle.monitor_tests.proofs.compared.verdicts_are_the_slow_truth.Given as goal

-- the ledger is that of the blank
abbrev pub ghosts-first_unlike_log : goal.ghosts-first_unlike_log
ghosts-first_unlike_log g a = record { name = a.blank.name; parts = a.blank.parts }
