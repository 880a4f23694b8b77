use Rattle.code_reclaim.proofs.tests.codes_of_two_variables.Given as goal

-- the ledger is that of the blank
abbrev pub ghosts-left : goal.ghosts-left
ghosts-left g a = record { name = a.blank.name; parts = a.blank.parts }
