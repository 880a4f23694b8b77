use Rattle.witness.proofs.tests.witnesses_are_those_of_the_rule.Given as goal

-- the ledger is that of the blank
abbrev pub ghosts-found : goal.ghosts-found
ghosts-found g a = record { name = a.blank.name; parts = a.blank.parts }
