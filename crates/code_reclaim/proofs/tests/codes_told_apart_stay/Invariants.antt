use Rattle.code_reclaim.proofs.tests.codes_told_apart_stay.Given as goal

-- the ledger is that of the blank
abbrev pub ghosts-swept : goal.ghosts-swept
ghosts-swept g a = record { name = a.blank.name; parts = a.blank.parts }
