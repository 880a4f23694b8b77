use Rattle.mon_base.proofs.tests.steps_are_made_with_a_brand.Given as goal

-- the ledger is that of the blank
abbrev pub ghosts-two_steps : goal.ghosts-two_steps
ghosts-two_steps a = record { name = a.blank.name; parts = a.blank.parts }
