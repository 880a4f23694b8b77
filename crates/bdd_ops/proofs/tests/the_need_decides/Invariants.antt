use Rattle.bdd_ops.proofs.tests.the_need_decides.Given as goal

-- the ledger is that of the blank
abbrev pub ghosts-in_two : goal.ghosts-in_two
ghosts-in_two g a = record { name = a.blank.name; parts = a.blank.parts }

abbrev pub ghosts-in_three : goal.ghosts-in_three
ghosts-in_three g a = record { name = a.blank.name; parts = a.blank.parts }
