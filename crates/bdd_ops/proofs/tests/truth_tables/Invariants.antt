use Rattle.bdd_ops.proofs.tests.truth_tables.Given as goal

-- the ledger is that of the blank
abbrev pub ghosts-truths : goal.ghosts-truths
ghosts-truths g a = record { name = a.blank.name; parts = a.blank.parts }

abbrev pub ghosts-negated : goal.ghosts-negated
ghosts-negated g a = record { name = a.blank.name; parts = a.blank.parts }

abbrev pub ghosts-spelled : goal.ghosts-spelled
ghosts-spelled g a = record { name = a.blank.name; parts = a.blank.parts }
