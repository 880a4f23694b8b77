use Rattle.timed_bits.proofs.tests.ages_that_are_later.Given as goal

-- the ledger is that of the blank
abbrev pub ghosts-aged : goal.ghosts-aged
ghosts-aged g a = record { name = a.blank.name; parts = a.blank.parts }
