use Rattle.timed_bits.proofs.tests.aged.Goals as goal

pub later-requires-clause-two : goal.later-requires-clause-two
later-requires-clause-two g c = c.in-Ok.ensures.ages 2

pub later-requires-clause-three : goal.later-requires-clause-three
later-requires-clause-three g c = c.in-Ok.ensures.ages 3
