use Rattle.log_reader.specs.State.{reading_of}
use Rattle.log_reader.proofs.FeedLemmas.{fed_ok}
use Rattle.log_reader.proofs.reader.LogReader.feed.Goals as goal

pub returns-clause-stands : goal.returns-clause-stands
returns-clause-stands c =
    fed_ok c.feed.result c.args.piece.now (reading_of c.self.inside.state) (reading_of c.feed.new.self) c.args.self.now c.self.view_is c.requires.on c.feed.ensures.ok
