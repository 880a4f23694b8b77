use Rattle.quantify.proofs.CutBlocks.{cut_never, cut_is_ok}
use Rattle.quantify.proofs.deepest.cut_off.Goals as goal

pub unwrap-requires : goal.unwrap-requires
unwrap-requires g c =
    cut_is_ok c.cut_whole.result
    (cut_never c.args.all c.args.block.first c.args.h c.args.store.now.table c.cut_whole.new.store.table c.cut_whole.result c.live-held.ensures.shared c.requires.valid c.requires.room c.cut_whole.ensures.made)
