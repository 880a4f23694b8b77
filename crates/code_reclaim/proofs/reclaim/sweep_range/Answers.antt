use Rattle.std.proofs.Common.{arith, ◌≤◌, ◌^◌}
use Rattle.std.proofs.Math.Pow.{pow_mono}
use Rattle.code_reclaim.proofs.reclaim.sweep_range.Goals as goal

pub find_candidates-requires : goal.find_candidates-requires
find_candidates-requires g c = (let few : 2 ^ c.args.block.bits ≤ 2 ^ 20 = pow_mono c.requires.width in omega (arith, few, c.requires.fits))
