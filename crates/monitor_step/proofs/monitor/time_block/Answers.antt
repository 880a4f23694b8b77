use Rattle.std.proofs.Common.{arith}
use Rattle.std.proofs.Math.Nat.{mul-le-mul_right}
use Rattle.monitor_step.proofs.monitor.time_block.Goals as goal

pub overflow_cast-result : goal.overflow_cast-result
overflow_cast-result c = let few = c.count-sound.ensures.sound.few_variables in rw c.variables.ensures (omega (arith, few))

pub overflow_mul-result : goal.overflow_mul-result
overflow_mul-result c =
    let few = c.count-sound.ensures.sound.few_variables in
    let most = mul-le-mul_right c.args.bits few in
    rw c.variables.ensures (omega (arith, most, c.requires.few_bits))

pub returns-clause-within : goal.returns-clause-within
returns-clause-within c =
    let few = c.count-sound.ensures.sound.few_variables in
    let most = mul-le-mul_right c.args.bits few in
    rw c.variables.ensures (omega (arith, most, c.requires.few_bits, c.time_bits.ensures.few))
