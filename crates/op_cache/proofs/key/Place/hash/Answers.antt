use Rattle.std.proofs.Common.{ℕ, ◌*◌, ◌%◌, ◌^◌, ◌<◌, ◌/◌, refl, arith, bit_xor}
use Rattle.std.proofs.lemmas.Nat.{xor_lt}
use Rattle.op_cache.specs.declared.key.TheConstants.{LEFT, RIGHT, OPERATION}
use Rattle.op_cache.specs.Chains.{hash_of}
use Rattle.op_cache.proofs.key.Place.hash.Goals as goal

mixed : (a b c : ℕ) → a < 2 ^ 64 → b < 2 ^ 64 → c < 2 ^ 64 → bit_xor (bit_xor a b) c / 2 ^ 32 < 2 ^ 32
mixed a b c p q r = let x = xor_lt 64 (bit_xor a b) c (xor_lt 64 a b p q) r in omega arith

pub overflow_cast-result : goal.overflow_cast-result
overflow_cast-result c =
    let s = c.args.self in
    let h = mixed (s.left * LEFT % 2 ^ 64) (s.right * RIGHT % 2 ^ 64) (s.op * OPERATION % 2 ^ 64) (omega arith) (omega arith) (omega arith) in
    omega arith

pub returns : goal.returns
unfolding hash_of
returns c = refl
