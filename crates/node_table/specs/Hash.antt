-- The bucket of a node in the table's index.
use Rattle.std.specs.Prelude.{ℕ, ◌+◌, ◌-◌, ◌*◌, ◌/◌, ◌%◌, ◌^◌, bit_and}
use Rattle.node_table.specs.declared.node.Node.{Node}

-- a product and a sum for each part, in 64 bits, of which the upper half counts
unfoldable pub bucket_of : ℕ → Node → ℕ
bucket_of buckets n = bit_and (((n.level * 0x9E3779B97F4A7C15 % 2 ^ 64 + n.low * 0xC2B2AE3D27D4EB4F % 2 ^ 64) % 2 ^ 64 + n.high * 0x165667B19E3779F9 % 2 ^ 64) % 2 ^ 64 / 2 ^ 32) (buckets - 1)
