use Rattle.std.proofs.Common.{◌<◌, ◌≤◌, ◌*◌, ◌-◌}
use Rattle.node_table.proofs.arrays.buckets_for.Given as goal

-- there are some, and they stay within the type
abbrev pub invariant-loop-buckets : goal.invariant-loop-buckets
invariant-loop-buckets l = (0 < l.buckets) × (l.buckets ≤ 34359738368)

abbrev pub decreases-loop-buckets : goal.decreases-loop-buckets
decreases-loop-buckets l = 4 * l.nodes - l.buckets
