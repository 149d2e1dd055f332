-- No edge has been chained yet.
use Rattle.graph_checks.proofs.Chaining.{heads_none}
use Rattle.limits.specs.Limits.{most_vertices}
use Rattle.graph_checks.proofs.parallel.joined_twice.Goals as goal

pub find_twice-requires : goal.find_twice-requires
find_twice-requires c = record { late_len = (c.requires.late_len.0, c.requires.late_len.1, heads_none _ most_vertices); by_index = c.requires.by_index }
