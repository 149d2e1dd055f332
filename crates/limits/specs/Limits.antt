-- The limits of a job, as definitions and contracts name them.
use Rattle.std.specs.Prelude.{ℕ, ◌+◌, ◌*◌, ◌^◌}
use Rattle.limits.specs.declared.Limits.{Limits}
use Rattle.limits.specs.declared.TesterLimits.{TesterLimits}

-- The most vertices of a graph.
abbrev pub most_vertices : ℕ
most_vertices = 1024

-- The most raw edges of a graph.
abbrev pub most_edges : ℕ
most_edges = 4096

-- The most pairs of a job.
abbrev pub most_pairs : ℕ
most_pairs = 256

-- The most betas of a job.
abbrev pub most_betas : ℕ
most_betas = 64

-- The widest window.
abbrev pub most_window : ℕ
most_window = 24

-- The most free edges where totals are counted.
abbrev pub most_counted : ℕ
most_counted = 34

-- The most free edges where each correlation is stored.
abbrev pub most_stored : ℕ
most_stored = 24

-- The widest window of a call of the tester's.
abbrev pub tester_window : ℕ
tester_window = 12

-- The most free edges of a call of the tester's that goes through all configurations.
abbrev pub tester_free : ℕ
tester_free = 16

-- The most samples of all chunks: 2^32.
abbrev pub most_samples : ℕ
most_samples = 4294967296

-- The most samples of a chunk that a run record can name, in four bytes.
abbrev pub most_named : ℕ
most_named = 4294967295

-- The most lists of stored correlations that are shared out at once, and the most entries of each.
abbrev pub most_lists : ℕ
most_lists = 256

abbrev pub most_entries : ℕ
most_entries = 2 ^ 24

-- The code's constants.
abbrev pub stated : Limits
stated = record {
  vertices = most_vertices;
  edges = most_edges;
  pairs = most_pairs;
  betas = most_betas;
  window = most_window;
  counted = most_counted;
  stored = most_stored;
  testers = record { window = tester_window; free = tester_free };
  samples = most_samples;
  named = most_named;
  plan = 12 * most_vertices;
  sums = most_betas * most_pairs;
  couplings = most_betas * most_edges;
  copied = most_pairs + 1;
  lists = most_lists;
  entries = most_entries;
}
