-- The checks by name. Checks are told apart by their keys and not by their numbers: one number may stand at two places of the list.
use Rattle.std.specs.Prelude.{Bool, false, ◌||◌, List, [], ◌∷◌, ℕ, eqb}

-- The checks of a sheet, of run records and of a job, in checking order, then those of a strip.
pub data Key : Type 0 where
  sheet_records : Key
  sheet_tail : Key
  run_records : Key
  records_apart : Key
  vertex_count : Key
  list_lengths : Key
  edge_place : Key
  edge_ends : Key
  sizes : Key
  beta_order : Key
  parallel_edges : Key
  window : Key
  tester_window : Key
  near_edges : Key
  pair_ends : Key
  walk_ends : Key
  free_edges : Key
  tester_free : Key
  factors : Key
  couplings : Key
  samples : Key
  record_range : Key
  buffers : Key
  work_memory : Key
  partition_sums : Key
  strip_sides : Key
  odd_cylinder : Key
  dilution : Key

-- A number of its own for each key, by which keys are compared: neither its place in the list nor what a call returns.
abbrev pub rank : Key → ℕ
rank vertex_count = 0
rank list_lengths = 1
rank edge_ends = 2
rank sizes = 3
rank parallel_edges = 4
rank window = 5
rank near_edges = 6
rank pair_ends = 7
rank walk_ends = 8
rank free_edges = 9
rank factors = 10
rank samples = 11
rank buffers = 12
rank work_memory = 13
rank partition_sums = 14
rank strip_sides = 15
rank odd_cylinder = 16
rank dilution = 17
rank beta_order = 18
rank tester_window = 19
rank tester_free = 20
rank couplings = 21
rank sheet_records = 22
rank sheet_tail = 23
rank edge_place = 24
rank run_records = 25
rank records_apart = 26
rank record_range = 27

-- Returns whether two keys are the same.
abbrev pub same : Key → Key → Bool
same j k = eqb (rank j) (rank k)

-- Returns whether the key is one of these.
abbrev pub among : List Key → Key → Bool
among [] k = false
among (j ∷ js) k = same j k || among js k
