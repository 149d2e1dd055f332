-- The checks in checking order, as one list: a call applies those that concern it, and the first that fits is answered alone.
use Rattle.std.specs.Prelude.{Bool, cond, ◌&&◌, List, [], ◌∷◌, ◌++◌, ℕ}
use Rattle.limits.specs.Limits.{most_window, tester_window, tester_free}
use Rattle.refusals.specs.Key.{Key, same, among}
use Rattle.refusals.specs.Request.{Request, Source, lent, house, bad_records, bad_tail, bad_vertices, bad_lists, no_edge, bad_edges, bad_sizes, unordered_betas, parallel_edges}
use Rattle.refusals.specs.Request.{bad_run_record, separate_records, bad_range}
use Rattle.refusals.specs.Request.{wide_window, testers_only, many_near, bad_pairs, outside_pairs, many_free, bad_factors, bad_couplings, many_samples, short_work}

-- A check of the requests of one kind: its name, the number that it answers, and its test.
pub record Check (A : Type 0) : Type 0 where
  pub key : Key
  pub number : ℕ
  pub fits : A → Bool

abbrev pub check : {A : Type 0} → Key → ℕ → (A → Bool) → Check A
check k n test = record { key = k; number = n; fits = test }

abbrev pub checks : List (Check Request)
checks =
    check Key.sheet_records 19 bad_records
    ∷ check Key.sheet_tail 20 bad_tail
    ∷ check Key.run_records 26 bad_run_record
    ∷ check Key.records_apart 27 separate_records
    ∷ check Key.vertex_count 1 bad_vertices
    ∷ check Key.list_lengths 2 bad_lists
    ∷ check Key.edge_place 24 no_edge
    ∷ check Key.edge_ends 3 bad_edges
    ∷ check Key.sizes 4 bad_sizes
    ∷ check Key.beta_order 21 unordered_betas
    ∷ check Key.parallel_edges 5 parallel_edges
    ∷ check Key.window 6 (wide_window most_window)
    ∷ check Key.tester_window 22 (testers_only (wide_window tester_window))
    ∷ check Key.near_edges 7 many_near
    ∷ check Key.pair_ends 8 bad_pairs
    ∷ check Key.walk_ends 8 outside_pairs
    ∷ check Key.free_edges 9 (λ r. many_free r.configurations.most r)
    ∷ check Key.tester_free 22 (testers_only (many_free tester_free))
    ∷ check Key.factors 10 bad_factors
    ∷ check Key.couplings 23 bad_couplings
    ∷ check Key.samples 11 many_samples
    ∷ check Key.record_range 26 bad_range
    ∷ check Key.buffers 12 (λ r. r.misfit)
    ∷ check Key.work_memory 13 short_work
    ∷ check Key.partition_sums 14 (λ r. r.unsound)
    ∷ []

-- The number of the first check that concerns the call and fits; 0 where none does.
abbrev pub first : {A : Type 0} → List (Check A) → List Key → A → ℕ
first [] concerned r = 0
first (c ∷ cs) concerned r = cond (among concerned c.key && c.fits r) c.number (first cs concerned r)

abbrev pub refusal : List Key → Request → ℕ
refusal concerned r = first checks concerned r

-- ---- which checks concern which call

-- Those that read the lists as they are lent, before an edge is kept.
abbrev pub of_raw_graph : List Key
of_raw_graph = Key.vertex_count ∷ Key.list_lengths ∷ Key.edge_ends ∷ Key.sizes ∷ Key.beta_order ∷ []

-- Those of a graph: `window`, `n_components`, `cyclomatic`.
abbrev pub of_graph : List Key
of_graph = of_raw_graph ++ (Key.parallel_edges ∷ [])

-- Those of a graph and lists to write to: `graph`, `rotated`, `spanning_forest`, `components`.
abbrev pub of_graph_with_buffers : List Key
of_graph_with_buffers = of_graph ++ (Key.buffers ∷ [])

-- The same of `couplings`, whose betas the first of them read.
abbrev pub of_couplings : List Key
of_couplings = of_graph_with_buffers

-- Those of `distance`.
abbrev pub of_distance : List Key
of_distance = of_graph ++ (Key.walk_ends ∷ [])

-- Those that read the kept edges and the pairs.
abbrev pub of_kept : List Key
of_kept = Key.window ∷ Key.near_edges ∷ Key.pair_ends ∷ []

-- Those of `room`.
abbrev pub of_room : List Key
of_room = of_graph ++ of_kept

-- Those of `preview`, which is given betas too.
abbrev pub of_preview : List Key
of_preview = Key.edge_place ∷ of_room

-- Those of a job that is read from a sheet into lists.
abbrev pub of_sheet : List Key
of_sheet = Key.sheet_records ∷ Key.sheet_tail ∷ Key.buffers ∷ []

-- Those of two run records that are joined.
abbrev pub of_join : List Key
of_join = Key.run_records ∷ Key.records_apart ∷ Key.samples ∷ Key.buffers ∷ []

-- Those of the totals of a run record.
abbrev pub of_record_totals : List Key
of_record_totals = Key.run_records ∷ Key.buffers ∷ []

-- The first of every call that sweeps, which may be the tester's.
abbrev pub of_job : List Key
of_job = of_room ++ (Key.tester_window ∷ [])

-- Behind them: what a call is lent for its sweeps.
abbrev pub of_lists : List Key
of_lists = Key.factors ∷ Key.buffers ∷ Key.work_memory ∷ []

-- The same of an enumeration, which has limits of free edges, and no chunks to ask of.
abbrev pub of_enumeration_lists : List Key
of_enumeration_lists = Key.free_edges ∷ Key.tester_free ∷ of_lists

-- The same of a sampling, which has chunks, and no limit of free edges.
abbrev pub of_sampling_lists : List Key
of_sampling_lists = Key.samples ∷ of_lists

-- The same of a sampling that is written as a run record.
abbrev pub of_recording_lists : List Key
of_recording_lists = Key.samples ∷ Key.record_range ∷ of_lists

-- Behind all others: what the sweeps found.
abbrev pub of_sweeps : List Key
of_sweeps = Key.partition_sums ∷ []

-- Those of `correlations`.
abbrev pub of_correlations : List Key
of_correlations = of_job ++ (of_lists ++ of_sweeps)

-- Those of `exhaustive` and `exhaustive_c`.
abbrev pub of_enumeration : List Key
of_enumeration = of_job ++ (of_enumeration_lists ++ of_sweeps)

-- Those of `sample`.
abbrev pub of_sampling : List Key
of_sampling = of_job ++ (of_sampling_lists ++ of_sweeps)

-- Those of `sample_record`, which is never the tester's.
abbrev pub of_recording : List Key
of_recording = of_room ++ (of_recording_lists ++ of_sweeps)

-- The same of a house call: its couplings are asked of in the place of factors,
abbrev pub housed : List Key → List Key
housed [] = []
housed (k ∷ ks) = cond (same k Key.factors) Key.couplings k ∷ housed ks

-- or of a call by the source of its factors.
abbrev pub sourced : Source → List Key → List Key
sourced lent ks = ks
sourced house ks = housed ks
