-- What a call is given, as far as the checks read it, and each check's own test in the words of document 01.
use Rattle.std.specs.Prelude.{Bool, false, not, ◌||◌, ◌&&◌, List, [], ◌∷◌, ℕ, ◌+◌, ◌-◌, ◌*◌, eqb, ltb, leb, Float, length, get_or}
use Rattle.std.specs.Float.{nan, inf, binary64}
use Rattle.std.specs.Float.Ieee.{le, lt, neg, of_bits}
use Rattle.coupling_grid.specs.Grid.{some_off_grid}
use Rattle.limits.specs.declared.Caller.{Caller}
use Rattle.limits.specs.declared.Caller.TheVariants.{Desk}
use Rattle.limits.specs.Callers.{is_tester}
use Rattle.limits.specs.Limits.{most_vertices, most_edges, most_pairs, most_betas, most_samples, most_named}
pub use Rattle.limits.specs.Limits.{most_counted, most_stored}
use Rattle.list_laws.specs.Search.{some}
use Rattle.transfer_matrix.specs.Job.{too_many_near}
use Rattle.transfer_matrix.specs.Configuration.{numbered}
use Rattle.transfer_matrix.specs.Room as Room
use Rattle.refusals.specs.Edges.{Kept, kept, early_ends, late_ends, window_from, kept_magnitudes}
use Rattle.refusals.specs.Couplings.{all_couplings}

-- Which signs of the free edges a call goes through: all of them, or chunks of drawn ones.
pub record Configurations : Type 0 where
  -- how many free edges there are, and how many there may be where all of their signs are gone through
  pub free : ℕ
  pub most : ℕ
  -- the chunks from one number up to another, and how many samples each has
  pub start : ℕ
  pub end : ℕ
  pub samples : ℕ

abbrev pub enumerated : (free most : ℕ) → Configurations
enumerated free most = record { free = free; most = most; start = 0; end = 0; samples = 0 }

-- none: the caller's factors are of one configuration
abbrev pub single : Configurations
single = enumerated 0 0

abbrev pub sampled : (free start end samples : ℕ) → Configurations
sampled free start end samples = record { free = free; most = 0; start = start; end = end; samples = samples }

-- What is wrong with a sheet that a job is read from: a record is missing, cut short, of unknown kind or out of order; bytes stand behind the end.
pub record Sheet : Type 0 where
  pub broken : Bool
  pub tail : Bool

abbrev pub no_sheet : Sheet
no_sheet = record { broken = false; tail = false }

-- What is wrong with the run records that a call reads: one is not as the format describes; two that are to be joined do not join.
pub record RunRecords : Type 0 where
  pub broken : Bool
  pub apart : Bool

abbrev pub no_records : RunRecords
no_records = record { broken = false; apart = false }

-- A part that a call does not have is empty.
pub record Request : Type 0 where
  pub sheet : Sheet
  pub runs : RunRecords
  -- whose call it is; the desk's where no check asks
  pub caller : Caller
  pub vertices : ℕ
  -- the raw edges: their ends and magnitudes
  pub ones : List ℕ
  pub others : List ℕ
  pub magnitudes : List Float
  -- the place in the raw list that a preview asks of
  pub place : ℕ
  -- the caller's floor of the window
  pub floor : ℕ
  -- the pairs
  pub firsts : List ℕ
  pub seconds : List ℕ
  pub betas : List Float
  pub configurations : Configurations
  -- the lent factors, or the couplings of a house call, and how many there should be
  pub factors : List Float
  pub factor_count : ℕ
  -- whether a result buffer is not of its exact length, or too short where that is the rule
  pub misfit : Bool
  -- how the call is arranged, and the length of its work memory
  pub arrangement : Room.Arrangement
  pub work : ℕ
  -- whether some pair's Z is not finite and above zero
  pub unsound : Bool

-- Every request is this one with parts that are empty.
abbrev pub whole_request : Sheet → RunRecords → (place : ℕ) → Caller → Room.Arrangement → (n floor : ℕ) → (a b : List ℕ) → List Float → (us vs : List ℕ) → List Float
    → Configurations → List Float → (count : ℕ) → (misfit : Bool) → (work : ℕ) → Bool → Request
whole_request sheet runs place caller arrangement n floor a b m us vs betas configurations factors count misfit work unsound = record {
  sheet = sheet;
  runs = runs;
  caller = caller;
  vertices = n;
  ones = a;
  others = b;
  magnitudes = m;
  place = place;
  floor = floor;
  firsts = us;
  seconds = vs;
  betas = betas;
  configurations = configurations;
  factors = factors;
  factor_count = count;
  misfit = misfit;
  arrangement = arrangement;
  work = work;
  unsound = unsound;
}

-- The request of a call that sweeps: whose it is and, besides a job, which configurations it sweeps, so many factors, result buffers, and work memory.
abbrev pub sweep_request : Caller → Room.Arrangement → (n floor : ℕ) → (a b : List ℕ) → List Float → (us vs : List ℕ) → List Float → Configurations
    → List Float → (count : ℕ) → (misfit : Bool) → (work : ℕ) → Bool → Request
sweep_request = whole_request no_sheet no_records 0

-- The request of a preview: a job, and a place in its raw list.
abbrev pub preview_request : (place n floor : ℕ) → (a b : List ℕ) → List Float → (us vs : List ℕ) → List Float → Request
preview_request place n floor a b m us vs betas = whole_request no_sheet no_records place Desk Room.keep_all n floor a b m us vs betas single [] 0 false 0 false

-- The request of a call that reads a job from a sheet into lists.
abbrev pub sheet_request : Sheet → (misfit : Bool) → Request
sheet_request sheet misfit = whole_request sheet no_records 0 Desk Room.keep_all 0 0 [] [] [] [] [] [] single [] 0 misfit 0 false

-- The request of a call that reads run records: what they hold together are these chunks.
abbrev pub record_request : RunRecords → (start end samples : ℕ) → (misfit : Bool) → Request
record_request runs start end samples misfit = whole_request no_sheet runs 0 Desk Room.keep_all 0 0 [] [] [] [] [] [] (sampled 0 start end samples) [] 0 misfit 0 false

-- The request of a call that sweeps nothing: a job, and result buffers.
abbrev pub plain_request : (n floor : ℕ) → (a b : List ℕ) → List Float → (us vs : List ℕ) → List Float → (misfit : Bool) → Request
plain_request n floor a b m us vs betas misfit = sweep_request Desk Room.keep_all n floor a b m us vs betas single [] 0 misfit 0 false

-- The request of `couplings`: a graph and betas.
abbrev pub coupling_request : ℕ → List ℕ → List ℕ → (m betas : List Float) → Bool → Request
coupling_request n a b m betas misfit = plain_request n 0 a b m [] [] betas misfit

-- The request of a call that is given a graph alone.
abbrev pub graph_request : ℕ → List ℕ → List ℕ → List Float → Bool → Request
graph_request n a b m misfit = coupling_request n a b m [] misfit

-- The request of `distance`: a graph and one pair.
abbrev pub distance_request : ℕ → List ℕ → List ℕ → List Float → ℕ → ℕ → Request
distance_request n a b m u v = plain_request n 0 a b m (u ∷ []) (v ∷ []) [] false

-- What the checks 1 to 8 read of a call for totals: a graph, the floor of its window, pairs, and betas.
abbrev pub job_request : (n floor : ℕ) → (a b : List ℕ) → List Float → (us vs : List ℕ) → List Float → Request
job_request n floor a b m us vs betas = plain_request n floor a b m us vs betas false

-- The same, and whose call it is.
abbrev pub call_request : Caller → (n floor : ℕ) → (a b : List ℕ) → List Float → (us vs : List ℕ) → List Float → Request
call_request caller n floor a b m us vs betas = sweep_request caller Room.keep_all n floor a b m us vs betas single [] 0 false 0 false

-- The request of `room`: a job without betas.
abbrev pub room_request : ℕ → ℕ → List ℕ → List ℕ → List Float → List ℕ → List ℕ → Request
room_request n floor a b m us vs = job_request n floor a b m us vs []

-- The request of `correlations`: one factor for each kept edge, one result for each pair.
abbrev pub correlation_request : Caller → Room.Arrangement → (n floor : ℕ) → List ℕ → List ℕ → List Float → List ℕ → List ℕ → List Float → (results work : ℕ) → Bool → Request
correlation_request caller arrangement n floor a b m us vs factors results work unsound =
    sweep_request caller arrangement n floor a b m us vs [] single factors (length (kept a b m)) (not (eqb results (length us))) work unsound

-- the factors of a call for totals: for each beta and kept edge two, one a sign
abbrev pub signed_factors : (betas edges : ℕ) → ℕ
signed_factors betas edges = 2 * (betas * edges)

-- The request of a call that goes through every configuration, of so many free edges where so many are the most.
abbrev pub enumeration_request : Caller → Room.Arrangement → (n floor : ℕ) → (a b : List ℕ) → List Float → (us vs : List ℕ) → (betas factors : List Float)
    → (free most : ℕ) → (misfit : Bool) → (work : ℕ) → Bool → Request
enumeration_request caller arrangement n floor a b m us vs betas factors free most misfit work unsound =
    sweep_request caller arrangement n floor a b m us vs betas (enumerated free most) factors (signed_factors (length betas) (length (kept a b m))) misfit work unsound

-- The request of `sample`: chunks of drawn configurations, of as many free edges as there are.
abbrev pub sampling_request : Caller → Room.Arrangement → (n floor : ℕ) → (a b : List ℕ) → List Float → (us vs : List ℕ) → (betas factors : List Float)
    → (free start end samples : ℕ) → (misfit : Bool) → (work : ℕ) → Bool → Request
sampling_request caller arrangement n floor a b m us vs betas factors free start end samples misfit work unsound =
    sweep_request caller arrangement n floor a b m us vs betas (sampled free start end samples) factors (signed_factors (length betas) (length (kept a b m))) misfit work
    unsound

-- The requests of house calls for totals, which are lent no factors: the couplings are those of each beta and kept edge.
abbrev pub house_enumeration_request : Caller → Room.Arrangement → (n floor : ℕ) → (a b : List ℕ) → List Float → (us vs : List ℕ) → List Float
    → (free most : ℕ) → (misfit : Bool) → (work : ℕ) → Bool → Request
house_enumeration_request caller arrangement n floor a b m us vs betas free most misfit work unsound =
    sweep_request caller arrangement n floor a b m us vs betas (enumerated free most) (all_couplings betas (kept_magnitudes a b m))
    (length betas * length (kept_magnitudes a b m)) misfit work unsound

abbrev pub house_sampling_request : Caller → Room.Arrangement → (n floor : ℕ) → (a b : List ℕ) → List Float → (us vs : List ℕ) → List Float
    → (free start end samples : ℕ) → (misfit : Bool) → (work : ℕ) → Bool → Request
house_sampling_request caller arrangement n floor a b m us vs betas free start end samples misfit work unsound =
    sweep_request caller arrangement n floor a b m us vs betas (sampled free start end samples) (all_couplings betas (kept_magnitudes a b m))
    (length betas * length (kept_magnitudes a b m)) misfit work unsound

-- 19. A record of the sheet is missing, cut short, of unknown kind or out of order.
abbrev pub bad_records : Request → Bool
bad_records r = r.sheet.broken

-- 20. Bytes stand behind the sheet's end.
abbrev pub bad_tail : Request → Bool
bad_tail r = r.sheet.tail

-- 26. A run record is not exactly as its format describes.
abbrev pub bad_run_record : Request → Bool
bad_run_record r = r.runs.broken

-- 27. Two run records do not join.
abbrev pub separate_records : Request → Bool
separate_records r = r.runs.apart

-- 1. The vertex count is 0 or above 1,024.
abbrev pub bad_vertices : Request → Bool
bad_vertices r = eqb r.vertices 0 || ltb most_vertices r.vertices

-- 2. Lists of one kind differ in length, or there are over 4,096 edges, 256 pairs or 64 betas.
abbrev pub bad_lists : Request → Bool
bad_lists r =
    not (eqb (length r.ones) (length r.others))
    || not (eqb (length r.ones) (length r.magnitudes))
    || ltb most_edges (length r.ones)
    || not (eqb (length r.firsts) (length r.seconds))
    || ltb most_pairs (length r.firsts)
    || ltb most_betas (length r.betas)

-- 24. No edge is at that place of the raw list.
abbrev pub no_edge : Request → Bool
no_edge r = leb (length r.ones) r.place

-- An end is outside a graph of n vertices.
abbrev pub outside : ℕ → ℕ → ℕ → Bool
outside n u v = leb n u || leb n v

-- The ends at place e are equal, or one is outside.
abbrev pub bad_ends : ℕ → List ℕ → List ℕ → ℕ → Bool
bad_ends n a b e = eqb (get_or a e 0) (get_or b e 0) || outside n (get_or a e 0) (get_or b e 0)

-- 3. An edge has equal ends or an end outside the graph.
abbrev pub bad_edges : Request → Bool
bad_edges r = some (bad_ends r.vertices r.ones r.others) (length r.ones)

-- 4. A magnitude or beta isn't finite, or its size is above 1,024: it is not from -1,024 to 1,024.
abbrev pub limit : Float
limit = of_bits binary64 0x4090_0000_0000_0000

abbrev pub oversized : Float → Bool
oversized x = not (le (neg limit) x && le x limit)

abbrev pub some_oversized : List Float → Bool
some_oversized xs = some (λ e. oversized (get_or xs e nan)) (length xs)

abbrev pub bad_sizes : Request → Bool
bad_sizes r = some_oversized r.magnitudes || some_oversized r.betas

-- 21. Betas don't rise strictly: some beta is not less than the next.
abbrev pub unordered : List Float → Bool
unordered xs = some (λ i. not (lt (get_or xs i nan) (get_or xs (i + 1) nan))) (length xs - 1)

abbrev pub unordered_betas : Request → Bool
unordered_betas r = unordered r.betas

-- 5. Two kept edges join the same vertices.
abbrev pub same_ends : List ℕ → List ℕ → ℕ → ℕ → Bool
same_ends early late e f = eqb (get_or early f 0) (get_or early e 0) && eqb (get_or late f 0) (get_or late e 0)

abbrev pub joined_twice : List ℕ → List ℕ → Bool
joined_twice early late = some (λ e. some (same_ends early late e) e) (length early)

abbrev pub kept_in : Request → List Kept
kept_in r = kept r.ones r.others r.magnitudes

abbrev pub parallel_edges : Request → Bool
parallel_edges r = joined_twice (early_ends (kept_in r)) (late_ends (kept_in r))

-- 6. The window is above its limit, which is 24.
abbrev pub window_in : Request → ℕ
window_in r = window_from r.floor r.ones r.others r.magnitudes

abbrev pub wide_window : (most : ℕ) → Request → Bool
wide_window most r = ltb most (window_in r)

-- 22. The call is the tester's, and its window or its free edges exceed the tester's limit.
abbrev pub testers_only : (Request → Bool) → Request → Bool
testers_only test r = is_tester r.caller && test r

-- 7. A vertex has over four back edges shorter than the window.
abbrev pub many_near : Request → Bool
many_near r = too_many_near r.vertices (window_in r) (numbered (early_ends (kept_in r)) (late_ends (kept_in r)))

-- 8. A pair has equal ends or an end outside the graph.
abbrev pub bad_pairs : Request → Bool
bad_pairs r = some (bad_ends r.vertices r.firsts r.seconds) (length r.firsts)

-- 8 of `distance`, which allows equal ends: an end is outside the graph.
abbrev pub outside_pairs : Request → Bool
outside_pairs r = some (λ p. outside r.vertices (get_or r.firsts p 0) (get_or r.seconds p 0)) (length r.firsts)

-- 9. Free edges exceed their limit, which is 34 for enumerated totals and 24 for stored correlations.
abbrev pub many_free : (most : ℕ) → Request → Bool
many_free most r = ltb most r.configurations.free

-- Finite and above zero.
abbrev pub passes : Float → Bool
passes x = lt (of_bits binary64 0) x && lt x (inf false)

-- 10. The factor list has another length, or an entry isn't finite and above zero.
abbrev pub bad_factor_list : List Float → ℕ → Bool
bad_factor_list factors count = not (eqb (length factors) count) || some (λ e. not (passes (get_or factors e nan))) (length factors)

abbrev pub bad_factors : Request → Bool
bad_factors r = bad_factor_list r.factors r.factor_count

-- 23. The list of couplings has another length, or a coupling is off the grid or beyond 4 in size.
abbrev pub bad_coupling_list : List Float → ℕ → Bool
bad_coupling_list couplings count = not (eqb (length couplings) count) || some_off_grid couplings

abbrev pub bad_couplings : Request → Bool
bad_couplings r = bad_coupling_list r.factors r.factor_count

-- Where the factors of a call come from: its caller lends them, or they are the house table's at its couplings.
pub data Source : Type 0 where
  lent : Source
  house : Source

-- Which list is bad by 10 or by 23, and that number.
abbrev pub bad_list : Source → List Float → ℕ → Bool
bad_list lent = bad_factor_list
bad_list house = bad_coupling_list

abbrev pub source_number : Source → ℕ
source_number lent = 10
source_number house = 23

-- 11. End above start, and chunks times samples per chunk exceed 2^32.
abbrev pub too_many_chunks : (start end samples : ℕ) → Bool
too_many_chunks start end samples = ltb start end && ltb most_samples ((end - start) * samples)

abbrev pub many_samples : Request → Bool
many_samples r = too_many_chunks r.configurations.start r.configurations.end r.configurations.samples

-- 26 of a run that is written: its end is below its start, or it has more samples per chunk than a record can name.
abbrev pub unwritable : (start end samples : ℕ) → Bool
unwritable start end samples = ltb end start || ltb most_named samples

abbrev pub bad_range : Request → Bool
bad_range r = unwritable r.configurations.start r.configurations.end r.configurations.samples

-- 13. Work memory is shorter than the room of the arrangement asked for.
abbrev pub short_work : Request → Bool
short_work r = ltb r.work (Room.room r.arrangement r.vertices (window_in r) (length (kept_in r)) r.firsts r.seconds)
