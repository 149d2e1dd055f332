-- Computed facts: where several checks fit, the first in checking order is answered, and a call answers only what concerns it.
use Rattle.std.specs.Prelude.{◌≡◌, refl, Bool, true, false, List, [], ◌∷◌, ◌++◌, ℕ, zero, suc, pos, negsuc, Float, replicate}
use Rattle.std.specs.Float.{nan, inf, fin}
use Rattle.std.specs.Float.Ieee.{eq, le, lt, neg, of_bits, mul, round}
use Rattle.limits.specs.declared.Caller.{Caller}
use Rattle.limits.specs.declared.Caller.TheVariants.{Desk, Tester}
use Rattle.coupling_grid.specs.Grid.{off_grid}
use Rattle.list_laws.specs.Search.{some}
use Rattle.list_laws.specs.Tabulate.{tabulate}
use Rattle.transfer_matrix.specs.Job.{window_of, too_many_near}
use Rattle.transfer_matrix.specs.Configuration.{edges_with}
use Rattle.transfer_matrix.specs.Room.{Arrangement, keep_all, less_room, room}
use Rattle.refusals.specs.Edges.{kept_of, dropping}
use Rattle.refusals.specs.Request.{Request, graph_request, distance_request, room_request, preview_request, sheet_request, record_request, correlation_request}
use Rattle.refusals.specs.Request.{coupling_request, enumeration_request, sampling_request, most_counted, most_stored}
use Rattle.refusals.specs.Request.{house_enumeration_request, house_sampling_request}
use Rattle.refusals.specs.Refusal.{refusal, of_graph, of_graph_with_buffers, of_distance, of_room, of_correlations}
use Rattle.refusals.specs.Refusal.{of_preview, of_sheet, of_join, of_record_totals, of_couplings, of_enumeration, of_sampling, of_recording, housed}

abbrev one : Float
one = fin false 1 (pos 0)

-- no vertex, and lists that differ
pub first-1 : refusal of_graph (graph_request 0 (0 ∷ []) [] [] true) ≡ 1
first-1 = refl

-- lists that differ, and an edge with equal ends
pub first-2 : refusal of_graph (graph_request 2 (0 ∷ []) (0 ∷ []) [] true) ≡ 2
first-2 = refl

-- no edge at the place, and an edge with equal ends; lists that differ come before
abbrev previewed : (place : ℕ) → (a b : List ℕ) → List Float → ℕ
previewed place a b m = refusal of_preview (preview_request place 2 0 a b (dropping place m) [] [] (one ∷ one ∷ []))

pub first-24 : (previewed 1 (0 ∷ []) (0 ∷ []) (one ∷ []) ≡ 24) × (previewed 1 (0 ∷ []) [] (one ∷ []) ≡ 2) × (previewed 0 (0 ∷ []) (0 ∷ []) (one ∷ []) ≡ 3)
unfolding some
first-24 = (refl, refl, refl)

-- what the dropped edge's magnitude is does not matter, and betas that do not rise do; a graph's own calls do not ask of a place
pub preview_cures : (previewed 0 (0 ∷ []) (1 ∷ []) (nan ∷ []) ≡ 21) × (refusal of_graph (graph_request 2 [] [] [] false) ≡ 0)
unfolding some le lt neg of_bits kept_of eq
preview_cures = (refl, refl)

-- a sheet's records, then its tail, before all else
abbrev sheet : (broken tail : Bool) → Request
sheet broken tail = sheet_request (record { broken = broken; tail = tail }) true

pub first-19 : (refusal (of_sheet ++ of_graph) (sheet true true) ≡ 19) × (refusal (of_sheet ++ of_graph) (sheet false true) ≡ 20)
    × (refusal (of_sheet ++ of_graph) (sheet false false) ≡ 1) × (refusal of_sheet (sheet false false) ≡ 12)
first-19 = (refl, refl, refl, refl)

-- a run record that is none, then two that do not join, then too many samples, then a buffer; totals ask of the record and of buffers alone
abbrev joined : (broken apart : Bool) → (start end samples : ℕ) → Request
joined broken apart start end samples = record_request (record { broken = broken; apart = apart }) start end samples true

pub first-26 : (refusal of_join (joined true true 0 3 4294967295) ≡ 26) × (refusal of_join (joined false true 0 3 4294967295) ≡ 27)
    × (refusal of_join (joined false false 0 3 4294967295) ≡ 11) × (refusal of_join (joined false false 0 1 4294967295) ≡ 12)
    × (refusal of_record_totals (joined true true 0 3 4294967295) ≡ 26) × (refusal of_record_totals (joined false true 0 3 4294967295) ≡ 12)
first-26 = (refl, refl, refl, refl, refl, refl)

-- equal ends, and a magnitude that is not finite
pub first-3 : refusal of_graph (graph_request 2 (0 ∷ []) (0 ∷ []) (inf false ∷ []) true) ≡ 3
unfolding some
first-3 = refl

-- a magnitude that is not finite, and two edges between the same vertices
pub first-4 : refusal of_graph (graph_request 2 (0 ∷ 1 ∷ []) (1 ∷ 0 ∷ []) (one ∷ inf false ∷ []) true) ≡ 4
unfolding some le neg of_bits
first-4 = refl

-- two edges between the same vertices, and a buffer that does not fit
pub first-5 : refusal of_graph_with_buffers (graph_request 2 (0 ∷ 1 ∷ []) (1 ∷ 0 ∷ []) (one ∷ one ∷ []) true) ≡ 5
unfolding some le neg of_bits kept_of eq
first-5 = refl

-- a magnitude of zero drops an edge, so the other is alone
pub dropped : refusal of_graph_with_buffers (graph_request 2 (0 ∷ 1 ∷ []) (1 ∷ 0 ∷ []) (one ∷ fin true 0 (pos 0) ∷ []) true) ≡ 12
unfolding some le neg of_bits kept_of eq
dropped = refl

-- a graph's own calls do not ask of buffers, nor `distance` of equal ends
pub not_asked : refusal of_graph (graph_request 2 [] [] [] true) ≡ 0
unfolding some kept_of
not_asked = refl

pub equal_ends : (refusal of_distance (distance_request 2 [] [] [] 1 1) ≡ 0) × (refusal of_distance (distance_request 2 [] [] [] 1 2) ≡ 8)
unfolding some kept_of
equal_ends = (refl, refl)

-- ---- a job

-- a window of 25, and a pair with equal ends; 24 passes
pub first-6 : refusal of_room (room_request 2 25 [] [] [] (0 ∷ []) (0 ∷ [])) ≡ 6
unfolding some kept_of window_of
first-6 = refl

pub window-24 : refusal of_room (room_request 2 24 [] [] [] (0 ∷ []) (1 ∷ [])) ≡ 0
unfolding some kept_of window_of too_many_near edges_with
window-24 = refl

-- edges from 0, 1, 2, 3, 4 to 5: all five are shorter than a window of 6, and a pair lies outside; four are shorter than a window of 5
abbrev fan : ℕ → List ℕ → List ℕ → ℕ
fan floor us vs = refusal of_room (room_request 6 floor (0 ∷ 1 ∷ 2 ∷ 3 ∷ 4 ∷ []) (5 ∷ 5 ∷ 5 ∷ 5 ∷ 5 ∷ []) (one ∷ one ∷ one ∷ one ∷ one ∷ []) us vs)

pub first-7 : fan 6 (0 ∷ []) (6 ∷ []) ≡ 7
unfolding some kept_of eq le neg of_bits window_of too_many_near edges_with
first-7 = refl

pub four-near : fan 5 (0 ∷ []) (5 ∷ []) ≡ 0
unfolding some kept_of eq le neg of_bits window_of too_many_near edges_with
four-near = refl

-- two vertices, the edge 0-1, the pair u-v: a room of 13
abbrev single : ℕ → ℕ → List Float → (results work : ℕ) → Bool → ℕ
single u v factors results work unsound =
    refusal of_correlations (correlation_request Desk keep_all 2 0 (0 ∷ []) (1 ∷ []) (one ∷ []) (u ∷ []) (v ∷ []) factors results work unsound)

-- a pair with equal ends, and a factor that is no number
pub first-8 : single 0 0 (nan ∷ []) 1 13 false ≡ 8
unfolding some kept_of eq le lt neg of_bits window_of too_many_near edges_with
first-8 = refl

-- a factor that is not finite and above zero, and results of another length
pub first-10 : (single 0 1 (fin false 0 (pos 0) ∷ []) 2 0 false ≡ 10) × (single 0 1 (inf false ∷ []) 2 0 false ≡ 10)
unfolding some kept_of eq le lt neg of_bits window_of too_many_near edges_with
first-10 = (refl, refl)

-- one factor too few or too many, though all pass
pub factor-each : (single 0 1 [] 2 0 false ≡ 10) × (single 0 1 (one ∷ one ∷ []) 2 0 false ≡ 10)
unfolding some kept_of eq le lt neg of_bits window_of too_many_near edges_with
factor-each = (refl, refl)

-- results of another length, and short work memory
pub first-12 : single 0 1 (one ∷ []) 2 12 true ≡ 12
unfolding some kept_of eq le lt neg of_bits window_of too_many_near edges_with
first-12 = refl

-- short work memory, and a Z that is not finite and above zero
pub first-13 : single 0 1 (one ∷ []) 1 12 true ≡ 13
unfolding some kept_of eq le lt neg of_bits window_of too_many_near edges_with room
first-13 = refl

-- such a Z, and none
pub last-14 : (single 0 1 (one ∷ []) 1 13 true ≡ 14) × (single 0 1 (one ∷ []) 1 13 false ≡ 0)
unfolding some kept_of eq le lt neg of_bits window_of too_many_near edges_with room
last-14 = (refl, refl)

-- the same with floor 2, in either arrangement: a room of 19, and of 15
abbrev arranged_in : Arrangement → (work : ℕ) → ℕ
arranged_in arrangement work =
    refusal of_correlations (correlation_request Desk arrangement 2 2 (0 ∷ []) (1 ∷ []) (one ∷ []) (0 ∷ []) (1 ∷ []) (one ∷ []) 1 work false)

pub room_asked_for : (arranged_in keep_all 18 ≡ 13) × (arranged_in keep_all 19 ≡ 0) × (arranged_in less_room 14 ≡ 13) × (arranged_in less_room 15 ≡ 0)
unfolding some kept_of eq le lt neg of_bits window_of too_many_near edges_with room
room_asked_for = (refl, refl, refl, refl)

-- ---- betas

-- one vertex, and so many betas
abbrev coupled : List Float → Bool → ℕ
coupled betas misfit = refusal of_couplings (coupling_request 1 [] [] [] betas misfit)

-- so many whole numbers from k up
abbrev upward : ℕ → ℕ → List Float
upward k zero = []
upward k (suc n) = fin false k (pos 0) ∷ upward (suc k) n

-- 65 betas, one not finite, the others equal; 64 that rise pass
pub betas-65 : (coupled (inf false ∷ replicate 64 one) true ≡ 2) × (coupled (upward 0 64) true ≡ 12)
unfolding some kept_of le lt neg of_bits
betas-65 = (refl, refl)

-- two edges between the same vertices, and a buffer that does not fit
abbrev twice : ℕ → List Float → ℕ
twice u betas = refusal of_couplings (coupling_request 2 (u ∷ 1 ∷ []) (1 ∷ 0 ∷ []) (one ∷ one ∷ []) betas true)

-- with a beta of 1,025 besides; from -1,024 on, the edges are next
pub beta-1025 : (twice 0 (one ∷ fin false 1025 (pos 0) ∷ []) ≡ 4) × (twice 0 (fin true 1024 (pos 0) ∷ one ∷ []) ≡ 5)
unfolding some kept_of eq le lt neg of_bits
beta-1025 = (refl, refl)

-- an edge with equal ends comes before a beta
pub beta-behind-3 : twice 1 (one ∷ nan ∷ []) ≡ 3
unfolding some
beta-behind-3 = refl

-- betas that fall come before two edges between the same vertices, and behind one that is no number
pub first-21 : (twice 0 (one ∷ fin true 1024 (pos 0) ∷ []) ≡ 21) × (twice 0 (one ∷ fin true 1024 (pos 0) ∷ nan ∷ []) ≡ 4)
unfolding some kept_of eq le lt neg of_bits
first-21 = (refl, refl)

-- equal betas do not rise, zeros of either sign neither, and the last two count as the first two do; one beta or none is not asked
pub equal_betas : (coupled (one ∷ one ∷ []) true ≡ 21) × (coupled (fin true 0 (pos 0) ∷ fin false 0 (pos 0) ∷ []) true ≡ 21)
    × (coupled (fin true 1 (pos 0) ∷ one ∷ one ∷ []) true ≡ 21) × (coupled (one ∷ []) true ≡ 12) × (coupled [] true ≡ 12)
unfolding some kept_of le lt neg of_bits
equal_betas = (refl, refl, refl, refl, refl)

-- ---- totals: two vertices, the edge 0-1, the pair 0-1, one beta: two factors, and a room of 13

abbrev counted_by : Caller → (free most : ℕ) → List Float → (misfit : Bool) → (work : ℕ) → ℕ
counted_by caller free most factors misfit work =
    refusal of_enumeration
    (enumeration_request caller keep_all 2 0 (0 ∷ []) (1 ∷ []) (one ∷ []) (0 ∷ []) (1 ∷ []) (one ∷ []) factors free most misfit work false)

abbrev counted : (free most : ℕ) → List Float → (misfit : Bool) → (work : ℕ) → ℕ
counted = counted_by Desk

-- 35 free edges, and factors too few; 34 pass for totals, 24 for stored correlations
pub first-9 : (counted 35 most_counted [] true 0 ≡ 9) × (counted 25 most_stored [] true 0 ≡ 9)
unfolding some kept_of eq le neg of_bits window_of too_many_near edges_with
first-9 = (refl, refl)

pub free-34 : (counted 34 most_counted (one ∷ one ∷ []) false 13 ≡ 0) × (counted 24 most_stored (one ∷ one ∷ []) false 13 ≡ 0)
unfolding some kept_of eq le lt neg of_bits window_of too_many_near edges_with room
free-34 = (refl, refl)

-- one factor a kept edge is too few: each sign has its own
pub factor-signs : counted 0 most_counted (one ∷ []) true 0 ≡ 10
unfolding some kept_of eq le lt neg of_bits window_of too_many_near edges_with
factor-signs = refl

abbrev drawn : (start end samples : ℕ) → List Float → (misfit : Bool) → (work : ℕ) → ℕ
drawn start end samples factors misfit work =
    refusal of_sampling
    (sampling_request Desk keep_all 2 0 (0 ∷ []) (1 ∷ []) (one ∷ []) (0 ∷ []) (1 ∷ []) (one ∷ []) factors 0 start end samples misfit work false)

-- a bad factor, and too many samples; these, and a buffer that does not fit; such a buffer, and short work memory
pub first-11 : (drawn 0 65537 65536 (one ∷ nan ∷ []) true 0 ≡ 10) × (drawn 0 65537 65536 (one ∷ one ∷ []) true 0 ≡ 11)
    × (drawn 0 65536 65536 (one ∷ one ∷ []) true 0 ≡ 12)
unfolding some kept_of eq le lt neg of_bits window_of too_many_near edges_with
first-11 = (refl, refl, refl)

-- 2^32 samples pass, one more does not, though they be in one chunk; the chunks count from their start
pub samples-over : (drawn 7 8 4294967296 (one ∷ one ∷ []) false 13 ≡ 0) × (drawn 7 8 4294967297 (one ∷ one ∷ []) false 13 ≡ 11)
    × (drawn 1 4294967297 1 (one ∷ one ∷ []) false 13 ≡ 0) × (drawn 0 4294967297 1 (one ∷ one ∷ []) false 13 ≡ 11)
unfolding some kept_of eq le lt neg of_bits window_of too_many_near edges_with room
samples-over = (refl, refl, refl, refl)

-- a product that 64 bits do not hold
pub samples-far : drawn 0 4294967296 4294967296 (one ∷ one ∷ []) false 13 ≡ 11
unfolding some kept_of eq le lt neg of_bits window_of too_many_near edges_with
samples-far = refl

-- an end that isn't above the start, and chunks without samples
pub no_chunk : (drawn 8 8 4294967297 (one ∷ one ∷ []) false 13 ≡ 0) × (drawn 9 8 4294967297 (one ∷ one ∷ []) false 13 ≡ 0)
    × (drawn 0 18446744073709551615 0 (one ∷ one ∷ []) false 13 ≡ 0)
unfolding some kept_of eq le lt neg of_bits window_of too_many_near edges_with room
no_chunk = (refl, refl, refl)

-- a run that no record can hold: behind too many samples and before a buffer that does not fit; an end at the start passes; `sample` does not ask
abbrev recorded : (start end samples : ℕ) → (misfit : Bool) → ℕ
recorded start end samples misfit =
    refusal of_recording
    (sampling_request Desk keep_all 2 0 (0 ∷ []) (1 ∷ []) (one ∷ []) (0 ∷ []) (1 ∷ []) (one ∷ []) (one ∷ one ∷ []) 0 start end samples misfit 13 false)

pub run_26 : (recorded 7 8 4294967297 true ≡ 11) × (recorded 7 8 4294967296 true ≡ 26) × (recorded 7 7 4294967296 true ≡ 26) × (recorded 7 6 1 true ≡ 26)
    × (recorded 7 8 4294967295 true ≡ 12) × (recorded 7 7 4294967295 false ≡ 0)
unfolding some kept_of eq le lt neg of_bits window_of too_many_near edges_with room
run_26 = (refl, refl, refl, refl, refl, refl)

-- ---- the tester

-- a window of 25 is refused by 6, whoever calls; one of 13 by 22 in the tester's calls, before near edges and pairs are asked of; 12 passes
abbrev widened : Caller → (floor : ℕ) → (us vs : List ℕ) → List Float → ℕ
widened caller floor us vs factors =
    refusal of_correlations
    (correlation_request caller keep_all 6 floor (0 ∷ 1 ∷ 2 ∷ 3 ∷ 4 ∷ []) (5 ∷ 5 ∷ 5 ∷ 5 ∷ 5 ∷ []) (one ∷ one ∷ one ∷ one ∷ one ∷ []) us vs factors 0 0 false)

pub tester_window : (widened Tester 25 (0 ∷ []) (6 ∷ []) [] ≡ 6) × (widened Tester 13 (0 ∷ []) (6 ∷ []) [] ≡ 22) × (widened Tester 12 (0 ∷ []) (6 ∷ []) [] ≡ 7)
    × (widened Desk 13 (0 ∷ []) (6 ∷ []) [] ≡ 7)
unfolding some kept_of eq le neg of_bits window_of too_many_near edges_with
tester_window = (refl, refl, refl, refl)

-- `room` has no tester
pub room_untested : refusal of_room (room_request 2 13 [] [] [] (0 ∷ []) (1 ∷ [])) ≡ 0
unfolding some kept_of window_of too_many_near edges_with
room_untested = refl

-- 35 free edges are refused by 9, whoever calls, 25 where each correlation is stored; 17 by 22 in the tester's calls, before the factors are asked of;
-- 16 pass
pub tester_free : (counted_by Tester 35 most_counted [] true 0 ≡ 9) × (counted_by Tester 25 most_stored [] true 0 ≡ 9)
    × (counted_by Tester 17 most_counted [] true 0 ≡ 22) × (counted_by Tester 17 most_stored [] true 0 ≡ 22) × (counted_by Tester 16 most_counted [] true 0 ≡ 10)
    × (counted_by Desk 17 most_counted [] true 0 ≡ 10)
unfolding some kept_of eq le neg of_bits window_of too_many_near edges_with
tester_free = (refl, refl, refl, refl, refl, refl)

-- a sampling has no limit of free edges, whoever calls
pub tester_sampling : refusal of_sampling
    (sampling_request Tester keep_all 2 0 (0 ∷ []) (1 ∷ []) (one ∷ []) (0 ∷ []) (1 ∷ []) (one ∷ []) (one ∷ one ∷ []) 17 0 1 1 false 13 false) ≡ 0
unfolding some kept_of eq le lt neg of_bits window_of too_many_near edges_with room
tester_sampling = refl

-- ---- house calls

-- 1/256, which is off the grid
abbrev half_step : Float
half_step = fin false 1 (negsuc 7)

-- two vertices, the edge 0-1, the pair u-v, and couplings
abbrev housed_single : ℕ → ℕ → List Float → (results work : ℕ) → ℕ
housed_single u v couplings results work =
    refusal (housed of_correlations) (correlation_request Desk keep_all 2 0 (0 ∷ []) (1 ∷ []) (one ∷ []) (u ∷ []) (v ∷ []) couplings results work false)

-- a pair with equal ends, and a coupling that is no number; a coupling off the grid, and results of another length
pub first-23 : (housed_single 0 0 (nan ∷ []) 2 0 ≡ 8) × (housed_single 0 1 (nan ∷ []) 2 0 ≡ 23) × (housed_single 0 1 (inf true ∷ []) 2 0 ≡ 23)
    × (housed_single 0 1 (half_step ∷ []) 2 0 ≡ 23) × (housed_single 0 1 (fin false 5 (pos 0) ∷ []) 2 0 ≡ 23)
unfolding some kept_of eq le lt neg of_bits window_of too_many_near edges_with off_grid
first-23 = (refl, refl, refl, refl, refl)

-- one coupling too few or too many, though all are on the grid; the grid goes from -4 to 4, zeros of either sign are on it, and no factor is asked of
pub coupling-each : (housed_single 0 1 [] 2 0 ≡ 23) × (housed_single 0 1 (one ∷ one ∷ []) 2 0 ≡ 23) × (housed_single 0 1 (fin true 4 (pos 0) ∷ []) 1 13 ≡ 0)
    × (housed_single 0 1 (fin false 4 (pos 0) ∷ []) 1 13 ≡ 0) × (housed_single 0 1 (fin true 0 (pos 0) ∷ []) 1 13 ≡ 0)
unfolding some kept_of eq le lt neg of_bits window_of too_many_near edges_with room off_grid
coupling-each = (refl, refl, refl, refl, refl)

-- totals: the coupling is a beta times the magnitude 1
abbrev housed_counted : Caller → (free : ℕ) → (beta : Float) → (misfit : Bool) → (work : ℕ) → ℕ
housed_counted caller free beta misfit work =
    refusal (housed of_enumeration)
    (house_enumeration_request caller keep_all 2 0 (0 ∷ []) (1 ∷ []) (one ∷ []) (0 ∷ []) (1 ∷ []) (beta ∷ []) free most_counted misfit work false)

abbrev housed_drawn : (samples : ℕ) → (beta : Float) → (misfit : Bool) → (work : ℕ) → ℕ
housed_drawn samples beta misfit work =
    refusal (housed of_sampling)
    (house_sampling_request Desk keep_all 2 0 (0 ∷ []) (1 ∷ []) (one ∷ []) (0 ∷ []) (1 ∷ []) (beta ∷ []) 0 0 1 samples misfit work false)

-- free edges come before the grid, the grid before samples and buffers
pub grid_of_totals : (housed_counted Desk 35 half_step true 0 ≡ 9) × (housed_counted Tester 17 half_step true 0 ≡ 22) × (housed_counted Tester 16 half_step true 0 ≡ 23)
    × (housed_counted Desk 34 one true 0 ≡ 12) × (housed_drawn 4294967297 half_step true 0 ≡ 23) × (housed_drawn 4294967297 one true 0 ≡ 11)
    × (housed_drawn 1 one false 13 ≡ 0)
unfolding some tabulate kept_of eq le lt neg of_bits mul round window_of too_many_near edges_with room off_grid
grid_of_totals = (refl, refl, refl, refl, refl, refl, refl)
