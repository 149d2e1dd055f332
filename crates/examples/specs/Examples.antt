-- The settled examples of document 01 that are to be proved, in its order: one list of statements, and one statement over it.
use Rattle.std.specs.Prelude.{◌≡◌, refl, true, false, List, [], ◌∷◌, map, ℕ, zero, suc, ◌<◌, pos, negsuc, Float, get_or}
use Rattle.std.specs.declared.result.Result.TheVariants.{Ok}
use Rattle.std.specs.declared.option.Option.TheVariants.{Some}
use Rattle.std.proofs.Common.{sym, arith}
use Rattle.std.specs.Float.{fin, binary64}
use Rattle.std.specs.Float.Ieee.{round, of_bits, of_int, add, sub, mul, div, neg, lt, le}
use Rattle.list_laws.specs.Most.{most}
use Rattle.list_laws.specs.Tabulate.{tabulate}
use Rattle.edge_bits.specs.Having.{tree}
use Rattle.list_laws.specs.Count.{count}
use Rattle.forest.specs.Labels.{is_tree, labels}
use Rattle.forest.specs.FreeEdges.{free_before, bit_of, bits_of}
use Rattle.distance.specs.Walks.{Distance, Walk, Adjacent, along, back}
use Rattle.transfer_matrix.specs.Job.{Edge, Job, Manner, block, per_element, window_of}
use Rattle.transfer_matrix.specs.Sweep.{answer}
use Rattle.transfer_matrix.specs.Room.{room, keep_all, less_room}
use Rattle.transfer_matrix.specs.Configuration.{configured, enumerated_minus}
use Rattle.transfer_matrix.specs.Rounded.{ieee}
use Rattle.strip_bonds.specs.Edges as Rules
use Rattle.strip_bonds.specs.Edges.{edges, early_ends, late_ends, edges_below}
use Rattle.strip_bonds.proofs.Laws.Square.{square, square_edges, EdgesOfSquare, edges-of-square}
use Rattle.strip_window.specs.Window as Window
use Rattle.sqrt.specs.Sqrt.{sqrt}
use Rattle.estimate.specs.declared.answer.Estimate.TheVariants.{Estimated, TooFew}
use Rattle.estimate.specs.Estimates.{estimate_of}

-- Every statement of a list holds.
abbrev pub AllHold : List (Type 0) → Type 0
AllHold [] = Unit
AllHold (P ∷ Ps) = P × AllHold Ps

-- The double nearest to top / bottom, and to -top / bottom.
abbrev nearest : ℕ → ℕ → Float
nearest top bottom = round binary64 false top bottom

abbrev minus_nearest : ℕ → ℕ → Float
minus_nearest top bottom = round binary64 true top bottom

-- 2, 1/2, 1 and +0.0
abbrev two : Float
two = fin false 1 (pos 1)

abbrev half : Float
half = fin false 1 (negsuc 0)

abbrev one : Float
one = fin false 1 (pos 0)

abbrev +0·0 : Float
+0·0 = fin false 0 (pos 0)

abbrev edge : ℕ → ℕ → Float → Edge Float
edge a b x = record { early = a; late = b; factor = x }

abbrev job : ℕ → ℕ → List (Edge Float) → Manner → Job Float
job last floor es manner = record { last = last; window = window_of floor (map (λ e. e.early) es) (map (λ e. e.late) es); edges = es; manner = manner }

-- Vertices 0, 1, one edge, a factor, a floor.
abbrev bond : Float → ℕ → Manner → Job Float
bond x floor manner = job 1 floor (edge 0 1 x ∷ []) manner

-- The ends of the square's edges, as the strip has them.
abbrev early : List ℕ
early = early_ends (edges square)

abbrev late : List ℕ
late = late_ends (edges square)

-- The square with factors 2 and 1/2, block manner, in a configuration.
abbrev configuration : ℕ → Job Float
configuration c =
    job 3 0
    (configured +0·0 early late (two ∷ half ∷ two ∷ half ∷ two ∷ half ∷ two ∷ half ∷ []) 0 (enumerated_minus (bit_of early late) c))
    block

pub examples : List (Type 0)
examples =
    -- vertices 0, 1, one edge, factor 2, window 1, pair 0-1: the double nearest 3/5, either manner; room 13
    (answer ieee (bond two 0 block) 0 1 ≡ nearest 3 5)
    ∷ (answer ieee (bond two 0 per_element) 0 1 ≡ nearest 3 5)
    ∷ (room keep_all 2 (bond two 0 block).window 1 (0 ∷ []) (1 ∷ []) ≡ 13)
    -- the same with floor 2: the same double; room 19
    ∷ (answer ieee (bond two 2 block) 0 1 ≡ nearest 3 5)
    ∷ (answer ieee (bond two 2 per_element) 0 1 ≡ nearest 3 5)
    ∷ (room keep_all 2 (bond two 2 block).window 1 (0 ∷ []) (1 ∷ []) ≡ 19)
    -- and in less room 15
    ∷ (room less_room 2 (bond two 2 block).window 1 (0 ∷ []) (1 ∷ []) ≡ 15)
    -- factor 1/2: the double nearest -3/5; factor 1: +0.0
    ∷ (answer ieee (bond half 0 block) 0 1 ≡ minus_nearest 3 5)
    ∷ (answer ieee (bond half 0 per_element) 0 1 ≡ minus_nearest 3 5)
    ∷ (answer ieee (bond one 0 block) 0 1 ≡ +0·0)
    ∷ (answer ieee (bond one 0 per_element) 0 1 ≡ +0·0)
    -- a third vertex without edges, window 1, factor 2: pair 0-2 gives +0.0
    ∷ (answer ieee (job 2 0 (edge 0 1 two ∷ []) block) 0 2 ≡ +0·0)
    ∷ (answer ieee (job 2 0 (edge 0 1 two ∷ []) per_element) 0 2 ≡ +0·0)
    -- square 2 by 2, free: edges 0-1, 0-2, 1-3, 2-3; window 2, of the strip and of the job; only edge 2-3 is free, and has bit 0
    ∷ EdgesOfSquare
    ∷ (Window.window_of square ≡ 2)
    ∷ (window_of 0 early late ≡ 2)
    ∷ (bits_of early late ≡ tree ∷ tree ∷ tree ∷ 0 ∷ [])
    -- there, factors 2 and 1/2, block manner: pair 0-1 gives the doubles nearest 255/353 and 15/34 in configurations 0 and 1
    ∷ (answer ieee (configuration 0) 0 1 ≡ nearest 255 353)
    ∷ (answer ieee (configuration 1) 0 1 ≡ nearest 15 34)
    -- pair 0-3: nearest 225/353, then +0.0; its distance is 2
    ∷ (answer ieee (configuration 0) 0 3 ≡ nearest 225 353)
    ∷ (answer ieee (configuration 1) 0 3 ≡ +0·0)
    ∷ Distance early late 0 3 (Some 2)
    -- count 2, sums 1 and 1: mean 0.5, error 0.5; count 1, sums 1 and 1: too few, mean 1
    ∷ (estimate_of 2 one one ≡ Ok (Estimated (record { mean = half; error = half })))
    ∷ (estimate_of 1 one one ≡ Ok (TooFew one))
    ∷ []

-- ---- no walk from 0 to 3 is shorter than 2

-- no edge joins 0 and 3
no_edge : (j : ℕ) → j < 4 → get_or (early_ends square_edges) j 0 ≡ 0 → get_or (late_ends square_edges) j 0 ≡ 3 → ⊥
no_edge zero b p q = omega arith
no_edge (suc zero) b p q = omega arith
no_edge (suc (suc zero)) b p q = omega arith
no_edge (suc (suc (suc zero))) b p q = omega arith
no_edge (suc (suc (suc (suc j)))) b p q = omega arith

-- no edge starts at 3
no_start : (j : ℕ) → j < 4 → get_or (early_ends square_edges) j 0 ≡ 3 → ⊥
no_start zero b q = omega arith
no_start (suc zero) b q = omega arith
no_start (suc (suc zero)) b q = omega arith
no_start (suc (suc (suc zero))) b q = omega arith
no_start (suc (suc (suc (suc j)))) b q = omega arith

two-apart : Distance (early_ends square_edges) (late_ends square_edges) 0 3 (Some 2)
unfolding Walk
two-apart = ((2, (0, refl, along 1 (omega arith)), along 3 (omega arith)), shorter)
  where
    adjacent : (u v : ℕ) → u ≡ 0 → v ≡ 3 → Adjacent (early_ends square_edges) (late_ends square_edges) u v → ⊥
    adjacent u v p q (along j b) = no_edge j b p q
    adjacent u v p q (back j b) = no_start j b q

    shorter : (j : ℕ) → j < 2 → Walk (early_ends square_edges) (late_ends square_edges) j 0 3 → ⊥
    shorter zero b w = omega arith
    shorter (suc zero) b w = adjacent w.0 3 (sym w.1) refl w.2
    shorter (suc (suc j)) b w = omega arith

pub examples-hold : AllHold examples
unfolding examples add sub mul div neg lt le round of_bits of_int sqrt answer room window_of configured enumerated_minus bits_of bit_of free_before count is_tree labels tabulate most edges_below Rules.across Rules.wrap Rules.along Rules.rising Rules.falling estimate_of
examples-hold =
    (refl, (refl, (refl, (refl, (refl, (refl, (refl, (refl, (refl, (refl, (refl, (refl, (refl, (edges-of-square, (refl, (refl, (refl, (refl, (refl, (refl, (refl, (two-apart, (refl, (refl, tt))))))))))))))))))))))))
