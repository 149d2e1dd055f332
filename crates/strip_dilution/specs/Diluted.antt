-- The magnitudes of a diluted strip: two uniforms for each edge in order, the first of which decides whether the edge is kept.
use Rattle.std.specs.Prelude.{cond, List, ℕ, zero, suc, Float, length}
use Rattle.std.specs.Int.Bits.{bit_xor}
use Rattle.std.specs.Float.{binary64}
use Rattle.std.specs.Float.Ieee.{add, sub, mul, lt, of_bits}
use Rattle.list_laws.specs.Tabulate.{tabulate}
use Rattle.rng.specs.Xoshiro.{output, next, seeded}
use Rattle.rng.specs.Uniform.{unit}
use Rattle.refusals.specs.StripRequest.{Dilution, strip_refusal, of_diluted}
use Rattle.strip_bonds.specs.Edges.{edges_below, edges}
use Rattle.strip.specs.Requests.{diluted_request}
use Rattle.strip_edges.specs.Listing.{too_short}
use Rattle.strip.specs.declared.strip.Strip.{Strip}

-- the uniform that a state gives, and the state after it
unfoldable pub uniform : List ℕ → Float
unfolding unit
uniform state = unit (output state)

unfoldable pub advanced : List ℕ → List ℕ
advanced state = next state

-- keep an edge whose first uniform is below `keep`; its magnitude is low + (high - low) * the second, each operation rounded
unfoldable pub magnitude : Dilution → List ℕ → Float
unfolding uniform advanced
magnitude d state =
    let drawn = add binary64 d.low (mul binary64 (sub binary64 d.high d.low) (uniform (advanced state))) in
    cond (lt (uniform state) d.keep) drawn (of_bits binary64 0)

-- the state before the draws of edge i
unfoldable pub state_at : ℕ → ℕ → List ℕ
unfolding advanced
state_at seed zero = seeded (bit_xor seed 0xd11)
state_at seed (suc i) = advanced (advanced (state_at seed i))

-- the magnitudes of n edges
abbrev pub magnitudes : Dilution → ℕ → ℕ → List Float
magnitudes d seed n = tabulate (λ i. magnitude d (state_at seed i)) n

abbrev pub dilution : Float → Float → Float → Dilution
dilution keep low high = record { keep = keep; low = low; high = high }

-- what refuses a call for a diluted strip
unfoldable pub diluted_refusal : Strip → Dilution → List ℕ → List ℕ → List Float → ℕ
unfolding edges_below
diluted_refusal s d early late mag = strip_refusal of_diluted (diluted_request s d (too_short (length (edges s)) early late mag))
