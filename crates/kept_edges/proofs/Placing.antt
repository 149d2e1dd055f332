-- The places of the kept edges, one raw edge after the other, and the buffer that they are written to.
use mathlib.Core.Path.{◌≡◌, refl, ◌∙◌}
use mathlib.Core.Bool.{true, false}
use mathlib.Core.List.{List, [], ◌∷◌, ◌++◌}
use Prim.Native.Nat.{ℕ, ◌+◌, ◌≤◌, ◌<◌}
use native.Mathlib.Omega.{arith}
use lib.Ieee.{Float, nan}
use lib.ListN.{length, get_or, set, length-append, length-map, length-set}
use Rattle.refusals.specs.Edges.{kept_at, kept_of, is_zero}
use Rattle.kept_edges.specs.Keep.{places_of, Placed}
use Rattle.kept_edges.proofs.Keeping.{kept-dropped, kept_more, kept-below, column-more}

-- the places of the first i stand at the front, and all of them would fit
pub record Placing (m : List Float) (i k : ℕ) (raw₀ raw : List ℕ) : Type 0 where
  pub placed : Placed m i k raw₀ raw
  pub fits : length (places_of m (length m)) ≤ length raw₀
  pub within : i ≤ length m
  pub raws : length raw ≡ length raw₀

pub place_none : (m : List Float) (raw : List ℕ) → length (places_of m (length m)) ≤ length raw → Placing m 0 0 raw raw
unfolding kept_of
place_none m raw h = record { placed = record { edges = refl; raws = refl }; fits = h; within = omega arith; raws = refl }

module _ {m : List Float} {i k : ℕ} {raw₀ raw : List ℕ} (P : Placing m i k raw₀ raw) (i< : i < length m) where
  pub place_not : is_zero (get_or m i nan) ≡ true → Placing m (i + 1) k raw₀ raw
  place_not z =
      let e = kept-dropped [] [] m i z in
      let w = P.placed in
      record { placed = record { edges = rw e w.edges; raws = rw e w.raws }; fits = P.fits; within = omega arith; raws = P.raws }

  -- a kept edge's place has room
  pub place-room : is_zero (get_or m i nan) ≡ false → k < length raw
  place-room z =
      let l = kept-below [] [] m (length m) i i< z in
      let p = length-map (kept_of [] [] m i) (λ e. e.place) in
      let q = length-map (kept_of [] [] m (length m)) (λ e. e.place) in
      omega (arith, P.placed.edges, P.fits, P.raws)

  pub place_it : is_zero (get_or m i nan) ≡ false → Placing m (i + 1) (k + 1) raw₀ (set raw k i)
  place_it z =
      let es = kept_of [] [] m i in
      let e = kept_more [] [] m i z in
      let w = P.placed in
      let r = place-room z in
      let c : k ≡ length es = w.edges ∙ length-map es (λ u. u.place) in
      record {
        placed = record {
          edges = rw e (omega (arith, length-append es (kept_at [] [] m i ∷ []), length-map (es ++ (kept_at [] [] m i ∷ [])) (λ u. u.place)));
          raws = rw e (column-more (λ u. u.place) es (kept_at [] [] m i) raw raw₀ i k w.raws c (omega (arith, P.raws)) refl);
        };
        fits = P.fits;
        within = omega arith;
        raws = length-set raw k i ∙ P.raws;
      }

pub place-all : {m : List Float} {i k : ℕ} {raw₀ raw : List ℕ} → Placing m i k raw₀ raw → length m ≤ i → Placed m (length m) k raw₀ raw
place-all {m} {i} P h =
    let w = P.within in
    let e : i ≡ length m = omega arith in
    rw e at P.placed
