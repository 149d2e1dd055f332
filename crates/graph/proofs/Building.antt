-- A graph that was checked, and what is known of its kept edges at the fronts of the lists.
use mathlib.Core.Path.{◌≡◌, subst₂}
use mathlib.Core.Bool.{true, false}
use mathlib.Core.List.{List, []}
use Prim.Native.Nat.{ℕ}
use native.Mathlib.Omega.{arith}
use lib.Ieee.{Float}
use lib.ListN.{length, take}
use Rattle.refusals.specs.Edges.{kept_early, kept_late}
use Rattle.refusals.specs.declared.Refusal.{Refusal}
use Rattle.refusals.specs.Numbers.{refused}
use Rattle.refusals.specs.Request.{distance_request, outside}
use Rattle.refusals.specs.Refusal.{refusal, of_distance}
use Rattle.refusals.proofs.Laws.Later.{then-pair, refused-before, refused_here, refused_not}
use Rattle.forest.specs.Paths.{Edges}
use Rattle.forest.specs.FreeEdges.{ForestBits}
use Rattle.distance.specs.Walks.{Distance}
use Rattle.std.specs.Prelude.{Option, Result}
use Rattle.kept_edges.specs.Keep.{Written, CheckedGraph, KeptEdges}
pub use Rattle.kept_edges.proofs.Laws.Fronts.{front-early, front-late, early-part, late-part, early-fits, late-fits}
pub use Rattle.kept_edges.proofs.Laws.Fronts.{of-kept, kept_fronts}
pub use Rattle.kept_edges.proofs.Laws.Buffers.{buffers-before, buffers_here, buffers_not}

module _ {a b : List ℕ} {m : List Float} {k : ℕ} {early early' late late' : List ℕ} {mag mag' : List Float}
    (W : Written a b m (length a) k early early' late late' mag mag') where
  pub forest-kept : {n : ℕ} {t : List ℕ} → ForestBits n (take k early') (take k late') t → ForestBits n (kept_early a b m) (kept_late a b m) t
  forest-kept {n} {t} s = subst₂ (λ x y. ForestBits n x y t) (front-early W) (front-late W) s

  pub distance-kept : (u v : ℕ) (r : Option ℕ) → Distance (take k early') (take k late') u v r → Distance (kept_early a b m) (kept_late a b m) u v r
  distance-kept u v r d = subst₂ (λ x y. Distance x y u v r) (front-early W) (front-late W) d

-- ---- the graph was checked
module _ {n : ℕ} {a b : List ℕ} {m : List Float} {answer : Result ℕ Refusal} {early early' late late' : List ℕ} {mag mag' : List Float}
    (G : CheckedGraph n a b m [] [] [] answer early early' late late' mag mag') where
  -- of a call with one pair
  module _ (u v : ℕ) where
    pub pair-before : (refused answer ≡ 0 → ⊥) → refused answer ≡ refusal of_distance (distance_request n a b m u v)
    pair-before = refused-before (then-pair n a b m u v) (refused answer) G.refusal

    pub pair_here : refused answer ≡ 0 → outside n u v ≡ true → 8 ≡ refusal of_distance (distance_request n a b m u v)
    pair_here = refused_here (then-pair n a b m u v) (refused answer) G.refusal

    pub pair_not : refused answer ≡ 0 → outside n u v ≡ false → 0 ≡ refusal of_distance (distance_request n a b m u v)
    pair_not = refused_not (then-pair n a b m u v) (refused answer) G.refusal

-- ---- kept edges as a forest spans them
pub joined : {n : ℕ} {early late : List ℕ} → KeptEdges n early late → Edges n early late
joined es = record {
  paired = es.ordered.lengths;
  early-below = λ e h. omega (arith, es.ordered.ends e h, es.inside e h);
  late_below = λ e h. es.inside e h;
}
