-- No kept edge is longer than the edges that it is kept of, and these are the strip's.
use Rattle.std.specs.Prelude.{◌≡◌, false, List, ℕ, ◌-◌, ◌≤◌, ◌<◌, Float, length}
use Rattle.std.proofs.Common.{sym, ap, ◌∙◌}
use native.Mathlib.Omega.{arith}
use Rattle.std.proofs.Math.ListN.{get_or, length-map}
use Rattle.list_laws.specs.Most.{most}
use Rattle.list_laws.proofs.Laws.Most.{most-above, most-least}
use Rattle.transfer_matrix.specs.Job.{longest, window_of}
use Rattle.refusals.specs.Edges.{kept, kept_early, kept_late}
use Rattle.refusals.specs.Places.{edge_of}
use Rattle.refusals.proofs.Laws.Places.{column-at, kept_remember}
use Rattle.kept_edges.specs.Keep.{Ordered}
use Rattle.strip.specs.Requests.{odd_cylinder}
use Rattle.strip.specs.Sides.{Sides}
use Rattle.strip.specs.declared.strip.Strip.{Strip}
use Rattle.strip_bonds.specs.Edges.{edges, early_ends, late_ends}
use Rattle.strip_window.specs.Window as Strips
use Rattle.strip_window.proofs.Laws.EdgeLaws.{ends-inside}

module _ (a b : List ℕ) (m : List Float) (O : Ordered a b) where
  kept_near : (i : ℕ) → i < length (kept a b m) → get_or (kept_late a b m) i 0 - get_or (kept_early a b m) i 0 ≤ most (λ e. get_or b e 0 - get_or a e 0) (length a)
  kept_near i h =
      let R = kept_remember a b m (length a) in
      let p = (edge_of (kept a b m) i).place in
      let inside = R.inside i h in
      let e = R.edge i h in
      let x = column-at (λ u. u.early) (kept a b m) i 0 h ∙ ap (λ u. u.early) e in
      let y = column-at (λ u. u.late) (kept a b m) i 0 h ∙ ap (λ u. u.late) e in
      let o = O.ends p inside in
      let near = most-above (λ u. get_or b u 0 - get_or a u 0) (length a) p inside in
      omega arith

  -- so the window of all edges is the window of the kept ones by that floor
  pub window_stays : window_of 0 a b ≡ window_of (window_of 0 a b) (kept_early a b m) (kept_late a b m)
  unfolding window_of longest
  window_stays =
      let l = most-least (λ e. get_or (kept_late a b m) e 0 - get_or (kept_early a b m) e 0) (length (kept_early a b m)) (most (λ e. get_or b e 0 - get_or a e 0) (length a))
      (λ i h. kept_near i (omega (arith, length-map (kept a b m) (λ e. e.early)))) in
      omega arith

-- the edges of a strip, smaller end first, and their window
pub strip_ordered : (s : Strip) → Sides s.w s.l → odd_cylinder s ≡ false → Ordered (early_ends (edges s)) (late_ends (edges s))
strip_ordered s S o =
    let p = length-map (edges s) (λ e. e.early) in
    let q = length-map (edges s) (λ e. e.late) in
    record { lengths = q ∙ sym p; ends = λ i h. (ends-inside s S o i (omega (arith, p))).0 }

pub strip_window : (s : Strip) → window_of 0 (early_ends (edges s)) (late_ends (edges s)) ≡ Strips.window_of s
unfolding window_of longest
strip_window s = rw (length-map (edges s) (λ e. e.early)) (omega arith)
