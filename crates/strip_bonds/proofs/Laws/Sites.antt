-- Laws of what specs/Sites defines.
use Rattle.std.specs.Prelude.{◌≡◌, List, ◌++◌, ℕ, zero, suc, ◌+◌, ◌-◌, ◌*◌, ◌/◌, ◌%◌, ◌≤◌, length}
use Rattle.std.proofs.Math.Path.{refl}
use Rattle.std.proofs.Common.{sym, ap, ◌∙◌, arith, length-append}
use Rattle.std.proofs.Math.Numerals.{add-one}
use Rattle.strip.specs.declared.strip.Strip.{Strip}
use Rattle.strip_bonds.specs.declared.Edge.{Edge}
use Rattle.strip_bonds.specs.Edges.{across, wrap, along, rising, falling, rules, added, edges_below, edges}
use Rattle.strip_bonds.specs.Sites.{site_count}

module _ (s : Strip) where
  pub added-length : (x y : ℕ) (es : List Edge) → length (added rules s x y es) ≡ length es + site_count s x y
  added-length x y es =
      let a = es ++ across s x y in
      let b = a ++ wrap s x y in
      let c = b ++ along s x y in
      let d = c ++ rising s x y in
      omega (
        arith,
        length-append es (across s x y),
        length-append a (wrap s x y),
        length-append b (along s x y),
        length-append c (rising s x y),
        length-append d (falling s x y),
      )

  pub edges_more : (v : ℕ) → edges_below s (v + 1) ≡ added rules s (v / s.w) (v % s.w) (edges_below s v)
  unfolding edges_below
  edges_more v = rw add-one

  pub no_edges : length (edges_below s 0) ≡ 0
  unfolding edges_below
  no_edges = refl

  pub count-more : (v k c : ℕ) → k ≡ length (edges_below s v) → c ≡ site_count s (v / s.w) (v % s.w) → k + c ≡ length (edges_below s (v + 1))
  count-more v k c p q = rw (p, q) (sym (ap length (edges_more v) ∙ added-length (v / s.w) (v % s.w) (edges_below s v)))

  -- more sites have no fewer edges
  edges_grow : (v d : ℕ) → length (edges_below s v) ≤ length (edges_below s (v + d))
  edges_grow v zero = let e : v + 0 ≡ v = omega arith in rw e (omega arith)
  edges_grow v (suc d) =
      let e : v + suc d ≡ v + d + 1 = omega arith in
      let n = v + d in
      rw e (omega (arith, edges_grow v d, count-more n (length (edges_below s n)) (site_count s (n / s.w) (n % s.w)) refl refl))

  pub edges-below : (v : ℕ) → v ≤ s.w * s.l → length (edges_below s v) ≤ length (edges s)
  edges-below v h =
      let n = s.w * s.l in
      let e : v + (n - v) ≡ n = omega arith in
      rw e at (edges_grow v (n - v))
