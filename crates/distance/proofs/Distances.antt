-- Lengths that start at 0 in one vertex and that no edge lowers any more are the distances from it.
use mathlib.Core.Path.{◌≡◌, refl, ◌∙◌}
use mathlib.Core.List.{List}
use Prim.Native.Nat.{ℕ, zero, suc, ◌+◌, ◌≤◌, ◌<◌}
use native.Mathlib.Decide.{ℕ_discrete}
use native.Mathlib.Omega.{arith}
use lib.ListN.{length, get_or, set, length-set, replicate, length-replicate, get_or-replicate}
use lib.Seq.{get_or-set_same, get_or-set_other}
use Rattle.std.specs.Prelude.{Some, None}
use Rattle.distance.specs.Walks.{Inside, Adjacent, along, back, Walk, Distance}
use Rattle.distance.specs.Lengths.{far, weigh, unknown, Entry, away, seen, Sound, Ready, Lowered, Settled}
use Rattle.distance.proofs.Relaxation.{unknown_fewer}

module _ {early late : List ℕ} {u m v x : ℕ} where
  entry_top : Entry early late u m v x → x ≤ far
  entry_top (away p) = omega arith
  entry_top (seen p w) = omega arith

  entry_walk : Entry early late u m v x → (x ≡ far → ⊥) → Walk early late x u v
  entry_walk (away p) n = absurd (n p)
  entry_walk (seen p w) n = w

-- ---- the start: 0 at u, and no other vertex known

unknown-all : (n : ℕ) → unknown (replicate n far) ≡ n
unfolding weigh
unknown-all zero = refl
unknown-all (suc n) = omega (arith, unknown-all n)

abbrev only : ℕ → ℕ → List ℕ
only n u = set (replicate n far) u 0

module _ (n u : ℕ) (u< : u < n) where
  only-length : length (only n u) ≡ n
  only-length = length-set (replicate n far) u 0 ∙ length-replicate n far

  only-sound : (early late : List ℕ) → n ≤ far → Sound early late u (only n u)
  unfolding Walk
  only-sound early late n≤ = record { start = at-u; each = λ v v<. each v (rw only-length at v<) (ℕ_discrete v u) }
    where
      u<' : u < length (replicate n far)
      u<' = rw (length-replicate n far) u<

      at-u : get_or (only n u) u 0 ≡ 0
      at-u = get_or-set_same (replicate n far) u 0 0 u<'

      few : 0 + unknown (only n u) < far
      few = omega (arith, unknown-all n, unknown_fewer (replicate n far) u 0 u<' (λ q. omega (arith, q)) (get_or-replicate n u far 0 u<))

      each : (v : ℕ) → v < n → Dec (v ≡ u) → Entry early late u (unknown (only n u)) v (get_or (only n u) v 0)
      each v v< (yes q) = rw (q, at-u) (seen few refl)
      each v v< (no m) = away (get_or-set_other (replicate n far) u v 0 0 m ∙ get_or-replicate n v far 0 v<)

  pub only-ready : (early late : List ℕ) → n ≤ far → length late ≡ length early → Inside early late n → Ready early late (only n u)
  only-ready early late n≤ e I =
      record {
        same = e;
        inside = rw only-length I;
        top = λ v v<. entry_top ((only-sound early late n≤).each v v<);
      }

-- ---- the end: lowered from that start, until no edge lowers one

module _ (n u : ℕ) (n≤ : n ≤ far) (u< : u < n) {early late d : List ℕ} (I : Inside early late n)
    (L : Lowered early late (only n u) d) (Z : Settled early late 0 (length early) d) where
  end-sound : Sound early late u d
  end-sound = L.sound u (only-sound n u u< early late n≤)

  inside : (v : ℕ) → v < n → v < length d
  inside v v< = rw (L.len, only-length n u u<) v<

  -- a neighbour of a known vertex is known
  next_known : (w v : ℕ) → w < n → v < n → get_or d v 0 ≤ get_or d w 0 + 1 → get_or d w 0 < far → get_or d v 0 < far
  next_known w v w< v< h l = go (end-sound.each w (inside w w<)) (end-sound.each v (inside v v<))
    where
      go : Entry early late u (unknown d) w (get_or d w 0) → Entry early late u (unknown d) v (get_or d v 0) → get_or d v 0 < far
      go (away p) q = omega arith
      go (seen p x) (away q) = omega (arith, unknown_fewer d v 0 (inside v v<) (λ z. omega (arith, z)) q)
      go (seen p x) (seen q y) = omega arith

  -- each edge of a walk adds one at most
  reach : (k v : ℕ) → Walk early late k u v → (get_or d v 0 < far) × (get_or d v 0 ≤ k)
  unfolding Walk
  reach zero v p = let e : get_or d v 0 ≡ 0 = rw p at end-sound.start in (omega arith, omega arith)
  reach (suc k) v (w, p, s) = over s (reach k w p)
    where
      over : {w v : ℕ} → Adjacent early late w v → (get_or d w 0 < far) × (get_or d w 0 ≤ k) → (get_or d v 0 < far) × (get_or d v 0 ≤ suc k)
      over (along j h) q =
          let e = (Z.edge j (omega arith) h).0 in
          (next_known (get_or early j 0) (get_or late j 0) (I j h).0 (I j h).1 e q.0, omega arith)
      over (back j h) q =
          let e = (Z.edge j (omega arith) h).1 in
          (next_known (get_or late j 0) (get_or early j 0) (I j h).1 (I j h).0 e q.0, omega arith)

  pub far_not_joined : (v : ℕ) → get_or d v 0 ≡ far → Distance early late u v None
  far_not_joined v e k p = omega (arith, reach k v p)

  pub known-length : (v : ℕ) → v < n → (get_or d v 0 ≡ far → ⊥) → Distance early late u v (Some (get_or d v 0))
  known-length v v< m = (entry_walk (end-sound.each v (inside v v<)) m, λ j l p. omega (arith, reach j v p))
