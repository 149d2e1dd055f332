-- Counts of the near edges of every vertex: no less than its row has.
use mathlib.Core.Path.{◌≡◌, refl, sym, ap}
use mathlib.Core.Bool.{Bool, true, false, cond}
use mathlib.Core.List.{List, [], ◌∷◌}
use Prim.Native.Nat.{ℕ, suc, ◌+◌, ◌-◌, ◌≤◌, ◌<◌}
use native.Mathlib.Decide.{ℕ_discrete}
use native.Mathlib.Omega.{arith}
use lib.Dec.{eqb, ltb}
use lib.ListN.{length, get_or, set, length-set, replicate, length-replicate, get_or-replicate}
use lib.Seq.{get_or-set_same, get_or-set_other}
use borrow.Author.Tests.{le-ltb}
use Rattle.list_laws.proofs.Laws.Search as Search
use Rattle.transfer_matrix.specs.Job.{Back, back_edges, too_many_near}
use Rattle.transfer_matrix.specs.Configuration.{numbered}
use Rattle.plan_steps.specs.Edges.{Edges}
use Rattle.plan_steps.specs.Rows.{first_back, listed, back, insert, near_among, Counts}
use Rattle.plan_steps.proofs.Laws.Listed.{backs_listed, listed_ext}
use Rattle.plan_steps.proofs.Entering.{first_miss, listed-none, apart, near-insert}

pub counts_start : (early late : List ℕ) (n w k : ℕ) → n ≤ k → Counts (replicate k 0) early late n w 0
unfolding first_back
counts_start early late n w k h =
    record {
      long = omega (arith, length-replicate {A = ℕ} k 0);
      most = λ t b. omega (arith, ap length (listed-none (λ d. first_back early late t d 0) (λ d. refl) 1 (w - 1)));
      few = λ t b. omega (arith, get_or-replicate {A = ℕ} k t 0 0 (omega arith));
    }

insert-length : (b : Back ℕ) (l : List (Back ℕ)) → length (insert b l) ≤ suc (length l)
unfolding insert
insert-length b [] = omega arith
insert-length b (a ∷ l) = go (eqb b.distance a.distance) (ltb b.distance a.distance) (insert-length b l)
  where
    go : (p q : Bool) → length (insert b l) ≤ suc (length l)
        → length (cond p (a ∷ l) (cond q (b ∷ a ∷ l) (a ∷ insert b l))) ≤ suc (length (a ∷ l))
    go true q h = omega arith
    go false true h = omega arith
    go false false h = omega arith

module _ (early late counts : List ℕ) (n w e : ℕ) (g : Edges early late n w) (b : e < length early) (h : Counts counts early late n w e) where
  abbrev t : ℕ
  t = get_or late e 0

  abbrev d : ℕ
  d = t - get_or early e 0

  -- the edge is of another vertex
  elsewhere : (u : ℕ) → (u ≡ t → ⊥) → near_among early late w (e + 1) u ≡ near_among early late w e u
  elsewhere u ne =
      ap length
      (listed_ext (λ (i : ℕ). i) (λ c. first_back early late u c (e + 1)) (λ c. first_back early late u c e) 1 (w - 1)
      (λ c x z. first_miss early late u c e (λ p q. ne (sym p))))

  -- an edge as long as the window is not near
  pub counts_left : w ≤ d → Counts counts early late n w (e + 1)
  counts_left l = record { long = h.long; most = λ u x. go u x (ℕ_discrete u t); few = h.few }
    where
      go : (u : ℕ) → u < n → Dec (u ≡ t) → near_among early late w (e + 1) u ≤ get_or counts u 0
      go u x (yes p) =
          rw p
          (omega (
            arith,
            h.most t (g.inside e b),
            ap length
                (listed_ext (λ (i : ℕ). i) (λ c. first_back early late t c (e + 1)) (λ c. first_back early late t c e) 1 (w - 1)
                (λ c y z. apart early late n w e g b c (λ s. omega arith))),
          ))
      go u x (no p) = omega (arith, h.most u x, elsewhere u p)

  pub counts_near : d < w → (get_or counts t 0 ≡ 4 → ⊥) → Counts (set counts t (get_or counts t 0 + 1)) early late n w (e + 1)
  counts_near l ne =
      record {
        long = simp length-set h.long;
        most = λ u x. go u x (ℕ_discrete u t);
        few = λ u x. bound u x (ℕ_discrete u t);
      }
    where
      here : get_or (set counts t (get_or counts t 0 + 1)) t 0 ≡ get_or counts t 0 + 1
      here = get_or-set_same counts t (get_or counts t 0 + 1) 0 (omega (arith, g.inside e b, h.long))

      there : (u : ℕ) → (u ≡ t → ⊥) → get_or (set counts t (get_or counts t 0 + 1)) u 0 ≡ get_or counts u 0
      there u p = get_or-set_other counts t u (get_or counts t 0 + 1) 0 p

      go : (u : ℕ) → u < n → Dec (u ≡ t) → near_among early late w (e + 1) u ≤ get_or (set counts t (get_or counts t 0 + 1)) u 0
      go u x (yes p) =
          rw (p, here)
          (omega (
            arith,
            h.most t (g.inside e b),
            ap length (near-insert early late n w e g b l),
            insert-length (back d e) (listed (λ (i : ℕ). i) (λ c. first_back early late t c e) 1 (w - 1)),
          ))
      go u x (no p) = rw (there u p) (omega (arith, h.most u x, elsewhere u p))

      bound : (u : ℕ) → u < n → Dec (u ≡ t) → get_or (set counts t (get_or counts t 0 + 1)) u 0 ≤ 4
      bound u x (yes p) = rw (p, here) (omega (arith, ne, h.few t (g.inside e b)))
      bound u x (no p) = rw (there u p) (h.few u x)

-- every edge is counted, and no count went over four
pub counted-few : (early late counts : List ℕ) (n w : ℕ) → Counts counts early late n w (length early)
    → too_many_near n w (numbered early late) ≡ false
unfolding too_many_near
counted-few early late counts n w h =
    Search.none_of _ n
    (λ t l.
    le-ltb 4 (length (back_edges (numbered early late) t 1 (w - 1)))
    (omega (arith, h.most t l, h.few t l, ap length (backs_listed early late (λ (i : ℕ). i) t 1 (w - 1)))))
