-- Laws of what specs/Top defines.
use Rattle.std.specs.Prelude.{◌≡◌, ◌⊎◌, Bool, true, false, cond, List, [], ◌∷◌, ◌++◌, T, Float}
use Rattle.std.proofs.Math.Path.{refl}
use Rattle.std.proofs.Common.{ap, ◌∙◌}
use Rattle.std.proofs.Math.Logic.{inl, inr, dite}
use Prim.Native.Nat.{ℕ, zero, suc, ◌<◌}
use Rattle.std.proofs.Math.Decide.{dec_lt}
use native.Mathlib.Omega.{arith}
use Rattle.std.specs.Float.{binary64}
use Rattle.std.specs.Float.Ieee.{lt, fits}
use Rattle.list_laws.specs.Tabulate.{tabulate}
use Rattle.list_laws.proofs.Laws.Tabulate.{tabulate_suc}
use Rattle.transfer_matrix.specs.Rounded.{ieee}
use Rattle.transfer_matrix.specs.Sweep as S
use Rattle.largest_entry.specs.Larger.{larger}
use Rattle.largest_entry.proofs.Laws.Order.{plus, above-plus, not_above_itself, still_not, one_float, nor_above, below_origin}
use Rattle.largest_entry.specs.Top.{top}

-- m is +0.0 or one of the numbers in P, and none of these is above it
pub record Top (P : Float → Type 0) (m : Float) : Type 0 where
  pub sign : T (plus m)
  pub fit : T (fits binary64 m)
  pub reached : (m ≡ ieee.𝟘) ⊎ P m
  pub bound : (x : Float) → P x → lt m x ≡ false

module _ {P Q : Float → Type 0} {m k : Float} where
  -- one set has one largest number
  pub top-same : ((x : Float) → P x → Q x) → ((x : Float) → Q x → P x) → Top P m → Top Q k → m ≡ k
  top-same pq qp a b = one_float m k a.sign b.sign a.fit b.fit (under b.reached) (over a.reached)
    where
      under : ((k ≡ ieee.𝟘) ⊎ Q k) → lt m k ≡ false
      under (inl e) = rw e (below_origin m a.sign)
      under (inr q) = a.bound k (qp k q)

      over : ((m ≡ ieee.𝟘) ⊎ P m) → lt k m ≡ false
      over (inl e) = rw e (below_origin k b.sign)
      over (inr p) = b.bound m (pq m p)

  -- the larger of the largest of two sets is that of both
  pub top_join : Top P m → Top Q k → Top (λ x. P x ⊎ Q x) (larger m k)
  unfolding larger
  top_join a b = go (lt m k) refl
    where
      left : ((m ≡ ieee.𝟘) ⊎ P m) → (m ≡ ieee.𝟘) ⊎ (P m ⊎ Q m)
      left (inl e) = inl e
      left (inr p) = inr (inl p)

      right : ((k ≡ ieee.𝟘) ⊎ Q k) → (k ≡ ieee.𝟘) ⊎ (P k ⊎ Q k)
      right (inl e) = inl e
      right (inr q) = inr (inr q)

      bound_k : lt m k ≡ true → (x : Float) → (P x ⊎ Q x) → lt k x ≡ false
      bound_k e x (inl p) = still_not m k x a.sign b.sign e (a.bound x p)
      bound_k e x (inr q) = b.bound x q

      bound_m : lt m k ≡ false → (x : Float) → (P x ⊎ Q x) → lt m x ≡ false
      bound_m e x (inl p) = a.bound x p
      bound_m e x (inr q) = nor_above m k x a.sign b.sign e (b.bound x q)

      go : (t : Bool) → lt m k ≡ t → Top (λ x. P x ⊎ Q x) (cond t k m)
      go true e = record { sign = b.sign; fit = b.fit; reached = right b.reached; bound = bound_k e }
      go false e = record { sign = a.sign; fit = a.fit; reached = left a.reached; bound = bound_m e }

top_map : {P Q : Float → Type 0} {m : Float} → ((x : Float) → P x → Q x) → ((x : Float) → Q x → P x) → Top P m → Top Q m
top_map {P} {Q} {m} pq qp a = record { sign = a.sign; fit = a.fit; reached = go a.reached; bound = λ x q. a.bound x (qp x q) }
  where
    go : ((m ≡ ieee.𝟘) ⊎ P m) → (m ≡ ieee.𝟘) ⊎ Q m
    go (inl e) = inl e
    go (inr p) = inr (pq m p)

-- one number more
top-more : {P : Float → Type 0} {m : Float} (y : Float) → T (fits binary64 y) → Top P m → Top (λ x. P x ⊎ (x ≡ y)) (larger m y)
unfolding larger
top-more {P} {m} y f a = go (lt m y) refl
  where
    left : ((m ≡ ieee.𝟘) ⊎ P m) → (m ≡ ieee.𝟘) ⊎ (P m ⊎ (m ≡ y))
    left (inl e) = inl e
    left (inr p) = inr (inl p)

    bound_y : lt m y ≡ true → (x : Float) → (P x ⊎ (x ≡ y)) → lt y x ≡ false
    bound_y e x (inl p) = still_not m y x a.sign (above-plus m y a.sign e) e (a.bound x p)
    bound_y e x (inr q) = rw q (not_above_itself y (above-plus m y a.sign e))

    bound_m : lt m y ≡ false → (x : Float) → (P x ⊎ (x ≡ y)) → lt m x ≡ false
    bound_m e x (inl p) = a.bound x p
    bound_m e x (inr q) = rw q e

    go : (t : Bool) → lt m y ≡ t → Top (λ x. P x ⊎ (x ≡ y)) (cond t y m)
    go true e = record { sign = above-plus m y a.sign e; fit = f; reached = inr (inr refl); bound = bound_y e }
    go false e = record { sign = a.sign; fit = a.fit; reached = left a.reached; bound = bound_m e }

-- ---- of the first n entries of a rule

largest-last : (m x : Float) (l : List Float) → S.largest ieee m (l ++ (x ∷ [])) ≡ larger (S.largest ieee m l) x
unfolding S.largest larger
largest-last m x [] = refl
largest-last m x (y ∷ l) = largest-last (cond (lt m y) y m) x l

pub top-none : (f : ℕ → Float) → ieee.𝟘 ≡ top f 0
unfolding tabulate S.largest
top-none f = refl

pub tops_none : (f g : ℕ → Float) → ieee.𝟘 ≡ larger (top f 0) (top g 0)
unfolding larger plus
tops_none f g = rw (← top-none f, ← top-none g, not_above_itself ieee.𝟘 tt)

pub top_suc : (f : ℕ → Float) (n : ℕ) → top f (suc n) ≡ larger (top f n) (f n)
top_suc f n = ap (S.largest ieee ieee.𝟘) (tabulate_suc f n) ∙ largest-last ieee.𝟘 (f n) (tabulate f n)

-- x is one of them
abbrev pub Among : (ℕ → Float) → ℕ → Float → Type 0
Among f n x = (j : ℕ) × (j < n) × (x ≡ f j)

module _ (f : ℕ → Float) (fit : (j : ℕ) → T (fits binary64 (f j))) where
  pub top-is : (n : ℕ) → Top (Among f n) (top f n)
  unfolding tabulate S.largest plus fits
  top-is zero = record { sign = tt; fit = tt; reached = inl refl; bound = λ x w. absurd (omega (arith, w.1)) }
  top-is (suc n) = rw (top_suc f n) (top_map more less (top-more (f n) (fit n) (top-is n)))
    where
      more : (x : Float) → (Among f n x ⊎ (x ≡ f n)) → Among f (suc n) x
      more x (inl w) = (w.0, omega (arith, w.1), w.2)
      more x (inr e) = (n, omega arith, e)

      less : (x : Float) → Among f (suc n) x → Among f n x ⊎ (x ≡ f n)
      less x w = dite (dec_lt w.0 n) (λ l. inl (w.0, l, w.2)) (λ l. let e : w.0 ≡ n = omega (arith, w.1) in inr (w.2 ∙ ap f e))
