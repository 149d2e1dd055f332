-- What the loops that make a step's tables know on their way, and that the tables are the step's.
use mathlib.Core.Path.{◌≡◌, refl, sym, ap, ◌∙◌}
use mathlib.Core.Bool.{Bool, true, false, cond}
use mathlib.Core.List.{List}
use mathlib.Core.Logic.{dite}
use Prim.Native.Nat.{ℕ, zero, suc, ◌+◌, ◌-◌, ◌/◌, ◌%◌, ◌^◌, ◌≤◌, ◌<◌}
use native.Mathlib.Decide.{dec_lt}
use native.Mathlib.Numerals.{add-one}
use native.Mathlib.Omega.{arith}
use lib.Dec.{eqb}
use lib.ListN.{length, get_or, set}
use lib.Seq.{get_or-set_other, get_or-set_same}
use lib.Ieee.{Float, nan, binary64, mul, div, of_bits}
use Rattle.transfer_matrix.specs.Job.{Back}
use Rattle.transfer_matrix.specs.Rounded.{ieee}
use Rattle.transfer_matrix.specs.Sweep as S
use Rattle.step_tables.proofs.Laws.Constants.{one-is}
use Rattle.step_tables.specs.Step.{Filled, near_edges, left_edge}

near-length : (x : List Float) (bits : List ℕ) (i n : ℕ) → length (near_edges x bits i n) ≡ n
unfolding near_edges
near-length x bits i zero = refl
near-length x bits i (suc n) = ap suc (near-length x bits (suc i) n)

-- ---- the product of a pattern: f is the product so far, r the rest of the pattern

module _ (x : List Float) (bits : List ℕ) (i n r : ℕ) (f W : Float) where
  product_open : (k : ℕ) → S.product ieee (near_edges x bits i (suc k)) r f
      ≡ S.product ieee (near_edges x bits (suc i) k) (r / 2) (cond (eqb (r % 2) 1) (div binary64 f (get_or x i nan)) (mul binary64 f (get_or x i nan)))
  unfolding S.product near_edges
  product_open k =
      let q : r / 2 ^ 0 % 2 ≡ r % 2 = omega arith in
      let next : ℕ → Float = λ c. cond (eqb c 1) (div binary64 f (get_or x i nan)) (mul binary64 f (get_or x i nan)) in
      ap (λ (c : ℕ). S.product ieee (near_edges x bits (suc i) k) (r / 2) (next c)) q

  pub product_iteration : (f' : Float) → i < n → f' ≡ cond (eqb (r % 2) 1) (div binary64 f (get_or x i nan)) (mul binary64 f (get_or x i nan))
      → S.product ieee (near_edges x bits i (n - i)) r f ≡ W → S.product ieee (near_edges x bits (i + 1) (n - (i + 1))) (r / 2) f' ≡ W
  product_iteration f' h e w =
      let s : suc (n - suc i) ≡ n - i = omega arith in
      rw (add-one i, e) (sym (product_open (n - suc i)) ∙ ap (λ (k : ℕ). S.product ieee (near_edges x bits i k) r f) s ∙ w)

  pub product-done : n ≤ i → S.product ieee (near_edges x bits i (n - i)) r f ≡ W → f ≡ W
  unfolding S.product near_edges
  product-done h w = let s : n - i ≡ 0 = omega arith in rw s at w

-- ---- the left edge

pub left-some : (there : Bool) (x : Float) → there ≡ true → x ≡ S.ep ieee (left_edge there x)
unfolding S.ep left_edge
left-some there x e = rw e

pub left-none : (there : Bool) (x : Float) → there ≡ false → of_bits binary64 4607182418800017408 ≡ S.ep ieee (left_edge there x)
unfolding S.ep left_edge
left-none there x e = rw (e, one-is)

-- ---- the two tables: one is filled from its front, the other from its end

pub front_iteration : (l : List Float) (g : ℕ → Float) (a : Float) (m : ℕ) → m < length l → a ≡ g m → ((j : ℕ) → j < m → get_or l j nan ≡ g j)
    → (j : ℕ) → j < m + 1 → get_or (set l m a) j nan ≡ g j
front_iteration l g a m h e w j b =
    dite (dec_lt j m)
    (λ p. get_or-set_other l m j a nan (λ q. omega arith) ∙ w j p)
    (λ p. let q : j ≡ m = omega arith in rw q (get_or-set_same l m a nan h ∙ e))

pub mirror_iteration : (l : List Float) (g : ℕ → Float) (a : Float) (full m : ℕ) → full ≤ length l → m < full → a ≡ g m
    → ((j : ℕ) → j < m → get_or l (full - 1 - j) nan ≡ g j) → (j : ℕ) → j < m + 1 → get_or (set l (full - 1 - m) a) (full - 1 - j) nan ≡ g j
mirror_iteration l g a full m h b e w j q =
    dite (dec_lt j m)
    (λ p. get_or-set_other l (full - 1 - m) (full - 1 - j) a nan (λ r. omega arith) ∙ w j p)
    (λ p. let r : j ≡ m = omega arith in rw r (get_or-set_same l (full - 1 - m) a nan (omega arith) ∙ e))

pub up_is : (bs : List (Back Float)) (sc f : Float) (m : ℕ) → f ≡ S.product ieee bs m ieee.𝟙 → mul binary64 f sc ≡ S.up ieee bs sc m
unfolding S.up
up_is bs sc f m e = rw e

-- what the loop leaves is the weights
pub filled : (x : List Float) (bits : List ℕ) (sc : Float) (full count : ℕ) (up down : List Float) → full ≡ 2 ^ count
    → ((j : ℕ) → j < full → get_or up j nan ≡ S.up ieee (near_edges x bits 0 count) sc j)
    → ((j : ℕ) → j < full → get_or down (full - 1 - j) nan ≡ S.up ieee (near_edges x bits 0 count) sc j)
    → Filled (near_edges x bits 0 count) sc count up down
unfolding S.down
filled x bits sc full count up down ef u d =
    record {
      ups = λ m l. u m (omega arith);
      downs = λ m l.
          let a : full - 1 - (full - 1 - m) ≡ m = omega arith in
          let k : 2 ^ length (near_edges x bits 0 count) ≡ full = rw (near-length x bits 0 count, ef) in
          rw k (rw a at (d (full - 1 - m) (omega arith)));
    }
