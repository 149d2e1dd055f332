-- What the loop over the lanes knows on its way, and that its result is the definition's largest entry.
use mathlib.Core.Path.{◌≡◌, sym, ap, ◌∙◌}
use mathlib.Core.List.{List}
use mathlib.Core.Logic.{◌⊎◌, inl, inr, dite}
use Prim.Native.Nat.{ℕ, ◌+◌, ◌*◌, ◌-◌, ◌/◌, ◌%◌, ◌^◌, ◌≤◌, ◌<◌}
use native.Mathlib.Decide.{dec_lt}
use native.Mathlib.Omega.{arith}
use lib.ListN.{length, get_or}
use lib.Dec.{T}
use lib.Pow.{pow-add}
use lib.Ieee.{Float, nan, binary64, fits}
use Rattle.list_laws.proofs.Laws.Tabulate.{tabulated, tabulate_ext}
use Rattle.list_laws.specs.Part.{part}
use Rattle.list_laws.proofs.Laws.Part.{part_length, part_at}
use Rattle.transfer_matrix.specs.Rounded.{ieee}
use Rattle.transfer_matrix.specs.Sweep as S
use Rattle.largest_entry.specs.Larger.{larger}
use Rattle.largest_entry.specs.Top.{top}
use Rattle.largest_entry.proofs.Laws.Top.{Top, top-same, top_join, top-none, Among, top-is}
use Rattle.largest_entry.proofs.Laws.Lanes.{Fit, lane_iteration}

pub largest-is : (r : List Float) (at n : ℕ) → at + n ≤ length r → top (λ j. get_or r (at + j) nan) n ≡ S.largest ieee ieee.𝟘 (part r at n)
largest-is r at n h =
    ap (S.largest ieee ieee.𝟘) (sym (tabulated nan (part r at n) _ n (part_length r at n h) (λ i b. part_at r at n i nan b)))

-- ---- sixteen lanes, in four groups of four

-- the four lanes of a group have passed t iterations; the group's entries at iteration s start at `from s`
pub record LanesPassed (v : List Float) (from : ℕ → ℕ) (t : ℕ) (a b c d : Float) : Type 0 where
  pub first : a ≡ top (λ s. get_or v (from s + 0) nan) t
  pub second : b ≡ top (λ s. get_or v (from s + 1) nan) t
  pub third : c ≡ top (λ s. get_or v (from s + 2) nan) t
  pub fourth : d ≡ top (λ s. get_or v (from s + 3) nan) t

pub passed_none : (v : List Float) (from : ℕ → ℕ) {a b c d : Float} → (a ≡ ieee.𝟘) × (b ≡ ieee.𝟘) × (c ≡ ieee.𝟘) × (d ≡ ieee.𝟘)
    → LanesPassed v from 0 a b c d
passed_none v from z = record { first = z.0 ∙ top-none _; second = z.1 ∙ top-none _; third = z.2 ∙ top-none _; fourth = z.3 ∙ top-none _ }

pub passed_iteration : (v : List Float) (from : ℕ → ℕ) (t : ℕ) (a b c d x y z u a' b' c' d' : Float) → LanesPassed v from t a b c d
    → (x ≡ get_or v (from t) nan) × (y ≡ get_or v (from t + 1) nan) × (z ≡ get_or v (from t + 2) nan) × (u ≡ get_or v (from t + 3) nan)
    → (a' ≡ larger a x) × (b' ≡ larger b y) × (c' ≡ larger c z) × (d' ≡ larger d u)
    → LanesPassed v from (t + 1) a' b' c' d'
passed_iteration v from t a b c d x y z u a' b' c' d' g e j =
    let o : from t ≡ from t + 0 = omega arith in
    record {
      first = lane_iteration _ t g.first (j.0 ∙ ap (larger a) (e.0 ∙ ap (λ (i : ℕ). get_or v i nan) o));
      second = lane_iteration _ t g.second (j.1 ∙ ap (larger b) e.1);
      third = lane_iteration _ t g.third (j.2 ∙ ap (larger c) e.2);
      fourth = lane_iteration _ t g.fourth (j.3 ∙ ap (larger d) e.3);
    }

top_ext : (f g : ℕ → Float) (n : ℕ) → ((s : ℕ) → f s ≡ g s) → top f n ≡ top g n
top_ext f g n h = ap (S.largest ieee ieee.𝟘) (tabulate_ext f g n (λ s b. h s))

-- four lanes give what one run gives
four-joined : (f : ℕ → Float) → Fit f → (n : ℕ)
    → larger (larger (larger (top (λ t. f (4 * t)) n) (top (λ t. f (4 * t + 1)) n)) (top (λ t. f (4 * t + 2)) n)) (top (λ t. f (4 * t + 3)) n)
    ≡ top f (4 * n)
four-joined f fit n =
    top-same all each
    (top_join (top_join (top_join (lane (λ t. 4 * t)) (lane (λ t. 4 * t + 1))) (lane (λ t. 4 * t + 2))) (lane (λ t. 4 * t + 3)))
    (top-is f fit (4 * n))
  where
    lane : (g : ℕ → ℕ) → Top (Among (λ t. f (g t)) n) (top (λ t. f (g t)) n)
    lane g = top-is (λ t. f (g t)) (λ t. fit (g t)) n

    Joined : Float → Type 0
    Joined x =
        ((Among (λ t. f (4 * t)) n x ⊎ Among (λ t. f (4 * t + 1)) n x) ⊎ Among (λ t. f (4 * t + 2)) n x) ⊎ Among (λ t. f (4 * t + 3)) n x

    all : (x : Float) → Joined x → Among f (4 * n) x
    all x (inl (inl (inl w))) = (4 * w.0, omega (arith, w.1), w.2)
    all x (inl (inl (inr w))) = (4 * w.0 + 1, omega (arith, w.1), w.2)
    all x (inl (inr w)) = (4 * w.0 + 2, omega (arith, w.1), w.2)
    all x (inr w) = (4 * w.0 + 3, omega (arith, w.1), w.2)

    each : (x : Float) → Among f (4 * n) x → Joined x
    each x w =
        let i = w.0 in
        let b : i / 4 < n = omega (arith, w.1) in
        let of : (j : ℕ) → i ≡ j → x ≡ f j = λ j e. w.2 ∙ ap f e in
        dite (dec_lt (i % 4) 1) (λ l. inl (inl (inl (i / 4, b, of (4 * (i / 4)) (omega arith)))))
        (λ a. dite (dec_lt (i % 4) 2) (λ l. inl (inl (inr (i / 4, b, of (4 * (i / 4) + 1) (omega arith)))))
        (λ c. dite (dec_lt (i % 4) 3) (λ l. inl (inr (i / 4, b, of (4 * (i / 4) + 2) (omega arith))))
        (λ d. inr (i / 4, b, of (4 * (i / 4) + 3) (omega arith)))))

module _ (v : List Float) (at n : ℕ) (k : (i : ℕ) → T (fits binary64 (get_or v i nan))) where
  -- lane i of each of the four groups, joined, is lane i of four
  group_lanes : (i : ℕ)
      → larger
      (larger (larger (top (λ s. get_or v (at + 16 * s + i) nan) n) (top (λ s. get_or v (at + 16 * s + 4 + i) nan) n))
      (top (λ s. get_or v (at + 16 * s + 8 + i) nan) n))
      (top (λ s. get_or v (at + 16 * s + 12 + i) nan) n)
      ≡ top (λ t. get_or v (at + (4 * t + i)) nan) (4 * n)
  group_lanes i =
      rw (
        lane (λ s. at + 16 * s + i) (λ s. 4 * s) (λ s. omega arith),
        lane (λ s. at + 16 * s + 4 + i) (λ s. 4 * s + 1) (λ s. omega arith),
        lane (λ s. at + 16 * s + 8 + i) (λ s. 4 * s + 2) (λ s. omega arith),
        lane (λ s. at + 16 * s + 12 + i) (λ s. 4 * s + 3) (λ s. omega arith),
      )
      (four-joined (λ t. get_or v (at + (4 * t + i)) nan) (λ t. k (at + (4 * t + i))) n)
    where
      lane : (p q : ℕ → ℕ) → ((s : ℕ) → p s ≡ at + (4 * q s + i)) → top (λ s. get_or v (p s) nan) n ≡ top (λ s. get_or v (at + (4 * q s + i)) nan) n
      lane p q e = top_ext _ _ n (λ s. ap (λ (j : ℕ). get_or v j nan) (e s))

  four_lanes :
      larger
      (larger (larger (top (λ t. get_or v (at + (4 * t + 0)) nan) (4 * n)) (top (λ t. get_or v (at + (4 * t + 1)) nan) (4 * n)))
      (top (λ t. get_or v (at + (4 * t + 2)) nan) (4 * n)))
      (top (λ t. get_or v (at + (4 * t + 3)) nan) (4 * n))
      ≡ top (λ j. get_or v (at + j) nan) (4 * (4 * n))
  four_lanes =
      let o : top (λ t. get_or v (at + (4 * t + 0)) nan) (4 * n) ≡ top (λ t. get_or v (at + 4 * t) nan) (4 * n) =
      top_ext _ _ (4 * n) (λ t. let e : 4 * t + 0 ≡ 4 * t = omega arith in rw e) in
      rw o (four-joined (λ j. get_or v (at + j) nan) (λ j. k (at + j)) (4 * n))

  -- what a lane has after its groups are joined
  pub lane_done : (i : ℕ) (a b c d x y z : Float) → a ≡ top (λ s. get_or v (at + 16 * s + i) nan) n
      → b ≡ top (λ s. get_or v (at + 16 * s + 4 + i) nan) n → c ≡ top (λ s. get_or v (at + 16 * s + 8 + i) nan) n
      → d ≡ top (λ s. get_or v (at + 16 * s + 12 + i) nan) n → x ≡ larger a b → y ≡ larger x c → z ≡ larger y d
      → z ≡ top (λ t. get_or v (at + (4 * t + i)) nan) (4 * n)
  lane_done i a b c d x y z ea eb ec ed ex ey ez = ez ∙ rw (ey, ex, ea, eb, ec, ed) (group_lanes i)

  -- the four lanes joined have the largest entry
  pub lanes_done : (a b c d x y z : Float) → at + 16 * n ≤ length v
      → a ≡ top (λ t. get_or v (at + (4 * t + 0)) nan) (4 * n) → b ≡ top (λ t. get_or v (at + (4 * t + 1)) nan) (4 * n)
      → c ≡ top (λ t. get_or v (at + (4 * t + 2)) nan) (4 * n) → d ≡ top (λ t. get_or v (at + (4 * t + 3)) nan) (4 * n)
      → x ≡ larger a b → y ≡ larger x c → z ≡ larger y d → z ≡ S.largest ieee ieee.𝟘 (part v at (16 * n))
  lanes_done a b c d x y z h ea eb ec ed ex ey ez =
      let e : 4 * (4 * n) ≡ 16 * n = omega arith in
      ez ∙ rw (ey, ex, ea, eb, ec, ed) (rw e at four_lanes) ∙ largest-is v at (16 * n) h

-- a vector with a window of 4 or more fills the lanes evenly
pub sixteenths : (w size : ℕ) → size ≡ 2 ^ w → 4 ≤ w → 16 * (size / 16) ≡ 2 ^ w
sixteenths w size h l =
    let e : 4 + (w - 4) ≡ w = omega arith in
    let b : 2 ^ w ≡ 16 * 2 ^ (w - 4) = ap (λ (k : ℕ). 2 ^ k) (sym e) ∙ pow-add 2 4 (w - 4) in
    omega arith
