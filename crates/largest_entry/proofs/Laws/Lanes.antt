-- The largest entry, taken in lanes and in parts: the laws that such loops ask for.
use Rattle.std.specs.Prelude.{◌≡◌, refl, ◌⊎◌, ℕ, ◌+◌, ◌*◌, ◌-◌, ◌/◌, ◌%◌, ◌<◌, T, Float}
use Rattle.std.proofs.Common.{sym, ap, ◌∙◌, inl, inr, add-one, arith}
use Rattle.std.proofs.Math.Logic.{dite}
use Rattle.std.proofs.Math.Decide.{dec_lt}
use Rattle.std.specs.Float.{binary64}
use Rattle.std.specs.Float.Ieee.{fits}
use Rattle.largest_entry.specs.Larger.{larger}
use Rattle.transfer_matrix.specs.Rounded.{ieee}
use Rattle.largest_entry.specs.Top.{top}
use Rattle.largest_entry.proofs.Laws.Top.{Top, top-same, top_join, top-none, top_suc, Among, top-is}

-- every number of the rule is a double
abbrev pub Fit : (ℕ → Float) → Type 0
Fit f = (j : ℕ) → T (fits binary64 (f j))

-- an iteration of a lane
pub lane_iteration : (f : ℕ → Float) (n : ℕ) {a r : Float} → a ≡ top f n → r ≡ larger a (f n) → r ≡ top f (n + 1)
lane_iteration f n e p = rw (add-one n, top_suc f n, ← e) p

-- m numbers of f and n of g are, in some order, the first k of h
module _ (f g h : ℕ → Float) (fit-f : Fit f) (fit-g : Fit g) (fit-h : Fit h) (m n k : ℕ) where
  top-both : ((j : ℕ) → j < m → Among h k (f j)) → ((j : ℕ) → j < n → Among h k (g j))
      → ((i : ℕ) → i < k → Among f m (h i) ⊎ Among g n (h i)) → larger (top f m) (top g n) ≡ top h k
  top-both one two all = top-same in_h out_of_h (top_join (top-is f fit-f m) (top-is g fit-g n)) (top-is h fit-h k)
    where
      to : {x y : Float} → x ≡ y → Among h k y → Among h k x
      to e w = (w.0, w.1, e ∙ w.2)

      in_h : (x : Float) → (Among f m x ⊎ Among g n x) → Among h k x
      in_h x (inl w) = to w.2 (one w.0 w.1)
      in_h x (inr w) = to w.2 (two w.0 w.1)

      from : (x y : Float) → x ≡ y → (Among f m y ⊎ Among g n y) → Among f m x ⊎ Among g n x
      from x y e (inl w) = inl (w.0, w.1, e ∙ w.2)
      from x y e (inr w) = inr (w.0, w.1, e ∙ w.2)

      out_of_h : (x : Float) → Among h k x → Among f m x ⊎ Among g n x
      out_of_h x w = from x _ w.2 (all w.0 w.1)

-- the even entries in one lane, the odd ones in another
pub two_lanes : (h : ℕ → Float) → Fit h → (n : ℕ) → larger (top (λ t. h (2 * t)) n) (top (λ t. h (2 * t + 1)) n) ≡ top h (2 * n)
two_lanes h fit n =
    top-both (λ t. h (2 * t)) (λ t. h (2 * t + 1)) h (λ t. fit (2 * t)) (λ t. fit (2 * t + 1)) fit n n (2 * n)
    (λ j b. (2 * j, omega arith, refl))
    (λ j b. (2 * j + 1, omega arith, refl))
    (λ i b.
    dite (dec_lt (i % 2) 1)
    (λ l. let e : i ≡ 2 * (i / 2) = omega arith in inl (i / 2, omega arith, ap h e))
    (λ l. let e : i ≡ 2 * (i / 2) + 1 = omega arith in inr (i / 2, omega arith, ap h e)))

module _ (f g h : ℕ → Float) (fit-f : Fit f) (fit-g : Fit g) (fit-h : Fit h) (m n : ℕ) (front : (j : ℕ) → j < m → f j ≡ h j) where
  -- g is what follows f
  pub two-parts : ((j : ℕ) → j < n → g j ≡ h (m + j)) → larger (top f m) (top g n) ≡ top h (m + n)
  two-parts back =
      top-both f g h fit-f fit-g fit-h m n (m + n) (λ j b. (j, omega arith, front j b)) (λ j b. (m + j, omega arith, back j b))
      (λ i b.
      dite (dec_lt i m) (λ l. inl (i, l, sym (front i l)))
      (λ l.
      let e : i ≡ m + (i - m) = omega arith in
      let c : i - m < n = omega arith in
      inr (i - m, c, ap h e ∙ sym (back (i - m) c))))

  -- g is what follows f, counted from the end
  pub both_ends : ((j : ℕ) → j < n → g j ≡ h (m + n - 1 - j)) → larger (top f m) (top g n) ≡ top h (m + n)
  both_ends back =
      top-both f g h fit-f fit-g fit-h m n (m + n) (λ j b. (j, omega arith, front j b)) (λ j b. (m + n - 1 - j, omega arith, back j b))
      (λ i b.
      dite (dec_lt i m) (λ l. inl (i, l, sym (front i l)))
      (λ l.
      let e : i ≡ m + n - 1 - (m + n - 1 - i) = omega arith in
      let c : m + n - 1 - i < n = omega arith in
      inr (m + n - 1 - i, c, ap h e ∙ sym (back (m + n - 1 - i) c))))

-- the larger of four, two by two, either way
pub larger_swap : {P Q R U : Float → Type 0} {a b c d : Float} → Top P a → Top Q b → Top R c → Top U d
    → larger (larger a b) (larger c d) ≡ larger (larger a c) (larger b d)
larger_swap {P} {Q} {R} {U} a b c d = top-same (across P Q R U) (across P R Q U) (top_join (top_join a b) (top_join c d)) (top_join (top_join a c) (top_join b d))
  where
    across : (P Q R U : Float → Type 0) (x : Float) → ((P x ⊎ Q x) ⊎ (R x ⊎ U x)) → (P x ⊎ R x) ⊎ (Q x ⊎ U x)
    across P Q R U x (inl (inl p)) = inl (inl p)
    across P Q R U x (inl (inr q)) = inr (inl q)
    across P Q R U x (inr (inl r)) = inl (inr r)
    across P Q R U x (inr (inr u)) = inr (inr u)

-- ---- four lanes: the even and the odd entries of f, and those of g, an even number i of each

pub record Lanes (f g : ℕ → Float) (i : ℕ) (a b c d : Float) : Type 0 where
  pub even : a ≡ top (λ t. f (2 * t)) (i / 2)
  pub odd : b ≡ top (λ t. f (2 * t + 1)) (i / 2)
  pub even' : c ≡ top (λ t. g (2 * t)) (i / 2)
  pub odd' : d ≡ top (λ t. g (2 * t + 1)) (i / 2)

module _ (f g : ℕ → Float) where
  pub lanes_none : {a b c d : Float} → a ≡ ieee.𝟘 → b ≡ ieee.𝟘 → c ≡ ieee.𝟘 → d ≡ ieee.𝟘 → Lanes f g 0 a b c d
  lanes_none a b c d = record { even = a ∙ top-none _; odd = b ∙ top-none _; even' = c ∙ top-none _; odd' = d ∙ top-none _ }

  pub lanes_iteration : (i : ℕ) {a b c d a' b' c' d' : Float} → i % 2 ≡ 0 → Lanes f g i a b c d
      → a' ≡ larger a (f i) → b' ≡ larger b (f (i + 1)) → c' ≡ larger c (g i) → d' ≡ larger d (g (i + 1)) → Lanes f g (i + 2) a' b' c' d'
  lanes_iteration i {a} {b} {c} {d} e l p q r s =
      let n : (i + 2) / 2 ≡ i / 2 + 1 = omega arith in
      let j : i ≡ 2 * (i / 2) = omega arith in
      let k : i + 1 ≡ 2 * (i / 2) + 1 = omega arith in
      record {
        even = lane_iteration (λ t. f (2 * t)) (i / 2) l.even (p ∙ ap (λ (x : ℕ). larger a (f x)) j) ∙ ap (top (λ t. f (2 * t))) (sym n);
        odd = lane_iteration (λ t. f (2 * t + 1)) (i / 2) l.odd (q ∙ ap (λ (x : ℕ). larger b (f x)) k) ∙ ap (top (λ t. f (2 * t + 1))) (sym n);
        even' = lane_iteration (λ t. g (2 * t)) (i / 2) l.even' (r ∙ ap (λ (x : ℕ). larger c (g x)) j) ∙ ap (top (λ t. g (2 * t))) (sym n);
        odd' = lane_iteration (λ t. g (2 * t + 1)) (i / 2) l.odd' (s ∙ ap (λ (x : ℕ). larger d (g x)) k) ∙ ap (top (λ t. g (2 * t + 1))) (sym n);
      }

  pub lanes_done : (n : ℕ) {a b c d : Float} → Fit f → Fit g → n % 2 ≡ 0 → Lanes f g n a b c d
      → larger (larger a b) (larger c d) ≡ larger (top f n) (top g n)
  lanes_done n fit-f fit-g e l =
      let z : 2 * (n / 2) ≡ n = omega arith in
      rw (l.even, l.odd, l.even', l.odd', two_lanes f fit-f (n / 2), two_lanes g fit-g (n / 2), z)
