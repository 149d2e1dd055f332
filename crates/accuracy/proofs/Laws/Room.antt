-- The room that a sweep needs above the smallest normal double, and what stays normal where it has that room.
use Rattle.std.specs.Prelude.{◌≡◌, ℕ, suc, ◌+◌, ◌*◌, ◌^◌, ◌≤◌, ◌<◌}
use Rattle.std.proofs.Common.{sym, ◌∙◌, ap, ap₂, subst, subst₂, arith, pow_pos, pow_mono}
use Rattle.fraction.proofs.Fraction.{ℚ, oneℚ, mulℚ}
use Rattle.accuracy.specs.Ring.{NonNeg, nat}
use Rattle.accuracy.proofs.Laws.Ring.{◌⊹◌, ◌⋆◌, ◌≼◌, ≼_refl, ≼-of, ≼_trans, ≼_add, ≼-times, ≼_mul, nat_add, nat_mul, nn_mul, nn_frac}
use Rattle.accuracy.proofs.Laws.Ring.{nn_one, *-left, sorted, spread, *-one, one-*, *_comm, *_assoc}
use Rattle.accuracy.specs.Rounds.{ε}
use Rattle.accuracy.proofs.Laws.Rounds.{ε_nn, ε-one, smallest_nn}
use Rattle.accuracy.specs.Laws.Rounds.{smallest}
use Rattle.accuracy.proofs.Laws.Powers.{power, power_nn, power-one, θ, θ_nn, θ-one, σ, σ_nn, σ-one, power-first, power_less, power_add}
use Rattle.accuracy.proofs.Laws.Steps.{Clear}
use Rattle.accuracy.proofs.Laws.Sizes.{above-nat, cancel, nat_mono}
use Rattle.accuracy.proofs.Laws.Levels.{Level, Settled}

-- The least that an entry of a sweep comes down to: eight vertices' factors, and the ratio that a window of w vertices allows.
abbrev pub lowest : (β : ℚ) (p w : ℕ) → ℚ
lowest β p w = power (θ β p) 8 ⋆ power (σ β p) w

-- Room below: 2 ^ w terms of the smallest normal double, sixteen times over, are no more than a rounding of that.
abbrev pub Room : (β : ℚ) (p w : ℕ) → Type 0
Room β p w = nat (2 ^ w * 16) ⋆ smallest ≼ ε ⋆ lowest β p w

module _ (w : ℕ) (β : ℚ) (β_nn : NonNeg β) (β-one : β ≼ oneℚ) (p : ℕ) where
  abbrev n : ℕ
  n = 2 ^ w

  θs_nn : (s : ℕ) → NonNeg (power (θ β p) s)
  θs_nn = power_nn (θ β p) (θ_nn β β_nn β-one p) (θ-one β β_nn β-one p)

  σs_nn : NonNeg (power (σ β p) w)
  σs_nn = power_nn (σ β p) (σ_nn β β_nn β-one p) (σ-one β β_nn β-one p) w

  less : (a b : ℕ) → b ≤ a → power (θ β p) a ≼ power (θ β p) b
  less = power_less (θ β p) (θ_nn β β_nn β-one p) (θ-one β β_nn β-one p)

  -- A product is no more than its first factor, where the second is one at most.
  under : (x y : ℚ) → NonNeg x → NonNeg y → y ≼ oneℚ → x ⋆ y ≼ x
  under x y X N h = subst (λ z. x ⋆ y ≼ z) (*-one x) (≼-times x X h)

  lowest-power : (s : ℕ) → s ≤ 8 → lowest β p w ≼ power (θ β p) s
  lowest-power s h =
      ≼_trans (under (power (θ β p) 8) (power (σ β p) w) (θs_nn 8) σs_nn (power-one (σ β p) (σ_nn β β_nn β-one p) (σ-one β β_nn β-one p) w)) (less 8 s h)

  lowest_spread : (s : ℕ) → s ≤ 7 → lowest β p w ≼ θ β p ⋆ (power (σ β p) w ⋆ power (θ β p) s)
  unfolding power
  lowest_spread s h =
      ≼_trans (≼_mul (θs_nn 8) σs_nn (less 8 (suc s) (omega arith)) (≼_refl (power (σ β p) w))) (≼-of _ _ (ring (power (θ β p) s) (θ β p) (power (σ β p) w)))
    where
      ring : (p t s : ℚ) → (p ⋆ t) ⋆ s ≡ t ⋆ (s ⋆ p)
      ring p t s = simp sorted

  θ-β : θ β p ≼ β
  θ-β = under β (power β p) β_nn (power_nn β β_nn β-one p) (power-one β β_nn β-one p)

  θ-power : (m : ℕ) → m ≤ p → θ β p ≼ power β m
  θ-power m h =
      ≼_trans (subst (λ z. θ β p ≼ z) (one-* (power β p)) (≼_mul β_nn (power_nn β β_nn β-one p) β-one (≼_refl (power β p)))) (power_less β β_nn β-one p m h)

  nat_nn : (k : ℕ) → NonNeg (nat k)
  nat_nn k = nn_frac k 0

  module _ (room : Room β p w) where
    many : nat 256 ⋆ smallest ≼ lowest β p w
    many =
        let e : nat (2 ^ 53) ⋆ (ε ⋆ lowest β p w) ≡ lowest β p w =
        sym (*_assoc (nat (2 ^ 53)) ε (lowest β p w)) ∙ ap (λ z. z ⋆ lowest β p w) ε-one ∙ one-* (lowest β p w) in
        let x : nat (2 ^ 53) ⋆ (nat (n * 16) ⋆ smallest) ≼ lowest β p w =
        subst (λ z. nat (2 ^ 53) ⋆ (nat (n * 16) ⋆ smallest) ≼ z) e (≼-times (nat (2 ^ 53)) (nat_nn (2 ^ 53)) room) in
        let q : nat 256 ≼ nat (2 ^ 53) ⋆ nat (n * 16) =
        subst (λ z. nat 256 ≼ z) (nat_mul (2 ^ 53) (n * 16)) (nat_mono 256 (2 ^ 53 * (n * 16)) (large n (pow_pos w))) in
        ≼_trans (≼_mul (nat_nn 256) smallest_nn q (≼_refl smallest)) (subst (λ z. z ≼ lowest β p w) (sym (*_assoc (nat (2 ^ 53)) (nat (n * 16)) smallest)) x)
      where
        large : (x : ℕ) → 0 < x → 256 ≤ 2 ^ 53 * (x * 16)
        large x h = omega arith

    fewer : (k : ℕ) → k ≤ 256 → nat k ⋆ smallest ≼ lowest β p w
    fewer k h = ≼_trans (≼_mul (nat_nn k) smallest_nn (nat_mono k 256 h) (≼_refl smallest)) many

    small : smallest ≼ lowest β p w
    small = subst (λ z. z ≼ lowest β p w) (one-* smallest) (fewer 1 (omega arith))

    -- x is normal where k times x reaches the least that a sweep comes down to.
    down : (k : ℕ) (x : ℚ) → 0 < k → k ≤ 256 → lowest β p w ≼ nat k ⋆ x → smallest ≼ x
    down k x K h l = cancel (nat k) smallest x (above-nat k K) (≼_trans (fewer k h) l)

    module _ (M : ℕ → ℚ) (M_nn : (j : ℕ) → j < n → NonNeg (M j)) (apart : (i j : ℕ) → i < n → j < n → power (σ β p) w ⋆ M i ≼ M j) where
      -- What one scaled entry reaches, each reaches but for the ratio of a window.
      all : (a : ℚ) (s i j : ℕ) → NonNeg a → i < n → j < n → power (θ β p) s ≼ nat 4 ⋆ (a ⋆ M i) → power (σ β p) w ⋆ power (θ β p) s ≼ nat 4 ⋆ (a ⋆ M j)
      all a s i j A I J h =
          ≼_trans (subst (λ z. power (σ β p) w ⋆ power (θ β p) s ≼ z) (ring (power (σ β p) w) (nat 4) a (M i)) (≼-times (power (σ β p) w) σs_nn h))
          (≼-times (nat 4) (nat_nn 4) (≼-times a A (apart i j I J)))
        where
          ring : (s f a m : ℚ) → s ⋆ (f ⋆ (a ⋆ m)) ≡ f ⋆ (a ⋆ (s ⋆ m))
          ring s f a m = simp sorted

      module _ (s₂ : ℕ) (S₂ : s₂ ≤ 4) (own : Level n (θ β p) s₂ M) where
        -- No entry is too large for one over it to be normal.
        pub not_large : (j : ℕ) → j < n → smallest ⋆ (M j ⊹ M j) ≼ oneℚ
        not_large j l =
            let m = M j in
            let x : power (θ β p) s₂ ⋆ m ≼ nat 64 = ≼_trans (own.most j l) (nat_mono (4 * 2 ^ s₂) 64 (let q = pow_mono S₂ in omega arith)) in
            let y : (nat 128 ⋆ smallest) ⋆ m ≼ nat 64 =
            ≼_trans (≼_mul (nn_mul _ _ (nat_nn 128) smallest_nn) (M_nn j l) (≼_trans (fewer 128 (omega arith)) (lowest-power s₂ (omega arith))) (≼_refl m)) x in
            cancel (nat 128) _ _ (above-nat 128 (omega arith))
            (subst₂ ◌≼◌ (ring (nat 128) smallest m) (sym (nat_add 64 64) ∙ sym (*-one (nat 128))) (≼_add y y))
          where
            ring : (k s m : ℚ) → (k ⋆ s) ⋆ m ⊹ (k ⋆ s) ⋆ m ≡ k ⋆ (s ⋆ (m ⊹ m))
            ring k s m = simp (spread, sorted)

        -- A step on a vector that is settled, at a scale that takes it to one of the first levels, leaves the normal range nowhere.
        pub clear : (m : ℕ) → m ≤ p → (c : ℚ) → NonNeg c → (s : ℕ) → s ≤ 3 → Level n (θ β p) s (λ j. c ⋆ M j) → Clear β m w c M
        clear m few c C s S level = record {
          factors = ≼_trans small (≼_trans (subst (λ z. lowest β p w ≼ z) (power-first (θ β p)) (lowest-power 1 (omega arith))) (θ-power m few));
          left = ≼_trans small (≼_trans (subst (λ z. lowest β p w ≼ z) (power-first (θ β p)) (lowest-power 1 (omega arith))) θ-β);
          table = table;
          entry = entry;
          result = result;
        }
          where
            table : smallest ≼ power β m ⋆ c
            table =
                let i = level.index in
                let I = level.inside in
                let pw = power β m in
                let x : power (θ β p) s₂ ⋆ power (θ β p) s ≼ nat 256 ⋆ c =
                ≼_trans (subst (λ z. power (θ β p) s₂ ⋆ power (θ β p) s ≼ z) (ring (power (θ β p) s₂) (nat 4) c (M i))
                (≼-times (power (θ β p) s₂) (θs_nn s₂) level.least))
                (≼_trans (≼-times (nat 4 ⋆ c) (nn_mul _ _ (nat_nn 4) C) (≼_trans (own.most i I) (nat_mono (4 * 2 ^ s₂) 64 (let q = pow_mono S₂ in omega arith))))
                (≼-of _ _ (ring₂ (nat 4) c (nat 64) ∙ ap (λ z. z ⋆ c) (sym (nat_mul 4 64))))) in
                let y : lowest β p w ≼ θ β p ⋆ (power (θ β p) s₂ ⋆ power (θ β p) s) =
                ≼_trans (lowest-power (s₂ + s + 1) (omega arith))
                (≼-of _ _ (power_add (θ β p) (s₂ + s) 1 ∙ ap₂ mulℚ (power_add (θ β p) s₂ s) (power-first (θ β p)) ∙ *_comm _ (θ β p))) in
                down 256 (pw ⋆ c) (omega arith) (omega arith)
                (≼_trans y (≼_trans (≼_mul (θ_nn β β_nn β-one p) (nn_mul _ _ (nat_nn 256) C) (θ-power m few) x) (≼-of _ _ (*-left pw (nat 256) c))))
              where
                ring : (t f c m : ℚ) → t ⋆ (f ⋆ (c ⋆ m)) ≡ (f ⋆ c) ⋆ (t ⋆ m)
                ring t f c m = simp sorted

                ring₂ : (f c g : ℚ) → (f ⋆ c) ⋆ g ≡ (f ⋆ g) ⋆ c
                ring₂ f c g = simp sorted

            entry : (j : ℕ) → j < n → smallest ≼ β ⋆ M j
            entry j l =
                let x = all oneℚ s₂ own.index j nn_one own.inside l
                (subst (λ z. power (θ β p) s₂ ≼ nat 4 ⋆ z) (sym (one-* (M own.index))) own.least) in
                let y : power (σ β p) w ⋆ power (θ β p) s₂ ≼ nat 4 ⋆ M j = subst (λ z. power (σ β p) w ⋆ power (θ β p) s₂ ≼ nat 4 ⋆ z) (one-* (M j)) x in
                down 4 (β ⋆ M j) (omega arith) (omega arith)
                (≼_trans (lowest_spread s₂ (omega arith))
                (≼_trans (≼_mul (θ_nn β β_nn β-one p) (nn_mul _ _ (nat_nn 4) (M_nn j l)) θ-β y) (≼-of _ _ (*-left β (nat 4) (M j)))))

            result : (j : ℕ) → j < n → smallest ≼ (power β m ⋆ c) ⋆ (β ⋆ M j)
            result j l =
                let x = all c s level.index j C level.inside l level.least in
                let t : θ β p ≼ β ⋆ power β m = ≼-times β β_nn (power_less β β_nn β-one p m few) in
                down 4 _ (omega arith) (omega arith)
                (≼_trans (lowest_spread s (omega arith)) (≼_trans (≼_mul (θ_nn β β_nn β-one p) (nn_mul _ _ (nat_nn 4) (nn_mul _ _ C (M_nn j l))) t x)
                (≼-of _ _ (ring β (power β m) (nat 4) c (M j)))))
              where
                ring : (b q k c m : ℚ) → (b ⋆ q) ⋆ (k ⋆ (c ⋆ m)) ≡ k ⋆ ((q ⋆ c) ⋆ (b ⋆ m))
                ring b q k c m = simp sorted

    -- The sum of the products of two vectors at such levels outweighs what underflows in its terms.
    pub outweighs : (F B : ℕ → ℚ) → ((j : ℕ) → j < n → NonNeg (F j)) → ((j : ℕ) → j < n → NonNeg (B j)) → ((i j : ℕ) → i < n → j < n → power (σ β p) w ⋆ B i ≼ B j)
        → Settled n (θ β p) F → Settled n (θ β p) B → (Z : ℚ) → ((i : ℕ) → i < n → F i ⋆ B i ≼ Z) → nat n ⋆ smallest ≼ ε ⋆ Z
    outweighs F B F_nn B_nn apart settled settled' Z term =
        let s = settled.steps in
        let f = settled.level in
        let r = settled'.steps in
        let b = settled'.level in
        let i = f.index in
        let I = f.inside in
        let x = subst (λ z. power (σ β p) w ⋆ power (θ β p) r ≼ nat 4 ⋆ z) (one-* (B i))
        (all B B_nn apart oneℚ r b.index i nn_one b.inside I (subst (λ z. power (θ β p) r ≼ nat 4 ⋆ z) (sym (one-* (B b.index))) b.least)) in
        let y : power (θ β p) s ⋆ (power (σ β p) w ⋆ power (θ β p) r) ≼ nat 16 ⋆ Z =
        ≼_trans (≼_mul (θs_nn s) (nn_mul _ _ (nat_nn 4) (B_nn i I)) f.least x)
        (≼_trans (≼-of _ _ (ring (nat 4) (F i) (B i) ∙ ap (λ z. z ⋆ (F i ⋆ B i)) (sym (nat_mul 4 4)))) (≼-times (nat 16) (nat_nn 16) (term i I))) in
        let z : lowest β p w ≼ power (θ β p) s ⋆ (power (σ β p) w ⋆ power (θ β p) r) =
        ≼_trans (≼_mul (θs_nn 8) σs_nn (≼_trans (less 8 (s + r) (omega (arith, settled.few, settled'.few))) (≼-of _ _ (power_add (θ β p) s r)))
        (≼_refl (power (σ β p) w))) (≼-of _ _ (ring₂ (power (θ β p) s) (power (θ β p) r) (power (σ β p) w))) in
        cancel (nat 16) _ _ (above-nat 16 (omega arith))
        (subst₂ ◌≼◌ (ap (λ q. q ⋆ smallest) (nat_mul n 16) ∙ ring₃ (nat n) (nat 16) smallest) (*-left ε (nat 16) Z) (≼_trans room (≼-times ε ε_nn (≼_trans z y))))
      where
        ring : (k f b : ℚ) → (k ⋆ f) ⋆ (k ⋆ b) ≡ (k ⋆ k) ⋆ (f ⋆ b)
        ring k f b = simp sorted

        ring₂ : (s r q : ℚ) → (s ⋆ r) ⋆ q ≡ s ⋆ (q ⋆ r)
        ring₂ s r q = simp sorted

        ring₃ : (n k s : ℚ) → (n ⋆ k) ⋆ s ≡ k ⋆ (n ⋆ s)
        ring₃ n k s = simp sorted
