-- Sums over the spins of consecutive vertices, weighed by their back edges. A setting is a number: given the spins of the vertices before a,
-- each vertex from a on adds a bit below. Vertices before vertex 0 count as spins with no edges.
use Rattle.std.specs.Prelude.{◌≡◌}
use Rattle.std.proofs.Math.Path.{refl, sym, ap, fun_ext}
use Rattle.std.proofs.Common.{◌∙◌, ap₂, add-zero, add-suc, zero-add}
use Prim.Native.Nat.{ℕ, zero, suc, ◌+◌, ◌*◌, ◌/◌, ◌^◌, ◌<◌}
use native.Mathlib.Omega.{arith}
use Rattle.std.proofs.Math.Nat.{pow-succ'}
use Rattle.transfer_matrix.specs.Arithmetic.{Ops, sum}
use Rattle.transfer_matrix.specs.Job.{Job}
use Rattle.exactness.proofs.Laws.Algebra as L
use Rattle.exactness.proofs.Laws.Algebra.{Laws}
use Rattle.exactness.proofs.Laws.Digits.{halve_even, halve_odd, shift_suc}
use Rattle.exactness.proofs.Laws.Step.{vertex_weight, sum_spin}

module _ (O : Ops) (J : Job O.K) where
  open O use {K, 𝟙, ◌⊗◌}

  infixl 70 ◌⊗◌
  -- The sum over the spins of the i vertices from a on.
  unfoldable pub sum_spins : ℕ → ℕ → (ℕ → K) → ℕ → K
  sum_spins a zero f = f
  sum_spins a (suc i) f = sum_spins a i (sum_spin O J (a + i) f)

  -- The weight of all back edges of the vertices below t, in the setting c.
  unfoldable pub path_weight : ℕ → ℕ → K
  path_weight zero c = 𝟙
  path_weight (suc t) c = path_weight t (c / 2) ⊗ vertex_weight O J t c

module _ (O : Ops) (LW : Laws O) (J : Job O.K) where
  open O use {K, ◌⊕◌, ◌⊗◌}

  infixl 60 ◌⊕◌
  infixl 70 ◌⊗◌
  open LW use {⊗_assoc, ⊗-⊕}

  abbrev spin : ℕ → (ℕ → K) → ℕ → K
  spin = sum_spin O J

  abbrev spins : ℕ → ℕ → (ℕ → K) → ℕ → K
  spins = sum_spins O J

  abbrev own : ℕ → ℕ → K
  own = vertex_weight O J

  abbrev path : ℕ → ℕ → K
  path = path_weight O J

  -- ---- a factor that no spin changes

  pub spin_mul : (t : ℕ) (c : K) (f : ℕ → K) (s : ℕ) → spin t (λ x. c ⊗ f x) s ≡ c ⊗ spin t f s
  unfolding sum_spin
  spin_mul t c f s = simp (⊗-⊕, L.⊗-left O LW c)

  pub spins_mul : (a i : ℕ) (c : K) (f : ℕ → K) (s : ℕ) → spins a i (λ x. c ⊗ f x) s ≡ c ⊗ spins a i f s
  unfolding sum_spins
  spins_mul a zero c f s = refl
  spins_mul a (suc i) c f s = ap (λ g. spins a i g s) (fun_ext (λ x. spin_mul (a + i) c f x)) ∙ spins_mul a i c (spin (a + i) f) s

  -- ---- more vertices, behind and in front

  spins_append : (a i k : ℕ) (f : ℕ → K) (s : ℕ) → spins a i (spins (a + i) k f) s ≡ spins a (i + k) f s
  unfolding sum_spins
  spins_append a i zero f s = ap (λ n. spins a n f s) (sym (add-zero i))
  spins_append a i (suc k) f s =
      let e : a + i + k ≡ a + (i + k) = omega arith in
      spins_append a i k (spin (a + i + k) f) s ∙ ap (λ t. spins a (i + k) (spin t f) s) e ∙ ap (λ n. spins a n f s) (sym (add-suc i k))

  pub spins_join : (a i k a' n : ℕ) → a' ≡ a + i → i + k ≡ n → (c : K) (f : ℕ → K) (s : ℕ)
      → spins a i (λ x. c ⊗ spins a' k f x) s ≡ c ⊗ spins a n f s
  spins_join a i k a' n p q c f s =
      spins_mul a i c (spins a' k f) s
      ∙ ap (λ z. c ⊗ z) (ap (λ z. spins a i (spins z k f) s) p ∙ spins_append a i k f s ∙ ap (λ z. spins a z f s) q)

  pub spins-front : (a i : ℕ) (f : ℕ → K) (s : ℕ) → spins a (suc i) f s ≡ spin a (spins (suc a) i f) s
  unfolding sum_spins
  spins-front a zero f s = ap (λ t. spin t f s) (add-zero a)
  spins-front a (suc i) f s =
      let e : a + suc i ≡ suc a + i = omega arith in
      spins-front a i (spin (a + suc i) f) s ∙ ap (λ t. spin a (spins (suc a) i (spin t f)) s) e

  -- ---- a factor that the older spins settle goes under the sum

  under : (g a x b y : K) → g ⊗ (a ⊗ x ⊕ b ⊗ y) ≡ a ⊗ (g ⊗ x) ⊕ b ⊗ (g ⊗ y)
  under g a x b y = simp (⊗-⊕, L.⊗-left O LW g)

  spin_shift : (t : ℕ) (g f : ℕ → K) (s : ℕ) → g s ⊗ spin t f s ≡ spin t (λ c. g (c / 2) ⊗ f c) s
  unfolding sum_spin
  spin_shift t g f s = cc (halve_even s, halve_odd s, under (g s) (own t (2 * s)) (f (2 * s)) (own t (2 * s + 1)) (f (2 * s + 1)))

  pub spins_shift : (a i : ℕ) (g f : ℕ → K) (s : ℕ) → g s ⊗ spins a i f s ≡ spins a i (λ c. g (c / 2 ^ i) ⊗ f c) s
  unfolding sum_spins
  spins_shift a zero g f s = let e : s ≡ s / 1 = omega arith in ap (λ x. g x ⊗ f s) e
  spins_shift a (suc i) g f s = spins_shift a i g (spin (a + i) f) s ∙ ap (λ h. spins a i h s) (fun_ext one)
    where
      one : (c : ℕ) → g (c / 2 ^ i) ⊗ spin (a + i) f c ≡ spin (a + i) (λ x. g (x / 2 ^ suc i) ⊗ f x) c
      one c =
          spin_shift (a + i) (λ x. g (x / 2 ^ i)) f c
          ∙ ap (λ h. spin (a + i) h c) (fun_ext (λ x. ap (λ y. g y ⊗ f x) (sym (shift_suc i x))))

  -- ---- the sum over the spins of the vertices below t, written out

  over : (g a x b y : K) → g ⊗ (a ⊗ x ⊕ b ⊗ y) ≡ (g ⊗ a) ⊗ x ⊕ (g ⊗ b) ⊗ y
  over g a x b y = simp (⊗-⊕, ⊗_assoc)

  path_split : (t : ℕ) (f : ℕ → K) (s : ℕ)
      → path t s ⊗ spin t f s ≡ path (suc t) (2 * s) ⊗ f (2 * s) ⊕ path (suc t) (2 * s + 1) ⊗ f (2 * s + 1)
  unfolding path_weight sum_spin
  path_split t f s = cc (halve_even s, halve_odd s, over (path t s) (own t (2 * s)) (f (2 * s)) (own t (2 * s + 1)) (f (2 * s + 1)))

  pub spins-sum : (t : ℕ) (f : ℕ → K) (s : ℕ) → spins 0 t f s ≡ sum O (2 ^ t) (λ c. path t (2 ^ t * s + c) ⊗ f (2 ^ t * s + c))
  unfolding sum_spins path_weight sum
  spins-sum zero f s =
      let e : 2 ^ 0 * s + 0 ≡ s = omega arith in
      sym (L.zero_⊕ O LW _ ∙ L.one-⊗ O LW _ ∙ ap f e)
  spins-sum (suc t) f s =
      spins-sum t (spin (0 + t) f) s
      ∙ L.sum_ext O LW (2 ^ t) _ (λ c. term (2 * c) ⊕ term (2 * c + 1)) each
      ∙ sym (ap (λ n. sum O n term) (pow-succ' 2 t) ∙ L.sum-pairs O LW (2 ^ t) term)
    where
      weighed : ℕ → K
      weighed c = path (suc t) c ⊗ f c

      term : ℕ → K
      term c = weighed (2 ^ suc t * s + c)

      each : (c : ℕ) → c < 2 ^ t → path t (2 ^ t * s + c) ⊗ spin (0 + t) f (2 ^ t * s + c) ≡ term (2 * c) ⊕ term (2 * c + 1)
      each c l =
          let even : 2 * (2 ^ t * s + c) ≡ 2 ^ suc t * s + 2 * c = rw pow-succ' (omega arith) in
          let odd : 2 * (2 ^ t * s + c) + 1 ≡ 2 ^ suc t * s + (2 * c + 1) = rw pow-succ' (omega arith) in
          ap (λ z. path t (2 ^ t * s + c) ⊗ spin z f (2 ^ t * s + c)) (zero-add t)
          ∙ path_split t f (2 ^ t * s + c)
          ∙ ap₂ ◌⊕◌ (ap weighed even) (ap weighed odd)
