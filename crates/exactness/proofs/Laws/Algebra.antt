-- The laws that exact arithmetic has and rounded arithmetic lacks, and what follows from them for sums, products and quotients.
use Rattle.std.specs.Prelude.{◌≡◌, ◌≢◌, Bool, not}
use Rattle.std.proofs.Math.Path.{refl, sym, ap}
use Rattle.std.proofs.Common.{◌∙◌, add-zero, add-suc}
use Rattle.std.proofs.Math.Bool.{true, false, cond}
use Rattle.std.specs.Bool.{beq}
use Prim.Native.Nat.{ℕ, zero, suc, ◌+◌, ◌*◌, ◌≤◌, ◌<◌}
use native.Mathlib.Omega.{arith}
use Rattle.std.proofs.Math.Decide.{ℕ_discrete}
use Rattle.transfer_matrix.specs.Arithmetic.{Ops, sum, signed_sum}

module _ (O : Ops) where
  open O use {K, 𝟘, 𝟙, ◌⊕◌, ◌⊖◌, ◌⊗◌, ◌⊘◌, ⊝◌, ◌≺◌}

  infixl 60 ◌⊕◌
  infixl 60 ◌⊖◌
  infixl 70 ◌⊗◌
  infixl 70 ◌⊘◌
  infixl 50 ◌≺◌
  infixl 80 ⊝◌
  abbrev pub Pos : K → Type 0
  Pos x = 𝟘 ≺ x ≡ true

  pub record Laws : Type 0 where
    pub ⊕_comm : (x y : K) → x ⊕ y ≡ y ⊕ x
    pub ⊕_assoc : (x y z : K) → (x ⊕ y) ⊕ z ≡ x ⊕ (y ⊕ z)
    pub ⊕_zero : (x : K) → x ⊕ 𝟘 ≡ x
    pub ⊕_neg : (x : K) → x ⊕ ⊝ x ≡ 𝟘
    pub ⊖-is : (x y : K) → x ⊖ y ≡ x ⊕ ⊝ y
    pub ⊗_comm : (x y : K) → x ⊗ y ≡ y ⊗ x
    pub ⊗_assoc : (x y z : K) → (x ⊗ y) ⊗ z ≡ x ⊗ (y ⊗ z)
    pub ⊗-one : (x : K) → x ⊗ 𝟙 ≡ x
    pub ⊗-⊕ : (x y z : K) → x ⊗ (y ⊕ z) ≡ x ⊗ y ⊕ x ⊗ z
    pub ⊘-is : (x y : K) → x ⊘ y ≡ x ⊗ (𝟙 ⊘ y)
    pub ⊗_inv : (x : K) → Pos x → x ⊗ (𝟙 ⊘ x) ≡ 𝟙
    pub pos_one : Pos 𝟙
    pub pos_⊕ : (x y : K) → Pos x → Pos y → Pos (x ⊕ y)
    pub pos_⊗ : (x y : K) → Pos x → Pos y → Pos (x ⊗ y)
    pub pos_inv : (x : K) → Pos x → Pos (𝟙 ⊘ x)

  -- minus one for a spin that is down
  abbrev pub sign : Bool → K
  sign down = cond down (⊝ 𝟙) 𝟙

  -- g d ⊗ g (d + 1) ⊗ .., n factors
  unfoldable pub prod_from : ℕ → ℕ → (ℕ → K) → K
  prod_from d zero g = 𝟙
  prod_from d (suc n) g = g d ⊗ prod_from (suc d) n g

  module _ (L : Laws) where
    open L use {⊕_comm, ⊕_assoc, ⊕_zero, ⊕_neg, ⊖-is, ⊗_comm, ⊗_assoc, ⊗-one, ⊗-⊕, ⊘-is, ⊗_inv, pos_⊕, pos_⊗}

    pub ⊕-left : (x y z : K) → x ⊕ (y ⊕ z) ≡ y ⊕ (x ⊕ z)
    ⊕-left x y z = cc (⊕_assoc x y z, ⊕_comm x y, ⊕_assoc y x z)

    pub ⊗-left : (x y z : K) → x ⊗ (y ⊗ z) ≡ y ⊗ (x ⊗ z)
    ⊗-left x y z = cc (⊗_assoc x y z, ⊗_comm x y, ⊗_assoc y x z)

    pub ⊕-⊗ : (x y z : K) → (x ⊕ y) ⊗ z ≡ x ⊗ z ⊕ y ⊗ z
    ⊕-⊗ x y z = cc (⊗_comm (x ⊕ y) z, ⊗-⊕ z x y, ⊗_comm z x, ⊗_comm z y)

    pub one-⊗ : (x : K) → 𝟙 ⊗ x ≡ x
    one-⊗ x = ⊗_comm 𝟙 x ∙ ⊗-one x

    pub zero_⊕ : (x : K) → 𝟘 ⊕ x ≡ x
    zero_⊕ x = ⊕_comm 𝟘 x ∙ ⊕_zero x

    -- what is its own double is zero
    double_zero : (x : K) → x ⊕ x ≡ x → x ≡ 𝟘
    double_zero x h = cc (⊕_assoc x x (⊝ x), ⊕_neg x, ⊕_zero x)

    ⊗_zero : (x : K) → x ⊗ 𝟘 ≡ 𝟘
    ⊗_zero x = double_zero (x ⊗ 𝟘) (cc (⊗-⊕ x 𝟘 𝟘, ⊕_zero 𝟘))

    neg_is : (x : K) → ⊝ x ≡ ⊝ 𝟙 ⊗ x
    neg_is x =
        let a : x ⊕ ⊝ 𝟙 ⊗ x ≡ 𝟘 = cc (one-⊗ x, ⊕-⊗ 𝟙 (⊝ 𝟙) x, ⊕_neg 𝟙, ⊗_comm 𝟘 x, ⊗_zero x) in
        cc (⊕_assoc (⊝ x) x (⊝ 𝟙 ⊗ x), ⊕_comm (⊝ x) x, ⊕_neg x, zero_⊕ (⊝ 𝟙 ⊗ x), ⊕_zero (⊝ x), a)

    neg_neg : (x : K) → ⊝ (⊝ x) ≡ x
    neg_neg x = cc (⊕_assoc x (⊝ x) (⊝ (⊝ x)), ⊕_neg x, ⊕_neg (⊝ x), ⊕_zero x, zero_⊕ (⊝ (⊝ x)))

    -- ---- sums

    pub sum_ext : (n : ℕ) (f g : ℕ → K) → ((j : ℕ) → j < n → f j ≡ g j) → sum O n f ≡ sum O n g
    unfolding sum
    sum_ext zero f g h = refl
    sum_ext (suc n) f g h = cc (sum_ext n f g (λ j k. h j (omega arith)), h n (omega arith))

    pub sum_mul : (n : ℕ) (c : K) (f : ℕ → K) → sum O n (λ j. c ⊗ f j) ≡ c ⊗ sum O n f
    unfolding sum
    sum_mul zero c f = sym (⊗_zero c)
    sum_mul (suc n) c f = cc (sum_mul n c f, ⊗-⊕ c (sum O n f) (f n))

    ⊕_swap : (a b c d : K) → (a ⊕ b) ⊕ (c ⊕ d) ≡ (a ⊕ c) ⊕ (b ⊕ d)
    ⊕_swap a b c d = simp (⊕_assoc, ⊕-left)

    pub sum_add : (n : ℕ) (f g : ℕ → K) → sum O n (λ j. f j ⊕ g j) ≡ sum O n f ⊕ sum O n g
    unfolding sum
    sum_add zero f g = sym (⊕_zero 𝟘)
    sum_add (suc n) f g = cc (sum_add n f g, ⊕_swap (sum O n f) (sum O n g) (f n) (g n))

    pub sum_append : (m n : ℕ) (f : ℕ → K) → sum O (m + n) f ≡ sum O m f ⊕ sum O n (λ j. f (m + j))
    unfolding sum
    sum_append m zero f = rw (add-zero m) (sym (⊕_zero _))
    sum_append m (suc n) f =
        rw (add-suc m n) (cc (sum_append m n f, ⊕_assoc (sum O m f) (sum O n (λ j. f (m + j))) (f (m + n))))

    pub sum-pairs : (n : ℕ) (f : ℕ → K) → sum O (2 * n) f ≡ sum O n (λ k. f (2 * k) ⊕ f (2 * k + 1))
    unfolding sum
    sum-pairs zero f = refl
    sum-pairs (suc n) f =
        let e : 2 * suc n ≡ suc (suc (2 * n)) = omega arith in
        let e' : suc (2 * n) ≡ 2 * n + 1 = omega arith in
        rw e (cc (sum-pairs n f, ap f e', ⊕_assoc (sum O (2 * n) f) (f (2 * n)) (f (2 * n + 1))))

    pub sum_const : (n : ℕ) (c : K) → sum O n (λ j. c) ≡ sum O n (λ j. 𝟙) ⊗ c
    unfolding sum
    sum_const zero c = sym (⊗_comm 𝟘 c ∙ ⊗_zero c)
    sum_const (suc n) c = cc (sum_const n c, ⊕-⊗ (sum O n (λ j. 𝟙)) 𝟙 c, one-⊗ c)

    pub sum_pos : (n : ℕ) (f : ℕ → K) → ((j : ℕ) → Pos (f j)) → Pos (sum O (suc n) f)
    unfolding sum
    sum_pos zero f h = rw (zero_⊕ (f 0)) (h 0)
    sum_pos (suc n) f h = pos_⊕ _ _ (sum_pos n f h) (h (suc n))

    -- ---- signs

    pub sign_mul : (b : Bool) (x : K) → cond b (⊝ x) x ≡ sign b ⊗ x
    sign_mul true x = neg_is x
    sign_mul false x = sym (one-⊗ x)

    pub sign-differ : (a b : Bool) → sign (not (beq a b)) ≡ sign b ⊗ sign a
    sign-differ true true = cc (neg_is (⊝ 𝟙), neg_neg 𝟙)
    sign-differ true false = sym (one-⊗ (⊝ 𝟙))
    sign-differ false true = sym (⊗-one (⊝ 𝟙))
    sign-differ false false = sym (⊗-one 𝟙)

    pub signed_is : (n : ℕ) (minus : ℕ → Bool) (f : ℕ → K) → signed_sum O n minus f ≡ sum O n (λ j. sign (minus j) ⊗ f j)
    unfolding sum signed_sum
    signed_is zero minus f = refl
    signed_is (suc n) minus f = go (minus n) (signed_is n minus f)
      where
        go : (b : Bool) → signed_sum O n minus f ≡ sum O n (λ j. sign (minus j) ⊗ f j)
            → cond b (signed_sum O n minus f ⊖ f n) (signed_sum O n minus f ⊕ f n) ≡ sum O n (λ j. sign (minus j) ⊗ f j) ⊕ sign b ⊗ f n
        go true e = cc (⊖-is (signed_sum O n minus f) (f n), neg_is (f n))
        go false e = cc (one-⊗ (f n))

    -- ---- products

    pub prod_ext : (d n : ℕ) (f g : ℕ → K) → ((i : ℕ) → d ≤ i → i < d + n → f i ≡ g i) → prod_from d n f ≡ prod_from d n g
    unfolding prod_from
    prod_ext d zero f g h = refl
    prod_ext d (suc n) f g h =
        cc (h d (omega arith) (omega arith), prod_ext (suc d) n f g (λ i a b. h i (omega arith) (omega arith)))

    pub prod_snoc : (d n : ℕ) (g : ℕ → K) → prod_from d (suc n) g ≡ prod_from d n g ⊗ g (d + n)
    unfolding prod_from
    prod_snoc d zero g = ⊗_comm (g d) 𝟙 ∙ ap (λ x. 𝟙 ⊗ g x) (sym (add-zero d))
    prod_snoc d (suc n) g =
        let e : suc d + n ≡ d + suc n = omega arith in
        ap (λ x. g d ⊗ x) (prod_snoc (suc d) n g) ∙ sym (⊗_assoc _ _ _) ∙ ap (λ x. (g d ⊗ prod_from (suc d) n g) ⊗ g x) e

    pub prod_mul : (d n : ℕ) (f g : ℕ → K) → prod_from d n (λ i. f i ⊗ g i) ≡ prod_from d n f ⊗ prod_from d n g
    unfolding prod_from
    prod_mul d zero f g = sym (⊗-one 𝟙)
    prod_mul d (suc n) f g = ap (λ x. (f d ⊗ g d) ⊗ x) (prod_mul (suc d) n f g) ∙ swap (f d) (g d) (prod_from (suc d) n f) (prod_from (suc d) n g)
      where
        swap : (a b c e : K) → (a ⊗ b) ⊗ (c ⊗ e) ≡ (a ⊗ c) ⊗ (b ⊗ e)
        swap a b c e = simp (⊗_assoc, ⊗-left b c e)

    pub prod_one : (d n : ℕ) (f : ℕ → K) → ((i : ℕ) → d ≤ i → f i ≡ 𝟙) → prod_from d n f ≡ 𝟙
    unfolding prod_from
    prod_one d zero f h = refl
    prod_one d (suc n) f h = cc (h d (omega arith), prod_one (suc d) n f (λ i k. h i (omega arith)), ⊗-one 𝟙)

    -- all factors but the k-th are one
    pub prod_single : (d n k : ℕ) (f : ℕ → K) → d ≤ k → k < d + n → ((i : ℕ) → i ≢ k → f i ≡ 𝟙) → prod_from d n f ≡ f k
    unfolding prod_from
    prod_single d zero k f a b h = absurd (omega arith)
    prod_single d (suc n) k f a b h = go (ℕ_discrete d k) (λ l. prod_single (suc d) n k f l (omega arith) h)
      where
        go : Dec (d ≡ k) → (suc d ≤ k → prod_from (suc d) n f ≡ f k) → f d ⊗ prod_from (suc d) n f ≡ f k
        go (yes e) ih = ap (λ x. f d ⊗ x) (prod_one (suc d) n f (λ i l. h i (omega arith))) ∙ ⊗-one (f d) ∙ ap f e
        go (no e) ih = ap (λ x. x ⊗ prod_from (suc d) n f) (h d e) ∙ one-⊗ _ ∙ ih (omega arith)

    -- ---- quotients: a common positive factor goes

    inv_unique : (x y : K) → Pos x → x ⊗ y ≡ 𝟙 → y ≡ 𝟙 ⊘ x
    inv_unique x y p h = cc (⊗_assoc (𝟙 ⊘ x) x y, ⊗_comm (𝟙 ⊘ x) x, ⊗_inv x p, one-⊗ y, ⊗-one (𝟙 ⊘ x))

    pub ratio : (c n z : K) → Pos c → Pos z → (c ⊗ n) ⊘ (c ⊗ z) ≡ n ⊘ z
    ratio c n z pc pz =
        let e : (c ⊗ z) ⊗ ((𝟙 ⊘ c) ⊗ (𝟙 ⊘ z)) ≡ 𝟙 =
        cc (⊗_assoc c z ((𝟙 ⊘ c) ⊗ (𝟙 ⊘ z)), ⊗-left z (𝟙 ⊘ c) (𝟙 ⊘ z), ⊗_inv z pz, ⊗-one (𝟙 ⊘ c), ⊗_inv c pc) in
        let i : (𝟙 ⊘ c) ⊗ (𝟙 ⊘ z) ≡ 𝟙 ⊘ (c ⊗ z) = inv_unique (c ⊗ z) _ (pos_⊗ c z pc pz) e in
        let r : (c ⊗ n) ⊗ ((𝟙 ⊘ c) ⊗ (𝟙 ⊘ z)) ≡ (c ⊗ (𝟙 ⊘ c)) ⊗ (n ⊗ (𝟙 ⊘ z)) = simp (⊗_assoc, ⊗-left) in
        cc (⊘-is (c ⊗ n) (c ⊗ z), i, r, ⊗_inv c pc, one-⊗ (n ⊗ (𝟙 ⊘ z)), ⊘-is n z)
