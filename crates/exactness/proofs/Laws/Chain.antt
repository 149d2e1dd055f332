-- Whole sweeps in exact arithmetic, with any scales: Z and both kinds of N are one common factor times a sum over the spins of all vertices.
use Rattle.std.specs.Prelude.{◌≡◌, List}
use Rattle.std.proofs.Math.Path.{refl, sym, ap, ap₂, fun_ext}
use Rattle.std.proofs.Common.{◌∙◌, add-zero, add-suc, zero-add, mod-lt, mod-eq_of_lt, pow_pos}
use Rattle.std.proofs.Math.Bool.{Bool, not}
use Rattle.std.specs.Bool.{beq}
use Prim.Native.Nat.{ℕ, zero, suc, ◌+◌, ◌-◌, ◌/◌, ◌%◌, ◌^◌, ◌≤◌, ◌<◌}
use native.Mathlib.Omega.{arith}
use Rattle.transfer_matrix.specs.Arithmetic.{Ops, sum, signed_sum}
use Rattle.list_laws.specs.Bits.{bit}
use Rattle.transfer_matrix.specs.Job.{Job, step_of}
use Rattle.transfer_matrix.specs.Sweep.{at, start, forward_at, forward_step, backward_at}
use Rattle.exactness.proofs.Laws.Algebra as L
use Rattle.exactness.proofs.Laws.Algebra.{Laws, sign}
use Rattle.exactness.proofs.Laws.Digits.{bit_shift, bit_shift_zero, bit_mod}
use Rattle.exactness.proofs.Laws.Entries as E
use Rattle.exactness.proofs.Laws.Step as St
use Rattle.exactness.proofs.Laws.Step.{sum_spin}
use Rattle.exactness.proofs.Laws.Spins as Sp
use Rattle.exactness.proofs.Laws.Spins.{sum_spins}
use Rattle.exactness.proofs.AnyScales.{Scaled, propagated_of, ZOf, direct_nof, propagated_nof}

module _ (O : Ops) where
  open O use {K, 𝟙, ◌⊗◌}

  infixl 70 ◌⊗◌
  -- The product of the scales of the i forward steps from a on.
  unfoldable pub forward_scales : (ℕ → K) → ℕ → ℕ → K
  forward_scales f a zero = 𝟙
  forward_scales f a (suc i) = forward_scales f a i ⊗ f (a + i)

  -- The product of the scales of the i backward steps that lead to vertex v.
  unfoldable pub backward_scales : (ℕ → K) → ℕ → ℕ → K
  backward_scales b v zero = 𝟙
  backward_scales b v (suc i) = b (suc v) ⊗ backward_scales b (suc v) i

  module _ (J : Job K) where
    -- The factor that Z and N of a pair with the later vertex v share.
    abbrev pub scales_at : (ℕ → K) → (ℕ → K) → ℕ → K
    scales_at f b v = forward_scales f 0 (suc v) ⊗ backward_scales b v (J.last - v)

    -- The sum over the spins of all vertices, and over those of a window's length before vertex 0.
    abbrev pub total : (ℕ → K) → K
    total g = sum O (2 ^ J.window) (λ j. sum_spins O J 0 (suc J.last) g j)

    -- The product of the two spins of the pair, in a setting of all vertices.
    abbrev pub signs : ℕ → ℕ → ℕ → K
    signs u v c = sign O (bit (J.last - u) c) ⊗ sign O (bit (J.last - v) c)

module _ (O : Ops) (LW : Laws O) (J : Job O.K) (hw : 1 ≤ J.window) where
  open O use {K, 𝟙, ◌⊗◌}

  infixl 70 ◌⊗◌
  open LW use {⊗_comm, ⊗_assoc, ⊗-one}

  abbrev size : ℕ
  size = 2 ^ J.window

  abbrev spins : ℕ → ℕ → (ℕ → K) → ℕ → K
  spins = sum_spins O J

  abbrev ahead : ℕ → K → List K → List K
  ahead t = forward_step O J.window (step_of J t)

  abbrev back : ℕ → K → (ℕ → K) → ℕ → K
  back t = backward_at O J.window (step_of J t)

  -- ---- a vector against a function

  abbrev dot : List K → (ℕ → K) → K
  dot v g = sum O size (λ j. at O v j ⊗ g j)

  dot-step : (t : ℕ) (sc : K) (v : List K) (g : ℕ → K) → dot (ahead t sc v) g ≡ dot v (back t sc g)
  dot-step t sc v g =
      L.sum_ext O LW size _ (λ j. forward_at O J.window (step_of J t) sc (at O v) j ⊗ g j)
      (λ j l. ap (λ x. x ⊗ g j) (E.forward-at O (step_of J t) sc J.window v j l))
      ∙ St.adjoint O LW J.window hw (step_of J t) sc (at O v) g

  signed-dot : (minus : ℕ → Bool) (v w : List K) → signed_sum O size minus (λ j. at O v j ⊗ at O w j) ≡ dot v (λ j. sign O (minus j) ⊗ at O w j)
  signed-dot minus v w =
      L.signed_is O LW size minus (λ j. at O v j ⊗ at O w j)
      ∙ ap (sum O size) (fun_ext (λ j. L.⊗-left O LW (sign O (minus j)) (at O v j) (at O w j)))

  module _ (F : ℕ → List K) (f : ℕ → K) (B : ℕ → List K) (b : ℕ → K) (sweeps : Scaled O J F f B b) where
    abbrev scales_f : ℕ → ℕ → K
    scales_f = forward_scales O f

    abbrev scales_b : ℕ → ℕ → K
    scales_b = backward_scales O b

    -- ---- forward: steps of the vector are backward steps of the function

    -- the backward steps at a + i - 1, .., a, with the forward scales
    steps_back : ℕ → ℕ → (ℕ → K) → ℕ → K
    steps_back a zero g = g
    steps_back a (suc i) g = steps_back a i (back (a + i) (f (a + i)) g)

    dot-steps : (a : ℕ) (v : ℕ → List K) → ((i : ℕ) → v (suc i) ≡ ahead (a + i) (f (a + i)) (v i)) → (i : ℕ) (g : ℕ → K)
        → dot (v i) g ≡ dot (v 0) (steps_back a i g)
    unfolding steps_back
    dot-steps a v h zero g = refl
    dot-steps a v h (suc i) g = ap (λ u. dot u g) (h i) ∙ dot-step (a + i) (f (a + i)) (v i) g ∙ dot-steps a v h i _

    steps_back_is : (a i : ℕ) (g : ℕ → K) (s : ℕ) → steps_back a i g (s % size) ≡ scales_f a i ⊗ spins a i (λ c. g (c % size)) s
    unfolding steps_back forward_scales sum_spins
    steps_back_is a zero g s = sym (L.one-⊗ O LW _)
    steps_back_is a (suc i) g s =
        steps_back_is a i (back (a + i) (f (a + i)) g) s
        ∙ ap (λ h. scales_f a i ⊗ spins a i h s) (fun_ext (λ c. St.backward-sums O LW J hw (a + i) (f (a + i)) g c))
        ∙ ap (λ x. scales_f a i ⊗ x) (Sp.spins_mul O LW J a i (f (a + i)) (sum_spin O J (a + i) (λ c. g (c % size))) s)
        ∙ sym (⊗_assoc _ _ _)

    -- the start, then the forward vectors
    from_start : ℕ → List K
    from_start zero = start O J.window
    from_start (suc t) = F t

    dot-forward : (v : ℕ) (g : ℕ → K) → dot (F v) g ≡ scales_f 0 (suc v) ⊗ sum O size (spins 0 (suc v) (λ c. g (c % size)))
    unfolding from_start
    dot-forward v g =
        dot-steps 0 from_start step (suc v) g
        ∙ L.sum_ext O LW size _ (λ j. scales_f 0 (suc v) ⊗ spins 0 (suc v) (λ c. g (c % size)) j) each
        ∙ L.sum_mul O LW size (scales_f 0 (suc v)) (spins 0 (suc v) (λ c. g (c % size)))
      where
        taken : (i : ℕ) → from_start (suc i) ≡ ahead i (f i) (from_start i)
        taken zero = sweeps.first
        taken (suc i) = sweeps.later i

        step : (i : ℕ) → from_start (suc i) ≡ ahead (0 + i) (f (0 + i)) (from_start i)
        step i = taken i ∙ ap (λ t. ahead t (f t) (from_start i)) (sym (zero-add i))

        each : (j : ℕ) → j < size
            → at O (start O J.window) j ⊗ steps_back 0 (suc v) g j ≡ scales_f 0 (suc v) ⊗ spins 0 (suc v) (λ c. g (c % size)) j
        each j l =
            ap (λ x. x ⊗ steps_back 0 (suc v) g j) (E.start-at O J.window j l)
            ∙ L.one-⊗ O LW _
            ∙ ap (steps_back 0 (suc v) g) (sym (mod-eq_of_lt l))
            ∙ steps_back_is 0 (suc v) g j

    -- ---- backward: the vector, read at a whole setting of the older spins

    backward-is : (i v : ℕ) → v + i ≡ J.last → (s : ℕ) → at O (B v) (s % size) ≡ scales_b v i ⊗ spins (suc v) i (λ c. 𝟙) s
    unfolding backward_scales sum_spins
    backward-is zero v e s =
        let h : v ≡ J.last = omega arith in
        ap (λ t. at O (B t) (s % size)) h
        ∙ ap (λ l. at O l (s % size)) sweeps.final
        ∙ E.start-at O J.window (s % size) (mod-lt s (pow_pos J.window))
        ∙ sym (⊗-one 𝟙)
    backward-is (suc i) v e s =
        ap (λ l. at O l (s % size)) (sweeps.earlier v (omega arith))
        ∙ E.backward-at O (step_of J (suc v)) (b (suc v)) J.window (B (suc v)) (s % size) (mod-lt s (pow_pos J.window))
        ∙ St.backward-sums O LW J hw (suc v) (b (suc v)) (at O (B (suc v))) s
        ∙ ap (λ g. b (suc v) ⊗ sum_spin O J (suc v) g s) (fun_ext (λ c. backward-is i (suc v) (omega arith) c))
        ∙ ap (λ x. b (suc v) ⊗ x) (Sp.spin_mul O LW J (suc v) (scales_b (suc v) i) (spins (suc (suc v)) i (λ c. 𝟙)) s)
        ∙ sym (⊗_assoc _ _ _)
        ∙ ap (λ x. (b (suc v) ⊗ scales_b (suc v) i) ⊗ x) (sym (Sp.spins-front O LW J (suc v) i (λ c. 𝟙) s))

    -- a factor g that the window settles, times the backward vector
    times-backward : (v : ℕ) → v ≤ J.last → (g : ℕ → K) → ((c : ℕ) → g (c % size) ≡ g c) → (c : ℕ)
        → g (c % size) ⊗ at O (B v) (c % size) ≡ scales_b v (J.last - v) ⊗ spins (suc v) (J.last - v) (λ x. g (x / 2 ^ (J.last - v)) ⊗ 𝟙) c
    times-backward v l g h c =
        cc (
          h c,
          backward-is (J.last - v) v (omega arith) c,
          L.⊗-left O LW (g c) (scales_b v (J.last - v)) (spins (suc v) (J.last - v) (λ x. 𝟙) c),
          Sp.spins_shift O LW J (suc v) (J.last - v) g (λ x. 𝟙) c,
        )

    -- ---- Z and a direct N: forward times a factor that the window settles times backward

    weighted : (v : ℕ) → v ≤ J.last → (g : ℕ → K) → ((c : ℕ) → g (c % size) ≡ g c)
        → dot (F v) (λ j. g j ⊗ at O (B v) j) ≡ scales_at O J f b v ⊗ total O J (λ x. g (x / 2 ^ (J.last - v)) ⊗ 𝟙)
    weighted v l g h =
        dot-forward v (λ j. g j ⊗ at O (B v) j)
        ∙ ap (λ z. scales_f 0 (suc v) ⊗ sum O size z) (fun_ext each)
        ∙ ap (λ z. scales_f 0 (suc v) ⊗ z) (L.sum_mul O LW size (scales_b v rest) (spins 0 (suc J.last) at_end))
        ∙ sym (⊗_assoc _ _ _)
      where
        rest : ℕ
        rest = J.last - v

        at_end : ℕ → K
        at_end x = g (x / 2 ^ rest) ⊗ 𝟙

        each : (j : ℕ) → spins 0 (suc v) (λ c. g (c % size) ⊗ at O (B v) (c % size)) j ≡ scales_b v rest ⊗ spins 0 (suc J.last) at_end j
        each j =
            ap (λ z. spins 0 (suc v) z j) (fun_ext (times-backward v l g h))
            ∙ Sp.spins_join O LW J 0 (suc v) rest (suc v) (suc J.last) (omega arith) (omega arith) (scales_b v rest) at_end j

    pub Z-is : (v : ℕ) → v ≤ J.last → ZOf O J F f B v ≡ scales_at O J f b v ⊗ total O J (λ x. 𝟙)
    unfolding ZOf
    Z-is v l =
        ap (sum O size) (fun_ext (λ j. ap (λ x. at O (F v) j ⊗ x) (sym (L.one-⊗ O LW _))))
        ∙ weighted v l (λ c. 𝟙) (λ c. refl)
        ∙ ap (λ y. scales_at O J f b v ⊗ total O J (λ x. y)) (⊗-one 𝟙)

    pub direct_is : (u v : ℕ) → u < v → v ≤ J.last → v - u < J.window
        → direct_nof O J F f B u v ≡ scales_at O J f b v ⊗ total O J (signs O J u v)
    unfolding direct_nof
    direct_is u v k l d =
        signed-dot differ (F v) (B v)
        ∙ weighted v l (λ j. sign O (differ j)) settled
        ∙ ap (λ g. scales_at O J f b v ⊗ total O J g) (fun_ext read)
      where
        differ : ℕ → Bool
        differ j = not (beq (bit 0 j) (bit (v - u) j))

        settled : (c : ℕ) → sign O (differ (c % size)) ≡ sign O (differ c)
        settled c = ap₂ (λ x y. sign O (not (beq x y))) (bit_mod 0 J.window c (omega arith)) (bit_mod (v - u) J.window c d)

        e : J.last - v + (v - u) ≡ J.last - u
        e = omega arith

        read : (x : ℕ) → sign O (differ (x / 2 ^ (J.last - v))) ⊗ 𝟙 ≡ signs O J u v x
        read x =
            ⊗-one _
            ∙ ap₂ (λ y z. sign O (not (beq y z))) (bit_shift_zero (J.last - v) x) (bit_shift (v - u) (J.last - v) x ∙ ap (λ n. bit n x) e)
            ∙ L.sign-differ O LW (bit (J.last - v) x) (bit (J.last - u) x)

    -- ---- a propagated N: u's sign is put in at u, v's at v

    scales_append : (a i k : ℕ) → scales_f a i ⊗ scales_f (a + i) k ≡ scales_f a (i + k)
    unfolding forward_scales
    scales_append a i zero = ⊗-one _ ∙ ap (scales_f a) (sym (add-zero i))
    scales_append a i (suc k) =
        let e : a + i + k ≡ a + (i + k) = omega arith in
        sym (⊗_assoc _ _ _) ∙ ap₂ ◌⊗◌ (scales_append a i k) (ap f e) ∙ ap (scales_f a) (sym (add-suc i k))

    abbrev propagated : ℕ → ℕ → List K
    propagated = propagated_of O J F f B

    propagated-step : (u i : ℕ) → propagated u (suc i) ≡ ahead (suc u + i) (f (suc u + i)) (propagated u i)
    unfolding propagated_of
    propagated-step u i = let e : u + suc i ≡ suc u + i = omega arith in ap (λ t. ahead t (f t) (propagated u i)) e

    abbrev newest : ℕ → K
    newest j = sign O (bit 0 j)

    propagated-start : (u : ℕ) (g : ℕ → K) → dot (propagated u 0) g ≡ dot (F u) (λ j. newest j ⊗ g j)
    unfolding propagated_of
    propagated-start u g = L.sum_ext O LW size _ _ each
      where
        each : (j : ℕ) → j < size → at O (propagated u 0) j ⊗ g j ≡ at O (F u) j ⊗ (newest j ⊗ g j)
        each j l =
            cc (
              E.alternate-at O J.window (F u) j l,
              L.sign_mul O LW (bit 0 j) (at O (F u) j),
              ⊗_comm (newest j) (at O (F u) j),
              ⊗_assoc (at O (F u) j) (newest j) (g j),
            )

    module _ (u v : ℕ) (k : u < v) (l : v ≤ J.last) where
      abbrev between : ℕ
      between = v - u

      abbrev rest : ℕ
      rest = J.last - v

      signed_backward : ℕ → K
      signed_backward j = newest j ⊗ at O (B v) j

      later_sign : ℕ → K
      later_sign x = newest (x / 2 ^ rest) ⊗ 𝟙

      both_signs : ℕ → K
      both_signs x = newest (x / 2 ^ (between + rest)) ⊗ later_sign x

      abbrev scales : K
      scales = scales_f (suc u) between ⊗ scales_b v rest

      settled : (c : ℕ) → newest (c % size) ≡ newest c
      settled c = ap (sign O) (bit_mod 0 J.window c (omega arith))

      from-u : (c : ℕ) → steps_back (suc u) between signed_backward (c % size) ≡ scales ⊗ spins (suc u) (between + rest) later_sign c
      unfolding signed_backward later_sign
      from-u c =
          steps_back_is (suc u) between signed_backward c
          ∙ ap (λ z. scales_f (suc u) between ⊗ spins (suc u) between z c) (fun_ext (times-backward v l newest settled))
          ∙ ap (λ z. scales_f (suc u) between ⊗ z)
          (Sp.spins_join O LW J (suc u) between rest (suc v) (between + rest) (omega arith) refl (scales_b v rest) later_sign c)
          ∙ sym (⊗_assoc _ _ _)

      at-u : (c : ℕ) → newest (c % size) ⊗ steps_back (suc u) between signed_backward (c % size)
          ≡ scales ⊗ spins (suc u) (between + rest) both_signs c
      unfolding both_signs
      at-u c =
          cc (
            settled c,
            from-u c,
            L.⊗-left O LW (newest c) scales (spins (suc u) (between + rest) later_sign c),
            Sp.spins_shift O LW J (suc u) (between + rest) newest later_sign c,
          )

      from-0 : (j : ℕ) → spins 0 (suc u) (λ c. newest (c % size) ⊗ steps_back (suc u) between signed_backward (c % size)) j
          ≡ scales ⊗ spins 0 (suc J.last) both_signs j
      from-0 j =
          ap (λ z. spins 0 (suc u) z j) (fun_ext at-u)
          ∙ Sp.spins_join O LW J 0 (suc u) (between + rest) (suc u) (suc J.last) (omega arith) (omega arith) scales both_signs j

      read : (x : ℕ) → both_signs x ≡ signs O J u v x
      unfolding both_signs later_sign
      read x =
          let e : between + rest ≡ J.last - u = omega arith in
          ap₂ (λ y z. sign O y ⊗ z) (bit_shift_zero (between + rest) x ∙ ap (λ n. bit n x) e) (⊗-one _ ∙ ap (sign O) (bit_shift_zero rest x))

      pub propagated-is : propagated_nof O J F f B u v ≡ scales_at O J f b v ⊗ total O J (signs O J u v)
      unfolding propagated_nof signed_backward
      propagated-is =
          signed-dot (λ j. bit 0 j) (propagated u between) (B v)
          ∙ dot-steps (suc u) (propagated u) (propagated-step u) between signed_backward
          ∙ propagated-start u (steps_back (suc u) between signed_backward)
          ∙ dot-forward u (λ j. newest j ⊗ steps_back (suc u) between signed_backward j)
          ∙ ap (λ z. scales_f 0 (suc u) ⊗ sum O size z) (fun_ext from-0)
          ∙ ap (λ z. scales_f 0 (suc u) ⊗ z) (L.sum_mul O LW size scales (spins 0 (suc J.last) both_signs))
          ∙ sym (⊗_assoc _ _ _)
          ∙ ap₂ (λ y z. y ⊗ total O J z) (sym (⊗_assoc _ _ _) ∙ ap (λ z. z ⊗ scales_b v rest) joined) (fun_ext read)
        where
          joined : scales_f 0 (suc u) ⊗ scales_f (suc u) between ≡ scales_f 0 (suc v)
          joined =
              let e : suc u + between ≡ suc v = omega arith in
              ap (λ a. scales_f 0 (suc u) ⊗ scales_f a between) (sym (zero-add (suc u)))
              ∙ scales_append 0 (suc u) between
              ∙ ap (scales_f 0) e
