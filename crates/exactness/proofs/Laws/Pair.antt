-- A pair u < v: with any scales above zero, N over Z is the textbook ratio.
use Rattle.std.specs.Prelude.{◌≡◌, List, ℕ, suc, ◌-◌, ◌^◌, ◌≤◌, ◌<◌, ltb}
use Rattle.std.proofs.Math.Path.{refl, sym, ap, subst, fun_ext}
use Rattle.std.proofs.Common.{◌∙◌, ap₂, arith, lt-ltb, le-ltb}
use Rattle.std.proofs.Math.Bool.{cond}
use Rattle.std.proofs.Math.Decide.{dec_lt}
use Rattle.std.proofs.Math.Pow.{suc_ones}
use Rattle.transfer_matrix.specs.Arithmetic.{Ops, sum}
use Rattle.list_laws.specs.Bits.{bit}
use Rattle.transfer_matrix.specs.Job.{Job}
use Rattle.transfer_matrix.specs.Checked.{Checked}
use Rattle.exactness.specs.Textbook.{Setting, over_settings, spin, weight, textbook}
use Rattle.exactness.proofs.Laws.Algebra as L
use Rattle.exactness.proofs.Laws.Algebra.{Laws, Pos, sign}
use Rattle.exactness.proofs.AnyScales.{Scaled, ZOf, direct_nof, propagated_nof, NOf}
use Rattle.exactness.proofs.Laws.Chain as Ch
use Rattle.exactness.proofs.Laws.Chain.{total, signs, scales_at}
use Rattle.exactness.proofs.Laws.Settings as S
use Rattle.exactness.proofs.Laws.Settings.{setting_of, setting_at}
use Rattle.exactness.proofs.Laws.Weights as W
use Rattle.exactness.proofs.Laws.Positive as P

module _ (O : Ops) (LW : Laws O) (J : Job O.K) where
  open O use {K, 𝟙, ◌⊗◌, ◌⊘◌}

  infixl 70 ◌⊗◌
  infixl 70 ◌⊘◌
  open LW use {⊗_comm, ⊗_assoc, ⊗-one, pos_one, pos_⊗}

  abbrev n : ℕ
  n = suc J.last

  abbrev weighed : (Setting → K) → K
  weighed g = over_settings O n (λ s. weight O J.edges s ⊗ g s)

  abbrev spins : ℕ → ℕ → Setting → K
  spins u v s = spin O s u ⊗ spin O s v

  textbook-is : (u v : ℕ) → textbook O J u v ≡ weighed (spins u v) ⊘ over_settings O n (weight O J.edges)
  unfolding textbook
  textbook-is u v = refl

  pub textbook_comm : (u v : ℕ) → textbook O J u v ≡ textbook O J v u
  textbook_comm u v =
      textbook-is u v
      ∙ ap (λ g. weighed g ⊘ over_settings O n (weight O J.edges)) (fun_ext (λ s. ⊗_comm (spin O s u) (spin O s v)))
      ∙ sym (textbook-is v u)

  signs-is : (u v : ℕ) → u ≤ J.last → v ≤ J.last → (c : ℕ) → signs O J u v c ≡ spins u v (setting_of n c)
  signs-is u v k l c = ap₂ (λ x y. sign O x ⊗ sign O y) (digit u k) (digit v l)
    where
      digit : (i : ℕ) → i ≤ J.last → bit (J.last - i) c ≡ setting_of n c i
      digit i h = let e : J.last - i ≡ n - suc i = omega arith in ap (λ p. bit p c) e ∙ sym (setting_at n c i (omega arith))

  module _ (ok : Checked (Pos O) J) (F : ℕ → List K) (f : ℕ → K) (B : ℕ → List K) (b : ℕ → K) (sweeps : Scaled O J F f B b)
      (u v : ℕ) (k : u < v) (l : v ≤ J.last) where
    N-is : NOf O J F f B u v ≡ scales_at O J f b v ⊗ total O J (signs O J u v)
    unfolding NOf
    N-is = go (dec_lt (v - u) J.window)
      where
        go : Dec (v - u < J.window)
            → cond (ltb (v - u) J.window) (direct_nof O J F f B u v) (propagated_nof O J F f B u v)
            ≡ scales_at O J f b v ⊗ total O J (signs O J u v)
        go (yes d) = cc (lt-ltb (v - u) J.window d, Ch.direct_is O LW J ok.window F f B b sweeps u v k l d)
        go (no d) =
            cc (le-ltb (v - u) J.window (omega arith), Ch.propagated-is O LW J ok.window F f B b sweeps u v k l)

    -- how many settings the spins before vertex 0 have
    many : K
    many = sum O (2 ^ J.window) (λ j. 𝟙)

    many_pos : Pos O many
    unfolding many
    many_pos = subst (λ z. Pos O (sum O z (λ j. 𝟙))) (suc_ones J.window) (L.sum_pos O LW (2 ^ J.window - 1) (λ j. 𝟙) (λ j. pos_one))

    common : K
    common = scales_at O J f b v ⊗ many

    common_pos : Pos O common
    unfolding common
    common_pos = pos_⊗ _ _ (P.scales_pos O LW J ok f b sweeps.forward-positive sweeps.backward-positive v) many_pos

    shared : (x : K) (g : Setting → K) → x ≡ scales_at O J f b v ⊗ total O J (λ c. g (setting_of n c)) → x ≡ common ⊗ weighed g
    unfolding common many
    shared x g e = e ∙ ap (λ y. scales_at O J f b v ⊗ y) (W.total-is O LW J (Pos O) ok g) ∙ sym (⊗_assoc _ _ _)

    pub ordered : NOf O J F f B u v ⊘ ZOf O J F f B v ≡ textbook O J u v
    ordered =
        ap₂ ◌⊘◌
        (shared _ (spins u v) (N-is ∙ ap (λ g. scales_at O J f b v ⊗ total O J g) (fun_ext (signs-is u v (omega arith) l))))
        (shared _ (λ s. 𝟙) (Ch.Z-is O LW J ok.window F f B b sweeps v l) ∙ ap (λ g. common ⊗ over_settings O n g) (fun_ext (λ s. ⊗-one _)))
        ∙ L.ratio O LW common _ _ common_pos (S.over_pos O LW n _ (P.weight_pos O LW J ok J.edges ok.edges))
        ∙ sym (textbook-is u v)
