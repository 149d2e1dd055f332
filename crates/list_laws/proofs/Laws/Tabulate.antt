-- Laws of what specs/Tabulate defines.
use Rattle.std.specs.Prelude.{◌≡◌, length, get_or}
use Rattle.std.proofs.Math.Path.{refl}
use Rattle.std.proofs.Common.{◌∙◌, ext_get_or}
use mathlib.Core.List.{List, [], ◌∷◌, ◌++◌}
use Rattle.std.proofs.Math.Logic.{dite}
use Prim.Native.Nat.{ℕ, zero, suc, ◌<◌}
use Rattle.std.proofs.Math.Decide.{dec_lt}
use native.Mathlib.Omega.{arith}
use Rattle.std.proofs.Math.ListN.{length-append, get_or-append}
use Rattle.std.proofs.lemmas.List.{get_or_at}
use Rattle.list_laws.specs.Tabulate.{tabulate}

module _ {A : Type 0} where
  pub tabulate_suc : (f : ℕ → A) (n : ℕ) → tabulate f (suc n) ≡ tabulate f n ++ (f n ∷ [])
  unfolding tabulate
  tabulate_suc f n = refl

  pub tabulate-length : (f : ℕ → A) (n : ℕ) → length (tabulate f n) ≡ n
  unfolding tabulate
  tabulate-length f zero = refl
  tabulate-length f (suc n) = length-append (tabulate f n) (f n ∷ []) ∙ omega (arith, tabulate-length f n)

  pub tabulate-at : (f : ℕ → A) (n j : ℕ) (z : A) → j < n → get_or (tabulate f n) j z ≡ f j
  unfolding tabulate
  tabulate-at f zero j z h = absurd (omega arith)
  tabulate-at f (suc n) j z h =
      dite (dec_lt j n)
      (λ l. get_or-append (tabulate f n) (f n ∷ []) z j (omega (arith, tabulate-length f n)) ∙ tabulate-at f n j z l)
      (λ g. let e : j ≡ n = omega arith in rw e (get_or_at (tabulate f n) (f n) [] z n (tabulate-length f n)))

  -- two rules that agree below n give one list
  pub tabulate_ext : (f g : ℕ → A) (n : ℕ) → ((i : ℕ) → i < n → f i ≡ g i) → tabulate f n ≡ tabulate g n
  unfolding tabulate
  tabulate_ext f g zero h = refl
  tabulate_ext f g (suc n) h = rw (tabulate_ext f g n (λ i l. h i (omega arith)), h n (omega arith))

  -- a list with the rule's entries is the rule's list
  pub tabulated : (z : A) (l : List A) (f : ℕ → A) (n : ℕ) → length l ≡ n → ((i : ℕ) → i < n → get_or l i z ≡ f i) → l ≡ tabulate f n
  tabulated z l f n e h =
      let k = tabulate-length f n in
      ext_get_or z l (tabulate f n) (omega arith) (λ i b. let b' : i < n = omega arith in rw (h i b', tabulate-at f n i z b'))
