-- Laws of what specs/Stored defines.
use Rattle.std.specs.Prelude.{◌≡◌, Bool, false, List, ℕ, ◌+◌, ◌*◌, ◌/◌, ◌%◌, ◌≤◌, ◌<◌, Float, length, get_or, set}
use Rattle.std.proofs.Common.{sym, ap, ◌∙◌, mul-le-mul_right, mul-le-mul_left, mul-one, mod-eq_of_lt, add-zero, div-lt_iff_lt-mul, mod-lt, div-add-mod', arith, get_or-set_same, get_or-set_other}
use Rattle.std.proofs.Math.Decide.{dec_lt}
use Rattle.std.proofs.Math.Nat.{mul-add-div_right, mul-add-mod_self_right, div-eq_of_lt}
use Rattle.std.specs.Float.{nan}
use Rattle.list_laws.specs.Search.{some}
use Rattle.list_laws.specs.Tabulate.{tabulate}
use Rattle.list_laws.proofs.Laws.Tabulate.{tabulated}
use Rattle.transfer_matrix.specs.Job.{Job}
use Rattle.pair_correlations.specs.Sound.{unsound}
use Rattle.totals_configuration.specs.declared.JobShape.{JobShape}
use Rattle.totals_configuration.specs.Signed.{PlanOfAll}
use Rattle.totals_configuration.specs.Powers.{correlation_at}
use Rattle.totals_stored.specs.Stored.{Stored}

-- number k of configuration y, from its place
place-number : (all k y : ℕ) → y < all → (k * all + y) / all ≡ k
place-number all k y l =
    let some : 0 < all = omega arith in
    mul-add-div_right some k y ∙ ap (λ (j : ℕ). k + j) (div-eq_of_lt l) ∙ add-zero k

place-configuration : (all k y : ℕ) → y < all → (k * all + y) % all ≡ y
place-configuration all k y l = mul-add-mod_self_right k all y ∙ mod-eq_of_lt l

-- a place lies inside
pub place_inside : (all m q x : ℕ) → q < m → x < all → q * all + x < m * all
place_inside all m q x l k = let h : (q + 1) * all ≤ m * all = mul-le-mul_right all (omega arith) in omega arith

pub number_small : (all q x : ℕ) → x < all → q ≤ q * all + x
number_small all q x k = let h : q * 1 ≤ q * all = mul-le-mul_left q (omega arith) in omega (arith, mul-one q)

module _ (value : ℕ → ℕ → Float) (all n : ℕ) where
  pub stored-none : (stored : List Float) → Stored value all n 0 0 stored
  stored-none stored = record { whole = λ y k l b. absurd (omega arith); begun = λ k b. absurd (omega arith) }

  module _ (x : ℕ) (inside : x < all) where
    -- one number more
    pub stored_more : (q : ℕ) (stored : List Float) (v : Float) → q * all + x < length stored → v ≡ value x q → Stored value all n x q stored
        → Stored value all n x (q + 1) (set stored (q * all + x) v)
    stored_more q stored v l e g = record {
      whole = λ y k b c. get_or-set_other stored (q * all + x) (k * all + y) v nan (other y k b) ∙ g.whole y k b c;
      begun = λ k b. go k b (dec_lt k q);
    }
      where
        other : (y k : ℕ) → y < x → k * all + y ≡ q * all + x → ⊥
        other y k b p =
            let d : y ≡ x = sym (place-configuration all k y (omega arith)) ∙ ap (λ (j : ℕ). j % all) p ∙ place-configuration all q x inside in
            omega arith

        go : (k : ℕ) → k < q + 1 → Dec (k < q) → get_or (set stored (q * all + x) v) (k * all + x) nan ≡ value x k
        go k b (yes c) =
            get_or-set_other stored (q * all + x) (k * all + x) v nan
            (λ p. let d : k ≡ q = sym (place-number all k x inside) ∙ ap (λ (j : ℕ). j / all) p ∙ place-number all q x inside in omega arith)
            ∙ g.begun k c
        go k b (no c) =
            let d : k ≡ q = omega arith in
            rw d (get_or-set_same stored (q * all + x) v nan l ∙ e)

  -- a configuration more
  pub stored_next : (x : ℕ) (stored : List Float) → Stored value all n x n stored → Stored value all n (x + 1) 0 stored
  stored_next x stored g = record { whole = λ y k b c. go y k b c (dec_lt y x); begun = λ k b. absurd (omega arith) }
    where
      go : (y k : ℕ) → y < x + 1 → k < n → Dec (y < x) → get_or stored (k * all + y) nan ≡ value y k
      go y k b c (yes l) = g.whole y k l c
      go y k b c (no l) =
          let e : y ≡ x = omega arith in
          rw e (g.begun k c)

  -- all of them
  pub stored-all : (stored : List Float) → length stored ≡ n * all → 0 < all → Stored value all n all 0 stored
      → stored ≡ tabulate (λ k. value (k % all) (k / all)) (n * all)
  stored-all stored long some g =
      tabulated nan stored (λ k. value (k % all) (k / all)) (n * all) long
      (λ i b. ap (λ (j : ℕ). get_or stored j nan) (sym (div-add-mod' i all)) ∙ g.whole (i % all) (i / all) (mod-lt i some) ((div-lt_iff_lt-mul some).1 b))

-- Before result p of those that go to the numbers from `first` on.
pub record Placing (all x first : ℕ) (c : List Float) (p : ℕ) (stored₀ stored : List Float) : Type 0 where
  pub below : p ≤ length c
  pub long : length stored ≡ length stored₀
  pub so_far : (value : ℕ → ℕ → Float) (n : ℕ) → ((i : ℕ) → i < length c → get_or c i nan ≡ value x (first + i)) → Stored value all n x first stored₀
      → Stored value all n x (first + p) stored

-- Before beta b of configuration x.
pub record Storing (plan us vs : List ℕ) (factors : List Float) (signs : List Bool) (s : JobShape) (all x b : ℕ)
    (room₀ room c₀ c stored₀ stored : List Float) : Type 0 where
  pub below : b ≤ s.betas
  pub rooms : length room ≡ length room₀
  pub results : length c ≡ length c₀
  pub storeds : length stored ≡ length stored₀
  pub so_far : (J : ℕ → Job Float) → PlanOfAll J plan factors (length signs) signs s → (some (λ i. unsound (J i) us vs) b ≡ false)
      × ((value : ℕ → ℕ → Float) → ((k : ℕ) → k < s.betas * length us → correlation_at J us vs k ≡ value x k)
      → Stored value all (s.betas * length us) x 0 stored₀ → Stored value all (s.betas * length us) x (b * length us) stored)
