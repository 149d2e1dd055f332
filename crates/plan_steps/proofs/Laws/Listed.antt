-- The first edge at each distance gives the definition's back edges. How many they are does not depend on their factors.
use Rattle.std.specs.Prelude.{◌≡◌, Bool, cond, ◌&&◌, ltb, get_or}
use Rattle.std.proofs.Math.Path.{refl, sym, ap}
use Rattle.std.proofs.Common.{◌∙◌}
use Rattle.std.proofs.Math.Bool.{true, false}
use mathlib.Core.List.{List, [], ◌∷◌, ◌++◌}
use Rattle.std.proofs.Math.Option.{Option, none, some}
use Prim.Native.Nat.{ℕ, zero, suc, ◌+◌, ◌-◌, ◌≤◌, ◌<◌}
use native.Mathlib.Omega.{arith}
use Rattle.std.proofs.Math.Dec.{eqb, eqb-suc-zero}
use Rattle.std.proofs.Math.ListN.{length}
use Rattle.list_laws.specs.Search as Search
use Rattle.list_laws.specs.Tabulate.{tabulate}
use Rattle.transfer_matrix.specs.Job.{Edge, back_edge, prepend, back_edges, too_many_near}
use Rattle.transfer_matrix.specs.Configuration.{edges_with}
use Rattle.plan_steps.specs.Layout.{named}
use Rattle.plan_steps.specs.Rows.{goes_back, first_of, first_back, listed}

module _ {K : Type 0} where
  abbrev or_else : Option K → Option K → Option K
  or_else none o = o
  or_else (some y) o = some y

  pass : (b : Bool) (y : K) (o p q : Option K) → o ≡ or_else p q → cond b (some y) o ≡ or_else (cond b (some y) p) q
  pass true y o p q e = refl
  pass false y o p q e = e

  -- one edge more, at the end
  back_snoc : (es : List (Edge K)) (e : Edge K) (t d : ℕ)
      → back_edge (es ++ (e ∷ [])) t d
      ≡ or_else (back_edge es t d) (cond (eqb e.late t && eqb (e.early + d) t) (some e.factor) none)
  unfolding back_edge
  back_snoc [] e t d = refl
  back_snoc (a ∷ es) e t d = pass (eqb a.late t && eqb (a.early + d) t) a.factor _ _ _ (back_snoc es e t d)

  module _ (early late : List ℕ) (factor : ℕ → K) where
    abbrev edge_at : ℕ → Edge K
    edge_at e = record { early = get_or early e 0; late = get_or late e 0; factor = factor e }

    first-of-first : (t d m : ℕ) → back_edge (tabulate edge_at m) t d ≡ named factor (first_back early late t d m)
    unfolding first_back first_of named tabulate back_edge
    first-of-first t d zero = refl
    first-of-first t d (suc m) =
        back_snoc (tabulate edge_at m) (edge_at m) t d
        ∙ ap (λ (o : Option K). or_else o (cond (goes_back early late t d m) (some (factor m)) none)) (first-of-first t d m)
        ∙ go (first_back early late t d m) (goes_back early late t d m)
      where
        go : (k : ℕ) (b : Bool) → or_else (named factor k) (cond b (some (factor m)) none) ≡ named factor (first_of k (cond b (suc m) 0))
        go zero true = let e : suc m - 1 ≡ m = omega arith in rw (eqb-suc-zero m, e)
        go zero false = refl
        go (suc k) b = rw (eqb-suc-zero k, eqb-suc-zero k)

    -- the edge of the definition is the first that goes back so far
    pub back-first : (t d : ℕ) → back_edge (edges_with early late factor) t d ≡ named factor (first_back early late t d (length early))
    unfolding edges_with
    back-first t d = first-of-first t d (length early)

    pub backs_listed : (t d k : ℕ) → back_edges (edges_with early late factor) t d k ≡ listed factor (λ e. first_back early late t e (length early)) d k
    unfolding back_edges listed
    backs_listed t d zero = refl
    backs_listed t d (suc k) = rw (back-first t d, backs_listed t (suc d) k)

  module _ (factor : ℕ → K) where
    -- rows that agree on these distances
    pub listed_ext : (v w : ℕ → ℕ) (d k : ℕ) → ((e : ℕ) → d ≤ e → e < d + k → v e ≡ w e) → listed factor v d k ≡ listed factor w d k
    unfolding listed
    listed_ext v w d zero h = refl
    listed_ext v w d (suc k) h = rw (h d (omega arith) (omega arith), listed_ext v w (suc d) k (λ e a b. h e (omega arith) (omega arith)))

-- ---- the number of edges

-- tests that agree below n find the same
pub some_ext : (s t : ℕ → Bool) (n : ℕ) → ((i : ℕ) → i < n → s i ≡ t i) → Search.some s n ≡ Search.some t n
unfolding Search.some
some_ext s t zero h = refl
some_ext s t (suc n) h = rw (some_ext s t n (λ i l. h i (omega arith)), h n (omega arith))

module _ {K L : Type 0} (f : ℕ → K) (g : ℕ → L) where
  pub listed-length : (row : ℕ → ℕ) (d k : ℕ) → length (listed f row d k) ≡ length (listed g row d k)
  unfolding listed named prepend
  listed-length row d zero = refl
  listed-length row d (suc k) = go (row d) (listed-length row (suc d) k)
    where
      go : (r : ℕ) → length (listed f row (suc d) k) ≡ length (listed g row (suc d) k)
          → length (prepend d (named f r) (listed f row (suc d) k)) ≡ length (prepend d (named g r) (listed g row (suc d) k))
      go zero h = h
      go (suc r) h = rw (eqb-suc-zero r) (ap suc h)

  -- Check 7 is the same whatever the factors are.
  pub too_many_any : (early late : List ℕ) (n w : ℕ) → too_many_near n w (edges_with early late f) ≡ too_many_near n w (edges_with early late g)
  unfolding too_many_near
  too_many_any early late n w =
      some_ext _ _ n
      (λ t l.
      let p = ap length (backs_listed early late f t 1 (w - 1)) in
      let q = ap length (backs_listed early late g t 1 (w - 1)) in
      ap (ltb 4) (p ∙ listed-length _ 1 (w - 1) ∙ sym q))
