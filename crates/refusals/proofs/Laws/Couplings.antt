-- The couplings by beta and edge, and 23 of all of them.
use Rattle.std.specs.Prelude.{◌≡◌, refl, Bool, true, false, not, List, ℕ, ◌+◌, ◌*◌, ◌/◌, ◌%◌, ◌≤◌, ◌<◌, eqb, Float, length, get_or}
use Rattle.std.proofs.Common.{sym, ap, ◌∙◌, true≢false, add-zero, mul-zero, mul-le-mul_right, mod-eq_of_lt, mod-lt, div-lt_iff_lt-mul, arith, eq-eqb}
use Rattle.std.proofs.Math.Nat.{mul-add-div_right, mul-add-mod_self_right, div-eq_of_lt}
use Rattle.std.proofs.Math.Decide.{dec_lt}
use Rattle.std.specs.Float.{nan, binary64}
use Rattle.std.specs.Float.Ieee.{mul}
use Rattle.coupling_grid.specs.Grid.{off_grid}
use Rattle.list_laws.specs.Search.{some}
use Rattle.list_laws.proofs.Laws.Search.{or-false, none-at, none_of}
use Rattle.list_laws.proofs.Laws.Tabulate.{tabulate-length, tabulate-at}
use Rattle.refusals.specs.Couplings.{coupling_at, all_couplings}
use Rattle.refusals.specs.Request.{bad_coupling_list}

module _ (betas mag : List Float) where
  -- edge e of beta b
  pub coupling-is : (b e : ℕ) → e < length mag → mul binary64 (get_or betas b nan) (get_or mag e nan) ≡ coupling_at betas mag (b * length mag + e)
  coupling-is b e l =
      let some : 0 < length mag = omega arith in
      let d : (b * length mag + e) / length mag ≡ b = mul-add-div_right some b e ∙ ap (λ (k : ℕ). b + k) (div-eq_of_lt l) ∙ add-zero b in
      let m : (b * length mag + e) % length mag ≡ e = mul-add-mod_self_right b (length mag) e ∙ mod-eq_of_lt l in
      rw (d, m)

  pub coupling-inside : (b e : ℕ) → b < length betas → e < length mag → b * length mag + e < length betas * length mag
  coupling-inside b e h l = let p : (b + 1) * length mag ≤ length betas * length mag = mul-le-mul_right (length mag) (omega arith) in omega arith

  pub all-length : length (all_couplings betas mag) ≡ length betas * length mag
  all-length = tabulate-length (coupling_at betas mag) (length betas * length mag)

  pub all-at : (b e : ℕ) → b < length betas → e < length mag
      → get_or (all_couplings betas mag) (b * length mag + e) nan ≡ mul binary64 (get_or betas b nan) (get_or mag e nan)
  all-at b e h l =
      tabulate-at (coupling_at betas mag) (length betas * length mag) (b * length mag + e) nan (coupling-inside b e h l) ∙ sym (coupling-is b e l)

  -- whether the coupling of beta b and edge e is off the grid, and whether some is
  abbrev pub off_of : ℕ → ℕ → Bool
  off_of b e = off_grid (mul binary64 (get_or betas b nan) (get_or mag e nan))

  abbrev bad : Bool
  bad = bad_coupling_list (all_couplings betas mag) (length betas * length mag)

  pub products-on : bad ≡ false → (b e : ℕ) → b < length betas → e < length mag → off_of b e ≡ false
  products-on h b e p l =
      let k = coupling-inside b e p l in
      ap off_grid (sym (all-at b e p l))
      ∙ none-at (λ i. off_grid (get_or (all_couplings betas mag) i nan)) (length (all_couplings betas mag)) (b * length mag + e) (omega (arith, all-length)) (or-false (not (eqb (length (all_couplings betas mag)) (length betas * length mag))) _ h).1

  pub good_rows : ((b : ℕ) → b < length betas → some (off_of b) (length mag) ≡ false) → false ≡ bad
  good_rows h = rw (eq-eqb _ _ all-length) (sym (none_of _ _ (λ k l. at k (omega (arith, all-length)))))
    where
      at : (k : ℕ) → k < length betas * length mag → off_grid (get_or (all_couplings betas mag) k nan) ≡ false
      at k l =
          let some : 0 < length mag = go (dec_lt 0 (length mag)) in
          ap off_grid (tabulate-at (coupling_at betas mag) (length betas * length mag) k nan l)
          ∙ none-at (off_of (k / length mag)) (length mag) (k % length mag) (mod-lt k some) (h (k / length mag) ((div-lt_iff_lt-mul some).1 l))
        where
          go : Dec (0 < length mag) → 0 < length mag
          go (yes p) = p
          go (no p) = let z : length mag ≡ 0 = omega arith in absurd (let q : length betas * length mag ≡ 0 = rw (z, mul-zero) in omega arith)

  pub bad-row : (b : ℕ) → b < length betas → true ≡ some (off_of b) (length mag) → true ≡ bad
  bad-row b l h = go bad refl
    where
      go : (t : Bool) → bad ≡ t → true ≡ t
      go true e = refl
      go false e = absurd (true≢false (h ∙ none_of (off_of b) (length mag) (λ i p. products-on e b i l p)))
