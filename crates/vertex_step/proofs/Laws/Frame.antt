-- Laws of what specs/Frame defines.
use Rattle.std.specs.Prelude.{◌≡◌, List, ◌⊎◌, ℕ, zero, suc, ◌+◌, ◌*◌, ◌-◌, ◌^◌, ◌≤◌, ◌<◌, length, get_or, drop, set, Float}
use Rattle.std.proofs.Common.{sym, ap, ◌∙◌, subst, inl, inr, suc-mul, mul-le-mul_right, arith, length-drop, length-set, ext_get_or, get_or-drop, get_or-set_other}
use Rattle.std.proofs.Math.Logic.{dite}
use Rattle.std.proofs.Math.Decide.{dec_lt}
use Rattle.std.specs.Float.{nan}
use Rattle.list_laws.proofs.Laws.Power.{pow_double}
use Rattle.list_laws.specs.Tabulate.{tabulate}
use Rattle.list_laws.proofs.Laws.Tabulate.{tabulate-at}
use Rattle.list_laws.specs.Part.{Apart}
use Rattle.list_laws.proofs.Laws.Part.{part_length, part_at, put-length, put_out, part-put, part_put_out}
use Rattle.step_tables.specs.Place.{held, hold}
use Rattle.pair_sums.specs.Terms.{half_at}
use Rattle.vertex_step.specs.Frame.{Fits}

-- two places lie apart
off : (w p q : ℕ) → (p ≡ q → ⊥) → (p * 2 ^ w + 2 ^ w ≤ q * 2 ^ w) ⊎ (q * 2 ^ w + 2 ^ w ≤ p * 2 ^ w)
off w p q ne =
    dite (dec_lt p q)
    (λ l. inl (omega (arith, mul-le-mul_right (2 ^ w) l, suc-mul p (2 ^ w))))
    (λ l. let l' : q < p = omega (arith, ne) in inr (omega (arith, mul-le-mul_right (2 ^ w) l', suc-mul q (2 ^ w))))

-- the moving places 0 and 1
pub moving-fits : (w end p : ℕ) → p < 2 → 2 * 2 ^ w ≤ end → Fits w end p
moving-fits w end p l m =
    dite (dec_lt p 1)
    (λ z. let e : p ≡ 0 = omega arith in rw e (omega arith))
    (λ z. let e : p ≡ 1 = omega arith in rw e (omega arith))

-- a half lies within its place
half-within : (w : ℕ) → 2 ^ (w - 1) ≤ 2 ^ w
half-within zero = omega arith
half-within (suc w) = omega (arith, pow_double (suc w) (omega arith))

-- where a place's numbers are as they were, its half is
pub half-held : (r r' : List Float) (w p : ℕ) → held r' w p ≡ held r w p → (j : ℕ) → j < 2 ^ (w - 1) → half_at r' w p j ≡ half_at r w p j
half-held r r' w p e j b =
    let c : j < 2 ^ w = omega (arith, half-within w) in
    sym (part_at r' (p * 2 ^ w) (2 ^ w) j nan c) ∙ ap (λ (l : List Float). get_or l j nan) e ∙ part_at r (p * 2 ^ w) (2 ^ w) j nan c

-- r' is r with some half vector at place p
pub record Wrote (r r' : List Float) (w p : ℕ) : Type 0 where
  pub vector : List Float
  pub full : length vector ≡ 2 ^ (w - 1)
  pub done : r' ≡ hold r w p vector

module _ (r r' : List Float) (w p : ℕ) (g : Wrote r r' w p) (fits : Fits w (length r) p) where
  ends : p * 2 ^ w + length g.vector ≤ length r
  ends = omega (arith, g.full, half-within w)

  pub wrote_length : length r' ≡ length r
  wrote_length = ap length g.done ∙ put-length r (p * 2 ^ w) g.vector ends

  -- the place's half is the one that was written
  pub wrote_same : (j : ℕ) → j < 2 ^ (w - 1) → half_at r' w p j ≡ get_or g.vector j nan
  wrote_same j b =
      ap (λ (x : List Float). half_at x w p j) g.done
      ∙ sym (part_at (hold r w p g.vector) (p * 2 ^ w) (length g.vector) j nan (omega (arith, g.full)))
      ∙ ap (λ (x : List Float). get_or x j nan) (part-put r (p * 2 ^ w) g.vector ends)

  pub wrote_half : (f : ℕ → Float) → g.vector ≡ tabulate f (2 ^ (w - 1)) → (j : ℕ) → j < 2 ^ (w - 1) → half_at r' w p j ≡ f j
  wrote_half f e j b = wrote_same j b ∙ ap (λ (x : List Float). get_or x j nan) e ∙ tabulate-at f (2 ^ (w - 1)) j nan b

  -- the others hold what they held
  pub wrote_other : (q : ℕ) → (q ≡ p → ⊥) → Fits w (length r) q → held r' w q ≡ held r w q
  wrote_other q ne b =
      let a : Apart (length r) (q * 2 ^ w) (2 ^ w) (p * 2 ^ w) (2 ^ (w - 1)) =
      record { from = b; to = omega (arith, half-within w); off = before (off w q p ne) } in
      ap (λ (x : List Float). held x w q) g.done
      ∙ part_put_out r (p * 2 ^ w) g.vector ends nan (q * 2 ^ w) (2 ^ w)
      (subst (λ (k : ℕ). Apart (length r) (q * 2 ^ w) (2 ^ w) (p * 2 ^ w) k) (sym g.full) a)
    where
      before : (q * 2 ^ w + 2 ^ w ≤ p * 2 ^ w) ⊎ (p * 2 ^ w + 2 ^ w ≤ q * 2 ^ w) → (q * 2 ^ w + 2 ^ w ≤ p * 2 ^ w) ⊎ (p * 2 ^ w + 2 ^ (w - 1) ≤ q * 2 ^ w)
      before (inl l) = inl l
      before (inr l) = inr (omega (arith, half-within w))

  -- all that lies behind the place stays
  pub wrote_at : (i : ℕ) → p * 2 ^ w + 2 ^ w ≤ i → get_or r' i nan ≡ get_or r i nan
  wrote_at i b = ap (λ (x : List Float). get_or x i nan) g.done ∙ put_out r (p * 2 ^ w) g.vector ends i nan (inr (omega (arith, g.full, half-within w)))

  pub wrote_drop : (k : ℕ) → p * 2 ^ w + 2 ^ w ≤ k → drop k r' ≡ drop k r
  wrote_drop k b =
      let l = wrote_length in
      ext_get_or nan (drop k r') (drop k r) (length-drop k r' ∙ ap (λ (n : ℕ). n - k) l ∙ sym (length-drop k r))
      (λ i _. get_or-drop k r' i nan ∙ wrote_at (k + i) (omega arith) ∙ sym (get_or-drop k r i nan))

-- a number that is stored behind the places leaves them as they were
pub set-held : (r : List Float) (w i q : ℕ) (a : Float) → i < length r → q * 2 ^ w + 2 ^ w ≤ i → held (set r i a) w q ≡ held r w q
set-held r w i q a b l =
    let s : length (set r i a) ≡ length r = length-set r i a in
    let m : length (held (set r i a) w q) ≡ 2 ^ w = part_length (set r i a) (q * 2 ^ w) (2 ^ w) (omega arith) in
    ext_get_or nan (held (set r i a) w q) (held r w q) (m ∙ sym (part_length r (q * 2 ^ w) (2 ^ w) (omega arith)))
    (λ j c. let c' : j < 2 ^ w = omega arith in
    part_at (set r i a) (q * 2 ^ w) (2 ^ w) j nan c' ∙ get_or-set_other r i (q * 2 ^ w + j) a nan (λ e. omega arith)
    ∙ sym (part_at r (q * 2 ^ w) (2 ^ w) j nan c'))
