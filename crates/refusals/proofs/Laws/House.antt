-- A house call that 23 does not refuse, as a call that lends factors.
use Rattle.std.specs.Prelude.{◌≡◌, refl, Bool, true, false, cond, List, [], ◌∷◌, ◌++◌, ℕ, zero, suc, Float}
use Rattle.std.proofs.Common.{sym, ◌∙◌}
use Rattle.refusals.specs.Key.{Key}
use Rattle.refusals.specs.Request.{Request, whole_request, bad_factor_list, bad_factors, bad_couplings}
use Rattle.refusals.specs.Refusal.{refusal, of_job, of_sweeps, of_correlations, of_enumeration, of_sampling, housed}
use Rattle.refusals.proofs.Laws.Later.{or_else, refusal_in_parts}

-- the same call with these factors, of which there should be so many
abbrev pub with_factors : List Float → ℕ → Request → Request
with_factors factors count r =
    whole_request r.sheet r.runs r.place r.caller r.arrangement r.vertices r.floor r.ones r.others r.magnitudes r.firsts r.seconds
    r.betas r.configurations factors count r.misfit r.work r.unsound

-- Where 10 passes these factors if 23 passes the couplings: what 23 does not refuse is refused by the same check as the call that lends them, or by none.
module _ (r : Request) (factors : List Float) (count : ℕ) (pass : bad_couplings r ≡ false → bad_factor_list factors count ≡ false) where
  abbrev lent : Request
  lent = with_factors factors count r

  in_place : (front rest : ℕ) {x y : ℕ} → x ≡ or_else front (cond (bad_couplings r) 23 rest) → y ≡ or_else front (cond (bad_factors lent) 10 rest)
      → (x ≡ 23 → ⊥) → x ≡ y
  in_place front rest p q h = p ∙ go front (bad_couplings r) pass (λ e. h (p ∙ e)) ∙ sym q
    where
      go : (k : ℕ) (t : Bool) → (t ≡ false → bad_factors lent ≡ false) → (or_else k (cond t 23 rest) ≡ 23 → ⊥)
          → or_else k (cond t 23 rest) ≡ or_else k (cond (bad_factors lent) 10 rest)
      go zero true e h = absurd (h refl)
      go zero false e h = rw (e refl)
      go (suc k) t e h = refl

  abbrev behind : List Key
  behind = Key.buffers ∷ Key.work_memory ∷ of_sweeps

  abbrev sampled_behind : List Key
  sampled_behind = Key.samples ∷ behind

  abbrev counted : List Key
  counted = of_job ++ (Key.free_edges ∷ Key.tester_free ∷ [])

  pub correlations_as_lent : (refusal (housed of_correlations) r ≡ 23 → ⊥) → refusal (housed of_correlations) r ≡ refusal of_correlations lent
  correlations_as_lent =
      in_place (refusal of_job r) (refusal behind r) (refusal_in_parts of_job (Key.couplings ∷ behind) r refl) (refusal_in_parts of_job (Key.factors ∷ behind) lent refl)

  pub enumeration_as_lent : (refusal (housed of_enumeration) r ≡ 23 → ⊥) → refusal (housed of_enumeration) r ≡ refusal of_enumeration lent
  enumeration_as_lent =
      in_place (refusal counted r) (refusal behind r) (refusal_in_parts counted (Key.couplings ∷ behind) r refl) (refusal_in_parts counted (Key.factors ∷ behind) lent refl)

  pub sampling_as_lent : (refusal (housed of_sampling) r ≡ 23 → ⊥) → refusal (housed of_sampling) r ≡ refusal of_sampling lent
  sampling_as_lent =
      in_place (refusal of_job r) (refusal sampled_behind r) (refusal_in_parts of_job (Key.couplings ∷ sampled_behind) r refl)
      (refusal_in_parts of_job (Key.factors ∷ sampled_behind) lent refl)
