-- Both arrangements write the same bytes, where there is room for both; and bytes depend on nothing that the lists held, nor on memory past the room.
use Rattle.std.specs.Prelude.{◌≡◌, refl, List, ℕ, ◌*◌, Float, length}
use Rattle.std.proofs.Common.{sym, ◌∙◌}
use Rattle.limits.specs.declared.Caller.TheVariants.{Desk}
use Rattle.transfer_matrix.specs.Room.{keep_all}
use Rattle.refusals.specs.Couplings.{all_couplings}
use Rattle.refusals.specs.Edges.{kept, kept_magnitudes}
use Rattle.refusals.specs.Request.{Request, sampled, sweep_request, signed_factors}
use Rattle.refusals.specs.Refusal.{refusal, of_recording, housed}
use Rattle.plan_layout.specs.declared.Arrangement.{Arrangement}
use Rattle.plan_layout.specs.Arrangements.{arrangement_of}
use Rattle.entry_correlations.specs.declared.Manner.{Manner}
use Rattle.totals_call.specs.Given.{Given, free}
use Rattle.totals_call.specs.Calls.{unsound_drawn, house_given}
use Rattle.record_checks.specs.Recording.{other_length}
use Rattle.record_call.specs.Calls.{lent_given, Recorded, HouseRecorded, head_for}
use Rattle.demands.proofs.Laws.Arranged.{arrangements_alike}
use Rattle.demands_house.specs.Factors.{table_factors}
use Rattle.demands_house.proofs.Laws.Lent.{never}
use Rattle.demands_recordings.specs.Written.{record_is}

-- A call that writes a record is never the tester's: no such call is answered 22. A lent one is not answered 23, a house one not 10.
pub record_not_22 : (r : Request) → (refusal of_recording r ≡ 22 → ⊥) × (refusal (housed of_recording) r ≡ 22 → ⊥)
record_not_22 r = (never 21 of_recording r refl, never 21 (housed of_recording) r refl)

pub record_source : (r : Request) → (refusal of_recording r ≡ 23 → ⊥) × (refusal (housed of_recording) r ≡ 10 → ⊥)
record_source r = (never 22 of_recording r refl, never 9 (housed of_recording) r refl)

-- ---- `sample_record`

module _ (n floor : ℕ) (a b : List ℕ) (m : List Float) (us vs : List ℕ) (betas : List Float) (manner : Manner) (one other : Arrangement) (seed from to samples : ℕ) where
  module _ (factors : List Float) where
    abbrev given : Arrangement → Given
    given = lent_given n floor a b m us vs betas factors manner

    -- Calls that both have room answer the same, 14 too, and leave the same bytes.
    pub records_alike : {r s : ℕ} {bytes bytes' bytes'' : List ℕ} {work work' work'' : List Float}
        → Recorded n floor a b m us vs betas factors manner one seed from to samples r bytes bytes' work work' → (r ≡ 13 → ⊥)
        → Recorded n floor a b m us vs betas factors manner other seed from to samples s bytes bytes'' work work'' → (s ≡ 13 → ⊥)
        → (r ≡ s) × (bytes' ≡ bytes'')
    records_alike {r} {s} {bytes} {bytes'} {bytes''} {work} c h d i =
        let p = c.call.answer in
        let q = d.call.answer in
        let e = arrangements_alike of_recording (arrangement_of one) (arrangement_of other) (request bytes work) (λ z. h (p ∙ z)) (λ z. i (q ∙ z)) in
        (p ∙ e ∙ sym q, c.call.bytes_are ∙ rw e (sym d.call.bytes_are))
      where
        request : List ℕ → List Float → Request
        request bytes work =
            sweep_request Desk keep_all n floor a b m us vs betas (sampled (free (given one)) from to samples) factors (signed_factors (length betas) (length (kept a b m)))
            (other_length (head_for (given one) seed from to samples) (length bytes)) (length work) (unsound_drawn (given one) seed from to samples)

    -- Accepted calls leave the same bytes whatever their lists held and however much memory lies past the room.
    pub record_alone : {bytes bytes' bytes₂ bytes₂' : List ℕ} {work work' work₂ work₂' : List Float}
        → Recorded n floor a b m us vs betas factors manner one seed from to samples 0 bytes bytes' work work'
        → Recorded n floor a b m us vs betas factors manner other seed from to samples 0 bytes₂ bytes₂' work₂ work₂' → bytes' ≡ bytes₂'
    record_alone c d = record_is c ∙ sym (record_is d)

  -- ---- `house_sample_record`

  abbrev house_by : Arrangement → Given
  house_by arrangement = house_given n floor a b m us vs betas manner arrangement Desk

  pub house_records_alike : {r s : ℕ} {bytes bytes' bytes'' : List ℕ} {work work' work'' : List Float}
      → HouseRecorded n floor a b m us vs betas manner one seed from to samples r bytes bytes' work work' → (r ≡ 13 → ⊥)
      → HouseRecorded n floor a b m us vs betas manner other seed from to samples s bytes bytes'' work work'' → (s ≡ 13 → ⊥)
      → (r ≡ s) × (bytes' ≡ bytes'')
  house_records_alike {r} {s} {bytes} {bytes'} {bytes''} {work} c h d i =
      let p = c.call.answer in
      let q = d.call.answer in
      let e = arrangements_alike (housed of_recording) (arrangement_of one) (arrangement_of other) (request bytes work) (λ z. h (p ∙ z)) (λ z. i (q ∙ z)) in
      (p ∙ e ∙ sym q, c.call.bytes_are ∙ rw e (sym d.call.bytes_are))
    where
      request : List ℕ → List Float → Request
      request bytes work =
          sweep_request Desk keep_all n floor a b m us vs betas (sampled (free (house_by one)) from to samples) (all_couplings betas (kept_magnitudes a b m))
          (length betas * length (kept_magnitudes a b m)) (other_length (head_for (house_by one) seed from to samples) (length bytes)) (length work)
          (unsound_drawn (house_by one) seed from to samples)

  pub house_record_alone : {bytes bytes' bytes₂ bytes₂' : List ℕ} {work work' work₂ work₂' : List Float}
      → HouseRecorded n floor a b m us vs betas manner one seed from to samples 0 bytes bytes' work work'
      → HouseRecorded n floor a b m us vs betas manner other seed from to samples 0 bytes₂ bytes₂' work₂ work₂' → bytes' ≡ bytes₂'
  house_record_alone c d = record_is c ∙ sym (record_is d)

  -- An accepted house call writes what an accepted call that lends the table's factors writes.
  pub house_record_lent : {bytes bytes' bytes₂ bytes₂' : List ℕ} {work work' work₂ work₂' : List Float}
      → HouseRecorded n floor a b m us vs betas manner one seed from to samples 0 bytes bytes' work work'
      → Recorded n floor a b m us vs betas (table_factors a b m betas) manner other seed from to samples 0 bytes₂ bytes₂' work₂ work₂' → bytes' ≡ bytes₂'
  house_record_lent c d = record_is c ∙ sym (record_is d)
