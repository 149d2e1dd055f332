-- 19, 20 and 12 stand in the one ordered list of checks: what a call answers is the first of them that fits the sheet and the lists.
use Rattle.std.specs.Prelude.{◌≡◌, refl, Bool, true, false, cond, List, ◌⊎◌, ℕ, zero, suc, eqb, ltb, length}
use Rattle.std.proofs.Common.{inl, inr}
use Rattle.refusals.specs.Request.{Sheet, sheet_request}
use Rattle.refusals.specs.Refusal.{refusal, of_sheet}
use Rattle.job_sheet.specs.declared.counts.Reading.{Reading}
use Rattle.job_sheet.specs.Records.{kind_at, bad_record, bad_tail, refusal_at}
use Rattle.job_sheet.specs.Counts.{behind, counted, refused, read_from, counts_of}
use Rattle.job_sheet_lists.specs.Lists.{short_lists, refusal_of}

-- what is wrong with a sheet, as the checks read it
abbrev pub faults_of : List ℕ → Sheet
faults_of sheet = record { broken = eqb (counts_of sheet).refusal 19; tail = eqb (counts_of sheet).refusal 20 }

-- a reader's number
abbrev Told : ℕ → Type 0
Told k = (k ≡ 0) ⊎ ((k ≡ 19) ⊎ (k ≡ 20))

-- the reader refuses by 19 or 20 alone,
at_told : (sheet : List ℕ) (place last : ℕ) → Told (refusal_at sheet place last)
unfolding refusal_at
at_told sheet place last = go (bad_record sheet place last) (bad_tail sheet place)
  where
    go : (broken tail : Bool) → Told (cond broken 19 (cond tail 20 0))
    go true tail = inr (inl refl)
    go false true = inr (inr refl)
    go false false = inl refl

-- and so does a whole reading
read_told : (calls : ℕ) (sheet : List ℕ) (at : Reading) → Told (read_from calls sheet at).refusal
unfolding read_from
read_told zero sheet at = inr (inl refl)
read_told (suc calls) sheet at =
    go (refusal_at sheet at.place at.last) (ltb (kind_at sheet at.place) 5) (at_told sheet at.place at.last)
    (read_told calls sheet (behind at (kind_at sheet at.place)))
  where
    go : (k : ℕ) (on : Bool) → Told k → Told (read_from calls sheet (behind at (kind_at sheet at.place))).refusal
        → Told (cond (eqb k 0) (cond on (read_from calls sheet (behind at (kind_at sheet at.place))) (counted at.edges at.betas at.pairs)) (refused k)).refusal
    go k true (inl e) later = rw e later
    go k false (inl e) later = rw e (inl refl)
    go k on (inr (inl e)) later = rw e (inr (inl refl))
    go k on (inr (inr e)) later = rw e (inr (inr refl))

pub in_order : (sheet a b m betas us vs : List ℕ)
    → refusal_of sheet a b m betas us vs
    ≡ refusal of_sheet (sheet_request (faults_of sheet) (short_lists sheet (length a) (length b) (length m) (length betas) (length us) (length vs)))
unfolding counts_of
in_order sheet a b m betas us vs =
    go (counts_of sheet).refusal (short_lists sheet (length a) (length b) (length m) (length betas) (length us) (length vs)) (read_told _ sheet _)
  where
    go : (k : ℕ) (short : Bool) → Told k → cond (eqb k 0) (cond short 12 0) k ≡ cond (eqb k 19) 19 (cond (eqb k 20) 20 (cond short 12 0))
    go k short (inl e) = rw e
    go k short (inr (inl e)) = rw e
    go k short (inr (inr e)) = rw e
