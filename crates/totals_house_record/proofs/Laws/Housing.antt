-- A house call as a record's head has it.
use Rattle.std.specs.Prelude.{◌≡◌, Bool, List, ℕ, ◌*◌, ◌≤◌, Float, length}
use Rattle.std.proofs.Common.{sym, ap, subst, arith}
use Rattle.transfer_matrix.specs.Job.{Manner}
use Rattle.transfer_matrix.specs.Room.{Arrangement}
use Rattle.totals_chunks.specs.declared.Chunks.{Chunks}
use Rattle.totals_call.specs.Finished.{TotalsAre}
use Rattle.totals_call.proofs.Laws.Entering.{few-products}
use Rattle.totals_house_betas.specs.Betas.{HousePassed}
use Rattle.run_record.specs.declared.Head.{Head}
use Rattle.run_record.specs.Records.{per_chunk}

-- work memory of another list as long
pub passed_with : {A : Arrangement} {n w : ℕ} {early late us vs : List ℕ} {mag betas : List Float} {work work' : ℕ} → HousePassed A n w early late us vs mag betas work
    → work' ≡ work → HousePassed A n w early late us vs mag betas work'
passed_with g e = rw e g

-- the betas by their number
pub totals_with : (n w : ℕ) (early late : List ℕ) (factors : List Float) (manner : Manner) (us vs : List ℕ) (betas betas' : ℕ) (k : Chunks) (A : Arrangement) (edges : ℕ)
    {r : Bool} {squares fourths work work' : List Float} → betas' ≡ betas → TotalsAre n w early late factors manner us vs betas k A edges r squares fourths work work'
    → TotalsAre n w early late factors manner us vs betas' k A edges r squares fourths work work'
totals_with n w early late factors manner us vs betas betas' k A edges {r} {squares} {fourths} {work} {work'} e g =
    subst (λ (b : ℕ). TotalsAre n w early late factors manner us vs b k A edges r squares fourths work work') (sym e) g

-- a sum for each beta and pair
pub record_sums : {A : Arrangement} {n w : ℕ} {early late us vs : List ℕ} {mag betas : List Float} {work : ℕ} (h : Head) → HousePassed A n w early late us vs mag betas work
    → h.betas ≡ length betas → h.pairs ≡ length us → per_chunk h ≤ 16384
record_sums h g e f = few-products h.betas h.pairs (omega (arith, g.few-betas, e)) (omega (arith, g.job.few-pairs, f))
