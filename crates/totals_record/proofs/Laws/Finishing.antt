-- A whole record, and a room that is cleared.
use Rattle.std.specs.Prelude.{◌≡◌, refl, Bool, true, false, cond, not, List, [], ◌++◌, ℕ, ◌+◌, ◌*◌, ◌≤◌, Float, length, take, drop, replicate}
use Rattle.std.proofs.Common.{sym, ap, subst, ◌∙◌, append-nil, zero-add, arith, drop_of_length-le, length-take-le}
use Rattle.std.proofs.lemmas.List.{length-replicate}
use Rattle.list_laws.specs.Front.{over}
use Rattle.transfer_matrix.specs.Job.{Manner}
use Rattle.transfer_matrix.specs.Room.{Arrangement, room}
use Rattle.transfer_matrix.specs.Rounded.{ieee}
use Rattle.transfer_matrix.specs.Totals.{square, fourth}
use Rattle.job_run.specs.Zeros.{zeros}
use Rattle.totals_call.specs.Finished.{Passed}
use Rattle.totals_call.proofs.Laws.Staging.{few-sums}
use Rattle.job_sheet_put.specs.Behind.{Appended}
use Rattle.job_sheet_put.proofs.Laws.Behind.{appended_then, appended_all}
use Rattle.run_record.specs.declared.Head.{Head}
use Rattle.run_record.specs.Records.{head_bytes, per_chunk, record_length, record_rows, record_of}
use Rattle.run_record_put.proofs.Laws.Rows.{head-long, record_long}
use Rattle.totals_record.specs.Written.{zero_bytes, sums_in, record_in, RecordIs, ChunksWritten}

-- a front as long as the buffer is all of it
over-all : {A : Type 0} (front buffer : List A) → length front ≡ length buffer → over front buffer ≡ front
over-all front buffer e = ap (λ (l : List _). front ++ l) (drop_of_length-le buffer {i = length front} (omega arith)) ∙ append-nil front

-- head and rows are the record
pub whole_record : (h : Head) (squares fourths : (chunk place : ℕ) → Float) {bytes bytes₁ bytes₂ : List ℕ} → length bytes ≡ record_length h
    → Appended 0 (head_bytes h) bytes bytes₁ → Appended 32 (record_rows h squares fourths) bytes₁ bytes₂ → bytes₂ ≡ record_of h squares fourths
whole_record h squares fourths {bytes} long p q =
    let R = record_of h squares fourths in
    let k = record_long h squares fourths in
    appended_all (omega (arith, k, long)) (appended_then 32 (sym (zero-add _ ∙ head-long h)) p q) ∙ over-all R bytes (k ∙ sym long)

-- what is left of the work memory
pub room-cleared : (end size : ℕ) (work work' room' : List Float) → end ≡ size → end ≤ length work' → room' ≡ zeros (length (take end work'))
    → over (zeros size) work' ≡ over (zeros size) work → room' ++ drop end work' ≡ over (zeros size) work
room-cleared end size work work' room' e l z q =
    let t = length-take-le end work' l in
    let k : length (zeros size) ≡ end = length-replicate _ _ ∙ sym e in
    ap (λ (r : List Float). r ++ drop end work') (z ∙ ap zeros (t ∙ e)) ∙ ap (λ (j : ℕ). zeros size ++ drop j work') (sym k) ∙ q

module _ (n w : ℕ) (early late : List ℕ) (factors : List Float) (manner : Manner) (us vs : List ℕ) (h : Head) (arrangement : Arrangement) (edges : ℕ) {r : Bool}
    {bytes bytes₁ bytes₂ : List ℕ} {work work' work'' : List Float} (long : length bytes ≡ record_length h) (p : Appended 0 (head_bytes h) bytes bytes₁)
    (g : ChunksWritten n w early late factors manner us vs h arrangement edges r bytes₁ bytes₂ work work')
    (m : work'' ≡ over (zeros (room arrangement n w edges us vs)) work) where
  -- every Z was finite and above zero
  pub recorded : r ≡ true → RecordIs n w early late factors manner us vs h arrangement edges r bytes₂ work work''
  recorded e =
      let R = record_in n w early late factors manner us vs h in
      let q : bytes₂ ≡ R = whole_record h (sums_in n w early late factors manner us vs h (square ieee)) (sums_in n w early late factors manner us vs h (fourth ieee)) long p (g.written e) in
      record { verdict = g.verdict; bytes_are = q ∙ ap (λ (x : Bool). cond x R (zero_bytes (record_length h))) (sym e); memory = m }

  -- or one was not
  pub wiped : {bytes₃ : List ℕ} → r ≡ false → length bytes₂ ≡ length bytes₁ → bytes₃ ≡ zero_bytes (length bytes₂)
      → RecordIs n w early late factors manner us vs h arrangement edges r bytes₃ work work''
  wiped e l z =
      let R = record_in n w early late factors manner us vs h in
      record {
        verdict = g.verdict;
        bytes_are = z ∙ ap zero_bytes (l ∙ p.size ∙ long) ∙ ap (λ (x : Bool). cond x R (zero_bytes (record_length h))) (sym e);
        memory = m;
      }

-- a sum for each beta and pair
pub record_sums : {A : Arrangement} {n w : ℕ} {early late us vs : List ℕ} {factors work : ℕ} (h : Head) → Passed A n w early late us vs factors h.betas work → h.pairs ≡ length us
    → per_chunk h ≤ 16384
record_sums h g e = omega (arith, ap (λ (k : ℕ). h.betas * k) e, few-sums g)
