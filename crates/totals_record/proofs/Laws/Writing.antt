-- Chunk after chunk.
use Rattle.std.specs.Prelude.{◌≡◌, refl, Bool, true, false, cond, not, List, [], ◌∷◌, Float, length, get_or}
use Rattle.std.proofs.Common.{sym, subst, ◌∙◌, mul-zero}
use Rattle.std.proofs.Math.Path.{ap}
use Prim.Native.Nat.{ℕ, zero, suc, ◌+◌, ◌-◌, ◌*◌, ◌≤◌, ◌<◌}
use Rattle.std.proofs.Math.Nat.{add-zero}
use native.Mathlib.Omega.{arith}
use Rattle.std.specs.Float.{nan}
use Rattle.list_laws.specs.Front.{over}
use Rattle.list_laws.proofs.Laws.Front.{over-over}
use Rattle.list_laws.specs.Search.{some}
use Rattle.list_laws.proofs.Laws.Search as Search
use Rattle.transfer_matrix.specs.Job.{Job, Manner}
use Rattle.transfer_matrix.specs.Room.{Arrangement, room}
use Rattle.transfer_matrix.specs.Rounded.{ieee}
use Rattle.transfer_matrix.specs.Totals.{square, fourth}
use Rattle.little_endian.specs.Rows.{rows}
use Rattle.job_run.specs.Zeros.{zeros}
use Rattle.totals_configuration.specs.Powers.{unsound_betas}
use Rattle.totals_configuration.proofs.Laws.Nothing.{none-unsound}
use Rattle.totals_configuration.proofs.Laws.Passing.{one-passed, one_failed}
use Rattle.totals_chunks.specs.declared.Chunks.{Chunks}
use Rattle.totals_chunks.specs.Totals.{drawn_chunks}
use Rattle.totals_call.specs.Jobs.{job_sampled, job_in, unsound_in, totals_in}
use Rattle.totals_call.specs.Finished.{Passed, Finished, TotalsAre}
use Rattle.job_sheet_put.specs.Behind.{Appended}
use Rattle.job_sheet_put.proofs.Laws.Behind.{appended_none, appended_row, no_rows}
use Rattle.run_record.specs.declared.Head.{Head}
use Rattle.run_record.specs.Records.{per_chunk, chunks_of, chunk_rows, record_rows}
use Rattle.run_record.specs.Reading.{row_place}
use Rattle.run_record_put.specs.Listed.{listed_chunk}
use Rattle.run_record_put.proofs.Laws.Rows.{chunk_long, rows_long}
use Rattle.totals_record.specs.Written.{all_of, chunk_of, sums_in, ChunksWritten}

-- work memory of another list as long
pub passed_with : {A : Arrangement} {n w : ℕ} {early late us vs : List ℕ} {factors betas work work' : ℕ} → Passed A n w early late us vs factors betas work
    → work' ≡ work → Passed A n w early late us vs factors betas work'
passed_with g e = rw e g

-- a list of no length
empty : (l : List ℕ) → length l ≡ 0 → l ≡ []
empty [] e = refl
empty (x ∷ l) e = absurd (omega arith)

module _ (n w : ℕ) (early late : List ℕ) (factors : List Float) (manner : Manner) (us vs : List ℕ) (h : Head) where
  -- some Z of chunk c is not finite and above zero
  abbrev bad_chunk : ℕ → Bool
  bad_chunk c = some (λ j. unsound_betas (job_sampled n w early late factors manner h.seed (h.start + c) j) us vs h.betas) h.samples

  -- chunk c alone
  alone-bad : (c : ℕ) → unsound_in n w early late factors manner us vs h.betas (chunk_of h c) ≡ bad_chunk c
  unfolding some
  alone-bad c =
      let one : h.start + c + 1 - (h.start + c) ≡ suc zero = omega arith in
      let z : h.start + c + 0 ≡ h.start + c = add-zero _ in
      ap (some (λ i. some (λ j. unsound_betas (job_sampled n w early late factors manner h.seed (h.start + c + i) j) us vs h.betas) h.samples)) one
      ∙ ap (λ (i : ℕ). some (λ j. unsound_betas (job_sampled n w early late factors manner h.seed i j) us vs h.betas) h.samples) z

  module _ (arrangement : Arrangement) (edges : ℕ) where
    abbrev room_here : ℕ
    room_here = room arrangement n w edges us vs

    -- the first c chunks are written
    pub record Writing (c : ℕ) (squares₀ squares fourths₀ fourths : List Float) (before after : List ℕ) (work work' : List Float) : Type 0 where
      pub below : c ≤ chunks_of h
      pub squareds : length squares ≡ length squares₀
      pub fourthds : length fourths ≡ length fourths₀
      pub memories : length work' ≡ length work
      pub sound : some bad_chunk c ≡ false
      pub written : Appended 32 (rows (chunk_rows h (sums_in n w early late factors manner us vs h (square ieee)) (sums_in n w early late factors manner us vs h (fourth ieee))) c) before after
      pub behind : over (zeros room_here) work' ≡ over (zeros room_here) work

    pub writing_none : (squares fourths : List Float) (bytes : List ℕ) (work : List Float) → Writing 0 squares squares fourths fourths bytes bytes work work
    writing_none squares fourths bytes work = record {
      below = omega arith;
      squareds = refl;
      fourthds = refl;
      memories = refl;
      sound = Search.start _;
      written = no_rows _ 32 bytes;
      behind = refl;
    }

    over-again : (work work' work'' : List Float) → work'' ≡ over (zeros room_here) work' → over (zeros room_here) work' ≡ over (zeros room_here) work
        → over (zeros room_here) work'' ≡ over (zeros room_here) work
    over-again work work' work'' e q = ap (over (zeros room_here)) e ∙ over-over (zeros room_here) (zeros room_here) work' refl ∙ q

    module _ {c : ℕ} {squares₀ squares fourths₀ fourths : List Float} {before after : List ℕ} {work work' : List Float}
        (g : Writing c squares₀ squares fourths₀ fourths before after work work') (l : c < chunks_of h) {r : Bool} {squares' fourths' work'' : List Float}
        (t : TotalsAre n w early late factors manner us vs h.betas (chunk_of h c) arrangement edges r squares' fourths' work' work'') where
      verdict : r ≡ not (bad_chunk c)
      verdict = t.squares_are.verdict ∙ ap not (alone-bad c)

      -- one more
      pub writing_more : {after' : List ℕ} → r ≡ true → length squares' ≡ length squares → length fourths' ≡ length fourths → length work'' ≡ length work'
          → Appended (row_place h c 0) (listed_chunk h c squares' fourths') after after'
          → Writing (c + 1) squares₀ squares' fourths₀ fourths' before after' work work''
      writing_more {after'} e p q m a =
          let S = totals_in n w early late factors manner us vs h.betas (chunk_of h c) (square ieee) in
          let F = totals_in n w early late factors manner us vs h.betas (chunk_of h c) (fourth ieee) in
          let s : squares' ≡ S = t.squares_are.values ∙ ap (λ (x : Bool). cond x S (zeros (h.betas * length us))) e in
          let f : fourths' ≡ F = t.fourths_are.values ∙ ap (λ (x : Bool). cond x F (zeros (h.betas * length us))) e in
          let k : row_place h c 0 ≡ 32 + 28 * per_chunk h * c = omega arith in
          let b : Appended (32 + 28 * per_chunk h * c) (listed_chunk h c S F) after after' =
          subst (λ (at : ℕ). Appended at (listed_chunk h c S F) after after') k
          (subst (λ (x : List Float). Appended (row_place h c 0) (listed_chunk h c S x) after after') f
          (subst (λ (x : List Float). Appended (row_place h c 0) (listed_chunk h c x fourths') after after') s a)) in
          record {
            below = omega arith;
            squareds = p ∙ g.squareds;
            fourthds = q ∙ g.fourthds;
            memories = m ∙ g.memories;
            sound = one-passed bad_chunk c r verdict g.sound e;
            written = appended_row _ (28 * per_chunk h)
                (chunk_long h (sums_in n w early late factors manner us vs h (square ieee)) (sums_in n w early late factors manner us vs h (fourth ieee))) 32 c g.written b;
            behind = over-again work work' work'' t.memory g.behind;
          }

      -- where some Z of chunk c is not sound
      pub not_written : {after' : List ℕ} → r ≡ false
          → ChunksWritten n w early late factors manner us vs h arrangement edges false before after' work work''
      not_written e = record {
        verdict = one_failed bad_chunk c r verdict (chunks_of h) l e;
        written = λ z. absurd (no z);
        behind = over-again work work' work'' t.memory g.behind;
      }
        where
          no : false ≡ true → ⊥
          no z = let z' : ◌≡◌ {A = ℕ} 0 1 = cc in omega arith

    -- all of them
    pub all-written : {c : ℕ} {squares₀ squares fourths₀ fourths : List Float} {before after : List ℕ} {work work' : List Float} → c ≡ chunks_of h
        → Writing c squares₀ squares fourths₀ fourths before after work work'
        → ChunksWritten n w early late factors manner us vs h arrangement edges true before after work work'
    all-written {before = before} {after = after} e g = record {
      verdict = sym (ap not (rw e at g.sound));
      written = λ _. subst (λ (k : ℕ). Appended 32 (rows (chunk_rows h (sums_in n w early late factors manner us vs h (square ieee)) (sums_in n w early late factors manner us vs h (fourth ieee))) k) before after) e g.written;
      behind = g.behind;
    }

    -- no row to write
    pub none_written : (bytes : List ℕ) (work : List Float) → h.pairs ≡ length us → per_chunk h ≡ 0
        → ChunksWritten n w early late factors manner us vs h arrangement edges true bytes bytes work work
    none_written bytes work p z =
        let S = sums_in n w early late factors manner us vs h (square ieee) in
        let F = sums_in n w early late factors manner us vs h (fourth ieee) in
        let none : record_rows h S F ≡ [] = empty (record_rows h S F) (rows_long h S F (chunks_of h) ∙ ap (λ (k : ℕ). 28 * (chunks_of h * k)) z ∙ omega arith) in
        record {
          verdict = sym (ap not (Search.none_of _ (chunks_of h) (λ i _. Search.none_of _ h.samples (λ j _. none-unsound (job_in n w early late factors manner (all_of h) (h.start + i) j) us vs h.betas (ap (λ (k : ℕ). h.betas * k) (sym p) ∙ z)))));
          written = λ _. subst (λ (l : List ℕ). Appended 32 l bytes bytes) (sym none) (appended_none 32 bytes);
          behind = refl;
        }
