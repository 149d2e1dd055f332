-- The sheet of the job that is read from a sheet is that sheet.
use Rattle.std.specs.Prelude.{◌≡◌, refl, List, [], ℕ, ◌+◌, ◌*◌, ◌^◌, ◌<◌, length, get_or, ltb, Bool, true, false}
use Rattle.std.proofs.Math.Path.{sym}
use Rattle.std.proofs.Common.{◌∙◌, arith, ltb-true, ltb-false}
use Rattle.std.proofs.Math.ListN.{get_or-eq_default}
use Rattle.list_laws.specs.Tabulate.{tabulate}
use Rattle.list_laws.proofs.Laws.Tabulate.{tabulate-length, tabulate-at}
use Rattle.little_endian.specs.Words.{Bytes, word_at}
use Rattle.little_endian.specs.Rows.{Stand}
use Rattle.little_endian.proofs.Laws.Words.{word-at-below}
use Rattle.little_endian.proofs.Laws.Rows.{stand_none, stand_byte, stand_all, rows_stand}
use Rattle.job_sheet.specs.Sheets.{edge_place, beta_place, pair_place, end_place, Sheet}
use Rattle.job_sheet_bytes.specs.Jobs.{Fits, edge_rows, beta_rows, pair_rows, sheet_of, job_in}
use Rattle.job_sheet_bytes.proofs.Laws.Bytes.{Laid, edge-length, beta-length, pair-length, size-stands, edge-stands, beta-stands, pair-stands, sheet-stands, sheet-length}

module _ (bytes : List ℕ) (edges betas pairs : ℕ) where
  -- the parts of the job, by index
  module _ (i : ℕ) (h : i < edges) where
    one_at : get_or (job_in bytes edges betas pairs).ones i 0 ≡ word_at bytes (edge_place i + 1) 2
    unfolding job_in
    one_at = tabulate-at _ edges i 0 h

    other_at : get_or (job_in bytes edges betas pairs).others i 0 ≡ word_at bytes (edge_place i + 3) 2
    unfolding job_in
    other_at = tabulate-at _ edges i 0 h

    magnitude-at : get_or (job_in bytes edges betas pairs).magnitudes i 0 ≡ word_at bytes (edge_place i + 5) 8
    unfolding job_in
    magnitude-at = tabulate-at _ edges i 0 h

  beta-at : (i : ℕ) → i < betas → get_or (job_in bytes edges betas pairs).betas i 0 ≡ word_at bytes (beta_place edges i + 1) 8
  unfolding job_in
  beta-at i h = tabulate-at _ betas i 0 h

  module _ (i : ℕ) (h : i < pairs) where
    first-at : get_or (job_in bytes edges betas pairs).firsts i 0 ≡ word_at bytes (pair_place edges betas i + 1) 2
    unfolding job_in
    first-at = tabulate-at _ pairs i 0 h

    second_at : get_or (job_in bytes edges betas pairs).seconds i 0 ≡ word_at bytes (pair_place edges betas i + 3) 2
    unfolding job_in
    second_at = tabulate-at _ pairs i 0 h

  -- its lengths
  pub ones-length : length (job_in bytes edges betas pairs).ones ≡ edges
  unfolding job_in
  ones-length = tabulate-length _ edges

  others-length : length (job_in bytes edges betas pairs).others ≡ edges
  unfolding job_in
  others-length = tabulate-length _ edges

  magnitudes-length : length (job_in bytes edges betas pairs).magnitudes ≡ edges
  unfolding job_in
  magnitudes-length = tabulate-length _ edges

  pub betas-length : length (job_in bytes edges betas pairs).betas ≡ betas
  unfolding job_in
  betas-length = tabulate-length _ betas

  pub firsts-length : length (job_in bytes edges betas pairs).firsts ≡ pairs
  unfolding job_in
  firsts-length = tabulate-length _ pairs

  seconds-length : length (job_in bytes edges betas pairs).seconds ≡ pairs
  unfolding job_in
  seconds-length = tabulate-length _ pairs

  module _ (b : Bytes bytes) (s : Sheet bytes edges betas pairs) where
    edge-is : (i : ℕ) → i < edges
        → Stand bytes (4 + 13 * i) (edge_rows (job_in bytes edges betas pairs).ones (job_in bytes edges betas pairs).others (job_in bytes edges betas pairs).magnitudes i)
    edge-is i h =
        let z = s.size in
        rw (one_at i h, other_at i h, magnitude-at i h) (edge-stands bytes b (edge_place i) (omega arith) (s.front.edge i h))

    beta-is : (i : ℕ) → i < betas → Stand bytes (edge_place edges + 9 * i) (beta_rows (job_in bytes edges betas pairs).betas i)
    beta-is i h =
        let z = s.size in
        rw (beta-at i h) (beta-stands bytes b (beta_place edges i) (omega arith) (s.front.beta i h))

    pair_is : (i : ℕ) → i < pairs
        → Stand bytes (beta_place edges betas + 5 * i) (pair_rows (job_in bytes edges betas pairs).firsts (job_in bytes edges betas pairs).seconds i)
    pair_is i h =
        let z = s.size in
        rw (first-at i h, second_at i h) (pair-stands bytes b (pair_place edges betas i) (omega arith) (s.front.pair i h))

    size_is : Stand bytes 0 (Rattle.job_sheet_bytes.specs.Jobs.size_record (job_in bytes edges betas pairs).vertices (job_in bytes edges betas pairs).floor)
    unfolding job_in
    size_is = let z = s.size in size-stands bytes b (omega arith) s.front.first

    laid_in : Laid bytes (job_in bytes edges betas pairs)
    laid_in =
        let z = s.size in
        record {
          size = size_is;
          edge = rows_stand bytes _ 13 (λ i. edge-length _ _ _) 4 _ (λ i h. edge-is i (omega (arith, ones-length)));
          beta = rw ones-length (rows_stand bytes _ 9 (λ i. beta-length _) (edge_place edges) _ (λ i h. beta-is i (omega (arith, betas-length))));
          pair = rw (ones-length, betas-length) (rows_stand bytes _ 5 (λ i. pair-length _ _) (beta_place edges betas) _ (λ i h. pair_is i (omega (arith, firsts-length))));
          end =
              rw (ones-length, betas-length, firsts-length)
              (stand_byte bytes (end_place edges betas pairs) 5 [] (omega arith) s.front.end (stand_none bytes _));
        }

    pub written-again : sheet_of (job_in bytes edges betas pairs) ≡ bytes
    written-again =
        let z = s.size in
        sym (stand_all bytes (sheet_of (job_in bytes edges betas pairs))
        (sheet-length (job_in bytes edges betas pairs) ∙ omega (arith, ones-length, betas-length, firsts-length))
        (sheet-stands (job_in bytes edges betas pairs) bytes laid_in))

    -- a number that is read fits its field
    fits_in : (f : ℕ → ℕ) (n width : ℕ) → 0 < 256 ^ width → ((i : ℕ) → i < n → f i < 256 ^ width) → (i : ℕ) → get_or (tabulate f n) i 0 < 256 ^ width
    fits_in f n width z h i = go (ltb i n) refl
      where
        go : (t : Bool) → ltb i n ≡ t → get_or (tabulate f n) i 0 < 256 ^ width
        go true e = omega (arith, tabulate-at f n i 0 (ltb-true i n e), h i (ltb-true i n e))
        go false e =
            omega (arith, get_or-eq_default (tabulate f n) 0 {n = i} (omega (arith, tabulate-length f n, ltb-false i n e)))

    pub fits_read : Fits (job_in bytes edges betas pairs)
    unfolding job_in
    fits_read =
        let z = s.size in
        record {
          vertices = word-at-below bytes 1 2 b (omega arith);
          floor = word-at-below bytes 3 1 b (omega arith);
          ends = others-length ∙ sym ones-length;
          sized = magnitudes-length ∙ sym ones-length;
          paired = seconds-length ∙ sym firsts-length;
          ones = fits_in _ edges 2 (omega arith) (λ i h. word-at-below bytes (edge_place i + 1) 2 b (omega arith));
          others = fits_in _ edges 2 (omega arith) (λ i h. word-at-below bytes (edge_place i + 3) 2 b (omega arith));
          magnitudes = fits_in _ edges 8 (omega arith) (λ i h. word-at-below bytes (edge_place i + 5) 8 b (omega arith));
          betas = fits_in _ betas 8 (omega arith) (λ i h. word-at-below bytes (beta_place edges i + 1) 8 b (omega arith));
          firsts = fits_in _ pairs 2 (omega arith) (λ i h. word-at-below bytes (pair_place edges betas i + 1) 2 b (omega arith));
          seconds = fits_in _ pairs 2 (omega arith) (λ i h. word-at-below bytes (pair_place edges betas i + 3) 2 b (omega arith));
        }
