-- The grammar of a sheet, apart from any reader: exactly one kind 1 first, then all 2, all 3, all 4, then 5 with nothing behind it.
use Rattle.std.specs.Prelude.{◌≡◌, cond, List, ℕ, ◌+◌, ◌*◌, ◌<◌, ltb, length}
use Rattle.job_sheet.specs.Records.{kind_at}
use Rattle.job_sheet.specs.Counts.{SheetCounts, counted, refused}

-- where the records of each kind stand
abbrev pub edge_place : (i : ℕ) → ℕ
edge_place i = 4 + 13 * i

abbrev pub beta_place : (edges i : ℕ) → ℕ
beta_place edges i = edge_place edges + 9 * i

abbrev pub pair_place : (edges betas i : ℕ) → ℕ
pair_place edges betas i = beta_place edges betas + 5 * i

abbrev pub end_place : (edges betas pairs : ℕ) → ℕ
end_place edges betas pairs = pair_place edges betas pairs

-- the length of a sheet
abbrev pub sheet_length : (edges betas pairs : ℕ) → ℕ
sheet_length edges betas pairs = end_place edges betas pairs + 1

-- A sheet of so many edges, betas and pairs stands at the front of the bytes,
pub record Front (bytes : List ℕ) (edges betas pairs : ℕ) : Type 0 where
  pub first : kind_at bytes 0 ≡ 1
  pub edge : (i : ℕ) → i < edges → kind_at bytes (edge_place i) ≡ 2
  pub beta : (i : ℕ) → i < betas → kind_at bytes (beta_place edges i) ≡ 3
  pub pair : (i : ℕ) → i < pairs → kind_at bytes (pair_place edges betas i) ≡ 4
  pub end : kind_at bytes (end_place edges betas pairs) ≡ 5

-- and nothing behind it.
pub record Sheet (bytes : List ℕ) (edges betas pairs : ℕ) : Type 0 where
  pub front : Front bytes edges betas pairs
  pub size : length bytes ≡ sheet_length edges betas pairs

-- What the reader tells of bytes with a sheet at their front: its numbers of records or, where bytes are behind it, 20.
abbrev pub told_of : List ℕ → (edges betas pairs : ℕ) → SheetCounts
told_of bytes edges betas pairs = cond (ltb (sheet_length edges betas pairs) (length bytes)) (refused 20) (counted edges betas pairs)
