-- A job as a sheet has it, the bytes of its sheet, and the job that stands in some bytes.
use Rattle.std.specs.Prelude.{◌≡◌, List, [], ◌∷◌, ◌++◌, ℕ, ◌+◌, ◌^◌, ◌<◌, Float, length, get_or}
use Rattle.std.specs.Float.{nan, binary64}
use Rattle.std.specs.Float.Ieee.{of_bits, to_bits}
use Rattle.list_laws.specs.Tabulate.{tabulate}
use Rattle.little_endian.specs.Words.{word_at, bytes_of}
use Rattle.little_endian.specs.Rows.{rows}
use Rattle.job_sheet.specs.Counts.{counts_of}
use Rattle.job_sheet.specs.Sheets.{edge_place, beta_place, pair_place}

-- A job, its doubles by their bits: raw edges and pairs in their order and direction.
pub record Job : Type 0 where
  pub vertices : ℕ
  pub floor : ℕ
  pub ones : List ℕ
  pub others : List ℕ
  pub magnitudes : List ℕ
  pub betas : List ℕ
  pub firsts : List ℕ
  pub seconds : List ℕ

-- Lists of one kind have one length, and every number fits its field.
pub record Fits (j : Job) : Type 0 where
  pub vertices : j.vertices < 256 ^ 2
  pub floor : j.floor < 256 ^ 1
  pub ends : length j.others ≡ length j.ones
  pub sized : length j.magnitudes ≡ length j.ones
  pub paired : length j.seconds ≡ length j.firsts
  pub ones : (i : ℕ) → get_or j.ones i 0 < 256 ^ 2
  pub others : (i : ℕ) → get_or j.others i 0 < 256 ^ 2
  pub magnitudes : (i : ℕ) → get_or j.magnitudes i 0 < 256 ^ 8
  pub betas : (i : ℕ) → get_or j.betas i 0 < 256 ^ 8
  pub firsts : (i : ℕ) → get_or j.firsts i 0 < 256 ^ 2
  pub seconds : (i : ℕ) → get_or j.seconds i 0 < 256 ^ 2

-- the bytes of a record of each kind
abbrev pub size_record : (vertices floor : ℕ) → List ℕ
size_record vertices floor = 1 ∷ (bytes_of 2 vertices ++ bytes_of 1 floor)

abbrev pub edge_record : (a b bits : ℕ) → List ℕ
edge_record a b bits = 2 ∷ (bytes_of 2 a ++ bytes_of 2 b ++ bytes_of 8 bits)

abbrev pub beta_record : (bits : ℕ) → List ℕ
beta_record bits = 3 ∷ bytes_of 8 bits

abbrev pub pair_record : (u v : ℕ) → List ℕ
pair_record u v = 4 ∷ (bytes_of 2 u ++ bytes_of 2 v)

abbrev pub end_record : List ℕ
end_record = 5 ∷ []

-- the records of each kind, by index
abbrev pub edge_rows : (ones others magnitudes : List ℕ) → ℕ → List ℕ
edge_rows ones others magnitudes i = edge_record (get_or ones i 0) (get_or others i 0) (get_or magnitudes i 0)

abbrev pub beta_rows : (betas : List ℕ) → ℕ → List ℕ
beta_rows betas i = beta_record (get_or betas i 0)

abbrev pub pair_rows : (firsts seconds : List ℕ) → ℕ → List ℕ
pair_rows firsts seconds i = pair_record (get_or firsts i 0) (get_or seconds i 0)

-- The sheet of a job.
unfoldable pub sheet_of : Job → List ℕ
sheet_of j =
    size_record j.vertices j.floor
    ++ rows (edge_rows j.ones j.others j.magnitudes) (length j.ones)
    ++ rows (beta_rows j.betas) (length j.betas)
    ++ rows (pair_rows j.firsts j.seconds) (length j.firsts)
    ++ end_record

-- The job that stands in the bytes of a sheet of so many edges, betas and pairs.
unfoldable pub job_in : List ℕ → (edges betas pairs : ℕ) → Job
job_in bytes edges betas pairs = record {
  vertices = word_at bytes 1 2;
  floor = word_at bytes 3 1;
  ones = tabulate (λ i. word_at bytes (edge_place i + 1) 2) edges;
  others = tabulate (λ i. word_at bytes (edge_place i + 3) 2) edges;
  magnitudes = tabulate (λ i. word_at bytes (edge_place i + 5) 8) edges;
  betas = tabulate (λ i. word_at bytes (beta_place edges i + 1) 8) betas;
  firsts = tabulate (λ i. word_at bytes (pair_place edges betas i + 1) 2) pairs;
  seconds = tabulate (λ i. word_at bytes (pair_place edges betas i + 3) 2) pairs;
}

-- The job of a sheet, by the numbers of records that the reader tells.
unfoldable pub job_of : List ℕ → Job
job_of bytes = let c = counts_of bytes in job_in bytes c.edges c.betas c.pairs

-- the bits of doubles, one pattern for every NaN, and the doubles of bits
unfoldable pub bits_of : List Float → List ℕ
bits_of xs = tabulate (λ i. to_bits binary64 (get_or xs i nan)) (length xs)

unfoldable pub doubles_of : List ℕ → List Float
doubles_of bits = tabulate (λ i. of_bits binary64 (get_or bits i 0)) (length bits)

-- The job that a caller hands in, in the lists' order.
abbrev pub given : (n floor : ℕ) → (a b : List ℕ) → List Float → (us vs : List ℕ) → List Float → Job
given n floor a b m us vs betas = record {
  vertices = n;
  floor = floor;
  ones = a;
  others = b;
  magnitudes = bits_of m;
  betas = bits_of betas;
  firsts = us;
  seconds = vs;
}
