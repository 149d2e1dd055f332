-- Bytes written behind what stands at the front of a buffer.
use Rattle.std.specs.Prelude.{◌≡◌, List, ◌++◌, ℕ, ◌+◌, ◌≤◌, Float, length, get_or}
use Rattle.std.specs.Float.{nan, binary64}
use Rattle.std.specs.Float.Ieee.{to_bits}
use Rattle.list_laws.specs.Front.{over}
use Rattle.job_sheet.specs.Sheets.{sheet_length}
use Rattle.job_sheet_bytes.specs.Jobs.{edge_record, beta_record, pair_record}

-- A buffer with a front as long as the place has these bytes behind that front, and what lies past them stays.
pub record Appended (place : ℕ) (these before after : List ℕ) : Type 0 where
  pub size : length after ≡ length before
  pub behind : (front buffer : List ℕ) → length front ≡ place → place + length these ≤ length buffer → before ≡ over front buffer
      → after ≡ over (front ++ these) buffer

-- the records of lists as they are lent
abbrev pub raw_edge : (a b : List ℕ) → List Float → ℕ → List ℕ
raw_edge a b m i = edge_record (get_or a i 0) (get_or b i 0) (to_bits binary64 (get_or m i nan))

abbrev pub raw_beta : List Float → ℕ → List ℕ
raw_beta betas i = beta_record (to_bits binary64 (get_or betas i nan))

abbrev pub raw_pair : (us vs : List ℕ) → ℕ → List ℕ
raw_pair us vs i = pair_record (get_or us i 0) (get_or vs i 0)

-- lists of one kind have one length, and their sheet fits the buffer
pub record Room (sheet : List ℕ) (a b : List ℕ) (m : List Float) (us vs : List ℕ) (betas : List Float) : Type 0 where
  pub ends : length b ≡ length a
  pub sized : length m ≡ length a
  pub paired : length vs ≡ length us
  pub long : sheet_length (length a) (length betas) (length us) ≤ length sheet
