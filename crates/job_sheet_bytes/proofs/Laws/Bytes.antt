-- What stands where in a sheet.
use Rattle.std.specs.Prelude.{◌≡◌, ℕ, ◌+◌, ◌*◌, ◌^◌, ◌≤◌, ◌<◌, length}
use Rattle.std.proofs.Common.{sym, ap, subst, ◌∙◌, zero-add, arith}
use mathlib.Core.List.{List, [], ◌∷◌, ◌++◌}
use Rattle.std.proofs.Math.ListN.{length-append}
use Rattle.little_endian.specs.Words.{Bytes, word_at, bytes_of}
use Rattle.little_endian.specs.Rows.{rows, Stand}
use Rattle.little_endian.proofs.Laws.Words.{bytes_of-length}
use Rattle.little_endian.proofs.Laws.Rows.{stand_both, stand_left, stand_right, stand_first, stand_rest, stand_byte, field_read, field_stands, rows-length}
use Rattle.job_sheet.specs.Records.{kind_at}
use Rattle.job_sheet.specs.Sheets.{edge_place, beta_place, end_place, sheet_length}
use Rattle.job_sheet_bytes.specs.Jobs.{Job, size_record, edge_record, beta_record, pair_record, end_record, edge_rows, beta_rows, pair_rows, sheet_of}

-- ---- the lengths

pub two-lengths : (k l x y : ℕ) → length (bytes_of k x ++ bytes_of l y) ≡ k + l
two-lengths k l x y = length-append (bytes_of k x) (bytes_of l y) ∙ omega (arith, bytes_of-length k x, bytes_of-length l y)

pub size-length : (n floor : ℕ) → length (size_record n floor) ≡ 4
size-length n floor = simp (length-append, bytes_of-length) (omega arith)

pub edge-length : (a b bits : ℕ) → length (edge_record a b bits) ≡ 13
edge-length a b bits =
    omega (arith, length-append (bytes_of 2 a ++ bytes_of 2 b) (bytes_of 8 bits), two-lengths 2 2 a b, bytes_of-length 8 bits)

pub beta-length : (bits : ℕ) → length (beta_record bits) ≡ 9
beta-length bits = omega (arith, bytes_of-length 8 bits)

pub pair-length : (u v : ℕ) → length (pair_record u v) ≡ 5
pair-length u v = omega (arith, two-lengths 2 2 u v)

module _ (bytes : List ℕ) where
  -- ---- the fields behind a kind, read from its record

  at_place : {m n : ℕ} (t : List ℕ) → m ≡ n → Stand bytes m t → Stand bytes n t
  at_place t e = subst (λ (k : ℕ). Stand bytes k t) e

  pub one_read : (at kind k x : ℕ) → x < 256 ^ k → Stand bytes at (kind ∷ bytes_of k x) → (kind_at bytes at ≡ kind) × (word_at bytes (at + 1) k ≡ x)
  one_read at kind k x p s = (stand_first bytes at kind _ s, field_read bytes (at + 1) k x p (stand_rest bytes at kind _ s))

  -- the last field, behind so many bytes
  pub last_read : (at size : ℕ) (t : List ℕ) (k x : ℕ) → length t ≡ size → x < 256 ^ k → Stand bytes at (t ++ bytes_of k x) → word_at bytes (at + size) k ≡ x
  last_read at size t k x e p s = field_read bytes (at + size) k x p (at_place _ (ap (λ (n : ℕ). at + n) e) (stand_right bytes at t (bytes_of k x) s))

  -- ---- a record, from its kind and its fields

  module _ (b : Bytes bytes) where
    one-stands : (at kind k : ℕ) → at + 1 + k ≤ length bytes → kind_at bytes at ≡ kind → Stand bytes at (kind ∷ bytes_of k (word_at bytes (at + 1) k))
    one-stands at kind k h e = stand_byte bytes at kind _ (omega arith) e (field_stands bytes (at + 1) k b h)

    last-stands : (at size : ℕ) (t : List ℕ) (k : ℕ) → length t ≡ size → at + size + k ≤ length bytes → Stand bytes at t
        → Stand bytes at (t ++ bytes_of k (word_at bytes (at + size) k))
    last-stands at size t k e h s =
        stand_both bytes at t _ s (at_place _ (ap (λ (n : ℕ). at + n) (sym e)) (field_stands bytes (at + size) k b h))

    pub size-stands : 4 ≤ length bytes → kind_at bytes 0 ≡ 1 → Stand bytes 0 (size_record (word_at bytes 1 2) (word_at bytes 3 1))
    size-stands h e = last-stands 0 3 (1 ∷ bytes_of 2 (word_at bytes 1 2)) 1 (omega (arith, bytes_of-length 2 (word_at bytes 1 2))) (omega arith) (one-stands 0 1 2 (omega arith) e)

    module _ (at : ℕ) where
      pub edge-stands : at + 13 ≤ length bytes → kind_at bytes at ≡ 2
          → Stand bytes at (edge_record (word_at bytes (at + 1) 2) (word_at bytes (at + 3) 2) (word_at bytes (at + 5) 8))
      edge-stands h e =
          let x = word_at bytes (at + 1) 2 in
          let y = word_at bytes (at + 3) 2 in
          last-stands at 5 (2 ∷ (bytes_of 2 x ++ bytes_of 2 y)) 8 (omega (arith, two-lengths 2 2 x y)) (omega arith)
          (last-stands at 3 (2 ∷ bytes_of 2 x) 2 (omega (arith, bytes_of-length 2 x)) (omega arith) (one-stands at 2 2 (omega arith) e))

      pub beta-stands : at + 9 ≤ length bytes → kind_at bytes at ≡ 3 → Stand bytes at (beta_record (word_at bytes (at + 1) 8))
      beta-stands h e = one-stands at 3 8 (omega arith) e

      pub pair-stands : at + 5 ≤ length bytes → kind_at bytes at ≡ 4 → Stand bytes at (pair_record (word_at bytes (at + 1) 2) (word_at bytes (at + 3) 2))
      pair-stands h e =
          let x = word_at bytes (at + 1) 2 in
          last-stands at 3 (4 ∷ bytes_of 2 x) 2 (omega (arith, bytes_of-length 2 x)) (omega arith) (one-stands at 4 2 (omega arith) e)

  -- ---- the parts of a sheet

  -- where a sheet of this job stands, each record stands at its place
  pub record Laid (j : Job) : Type 0 where
    pub size : Stand bytes 0 (size_record j.vertices j.floor)
    pub edge : Stand bytes 4 (rows (edge_rows j.ones j.others j.magnitudes) (length j.ones))
    pub beta : Stand bytes (edge_place (length j.ones)) (rows (beta_rows j.betas) (length j.betas))
    pub pair : Stand bytes (beta_place (length j.ones) (length j.betas)) (rows (pair_rows j.firsts j.seconds) (length j.firsts))
    pub end : Stand bytes (end_place (length j.ones) (length j.betas) (length j.firsts)) end_record

module _ (j : Job) where
  size-part : List ℕ
  size-part = size_record j.vertices j.floor

  edge-part : List ℕ
  edge-part = rows (edge_rows j.ones j.others j.magnitudes) (length j.ones)

  beta-part : List ℕ
  beta-part = rows (beta_rows j.betas) (length j.betas)

  pair-part : List ℕ
  pair-part = rows (pair_rows j.firsts j.seconds) (length j.firsts)

  edges-length : length edge-part ≡ 13 * length j.ones
  unfolding edge-part
  edges-length = rows-length [] (edge_rows j.ones j.others j.magnitudes) 13 (λ i. edge-length _ _ _) (length j.ones)

  betas-length : length beta-part ≡ 9 * length j.betas
  unfolding beta-part
  betas-length = rows-length [] (beta_rows j.betas) 9 (λ i. beta-length _) (length j.betas)

  pairs-length : length pair-part ≡ 5 * length j.firsts
  unfolding pair-part
  pairs-length = rows-length [] (pair_rows j.firsts j.seconds) 5 (λ i. pair-length _ _) (length j.firsts)

  -- up to the edges, the betas and the pairs
  to-edges : length (size-part ++ edge-part) ≡ edge_place (length j.ones)
  unfolding size-part
  to-edges = length-append size-part edge-part ∙ omega (arith, size-length j.vertices j.floor, edges-length)

  to-betas : length (size-part ++ edge-part ++ beta-part) ≡ beta_place (length j.ones) (length j.betas)
  to-betas = length-append (size-part ++ edge-part) beta-part ∙ omega (arith, to-edges, betas-length)

  to-pairs : length (size-part ++ edge-part ++ beta-part ++ pair-part) ≡ end_place (length j.ones) (length j.betas) (length j.firsts)
  to-pairs = length-append (size-part ++ edge-part ++ beta-part) pair-part ∙ omega (arith, to-betas, pairs-length)

  pub sheet-length : length (sheet_of j) ≡ sheet_length (length j.ones) (length j.betas) (length j.firsts)
  unfolding sheet_of size-part edge-part beta-part pair-part
  sheet-length = length-append (size-part ++ edge-part ++ beta-part ++ pair-part) end_record ∙ omega (arith, to-pairs)

  -- a sheet stands where its parts do
  module _ (bytes : List ℕ) where
    pub laid : Stand bytes 0 (sheet_of j) → Laid bytes j
    unfolding sheet_of size-part edge-part beta-part pair-part
    laid s =
        let p4 = stand_left bytes 0 (size-part ++ edge-part ++ beta-part ++ pair-part) end_record s in
        let p3 = stand_left bytes 0 (size-part ++ edge-part ++ beta-part) pair-part p4 in
        let p2 = stand_left bytes 0 (size-part ++ edge-part) beta-part p3 in
        record {
          size = stand_left bytes 0 size-part edge-part p2;
          edge = at_place bytes _ (zero-add _ ∙ size-length j.vertices j.floor) (stand_right bytes 0 size-part edge-part p2);
          beta = at_place bytes _ (zero-add _ ∙ to-edges) (stand_right bytes 0 (size-part ++ edge-part) beta-part p3);
          pair = at_place bytes _ (zero-add _ ∙ to-betas) (stand_right bytes 0 (size-part ++ edge-part ++ beta-part) pair-part p4);
          end = at_place bytes _ (zero-add _ ∙ to-pairs) (stand_right bytes 0 (size-part ++ edge-part ++ beta-part ++ pair-part) end_record s);
        }

    pub sheet-stands : Laid bytes j → Stand bytes 0 (sheet_of j)
    unfolding sheet_of size-part edge-part beta-part pair-part
    sheet-stands l =
        stand_both bytes 0 (size-part ++ edge-part ++ beta-part ++ pair-part) end_record
        (stand_both bytes 0 (size-part ++ edge-part ++ beta-part) pair-part
        (stand_both bytes 0 (size-part ++ edge-part) beta-part
        (stand_both bytes 0 size-part edge-part l.size (at_place bytes _ (sym (zero-add _ ∙ size-length j.vertices j.floor)) l.edge))
        (at_place bytes _ (sym (zero-add _ ∙ to-edges)) l.beta))
        (at_place bytes _ (sym (zero-add _ ∙ to-betas)) l.pair))
        (at_place bytes _ (sym (zero-add _ ∙ to-pairs)) l.end)
