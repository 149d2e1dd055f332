-- The job that is read from a sheet of it.
use Rattle.std.specs.Prelude.{◌≡◌, List, [], ◌∷◌, ◌++◌, ℕ, ◌+◌, ◌<◌, length, get_or}
use Rattle.std.proofs.Math.Path.{refl, sym}
use Rattle.std.proofs.Common.{arith}
use Rattle.list_laws.proofs.Laws.Tabulate.{tabulated}
use Rattle.little_endian.specs.Words.{word_at, bytes_of}
use Rattle.little_endian.specs.Rows.{Stand}
use Rattle.little_endian.proofs.Laws.Words.{bytes_of-length}
use Rattle.little_endian.proofs.Laws.Rows.{stand_left, stand_first, row-stands}
use Rattle.job_sheet.specs.Records.{kind_at}
use Rattle.job_sheet.specs.Sheets.{edge_place, beta_place, pair_place, Front}
use Rattle.job_sheet_bytes.specs.Jobs.{Job, Fits, edge_record, beta_record, pair_record, edge_rows, beta_rows, pair_rows, job_in}
use Rattle.job_sheet_bytes.proofs.Laws.Bytes.{Laid, edge-length, beta-length, pair-length, two-lengths, one_read, last_read}

module _ (bytes : List ℕ) (j : Job) (f : Fits j) (l : Laid bytes j) where
  size-kind : kind_at bytes 0 ≡ 1
  size-kind = stand_first bytes 0 1 _ l.size

  vertices_read : word_at bytes 1 2 ≡ j.vertices
  vertices_read = (one_read bytes 0 1 2 j.vertices f.vertices (stand_left bytes 0 (1 ∷ bytes_of 2 j.vertices) (bytes_of 1 j.floor) l.size)).1

  floor_read : word_at bytes 3 1 ≡ j.floor
  floor_read =
      last_read bytes 0 3 (1 ∷ bytes_of 2 j.vertices) 1 j.floor (omega (arith, bytes_of-length 2 j.vertices)) f.floor l.size

  -- the edges
  module _ (i : ℕ) (h : i < length j.ones) where
    edge-there : Stand bytes (edge_place i) (edge_record (get_or j.ones i 0) (get_or j.others i 0) (get_or j.magnitudes i 0))
    edge-there = row-stands bytes (edge_rows j.ones j.others j.magnitudes) 13 (λ k. edge-length _ _ _) 4 (length j.ones) i h l.edge

    ends_there : Stand bytes (edge_place i) (2 ∷ (bytes_of 2 (get_or j.ones i 0) ++ bytes_of 2 (get_or j.others i 0)))
    ends_there = stand_left bytes (edge_place i) (2 ∷ (bytes_of 2 (get_or j.ones i 0) ++ bytes_of 2 (get_or j.others i 0))) (bytes_of 8 (get_or j.magnitudes i 0)) edge-there

    one-there : Stand bytes (edge_place i) (2 ∷ bytes_of 2 (get_or j.ones i 0))
    one-there = stand_left bytes (edge_place i) (2 ∷ bytes_of 2 (get_or j.ones i 0)) (bytes_of 2 (get_or j.others i 0)) ends_there

    edge-kind : kind_at bytes (edge_place i) ≡ 2
    edge-kind = (one_read bytes (edge_place i) 2 2 _ (f.ones i) one-there).0

    one-is : word_at bytes (edge_place i + 1) 2 ≡ get_or j.ones i 0
    one-is = (one_read bytes (edge_place i) 2 2 _ (f.ones i) one-there).1

    other-is : word_at bytes (edge_place i + 3) 2 ≡ get_or j.others i 0
    other-is = last_read bytes (edge_place i) 3 (2 ∷ bytes_of 2 (get_or j.ones i 0)) 2 _ (omega (arith, bytes_of-length 2 (get_or j.ones i 0))) (f.others i) ends_there

    magnitude-is : word_at bytes (edge_place i + 5) 8 ≡ get_or j.magnitudes i 0
    magnitude-is =
        last_read bytes (edge_place i) 5 (2 ∷ (bytes_of 2 (get_or j.ones i 0) ++ bytes_of 2 (get_or j.others i 0))) 8 _
        (omega (arith, two-lengths 2 2 (get_or j.ones i 0) (get_or j.others i 0))) (f.magnitudes i) edge-there

  -- the betas
  module _ (i : ℕ) (h : i < length j.betas) where
    beta-there : Stand bytes (beta_place (length j.ones) i) (beta_record (get_or j.betas i 0))
    beta-there = row-stands bytes (beta_rows j.betas) 9 (λ k. beta-length _) (edge_place (length j.ones)) (length j.betas) i h l.beta

    beta-is : (kind_at bytes (beta_place (length j.ones) i) ≡ 3) × (word_at bytes (beta_place (length j.ones) i + 1) 8 ≡ get_or j.betas i 0)
    beta-is = one_read bytes (beta_place (length j.ones) i) 3 8 _ (f.betas i) beta-there

  -- the pairs
  module _ (i : ℕ) (h : i < length j.firsts) where
    pair-there : Stand bytes (pair_place (length j.ones) (length j.betas) i) (pair_record (get_or j.firsts i 0) (get_or j.seconds i 0))
    pair-there =
        row-stands bytes (pair_rows j.firsts j.seconds) 5 (λ k. pair-length _ _) (beta_place (length j.ones) (length j.betas)) (length j.firsts) i h l.pair

    first-is : (kind_at bytes (pair_place (length j.ones) (length j.betas) i) ≡ 4)
        × (word_at bytes (pair_place (length j.ones) (length j.betas) i + 1) 2 ≡ get_or j.firsts i 0)
    first-is =
        one_read bytes (pair_place (length j.ones) (length j.betas) i) 4 2 _ (f.firsts i)
        (stand_left bytes _ (4 ∷ bytes_of 2 (get_or j.firsts i 0)) (bytes_of 2 (get_or j.seconds i 0)) pair-there)

    second_is : word_at bytes (pair_place (length j.ones) (length j.betas) i + 3) 2 ≡ get_or j.seconds i 0
    second_is =
        last_read bytes (pair_place (length j.ones) (length j.betas) i) 3 (4 ∷ bytes_of 2 (get_or j.firsts i 0)) 2 _
        (omega (arith, bytes_of-length 2 (get_or j.firsts i 0))) (f.seconds i) pair-there

  pub front_of : Front bytes (length j.ones) (length j.betas) (length j.firsts)
  front_of = record {
    first = size-kind;
    edge = λ i h. edge-kind i h;
    beta = λ i h. (beta-is i h).0;
    pair = λ i h. (first-is i h).0;
    end = stand_first bytes _ 5 [] l.end;
  }

  pub job_read : job_in bytes (length j.ones) (length j.betas) (length j.firsts) ≡ j
  unfolding job_in
  job_read =
      rw (
        vertices_read,
        floor_read,
        ← tabulated 0 j.ones _ (length j.ones) refl (λ i h. sym (one-is i h)),
        ← tabulated 0 j.others _ (length j.ones) f.ends (λ i h. sym (other-is i h)),
        ← tabulated 0 j.magnitudes _ (length j.ones) f.sized (λ i h. sym (magnitude-is i h)),
        ← tabulated 0 j.betas _ (length j.betas) refl (λ i h. sym (beta-is i h).1),
        ← tabulated 0 j.firsts _ (length j.firsts) refl (λ i h. sym (first-is i h).1),
        ← tabulated 0 j.seconds _ (length j.firsts) f.paired (λ i h. sym (second_is i h)),
      )
