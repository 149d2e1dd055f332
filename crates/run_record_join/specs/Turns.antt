-- What a join of records in their order is given, and what it answers.
use Rattle.std.specs.Prelude.{◌≡◌, false, not, cond, List, ℕ, eqb, length, drop}
use Rattle.list_laws.specs.Part.{put}
use Rattle.little_endian.specs.Words.{bytes_of}
use Rattle.refusals.specs.Request.{too_many_chunks}
use Rattle.run_record.specs.Records.{record_length}
use Rattle.run_record.specs.Reading.{head_of, bad_record}
use Rattle.run_record_join.specs.Joining.{head_over}

-- Two records that join, the earlier first.
pub record Turns (a b : List ℕ) : Type 0 where
  pub first : bad_record a ≡ false
  pub second : bad_record b ≡ false
  pub betas : (head_of a).betas ≡ (head_of b).betas
  pub pairs : (head_of a).pairs ≡ (head_of b).pairs
  pub meet : (head_of a).end ≡ (head_of b).start

-- 11, then 12
unfoldable pub limits_of : (a b : List ℕ) → (joined : ℕ) → ℕ
limits_of a b joined =
    let h = head_over (head_of a) (head_of b) in
    cond (too_many_chunks h.start h.end h.samples) 11 (cond (not (eqb joined (record_length h))) 12 0)

-- the earlier record with another end, then the rows of the later one, over what was there
unfoldable pub written : (a b : List ℕ) → (end : ℕ) → (joined : List ℕ) → List ℕ
written a b end joined = put (put (put joined 0 (drop 0 a)) 17 (bytes_of 8 end)) (length a) (drop 32 b)
