-- Where rows lie, and which patterns are bad.
use Rattle.std.specs.Prelude.{◌≡◌, false, List, ℕ, ◌+◌, ◌*◌, ◌/◌, ◌≤◌, ◌<◌}
use Rattle.std.proofs.Common.{mul-le-mul_right, le-div_iff_mul-le, arith}
use Rattle.list_laws.proofs.Laws.Search.{none_of}
use Rattle.run_record.specs.declared.Head.{Head}
use Rattle.run_record.specs.Records.{chunks_of, per_chunk}
use Rattle.run_record.specs.Reading.{bad_rows}

-- a row of a chunk, beta and pair is one of all rows
pub row_inside : (chunks betas pairs c b p : ℕ) → c < chunks → b < betas → p < pairs
    → c * (betas * pairs) + (b * pairs + p) < chunks * (betas * pairs)
row_inside chunks betas pairs c b p h k l =
    let x : (c + 1) * (betas * pairs) ≤ chunks * (betas * pairs) = mul-le-mul_right (betas * pairs) (omega arith) in
    let y : (b + 1) * pairs ≤ betas * pairs = mul-le-mul_right pairs (omega arith) in
    omega arith

-- where there is no row none is bad
pub no_rows : (bytes : List ℕ) (h : Head) → chunks_of h * per_chunk h ≡ 0 → bad_rows bytes h ≡ false
no_rows bytes h z =
    none_of _ (chunks_of h) (λ c i. none_of _ h.betas (λ b j. none_of _ h.pairs (λ p k.
    absurd (omega (arith, row_inside (chunks_of h) h.betas h.pairs c b p i j k)))))

-- a quotient that is large enough bounds the product
pub quotient-bounds : (rows size chunks : ℕ) → 0 < size → chunks ≤ rows / size → chunks * size ≤ rows
quotient-bounds rows size chunks p h = (le-div_iff_mul-le p).0 h
