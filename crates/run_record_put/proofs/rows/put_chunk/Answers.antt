use mathlib.Core.Path.{◌≡◌, subst}
use Prim.Native.Nat.{ℕ, ◌+◌, ◌*◌, ◌≤◌}
use native.Mathlib.Omega.{arith}
use lib.ListN.{length}
use Rattle.job_sheet_put.specs.Behind.{Appended}
use Rattle.job_sheet_put.proofs.Laws.Behind.{no_rows}
use Rattle.run_record.specs.Records.{per_chunk, chunks_of}
use Rattle.run_record.specs.Reading.{row_place}
use Rattle.run_record_put.specs.Listed.{listed_chunk}
use Rattle.run_record_put.proofs.Laws.Rows.{first_betas, beta-more, beta-inside, chunk_inside}
use Rattle.run_record_put.proofs.rows.put_chunk.Goals as goal

pub overflow_mul-place : goal.overflow_mul-place
overflow_mul-place c = let s = c in omega (
  arith,
  (let it : (let a = c.args in 32 + 28 * (a.c * length a.squares.now) + 28 * length a.squares.now ≤ length a.bytes.now) = let a = c.args in
      let h = chunk_inside a.c (chunks_of a.head) (per_chunk a.head) c.requires.1 in
      rw c.requires.2 (omega (arith, h, c.requires.0)) in it),
  s.well_formed,
)

pub overflow_mul-place-2 : goal.overflow_mul-place-2
overflow_mul-place-2 c = let s = c in omega (
  arith,
  (let it : (let a = c.args in 32 + 28 * (a.c * length a.squares.now) + 28 * length a.squares.now ≤ length a.bytes.now) = let a = c.args in
      let h = chunk_inside a.c (chunks_of a.head) (per_chunk a.head) c.requires.1 in
      rw c.requires.2 (omega (arith, h, c.requires.0)) in it),
  s.well_formed,
)

pub overflow_add-place : goal.overflow_add-place
overflow_add-place c = let s = c in omega (
  arith,
  (let it : (let a = c.args in 32 + 28 * (a.c * length a.squares.now) + 28 * length a.squares.now ≤ length a.bytes.now) = let a = c.args in
      let h = chunk_inside a.c (chunks_of a.head) (per_chunk a.head) c.requires.1 in
      rw c.requires.2 (omega (arith, h, c.requires.0)) in it),
  s.well_formed,
)

pub loop-b-init : goal.loop-b-init
loop-b-init c = (omega arith, no_rows _ _ _)

pub overflow_mul-first : goal.overflow_mul-first
overflow_mul-first c =
    let s = c in
    let h = beta-inside c.loop-b.b s.args.head.betas s.args.head.pairs (omega arith) in
    omega (arith, h, s.requires.2, s.well_formed)

pub overflow_mul-first-in-loop-b : goal.overflow_mul-first-in-loop-b
overflow_mul-first-in-loop-b c =
    let s = c in
    let h = beta-inside c.loop-b.b s.args.head.betas s.args.head.pairs (omega arith) in
    omega (
      arith,
      h,
      s.requires.2,
      (let it : (let a = c.args in 32 + 28 * (a.c * length a.squares.now) + 28 * length a.squares.now ≤ length a.bytes.now) = let a = c.args in
          let h = chunk_inside a.c (chunks_of a.head) (per_chunk a.head) c.requires.1 in
          rw c.requires.2 (omega (arith, h, c.requires.0)) in it),
      s.well_formed,
    )

pub overflow_add-place-in-loop-b : goal.overflow_add-place-in-loop-b
overflow_add-place-in-loop-b c =
    let s = c in
    let h = beta-inside c.loop-b.b s.args.head.betas s.args.head.pairs (omega arith) in
    omega (
      arith,
      h,
      s.requires.2,
      (let it : (let a = c.args in 32 + 28 * (a.c * length a.squares.now) + 28 * length a.squares.now ≤ length a.bytes.now) = let a = c.args in
          let h = chunk_inside a.c (chunks_of a.head) (per_chunk a.head) c.requires.1 in
          rw c.requires.2 (omega (arith, h, c.requires.0)) in it),
      s.well_formed,
    )

pub put_beta-requires : goal.put_beta-requires
put_beta-requires c =
    let s = c in
    let h = beta-inside c.loop-b.b s.args.head.betas s.args.head.pairs (omega arith) in (
      omega (arith, h, s.requires.2),
      omega (arith, h, s.requires.3),
      omega (
        arith,
        h,
        s.requires.2,
        (let it : (let a = c.args in 32 + 28 * (a.c * length a.squares.now) + 28 * length a.squares.now ≤ length a.bytes.now) = let a = c.args in
            let h = chunk_inside a.c (chunks_of a.head) (per_chunk a.head) c.requires.1 in
            rw c.requires.2 (omega (arith, h, c.requires.0)) in it),
        c.loop-b.invariant.1.size,
      ),
    )

pub loop-b-preserved : goal.loop-b-preserved
loop-b-preserved c =
    let i = c.loop-b in
    let a = c.args in
    (omega arith, beta-more a.head a.c a.squares.now a.fourths.now (32 + 28 * (a.c * length a.squares.now)) i.b i.invariant.1 c.put_beta.ensures)

pub shape_of-bytes : goal.shape_of-bytes
shape_of-bytes c = c.loop-b.invariant.1.size

pub returns : goal.returns
returns c =
    let s = c in
    let a = s.args in
    let l = c.loop-b in
    let k : l.b ≡ a.head.betas = omega arith in
    let e : 32 + 28 * (a.c * length a.squares.now) ≡ row_place a.head a.c 0 = rw s.requires.2 (omega arith) in
    subst (λ (at : ℕ). Appended at (listed_chunk a.head a.c a.squares.now a.fourths.now) a.bytes.now l.bytes) e
    (subst (λ (b : ℕ). Appended (32 + 28 * (a.c * length a.squares.now)) (first_betas a.head a.c a.squares.now a.fourths.now b) a.bytes.now l.bytes) k
    l.invariant.1)
