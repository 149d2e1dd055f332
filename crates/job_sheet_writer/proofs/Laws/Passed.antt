-- A job that the writer's checks pass fits the fields of a sheet, and its doubles have bits of their own.
use Rattle.std.specs.Prelude.{◌≡◌, refl, Bool, true, false, not, ◌&&◌, List, ℕ, ◌*◌, ◌^◌, ◌≤◌, ◌<◌, T, eqb, ltb, leb, Float, length, get_or}
use Rattle.std.proofs.Common.{sym, ap, subst, ◌∙◌, arith, ltb-true, ltb-false, leb-false}
use Rattle.std.specs.Float.{nan, inf, fin, binary64}
use Rattle.std.specs.Float.Ieee.{fits, is_nan, of_bits, to_bits, le, neg, top}
use Rattle.std.specs.Float.Ieee.Bits.{of_bits-to_bits, to_bits-lt, to_bits-of_bits}
use Rattle.std.proofs.Math.ListN.{get_or-eq_default}
use Rattle.std.proofs.lemmas.Bool.{not-false}
use Rattle.limits.specs.declared.Caller.TheVariants.{Desk}
use Rattle.list_laws.proofs.Laws.Search.{or-false, none-at}
use Rattle.list_laws.proofs.Laws.Tabulate.{tabulate-length, tabulate-at, tabulated}
use Rattle.transfer_matrix.specs.Job.{window_of}
use Rattle.refusals.specs.Key.{Key}
use Rattle.refusals.specs.Edges.{kept_early, kept_late}
use Rattle.refusals.specs.Request.{call_request, bad_ends, outside, limit, oversized, some_oversized}
use Rattle.refusals.specs.Refusal.{refusal, of_job}
use Rattle.refusals.specs.AcceptedJob.{AcceptedJob}
use Rattle.refusals.proofs.Laws.First.{passed-at}
use Rattle.refusals.proofs.Laws.Later.{and-true, passed-before}
use Rattle.refusals.proofs.Laws.AcceptedJob.{accepted_with}
use Rattle.job_sheet_put.proofs.Laws.Rows.{bits_at, bits-length}
use Rattle.job_sheet_bytes.specs.Jobs.{Fits, given, bits_of, doubles_of}
use Rattle.job_sheet_writer.specs.Writes.{sheet_refusal}
use Rattle.job_sheet_writer.proofs.Laws.Calls.{in_parts}

-- doubles that are doubles
abbrev pub Doubles : List Float → Type 0
Doubles xs = (i : ℕ) → T (fits binary64 (get_or xs i nan))

-- the floor is below the window
floor-low : (floor : ℕ) (early late : List ℕ) → floor ≤ window_of floor early late
unfolding window_of
floor-low floor early late = omega arith

-- ---- bits

bits-top : 2 * top binary64 ≡ 256 ^ 8
bits-top = refl

-- an entry behind a list of bits, or of numbers below a limit
below_at : (l : List ℕ) (limit : ℕ) → 0 < limit → ((i : ℕ) → i < length l → get_or l i 0 < limit) → (i : ℕ) → get_or l i 0 < limit
below_at l limit z h i = go (ltb i (length l)) refl
  where
    go : (t : Bool) → ltb i (length l) ≡ t → get_or l i 0 < limit
    go true e = h i (ltb-true i (length l) e)
    go false e = omega (arith, get_or-eq_default l 0 {n = i} (ltb-false i (length l) e))

bits_fit : (xs : List Float) → Doubles xs → (i : ℕ) → get_or (bits_of xs) i 0 < 256 ^ 8
bits_fit xs d =
    below_at (bits_of xs) (256 ^ 8) (omega arith) (λ i h. let l = bits-length xs in
    omega (arith, bits_at xs i (omega arith), to_bits-lt binary64 (get_or xs i nan) (d i), bits-top))

-- doubles are those of their bits
pub doubles_of_bits : (xs : List Float) → Doubles xs → doubles_of (bits_of xs) ≡ xs
unfolding doubles_of
doubles_of_bits xs d =
    let l = bits-length xs in
    sym (tabulated nan xs _ (length (bits_of xs)) (sym l) (λ i h.
    sym (ap (of_bits binary64) (bits_at xs i (omega arith)) ∙ of_bits-to_bits binary64 (get_or xs i nan) (d i))))

-- ---- finite doubles

not_nan : (x : Float) → oversized x ≡ false → T (not (is_nan x))
unfolding is_nan le
not_nan nan e = let q = (and-true (le (neg limit) nan) (le nan limit) (not-false (le (neg limit) nan && le nan limit) e)).1 in let z : ◌≡◌ {A = ℕ} 0 1 = cc in absurd (omega arith)
not_nan (inf s) e = tt
not_nan (fin s m k) e = tt

doubles_at : (bits : List ℕ) (i : ℕ) → i < length bits → get_or (doubles_of bits) i nan ≡ of_bits binary64 (get_or bits i 0)
unfolding doubles_of
doubles_at bits i h = tabulate-at _ (length bits) i nan h

doubles_length : (bits : List ℕ) → length (doubles_of bits) ≡ length bits
unfolding doubles_of
doubles_length bits = tabulate-length _ (length bits)

-- bits are those of their doubles, where none is a NaN's
pub bits_of_doubles : (bits : List ℕ) → ((i : ℕ) → get_or bits i 0 < 256 ^ 8) → some_oversized (doubles_of bits) ≡ false → bits_of (doubles_of bits) ≡ bits
unfolding bits_of
bits_of_doubles bits f s =
    let l = doubles_length bits in
    sym (tabulated 0 bits _ (length (doubles_of bits)) (sym l) (λ i h.
    let e = doubles_at bits i (omega arith) in
    let n = not_nan (get_or (doubles_of bits) i nan) (none-at (λ e. oversized (get_or (doubles_of bits) e nan)) (length (doubles_of bits)) i h s) in
    sym (ap (to_bits binary64) e ∙ to_bits-of_bits binary64 (get_or bits i 0) (omega (arith, f i, bits-top)) (subst (λ (x : Float). T (not (is_nan x))) e n))))

-- ---- the job

module _ (n floor : ℕ) (a b : List ℕ) (m : List Float) (us vs : List ℕ) (betas : List Float) (room : ℕ)
    (ok : sheet_refusal n floor a b m us vs betas room ≡ 0) where
  pub passed : refusal of_job (call_request Desk n floor a b m us vs betas) ≡ 0
  passed = passed-before (in_parts n floor a b m us vs betas room) ok

  -- 4: no magnitude and no beta is a NaN
  pub sizes : (some_oversized m ≡ false) × (some_oversized betas ≡ false)
  sizes = or-false (some_oversized m) (some_oversized betas) (passed-at of_job (call_request Desk n floor a b m us vs betas) passed Key.sizes refl)

  job : AcceptedJob n floor a b m us vs
  job = (accepted_with Desk n floor a b m us vs betas passed).0

  low-floor : floor ≤ 24
  low-floor = omega (arith, job.narrow, floor-low floor (kept_early a b m) (kept_late a b m))

  inside : (i : ℕ) → i < length a → (get_or a i 0 < n) × (get_or b i 0 < n)
  inside i h =
      let o = or-false (leb n (get_or a i 0)) (leb n (get_or b i 0)) (or-false (eqb (get_or a i 0) (get_or b i 0)) (outside n (get_or a i 0) (get_or b i 0)) (none-at (bad_ends n a b) (length a) i h job.graph.edges)).1 in
      (leb-false n (get_or a i 0) o.0, leb-false n (get_or b i 0) o.1)

  pub fits-given : Doubles m → Doubles betas → Fits (given n floor a b m us vs betas)
  fits-given d e =
      let few = job.graph.few-vertices in
      let low = low-floor in
      let l = job.graph.lists in
      record {
        vertices = omega arith;
        floor = omega arith;
        ends = l.others;
        sized = bits-length m ∙ l.magnitudes;
        paired = sym job.matched;
        ones = below_at a (256 ^ 2) (omega arith) (λ i h. omega (arith, (inside i h).0));
        others = below_at b (256 ^ 2) (omega arith) (λ i h. omega (arith, (inside i (omega (arith, l.others))).1));
        magnitudes = bits_fit m d;
        betas = bits_fit betas e;
        firsts = below_at us (256 ^ 2) (omega arith) (λ i h. omega (arith, job.first-inside i h));
        seconds = below_at vs (256 ^ 2) (omega arith) (λ i h. omega (arith, job.second-inside i (omega (arith, job.matched))));
      }
