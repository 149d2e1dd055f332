-- Magnitudes of which one is set to zero.
use Rattle.std.specs.Prelude.{◌≡◌, List, ℕ, ◌<◌, Float, length, get_or}
use Rattle.std.proofs.Common.{sym, arith, length-set, get_or-set_same, get_or-set_other}
use Rattle.std.specs.Float.{nan, binary64}
use Rattle.std.specs.Float.Ieee.{of_bits}
use Rattle.std.proofs.Math.Seq.{set_out}
use Rattle.refusals.specs.Edges.{dropping}
use Rattle.refusals.specs.Request.{job_request, bad_lists}

-- as many as before
pub dropping-length : (place : ℕ) (m : List Float) → length (dropping place m) ≡ length m
dropping-length place m = length-set m place (of_bits binary64 0)

-- at that place there is zero, elsewhere what was there
pub dropping-at : (m : List Float) (place i : ℕ) → i ≡ place → i < length m → of_bits binary64 0 ≡ get_or (dropping place m) i nan
dropping-at m place i e h = rw e (sym (get_or-set_same m place (of_bits binary64 0) nan (omega arith)))

pub dropping_beside : (m : List Float) (place i : ℕ) → (i ≡ place → ⊥) → get_or m i nan ≡ get_or (dropping place m) i nan
dropping_beside m place i n = sym (get_or-set_other m place i (of_bits binary64 0) nan n)

-- past the end nothing is dropped
pub dropping-none : (m : List Float) → dropping (length m) m ≡ m
dropping-none m = set_out m (length m) (of_bits binary64 0) (omega arith)

-- so 2 fits both or neither
pub dropping-lists : (place n floor : ℕ) (a b : List ℕ) (m : List Float) (us vs : List ℕ) (betas : List Float)
    → bad_lists (job_request n floor a b m us vs betas) ≡ bad_lists (job_request n floor a b (dropping place m) us vs betas)
dropping-lists place n floor a b m us vs betas = rw (dropping-length place m)
