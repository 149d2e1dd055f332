-- What `sample_record` and `house_sample_record` answer and leave in the lent lists.
use Rattle.std.specs.Prelude.{◌≡◌, cond, List, ℕ, ◌+◌, eqb, Float, length, get_or}
use Rattle.std.specs.Float.{nan}
use Rattle.limits.specs.declared.Caller.TheVariants.{Desk}
use Rattle.transfer_matrix.specs.Rounded.{ieee}
use Rattle.transfer_matrix.specs.Totals.{square, fourth}
use Rattle.refusals.specs.Edges.{kept}
use Rattle.refusals.specs.Request.{Source, lent, house, sampled, sweep_request, signed_factors}
use Rattle.refusals.specs.Refusal.{refusal, of_recording, sourced}
use Rattle.plan_layout.specs.declared.Arrangement.{Arrangement}
use Rattle.plan_layout.specs.Arrangements.{arrangement_of}
use Rattle.entry_correlations.specs.Correlations.{cleared}
use Rattle.entry_correlations.specs.declared.Manner.{Manner}
use Rattle.totals_call.specs.Given.{Given, free, end}
use Rattle.totals_call.specs.Calls.{unsound_drawn, totals_of_drawn, house_given, house_couplings, coupling_count}
use Rattle.run_record.specs.declared.Head.{Head}
use Rattle.run_record.specs.Records.{record_of}
use Rattle.record_checks.specs.Recording.{other_length}
use Rattle.totals_record.specs.Written.{zero_bytes}

-- What a call leaves in the record: the run's bytes where it is accepted, 0 throughout where it is refused for 14, else what was there.
unfoldable pub settled_bytes : ℕ → List ℕ → List ℕ → List ℕ
settled_bytes refused run old = cond (eqb refused 0) run (cond (eqb refused 14) (zero_bytes (length old)) old)

-- The number r of a call that writes a run, by its refusal's number (0 for accepted); the record and the work memory after it.
pub record RunWritten (refused : ℕ) (run : List ℕ) (end r : ℕ) (bytes bytes' : List ℕ) (work work' : List Float) : Type 0 where
  pub answer : r ≡ refused
  pub bytes_are : bytes' ≡ settled_bytes refused run bytes
  pub memory : work' ≡ cleared refused end work

-- ---- over what is given, which is never the tester's

module _ (g : Given) (seed from to samples : ℕ) where
  -- The head of the record.
  abbrev pub head_for : Head
  head_for = record { seed = seed; start = from; end = to; samples = samples; betas = length g.betas; pairs = length g.us }

  -- The sums of a power in chunk c, counted from the first, at beta times pairs + pair: what `sample` leaves there over that chunk alone.
  abbrev pub sums_for : (Float → Float) → (chunk place : ℕ) → Float
  sums_for power c k = get_or (totals_of_drawn g seed (from + c) (from + c + 1) samples power) k nan

  -- The bytes of the run.
  abbrev pub record_for : List ℕ
  record_for = record_of head_for (sums_for (square ieee)) (sums_for (fourth ieee))

  -- The refusal, by the source of the factors, of this list of factors or couplings, which should have so many, with so many bytes and so much work memory.
  abbrev pub refused_recording_by : Source → List Float → (count size work : ℕ) → ℕ
  refused_recording_by source list count size work =
      refusal (sourced source of_recording)
      (sweep_request Desk (arrangement_of g.arrangement) g.n g.floor g.a g.b g.m g.us g.vs g.betas (sampled (free g) from to samples) list count
      (other_length head_for size) work (unsound_drawn g seed from to samples))

  pub record RecordedBy (source : Source) (list : List Float) (count r : ℕ) (bytes bytes' : List ℕ) (work work' : List Float) : Type 0 where
    pub call : RunWritten (refused_recording_by source list count (length bytes) (length work)) record_for (end g) r bytes bytes' work work'

-- ---- of the entries

module _ (n floor : ℕ) (a b : List ℕ) (m : List Float) (us vs : List ℕ) (betas : List Float) where
  -- A call that lends its factors,
  abbrev pub lent_given : List Float → Manner → Arrangement → Given
  lent_given factors manner arrangement =
      record { n = n; floor = floor; a = a; b = b; m = m; us = us; vs = vs; betas = betas; factors = factors; manner = manner; arrangement = arrangement; caller = Desk }

  abbrev pub Recorded : List Float → Manner → Arrangement → (seed from to samples r : ℕ) → (bytes bytes' : List ℕ) → (work work' : List Float) → Type 0
  Recorded factors manner arrangement seed from to samples =
      RecordedBy (lent_given factors manner arrangement) seed from to samples lent factors (signed_factors (length betas) (length (kept a b m)))

  -- and a house call.
  abbrev pub HouseRecorded : Manner → Arrangement → (seed from to samples r : ℕ) → (bytes bytes' : List ℕ) → (work work' : List Float) → Type 0
  HouseRecorded manner arrangement seed from to samples =
      RecordedBy (house_given n floor a b m us vs betas manner arrangement Desk) seed from to samples house (house_couplings n floor a b m us vs betas manner arrangement Desk)
      (coupling_count n floor a b m us vs betas manner arrangement Desk)
