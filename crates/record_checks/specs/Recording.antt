-- The checks of a call that writes a run record, in parts.
use Rattle.std.specs.Prelude.{Bool, cond, not, List, ℕ, eqb, Float}
use Rattle.transfer_matrix.specs.Room as Room
use Rattle.refusals.specs.Request.{Source, bad_list, source_number, too_many_chunks, unwritable}
use Rattle.refusals.specs.AcceptedJob.{buffers_refusal}
use Rattle.run_record.specs.declared.Head.{Head}
use Rattle.run_record.specs.Records.{record_length}

-- so many bytes are not those of the record with this head
abbrev pub other_length : Head → ℕ → Bool
other_length h size = not (eqb size (record_length h))

-- of the checks 10 or 23, 11, 26, 12 and 13 the first that fits a call with this list of factors or couplings, which should have so many
abbrev pub recording_lists : Source → Room.Arrangement → (n w edges : ℕ) → (us vs : List ℕ) → List Float → (count start end samples : ℕ) → Bool → (work : ℕ) → ℕ
recording_lists source arrangement n w edges us vs list count start end samples misfit work =
    cond (bad_list source list count) (source_number source)
    (cond (too_many_chunks start end samples) 11 (cond (unwritable start end samples) 26 (buffers_refusal arrangement n w edges us vs misfit work)))
