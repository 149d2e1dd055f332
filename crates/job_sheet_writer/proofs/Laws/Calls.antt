-- A call's answer and buffer, from what its checks answered.
use Rattle.std.specs.Prelude.{◌≡◌, refl, Ok, Err, List, [], ◌∷◌, ℕ, ◌≤◌, ◌<◌, ltb, Float, length}
use Rattle.std.proofs.Common.{sym, ap, ◌∙◌, lt-ltb, le-ltb}
use Rattle.limits.specs.declared.Caller.TheVariants.{Desk}
use Rattle.list_laws.specs.Front.{over}
use Rattle.refusals.specs.Key.{Key}
use Rattle.refusals.specs.Request.{call_request}
use Rattle.refusals.specs.Refusal.{refusal, of_job, of_room}
use Rattle.refusals.specs.Answers.{left}
use Rattle.refusals.proofs.Laws.Answers.{number-not_zero, left_alone}
use Rattle.refusals.proofs.Laws.Later.{Then, refusal_in_parts, refused-before, refused_here, refused_not}
use Rattle.refusals.specs.declared.Refusal.{Refusal}
use Rattle.refusals.specs.declared.Refusal.TheVariants.{Buffer}
use Rattle.refusals.specs.Numbers.{number}
use Rattle.job_checks.specs.declared.job.Job.{Job}
use Rattle.job_checks.specs.Checked.{CheckedJob}
use Rattle.job_sheet.specs.Sheets.{sheet_length}
use Rattle.job_sheet_bytes.specs.Jobs.{given, sheet_of}
use Rattle.job_sheet_put.specs.Behind.{Room}
use Rattle.job_sheet_writer.specs.Writes.{sheet_request, sheet_refusal, Wrote}

-- 1 to 8, and then 12
pub in_parts : (n floor : ℕ) (a b : List ℕ) (m : List Float) (us vs : List ℕ) (betas : List Float) (room : ℕ)
    → Then (sheet_refusal n floor a b m us vs betas room) (refusal of_job (call_request Desk n floor a b m us vs betas))
    (ltb room (sheet_length (length a) (length betas) (length us))) 12
in_parts n floor a b m us vs betas room = record { is = refusal_in_parts of_room (Key.buffers ∷ []) (sheet_request n floor a b m us vs betas room) refl }

module _ (n floor : ℕ) (a b : List ℕ) (m : List Float) (us vs : List ℕ) (betas : List Float) (sheet : List ℕ) where
  parts : Then (sheet_refusal n floor a b m us vs betas (length sheet)) (refusal of_job (call_request Desk n floor a b m us vs betas))
      (ltb (length sheet) (sheet_length (length a) (length betas) (length us))) 12
  parts = in_parts n floor a b m us vs betas (length sheet)

  -- a refused call leaves the buffer
  refused-with : (e : Refusal) → number e ≡ sheet_refusal n floor a b m us vs betas (length sheet) → Wrote n floor a b m us vs betas (Err e) sheet sheet
  refused-with e p = record {
    answer = (p, tt);
    written = left_alone (sheet_refusal n floor a b m us vs betas (length sheet)) _ sheet (λ q. number-not_zero e (p ∙ q));
  }

-- one of 1 to 8
pub refused-job : {n floor : ℕ} {a b : List ℕ} {m : List Float} {us vs : List ℕ} {betas : List Float} (sheet : List ℕ) {e : Refusal} {early early' late late' : List ℕ}
    {mag mag' : List Float} → CheckedJob Desk n floor a b m us vs betas (Err e) early early' late late' mag mag'
    → Wrote n floor a b m us vs betas (Err e) sheet sheet
refused-job {n} {floor} {a} {b} {m} {us} {vs} {betas} sheet {e} J =
    refused-with n floor a b m us vs betas sheet e
    (refused-before (parts n floor a b m us vs betas sheet) (number e) J.refusal (number-not_zero e))

-- none of them
module _ {n floor : ℕ} {a b : List ℕ} {m : List Float} {us vs : List ℕ} {betas : List Float} (sheet : List ℕ) {job : Job} {early early' late late' : List ℕ}
    {mag mag' : List Float} (J : CheckedJob Desk n floor a b m us vs betas (Ok job) early early' late late' mag mag') where
  pub few : (length a ≤ 4096) × (length betas ≤ 64) × (length us ≤ 256)
  few = (J.ready.passed.graph.lists.few-edges, J.betas_pass.few, J.ready.passed.few-pairs)

  -- 12
  pub too_short : length sheet < sheet_length (length a) (length betas) (length us) → Wrote n floor a b m us vs betas (Err Buffer) sheet sheet
  too_short h =
      refused-with n floor a b m us vs betas sheet Buffer
      (refused_here (parts n floor a b m us vs betas sheet) 0 J.refusal refl (lt-ltb _ _ h))

  -- none
  module _ (h : sheet_length (length a) (length betas) (length us) ≤ length sheet) where
    pub room : Room sheet a b m us vs betas
    room = record {
      ends = J.ready.passed.graph.lists.others;
      sized = J.ready.passed.graph.lists.magnitudes;
      paired = sym J.ready.passed.matched;
      long = h;
    }

    pub done : (long : ℕ) (sheet' : List ℕ) → long ≡ sheet_length (length a) (length betas) (length us) → sheet' ≡ over (sheet_of (given n floor a b m us vs betas)) sheet
        → Wrote n floor a b m us vs betas (Ok long) sheet sheet'
    done long sheet' l q =
        let e = refused_not (parts n floor a b m us vs betas sheet) 0 J.refusal refl (le-ltb _ _ h) in
        record { answer = (e, l); written = q ∙ ap (λ (k : ℕ). left k (over (sheet_of (given n floor a b m us vs betas)) sheet) sheet) e }
