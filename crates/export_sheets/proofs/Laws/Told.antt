-- What the answers that were told say.
use Rattle.std.specs.Prelude.{◌≡◌, refl, Bool, true, false, cond, List, ℕ, ◌+◌, ◌≤◌, eqb, Float, length}
use Rattle.std.proofs.Common.{sym, ap, ◌∙◌, arith, eqb-true}
use Rattle.std.specs.declared.result.Result.{Result}
use Rattle.std.specs.declared.result.Result.TheVariants.{Ok, Err}
use Rattle.std.proofs.lemmas.Bool.{eqb-false}
use Rattle.refusals.specs.declared.Refusal.{Refusal}
use Rattle.refusals.specs.Numbers.{number, refused}
use Rattle.refusals.specs.Answers.{Answered, left}
use Rattle.refusals.proofs.Laws.Answers.{left_alone, number-not_zero}
use Rattle.c_answers.specs.Numbers.{Tells}
use Rattle.c_answers.proofs.Laws.Numbers.{told}
use Rattle.list_laws.specs.Front.{over}
use Rattle.little_endian.specs.Words.{word_at}
use Rattle.job_sheet.specs.Sheets.{sheet_length}
use Rattle.job_sheet_bytes.specs.Jobs.{given, sheet_of}
use Rattle.job_sheet_writer.specs.Writes.{sheet_refusal, Wrote}
use Rattle.job_sheet.specs.Records.{record_length, kind_at, refusal_at, record_of, record_at, next_of}
use Rattle.job_sheet.proofs.Laws.Records.{accepted, answer_read, answer-refused}
use Rattle.job_sheet.specs.declared.record.Record.{Record}
use Rattle.job_sheet.specs.declared.record.Record.TheVariants.{Size, Edge, Beta, Pair, End}
use Rattle.job_sheet_lists.specs.Lists.{numbers_of, ReadJob}
use Rattle.job_sheet_lists.specs.declared.answer.SheetJob.{SheetJob}
use Rattle.export_sheets.specs.Jobs.{part_in, TellsJob, Told}

-- ---- a record's end

next-of : (sheet : List ℕ) (place kind : ℕ) → next_of (Ok (record_of sheet place kind)) place 0 ≡ place + record_length kind
unfolding record_of record_length
next-of sheet place kind = go (eqb kind 1) (eqb kind 2) (eqb kind 3) (eqb kind 4)
  where
    go : (p q r s : Bool)
        → next_of (Ok (cond p (Size (word_at sheet (place + 1) 2) (word_at sheet (place + 3) 1))
        (cond q (Edge (word_at sheet (place + 1) 2) (word_at sheet (place + 3) 2) (word_at sheet (place + 5) 8))
        (cond r (Beta (word_at sheet (place + 1) 8)) (cond s (Pair (word_at sheet (place + 1) 2) (word_at sheet (place + 3) 2)) End))))) place 0
        ≡ place + cond p 4 (cond q 13 (cond r 9 (cond s 5 1)))
    go true q r s = refl
    go false true r s = refl
    go false false true s = refl
    go false false false true = refl
    go false false false false = refl

-- the place behind a record that is answered lies in the sheet
next-within : (sheet : List ℕ) (place last : ℕ) → next_of (record_at sheet place last) place 0 ≤ length sheet
next-within sheet place last = go (eqb (refusal_at sheet place last) 0) refl
  where
    go : (t : Bool) → eqb (refusal_at sheet place last) 0 ≡ t → next_of (record_at sheet place last) place 0 ≤ length sheet
    go true e =
        let z = eqb-true (refusal_at sheet place last) 0 e in
        let q = ap (λ (r : Result Record ℕ). next_of r place 0) (answer_read sheet place last z) ∙ next-of sheet place (kind_at sheet place) in
        omega (arith, q, (accepted sheet place last z).whole)
    go false e =
        let q = ap (λ (r : Result Record ℕ). next_of r place 0) (answer-refused sheet place last (refusal_at sheet place last) refl (eqb-false _ _ e)) in
        omega (arith, q)

pub next_fits : (sheet : List ℕ) (place last : ℕ) (r : Result Record ℕ) → r ≡ record_at sheet place last → next_of r place 0 ≤ length sheet
next_fits sheet place last r e = rw e (next-within sheet place last)

-- ---- the numbers of a job

-- a part of an answered job, or what was there
part-is : (answer : Result SheetJob Refusal) (k : ℕ) (x : SheetJob) → Answered k x answer → (part : SheetJob → ℕ) (old : ℕ) → part_in part answer old ≡ left (refused answer) (part x) old
part-is (Ok job) k x s part old = ap part s.1
part-is (Err e) k x s part old = left_alone (number e) _ old (number-not_zero e)

module _ {sheet : List ℕ} {answer : Result SheetJob Refusal} {a a' b b' m m' x x' us us' vs vs' : List ℕ} (p : ReadJob sheet answer a a' b b' m m' x x' us us' vs vs') where
  pub job-told : {r n n' floor floor' edges edges' pairs pairs' betas betas' : ℕ} → TellsJob answer r n n' floor floor' edges edges' pairs pairs' betas betas'
      → Told sheet r n n' floor floor' a a' b b' m m' us us' vs vs' x x' edges edges' pairs pairs' betas betas'
  job-told {n = n} {floor = floor} {edges = edges} {pairs = pairs} {betas = betas} t =
      let e = t.number ∙ p.answer.0 in
      record {
        answer = e;
        vertices = t.vertices ∙ part-is answer _ (numbers_of sheet) p.answer (λ j. j.n) n ∙ rw t.number;
        floors = t.floors ∙ part-is answer _ (numbers_of sheet) p.answer (λ j. j.floor) floor ∙ rw t.number;
        ones = p.ones ∙ rw e;
        others = p.others ∙ rw e;
        magnitudes = p.magnitudes ∙ rw e;
        firsts = p.firsts ∙ rw e;
        seconds = p.seconds ∙ rw e;
        values = p.betas ∙ rw e;
        some_edges = t.some_edges ∙ part-is answer _ (numbers_of sheet) p.answer (λ j. j.edges) edges ∙ rw t.number;
        some_pairs = t.some_pairs ∙ part-is answer _ (numbers_of sheet) p.answer (λ j. j.pairs) pairs ∙ rw t.number;
        some-betas = t.some-betas ∙ part-is answer _ (numbers_of sheet) p.answer (λ j. j.betas) betas ∙ rw t.number;
      }

-- ---- a sheet's length

pub sheet-told : {n floor : ℕ} {a b : List ℕ} {m : List Float} {us vs : List ℕ} {betas : List Float} {answer : Result ℕ Refusal} {sheet sheet' : List ℕ} {r old new : ℕ}
    → Wrote n floor a b m us vs betas answer sheet sheet' → Tells answer r old new
    → (r ≡ sheet_refusal n floor a b m us vs betas (length sheet))
    × ((sheet' ≡ left r (over (sheet_of (given n floor a b m us vs betas)) sheet) sheet) × (new ≡ left r (sheet_length (length a) (length betas) (length us)) old))
sheet-told {n} {floor} {a} {b} {m} {us} {vs} {betas} {answer} {sheet} {sheet'} {r} {old} {new} w t =
    let k = told (sheet_refusal n floor a b m us vs betas (length sheet)) (sheet_length (length a) (length betas) (length us)) w.answer t in
    (k.0, (w.written ∙ ap (λ (j : ℕ). left j (over (sheet_of (given n floor a b m us vs betas)) sheet) sheet) (sym k.0), k.1))
