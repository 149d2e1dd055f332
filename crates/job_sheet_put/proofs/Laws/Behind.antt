-- One behind another.
use Rattle.std.specs.Prelude.{◌≡◌, refl, List, [], ◌∷◌, ◌++◌, ℕ, ◌+◌, ◌*◌, ◌≤◌, ◌<◌, length, drop, set}
use Rattle.std.proofs.Common.{sym, ap, ◌∙◌, append_assoc, append-nil, add-one, arith, length-append, length-set, take_at, drop-drop}
use Rattle.std.proofs.Math.Seq.{drop-append-add}
use Rattle.list_laws.specs.Front.{over}
use Rattle.list_laws.proofs.Laws.Front.{over-more}
use Rattle.list_laws.specs.Part.{put}
use Rattle.list_laws.proofs.Laws.Part.{put-length}
use Rattle.little_endian.specs.Words.{bytes_of}
use Rattle.little_endian.specs.Rows.{rows}
use Rattle.little_endian.proofs.Laws.Words.{bytes_of-length}
use Rattle.little_endian.proofs.Laws.Rows.{rows-length}
use Rattle.job_sheet_put.specs.Behind.{Appended}

pub appended_none : (place : ℕ) (l : List ℕ) → Appended place [] l l
appended_none place l = record { size = refl; behind = λ front buffer e h q. q ∙ ap (λ (f : List ℕ). over f buffer) (sym (append-nil front)) }

pub appended_then : {place : ℕ} {s t x y z : List ℕ} (next : ℕ) → next ≡ place + length s → Appended place s x y → Appended next t y z → Appended place (s ++ t) x z
appended_then {place} {s} {t} {x} {y} {z} next n p q = record {
  size = q.size ∙ p.size;
  behind = λ front buffer e h k.
      let l = length-append s t in
      q.behind (front ++ s) buffer (length-append front s ∙ omega arith) (omega arith) (p.behind front buffer e (omega arith) k)
      ∙ ap (λ (f : List ℕ). over f buffer) (append_assoc front s t);
}

-- a byte
pub appended_byte : (place b : ℕ) (l : List ℕ) → place < length l → Appended place (b ∷ []) l (set l place b)
appended_byte place b l h = record {
  size = length-set l place b;
  behind = λ front buffer e w k. ap (λ (m : List ℕ). set m place b) k ∙ over-more front buffer place b (sym e) (omega arith);
}

-- a number
put-over : (front buffer s : List ℕ) (place : ℕ) → length front ≡ place → put (over front buffer) place s ≡ over (front ++ s) buffer
unfolding put
put-over front buffer s place e =
    rw (
      ← e,
      take_at front (drop (length front) buffer) (length front) refl,
      drop-append-add front (drop (length front) buffer) (length s),
      drop-drop (length s) (length front) buffer,
      length-append front s,
    )

pub appended_word : {l l' : List ℕ} (place width x : ℕ) → place + width ≤ length l → l' ≡ put l place (bytes_of width x) → Appended place (bytes_of width x) l l'
appended_word {l} {l'} place width x h q = record {
  size = ap length q ∙ put-length l place (bytes_of width x) (omega (arith, bytes_of-length width x));
  behind = λ front buffer e w k. q ∙ ap (λ (m : List ℕ). put m place (bytes_of width x)) k ∙ put-over front buffer (bytes_of width x) place e;
}

-- one row more
pub appended_row : {l l' l'' : List ℕ} (f : ℕ → List ℕ) (size : ℕ) → ((i : ℕ) → length (f i) ≡ size) → (place i : ℕ) → Appended place (rows f i) l l'
    → Appended (place + size * i) (f i) l' l'' → Appended place (rows f (i + 1)) l l''
unfolding rows
appended_row f size long place i p q =
    rw add-one (appended_then (place + size * i) (ap (λ (n : ℕ). place + n) (sym (rows-length [] f size long i))) p q)

-- the whole front
pub appended_all : {these l l' : List ℕ} → length these ≤ length l → Appended 0 these l l' → l' ≡ over these l
appended_all {these} {l} {l'} h p = p.behind [] l refl (omega arith) refl

pub no_rows : (f : ℕ → List ℕ) (place : ℕ) (l : List ℕ) → Appended place (rows f 0) l l
unfolding rows
no_rows f place l = appended_none place l
