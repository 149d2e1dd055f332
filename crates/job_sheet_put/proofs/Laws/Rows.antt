-- A row more of each kind, from lists as they are lent; and a whole sheet.
use Rattle.std.specs.Prelude.{◌≡◌, refl, ℕ, zero, suc, ◌+◌, ◌*◌, ◌<◌, Float, length, get_or, set}
use Rattle.std.proofs.Common.{sym, subst, ◌∙◌, zero-add, arith}
use mathlib.Core.List.{List, [], ◌++◌}
use Rattle.std.specs.Float.{nan, binary64}
use Rattle.std.specs.Float.Ieee.{to_bits}
use Rattle.std.proofs.Math.ListN.{length-append}
use Rattle.list_laws.specs.Front.{over}
use Rattle.list_laws.proofs.Laws.Tabulate.{tabulate-length, tabulate-at}
use Rattle.little_endian.specs.Rows.{rows}
use Rattle.little_endian.proofs.Laws.Rows.{rows-length}
use Rattle.job_sheet.specs.Sheets.{edge_place, beta_place, end_place}
use Rattle.job_sheet_bytes.specs.Jobs.{size_record, edge_record, beta_record, pair_record, edge_rows, beta_rows, bits_of, given, sheet_of}
use Rattle.job_sheet_bytes.proofs.Laws.Bytes.{size-length, edge-length, beta-length, pair-length, sheet-length}
use Rattle.job_sheet_put.specs.Behind.{Appended, raw_edge, raw_beta, raw_pair, Room}
use Rattle.job_sheet_put.proofs.Laws.Behind.{appended_byte, appended_then, appended_row, appended_all}

pub edge_row : (a b : List ℕ) (m : List Float) (place i bits : ℕ) {l l' l'' : List ℕ} → Appended place (rows (raw_edge a b m) i) l l'
    → bits ≡ to_bits binary64 (get_or m i nan) → Appended (place + 13 * i) (edge_record (get_or a i 0) (get_or b i 0) bits) l' l''
    → Appended place (rows (raw_edge a b m) (i + 1)) l l''
edge_row a b m place i bits {l} {l'} {l''} p e q =
    appended_row (raw_edge a b m) 13 (λ k. edge-length _ _ _) place i p
    (subst (λ (x : ℕ). Appended (place + 13 * i) (edge_record (get_or a i 0) (get_or b i 0) x) l' l'') e q)

pub beta-row : (betas : List Float) (place i bits : ℕ) {l l' l'' : List ℕ} → Appended place (rows (raw_beta betas) i) l l'
    → bits ≡ to_bits binary64 (get_or betas i nan) → Appended (place + 9 * i) (beta_record bits) l' l'' → Appended place (rows (raw_beta betas) (i + 1)) l l''
beta-row betas place i bits {l} {l'} {l''} p e q =
    appended_row (raw_beta betas) 9 (λ k. beta-length _) place i p (subst (λ (x : ℕ). Appended (place + 9 * i) (beta_record x) l' l'') e q)

pub pair_row : (us vs : List ℕ) (place i : ℕ) {l l' l'' : List ℕ} → Appended place (rows (raw_pair us vs) i) l l'
    → Appended (place + 5 * i) (pair_record (get_or us i 0) (get_or vs i 0)) l' l'' → Appended place (rows (raw_pair us vs) (i + 1)) l l''
pair_row us vs place i p q = appended_row (raw_pair us vs) 5 (λ k. pair-length _ _) place i p q

-- ---- the rows of the lists are those of the job

rows_alike : (f g : ℕ → List ℕ) (n : ℕ) → ((i : ℕ) → i < n → f i ≡ g i) → rows f n ≡ rows g n
unfolding rows
rows_alike f g zero h = refl
rows_alike f g (suc n) h = rw (rows_alike f g n (λ i l. h i (omega arith)), h n (omega arith))

pub bits_at : (xs : List Float) (i : ℕ) → i < length xs → get_or (bits_of xs) i 0 ≡ to_bits binary64 (get_or xs i nan)
unfolding bits_of
bits_at xs i h = tabulate-at _ (length xs) i 0 h

pub bits-length : (xs : List Float) → length (bits_of xs) ≡ length xs
unfolding bits_of
bits-length xs = tabulate-length _ (length xs)

edges_alike : (a b : List ℕ) (m : List Float) → length m ≡ length a → rows (raw_edge a b m) (length a) ≡ rows (edge_rows a b (bits_of m)) (length a)
edges_alike a b m e = rows_alike _ _ (length a) (λ i h. rw (bits_at m i (omega arith)))

betas_alike : (betas : List Float) → rows (raw_beta betas) (length betas) ≡ rows (beta_rows (bits_of betas)) (length (bits_of betas))
betas_alike betas = rw (bits-length betas) (rows_alike _ _ (length betas) (λ i h. rw (bits_at betas i h)))

-- ---- the sheet

module _ (n floor : ℕ) (a b : List ℕ) (m : List Float) (us vs : List ℕ) (betas : List Float) {l l₁ l₂ l₃ l₄ : List ℕ} (r : Room l a b m us vs betas)
    (p₁ : Appended 0 (size_record n floor) l l₁) (p₂ : Appended 4 (rows (raw_edge a b m) (length a)) l₁ l₂)
    (p₃ : Appended (edge_place (length a)) (rows (raw_beta betas) (length betas)) l₂ l₃)
    (p₄ : Appended (beta_place (length a) (length betas)) (rows (raw_pair us vs) (length us)) l₃ l₄) where
  raw-edges : List ℕ
  raw-edges = rows (raw_edge a b m) (length a)

  raw-betas : List ℕ
  raw-betas = rows (raw_beta betas) (length betas)

  raw-pairs : List ℕ
  raw-pairs = rows (raw_pair us vs) (length us)

  to-edges : length (size_record n floor ++ raw-edges) ≡ edge_place (length a)
  unfolding raw-edges
  to-edges =
      length-append (size_record n floor) raw-edges
      ∙ omega (arith, size-length n floor, rows-length [] (raw_edge a b m) 13 (λ i. edge-length _ _ _) (length a))

  to-betas : length (size_record n floor ++ raw-edges ++ raw-betas) ≡ beta_place (length a) (length betas)
  unfolding raw-betas
  to-betas =
      length-append (size_record n floor ++ raw-edges) raw-betas
      ∙ omega (arith, to-edges, rows-length [] (raw_beta betas) 9 (λ i. beta-length _) (length betas))

  to-pairs : length (size_record n floor ++ raw-edges ++ raw-betas ++ raw-pairs) ≡ end_place (length a) (length betas) (length us)
  unfolding raw-pairs
  to-pairs =
      length-append (size_record n floor ++ raw-edges ++ raw-betas) raw-pairs
      ∙ omega (arith, to-betas, rows-length [] (raw_pair us vs) 5 (λ i. pair-length _ _) (length us))

  pub pairs-size : length l₄ ≡ length l
  pairs-size = p₄.size ∙ p₃.size ∙ p₂.size ∙ p₁.size

  pub sheet_appended : Appended 0 (sheet_of (given n floor a b m us vs betas)) l (set l₄ (end_place (length a) (length betas) (length us)) 5)
  unfolding sheet_of raw-edges raw-betas raw-pairs
  sheet_appended =
      rw (← edges_alike a b m r.sized, ← betas_alike betas)
      (appended_then (end_place (length a) (length betas) (length us)) (sym (zero-add _ ∙ to-pairs))
      (appended_then (beta_place (length a) (length betas)) (sym (zero-add _ ∙ to-betas))
      (appended_then (edge_place (length a)) (sym (zero-add _ ∙ to-edges)) (appended_then 4 (sym (zero-add _ ∙ size-length n floor)) p₁ p₂) p₃) p₄)
      (appended_byte (end_place (length a) (length betas) (length us)) 5 l₄ (omega (arith, pairs-size, r.long))))

  pub sheet-over : set l₄ (end_place (length a) (length betas) (length us)) 5 ≡ over (sheet_of (given n floor a b m us vs betas)) l
  sheet-over =
      appended_all (omega (arith, sheet-length (given n floor a b m us vs betas), bits-length betas, r.long)) sheet_appended
