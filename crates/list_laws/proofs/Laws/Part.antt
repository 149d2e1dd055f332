-- Laws of what specs/Part defines.
use Rattle.std.specs.Prelude.{◌≡◌, refl, ◌⊎◌, set}
use Rattle.std.proofs.Math.Path.{sym, ap, subst}
use Rattle.std.proofs.Common.{◌∙◌, inl, inr, add-zero, add-suc, add_assoc, length-drop, take-append-drop, get_or-append-add, ext_get_or}
use mathlib.Core.List.{List, [], ◌∷◌, ◌++◌, append_assoc, append-nil}
use Prim.Native.Nat.{ℕ, zero, suc, ◌+◌, ◌-◌, ◌≤◌, ◌<◌}
use Rattle.std.proofs.Math.Numerals.{add-one}
use native.Mathlib.Omega.{arith}
use Rattle.std.proofs.Math.ListN.{length, take, drop, get_or, length-append, length-take, get_or-append}
use Rattle.std.proofs.Math.Seq.{get_or-take, get_or-drop, length-take-le, set_split, append_snoc, take_at, drop_at, drop-append-add, drop-drop, sets, sets-eq}
use Rattle.std.proofs.lemmas.List.{set_comm}
use Rattle.list_laws.specs.Tabulate.{tabulate}
use Rattle.list_laws.proofs.Laws.Tabulate.{tabulate-length, tabulate_ext}
use Rattle.list_laws.specs.Part.{Apart, part, put}

-- so do parts of the two
pub apart-within : {len src n dst m : ℕ} (src' n' dst' m' : ℕ) → Apart len src n dst m → src ≤ src' → src' + n' ≤ src + n → dst ≤ dst'
    → dst' + m' ≤ dst + m → Apart len src' n' dst' m'
apart-within {len} {src} {n} {dst} {m} src' n' dst' m' a p q r s =
    record { from = omega (arith, a.from); to = omega (arith, a.to); off = go a.off }
  where
    go : ((src + n ≤ dst) ⊎ (dst + m ≤ src)) → (src' + n' ≤ dst') ⊎ (dst' + m' ≤ src')
    go (inl h) = inl (omega arith)
    go (inr h) = inr (omega arith)

module _ {A : Type 0} where
  -- within the list the default does not matter
  get_d_any : (l : List A) (i : ℕ) (a b : A) → i < length l → get_or l i a ≡ get_or l i b
  get_d_any [] i a b h = absurd (omega arith)
  get_d_any (x ∷ l) zero a b h = refl
  get_d_any (x ∷ l) (suc i) a b h = get_d_any l i a b (omega arith)

  tabulate_add : (f : ℕ → A) (m n : ℕ) → tabulate f (m + n) ≡ tabulate f m ++ tabulate (λ i. f (m + i)) n
  unfolding tabulate
  tabulate_add f m zero = rw (add-zero, append-nil)
  tabulate_add f m (suc n) = rw (add-suc, tabulate_add f m n, append_assoc)

  -- ---- part

  pub part_length : (d : List A) (at n : ℕ) → at + n ≤ length d → length (part d at n) ≡ n
  unfolding part
  part_length d at n h = simp (length-take, length-drop) (omega arith)

  pub part_at : (d : List A) (at n i : ℕ) (z : A) → i < n → get_or (part d at n) i z ≡ get_or d (at + i) z
  unfolding part
  part_at d at n i z h = rw (get_or-take, get_or-drop)

  -- an element of the part, read in the list; within the part the defaults do not matter
  pub part_read : (d : List A) (at n i : ℕ) (z z' : A) → at + n ≤ length d → i < n → get_or d (at + i) z ≡ get_or (part d at n) i z'
  part_read d at n i z z' h b = let l = part_length d at n h in sym (part_at d at n i z b) ∙ get_d_any (part d at n) i z z' (omega arith)

  -- ---- put

  module _ (d : List A) (at : ℕ) (s : List A) (fits : at + length s ≤ length d) where
    head-length : length (take at d ++ s) ≡ at + length s
    head-length = simp (length-append, length-take) (omega arith)

    pub put-length : length (put d at s) ≡ length d
    unfolding put
    put-length = simp (length-append, length-take, length-drop) (omega arith)

    -- an element off the part is as it was
    pub put_out : (i : ℕ) (z : A) → ((i < at) ⊎ (at + length s ≤ i)) → get_or (put d at s) i z ≡ get_or d i z
    unfolding put
    put_out i z (inl h) =
        get_or-append (take at d ++ s) (drop (at + length s) d) z i (omega (arith, head-length))
        ∙ get_or-append (take at d) s z i (omega (arith, length-take-le at d (omega arith)))
        ∙ get_or-take at d i z h
    put_out i z (inr h) =
        let e : at + length s + (i - (at + length s)) ≡ i = omega arith in
        let P : List A = take at d ++ s in
        let R : List A = drop (at + length s) d in
        let g : get_or (P ++ R) (at + length s + (i - (at + length s))) z ≡ get_or R (i - (at + length s)) z =
        subst (λ (k : ℕ). get_or (P ++ R) (k + (i - (at + length s))) z ≡ get_or R (i - (at + length s)) z) head-length (get_or-append-add P R _ z) in
        subst (λ (k : ℕ). get_or (P ++ R) k z ≡ get_or d k z) e (g ∙ get_or-drop (at + length s) d (i - (at + length s)) z)

    -- what is put next behind s
    put-put : (t : List A) → put (put d at s) (at + length s) t ≡ put d at (s ++ t)
    unfolding put
    put-put t =
        let P : List A = take at d ++ s in
        let R : List A = drop (at + length s) d in
        let e : take (at + length s) (P ++ R) ≡ P = take_at P R (at + length s) head-length in
        let g : drop (at + length s + length t) (P ++ R) ≡ drop (at + length s + length t) d =
        subst (λ (k : ℕ). drop (k + length t) (P ++ R) ≡ drop (at + length s + length t) d) head-length
        (drop-append-add P R (length t) ∙ drop-drop (length t) (at + length s) d) in
        rw (e, g, length-append, ← append_assoc, add_assoc)

    -- the part that was put
    pub part-put : part (put d at s) at (length s) ≡ s
    unfolding part put
    part-put =
        let l : length (take at d) ≡ at = length-take-le at d (omega arith) in
        rw (append_assoc, drop_at (take at d) (s ++ drop (at + length s) d) at l, take_at s (drop (at + length s) d) (length s) refl)

    -- a part apart from it
    pub part_put_out : (z : A) (src n : ℕ) → Apart (length d) src n at (length s) → part (put d at s) src n ≡ part d src n
    part_put_out z src n a =
        let l = put-length in
        let m : length (part (put d at s) src n) ≡ n = part_length (put d at s) src n (omega (arith, a.from)) in
        ext_get_or z (part (put d at s) src n) (part d src n) (m ∙ sym (part_length d src n a.from))
        (λ i b. let b' : i < n = omega arith in
        part_at (put d at s) src n i z b' ∙ put_out (src + i) z (off i b' a.off) ∙ sym (part_at d src n i z b'))
      where
        off : (i : ℕ) → i < n → ((src + n ≤ at) ⊎ (at + length s ≤ src)) → (src + i < at) ⊎ (at + length s ≤ src + i)
        off i b (inl p) = inl (omega arith)
        off i b (inr p) = inr (omega arith)

  put_nil : (d : List A) (at : ℕ) → put d at [] ≡ d
  unfolding put
  put_nil d at = rw (add-zero, append-nil) (take-append-drop at d)

  -- a store is a put of one element
  set-put : (d : List A) (i : ℕ) (a : A) → i < length d → set d i a ≡ put d i (a ∷ [])
  unfolding put
  set-put d i a h = set_split d i a h ∙ sym (append_snoc (take i d) a (drop (suc i) d)) ∙ rw add-one

  -- ---- a part filled by a rule

  pub fill_none : (d : List A) (at : ℕ) (f : ℕ → A) → d ≡ put d at (tabulate f 0)
  unfolding tabulate
  fill_none d at f = sym (put_nil d at)

  pub fill_length : (d : List A) (at : ℕ) (f : ℕ → A) (n : ℕ) → at + n ≤ length d → length (put d at (tabulate f n)) ≡ length d
  fill_length d at f n h = let l = tabulate-length f n in put-length d at (tabulate f n) (omega arith)

  -- a run of a rule behind another
  pub fill_run : (d : List A) (at : ℕ) (f g : ℕ → A) (m n : ℕ) → at + m + n ≤ length d → ((i : ℕ) → i < n → g i ≡ f (m + i))
      → put (put d at (tabulate f m)) (at + m) (tabulate g n) ≡ put d at (tabulate f (m + n))
  fill_run d at f g m n h e =
      let l = tabulate-length f m in
      let F = tabulate f m in
      let G = tabulate (λ i. f (m + i)) n in
      rw (tabulate_add, tabulate_ext g (λ i. f (m + i)) n e)
      (subst (λ (k : ℕ). put (put d at F) (at + k) G ≡ put d at (F ++ G)) l (put-put d at F (omega arith) G))

  -- a loop's turn: one element more
  pub fill_one : (d : List A) (at : ℕ) (f : ℕ → A) (n : ℕ) (a : A) → at + n < length d → a ≡ f n
      → set (put d at (tabulate f n)) (at + n) a ≡ put d at (tabulate f (n + 1))
  unfolding tabulate
  fill_one d at f n a h e =
      let l = fill_length d at f n (omega arith) in
      set-put (put d at (tabulate f n)) (at + n) a (omega arith)
      ∙ fill_run d at f (λ _. a) n 1 (omega arith) (λ i b. let z : n + i ≡ n = omega arith in rw z e)

  -- two more
  pub fill_two : (d : List A) (at : ℕ) (f : ℕ → A) (n : ℕ) (a b : A) → at + (n + 1) < length d → a ≡ f n → b ≡ f (n + 1)
      → set (set (put d at (tabulate f n)) (at + n) a) (at + (n + 1)) b ≡ put d at (tabulate f (n + 2))
  fill_two d at f n a b h p q =
      let e : n + 2 ≡ n + 1 + 1 = omega arith in
      rw (fill_one d at f n a (omega arith) p, e) (fill_one d at f (n + 1) b h q)

  -- the source of a loop that fills a part apart from it is read as it was
  pub read_apart : (d : List A) (at : ℕ) (f : ℕ → A) (k src n m i : ℕ) (z : A) → Apart (length d) src n at m → k ≤ m → i < n
      → get_or (put d at (tabulate f k)) (src + i) z ≡ get_or d (src + i) z
  read_apart d at f k src n m i z a h b =
      let l = tabulate-length f k in
      put_out d at (tabulate f k) (omega (arith, a.to)) (src + i) z (off a.off)
    where
      off : ((src + n ≤ at) ⊎ (at + m ≤ src)) → (src + i < at) ⊎ (at + length (tabulate f k) ≤ src + i)
      off (inl p) = inl (omega arith)
      off (inr p) = inr (omega (arith, tabulate-length f k))

  -- ---- two parts filled side by side: `sets` of lib.Seq is `put`, store by store

  set_sets : (d : List A) (at : ℕ) (s : List A) (i : ℕ) (a : A) → i < at → set (sets d at s) i a ≡ sets (set d i a) at s
  set_sets d at [] i a h = refl
  set_sets d at (x ∷ s) i a h =
      set_sets (set d at x) (suc at) s i a (omega arith) ∙ ap (λ (l : List A). sets l (suc at) s) (set_comm d at i x a (λ e. omega arith))

  sets_comm : (d : List A) (at : ℕ) (s : List A) (at' : ℕ) (t : List A) → at' + length t ≤ at → sets (sets d at s) at' t ≡ sets (sets d at' t) at s
  sets_comm d at s at' [] h = refl
  sets_comm d at s at' (x ∷ t) h =
      ap (λ (l : List A). sets l (suc at') t) (set_sets d at s at' x (omega arith)) ∙ sets_comm (set d at' x) at s (suc at') t (omega arith)

  pub put_comm : (d : List A) (at : ℕ) (s : List A) (at' : ℕ) (t : List A) → at' + length t ≤ at → at + length s ≤ length d
      → put (put d at s) at' t ≡ put (put d at' t) at s
  unfolding put
  put_comm d at s at' t h l =
      let p = put-length d at s l in
      let q = put-length d at' t (omega arith) in
      sym (sets-eq t (put d at s) at' (omega arith)) ∙ ap (λ (r : List A). sets r at' t) (sym (sets-eq s d at l))
      ∙ sets_comm d at s at' t h
      ∙ ap (λ (r : List A). sets r at s) (sets-eq t d at' (omega arith)) ∙ sets-eq s (put d at' t) at (omega arith)
