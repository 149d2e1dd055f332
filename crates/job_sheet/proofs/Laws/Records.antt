-- Laws of what specs/Records defines.
use Rattle.std.proofs.Math.Path.{◌≡◌, refl}
use Rattle.std.proofs.Common.{sym, ap, ◌∙◌, arith}
use Rattle.std.specs.Prelude.{Bool, cond, not, ◌||◌, ◌&&◌, List, ◌⊎◌, ℕ, ◌+◌, ◌≤◌, ◌<◌, eqb, leb}
use Rattle.std.proofs.Math.Bool.{true, false}
use Rattle.std.proofs.Math.Logic.{inl, inr}
use Rattle.std.proofs.Math.Dec.{ltb}
use Rattle.std.proofs.Math.ListN.{length, get_or-eq_default}
use Rattle.std.specs.declared.result.Result.TheVariants.{Ok, Err}
use borrow.Author.Tests.{ne_eqb, lt-ltb, le-ltb, le-leb, lt-leb, eqb-true, eqb-false, ltb-true, ltb-false, leb-true, leb-false}
use Rattle.little_endian.specs.Words.{word_at}
use Rattle.job_sheet.specs.Records.{record_length, may_follow, kind_at, bad_record, bad_tail, refusal_at, record_of, record_at}
use Rattle.job_sheet.specs.declared.record.Record.TheVariants.{Size, Edge, Beta, Pair, End}

-- ---- which kind may follow

-- a kind that may follow: 1 at first, then 2 to 5, none below the kind read last
pub record Behind (last kind : ℕ) : Type 0 where
  pub early : last < 5
  pub from : 2 ≤ kind
  pub up : last ≤ kind
  pub to : kind ≤ 5

pub follows : (last kind : ℕ) → may_follow last kind ≡ true → ((last ≡ 0) × (kind ≡ 1)) ⊎ ((1 ≤ last) × Behind last kind)
unfolding may_follow
follows last kind h = go (eqb last 0) (leb 5 last) (ltb kind 2) (ltb kind last) refl refl refl refl h
  where
    go : (p q r s : Bool) → eqb last 0 ≡ p → leb 5 last ≡ q → ltb kind 2 ≡ r → ltb kind last ≡ s
        → cond p (eqb kind 1) (not q && (not r && (not s && leb kind 5))) ≡ true
        → ((last ≡ 0) × (kind ≡ 1)) ⊎ ((1 ≤ last) × Behind last kind)
    go true q r s a b c d h = inl (eqb-true _ _ a, eqb-true _ _ h)
    go false true r s a b c d h = absurd (let z : ◌≡◌ {A = ℕ} 0 1 = cc in omega arith)
    go false false true s a b c d h = absurd (let z : ◌≡◌ {A = ℕ} 0 1 = cc in omega arith)
    go false false false true a b c d h = absurd (let z : ◌≡◌ {A = ℕ} 0 1 = cc in omega arith)
    go false false false false a b c d h =
        inr (
          omega (arith, eqb-false last 0 a),
          record {
            early = leb-false _ _ b;
            from = ltb-false _ _ c;
            up = ltb-false _ _ d;
            to = leb-true _ _ h;
          },
        )

pub first-follows : may_follow 0 1 ≡ true
unfolding may_follow
first-follows = refl

pub may-follow : (last kind : ℕ) → 1 ≤ last → Behind last kind → may_follow last kind ≡ true
unfolding may_follow
may-follow last kind l b =
    rw (ne_eqb last 0 (λ e. omega arith), lt-leb 5 last b.early, le-ltb kind 2 b.from, le-ltb kind last b.up, le-leb kind 5 b.to)

-- 0 is no kind
no_kind : (last : ℕ) → may_follow last 0 ≡ false
unfolding may_follow
no_kind last = go (eqb last 0) (leb 5 last)
  where
    go : (p q : Bool) → cond p false (not q && false) ≡ false
    go true q = refl
    go false true = refl
    go false false = refl

-- ---- the lengths

pub length-1 : record_length 1 ≡ 4
unfolding record_length
length-1 = refl

pub length-2 : record_length 2 ≡ 13
unfolding record_length
length-2 = refl

pub length-3 : record_length 3 ≡ 9
unfolding record_length
length-3 = refl

pub length-4 : record_length 4 ≡ 5
unfolding record_length
length-4 = refl

pub length-5 : record_length 5 ≡ 1
unfolding record_length
length-5 = refl

pub length-positive : (kind : ℕ) → 1 ≤ record_length kind
unfolding record_length
length-positive kind = go (eqb kind 1) (eqb kind 2) (eqb kind 3) (eqb kind 4)
  where
    go : (p q r s : Bool) → 1 ≤ cond p 4 (cond q 13 (cond r 9 (cond s 5 1)))
    go true q r s = omega arith
    go false true r s = omega arith
    go false false true s = omega arith
    go false false false true = omega arith
    go false false false false = omega arith

-- ---- 19, 20 or a record

module _ (sheet : List ℕ) (place last : ℕ) where
  pub out_of_order : may_follow last (kind_at sheet place) ≡ false → 19 ≡ refusal_at sheet place last
  unfolding refusal_at bad_record
  out_of_order e = rw e

  pub missing : length sheet ≤ place → 19 ≡ refusal_at sheet place last
  missing h = out_of_order (ap (may_follow last) (get_or-eq_default sheet 0 h) ∙ no_kind last)

  module _ (f : may_follow last (kind_at sheet place) ≡ true) where
    pub cut_short : length sheet < place + record_length (kind_at sheet place) → 19 ≡ refusal_at sheet place last
    unfolding refusal_at bad_record
    cut_short h = rw (f, lt-ltb _ _ h)

    module _ (w : place + record_length (kind_at sheet place) ≤ length sheet) where
      pub has_body : kind_at sheet place < 5 → 0 ≡ refusal_at sheet place last
      unfolding refusal_at bad_record bad_tail
      has_body h = rw (f, le-ltb _ _ w, lt-ltb _ _ h)

      pub has_tail : 5 ≤ kind_at sheet place → place + 1 < length sheet → 20 ≡ refusal_at sheet place last
      unfolding refusal_at bad_record bad_tail
      has_tail h l = rw (f, le-ltb _ _ w, le-ltb _ _ h, lt-ltb _ _ l)

      pub has_end : 5 ≤ kind_at sheet place → length sheet ≤ place + 1 → 0 ≡ refusal_at sheet place last
      unfolding refusal_at bad_record bad_tail
      has_end h l = rw (f, le-ltb _ _ w, le-ltb _ _ h, le-ltb _ _ l)

-- the number of two tests, 19 before 20
abbrev told : Bool → Bool → ℕ
told bad tail = cond bad 19 (cond tail 20 0)

-- what the reader knows of a record that it answers, or of the end with bytes behind it
pub record Stands (sheet : List ℕ) (place last : ℕ) : Type 0 where
  pub order : may_follow last (kind_at sheet place) ≡ true
  pub whole : place + record_length (kind_at sheet place) ≤ length sheet

pub stands : (sheet : List ℕ) (place last : ℕ) → (refusal_at sheet place last ≡ 19 → ⊥) → Stands sheet place last
unfolding refusal_at bad_record
stands sheet place last h = go (may_follow last (kind_at sheet place)) (ltb (length sheet) (place + record_length (kind_at sheet place))) refl refl h
  where
    go : (p q : Bool) → may_follow last (kind_at sheet place) ≡ p → ltb (length sheet) (place + record_length (kind_at sheet place)) ≡ q
        → (told (not p || q) (bad_tail sheet place) ≡ 19 → ⊥) → Stands sheet place last
    go false q a b h = absurd (h refl)
    go true true a b h = absurd (h refl)
    go true false a b h = record { order = a; whole = ltb-false _ _ b }

pub accepted : (sheet : List ℕ) (place last : ℕ) → refusal_at sheet place last ≡ 0 → Stands sheet place last
accepted sheet place last e = stands sheet place last (λ z. omega arith)

pub accepted-within : (sheet : List ℕ) (place last : ℕ) → refusal_at sheet place last ≡ 0 → place < length sheet
accepted-within sheet place last e = omega (arith, (accepted sheet place last e).whole, length-positive (kind_at sheet place))

-- at an end that is answered nothing is behind it, and at 20 something is
module _ (sheet : List ℕ) (place last : ℕ) where
  by_tail : (refusal_at sheet place last ≡ 19 → ⊥) → refusal_at sheet place last ≡ told false (bad_tail sheet place)
  unfolding refusal_at
  by_tail h = go (bad_record sheet place last) h
    where
      go : (p : Bool) → (told p (bad_tail sheet place) ≡ 19 → ⊥) → told p (bad_tail sheet place) ≡ told false (bad_tail sheet place)
      go true h = absurd (h refl)
      go false h = refl

  -- no other number
  pub refusal-number : (refusal_at sheet place last ≡ 0) ⊎ ((refusal_at sheet place last ≡ 19) ⊎ (refusal_at sheet place last ≡ 20))
  unfolding refusal_at
  refusal-number = go (bad_record sheet place last) (bad_tail sheet place)
    where
      go : (p q : Bool) → (told p q ≡ 0) ⊎ ((told p q ≡ 19) ⊎ (told p q ≡ 20))
      go true q = inr (inl refl)
      go false true = inr (inr refl)
      go false false = inl refl

  pub ended : refusal_at sheet place last ≡ 0 → 5 ≤ kind_at sheet place → length sheet ≤ place + 1
  unfolding bad_tail
  ended e h = go (ltb (place + 1) (length sheet)) refl (sym (by_tail (λ z. omega arith)) ∙ e)
    where
      go : (t : Bool) → ltb (place + 1) (length sheet) ≡ t → told false (not (ltb (kind_at sheet place) 5) && ltb (place + 1) (length sheet)) ≡ 0 → length sheet ≤ place + 1
      go true a b = absurd (let z : ◌≡◌ {A = ℕ} 20 0 = rw (le-ltb _ _ h, a) at b in omega arith)
      go false a b = ltb-false _ _ a

  pub tailed : refusal_at sheet place last ≡ 20 → (5 ≤ kind_at sheet place) × (place + 1 < length sheet)
  unfolding bad_tail
  tailed e = go (ltb (kind_at sheet place) 5) (ltb (place + 1) (length sheet)) refl refl (sym (by_tail (λ z. omega arith)) ∙ e)
    where
      go : (s t : Bool) → ltb (kind_at sheet place) 5 ≡ s → ltb (place + 1) (length sheet) ≡ t → told false (not s && t) ≡ 20
          → (5 ≤ kind_at sheet place) × (place + 1 < length sheet)
      go true t a b c = absurd (omega arith)
      go false false a b c = absurd (omega arith)
      go false true a b c = (ltb-false _ _ a, ltb-true _ _ b)

-- ---- the record of each kind

module _ (sheet : List ℕ) (place kind : ℕ) where
  pub record_1 : {x y : ℕ} → kind ≡ 1 → x ≡ word_at sheet (place + 1) 2 → y ≡ word_at sheet (place + 3) 1 → Size x y ≡ record_of sheet place kind
  unfolding record_of
  record_1 e p q = rw (e, p, q)

  pub record_2 : {x y z : ℕ} → kind ≡ 2 → x ≡ word_at sheet (place + 1) 2 → y ≡ word_at sheet (place + 3) 2 → z ≡ word_at sheet (place + 5) 8
      → Edge x y z ≡ record_of sheet place kind
  unfolding record_of
  record_2 e p q r = rw (e, p, q, r)

  pub record_3 : {x : ℕ} → kind ≡ 3 → x ≡ word_at sheet (place + 1) 8 → Beta x ≡ record_of sheet place kind
  unfolding record_of
  record_3 e p = rw (e, p)

  pub record_4 : {x y : ℕ} → kind ≡ 4 → x ≡ word_at sheet (place + 1) 2 → y ≡ word_at sheet (place + 3) 2 → Pair x y ≡ record_of sheet place kind
  unfolding record_of
  record_4 e p q = rw (e, p, q)

  pub record_5 : (kind ≡ 1 → ⊥) → (kind ≡ 2 → ⊥) → (kind ≡ 3 → ⊥) → (kind ≡ 4 → ⊥) → End ≡ record_of sheet place kind
  unfolding record_of
  record_5 p q r s = rw (ne_eqb _ _ p, ne_eqb _ _ q, ne_eqb _ _ r, ne_eqb _ _ s)

-- the answer of a call that is refused, and of one that is not
pub answer-refused : (sheet : List ℕ) (place last k : ℕ) → k ≡ refusal_at sheet place last → (k ≡ 0 → ⊥) → Err k ≡ record_at sheet place last
unfolding record_at
answer-refused sheet place last k e z = rw (← e, ne_eqb k 0 z)

pub answer_read : (sheet : List ℕ) (place last : ℕ) → refusal_at sheet place last ≡ 0 → record_at sheet place last ≡ Ok (record_of sheet place (kind_at sheet place))
unfolding record_at
answer_read sheet place last e = rw e

-- nothing may follow the end
closed : (last kind : ℕ) → 5 ≤ last → may_follow last kind ≡ false
unfolding may_follow
closed last kind h = rw (ne_eqb last 0 (λ e. omega arith), le-leb 5 last h)

pub from_five : (sheet : List ℕ) (place last : ℕ) → 5 ≤ last → refusal_at sheet place last ≡ 19
from_five sheet place last h = sym (out_of_order sheet place last (closed last (kind_at sheet place) h))
