-- What an answer says of the lists that were lent.
use Rattle.std.specs.Prelude.{◌≡◌, refl, Bool, true, false, List, [], ◌∷◌, ℕ, ◌+◌, ◌*◌, ◌≤◌, ◌<◌, ◌^◌, Float, length, replicate}
use Rattle.std.proofs.Common.{sym, ap, ◌∙◌, arith}
use Rattle.std.specs.declared.result.Result.TheVariants.{Ok, Err}
use Rattle.list_laws.specs.Count.{count}
use Rattle.list_laws.specs.Search.{some}
use Rattle.list_laws.proofs.Laws.Count.{count_ext}
use Rattle.list_laws.proofs.Laws.Search.{or-false}
use Rattle.euclid.specs.declared.Fraction.{Fraction}
use Rattle.euclid.specs.Euclid.{LowestTerms}
use Rattle.euclid.proofs.Theorems.{in_lowest_terms, only-lowest-terms}
use Rattle.refusals.specs.declared.Refusal.TheVariants as R
use Rattle.shares.specs.declared.answer.Shares.{Shares}
use Rattle.shares.specs.Lists.{counted_in, shares_by}
use Rattle.shares.specs.Shares.{at, bad_entry, is_above, is_zero, is_below, is_half, most_lists, most_entries, bad_lists, refuses, counted, pooled, shares_of}
use Rattle.shares.proofs.Laws.Cases.{all_kinds}
use Rattle.shares.proofs.Laws.Lists.{adds_up, some-entries, few-entries}
use Rattle.shares.proofs.Laws.Equal.{equal_lists}
use Rattle.shares.proofs.Laws.Runs.{in_lists}
use Rattle.shares.proofs.Laws.One.{one-whole, by_shares}

-- each share is its count over all entries, in lowest terms
pub record InLowestTerms (stored : List Float) (s : Shares) : Type 0 where
  pub above : LowestTerms (counted is_above stored) (length stored) s.above
  pub zeros : LowestTerms (counted is_zero stored) (length stored) s.zero
  pub below : LowestTerms (counted is_below stored) (length stored) s.below
  pub half : LowestTerms (counted is_half stored) (length stored) s.half

-- three fractions add to one, by their cross products
abbrev pub AddToOne : Fraction → Fraction → Fraction → Type 0
AddToOne f g h = f.top * g.bottom * h.bottom + g.top * f.bottom * h.bottom + h.top * f.bottom * g.bottom ≡ f.bottom * g.bottom * h.bottom

module _ (stored : List Float) (lengths : List ℕ) where
  pub refused : refuses stored lengths ≡ true → shares_of stored lengths ≡ Err R.Shares
  unfolding shares_of
  refused h = rw h

  module _ (h : refuses stored lengths ≡ false) where
    parts : (bad_lists lengths (length stored) ≡ false) × (some (λ i. bad_entry (at stored i)) (length stored) ≡ false)
    parts = or-false (bad_lists lengths (length stored)) (some (λ i. bad_entry (at stored i)) (length stored)) h

    pub answered : shares_of stored lengths ≡ Ok (pooled stored)
    unfolding shares_of
    answered = rw h

    -- from 1 to 2 ^ 32 entries
    pub entries : (0 < length stored) × (length stored ≤ 2 ^ 32)
    entries = (some-entries lengths (length stored) parts.0, few-entries lengths (length stored) parts.0)

    -- the unreduced tops of the first three add up to their bottom
    pub tops_add_up : counted is_above stored + counted is_zero stored + counted is_below stored ≡ length stored
    tops_add_up = all_kinds stored parts.1

    -- what is counted in all that is lent is what is counted list by list
    pub of-all-lists : (test : Float → Bool) → counted test stored ≡ counted_in test stored lengths (length lengths)
    of-all-lists test =
        let e = adds_up lengths (length stored) parts.0 in
        sym (in_lists test stored lengths (length lengths) (omega arith) ∙ ap (count (λ i. test (at stored i))) e)

    pub lowest-terms : InLowestTerms stored (pooled stored)
    lowest-terms = let n = entries.0 in record {
      above = in_lowest_terms (counted is_above stored) (length stored) n;
      zeros = in_lowest_terms (counted is_zero stored) (length stored) n;
      below = in_lowest_terms (counted is_below stored) (length stored) n;
      half = in_lowest_terms (counted is_half stored) (length stored) n;
    }

    -- no other four fractions are so
    pub only-lowest : (s : Shares) → InLowestTerms stored s → s ≡ pooled stored
    only-lowest s l =
        let n = entries.0 in
        by_shares s (pooled stored) (only-lowest-terms (counted is_above stored) (length stored) n s.above l.above)
        (only-lowest-terms (counted is_zero stored) (length stored) n s.zero l.zeros)
        (only-lowest-terms (counted is_below stored) (length stored) n s.below l.below)
        (only-lowest-terms (counted is_half stored) (length stored) n s.half l.half)

    pub add_to_one : AddToOne (pooled stored).above (pooled stored).zero (pooled stored).below
    add_to_one =
        let l = lowest-terms in
        one-whole (counted is_above stored) (counted is_zero stored) (counted is_below stored) (length stored) _ _ _ _ _ _
        entries.0 tops_add_up l.above.same l.zeros.same l.below.same

  -- an answer of shares comes of lists that are not refused, and has their shares
  pub accepted : (s : Shares) → shares_of stored lengths ≡ Ok s → (refuses stored lengths ≡ false) × (s ≡ pooled stored)
  accepted s e = go (refuses stored lengths) refl
    where
      go : (b : Bool) → refuses stored lengths ≡ b → (refuses stored lengths ≡ false) × (s ≡ pooled stored)
      go true h = absurd (let r = refused h in let z : ◌≡◌ {A = ℕ} 0 1 = cc in omega arith)
      go false h = (h, (let a = answered h in cc))

  -- so whatever shares are answered are in lowest terms, and the first three add to one
  pub answered-exactly : (s : Shares) → shares_of stored lengths ≡ Ok s → InLowestTerms stored s × AddToOne s.above s.zero s.below
  answered-exactly s e = let (h, is) = accepted s e in rw is (lowest-terms h, add_to_one h)

-- Good lists of one length are not refused,
pub equal_lists_answered : (stored : List Float) (lists entries : ℕ) → 0 < lists → lists ≤ most_lists → 0 < entries → entries ≤ most_entries
    → length stored ≡ lists * entries → ((i : ℕ) → i < lists * entries → bad_entry (at stored i) ≡ false)
    → shares_of stored (replicate lists entries) ≡ Ok (pooled stored)
equal_lists_answered stored lists entries l m e f n g = answered stored (replicate lists entries) (equal_lists lists entries stored l m e f n g)

-- and one list has the shares of the rule that gives its entries.
pub by_rule : (entry : ℕ → Float) (n : ℕ) (list : List Float) → 0 < n → n ≤ most_entries → length list ≡ n
    → ((i : ℕ) → i < n → at list i ≡ entry i) → ((i : ℕ) → i < n → bad_entry (entry i) ≡ false) → shares_of list (n ∷ []) ≡ Ok (shares_by entry n)
by_rule entry n list h m e r g =
    let one : 1 * n ≡ n = omega arith in
    let same : (test : Float → Bool) → counted test list ≡ count (λ i. test (entry i)) n = λ test. rw e (count_ext _ _ n (λ i l. ap test (r i l))) in
    equal_lists_answered list 1 n (omega arith) (omega arith) h m (e ∙ sym one) (λ i l. rw (r i (omega arith)) (g i (omega arith)))
    ∙ ap Ok (rw (same is_above, same is_zero, same is_below, same is_half, e))
