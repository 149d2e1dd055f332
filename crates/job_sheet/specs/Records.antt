-- What stands at a place of a sheet, by the kind read last: document 02's records, little-endian, each kind a byte.
use Rattle.std.specs.Prelude.{Bool, cond, not, ◌||◌, ◌&&◌, List, ℕ, ◌+◌, eqb, ltb, leb, length, get_or}
use Rattle.std.specs.declared.result.Result.{Result}
use Rattle.std.specs.declared.result.Result.TheVariants.{Ok, Err}
use Rattle.little_endian.specs.Words.{word_at}
use Rattle.job_sheet.specs.declared.record.Record.{Record}
use Rattle.job_sheet.specs.declared.record.Record.TheVariants.{Size, Edge, Beta, Pair, End}

-- The bytes of a record, its kind's among them: 1, vertices u16 and floor u8; 2, edge ends u16, u16 and magnitude f64; 3, beta f64; 4, pair ends u16, u16; 5, end, no body.
unfoldable pub record_length : (kind : ℕ) → ℕ
record_length kind = cond (eqb kind 1) 4 (cond (eqb kind 2) 13 (cond (eqb kind 3) 9 (cond (eqb kind 4) 5 1)))

-- Exactly one kind 1 first, then all 2, all 3, all 4, then 5: which kind may stand behind the kind read last, 0 at first; from 5 on none.
unfoldable pub may_follow : (last kind : ℕ) → Bool
may_follow last kind = cond (eqb last 0) (eqb kind 1) (not (leb 5 last) && (not (ltb kind 2) && (not (ltb kind last) && leb kind 5)))

-- the kind of the record at a place; 0, which is no kind, where the sheet has no byte there
abbrev pub kind_at : List ℕ → (place : ℕ) → ℕ
kind_at sheet place = get_or sheet place 0

-- 19. The record is missing, cut short, of unknown kind or out of order.
unfoldable pub bad_record : List ℕ → (place last : ℕ) → Bool
bad_record sheet place last = not (may_follow last (kind_at sheet place)) || ltb (length sheet) (place + record_length (kind_at sheet place))

-- 20. Bytes after the end, in the end record's place.
unfoldable pub bad_tail : List ℕ → (place : ℕ) → Bool
bad_tail sheet place = not (ltb (kind_at sheet place) 5) && ltb (place + 1) (length sheet)

-- 19 before 20; 0 where the reader has a record to answer
unfoldable pub refusal_at : List ℕ → (place last : ℕ) → ℕ
refusal_at sheet place last = cond (bad_record sheet place last) 19 (cond (bad_tail sheet place) 20 0)

-- the record of a kind whose bytes begin at a place; a double by its bits
unfoldable pub record_of : List ℕ → (place kind : ℕ) → Record
record_of sheet place kind =
    cond (eqb kind 1) (Size (word_at sheet (place + 1) 2) (word_at sheet (place + 3) 1))
    (cond (eqb kind 2) (Edge (word_at sheet (place + 1) 2) (word_at sheet (place + 3) 2) (word_at sheet (place + 5) 8))
    (cond (eqb kind 3) (Beta (word_at sheet (place + 1) 8))
    (cond (eqb kind 4) (Pair (word_at sheet (place + 1) 2) (word_at sheet (place + 3) 2)) End)))

-- What the reader answers, going only by its place and the kind read last.
unfoldable pub record_at : List ℕ → (place last : ℕ) → Result Record ℕ
record_at sheet place last =
    let refusal = refusal_at sheet place last in
    cond (eqb refusal 0) (Ok (record_of sheet place (kind_at sheet place))) (Err refusal)

-- ---- an answer's number, and its values where it has them; what it has not is as it was

abbrev pub number_of : Result Record ℕ → ℕ
number_of (Ok r) = 0
number_of (Err k) = k

abbrev pub kind_of : Result Record ℕ → (old : ℕ) → ℕ
kind_of (Ok (Size n floor)) old = 1
kind_of (Ok (Edge a b m)) old = 2
kind_of (Ok (Beta x)) old = 3
kind_of (Ok (Pair u v)) old = 4
kind_of (Ok End) old = 5
kind_of (Err k) old = old

abbrev pub first_of : Result Record ℕ → (old : ℕ) → ℕ
first_of (Ok (Size n floor)) old = n
first_of (Ok (Edge a b m)) old = a
first_of (Ok (Beta x)) old = old
first_of (Ok (Pair u v)) old = u
first_of (Ok End) old = old
first_of (Err k) old = old

abbrev pub second_of : Result Record ℕ → (old : ℕ) → ℕ
second_of (Ok (Size n floor)) old = floor
second_of (Ok (Edge a b m)) old = b
second_of (Ok (Beta x)) old = old
second_of (Ok (Pair u v)) old = v
second_of (Ok End) old = old
second_of (Err k) old = old

abbrev pub value_of : Result Record ℕ → (old : ℕ) → ℕ
value_of (Ok (Size n floor)) old = old
value_of (Ok (Edge a b m)) old = m
value_of (Ok (Beta x)) old = x
value_of (Ok (Pair u v)) old = old
value_of (Ok End) old = old
value_of (Err k) old = old

-- the place behind a record that is at a place
abbrev pub next_of : Result Record ℕ → (place old : ℕ) → ℕ
next_of (Ok (Size n floor)) place old = place + 4
next_of (Ok (Edge a b m)) place old = place + 13
next_of (Ok (Beta x)) place old = place + 9
next_of (Ok (Pair u v)) place old = place + 5
next_of (Ok End) place old = place + 1
next_of (Err k) place old = old
