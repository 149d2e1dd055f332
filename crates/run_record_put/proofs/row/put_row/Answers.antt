-- The kind and its five fields.
use mathlib.Core.List.{◌∷◌, ◌++◌}
use Prim.Native.Nat.{◌+◌}
use native.Mathlib.Omega.{arith}
use lib.ListN.{length-set}
use Rattle.little_endian.specs.Words.{bytes_of}
use Rattle.run_record_put.proofs.Laws.Fields.{Fields, field_first, field_more, row-sums}
use Rattle.run_record_put.proofs.row.put_row.Goals as goal

pub put_word-requires : goal.put_word-requires
put_word-requires c = simp length-set (omega arith)

pub put_word-requires-2 : goal.put_word-requires-2
put_word-requires-2 c = omega (
  arith,
  c.requires,
  ((let it : (let a = c.args in
      Fields a.place 9 (18 ∷ bytes_of 8 a.chunk) a.bytes.now c.put_word.new.bytes) = field_first c.args.place 9 18 8 c.args.chunk (omega arith) (omega arith) c.put_word.ensures in it)).written.size,
)

pub put_word-requires-3 : goal.put_word-requires-3
put_word-requires-3 c = omega (
  arith,
  c.requires,
  ((let it : (let a = c.args in
      Fields a.place 10 (18 ∷ (bytes_of 8 a.chunk ++ bytes_of 1 a.beta)) a.bytes.now c.put_word-2.new.bytes) = field_more (c.args.place + 9) 10 1 c.args.beta (omega arith) (omega arith) (omega (arith, c.requires)) ((let it : (let a = c.args in
      Fields a.place 9 (18 ∷ bytes_of 8 a.chunk) a.bytes.now c.put_word.new.bytes) = field_first c.args.place 9 18 8 c.args.chunk (omega arith) (omega arith) c.put_word.ensures in it)) c.put_word-2.ensures in it)).written.size,
)

pub put_word-requires-4 : goal.put_word-requires-4
put_word-requires-4 c = omega (
  arith,
  c.requires,
  ((let it : (let a = c.args in
      Fields a.place 12 (18 ∷ (bytes_of 8 a.chunk ++ bytes_of 1 a.beta ++ bytes_of 2 a.pair)) a.bytes.now c.put_word-3.new.bytes) = field_more (c.args.place + 10) 12 2 c.args.pair (omega arith) (omega arith) (omega (arith, c.requires)) ((let it : (let a = c.args in
      Fields a.place 10 (18 ∷ (bytes_of 8 a.chunk ++ bytes_of 1 a.beta)) a.bytes.now c.put_word-2.new.bytes) = field_more (c.args.place + 9) 10 1 c.args.beta (omega arith) (omega arith) (omega (arith, c.requires)) ((let it : (let a = c.args in
      Fields a.place 9 (18 ∷ bytes_of 8 a.chunk) a.bytes.now c.put_word.new.bytes) = field_first c.args.place 9 18 8 c.args.chunk (omega arith) (omega arith) c.put_word.ensures in it)) c.put_word-2.ensures in it)) c.put_word-3.ensures in it)).written.size,
)

pub put_word-requires-5 : goal.put_word-requires-5
put_word-requires-5 c = omega (
  arith,
  c.requires,
  ((let it : (let a = c.args in
      Fields a.place 20 (18 ∷ (bytes_of 8 a.chunk ++ bytes_of 1 a.beta ++ bytes_of 2 a.pair ++ bytes_of 8 c.bits_of.result)) a.bytes.now c.put_word-4.new.bytes) = field_more (c.args.place + 12) 20 8 c.bits_of.result (omega arith) (omega arith) (omega (arith, c.requires)) ((let it : (let a = c.args in
      Fields a.place 12 (18 ∷ (bytes_of 8 a.chunk ++ bytes_of 1 a.beta ++ bytes_of 2 a.pair)) a.bytes.now c.put_word-3.new.bytes) = field_more (c.args.place + 10) 12 2 c.args.pair (omega arith) (omega arith) (omega (arith, c.requires)) ((let it : (let a = c.args in
      Fields a.place 10 (18 ∷ (bytes_of 8 a.chunk ++ bytes_of 1 a.beta)) a.bytes.now c.put_word-2.new.bytes) = field_more (c.args.place + 9) 10 1 c.args.beta (omega arith) (omega arith) (omega (arith, c.requires)) ((let it : (let a = c.args in
      Fields a.place 9 (18 ∷ bytes_of 8 a.chunk) a.bytes.now c.put_word.new.bytes) = field_first c.args.place 9 18 8 c.args.chunk (omega arith) (omega arith) c.put_word.ensures in it)) c.put_word-2.ensures in it)) c.put_word-3.ensures in it)) c.put_word-4.ensures in it)).written.size,
)

pub shape_of-bytes : goal.shape_of-bytes
shape_of-bytes c = ((let it : (let a = c.args in
    Fields a.place 28 (18 ∷ (bytes_of 8 a.chunk ++ bytes_of 1 a.beta ++ bytes_of 2 a.pair ++ bytes_of 8 c.bits_of.result ++ bytes_of 8 c.bits_of-2.result)) a.bytes.now c.put_word-5.new.bytes) = field_more (c.args.place + 20) 28 8 c.bits_of-2.result (omega arith) (omega arith) (omega (arith, c.requires)) ((let it : (let a = c.args in
    Fields a.place 20 (18 ∷ (bytes_of 8 a.chunk ++ bytes_of 1 a.beta ++ bytes_of 2 a.pair ++ bytes_of 8 c.bits_of.result)) a.bytes.now c.put_word-4.new.bytes) = field_more (c.args.place + 12) 20 8 c.bits_of.result (omega arith) (omega arith) (omega (arith, c.requires)) ((let it : (let a = c.args in
    Fields a.place 12 (18 ∷ (bytes_of 8 a.chunk ++ bytes_of 1 a.beta ++ bytes_of 2 a.pair)) a.bytes.now c.put_word-3.new.bytes) = field_more (c.args.place + 10) 12 2 c.args.pair (omega arith) (omega arith) (omega (arith, c.requires)) ((let it : (let a = c.args in
    Fields a.place 10 (18 ∷ (bytes_of 8 a.chunk ++ bytes_of 1 a.beta)) a.bytes.now c.put_word-2.new.bytes) = field_more (c.args.place + 9) 10 1 c.args.beta (omega arith) (omega arith) (omega (arith, c.requires)) ((let it : (let a = c.args in
    Fields a.place 9 (18 ∷ bytes_of 8 a.chunk) a.bytes.now c.put_word.new.bytes) = field_first c.args.place 9 18 8 c.args.chunk (omega arith) (omega arith) c.put_word.ensures in it)) c.put_word-2.ensures in it)) c.put_word-3.ensures in it)) c.put_word-4.ensures in it)) c.put_word-5.ensures in it)).written.size

pub returns : goal.returns
returns c =
    let w = c in
    let a = w.args in
    row-sums a.place a.chunk a.beta a.pair _ _ a.squares a.fourths w.bits_of.ensures w.bits_of-2.ensures ((let it : (let a = c.args in
    Fields a.place 28 (18 ∷ (bytes_of 8 a.chunk ++ bytes_of 1 a.beta ++ bytes_of 2 a.pair ++ bytes_of 8 c.bits_of.result ++ bytes_of 8 c.bits_of-2.result)) a.bytes.now c.put_word-5.new.bytes) = field_more (c.args.place + 20) 28 8 c.bits_of-2.result (omega arith) (omega arith) (omega (arith, c.requires)) ((let it : (let a = c.args in
    Fields a.place 20 (18 ∷ (bytes_of 8 a.chunk ++ bytes_of 1 a.beta ++ bytes_of 2 a.pair ++ bytes_of 8 c.bits_of.result)) a.bytes.now c.put_word-4.new.bytes) = field_more (c.args.place + 12) 20 8 c.bits_of.result (omega arith) (omega arith) (omega (arith, c.requires)) ((let it : (let a = c.args in
    Fields a.place 12 (18 ∷ (bytes_of 8 a.chunk ++ bytes_of 1 a.beta ++ bytes_of 2 a.pair)) a.bytes.now c.put_word-3.new.bytes) = field_more (c.args.place + 10) 12 2 c.args.pair (omega arith) (omega arith) (omega (arith, c.requires)) ((let it : (let a = c.args in
    Fields a.place 10 (18 ∷ (bytes_of 8 a.chunk ++ bytes_of 1 a.beta)) a.bytes.now c.put_word-2.new.bytes) = field_more (c.args.place + 9) 10 1 c.args.beta (omega arith) (omega arith) (omega (arith, c.requires)) ((let it : (let a = c.args in
    Fields a.place 9 (18 ∷ bytes_of 8 a.chunk) a.bytes.now c.put_word.new.bytes) = field_first c.args.place 9 18 8 c.args.chunk (omega arith) (omega arith) c.put_word.ensures in it)) c.put_word-2.ensures in it)) c.put_word-3.ensures in it)) c.put_word-4.ensures in it)) c.put_word-5.ensures in it))
