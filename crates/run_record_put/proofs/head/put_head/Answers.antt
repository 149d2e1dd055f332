-- The kind and its six fields.
use mathlib.Core.List.{◌∷◌, ◌++◌}
use native.Mathlib.Omega.{arith}
use lib.ListN.{length-set}
use Rattle.little_endian.specs.Words.{bytes_of}
use Rattle.run_record_put.proofs.Laws.Fields.{Fields, field_first, field_more}
use Rattle.run_record_put.proofs.head.put_head.Goals as goal

pub put_word-requires : goal.put_word-requires
put_word-requires c = simp length-set (omega arith)

pub put_word-requires-2 : goal.put_word-requires-2
put_word-requires-2 c = omega (
  arith,
  c.requires,
  ((let it : (let a = c.args in let h = a.head in
      Fields 0 9 (17 ∷ bytes_of 8 h.seed) a.bytes.now c.put_word.new.bytes) = field_first 0 9 17 8 c.args.head.seed (omega arith) (omega arith) c.put_word.ensures in it)).written.size,
)

pub put_word-requires-3 : goal.put_word-requires-3
put_word-requires-3 c = omega (
  arith,
  c.requires,
  ((let it : (let a = c.args in let h = a.head in
      Fields 0 17 (17 ∷ (bytes_of 8 h.seed ++ bytes_of 8 h.start)) a.bytes.now c.put_word-2.new.bytes) = field_more 9 17 8 c.args.head.start (omega arith) (omega arith) (omega (arith, c.requires)) ((let it : (let a = c.args in let h = a.head in
      Fields 0 9 (17 ∷ bytes_of 8 h.seed) a.bytes.now c.put_word.new.bytes) = field_first 0 9 17 8 c.args.head.seed (omega arith) (omega arith) c.put_word.ensures in it)) c.put_word-2.ensures in it)).written.size,
)

pub put_word-requires-4 : goal.put_word-requires-4
put_word-requires-4 c = omega (
  arith,
  c.requires,
  ((let it : (let a = c.args in let h = a.head in
      Fields 0 25 (17 ∷ (bytes_of 8 h.seed ++ bytes_of 8 h.start ++ bytes_of 8 h.end)) a.bytes.now c.put_word-3.new.bytes) = field_more 17 25 8 c.args.head.end (omega arith) (omega arith) (omega (arith, c.requires)) ((let it : (let a = c.args in let h = a.head in
      Fields 0 17 (17 ∷ (bytes_of 8 h.seed ++ bytes_of 8 h.start)) a.bytes.now c.put_word-2.new.bytes) = field_more 9 17 8 c.args.head.start (omega arith) (omega arith) (omega (arith, c.requires)) ((let it : (let a = c.args in let h = a.head in
      Fields 0 9 (17 ∷ bytes_of 8 h.seed) a.bytes.now c.put_word.new.bytes) = field_first 0 9 17 8 c.args.head.seed (omega arith) (omega arith) c.put_word.ensures in it)) c.put_word-2.ensures in it)) c.put_word-3.ensures in it)).written.size,
)

pub put_word-requires-5 : goal.put_word-requires-5
put_word-requires-5 c = omega (
  arith,
  c.requires,
  ((let it : (let a = c.args in let h = a.head in
      Fields 0 29 (17 ∷ (bytes_of 8 h.seed ++ bytes_of 8 h.start ++ bytes_of 8 h.end ++ bytes_of 4 h.samples)) a.bytes.now c.put_word-4.new.bytes) = field_more 25 29 4 c.args.head.samples (omega arith) (omega arith) (omega (arith, c.requires)) ((let it : (let a = c.args in let h = a.head in
      Fields 0 25 (17 ∷ (bytes_of 8 h.seed ++ bytes_of 8 h.start ++ bytes_of 8 h.end)) a.bytes.now c.put_word-3.new.bytes) = field_more 17 25 8 c.args.head.end (omega arith) (omega arith) (omega (arith, c.requires)) ((let it : (let a = c.args in let h = a.head in
      Fields 0 17 (17 ∷ (bytes_of 8 h.seed ++ bytes_of 8 h.start)) a.bytes.now c.put_word-2.new.bytes) = field_more 9 17 8 c.args.head.start (omega arith) (omega arith) (omega (arith, c.requires)) ((let it : (let a = c.args in let h = a.head in
      Fields 0 9 (17 ∷ bytes_of 8 h.seed) a.bytes.now c.put_word.new.bytes) = field_first 0 9 17 8 c.args.head.seed (omega arith) (omega arith) c.put_word.ensures in it)) c.put_word-2.ensures in it)) c.put_word-3.ensures in it)) c.put_word-4.ensures in it)).written.size,
)

pub put_word-requires-6 : goal.put_word-requires-6
put_word-requires-6 c = omega (
  arith,
  c.requires,
  ((let it : (let a = c.args in let h = a.head in
      Fields 0 30 (17 ∷ (bytes_of 8 h.seed ++ bytes_of 8 h.start ++ bytes_of 8 h.end ++ bytes_of 4 h.samples ++ bytes_of 1 h.betas)) a.bytes.now c.put_word-5.new.bytes) = field_more 29 30 1 c.args.head.betas (omega arith) (omega arith) (omega (arith, c.requires)) ((let it : (let a = c.args in let h = a.head in
      Fields 0 29 (17 ∷ (bytes_of 8 h.seed ++ bytes_of 8 h.start ++ bytes_of 8 h.end ++ bytes_of 4 h.samples)) a.bytes.now c.put_word-4.new.bytes) = field_more 25 29 4 c.args.head.samples (omega arith) (omega arith) (omega (arith, c.requires)) ((let it : (let a = c.args in let h = a.head in
      Fields 0 25 (17 ∷ (bytes_of 8 h.seed ++ bytes_of 8 h.start ++ bytes_of 8 h.end)) a.bytes.now c.put_word-3.new.bytes) = field_more 17 25 8 c.args.head.end (omega arith) (omega arith) (omega (arith, c.requires)) ((let it : (let a = c.args in let h = a.head in
      Fields 0 17 (17 ∷ (bytes_of 8 h.seed ++ bytes_of 8 h.start)) a.bytes.now c.put_word-2.new.bytes) = field_more 9 17 8 c.args.head.start (omega arith) (omega arith) (omega (arith, c.requires)) ((let it : (let a = c.args in let h = a.head in
      Fields 0 9 (17 ∷ bytes_of 8 h.seed) a.bytes.now c.put_word.new.bytes) = field_first 0 9 17 8 c.args.head.seed (omega arith) (omega arith) c.put_word.ensures in it)) c.put_word-2.ensures in it)) c.put_word-3.ensures in it)) c.put_word-4.ensures in it)) c.put_word-5.ensures in it)).written.size,
)

pub shape_of-bytes : goal.shape_of-bytes
shape_of-bytes c = ((let it : (let a = c.args in let h = a.head in
    Fields 0 32 (17 ∷ (bytes_of 8 h.seed ++ bytes_of 8 h.start ++ bytes_of 8 h.end ++ bytes_of 4 h.samples ++ bytes_of 1 h.betas ++ bytes_of 2 h.pairs)) a.bytes.now c.put_word-6.new.bytes) = field_more 30 32 2 c.args.head.pairs (omega arith) (omega arith) (omega (arith, c.requires)) ((let it : (let a = c.args in let h = a.head in
    Fields 0 30 (17 ∷ (bytes_of 8 h.seed ++ bytes_of 8 h.start ++ bytes_of 8 h.end ++ bytes_of 4 h.samples ++ bytes_of 1 h.betas)) a.bytes.now c.put_word-5.new.bytes) = field_more 29 30 1 c.args.head.betas (omega arith) (omega arith) (omega (arith, c.requires)) ((let it : (let a = c.args in let h = a.head in
    Fields 0 29 (17 ∷ (bytes_of 8 h.seed ++ bytes_of 8 h.start ++ bytes_of 8 h.end ++ bytes_of 4 h.samples)) a.bytes.now c.put_word-4.new.bytes) = field_more 25 29 4 c.args.head.samples (omega arith) (omega arith) (omega (arith, c.requires)) ((let it : (let a = c.args in let h = a.head in
    Fields 0 25 (17 ∷ (bytes_of 8 h.seed ++ bytes_of 8 h.start ++ bytes_of 8 h.end)) a.bytes.now c.put_word-3.new.bytes) = field_more 17 25 8 c.args.head.end (omega arith) (omega arith) (omega (arith, c.requires)) ((let it : (let a = c.args in let h = a.head in
    Fields 0 17 (17 ∷ (bytes_of 8 h.seed ++ bytes_of 8 h.start)) a.bytes.now c.put_word-2.new.bytes) = field_more 9 17 8 c.args.head.start (omega arith) (omega arith) (omega (arith, c.requires)) ((let it : (let a = c.args in let h = a.head in
    Fields 0 9 (17 ∷ bytes_of 8 h.seed) a.bytes.now c.put_word.new.bytes) = field_first 0 9 17 8 c.args.head.seed (omega arith) (omega arith) c.put_word.ensures in it)) c.put_word-2.ensures in it)) c.put_word-3.ensures in it)) c.put_word-4.ensures in it)) c.put_word-5.ensures in it)) c.put_word-6.ensures in it)).written.size

pub returns : goal.returns
returns c = ((let it : (let a = c.args in let h = a.head in
    Fields 0 32 (17 ∷ (bytes_of 8 h.seed ++ bytes_of 8 h.start ++ bytes_of 8 h.end ++ bytes_of 4 h.samples ++ bytes_of 1 h.betas ++ bytes_of 2 h.pairs)) a.bytes.now c.put_word-6.new.bytes) = field_more 30 32 2 c.args.head.pairs (omega arith) (omega arith) (omega (arith, c.requires)) ((let it : (let a = c.args in let h = a.head in
    Fields 0 30 (17 ∷ (bytes_of 8 h.seed ++ bytes_of 8 h.start ++ bytes_of 8 h.end ++ bytes_of 4 h.samples ++ bytes_of 1 h.betas)) a.bytes.now c.put_word-5.new.bytes) = field_more 29 30 1 c.args.head.betas (omega arith) (omega arith) (omega (arith, c.requires)) ((let it : (let a = c.args in let h = a.head in
    Fields 0 29 (17 ∷ (bytes_of 8 h.seed ++ bytes_of 8 h.start ++ bytes_of 8 h.end ++ bytes_of 4 h.samples)) a.bytes.now c.put_word-4.new.bytes) = field_more 25 29 4 c.args.head.samples (omega arith) (omega arith) (omega (arith, c.requires)) ((let it : (let a = c.args in let h = a.head in
    Fields 0 25 (17 ∷ (bytes_of 8 h.seed ++ bytes_of 8 h.start ++ bytes_of 8 h.end)) a.bytes.now c.put_word-3.new.bytes) = field_more 17 25 8 c.args.head.end (omega arith) (omega arith) (omega (arith, c.requires)) ((let it : (let a = c.args in let h = a.head in
    Fields 0 17 (17 ∷ (bytes_of 8 h.seed ++ bytes_of 8 h.start)) a.bytes.now c.put_word-2.new.bytes) = field_more 9 17 8 c.args.head.start (omega arith) (omega arith) (omega (arith, c.requires)) ((let it : (let a = c.args in let h = a.head in
    Fields 0 9 (17 ∷ bytes_of 8 h.seed) a.bytes.now c.put_word.new.bytes) = field_first 0 9 17 8 c.args.head.seed (omega arith) (omega arith) c.put_word.ensures in it)) c.put_word-2.ensures in it)) c.put_word-3.ensures in it)) c.put_word-4.ensures in it)) c.put_word-5.ensures in it)) c.put_word-6.ensures in it)).written
