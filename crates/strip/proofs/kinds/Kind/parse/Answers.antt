-- The words are compared one after the other.
use Rattle.strip.proofs.Naming.{word-told, either, parsed-square, parsed_tri, parsed_honey, parsed-eight, parsed-none}
use Rattle.strip.proofs.kinds.Kind.parse.Goals as goal

pub returns-then-same : goal.returns-then-same
returns-then-same c = let n = c.args.name.now in parsed-square n (either _ _ (word-told n "square" _ c.same.ensures) (word-told n "sq" _ c.same-2.ensures)) c.if-same.true

pub returns-then-same-2 : goal.returns-then-same-2
returns-then-same-2 c = let n = c.args.name.now in parsed_tri n (either _ _ (word-told n "square" _ c.same.ensures) (word-told n "sq" _ c.same-2.ensures)) c.if-same.false (either _ _ (word-told n "tri" _ c.same-3.ensures) (word-told n "triangular" _ c.same-4.ensures)) c.if-same-2.true

pub returns-then-honey-same : goal.returns-then-honey-same
returns-then-honey-same c = let n = c.args.name.now in parsed_honey n (either _ _ (word-told n "square" _ c.same.ensures) (word-told n "sq" _ c.same-2.ensures)) c.if-same.false (either _ _ (word-told n "tri" _ c.same-3.ensures) (word-told n "triangular" _ c.same-4.ensures)) c.if-same-2.false (either _ _ (either _ _ (word-told n "honey" _ c.same-5.ensures) (word-told n "honeycomb" _ c.same-6.ensures)) (word-told n "hex" _ c.same-7.ensures)) c.if-honey-same.true

pub returns-then-same-3 : goal.returns-then-same-3
returns-then-same-3 c = let n = c.args.name.now in parsed-eight n (either _ _ (word-told n "square" _ c.same.ensures) (word-told n "sq" _ c.same-2.ensures)) c.if-same.false (either _ _ (word-told n "tri" _ c.same-3.ensures) (word-told n "triangular" _ c.same-4.ensures)) c.if-same-2.false (either _ _ (either _ _ (word-told n "honey" _ c.same-5.ensures) (word-told n "honeycomb" _ c.same-6.ensures)) (word-told n "hex" _ c.same-7.ensures)) c.if-honey-same.false (word-told n "eight" _ c.same-8.ensures) c.if-same-3.true

pub returns : goal.returns
returns c = let n = c.args.name.now in parsed-none n (either _ _ (word-told n "square" _ c.same.ensures) (word-told n "sq" _ c.same-2.ensures)) c.if-same.false (either _ _ (word-told n "tri" _ c.same-3.ensures) (word-told n "triangular" _ c.same-4.ensures)) c.if-same-2.false (either _ _ (either _ _ (word-told n "honey" _ c.same-5.ensures) (word-told n "honeycomb" _ c.same-6.ensures)) (word-told n "hex" _ c.same-7.ensures)) c.if-honey-same.false (word-told n "eight" _ c.same-8.ensures) c.if-same-3.false
