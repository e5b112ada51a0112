-- `kinds::long_agrees` meets its contract: a word that ends with NUL is followed by NUL alone, and after any other the rest is a text. Assumes nothing.
use mathlib.Core.Path.{◌≡◌, refl, sym, ap, ap₂, ◌∙◌}
use mathlib.Core.Bool.{◌&&◌, true, false}
use mathlib.Core.List.{List, ◌++◌}
use Prim.Native.Nat.{ℕ}
use native.Mathlib.Omega.{arith}
use lib.ListN.{take, drop, take-append-drop}
use Rattle.kinds.specs.Kinds.{all_nul, agrees_text}
use Rattle.kinds.specs.Words.{kind_of}
use Rattle.numbers.specs.Numbers.{bytes_of}
use Rattle.numbers.specs.NumberLaws.{bytes-later}
use Rattle.kinds.proofs.Walk.{tail_is}
use Rattle.kinds.proofs.Joins.{word-ends, word_goes_on, rest_is}
use Rattle.kinds.proofs.long_agrees.Goals as goal

-- the first word, and what is left after it
word_front : (r : List ℕ) (w : ℕ) → bytes_of 8 w ≡ take 8 r → r ≡ bytes_of 8 w ++ drop 8 r
word_front r w e = sym (take-append-drop 8 r) ∙ ap (λ t. t ++ drop 8 r) (sym e)

pub loop-rest-init : goal.loop-rest-init
loop-rest-init c = (refl, λ j. (c.type_inv.s j).fits)

pub returns-then-x-lt72057594037927936 : goal.returns-then-x-lt72057594037927936
returns-then-x-lt72057594037927936 c =
    let r = c.loop-rest.rest.now in
    let k = kind_of c.args.plain in
    let w = c.word-x.result in
    let front = word_front r w c.word-x.ensures in
    c.both.ensures
    ∙ ap₂ ◌&&◌ c.word_agrees.ensures (c.is_blank.ensures ∙ ap all_nul (tail_is r 8 c.loop-rest-test.true))
    ∙ sym (ap (agrees_text k) front ∙ word-ends k w (drop 8 r) c.if-x-lt72057594037927936.true)
    ∙ c.loop-rest.invariant.0

pub returns-then-not-word_agrees : goal.returns-then-not-word_agrees
returns-then-not-word_agrees c =
    let r = c.loop-rest.rest.now in
    let k = kind_of c.args.plain in
    let w = c.word-x.result in
    let front = word_front r w c.word-x.ensures in
    let bad : agrees_text k (bytes_of 8 w) ≡ false = sym c.word_agrees-in-loop-rest.ensures ∙ c.if-not-word_agrees.true in
    sym (ap (agrees_text k) front ∙ word_goes_on k w (drop 8 r) c.if-x-lt72057594037927936.false (omega arith) ∙ ap (λ t. t && agrees_text k (drop 8 r)) bad)
    ∙ c.loop-rest.invariant.0

pub loop-rest-preserved : goal.loop-rest-preserved
loop-rest-preserved c =
    let r = c.loop-rest.rest.now in
    let k = kind_of c.args.plain in
    let w = c.word-x.result in
    let front = word_front r w c.word-x.ensures in
    let good : agrees_text k (bytes_of 8 w) ≡ true = sym c.word_agrees-in-loop-rest.ensures ∙ c.if-not-word_agrees.false in
    let left = tail_is r 8 c.loop-rest-test.true in (
      ap (agrees_text k) left
          ∙ sym (ap (agrees_text k) front ∙ word_goes_on k w (drop 8 r) c.if-x-lt72057594037927936.false (omega arith) ∙ ap (λ t. t && agrees_text k (drop 8 r)) good)
          ∙ c.loop-rest.invariant.0,
      λ j. rw left (bytes-later 8 r c.loop-rest.invariant.1 j),
    )

pub returns : goal.returns
returns c =
    let k = kind_of c.args.plain in
    c.word_agrees-2.ensures
    ∙ ap (λ x. agrees_text k (bytes_of 8 x)) c.read_u64.ensures
    ∙ rest_is k c.loop-rest.rest.now 0 (omega arith) (omega arith) c.loop-rest.invariant.1
    ∙ c.loop-rest.invariant.0
