-- `asking::lines::Line::push` meets its contract. Assumes nothing.
use Rattle.std.proofs.Common.{◌≡◌, ℕ, ◌+◌, ◌<◌, ◌≤◌, List, [], ◌∷◌, ◌++◌, length, take, set, sym, ◌∙◌, arith, take_all, length-append, length-take-le}
use Rattle.std.proofs.lemmas.List.{take_more_set, take-append-le}
use Rattle.asking.proofs.lines.Line.push.Goals as goal

-- a character more stands there
one_more : (xs : List ℕ) (n b : ℕ) → length xs ≡ 8001 → n < 8001 → take (n + 1) (set xs n b) ≡ take 8001 (take n xs ++ b ∷ [])
one_more xs n b l h =
    take_more_set xs n b (omega arith)
    ∙ sym (take_all 8001 (take n xs ++ b ∷ []) (omega (arith, length-append (take n xs) (b ∷ []), length-take-le n xs (omega arith))))

-- there is no room for one more
no_more : (xs : List ℕ) (n b : ℕ) → length xs ≡ 8001 → n ≤ 8001 → 8001 ≤ n → take n xs ≡ take 8001 (take n xs ++ b ∷ [])
no_more xs n b l h k =
    let e = length-take-le n xs (omega arith) in
    let le : 8001 ≤ length (take n xs) = omega (arith, e) in
    sym (take-append-le 8001 (take n xs) (b ∷ []) le ∙ take_all 8001 (take n xs) (omega (arith, e)))

pub returns-then-self-lt-ROOM : goal.returns-then-self-lt-ROOM
returns-then-self-lt-ROOM c = one_more c.args.self.now.characters c.args.self.now.length c.args.character (omega arith) c.if-self-lt-ROOM.true

pub returns-else-self-lt-ROOM : goal.returns-else-self-lt-ROOM
returns-else-self-lt-ROOM c = no_more c.args.self.now.characters c.args.self.now.length c.args.character (omega arith) (omega arith) c.if-self-lt-ROOM.false
