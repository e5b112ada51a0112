-- What judging all fields finds, in the words of the slots. Assumes nothing.
use Rattle.std.specs.Prelude.{◌≡◌, List, ℕ, length}
use Rattle.std.proofs.Common.{sym, ap, ◌∙◌, subst, zero-add, arith}
use Rattle.block.specs.Slots.{Slot, takes, sum, bad_byte, wrong_sent}
use Rattle.block.specs.Places.{selected_at, entry_at, slots_of}
use Rattle.block.specs.Walk.{Judging}
use Rattle.block.proofs.Judges as judges
use Rattle.block_judge.specs.declared.Judged.{Judged}
use Rattle.block_judge.specs.State.{judging, begun, judge_walk}
use Rattle.block.specs.Sizes.{all_places}

-- what was judged: the bitfield byte of the first bad bit, the total, and where it is right, the first field that does not agree
pub record JudgedAll (ss : List Slot) (m : List ℕ) (t : Judged) : Type 0 where
  pub bad_is : t.bad ≡ bad_byte 0 ss
  pub total_is : t.at ≡ sum takes ss
  pub wrong_is : sum takes ss ≡ length m → t.wrong ≡ wrong_sent 0 ss m

-- the state tells every field, so that what judging all answers is one struct
pub judged-one : {a b : Judged} → judging a ≡ judging b → a ≡ b
judged-one e = ap (λ (st : Judging). record { at = st.at; wrong = st.wrong; bad = st.bad }) e

pub judged_all : (message count : ℕ) (bits m : List ℕ) (t : Judged) → judging t ≡ judge_walk message count bits m all_places 0 begun → JudgedAll (slots_of message count bits) m t
judged_all message count bits m t e =
    let ss = slots_of message count bits in
    let k = subst (judges.Judged m ss 0 begun) (sym e) (judges.judged m (selected_at count bits) (entry_at message) all_places 0 begun (omega arith)) in
    record {
      bad_is = k.bad_is;
      total_is = k.at_is ∙ zero-add (sum takes ss);
      wrong_is = λ h. k.wrong_is (omega arith);
    }
