-- The round trip of session messages, over the definitions that reader and writer meet.
--     written-again   what is read is written again as the same bytes, and the writer takes it where it has room
--     read_again      a record that the writer takes, written and read with any bytes after it, is the same record
-- Assumes nothing.
use Rattle.std.specs.Prelude.{◌≡◌, true, ℕ, suc, ◌+◌, ◌-◌, ◌≤◌, drop}
use Rattle.std.proofs.Math.Path.{refl, ap}
use Rattle.std.proofs.Common.{sym, ap₂, ◌∙◌, arith, length-drop}
use mathlib.Core.List.{List, [], ◌++◌, append-nil}
use Rattle.std.proofs.Math.ListN.{length, take, length-append, take-append-drop}
use Rattle.std.proofs.Math.Seq.{length-take-le, take_at, drop_at}
use Rattle.kinds.specs.Kinds.{all_nul}
use Rattle.wire.specs.Header.{header_bytes, length_of, type_of, unit_of, number_of, total_of}
use Rattle.wire.specs.HeaderLaws.{Bytes, header-length, header_number, header_total, header-again}
use Rattle.wire.specs.Frame.{frame_refusal, framed}
use Rattle.wire.proofs.FrameLaws.{Whole, accepted, framed_is}
use Rattle.block.specs.Slots.{zeros}
use Rattle.block.specs.SlotLaws.{zeros_are_nul, zeros-after}
use Rattle.session_messages.specs.Sessions.{values_good, body_end, size_of, read_refusal, body_of, record_of, record_refusal, session_bytes}
use Rattle.session_messages.proofs.SessionLaws.{values-front, Ends, body-ends, body-steady, good, is_read, Fit, fit, is_written}
use Rattle.session_messages.specs.declared.Record.{Record}

-- ---- what is read is written again

-- the body of a message that is read: its length, and its end in the record
module _ (m : List ℕ) (z : read_refusal m ≡ 0) where
  body-length : length (drop 10 m) ≡ length m - 10
  body-length = length-drop 10 m

  pub body_small : length (drop 10 m) ≤ 433
  body_small =
      let g = good m z in
      (body-ends (type_of m) (drop 10 m) (length (drop 10 m)) (omega (arith, body-length, g.there)) g.total).most

  end_again : body_end (type_of m) (body_of m) ≡ suc (length (drop 10 m))
  unfolding body_of
  end_again = body-steady (type_of m) (drop 10 m) [] (zeros (433 - length (drop 10 m))) (ap (body_end (type_of m)) (append-nil (drop 10 m)) ∙ (good m z).total)

  size-again : size_of (type_of m) (body_of m) ≡ length (drop 10 m)
  size-again = omega (arith, end_again)

  front-again : take (length (drop 10 m)) (body_of m) ≡ drop 10 m
  unfolding body_of
  front-again = take_at (drop 10 m) (zeros (433 - length (drop 10 m))) (length (drop 10 m)) refl

  rest-again : drop (length (drop 10 m)) (body_of m) ≡ zeros (433 - length (drop 10 m))
  unfolding body_of
  rest-again = drop_at (drop 10 m) (zeros (433 - length (drop 10 m))) (length (drop 10 m)) refl

  values-again : values_good (type_of m) (body_of m) ≡ true
  unfolding body_of
  values-again =
      let g = good m z in
      values-front (drop 10 m) (zeros (433 - length (drop 10 m))) (type_of m) (omega (arith, body-length, g.there)) ∙ g.values

  longer : length (drop 10 m) ≤ length (body_of m)
  unfolding body_of
  longer = omega (arith, length-append (drop 10 m) (zeros (433 - length (drop 10 m))))

  -- TAKEN AGAIN: the writer takes the record of a message that is read, where it has room
  pub taken-again : (room : ℕ) → length m ≤ room → record_refusal (record_of m) room ≡ 0
  taken-again room h =
      let g = good m z in
      is_written (type_of m) (unit_of m) (number_of m) (body_of m) room
      (record {
        known = g.known;
        no_unit = g.unit;
        no_number = g.number;
        there = omega (arith, body-length, g.there, longer);
        values = values-again;
        end = end_again ∙ ap suc (sym size-again);
        unused = ap (λ (n : ℕ). all_nul (drop n (body_of m))) size-again ∙ ap all_nul rest-again ∙ zeros_are_nul (433 - length (drop 10 m));
        has_room = omega (arith, size-again, body-length, g.there, h);
      })

module _ (m : List ℕ) (bytes : Bytes m) (w : Whole m) (exact : length m ≡ total_of m) (z : read_refusal m ≡ 0) where
  head_again : header_bytes (8 + size_of (type_of m) (body_of m)) (type_of m) (unit_of m) (number_of m) ≡ take 10 m
  unfolding total_of
  head_again =
      let n : 8 + size_of (type_of m) (body_of m) ≡ length_of m = omega (arith, size-again m z, body-length m z, (good m z).there, exact) in
      ap (λ (l : ℕ). header_bytes l (type_of m) (unit_of m) (number_of m)) n ∙ header-again m (omega (arith, (good m z).there)) bytes w.ba0 w.ba1

  -- WRITTEN AGAIN: the record of a message that is read has the message's bytes
  pub written_again : session_bytes (record_of m) ≡ m
  written_again =
      ap₂ (λ (x y : List ℕ). x ++ y) head_again (ap (λ (n : ℕ). take n (body_of m)) (size-again m z) ∙ front-again m z)
      ∙ take-append-drop 10 m

-- ---- a record that the writer takes, written and read, is the same record

-- the values of a record's type: its array's length
pub record Sound (r : Record) : Type 0 where
  pub body-length : length r.body ≡ 433

module _ (r : Record) (room : ℕ) (ok : Sound r) (z : record_refusal r room ≡ 0) where
  size : ℕ
  size = size_of r.message r.body

  kept : List ℕ
  kept = take (size_of r.message r.body) r.body

  fits : Fit r.message r.unit r.number r.body room
  fits = fit r.message r.unit r.number r.body room z

  ends : Ends r.message r.body (size_of r.message r.body)
  ends = body-ends r.message r.body (size_of r.message r.body) fits.there fits.end

  kept-length : length kept ≡ size_of r.message r.body
  unfolding kept
  kept-length = length-take-le (size_of r.message r.body) r.body ends.inside

  pub bytes-length : length (session_bytes r) ≡ 10 + size_of r.message r.body
  unfolding kept
  bytes-length = omega (arith, kept-length)

  whole-body : kept ++ drop (size_of r.message r.body) r.body ≡ r.body
  unfolding kept
  whole-body = take-append-drop (size_of r.message r.body) r.body

  kept_end : body_end r.message kept ≡ suc (length kept)
  kept_end =
      ap (body_end r.message) (sym (append-nil kept))
      ∙ body-steady r.message kept (drop (size_of r.message r.body) r.body) [] (ap (body_end r.message) whole-body ∙ fits.end ∙ ap suc (sym kept-length))

  kept-values : values_good r.message kept ≡ true
  kept-values =
      sym (values-front kept (drop (size_of r.message r.body) r.body) r.message (omega (arith, kept-length, ends.least)))
      ∙ ap (values_good r.message) whole-body
      ∙ fits.values

  number_is : number_of (session_bytes r) ≡ r.number
  number_is = header_number (8 + size_of r.message r.body) r.message r.unit r.number _ (omega (arith, fits.no_number))

  body_is : body_of (session_bytes r) ≡ r.body
  unfolding body_of kept
  body_is =
      ap (λ (n : ℕ). take (size_of r.message r.body) r.body ++ zeros (433 - n)) kept-length
      ∙ zeros-after (size_of r.message r.body) 433 r.body ok.body-length fits.unused

  -- READ AGAIN: the record of the bytes that are written is the record
  pub read_again : record_of (session_bytes r) ≡ r
  read_again = ap₂ (λ (n : ℕ) (b : List ℕ). record { message = r.message; unit = r.unit; number = n; body = b }) number_is body_is

  -- and it is read
  pub read_accepts : read_refusal (session_bytes r) ≡ 0
  unfolding kept
  read_accepts =
      is_read (session_bytes r)
      (record {
        known = fits.known;
        unit = fits.no_unit;
        number = number_is ∙ fits.no_number;
        there = omega (arith, bytes-length, ends.least);
        values = kept-values;
        total = kept_end;
      })

  -- any bytes after the message play no part: framing answers the message
  total_is : (t : List ℕ) → total_of (session_bytes r ++ t) ≡ 10 + size_of r.message r.body
  total_is t =
      header_total (8 + size_of r.message r.body) r.message r.unit r.number _ (omega (arith, ends.most))
      ∙ omega arith

  pub framed-after : (t : List ℕ) → frame_refusal (session_bytes r ++ t) ≡ 0
  framed-after t =
      let l : length_of (session_bytes r ++ t) ≡ 8 + size_of r.message r.body = header-length (8 + size_of r.message r.body) r.message r.unit r.number _ (omega (arith, ends.most)) in
      accepted (session_bytes r ++ t)
      (record {
        ba0 = refl;
        ba1 = refl;
        least = omega (arith, l);
        most = omega (arith, l, ends.most);
        fits = omega (arith, total_is t, length-append (session_bytes r) t, bytes-length);
      })

  pub framed_as_written : (t : List ℕ) → framed (session_bytes r ++ t) ≡ session_bytes r
  framed_as_written t =
      framed_is (session_bytes r ++ t) (framed-after t)
      ∙ take_at (session_bytes r) t (total_of (session_bytes r ++ t)) (bytes-length ∙ sym (total_is t))
