-- What a login asks for, in the words of its groups as values.
--     thresholds_are_asked    of every login that is read, the venue's thresholds are what its groups say
-- Assumes nothing.
use Rattle.std.specs.Prelude.{◌≡◌}
use Rattle.std.proofs.Common.{sym, ◌∙◌, arith, take-append-drop, get_or-drop}
use Rattle.std.proofs.Math.Path.{ap, ap₂}
use mathlib.Core.List.{List, ◌∷◌, ◌++◌, append_assoc}
use Prim.Native.Nat.{ℕ, ◌+◌, ◌-◌, ◌≤◌, ◌<◌}
use Rattle.std.proofs.Math.ListN.{length, get_or, take, drop, length-drop}
use Rattle.std.proofs.Math.Seq.{drop-drop, drop-cons, length-take-le, take-length}
use Rattle.wire.specs.Header.{type_of, unit_of, number_of}
use Rattle.wire.specs.HeaderLaws.{Bytes}
use Rattle.block.specs.Slots.{zeros}
use Rattle.session_groups.specs.Values.{Group, groups_bytes}
use Rattle.session_groups.proofs.ValueLaws.{GroupsValue, groups_are_a_value}
use Rattle.session_groups.specs.Asked.{asked}
use Rattle.session_messages.specs.Sessions.{read_refusal, body_of, record_of}
use Rattle.session_fields.specs.AskedFor.{asked_above}
use Rattle.session_fields.specs.AskedLaws.{record_asked}
use Rattle.venue.specs.Venues.{thresholds_of, wanted_above}
use Rattle.venue.proofs.Responses.{login_long, login-short, groups_end_lem}
use Rattle.venue.proofs.ThresholdLaws.{threshold_at}

module _ (m : List ℕ) (bytes : Bytes m) (typed : type_of m ≡ 0x37) (reads : read_refusal m ≡ 0) where
  later-bytes : (i : ℕ) → get_or (drop 29 m) i 0 < 256
  later-bytes i = rw (get_or-drop 29 m i 0) (bytes (29 + i))

  value : GroupsValue (get_or m 28 0) (take (length (drop 29 m)) (drop 29 m))
  value = groups_are_a_value (get_or m 28 0) (length (drop 29 m)) (drop 29 m) later-bytes (groups_end_lem m typed reads)

  -- its groups, in order
  pub groups_of_login : List Group
  groups_of_login = value.groups

  pub groups_bytes_lem : groups_bytes groups_of_login ≡ drop 29 m
  unfolding groups_of_login
  groups_bytes_lem = value.bytes ∙ take-length (drop 29 m)

  -- its body: the names, the number of groups, the groups, and zeros
  body-parts : body_of m ≡ take 18 (drop 10 m) ++ (length groups_of_login ∷ (groups_bytes groups_of_login ++ zeros (433 - length (drop 10 m))))
  unfolding body_of groups_of_login
  body-parts =
      let z : List ℕ = zeros (433 - length (drop 10 m)) in
      let c : drop 18 (drop 10 m) ≡ get_or m 28 0 ∷ drop 29 m = drop-drop 18 10 m ∙ drop-cons m 28 0 (omega (arith, login_long m typed reads)) in
      ap (λ (l : List ℕ). l ++ z) (sym (take-append-drop 18 (drop 10 m)))
      ∙ append_assoc (take 18 (drop 10 m)) (drop 18 (drop 10 m)) z
      ∙ ap (λ (l : List ℕ). take 18 (drop 10 m) ++ (l ++ z)) c
      ∙ ap₂ (λ (n : ℕ) (l : List ℕ). take 18 (drop 10 m) ++ (n ∷ (l ++ z))) (sym value.count) (sym groups_bytes_lem)

  asked_is : (u : ℕ) → asked_above (record_of m) u ≡ asked groups_of_login u
  unfolding groups_of_login
  asked_is u =
      let long = login_long m typed reads in
      let l : length (take 18 (drop 10 m)) ≡ 18 = length-take-le 18 (drop 10 m) (omega (arith, length-drop 10 m, long)) in
      let n : 19 + length (groups_bytes groups_of_login) ≤ 433 = omega (arith, ap length groups_bytes_lem, length-drop 29 m, login-short m typed reads) in
      ap₂ (λ (t : ℕ) (b : List ℕ). asked_above (record { message = t; unit = unit_of m; number = number_of m; body = b }) u) typed body-parts
      ∙ record_asked (unit_of m) (number_of m) (take 18 (drop 10 m)) groups_of_login u (zeros (433 - length (drop 10 m))) l value.in_order.each n

  -- THRESHOLDS ARE ASKED
  pub thresholds_are_asked : (u : ℕ) → 1 ≤ u → u ≤ 32 → wanted_above (thresholds_of (record_of m)) u ≡ asked groups_of_login u
  thresholds_are_asked u h k = threshold_at (record_of m) u h k ∙ asked_is u
