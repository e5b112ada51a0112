-- `session_calls::respond` meets its contract. Assumes nothing.
use mathlib.Core.Path.{refl, sym, ap, ap₂, ◌∙◌}
use native.Mathlib.Omega.{arith}
use Prim.Native.Nat.{ℕ}
use Rattle.numbers.specs.Numbers.{patched}
use Rattle.orders.specs.declared.Market.{Market}
use Rattle.session.specs.declared.Phase.TheVariants.{Replaying}
use Rattle.session.specs.declared.Session.{Session}
use Rattle.session.specs.Sessions.{status_in, received_in}
use Rattle.session.proofs.SessionLaws.{allowed, denied}
use Rattle.session_calls.specs.SessionBytes.{outgoing_at, beside_bytes, session_of, session_bytes}
use Rattle.session_calls.proofs.SessionBytesLaws.{beside_alone}
use Rattle.session_calls.proofs.respond.Goals as goal

pub returns-then-byte_at-ne65 : goal.returns-then-byte_at-ne65
returns-then-byte_at-ne65 c =
    let a = c.args in
    let s = a.state.now in
    let ended = c.end.ensures in
    let m = a.m.now in
    let b = denied (session_of s) (status_in m) (received_in m) a.buffer.now (λ e. c.if-byte_at-ne65.true (c.byte_at.ensures ∙ e)) refl ended.0 in
    (b.1, ended.1 ∙ ap (λ (x : Session). patched s 0 (session_bytes x)) b.0)

pub returns : goal.returns
unfolding session_of
returns c =
    let start = c in
    let a = start.args in
    let s = a.state.now in
    let m = a.m.now in
    let b = allowed (session_of s) (status_in m) (received_in m) a.buffer.now (sym c.byte_at.ensures ∙ c.if-byte_at-ne65.false) in (
      b.1,
      c.put.ensures
          ∙ ap₂ (λ (i : ℕ) (j : Market). patched s outgoing_at (beside_bytes Replaying i j)) c.read_u32.ensures c.market_in-market.ensures
          ∙ beside_alone s Replaying (received_in m) (session_of s).market (λ i. omega (arith, c.slice_known-2-1.given i)) start.requires
          ∙ ap (λ (x : Session). patched s 0 (session_bytes x)) b.0,
    )
