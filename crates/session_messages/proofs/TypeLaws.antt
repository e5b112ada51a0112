-- The types that are known are those of the messages. Assumes nothing.
use Rattle.std.specs.Prelude.{◌≡◌, refl, ◌||◌, Bool, true, false, cond, List, [], ℕ, eqb, Option, Some, None, Ok, Err}
use Rattle.std.specs.Option.{ok_or}
use Rattle.std.proofs.Common.{ap, sym, ◌∙◌, eqb-true}
use Rattle.session_messages.specs.declared.Message.{Message}
use Rattle.session_messages.specs.declared.Message.TheVariants.{LoginRequest, ClientHeartbeat, LoginResponse, Logout, ServerHeartbeat, ReplayComplete}
use Rattle.session_messages.specs.Types.{type_byte, message_at, or_last, message_as}
use Rattle.session_messages.specs.Sessions.{of_member, of_venue}
use Rattle.session_messages.specs.ValueFields.{value_fields}

pub none_of : {A : Type 0} {o : Option A} {e t : ℕ} → ok_or o e ≡ Err t → (o ≡ None) × (t ≡ e)
none_of {o = None} q = (refl, cc q)
none_of {o = Some x} q = absurd (cc q)

pub some_of : {A : Type 0} {o : Option A} (e : ℕ) {x : A} → ok_or o e ≡ Ok x → o ≡ Some x
some_of {o = None} e q = absurd (cc q)
some_of {o = Some y} e q = cc q

-- one test of the chain
step : (t k : ℕ) (x m : Message) (rest : Option Message) → type_byte x ≡ k → (rest ≡ Some m → type_byte m ≡ t) → cond (eqb t k) (Some x) rest ≡ Some m → type_byte m ≡ t
step t k x m rest h more e = by (eqb t k) refl e
  where
    by : (b : Bool) → eqb t k ≡ b → cond b (Some x) rest ≡ Some m → type_byte m ≡ t
    by true q e = let z : m ≡ x = cc e in ap type_byte z ∙ h ∙ sym (eqb-true t k q)
    by false q e = more e

-- a message has the type that it is found by
pub typed : (t : ℕ) (m : Message) → message_at t ≡ Some m → type_byte m ≡ t
unfolding message_at
typed t m e =
    step t 0x37 LoginRequest m _ refl
    (step t 0x03 ClientHeartbeat m _ refl
    (step t 0x24 LoginResponse m _ refl
    (step t 0x08 Logout m _ refl
    (step t 0x09 ServerHeartbeat m _ refl
    (step t 0x13 ReplayComplete m _ refl
    (λ (q : None ≡ Some m). absurd (cc q))))))) e

pub unknown : (t : ℕ) → message_at t ≡ None → (of_member t || of_venue t) ≡ false
unfolding message_at
unknown t e = by (eqb t 0x37) (eqb t 0x03) (eqb t 0x24) (eqb t 0x08) (eqb t 0x09) (eqb t 0x13) e
  where
    by : (a b c d f g : Bool) → cond a (Some LoginRequest) (cond b (Some ClientHeartbeat) (cond c (Some LoginResponse) (cond d (Some Logout) (cond f (Some ServerHeartbeat) (cond g (Some ReplayComplete) None))))) ≡ None
        → ((a || b) || (c || (d || (f || g)))) ≡ false
    by true b c d f g e = absurd (cc e)
    by false true c d f g e = absurd (cc e)
    by false false true d f g e = absurd (cc e)
    by false false false true f g e = absurd (cc e)
    by false false false false true g e = absurd (cc e)
    by false false false false false true e = absurd (cc e)
    by false false false false false false e = refl

pub known : (t : ℕ) (m : Message) → message_at t ≡ Some m → (of_member t || of_venue t) ≡ true
unfolding message_at
known t m e = by (eqb t 0x37) (eqb t 0x03) (eqb t 0x24) (eqb t 0x08) (eqb t 0x09) (eqb t 0x13) e
  where
    by : (a b c d f g : Bool) → cond a (Some LoginRequest) (cond b (Some ClientHeartbeat) (cond c (Some LoginResponse) (cond d (Some Logout) (cond f (Some ServerHeartbeat) (cond g (Some ReplayComplete) None))))) ≡ Some m
        → ((a || b) || (c || (d || (f || g)))) ≡ true
    by true b c d f g e = refl
    by false true c d f g e = refl
    by false false true d f g e = refl
    by false false false true f g e = refl
    by false false false false true g e = refl
    by false false false false false true e = refl
    by false false false false false false e = absurd (cc e)

pub as_is : (t : ℕ) (m : Message) → message_at t ≡ Some m → m ≡ message_as t
unfolding message_as
as_is t m e = sym (ap or_last e)

-- where the head is not refused
pub found : (t : ℕ) → (of_member t || of_venue t) ≡ true → type_byte (message_as t) ≡ t
unfolding message_as
found t h = by (message_at t) refl
  where
    by : (o : Option Message) → message_at t ≡ o → type_byte (or_last o) ≡ t
    by (Some m) e = typed t m e
    by None e = absurd (cc (h, unknown t e))

-- a header alone has no values
pub no_fields : (m : Message) (b : List ℕ) → (m ≡ LoginRequest → ⊥) → (m ≡ LoginResponse → ⊥) → (m ≡ Logout → ⊥) → value_fields (type_byte m) b ≡ []
unfolding value_fields
no_fields LoginRequest b x y z = absurd (x refl)
no_fields ClientHeartbeat b x y z = refl
no_fields LoginResponse b x y z = absurd (y refl)
no_fields Logout b x y z = absurd (z refl)
no_fields ServerHeartbeat b x y z = refl
no_fields ReplayComplete b x y z = refl
