-- What is under way on a line: a walk over the queue, from the member's state to the state that the venue's session expects.
-- Assumes nothing.
use Rattle.std.specs.Prelude.{◌≡◌, refl, Bool, true, false, ◌&&◌, not, List, [], ◌∷◌, ◌++◌, ℕ, suc, max, take}
use Rattle.std.proofs.Common.{◌∙◌, arith}
use Rattle.std.proofs.lemmas.Bool.{eqb-false}
use Rattle.day_model.specs.Model.{Msg, Table, bump, count, Phase, closed, asked, replaying, live, Sent, response, message, complete, aside, logout, Member, takes, next_number, has_room, answered, got_in, full_in, Venue}

-- L is asked of each thing in its state, E of the last state
abbrev pub walk : {S : Type 0} → (S → Sent → S) → (S → Sent → Type 0) → (S → Type 0) → S → List Sent → Type 0
walk next L E s [] = E s
walk next L E s (x ∷ q) = L s x × walk next L E (next s x) q

pub walk-then : {S : Type 0} (next : S → Sent → S) (L : S → Sent → Type 0) (E E' : S → Type 0) (r : List Sent)
    → ((s : S) → E s → walk next L E' s r) → (s : S) (q : List Sent) → walk next L E s q → walk next L E' s (q ++ r)
walk-then next L E E' r f s [] h = f s h
walk-then next L E E' r f s (x ∷ q) h = (h.0, walk-then next L E E' r f (next s x) q h.1)

pub walk-map : {S : Type 0} (next : S → Sent → S) (L : S → Sent → Type 0) (E E' : S → Type 0)
    → ((s : S) → E s → E' s) → (s : S) (q : List Sent) → walk next L E s q → walk next L E' s q
walk-map next L E E' f s [] h = f s h
walk-map next L E E' f s (x ∷ q) h = (h.0, walk-map next L E E' f (next s x) q h.1)

-- ---- the phases

abbrev pub answer : Bool → Phase
answer true = replaying
answer false = closed

abbrev pub phase_after : Phase → Sent → Phase
phase_after closed x = closed
phase_after asked (response ok) = answer ok
phase_after asked (message m) = asked
phase_after asked complete = asked
phase_after asked aside = asked
phase_after asked logout = closed
phase_after replaying (response ok) = replaying
phase_after replaying (message m) = replaying
phase_after replaying complete = live
phase_after replaying aside = replaying
phase_after replaying logout = closed
phase_after live (response ok) = live
phase_after live (message m) = live
phase_after live complete = live
phase_after live aside = live
phase_after live logout = closed

phase_takes : (b r : Bool) (m : Msg) (s : Member) → (takes b r m s).phase ≡ s.phase
phase_takes true true m s = refl
phase_takes true false m s = refl
phase_takes false r m s = refl

phase_answered : (cap : ℕ) (b : Bool) (s : Member) → (answered cap b s).phase ≡ answer b
phase_answered cap true s = refl
phase_answered cap false s = refl

pub phase_got : (p : Phase) (cap : ℕ) (x : Sent) (s : Member) → s.phase ≡ p → (got_in p cap x s).phase ≡ phase_after p x
phase_got closed cap x s e = e
phase_got asked cap (response ok) s e = phase_answered cap ok s
phase_got asked cap (message m) s e = e
phase_got asked cap complete s e = e
phase_got asked cap aside s e = e
phase_got asked cap logout s e = refl
phase_got replaying cap (response ok) s e = e
phase_got replaying cap (message m) s e = phase_takes (next_number m s) (has_room cap m s) m s ∙ e
phase_got replaying cap complete s e = refl
phase_got replaying cap aside s e = e
phase_got replaying cap logout s e = refl
phase_got live cap (response ok) s e = e
phase_got live cap (message m) s e = phase_takes (next_number m s) (has_room cap m s) m s ∙ e
phase_got live cap complete s e = e
phase_got live cap aside s e = e
phase_got live cap logout s e = refl

-- on a line with no Logout: the answer before any message, Replay Complete once; after the end, and before the answer, only what is sent aside
abbrev pub Orderly : Phase → Sent → Type 0
Orderly closed (response ok) = ⊥
Orderly closed (message m) = ⊥
Orderly closed complete = ⊥
Orderly closed aside = Unit {0}
Orderly closed logout = ⊥
Orderly asked (response ok) = Unit {0}
Orderly asked (message m) = ⊥
Orderly asked complete = ⊥
Orderly asked aside = Unit {0}
Orderly asked logout = ⊥
Orderly replaying (response ok) = ⊥
Orderly replaying (message m) = Unit {0}
Orderly replaying complete = Unit {0}
Orderly replaying aside = Unit {0}
Orderly replaying logout = ⊥
Orderly live (response ok) = ⊥
Orderly live (message m) = Unit {0}
Orderly live complete = ⊥
Orderly live aside = Unit {0}
Orderly live logout = ⊥

-- what phase the member will be in when the line is empty, if the venue's session is on it
abbrev pub Told : Bool → Phase → Type 0
Told told closed = ⊥
Told told asked = ⊥
Told told replaying = told ≡ false
Told told live = told ≡ true

-- ---- the counts

pub record At : Type 0 where
  pub phase : Phase
  pub counts : Table

abbrev pub counts_after : Phase → Sent → Table → Table
counts_after closed x c = c
counts_after asked x c = c
counts_after replaying (response ok) c = c
counts_after replaying (message m) c = bump c m.unit
counts_after replaying complete c = c
counts_after replaying aside c = c
counts_after replaying logout c = c
counts_after live (response ok) c = c
counts_after live (message m) c = bump c m.unit
counts_after live complete c = c
counts_after live aside c = c
counts_after live logout c = c

abbrev pub step : At → Sent → At
step s x = record { phase = phase_after s.phase x; counts = counts_after s.phase x s.counts }

abbrev pub Next : Table → Msg → Type 0
Next c m = m.num ≡ suc (c m.unit)

abbrev pub Whole : List Msg → Table → Type 0
Whole held c = (u : ℕ) → c u ≡ count u held

abbrev pub GaplessIn : List Msg → Phase → Table → Sent → Type 0
GaplessIn held closed c x = Unit {0}
GaplessIn held asked c (response ok) = Unit {0}
GaplessIn held asked c (message m) = ⊥
GaplessIn held asked c complete = ⊥
GaplessIn held asked c aside = Unit {0}
GaplessIn held asked c logout = Unit {0}
GaplessIn held replaying c (response ok) = Unit {0}
GaplessIn held replaying c (message m) = Next c m
GaplessIn held replaying c complete = Whole held c
GaplessIn held replaying c aside = Unit {0}
GaplessIn held replaying c logout = Unit {0}
GaplessIn held live c (response ok) = Unit {0}
GaplessIn held live c (message m) = Next c m
GaplessIn held live c complete = ⊥
GaplessIn held live c aside = Unit {0}
GaplessIn held live c logout = Unit {0}

abbrev pub Gapless : List Msg → At → Sent → Type 0
Gapless held s x = GaplessIn held s.phase s.counts x

-- what the venue has passed of its log, from what the login listed on
abbrev pub Passed : Venue → Table → Type 0
Passed v c = (u : ℕ) → c u ≡ max (v.listed u) (count u (take v.at v.log))

abbrev pub ReachedIn : Venue → Phase → Table → Type 0
ReachedIn v closed c = Unit {0}
ReachedIn v asked c = ⊥
ReachedIn v replaying c = (v.told ≡ false) × Passed v c
ReachedIn v live c = (v.told ≡ true) × Passed v c

-- a member that waits for the answer to a login: with the numbers that the login lists; or a Logout has ended its session
abbrev pub Awaits : Table → Phase → Table → Type 0
Awaits t closed c = Unit {0}
Awaits t asked c = (u : ℕ) → c u ≡ t u
Awaits t replaying c = ⊥
Awaits t live c = ⊥

-- where j says that the venue's session is on this line
abbrev pub Reached : Bool → Venue → At → Type 0
Reached j v s = j ≡ true → ReachedIn v s.phase s.counts

-- a message in its phase that is next and not refused for room is taken
table-takes : (b r : Bool) (m : Msg) (s : Member) → next_number m s ≡ b → (b && not r) ≡ false → Next s.table m
    → (takes b r m s).table ≡ bump s.table m.unit
table-takes true true m s e f n = refl
table-takes true false m s e f n = let y : ◌≡◌ {A = ℕ} 0 1 = cc in absurd (omega arith)
table-takes false r m s e f n = absurd (eqb-false _ _ e n)

table-ends : (cap : ℕ) (b : Bool) (s : Member) → (answered cap b s).table ≡ s.table
table-ends cap true s = refl
table-ends cap false s = refl

pub table_got : (held : List Msg) (p : Phase) (cap : ℕ) (x : Sent) (s : Member) → full_in p cap x s ≡ false → GaplessIn held p s.table x
    → (got_in p cap x s).table ≡ counts_after p x s.table
table_got held closed cap x s e g = refl
table_got held asked cap (response ok) s e g = table-ends cap ok s
table_got held asked cap (message m) s e g = refl
table_got held asked cap complete s e g = refl
table_got held asked cap aside s e g = refl
table_got held asked cap logout s e g = refl
table_got held replaying cap (response ok) s e g = refl
table_got held replaying cap (message m) s e g = table-takes (next_number m s) (has_room cap m s) m s refl e g
table_got held replaying cap complete s e g = refl
table_got held replaying cap aside s e g = refl
table_got held replaying cap logout s e g = refl
table_got held live cap (response ok) s e g = refl
table_got held live cap (message m) s e g = table-takes (next_number m s) (has_room cap m s) m s refl e g
table_got held live cap complete s e g = refl
table_got held live cap aside s e g = refl
table_got held live cap logout s e g = refl
