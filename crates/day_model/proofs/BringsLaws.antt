-- What a login brings on its line.
--     login-brings         whatever is logged and however many moves are made after a login, what was sent so far is a front of the list `brings`,
--                          each step sends the next of it, and after enough moves all of it was sent
--     days_login_brings    so in the day after every login of the member's
--     idle_is_whole        where a step is idle all of it was sent
-- A login lists no more of a unit than the log holds of it: so all that is logged later is above what is listed. The day's logins do.
-- Assumes nothing.
use Rattle.std.specs.Prelude.{ℕ, zero, suc, ◌+◌, ◌≤◌, ◌<◌, ◌⊎◌, ◌≡◌, refl, Bool, true, false, List, [], ◌∷◌, ◌++◌, map, eqb, ltb, length, take, get_or}
use Rattle.std.proofs.Common.{arith, inl, inr, sym, ap, ap₂, ◌∙◌, append_assoc, append-nil, length-append, eq-eqb, ne_eqb, eqb-true, lt-ltb, le-ltb}
use Rattle.std.proofs.lemmas.List.{map-append}
use Rattle.std.proofs.Math.Seq.{get_or-append_seam}
use Rattle.day_model.specs.Model.{Msg, Table, pick, keep, count, Sent, message, complete, Venue, none-msg, above, Move, idle, tells, passes, move, moved, sends, took, logged, next_in_log, World, Event, run, start}
use Rattle.day_model.specs.Laws.{count_snoc}
use Rattle.day_model.specs.Inv.{Inv, inv_run, inv_start}
use Rattle.day_model.specs.Steps.{moves_to, moves_send, doc_on, above_move, doc_step}
use Rattle.day_model.specs.Brings.{above_of, brings, Turn, moves, grows, turned, put_out, turns, sent_in, Brought}

-- ---- what a venue in a session has still to send

-- of every one of some messages
abbrev pub AllAbove : Table → List Msg → Type 0
AllAbove t [] = Unit {0}
AllAbove t (m ∷ l) = (above t m ≡ true) × AllAbove t l

all_snoc : (t : Table) (l : List Msg) (m : Msg) → AllAbove t l → above t m ≡ true → AllAbove t (l ++ m ∷ [])
all_snoc t [] m a e = (e, tt)
all_snoc t (x ∷ l) m a e = (a.0, all_snoc t l m a.1 e)

-- in the replay: the log is what was passed, what is still to be filtered, and what came later
pub record Replays (t : Table) (v : Venue) (xs : List Sent) : Type 0 where
  pub passed : List Msg
  pub filters : List Msg
  pub later : List Msg
  pub log : v.log ≡ passed ++ (filters ++ later)
  pub at : v.at ≡ length passed
  pub up_to : v.up_to ≡ length passed + length filters
  pub untold : v.told ≡ false
  pub higher : AllAbove t later
  pub is : xs ≡ brings t filters later

-- after it: what was passed, and what came later
pub record Lives (t : Table) (v : Venue) (xs : List Sent) : Type 0 where
  pub passed : List Msg
  pub later : List Msg
  pub log : v.log ≡ passed ++ later
  pub at : v.at ≡ length passed
  pub told : v.told ≡ true
  pub higher : AllAbove t later
  pub is : xs ≡ map message later

pub record Owes (t : Table) (v : Venue) (xs : List Sent) : Type 0 where
  pub runs : v.running ≡ true
  pub listed : v.listed ≡ t
  pub low : (u : ℕ) → t u ≤ count u v.log
  pub has : Replays t v xs ⊎ Lives t v xs

-- ---- one move

-- what it does to what is still to be sent
data Does (t : Table) (v : Venue) (xs : List Sent) : Type 0 where
  ends : move v ≡ idle → xs ≡ [] → Does t v xs
  tells_it : (ys : List Sent) → move v ≡ tells → v.told ≡ false → xs ≡ complete ∷ ys → Owes t (moved tells v) ys → Does t v xs
  gives : (m : Msg) (ys : List Sent) → move v ≡ passes m → above t m ≡ true → xs ≡ message m ∷ ys → Owes t (moved (passes m) v) ys → Does t v xs
  skips : (m : Msg) → move v ≡ passes m → above t m ≡ false → Owes t (moved (passes m) v) xs → Does t v xs

module _ (t : Table) (v : Venue) (runs : v.running ≡ true) (listed : v.listed ≡ t) (low : (u : ℕ) → t u ≤ count u v.log) where
  -- at a message
  passes_at : (a c : List Msg) (m : Msg) → v.log ≡ a ++ m ∷ c → v.at ≡ length a → (ltb v.at (length v.log) ≡ true) × (get_or v.log v.at none-msg ≡ m)
  passes_at a c m l e =
      let n : length v.log ≡ length a + suc (length c) = ap length l ∙ length-append a (m ∷ c) in
      (lt-ltb v.at (length v.log) (omega arith), ap₂ (λ (x : List Msg) (i : ℕ). get_or x i none-msg) l e ∙ get_or-append_seam a m c none-msg)

  replay_does : (a b c : List Msg) → v.log ≡ a ++ (b ++ c) → v.at ≡ length a → v.up_to ≡ length a + length b → v.told ≡ false → AllAbove t c → Does t v (brings t b c)
  replay_does a [] c l e p u h =
      tells_it (map message c) (rw (u, eq-eqb v.at v.up_to (omega arith))) u refl
      (record { runs = runs; listed = listed; low = low; has = inr (record { passed = a; later = c; log = l; at = e; told = refl; higher = h; is = refl }) })
  replay_does a (m ∷ b) c l e p u h = by (above t m) refl
    where
      there : (ltb v.at (length v.log) ≡ true) × (get_or v.log v.at none-msg ≡ m)
      there = passes_at a (b ++ c) m l e

      goes : move v ≡ passes m
      goes = rw (u, ne_eqb v.at v.up_to (λ z. omega (arith, z)), there.0, there.1)

      on : (xs : List Sent) → xs ≡ brings t b c → Owes t (moved (passes m) v) xs
      on xs z = record {
        runs = runs;
        listed = listed;
        low = low;
        has = inl
            (record {
              passed = a ++ m ∷ [];
              filters = b;
              later = c;
              log = l ∙ sym (append_assoc a (m ∷ []) (b ++ c));
              at = omega (arith, e, length-append a (m ∷ []));
              up_to = omega (arith, p, length-append a (m ∷ []));
              untold = u;
              higher = h;
              is = z;
            });
      }

      by : (k : Bool) → above t m ≡ k → Does t v (brings t (m ∷ b) c)
      by true z = gives m (brings t b c) goes z (ap (λ (k : Bool). map message (keep k m (above_of t b)) ++ complete ∷ map message c) z) (on (brings t b c) refl)
      by false z = skips m goes z (on (brings t (m ∷ b) c) (ap (λ (k : Bool). map message (keep k m (above_of t b)) ++ complete ∷ map message c) z))

  live_does : (a c : List Msg) → v.log ≡ a ++ c → v.at ≡ length a → v.told ≡ true → AllAbove t c → Does t v (map message c)
  live_does a [] l e u h =
      let n : length v.log ≡ length a + 0 = ap length l ∙ length-append a [] in
      ends (rw (u, le-ltb v.at (length v.log) (omega arith))) refl
  live_does a (m ∷ c) l e u h =
      let there = passes_at a c m l e in
      gives m (map message c) (rw (u, there.0, there.1)) h.0 refl
      (record {
        runs = runs;
        listed = listed;
        low = low;
        has = inr
            (record {
              passed = a ++ m ∷ [];
              later = c;
              log = l ∙ sym (append_assoc a (m ∷ []) c);
              at = omega (arith, e, length-append a (m ∷ []));
              told = u;
              higher = h.1;
              is = refl;
            });
      })

does : (t : Table) (v : Venue) (xs : List Sent) → Owes t v xs → Does t v xs
does t v xs o = by o.has
  where
    by : Replays t v xs ⊎ Lives t v xs → Does t v xs
    by (inl r) = rw r.is (replay_does t v o.runs o.listed o.low r.passed r.filters r.later r.log r.at r.up_to r.untold r.higher)
    by (inr r) = rw r.is (live_does t v o.runs o.listed o.low r.passed r.later r.log r.at r.told r.higher)

inside : (t : Table) (v : Venue) (xs : List Sent) → Owes t v xs → v.at ≤ length v.log
inside t v xs o = by o.has
  where
    by : Replays t v xs ⊎ Lives t v xs → v.at ≤ length v.log
    by (inl r) = omega (arith, r.at, ap length r.log ∙ length-append r.passed (r.filters ++ r.later))
    by (inr r) = omega (arith, r.at, ap length r.log ∙ length-append r.passed r.later)

-- what was sent is the front of what was to be sent
pub record Goes (t : Table) (v : Venue) (sent xs : List Sent) : Type 0 where
  pub rest : List Sent
  pub is : sent ++ rest ≡ xs
  pub owes : Owes t v rest

-- A MOVE sends the front
pub a_move_goes : (t : Table) (v : Venue) (xs : List Sent) → Owes t v xs → Goes t (moved (move v) v) (sends v.listed (move v)) xs
a_move_goes t v xs o = by (does t v xs o)
  where
    so : (x : Move) (sent ys : List Sent) → move v ≡ x → sends t x ≡ sent → sent ++ ys ≡ xs → Owes t (moved x v) ys → Goes t (moved (move v) v) (sends v.listed (move v)) xs
    so x sent ys e f g p = rw e (record { rest = ys; is = ap (λ (l : List Sent). l ++ ys) (ap (λ (y : Table). sends y x) o.listed ∙ f) ∙ g; owes = p })

    by : Does t v xs → Goes t (moved (move v) v) (sends v.listed (move v)) xs
    by (ends e z) = so idle [] xs e refl refl o
    by (tells_it ys e u z p) = so tells (complete ∷ []) ys e refl (sym z) p
    by (gives m ys e a z p) = so (passes m) (message m ∷ []) ys e (ap (λ (k : Bool). pick k (message m ∷ []) []) a) (sym z) p
    by (skips m e a p) = so (passes m) [] xs e (ap (λ (k : Bool). pick k (message m ∷ []) []) a) refl p

-- and so do some
pub moves_go : (n : ℕ) (t : Table) (v : Venue) (xs : List Sent) → Owes t v xs → Goes t (moves_to n v) (moves_send n v) xs
moves_go zero t v xs o = record { rest = xs; is = refl; owes = o }
moves_go (suc n) t v xs o =
    let a = a_move_goes t v xs o in
    let b = moves_go n t (moved (move v) v) a.rest a.owes in
    record {
      rest = b.rest;
      is = append_assoc (sends v.listed (move v)) (moves_send n (moved (move v) v)) b.rest
          ∙ ap (λ (l : List Sent). sends v.listed (move v) ++ l) b.is ∙ a.is;
      owes = b.owes;
    }

-- ---- a message that is logged

brings-more : (t : Table) (b c : List Msg) (m : Msg) → brings t b c ++ message m ∷ [] ≡ brings t b (c ++ m ∷ [])
brings-more t b c m =
    append_assoc (map message (above_of t b)) (complete ∷ map message c) (message m ∷ [])
    ∙ ap (λ (l : List Sent). map message (above_of t b) ++ complete ∷ l) (sym (map-append message c (m ∷ [])))

-- comes after all that is to be sent
pub a_message_more : (t : Table) (v : Venue) (xs : List Sent) (m : Msg) → next_in_log m v ≡ true → Owes t v xs → Owes t (logged true m v) (xs ++ message m ∷ [])
a_message_more t v xs m n o = record { runs = o.runs; listed = o.listed; low = higher; has = by o.has }
  where
    more : (k : Bool) (u : ℕ) → t u ≤ count u v.log → t u ≤ pick k (suc (count u v.log)) (count u v.log)
    more true u h = omega (arith, h)
    more false u h = h

    higher : (u : ℕ) → t u ≤ count u (v.log ++ m ∷ [])
    higher u = rw (count_snoc u v.log m) (more (eqb u m.unit) u (o.low u))

    is_above : above t m ≡ true
    is_above = lt-ltb (t m.unit) m.num (omega (arith, eqb-true m.num (suc (count m.unit v.log)) n, o.low m.unit))

    by : Replays t v xs ⊎ Lives t v xs → Replays t (logged true m v) (xs ++ message m ∷ []) ⊎ Lives t (logged true m v) (xs ++ message m ∷ [])
    by (inl r) = inl
        (record {
          passed = r.passed;
          filters = r.filters;
          later = r.later ++ m ∷ [];
          log = ap (λ (l : List Msg). l ++ m ∷ []) r.log ∙ append_assoc r.passed (r.filters ++ r.later) (m ∷ [])
              ∙ ap (λ (l : List Msg). r.passed ++ l) (append_assoc r.filters r.later (m ∷ []));
          at = r.at;
          up_to = r.up_to;
          untold = r.untold;
          higher = all_snoc t r.later m r.higher is_above;
          is = ap (λ (l : List Sent). l ++ message m ∷ []) r.is ∙ brings-more t r.filters r.later m;
        })
    by (inr r) = inr
        (record {
          passed = r.passed;
          later = r.later ++ m ∷ [];
          log = ap (λ (l : List Msg). l ++ m ∷ []) r.log ∙ append_assoc r.passed r.later (m ∷ []);
          at = r.at;
          told = r.told;
          higher = all_snoc t r.later m r.higher is_above;
          is = ap (λ (l : List Sent). l ++ message m ∷ []) r.is ∙ sym (map-append message r.later (m ∷ []));
        })

-- ---- a login

pub a_login_owes : (t : Table) (v : Venue) → ((u : ℕ) → t u ≤ count u v.log) → Owes t (took t v) (brings t v.log [])
a_login_owes t v h = record {
  runs = refl;
  listed = refl;
  low = h;
  has = inl
      (record {
        passed = [];
        filters = v.log;
        later = [];
        log = sym (append-nil v.log);
        at = refl;
        up_to = omega arith;
        untold = refl;
        higher = tt;
        is = refl;
      });
}

-- ---- document 01's step sends the next

pub a_step_sends_the_next : (n : ℕ) (t : Table) (v : Venue) (xs : List Sent) → Owes t v xs → length v.log < v.at + n → (doc_step n v).sent ≡ take 1 xs
a_step_sends_the_next zero t v xs o h = absurd (omega (arith, inside t v xs o))
a_step_sends_the_next (suc n) t v xs o h = by (does t v xs o) (λ m p. a_step_sends_the_next n t (moved (passes m) v) xs p (omega arith))
  where
    so : (x : Move) (k : Bool) → move v ≡ x → above_move t x ≡ k → (doc_step (suc n) v).sent ≡ (doc_on (doc_step n) k x v).sent
    so x k e f = rw (o.listed, e, f)

    by : Does t v xs → ((m : Msg) → Owes t (moved (passes m) v) xs → (doc_step n (moved (passes m) v)).sent ≡ take 1 xs) → (doc_step (suc n) v).sent ≡ take 1 xs
    by (ends e z) ih = so idle false e refl ∙ ap (take 1) (sym z)
    by (tells_it ys e u z p) ih = so tells false e refl ∙ ap (take 1) (sym z)
    by (gives m ys e a z p) ih = so (passes m) true e a ∙ ap (take 1) (sym z)
    by (skips m e a p) ih = so (passes m) false e a ∙ ih m p

-- ---- enough moves bring all

idles : (n : ℕ) (v : Venue) → move v ≡ idle → moves_send n v ≡ []
idles zero v e = refl
idles (suc n) v e = rw e (idles n v e)

-- Replay Complete is one move more
abbrev due : Bool → ℕ
due true = 0
due false = 1

all_moves : (n : ℕ) (t : Table) (v : Venue) (xs : List Sent) → Owes t v xs → length v.log + due v.told ≤ v.at + n → moves_send n v ≡ xs
all_moves zero t v xs o h = by (does t v xs o)
  where
    by : Does t v xs → [] ≡ xs
    by (ends e z) = sym z
    by (tells_it ys e u z p) = let d : due v.told ≡ 1 = ap due u in absurd (omega (arith, inside t v xs o, d))
    by (gives m ys e a z p) = absurd (omega (arith, inside t (moved (passes m) v) ys p))
    by (skips m e a p) = absurd (omega (arith, inside t (moved (passes m) v) xs p))
all_moves (suc n) t v xs o h = by (does t v xs o)
    (λ ys p u. let d : due v.told ≡ 1 = ap due u in all_moves n t (moved tells v) ys p (omega (arith, h, d)))
    (λ m ys p. all_moves n t (moved (passes m) v) ys p (omega arith))
  where
    so : (x : Move) (sent : List Sent) → move v ≡ x → sends t x ≡ sent → moves_send (suc n) v ≡ sent ++ moves_send n (moved x v)
    so x sent e f = rw (o.listed, e, f)

    by : Does t v xs → ((ys : List Sent) → Owes t (moved tells v) ys → v.told ≡ false → moves_send n (moved tells v) ≡ ys)
        → ((m : Msg) (ys : List Sent) → Owes t (moved (passes m) v) ys → moves_send n (moved (passes m) v) ≡ ys) → moves_send (suc n) v ≡ xs
    by (ends e z) ih jh = idles (suc n) v e ∙ sym z
    by (tells_it ys e u z p) ih jh = so tells (complete ∷ []) e refl ∙ ap (λ (l : List Sent). complete ∷ l) (ih ys p u) ∙ sym z
    by (gives m ys e a z p) ih jh =
        so (passes m) (message m ∷ []) e (ap (λ (k : Bool). pick k (message m ∷ []) []) a) ∙ ap (λ (l : List Sent). message m ∷ l) (jh m ys p) ∙ sym z
    by (skips m e a p) ih jh = so (passes m) [] e (ap (λ (k : Bool). pick k (message m ∷ []) []) a) ∙ jh m xs p

-- ---- from one time of a session to another

-- a venue v that had xs to send is now another, and sent some: with what was logged meanwhile behind it, xs is what it sent and what it has to send
pub record Went (t : Table) (v : Venue) (xs : List Sent) (sent : List Sent) (now : Venue) : Type 0 where
  pub later : List Msg
  pub grew : now.log ≡ v.log ++ later
  pub rest : List Sent
  pub is : sent ++ rest ≡ xs ++ map message later
  pub owes : Owes t now rest

module _ (t : Table) (v : Venue) (xs : List Sent) (o : Owes t v xs) where
  pub went_nowhere : Went t v xs [] v
  went_nowhere = record { later = []; grew = sym (append-nil v.log); rest = xs; is = sym (append-nil xs); owes = o }

  -- by some moves
  pub went_by_moves : (n : ℕ) → Went t v xs (moves_send n v) (moves_to n v)
  went_by_moves n =
      let g = moves_go n t v xs o in
      record { later = []; grew = moves_log n v ∙ sym (append-nil v.log); rest = g.rest; is = g.is ∙ sym (append-nil xs); owes = g.owes }
    where
      move-log : (m : Move) (v : Venue) → (moved m v).log ≡ v.log
      move-log idle v = refl
      move-log tells v = refl
      move-log (passes m) v = refl

      moves_log : (n : ℕ) (v : Venue) → (moves_to n v).log ≡ v.log
      moves_log zero v = refl
      moves_log (suc n) v = moves_log n (moved (move v) v) ∙ move-log (move v) v

  -- by a message that is logged, or not
  pub went_by_a_message : (m : Msg) (k : Bool) → (k ≡ true → next_in_log m v ≡ true) → Went t v xs [] (logged k m v)
  went_by_a_message m true h = record { later = m ∷ []; grew = refl; rest = xs ++ message m ∷ []; is = refl; owes = a_message_more t v xs m (h refl) o }
  went_by_a_message m false h = went_nowhere

-- one after the other
pub went_on : (t : Table) (v u w : Venue) (xs s s' : List Sent) (p : Went t v xs s u) → Went t u p.rest s' w → Went t v xs (s ++ s') w
went_on t v u w xs s s' p q =
    let a = map message p.later in
    let b = map message q.later in
    record {
      later = p.later ++ q.later;
      grew = q.grew ∙ ap (λ (l : List Msg). l ++ q.later) p.grew ∙ append_assoc v.log p.later q.later;
      rest = q.rest;
      is = append_assoc s s' q.rest
          ∙ ap (λ (l : List Sent). s ++ l) q.is
          ∙ sym (append_assoc s p.rest b)
          ∙ ap (λ (l : List Sent). l ++ b) p.is
          ∙ append_assoc xs a b
          ∙ ap (λ (l : List Sent). xs ++ l) (sym (map-append message p.later q.later));
      owes = q.owes;
    }

-- what is so after a login, from what it has come to since
pub went_brought : (t : Table) (v now : Venue) (sent : List Sent) → Went t (took t v) (brings t v.log []) sent now → Brought t v.log sent now
went_brought t v now sent w =
    record {
      later = w.later;
      grew = w.grew;
      rest = w.rest;
      front = w.is ∙ append_assoc (map message (above_of t v.log)) (complete ∷ []) (map message w.later);
      next = a_step_sends_the_next (suc (length now.log)) t now w.rest w.owes (omega arith);
      enough = all_moves (suc (length now.log)) t now w.rest w.owes (most now.told);
    }
  where
    most : (k : Bool) → length now.log + due k ≤ now.at + suc (length now.log)
    most true = omega arith
    most false = omega arith

-- ---- the laws

a_turn : (t : Table) (x : Turn) (v : Venue) (xs : List Sent) → Owes t v xs → Went t v xs (put_out x v) (turned x v)
a_turn t moves v xs o = rw (append-nil (sends v.listed (move v))) at (went_by_moves t v xs o 1)
a_turn t (grows m) v xs o = went_by_a_message t v xs o m (next_in_log m v) (λ e. e)

some-turns : (t : Table) (ts : List Turn) (v : Venue) (xs : List Sent) → Owes t v xs → Went t v xs (sent_in ts v) (turns ts v)
some-turns t [] v xs o = went_nowhere t v xs o
some-turns t (x ∷ ts) v xs o =
    let p = a_turn t x v xs o in
    went_on t v (turned x v) (turns ts (turned x v)) xs (put_out x v) (sent_in ts (turned x v)) p (some-turns t ts (turned x v) p.rest p.owes)

-- A LOGIN BRINGS the list, and nothing else
pub login-brings : (t : Table) (v : Venue) → ((u : ℕ) → t u ≤ count u v.log) → (ts : List Turn) → Brought t v.log (sent_in ts (took t v)) (turns ts (took t v))
login-brings t v h ts = went_brought t v (turns ts (took t v)) (sent_in ts (took t v)) (some-turns t ts (took t v) (brings t v.log []) (a_login_owes t v h))

-- in the day a login of the member's that is under way lists no more than the log holds
pub lists_no_more : (w : World) → Inv w → w.asks ≡ true → (u : ℕ) → w.asking u ≤ count u w.venue.log
lists_no_more w h a u = (h.waits a).low u

-- IN THE DAY the law has no premise, whatever happened before the login
pub days_login_brings : (es : List Event) → (run es start).asks ≡ true → (ts : List Turn)
    → Brought (run es start).asking (run es start).venue.log (sent_in ts (took (run es start).asking (run es start).venue)) (turns ts (took (run es start).asking (run es start).venue))
days_login_brings es e ts = login-brings (run es start).asking (run es start).venue (lists_no_more (run es start) (inv_run es start inv_start) e) ts

-- IDLE IS WHOLE: where a step is idle, all of the list was sent
pub idle_is_whole : (t : Table) (log : List Msg) (sent : List Sent) (now : Venue) (b : Brought t log sent now) → (doc_step (suc (length now.log)) now).sent ≡ []
    → sent ≡ brings t log b.later
idle_is_whole t log sent now b e = sym (append-nil sent) ∙ ap (λ (l : List Sent). sent ++ l) (sym (none b.rest (sym b.next ∙ e))) ∙ b.front
  where
    none : (l : List Sent) → take 1 l ≡ [] → l ≡ []
    none [] z = refl
    none (x ∷ l) z = let n : ◌≡◌ {A = ℕ} 1 0 = ap length z in absurd (omega (arith, n))
