-- Requests: each want that isn't ready stands at one spot, in flight, in a queue or granted, and nothing else
-- is asked or granted. Each step keeps it.
use Rattle.std.proofs.Common.{◌≡◌, ◌≢◌, ◌⊎◌, inl, inr, ℕ, ◌+◌, ◌≤◌, arith, List, [], ◌∷◌, ◌++◌, map, refl, ap, sym, subst, ◌∙◌, Bool, true, false, cond}
use Rattle.std.specs.Prelude.{◌==◌, ◌&&◌, if◌then◌else◌, Option, Some, None}
use Rattle.std.specs.Option.{option_to_list}
use Rattle.bmx_types.specs.declared.numbers.Mode.{Mode}
use Rattle.bmx_types.specs.declared.numbers.Mode.TheVariants.{Read, Write}
use Rattle.bmx_token.specs.declared.parts.Ask.{Ask}
use Rattle.bmx_token.specs.declared.parts.Role.TheVariants.{Owner, Parent}
use Rattle.bmx_token.specs.declared.parts.Part.{Part}
use Rattle.bmx_token.specs.Nodes.{nodes_with}
use Rattle.bmx_token.specs.Transitions.{Share, Note, Asks, Grants, Recalls, Returns, Send, send, Transition, silently, saying, with_token, with_copy, without_copy, made_share, heard_share}
use Rattle.bmx_token_model.specs.Machine.{Object, Run, IsFirst, with_holding}
use Rattle.bmx_token_model.specs.Laws.{owned_at, queue_at}
use Rattle.bmx_token.specs.Transitions.{same_mode, is_request_of, is_grant_of}
use Rattle.bmx_token_model.proofs.Spots.{Spot, Unasked, InFlight, Queued, Granted, IsAlone, at_spot, moves_spot, alone_elsewhere, at_most_one}
use Rattle.bmx_token_model.proofs.Tallies.{tally, notes, Cases, Same, Apart, cases, same_true}
use Rattle.bmx_token_model.proofs.First.{untouched, first_holds}
use Rattle.bmx_token_model.proofs.Acts.{Alters, TakesWanted, Reads, Writes, Joins, Frees, Readies, Acts, Rests, Hears, AltersTo, Wants, Answers, GrantsRead, HandsOver, Revokes, Arrives, Forwards, GetsRead, GetsWrite, ReturnsNone, ReturnsNow, ReturnsLater, GetsBack}
use Rattle.bmx_token_model.proofs.Moves.{notes_to, sent, came, Moves, Changes, Makes, Transits, Forgets, none_moves, kept_changes, tally-came, tally-sent, tally-before, tally-after, came-nothing, sent-nothing, tally-send, nothing-send, asks-send, recalls-nothing}
use Rattle.bmx_token_model.proofs.Owners.{owned_as}

-- ## counts

-- 1 where a note is the request of a node in a mode, and where it grants a mode
abbrev pub ask : Mode → ℕ → Note → ℕ
ask m a n = if is_request_of m a n then 1 else 0

abbrev pub granting : Mode → Note → ℕ
granting m n = if is_grant_of m n then 1 else 0

-- how often a node stands in a queue with a mode
abbrev pub queued : Mode → ℕ → List Ask → ℕ
queued m a [] = 0
queued m a (q ∷ qs) = (if same_mode m q.mode && (q.asker == a) then 1 else 0) + queued m a qs

-- 1 where a mode is wanted, and isn't ready
abbrev pub wanting_as : Mode → Option Mode → Bool → ℕ
wanting_as m None ready = 0
wanting_as m (Some n) true = 0
wanting_as m (Some n) false = if same_mode m n then 1 else 0

abbrev pub wanting : Mode → Option Share → ℕ
wanting m None = 0
wanting m (Some h) = wanting_as m h.part.want h.part.ready

-- ## what stands at a spot

-- 1 where a mode isn't wanted, or is ready
abbrev pub unwanting_as : Mode → Option Mode → Bool → ℕ
unwanting_as m None ready = 1
unwanting_as m (Some n) true = 1
unwanting_as m (Some n) false = if same_mode m n then 0 else 1

abbrev pub unwanting : Mode → Option Share → ℕ
unwanting m None = 1
unwanting m (Some h) = unwanting_as m h.part.want h.part.ready

pub wants_or_not : (m : Mode) (h : Option Share) → wanting m h + unwanting m h ≡ 1
wants_or_not m None = refl
wants_or_not m (Some b) = by_want b.part.want b.part.ready
  where
    by_mode : (p : Bool) → cond {A = ℕ} p 1 0 + cond p 0 1 ≡ 1
    by_mode true = refl
    by_mode false = refl

    by_want : (w : Option Mode) (r : Bool) → wanting_as m w r + unwanting_as m w r ≡ 1
    by_want None r = refl
    by_want (Some n) true = refl
    by_want (Some n) false = by_mode (same_mode m n)

-- how often the want of a node in a mode stands at a spot
abbrev pub stands : Object → Mode → ℕ → Spot → ℕ
stands w m a Unasked = unwanting m (w.holds a)
stands w m a (InFlight n k) = tally (ask m a) (notes (w.channel n k))
stands w m a (Queued n) = queued m a (queue_at (w.holds n))
stands w m a (Granted n) = tally (granting m) (notes (w.channel n a))

-- nothing is ready where nothing is wanted
abbrev pub IsCalm : Option Share → Type 0
IsCalm None = Unit {0}
IsCalm (Some b) = b.part.want ≡ None → b.part.ready ≡ false

-- what holds of the want and the queue of a node
pub record IsAsking (a : ℕ) (h : Option Share) : Type 0 where
  pub calm : IsCalm h
  pub empty : owned_at h ≡ 0 → queue_at h ≡ []
  pub no_read : owned_at h ≡ 1 → wanting Read h ≡ 0
  pub joined : owned_at h ≡ 1 → wanting Write h ≤ queued Write a (queue_at h)

pub record IsRequested (w : Object) : Type 0 where
  pub nodes : (a : ℕ) → IsAsking a (w.holds a)
  pub spots : (m : Mode) (a : ℕ) → (s : Spot) × IsAlone (stands w m a) s

-- ## what leaves a spot, and what comes to one

-- notes that neither ask nor grant
record IsMute (notes : List Note) : Type 0 where
  asks : (m : Mode) (a : ℕ) → tally (ask m a) notes ≡ 0
  grants : (m : Mode) → tally (granting m) notes ≡ 0

-- so often node a's want in mode m leaves a spot, where node me takes a note or none, and its queue and its own want
-- change
record Leaves (me from : ℕ) (taken : Option Note) (m : Mode) (a : ℕ) (q r : List Ask) (u v : ℕ) (x : Spot) (c : ℕ) : Type 0 where
  channel : (n k : ℕ) → at_spot x c (InFlight n k) ≡ tally (ask m a) (came from me taken n k)
  grant : (n : ℕ) → at_spot x c (Granted n) ≡ tally (granting m) (came from me taken n a)
  queue : queued m a r + at_spot x c (Queued me) ≡ queued m a q
  other : (n : ℕ) → n ≢ me → at_spot x c (Queued n) ≡ 0
  want : a ≡ me → v + at_spot x c Unasked ≡ u
  unwant : a ≢ me → at_spot x c Unasked ≡ 0

-- so often it comes to one, where node me sends notes, and its queue and its own want change
record Comes (me : ℕ) (sends : List Send) (m : Mode) (a : ℕ) (q r : List Ask) (u v : ℕ) (y : Spot) (c : ℕ) : Type 0 where
  channel : (n k : ℕ) → at_spot y c (InFlight n k) ≡ tally (ask m a) (sent me sends n k)
  grant : (n : ℕ) → at_spot y c (Granted n) ≡ tally (granting m) (sent me sends n a)
  queue : queued m a r ≡ queued m a q + at_spot y c (Queued me)
  other : (n : ℕ) → n ≢ me → at_spot y c (Queued n) ≡ 0
  want : a ≡ me → v ≡ u + at_spot y c Unasked
  unwant : a ≢ me → at_spot y c Unasked ≡ 0

-- an act takes a want from one spot to another
abbrev SomeEffect : ℕ → ℕ → Option Note → Option Share → Transition → Mode → ℕ → Type 0
SomeEffect me from taken h t m a =
    (x : Spot) × (y : Spot) × (c : ℕ) × (r : List Ask) × (v : ℕ) × Leaves me from taken m a (queue_at h) r (unwanting m h) v x c
    × Comes me t.sends m a r (queue_at t.after) v (unwanting m t.after) y c

holds_at : (o p : Object) (me from : ℕ) (taken : Option Note) (t : Transition) → Moves o p me from taken t → p.holds me ≡ t.after
holds_at o p me from taken t h = h.holds me ∙ ap (λ (u : Bool). cond u t.after (o.holds me)) (same_true me)

holds_else : (o p : Object) (me from : ℕ) (taken : Option Note) (t : Transition) → Moves o p me from taken t → (n : ℕ) → (me == n) ≡ false → p.holds n ≡ o.holds n
holds_else o p me from taken t h n e = h.holds n ∙ ap (λ (u : Bool). cond u t.after (o.holds n)) e

effect_moves : (o p : Object) (me from : ℕ) (taken : Option Note) (t : Transition) → Moves o p me from taken t → (m : Mode) (a : ℕ) (e : SomeEffect me from taken (o.holds me) t m a) (s : Spot) →
    stands p m a s + at_spot e.0 e.2 s ≡ stands o m a s + at_spot e.1 e.2 s
effect_moves o p me from taken t h m a e (InFlight n k) =
    omega (arith, e.5.channel n k, e.6.channel n k, tally-before (ask m a) o p me from taken t h n k, tally-after (ask m a) o p me from taken t h n k)
effect_moves o p me from taken t h m a e (Granted n) =
    omega (arith, e.5.grant n, e.6.grant n, tally-before (granting m) o p me from taken t h n a, tally-after (granting m) o p me from taken t h n a)
effect_moves o p me from taken t h m a e (Queued n) = by_case (cases n me)
  where
    by_case : Cases n me → stands p m a (Queued n) + at_spot e.0 e.2 (Queued n) ≡ stands o m a (Queued n) + at_spot e.1 e.2 (Queued n)
    by_case (Same f u) = rw f (rw (holds_at o p me from taken t h) (omega (arith, e.5.queue, e.6.queue)))
    by_case (Apart f u) = omega (arith, e.5.other n f, e.6.other n f, ap (λ z. queued m a (queue_at z)) (holds_else o p me from taken t h n u))
effect_moves o p me from taken t h m a e Unasked = by_case (cases a me)
  where
    by_case : Cases a me → stands p m a Unasked + at_spot e.0 e.2 Unasked ≡ stands o m a Unasked + at_spot e.1 e.2 Unasked
    by_case (Same f u) =
        omega (arith, e.5.want f, e.6.want f, ap (λ z. unwanting m (p.holds z)) f ∙ ap (unwanting m) (holds_at o p me from taken t h), ap (λ z. unwanting m (o.holds z)) f)
    by_case (Apart f u) = omega (arith, e.5.unwant f, e.6.unwant f, ap (unwanting m) (holds_else o p me from taken t h a u))

-- ## numbers of one note

none_cond : (p : Bool) → cond {A = ℕ} p 0 0 ≡ 0
none_cond true = refl
none_cond false = refl

both_is : (p q : Bool) (c : ℕ) → cond (p && q) c 0 ≡ cond q (cond p c 0) 0
both_is true true c = refl
both_is true false c = refl
both_is false true c = refl
both_is false false c = refl

both_was : (p q : Bool) (c : ℕ) → cond (p && q) c 0 ≡ cond p (cond q c 0) 0
both_was true q c = refl
both_was false q c = refl

-- what stands in the channel that a note was taken of, and in the channel that one was put on
way_came : (f : Note → ℕ) (from me : ℕ) (note : Note) (n k : ℕ) → at_spot (InFlight from me) (f note + 0) (InFlight n k) ≡ tally f (came from me (Some note) n k)
way_came f from me note n k = both_is (from == n) (me == k) (f note + 0) ∙ sym (tally-came f from me (Some note) n k)

one_sent : (f : Note → ℕ) (me to : ℕ) (note : Note) (n k : ℕ) → tally f (sent me (send to note ∷ []) n k) ≡ cond (me == n) (cond (to == k) (f note + 0) 0) 0
one_sent f me to note n k = by_tests (me == n) (to == k)
  where
    by_tests : (p q : Bool) → tally f (cond p (cond q (note ∷ []) [] ++ []) []) ≡ cond p (cond q (f note + 0) 0) 0
    by_tests true true = refl
    by_tests true false = refl
    by_tests false q = refl

way_sent : (f : Note → ℕ) (me to : ℕ) (note : Note) (n k : ℕ) → at_spot (InFlight me to) (f note + 0) (InFlight n k) ≡ tally f (sent me (send to note ∷ []) n k)
way_sent f me to note n k = both_was (me == n) (to == k) (f note + 0) ∙ sym (one_sent f me to note n k)

no_came : (f : Note → ℕ) (from me : ℕ) (taken : Option Note) (n k : ℕ) → tally f (option_to_list taken) ≡ 0 → 0 ≡ tally f (came from me taken n k)
no_came f from me taken n k h = sym (came-nothing f from me taken n k h)

none_came : (f : Note → ℕ) (from me n k : ℕ) → 0 ≡ tally f (came from me None n k)
none_came f from me n k = no_came f from me None n k refl

no_sent : (f : Note → ℕ) (me : ℕ) (sends : List Send) (n k : ℕ) → tally f (notes_to k sends) ≡ 0 → 0 ≡ tally f (sent me sends n k)
no_sent f me sends n k h = sym (sent-nothing f me sends n k h)

none_sent : (f : Note → ℕ) (me n k : ℕ) → 0 ≡ tally f (sent me [] n k)
none_sent f me n k = no_sent f me [] n k refl

queued_more : (m : Mode) (a : ℕ) (qs : List Ask) (q : Ask) → queued m a (qs ++ q ∷ []) ≡ queued m a qs + queued m a (q ∷ [])
queued_more m a [] q = omega arith
queued_more m a (r ∷ qs) q = omega (arith, queued_more m a qs q)

apart_spot : (n me c : ℕ) → n ≢ me → at_spot (Queued me) c (Queued n) ≡ 0
apart_spot n me c d = by_case (cases n me)
  where
    by_case : Cases n me → cond (me == n) c 0 ≡ 0
    by_case (Same e t) = absurd (d e)
    by_case (Apart e t) = rw t refl

here_spot : (me c : ℕ) → at_spot (Queued me) c (Queued me) ≡ c
here_spot me c = rw (same_true me) refl

mode_or_not : (p : Bool) → cond {A = ℕ} p 0 1 + (cond (p && true) 1 0 + 0) ≡ 1
mode_or_not true = refl
mode_or_not false = refl

apart_ask : (m n : Mode) (a b : ℕ) → a ≢ b → cond {A = ℕ} (same_mode m n && (b == a)) 1 0 ≡ 0
apart_ask m n a b d = by_case (cases a b)
  where
    by_test : (p : Bool) → cond {A = ℕ} (p && false) 1 0 ≡ 0
    by_test true = refl
    by_test false = refl

    by_case : Cases a b → cond {A = ℕ} (same_mode m n && (b == a)) 1 0 ≡ 0
    by_case (Same e t) = absurd (d e)
    by_case (Apart e t) = rw t (by_test (same_mode m n))

-- a want that is in the queue is of that mode, and not ready
wants_write : (b : Share) → wanting Write (Some b) ≡ 1 → (b.part.want ≡ Some Write) × (b.part.ready ≡ false)
wants_write b h = by_want b.part.want b.part.ready refl refl h
  where
    by_want : (w : Option Mode) (r : Bool) → b.part.want ≡ w → b.part.ready ≡ r → wanting_as Write w r ≡ 1 → (b.part.want ≡ Some Write) × (b.part.ready ≡ false)
    by_want None r e f g = absurd (omega (arith, g))
    by_want (Some n) true e f g = absurd (omega (arith, g))
    by_want (Some Read) false e f g = absurd (omega (arith, g))
    by_want (Some Write) false e f g = (e, f)

write_or_not : (m : Mode) → 1 ≡ unwanting_as m (Some Write) false + cond {A = ℕ} (same_mode m Write && true) 1 0
write_or_not Read = refl
write_or_not Write = refl

-- ## one spot

nothing_mute : IsMute []
nothing_mute = record { asks = λ m a. refl; grants = λ m. refl }

back_mute : (to k : ℕ) → IsMute (notes_to k (send to Returns ∷ []))
back_mute to k = record { asks = λ m a. nothing-send (ask m a) k to Returns [] refl refl; grants = λ m. nothing-send (granting m) k to Returns [] refl refl }

-- nothing leaves, or comes
leaves_nothing : (me from : ℕ) (taken : Option Note) (m : Mode) (a : ℕ) (q : List Ask) (u : ℕ) → IsMute (option_to_list taken) → Leaves me from taken m a q q u u Unasked 0
leaves_nothing me from taken m a q u x = record {
  channel = λ n k. no_came (ask m a) from me taken n k (x.asks m a);
  grant = λ n. no_came (granting m) from me taken n a (x.grants m);
  queue = omega arith;
  other = λ n d. refl;
  want = λ e. omega arith;
  unwant = λ d. refl;
}

comes_nothing : (me : ℕ) (sends : List Send) (m : Mode) (a : ℕ) (q : List Ask) (u : ℕ) → ((k : ℕ) → IsMute (notes_to k sends)) → Comes me sends m a q q u u Unasked 0
comes_nothing me sends m a q u l = record {
  channel = λ n k. no_sent (ask m a) me sends n k ((l k).asks m a);
  grant = λ n. no_sent (granting m) me sends n a ((l a).grants m);
  queue = omega arith;
  other = λ n d. refl;
  want = λ e. omega arith;
  unwant = λ d. refl;
}

passes : (me from : ℕ) (taken : Option Note) (h : Option Share) (t : Transition) (m : Mode) (a : ℕ) → queue_at t.after ≡ queue_at h → wanting m t.after ≡ wanting m h →
    IsMute (option_to_list taken) → ((k : ℕ) → IsMute (notes_to k t.sends)) → SomeEffect me from taken h t m a
passes me from taken h t m a q w x l =
    let u : unwanting m t.after ≡ unwanting m h = omega (arith, w, wants_or_not m t.after, wants_or_not m h) in
    (Unasked, Unasked, 0, queue_at h, unwanting m h, leaves_nothing me from taken m a _ _ x, rw (q, u) (comes_nothing me t.sends m a _ _ l))

-- it is asked of a note that is taken, or put into one that is sent
leaves_way : (me from : ℕ) (n : Mode) (asker : ℕ) (m : Mode) (a : ℕ) (q : List Ask) (u : ℕ) → Leaves me from (Some (Asks n asker)) m a q q u u (InFlight from me) (ask m a (Asks n asker) + 0)
leaves_way me from n asker m a q u = record {
  channel = λ j k. way_came (ask m a) from me (Asks n asker) j k;
  grant = λ j. no_came (granting m) from me (Some (Asks n asker)) j a refl;
  queue = omega arith;
  other = λ j d. refl;
  want = λ e. omega arith;
  unwant = λ d. refl;
}

comes_way : (me to : ℕ) (n : Mode) (asker : ℕ) (m : Mode) (a : ℕ) (q : List Ask) (u : ℕ) → Comes me (send to (Asks n asker) ∷ []) m a q q u u (InFlight me to) (ask m a (Asks n asker) + 0)
comes_way me to n asker m a q u = record {
  channel = λ j k. way_sent (ask m a) me to (Asks n asker) j k;
  grant = λ j. no_sent (granting m) me (send to (Asks n asker) ∷ []) j a (nothing-send (granting m) a to (Asks n asker) [] refl refl);
  queue = omega arith;
  other = λ j d. refl;
  want = λ e. omega arith;
  unwant = λ d. refl;
}

-- it leaves the queue, or goes into it
leaves_queue : (me from : ℕ) (m : Mode) (a : ℕ) (q r : List Ask) (u c : ℕ) → queued m a q ≡ c + queued m a r → Leaves me from None m a q r u u (Queued me) c
leaves_queue me from m a q r u c e = record {
  channel = λ j k. none_came (ask m a) from me j k;
  grant = λ j. none_came (granting m) from me j a;
  queue = omega (arith, e, here_spot me c);
  other = λ j d. apart_spot j me c d;
  want = λ e. omega arith;
  unwant = λ d. refl;
}

comes_queue : (me : ℕ) (m : Mode) (a : ℕ) (q : List Ask) (x : Ask) (u : ℕ) → Comes me [] m a q (q ++ x ∷ []) u u (Queued me) (queued m a (x ∷ []))
comes_queue me m a q x u = record {
  channel = λ j k. none_sent (ask m a) me j k;
  grant = λ j. none_sent (granting m) me j a;
  queue = omega (arith, queued_more m a q x, here_spot me (queued m a (x ∷ [])));
  other = λ j d. apart_spot j me _ d;
  want = λ e. omega arith;
  unwant = λ d. refl;
}

-- the node itself begins to want, or what it wanted is ready
leaves_want : (me from : ℕ) (m : Mode) (a : ℕ) (q : List Ask) (u v c : ℕ) → (a ≡ me → v + c ≡ u) → (a ≢ me → c ≡ 0) → Leaves me from None m a q q u v Unasked c
leaves_want me from m a q u v c now other = record {
  channel = λ j k. none_came (ask m a) from me j k;
  grant = λ j. none_came (granting m) from me j a;
  queue = omega arith;
  other = λ j d. refl;
  want = now;
  unwant = other;
}

comes_want : (me : ℕ) (m : Mode) (a : ℕ) (q : List Ask) (u v c : ℕ) → (a ≡ me → v ≡ u + c) → (a ≢ me → c ≡ 0) → Comes me [] m a q q u v Unasked c
comes_want me m a q u v c now other = record {
  channel = λ j k. none_sent (ask m a) me j k;
  grant = λ j. none_sent (granting m) me j a;
  queue = omega arith;
  other = λ j d. refl;
  want = now;
  unwant = other;
}

-- ## effects

-- a node that wanted nothing wants a mode
now_wants : (me a : ℕ) (b : Share) (m n : Mode) → b.part.want ≡ None → b.part.ready ≡ false → a ≡ me → unwanting_as m (Some n) b.part.ready + (ask m a (Asks n me) + 0) ≡ unwanting_as m b.part.want b.part.ready
now_wants me a b m n w r e = rw (w, r, e, same_true me) (mode_or_not (same_mode m n))

no_want : (m n : Mode) (a me : ℕ) → a ≢ me → ask m a (Asks n me) + 0 ≡ 0
no_want m n a me d = omega (arith, apart_ask m n a me d)

wants : (me from : ℕ) (b : Share) (n : Mode) (parent : ℕ) (m : Mode) (a : ℕ) → b.part.want ≡ None → b.part.ready ≡ false →
    SomeEffect me from None (Some b) (saying (with_token b record b.part { want = Some n }) (send parent (Asks n me) ∷ [])) m a
wants me from b n parent m a w r =
    (Unasked, InFlight me parent, ask m a (Asks n me) + 0, b.part.queue, _, leaves_want me from m a _ _ _ _ (now_wants me a b m n w r) (no_want m n a me), comes_way me parent n me m a _ _)

joins : (me from : ℕ) (b : Share) (m : Mode) (a : ℕ) → b.part.want ≡ None → b.part.ready ≡ false →
    SomeEffect me from None (Some b) (silently (with_token b record b.part { want = Some Write; queue = b.part.queue ++ record { asker = me; mode = Write } ∷ [] })) m a
joins me from b m a w r =
    (Unasked, Queued me, ask m a (Asks Write me) + 0, b.part.queue, _, leaves_want me from m a _ _ _ _ (now_wants me a b m Write w r) (no_want m Write a me), comes_queue me m a _ record { asker = me; mode = Write } _)

arrives : (me from : ℕ) (b : Share) (n : Mode) (asker : ℕ) (m : Mode) (a : ℕ) →
    SomeEffect me from (Some (Asks n asker)) (Some b) (silently (with_token b record b.part { queue = b.part.queue ++ record { asker = asker; mode = n } ∷ [] })) m a
arrives me from b n asker m a = (InFlight from me, Queued me, ask m a (Asks n asker) + 0, b.part.queue, _, leaves_way me from n asker m a _ _, comes_queue me m a _ record { asker = asker; mode = n } _)

forwards : (me from : ℕ) (b : Share) (n : Mode) (asker parent : ℕ) (m : Mode) (a : ℕ) →
    SomeEffect me from (Some (Asks n asker)) (Some b) (saying b (send parent (Asks n asker) ∷ [])) m a
forwards me from b n asker parent m a = (InFlight from me, InFlight me parent, ask m a (Asks n asker) + 0, b.part.queue, _, leaves_way me from n asker m a _ _, comes_way me parent n asker m a _ _)

-- what a grant weighs
plus_none : (p : Bool) → cond {A = ℕ} p 1 0 + 0 ≡ cond p 1 0
plus_none p = omega arith

grants_read : (me from : ℕ) (b : Share) (asker : ℕ) (rest : List Ask) (m : Mode) (a : ℕ) → b.part.queue ≡ record { asker = asker; mode = Read } ∷ rest →
    SomeEffect me from None (Some b) (saying (with_token b record b.part { queue = rest; readers = nodes_with asker b.part.readers }) (send asker (Grants Read) ∷ [])) m a
grants_read me from b asker rest m a q = (
  Queued me,
  Granted me,
  c,
  rest,
  _,
  leaves_queue me from m a _ rest _ c (ap (λ z. queued m a z) q),
  record {
    channel = λ j k. no_sent (ask m a) me (send asker (Grants Read) ∷ []) j k (nothing-send (ask m a) k asker (Grants Read) [] refl refl);
    grant = λ j. ap (λ (z : ℕ). cond (me == j) z 0) (both_is (same_mode m Read) (asker == a) 1 ∙ ap (λ (z : ℕ). cond (asker == a) z 0) (sym (plus_none (same_mode m Read))))
        ∙ sym (one_sent (granting m) me asker (Grants Read) j a);
    queue = omega arith;
    other = λ j d. refl;
    want = λ e. omega arith;
    unwant = λ d. refl;
  },
)
  where
    c : ℕ
    c = cond (same_mode m Read && (asker == a)) 1 0

-- the rest of a queue, sent after a grant of ownership
rest_asks : (m : Mode) (a k to : ℕ) (rest : List Ask) →
    tally (ask m a) (notes_to k (map (λ (q : Ask). send to (Asks q.mode q.asker)) rest)) ≡ cond (to == k) (queued m a rest) 0
rest_asks m a k to [] = sym (none_cond (to == k))
rest_asks m a k to (q ∷ rest) =
    tally-send (ask m a) k to (Asks q.mode q.asker) (map (λ (q : Ask). send to (Asks q.mode q.asker)) rest) ∙ by_test (to == k) (rest_asks m a k to rest)
  where
    by_test : (p : Bool) → tally (ask m a) (notes_to k (map (λ (q : Ask). send to (Asks q.mode q.asker)) rest)) ≡ cond p (queued m a rest) 0 →
        cond p (ask m a (Asks q.mode q.asker)) 0 + tally (ask m a) (notes_to k (map (λ (q : Ask). send to (Asks q.mode q.asker)) rest)) ≡ cond p (queued m a (q ∷ rest)) 0
    by_test true h = omega (arith, h)
    by_test false h = omega (arith, h)

hands_over : (me from : ℕ) (b : Share) (asker : ℕ) (rest : List Ask) (m : Mode) (a : ℕ) → b.part.queue ≡ record { asker = asker; mode = Write } ∷ rest →
    queued m a b.part.queue ≤ 1 →
    SomeEffect me from None (Some b) (saying (without_copy record b.part { role = Parent asker; queue = [] })
    (send asker (Grants Write) ∷ map (λ (q : Ask). send asker (Asks q.mode q.asker)) rest)) m a
hands_over me from b asker rest m a q once = by_head (same_mode m Write && (asker == a)) refl
  where
    others : List Send
    others = map (λ (q : Ask). send asker (Asks q.mode q.asker)) rest

    t : Transition
    t = saying (without_copy record b.part { role = Parent asker; queue = [] }) (send asker (Grants Write) ∷ others)

    all : queued m a b.part.queue ≡ cond (same_mode m Write && (asker == a)) 1 0 + queued m a rest
    all = ap (λ z. queued m a z) q

    asks : (n k : ℕ) → tally (ask m a) (sent me t.sends n k) ≡ cond (me == n) (cond (asker == k) (queued m a rest) 0) 0
    asks n k = tally-sent (ask m a) me t.sends n k ∙ ap (λ (z : ℕ). cond (me == n) z 0)
        (tally-send (ask m a) k asker (Grants Write) others ∙ omega (arith, none_cond (asker == k), rest_asks m a k asker rest))

    grants : (n : ℕ) → tally (granting m) (sent me t.sends n a) ≡ cond (me == n) (cond (same_mode m Write && (asker == a)) 1 0) 0
    grants n = tally-sent (granting m) me t.sends n a ∙ ap (λ (z : ℕ). cond (me == n) z 0)
        (tally-send (granting m) a asker (Grants Write) others
        ∙ omega (arith, both_is (same_mode m Write) (asker == a) 1, asks-send (granting m) (λ n asker. refl) a asker rest))

    by_head : (p : Bool) → (same_mode m Write && (asker == a)) ≡ p → SomeEffect me from None (Some b) t m a
    by_head true e =
        let none : queued m a rest ≡ 0 = omega (arith, once, all, ap (λ (z : Bool). cond {A = ℕ} z 1 0) e) in (
          Queued me,
          Granted me,
          1,
          [],
          _,
          leaves_queue me from m a _ [] _ 1 (omega (arith, all, none, ap (λ (z : Bool). cond {A = ℕ} z 1 0) e)),
          record {
            channel = λ j k. sym (asks j k ∙ ap (λ (z : ℕ). cond (me == j) (cond (asker == k) z 0) 0) none ∙ ap (λ (z : ℕ). cond (me == j) z 0) (none_cond (asker == k)) ∙ none_cond (me == j));
            grant = λ j. sym (grants j ∙ ap (λ (z : Bool). cond (me == j) (cond {A = ℕ} z 1 0) 0) e);
            queue = refl;
            other = λ j d. refl;
            want = λ f. omega arith;
            unwant = λ d. refl;
          },
        )
    by_head false e = (
      Queued me,
      InFlight me asker,
      queued m a rest,
      [],
      _,
      leaves_queue me from m a _ [] _ (queued m a rest) (omega (arith, all, ap (λ (z : Bool). cond {A = ℕ} z 1 0) e)),
      record {
        channel = λ j k. both_was (me == j) (asker == k) (queued m a rest) ∙ sym (asks j k);
        grant = λ j. sym (grants j ∙ ap (λ (z : Bool). cond (me == j) (cond {A = ℕ} z 1 0) 0) e ∙ none_cond (me == j));
        queue = refl;
        other = λ j d. refl;
        want = λ f. omega arith;
        unwant = λ d. refl;
      },
    )

readies : (me from : ℕ) (b : Share) (rest : List Ask) (m : Mode) (a : ℕ) → b.part.queue ≡ record { asker = me; mode = Write } ∷ rest → wanting Write (Some b) ≡ 1 →
    SomeEffect me from None (Some b) (silently (with_token b record b.part { queue = rest; ready = true })) m a
readies me from b rest m a q w =
    (Queued me, Unasked, c, rest, _, leaves_queue me from m a _ rest _ c (ap (λ z. queued m a z) q), comes_want me m a rest _ _ c now (λ d. apart_ask m Write a me d))
  where
    c : ℕ
    c = cond (same_mode m Write && (me == a)) 1 0

    now : a ≡ me → unwanting_as m b.part.want true ≡ unwanting_as m b.part.want b.part.ready + c
    now e = rw ((wants_write b w).0, (wants_write b w).1, e, same_true me) (write_or_not m)

gets : (me from : ℕ) (b k : Share) (n : Mode) (m : Mode) (a : ℕ) → b.part.want ≡ Some n → b.part.ready ≡ false →
    k.part.queue ≡ b.part.queue → unwanting m (Some k) ≡ 1 → SomeEffect me from (Some (Grants n)) (Some b) (silently k) m a
gets me from b k n m a w r q u = (
  Granted from,
  Unasked,
  c,
  b.part.queue,
  unwanting m (Some b),
  record {
    channel = λ j k. no_came (ask m a) from me (Some (Grants n)) j k refl;
    grant = λ j. swap (from == j) (me == a) ∙ sym (tally-came (granting m) from me (Some (Grants n)) j a);
    queue = omega arith;
    other = λ j d. refl;
    want = λ e. omega arith;
    unwant = λ d. refl;
  },
  rw q (comes_want me m a b.part.queue _ _ c (λ e. omega (arith, u, now e)) (λ d. none d (cases a me))),
)
  where
    c : ℕ
    c = cond (me == a) (granting m (Grants n) + 0) 0

    swap : (p t : Bool) → cond p (cond t (granting m (Grants n) + 0) 0) 0 ≡ cond t (cond p (granting m (Grants n) + 0) 0) 0
    swap true true = refl
    swap true false = refl
    swap false true = refl
    swap false false = refl

    by_mode : (p : Bool) → cond {A = ℕ} p 0 1 + (cond p 1 0 + 0) ≡ 1
    by_mode true = refl
    by_mode false = refl

    now : a ≡ me → unwanting_as m b.part.want b.part.ready + c ≡ 1
    now e = rw (w, r, e, same_true me) (by_mode (same_mode m n))

    none : a ≢ me → Cases a me → c ≡ 0
    none d (Same e t) = absurd (d e)
    none d (Apart e t) = rw t refl

-- ## all outcomes

-- what is known of the queue of a node: each want stands there once, and its own only while it wants
record IsOnce (me : ℕ) (h : Option Share) : Type 0 where
  once : (m : Mode) (a : ℕ) → queued m a (queue_at h) ≤ 1
  mine : 1 ≤ queued Write me (queue_at h) → wanting Write h ≡ 1

-- each want goes from one spot to another, and the node's own is as it should be after
record IsMoved (me from : ℕ) (taken : Option Note) (h : Option Share) (t : Transition) : Type 0 where
  effects : (m : Mode) (a : ℕ) → SomeEffect me from taken h t m a
  asking : IsAsking me t.after

same_moved : (me from : ℕ) (taken u : Option Note) (h g : Option Share) (t k : Transition) → taken ≡ u → h ≡ g → t ≡ k → IsMoved me from u g k → IsMoved me from taken h t
same_moved me from taken u h g t k x e f m = rw (x, e, f) m

zero_not_one : {A : Type 0} {x : ℕ} → x ≡ 0 → x ≡ 1 → A
zero_not_one e f = absurd (omega (arith, e, f))

none_not_some : {A : Type 0} {w : Option Mode} {n : Mode} → w ≡ Some n → w ≡ None → A
none_not_some e f = absurd cc

-- a transition that neither asks nor grants, and leaves the queue, the wants and the role
quietly : (me from : ℕ) (taken : Option Note) (h : Option Share) (t : Transition) → queue_at t.after ≡ queue_at h → ((n : Mode) → wanting n t.after ≡ wanting n h) →
    owned_at t.after ≡ owned_at h → (IsCalm h → IsCalm t.after) → IsMute (option_to_list taken) → ((k : ℕ) → IsMute (notes_to k t.sends)) → IsAsking me h →
    IsMoved me from taken h t
quietly me from taken h t q w o calm x l s = record {
  effects = λ m a. passes me from taken h t m a q (w m) x l;
  asking = record {
    calm = calm s.calm;
    empty = λ e. q ∙ s.empty (sym o ∙ e);
    no_read = λ e. w Read ∙ s.no_read (sym o ∙ e);
    joined = λ e. omega (arith, w Write, ap (λ z. queued Write me z) q, s.joined (sym o ∙ e));
  };
}

pub asking_none : (a : ℕ) → IsAsking a None
asking_none a = record { calm = tt; empty = λ e. refl; no_read = λ e. zero_not_one refl e; joined = λ e. zero_not_one refl e }

pub asking_made : (a : ℕ) → IsAsking a (Some made_share)
asking_made a = record { calm = λ e. refl; empty = λ e. refl; no_read = λ e. refl; joined = λ e. omega arith }

pub asking_heard : (a from : ℕ) → IsAsking a (Some (heard_share from))
asking_heard a from = record { calm = λ e. refl; empty = λ e. refl; no_read = λ e. refl; joined = λ e. zero_not_one refl e }

write_no_read : (r : Bool) → wanting_as Read (Some Write) r ≡ 0
write_no_read true = refl
write_no_read false = refl

write_at_most : (r : Bool) → wanting_as Write (Some Write) r ≤ 1
write_at_most true = omega arith
write_at_most false = omega arith

ready_none : (m : Mode) (w : Option Mode) → wanting_as m w true ≡ 0
ready_none m None = refl
ready_none m (Some n) = refl

mine_first : (me : ℕ) (b : Share) (rest : List Ask) → b.part.queue ≡ record { asker = me; mode = Write } ∷ rest → 1 ≤ queued Write me b.part.queue
mine_first me b rest q =
    let one : queued Write me b.part.queue ≡ 1 + queued Write me rest = ap (λ z. queued Write me z) q ∙ ap (λ (p : Bool). cond {A = ℕ} p 1 0 + queued Write me rest) (same_true me) in
    omega (arith, one)

-- a token that changes
alters_moved : (me from : ℕ) (b : Share) (q : Part) → Alters me b.copy b.part q → IsOnce me (Some b) → IsAsking me (Some b) → IsMoved me from None (Some b) (silently (with_token b q))
alters_moved me from b q (TakesWanted m held want ready f) once s = rw f
    (quietly me from None (Some b) _ refl (λ n. sym (ap (λ (w : Option Mode). wanting_as n w b.part.ready) want ∙ ap (wanting_as n (Some m)) ready)) refl (λ c e. refl) nothing_mute (λ k. nothing_mute) s)
alters_moved me from b q (Reads has held want f) once s = rw f (quietly me from None (Some b) _ refl (λ n. refl) refl (λ c. c) nothing_mute (λ k. nothing_mute) s)
alters_moved me from b q (Writes role held readers f) once s = rw f (quietly me from None (Some b) _ refl (λ n. refl) refl (λ c. c) nothing_mute (λ k. nothing_mute) s)
alters_moved me from b q (Frees m held due f) once s = rw f (quietly me from None (Some b) _ refl (λ n. refl) refl (λ c. c) nothing_mute (λ k. nothing_mute) s)
alters_moved me from b q (Joins role want f) once s = rw f record {
  effects = λ m a. joins me from b m a want (s.calm want);
  asking = record {
    calm = λ g. none_not_some refl g;
    empty = λ g. zero_not_one g (ap owned_as role);
    no_read = λ g. write_no_read b.part.ready;
    joined = λ g. omega (
      arith,
      write_at_most b.part.ready,
      queued_more Write me b.part.queue record { asker = me; mode = Write },
      ap (λ (p : Bool). cond {A = ℕ} p 1 0 + 0) (same_true me),
    );
  };
}
alters_moved me from b q (Readies rest role readers queue f) once s =
    let w : wanting Write (Some b) ≡ 1 = once.mine (mine_first me b rest queue) in
    rw f record {
      effects = λ m a. readies me from b rest m a queue w;
      asking = record {
        calm = λ g. none_not_some (wants_write b w).0 g;
        empty = λ g. zero_not_one g (ap owned_as role);
        no_read = λ g. ready_none Read b.part.want;
        joined = λ g. omega (arith, ready_none Write b.part.want);
      };
    }

acts_moved : (me from : ℕ) (taken : Option Note) (tells : Bool) (h : Option Share) (t : Transition) → Acts me from taken tells h t → IsOnce me h → IsAsking me h → IsMoved me from taken h t
acts_moved me from taken tells h t (Rests x f) once s =
    same_moved _ _ _ _ _ _ _ _ x refl f (quietly me from None h _ refl (λ n. refl) refl (λ c. c) nothing_mute (λ k. nothing_mute) s)
acts_moved me from taken tells h t (Hears e told x f) once s =
    same_moved _ _ _ _ _ _ _ _ x e f (quietly me from None None _ refl (λ n. refl) refl (λ c d. refl) nothing_mute (λ k. nothing_mute) (asking_none me))
acts_moved me from taken tells h t (AltersTo b q e alters x f) once s =
    same_moved _ _ _ _ _ _ _ _ x e f (alters_moved me from b q alters (subst (IsOnce me) e once) (subst (IsAsking me) e s))
acts_moved me from taken tells h t (Wants b n parent e role held w x f) once s0 =
    let s : IsAsking me (Some b) = subst (IsAsking me) e s0 in
    same_moved _ _ _ _ _ _ _ _ x e f record {
      effects = λ m a. wants me from b n parent m a w (s.calm w);
      asking = record {
        calm = λ g. none_not_some refl g;
        empty = λ g. s.empty g;
        no_read = λ g. zero_not_one (ap owned_as role) g;
        joined = λ g. zero_not_one (ap owned_as role) g;
      };
    }
acts_moved me from taken tells h t (Answers b owner held e holds due x f) once s =
    same_moved _ _ _ _ _ _ _ _ x e f (quietly me from None (Some b) _ refl (λ n. refl) refl (λ c. c) nothing_mute (λ k. back_mute owner k) (subst (IsAsking me) e s))
acts_moved me from taken tells h t (GrantsRead b asker rest e role q test x f) once s0 =
    let s : IsAsking me (Some b) = subst (IsAsking me) e s0 in
    same_moved _ _ _ _ _ _ _ _ x e f record {
      effects = λ m a. grants_read me from b asker rest m a q;
      asking = record {
        calm = s.calm;
        empty = λ g. zero_not_one g (ap owned_as role);
        no_read = s.no_read;
        joined = λ g. omega (arith, s.joined g, ap (λ z. queued Write me z) q);
      };
    }
acts_moved me from taken tells h t (HandsOver b asker rest e role readers q other test x f) once s0 =
    let s : IsAsking me (Some b) = subst (IsAsking me) e s0 in
    same_moved _ _ _ _ _ _ _ _ x e f record {
      effects = λ m a. hands_over me from b asker rest m a q (subst (λ o. queued m a (queue_at o) ≤ 1) e (once.once m a));
      asking = record { calm = s.calm; empty = λ g. refl; no_read = λ g. zero_not_one refl g; joined = λ g. zero_not_one refl g };
    }
acts_moved me from taken tells h t (Revokes b asker rest e role q w x f) once s =
    same_moved _ _ _ _ _ _ _ _ x e f (quietly me from None (Some b) _ refl (λ n. refl) refl (λ c. c) nothing_mute (λ k. record {
      asks = λ m a. recalls-nothing (ask m a) refl k b.part.readers;
      grants = λ m. recalls-nothing (granting m) refl k b.part.readers;
    }) (subst (IsAsking me) e s))
acts_moved me from taken tells h t (Arrives b n asker e role other x f) once s0 =
    let s : IsAsking me (Some b) = subst (IsAsking me) e s0 in
    same_moved _ _ _ _ _ _ _ _ x e f record {
      effects = λ m a. arrives me from b n asker m a;
      asking = record {
        calm = s.calm;
        empty = λ g. zero_not_one g (ap owned_as role);
        no_read = s.no_read;
        joined = λ g. omega (arith, s.joined g, queued_more Write me b.part.queue record { asker = asker; mode = n });
      };
    }
acts_moved me from taken tells h t (Forwards b n asker parent e role x f) once s =
    same_moved _ _ _ _ _ _ _ _ x e f record { effects = λ m a. forwards me from b n asker parent m a; asking = subst (IsAsking me) e s }
acts_moved me from taken tells h t (GetsRead b parent e role w r x f) once s0 =
    let s : IsAsking me (Some b) = subst (IsAsking me) e s0 in
    same_moved _ _ _ _ _ _ _ _ x e f record {
      effects = λ m a. gets me from b (with_copy record b.part { role = Parent from; ready = true }) Read m a w r refl (ap (λ (z : Option Mode). unwanting_as m z true) w);
      asking = record { calm = λ g. none_not_some w g; empty = λ g. s.empty (ap owned_as role); no_read = λ g. zero_not_one refl g; joined = λ g. zero_not_one refl g };
    }
acts_moved me from taken tells h t (GetsWrite b parent e role w r x f) once s0 =
    let s : IsAsking me (Some b) = subst (IsAsking me) e s0 in
    same_moved _ _ _ _ _ _ _ _ x e f record {
      effects = λ m a. gets me from b (with_copy record b.part { role = Owner; ready = true; readers = []; queue = []; waiting = [] }) Write m a w r
          (sym (s.empty (ap owned_as role))) (ap (λ (z : Option Mode). unwanting_as m z true) w);
      asking = record {
        calm = λ g. none_not_some w g;
        empty = λ g. refl;
        no_read = λ g. ready_none Read b.part.want;
        joined = λ g. omega (arith, ready_none Write b.part.want);
      };
    }
acts_moved me from taken tells h t (ReturnsNone k e c x f) once s = same_moved _ _ _ _ _ _ _ _ x e f (by_hearing c)
  where
    mute : IsMute (Recalls ∷ [])
    mute = record { asks = λ m a. refl; grants = λ m. refl }

    by_hearing : (k ≡ None) ⊎ ((k ≡ Some (heard_share from)) × (tells ≡ true)) → IsMoved me from (Some Recalls) None record { after = k; sends = send from Returns ∷ [] }
    by_hearing (inl z) = rw z (quietly me from (Some Recalls) None _ refl (λ n. refl) refl (λ c. c) mute (λ k. back_mute from k) (asking_none me))
    by_hearing (inr z) = rw z.0 (quietly me from (Some Recalls) None _ refl (λ n. refl) refl (λ c d. refl) mute (λ k. back_mute from k) (asking_none me))
acts_moved me from taken tells h t (ReturnsNow b parent e role due test x f) once s =
    same_moved _ _ _ _ _ _ _ _ x e f (quietly me from (Some Recalls) (Some b) _ refl (λ n. refl) refl (λ c. c) record { asks = λ m a. refl; grants = λ m. refl } (λ k. back_mute from k) (subst (IsAsking me) e s))
acts_moved me from taken tells h t (ReturnsLater b parent e role due copy test x f) once s =
    same_moved _ _ _ _ _ _ _ _ x e f (quietly me from (Some Recalls) (Some b) _ refl (λ n. refl) refl (λ c. c) record { asks = λ m a. refl; grants = λ m. refl } (λ k. nothing_mute) (subst (IsAsking me) e s))
acts_moved me from taken tells h t (GetsBack b e role waited x f) once s =
    same_moved _ _ _ _ _ _ _ _ x e f (quietly me from (Some Returns) (Some b) _ refl (λ n. refl) refl (λ c. c) record { asks = λ m a. refl; grants = λ m. refl } (λ k. nothing_mute) (subst (IsAsking me) e s))

-- ## what is kept

once_of : (o : Object) (me : ℕ) → IsRequested o → IsOnce me (o.holds me)
once_of o me r = record {
  once = λ m a. (let s : (s : Spot) × IsAlone (stands o m a) s = r.spots m a in omega (arith, s.1 (Queued me), at_most_one s.0 (Queued me)));
  mine = λ some. (
      let s : (s : Spot) × IsAlone (stands o Write me) s = r.spots Write me in
      let none : unwanting Write (o.holds me) ≡ 0 = alone_elsewhere (stands o Write me) s.0 (Queued me) Unasked s.1 some refl in
      omega (arith, none, wants_or_not Write (o.holds me)));
}

requested_after : (o p : Object) (me from : ℕ) (taken : Option Note) (t : Transition) → Moves o p me from taken t → IsMoved me from taken (o.holds me) t → IsRequested o → IsRequested p
requested_after o p me from taken t h moved r = record {
  nodes = λ a. node a (cases a me);
  spots = λ m a. spot m a (moved.effects m a);
}
  where
    node : (a : ℕ) → Cases a me → IsAsking a (p.holds a)
    node a (Same e u) = rw e (rw (holds_at o p me from taken t h) moved.asking)
    node a (Apart e u) = rw (holds_else o p me from taken t h a u) (r.nodes a)

    spot : (m : Mode) (a : ℕ) → SomeEffect me from taken (o.holds me) t m a → (s : Spot) × IsAlone (stands p m a) s
    spot m a x = moves_spot (stands o m a) (stands p m a) x.0 x.1 x.2 (effect_moves o p me from taken t h m a x) (r.spots m a).0 (r.spots m a).1

-- a node that wants nothing, and has an empty queue, forgets
forgets_moves : (o : Object) (me : ℕ) → Moves o (with_holding o me None) me me None record { after = None; sends = [] }
forgets_moves o me = none_moves o me false record { after = None; sends = [] }

forgotten : (me from : ℕ) (b : Share) → b.part.want ≡ None → b.part.queue ≡ [] → IsMoved me from None (Some b) record { after = None; sends = [] }
forgotten me from b want queue = record {
  effects = λ m a. passes me from None (Some b) record { after = None; sends = [] } m a (sym queue) (sym (ap (λ (z : Option Mode). wanting_as m z b.part.ready) want)) nothing_mute (λ k. nothing_mute);
  asking = asking_none me;
}

made_moved : (me : ℕ) → IsMoved me me None None (silently made_share)
made_moved me = record { effects = λ m a. passes me me None None (silently made_share) m a refl refl nothing_mute (λ k. nothing_mute); asking = asking_made me }

pub requested_kept : (o p : Object) → IsRequested o → Changes o p → IsRequested p
requested_kept o p r (Makes me none moves) = requested_after o p me me None (silently made_share) moves (subst (λ h. IsMoved me me None h (silently made_share)) (sym (none.unknown me)) (made_moved me)) r
requested_kept o p r (Transits a) =
    requested_after o p a.me a.from a.taken a.transition a.moves (acts_moved a.me a.from a.taken a.tells (o.holds a.me) a.transition a.acts (once_of o a.me r) (r.nodes a.me)) r
requested_kept o p r (Forgets me b has u e) = subst IsRequested (sym e)
    (requested_after o (with_holding o me None) me me None record { after = None; sends = [] } (forgets_moves o me)
    (subst (λ h. IsMoved me me None h record { after = None; sends = [] }) (sym has) (forgotten me me b u.idle.want u.idle.queue)) r)

-- ## at first, and over runs

requested_first : (o : Object) → IsFirst o → IsRequested o
requested_first o first = record { nodes = λ a. (fresh a).0; spots = λ m a. (Unasked, alone m a) }
  where
    fresh : (n : ℕ) → IsAsking n (o.holds n) × ((m : Mode) → unwanting m (o.holds n) ≡ 1) × ((m : Mode) (a : ℕ) → queued m a (queue_at (o.holds n)) ≡ 0)
    fresh = first_holds (λ n h. IsAsking n h × ((m : Mode) → unwanting m h ≡ 1) × ((m : Mode) (a : ℕ) → queued m a (queue_at h) ≡ 0))
        (λ n. (asking_none n, λ m. refl, λ m a. refl)) (asking_made 0, λ m. refl, λ m a. refl) (λ n d. (asking_heard n 0, λ m. refl, λ m a. refl)) o first

    alone : (m : Mode) (a : ℕ) → IsAlone (stands o m a) Unasked
    alone m a Unasked = (fresh a).1 m
    alone m a (InFlight n k) = ap (λ z. tally (ask m a) (notes z)) ((untouched o first).channel n k)
    alone m a (Queued n) = (fresh n).2 m a
    alone m a (Granted n) = ap (λ z. tally (granting m) (notes z)) ((untouched o first).channel n a)

pub requested_run : (o p : Object) → IsFirst o → Run o p → IsRequested p
requested_run o p first run = kept_changes IsRequested requested_kept o p (requested_first o first) run
