-- Letters and records: letters are numbered one after another, and who gives the object in a letter in flight
-- knows it, and has a record of its receiver up to that letter.
use Rattle.std.proofs.Common.{◌≡◌, ◌⊎◌, inl, inr, ℕ, ◌+◌, ◌≤◌, arith, List, [], ◌∷◌, ◌++◌, map, refl, ap, sym, subst, subst₂, ◌∙◌, Bool, true, false, cond}
use Rattle.std.specs.Prelude.{◌==◌, ◌&&◌, is_some, Option, Some, None}
use Rattle.std.specs.Option.{option_map_or}
use Rattle.bmx_types.specs.Updates.{put, put_at}
use Rattle.bmx_token.specs.Transitions.{Share, Note, Returns, Send, send, Transition, made_share, heard_share}
use Rattle.bmx_token_model.specs.Machine.{Message, Unnumbered, asks, is_ask, is_handover, Numbers, Object, Step, Makes, Does, Receives, Writes, Forgets, Clears, Run, IsFirst, IsUntouched, draft, numbered, gives, brings, sent_in, got_in, issue, issue_all, with_holding, moved, popped}
use Rattle.bmx_token_model.specs.Tables.{looks_to}
use Rattle.bmx_token_model.proofs.Tallies.{Cases, Same, Apart, cases, same_true, put-all, put_at-all}
use Rattle.bmx_token_model.proofs.First.{untouched}
use Rattle.bmx_token_model.proofs.Traffic.{Letter, Traffic, Counted, Bounded}
use Rattle.bmx_token_model.proofs.Traffic as traffic
use Rattle.bmx_token_model.proofs.Each.{Each, EachWay, each_of, each_more, issue_way, popped_way, issue_each, popped_each, moved_kept}
use Rattle.bmx_token_model.proofs.Acts.{Acts, Rests, Hears, AltersTo, Wants, Answers, GrantsRead, HandsOver, Revokes, Arrives, Forwards, GetsRead, GetsWrite, ReturnsNone, ReturnsNow, ReturnsLater, GetsBack}
use Rattle.bmx_token_model.proofs.Moves.{Taking, Nothing, Letter as First, Acting, does_acting, takes_acting, taking_holds, kept_run}

-- ## the traffic of an object

-- what a letter says that tables speak of
abbrev pub letter_of : Message → Letter
letter_of l = record { seq = l.seq; asks = asks l; gives = gives l.note l.tells; brings = brings l }

abbrev pub draft_of : Unnumbered → traffic.Unnumbered
draft_of d = record { to = d.to; asks = option_map_or is_ask d.note false; gives = gives d.note d.tells; brings = option_map_or is_handover d.note false }

abbrev pub traffic_of : Object → Traffic
traffic_of o = record {
  looks = λ m n. looks_to (o.holds m) n;
  channel = λ n m. map letter_of (o.channel n m);
  entering = o.entering;
  issued = o.issued;
  taken = o.taken;
}

traffic_path : (a b : Traffic) → ((m n : ℕ) → a.looks m n ≡ b.looks m n) → ((n m : ℕ) → a.channel n m ≡ b.channel n m) → a.entering ≡ b.entering → a.issued ≡ b.issued → a.taken ≡ b.taken → a ≡ b
traffic_path a b looks channel entering issued taken = λ i. record { looks = λ m n. looks m n i; channel = λ n m. channel n m i; entering = entering i; issued = issued i; taken = taken i }

pub map-append : (a b : List Message) → map letter_of (a ++ b) ≡ map letter_of a ++ map letter_of b
map-append [] b = refl
map-append (l ∷ a) b = ap (λ (x : List Letter). letter_of l ∷ x) (map-append a b)

map-put_at : (f : ℕ → ℕ → List Message) (n m : ℕ) (a : List Message) (j k : ℕ) → map letter_of (put_at f n m a j k) ≡ put_at (λ x y. map letter_of (f x y)) n m (map letter_of a) j k
map-put_at f n m a j k = by_first (n == j)
  where
    by_second : (u : Bool) → map letter_of (cond u a (f n k)) ≡ cond u (map letter_of a) (map letter_of (f n k))
    by_second true = refl
    by_second false = refl

    by_first : (t : Bool) → map letter_of ((cond t (put (f n) m a) (f j)) k) ≡ (cond t (put (λ y. map letter_of (f n y)) m (map letter_of a)) (λ y. map letter_of (f j y))) k
    by_first true = by_second (m == k)
    by_first false = refl

pub traffic-issue : (o : Object) (me : ℕ) (d : Unnumbered) → traffic_of (issue o me d) ≡ traffic.issue (traffic_of o) me (draft_of d)
traffic-issue o me d = traffic_path _ _ (λ m n. refl)
    (λ n m. map-put_at o.channel me d.to (o.channel me d.to ++ numbered (o.issued me d.to + 1) d ∷ []) n m
    ∙ ap (λ (x : List Letter). put_at (λ x y. map letter_of (o.channel x y)) me d.to x n m) (map-append (o.channel me d.to) (numbered (o.issued me d.to + 1) d ∷ [])))
    refl refl refl

pub traffic-popped : (o : Object) (from me : ℕ) (l : Message) (rest : List Message) → traffic_of (popped o from me l rest) ≡ traffic.taking (traffic_of o) from me (letter_of l) (map letter_of rest)
traffic-popped o from me l rest = traffic_path _ _ (λ m n. refl) (λ n m. map-put_at o.channel from me rest n m) refl refl refl

pub traffic-holding : (o : Object) (me : ℕ) (h : Option Share) → traffic_of (with_holding o me h) ≡ traffic.looking (traffic_of o) me (looks_to h)
traffic-holding o me h = traffic_path _ _ (λ m n. by_test m n (me == m)) (λ n m. refl) refl refl refl
  where
    by_test : (m n : ℕ) (t : Bool) → looks_to (cond t h (o.holds m)) n ≡ (cond t (looks_to h) (looks_to (o.holds m))) n
    by_test m n true = refl
    by_test m n false = refl

-- ## numbers

-- letters are numbered one after another
abbrev pub IsCounted : Object → Type 0
IsCounted o = traffic.IsCounted (traffic_of o)

pub issue_counted : (o : Object) (me : ℕ) (d : Unnumbered) → IsCounted o → IsCounted (issue o me d)
issue_counted o me d c = rw (traffic-issue o me d) (traffic.issue_counted (traffic_of o) me (draft_of d) c)

pub popped_counted : (o : Object) (from me : ℕ) (l : Message) (rest : List Message) → o.channel from me ≡ l ∷ rest → IsCounted o → IsCounted (popped o from me l rest)
popped_counted o from me l rest channel c =
    rw (traffic-popped o from me l rest) (traffic.taking_counted (traffic_of o) from me (letter_of l) (map letter_of rest) (ap (map letter_of) channel) c)

-- ## records

pub issue_entering : (Q : Option Numbers → Type 0) → ((seq : ℕ) (r : Option Numbers) → Q r → Q (Some (sent_in seq r))) →
    (o : Object) (me : ℕ) (d : Unnumbered) (n m : ℕ) → Q (o.entering n m) → Q ((issue o me d).entering n m)
issue_entering Q more o me d n m h = traffic.issue_entering Q more (traffic_of o) me (draft_of d) n m h

pub popped_entering : (Q : Option Numbers → Type 0) → ((seq : ℕ) (r : Option Numbers) → Q r → Q (Some (got_in seq r))) →
    (o : Object) (from me : ℕ) (l : Message) (rest : List Message) (n m : ℕ) → Q (o.entering n m) → Q ((popped o from me l rest).entering n m)
popped_entering Q more o from me l rest n m h = traffic.taking_entering Q more (traffic_of o) from me (letter_of l) (map letter_of rest) n m h

issue_here : (o : Object) (me : ℕ) (d : Unnumbered) → gives d.note d.tells ≡ true → (issue o me d).entering me d.to ≡ Some (sent_in (o.issued me d.to + 1) (o.entering me d.to))
issue_here o me d g = traffic.issue_here (traffic_of o) me (draft_of d) g

pub popped_here : (o : Object) (from me : ℕ) (l : Message) (rest : List Message) → brings l ≡ true → (popped o from me l rest).entering me from ≡ Some (got_in l.seq (o.entering me from))
popped_here o from me l rest b = traffic.taking_here (traffic_of o) from me (letter_of l) (map letter_of rest) b

-- a record has letter k among those that gave the object
abbrev pub IsIn : Option Numbers → ℕ → Type 0
IsIn None k = ⊥
IsIn (Some r) k = k ≤ r.sent

sent_more : (k seq : ℕ) (r : Option Numbers) → IsIn r k → IsIn (Some (sent_in seq r)) k
sent_more k seq None h = absurd h
sent_more k seq (Some r) h = omega (arith, h)

sent_here : (seq : ℕ) (r : Option Numbers) → IsIn (Some (sent_in seq r)) seq
sent_here seq None = omega arith
sent_here seq (Some r) = omega arith

got_more : (k seq : ℕ) (r : Option Numbers) → IsIn r k → IsIn (Some (got_in seq r)) k
got_more k seq None h = absurd h
got_more k seq (Some r) h = h

-- a letter that gives the object is in the record
abbrev pub Recorded : Option Numbers → Message → Type 0
Recorded r l = gives l.note l.tells ≡ true → IsIn r l.seq

-- who gives the object in a letter in flight has a record of its receiver, up to that letter
pub record IsRecorded (o : Object) : Type 0 where
  pub channels : EachWay (λ n m. Recorded (o.entering n m)) o.channel

issue_recorded : (o : Object) (me : ℕ) (d : Unnumbered) → IsRecorded o → IsRecorded (issue o me d)
issue_recorded o me d c = record {
  channels = issue_each (λ n m. Recorded ((issue o me d).entering n m)) o me d
      (λ n m. each_more (Recorded (o.entering n m)) (Recorded ((issue o me d).entering n m)) (λ l h g. issue_entering (λ r. IsIn r l.seq) (sent_more l.seq) o me d n m (h g)) (o.channel n m) (c.channels n m))
      (λ g. subst (λ r. IsIn r (o.issued me d.to + 1)) (sym (issue_here o me d g)) (sent_here (o.issued me d.to + 1) (o.entering me d.to)));
}

popped_recorded : (o : Object) (from me : ℕ) (l : Message) (rest : List Message) → o.channel from me ≡ l ∷ rest → IsRecorded o → IsRecorded (popped o from me l rest)
popped_recorded o from me l rest channel c = record {
  channels = popped_each (λ n m. Recorded ((popped o from me l rest).entering n m)) o from me l rest channel
      (λ n m. each_more (Recorded (o.entering n m)) (Recorded ((popped o from me l rest).entering n m)) (λ k h g. popped_entering (λ r. IsIn r k.seq) (got_more k.seq) o from me l rest n m (h g)) (o.channel n m) (c.channels n m));
}

-- a letter that doesn't give the object needs no record
pub ungiven_recorded : (r : Option Numbers) (l : Message) → gives l.note l.tells ≡ false → Recorded r l
ungiven_recorded r l none g = (let both : true ≡ false = sym g ∙ none in absurd cc)

-- ## each record is within what was issued and taken

abbrev pub IsBounded : Object → Type 0
IsBounded o = traffic.IsBounded (traffic_of o)

issue_bounded : (o : Object) (me : ℕ) (d : Unnumbered) → IsBounded o → IsBounded (issue o me d)
issue_bounded o me d b = record { records = (traffic.issue_bounded (traffic_of o) me (draft_of d) b).records }

popped_bounded : (o : Object) (from me : ℕ) (l : Message) (rest : List Message) → o.channel from me ≡ l ∷ rest → IsCounted o → IsBounded o → IsBounded (popped o from me l rest)
popped_bounded o from me l rest channel c b =
    record { records = (traffic.taking_bounded (traffic_of o) from me (letter_of l) (map letter_of rest) (ap (map letter_of) channel) c b).records }

-- ## each step

pub record IsOrderly (o : Object) : Type 0 where
  pub counted : IsCounted o
  pub recorded : IsRecorded o
  pub bounded : IsBounded o

issue_orderly : (o : Object) (me : ℕ) (d : Unnumbered) → IsOrderly o → IsOrderly (issue o me d)
issue_orderly o me d g = record { counted = issue_counted o me d g.counted; recorded = issue_recorded o me d g.recorded; bounded = issue_bounded o me d g.bounded }

pub taking_orderly : (o : Object) (me from : ℕ) (taken : Option Note) (tells : Bool) (q : Object) → Taking o me from taken tells q → IsOrderly o → IsOrderly q
taking_orderly o me from taken tells q (Nothing x y e) g = subst IsOrderly (sym e) g
taking_orderly o me from taken tells q (First l rest channel apart x y e) g = subst IsOrderly (sym e) record {
  counted = popped_counted o from me l rest channel g.counted;
  recorded = popped_recorded o from me l rest channel g.recorded;
  bounded = popped_bounded o from me l rest channel g.counted g.bounded;
}

-- what nodes have doesn't matter for it
holding_orderly : (o : Object) (holds : ℕ → Option Share) → IsOrderly o → IsOrderly (record o { holds = holds })
holding_orderly o holds g = record { counted = record { channels = g.counted.channels }; recorded = record { channels = g.recorded.channels }; bounded = record { records = g.bounded.records } }

acting_orderly : (o p : Object) → Acting o p → IsOrderly o → IsOrderly p
acting_orderly o p a g = subst IsOrderly (sym a.is)
    (moved_kept IsOrderly a.me (λ q d k. issue_orderly q a.me d k) a.between a.refers a.transition (holding_orderly a.between _ (taking_orderly o a.me a.from a.taken a.tells a.between a.taking g)))

orderly_step : (o p : Object) → IsOrderly o → Step o p → IsOrderly p
orderly_step o p g (Makes me nowhere e) = subst IsOrderly (sym e) (holding_orderly o _ g)
orderly_step o p g (Does me refers a h t has is e) = acting_orderly o p (does_acting o p me refers a h t has is e) g
orderly_step o p g (Receives from me l rest t apart channel is e) = acting_orderly o p (takes_acting o p from me l rest t apart channel is e) g
orderly_step o p g (Writes me to tells told e) = subst IsOrderly (sym e) (issue_orderly o me _ g)
orderly_step o p g (Forgets me h has u e) = subst IsOrderly (sym e) (holding_orderly o _ g)
orderly_step o p g (Clears me other u e) = subst IsOrderly (sym e) record {
  counted = record { channels = g.counted.channels };
  recorded = record {
    channels = put_at-all (λ n m r. Each (Recorded r) (o.channel n m)) o.entering me other None
        (each_of (Recorded None) (o.channel me other) (λ l before after x. ungiven_recorded None l (u.no_gift l before after x))) (λ n m d. g.recorded.channels n m);
  };
  bounded = record { records = put_at-all (λ n m r. Bounded r (o.issued n m) (o.taken n m)) o.entering me other None tt (λ n m d. g.bounded.records n m) };
}

orderly_first : (o : Object) → IsFirst o → IsOrderly o
orderly_first o first = record {
  counted = record {
    channels = λ n m. subst₂ (λ (t i : ℕ). Counted t (map letter_of (o.channel n m)) i) (sym (u.taken m n)) (sym (u.issued n m)) (subst (λ w. Counted 0 (map letter_of w) 0) (sym (u.channel n m)) refl);
  };
  recorded = record { channels = λ n m. subst (Each (Recorded (o.entering n m))) (sym (u.channel n m)) tt };
  bounded = record { records = λ n m. within n m (o.entering n m) refl };
}
  where
    u : IsUntouched o
    u = untouched o first

    within : (n m : ℕ) (r : Option Numbers) → o.entering n m ≡ r → Bounded r (o.issued n m) (o.taken n m)
    within n m None e = tt
    within n m (Some r) e = rw (u.records n m r e).numbers (omega arith, omega arith)

pub orderly_run : (o p : Object) → IsFirst o → Run o p → IsOrderly p
orderly_run o p first run = kept_run IsOrderly orderly_step o p (orderly_first o first) run

-- ## who gives the object knows it

abbrev pub Knows : Object → ℕ → Type 0
Knows o n = is_some (o.holds n) ≡ true

-- a letter doesn't give it
abbrev pub NoGift : Message → Type 0
NoGift l = gives l.note l.tells ≡ false

pub left_of : {A B C : Type 0} → (A → B) → A ⊎ C → B ⊎ C
left_of f (inl a) = inl (f a)
left_of f (inr c) = inr c

-- who has a letter in flight that gives the object knows it
pub record IsGiving (o : Object) : Type 0 where
  pub channels : (n m : ℕ) → Knows o n ⊎ Each NoGift (o.channel n m)

-- a node knows the object after an act, or knows it neither before nor after and sends a return at most
pub data Knowing (from : ℕ) (h : Option Share) (t : Transition) : Type 0 where
  Known : is_some t.after ≡ true → Knowing from h t
  Unknown : h ≡ None → t.after ≡ None → (t.sends ≡ []) ⊎ (t.sends ≡ send from Returns ∷ []) → Knowing from h t

pub acts_knowing : (me from : ℕ) (taken : Option Note) (tells : Bool) (h : Option Share) (t : Transition) → Acts me from taken tells h t → Knowing from h t
acts_knowing me from taken tells h t (Rests x f) = by_holds h f
  where
    by_holds : (k : Option Share) → t ≡ record { after = k; sends = [] } → Knowing from k t
    by_holds None e = Unknown refl (ap (λ (z : Transition). z.after) e) (inl (ap (λ (z : Transition). z.sends) e))
    by_holds (Some b) e = Known (ap (λ (z : Transition). is_some z.after) e)
acts_knowing me from taken tells h t (Hears e told x f) = Known (ap (λ (z : Transition). is_some z.after) f)
acts_knowing me from taken tells h t (AltersTo b q e alters x f) = Known (ap (λ (z : Transition). is_some z.after) f)
acts_knowing me from taken tells h t (Wants b n parent e role held want x f) = Known (ap (λ (z : Transition). is_some z.after) f)
acts_knowing me from taken tells h t (Answers b owner held e holds due x f) = Known (ap (λ (z : Transition). is_some z.after) f)
acts_knowing me from taken tells h t (GrantsRead b asker rest e role queue test x f) = Known (ap (λ (z : Transition). is_some z.after) f)
acts_knowing me from taken tells h t (HandsOver b asker rest e role readers queue other test x f) = Known (ap (λ (z : Transition). is_some z.after) f)
acts_knowing me from taken tells h t (Revokes b asker rest e role queue waiting x f) = Known (ap (λ (z : Transition). is_some z.after) f)
acts_knowing me from taken tells h t (Arrives b n asker e role other x f) = Known (ap (λ (z : Transition). is_some z.after) f)
acts_knowing me from taken tells h t (Forwards b n asker parent e role x f) = Known (ap (λ (z : Transition). is_some z.after) f)
acts_knowing me from taken tells h t (GetsRead b parent e role want ready x f) = Known (ap (λ (z : Transition). is_some z.after) f)
acts_knowing me from taken tells h t (GetsWrite b parent e role want ready x f) = Known (ap (λ (z : Transition). is_some z.after) f)
acts_knowing me from taken tells h t (ReturnsNone k e c x f) = by_hearing c
  where
    by_hearing : (k ≡ None) ⊎ ((k ≡ Some (heard_share from)) × (tells ≡ true)) → Knowing from h t
    by_hearing (inl z) = Unknown e (ap (λ (y : Transition). y.after) f ∙ z) (inr (ap (λ (y : Transition). y.sends) f))
    by_hearing (inr z) = Known (ap (λ (y : Transition). is_some y.after) f ∙ ap (λ (y : Option Share). is_some y) z.0)
acts_knowing me from taken tells h t (ReturnsNow b parent e role due test x f) = Known (ap (λ (z : Transition). is_some z.after) f)
acts_knowing me from taken tells h t (ReturnsLater b parent e role due copy test x f) = Known (ap (λ (z : Transition). is_some z.after) f)
acts_knowing me from taken tells h t (GetsBack b e role waited x f) = Known (ap (λ (z : Transition). is_some z.after) f)

-- who knows it still does
pub knowing_stays : (from : ℕ) (h : Option Share) (t : Transition) → Knowing from h t → is_some h ≡ true → is_some t.after ≡ true
knowing_stays from h t (Known k) some = k
knowing_stays from h t (Unknown e after sends) some = (let both : false ≡ true = sym (ap (λ (z : Option Share). is_some z) e) ∙ some in absurd cc)

holding_giving : (o : Object) (me : ℕ) (h : Option Share) → (Knows o me → is_some h ≡ true) → IsGiving o → IsGiving (with_holding o me h)
holding_giving o me h stays g = record {
  channels = λ n m. put-all (λ j k. Knows o j ⊎ Each NoGift (o.channel j m) → (is_some k ≡ true) ⊎ Each NoGift (o.channel j m)) o.holds me h (left_of stays) (λ j d z. z) n (g.channels n m);
}

-- a letter of a node that knows it, or that doesn't give it
issue_giving : (o : Object) (me : ℕ) (d : Unnumbered) → Knows o me ⊎ (gives d.note d.tells ≡ false) → IsGiving o → IsGiving (issue o me d)
issue_giving o me d may g = record { channels = λ n m. by_way n m (g.channels n m) }
  where
    by_way : (n m : ℕ) → Knows o n ⊎ Each NoGift (o.channel n m) → Knows o n ⊎ Each NoGift ((issue o me d).channel n m)
    by_way n m (inl k) = inl k
    by_way n m (inr none) = by_may may (cases n me)
      where
        by_may : Knows o me ⊎ (gives d.note d.tells ≡ false) → Cases n me → Knows o n ⊎ Each NoGift ((issue o me d).channel n m)
        by_may (inl k) (Same e t) = inl (subst (Knows o) (sym e) k)
        by_may (inl k) (Apart e t) = inr (issue_way NoGift o me d n m none (λ x y. absurd (e x)))
        by_may (inr k) c = inr (issue_way NoGift o me d n m none (λ x y. k))

popped_giving : (o : Object) (from me : ℕ) (l : Message) (rest : List Message) → o.channel from me ≡ l ∷ rest → IsGiving o → IsGiving (popped o from me l rest)
popped_giving o from me l rest channel g = record { channels = λ n m. by_way n m (g.channels n m) }
  where
    by_way : (n m : ℕ) → Knows o n ⊎ Each NoGift (o.channel n m) → Knows o n ⊎ Each NoGift ((popped o from me l rest).channel n m)
    by_way n m (inl k) = inl k
    by_way n m (inr none) = inr (popped_way NoGift o from me l rest channel n m none)

pub taking_giving : (o : Object) (me from : ℕ) (taken : Option Note) (tells : Bool) (q : Object) → Taking o me from taken tells q → IsGiving o → IsGiving q
taking_giving o me from taken tells q (Nothing x y e) g = subst IsGiving (sym e) g
taking_giving o me from taken tells q (First l rest channel apart x y e) g = subst IsGiving (sym e) (popped_giving o from me l rest channel g)

issue_all_giving : (o : Object) (me : ℕ) (refers : Bool) (sends : List Send) → Knows o me → IsGiving o → IsGiving (issue_all o me (map (draft refers) sends))
issue_all_giving o me refers [] k g = g
issue_all_giving o me refers (s ∷ sends) k g = issue_all_giving (issue o me (draft refers s)) me refers sends k (issue_giving o me (draft refers s) (inl k) g)

moved_giving : (o : Object) (me from : ℕ) (refers : Bool) (t : Transition) → Knowing from (o.holds me) t → IsGiving o → IsGiving (moved o me refers t)
moved_giving o me from refers t k g = by_knowing k
  where
    q : Object
    q = with_holding o me t.after

    gq : IsGiving q
    gq = holding_giving o me t.after (knowing_stays from (o.holds me) t k) g

    not_given : (r : Bool) → gives (Some Returns) (r && false) ≡ false
    not_given true = refl
    not_given false = refl

    by_knowing : Knowing from (o.holds me) t → IsGiving (moved o me refers t)
    by_knowing (Known some) = issue_all_giving q me refers t.sends (rw (same_true me) some) gq
    by_knowing (Unknown e after (inl none)) = subst (λ x. IsGiving (issue_all q me (map (draft refers) x))) (sym none) gq
    by_knowing (Unknown e after (inr one)) = subst (λ x. IsGiving (issue_all q me (map (draft refers) x))) (sym one) (issue_giving q me (draft refers (send from Returns)) (inr (not_given refers)) gq)

acting_giving : (o p : Object) → Acting o p → IsGiving o → IsGiving p
acting_giving o p a g = subst IsGiving (sym a.is)
    (moved_giving a.between a.me a.from a.refers a.transition (subst (λ (f : ℕ → Option Share). Knowing a.from (f a.me) a.transition) (sym (taking_holds o a.me a.from a.taken a.tells a.between a.taking))
    (acts_knowing a.me a.from a.taken a.tells (o.holds a.me) a.transition a.acts)) (taking_giving o a.me a.from a.taken a.tells a.between a.taking g))

known_or_not : (h : Option Share) → (h ≡ None) ⊎ (is_some h ≡ true)
known_or_not None = inl refl
known_or_not (Some b) = inr refl

giving_step : (o p : Object) → IsGiving o → Step o p → IsGiving p
giving_step o p g (Makes me nowhere e) = subst IsGiving (sym e) (holding_giving o me (Some made_share) (λ k. refl) g)
giving_step o p g (Does me refers a h t has is e) = acting_giving o p (does_acting o p me refers a h t has is e) g
giving_step o p g (Receives from me l rest t apart channel is e) = acting_giving o p (takes_acting o p from me l rest t apart channel is e) g
giving_step o p g (Writes me to tells told e) = subst IsGiving (sym e) (issue_giving o me _ (by_known (known_or_not (o.holds me))) g)
  where
    by_known : (o.holds me ≡ None) ⊎ (is_some (o.holds me) ≡ true) → Knows o me ⊎ (gives None tells ≡ false)
    by_known (inl none) = inr (told none)
    by_known (inr some) = inl some
giving_step o p g (Forgets me h has u e) = subst IsGiving (sym e) record {
  channels = λ n m. put-all (λ j k. Knows o j ⊎ Each NoGift (o.channel j m) → (is_some k ≡ true) ⊎ Each NoGift (o.channel j m)) o.holds me None
      (λ z. inr (each_of NoGift (o.channel me m) (u.no_gift m))) (λ j d z. z) n (g.channels n m);
}
giving_step o p g (Clears me other u e) = subst IsGiving (sym e) record { channels = g.channels }

pub giving_run : (o p : Object) → IsFirst o → Run o p → IsGiving p
giving_run o p first run = kept_run IsGiving giving_step o p record { channels = λ n m. inr (subst (Each NoGift) (sym ((untouched o first).channel n m)) tt) } run

-- who gives the object in the letter that is taken knows it, and has a record of the taker
pub giver : (o : Object) (me from : ℕ) (taken : Option Note) (tells : Bool) (q : Object) → Taking o me from taken tells q → IsRecorded o → IsGiving o → gives taken tells ≡ true →
    Knows o from × (is_some (o.entering from me) ≡ true)
giver o me from taken tells q (Nothing x y e) c g given = (let both : false ≡ true = sym (subst₂ (λ n t. gives n t ≡ false) (sym x) (sym y) refl) ∙ given in absurd cc)
giver o me from taken tells q (First l rest channel apart x y e) c g given =
    (by_way (g.channels from me), by_record (o.entering from me) ((subst (Each (Recorded (o.entering from me))) channel (c.channels from me)).0 is))
  where
    is : gives l.note l.tells ≡ true
    is = subst₂ (λ n t. gives n t ≡ true) (sym x) (sym y) given

    by_way : Knows o from ⊎ Each NoGift (o.channel from me) → Knows o from
    by_way (inl h) = h
    by_way (inr none) = (let both : true ≡ false = sym is ∙ (subst (Each NoGift) channel none).0 in absurd cc)

    by_record : (r : Option Numbers) → IsIn r l.seq → is_some r ≡ true
    by_record None h = absurd h
    by_record (Some r) h = refl
