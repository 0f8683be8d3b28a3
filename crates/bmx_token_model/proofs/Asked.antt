-- Requests in flight: who is asked knows the object, and has a record of the sender, or is about to own the
-- object by a grant in front of the request. Each step keeps it.
use Rattle.std.proofs.Common.{◌≡◌, ◌⊎◌, inl, inr, ℕ, ◌+◌, ◌≤◌, arith, List, [], ◌∷◌, ◌++◌, append_assoc, map, refl, ap, sym, subst, ◌∙◌, Bool, true, false}
use Rattle.std.specs.Prelude.{◌||◌, is_some, Option, Some, None}
use Rattle.std.specs.Option.{option_to_list}
use Rattle.bmx_types.specs.declared.numbers.Mode.TheVariants as mode
use Rattle.bmx_types.specs.Updates.{put_at}
use Rattle.bmx_token.specs.declared.parts.Ask.{Ask}
use Rattle.bmx_token.specs.Transitions.{Share, Note, Asks, Grants, Recalls, Returns, Send, send, Transition, made_share}
use Rattle.bmx_token_model.specs.Machine.{Message, Unnumbered, Numbers, Object, Step, Makes, Does, Receives, Writes, Forgets, Clears, Run, IsFirst, is_ask, asks, brings, draft, numbered, with_holding, issue, issue_all, moved, popped}
use Rattle.bmx_token_model.proofs.Tallies.{tally, tally-append, handover, handover-brings, notes, put-all, put_at-all, put_at-apart, PairCases, Both, Other, pair_cases}
use Rattle.bmx_token_model.proofs.Each.{Each, each_of, issue_way, popped_way, EachSend, sends_more}
use Rattle.bmx_token_model.proofs.Acts.{Acts, Rests, Hears, AltersTo, Wants, Answers, GrantsRead, HandsOver, Revokes, Arrives, Forwards, GetsRead, GetsWrite, ReturnsNone, ReturnsNow, ReturnsLater, GetsBack}
use Rattle.bmx_token_model.proofs.Moves.{Taking, Nothing, Letter, Acting, does_acting, takes_acting, taking_holds, holds_moved, kept_object}
use Rattle.bmx_token_model.proofs.Roles.{stance, stance_as, Under}
use Rattle.bmx_token_model.proofs.Requests.{IsRequested}
use Rattle.bmx_token_model.proofs.First.{untouched}
use Rattle.bmx_token_model.proofs.Letters.{issue_entering, popped_entering, popped_here, Knows, left_of, acts_knowing, knowing_stays}
use Rattle.bmx_token_model.proofs.Parents.{AnswersFor, issue_answers, taking_answers, IsPointed, IsKnown, known_run, pointed_run, granted_knows, handed_over}

-- ## requests in front

pub or_more : (a b : Bool) → b ≡ true → (a || b) ≡ true
or_more true b e = refl
or_more false b e = e

or_first : (a b : Bool) → a ≡ true → (a || b) ≡ true
or_first true b e = refl
or_first false b e = absurd cc

or_false : (b : Bool) → (b || false) ≡ b
or_false true = refl
or_false false = refl

or_assoc : (a b c : Bool) → ((a || b) || c) ≡ (a || (b || c))
or_assoc true b c = refl
or_assoc false b c = refl

-- each request has a record, or a grant of ownership in front of it
abbrev pub Fits : Bool → List Message → Type 0
Fits b [] = Unit {0}
Fits b (l ∷ letters) = (asks l ≡ true → b ≡ true) × Fits (b || brings l) letters

fits_more : (b c : Bool) (letters : List Message) → (b ≡ true → c ≡ true) → Fits b letters → Fits c letters
fits_more b c [] h f = tt
fits_more b c (l ∷ letters) h f = (λ a. h (f.0 a), fits_more (b || brings l) (c || brings l) letters (more b c (brings l) h) f.1)
  where
    more : (b c d : Bool) → (b ≡ true → c ≡ true) → (b || d) ≡ true → (c || d) ≡ true
    more true c d h e = or_first c d (h refl)
    more false c d h e = or_more c d e

-- some letter brings ownership
abbrev pub some_brings : List Message → Bool
some_brings [] = false
some_brings (l ∷ letters) = brings l || some_brings letters

fits_append : (b : Bool) (letters : List Message) (l : Message) → Fits b letters → (asks l ≡ true → (b || some_brings letters) ≡ true) → Fits b (letters ++ l ∷ [])
fits_append b [] l f h = (λ a. sym (or_false b) ∙ h a, tt)
fits_append b (k ∷ letters) l f h = (f.0, fits_append (b || brings k) letters l f.1 (λ a. or_assoc b (brings k) (some_brings letters) ∙ h a))

pub brings_append : (a b : List Message) → some_brings (a ++ b) ≡ (some_brings a || some_brings b)
brings_append [] b = refl
brings_append (l ∷ a) b = ap (λ (x : Bool). brings l || x) (brings_append a b) ∙ sym (or_assoc (brings l) (some_brings a) (some_brings b))

-- of a request wherever it stands
pub fits_there : (b : Bool) (letters : List Message) (l : Message) (before after : List Message) → letters ≡ before ++ l ∷ after → Fits b letters → asks l ≡ true → (b || some_brings before) ≡ true
fits_there b letters l [] after e f a = or_false b ∙ (subst (Fits b) e f).0 a
fits_there b letters l (k ∷ before) after e f a = sym (or_assoc b (brings k) (some_brings before))
    ∙ fits_there (b || brings k) (before ++ l ∷ after) l before after refl (subst (Fits b) e f).1 a

-- each request has a grant of ownership in front of it
fits_without : (front letters : List Message) →
    ((l : Message) (before after : List Message) → front ++ letters ≡ before ++ l ∷ after → asks l ≡ true → some_brings before ≡ true) → Fits (some_brings front) letters
fits_without front [] h = tt
fits_without front (l ∷ letters) h = (
  λ x. h l front letters refl x,
  subst (λ b. Fits b letters) (brings_append front (l ∷ []) ∙ ap (λ (x : Bool). some_brings front || x) (or_false (brings l)))
      (fits_without (front ++ l ∷ []) letters (λ k before after e. h k before after (sym (append_assoc front (l ∷ []) letters) ∙ e))),
)

-- ownership in flight is brought
pub over_brings : (letters : List Message) → 1 ≤ tally handover (notes letters) → some_brings letters ≡ true
over_brings [] h = absurd (omega arith)
over_brings (l ∷ letters) h = by_test (brings l) refl (over_brings letters)
  where
    by_test : (t : Bool) → brings l ≡ t → (1 ≤ tally handover (notes letters) → some_brings letters ≡ true) → (t || some_brings letters) ≡ true
    by_test true e ih = refl
    by_test false e ih = ih (omega (arith, h, tally-append handover (option_to_list l.note) (notes letters), handover-brings l false e))

pub brings_over : (letters : List Message) → some_brings letters ≡ true → 1 ≤ tally handover (notes letters)
brings_over [] h = absurd cc
brings_over (l ∷ letters) h = by_test (brings l) refl h (brings_over letters)
  where
    by_test : (t : Bool) → brings l ≡ t → (t || some_brings letters) ≡ true → (some_brings letters ≡ true → 1 ≤ tally handover (notes letters)) → 1 ≤ tally handover (notes (l ∷ letters))
    by_test true e f ih = omega (arith, tally-append handover (option_to_list l.note) (notes letters), handover-brings l true e)
    by_test false e f ih = omega (arith, tally-append handover (option_to_list l.note) (notes letters), ih f)

brings_there : (front : List Message) (g : Message) (back : List Message) → brings g ≡ true → some_brings (front ++ g ∷ back) ≡ true
brings_there front g back e = brings_append front (g ∷ back) ∙ or_more (some_brings front) (brings g || some_brings back) (or_first (brings g) (some_brings back) e)

-- ## who is asked

abbrev pub has_record : Object → ℕ → ℕ → Bool
has_record o n m = is_some (o.entering n m)

-- a node may be asked by another: it knows the object and answers for the other
pub record MayBeAsked (o : Object) (n by : ℕ) : Type 0 where
  pub knows : Knows o n
  pub answers : AnswersFor o n by

abbrev pub NoAsk : Message → Type 0
NoAsk l = asks l ≡ false

pub record IsAsked (o : Object) : Type 0 where
  pub fits : (n m : ℕ) → Fits (has_record o m n) (o.channel n m)
  pub knows : (n m : ℕ) → Knows o m ⊎ Each NoAsk (o.channel n m)

-- a letter to a node that may be asked, or that asks nothing
issue_asked : (o : Object) (me : ℕ) (d : Unnumbered) → (asks (numbered (o.issued me d.to + 1) d) ≡ true → MayBeAsked o d.to me) → IsAsked o → IsAsked (issue o me d)
issue_asked o me d may a = record { fits = λ n m. fits n m; knows = λ n m. knows n m (a.knows n m) }
  where
    message : Message
    message = numbered (o.issued me d.to + 1) d

    answers : AnswersFor o d.to me → (has_record o d.to me || some_brings (o.channel me d.to)) ≡ true
    answers (inl r) = or_first (has_record o d.to me) (some_brings (o.channel me d.to)) r
    answers (inr over) = or_more (has_record o d.to me) (some_brings (o.channel me d.to)) (over_brings (o.channel me d.to) over)

    grown : (n m : ℕ) → Fits (has_record o m n) ((issue o me d).channel n m)
    grown = put_at-all (λ n m w. Fits (has_record o m n) w) o.channel me d.to _
        (fits_append (has_record o d.to me) (o.channel me d.to) message (a.fits me d.to) (λ x. answers (may x).answers)) (λ n m c. a.fits n m)

    fits : (n m : ℕ) → Fits (has_record (issue o me d) m n) ((issue o me d).channel n m)
    fits n m = fits_more (has_record o m n) (has_record (issue o me d) m n) ((issue o me d).channel n m)
        (issue_entering (λ r. is_some r ≡ true) (λ seq r x. refl) o me d m n) (grown n m)

    knows : (n m : ℕ) → Knows o m ⊎ Each NoAsk (o.channel n m) → Knows o m ⊎ Each NoAsk ((issue o me d).channel n m)
    knows n m (inl k) = inl k
    knows n m (inr none) = by_ask (asks message) refl (pair_cases me d.to n m)
      where
        by_ask : (t : Bool) → asks message ≡ t → PairCases me d.to n m → Knows o m ⊎ Each NoAsk ((issue o me d).channel n m)
        by_ask true e (Both f g) = inl (subst (Knows o) (sym g) (may e).knows)
        by_ask true e (Other c) = inr (subst (Each NoAsk) (sym (put_at-apart o.channel me d.to (o.channel me d.to ++ message ∷ []) n m c)) none)
        by_ask false e c = inr (issue_way NoAsk o me d n m none (λ x y. e))

-- each note that asks goes to one of these
abbrev pub AskThose : (ℕ → Type 0) → List Send → Type 0
AskThose A sends = EachSend (λ s. is_ask s.note ≡ true → A s.to) sends

pub ask_others : {A B : ℕ → Type 0} → ((n : ℕ) → A n → B n) → (sends : List Send) → AskThose A sends → AskThose B sends
ask_others {A} {B} f sends h = sends_more (λ s. is_ask s.note ≡ true → A s.to) (λ s. is_ask s.note ≡ true → B s.to) (λ s g x. f s.to (g x)) sends h

may_more : (o : Object) (me : ℕ) (d : Unnumbered) (n : ℕ) → MayBeAsked o n me → MayBeAsked (issue o me d) n me
may_more o me d n a = record { knows = a.knows; answers = issue_answers o me d n me a.answers }

issue_all_asked : (o : Object) (me : ℕ) (refers : Bool) (sends : List Send) → AskThose (λ n. MayBeAsked o n me) sends → IsAsked o → IsAsked (issue_all o me (map (draft refers) sends))
issue_all_asked o me refers [] those a = a
issue_all_asked o me refers (s ∷ sends) those a =
    issue_all_asked (issue o me (draft refers s)) me refers sends (ask_others (λ n m. may_more o me (draft refers s) n m) sends those.1) (issue_asked o me (draft refers s) those.0 a)

-- a node has another share
holding_asked : (o : Object) (me : ℕ) (h : Option Share) → (Knows o me → is_some h ≡ true) → IsAsked o → IsAsked (with_holding o me h)
holding_asked o me h some a = record {
  fits = a.fits;
  knows = λ n m. put-all (λ j k. Knows o j ⊎ Each NoAsk (o.channel n j) → (is_some k ≡ true) ⊎ Each NoAsk (o.channel n j)) o.holds me h (left_of some) (λ j d z. z) m (a.knows n m);
}

popped_asked : (o : Object) (from me : ℕ) (l : Message) (rest : List Message) → o.channel from me ≡ l ∷ rest → IsAsked o → IsAsked (popped o from me l rest)
popped_asked o from me l rest channel a = record { fits = λ n m. fits n m; knows = λ n m. knows n m (a.knows n m) }
  where
    q : Object
    q = popped o from me l rest

    kept : (n m : ℕ) → has_record o n m ≡ true → has_record q n m ≡ true
    kept n m h = popped_entering (λ r. is_some r ≡ true) (λ seq r x. refl) o from me l rest n m h

    here : (has_record o me from || brings l) ≡ true → has_record q me from ≡ true
    here h = by_old (has_record o me from) (brings l) refl refl h
      where
        by_old : (t u : Bool) → has_record o me from ≡ t → brings l ≡ u → (t || u) ≡ true → has_record q me from ≡ true
        by_old true u e f h = kept me from e
        by_old false true e f h = ap (λ (r : Option Numbers). is_some r) (popped_here o from me l rest f)
        by_old false false e f h = absurd cc

    fits : (n m : ℕ) → Fits (has_record q m n) (q.channel n m)
    fits = put_at-all (λ n m w. Fits (has_record q m n) w) o.channel from me rest
        (fits_more (has_record o me from || brings l) (has_record q me from) rest here (subst (Fits (has_record o me from)) channel (a.fits from me)).1)
        (λ n m d. fits_more (has_record o m n) (has_record q m n) (o.channel n m) (kept m n) (a.fits n m))

    knows : (n m : ℕ) → Knows o m ⊎ Each NoAsk (o.channel n m) → Knows o m ⊎ Each NoAsk (q.channel n m)
    knows n m (inl k) = inl k
    knows n m (inr k) = inr (popped_way NoAsk o from me l rest channel n m k)

taking_asked : (o : Object) (me from : ℕ) (taken : Option Note) (tells : Bool) (q : Object) → Taking o me from taken tells q → IsAsked o → IsAsked q
taking_asked o me from taken tells q (Nothing x y e) a = subst IsAsked (sym e) a
taking_asked o me from taken tells q (Letter l rest channel apart x y e) a = subst IsAsked (sym e) (popped_asked o from me l rest channel a)

-- ## what is asked

-- a transition asks only whom the node looks to, or hands ownership over and asks its taker
pub data Asking (A : ℕ → Type 0) (t : Transition) : Type 0 where
  AsksThose : AskThose A t.sends → Asking A t
  AsksTaker : (to : ℕ) (rest : List Ask) → t.sends ≡ send to (Grants mode.Write) ∷ map (λ (a : Ask). send to (Asks a.mode a.asker)) rest → Asking A t

-- notes that ask nothing
recalls_those : (A : ℕ → Type 0) (nodes : List ℕ) → AskThose A (map (λ n. send n Recalls) nodes)
recalls_those A [] = tt
recalls_those A (n ∷ nodes) = (λ x. absurd cc, recalls_those A nodes)

pub rest_those : (A : ℕ → Type 0) (to : ℕ) (rest : List Ask) → A to → AskThose A (map (λ (a : Ask). send to (Asks a.mode a.asker)) rest)
rest_those A to [] h = tt
rest_those A to (a ∷ rest) h = (λ x. h, rest_those A to rest h)

asks_as : (A : ℕ → Type 0) (t k : Transition) → t ≡ k → AskThose A k.sends → Asking A t
asks_as A t k f h = rw f (AsksThose h)

back : (A : ℕ → Type 0) (to : ℕ) → AskThose A (send to Returns ∷ [])
back A to = (λ x. absurd cc, tt)

pub acts_ask : (A : ℕ → Type 0) (me from : ℕ) (taken : Option Note) (tells : Bool) (h : Option Share) (t : Transition) → Acts me from taken tells h t → ((p : ℕ) → stance h ≡ Under p → A p) → Asking A t
acts_ask A me from taken tells h t (Rests x f) up = asks_as A t _ f tt
acts_ask A me from taken tells h t (Hears e told x f) up = asks_as A t _ f tt
acts_ask A me from taken tells h t (AltersTo b q e alters x f) up = asks_as A t _ f tt
acts_ask A me from taken tells h t (Wants b n parent e role held want x f) up = asks_as A t _ f (λ z. up parent (ap stance e ∙ ap stance_as role), tt)
acts_ask A me from taken tells h t (Answers b owner held e holds due x f) up = asks_as A t _ f (back A owner)
acts_ask A me from taken tells h t (GrantsRead b asker rest e role queue test x f) up = asks_as A t _ f (λ z. absurd cc, tt)
acts_ask A me from taken tells h t (HandsOver b asker rest e role readers queue other test x f) up = AsksTaker asker rest (ap (λ (z : Transition). z.sends) f)
acts_ask A me from taken tells h t (Revokes b asker rest e role queue waiting x f) up = asks_as A t _ f (recalls_those A b.part.readers)
acts_ask A me from taken tells h t (Arrives b n asker e role other x f) up = asks_as A t _ f tt
acts_ask A me from taken tells h t (Forwards b n asker parent e role x f) up = asks_as A t _ f (λ z. up parent (ap stance e ∙ ap stance_as role), tt)
acts_ask A me from taken tells h t (GetsRead b parent e role want ready x f) up = asks_as A t _ f tt
acts_ask A me from taken tells h t (GetsWrite b parent e role want ready x f) up = asks_as A t _ f tt
acts_ask A me from taken tells h t (ReturnsNone k e c x f) up = asks_as A t _ f (back A from)
acts_ask A me from taken tells h t (ReturnsNow b parent e role due test x f) up = asks_as A t _ f (back A from)
acts_ask A me from taken tells h t (ReturnsLater b parent e role due copy test x f) up = asks_as A t _ f tt
acts_ask A me from taken tells h t (GetsBack b e role waited x f) up = asks_as A t _ f tt

-- ## each step

acting_asked : (o p : Object) → Acting o p → IsPointed o → IsRequested p → IsAsked o → IsAsked p
acting_asked o p a w r g = subst IsAsked (sym a.is) (by_asking (acts_ask (λ n. MayBeAsked s n a.me) a.me a.from a.taken a.tells (o.holds a.me) a.transition a.acts up))
  where
    q : Object
    q = a.between

    s : Object
    s = with_holding q a.me a.transition.after

    holds : q.holds ≡ o.holds
    holds = taking_holds o a.me a.from a.taken a.tells q a.taking

    some : is_some (o.holds a.me) ≡ true → is_some a.transition.after ≡ true
    some = knowing_stays a.from (o.holds a.me) a.transition (acts_knowing a.me a.from a.taken a.tells (o.holds a.me) a.transition a.acts)

    asked : IsAsked s
    asked = holding_asked q a.me a.transition.after (λ k. some (subst (λ (f : ℕ → Option Share). is_some (f a.me) ≡ true) holds k)) (taking_asked o a.me a.from a.taken a.tells q a.taking g)

    up : (p : ℕ) → stance (o.holds a.me) ≡ Under p → MayBeAsked s p a.me
    up p under = record {
      knows = put-all (λ j k. Knows o j → is_some k ≡ true) q.holds a.me a.transition.after some (λ j d. subst (λ (f : ℕ → Option Share). is_some (f j) ≡ true) (sym holds)) p (w.known a.me p under);
      answers = taking_answers o a.me a.from a.taken a.tells q a.taking p a.me (w.answers a.me p under);
    }

    by_asking : Asking (λ n. MayBeAsked s n a.me) a.transition → IsAsked (moved q a.me a.refers a.transition)
    by_asking (AsksThose those) = issue_all_asked s a.me a.refers a.transition.sends those asked
    by_asking (AsksTaker to rest l) = subst (λ x. IsAsked (issue_all s a.me (map (draft a.refers) x))) (sym l)
        (issue_all_asked first a.me a.refers (map (λ (x : Ask). send to (Asks x.mode x.asker)) rest)
        (rest_those (λ n. MayBeAsked first n a.me) to rest record { knows = knows; answers = inr over })
        (issue_asked s a.me (draft a.refers (send to (Grants mode.Write))) (λ x. absurd cc) asked))
      where
        first : Object
        first = issue s a.me (draft a.refers (send to (Grants mode.Write)))

        -- the grant alone, as a transition
        over : 1 ≤ tally handover (notes (first.channel a.me to))
        over = handed_over q a.me a.refers record { after = a.transition.after; sends = send to (Grants mode.Write) ∷ [] } to [] refl

        knows : Knows first to
        knows = ap (λ k. is_some k) (sym (holds_moved q a.me a.refers a.transition to)) ∙ granted_knows (moved q a.me a.refers a.transition) a.me to (subst IsRequested a.is r) (handed_over q a.me a.refers a.transition to rest l)

pub asked_step : (o p : Object) → IsPointed o → IsRequested p → IsAsked o → Step o p → IsAsked p
asked_step o p w r a (Makes me nowhere e) = subst IsAsked (sym e) (holding_asked o me (Some made_share) (λ h. refl) a)
asked_step o p w r a (Does me refers act h t has is e) = acting_asked o p (does_acting o p me refers act h t has is e) w r a
asked_step o p w r a (Receives from me l rest t apart channel is e) = acting_asked o p (takes_acting o p from me l rest t apart channel is e) w r a
asked_step o p w r a (Writes me to tells told e) = subst IsAsked (sym e) (issue_asked o me _ (λ x. absurd cc) a)
asked_step o p w r a (Forgets me h has u e) = subst IsAsked (sym e) record {
  fits = a.fits;
  knows = λ n m. put-all (λ j k. Knows o j ⊎ Each NoAsk (o.channel n j) → (is_some k ≡ true) ⊎ Each NoAsk (o.channel n j)) o.holds me None
      (λ z. inr (each_of NoAsk (o.channel n me) (u.no_ask n))) (λ j d z. z) m (a.knows n m);
}
asked_step o p w r a (Clears me other u e) = subst IsAsked (sym e) record { fits = fits; knows = a.knows }
  where
    q : Object
    q = record o { entering = put_at o.entering me other None }

    ahead : (l : Message) (before after : List Message) → o.channel other me ≡ before ++ l ∷ after → asks l ≡ true → some_brings before ≡ true
    ahead l before after f x =
        let g = u.no_ask l before after f x in
        ap some_brings g.3 ∙ brings_there g.1 g.0 g.2 g.4

    fits : (n m : ℕ) → Fits (has_record q m n) (o.channel n m)
    fits n m = put_at-all (λ m n r. Fits (is_some r) (o.channel n m)) o.entering me other None
        (fits_more false false (o.channel other me) (λ z. z) (fits_without [] (o.channel other me) ahead)) (λ m n c. a.fits n m) m n

first_asked : (o : Object) → IsFirst o → IsAsked o
first_asked o first = record {
  fits = λ n m. subst (Fits (has_record o m n)) (sym ((untouched o first).channel n m)) tt;
  knows = λ n m. inr (subst (Each NoAsk) (sym ((untouched o first).channel n m)) tt);
}

-- whatever steps are taken from an opening, who is asked knows the object, and has a record or a grant in front
pub asked_run : (o p : Object) → IsFirst o → Run o p → IsAsked p
asked_run o p first run =
    kept_object (λ q. IsKnown q × IsPointed q) IsAsked (λ q r a b x s. asked_step q r a.1 b.0.requested x s) o (λ q r. (known_run o q first r, pointed_run o q first r)) (first_asked o first) p run
