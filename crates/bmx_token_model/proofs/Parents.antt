-- Parents: where a node has a parent, the parent knows the object, and has a record of the node or is about to
-- own the object by a grant in flight from it. Each step keeps it.
use Rattle.std.proofs.Common.{◌≡◌, ◌≢◌, ◌⊎◌, inl, inr, ℕ, ◌≤◌, arith, List, ◌∷◌, ◌++◌, map, refl, ap, sym, subst, subst₂, ◌∙◌, Bool, true, false, cond}
use Rattle.std.specs.Prelude.{is_some, Option, Some, None}
use Rattle.std.specs.Option.{option_to_list}
use Rattle.bmx_types.specs.declared.numbers.Mode.TheVariants as mode
use Rattle.bmx_types.specs.Updates.{put_at}
use Rattle.bmx_token.specs.declared.parts.Ask.{Ask}
use Rattle.bmx_token.specs.declared.parts.Role.TheVariants.{Parent}
use Rattle.bmx_token.specs.Transitions.{Share, Note, Asks, Grants, Recalls, Returns, send, Transition, made_share}
use Rattle.bmx_token_model.specs.Machine.{Message, Unnumbered, Numbers, Object, Step, Makes, Does, Receives, Writes, Forgets, Clears, Run, IsFirst, Absent as NotYet, Born, IsFirstElsewhere, Unknown, Heard, gives, brings, with_holding, issue, moved, popped}
use Rattle.bmx_token_model.proofs.Tallies.{put-all, put-here, put-apart, tally, tally-append, tally_at_most, handover, handover-brings, notes, notes-append, Cases, Same, Apart, cases, same_true, put_at-here, put_at-apart, Both, Other, pair_cases}
use Rattle.bmx_token_model.proofs.Each.{moved_kept}
use Rattle.bmx_token_model.proofs.Moves.{notes_to, sent, drafted, issue_notes, moved_notes, holds_moved, tally-sent, Taking, Nothing, Letter, Acting, does_acting, takes_acting, taking_holds, kept_object}
use Rattle.bmx_token_model.proofs.Roles.{Under, stance, under_is, not_absent, not_owning, role_under, Looks, Stays, Meets, Transits, Gains, Hands, acts_look}
use Rattle.bmx_token_model.proofs.Owners.{write_sends_one}
use Rattle.bmx_token_model.proofs.Spots.{Spot, Unasked, Granted, IsAlone, alone_elsewhere}
use Rattle.bmx_token_model.proofs.Requests.{IsRequested, granting, stands, unwanting, requested_run}
use Rattle.bmx_token_model.proofs.Letters.{issue_entering, popped_entering, popped_here, IsRecorded, IsOrderly, IsGiving, Knows, acts_knowing, knowing_stays, giver, orderly_run, giving_run}

-- ## what a parent has

-- a node has a record of another, or a grant of ownership is in flight to it from there
abbrev pub AnswersFor : Object → ℕ → ℕ → Type 0
AnswersFor o n m = (is_some (o.entering n m) ≡ true) ⊎ (1 ≤ tally handover (notes (o.channel m n)))

pub issue_answers : (o : Object) (me : ℕ) (d : Unnumbered) (n m : ℕ) → AnswersFor o n m → AnswersFor (issue o me d) n m
issue_answers o me d n m (inl h) = inl (issue_entering (λ r. is_some r ≡ true) (λ seq r x. refl) o me d n m h)
issue_answers o me d n m (inr h) =
    inr (omega (arith, h, ap (tally handover) (issue_notes o me d m n) ∙ tally-append handover (notes (o.channel m n)) (drafted me d m n)))

pub moved_answers : (o : Object) (me : ℕ) (refers : Bool) (t : Transition) (n m : ℕ) → AnswersFor o n m → AnswersFor (moved o me refers t) n m
moved_answers o me refers t n m h = moved_kept (λ q. AnswersFor q n m) me (λ q d k. issue_answers q me d n m k) o refers t h

popped_answers : (o : Object) (from me : ℕ) (l : Message) (rest : List Message) → o.channel from me ≡ l ∷ rest → (n m : ℕ) → AnswersFor o n m → AnswersFor (popped o from me l rest) n m
popped_answers o from me l rest channel n m (inl h) = inl (popped_entering (λ r. is_some r ≡ true) (λ seq r x. refl) o from me l rest n m h)
popped_answers o from me l rest channel n m (inr h) = elim (pair_cases from me m n) [
  | Both e f ↦ subst₂ (λ x y. AnswersFor (popped o from me l rest) x y) (sym f) (sym e)
      (here (brings l) refl (subst₂ (λ x y. 1 ≤ tally handover (notes (o.channel x y))) e f h))
  | Other d ↦ inr (subst (λ w. 1 ≤ tally handover (notes w)) (sym (put_at-apart o.channel from me rest m n d)) h)
]
  where
    here : (t : Bool) → brings l ≡ t → 1 ≤ tally handover (notes (o.channel from me)) → AnswersFor (popped o from me l rest) me from
    here true e some = inl (ap (λ (r : Option Numbers). is_some r) (popped_here o from me l rest e))
    here false e some = inr (subst (λ w. 1 ≤ tally handover (notes w)) (sym (put_at-here o.channel from me rest))
        (omega (arith, some, ap (λ w. tally handover (notes w)) channel ∙ tally-append handover (option_to_list l.note) (notes rest), handover-brings l false e)))

pub taking_answers : (o : Object) (me from : ℕ) (taken : Option Note) (tells : Bool) (q : Object) → Taking o me from taken tells q → (n m : ℕ) → AnswersFor o n m → AnswersFor q n m
taking_answers o me from taken tells q (Nothing x y e) n m h = subst (λ z. AnswersFor z n m) (sym e) h
taking_answers o me from taken tells q (Letter l rest channel apart x y e) n m h = subst (λ z. AnswersFor z n m) (sym e) (popped_answers o from me l rest channel n m h)

-- ## who is granted ownership knows the object

handover_grants : (n : Note) → handover n ≤ granting mode.Write n
handover_grants (Asks m asker) = omega arith
handover_grants (Grants mode.Read) = omega arith
handover_grants (Grants mode.Write) = omega arith
handover_grants Recalls = omega arith
handover_grants Returns = omega arith

-- who is granted ownership wants it
pub granted_wants : (p : Object) (n to : ℕ) → IsRequested p → 1 ≤ tally handover (notes (p.channel n to)) → unwanting mode.Write (p.holds to) ≡ 0
granted_wants p n to r some =
    let s : (s : Spot) × IsAlone (stands p mode.Write to) s = r.spots mode.Write to in
    let grants : 1 ≤ tally (granting mode.Write) (notes (p.channel n to)) = omega (arith, some, tally_at_most handover (granting mode.Write) handover_grants (notes (p.channel n to))) in
    alone_elsewhere (stands p mode.Write to) s.0 (Granted n) Unasked s.1 grants refl

pub granted_knows : (p : Object) (n to : ℕ) → IsRequested p → 1 ≤ tally handover (notes (p.channel n to)) → Knows p to
granted_knows p n to r some = by_holds (p.holds to) (granted_wants p n to r some)
  where
    by_holds : (h : Option Share) → unwanting mode.Write h ≡ 0 → is_some h ≡ true
    by_holds None e = absurd (omega (arith, e))
    by_holds (Some b) e = refl

-- ownership that was just handed over is in flight
pub handed_over : (q : Object) (me : ℕ) (refers : Bool) (t : Transition) (to : ℕ) (rest : List Ask) →
    t.sends ≡ send to (Grants mode.Write) ∷ map (λ (a : Ask). send to (Asks a.mode a.asker)) rest → 1 ≤ tally handover (notes ((moved q me refers t).channel me to))
handed_over q me refers t to rest s = omega (
  arith,
  ap (tally handover) (moved_notes q me refers t me to) ∙ tally-append handover (notes (q.channel me to)) (sent me t.sends me to),
  tally-sent handover me t.sends me to ∙ ap (λ (u : Bool). cond u (tally handover (notes_to to t.sends)) 0) (same_true me),
  ap (λ x. tally handover (notes_to to x)) s ∙ write_sends_one to to rest ∙ ap (λ (u : Bool). cond {A = ℕ} u 1 0) (same_true to),
)

-- ## stances after a transition

pub stance_mine : (q : Object) (me : ℕ) (refers : Bool) (t : Transition) → stance ((moved q me refers t).holds me) ≡ stance t.after
stance_mine q me refers t = ap stance (holds_moved q me refers t me ∙ put-here q.holds me t.after)

pub stance_other : (q : Object) (me : ℕ) (refers : Bool) (t : Transition) (n : ℕ) → n ≢ me → stance ((moved q me refers t).holds n) ≡ stance (q.holds n)
stance_other q me refers t n d = ap stance (holds_moved q me refers t n ∙ put-apart q.holds me t.after n d)

pub knows_moved : (q : Object) (me : ℕ) (refers : Bool) (t : Transition) (n : ℕ) → (Knows q me → is_some t.after ≡ true) → Knows q n → Knows (moved q me refers t) n
knows_moved q me refers t n some h = ap (λ k. is_some k) (holds_moved q me refers t n) ∙ put-all (λ j k. Knows q j → is_some k ≡ true) q.holds me t.after some (λ j d z. z) n h

-- ## each step

-- where a node has a parent, it knows the object and answers for it
pub record IsPointed (o : Object) : Type 0 where
  pub known : (m n : ℕ) → stance (o.holds m) ≡ Under n → Knows o n
  pub answers : (m n : ℕ) → stance (o.holds m) ≡ Under n → AnswersFor o n m

-- one node has another stance, and each other node the one it had
moved_pointed : (q : Object) (me : ℕ) (refers : Bool) (t : Transition) → (Knows q me → is_some t.after ≡ true) →
    ((n : ℕ) → stance t.after ≡ Under n → Knows (moved q me refers t) n × AnswersFor (moved q me refers t) n me) → IsPointed q → IsPointed (moved q me refers t)
moved_pointed q me refers t some here g = record {
  known = λ k n e. (both k n (cases k me) e).0;
  answers = λ k n e. (both k n (cases k me) e).1;
}
  where
    both : (k n : ℕ) → Cases k me → stance ((moved q me refers t).holds k) ≡ Under n → Knows (moved q me refers t) n × AnswersFor (moved q me refers t) n k
    both k n (Same f u) e =
        let at : stance t.after ≡ Under n = sym (stance_mine q me refers t) ∙ ap (λ (z : ℕ). stance ((moved q me refers t).holds z)) (sym f) ∙ e in
        subst (λ x. Knows (moved q me refers t) n × AnswersFor (moved q me refers t) n x) (sym f) (here n at)
    both k n (Apart f u) e =
        let at : stance (q.holds k) ≡ Under n = sym (stance_other q me refers t k f) ∙ e in
        (knows_moved q me refers t n some (g.known k n at), moved_answers q me refers t n k (g.answers k n at))

acting_pointed : (o p : Object) → Acting o p → IsRecorded o → IsGiving o → IsRequested p → IsPointed o → IsPointed p
acting_pointed o p a c g r w = subst IsPointed (sym a.is) (moved_pointed q a.me a.refers a.transition some by_looks pointed)
  where
    q : Object
    q = a.between

    s : Object
    s = moved q a.me a.refers a.transition

    holds : q.holds ≡ o.holds
    holds = taking_holds o a.me a.from a.taken a.tells q a.taking

    stays : is_some (o.holds a.me) ≡ true → is_some a.transition.after ≡ true
    stays = knowing_stays a.from (o.holds a.me) a.transition (acts_knowing a.me a.from a.taken a.tells (o.holds a.me) a.transition a.acts)

    some : Knows q a.me → is_some a.transition.after ≡ true
    some k = stays (subst (λ (f : ℕ → Option Share). is_some (f a.me) ≡ true) holds k)

    pointed : IsPointed q
    pointed = record {
      known = λ m n e. subst (λ (f : ℕ → Option Share). is_some (f n) ≡ true) (sym holds) (w.known m n (subst (λ (f : ℕ → Option Share). stance (f m) ≡ Under n) holds e));
      answers = λ m n e. taking_answers o a.me a.from a.taken a.tells q a.taking n m (w.answers m n (subst (λ (f : ℕ → Option Share). stance (f m) ≡ Under n) holds e));
    }

    old : (n : ℕ) → Knows o n → AnswersFor o n a.me → Knows s n × AnswersFor s n a.me
    old n k x = (
      knows_moved q a.me a.refers a.transition n some (subst (λ (f : ℕ → Option Share). is_some (f n) ≡ true) (sym holds) k),
      moved_answers q a.me a.refers a.transition n a.me (taking_answers o a.me a.from a.taken a.tells q a.taking n a.me x),
    )

    from_giver : gives a.taken a.tells ≡ true → Knows s a.from × AnswersFor s a.from a.me
    from_giver given =
        let x : Knows o a.from × (is_some (o.entering a.from a.me) ≡ true) = giver o a.me a.from a.taken a.tells q a.taking c g given in
        old a.from x.0 (inl x.1)

    by : (n : ℕ) → stance a.transition.after ≡ Under n → Looks a.from a.taken a.tells (o.holds a.me) a.transition → Knows s n × AnswersFor s n a.me
    by n at (Stays e x l) = let was : stance (o.holds a.me) ≡ Under n = sym e ∙ at in old n (w.known a.me n was) (w.answers a.me n was)
    by n at (Meets x y given z l) = subst (λ z. Knows s z × AnswersFor s z a.me) (under_is a.from n (sym y ∙ at)) (from_giver given)
    by n at (Transits j x y t l) = subst (λ z. Knows s z × AnswersFor s z a.me) (under_is a.from n (sym y ∙ at)) (from_giver (ap (λ z. gives z a.tells) t))
    by n at (Gains j x y t l) = not_owning at y
    by n at (Hands to rest x y t l) =
        let over : 1 ≤ tally handover (notes (s.channel a.me to)) = handed_over q a.me a.refers a.transition to rest l in
        subst (λ z. Knows s z × AnswersFor s z a.me) (under_is to n (sym y ∙ at)) (granted_knows s a.me to (subst IsRequested a.is r) over, inr over)

    by_looks : (n : ℕ) → stance a.transition.after ≡ Under n → Knows s n × AnswersFor s n a.me
    by_looks n at = by n at (acts_look a.me a.from a.taken a.tells (o.holds a.me) a.transition a.acts)

-- a letter that brings ownership
pub over_there : (letters : List Message) (l : Message) (before after : List Message) → letters ≡ before ++ l ∷ after → brings l ≡ true → 1 ≤ tally handover (notes letters)
over_there letters l before after e b = omega (
  arith,
  ap (λ x. tally handover (notes x)) e ∙ ap (tally handover) (notes-append before (l ∷ after)) ∙ tally-append handover (notes before) (notes (l ∷ after)),
  tally-append handover (option_to_list l.note) (notes after),
  handover-brings l true b,
)

-- the parent of a node whose stance is known
pub no_child : (o : Object) (me : ℕ) → ((m : ℕ) (k : Share) → o.holds m ≡ Some k → k.part.role ≢ Parent me) → (m : ℕ) → stance (o.holds m) ≡ Under me → ⊥
no_child o me none m f = by_holds (o.holds m) refl f
  where
    by_holds : (k : Option Share) → o.holds m ≡ k → stance k ≡ Under me → ⊥
    by_holds None d f = absurd cc
    by_holds (Some k) d f = none m k d (role_under k.part.role me f)

pub pointed_step : (o p : Object) → IsRecorded o → IsGiving o → IsRequested p → IsPointed o → Step o p → IsPointed p
pointed_step o p c g r w (Makes me nowhere e) = subst IsPointed (sym e) record { known = λ m n f. nobody m n f; answers = λ m n f. nobody m n f }
  where
    nobody : {A : Type 0} (m n : ℕ) → stance ((with_holding o me (Some made_share)).holds m) ≡ Under n → A
    nobody {A} m n = put-all (λ j k. stance k ≡ Under n → A) o.holds me (Some made_share) (λ h. not_owning h refl) (λ j d h. not_absent h (ap stance (nowhere.unknown j))) m
pointed_step o p c g r w (Does me refers a h t has is e) = acting_pointed o p (does_acting o p me refers a h t has is e) c g r w
pointed_step o p c g r w (Receives from me l rest t apart channel is e) = acting_pointed o p (takes_acting o p from me l rest t apart channel is e) c g r w
pointed_step o p c g r w (Writes me to tells told e) = subst IsPointed (sym e) record { known = w.known; answers = λ m n f. issue_answers o me _ n m (w.answers m n f) }
pointed_step o p c g r w (Forgets me h has u e) = subst IsPointed (sym e) record {
  known = λ m n f. put-all (λ j k. (j ≡ me → ⊥) → Knows o j → is_some k ≡ true) o.holds me None (λ d z. absurd (d refl)) (λ j d x z. z) n
      (λ d. no_child o me u.no_child m (before m n f ∙ ap (λ (z : ℕ). Under z) d)) (w.known m n (before m n f));
  answers = λ m n f. w.answers m n (before m n f);
}
  where
    before : (m n : ℕ) → stance ((with_holding o me None).holds m) ≡ Under n → stance (o.holds m) ≡ Under n
    before m n = put-all (λ j k. stance k ≡ Under n → stance (o.holds j) ≡ Under n) o.holds me None (λ f. not_absent f refl) (λ j d f. f) m
pointed_step o p c g r w (Clears me other u e) = subst IsPointed (sym e) record { known = w.known; answers = λ m n f. by_pair m n f (w.answers m n f) }
  where
    q : Object
    q = record o { entering = put_at o.entering me other None }

    child : (k : Option Share) → o.holds other ≡ k → stance k ≡ Under me → 1 ≤ tally handover (notes (o.channel other me))
    child None d f = absurd cc
    child (Some k) d f =
        let x = u.no_child k d (role_under k.part.role me f) in
        over_there (o.channel other me) x.0 x.1 x.2 x.3 x.4

    by_pair : (m n : ℕ) → stance (o.holds m) ≡ Under n → AnswersFor o n m → AnswersFor q n m
    by_pair m n f (inr h) = inr h
    by_pair m n f (inl h) = elim (pair_cases me other n m) [
      | Both a b ↦ inr (subst₂ (λ x y. 1 ≤ tally handover (notes (o.channel y x))) (sym a) (sym b)
          (child (o.holds other) refl (ap (λ (z : ℕ). stance (o.holds z)) (sym b) ∙ f ∙ ap (λ (z : ℕ). Under z) a)))
      | Other d ↦ inl (ap (λ (r : Option Numbers). is_some r) (put_at-apart o.entering me other None n m d) ∙ h)
    ]

-- ## over runs

-- what is known of each state
pub record IsKnown (o : Object) : Type 0 where
  pub orderly : IsOrderly o
  pub giving : IsGiving o
  pub requested : IsRequested o

pub known_run : (o p : Object) → IsFirst o → Run o p → IsKnown p
known_run o p first run = record { orderly = orderly_run o p first run; giving = giving_run o p first run; requested = requested_run o p first run }

first_pointed : (o : Object) → IsFirst o → IsPointed o
first_pointed o (NotYet u holds) = record {
  known = λ m n e. not_absent e (ap stance (holds m));
  answers = λ m n e. not_absent e (ap stance (holds m));
}
first_pointed o (Born u born) = record {
  known = λ m n e. (both m n (cases m 0) e).0;
  answers = λ m n e. (both m n (cases m 0) e).1;
}
  where
    both : (m n : ℕ) → Cases m 0 → stance (o.holds m) ≡ Under n → Knows o n × AnswersFor o n m
    both m n (Same f t) e = not_owning e (ap stance (ap o.holds f ∙ born.owner))
    both m n (Apart f t) e = elsewhere (born.others m f)
      where
        elsewhere : IsFirstElsewhere (o.holds m) → Knows o n × AnswersFor o n m
        elsewhere (Unknown g) = not_absent e (ap stance g)
        elsewhere (Heard g) =
            let is : 0 ≡ n = under_is 0 n (sym (ap stance g) ∙ e) in
            subst (λ z. Knows o z × AnswersFor o z m) is
            (ap (λ (k : Option Share). is_some k) born.owner, inl (ap (λ (r : Option Numbers). is_some r) (born.recorded m g)))

-- whatever steps are taken from an opening, each parent knows the object and answers for it
pub pointed_run : (o p : Object) → IsFirst o → Run o p → IsPointed p
pointed_run o p first run =
    kept_object IsKnown IsPointed (λ q r a b w s. pointed_step q r a.orderly.recorded a.giving b.requested w s) o (λ q r. known_run o q first r) (first_pointed o first) p run
