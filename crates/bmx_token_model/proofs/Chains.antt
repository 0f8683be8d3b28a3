-- Chains: from each node that knows the object its parents lead to the owner or, while ownership is in flight, to
-- who gave it. Each step keeps it.
use Rattle.std.proofs.Common.{◌≡◌, ◌≢◌, inl, ℕ, ◌≤◌, arith, List, [], refl, ap, sym, subst, ◌∙◌, Bool, true, false, cond}
use Rattle.std.specs.Prelude.{is_some, Option, Some, None}
use Rattle.std.specs.Option.{option_to_list}
use Rattle.bmx_types.specs.declared.numbers.Mode.TheVariants as mode
use Rattle.bmx_token.specs.Transitions.{Share, Note, Grants, Send, made_share}
use Rattle.bmx_token_model.specs.Machine.{Object, Step, Makes, Does, Receives, Writes, Forgets, Clears, Run, IsFirst, Absent as NotYet, Born, IsFirstElsewhere, Unknown, Heard, with_holding}
use Rattle.bmx_token_model.proofs.Tallies.{put-all, put-apart, tally, read_grant, handover, notes, Cases, Same, Apart, cases, Both, Other, pair_cases}
use Rattle.bmx_token_model.proofs.Moves.{notes_to, sent, came, Moves, Acting, does_acting, takes_acting, acting_moves, taking_holds, silent_notes, came-here, came-apart, came-nothing, sent-nothing, tally-before, tally-after, kept_object}
use Rattle.bmx_token_model.proofs.Roles.{stance, Under, Owning, not_absent, not_owning, owning_absent, some_stance, stance_some, Looks, Stays, Meets, Transits, Gains, Hands, acts_look}
use Rattle.bmx_token_model.proofs.Owners.{IsSeated, owned_owning, one_handover, no_owner, nothing_said, write_sends_one, seated_run}
use Rattle.bmx_token_model.proofs.Shared.{IsShared, read_is_owner, shared_run}
use Rattle.bmx_token_model.proofs.Letters.{Knows, giver}
use Rattle.bmx_token_model.proofs.Parents.{IsKnown, known_run, stance_mine, stance_other, handed_over, no_child, granted_knows}
use Rattle.bmx_token_model.proofs.Apart.{IsApart, FromAnother, another_of, apart_run}

-- ownership is in flight from one node to another
abbrev pub IsOver : Object → ℕ → ℕ → Type 0
IsOver o n k = 1 ≤ tally handover (notes (o.channel n k))

-- a node has the owner's role, or gave ownership in a letter in flight
pub data ChainStop (o : Object) (n : ℕ) : Type 0 where
  Has : stance (o.holds n) ≡ Owning → ChainStop o n
  Gave : (k : ℕ) → IsOver o n k → ChainStop o n

-- from a node, through parents, to one of these
pub data ChainFrom (o : Object) : ℕ → Type 0 where
  Here : {n : ℕ} → ChainStop o n → ChainFrom o n
  On : {n p : ℕ} → stance (o.holds n) ≡ Under p → ChainFrom o p → ChainFrom o n

-- along a chain, from its end on
pub along : (o : Object) (P : ℕ → Type 0) → ((n : ℕ) → ChainStop o n → P n) → ((n k : ℕ) → stance (o.holds n) ≡ Under k → P k → P n) → (n : ℕ) → ChainFrom o n → P n
along o P ends on n (Here x) = ends n x
along o P ends on n (On {p = k} e rest) = on n k e (along o P ends on k rest)

pub record IsChained (o : Object) : Type 0 where
  -- who gave ownership asks its taker from then on
  pub givers : (n k : ℕ) → IsOver o n k → stance (o.holds n) ≡ Under k
  pub chains : (n : ℕ) → Knows o n → ChainFrom o n

-- where each node looks as it did
same_leads : (o p : Object) → ((n : ℕ) → stance (p.holds n) ≡ stance (o.holds n)) → ((n : ℕ) → ChainStop o n → ChainStop p n) → (n : ℕ) → ChainFrom o n → ChainFrom p n
same_leads o p same own = along o (ChainFrom p) (λ n x. Here (own n x)) (λ n k e r. On (same n ∙ e) r)

-- where each node but one looks as it did, and that one's chain is known
other_leads : (o p : Object) (me : ℕ) → ChainFrom p me → ((n : ℕ) → n ≢ me → stance (p.holds n) ≡ stance (o.holds n)) → ((n : ℕ) → n ≢ me → ChainStop o n → ChainFrom p n) →
    (n : ℕ) → ChainFrom o n → ChainFrom p n
other_leads o p me here same own = along o (ChainFrom p) (λ n x. ends n x (cases n me)) (λ n k e r. on n k e r (cases n me))
  where
    ends : (n : ℕ) → ChainStop o n → Cases n me → ChainFrom p n
    ends n x (Same e t) = subst (ChainFrom p) (sym e) here
    ends n x (Apart e t) = own n e x

    on : (n k : ℕ) → stance (o.holds n) ≡ Under k → ChainFrom p k → Cases n me → ChainFrom p n
    on n k e r (Same f t) = subst (ChainFrom p) (sym f) here
    on n k e r (Apart f t) = On (same n f ∙ e) r

-- chains that don't meet a node, since it neither ends one nor has a parent
apart_leads : (o p : Object) (me : ℕ) → (ChainStop o me → ⊥) → ((k : ℕ) → stance (o.holds me) ≡ Under k → ⊥) →
    ((n : ℕ) → n ≢ me → stance (p.holds n) ≡ stance (o.holds n)) → ((n : ℕ) → n ≢ me → ChainStop o n → ChainStop p n) → (n : ℕ) → ChainFrom o n → ChainFrom p n
apart_leads o p me free none same own = along o (ChainFrom p)
    (λ n x. Here (own n (λ e. free (subst (ChainStop o) e x)) x))
    (λ n k e r. On (same n (λ f. none k (subst (λ (z : ℕ). stance (o.holds z) ≡ Under k) f e)) ∙ e) r)

-- chains that don't meet a node that is no parent
childless_leads : (o p : Object) (me : ℕ) → ((n : ℕ) → stance (o.holds n) ≡ Under me → ⊥) →
    ((n : ℕ) → n ≢ me → stance (p.holds n) ≡ stance (o.holds n)) → ((n : ℕ) → n ≢ me → ChainStop o n → ChainStop p n) → (n : ℕ) → ChainFrom o n → n ≢ me → ChainFrom p n
childless_leads o p me none same own = along o (λ n. n ≢ me → ChainFrom p n)
    (λ n x d. Here (own n d x))
    (λ n k e r d. On (same n d ∙ e) (r (λ f. none n (e ∙ ap (λ (z : ℕ). Under z) f))))

-- ## transitions

-- what is known of the state before
record IsBefore (o : Object) : Type 0 where
  known : IsKnown o
  shared : IsShared o
  seated : IsSeated o
  apart : IsApart o

-- the stance of the taker, and of the others
mine : (o p : Object) (a : Acting o p) → stance (p.holds a.me) ≡ stance a.transition.after
mine o p a = ap (λ (z : Object). stance (z.holds a.me)) a.is ∙ stance_mine a.between a.me a.refers a.transition

other : (o p : Object) (a : Acting o p) (n : ℕ) → n ≢ a.me → stance (p.holds n) ≡ stance (o.holds n)
other o p a n d = ap (λ (z : Object). stance (z.holds n)) a.is ∙ stance_other a.between a.me a.refers a.transition n d
    ∙ ap (λ (f : ℕ → Option Share). stance (f n)) (taking_holds o a.me a.from a.taken a.tells a.between a.taking)

moves : (o p : Object) (a : Acting o p) → Moves o p a.me a.from a.taken a.transition
moves o p a = acting_moves o p a.me a.from a.taken a.tells a.transition a.refers a.between a.taking a.is

looks : (o p : Object) (a : Acting o p) → Looks a.from a.taken a.tells (o.holds a.me) a.transition
looks o p a = acts_look a.me a.from a.taken a.tells (o.holds a.me) a.transition a.acts

-- ownership in flight that wasn't taken
stays_over : (o p : Object) (a : Acting o p) (n k : ℕ) → tally handover (came a.from a.me a.taken n k) ≡ 0 → IsOver o n k → IsOver p n k
stays_over o p a n k none h = omega (
  arith,
  h,
  none,
  tally-before handover o p a.me a.from a.taken a.transition (moves o p a) n k,
  tally-after handover o p a.me a.from a.taken a.transition (moves o p a) n k,
)

-- and that wasn't sent just now
was_over : (o p : Object) (a : Acting o p) (n k : ℕ) → tally handover (sent a.me a.transition.sends n k) ≡ 0 → IsOver p n k → IsOver o n k
was_over o p a n k none h = omega (
  arith,
  h,
  none,
  tally-before handover o p a.me a.from a.taken a.transition (moves o p a) n k,
  tally-after handover o p a.me a.from a.taken a.transition (moves o p a) n k,
)

none_came : (from me : ℕ) (taken : Option Note) (n k : ℕ) → tally handover (option_to_list taken) ≡ 0 → tally handover (came from me taken n k) ≡ 0
none_came from me taken n k h = came-nothing handover from me taken n k h

none_sent : (me : ℕ) (sends : List Send) (n k : ℕ) → sends ≡ [] → tally handover (sent me sends n k) ≡ 0
none_sent me sends n k s = sent-nothing handover me sends n k (ap (λ x. tally handover (notes_to k x)) s)

-- who sends a copy that is taken owns the object
sender_owns : (o p : Object) (a : Acting o p) → IsShared o → a.taken ≡ Some (Grants mode.Read) → stance (o.holds a.from) ≡ Owning
sender_owns o p a shared x = owned_owning (o.holds a.from) (read_is_owner (o.holds a.from) a.me (shared.sound a.from) ((shared.pairs a.from a.me).granted grants))
  where
    grants : 1 ≤ tally read_grant (notes (o.channel a.from a.me))
    grants = omega (
      arith,
      tally-before read_grant o p a.me a.from a.taken a.transition (moves o p a) a.from a.me,
      ap (tally read_grant) (came-here a.from a.me a.taken) ∙ ap (λ n. tally read_grant (option_to_list n)) x,
    )

acting_givers : (o p : Object) (a : Acting o p) → IsBefore o → IsChained o → (n k : ℕ) → IsOver p n k → stance (p.holds n) ≡ Under k
acting_givers o p a b c n k h = by_looks (looks o p a)
  where
    -- as before, where the stance of the node is
    kept : IsOver o n k → (n ≡ a.me → stance (p.holds a.me) ≡ stance (o.holds a.me)) → stance (p.holds n) ≡ Under k
    kept over same = by_case (cases n a.me)
      where
        by_case : Cases n a.me → stance (p.holds n) ≡ Under k
        by_case (Same e t) = ap (λ (z : ℕ). stance (p.holds z)) e ∙ same e ∙ ap (λ (z : ℕ). stance (o.holds z)) (sym e) ∙ c.givers n k over
        by_case (Apart e t) = other o p a n e ∙ c.givers n k over

    by_looks : Looks a.from a.taken a.tells (o.holds a.me) a.transition → stance (p.holds n) ≡ Under k
    by_looks (Stays e x l) = kept (was_over o p a n k (sent-nothing handover a.me a.transition.sends n k (l k)) h) (λ f. mine o p a ∙ e)
    by_looks (Meets x y g z l) =
        let over : IsOver o n k = was_over o p a n k (sent-nothing handover a.me a.transition.sends n k (l k)) h in
        kept over (λ f. not_absent (ap (λ (z : ℕ). stance (o.holds z)) (sym f) ∙ c.givers n k over) x)
    by_looks (Transits j x y t l) =
        let over : IsOver o n k = was_over o p a n k (none_sent a.me a.transition.sends n k l) h in
        no_owner o n k a.from b.seated over (sender_owns o p a b.shared t)
    by_looks (Gains j x y t l) = kept over (λ f. absurd (away (inl (ap (λ (z : Option Note). is_some z) t)) (from_is f)))
      where
        over : IsOver o n k
        over = was_over o p a n k (none_sent a.me a.transition.sends n k l) h

        away : FromAnother a.me a.from a.taken a.tells
        away = another_of o a.me a.from a.taken a.tells a.between a.taking

        was : IsOver o a.from a.me
        was = omega (
          arith,
          tally-before handover o p a.me a.from a.taken a.transition (moves o p a) a.from a.me,
          ap (tally handover) (came-here a.from a.me a.taken) ∙ ap (λ n. tally handover (option_to_list n)) t,
        )

        from_is : n ≡ a.me → a.from ≡ a.me
        from_is f = (one_handover o a.from a.me n k b.seated was over).0 ∙ f
    by_looks (Hands to rest x y t l) = by_case (cases n a.me)
      where
        by_case : Cases n a.me → stance (p.holds n) ≡ Under k
        by_case (Apart e u) = kept (was_over o p a n k (ap (λ (z : Bool). tally handover (cond z (notes_to k a.transition.sends) [])) u) h) (λ f. absurd (e f))
        by_case (Same e u) = by_taker (cases k to)
          where
            by_taker : Cases k to → stance (p.holds n) ≡ Under k
            by_taker (Same f v) = ap (λ (z : ℕ). stance (p.holds z)) e ∙ mine o p a ∙ y ∙ ap (λ (z : ℕ). Under z) (sym f)
            by_taker (Apart f v) =
                let none : tally handover (notes_to k a.transition.sends) ≡ 0 =
                ap (λ z. tally handover (notes_to k z)) l ∙ write_sends_one k to rest ∙ ap (λ (z : Bool). cond {A = ℕ} z 1 0) v in
                let over : IsOver o n k = was_over o p a n k (sent-nothing handover a.me a.transition.sends n k none) h in
                not_owning (ap (λ (z : ℕ). stance (o.holds z)) (sym e) ∙ c.givers n k over) x

acting_chains : (o p : Object) (a : Acting o p) → IsBefore o → IsChained o → (n : ℕ) → Knows p n → ChainFrom p n
acting_chains o p a b c n knows = by_looks (looks o p a)
  where
    same_other : (k : ℕ) → k ≢ a.me → stance (p.holds k) ≡ stance (o.holds k)
    same_other k d = other o p a k d

    known : (k : ℕ) → k ≢ a.me → Knows p k → Knows o k
    known k d h = some_stance (o.holds k) (λ f. stance_some (p.holds k) h (same_other k d ∙ f))

    -- the ends but the taker's, where no ownership is taken
    ends : tally handover (option_to_list a.taken) ≡ 0 → (k : ℕ) → k ≢ a.me → ChainStop o k → ChainStop p k
    ends none k d (Has e) = Has (same_other k d ∙ e)
    ends none k d (Gave j h) = Gave j (stays_over o p a k j (none_came a.from a.me a.taken k j none) h)

    -- once the taker's chain is known
    rest_led : ChainFrom p a.me → ((k : ℕ) → k ≢ a.me → ChainStop o k → ChainFrom p k) → Cases n a.me → ChainFrom p n
    rest_led here own (Same e t) = subst (ChainFrom p) (sym e) here
    rest_led here own (Apart e t) = other_leads o p a.me here same_other own n (c.chains n (known n e knows))

    by_looks : Looks a.from a.taken a.tells (o.holds a.me) a.transition → ChainFrom p n
    by_looks (Stays e x l) = same_leads o p (λ k. same k (cases k a.me)) own n (c.chains n (some_stance (o.holds n) (λ z. stance_some (p.holds n) knows (same n (cases n a.me) ∙ z))))
      where
        same : (k : ℕ) → Cases k a.me → stance (p.holds k) ≡ stance (o.holds k)
        same k (Same f t) = ap (λ (z : ℕ). stance (p.holds z)) f ∙ mine o p a ∙ e ∙ ap (λ (z : ℕ). stance (o.holds z)) (sym f)
        same k (Apart f t) = same_other k f

        own : (k : ℕ) → ChainStop o k → ChainStop p k
        own k (Has f) = Has (same k (cases k a.me) ∙ f)
        own k (Gave j h) = Gave j (stays_over o p a k j (none_came a.from a.me a.taken k j x) h)
    by_looks (Meets x y given none l) = rest_led (On (mine o p a ∙ y) to_giver) (λ k d z. Here (ends none k d z)) (cases n a.me)
      where
        free : ChainStop o a.me → ⊥
        free (Has e) = owning_absent e x
        free (Gave k h) = not_absent (c.givers a.me k h) x

        to_giver : ChainFrom p a.from
        to_giver = apart_leads o p a.me free (λ k e. not_absent e x) same_other (ends none) a.from
            (c.chains a.from (giver o a.me a.from a.taken a.tells a.between a.taking b.known.orderly.recorded b.known.giving given).0)
    by_looks (Transits k x y t l) = rest_led (On (mine o p a ∙ y) (Here (ends none a.from apart (Has owning)))) (λ k d z. Here (ends none k d z)) (cases n a.me)
      where
        none : tally handover (option_to_list a.taken) ≡ 0
        none = ap (λ z. tally handover (option_to_list z)) t

        owning : stance (o.holds a.from) ≡ Owning
        owning = sender_owns o p a b.shared t

        apart : a.from ≢ a.me
        apart e = not_owning x (ap (λ (z : ℕ). stance (o.holds z)) (sym e) ∙ owning)
    by_looks (Gains k x y t l) = rest_led taker own (cases n a.me)
      where
        taker : ChainFrom p a.me
        taker = Here (Has (mine o p a ∙ y))

        -- who gave it leads to its taker
        own : (k : ℕ) → k ≢ a.me → ChainStop o k → ChainFrom p k
        own k d (Has e) = Here (Has (same_other k d ∙ e))
        own k d (Gave j h) = elim (pair_cases a.from a.me k j) [
          | Both e f ↦ On (same_other k d ∙ c.givers k j h ∙ ap (λ (z : ℕ). Under z) f) taker
          | Other e ↦ Here (Gave j (stays_over o p a k j (ap (tally handover) (came-apart a.from a.me a.taken k j e)) h))
        ]
    by_looks (Hands to rest x y t l) = rest_led (Here (Gave to over)) (λ k d z. Here (ends (ap (λ z. tally handover (option_to_list z)) t) k d z)) (cases n a.me)
      where
        over : IsOver p a.me to
        over = subst (λ z. IsOver z a.me to) (sym a.is) (handed_over a.between a.me a.refers a.transition to rest l)

acting_chained : (o p : Object) → Acting o p → IsBefore o → IsChained o → IsChained p
acting_chained o p a b c = record { givers = acting_givers o p a b c; chains = acting_chains o p a b c }

-- ## steps

-- stances and notes as they were
same_chained : (o p : Object) → ((n : ℕ) → p.holds n ≡ o.holds n) → ((n k : ℕ) → notes (p.channel n k) ≡ notes (o.channel n k)) → IsChained o → IsChained p
same_chained o p holds channel c = record {
  givers = λ n k h. ap stance (holds n) ∙ c.givers n k (subst (λ z. 1 ≤ tally handover z) (channel n k) h);
  chains = λ n h. same_leads o p (λ k. ap stance (holds k)) own n (c.chains n (subst (λ z. is_some z ≡ true) (holds n) h));
}
  where
    own : (k : ℕ) → ChainStop o k → ChainStop p k
    own k (Has f) = Has (ap stance (holds k) ∙ f)
    own k (Gave j h) = Gave j (subst (λ z. 1 ≤ tally handover z) (sym (channel k j)) h)

-- who gave ownership is a parent: its taker's chain ends there
not_childless : (o : Object) (me k : ℕ) → IsBefore o → IsChained o → IsOver o me k → ((n : ℕ) → stance (o.holds n) ≡ Under me → ⊥) → ⊥
not_childless o me k b c h none = along o (λ n. n ≢ me → ⊥) ends (λ n j e r d. r (λ f. none n (e ∙ ap (λ (z : ℕ). Under z) f))) k (c.chains k (granted_knows o me k b.known.requested h))
    (λ e. b.apart.parents me (c.givers me k h ∙ ap (λ (z : ℕ). Under z) e))
  where
    ends : (n : ℕ) → ChainStop o n → n ≢ me → ⊥
    ends n (Has e) d = no_owner o me k n b.seated h e
    ends n (Gave j g) d = d (one_handover o n j me k b.seated g h).0

chained_step : (o p : Object) → IsBefore o → IsChained o → Step o p → IsChained p
chained_step o p b c (Makes me nowhere e) = subst IsChained (sym e) record {
  givers = λ n k h. absurd (omega (arith, h, ap (tally handover) (nothing_said o nowhere n k)));
  chains = λ n h. put-all (λ j k. is_some k ≡ true → (stance k ≡ Owning → ChainStop q j) → ChainFrom q j) o.holds me (Some made_share) (λ x own. Here (own refl))
      (λ j d x own. (let both : false ≡ true = ap (λ (k : Option Share). is_some k) (sym (nowhere.unknown j)) ∙ x in absurd cc)) n h (λ e. Has e);
}
  where
    q : Object
    q = with_holding o me (Some made_share)
chained_step o p b c (Does me refers act h t has is e) = acting_chained o p (does_acting o p me refers act h t has is e) b c
chained_step o p b c (Receives from me l rest t apart channel is e) = acting_chained o p (takes_acting o p from me l rest t apart channel is e) b c
chained_step o p b c (Writes me to tells told e) =
    same_chained o p (λ n. ap (λ (q : Object). q.holds n) e) (λ n k. ap (λ (q : Object). notes (q.channel n k)) e ∙ silent_notes o me to tells n k) c
chained_step o p b c (Forgets me h has u e) = subst IsChained (sym e) record { givers = λ n k x. givers n k x (cases n me); chains = λ n x. chains n x (cases n me) }
  where
    q : Object
    q = with_holding o me None

    childless : (n : ℕ) → stance (o.holds n) ≡ Under me → ⊥
    childless n f = no_child o me u.no_child n f

    same : (n : ℕ) → n ≢ me → stance (q.holds n) ≡ stance (o.holds n)
    same n d = ap stance (put-apart o.holds me None n d)

    own : (n : ℕ) → n ≢ me → ChainStop o n → ChainStop q n
    own n d (Has f) = Has (same n d ∙ f)
    own n d (Gave j f) = Gave j f

    givers : (n k : ℕ) → IsOver q n k → Cases n me → stance (q.holds n) ≡ Under k
    givers n k x (Same f t) = absurd (not_childless o me k b c (subst (λ (z : ℕ). IsOver o z k) f x) childless)
    givers n k x (Apart f t) = same n f ∙ c.givers n k x

    chains : (n : ℕ) → Knows q n → Cases n me → ChainFrom q n
    chains n x (Same f t) = absurd (stance_some (q.holds n) x (ap (λ (x : Bool). stance (cond x None (o.holds n))) t))
    chains n x (Apart f t) = childless_leads o q me childless same own n (c.chains n (some_stance (o.holds n) (λ z. stance_some (q.holds n) x (same n f ∙ z)))) f
chained_step o p b c (Clears me child u e) = same_chained o p (λ n. ap (λ (q : Object). q.holds n) e) (λ n k. ap (λ (q : Object). notes (q.channel n k)) e) c

first_chained : (o : Object) → IsFirst o → IsChained o
first_chained o (NotYet u holds) = record {
  givers = λ n k h. absurd (omega (arith, h, ap (λ z. tally handover (notes z)) (u.channel n k)));
  chains = λ n h. absurd (stance_some (o.holds n) h (ap stance (holds n)));
}
first_chained o (Born u born) = record {
  givers = λ n k h. absurd (omega (arith, h, ap (λ z. tally handover (notes z)) (u.channel n k)));
  chains = λ n h. by_case n h (cases n 0);
}
  where
    owner : ChainFrom o 0
    owner = Here (Has (ap stance born.owner))

    elsewhere : (n : ℕ) → Knows o n → IsFirstElsewhere (o.holds n) → ChainFrom o n
    elsewhere n h (Unknown f) = absurd (stance_some (o.holds n) h (ap stance f))
    elsewhere n h (Heard f) = On (ap stance f) owner

    by_case : (n : ℕ) → Knows o n → Cases n 0 → ChainFrom o n
    by_case n h (Same e t) = subst (ChainFrom o) (sym e) owner
    by_case n h (Apart e t) = elsewhere n h (born.others n e)

-- whatever steps are taken from an opening, parents lead to the owner, or to who gave ownership
pub chained_run : (o p : Object) → IsFirst o → Run o p → IsChained p
chained_run o p first run =
    kept_object IsBefore IsChained (λ q r a b c s. chained_step q r a c s) o
    (λ q r. record { known = known_run o q first r; shared = shared_run o q first r; seated = seated_run o q first r; apart = apart_run o q first r }) (first_chained o first) p run
