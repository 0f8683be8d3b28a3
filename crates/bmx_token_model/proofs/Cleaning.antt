-- Runs with tables: whatever tables are lost, late or taken more than once, what they clear nothing needs, so that the
-- object's steps are a run of its model.
use Rattle.std.proofs.Common.{◌≡◌, ◌⊎◌, inl, inr, ℕ, ◌+◌, ◌≤◌, arith, List, [], ◌∷◌, ◌++◌, map, refl, ap, sym, subst, subst₂, ◌∙◌, Bool, true, false, cond}
use Rattle.std.specs.Prelude.{◌==◌, Option, Some, None, Contains}
use Rattle.bmx_types.specs.declared.numbers.Mode.TheVariants as mode
use Rattle.bmx_token.specs.declared.parts.Ask.{Ask}
use Rattle.bmx_token.specs.declared.parts.Role.{Role}
use Rattle.bmx_token.specs.declared.parts.Role.TheVariants.{Owner, Parent}
use Rattle.bmx_token.specs.Transitions.{Share, Note, Asks, Grants, Send, send, Transition, made_share}
use Rattle.bmx_token_model.specs.Machine.{Message, Numbers, Object, Step, Run, IsFirst, IsUnneededRecord, is_ask, gives, asks, brings, draft, with_holding, issue, issue_all, moved, popped}
use Rattle.bmx_token_model.specs.Machine as machine
use Rattle.bmx_token_model.specs.Tables.{Table, Tabled, looks_as, looks_to, IsPlain, MayClear, TableStep, Moves, Forgets, Tabulates, Clears, TableRun, Stays, Goes, untabled}
use Rattle.bmx_token_model.proofs.Tallies.{tally, handover, same_true, eqb_true}
use Rattle.bmx_token_model.proofs.Traffic.{Letter, Traffic, Counted}
use Rattle.bmx_token_model.proofs.Traffic as traffic
use Rattle.bmx_token_model.proofs.Each.{Each, each_there}
use Rattle.bmx_token_model.proofs.Moves.{notes_to, Taking, Nothing, Letter as First, Acting, does_acting, takes_acting}
use Rattle.bmx_token_model.proofs.Roles.{stance, stance_as, Under, under_is, not_owning, Looks, Stays as Keeps, Meets, Transits, Gains, Hands, acts_look}
use Rattle.bmx_token_model.proofs.Owners.{write_sends_one}
use Rattle.bmx_token_model.proofs.First.{untouched}
use Rattle.bmx_token_model.proofs.Letters.{letter_of, draft_of, traffic_of, map-append, traffic-issue, traffic-popped, traffic-holding, IsCounted, IsIn, Recorded, IsOrderly, taking_orderly, orderly_run}
use Rattle.bmx_token_model.proofs.Readers.{one_or_more}
use Rattle.bmx_token_model.proofs.Asked.{AskThose, rest_those, Asking, AsksThose, AsksTaker, acts_ask}
use Rattle.bmx_token_model.proofs.Forgetting.{unneeded}
use Rattle.bmx_token_model.proofs.Tables.{In, in_split, split_in, above, Over, IsSafe, IsTabled, issue_safe, issue_requests, issue_within, taking_tabled, taking_safe, giver_safe, Turned, Safely, Handing, turned_tabled, clears_over, clears_front, cleared_tabled, tabulated}
use Rattle.bmx_token_model.proofs.Tables as tables

-- ## lists

contains_in : {A : Type 0} (x : A) (xs : List A) → Contains xs x → In x xs
contains_in x [] c = absurd (omega (arith, c.1))
contains_in x (y ∷ xs) c = by_place (one_or_more y xs x c) (contains_in x xs)
  where
    by_place : (y ≡ x) ⊎ Contains xs x → (Contains xs x → In x xs) → In x (y ∷ xs)
    by_place (inl e) ih = inl e
    by_place (inr d) ih = inr (ih d)

in_map : (g : Letter) (letters : List Message) → In g (map letter_of letters) → (l : Message) × In l letters × (letter_of l ≡ g)
in_map g [] i = absurd i
in_map g (l ∷ letters) (inl e) = (l, inl refl, e)
in_map g (l ∷ letters) (inr i) = (let x : (l : Message) × In l letters × (letter_of l ≡ g) = in_map g letters i in (x.0, inr x.1, x.2))

split_map : (letters : List Message) (l : Message) (before after : List Message) → letters ≡ before ++ l ∷ after → map letter_of letters ≡ map letter_of before ++ letter_of l ∷ map letter_of after
split_map letters l before after e = ap (map letter_of) e ∙ map-append before (l ∷ after)

-- a letter that brings ownership, where it stands
brought_there : (letters : List Message) (g : Letter) → In g (map letter_of letters) → g.brings ≡ true →
    (l : Message) × (before : List Message) × (after : List Message) × (letters ≡ before ++ l ∷ after) × (brings l ≡ true)
brought_there letters g i b =
    let x : (l : Message) × In l letters × (letter_of l ≡ g) = in_map g letters i in
    let s : (before : List Message) × (after : List Message) × (letters ≡ before ++ x.0 ∷ after) = in_split x.0 letters x.1 in
    (x.0, s.0, s.1, s.2, ap (λ (z : Letter). z.brings) x.2 ∙ b)

-- ## whom a node looks to

looks_under : (h : Option Share) (n : ℕ) → looks_to h n ≡ true → stance h ≡ Under n
looks_under None n e = absurd cc
looks_under (Some b) n e = by_role b.part.role e
  where
    by_role : (r : Role) → looks_as r n ≡ true → stance_as r ≡ Under n
    by_role Owner f = absurd cc
    by_role (Parent p) f = ap (λ (z : ℕ). Under z) (eqb_true p n f)

under_looks : (h : Option Share) (n : ℕ) → stance h ≡ Under n → looks_to h n ≡ true
under_looks None n e = absurd cc
under_looks (Some b) n e = by_role b.part.role e
  where
    by_role : (r : Role) → stance_as r ≡ Under n → looks_as r n ≡ true
    by_role Owner f = absurd cc
    by_role (Parent p) f = ap (λ (z : ℕ). z == n) (under_is p n f) ∙ same_true n

-- ## transitions

abbrev drafts_of : Bool → List Send → List traffic.Unnumbered
drafts_of refers sends = map draft_of (map (draft refers) sends)

traffic-issue_all : (o : Object) (me : ℕ) (drafts : List machine.Unnumbered) → traffic_of (issue_all o me drafts) ≡ traffic.issue_all (traffic_of o) me (map draft_of drafts)
traffic-issue_all o me [] = refl
traffic-issue_all o me (d ∷ drafts) = traffic-issue_all (issue o me d) me drafts ∙ ap (λ z. traffic.issue_all z me (map draft_of drafts)) (traffic-issue o me d)

traffic-moved : (o : Object) (me : ℕ) (refers : Bool) (t : Transition) → traffic_of (moved o me refers t) ≡ traffic.issue_all (traffic.looking (traffic_of o) me (looks_to t.after)) me (drafts_of refers t.sends)
traffic-moved o me refers t =
    traffic-issue_all (with_holding o me t.after) me (map (draft refers) t.sends) ∙ ap (λ z. traffic.issue_all z me (drafts_of refers t.sends)) (traffic-holding o me t.after)

asked_drafts : (A : ℕ → Type 0) (refers : Bool) (sends : List Send) → AskThose A sends → tables.AskThose A (drafts_of refers sends)
asked_drafts A refers [] h = tt
asked_drafts A refers (s ∷ sends) h = (h.0, asked_drafts A refers sends h.1)

taken_tabled : (o : Object) (me from : ℕ) (taken : Option Note) (tells : Bool) (q : Object) (ts : ℕ → ℕ → List Table) → Taking o me from taken tells q → IsTabled (traffic_of o) ts → IsTabled (traffic_of q) ts
taken_tabled o me from taken tells q ts (Nothing x y e) t = subst (λ z. IsTabled (traffic_of z) ts) (sym e) t
taken_tabled o me from taken tells q ts (First l rest channel apart x y e) t = subst (λ z. IsTabled (traffic_of z) ts) (sym e)
    (rw (traffic-popped o from me l rest) (taking_tabled (traffic_of o) from me (letter_of l) (map letter_of rest) ts (ap (map letter_of) channel) t))

taken_safe : (o : Object) (me from : ℕ) (taken : Option Note) (tells : Bool) (q : Object) → Taking o me from taken tells q → (ts : List Table) (n m : ℕ) → IsSafe (traffic_of o) ts n m None → IsSafe (traffic_of q) ts n m None
taken_safe o me from taken tells q (Nothing x y e) ts n m h = subst (λ z. IsSafe (traffic_of z) ts n m None) (sym e) h
taken_safe o me from taken tells q (First l rest channel apart x y e) ts n m h = subst (λ z. IsSafe (traffic_of z) ts n m None) (sym e)
    (rw (traffic-popped o from me l rest) (taking_safe (traffic_of o) from me (letter_of l) (map letter_of rest) (ap (map letter_of) channel) ts n m None h))

-- who gave the object in the letter that is taken
given_safe : (o : Object) (me from : ℕ) (taken : Option Note) (tells : Bool) (q : Object) (ts : ℕ → ℕ → List Table) → Taking o me from taken tells q → IsOrderly o →
    IsTabled (traffic_of o) ts → gives taken tells ≡ true → IsSafe (traffic_of o) (ts me from) from me None
given_safe o me from taken tells q ts (Nothing x y e) g t given = (let both : false ≡ true = sym (subst₂ (λ n u. gives n u ≡ false) (sym x) (sym y) refl) ∙ given in absurd cc)
given_safe o me from taken tells q ts (First l rest channel apart x y e) g t given = by_record (o.entering from me) refl
    ((subst (Each (Recorded (o.entering from me))) channel (g.recorded.channels from me)).0 (subst₂ (λ n u. gives n u ≡ true) (sym x) (sym y) given))
  where
    by_record : (z : Option Numbers) → o.entering from me ≡ z → IsIn z l.seq → IsSafe (traffic_of o) (ts me from) from me None
    by_record None f h = absurd h
    by_record (Some z) f h = giver_safe (traffic_of o) from me (letter_of l) (map letter_of rest) ts (ap (map letter_of) channel) g.counted t.within z f h

acting_tabled : (o p : Object) (ts : ℕ → ℕ → List Table) → Acting o p → IsOrderly o → IsTabled (traffic_of o) ts → IsTabled (traffic_of p) ts
acting_tabled o p ts a g t = subst (λ z. IsTabled (traffic_of z) ts) (sym a.is) (rw (traffic-moved q a.me a.refers a.transition)
    (turned_tabled (traffic_of q) a.me (looks_to a.transition.after) (drafts_of a.refers a.transition.sends) ts (taking_orderly o a.me a.from a.taken a.tells q a.taking g).counted
    (taken_tabled o a.me a.from a.taken a.tells q ts a.taking t) (by_looks (acts_look a.me a.from a.taken a.tells (o.holds a.me) a.transition a.acts))))
  where
    q : Object
    q = a.between

    -- nodes that are safe to look to
    Safe : ℕ → Type 0
    Safe n = IsSafe (traffic_of q) (ts a.me n) n a.me None

    up : (n : ℕ) → stance (o.holds a.me) ≡ Under n → Safe n
    up n e = taken_safe o a.me a.from a.taken a.tells q a.taking (ts a.me n) n a.me (t.parents a.me n (under_looks (o.holds a.me) n e))

    giver : gives a.taken a.tells ≡ true → Safe a.from
    giver given = taken_safe o a.me a.from a.taken a.tells q a.taking (ts a.me a.from) a.from a.me (given_safe o a.me a.from a.taken a.tells q ts a.taking g t given)

    -- a transition that hands nothing over
    those : ((k : ℕ) → tally handover (notes_to k a.transition.sends) ≡ 0) → tables.AskThose Safe (drafts_of a.refers a.transition.sends)
    those none = by_asking (acts_ask Safe a.me a.from a.taken a.tells (o.holds a.me) a.transition a.acts up)
      where
        by_asking : Asking Safe a.transition → tables.AskThose Safe (drafts_of a.refers a.transition.sends)
        by_asking (AsksThose h) = asked_drafts Safe a.refers a.transition.sends h
        by_asking (AsksTaker to rest l) = absurd (omega (
          arith,
          none to,
          ap (λ z. tally handover (notes_to to z)) l ∙ write_sends_one to to rest ∙ ap (λ (z : Bool). cond {A = ℕ} z 1 0) (same_true to),
        ))

    safely : (n : ℕ) → stance a.transition.after ≡ Under n → Safe n → (k : ℕ) → looks_to a.transition.after k ≡ true → Safe k
    safely n e s k l = subst Safe (under_is n k (sym e ∙ looks_under a.transition.after k l)) s

    by_looks : Looks a.from a.taken a.tells (o.holds a.me) a.transition → Turned Safe (looks_to a.transition.after) (drafts_of a.refers a.transition.sends)
    by_looks (Keeps e x l) = Safely (λ k z. up k (sym e ∙ looks_under a.transition.after k z)) (those l)
    by_looks (Meets x y g z l) = Safely (safely a.from y (giver g)) (those l)
    by_looks (Transits j x y z l) = Safely (safely a.from y (giver (ap (λ n. gives n a.tells) z))) (those (λ k. ap (λ n. tally handover (notes_to k n)) l))
    by_looks (Gains j x y z l) = Safely (λ k u. not_owning (looks_under a.transition.after k u) y) (those (λ k. ap (λ n. tally handover (notes_to k n)) l))
    by_looks (Hands to rest x y z l) =
        Handing (draft_of (draft a.refers (send to (Grants mode.Write)))) (drafts_of a.refers (map (λ (u : Ask). send to (Asks u.mode u.asker)) rest)) (ap (drafts_of a.refers) l) refl refl
        (λ k u. under_is to k (sym y ∙ looks_under a.transition.after k u))
        (asked_drafts (λ n. to ≡ n) a.refers (map (λ (u : Ask). send to (Asks u.mode u.asker)) rest) (rest_those (λ n. to ≡ n) to rest refl))

-- a node has another share, and looks to nobody
unlooking_tabled : (o : Object) (me : ℕ) (h : Option Share) (ts : ℕ → ℕ → List Table) → ((n : ℕ) → looks_to h n ≡ false) → IsCounted o → IsTabled (traffic_of o) ts → IsTabled (traffic_of (with_holding o me h)) ts
unlooking_tabled o me h ts none c t = rw (traffic-holding o me h)
    (turned_tabled (traffic_of o) me (looks_to h) [] ts c t (Safely (λ n e. (let both : true ≡ false = sym e ∙ none n in absurd cc)) tt))

plain_tabled : (o p : Object) (ts : ℕ → ℕ → List Table) → IsOrderly o → IsTabled (traffic_of o) ts → (step : Step o p) → IsPlain step → IsTabled (traffic_of p) ts
plain_tabled o p ts g t (machine.Makes me nowhere e) plain = subst (λ z. IsTabled (traffic_of z) ts) (sym e) (unlooking_tabled o me (Some made_share) ts (λ n. refl) g.counted t)
plain_tabled o p ts g t (machine.Does me refers a h u has is e) plain = acting_tabled o p ts (does_acting o p me refers a h u has is e) g t
plain_tabled o p ts g t (machine.Receives from me l rest u apart channel is e) plain = acting_tabled o p ts (takes_acting o p from me l rest u apart channel is e) g t
plain_tabled o p ts g t (machine.Writes me to tells told e) plain = subst (λ z. IsTabled (traffic_of z) ts) (sym e) (rw (traffic-issue o me d) record {
  within = issue_within (traffic_of o) me (draft_of d) ts t.within;
  parents = λ m n f. issue_safe (traffic_of o) me (draft_of d) (ts m n) n m None (t.parents m n f);
  requests = issue_requests (traffic_of o) me (draft_of d) ts g.counted (λ x. absurd cc) t.requests;
})
  where
    d : machine.Unnumbered
    d = record { to = to; note = None; tells = tells }
plain_tabled o p ts g t (machine.Forgets me h has u e) plain = absurd plain
plain_tabled o p ts g t (machine.Clears me other u e) plain = absurd plain

-- ## what the cleaner's test says

pub clears_unneeded : (s : Tabled) (n m : ℕ) → MayClear s n m → IsOrderly s.object → IsTabled (traffic_of s.object) s.tables → IsUnneededRecord s.object n m
clears_unneeded s n m may orderly t = record { no_child = no_child; no_gift = no_gift; no_ask = no_ask }
  where
    o : Object
    o = s.object

    there : In may.table (s.tables m n)
    there = contains_in may.table (s.tables m n) may.made

    no_child : (k : Share) → o.holds m ≡ Some k → k.part.role ≡ Parent n →
        (l : Message) × (before : List Message) × (after : List Message) × (o.channel m n ≡ before ++ l ∷ after) × (brings l ≡ true)
    no_child k e f =
        let v : Over (traffic_of o) (s.tables m n) n m None =
        clears_over (traffic_of o) s.tables n m may.table may.numbers there may.unlisted may.has may.sent may.got t (under_looks (o.holds m) n (ap stance e ∙ ap stance_as f)) in
        brought_there (o.channel m n) v.grant_letter v.there v.brings_it

    no_gift : (l : Message) (before after : List Message) → o.channel n m ≡ before ++ l ∷ after → gives l.note l.tells ≡ false
    no_gift l before after e = by_test (gives l.note l.tells) refl
      where
        inside : In (letter_of l) (map letter_of (o.channel n m))
        inside = subst (In (letter_of l)) (sym (split_map (o.channel n m) l before after e)) (split_in (letter_of l) (map letter_of before) (map letter_of after))

        by_test : (b : Bool) → gives l.note l.tells ≡ b → gives l.note l.tells ≡ false
        by_test false f = f
        by_test true f =
            let sent_it : l.seq ≤ may.numbers.sent = subst (λ q. IsIn q l.seq) may.has (each_there (Recorded (o.entering n m)) (o.channel n m) (orderly.recorded.channels n m) l before after e f) in
            let late : o.taken m n + 1 ≤ l.seq = above (o.taken m n) (o.issued n m) (map letter_of (o.channel n m)) (letter_of l) (orderly.counted.channels n m) inside in
            absurd (omega (arith, sent_it, late, may.sent, (t.within m n may.table there).1))

    no_ask : (l : Message) (before after : List Message) → o.channel m n ≡ before ++ l ∷ after → asks l ≡ true →
        (g : Message) × (front : List Message) × (back : List Message) × (before ≡ front ++ g ∷ back) × (brings g ≡ true)
    no_ask l before after e a =
        let x : (g : Letter) × In g (map letter_of before) × (g.brings ≡ true) =
        clears_front (traffic_of o) s.tables n m may.table may.numbers there may.unlisted may.has may.taken may.sent may.got orderly.counted t (letter_of l) (map letter_of before) (map letter_of after)
        (split_map (o.channel m n) l before after e) a in
        brought_there before x.0 x.1 x.2

-- ## runs with tables

first_tabled : (o : Object) → IsFirst o → IsTabled (traffic_of o) (λ m n. [])
first_tabled o first = record {
  within = λ m n x i. absurd i;
  parents = λ m n e. inr (λ x i u b. absurd i);
  requests = λ m n l i a. absurd (subst (λ w. In l (map letter_of w)) ((untouched o first).channel m n) i);
}

-- a step with tables is a step of the object, or leaves it; and tables are in no record's way after it
table_step : (o : Object) (s t : Tabled) → IsFirst o → Run o s.object → IsTabled (traffic_of s.object) s.tables → TableStep s t → Run o t.object × IsTabled (traffic_of t.object) t.tables
table_step o s t first run tabled (Moves step plain e) = (
  Run.Goes run step,
  subst (IsTabled (traffic_of t.object)) (sym e) (plain_tabled s.object t.object s.tables (orderly_run o s.object first run) tabled step plain),
)
table_step o s t first run tabled (Forgets me h may e f) = (
  Run.Goes run (Step.Forgets me h may.has (unneeded o s.object first run me h may.has may.idle may.no_record) e),
  subst₂ (λ p ts. IsTabled (traffic_of p) ts) (sym e) (sym f) (unlooking_tabled s.object me None s.tables (λ n. refl) (orderly_run o s.object first run).counted tabled),
)
table_step o s t first run tabled (Tabulates m n e f) = (
  subst (Run o) (sym e) run,
  subst₂ (λ p ts. IsTabled (traffic_of p) ts) (sym e) (sym f) (tabulated (traffic_of s.object) s.tables m n (orderly_run o s.object first run).counted tabled),
)
table_step o s t first run tabled (Clears n m may e f) =
    let g : IsOrderly s.object = orderly_run o s.object first run in (
      Run.Goes run (Step.Clears n m (clears_unneeded s n m may g tabled) e),
      subst₂ (λ p ts. IsTabled (traffic_of p) ts) (sym e) (sym f)
          (cleared_tabled (traffic_of s.object) s.tables n m may.table may.numbers (contains_in may.table (s.tables m n) may.made) may.unlisted may.has may.taken may.sent may.got g.counted tabled),
    )

-- whatever steps are taken with tables, however late and often tables are taken, the object's are a run of its model
pub table_run : (o : Object) (t : Tabled) → IsFirst o → TableRun (untabled o) t → Run o t.object × IsTabled (traffic_of t.object) t.tables
table_run o t first Stays = (Run.Stays, first_tabled o first)
table_run o t first (Goes {t = u} run step) =
    let before : Run o u.object × IsTabled (traffic_of u.object) u.tables = table_run o u first run in
    table_step o u t first before.0 before.1 step

-- so a record that passes the test is needed by nothing
pub cleaned_unneeded : (o : Object) (s : Tabled) → IsFirst o → TableRun (untabled o) s → (n m : ℕ) → MayClear s n m → IsUnneededRecord s.object n m
cleaned_unneeded o s first run n m may =
    let x : Run o s.object × IsTabled (traffic_of s.object) s.tables = table_run o s first run in
    clears_unneeded s n m may (orderly_run o s.object first x.0) x.1
