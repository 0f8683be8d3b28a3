-- The laws in their public words: what the invariants say of shares, letters and counts.
use Rattle.std.proofs.Common.{◌≡◌, ◌⊎◌, inl, inr, ℕ, ◌+◌, ◌≤◌, ◌<◌, zero, suc, arith, List, [], ◌∷◌, ◌++◌, refl, ap, ap₂, sym, subst, ◌∙◌, Bool, true, false, cond}
use Rattle.std.specs.Prelude.{◌==◌, ◌&&◌, ◌||◌, is_some, Option, Some, None, IsSome, Contains, count_by}
use Rattle.std.specs.Option.{option_map_or, option_to_list}
use Rattle.std.specs.List.{list_any}
use Rattle.std.proofs.lemmas.List.Sums.{sum_by-cons}
use Rattle.bmx_types.specs.declared.numbers.Mode.{Mode}
use Rattle.bmx_types.specs.declared.numbers.Mode.TheVariants as mode
use Rattle.bmx_token.specs.declared.parts.Ask.{Ask}
use Rattle.bmx_token.specs.declared.parts.Role.{Role}
use Rattle.bmx_token.specs.declared.parts.Role.TheVariants.{Owner, Parent}
use Rattle.bmx_token.specs.Transitions.{Share, Note, Asks, Grants, Recalls, Returns}
use Rattle.bmx_token_model.specs.Machine.{Message, Numbers, Object, Run, IsFirst, brings, gives}
use Rattle.bmx_token_model.specs.Laws as law
use Rattle.bmx_token_model.specs.Laws.{is_recall, is_return, is_due, owes, count_notes, queue_at, standing, IsWaiting, IsPlaced, WantsArePlaced, EachWantIsPlaced, answers_owed, waits_for, EachOwesOneAnswer, NoLetterIsStray, NobodyAsksItself, IsBrought, MayBeAsked, WhoIsAskedAnswers, ParentAnswers, ParentsLeadToTheOwner, GiftsAreRecorded, IdleIsUnneeded, ClearedIsUnneeded, TablesKeepTheLaws}
use Rattle.bmx_token.specs.Transitions.{same_mode, is_request_of, is_grant_of}
use Rattle.bmx_token_model.proofs.Tallies.{tally, tally-append, notes, recall, return, handover, Cases, Same, Apart, cases, same_true, swapped}
use Rattle.bmx_token_model.proofs.Traffic.{Bounded}
use Rattle.bmx_token_model.proofs.Each.{Each, each_there}
use Rattle.bmx_token_model.proofs.Times.{times, times-once}
use Rattle.bmx_token_model.proofs.Roles.{Stance, Absent, stance, stance_as, Under, Owning, role_under}
use Rattle.bmx_token_model.proofs.Sound.{IsSoundIf}
use Rattle.bmx_token_model.proofs.Views.{reads_of, waits_of, due_to, due_as}
use Rattle.bmx_token_model.proofs.Shared.{IsShared, shared_run}
use Rattle.bmx_token_model.proofs.Readers.{one_or_more}
use Rattle.bmx_token_model.proofs.Spots.{Spot, Unasked, InFlight, Queued, Granted, IsAlone, same_spot}
use Rattle.bmx_token_model.proofs.Requests.{IsRequested, queued, stands, unwanting, unwanting_as, wants_or_not, requested_run}
use Rattle.bmx_token_model.proofs.Letters.{IsIn, Recorded, NoGift, Knows, orderly_run, giving_run}
use Rattle.bmx_token_model.proofs.Parents.{AnswersFor, IsPointed, pointed_run, granted_wants, over_there}
use Rattle.bmx_token_model.proofs.Asked.{some_brings, fits_there, over_brings, has_record, NoAsk, asked_run}
use Rattle.bmx_token_model.proofs.Apart.{IsApart, no_own_read, apart_run}
use Rattle.bmx_token_model.proofs.Chains.{IsChained, ChainStop, Has, Gave, along, chained_run}
use Rattle.bmx_token_model.proofs.Fitting.{wants_it, never_stray, any_of}
use Rattle.bmx_token_model.proofs.Forgetting.{not_wanted, unneeded}
use Rattle.bmx_token_model.proofs.Cleaning.{table_run, cleaned_unneeded}
use Rattle.bmx_token_model.proofs.Short.{short_leads}

-- ## counts

counted : (p : Note → Bool) (letters : List Message) → count_notes p letters ≡ tally (λ n. cond (p n) 1 0) (notes letters)
counted p [] = refl
counted p (l ∷ letters) = sum_by-cons (λ (x : Message). cond {A = ℕ} (option_map_or p x.note false) 1 0) l letters ∙ by_note l.note (counted p letters)
  where
    by_note : (n : Option Note) → count_notes p letters ≡ tally (λ n. cond (p n) 1 0) (notes letters) →
        cond (option_map_or p n false) 1 0 + count_notes p letters ≡ tally (λ n. cond (p n) 1 0) (option_to_list n ++ notes letters)
    by_note None h = omega (arith, h)
    by_note (Some n) h = ap (λ (k : ℕ). cond (p n) 1 0 + k) h

tally_same : (f g : Note → ℕ) → ((n : Note) → f n ≡ g n) → (xs : List Note) → tally f xs ≡ tally g xs
tally_same f g h [] = refl
tally_same f g h (n ∷ xs) = ap₂ (λ (x y : ℕ). x + y) (h n) (tally_same f g h xs)

counted_queue : (m : Mode) (a : ℕ) (queue : List Ask) → count_by (λ (q : Ask). same_mode m q.mode && (q.asker == a)) queue ≡ queued m a queue
counted_queue m a [] = refl
counted_queue m a (q ∷ queue) =
    sum_by-cons (λ (q : Ask). cond {A = ℕ} (same_mode m q.mode && (q.asker == a)) 1 0) q queue ∙ ap (λ (k : ℕ). cond (same_mode m q.mode && (q.asker == a)) 1 0 + k) (counted_queue m a queue)

-- ## wants

abbrev spot_of : law.Spot → Spot
spot_of (law.Requested n k) = InFlight n k
spot_of (law.Queued n) = Queued n
spot_of (law.Granted n) = Granted n

standing_stands : (o : Object) (m : Mode) (a : ℕ) (t : law.Spot) → standing o m a t ≡ stands o m a (spot_of t)
standing_stands o m a (law.Requested n k) = counted (is_request_of m a) (o.channel n k)
standing_stands o m a (law.Queued n) = counted_queue m a (queue_at (o.holds n))
standing_stands o m a (law.Granted n) = counted (is_grant_of m) (o.channel n a)

waiting_unwanting : (o : Object) (m : Mode) (a : ℕ) → IsWaiting o m a → unwanting m (o.holds a) ≡ 0
waiting_unwanting o m a w = ap (unwanting m) w.has ∙ ap (λ (z : Option Mode). unwanting_as m z w.share.part.ready) w.want ∙ ap (unwanting_as m (Some m)) w.unready ∙ same m
  where
    same : (m : Mode) → cond {A = ℕ} (same_mode m m) 0 1 ≡ 0
    same mode.Read = refl
    same mode.Write = refl

unwanting_waiting : (o : Object) (m : Mode) (a : ℕ) (h : Option Share) → o.holds a ≡ h → unwanting m h ≡ 0 → IsWaiting o m a
unwanting_waiting o m a None e u = absurd (omega (arith, u))
unwanting_waiting o m a (Some b) e u = record { share = b; has = e; want = (wants_it m b u).0; unready = (wants_it m b u).1 }

placed_at : (o : Object) (m : Mode) (a : ℕ) (s : law.Spot) → IsAlone (stands o m a) (spot_of s) → IsPlaced o m a
placed_at o m a s alone = record { spot = s; once = λ t. standing_stands o m a t ∙ alone (spot_of t) ∙ same s t }
  where
    same : (s t : law.Spot) → cond {A = ℕ} (same_spot (spot_of s) (spot_of t)) 1 0 ≡ cond (law.same_spot s t) 1 0
    same (law.Requested n k) (law.Requested j l) = refl
    same (law.Requested n k) (law.Queued j) = refl
    same (law.Requested n k) (law.Granted j) = refl
    same (law.Queued n) (law.Requested j l) = refl
    same (law.Queued n) (law.Queued j) = refl
    same (law.Queued n) (law.Granted j) = refl
    same (law.Granted n) (law.Requested j l) = refl
    same (law.Granted n) (law.Queued j) = refl
    same (law.Granted n) (law.Granted j) = refl

placed : (o : Object) (m : Mode) (a : ℕ) → IsWaiting o m a → (s : Spot) → IsAlone (stands o m a) s → IsPlaced o m a
placed o m a w Unasked alone = absurd (omega (arith, waiting_unwanting o m a w, alone Unasked))
placed o m a w (InFlight n k) alone = placed_at o m a (law.Requested n k) alone
placed o m a w (Queued n) alone = placed_at o m a (law.Queued n) alone
placed o m a w (Granted n) alone = placed_at o m a (law.Granted n) alone

not_unasked : (t : law.Spot) → same_spot (spot_of t) Unasked ≡ false
not_unasked (law.Requested n k) = refl
not_unasked (law.Queued n) = refl
not_unasked (law.Granted n) = refl

pub each_want_is_placed : EachWantIsPlaced
each_want_is_placed o p first run = record {
  wanted = λ m a w. placed p m a w (r.spots m a).0 (r.spots m a).1;
  unwanted = λ m a none t. standing_stands p m a t ∙ not_wanted p m a (spot_of t) r (by_number m a none (unwanting m (p.holds a)) refl) (not_unasked t);
}
  where
    r : IsRequested p
    r = requested_run o p first run

    by_number : (m : Mode) (a : ℕ) → (IsWaiting p m a → ⊥) → (k : ℕ) → unwanting m (p.holds a) ≡ k → unwanting m (p.holds a) ≡ 1
    by_number m a none zero e = absurd (none (unwanting_waiting p m a (p.holds a) refl e))
    by_number m a none (suc k) e = omega (arith, e, wants_or_not m (p.holds a))

-- ## answers

owed_due : (h : Option Share) (n : ℕ) → cond {A = ℕ} (owes h n) 1 0 ≡ due_to n h
owed_due None n = refl
owed_due (Some b) n = by_due b.part.due
  where
    by_due : (d : Option ℕ) → cond {A = ℕ} (is_due d n) 1 0 ≡ due_as n d
    by_due None = refl
    by_due (Some owner) = refl

recall_is : (n : Note) → cond {A = ℕ} (is_recall n) 1 0 ≡ recall n
recall_is (Asks m asker) = refl
recall_is (Grants m) = refl
recall_is Recalls = refl
recall_is Returns = refl

return_is : (n : Note) → cond {A = ℕ} (is_return n) 1 0 ≡ return n
return_is (Asks m asker) = refl
return_is (Grants m) = refl
return_is Recalls = refl
return_is Returns = refl

-- who is nowhere in a list isn't found there
none_of : (x : ℕ) (nodes : List ℕ) → times x nodes ≡ 0 → list_any (λ node. node == x) nodes ≡ false
none_of x [] h = refl
none_of x (y ∷ nodes) h = by_case (cases x y) h (none_of x nodes)
  where
    by_case : Cases x y → cond {A = ℕ} (x == y) 1 0 + times x nodes ≡ 0 → (times x nodes ≡ 0 → list_any (λ node. node == x) nodes ≡ false) → ((y == x) || list_any (λ node. node == x) nodes) ≡ false
    by_case (Same e t) z ih = (let one : cond {A = ℕ} true 1 0 + times x nodes ≡ 0 = rw (swapped x y, t) at z in absurd (omega (arith, one)))
    by_case (Apart e t) z ih = rw t (ih (omega (arith, z)))

waits_times : (h : Option Share) (k : ℕ) → IsSoundIf h → times k (waits_of h) ≡ cond (waits_for h k) 1 0
waits_times None k s = refl
waits_times (Some b) k s = by_number (times k b.part.waiting) refl
  where
    by_number : (x : ℕ) → times k b.part.waiting ≡ x → times k b.part.waiting ≡ cond (list_any (λ node. node == k) b.part.waiting) 1 0
    by_number zero e = e ∙ sym (ap (λ (t : Bool). cond {A = ℕ} t 1 0) (none_of k b.part.waiting e))
    by_number (suc x) e = omega (
      arith,
      e,
      times-once k b.part.waiting s.waiting_rises,
      ap (λ (t : Bool). cond {A = ℕ} t 1 0) (any_of k b.part.waiting (omega (arith, e))),
    )

pub each_owes_one_answer : EachOwesOneAnswer
each_owes_one_answer o p first run n k = omega (
  arith,
  counted is_recall (p.channel n k) ∙ tally_same (λ x. cond (is_recall x) 1 0) recall recall_is (notes (p.channel n k)),
  counted is_return (p.channel k n) ∙ tally_same (λ x. cond (is_return x) 1 0) return return_is (notes (p.channel k n)),
  owed_due (p.holds k) n,
  (shared.pairs n k).waited,
  waits_times (p.holds n) k (shared.sound n),
)
  where
    shared : IsShared p
    shared = shared_run o p first run

-- ## letters

pub no_letter_is_stray : NoLetterIsStray
no_letter_is_stray = never_stray

contained : (x : ℕ) (ys : List ℕ) → Contains ys x → 1 ≤ times x ys
contained x [] c = absurd (omega (arith, c.1))
contained x (y ∷ ys) c = by_place (one_or_more y ys x c) (contained x ys)
  where
    by_place : (y ≡ x) ⊎ Contains ys x → (Contains ys x → 1 ≤ times x ys) → 1 ≤ cond (x == y) 1 0 + times x ys
    by_place (inl e) ih = rw (e, same_true x) (omega arith)
    by_place (inr d) ih = omega (arith, ih d)

no_note : (letters : List Message) (l : Message) → notes letters ≡ [] → Contains letters l → l.note ≡ None
no_note [] l e c = absurd (omega (arith, c.1))
no_note (k ∷ letters) l e c = by_note k.note refl e (one_or_more k letters l c) (no_note letters l)
  where
    by_note : (n : Option Note) → k.note ≡ n → option_to_list n ++ notes letters ≡ [] → (k ≡ l) ⊎ Contains letters l → (notes letters ≡ [] → Contains letters l → l.note ≡ None) → l.note ≡ None
    by_note None f g (inl here) ih = sym (ap (λ (x : Message). x.note) here) ∙ f
    by_note None f g (inr there) ih = ih g there
    by_note (Some n) f g place ih = absurd cc

pub nobody_asks_itself : NobodyAsksItself
nobody_asks_itself o p first run = record {
  parents = λ n h has e. a.parents n (ap stance has ∙ ap stance_as e);
  readers = λ n h has c. absurd (omega (arith, contained n h.part.readers c, ap (λ x. times n (reads_of x)) has, a.readers n));
  askers = λ n. counted_queue mode.Read n (queue_at (p.holds n)) ∙ no_own_read p n (requested_run o p first run);
  letters = λ n l c. no_note (p.channel n n) l (a.channels n) c;
}
  where
    a : IsApart p
    a = apart_run o p first run

-- ## parents and requests

brought : (letters : List Message) → some_brings letters ≡ true → IsBrought letters
brought [] e = absurd cc
brought (l ∷ letters) e = by_test (brings l) refl e (brought letters)
  where
    by_test : (t : Bool) → brings l ≡ t → (t || some_brings letters) ≡ true → (some_brings letters ≡ true → IsBrought letters) → IsBrought (l ∷ letters)
    by_test true f g ih = record { letter = l; there = (0, omega arith, refl); brings_it = f }
    by_test false f g ih =
        let b : IsBrought letters = ih g in
        record { letter = b.letter; there = (suc b.there.0, omega (arith, b.there.1), b.there.2); brings_it = b.brings_it }

is_over : (letters : List Message) → IsBrought letters → 1 ≤ tally handover (notes letters)
is_over letters b = over letters b.there
  where
    over : (letters : List Message) → Contains letters b.letter → 1 ≤ tally handover (notes letters)
    over [] c = absurd (omega (arith, c.1))
    over (k ∷ rest) c = by_place (one_or_more k rest b.letter c) (over rest)
      where
        by_place : (k ≡ b.letter) ⊎ Contains rest b.letter → (Contains rest b.letter → 1 ≤ tally handover (notes rest)) → 1 ≤ tally handover (notes (k ∷ rest))
        by_place (inl e) ih = over_there (k ∷ rest) k [] rest refl (ap brings e ∙ b.brings_it)
        by_place (inr d) ih = omega (arith, ih d, tally-append handover (option_to_list k.note) (notes rest))

share_of : (o : Object) (n : ℕ) → Knows o n → (h : Share) × (o.holds n ≡ Some h)
share_of o n k = by_holds (o.holds n) refl k
  where
    by_holds : (h : Option Share) → o.holds n ≡ h → is_some h ≡ true → (h : Share) × (o.holds n ≡ Some h)
    by_holds None e f = (let both : false ≡ true = f in absurd cc)
    by_holds (Some h) e f = (h, e)

pub who_is_asked_answers : WhoIsAskedAnswers
who_is_asked_answers o p first run n m l before after e a = record { share = h.0; has = h.1; answers = by_test (has_record p m n) refl front }
  where
    knows : Knows p m
    knows = by_way ((asked_run o p first run).knows n m)
      where
        by_way : Knows p m ⊎ Each NoAsk (p.channel n m) → Knows p m
        by_way (inl k) = k
        by_way (inr none) = (let both : true ≡ false = sym a ∙ each_there NoAsk (p.channel n m) none l before after e in absurd cc)

    h : (h : Share) × (p.holds m ≡ Some h)
    h = share_of p m knows

    front : (has_record p m n || some_brings before) ≡ true
    front = fits_there (has_record p m n) (p.channel n m) l before after e ((asked_run o p first run).fits n m) a

    by_test : (t : Bool) → has_record p m n ≡ t → (t || some_brings before) ≡ true → IsSome (p.entering m n) ⊎ IsBrought before
    by_test true f g = inl (f)
    by_test false f g = inr (brought before g)

parent_answers : (o p : Object) → IsFirst o → Run o p → (n parent : ℕ) (h : Share) → p.holds n ≡ Some h → h.part.role ≡ Parent parent → ParentAnswers p n parent
parent_answers o p first run n parent h has role = record {
  asked = record { share = k.0; has = k.1; answers = by_answer (pointed.answers n parent under) };
  wants = λ b. (wants_it mode.Write k.0 (ap (unwanting mode.Write) (sym k.1) ∙ granted_wants p n parent (requested_run o p first run) (is_over (p.channel n parent) b))).0;
}
  where
    pointed : IsPointed p
    pointed = pointed_run o p first run

    under : stance (p.holds n) ≡ Under parent
    under = ap stance has ∙ ap stance_as role

    k : (k : Share) × (p.holds parent ≡ Some k)
    k = share_of p parent (pointed.known n parent under)

    by_answer : AnswersFor p parent n → IsSome (p.entering parent n) ⊎ IsBrought (p.channel n parent)
    by_answer (inl r) = inl (r)
    by_answer (inr over) = inr (brought (p.channel n parent) (over_brings (p.channel n parent) over))

-- a stance, as a share
role_of : (h : Option Share) (s : Stance) → stance h ≡ s → (s ≡ Absent → ⊥) → (b : Share) × (h ≡ Some b) × (stance_as b.part.role ≡ s)
role_of None s e d = absurd (d (sym e))
role_of (Some b) s e d = (b, refl, e)

role_owning : (r : Role) → stance_as r ≡ Owning → r ≡ Owner
role_owning Owner e = refl
role_owning (Parent p) e = absurd cc

under_share : (o : Object) (n k : ℕ) → stance (o.holds n) ≡ Under k → (b : Share) × (o.holds n ≡ Some b) × (b.part.role ≡ Parent k)
under_share o n k e =
    let x : (b : Share) × (o.holds n ≡ Some b) × (stance_as b.part.role ≡ Under k) = role_of (o.holds n) (Under k) e (λ f. cc) in
    (x.0, x.1, role_under x.0.part.role k x.2)

leads_in : (o : Object) → IsChained o → (n : ℕ) → Knows o n → (steps : ℕ) × law.Chain o n steps
leads_in o c n k = along o (λ n. (steps : ℕ) × law.Chain o n steps) ends on n (c.chains n k)
  where
    ends : (n : ℕ) → ChainStop o n → (steps : ℕ) × law.Chain o n steps
    ends n (Has e) =
        let x : (b : Share) × (o.holds n ≡ Some b) × (stance_as b.part.role ≡ Owning) = role_of (o.holds n) Owning e (λ f. cc) in
        (0, law.Here (law.Owns x.0 x.1 (role_owning x.0.part.role x.2)))
    ends n (Gave j h) =
        let x : (b : Share) × (o.holds n ≡ Some b) × (b.part.role ≡ Parent j) = under_share o n j (c.givers n j h) in
        (0, law.Here (law.Gave x.0 j x.1 x.2 (brought (o.channel n j) (over_brings (o.channel n j) h))))

    on : (n k : ℕ) → stance (o.holds n) ≡ Under k → (steps : ℕ) × law.Chain o k steps → (steps : ℕ) × law.Chain o n steps
    on n k e r =
        let x : (b : Share) × (o.holds n ≡ Some b) × (b.part.role ≡ Parent k) = under_share o n k e in
        (suc r.0, law.On x.0 x.1 x.2 r.1)

pub parents_lead : ParentsLeadToTheOwner
parents_lead o p first run = record {
  parents = parent_answers o p first run;
  chains = λ nodes below n h has. chain nodes below n (ap (λ (x : Option Share). is_some x) has);
}
  where
    chain : (nodes : ℕ) → law.IsBelow p nodes → (n : ℕ) → Knows p n → (steps : ℕ) × (steps < nodes) × law.Chain p n steps
    chain nodes below n k =
        let x : (steps : ℕ) × law.Chain p n steps = leads_in p (chained_run o p first run) n k in
        short_leads p nodes below n x.0 x.1

-- ## records

in_some : (r : Option Numbers) (k : ℕ) → IsIn r k → (x : Numbers) × (r ≡ Some x) × (k ≤ x.sent)
in_some None k h = absurd h
in_some (Some x) k h = (x, refl, h)

each_contains : (P : Message → Type 0) (letters : List Message) (l : Message) → Each P letters → Contains letters l → P l
each_contains P [] l h c = absurd (omega (arith, c.1))
each_contains P (k ∷ letters) l h c = by_place (one_or_more k letters l c) (each_contains P letters l h.1)
  where
    by_place : (k ≡ l) ⊎ Contains letters l → (Contains letters l → P l) → P l
    by_place (inl e) ih = subst P e h.0
    by_place (inr d) ih = ih d

pub gifts_are_recorded : GiftsAreRecorded
gifts_are_recorded o p first run = record {
  gifts = λ n m l c g. gift n m l c g (in_some (p.entering n m) l.seq (each_contains (Recorded (p.entering n m)) (p.channel n m) l ((orderly_run o p first run).recorded.channels n m) c g));
  within = within;
}
  where
    knows : (n m : ℕ) (l : Message) → Contains (p.channel n m) l → gives l.note l.tells ≡ true → Knows p n ⊎ Each NoGift (p.channel n m) → IsSome (p.holds n)
    knows n m l c g (inl k) = k
    knows n m l c g (inr none) = (let both : true ≡ false = sym g ∙ each_contains NoGift (p.channel n m) l none c in absurd cc)

    gift : (n m : ℕ) (l : Message) → Contains (p.channel n m) l → gives l.note l.tells ≡ true → (x : Numbers) × (p.entering n m ≡ Some x) × (l.seq ≤ x.sent) →
        IsSome (p.holds n) × (r : Numbers) × (p.entering n m ≡ Some r) × (l.seq ≤ r.sent)
    gift n m l c g x = (knows n m l c g ((giving_run o p first run).channels n m), x.0, x.1, x.2)

    within : (n m : ℕ) (r : Numbers) → p.entering n m ≡ Some r → (r.sent ≤ p.issued n m) × (r.got ≤ p.taken n m)
    within n m r e = subst (λ x. Bounded x (p.issued n m) (p.taken n m)) e ((orderly_run o p first run).bounded.records n m)

-- ## what nothing needs

pub idle_is_unneeded : IdleIsUnneeded
idle_is_unneeded o p first run me h may = unneeded o p first run me h may.has may.idle may.no_record

pub cleared_is_unneeded : ClearedIsUnneeded
cleared_is_unneeded = cleaned_unneeded

pub tables_keep_the_laws : TablesKeepTheLaws
tables_keep_the_laws o s first run = (table_run o s first run).0
