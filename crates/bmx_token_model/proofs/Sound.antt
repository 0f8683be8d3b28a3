-- What holds of a node's copy and token whatever it does.
use Rattle.std.proofs.Common.{◌≡◌, ◌≢◌, ◌⊎◌, inl, inr, ℕ, ◌≤◌, arith, List, [], ◌∷◌, ◌++◌, refl, ap, sym, subst, ◌∙◌, Bool, true, false}
use Rattle.std.specs.Prelude.{◌||◌, is_some, Option, Some, None}
use Rattle.std.specs.List.Sorted.{IsStrictlyIncreasing}
use Rattle.bmx_types.specs.declared.numbers.Mode.{Mode}
use Rattle.bmx_types.specs.declared.numbers.Mode.TheVariants.{Read, Write}
use Rattle.bmx_token.specs.declared.parts.Ask.{Ask}
use Rattle.bmx_token.specs.declared.parts.Role.TheVariants.{Owner, Parent}
use Rattle.bmx_token.specs.declared.parts.Part.{Part}
use Rattle.bmx_token.specs.Nodes.{nodes_with, nodes_without}
use Rattle.bmx_token.specs.Tokens.{is_write}
use Rattle.bmx_token.proofs.Order.{nodes_with-increases, nodes_without-increases}
use Rattle.bmx_token.specs.Transitions.{Share, Note, Transition, with_token, without_copy, with_copy, made_share, heard_share}
use Rattle.bmx_token_model.proofs.Tallies.{Cases, Same, Apart, cases}
use Rattle.bmx_token_model.proofs.Acts.{Alters, TakesWanted, Reads, Writes, Joins, Frees, Readies, Acts, Rests, Hears, AltersTo, Wants, Answers, GrantsRead, HandsOver, Revokes, Arrives, Forwards, GetsRead, GetsWrite, ReturnsNone, ReturnsNow, ReturnsLater, GetsBack}
use Rattle.bmx_token_model.proofs.Times.{times, times-none, times_with-more, times_without-gone, times_without-other}

-- what holds of a node's copy and token; a child is a node that isn't the owner
pub record IsSound (h : Share) : Type 0 where
  pub child_wants : (x : ℕ) (m : Mode) → h.part.role ≡ Parent x → h.part.held ≡ Some m → h.part.want ≡ None
  pub child_readies : (x : ℕ) → h.part.role ≡ Parent x → h.part.want ≡ None → h.part.ready ≡ false
  pub child_reads : (x : ℕ) → h.part.role ≡ Parent x → h.part.ready ≡ true → h.part.want ≡ Some Read
  pub child_holds : (x : ℕ) → h.part.role ≡ Parent x → h.part.held ≢ Some Write
  pub child_alone : (x : ℕ) → h.part.role ≡ Parent x → h.part.readers ≡ []
  pub owner_has : h.part.role ≡ Owner → h.copy ≡ true
  pub owner_owes : h.part.role ≡ Owner → h.part.due ≡ None
  pub owner_writes : h.part.role ≡ Owner → h.part.held ≡ Some Write → h.part.readers ≡ []
  pub owner_readies : h.part.role ≡ Owner → h.part.ready ≡ true → h.part.readers ≡ []
  pub holder_has : (m : Mode) → h.part.held ≡ Some m → h.copy ≡ true
  pub ready_has : h.part.ready ≡ true → h.copy ≡ true
  pub due_holds : (o : ℕ) → h.part.due ≡ Some o → h.part.held ≡ None → h.part.ready ≡ true
  pub read_waits : (asker : ℕ) (rest : List Ask) → h.part.queue ≡ record { asker = asker; mode = Read } ∷ rest → h.part.waiting ≡ []
  pub none_waits : h.part.queue ≡ [] → h.part.waiting ≡ []
  pub waiting_reads : (x : ℕ) → times x h.part.waiting ≤ times x h.part.readers
  pub readers_rise : IsStrictlyIncreasing h.part.readers
  pub waiting_rises : IsStrictlyIncreasing h.part.waiting

-- ## lists

nil_rises : IsStrictlyIncreasing []
nil_rises k h = absurd (omega arith)

pub none_wait : (h : Share) → IsSound h → h.part.readers ≡ [] → h.part.waiting ≡ []
none_wait h s e = times-none h.part.waiting (λ x.
    let most : times x h.part.waiting ≤ times x h.part.readers = s.waiting_reads x in
    let none : times x h.part.readers ≡ 0 = ap (times x) e in
    omega arith)

longer_waits : (queue : List Ask) (a : Ask) (waiting : List ℕ) →
    ((asker : ℕ) (rest : List Ask) → queue ≡ record { asker = asker; mode = Read } ∷ rest → waiting ≡ []) → (queue ≡ [] → waiting ≡ []) →
    (asker : ℕ) (rest : List Ask) → queue ++ a ∷ [] ≡ record { asker = asker; mode = Read } ∷ rest → waiting ≡ []
longer_waits [] a waiting reads none asker rest e = none refl
longer_waits (q ∷ qs) a waiting reads none asker rest e =
    let first : q ≡ record { asker = asker; mode = Read } = cc in
    reads asker qs (ap (λ (x : Ask). x ∷ qs) first)

longer_is_not_empty : {A : Type 0} (queue : List Ask) (a : Ask) → queue ++ a ∷ [] ≡ [] → A
longer_is_not_empty [] a e = absurd cc
longer_is_not_empty (q ∷ qs) a e = absurd cc

without_is_empty : (from : ℕ) (nodes : List ℕ) → nodes ≡ [] → nodes_without from nodes ≡ []
without_is_empty from nodes e = rw e refl

without_keeps_most : (from x : ℕ) (waiting readers : List ℕ) → times x waiting ≤ times x readers →
    times x (nodes_without from waiting) ≤ times x (nodes_without from readers)
without_keeps_most from x waiting readers h = by_case (cases from x)
  where
    by_case : Cases from x → times x (nodes_without from waiting) ≤ times x (nodes_without from readers)
    by_case (Same e t) =
        let gone : times x (nodes_without from waiting) ≡ 0 = ap (λ (y : ℕ). times y (nodes_without from waiting)) (sym e) ∙ times_without-gone from waiting in
        omega arith
    by_case (Apart e t) = omega (arith, h, times_without-other x from waiting t, times_without-other x from readers t)

-- a token that is neither held nor ready
idle_ready : (t ready : Bool) → (t || ready) ≡ false → ready ≡ false
idle_ready true ready e = absurd cc
idle_ready false ready e = e

idle_held : (held : Option Mode) (ready : Bool) → (is_some held || ready) ≡ false → held ≡ None
idle_held None ready e = refl
idle_held (Some m) ready e = absurd cc

unwritten_held : (held : Option Mode) (ready : Bool) → (is_write held || ready) ≡ false → held ≢ Some Write
unwritten_held None ready e h = cc
unwritten_held (Some Read) ready e h = cc
unwritten_held (Some Write) ready e h = cc

held_or_ready : (held : Option Mode) (ready : Bool) → (is_some held || ready) ≡ true → held ≡ None → ready ≡ true
held_or_ready None ready t e = t
held_or_ready (Some m) ready t e = absurd cc

-- ## outcomes

sound_takes_wanted : (b : Share) (m : Mode) → IsSound b → b.part.held ≡ None → b.part.want ≡ Some m → b.part.ready ≡ true →
    IsSound (with_token b record b.part { held = Some m; want = None; ready = false })
sound_takes_wanted b m s h w r = search arith

sound_reads : (b : Share) → IsSound b → (b.part.role ≡ Owner) ⊎ (b.copy ≡ true) → b.part.held ≡ None → b.part.want ≡ None →
    IsSound (with_token b record b.part { held = Some Read })
sound_reads b s has h w = search arith

sound_wants : (b : Share) (m : Mode) (parent : ℕ) → IsSound b → b.part.role ≡ Parent parent → b.part.held ≡ None → b.part.want ≡ None →
    IsSound (with_token b record b.part { want = Some m })
sound_wants b m parent s r h w = search arith

sound_owner_writes : (b : Share) → IsSound b → b.part.role ≡ Owner → b.part.held ≡ None → b.part.readers ≡ [] →
    IsSound (with_token b record b.part { held = Some Write })
sound_owner_writes b s r h e = search arith

sound_queues : (b : Share) (want : Option Mode) (a : Ask) → IsSound b → b.part.role ≡ Owner →
    IsSound (with_token b record b.part { want = want; queue = b.part.queue ++ a ∷ [] })
sound_queues b want a s r =
    let reads : (asker : ℕ) (rest : List Ask) → b.part.queue ++ a ∷ [] ≡ record { asker = asker; mode = Read } ∷ rest → b.part.waiting ≡ [] =
    longer_waits b.part.queue a b.part.waiting s.read_waits s.none_waits in
    let none : b.part.queue ++ a ∷ [] ≡ [] → b.part.waiting ≡ [] = λ e. longer_is_not_empty b.part.queue a e in
    search arith

sound_frees : (b : Share) (m : Mode) → IsSound b → b.part.held ≡ Some m → b.part.due ≡ None →
    IsSound (with_token b record b.part { held = None })
sound_frees b m s h d = search arith

sound_readies : (b : Share) (rest : List Ask) → IsSound b → b.part.role ≡ Owner → b.part.readers ≡ [] →
    IsSound (with_token b record b.part { queue = rest; ready = true })
sound_readies b rest s r e = let none : b.part.waiting ≡ [] = none_wait b s e in search arith

sound_answers : (b : Share) (owner : ℕ) (m : Mode) → IsSound b → b.part.held ≡ Some m → b.part.due ≡ Some owner →
    IsSound (without_copy record b.part { held = None; due = None })
sound_answers b owner m s h d = search arith

sound_grants_read : (b : Share) (asker : ℕ) (rest : List Ask) → IsSound b → b.part.role ≡ Owner →
    b.part.queue ≡ record { asker = asker; mode = Read } ∷ rest → (is_write b.part.held || b.part.ready) ≡ false →
    IsSound (with_token b record b.part { queue = rest; readers = nodes_with asker b.part.readers })
sound_grants_read b asker rest s r q test =
    let none : b.part.waiting ≡ [] = s.read_waits asker rest q in
    let idle : b.part.ready ≡ false = idle_ready (is_write b.part.held) b.part.ready test in
    let unwritten : b.part.held ≢ Some Write = unwritten_held b.part.held b.part.ready test in
    let more : (x : ℕ) → times x b.part.waiting ≤ times x (nodes_with asker b.part.readers) =
    λ x. omega (arith, s.waiting_reads x, times_with-more x asker b.part.readers) in
    let rises : IsStrictlyIncreasing (nodes_with asker b.part.readers) = nodes_with-increases asker b.part.readers s.readers_rise in
    search arith

sound_hands_over : (b : Share) (asker : ℕ) → IsSound b → b.part.role ≡ Owner → b.part.readers ≡ [] → (is_some b.part.held || b.part.ready) ≡ false →
    IsSound (without_copy record b.part { role = Parent asker; queue = [] })
sound_hands_over b asker s r e test =
    let none : b.part.waiting ≡ [] = none_wait b s e in
    let free : b.part.held ≡ None = idle_held b.part.held b.part.ready test in
    let idle : b.part.ready ≡ false = idle_ready (is_some b.part.held) b.part.ready test in
    let owes : b.part.due ≡ None = s.owner_owes r in
    search arith

sound_revokes : (b : Share) (asker : ℕ) (rest : List Ask) → IsSound b → b.part.queue ≡ record { asker = asker; mode = Write } ∷ rest →
    IsSound (with_token b record b.part { waiting = b.part.readers })
sound_revokes b asker rest s q = search arith

sound_gets_read : (b : Share) (parent from : ℕ) → IsSound b → b.part.role ≡ Parent parent → b.part.want ≡ Some Read → b.part.ready ≡ false →
    IsSound (with_copy record b.part { role = Parent from; ready = true })
sound_gets_read b parent from s r w d = search arith

sound_gets_write : (b : Share) (parent : ℕ) → IsSound b → b.part.role ≡ Parent parent → b.part.want ≡ Some Write → b.part.ready ≡ false →
    IsSound (with_copy record b.part { role = Owner; ready = true; readers = []; queue = []; waiting = [] })
sound_gets_write b parent s r w d = search (arith, nil_rises)

sound_returns_now : (b : Share) (parent : ℕ) → IsSound b → b.part.role ≡ Parent parent → b.part.due ≡ None →
    (b.copy ≡ false) ⊎ ((is_some b.part.held || b.part.ready) ≡ false) → IsSound (without_copy b.part)
sound_returns_now b parent s r d test = by_test test
  where
    by_test : (b.copy ≡ false) ⊎ ((is_some b.part.held || b.part.ready) ≡ false) → IsSound (without_copy b.part)
    by_test (inl e) = search arith
    by_test (inr e) =
        let free : b.part.held ≡ None = idle_held b.part.held b.part.ready e in
        let idle : b.part.ready ≡ false = idle_ready (is_some b.part.held) b.part.ready e in
        search arith

sound_returns_later : (b : Share) (parent from : ℕ) → IsSound b → b.part.role ≡ Parent parent →
    (is_some b.part.held || b.part.ready) ≡ true → IsSound (with_token b record b.part { due = Some from })
sound_returns_later b parent from s r test =
    let holds : b.part.held ≡ None → b.part.ready ≡ true = λ e. held_or_ready b.part.held b.part.ready test e in
    search arith

sound_gets_back : (b : Share) (from : ℕ) → IsSound b → b.part.role ≡ Owner →
    IsSound (with_token b record b.part { waiting = nodes_without from b.part.waiting; readers = nodes_without from b.part.readers })
sound_gets_back b from s r =
    let readers : b.part.readers ≡ [] → nodes_without from b.part.readers ≡ [] = without_is_empty from b.part.readers in
    let waiting : b.part.waiting ≡ [] → nodes_without from b.part.waiting ≡ [] = without_is_empty from b.part.waiting in
    let most : (x : ℕ) → times x (nodes_without from b.part.waiting) ≤ times x (nodes_without from b.part.readers) =
    λ x. without_keeps_most from x b.part.waiting b.part.readers (s.waiting_reads x) in
    let readers_rise : IsStrictlyIncreasing (nodes_without from b.part.readers) = nodes_without-increases from b.part.readers s.readers_rise in
    let waiting_rises : IsStrictlyIncreasing (nodes_without from b.part.waiting) = nodes_without-increases from b.part.waiting s.waiting_rises in
    search arith

sound_child : (parent : ℕ) → IsSound (heard_share parent)
sound_child parent = search (arith, nil_rises)

sound_made : IsSound made_share
sound_made = search (arith, nil_rises)

-- ## all outcomes

-- of what a node has of the object, if anything
abbrev pub IsSoundIf : Option Share → Type 0
IsSoundIf None = Unit {0}
IsSoundIf (Some h) = IsSound h

pub sound_when_made : IsSoundIf (Some made_share)
sound_when_made = sound_made

pub sound_when_heard : (from : ℕ) → IsSoundIf (Some (heard_share from))
sound_when_heard from = sound_child from

sound_alters : (me : ℕ) (b : Share) (q : Part) → Alters me b.copy b.part q → IsSound b → IsSound (with_token b q)
sound_alters me b q (TakesWanted m h w r e) s = subst (λ x. IsSound (with_token b x)) (sym e) (sound_takes_wanted b m s h w r)
sound_alters me b q (Reads has h w e) s = subst (λ x. IsSound (with_token b x)) (sym e) (sound_reads b s has h w)
sound_alters me b q (Writes r h rs e) s = subst (λ x. IsSound (with_token b x)) (sym e) (sound_owner_writes b s r h rs)
sound_alters me b q (Joins r w e) s = subst (λ x. IsSound (with_token b x)) (sym e) (sound_queues b (Some Write) record { asker = me; mode = Write } s r)
sound_alters me b q (Frees m h d e) s = subst (λ x. IsSound (with_token b x)) (sym e) (sound_frees b m s h d)
sound_alters me b q (Readies rest r rs queue e) s = subst (λ x. IsSound (with_token b x)) (sym e) (sound_readies b rest s r rs)

-- the outcome's part, from what is sound before
turned : (h : Option Share) (b : Share) (t a : Transition) → IsSoundIf h → h ≡ Some b → t ≡ a → (IsSound b → IsSoundIf a.after) → IsSoundIf t.after
turned h b t a s e f g = subst (λ (x : Transition). IsSoundIf x.after) (sym f) (g (subst IsSoundIf e s))

pub sound_after : (me from : ℕ) (taken : Option Note) (tells : Bool) (h : Option Share) (t : Transition) → Acts me from taken tells h t → IsSoundIf h → IsSoundIf t.after
sound_after me from taken tells h t (Rests x f) s = subst (λ (x : Transition). IsSoundIf x.after) (sym f) s
sound_after me from taken tells h t (Hears e told x f) s = subst (λ (x : Transition). IsSoundIf x.after) (sym f) (sound_child from)
sound_after me from taken tells h t (AltersTo b q e alters x f) s = turned h b t _ s e f (λ z. sound_alters me b q alters z)
sound_after me from taken tells h t (Wants b n parent e r held w x f) s = turned h b t _ s e f (λ z. sound_wants b n parent z r held w)
sound_after me from taken tells h t (Answers b owner held e x y u f) s = turned h b t _ s e f (λ z. sound_answers b owner held z x y)
sound_after me from taken tells h t (GrantsRead b asker rest e r q test x f) s = turned h b t _ s e f (λ z. sound_grants_read b asker rest z r q test)
sound_after me from taken tells h t (HandsOver b asker rest e r rs q other test x f) s = turned h b t _ s e f (λ z. sound_hands_over b asker z r rs test)
sound_after me from taken tells h t (Revokes b asker rest e r q w x f) s = turned h b t _ s e f (λ z. sound_revokes b asker rest z q)
sound_after me from taken tells h t (Arrives b n asker e r other x f) s = turned h b t _ s e f (λ z. sound_queues b b.part.want record { asker = asker; mode = n } z r)
sound_after me from taken tells h t (Forwards b n asker parent e r x f) s = turned h b t _ s e f (λ z. z)
sound_after me from taken tells h t (GetsRead b parent e r w d x f) s = turned h b t _ s e f (λ z. sound_gets_read b parent from z r w d)
sound_after me from taken tells h t (GetsWrite b parent e r w d x f) s = turned h b t _ s e f (λ z. sound_gets_write b parent z r w d)
sound_after me from taken tells h t (ReturnsNone k e c x f) s = subst (λ (x : Transition). IsSoundIf x.after) (sym f) (by_hearing c)
  where
    by_hearing : (k ≡ None) ⊎ ((k ≡ Some (heard_share from)) × (tells ≡ true)) → IsSoundIf k
    by_hearing (inl z) = subst IsSoundIf (sym z) tt
    by_hearing (inr z) = subst IsSoundIf (sym z.0) (sound_child from)
sound_after me from taken tells h t (ReturnsNow b parent e r d test x f) s = turned h b t _ s e f (λ z. sound_returns_now b parent z r d test)
sound_after me from taken tells h t (ReturnsLater b parent e r d c test x f) s = turned h b t _ s e f (λ z. sound_returns_later b parent from z r test)
sound_after me from taken tells h t (GetsBack b e r waited x f) s = turned h b t _ s e f (λ z. sound_gets_back b from z r)
