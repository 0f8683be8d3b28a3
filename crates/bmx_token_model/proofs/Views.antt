-- What each outcome does to what a node knows of another as its owner, and has from another as its reader.
use Rattle.std.proofs.Common.{◌≡◌, ◌⊎◌, inl, inr, ℕ, ◌≤◌, arith, List, [], ◌∷◌, map, refl, ap, sym, subst, ◌∙◌, Bool, true, false, cond}
use Rattle.std.specs.Prelude.{◌==◌, if◌then◌else◌, Option, Some, None}
use Rattle.std.specs.Option.{option_to_list}
use Rattle.bmx_types.specs.declared.numbers.Mode.{Mode}
use Rattle.bmx_types.specs.declared.numbers.Mode.TheVariants.{Read, Write}
use Rattle.bmx_token.specs.declared.parts.Ask.{Ask}
use Rattle.bmx_token.specs.declared.parts.Role.{Role}
use Rattle.bmx_token.specs.declared.parts.Role.TheVariants.{Owner, Parent}
use Rattle.bmx_token.specs.declared.parts.Part.{Part}
use Rattle.bmx_token.specs.Nodes.{nodes_with, nodes_without}
use Rattle.bmx_token.specs.Transitions.{Share, Note, Asks, Grants, Recalls, Returns, Send, send, Transition, silently, saying, with_token, with_copy, without_copy, heard_share}
use Rattle.bmx_token_model.proofs.Tallies.{tally, read_grant, recall, return, eqb_true, swapped}
use Rattle.bmx_token_model.proofs.Acts.{Alters, TakesWanted, Reads, Writes, Joins, Frees, Readies, Acts, Rests, Hears, AltersTo, Wants, Answers, GrantsRead, HandsOver, Revokes, Arrives, Forwards, GetsRead, GetsWrite, ReturnsNone, ReturnsNow, ReturnsLater, GetsBack}
use Rattle.bmx_token_model.proofs.Moves.{notes_to, tally-send, nothing-send, asks-send, recalls-nothing}
use Rattle.bmx_token_model.proofs.Times.{times, times_with-more, times_with-there, times_without-gone, times_without-other, times-once}
use Rattle.bmx_token_model.proofs.Sound.{IsSound, IsSoundIf, none_wait}
use Rattle.bmx_token_model.proofs.Pairs.{OwnerRests, OwnerActs, ReaderRests, ReaderActs}

-- ## what a node has

abbrev pub reads_of : Option Share → List ℕ
reads_of None = []
reads_of (Some h) = h.part.readers

abbrev pub waits_of : Option Share → List ℕ
waits_of None = []
waits_of (Some h) = h.part.waiting

abbrev pub copied_as : ℕ → Bool → Role → ℕ
copied_as n false role = 0
copied_as n true Owner = 0
copied_as n true (Parent parent) = if parent == n then 1 else 0

-- 1 where it has a copy, and a node is its parent
abbrev pub copy_from : ℕ → Option Share → ℕ
copy_from n None = 0
copy_from n (Some h) = copied_as n h.copy h.part.role

abbrev pub due_as : ℕ → Option ℕ → ℕ
due_as n None = 0
due_as n (Some owner) = if owner == n then 1 else 0

-- 1 where it is to return its copy to a node
abbrev pub due_to : ℕ → Option Share → ℕ
due_to n None = 0
due_to n (Some h) = due_as n h.part.due

-- what was taken of the channel from a node
abbrev pub taken_of : ℕ → Option Note → ℕ → List Note
taken_of from taken x = if from == x then option_to_list taken else []

-- the numbers of a node and another, as its owner and as its reader
abbrev pub AsOwner : (ℕ → ℕ → ℕ → ℕ → ℕ → ℕ → ℕ → Type 0) → ℕ → Option Note → Option Share → Transition → ℕ → Type 0
AsOwner F from taken h m x =
    F (times x (reads_of h)) (times x (waits_of h)) (times x (reads_of m.after)) (times x (waits_of m.after))
    (tally read_grant (notes_to x m.sends)) (tally recall (notes_to x m.sends)) (tally return (taken_of from taken x))

abbrev pub AsReader : (ℕ → ℕ → ℕ → ℕ → ℕ → ℕ → ℕ → Type 0) → ℕ → Option Note → Option Share → Transition → ℕ → Type 0
AsReader F from taken h m x =
    F (copy_from x h) (due_to x h) (copy_from x m.after) (due_to x m.after)
    (tally read_grant (taken_of from taken x)) (tally recall (taken_of from taken x)) (tally return (notes_to x m.sends))

-- an act is an owner's or a reader's
pub data View (from : ℕ) (taken : Option Note) (h : Option Share) (m : Transition) : Type 0 where
  ByOwner : ((x : ℕ) → AsOwner OwnerActs from taken h m x) → ((x : ℕ) → AsReader ReaderRests from taken h m x) → View from taken h m
  ByReader : ((x : ℕ) → AsOwner OwnerRests from taken h m x) → ((x : ℕ) → AsReader ReaderActs from taken h m x) → View from taken h m

-- ## helpers

-- notes without grants to read, recalls and returns
pub record IsStill (notes : List Note) : Type 0 where
  pub read_grants : tally read_grant notes ≡ 0
  pub recalls : tally recall notes ≡ 0
  pub returns : tally return notes ≡ 0

pub nothing_still : IsStill []
nothing_still = record { read_grants = refl; recalls = refl; returns = refl }

-- one note that is neither a grant to read nor a recall or a return
one_still : (k to : ℕ) (n : Note) (sends : List Send) → IsStill (n ∷ []) → IsStill (notes_to k sends) → IsStill (notes_to k (send to n ∷ sends))
one_still k to n sends h rest = record {
  read_grants = nothing-send read_grant k to n sends (omega (arith, h.read_grants)) rest.read_grants;
  recalls = nothing-send recall k to n sends (omega (arith, h.recalls)) rest.recalls;
  returns = nothing-send return k to n sends (omega (arith, h.returns)) rest.returns;
}

asks_still : (k to : ℕ) (m : Mode) (asker : ℕ) → IsStill (notes_to k (send to (Asks m asker) ∷ []))
asks_still k to m asker = one_still k to (Asks m asker) [] record { read_grants = refl; recalls = refl; returns = refl } nothing_still

taken_nothing : (f : Note → ℕ) (from : ℕ) (taken : Option Note) (x : ℕ) → tally f (option_to_list taken) ≡ 0 → tally f (taken_of from taken x) ≡ 0
taken_nothing f from taken x h = by_test (from == x)
  where
    by_test : (t : Bool) → tally f (cond t (option_to_list taken) []) ≡ 0
    by_test true = h
    by_test false = refl

-- an act that neither an owner nor a reader has to know of
idle : (from : ℕ) (taken : Option Note) (h : Option Share) (m : Transition) →
    ((x : ℕ) → times x (reads_of m.after) ≡ times x (reads_of h)) → ((x : ℕ) → times x (waits_of m.after) ≡ times x (waits_of h)) →
    ((x : ℕ) → copy_from x m.after ≤ copy_from x h) → ((x : ℕ) → due_to x m.after ≡ due_to x h) →
    IsStill (option_to_list taken) → ((k : ℕ) → IsStill (notes_to k m.sends)) → View from taken h m
idle from taken h m reads waits copies dues t l =
    ByOwner
    (λ x. OwnerActs.Nothing record {
      more = omega (arith, reads x);
      same = waits x;
      no_grant = (l x).read_grants;
      no_recall = (l x).recalls;
      no_return = taken_nothing return from taken x t.returns;
    })
    (λ x. record {
      less = copies x;
      same = dues x;
      no_grant = taken_nothing read_grant from taken x t.read_grants;
      no_recall = taken_nothing recall from taken x t.recalls;
      no_return = (l x).returns;
    })

same : (from : ℕ) (taken u : Option Note) (h g : Option Share) (m a : Transition) → taken ≡ u → h ≡ g → m ≡ a → View from u g a → View from taken h m
same from taken u h g m a t e f v = rw (t, e, f) v

pub record IsAlike (p q : Part) : Type 0 where
  pub role : q.role ≡ p.role
  pub due : q.due ≡ p.due
  pub readers : q.readers ≡ p.readers
  pub waiting : q.waiting ≡ p.waiting

alike : (me : ℕ) (copy : Bool) (p q : Part) → Alters me copy p q → IsAlike p q
alike me copy p q (TakesWanted m h w r e) = rw e record { role = refl; due = refl; readers = refl; waiting = refl }
alike me copy p q (Reads has h w e) = rw e record { role = refl; due = refl; readers = refl; waiting = refl }
alike me copy p q (Writes r h rs e) = rw e record { role = refl; due = refl; readers = refl; waiting = refl }
alike me copy p q (Joins r w e) = rw e record { role = refl; due = refl; readers = refl; waiting = refl }
alike me copy p q (Frees m h d e) = rw e record { role = refl; due = refl; readers = refl; waiting = refl }
alike me copy p q (Readies rest r rs queue e) = rw e record { role = refl; due = refl; readers = refl; waiting = refl }

-- ## each outcome

-- a node has as many readers as before, and the same parent and debts
view_like : (from : ℕ) (taken : Option Note) (b : Share) (q : Part) (sends : List Send) → IsAlike b.part q → IsStill (option_to_list taken) →
    ((k : ℕ) → IsStill (notes_to k sends)) → View from taken (Some b) (saying (with_token b q) sends)
view_like from taken b q sends k t l =
    idle from taken (Some b) (saying (with_token b q) sends) (λ x. ap (times x) k.readers) (λ x. ap (times x) k.waiting)
    (λ x. omega (arith, ap (copied_as x b.copy) k.role)) (λ x. ap (due_as x) k.due) t l

-- a node that had nothing has neither readers nor a copy from another
pub view_new : (from : ℕ) (taken : Option Note) (h : Option Share) (m : Transition) (b : Share) → h ≡ None → m.after ≡ Some b →
    b.part.readers ≡ [] → b.part.waiting ≡ [] → ((x : ℕ) → copied_as x b.copy b.part.role ≡ 0) → b.part.due ≡ None →
    IsStill (option_to_list taken) → ((k : ℕ) → IsStill (notes_to k m.sends)) → View from taken h m
view_new from taken h m b e after reads waits copies due t l =
    idle from taken h m
    (λ x. ap (λ o. times x (reads_of o)) after ∙ ap (times x) reads ∙ sym (ap (λ o. times x (reads_of o)) e))
    (λ x. ap (λ o. times x (waits_of o)) after ∙ ap (times x) waits ∙ sym (ap (λ o. times x (waits_of o)) e))
    (λ x. omega (arith, ap (λ o. copy_from x o) after, copies x))
    (λ x. ap (λ o. due_to x o) after ∙ ap (due_as x) due ∙ sym (ap (λ o. due_to x o) e))
    t l

-- one note that is sent, and one that is taken
one_sent : (f : Note → ℕ) (x to : ℕ) (n : Note) → tally f (notes_to x (send to n ∷ [])) ≡ cond (to == x) (f n) 0
one_sent f x to n = tally-send f x to n [] ∙ omega arith

none_sent : (f : Note → ℕ) (x to : ℕ) (n : Note) → f n ≡ 0 → tally f (notes_to x (send to n ∷ [])) ≡ 0
none_sent f x to n h = nothing-send f x to n [] h refl

one_taken : (f : Note → ℕ) (from : ℕ) (n : Note) (x : ℕ) → f n ≡ 1 → tally f (taken_of from (Some n) x) ≡ cond (from == x) 1 0
one_taken f from n x h = by_test (from == x)
  where
    by_test : (t : Bool) → tally f (cond t (n ∷ []) []) ≡ cond t 1 0
    by_test true = omega (arith, h)
    by_test false = refl

nothing_taken : (f : Note → ℕ) (from x : ℕ) → tally f (taken_of from None x) ≡ 0
nothing_taken f from x = taken_nothing f from None x refl

owner_rests : (from : ℕ) (taken : Option Note) (h : Option Share) (after : Option Share) (sends : List Send) (x : ℕ) →
    reads_of after ≡ reads_of h → waits_of after ≡ waits_of h → tally read_grant (notes_to x sends) ≡ 0 → tally recall (notes_to x sends) ≡ 0 →
    tally return (option_to_list taken) ≡ 0 → AsOwner OwnerRests from taken h record { after = after; sends = sends } x
owner_rests from taken h after sends x reads waits g c t = record {
  more = omega (arith, ap (times x) reads);
  same = ap (times x) waits;
  no_grant = g;
  no_recall = c;
  no_return = taken_nothing return from taken x t;
}

-- a reader does nothing about the owner in a transition that takes nothing
reader_rests : (from : ℕ) (h : Option Share) (t : Transition) (x : ℕ) → copy_from x t.after ≤ copy_from x h → due_to x t.after ≡ due_to x h →
    tally return (notes_to x t.sends) ≡ 0 → AsReader ReaderRests from None h t x
reader_rests from h t x less same none = record {
  less = less;
  same = same;
  no_grant = nothing_taken read_grant from x;
  no_recall = nothing_taken recall from x;
  no_return = none;
}

view_answers : (from : ℕ) (b : Share) (owner : ℕ) → b.part.due ≡ Some owner →
    View from None (Some b) (saying (without_copy record b.part { held = None; due = None }) (send owner Returns ∷ []))
view_answers from b owner d =
    ByReader
    (λ x. owner_rests from None (Some b) (Some (without_copy record b.part { held = None; due = None })) (send owner Returns ∷ []) x refl refl
    (none_sent read_grant x owner Returns refl) (none_sent recall x owner Returns refl) refl)
    (λ x. by_test x (owner == x) (ap (due_as x) d) (one_sent return x owner Returns))
  where
    by_test : (x : ℕ) (t : Bool) → due_as x b.part.due ≡ cond t 1 0 → tally return (notes_to x (send owner Returns ∷ [])) ≡ cond t 1 0 →
        AsReader ReaderActs from None (Some b) (saying (without_copy record b.part { held = None; due = None }) (send owner Returns ∷ [])) x
    by_test x true due back = ReaderActs.Releases refl due (nothing_taken read_grant from x) (nothing_taken recall from x) back
    by_test x false due back = ReaderActs.Nothing (reader_rests from (Some b) (saying (without_copy record b.part { held = None; due = None }) (send owner Returns ∷ [])) x (omega arith) (sym due) back)

view_grants_read : (from : ℕ) (b : Share) (asker : ℕ) (rest : List Ask) → b.part.waiting ≡ [] →
    View from None (Some b) (saying (with_token b record b.part { queue = rest; readers = nodes_with asker b.part.readers }) (send asker (Grants Read) ∷ []))
view_grants_read from b asker rest w =
    ByOwner (λ x. by_test x (asker == x) (eqb_true asker x) (one_sent read_grant x asker (Grants Read)))
    (λ x. reader_rests from (Some b) (saying after (send asker (Grants Read) ∷ [])) x (omega arith) refl (none_sent return x asker (Grants Read) refl))
  where
    after : Share
    after = with_token b record b.part { queue = rest; readers = nodes_with asker b.part.readers }

    none : (x : ℕ) → times x b.part.waiting ≡ 0
    none x = ap (times x) w

    by_test : (x : ℕ) (t : Bool) → (t ≡ true → asker ≡ x) → tally read_grant (notes_to x (send asker (Grants Read) ∷ [])) ≡ cond t 1 0 →
        AsOwner OwnerActs from None (Some b) (saying after (send asker (Grants Read) ∷ [])) x
    by_test x true is one =
        OwnerActs.Grants (none x) (none x) (times_with-more x asker b.part.readers)
        (subst (λ y. 1 ≤ times y (nodes_with asker b.part.readers)) (is refl) (times_with-there asker b.part.readers))
        one (none_sent recall x asker (Grants Read) refl) (nothing_taken return from x)
    by_test x false is one =
        OwnerActs.Nothing record {
          more = times_with-more x asker b.part.readers;
          same = refl;
          no_grant = one;
          no_recall = none_sent recall x asker (Grants Read) refl;
          no_return = nothing_taken return from x;
        }

view_hands_over : (from : ℕ) (b : Share) (asker : ℕ) (rest : List Ask) →
    View from None (Some b) (saying (without_copy record b.part { role = Parent asker; queue = [] })
    (send asker (Grants Write) ∷ map (λ (a : Ask). send asker (Asks a.mode a.asker)) rest))
view_hands_over from b asker rest =
    idle from None (Some b) _ (λ x. refl) (λ x. refl) (λ x. omega arith) (λ x. refl) nothing_still
    (λ k. record {
      read_grants = none read_grant k refl (λ m a. refl);
      recalls = none recall k refl (λ m a. refl);
      returns = none return k refl (λ m a. refl);
    })
  where
    none : (f : Note → ℕ) (k : ℕ) → f (Grants Write) ≡ 0 → ((m : Mode) (a : ℕ) → f (Asks m a) ≡ 0) →
        tally f (notes_to k (send asker (Grants Write) ∷ map (λ (a : Ask). send asker (Asks a.mode a.asker)) rest)) ≡ 0
    none f k g a = nothing-send f k asker (Grants Write) (map (λ (a : Ask). send asker (Asks a.mode a.asker)) rest) g (asks-send f a k asker rest)

-- recalls that are sent to nodes
all_recalls : (x : ℕ) (nodes : List ℕ) → tally recall (notes_to x (map (λ n. send n Recalls) nodes)) ≡ times x nodes
all_recalls x [] = refl
all_recalls x (n ∷ nodes) =
    tally-send recall x n Recalls (map (λ n. send n Recalls) nodes)
    ∙ omega (arith, all_recalls x nodes, ap (λ (t : Bool). cond {A = ℕ} t 1 0) (swapped n x))

view_revokes : (from : ℕ) (b : Share) → b.part.waiting ≡ [] →
    View from None (Some b) (saying (with_token b record b.part { waiting = b.part.readers }) (map (λ n. send n Recalls) b.part.readers))
view_revokes from b w =
    ByOwner
    (λ x. OwnerActs.Recalls (ap (times x) w) refl refl (recalls-nothing read_grant refl x b.part.readers) (all_recalls x b.part.readers) (nothing_taken return from x))
    (λ x. reader_rests from (Some b) (saying (with_token b record b.part { waiting = b.part.readers }) (map (λ n. send n Recalls) b.part.readers)) x
    (omega arith) refl (recalls-nothing return refl x b.part.readers))

view_gets_read : (from : ℕ) (b : Share) → View from (Some (Grants Read)) (Some b) (silently (with_copy record b.part { role = Parent from; ready = true }))
view_gets_read from b =
    ByReader
    (λ x. owner_rests from (Some (Grants Read)) (Some b) (Some (with_copy record b.part { role = Parent from; ready = true })) [] x refl refl refl refl refl)
    (λ x. by_test x (from == x) (one_taken read_grant from (Grants Read) x refl))
  where
    by_test : (x : ℕ) (t : Bool) → tally read_grant (taken_of from (Some (Grants Read)) x) ≡ cond t 1 0 →
        ReaderActs (copied_as x b.copy b.part.role) (due_as x b.part.due) (cond t 1 0) (due_as x b.part.due)
        (tally read_grant (taken_of from (Some (Grants Read)) x)) (tally recall (taken_of from (Some (Grants Read)) x)) 0
    by_test x true one = ReaderActs.Copies (omega arith) refl one (taken_nothing recall from (Some (Grants Read)) x refl) refl
    by_test x false one = ReaderActs.Nothing record {
      less = omega arith;
      same = refl;
      no_grant = one;
      no_recall = taken_nothing recall from (Some (Grants Read)) x refl;
      no_return = refl;
    }

view_gets_write : (from : ℕ) (b : Share) → b.part.readers ≡ [] → b.part.waiting ≡ [] →
    View from (Some (Grants Write)) (Some b) (silently (with_copy record b.part { role = Owner; ready = true; readers = []; queue = []; waiting = [] }))
view_gets_write from b r w =
    idle from (Some (Grants Write)) (Some b) _ (λ x. sym (ap (times x) r)) (λ x. sym (ap (times x) w)) (λ x. omega arith) (λ x. refl)
    record { read_grants = refl; recalls = refl; returns = refl } (λ k. nothing_still)

-- a recall that is answered at once
view_returns : (from : ℕ) (h after : Option Share) → reads_of after ≡ reads_of h → waits_of after ≡ waits_of h →
    ((x : ℕ) → copy_from x after ≡ 0) → ((x : ℕ) → due_to x after ≡ due_to x h) →
    View from (Some Recalls) h record { after = after; sends = send from Returns ∷ [] }
view_returns from h after reads waits gone dues =
    ByReader
    (λ x. owner_rests from (Some Recalls) h after (send from Returns ∷ []) x reads waits (none_sent read_grant x from Returns refl)
    (none_sent recall x from Returns refl) refl)
    (λ x. by_test x (from == x) (one_taken recall from Recalls x refl) (one_sent return x from Returns))
  where
    by_test : (x : ℕ) (t : Bool) → tally recall (taken_of from (Some Recalls) x) ≡ cond t 1 0 → tally return (notes_to x (send from Returns ∷ [])) ≡ cond t 1 0 →
        AsReader ReaderActs from (Some Recalls) h record { after = after; sends = send from Returns ∷ [] } x
    by_test x true one back = ReaderActs.Answers (gone x) (dues x) (taken_nothing read_grant from (Some Recalls) x refl) one back
    by_test x false one back = ReaderActs.Nothing record {
      less = omega (arith, gone x);
      same = dues x;
      no_grant = taken_nothing read_grant from (Some Recalls) x refl;
      no_recall = one;
      no_return = back;
    }

-- a recall that waits for the release
view_returns_later : (from : ℕ) (b : Share) → b.part.due ≡ None → View from (Some Recalls) (Some b) (silently (with_token b record b.part { due = Some from }))
view_returns_later from b d =
    ByReader
    (λ x. owner_rests from (Some Recalls) (Some b) (Some (with_token b record b.part { due = Some from })) [] x refl refl refl refl refl)
    (λ x. by_test x (from == x) (ap (due_as x) d) (one_taken recall from Recalls x refl))
  where
    by_test : (x : ℕ) (t : Bool) → due_as x b.part.due ≡ 0 → tally recall (taken_of from (Some Recalls) x) ≡ cond t 1 0 →
        ReaderActs (copied_as x b.copy b.part.role) (due_as x b.part.due) (copied_as x b.copy b.part.role) (cond t 1 0)
        (tally read_grant (taken_of from (Some Recalls) x)) (tally recall (taken_of from (Some Recalls) x)) 0
    by_test x true none one = ReaderActs.Delays (omega arith) (omega arith) (taken_nothing read_grant from (Some Recalls) x refl) one refl
    by_test x false none one = ReaderActs.Nothing record {
      less = omega arith;
      same = sym none;
      no_grant = taken_nothing read_grant from (Some Recalls) x refl;
      no_recall = one;
      no_return = refl;
    }

view_gets_back : (from : ℕ) (b : Share) → ((x : ℕ) → times x b.part.waiting ≤ 1) →
    View from (Some Returns) (Some b)
    (silently (with_token b record b.part { waiting = nodes_without from b.part.waiting; readers = nodes_without from b.part.readers }))
view_gets_back from b once =
    ByOwner (λ x. by_test x (from == x) (eqb_true from x) (swapped x from) (one_taken return from Returns x refl))
    (λ x. record {
      less = omega arith;
      same = refl;
      no_grant = taken_nothing read_grant from (Some Returns) x refl;
      no_recall = taken_nothing recall from (Some Returns) x refl;
      no_return = refl;
    })
  where
    by_test : (x : ℕ) (t : Bool) → (t ≡ true → from ≡ x) → (x == from) ≡ t → tally return (taken_of from (Some Returns) x) ≡ cond t 1 0 →
        OwnerActs (times x b.part.readers) (times x b.part.waiting) (times x (nodes_without from b.part.readers)) (times x (nodes_without from b.part.waiting))
        0 0 (tally return (taken_of from (Some Returns) x))
    by_test x true is e one =
        OwnerActs.GetsBack (once x) (subst (λ (y : ℕ). times y (nodes_without from b.part.readers) ≡ 0) (is refl) (times_without-gone from b.part.readers))
        (subst (λ (y : ℕ). times y (nodes_without from b.part.waiting) ≡ 0) (is refl) (times_without-gone from b.part.waiting)) refl refl one
    by_test x false is e one = OwnerActs.Nothing record {
      more = omega (arith, times_without-other x from b.part.readers e);
      same = times_without-other x from b.part.waiting e;
      no_grant = refl;
      no_recall = refl;
      no_return = one;
    }

-- ## all outcomes

pub view : (me from : ℕ) (taken : Option Note) (tells : Bool) (h : Option Share) (t : Transition) → Acts me from taken tells h t → IsSoundIf h → View from taken h t
view me from taken tells h t (Rests x f) s =
    same from _ _ _ _ _ _ x refl f (idle from None h _ (λ x. refl) (λ x. refl) (λ x. omega arith) (λ x. refl) nothing_still (λ k. nothing_still))
view me from taken tells h t (Hears e told x f) s =
    same from _ _ _ _ _ _ x e f (view_new from None None _ (heard_share from) refl refl refl refl (λ x. refl) refl nothing_still (λ k. nothing_still))
view me from taken tells h t (AltersTo b q e alters x f) s =
    same from _ _ _ _ _ _ x e f (view_like from None b q [] (alike me b.copy b.part q alters) nothing_still (λ k. nothing_still))
view me from taken tells h t (Wants b n parent e r held w x f) s =
    same from _ _ _ _ _ _ x e f (view_like from None b _ _ record { role = refl; due = refl; readers = refl; waiting = refl } nothing_still (λ k. asks_still k parent n me))
view me from taken tells h t (Answers b owner held e holds d x f) s = same from _ _ _ _ _ _ x e f (view_answers from b owner d)
view me from taken tells h t (GrantsRead b asker rest e r q test x f) s =
    let sound : IsSound b = subst IsSoundIf e s in
    same from _ _ _ _ _ _ x e f (view_grants_read from b asker rest (sound.read_waits asker rest q))
view me from taken tells h t (HandsOver b asker rest e r rs q other test x f) s = same from _ _ _ _ _ _ x e f (view_hands_over from b asker rest)
view me from taken tells h t (Revokes b asker rest e r q w x f) s = same from _ _ _ _ _ _ x e f (view_revokes from b w)
view me from taken tells h t (Arrives b n asker e r other x f) s =
    same from _ _ _ _ _ _ x e f (view_like from (Some (Asks n asker)) b _ [] record { role = refl; due = refl; readers = refl; waiting = refl }
    record { read_grants = refl; recalls = refl; returns = refl } (λ k. nothing_still))
view me from taken tells h t (Forwards b n asker parent e r x f) s =
    same from _ _ _ _ _ _ x e f (view_like from (Some (Asks n asker)) b b.part (send parent (Asks n asker) ∷ []) record { role = refl; due = refl; readers = refl; waiting = refl }
    record { read_grants = refl; recalls = refl; returns = refl } (λ k. asks_still k parent n asker))
view me from taken tells h t (GetsRead b parent e r w d x f) s = same from _ _ _ _ _ _ x e f (view_gets_read from b)
view me from taken tells h t (GetsWrite b parent e r w d x f) s =
    let sound : IsSound b = subst IsSoundIf e s in
    let reads : b.part.readers ≡ [] = sound.child_alone parent r in
    same from _ _ _ _ _ _ x e f (view_gets_write from b reads (none_wait b sound reads))
view me from taken tells h t (ReturnsNone k e c x f) s = same from _ _ _ _ _ _ x e f (by_hearing c)
  where
    by_hearing : (k ≡ None) ⊎ ((k ≡ Some (heard_share from)) × (tells ≡ true)) → View from (Some Recalls) None record { after = k; sends = send from Returns ∷ [] }
    by_hearing (inl z) = rw z (view_returns from None None refl refl (λ x. refl) (λ x. refl))
    by_hearing (inr z) = rw z.0 (view_returns from None (Some (heard_share from)) refl refl (λ x. refl) (λ x. refl))
view me from taken tells h t (ReturnsNow b parent e r d test x f) s =
    same from _ _ _ _ _ _ x e f (view_returns from (Some b) (Some (without_copy b.part)) refl refl (λ x. refl) (λ x. refl))
view me from taken tells h t (ReturnsLater b parent e r d c test x f) s = same from _ _ _ _ _ _ x e f (view_returns_later from b d)
view me from taken tells h t (GetsBack b e r waited x f) s =
    let sound : IsSound b = subst IsSoundIf e s in
    same from _ _ _ _ _ _ x e f (view_gets_back from b (λ x. times-once x b.part.waiting sound.waiting_rises))
