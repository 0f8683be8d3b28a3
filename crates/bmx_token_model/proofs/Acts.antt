-- What a node's transitions come to, one case for each outcome: what it took of a letter, what it has before and
-- after, and what it sends.
use Rattle.std.proofs.Common.{◌≡◌, ◌≢◌, ◌⊎◌, ℕ, List, [], ◌∷◌, ◌++◌, map, Bool, true, false}
use Rattle.std.specs.Prelude.{◌==◌, ◌||◌, is_some, Option, Some, None}
use Rattle.std.specs.List.{list_any}
use Rattle.bmx_types.specs.declared.numbers.Mode.{Mode}
use Rattle.bmx_types.specs.declared.numbers.Mode.TheVariants.{Read, Write}
use Rattle.bmx_token.specs.declared.parts.Ask.{Ask}
use Rattle.bmx_token.specs.declared.parts.Role.TheVariants.{Owner, Parent}
use Rattle.bmx_token.specs.declared.parts.Part.{Part}
use Rattle.bmx_token.specs.Nodes.{nodes_with, nodes_without}
use Rattle.bmx_token.specs.Tokens.{is_write}
use Rattle.bmx_token.specs.Transitions.{Share, Note, Asks, Grants, Recalls, Returns, send, Transition, silently, saying, with_token, with_copy, without_copy, heard_share}

-- node me's token changes, and nothing is said or taken
pub data Alters (me : ℕ) (copy : Bool) (p q : Part) : Type 0 where
  TakesWanted : (m : Mode) → p.held ≡ None → p.want ≡ Some m → p.ready ≡ true → q ≡ record p { held = Some m; want = None; ready = false } →
      Alters me copy p q
  Reads : (p.role ≡ Owner) ⊎ (copy ≡ true) → p.held ≡ None → p.want ≡ None → q ≡ record p { held = Some Read } → Alters me copy p q
  Writes : p.role ≡ Owner → p.held ≡ None → p.readers ≡ [] → q ≡ record p { held = Some Write } → Alters me copy p q
  Joins : p.role ≡ Owner → p.want ≡ None → q ≡ record p { want = Some Write; queue = p.queue ++ record { asker = me; mode = Write } ∷ [] } →
      Alters me copy p q
  Frees : (m : Mode) → p.held ≡ Some m → p.due ≡ None → q ≡ record p { held = None } → Alters me copy p q
  Readies : (rest : List Ask) → p.role ≡ Owner → p.readers ≡ [] → p.queue ≡ record { asker = me; mode = Write } ∷ rest →
      q ≡ record p { queue = rest; ready = true } → Alters me copy p q

-- node me takes a letter from another, with a note or none, which tells it of the object or doesn't, or nothing;
-- from what it has it makes a transition
pub data Acts (me from : ℕ) (taken : Option Note) (tells : Bool) (h : Option Share) (t : Transition) : Type 0 where
  Rests : taken ≡ None → t ≡ record { after = h; sends = [] } → Acts me from taken tells h t
  Hears : h ≡ None → tells ≡ true → taken ≡ None → t ≡ silently (heard_share from) → Acts me from taken tells h t
  AltersTo : (b : Share) (q : Part) → h ≡ Some b → Alters me b.copy b.part q → taken ≡ None → t ≡ silently (with_token b q) →
      Acts me from taken tells h t
  Wants : (b : Share) (n : Mode) (parent : ℕ) → h ≡ Some b → b.part.role ≡ Parent parent → b.part.held ≡ None → b.part.want ≡ None → taken ≡ None →
      t ≡ saying (with_token b record b.part { want = Some n }) (send parent (Asks n me) ∷ []) → Acts me from taken tells h t
  Answers : (b : Share) (owner : ℕ) (held : Mode) → h ≡ Some b → b.part.held ≡ Some held → b.part.due ≡ Some owner → taken ≡ None →
      t ≡ saying (without_copy record b.part { held = None; due = None }) (send owner Returns ∷ []) → Acts me from taken tells h t
  GrantsRead : (b : Share) (asker : ℕ) (rest : List Ask) → h ≡ Some b → b.part.role ≡ Owner →
      b.part.queue ≡ record { asker = asker; mode = Read } ∷ rest → (is_write b.part.held || b.part.ready) ≡ false → taken ≡ None →
      t ≡ saying (with_token b record b.part { queue = rest; readers = nodes_with asker b.part.readers }) (send asker (Grants Read) ∷ []) →
      Acts me from taken tells h t
  HandsOver : (b : Share) (asker : ℕ) (rest : List Ask) → h ≡ Some b → b.part.role ≡ Owner → b.part.readers ≡ [] →
      b.part.queue ≡ record { asker = asker; mode = Write } ∷ rest → asker ≢ me → (is_some b.part.held || b.part.ready) ≡ false → taken ≡ None →
      t ≡ saying (without_copy record b.part { role = Parent asker; queue = [] })
      (send asker (Grants Write) ∷ map (λ (a : Ask). send asker (Asks a.mode a.asker)) rest) →
      Acts me from taken tells h t
  Revokes : (b : Share) (asker : ℕ) (rest : List Ask) → h ≡ Some b → b.part.role ≡ Owner →
      b.part.queue ≡ record { asker = asker; mode = Write } ∷ rest → b.part.waiting ≡ [] → taken ≡ None →
      t ≡ saying (with_token b record b.part { waiting = b.part.readers }) (map (λ n. send n Recalls) b.part.readers) → Acts me from taken tells h t
  Arrives : (b : Share) (n : Mode) (asker : ℕ) → h ≡ Some b → b.part.role ≡ Owner → asker ≢ me → taken ≡ Some (Asks n asker) →
      t ≡ silently (with_token b record b.part { queue = b.part.queue ++ record { asker = asker; mode = n } ∷ [] }) → Acts me from taken tells h t
  Forwards : (b : Share) (n : Mode) (asker parent : ℕ) → h ≡ Some b → b.part.role ≡ Parent parent → taken ≡ Some (Asks n asker) →
      t ≡ saying b (send parent (Asks n asker) ∷ []) → Acts me from taken tells h t
  GetsRead : (b : Share) (parent : ℕ) → h ≡ Some b → b.part.role ≡ Parent parent → b.part.want ≡ Some Read → b.part.ready ≡ false →
      taken ≡ Some (Grants Read) → t ≡ silently (with_copy record b.part { role = Parent from; ready = true }) → Acts me from taken tells h t
  GetsWrite : (b : Share) (parent : ℕ) → h ≡ Some b → b.part.role ≡ Parent parent → b.part.want ≡ Some Write → b.part.ready ≡ false →
      taken ≡ Some (Grants Write) →
      t ≡ silently (with_copy record b.part { role = Owner; ready = true; readers = []; queue = []; waiting = [] }) → Acts me from taken tells h t
  ReturnsNone : (k : Option Share) → h ≡ None → (k ≡ None) ⊎ ((k ≡ Some (heard_share from)) × (tells ≡ true)) → taken ≡ Some Recalls →
      t ≡ record { after = k; sends = send from Returns ∷ [] } → Acts me from taken tells h t
  ReturnsNow : (b : Share) (parent : ℕ) → h ≡ Some b → b.part.role ≡ Parent parent → b.part.due ≡ None →
      (b.copy ≡ false) ⊎ ((is_some b.part.held || b.part.ready) ≡ false) → taken ≡ Some Recalls →
      t ≡ saying (without_copy b.part) (send from Returns ∷ []) → Acts me from taken tells h t
  ReturnsLater : (b : Share) (parent : ℕ) → h ≡ Some b → b.part.role ≡ Parent parent → b.part.due ≡ None → b.copy ≡ true →
      (is_some b.part.held || b.part.ready) ≡ true → taken ≡ Some Recalls →
      t ≡ silently (with_token b record b.part { due = Some from }) → Acts me from taken tells h t
  GetsBack : (b : Share) → h ≡ Some b → b.part.role ≡ Owner → list_any (λ node. node == from) b.part.waiting ≡ true → taken ≡ Some Returns →
      t ≡ silently (with_token b record b.part { waiting = nodes_without from b.part.waiting; readers = nodes_without from b.part.readers }) →
      Acts me from taken tells h t
