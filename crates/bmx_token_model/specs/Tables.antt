-- Tables: a node tells another whether it asks it for the object, and how many letters it has sent it and taken
-- from it, so that the other may clear its record. A table may be lost, or be taken late and more than once.
use Rattle.std.specs.Prelude.{◌≡◌, ℕ, ◌≤◌, ◌==◌, Bool, false, List, [], ◌∷◌, ◌++◌, Contains, Option, Some, None}
use Rattle.bmx_types.specs.Updates.{put_at}
use Rattle.bmx_token.specs.declared.parts.Role.{Role}
use Rattle.bmx_token.specs.declared.parts.Role.TheVariants.{Owner, Parent}
use Rattle.bmx_token.specs.Transitions.{Share}
use Rattle.bmx_token_model.specs.Machine.{Numbers, Object, Step, IsIdle, with_holding}
use Rattle.bmx_token_model.specs.Machine as machine

-- how many letters a node had sent another and taken from it, and whether it asked it for the object
pub record Table : Type 0 where
  pub sent : ℕ
  pub got : ℕ
  pub lists : Bool

-- the object, and the tables that one node made for another, in order
pub record Tabled : Type 0 where
  pub object : Object
  pub tables : ℕ → ℕ → List Table

-- whether a node asks another for the object
abbrev pub looks_as : Role → ℕ → Bool
looks_as Owner n = false
looks_as (Parent p) n = p == n

abbrev pub looks_to : Option Share → ℕ → Bool
looks_to None n = false
looks_to (Some h) n = looks_as h.part.role n

-- a step neither forgets nor clears
abbrev pub IsPlain : {o p : Object} → Step o p → Type 0
IsPlain (machine.Makes me nowhere e) = Unit {0}
IsPlain (machine.Does me refers a h t has is e) = Unit {0}
IsPlain (machine.Receives from me l rest t apart channel is e) = Unit {0}
IsPlain (machine.Writes me to tells told e) = Unit {0}
IsPlain (machine.Forgets me h has unneeded e) = ⊥
IsPlain (machine.Clears me other unneeded e) = ⊥

-- a node may forget what it has: nothing happens about its token there, and it has no record of another node
pub record MayForget (o : Object) (me : ℕ) (h : Share) : Type 0 where
  pub has : o.holds me ≡ Some h
  pub idle : IsIdle h.part
  pub no_record : (m : ℕ) → o.entering me m ≡ None

-- node n may clear its record of node m by a table that m made for it: the table isn't early, doesn't list the
-- object, and speaks of all the letters that the record has
pub record MayClear (s : Tabled) (n m : ℕ) : Type 0 where
  pub table : Table
  pub numbers : Numbers
  pub made : Contains (s.tables m n) table
  pub unlisted : table.lists ≡ false
  pub has : s.object.entering n m ≡ Some numbers
  pub taken : table.sent ≤ s.object.taken n m
  pub sent : numbers.sent ≤ table.got
  pub got : numbers.got ≤ table.sent

-- one step, with tables
pub data TableStep (s t : Tabled) : Type 0 where
  Moves : (step : Step s.object t.object) → IsPlain step → t.tables ≡ s.tables → TableStep s t
  Forgets : (me : ℕ) (h : Share) → MayForget s.object me h → t.object ≡ with_holding s.object me None → t.tables ≡ s.tables → TableStep s t
  -- node m makes a table for node n
  Tabulates : (m n : ℕ) → t.object ≡ s.object →
      t.tables ≡ put_at s.tables m n
      (s.tables m n ++ record { sent = s.object.issued m n; got = s.object.taken m n; lists = looks_to (s.object.holds m) n } ∷ []) →
      TableStep s t
  Clears : (n m : ℕ) → MayClear s n m → t.object ≡ record (s.object) { entering = put_at s.object.entering n m None } → t.tables ≡ s.tables → TableStep s t

-- steps one after another
pub data TableRun (s : Tabled) : Tabled → Type 0 where
  Stays : TableRun s s
  Goes : {t u : Tabled} → TableRun s t → TableStep t u → TableRun s u

-- the object as it opens, before any table
abbrev pub untabled : Object → Tabled
untabled o = record { object = o; tables = λ m n. [] }
