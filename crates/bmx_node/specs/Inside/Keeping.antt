-- What a node keeps, whatever letters it takes.
use Rattle.std.specs.Prelude.{◌≡◌, ℕ, ◌+◌, ◌^◌, ◌<◌, ◌≤◌, ◌||◌, true, false, Option, Some, None, is_some, IsSome}
use Rattle.std.specs.Option.{option_map_or}
use Rattle.bmx_types.specs.Words.{name_word, anchor_of}
use Rattle.bmx_token.specs.declared.parts.Part.{Part}
use Rattle.bmx_token.specs.Tokens.{IsInOrder}
use Rattle.bmx_token.specs.declared.parts.Role.TheVariants.{Owner}
use Rattle.bmx_tokens.specs.Tables.{part_of}
use Rattle.bmx_memory.specs.Shown.{Object, shown}
use Rattle.bmx_node.specs.declared.holdings.Holdings.{Holdings}
use Rattle.bmx_node.specs.Seen.{limit_of}

-- nothing is wanted where a token is held, an answer is due only where one is held or ready, and an owner
-- owes none
pub record IsFair (p : Part) : Type 0 where
  pub wants : is_some p.held ≡ true → p.want ≡ None
  pub owes : is_some p.due ≡ true → (is_some p.held || p.ready) ≡ true
  pub owner : p.role ≡ Owner → p.due ≡ None

-- so it is, and readers and waiting nodes stand in rising order
pub record IsFit (p : Part) : Type 0 where
  pub fair : IsFair p
  pub ordered : IsInOrder p

-- the objects and the tokens of names go together: a name has both or none, an owner has a copy, and no name to
-- come has any
pub record Agree (me made bunches : ℕ) (object : ℕ → Option Object) (part : ℕ → Option Part) : Type 0 where
  pub same : (name : ℕ) → is_some (part name) ≡ is_some (object name)
  pub fit : (name : ℕ) (p : Part) → part name ≡ Some p → IsFit p
  pub owners : (name : ℕ) (p : Part) → part name ≡ Some p → p.role ≡ Owner → option_map_or (λ (o : Object). is_some o.copy) (object name) false ≡ true
  pub fresh : (count : ℕ) → made < count → count < 2 ^ 56 → object (name_word me count) ≡ None
  pub anchors : (bunch : ℕ) → bunch < bunches → IsSome (object (anchor_of bunch))

-- what holdings keep, also where a step made a name and isn't counted yet
pub record Keeps (h : Holdings) : Type 0 where
  pub me : (shown h.memory).me ≡ h.me
  pub tokens : h.tokens.me ≡ h.me
  pub few : h.made ≤ h.clock + 320001
  pub agree : Agree h.me h.made h.store.bunches (shown h.memory).object (part_of h.tokens)

-- which node it is, of which store, and its limit stay
pub record Frame (old new : Holdings) : Type 0 where
  pub me : new.me ≡ old.me
  pub store : new.store ≡ old.store
  pub limit : limit_of new ≡ limit_of old
  pub clock : new.clock ≡ old.clock
