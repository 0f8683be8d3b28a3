-- Transitions of a token by a node that has an entry leave one, make no copy but by a grant, and grant only where the
-- node serves.
use Rattle.std.proofs.Common.{◌≡◌, ◌⊎◌, inl, inr, ℕ, refl, sym, Bool, true, false, cond, List, [], ◌∷◌}
use Rattle.std.specs.Prelude.{Option, Some, None, is_some}
use Rattle.bmx_types.specs.declared.numbers.Mode.{Mode}
use Rattle.bmx_token.specs.declared.parts.Part.{Part}
use Rattle.bmx_token.specs.declared.answers.Acquire.{Acquire}
use Rattle.bmx_token.specs.declared.answers.Acquire.TheVariants as acquire_is
use Rattle.bmx_token.specs.declared.answers.Release.{Release}
use Rattle.bmx_token.specs.declared.answers.Release.TheVariants as release_is
use Rattle.bmx_token.specs.declared.answers.Served.{Served}
use Rattle.bmx_token.specs.declared.answers.Served.TheVariants as served_is
use Rattle.bmx_token.specs.declared.answers.Requested.{Requested}
use Rattle.bmx_token.specs.declared.answers.Requested.TheVariants as requested_is
use Rattle.bmx_token.specs.declared.answers.Revoked.{Revoked}
use Rattle.bmx_token.specs.declared.answers.Revoked.TheVariants as revoked_is
use Rattle.bmx_token.specs.Tokens.{acquire, release, serve, request, granted, inval, ack}
use Rattle.bmx_token.specs.Transitions.{Share, Note, Asks, Grants, Recalls, Returns, Send, Transition, Operation, Acquires, Releases, Serves, acquired, released, served, transition_of, requested, grant_taken, recalled, returned, note_transition}
use Rattle.bmx_token_model.specs.Machine.{is_grant}
use Rattle.bmx_protocol.specs.declared.views.ViewField.{ViewField}
use Rattle.bmx_protocol.specs.Nodes.{Known, share_of}
use Rattle.bmx_protocol.specs.Rules.{with_share}

-- a transition, where there is one, leaves an entry, with a copy only if there was one
abbrev pub IsCopied : Bool → Option Transition → Type 0
IsCopied copy None = Unit {0}
IsCopied copy (Some t) = (h : Share) × (t.after ≡ Some h) × ((h.copy ≡ copy) ⊎ (h.copy ≡ false))

acquired_copied : (me : ℕ) (m : Mode) (h : Share) (p : Part) (r : Acquire) → IsCopied h.copy (acquired me m h p r)
acquired_copied me m h p acquire_is.Held = (_, refl, inl refl)
acquired_copied me m h p (acquire_is.Asks parent) = (_, refl, inl refl)
acquired_copied me m h p acquire_is.Waits = (_, refl, inl refl)
acquired_copied me m h p acquire_is.Refused = tt

released_copied : (h : Share) (p : Part) (r : Release) → IsCopied h.copy (released h p r)
released_copied h p release_is.Free = (_, refl, inl refl)
released_copied h p (release_is.Answers owner) = (_, refl, inr refl)
released_copied h p release_is.Refused = tt

served_copied : (h : Share) (p : Part) (r : Served) → IsCopied h.copy (served h p r)
served_copied h p served_is.Idle = tt
served_copied h p served_is.Ready = (_, refl, inl refl)
served_copied h p (served_is.Read asker) = (_, refl, inl refl)
served_copied h p (served_is.Revokes nodes) = (_, refl, inl refl)
served_copied h p (served_is.Moves to rest) = (_, refl, inr refl)

pub act_copied : (me : ℕ) (a : Operation) (h : Share) → IsCopied h.copy (transition_of me a h)
act_copied me (Acquires m) h = acquired_copied me m h (acquire me h.part m h.copy).0 (acquire me h.part m h.copy).1
act_copied me Releases h = released_copied h (release h.part).0 (release h.part).1
act_copied me Serves h = served_copied h (serve me h.part).0 (serve me h.part).1

-- by a note: a grant brings a copy
abbrev pub copy_by : Note → Bool → Bool
copy_by (Asks m asker) copy = copy
copy_by (Grants m) copy = true
copy_by Recalls copy = copy
copy_by Returns copy = copy

pub note_copied : (me from : ℕ) (n : Note) (h : Share) → IsCopied (copy_by n h.copy) (note_transition me from n (Some h))
note_copied me from (Asks m asker) h = by_answer (request me h.part asker m).0 (request me h.part asker m).1
  where
    by_answer : (p : Part) (r : Requested) → IsCopied h.copy (requested m asker h p r)
    by_answer p requested_is.Queued = (_, refl, inl refl)
    by_answer p (requested_is.Forward parent) = (_, refl, inl refl)
    by_answer p requested_is.Stray = tt
note_copied me from (Grants m) h = by_answer (granted h.part from m).0 (granted h.part from m).1
  where
    by_answer : (p : Part) (r : Bool) → IsCopied true (grant_taken p r)
    by_answer p true = (_, refl, inl refl)
    by_answer p false = tt
note_copied me from Recalls h = by_answer (inval h.part from h.copy).0 (inval h.part from h.copy).1
  where
    by_answer : (p : Part) (r : Option Revoked) → IsCopied h.copy (recalled from h p r)
    by_answer p None = tt
    by_answer p (Some revoked_is.Now) = (_, refl, inr refl)
    by_answer p (Some revoked_is.AtRelease) = (_, refl, inl refl)
note_copied me from Returns h = by_answer (ack h.part from).0 (ack h.part from).1
  where
    by_answer : (p : Part) (r : Bool) → IsCopied h.copy (returned h p r)
    by_answer p true = (_, refl, inl refl)
    by_answer p false = tt

-- what is then known is seen as what the transition leaves
pub share_again : (k : Known) (fields : Option (List ViewField)) (h : Share) → (h.copy ≡ is_some fields) ⊎ (h.copy ≡ false) → share_of (with_share k fields h) ≡ h
share_again k fields h kept = λ i. record { copy = by_kept kept i; part = h.part }
  where
    same : (b : Bool) (f : Option (List ViewField)) → b ≡ is_some f → is_some (cond b f None) ≡ b
    same true f e = sym e
    same false f e = refl

    none : (b : Bool) (f : Option (List ViewField)) → b ≡ false → is_some (cond b f None) ≡ b
    none true f e = absurd cc
    none false f e = refl

    by_kept : (h.copy ≡ is_some fields) ⊎ (h.copy ≡ false) → is_some (cond h.copy fields None) ≡ h.copy
    by_kept (inl e) = same h.copy fields e
    by_kept (inr e) = none h.copy fields e

-- ## what a transition says

-- no note is a grant
abbrev pub NoGrants : List Send → Type 0
NoGrants [] = Unit {0}
NoGrants (n ∷ sends) = (is_grant n.note ≡ false) × NoGrants sends

abbrev pub GrantsNothing : Option Transition → Type 0
GrantsNothing None = Unit {0}
GrantsNothing (Some t) = NoGrants t.sends

-- who takes a note grants nothing
pub note_grants : (me from : ℕ) (n : Note) (h : Option Share) → GrantsNothing (note_transition me from n h)
note_grants me from (Asks m asker) None = tt
note_grants me from (Asks m asker) (Some h) = by_answer (request me h.part asker m).0 (request me h.part asker m).1
  where
    by_answer : (p : Part) (r : Requested) → GrantsNothing (requested m asker h p r)
    by_answer p requested_is.Queued = tt
    by_answer p (requested_is.Forward parent) = (refl, tt)
    by_answer p requested_is.Stray = tt
note_grants me from (Grants m) None = tt
note_grants me from (Grants m) (Some h) = by_answer (granted h.part from m).0 (granted h.part from m).1
  where
    by_answer : (p : Part) (r : Bool) → GrantsNothing (grant_taken p r)
    by_answer p true = tt
    by_answer p false = tt
note_grants me from Recalls None = (refl, tt)
note_grants me from Recalls (Some h) = by_answer (inval h.part from h.copy).0 (inval h.part from h.copy).1
  where
    by_answer : (p : Part) (r : Option Revoked) → GrantsNothing (recalled from h p r)
    by_answer p None = tt
    by_answer p (Some revoked_is.Now) = (refl, tt)
    by_answer p (Some revoked_is.AtRelease) = tt
note_grants me from Returns None = tt
note_grants me from Returns (Some h) = by_answer (ack h.part from).0 (ack h.part from).1
  where
    by_answer : (p : Part) (r : Bool) → GrantsNothing (returned h p r)
    by_answer p true = tt
    by_answer p false = tt
